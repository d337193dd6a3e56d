-- The units of money, and how one becomes the other: document 01, "Invoices" and "The refusal list". Assumes nothing.
use Rattle.std.specs.Prelude.{ℕ, ◌/◌, ◌%◌, eqb, Ok}
use Rattle.answer.specs.Answer.{Answer, bare, ensure, ◌>>=◌}
use Rattle.money.specs.declared.Msat.{Msat}
use Rattle.money.specs.declared.Sat.{Sat}

-- a count of millisatoshis, and one of satoshis
abbrev pub msat : (count : ℕ) → Msat
msat n = record { 0 = n }

abbrev pub sat : (count : ℕ) → Sat
sat n = record { 0 = n }

-- A millisatoshi count becomes a satoshi count only when it divides by 1,000, else 43.
unfoldable pub to_sat : Msat → Answer Sat
to_sat m = do
  _ ← ensure (eqb (m.0 % 1000) 0) (bare 43)
  Ok (sat (m.0 / 1000))
