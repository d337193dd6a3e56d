-- Amounts and conversions computed from the definitions. Assumes nothing.
use Rattle.std.specs.Prelude.{Ok, Err}
use mathlib.Core.Path.{◌≡◌, refl}
use mathlib.Core.List.{List, [], ◌∷◌, map}
use Prim.Native.Char.{code}
use Prim.Native.Nat.{ℕ}
use Prim.Native.String.{String}
use Prim.Native.String as Text
use Rattle.letters.specs.Letters.{lower}
use Rattle.laws.specs.Test.{pick}
use Rattle.answer.specs.Answer.{Answer, bare, ensure, ◌>>=◌}
use Rattle.money.specs.Amount.{digit_count, from_decimal, tenth, scaled, capped, valued, amounting}
use Rattle.money.specs.Units.{msat, sat, to_sat}
use Rattle.money.specs.declared.Msat.{Msat}

-- the codes of a text's characters
abbrev pub codes : String → List ℕ
codes Text.[] = []
codes (Text.◌∷◌ c s) = code c ∷ codes s

-- the answer to a text, as the contract of `read_amount` has it; to unfold it is to compute with all the definitions
unfoldable pub answered : String → Answer Msat
unfolding lower pick ensure ◌>>=◌ digit_count from_decimal tenth scaled capped valued amounting
answered s = amounting (map lower (codes s))

-- a text and its millisatoshis
pub accepted_amounts :
    let lines : List (String × ℕ) =
    ("2500u", 250_000_000)
    ∷ ("20m", 2_000_000_000)
    ∷ ("20M", 2_000_000_000)
    ∷ ("1", 100_000_000_000)
    ∷ ("1n", 100)
    ∷ ("10p", 1)
    ∷ ("10P", 1)
    ∷ ("21000000", 2_100_000_000_000_000_000)
    ∷ ("21000000000000000n", 2_100_000_000_000_000_000)
    ∷ ("9999999999999999990p", 999_999_999_999_999_999)
    ∷ [] in
    map (λ l. answered l.0) lines ≡ map (λ l. Ok (msat l.1)) lines
unfolding answered
accepted_amounts = refl

-- texts that are no amount
pub refused_amounts :
    let texts : List String =
    "" ∷ "0" ∷ "01" ∷ "0m" ∷ "m" ∷ "5x" ∷ "5mm" ∷ "5m5" ∷ "-5" ∷ " 5" ∷ "21000001" ∷ "21000000000000001n"
    ∷ "2100000000000000000n" ∷ "9999999999999999999" ∷ "10000000000000000000p" ∷ [] in
    map answered texts ≡ map (λ _. Err (bare 37)) texts
unfolding answered
refused_amounts = refl

-- tenths of a millisatoshi: the till's 15p and 5p, and their like
pub refused_tenths :
    let texts : List String =
    "1p" ∷ "2p" ∷ "3p" ∷ "4p" ∷ "5p" ∷ "6p" ∷ "7p" ∷ "8p" ∷ "9p" ∷ "11p" ∷ "15p" ∷ "15P" ∷ "9999999999999999999p" ∷ [] in
    map answered texts ≡ map (λ _. Err (bare 37)) texts
unfolding answered
refused_tenths = refl

pub conversions :
    map to_sat (msat 0 ∷ msat 1 ∷ msat 999 ∷ msat 250_000_000 ∷ msat 18_446_744_073_709_551_000 ∷ [])
    ≡ Ok (sat 0) ∷ Err (bare 43) ∷ Err (bare 43) ∷ Ok (sat 250_000) ∷ Ok (sat 18_446_744_073_709_551) ∷ []
unfolding to_sat ensure ◌>>=◌
conversions = refl
