-- One group more is put in its place, and all of them are the digits.
use Rattle.std.proofs.Common.{◌≡◌, ℕ, zero, suc, ◌+◌, ◌-◌, ◌*◌, ◌/◌, ◌%◌, ◌^◌, List, ◌∷◌, map, refl, ap, ◌∙◌, ap₂, arith, length-set, get_or-set_other, get_or-set_same, below_more}
use Rattle.std.specs.List.{range_with_len}
use Rattle.std.proofs.lemmas.List.{length-replicate}
use Rattle.std.proofs.lemmas.List.FromFn.{fill_by_all}
use Rattle.laws.specs.Digits.{to_digits}
use Rattle.bech32.proofs.low_groups.Goals as goal

-- the digits from the place a on
spread : (w v end a n : ℕ) → a + n ≡ end → map (λ k. v / 2 ^ (w * (end - 1 - k)) % 2 ^ w) (range_with_len a n) ≡ to_digits w n v
unfolding to_digits
spread w v end a zero h = refl
spread w v end a (suc n) h =
    let e : end - 1 - a ≡ n = omega arith in
    ap₂ {A = ℕ} {B = List ℕ} {C = List ℕ} (λ x l. x ∷ l) (ap (λ k. v / 2 ^ (w * k) % 2 ^ w) e) (spread w v end (a + 1) n (omega arith))

pub loop-i-init : goal.loop-i-init
loop-i-init g c = (length-replicate {A = ℕ} g.row.N 0, λ k h. absurd (omega arith))

pub loop-i-preserved : goal.loop-i-preserved
loop-i-preserved g c =
    let l = c.loop-i in
    let x = c.bits_at.result in (
      length-set l.groups l.i x ∙ l.invariant.0,
      below_more _ _ (λ k h. get_or-set_other l.groups l.i k x 0 (λ e. omega arith) ∙ l.invariant.1 k h)
          (get_or-set_same l.groups l.i x 0 (omega (arith, l.invariant.0)) ∙ c.bits_at.ensures),
    )

pub returns : goal.returns
returns g c =
    let n = g.row.N in
    let v = c.args.n in
    let l = c.loop-i in
    fill_by_all (λ k. v / 2 ^ (5 * (n - 1 - k)) % 2 ^ 5) l.groups n 0 l.invariant.0 (λ k h. l.invariant.1 k (omega arith)) ∙ spread 5 v n 0 n (omega arith)
