-- Some of the whole bytes of groups, by the groups that hold their bits. Assumes nothing.
use mathlib.Core.List.{List}
use mathlib.Core.Path.{◌≡◌, sym, ap, ◌∙◌}
use Prim.Native.Nat.{ℕ, ◌+◌, ◌-◌, ◌*◌, ◌/◌, ◌%◌, ◌^◌, ◌≤◌, ◌<◌}
use native.Mathlib.Nat.{one-mul}
use native.Mathlib.Omega.{arith}
use lib.Dec.{lit<}
use lib.ListN.{length, take, drop, length-drop, take-append-drop}
use lib.Pow.{high, low, field, mod-mod-pow, shr-shr, shl_exact}
use lib.Seq.{take-add, take_at, drop_at}
use Rattle.bech32.proofs.GroupLaws.{number_below, number_append, take_groups, drop_groups}
use Rattle.bech32.specs.Groups.{AreGroups, number, bytes_of}
use Rattle.laws.proofs.Digits.{length_digits, to_append, from_to}
use Rattle.laws.proofs.Lists.{length_part}
use Rattle.laws.specs.Digits.{from_bytes, to_bytes}

-- w bits of a number that stand s bits above its end, by the j + w + s bits at its end
low_bits : (j w s a p : ℕ) → p < 2 ^ (j + (w + s)) → (a * 2 ^ (j + (w + s)) + p) / 2 ^ s % 2 ^ w ≡ p / 2 ^ s % 2 ^ w
low_bits j w s a p h =
    let n = a * 2 ^ (j + (w + s)) + p in
    let same : n % 2 ^ (w + s) ≡ p % 2 ^ (w + s) =
    sym (mod-mod-pow n j (w + s)) ∙ ap (λ (x : ℕ). x % 2 ^ (w + s)) (low a (j + (w + s)) h) in
    sym (field n w s) ∙ ap (λ (x : ℕ). x / 2 ^ s) same ∙ field p w s

module _ (gs : List ℕ) where
  -- without the groups behind the first i
  number_front : AreGroups gs → (i : ℕ) → number gs / 2 ^ (5 * length (drop i gs)) ≡ number (take i gs)
  number_front h i =
      ap (λ (l : List ℕ). number l / 2 ^ (5 * length (drop i gs))) (sym (take-append-drop i gs))
      ∙ ap (λ (x : ℕ). x / 2 ^ (5 * length (drop i gs))) (number_append (take i gs) (drop i gs))
      ∙ high (number (take i gs)) (5 * length (drop i gs)) (number_below (drop i gs) (drop_groups i gs h))

  -- w bits that stand s bits above the end of c groups from group f on
  number_part : AreGroups gs → (f c s w : ℕ) → f + c ≤ length gs → s + w ≤ 5 * c →
      number gs / 2 ^ (5 * (length gs - (f + c)) + s) % 2 ^ w ≡ number (take c (drop f gs)) / 2 ^ s % 2 ^ w
  number_part h f c s w inside fits =
      let p = take c (drop f gs) in
      let j = 5 * c - (w + s) in
      let spread : 5 * length p ≡ j + (w + s) = omega (arith, length_part gs f c inside) in
      let below : number p < 2 ^ (j + (w + s)) = rw spread at (number_below p (take_groups c (drop f gs) (drop_groups f gs h))) in
      ap (λ (x : ℕ). x % 2 ^ w)
      (sym (shr-shr (number gs) (5 * (length gs - (f + c))) s)
      ∙ ap (λ (x : ℕ). x / 2 ^ s) ((rw (length-drop (f + c) gs) at (number_front h (f + c))) ∙ ap number (take-add f c gs) ∙ number_append (take f gs) p ∙ ap (λ (x : ℕ). number (take f gs) * 2 ^ x + number p) spread))
      ∙ low_bits j w s (number (take f gs)) (number p) below

  -- n bytes from byte `at` on
  bytes_part : (at n : ℕ) → 8 * (at + n) ≤ 5 * length gs → take n (drop at (bytes_of gs)) ≡ to_bytes n (number gs / 2 ^ (5 * length gs - 8 * (at + n)))
  unfolding bytes_of
  bytes_part at n inside =
      let bits = 5 * length gs in
      let t = bits / 8 - (at + n) in
      let v = number gs / 2 ^ (bits % 8) in
      let count : bits / 8 ≡ at + (n + t) = omega arith in
      let over : bits % 8 + 8 * t ≡ bits - 8 * (at + n) = omega arith in
      ap (λ (m : ℕ). take n (drop at (to_bytes m v))) count
      ∙ ap (λ (l : List ℕ). take n (drop at l)) (to_append 8 at (n + t) v)
      ∙ ap (take n) (drop_at (to_bytes at (v / 2 ^ (8 * (n + t)))) (to_bytes (n + t) v) at (length_digits 8 at (v / 2 ^ (8 * (n + t)))))
      ∙ ap (take n) (to_append 8 n t v)
      ∙ take_at (to_bytes n (v / 2 ^ (8 * t))) (to_bytes t v) n (length_digits 8 n (v / 2 ^ (8 * t)))
      ∙ ap (to_bytes n) (shr-shr (number gs) (bits % 8) (8 * t) ∙ ap (λ (x : ℕ). number gs / 2 ^ x) over)

  -- their number, by c groups from group f on that hold their bits, with s bits behind them
  pub bytes_number : AreGroups gs → (at n f c s : ℕ) → f + c ≤ length gs → 5 * f ≤ 8 * at → 5 * (f + c) ≡ 8 * (at + n) + s →
      from_bytes (take n (drop at (bytes_of gs))) ≡ number (take c (drop f gs)) / 2 ^ s % 2 ^ (8 * n)
  bytes_number h at n f c s inside begin end =
      let above : 5 * length gs - 8 * (at + n) ≡ 5 * (length gs - (f + c)) + s = omega arith in
      ap from_bytes (bytes_part at n (omega arith))
      ∙ from_to 8 n (number gs / 2 ^ (5 * length gs - 8 * (at + n)))
      ∙ ap (λ (x : ℕ). number gs / 2 ^ x % 2 ^ (8 * n)) above
      ∙ number_part h f c s (8 * n) inside (omega arith)

-- `1 << k` at 64 bits
pub one_shifted : (k : ℕ) → k < 64 → 1 * 2 ^ k % 2 ^ 64 ≡ 2 ^ k
one_shifted k h = shl_exact 1 k 64 (lit< tt) (omega arith) ∙ one-mul (2 ^ k)
