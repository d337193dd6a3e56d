-- Digits of one width written as digits of another, from the highest bit on, turn by turn. Assumes nothing.
use Rattle.std.proofs.Common.{◌≡◌, ℕ, suc, ◌+◌, ◌-◌, ◌*◌, ◌/◌, ◌%◌, ◌^◌, ◌<◌, ◌≤◌, List, ◌∷◌, ◌++◌, map, length, get_or, take, drop, set, sym, refl, ap, ◌∙◌, ap₂, add_comm, mul-zero, mul-suc, add-one, arith, length-append, length-drop, drop-cons, shr-shr}
use lib.ListN.{length-map}
use lib.Pow.{high, field, mod-mod-pow}
use lib.Seq.{set_at, append_snoc}
use Rattle.laws.specs.Digits.{from_digits, to_digits}
use Rattle.laws.proofs.Digits.{length_digits, to_last, from_turn}
use Rattle.std.proofs.lemmas.List.{get_or-map}
use Rattle.bech32.proofs.NumberLaws.{number_turn}

-- w bits of a number, k bits above its end, seen in its low 64 bits
seen : (n w k : ℕ) → k + w ≤ 64 → n % 2 ^ 64 / 2 ^ k % 2 ^ w ≡ n / 2 ^ k % 2 ^ w
seen n w k h =
    let j = 64 - k - w in
    let e : 64 ≡ j + w + k = omega arith in
    ap (λ (x : ℕ). n % 2 ^ x / 2 ^ k % 2 ^ w) e ∙ ap (λ (x : ℕ). x % 2 ^ w) (field n (j + w) k) ∙ mod-mod-pow (n / 2 ^ k) j w

-- The digits that f makes of s, `from` bits each, are read one by one, and digits of `to` bits each written to the front of an output.
module _ (from to : ℕ) (f : ℕ → ℕ) (s out₀ : List ℕ) where
  -- i of them are read and m are written; `bits` bits are left for the next one, in `held`
  pub record Regrouping (out : List ℕ) (held bits m i : ℕ) : Type 0 where
    pub read : i ≤ length s
    pub place : m ≤ length out₀
    pub spread : from * i ≡ to * m + bits
    pub number : held ≡ from_digits from (take i (map f s)) % 2 ^ 64
    pub written : out ≡ to_digits to m (from_digits from (take i (map f s)) / 2 ^ bits) ++ drop m out₀

  pub start : Regrouping out₀ 0 0 0 0
  unfolding from_digits to_digits
  start = record { read = omega arith; place = omega arith; spread = rw (mul-zero from, mul-zero to); number = refl; written = refl }

  module _ (out : List ℕ) (held bits m i : ℕ) (r : Regrouping out held bits m i) where
    pub same_length : length out ≡ length out₀
    same_length =
        ap length r.written
        ∙ simp (length-append, length_digits, length-drop) (omega (arith, r.place))

    -- one more is read
    pub took : i < length s → f (get_or s i 0) < 2 ^ from → Regrouping out ((held * 2 ^ from + f (get_or s i 0)) % 2 ^ 64) (bits + from) m (i + 1)
    took h k =
        let n = from_digits from (take i (map f s)) in
        let d = f (get_or s i 0) in
        let more : from_digits from (take (i + 1) (map f s)) ≡ n * 2 ^ from + d =
        from_turn from (map f s) i (omega (arith, length-map s f)) ∙ ap (λ (x : ℕ). n * 2 ^ from + x) (get_or-map f s i 0 0 h) in
        let same : (n * 2 ^ from + d) / 2 ^ (bits + from) ≡ n / 2 ^ bits =
        ap (λ (x : ℕ). (n * 2 ^ from + d) / 2 ^ x) (add_comm bits from) ∙ sym (shr-shr (n * 2 ^ from + d) from bits) ∙ ap (λ (x : ℕ). x / 2 ^ bits) (high n from k) in
        record {
          read = omega arith;
          place = r.place;
          spread = rw (add-one, mul-suc) (omega (arith, r.spread));
          number = number_turn from f s i held h r.number;
          written = r.written ∙ ap (λ (x : ℕ). to_digits to m x ++ drop m out₀) (sym (ap (λ (x : ℕ). x / 2 ^ (bits + from)) more ∙ same));
        }

    -- one more is written
    pub put : (k : ℕ) → bits ≡ k + to → bits ≤ 64 → m < length out₀ → Regrouping (set out m (held / 2 ^ k % 2 ^ to)) held k (m + 1) i
    put k e b h =
        let n = from_digits from (take i (map f s)) in
        let v = n / 2 ^ k in
        let digit : held / 2 ^ k % 2 ^ to ≡ v % 2 ^ to = ap (λ (x : ℕ). x / 2 ^ k % 2 ^ to) r.number ∙ seen n to k (omega arith) in
        let before : n / 2 ^ bits ≡ v / 2 ^ to = ap (λ (x : ℕ). n / 2 ^ x) e ∙ sym (shr-shr n k to) in
        let first = to_digits to m (v / 2 ^ to) in
        let was : out ≡ first ++ get_or out₀ m 0 ∷ drop (suc m) out₀ =
        r.written ∙ ap₂ (λ (x : ℕ) (l : List ℕ). to_digits to m x ++ l) before (drop-cons out₀ m 0 h) in
        record {
          read = r.read;
          place = omega arith;
          spread = rw (add-one, mul-suc) (omega (arith, r.spread, e));
          number = r.number;
          written =
              ap₂ (λ (l : List ℕ) (x : ℕ). set l m x) was digit
              ∙ set_at first (get_or out₀ m 0) (drop (suc m) out₀) (v % 2 ^ to) m (length_digits to m (v / 2 ^ to))
              ∙ sym (append_snoc first (v % 2 ^ to) (drop (suc m) out₀))
              ∙ rw (add-one, to_last to m v);
        }
