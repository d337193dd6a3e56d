-- Laws of groups as numbers and as bytes. Assumes nothing.
use Rattle.std.proofs.Common.{◌≡◌, ℕ, zero, suc, ◌+◌, ◌-◌, ◌*◌, ◌/◌, ◌%◌, ◌^◌, ◌<◌, ◌≤◌, List, [], ◌∷◌, ◌++◌, map, length, take, drop, sym, refl, ap, ◌∙◌, subst, ap₂, lt_of_lt_of_le, add-zero, mod-lt, mod-eq_of_lt, mul_assoc, mul-one, div-one, arith, lit<, length-append, take_all, pow_mono, pow-add, shl_lt}
use lib.Pow.{shl-shr}
use lib.Seq.{take-append_seam}
use Rattle.laws.specs.Digits.{to_digits, AreBytes, from_bytes, to_bytes}
use Rattle.laws.proofs.Test.{by_order}
use Rattle.bech32.specs.Groups.{AreGroups, low5, number, digits, bytes_of, groups_of}
use Rattle.laws.proofs.Digits.{length_digits, digits_are, from_below, from_append, from_one, from_to_whole, to_from, take_digits, drop_digits}

-- a group is its low five bits
pub low5_group : (g : ℕ) → g < 32 → low5 g ≡ g
low5_group g h = mod-eq_of_lt h

pub low5_groups : (s : List ℕ) → AreGroups (map low5 s)
low5_groups [] k = lit< tt
low5_groups (x ∷ s) zero = mod-lt x (lit< tt)
low5_groups (x ∷ s) (suc k) = low5_groups s k

pub low5_same : (gs : List ℕ) → AreGroups gs → map low5 gs ≡ gs
low5_same [] h = refl
low5_same (g ∷ gs) h = rw (low5_group g (h 0), low5_same gs (λ k. h (suc k)))

-- Groups and numbers.

pub digits_groups : (n v : ℕ) → AreGroups (digits n v)
digits_groups n v = digits_are 5 n v

pub length_groups : (n v : ℕ) → length (digits n v) ≡ n
length_groups n v = length_digits 5 n v

pub number_below : (gs : List ℕ) → AreGroups gs → number gs < 2 ^ (5 * length gs)
number_below gs h = from_below 5 gs h

pub number_append : (a b : List ℕ) → number (a ++ b) ≡ number a * 2 ^ (5 * length b) + number b
number_append a b = from_append 5 a b

pub number_digits : (n v : ℕ) → v < 2 ^ (5 * n) → number (digits n v) ≡ v
number_digits n v h = from_to_whole 5 n v h

pub digits_number : (gs : List ℕ) → AreGroups gs → digits (length gs) (number gs) ≡ gs
digits_number gs h = to_from 5 gs h

-- twelve groups fit 64 bits
pub number_fits : (gs : List ℕ) → AreGroups gs → length gs ≤ 12 → number (map low5 gs) % 2 ^ 64 ≡ number gs
number_fits gs h few =
    ap (λ (l : List ℕ). number l % 2 ^ 64) (low5_same gs h)
    ∙ mod-eq_of_lt (lt_of_lt_of_le (number_below gs h) (pow_mono {i = 5 * length gs} {j = 64} (omega arith)))

-- Groups and bytes.

pub length_bytes_of : (gs : List ℕ) → length (bytes_of gs) ≡ 5 * length gs / 8
unfolding bytes_of
length_bytes_of gs = length_digits 8 (5 * length gs / 8) (number gs / 2 ^ (5 * length gs % 8))

pub length_groups_of : (bs : List ℕ) → length (groups_of bs) ≡ (8 * length bs + 4) / 5
unfolding groups_of
length_groups_of bs = length_digits 5 ((8 * length bs + 4) / 5) (from_bytes bs * 2 ^ (5 * ((8 * length bs + 4) / 5) - 8 * length bs))

pub groups_of_groups : (bs : List ℕ) → AreGroups (groups_of bs)
unfolding groups_of
groups_of_groups bs = digits_groups ((8 * length bs + 4) / 5) (from_bytes bs * 2 ^ (5 * ((8 * length bs + 4) / 5) - 8 * length bs))

pub bytes_of_bytes : (gs : List ℕ) → AreBytes (bytes_of gs)
unfolding bytes_of
bytes_of_bytes gs k = digits_are 8 (5 * length gs / 8) (number gs / 2 ^ (5 * length gs % 8)) k

-- the whole bytes, however many bits are left over behind them
pub whole_bytes_of_groups : (gs : List ℕ) (m bits : ℕ) → 5 * length gs ≡ 8 * m + bits → bits < 8 → to_bytes m (number gs / 2 ^ bits) ≡ bytes_of gs
unfolding bytes_of
whole_bytes_of_groups gs m bits e h =
    let count : m ≡ 5 * length gs / 8 = omega arith in
    let over : bits ≡ 5 * length gs % 8 = omega arith in
    ap₂ (λ (a b : ℕ). to_bytes a (number gs / 2 ^ b)) count over

-- bytes with at most one zero byte behind them, of whose bits some are left over
filled_up : (bs : List ℕ) (i bits pad : ℕ) → i ≤ length bs + 1 → 8 * i ≡ 8 * length bs + (pad + bits) →
    from_bytes (take i (bs ++ 0 ∷ [])) / 2 ^ bits ≡ from_bytes bs * 2 ^ pad
filled_up bs i bits pad read e =
    by_order (length bs) i
    (λ more.
    let all : take i (bs ++ 0 ∷ []) ≡ bs ++ 0 ∷ [] = take_all i (bs ++ 0 ∷ []) (omega (arith, length-append bs (0 ∷ []))) in
    let byte : 8 ≡ pad + bits = omega arith in
    let value : from_bytes (bs ++ 0 ∷ []) ≡ from_bytes bs * 2 ^ pad * 2 ^ bits =
    from_append 8 bs (0 ∷ []) ∙ rw (from_one, add-zero) (ap (λ (k : ℕ). from_bytes bs * 2 ^ k) byte ∙ rw (pow-add, mul_assoc)) in
    ap (λ (l : List ℕ). from_bytes l / 2 ^ bits) all ∙ ap (λ (x : ℕ). x / 2 ^ bits) value ∙ shl-shr (from_bytes bs * 2 ^ pad) bits)
    (λ exact.
    let same : i ≡ length bs = omega arith in
    let none : bits ≡ 0 = omega arith in
    let no-pad : pad ≡ 0 = omega arith in
    rw (same, none, no-pad, take-append_seam bs (0 ∷ []), div-one, mul-one))

-- the groups, however many bits are left over behind them
pub whole_groups : (bs : List ℕ) (m i bits : ℕ) → m ≡ (8 * length bs + 4) / 5 → 8 * i ≡ 5 * m + bits → i ≤ length bs + 1 →
    to_digits 5 m (from_bytes (take i (bs ++ 0 ∷ [])) / 2 ^ bits) ≡ groups_of bs
unfolding groups_of
whole_groups bs m i bits count spread read =
    ap (to_digits 5 m) (filled_up bs i bits (5 * m - 8 * length bs) read (omega arith))
    ∙ ap (λ (n : ℕ). digits n (from_bytes bs * 2 ^ (5 * n - 8 * length bs))) count

-- bytes come back from their groups
pub bytes_groups : (bs : List ℕ) → AreBytes bs → bytes_of (groups_of bs) ≡ bs
unfolding groups_of
bytes_groups bs h =
    let l = length bs in
    let n = (8 * l + 4) / 5 in
    let pad = 5 * n - 8 * l in
    let v = from_bytes bs * 2 ^ pad in
    let spread : 5 * n ≡ 8 * l + pad = omega arith in
    let below : v < 2 ^ (5 * n) = subst (λ (x : ℕ). v < 2 ^ x) (sym spread) (shl_lt (8 * l) pad (from_below 8 bs h)) in
    let count : 5 * length (digits n v) ≡ 8 * l + pad = ap (λ (x : ℕ). 5 * x) (length_groups n v) ∙ spread in
    sym (whole_bytes_of_groups (digits n v) l pad count (omega arith))
    ∙ ap (λ (x : ℕ). to_bytes l (x / 2 ^ pad)) (number_digits n v below)
    ∙ ap (to_bytes l) (shl-shr (from_bytes bs) pad)
    ∙ to_from 8 bs h

-- a part of groups is made of groups
pub take_groups : (n : ℕ) (gs : List ℕ) → AreGroups gs → AreGroups (take n gs)
take_groups n gs h = take_digits 5 n gs h

pub drop_groups : (n : ℕ) (gs : List ℕ) → AreGroups gs → AreGroups (drop n gs)
drop_groups n gs h = drop_digits 5 n gs h
