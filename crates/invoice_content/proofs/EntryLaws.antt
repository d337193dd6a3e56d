-- What an entry says, by the whole bytes of the groups from its first byte on. Assumes nothing.
use mathlib.Core.List.{List}
use mathlib.Core.Path.{◌≡◌, sym, ap, ◌∙◌}
use Prim.Native.Nat.{ℕ, ◌+◌, ◌-◌, ◌*◌, ◌%◌, ◌^◌, ◌≤◌, ◌<◌}
use native.Mathlib.Omega.{arith}
use lib.Bits.{bit_or, or_shifted}
use lib.Dec.{lit≤}
use lib.ListN.{length, get_or, take, drop}
use lib.Pow.{shl_exact}
use lib.Seq.{get_or-drop, get_or-take, take-add, take-take, drop_at, drop-drop}
use Rattle.bech32.proofs.GroupLaws.{length_bytes_of, bytes_of_bytes}
use Rattle.bech32.specs.Groups.{bytes_of}
use Rattle.laws.proofs.Digits.{from_part_one, from_part_add, from_part_below}
use Rattle.laws.proofs.Lists.{length_part}
use Rattle.laws.specs.Digits.{from_bytes}
use Rattle.invoice_content.specs.Content.{parts_of}

-- a part of a part
part_part : (s : List ℕ) (at n j m : ℕ) → at + n ≤ length s → j + m ≤ n → take m (drop j (take n (drop at s))) ≡ take m (drop (at + j) s)
part_part s at n j m inside h =
    let whole : n ≡ j + (n - j) = omega arith in
    ap (λ (x : ℕ). take m (drop j (take x (drop at s)))) whole
    ∙ ap (λ (l : List ℕ). take m (drop j l)) (take-add j (n - j) (drop at s))
    ∙ ap (take m) (drop_at (take j (drop at s)) (take (n - j) (drop j (drop at s))) j (length_part s at j (omega arith)))
    ∙ take-take m (n - j) (drop j (drop at s)) (omega arith)
    ∙ ap (take m) (drop-drop j at s)

-- the key of the entry that begins with byte `at`
abbrev pub key_at : (gs : List ℕ) (at : ℕ) → List ℕ
key_at gs at = (parts_of (take 51 (drop at (bytes_of gs)))).key

module _ (gs : List ℕ) where
  -- n bytes spell less than 2 ^ (8 n)
  pub few_below : (at n : ℕ) → 8 * (at + n) ≤ 5 * length gs → from_bytes (take n (drop at (bytes_of gs))) < 2 ^ (8 * n)
  few_below at n inside = from_part_below 8 (bytes_of gs) at n (omega (arith, length_bytes_of gs)) (bytes_of_bytes gs)

  -- `(high << 32) | low` at 64 bits
  pub eight : (at : ℕ) → 8 * (at + 8) ≤ 5 * length gs →
      let bs = bytes_of gs in
      bit_or (from_bytes (take 4 (drop at bs)) * 2 ^ 32 % 2 ^ 64) (from_bytes (take 4 (drop (at + 4) bs))) ≡ from_bytes (take 8 (drop at bs))
  eight at inside =
      let bs = bytes_of gs in
      let low = few_below (at + 4) 4 (omega arith) in
      rw (shl_exact 32 32 64 (few_below at 4 (omega arith)) (lit≤ tt))
      (or_shifted (from_bytes (take 4 (drop at bs))) 32 (from_bytes (take 4 (drop (at + 4) bs))) low
      ∙ sym (from_part_add 8 bs at 4 4 (omega (arith, length_bytes_of gs))))

  module _ (at : ℕ) (inside : 8 * (at + 51) ≤ 5 * length gs) where
    -- a number of the entry
    pub entry_number : (j n : ℕ) → j + n ≤ 51 → from_bytes (take n (drop j (take 51 (drop at (bytes_of gs))))) ≡ from_bytes (take n (drop (at + j) (bytes_of gs)))
    entry_number j n h = ap from_bytes (part_part (bytes_of gs) at 51 j n (omega (arith, length_bytes_of gs)) h)

    -- its key
    key_is : key_at gs at ≡ take 33 (drop at (bytes_of gs))
    key_is = take-take 33 51 (drop at (bytes_of gs)) (lit≤ tt)

    pub key_length : length (key_at gs at) ≡ 33
    key_length = ap length key_is ∙ length_part (bytes_of gs) at 33 (omega (arith, length_bytes_of gs))

    pub key_byte : (i : ℕ) → i < 33 → get_or (key_at gs at) i 0 ≡ from_bytes (take 1 (drop (at + i) (bytes_of gs)))
    key_byte i h =
        ap (λ (l : List ℕ). get_or l i 0) key_is
        ∙ get_or-take 33 (drop at (bytes_of gs)) i 0 h
        ∙ get_or-drop at (bytes_of gs) i 0
        ∙ sym (from_part_one 8 (bytes_of gs) (at + i) (omega (arith, length_bytes_of gs)))
