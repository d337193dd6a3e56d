-- Laws of the alphabet: a group has a character and back, and what its characters are. Assumes nothing.
use Rattle.std.proofs.Common.{◌≡◌, ℕ, zero, suc, ◌+◌, ◌*◌, ◌/◌, ◌%◌, ◌^◌, ◌<◌, ◌≤◌, Bool, true, false, ◌&&◌, ◌||◌, eqb, leb, List, [], ◌∷◌, map, length, get_or, drop, set, replicate, sym, refl, ap, ◌∙◌, suc-le-suc, zero-le, le_of_suc-le-suc, not-suc-le-zero, add-zero, add-suc, suc-add, zero-add, lit≤, drop_of_length-le, drop-cons, eqb-true, leb-true}
use native.Mathlib.Numerals.{towards_suc}
use lib.ListN.{length-map, get_or-map, get_or-replicate}
use lib.Seq.{sets}
use borrow.Author.Tests.{eqb-false}
use Rattle.laws.specs.Digits.{from_digits}
use Rattle.letters.specs.Letters.{is_lower, is_upper, lower}
use Rattle.laws.specs.Test.{pick}
use Rattle.laws.proofs.Test.{pick_no, pick_all}
use Rattle.bech32.specs.Alphabet.{alphabet, place_in, group_of, char_of, groups_in}
use Rattle.bech32.specs.Groups.{AreGroups}
use Rattle.bech32.specs.Private.{row_of}
use Rattle.letters.proofs.LetterLaws.{lower_twice}

-- A table whose entries are made from their places.

-- n numbers from s on
abbrev places : (n s : ℕ) → List ℕ
places zero s = []
places (suc n) s = s ∷ places n (suc s)

entry_from : (f : ℕ → ℕ) (n s k d : ℕ) → k < n → get_or (map f (places n s)) k d ≡ f (s + k)
entry_from f zero s k d h = absurd (not-suc-le-zero h)
entry_from f (suc n) s zero d h = rw add-zero
entry_from f (suc n) s (suc k) d h = entry_from f n (suc s) k d (le_of_suc-le-suc h) ∙ rw (suc-add, add-suc)

pub entry : (f : ℕ → ℕ) (n k d : ℕ) → k < n → get_or (map f (places n 0)) k d ≡ f k
entry f n k d h = entry_from f n 0 k d h ∙ rw zero-add

-- two rules that make the same table
pub same_table : (f g : ℕ → ℕ) (n : ℕ) → map f (places n 0) ≡ map g (places n 0) → (k : ℕ) → k < n → f k ≡ g k
same_table f g n e k h = sym (entry f n k 0 h) ∙ ap (λ (l : List ℕ). get_or l k 0) e ∙ entry g n k 0 h

-- A character and its group.

-- a group is read off its row
pub group_row : (c : ℕ) → c < 256 → row_of (c / 8) / 2 ^ (c % 8 * 8) % 256 ≡ group_of c
unfolding row_of from_digits group_of place_in pick
group_row c h = same_table (λ c. row_of (c / 8) / 2 ^ (c % 8 * 8) % 256) group_of 256 refl c h

-- the rows that hold characters of the alphabet
abbrev pub in_rows : (row : ℕ) → Bool
in_rows row = eqb row 6 || eqb row 7 || eqb row 12 || eqb row 13 || eqb row 14 || eqb row 15

pub other_row : (row : ℕ) → row < 32 → in_rows row ≡ false → row_of row ≡ 0x2020_2020_2020_2020
unfolding row_of from_digits group_of place_in pick
other_row row h e =
    sym (pick_no (in_rows row) 0x2020_2020_2020_2020 (row_of row) e)
    ∙ same_table (λ row. pick (in_rows row) 0x2020_2020_2020_2020 (row_of row)) (λ row. 0x2020_2020_2020_2020) 32 refl row h

pub group_char : (g : ℕ) → g < 32 → group_of (char_of g) ≡ g
unfolding group_of char_of place_in pick
group_char g h = sym (get_or-map group_of alphabet g 0) ∙ entry (λ x. x) 32 g 32 h

place_char : (xs : List ℕ) (c : ℕ) → place_in xs c < length xs → get_or xs (place_in xs c) 0 ≡ c
unfolding place_in
place_char [] c h = absurd (not-suc-le-zero h)
place_char (x ∷ xs) c h =
    pick_all (λ (p : ℕ). p < suc (length xs) → get_or (x ∷ xs) p 0 ≡ c) (eqb x c) 0 (suc (place_in xs c)) (λ e k. eqb-true x c e)
    (λ e k. place_char xs c (le_of_suc-le-suc k)) h

pub char_group : (c : ℕ) → group_of c < 32 → char_of (group_of c) ≡ c
unfolding group_of char_of
char_group c h = place_char alphabet c h

place_most : (xs : List ℕ) (c : ℕ) → place_in xs c ≤ length xs
unfolding place_in
place_most [] c = lit≤ tt
place_most (x ∷ xs) c =
    pick_all (λ (p : ℕ). p ≤ suc (length xs)) (eqb x c) 0 (suc (place_in xs c)) (λ e. zero-le) (λ e. suc-le-suc (place_most xs c))

-- 32 where there is none
pub group_most : (c : ℕ) → group_of c ≤ 32
unfolding group_of
group_most c = place_most alphabet c

-- What the characters are, by computing a test over the alphabet once.

every_char : (test : ℕ → Bool) (b : Bool) → map test alphabet ≡ replicate 32 b → (g : ℕ) → g < 32 → test (char_of g) ≡ b
unfolding char_of
every_char test b e g h = sym (get_or-map test alphabet g 0) ∙ ap (λ (l : List Bool). get_or l g (test 0)) e ∙ get_or-replicate 32 g b (test 0) h

module _ (g : ℕ) (h : g < 32) where
  -- a lower-case letter or a digit
  pub char_kind : (is_lower (char_of g) || (leb 48 (char_of g) && leb (char_of g) 57)) ≡ true
  char_kind = every_char (λ c. is_lower c || (leb 48 c && leb c 57)) true refl g h

  pub char_least : 48 ≤ char_of g
  char_least = leb-true 48 (char_of g) (every_char (λ c. leb 48 c) true refl g h)

  pub char_most : char_of g ≤ 122
  char_most = leb-true (char_of g) 122 (every_char (λ c. leb c 122) true refl g h)

  -- not the separator "1"
  pub char_not_one : char_of g ≡ 49 → ⊥
  char_not_one = eqb-false (char_of g) 49 (every_char (λ c. eqb c 49) false refl g h)

  pub char_not_upper : is_upper (char_of g) ≡ false
  char_not_upper = every_char is_upper false refl g h

  pub char_lower : lower (char_of g) ≡ char_of g
  unfolding lower
  char_lower = pick_no (is_upper (char_of g)) (char_of g + 32) (char_of g) char_not_upper

-- Whole texts.

pub length_groups_in : (text : List ℕ) → length (groups_in text) ≡ length text
length_groups_in text = length-map text (λ c. group_of (lower c))

-- a text and the same in lower case have the same groups
pub groups_lower : (text : List ℕ) → groups_in (map lower text) ≡ groups_in text
groups_lower [] = refl
groups_lower (c ∷ text) = rw (lower_twice c, groups_lower text)

-- the text of groups has these groups
pub groups_chars : (gs : List ℕ) → AreGroups gs → groups_in (map char_of gs) ≡ gs
groups_chars [] h = refl
groups_chars (g ∷ gs) h = rw (char_lower g (h 0), group_char g (h 0), groups_chars gs (λ k. h (suc k)))

-- a text whose characters all have groups is the text of its groups, in lower case
pub chars_groups : (text : List ℕ) → AreGroups (groups_in text) → map char_of (groups_in text) ≡ map lower text
chars_groups [] h = refl
chars_groups (c ∷ text) h = rw (char_group (lower c) (h 0), chars_groups text (λ k. h (suc k)))

-- the groups of a text put one by one
module _ (out text : List ℕ) (i : ℕ) where
  pub put_next : (g : ℕ) → i < length text → g ≡ group_of (lower (get_or text i 0)) →
      sets (set out i g) (i + 1) (groups_in (drop (i + 1) text)) ≡ sets out i (groups_in (drop i text))
  put_next g h is = simp towards_suc (rw (drop-cons text i 0 h, is) refl)

  pub put_end : length text ≤ i → sets out i (groups_in (drop i text)) ≡ out
  put_end h = rw (drop_of_length-le text h) refl
