-- The till profile: six rules over an accepted invoice. Document 02 (vi). Assumes nothing.
use Rattle.std.specs.Prelude.{Bool, true, ◌&&◌, ◌||◌, ◌↔◌, ◌≡◌, ℕ, ◌+◌, ◌*◌, ◌-◌, ◌%◌, ◌^◌, ◌≤◌, ◌<◌, eqb, length, get_or, replicate, Ok, Err}
use mathlib.Core.List.{List, [], ◌∷◌, ◌++◌, map, Memᴰ}
use Rattle.amount_spelling.specs.Shortest.{Shortest}
use Rattle.answer.specs.Answer.{Answer}
use Rattle.answer.specs.declared.Refusal.{Refusal}
use Rattle.bech32.specs.Groups.{number}
use Rattle.field.specs.Fields.{payment_hash, description_hash, payee, expiry, delta, route, usable, content_of}
use Rattle.field.specs.declared.Field.{Field}
use Rattle.invoice.specs.Invoice.{Contents, amount_of, judging}
use Rattle.laws.specs.Test.{pick}
use Rattle.letters.specs.Letters.{lower}
use Rattle.till.specs.declared.Profile.{Profile}

-- d. It is neither usable nor unusable: every d counts.
abbrev pub description : ℕ
description = 13

-- The fields of a type that the rules speak of: every d, and the usable ones of the other types.
abbrev pub is_judged : (kind : ℕ) → Field → Bool
is_judged kind f = eqb f.kind kind && (eqb kind description || usable kind f.size)

-- how many elements pass a test
unfoldable pub how_many : {A : Type 0} → (A → Bool) → List A → ℕ
how_many test [] = 0
how_many test (a ∷ more) = pick (test a) 1 0 + how_many test more

abbrev pub count : (kind : ℕ) → Contents → ℕ
count kind told = how_many (is_judged kind) told.fields

-- what holds of the content of each of them
abbrev pub Each : (kind : ℕ) → (List ℕ → Type 0) → Contents → Type 0
Each kind P told = (f : Field) → Memᴰ f told.fields → is_judged kind f ≡ true → P (content_of f told.groups)

-- 1: "exactly one usable p".
abbrev pub OnePaymentHash : Contents → Type 0
OnePaymentHash told = count payment_hash told ≡ 1

-- 2: "exactly one of d and usable h together".
abbrev pub OneDescription : Contents → Type 0
OneDescription told = count description told + count description_hash told ≡ 1

-- 3: "at most one each of usable x, c and n".
abbrev pub AtMostOnce : Contents → Type 0
AtMostOnce told = (count expiry told ≤ 1) × (count delta told ≤ 1) × (count payee told ≤ 1)

-- The bits of so many groups behind their last whole byte. Five or more of them are a group to spare.
abbrev pub left_over : (size : ℕ) → ℕ
left_over size = 5 * size % 8

-- 4: "zero padding bits and no spare group in usable p, h, n and r and in d".
pub record Packed (content : List ℕ) : Type 0 where
  pub zero_padding : number content % 2 ^ left_over (length content) ≡ 0
  pub no_spare_group : left_over (length content) < 5

abbrev pub AllPacked : Contents → Type 0
AllPacked told = Each payment_hash Packed told × Each description_hash Packed told × Each payee Packed told × Each route Packed told × Each description Packed told

-- 5: "usable x and c without leading zero groups": the first group, if there is one, is not 0.
abbrev pub Stripped : (content : List ℕ) → Type 0
Stripped content = get_or content 0 1 ≡ 0 → ⊥

abbrev pub AllStripped : Contents → Type 0
AllStripped told = Each expiry Stripped told × Each delta Stripped told

-- 6: "the amount so spelled that no allowed spelling of it has fewer characters", of the lower-case text.
abbrev pub ShortestAmount : (text : List ℕ) → Contents → Type 0
ShortestAmount text told = Shortest (map lower (amount_of text told))

-- The profile of six rules, in this order.
abbrev pub rules : (text : List ℕ) → Contents → List (Type 0)
rules text told = OnePaymentHash told ∷ OneDescription told ∷ AtMostOnce told ∷ AllPacked told ∷ AllStripped told ∷ ShortestAmount text told ∷ []

abbrev pub Breaks : (text : List ℕ) → Contents → (rule : ℕ) → Type 0
Breaks text told rule = (1 ≤ rule) × (rule ≤ 6) × (get_or (rules text told) (rule - 1) (Unit {0}) → ⊥)

-- "Exactly the broken rules are listed, as 1 to 6, in this order."
pub record Lists (text : List ℕ) (told : Contents) (list : List ℕ) : Type 0 where
  pub exactly : (rule : ℕ) → Memᴰ rule list ↔ Breaks text told rule
  pub rising : (i j : ℕ) → i < j → j < length list → get_or list i 0 < get_or list j 0

-- How a list is told: with zeros behind it.
abbrev pub profile_of : List ℕ → Profile
profile_of list = record { count = length list; rules = list ++ replicate (6 - length list) 0 }

-- "An invoice refused by the plain reader keeps that refusal."
pub record Profiles (text : List ℕ) (answer : Answer Profile) : Type 0 where
  pub lists : (told : Contents) → judging text ≡ Ok told → (list : List ℕ) × Lists text told list × (answer ≡ Ok (profile_of list))
  pub refuses : (r : Refusal) → judging text ≡ Err r → answer ≡ Err r
