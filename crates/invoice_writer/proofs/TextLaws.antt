-- The finished text: its length, and how it stands in an output whose front is filled part by part. Assumes nothing.
use Rattle.std.specs.Prelude.{Ok}
use Prim.Native.Char.{code}
use mathlib.Core.List.{List, [], ◌∷◌, ◌++◌, map, map-append, append_assoc}
use mathlib.Core.Path.{◌≡◌, refl, sym, ap, ap₂, ◌∙◌}
use Prim.Native.Nat.{ℕ, suc, ◌+◌, ◌≤◌, ◌<◌}
use native.Mathlib.Nat.{add-suc, add_assoc}
use native.Mathlib.Numerals.{towards_suc}
use native.Mathlib.Omega.{arith}
use lib.ListN.{length, get_or, take, drop, set, length-append, length-drop, length-map, drop_of_length-le}
use lib.Seq.{sets, sets-eq, drop-cons, drop_at, take-append_seam, drop-append-add, drop-drop}
use Rattle.bech32.specs.Alphabet.{char_of, groups_in}
use Rattle.bech32.specs.Checksum.{create_checksum}
use Rattle.bech32.specs.Groups.{AreGroups, low5, digits}
use Rattle.bech32.proofs.AlphabetLaws.{groups_chars}
use Rattle.bech32.proofs.CreateLaws.{length_created}
use Rattle.bech32.proofs.GroupLaws.{low5_group, length_groups, digits_groups}
use Rattle.invoice.specs.Edition.{prefixed}
use Rattle.invoice.proofs.EditionLaws.{by_prefix}
use Rattle.laws.specs.Test.{pick}
use Rattle.laws.proofs.Lists.{sets_append, sets_front}
use Rattle.letters.specs.Letters.{lower}
use Rattle.letters.proofs.LetterLaws.{text_again}
use Rattle.answer.specs.Answer.{filled}
use Rattle.invoice_writer.specs.Private.{name_of}
use Rattle.invoice_writer.specs.Writer.{groups_from, text_of}

-- the characters of groups, of which the code takes the low five bits
pub chars_low : (gs : List ℕ) → AreGroups gs → map (λ g. char_of (low5 g)) gs ≡ map char_of gs
chars_low [] h = refl
chars_low (g ∷ gs) h = rw (low5_group g (h 0), chars_low gs (λ k. h (suc k)))

pub length_text : (hrp groups : List ℕ) → length (text_of hrp groups) ≡ length hrp + length groups + 7
unfolding text_of
length_text hrp groups =
    simp (length-append, length-map) (omega (arith, length_created hrp groups))

-- a run put behind the front that is filled
pub put_behind : (l f b : List ℕ) (at : ℕ) → at ≡ length f → at + length b ≤ length l → sets (filled (Ok f) l) at b ≡ filled (Ok (f ++ b)) l
put_behind l f b at is h =
    sets-eq b (f ++ drop (length f) l) at (omega (arith, length-append f (drop (length f) l), length-drop (length f) l))
    ∙ rw (is, take-append_seam f (drop (length f) l), drop-append-add f (drop (length f) l) (length b), drop-drop (length b) (length f) l, length-append f b)

-- what f makes of each element, put one by one from a place on
module _ (f : ℕ → ℕ) (s out : List ℕ) (at i : ℕ) where
  pub put_next : (v : ℕ) → i < length s → v ≡ f (get_or s i 0) → sets (set out (at + i) v) (at + (i + 1)) (map f (drop (i + 1) s)) ≡ sets out (at + i) (map f (drop i s))
  put_next v h is = simp towards_suc (rw (drop-cons s i 0 h, is, add-suc) refl)

  pub put_end : length s ≤ i → sets out (at + i) (map f (drop i s)) ≡ out
  put_end h = rw (drop_of_length-le s h) refl

-- the characters of the time's, the fields' and the signature's groups, put one behind the other
pub groups_put : (l : List ℕ) (at time : ℕ) (fields signature : List ℕ) → AreGroups fields → AreGroups signature →
    sets (sets (sets l at (map (λ g. char_of (low5 g)) (digits 7 time))) (at + 7) (map (λ g. char_of (low5 g)) fields)) (at + 7 + length fields) (map (λ g. char_of (low5 g)) signature) ≡
    sets l at (map char_of (groups_from time fields signature))
groups_put l at time fields signature f s =
    let d = digits 7 time in
    rw (chars_low d (digits_groups 7 time), chars_low fields f, chars_low signature s)
    (sym
    (rw (map-append char_of (d ++ fields) signature, map-append char_of d fields, sets_append, sets_append, length-append, length-map, length-map, length_groups 7 time, add_assoc) refl))

-- A text in an output: the human readable part, the separator and the groups' characters are there, and the six that close them are put behind.
module _ (l hrp groups : List ℕ) (lowered : map lower hrp ≡ hrp) (are : AreGroups groups) where
  abbrev pub front : List ℕ
  front = (hrp ++ code "1" ∷ []) ++ map char_of groups

  pub length_front : length front ≡ length hrp + 1 + length groups
  length_front = omega (arith, length-append (hrp ++ code "1" ∷ []) (map char_of groups), length-append hrp (code "1" ∷ []), length-map groups char_of)

  -- what closes the front is what closes its parts
  pub closing_there : create_checksum (map lower (take (length hrp) (filled (Ok front) l))) (groups_in (drop (length hrp + 1) (take (length front) (filled (Ok front) l)))) ≡ create_checksum hrp groups
  closing_there =
      let rest = drop (length front) l in
      let behind : drop (length hrp + 1) front ≡ map char_of groups = drop_at (hrp ++ code "1" ∷ []) (map char_of groups) (length hrp + 1) (length-append hrp (code "1" ∷ [])) in
      let before : take (length hrp) (front ++ rest) ≡ hrp = rw (append_assoc (hrp ++ code "1" ∷ []) (map char_of groups) rest, append_assoc hrp (code "1" ∷ []) (map char_of groups ++ rest)) (take-append_seam hrp _) in
      rw (take-append_seam front rest, behind, before, lowered, groups_chars groups are)

  pub text_there : length hrp + length groups + 7 ≤ length l → sets (filled (Ok front) l) (length front) (map char_of (create_checksum hrp groups)) ≡ sets l 0 (text_of hrp groups)
  unfolding text_of
  text_there room =
      let six = map char_of (create_checksum hrp groups) in
      let fits : length front + length six ≤ length l = omega (arith, length_front, length-map (create_checksum hrp groups) char_of, length_created hrp groups) in
      let whole : front ++ six ≡ text_of hrp groups = rw (map-append char_of groups (create_checksum hrp groups), append_assoc (hrp ++ code "1" ∷ []) (map char_of groups) six) (append_assoc hrp (code "1" ∷ []) (map char_of groups ++ six)) in
      put_behind l front six (length front) refl fits ∙ ap (λ (x : List ℕ). filled (Ok x) l) whole ∙ sym (sets_front l (text_of hrp groups) (omega (arith, length_text hrp groups)))

-- a name in lower case with an amount that is put into it
pub parts_lower : (name amount : List ℕ) → map lower name ≡ name → map lower (name ++ map lower amount) ≡ name ++ map lower amount
parts_lower name amount low = map-append lower name (map lower amount) ∙ ap₂ ◌++◌ low (text_again amount)

-- A prefix has few characters, all in lower case.
module _ (prefix : ℕ) (named : prefixed prefix ≡ Ok (name_of prefix)) where
  pub length_name : length (name_of prefix) ≡ 4
  length_name = by_prefix (λ (n : ℕ). length (name_of n) ≡ 4) prefix _ named refl refl

  pub name_lower : map lower (name_of prefix) ≡ name_of prefix
  unfolding lower pick
  name_lower = by_prefix (λ (n : ℕ). map lower (name_of n) ≡ name_of n) prefix _ named refl refl

  pub hrp_lower : (amount : List ℕ) → map lower (name_of prefix ++ map lower amount) ≡ name_of prefix ++ map lower amount
  hrp_lower amount = parts_lower (name_of prefix) amount name_lower

-- The whole text, put part by part.
pub text_put : (l name amount groups o₁ o₂ o₃ o₄ : List ℕ) (end size : ℕ) → map lower (name ++ amount) ≡ name ++ amount → AreGroups groups →
    end ≡ length name + length amount → size ≡ end + 1 + length groups → size + 6 ≤ length l → o₁ ≡ sets l 0 name → o₂ ≡ sets o₁ (length name) amount →
    o₃ ≡ sets (set o₂ end (code "1")) (end + 1) (map char_of groups) →
    o₄ ≡ sets o₃ size (map char_of (create_checksum (map lower (take end o₃)) (groups_in (drop (end + 1) (take size o₃))))) → o₄ ≡ sets l 0 (text_of (name ++ amount) groups)
text_put l name amount groups o₁ o₂ o₃ o₄ end size lowered are end_is size_is room p₁ p₂ p₃ p₄ =
    let hrp = name ++ amount in
    let one = code "1" ∷ [] in
    let chars = map char_of groups in
    let long : length hrp ≡ end = omega (arith, length-append name amount) in
    let long-one : length (hrp ++ one) ≡ end + 1 = omega (arith, length-append hrp one) in
    let whole : length (front l hrp groups lowered are) ≡ size = length_front l hrp groups lowered are ∙ omega arith in
    let e₁ : o₁ ≡ filled (Ok name) l = p₁ ∙ sets_front l name (omega arith) in
    let e₂ : o₂ ≡ filled (Ok hrp) l = p₂ ∙ ap (λ (o : List ℕ). sets o (length name) amount) e₁ ∙ put_behind l name amount (length name) refl (omega arith) in
    let e₃ : set o₂ end (code "1") ≡ filled (Ok (hrp ++ one)) l = ap (λ (o : List ℕ). set o end (code "1")) e₂ ∙ put_behind l hrp one end (sym long) (omega arith) in
    let e₄ : o₃ ≡ filled (Ok (front l hrp groups lowered are)) l =
    p₃ ∙ ap (λ (o : List ℕ). sets o (end + 1) chars) e₃ ∙ put_behind l (hrp ++ one) chars (end + 1) (sym long-one) (omega (arith, length-map groups char_of)) in
    p₄ ∙ rw (e₄, ← long, ← whole, closing_there l hrp groups lowered are) (text_there l hrp groups lowered are (omega arith))
