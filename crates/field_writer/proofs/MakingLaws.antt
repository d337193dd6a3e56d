-- A field is made: an equation for each answer, and the field put part by part. Assumes nothing.
use Rattle.std.specs.Prelude.{Ok, Err}
use mathlib.Core.Path.{◌≡◌, refl, sym, ap, ◌∙◌}
use mathlib.Core.List.{List, ◌∷◌}
use Prim.Native.Nat.{ℕ, suc, ◌+◌, ◌-◌, ◌*◌, ◌/◌, ◌%◌, ◌^◌, ◌≤◌, ◌<◌}
use native.Mathlib.Omega.{arith}
use lib.ListN.{length, take, drop, set, length-append, length-take, length-drop}
use lib.Seq.{sets, length-sets}
use borrow.Rule.Slice.PartMut.{put_mid}
use borrow.Author.Tests.{leb-true, le-leb, lt-leb}
use Rattle.laws.specs.Digits.{to_digits}
use Rattle.bech32.specs.Groups.{digits}
use Rattle.bech32.proofs.GroupLaws.{length_groups}
use Rattle.laws.proofs.Lists.{sets_append, sets_front, tail_put}
use Rattle.answer.specs.Answer.{bare, mapped, fitting, filled}
use Rattle.answer.proofs.Answer.{mapped_accepted, ensure_yes, ensure_no, ensured, fitting_short, fitting_fits, fitted}
use Rattle.field_writer.specs.Field.{tagged, making}

pub length_tagged : (kind : ℕ) (content : List ℕ) → length (tagged kind content) ≡ 3 + length content
length_tagged kind content = omega (arith, length-append (digits 2 (length content)) content, length_groups 2 (length content))

module _ (most kind : ℕ) (content : List ℕ) (room : ℕ) where
  pub making_34 : 31 < kind → making most kind content room ≡ Err (bare 34)
  unfolding making
  making_34 h = ensure_no _ _ _ (lt-leb kind 31 h)

  pub making_38 : kind ≤ 31 → most < length content → making most kind content room ≡ Err (bare 38)
  unfolding making
  making_38 k h = ensure_yes _ _ _ (le-leb kind 31 k) ∙ ensure_no _ _ _ (lt-leb (length content) most h)

  asked : kind ≤ 31 → length content ≤ most → making most kind content room ≡ fitting length room (Ok (tagged kind content))
  unfolding making
  asked k h = ensure_yes _ _ _ (le-leb kind 31 k) ∙ ensure_yes _ _ _ (le-leb (length content) most h)

  pub making_12 : kind ≤ 31 → length content ≤ most → room < 3 + length content → making most kind content room ≡ Err (bare 12)
  making_12 k h r = asked k h ∙ fitting_short length room _ _ refl (omega (arith, length_tagged kind content))

  pub making_fits : kind ≤ 31 → length content ≤ most → 3 + length content ≤ room → making most kind content room ≡ Ok (tagged kind content)
  making_fits k h r = asked k h ∙ fitting_fits length room _ _ refl (omega (arith, length_tagged kind content))

  -- what is made, and of what
  pub record IsTagged (g : List ℕ) : Type 0 where
    pub group : kind ≤ 31
    pub few : length content ≤ most
    pub room_for : 3 + length content ≤ room
    pub is : g ≡ tagged kind content

  pub made : (g : List ℕ) → making most kind content room ≡ Ok g → IsTagged g
  unfolding making
  made g h =
      let a = ensured _ _ _ g h in
      let b = ensured _ _ _ g a.rest in
      let c = fitted length room _ g b.rest in
      let is : g ≡ tagged kind content = cc c.was in
      record {
        group = leb-true kind 31 a.holds;
        few = leb-true (length content) most b.holds;
        room_for = omega (arith, c.fits, ap length is, length_tagged kind content);
        is = is;
      }

  -- a count that was answered is the count of the field's groups
  pub record Measured (n : ℕ) : Type 0 where
    pub few : length content ≤ most
    pub room_for : 3 + length content ≤ room
    pub fits : making most kind content room ≡ Ok (tagged kind content)
    pub count : n ≡ length (tagged kind content)

  pub measured : (n : ℕ) → mapped length (making most kind content room) ≡ Ok n → Measured n
  measured n h =
      let m = mapped_accepted _ _ n h in
      let i = made m.0 m.1 in
      record { few = i.few; room_for = i.room_for; fits = m.1 ∙ ap Ok i.is; count = sym m.2 ∙ ap length i.is }

-- the type and the length are put, and the content behind them
pub field_put : (out content : List ℕ) (kind : ℕ) → 3 + length content ≤ length out →
    sets (sets out 0 (kind ∷ digits 2 (length content))) 3 content ≡ filled (Ok (tagged kind content)) out
field_put out content kind h =
    let head = kind ∷ digits 2 (length content) in
    let three : 0 + length head ≡ 3 = omega (arith, length_groups 2 (length content)) in
    sym (sets_append out 0 head content ∙ ap (λ (at : ℕ). sets (sets out 0 head) at content) three)
    ∙ sets_front out (tagged kind content) (omega (arith, length_tagged kind content))

-- the content is put into the lent tail behind the type and the length
module _ (out content : List ℕ) (kind : ℕ) (fits : 3 + length content ≤ length out) where
  abbrev begun : List ℕ
  begun = sets out 0 (kind ∷ digits 2 (length content))

  abbrev tail : List ℕ
  tail = take (length begun - 3) (drop 3 begun)

  pub field_lent : (q : List ℕ) → q ≡ filled (fitting length (length tail) (Ok content)) tail → put_mid 3 (length begun - 3) begun q ≡ filled (Ok (tagged kind content)) out
  field_lent q e =
      let long : length begun ≡ length out = length-sets out 0 (kind ∷ digits 2 (length content)) in
      let room : length content ≤ length tail = omega (arith, length-take (length begun - 3) (drop 3 begun), length-drop 3 begun) in
      tail_put begun content q 3 (omega arith) (rw (fitting_fits length (length tail) _ content refl room) at e) ∙ field_put out content kind fits

-- one more of the low groups of a number is put
pub digit_put : (l : List ℕ) (n count at i : ℕ) → i < count →
    sets (set l (at + i) (n / 2 ^ (5 * (count - 1 - i)) % 32)) (at + (i + 1)) (digits (count - (i + 1)) n) ≡ sets l (at + i) (digits (count - i) n)
unfolding to_digits
digit_put l n count at i h =
    let m = count - 1 - i in
    let left : count - i ≡ suc m = omega arith in
    let less : count - (i + 1) ≡ m = omega arith in
    let next : at + (i + 1) ≡ suc (at + i) = omega arith in
    rw (left, less, next) refl

-- none is left
pub digits_put : (l : List ℕ) (n count at i : ℕ) → count ≤ i → sets l (at + i) (digits (count - i) n) ≡ l
unfolding to_digits
digits_put l n count at i h =
    let none : count - i ≡ 0 = omega arith in
    rw none refl
