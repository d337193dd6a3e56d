-- How many bytes are missing from a record that is cut short: document 02, (v). Assumes nothing.
use Rattle.std.specs.Prelude.{Ok, Err}
use mathlib.Core.Bool.{true, false}
use mathlib.Core.Path.{◌≡◌, refl, sym, ap, ◌∙◌}
use mathlib.Core.List.{List, ◌++◌}
use mathlib.Core.Logic.{◌⊎◌, inl, inr, ⊎_elim}
use Prim.Native.Nat.{ℕ, ◌+◌, ◌-◌, ◌≤◌, ◌<◌}
use native.Mathlib.Omega.{arith}
use lib.ListN.{length, get_or, drop, length-append, length-drop}
use lib.Seq.{drop-append-le}
use borrow.Author.Tests.{leb-false}
use Rattle.bigsize.proofs.Laws.{reading_width, reading_more, read_peeked}
use Rattle.bigsize.proofs.CutShort.{reading_counted, reading_lacks, reading_whole, refused_either}
use Rattle.bigsize.specs.BigSize.{number, reading, peeking}
use Rattle.bigsize.specs.declared.Number.{Number}
use Rattle.laws.proofs.Test.{pick_all, by_order}
use Rattle.answer.specs.Answer.{Answer, lacking, refuse, bare, retold, Refusing, accepting, refusing}
use Rattle.answer.specs.Missing.{is_cut, CutShort, Counted, fewer, Lacks}
use Rattle.answer.specs.declared.Refusal.{Refusal}
use Rattle.answer.proofs.Answer.{not_refused, same_refused, retold_accepted, refusing_is, refusing_then, ensure_all}
use Rattle.answer.proofs.Missing.{some_missing, whole_uncut, whole_counted}
use Rattle.frame.specs.Frame.{fault, faulty, sized, framing}
use Rattle.frame.proofs.Laws.{fault_cut, fault_long, framing_refused, framing_falls, framing_rises, sized_refused, sized_cut, sized_whole}

-- a BigSize's refusal, told of a type or a length
was_cut : (long cut : ℕ) → is_cut long ≡ false → (s : List ℕ) (q : Refusal) → reading s ≡ Err q → is_cut (fault long cut q.number) ≡ true → CutShort q
was_cut long cut is-long s q e c =
    ⊎_elim (λ k. k)
    (λ two.
    absurd (whole_uncut (refuse long 0 0) (is-long, refl) (rw (fault_long long cut q two) at c)))
    (refused_either s q e)

module _ (long cut place kind : ℕ) (is-long : is_cut long ≡ false) (cut_is : is_cut cut ≡ true) (s : List ℕ) where
  told_counted : (x : Answer Number) → reading s ≡ x → Refusing Counted (retold (faulty long cut place kind) x)
  told_counted (Ok n) e = accepting n
  told_counted (Err q) e =
      ⊎_elim
      (λ c. rw (fault_cut long cut q c) (refusing (some_missing cut place kind q.missing cut_is ((refusing_is (reading_counted s) e).1 c))))
      (λ two. rw two (rw (fault_long long cut (bare 2) refl) (refusing (whole_counted (refuse long place kind) (is-long, refl)))))
      (refused_either s q e)

  faulty_counted : Refusing Counted (retold (faulty long cut place kind) (reading s))
  faulty_counted = told_counted (reading s) refl

sized_counted : (kind width place : ℕ) (bs : List ℕ) → Refusing Counted (sized kind width place bs)
unfolding sized
sized_counted kind width place bs =
    refusing_then _ (faulty_counted 5 4 place kind refl refl (drop width bs)) λ n en.
    ensure_all (Refusing Counted) _ _ _ (λ _. accepting _) λ cut.
    let w = reading_width (drop width bs) n (retold_accepted _ _ n en) in
    let short = leb-false (width + n.width + n.value) (length bs) cut in
    refusing (some_missing 6 place kind _ refl (omega (arith, length-drop width bs, length-drop (width + n.width) bs)))

-- Missing is above 0 in the refusal of a record's frame exactly in 1, 4 and 6.
pub framing_counted : (low place : ℕ) (bs : List ℕ) → Refusing Counted (framing low place bs)
unfolding framing
framing_counted low place bs =
    refusing_then _ (faulty_counted 2 1 place 0 refl refl bs) λ t _.
    ensure_all (Refusing Counted) _ _ _ (λ _. sized_counted t.value t.width place bs) (λ _. refusing (whole_counted (refuse 3 place t.value) (refl, refl)))

-- the number of a refusal that is told twice
number_of : {A : Type 0} {x : Answer A} {p r : Refusal} → x ≡ Err r → x ≡ Err p → r.number ≡ p.number
number_of e k = ap (λ (q : Refusal). q.number) (same_refused e k)

-- The refusal behind a type is 4 where the length is cut short, 5 where it is not shortest, and 6 where the value is cut short.
module _ (kind width place : ℕ) (bs : List ℕ) (p : Refusal) (e : sized kind width place bs ≡ Err p) where
  behind_length : (n : Number) → reading (drop width bs) ≡ Ok n → p.number ≡ 6
  behind_length n en =
      by_order (length bs) (width + n.width + n.value)
      (λ cut. sym (number_of (sized_cut kind width place bs n.value n.width en cut) e))
      (λ whole. absurd (not_refused (sized_whole kind width place bs n.value n.width en whole) e))

  at_length : (q : Refusal) → reading (drop width bs) ≡ Err q → p.number ≡ fault 5 4 q.number
  at_length q en = sym (number_of (sized_refused kind width place bs q en) e)

  over_3 : (x : Answer Number) → reading (drop width bs) ≡ x → 4 ≤ p.number
  over_3 (Ok n) en = omega (arith, behind_length n en)
  over_3 (Err q) en = rw (at_length q en) (pick_all (λ (m : ℕ). 4 ≤ m) _ _ _ (λ _. omega arith) (λ _. omega arith))

module _ (low place : ℕ) (bs : List ℕ) where
  -- the refusal of a record whose type is not cut short is not 1
  behind_type : (p : Refusal) → framing low place bs ≡ Err p → (x : Answer Number) → reading bs ≡ x → ((q : Refusal) → x ≡ Err q → q ≡ bare 2) →
      p.number ≡ 1 → ⊥
  behind_type p k (Ok t) e two one =
      by_order t.value low
      (λ falls. omega (arith, number_of (framing_falls low place bs t.value t.width e falls) k))
      (λ rises.
      omega (arith, over_3 t.value t.width place bs p (sym (framing_rises low place bs t.value t.width e rises) ∙ k) (reading (drop t.width bs)) refl))
  behind_type p k (Err q) e two one =
      omega (arith, fault_long 2 1 q (two q refl), number_of (framing_refused low place bs q e) k)

module _ (low place : ℕ) (bs : List ℕ) where
  -- from the type
  type_lacks : (begun : Type 0) (q : Refusal) → 0 < length bs → reading bs ≡ Err q → CutShort q →
      Lacks (faulty 2 1 place 0 q) begun (λ more. framing low place (bs ++ more))
  type_lacks begun q some e cut =
      record {
        still = λ more few. framing_refused low place (bs ++ more) _ ((reading_lacks bs q e cut).still more few);
        whole = λ more all _ p k same.
            behind_type low place (bs ++ more) p k (reading (bs ++ more)) refl (λ q' e'. reading_whole bs q e cut more all (inl some) q' e')
            (same.0 ∙ fault_cut 2 1 q cut);
      }

  module _ (kind width : ℕ) (e : reading bs ≡ Ok (number kind width)) (rises : low ≤ kind) where
    -- more bytes stand behind the length
    with_more : (more : List ℕ) → (framing low place (bs ++ more) ≡ sized kind width place (bs ++ more)) × (drop width (bs ++ more) ≡ drop width bs ++ more)
    with_more more = (
      framing_rises low place (bs ++ more) kind width (reading_more bs (number kind width) e more) rises,
      drop-append-le width bs more (reading_width bs (number kind width) e).1,
    )

    -- a length with what was missing is not cut short
    other : (q : Refusal) → reading (drop width bs) ≡ Err q → CutShort q → (more : List ℕ) → length more ≡ q.missing →
        (width < length bs) ⊎ (get_or more 0 0 < 253) → (p : Refusal) → sized kind width place (bs ++ more) ≡ Err p → p.number ≡ 4 →
        (x : Answer Number) → reading (drop width (bs ++ more)) ≡ x → ⊥
    other q en cut more all begun p k four (Ok n) e' = omega (arith, behind_length kind width place (bs ++ more) p k n e')
    other q en cut more all begun p k four (Err q') e' =
        let begun' : (0 < length (drop width bs)) ⊎ (get_or more 0 0 < 253) =
        ⊎_elim (λ there. inl (omega (arith, length-drop width bs))) (λ low. inr low) begun in
        let two = reading_whole (drop width bs) q en cut more all begun' q' (rw (with_more more).1 at e') in
        omega (arith, fault_long 5 4 q' two, at_length kind width place (bs ++ more) p k q' e')

    -- from the length
    length_lacks : (q : Refusal) → reading (drop width bs) ≡ Err q → CutShort q →
        Lacks (faulty 5 4 place kind q) (width < length bs) (λ more. framing low place (bs ++ more))
    length_lacks q en cut =
        record {
          still = λ more few.
              (with_more more).0 ∙ sized_refused kind width place (bs ++ more) (fewer (length more) q) (rw (with_more more).1 ((reading_lacks (drop width bs) q en cut).still more few));
          whole = λ more all begun p k same. other q en cut more all begun p (sym (with_more more).0 ∙ k) (same.0 ∙ fault_cut 5 4 q cut) (reading (drop width (bs ++ more))) refl;
        }

    -- from the value
    value_lacks : (begun : Type 0) (size wide : ℕ) → reading (drop width bs) ≡ Ok (number size wide) → length bs < width + wide + size →
        Lacks (lacking 6 place kind (size - (length bs - (width + wide)))) begun (λ more. framing low place (bs ++ more))
    value_lacks begun size wide en cut =
        let w = reading_width (drop width bs) (number size wide) en in
        let inside : width + wide ≤ length bs = omega (arith, length-drop width bs) in
        let read : (more : List ℕ) → reading (drop width (bs ++ more)) ≡ Ok (number size wide) =
        λ more. rw (with_more more).1 (reading_more (drop width bs) (number size wide) en more) in
        record {
          still = λ more few.
              (with_more more).0
              ∙ sized_cut kind width place (bs ++ more) size wide (read more) (omega (arith, length-append bs more))
              ∙ ap (λ m. Err (lacking 6 place kind m)) (omega (arith, length-append bs more));
          whole = λ more all _ p k same.
              not_refused ((with_more more).0 ∙ sized_whole kind width place (bs ++ more) size wide (read more) (omega (arith, length-append bs more))) k;
        }

module _ (low place : ℕ) (bs : List ℕ) (r : Refusal) (some : 0 < length bs) (e : framing low place bs ≡ Err r) (cut : CutShort r) where
  abbrev Missed : Refusal → Type 0
  Missed q = Lacks q ((peeking bs).width < length bs) (λ more. framing low place (bs ++ more))

  -- by what the answer is
  answered : (q : Refusal) → framing low place bs ≡ Err q → (CutShort q → Missed q) → Missed r
  answered q k h = let is = same_refused k e in rw (← is) (h (rw (← is) at cut))

  by_length : (t : Number) → reading bs ≡ Ok t → low ≤ t.value → (x : Answer Number) → reading (drop t.width bs) ≡ x → Missed r
  by_length t et rises (Ok n) en =
      by_order (length bs) (t.width + n.width + n.value)
      (λ short.
      answered _ (framing_rises low place bs t.value t.width et rises ∙ sized_cut t.value t.width place bs n.value n.width en short)
      (λ _. value_lacks low place bs t.value t.width et rises _ n.value n.width en short))
      (λ whole.
      absurd
      (not_refused (framing_rises low place bs t.value t.width et rises ∙ sized_whole t.value t.width place bs n.value n.width en whole) e))
  by_length t et rises (Err q) en =
      answered _ (framing_rises low place bs t.value t.width et rises ∙ sized_refused t.value t.width place bs q en)
      (λ c. rw (read_peeked bs t et) (length_lacks low place bs t.value t.width et rises q en (was_cut 5 4 refl (drop t.width bs) q en c)))

  by_each_type : (x : Answer Number) → reading bs ≡ x → Missed r
  by_each_type (Ok t) et =
      by_order t.value low
      (λ falls.
      absurd (whole_uncut (bare 3) (refl, refl) (rw (← number_of (framing_falls low place bs t.value t.width et falls) e) at cut)))
      (λ rises. by_length t et rises (reading (drop t.width bs)) refl)
  by_each_type (Err q) et = answered _ (framing_refused low place bs q et) (λ c. type_lacks low place bs _ q some et (was_cut 2 1 refl bs q et c))

  -- What is missing from a record that is cut short is what it is called. Its length is begun where there are more bytes than its type takes.
  pub framing_lacks : Lacks r ((peeking bs).width < length bs) (λ more. framing low place (bs ++ more))
  framing_lacks = by_each_type (reading bs) refl
