-- The tests of the code say which rules are kept. Assumes nothing.
use borrow.Author.Tests.{leb-true, eqb-true, eqb-false, le-leb, eq-eqb, ne_eqb, not-true, not-false}
use mathlib.Core.Bool.{Bool, true, not, ◌&&◌}
use mathlib.Core.List.{List}
use mathlib.Core.Logic.{◌↔◌}
use mathlib.Core.Path.{◌≡◌, refl, sym, ap, ◌∙◌}
use Prim.Native.Nat.{ℕ, zero, suc, ◌+◌, ◌<◌}
use native.Mathlib.Omega.{arith}
use lib.ListN.{get_or}
use Rattle.field.specs.Fields.{payment_hash, description_hash, payee, expiry, delta, route, content_of}
use Rattle.field.specs.declared.Field.{Field}
use Rattle.invoice.specs.Invoice.{Contents}
use Rattle.laws.specs.Test.{pick}
use Rattle.laws.proofs.Test.{by_test, and_true, and_both}
use Rattle.till.specs.Private.{is_stripped, is_clean, is_unclean, Counts, one_payment_hash, one_description, at_most_once, all_packed, all_stripped, failing, tests}
use Rattle.till.specs.Till.{description, is_judged, how_many, Each, OnePaymentHash, OneDescription, AtMostOnce, Packed, AllPacked, Stripped, AllStripped, ShortestAmount, rules, Lists}
use Rattle.till.specs.declared.Tally.{Tally}
use Rattle.till.proofs.Counting.{none_pass, all_fail}
use Rattle.till.proofs.Listing.{failing_lists}
use Rattle.till.proofs.Packing.{packed_test}

-- a content without a leading zero group
stripped_test : (content : List ℕ) → (is_stripped content ≡ true) ↔ Stripped content
stripped_test content = ((λ h. eqb-false _ _ (not-true _ h)), λ h. ap not (ne_eqb _ _ h))

-- None of a type's fields is unclean exactly where each one's content is clean.
module _ (told : Contents) (kind : ℕ) (P : List ℕ → Type 0) (test : (content : List ℕ) → (is_clean kind content ≡ true) ↔ P content) where
  abbrev unclean : Field → Bool
  unclean = is_unclean told.groups kind

  pub each_clean : how_many unclean told.fields ≡ 0 → Each kind P told
  each_clean h f m judged =
      let fine = none_pass unclean told.fields h f m in
      (test (content_of f told.groups)).0
      (not-false _ (sym (ap (λ (b : Bool). b && not (is_clean kind (content_of f told.groups))) judged) ∙ fine))

  pub clean_each : Each kind P told → how_many unclean told.fields ≡ 0
  clean_each h =
      all_fail unclean told.fields
      λ f m.
      by_test (is_judged kind f)
      (λ yes.
      let clean = (test (content_of f told.groups)).1 (h f m yes) in
      ap (λ (b : Bool). b && not (is_clean kind (content_of f told.groups))) yes ∙ ap not clean)
      λ passed. ap (λ (b : Bool). b && not (is_clean kind (content_of f told.groups))) passed

-- The six tests, by what was counted.
module _ (text : List ℕ) (told : Contents) (t : Tally) (shortest : Bool) (j : Counts is_judged told.fields t.judged)
    (u : Counts (is_unclean told.groups) told.fields t.unclean) (s : (shortest ≡ true) ↔ ShortestAmount text told) where
  abbrev J : (kind : ℕ) → ℕ
  J kind = get_or t.judged kind 0

  abbrev U : (kind : ℕ) → ℕ
  U kind = get_or t.unclean kind 0

  one_payment : (one_payment_hash t ≡ true) ↔ OnePaymentHash told
  one_payment = (
    (λ h. sym (j.each payment_hash (omega arith)) ∙ eqb-true _ _ h),
    λ h. eq-eqb _ _ (j.each payment_hash (omega arith) ∙ h),
  )

  one_description_says : (one_description t ≡ true) ↔ OneDescription told
  one_description_says =
      let d = j.each description (omega arith) in
      let h = j.each description_hash (omega arith) in
      ((λ e. omega (arith, eqb-true (J description + J description_hash) 1 e, d, h)), λ e. eq-eqb (J description + J description_hash) 1 (omega (arith, e, d, h)))

  at_most_once_says : (at_most_once t ≡ true) ↔ AtMostOnce told
  at_most_once_says =
      let x = j.each expiry (omega arith) in
      let c = j.each delta (omega arith) in
      let n = j.each payee (omega arith) in (
        (λ e.
            let b = and_true _ _ e in
            let a = and_true _ _ b.0 in (
              omega (arith, leb-true (J expiry) 1 a.0, x),
              omega (arith, leb-true (J delta) 1 a.1, c),
              omega (arith, leb-true (J payee) 1 b.1, n),
            )),
        λ e.
            and_both _ _ (and_both _ _ (le-leb (J expiry) 1 (omega (arith, e.0, x))) (le-leb (J delta) 1 (omega (arith, e.1, c)))) (le-leb (J payee) 1 (omega (arith, e.2, n))),
      )

  all_packed_says : (all_packed t ≡ true) ↔ AllPacked told
  unfolding pick
  all_packed_says =
      let p = u.each payment_hash (omega arith) in
      let h = u.each description_hash (omega arith) in
      let n = u.each payee (omega arith) in
      let r = u.each route (omega arith) in
      let d = u.each description (omega arith) in (
        (λ e.
            let b = and_true _ _ e in
            let a = and_true _ _ b.0 in
            let ph = eqb-true (U payment_hash + U description_hash) 0 a.0 in
            let nr = eqb-true (U payee + U route) 0 a.1 in
            let only = eqb-true (U description) 0 b.1 in (
              each_clean told payment_hash Packed packed_test (omega (arith, ph, p)),
              each_clean told description_hash Packed packed_test (omega (arith, ph, h)),
              each_clean told payee Packed packed_test (omega (arith, nr, n)),
              each_clean told route Packed packed_test (omega (arith, nr, r)),
              each_clean told description Packed packed_test (omega (arith, only, d)),
            )),
        λ e.
            and_both _ _
            (and_both _ _
            (eq-eqb (U payment_hash + U description_hash) 0 (omega (arith, p, h, clean_each told payment_hash Packed packed_test e.0, clean_each told description_hash Packed packed_test e.1)))
            (eq-eqb (U payee + U route) 0 (omega (arith, n, r, clean_each told payee Packed packed_test e.2, clean_each told route Packed packed_test e.3))))
            (eq-eqb (U description) 0 (omega (arith, d, clean_each told description Packed packed_test e.4))),
      )

  all_stripped_says : (all_stripped t ≡ true) ↔ AllStripped told
  unfolding pick
  all_stripped_says =
      let x = u.each expiry (omega arith) in
      let c = u.each delta (omega arith) in (
        (λ e.
            let both = eqb-true (U expiry + U delta) 0 e in
            (each_clean told expiry Stripped stripped_test (omega (arith, both, x)), each_clean told delta Stripped stripped_test (omega (arith, both, c)))),
        λ e.
            eq-eqb (U expiry + U delta) 0 (omega (arith, x, c, clean_each told expiry Stripped stripped_test e.0, clean_each told delta Stripped stripped_test e.1)),
      )

  -- each test says whether its rule is kept
  agree : (i : ℕ) → i < 6 → (get_or (tests t shortest) i true ≡ true) ↔ get_or (rules text told) i (Unit {0})
  agree zero h = one_payment
  agree (suc zero) h = one_description_says
  agree (suc (suc zero)) h = at_most_once_says
  agree (suc (suc (suc zero))) h = all_packed_says
  agree (suc (suc (suc (suc zero)))) h = all_stripped_says
  agree (suc (suc (suc (suc (suc zero))))) h = s
  agree (suc (suc (suc (suc (suc (suc i)))))) h = absurd (omega arith)

  -- The rules whose tests fail are the broken ones, rising.
  pub broken_listed : Lists text told (failing 1 (tests t shortest))
  broken_listed = failing_lists text told (tests t shortest) refl agree
