-- By an accepted table what is read by the search is the reading. Assumes nothing.
use Rattle.std.specs.Prelude.{Ok, Err, Option, None, Some}
use mathlib.Core.Path.{◌≡◌, refl, sym, ap, ◌∙◌}
use mathlib.Core.List.{List, []}
use Prim.Native.Nat.{ℕ, zero, suc, ◌+◌}
use native.Mathlib.Omega.{arith}
use lib.ListN.{drop}
use borrow.Author.Tests.{eq-eqb, ne_eqb}
use Rattle.answer.specs.Answer.{Answer, mapped, ◌>>=◌}
use Rattle.answer.specs.declared.Refusal.{Refusal}
use Rattle.answer.proofs.Answer.{then_refused, mapped_accepted, mapped_refused, fails}
use Rattle.frame.specs.Frame.{value_in, behind}
use Rattle.frame.proofs.Laws.{framed}
use Rattle.laws.proofs.Test.{pick_yes, pick_no}
use Rattle.table.proofs.Cursor.{cursor_start, cursor_found, cursor_next}
use Rattle.table.specs.Search.{searching, Cursor}
use Rattle.table.specs.Table.{checking, known}
use Rattle.table.specs.declared.Known.{Known}
use Rattle.stream.specs.Sought.{Reads, Valued, faulty, flat, nested, Sought, ends, unframed, stops, goes, sought_in, SoughtAt, SoughtFrom, outside, long, read}
use Rattle.stream.specs.Stream.{Enter, inside, entering, own, answering, mark_of, judged, Row, rows_in, outer_from, judging_from}
use Rattle.stream.specs.Tally.{tally, knowns, joined}
use Rattle.stream.specs.declared.Counts.{Counts}
use Rattle.stream.proofs.Judging.{judging_namespace, judging_long, judging_outer}
use Rattle.stream.proofs.Records.{row_at, rows_end, rows_unframed, rows_refused, rows_on, joined_one}
use Rattle.stream.proofs.Values.{judged_stream, judged_mark}
use Rattle.table.proofs.Laws.{known_once}

-- nothing is inside a value whose type is not known as a stream
nothing_inside : (enter : Enter) (k : Option Known) → ((n : ℕ) → k ≡ known 5 n → ⊥) → (start : ℕ) (v : List ℕ) → inside enter k start v ≡ []
unfolding inside
nothing_inside enter None other start v = refl
nothing_inside enter (Some k) other start v = pick_no _ _ _ (ne_eqb k.form 5 (λ e. other k.parameter (rw (← e))))

-- whether something was accepted
abbrev yes : {A : Type 0} → Answer A → Answer (Unit {0})
yes = mapped (λ _. tt)

were_read : (x : Answer (List Row)) (m : ℕ) → yes (mapped tally x) ≡ yes (x >>= λ _. Ok m)
unfolding ◌>>=◌
were_read (Ok rows) m = refl
were_read (Err q) m = refl

-- By an accepted table.
module _ (t : List ℕ) (fine : checking t ≡ Ok tt) where
  -- how the streams in values are read is what their rows say
  abbrev Right : (l : ℕ) → Reads → Type 0
  Right l inner = (m : ℕ) → l ≡ suc m → (n start : ℕ) (v : List ℕ) (a : Answer Counts) → inner n start v a → a ≡ mapped tally (rows_in t n m start 0 v)

  judged_alone : (l : ℕ) (k : Option Known) (place kind start : ℕ) (v : List ℕ) → own k l place kind v ≡ Ok tt → ((n : ℕ) → k ≡ known 5 n → ⊥) →
      judged t l k place kind start v ≡ Ok (mark_of k v)
  unfolding judged answering ◌>>=◌
  judged_alone l k place kind start v e other = rw (e, nothing_inside (entering t l) k other start v)

  valued_judged : (l : ℕ) (inner : Reads) → Right l inner → (k : Option Known) (place kind start : ℕ) (v : List ℕ) (a : Answer (Unit {0})) → Valued inner k l place kind start v a →
      a ≡ yes (judged t l k place kind start v)
  unfolding judged own
  valued_judged l inner right k place kind start v a (faulty e) = sym (ap yes (then_refused _ _ _ e))
  valued_judged l inner right k place kind start v a (flat e other) = sym (ap yes (judged_alone l k place kind start v e other))
  valued_judged zero inner right k place kind start v a (nested n e is s) =
      absurd (let no = sym (rw is at e) ∙ pick_yes _ _ _ (eq-eqb 5 5 refl) ∙ fails _ _ refl in let z : ◌≡◌ {A = ℕ} 0 1 = cc in omega arith)
  valued_judged (suc m) inner right k place kind start v a (nested n e is s) =
      ap yes (right m refl n start v _ s) ∙ were_read (rows_in t n m start 0 v) (mark_of k v) ∙ sym (ap yes (judged_stream t (suc m) k place kind start v 5 n is refl m refl))

  along : (l : ℕ) (inner : Reads) → Right l inner → (ns place low row : ℕ) (bs : List ℕ) (a : Answer Counts) → Cursor t ns low row →
      Sought inner t ns l place low row bs a → a ≡ mapped tally (rows_in t ns l place low bs)
  unfolding knowns
  along l inner right ns place low row bs a c (ends none) = sym (ap (mapped tally) (rows_end t ns l place low bs none))
  along l inner right ns place low row bs a c (unframed some e) = sym (ap (mapped tally) (rows_unframed t ns l place low bs some _ e))
  along l inner right ns place low row bs a c (stops x some ex s) =
      let is = cursor_found t ns low row c x.kind (framed low place bs x ex).0 fine in
      let e = valued_judged l inner right _ place x.kind (place + x.head) (value_in x bs) _ (rw is at s) in
      sym (ap (mapped tally) (rows_refused t ns l place low bs some x ex _ (mapped_refused _ _ _ (sym e))))
  along l inner right ns place low row bs a c (goes x some ex s rest) =
      let up = (framed low place bs x ex).0 in
      let is = cursor_found t ns low row c x.kind up fine in
      let e = mapped_accepted _ _ tt (sym (valued_judged l inner right _ place x.kind (place + x.head) (value_in x bs) _ (rw is at s))) in
      let later = along l inner right ns (place + (x.head + x.size)) (suc x.kind) (searching t row ns x.kind).next (behind x bs) _ (cursor_next t ns low row c x.kind up fine) rest in
      rw (is, later, ← (judged_mark t l _ place x.kind (place + x.head) (value_in x bs) e.0 e.1))
      (sym (ap (mapped tally) (rows_on t ns l place low bs some x ex e.0 e.1) ∙ joined_one (row_at place x e.0) (rows_in t ns l (place + (x.head + x.size)) (suc x.kind) (behind x bs))))

  -- By an accepted table what the search finds record by record is what a stream is read as, whatever the levels.
  pub sought_rows : (l ns place : ℕ) (bs : List ℕ) (a : Answer Counts) → SoughtAt t ns l place bs a → a ≡ mapped tally (rows_in t ns l place 0 bs)
  unfolding sought_in
  sought_rows zero ns place bs a s = along zero _ (λ m e. absurd (omega arith)) ns place 0 0 bs a (cursor_start t ns) s
  sought_rows (suc l) ns place bs a s =
      along (suc l) _ (λ m e n start v b i. let same : l ≡ m = omega arith in rw (← same) (sought_rows l n start v b i)) ns place 0 0 bs a (cursor_start t ns) s

  -- The same of a whole stream: by an accepted table `count_unchecked` answers what `count` answers.
  pub sought_judged : (at ns : ℕ) (s : List ℕ) (a : Answer Counts) → SoughtFrom at t ns s a → a ≡ mapped tally (judging_from at t ns s)
  unfolding outer_from
  sought_judged at ns s a (outside h) = sym (ap (mapped tally) (judging_namespace at t ns s fine h))
  sought_judged at ns s a (long small h) = sym (ap (mapped tally) (judging_long at t ns s fine small h))
  sought_judged at ns s a (read small short q) = sought_rows 3 ns at (drop at s) a q ∙ sym (ap (mapped tally) (judging_outer at t ns s fine small short))

-- an answer is not both
not_both : {A : Type 0} {x : Answer A} {q : Refusal} {a : A} → x ≡ Err q → x ≡ Ok a → ⊥
not_both e f = let z : ◌≡◌ {A = ℕ} 0 1 = cc in omega arith

same_accepted : {A : Type 0} {x : Answer A} {a b : A} → x ≡ Ok a → x ≡ Ok b → b ≡ a
same_accepted e f = cc

same_refused : {A B : Type 0} {x : Answer A} {q r : Refusal} → x ≡ Err q → x ≡ Err r → ◌≡◌ {A = Answer B} (Err q) (Err r)
same_refused e f = cc

-- By any table there is one answer.
module _ (inner : Reads) (l : ℕ) (once : (n start : ℕ) (v : List ℕ) (a b : Answer Counts) → inner n start v a → inner n start v b → a ≡ b) where
  valued_once : {k : Option Known} {place kind start : ℕ} {v : List ℕ} {a b : Answer (Unit {0})} →
      Valued inner k l place kind start v a → Valued inner k l place kind start v b → a ≡ b
  valued_once (faulty e) (faulty f) = sym e ∙ f
  valued_once (faulty e) (flat f other) = absurd (not_both e f)
  valued_once (faulty e) (nested n f is s) = absurd (not_both e f)
  valued_once (flat e other) (faulty f) = absurd (not_both f e)
  valued_once (flat e other) (flat f another) = refl
  valued_once (flat e other) (nested n f is s) = absurd (other n is)
  valued_once (nested n e is s) (faulty f) = absurd (not_both f e)
  valued_once (nested n e is s) (flat f other) = absurd (other n is)
  valued_once (nested n e is s) (nested m f too z) =
      ap yes (once n _ _ _ _ s (rw (known_once (sym too ∙ is)).1 at z))

  along_once : {table : List ℕ} {ns place low row : ℕ} {bs : List ℕ} {a b : Answer Counts} →
      Sought inner table ns l place low row bs a → Sought inner table ns l place low row bs b → a ≡ b
  along_once (ends none) (ends _) = refl
  along_once (ends none) (unframed some e) = absurd (omega arith)
  along_once (ends none) (stops x some e s) = absurd (omega arith)
  along_once (ends none) (goes x some e s rest) = absurd (omega arith)
  along_once (unframed some e) (ends none) = absurd (omega arith)
  along_once (unframed some e) (unframed _ f) = same_refused e f
  along_once (unframed some e) (stops x _ f s) = absurd (not_both e f)
  along_once (unframed some e) (goes x _ f s rest) = absurd (not_both e f)
  along_once (stops x some e s) (ends none) = absurd (omega arith)
  along_once (stops x some e s) (unframed _ f) = absurd (not_both f e)
  along_once (stops x some e s) (stops y _ f z) = same_refused refl (valued_once s (rw (same_accepted e f) at z))
  along_once (stops x some e s) (goes y _ f z rest) = absurd (not_both (sym (valued_once s (rw (same_accepted e f) at z))) refl)
  along_once (goes x some e s rest) (ends none) = absurd (omega arith)
  along_once (goes x some e s rest) (unframed _ f) = absurd (not_both f e)
  along_once (goes x some e s rest) (stops y _ f z) = absurd (not_both (valued_once s (rw (same_accepted e f) at z)) refl)
  along_once (goes x some e s rest) (goes y _ f z last) = let eq = same_accepted e f in rw eq (ap (joined 1 _) (along_once rest (rw eq at last)))

levels_once : (table : List ℕ) (l ns start : ℕ) (v : List ℕ) (a b : Answer Counts) → sought_in table l ns start v a → sought_in table l ns start v b → a ≡ b
unfolding sought_in
levels_once table zero ns start v a b s z = absurd s
levels_once table (suc l) ns start v a b s z = along_once (sought_in table l) l (levels_once table l) s z

-- Whatever the table, `count_unchecked` has one answer.
pub sought_once : (at : ℕ) (table : List ℕ) (ns : ℕ) (s : List ℕ) (a b : Answer Counts) → SoughtFrom at table ns s a → SoughtFrom at table ns s b → a ≡ b
sought_once at table ns s a b (outside h) (outside _) = refl
sought_once at table ns s a b (outside h) (long small i) = absurd (omega arith)
sought_once at table ns s a b (outside h) (read small i q) = absurd (omega arith)
sought_once at table ns s a b (long small h) (outside i) = absurd (omega arith)
sought_once at table ns s a b (long small h) (long _ _) = refl
sought_once at table ns s a b (long small h) (read _ i q) = absurd (omega arith)
sought_once at table ns s a b (read small h p) (outside i) = absurd (omega arith)
sought_once at table ns s a b (read small h p) (long _ i) = absurd (omega arith)
sought_once at table ns s a b (read small h p) (read _ _ q) = along_once (sought_in table 3) 3 (levels_once table 3) p q
