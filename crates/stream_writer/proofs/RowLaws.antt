-- What the writer's functions use of triples, records and rows. Assumes nothing.
use Rattle.std.specs.Prelude.{Ok, Err}
use mathlib.Core.Path.{◌≡◌, refl, sym, ap, ◌∙◌}
use mathlib.Core.List.{List, [], ◌∷◌, ◌++◌}
use Prim.Native.Nat.{ℕ, suc, ◌+◌, ◌-◌, ◌*◌, ◌≤◌, ◌<◌, min}
use native.Mathlib.Numerals.{add-one, towards_suc}
use native.Mathlib.Omega.{arith}
use lib.ListN.{length, get_or, take, drop, length-append, length-take, length-drop}
use lib.Seq.{sets, drop-cons}
use borrow.Rule.Slice.PartMut.{put_mid}
use borrow.Author.Tests.{le-leb, lt-leb, leb-true}
use Rattle.bigsize.proofs.Laws.{width_le, writing_fits}
use Rattle.bigsize.specs.BigSize.{shortest, writing}
use Rattle.laws.proofs.Lists.{sets_append, tail_put}
use Rattle.laws.proofs.Test.{by_order}
use Rattle.answer.specs.Answer.{Answer, refuse, mapped, ◌>>=◌, filled}
use Rattle.answer.specs.declared.Refusal.{Refusal}
use Rattle.answer.proofs.Answer.{then_accepted, then_refused, both, holds, fails, ensure_yes, ensure_no, ensured}
use Rattle.stream_writer.specs.Writer.{part, record_of, bytes_of, row_placed, value_judged, row_judged, rows_judged}

pub length_record : (kind : ℕ) (v : List ℕ) → length (record_of kind v) ≡ length (shortest kind) + length (shortest (length v)) + length v
unfolding record_of
length_record kind v = omega (arith, length-append (shortest kind) (shortest (length v) ++ v), length-append (shortest (length v)) v)

-- a triple off the front
pub triple_at : (t : List ℕ) (r : ℕ) → r * 3 + 3 ≤ length t →
    drop (r * 3) t ≡ get_or t (r * 3) 0 ∷ get_or t (r * 3 + 1) 0 ∷ get_or t (r * 3 + 2) 0 ∷ drop ((r + 1) * 3) t
triple_at t r h =
    let e : (r + 1) * 3 ≡ suc (suc (suc (r * 3))) = omega arith in
    rw (drop-cons t (r * 3) 0 (omega arith), drop-cons t (suc (r * 3)) 0 (omega arith), drop-cons t (suc (suc (r * 3))) 0 (omega arith), e) (simp towards_suc)

module _ (t source : List ℕ) (r : ℕ) (h : r * 3 + 3 ≤ length t) where
  -- the record of row r, and those behind it
  pub bytes_next : bytes_of (drop (r * 3) t) source ≡
      record_of (get_or t (r * 3) 0) (part (get_or t (r * 3 + 1) 0) (get_or t (r * 3 + 2) 0) source) ++ bytes_of (drop ((r + 1) * 3) t) source
  unfolding bytes_of
  bytes_next = rw (triple_at t r h)

  pub rows_next : (table : List ℕ) (ns low : ℕ) → rows_judged table ns source r low (drop (r * 3) t) ≡
      (row_judged table ns source r low (get_or t (r * 3) 0) (get_or t (r * 3 + 1) 0) (get_or t (r * 3 + 2) 0) >>= λ _.
      rows_judged table ns source (suc r) (suc (get_or t (r * 3) 0)) (drop ((r + 1) * 3) t))
  unfolding rows_judged
  rows_next table ns low = rw (triple_at t r h)

-- behind the last row
pub bytes_end : (t source : List ℕ) → length t < 3 → bytes_of t source ≡ []
unfolding bytes_of
bytes_end [] source h = refl
bytes_end (_ ∷ []) source h = refl
bytes_end (_ ∷ _ ∷ []) source h = refl
bytes_end (_ ∷ _ ∷ _ ∷ t) source h = absurd (omega arith)

pub rows_end : (table : List ℕ) (ns : ℕ) (source : List ℕ) (r low : ℕ) (t : List ℕ) → length t < 3 → rows_judged table ns source r low t ≡ Ok tt
unfolding rows_judged
rows_end table ns source r low [] h = refl
rows_end table ns source r low (_ ∷ []) h = refl
rows_end table ns source r low (_ ∷ _ ∷ []) h = refl
rows_end table ns source r low (_ ∷ _ ∷ _ ∷ t) h = absurd (omega arith)

-- Where a row lies and how its type stands.
module _ (source : List ℕ) (r low kind start size : ℕ) where
  pub placed_outside : length source < start + size → row_placed source r low kind start size ≡ Err (refuse 16 r kind)
  unfolding row_placed
  placed_outside h = ensure_no _ _ _ (lt-leb (start + size) (length source) h)

  module _ (inside : start + size ≤ length source) where
    pub placed_falls : kind < low → row_placed source r low kind start size ≡ Err (refuse 3 r kind)
    unfolding row_placed
    placed_falls h = ensure_yes _ _ _ (le-leb (start + size) (length source) inside) ∙ fails _ _ (lt-leb low kind h)

    pub placed_fine : low ≤ kind → row_placed source r low kind start size ≡ Ok tt
    unfolding row_placed
    placed_fine h = ensure_yes _ _ _ (le-leb (start + size) (length source) inside) ∙ holds _ _ (le-leb low kind h)

  pub placed_says : row_placed source r low kind start size ≡ Ok tt → (start + size ≤ length source) × (low ≤ kind)
  unfolding row_placed
  placed_says h =
      let a = ensured _ _ _ tt h in
      let rises : low ≤ kind =
      by_order kind low (λ falls. absurd (let z : ◌≡◌ {A = ℕ} 0 1 = cc (a.rest, fails _ (refuse 3 r kind) (lt-leb low kind falls)) in omega arith)) (λ rises. rises) in
      (leb-true (start + size) (length source) a.holds, rises)

-- an answer, whatever is made of what it accepts
mapped_told : (x : Answer ℕ) (n : ℕ) → mapped (λ _. n) (x >>= λ _. Ok (tt {0})) ≡ mapped (λ _. n) x
unfolding ◌>>=◌
mapped_told (Ok m) n = refl
mapped_told (Err r) n = refl

-- The answers of one row.
module _ (table : List ℕ) (ns : ℕ) (source : List ℕ) (r low kind start size : ℕ) where
  -- a row that is accepted lies in the source, and its type is at least the least one
  pub row_says : row_judged table ns source r low kind start size ≡ Ok tt → (start + size ≤ length source) × (low ≤ kind)
  unfolding row_judged
  row_says h = placed_says source r low kind start size (both _ _ tt h).first

  pub row_misplaced : (q : Refusal) → row_placed source r low kind start size ≡ Err q → row_judged table ns source r low kind start size ≡ Err q
  unfolding row_judged
  row_misplaced q e = then_refused q _ _ e

  pub row_placed_within : row_placed source r low kind start size ≡ Ok tt → (n : ℕ) →
      mapped (λ _. n) (row_judged table ns source r low kind start size) ≡ mapped (λ _. n) (value_judged table ns r kind (part start size source))
  unfolding row_judged
  row_placed_within e n = ap (mapped (λ _. n)) (then_accepted tt _ _ e) ∙ mapped_told _ n

-- A number, and some bytes, put at an index through a lent tail.
pub number_put : (l q : List ℕ) (at v : ℕ) → at + length (shortest v) ≤ length l →
    q ≡ filled (writing v (length (take (length l - at) (drop at l)))) (take (length l - at) (drop at l)) → put_mid at (length l - at) l q ≡ sets l at (shortest v)
number_put l q at v h e =
    let n : length (take (length l - at) (drop at l)) ≡ length l - at = omega (arith, length-take (length l - at) (drop at l), length-drop at l) in
    tail_put l (shortest v) q at h (rw (writing_fits v (length (take (length l - at) (drop at l))) (omega arith)) at e)

pub bytes_put : (l q v : List ℕ) (at : ℕ) → at + length v ≤ length l →
    q ≡ v ++ drop (length v) (take (length l - at) (drop at l)) → put_mid at (length l - at) l q ≡ sets l at v
bytes_put l q v at h e = tail_put l v q at h e

-- a record, put as three runs
pub record_put : (l : List ℕ) (at a b kind : ℕ) (v : List ℕ) → a ≡ at + length (shortest kind) → b ≡ a + length (shortest (length v)) →
    sets (sets (sets l at (shortest kind)) a (shortest (length v))) b v ≡ sets l at (record_of kind v)
unfolding record_of
record_put l at a b kind v ea eb =
    rw (sets_append l at (shortest kind) (shortest (length v) ++ v), sets_append (sets l at (shortest kind)) (at + length (shortest kind)) (shortest (length v)) v, eb, ea)

-- The sum of the records that are left, over what was summed up, at most 65,536; or the rows' refusal.
abbrev pub measured : List ℕ → (namespace : ℕ) → List ℕ → (r low size : ℕ) → List ℕ → Answer ℕ
measured table ns source r low size t = mapped (λ _. min (size + length (bytes_of t source)) 65536) (rows_judged table ns source r low t)

module _ (table : List ℕ) (ns : ℕ) (source : List ℕ) (low size : ℕ) where
  pub measured_end : (r : ℕ) (t : List ℕ) → size ≤ 65536 → length t < 3 → measured table ns source r low size t ≡ Ok size
  measured_end r t fits h = rw (rows_end table ns source r low t h, bytes_end t source h) (ap Ok (omega arith))

  module _ (t : List ℕ) (r : ℕ) (more : r * 3 + 3 ≤ length t) where
    pub measured_refused : (q : Refusal) → row_judged table ns source r low (get_or t (r * 3) 0) (get_or t (r * 3 + 1) 0) (get_or t (r * 3 + 2) 0) ≡ Err q →
        measured table ns source r low size (drop (r * 3) t) ≡ Err q
    measured_refused q e = ap (mapped (λ _. min (size + length (bytes_of (drop (r * 3) t) source)) 65536)) (rows_next t source r more table ns low ∙ then_refused q _ _ e)

    pub measured_next : row_judged table ns source r low (get_or t (r * 3) 0) (get_or t (r * 3 + 1) 0) (get_or t (r * 3 + 2) 0) ≡ Ok tt →
        (n : ℕ) → length (record_of (get_or t (r * 3) 0) (part (get_or t (r * 3 + 1) 0) (get_or t (r * 3 + 2) 0) source)) ≡ n →
        measured table ns source r low size (drop (r * 3) t) ≡
        measured table ns source (r + 1) (suc (get_or t (r * 3) 0)) (min (size + n) 65536) (drop ((r + 1) * 3) t)
    measured_next e n is =
        let rest = bytes_of (drop ((r + 1) * 3) t) source in
        let this = record_of (get_or t (r * 3) 0) (part (get_or t (r * 3 + 1) 0) (get_or t (r * 3 + 2) 0) source) in
        let sum : min (size + length (this ++ rest)) 65536 ≡ min (min (size + n) 65536 + length rest) 65536 = omega (arith, length-append this rest) in
        rw (rows_next t source r more table ns low ∙ then_accepted tt _ _ e, bytes_next t source r more, sum, add-one)

-- no record of a part is much longer than the source
pub record_le : (kind start size : ℕ) (source : List ℕ) → length (record_of kind (part start size source)) ≤ 18 + length source
record_le kind start size source =
    omega (arith, length_record kind (part start size source), width_le kind, width_le (length (part start size source)), length-take size (drop start source), length-drop start source)

-- Rows that were accepted, from row r on.
pub record Judged (source : List ℕ) (r : ℕ) (t : List ℕ) : Type 0 where
  pub table : List ℕ
  pub namespace : ℕ
  pub low : ℕ
  pub fine : rows_judged table namespace source r low t ≡ Ok tt

-- the row at hand lies in the source, and those behind it were accepted too
pub judged_next : (source t : List ℕ) (r : ℕ) → r * 3 + 3 ≤ length t → Judged source r (drop (r * 3) t) →
    (get_or t (r * 3 + 1) 0 + get_or t (r * 3 + 2) 0 ≤ length source) × Judged source (r + 1) (drop ((r + 1) * 3) t)
judged_next source t r more j =
    let b = both _ _ tt (sym (rows_next t source r more j.table j.namespace j.low) ∙ j.fine) in (
      (row_says j.table j.namespace source r j.low (get_or t (r * 3) 0) (get_or t (r * 3 + 1) 0) (get_or t (r * 3 + 2) 0) b.first).0,
      record { table = j.table; namespace = j.namespace; low = suc (get_or t (r * 3) 0); fine = rw (← (add-one r)) at b.second },
    )
