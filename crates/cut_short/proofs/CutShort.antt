-- Where a stream that is refused with 1, 4 or 6 is cut short, and that what is missing there is what it is called. Assumes nothing.
use Rattle.std.specs.Prelude.{Ok, Err}
use mathlib.Core.List.{List, ◌∷◌, ◌++◌}
use mathlib.Core.Logic.{◌⊎◌, ⊎_elim}
use mathlib.Core.Path.{◌≡◌, refl, sym, ap, ◌∙◌}
use Prim.Native.Nat.{ℕ, zero, suc, ◌+◌, ◌-◌, ◌%◌, ◌≤◌, ◌<◌}
use native.Mathlib.Omega.{arith}
use lib.Dec.{leb, eqb}
use lib.ListN.{length, get_or, drop, length-append, length-drop}
use lib.Seq.{drop-drop}
use Rattle.answer.specs.Answer.{Answer, bare, ◌>>=◌}
use Rattle.answer.specs.Missing.{CutShort, Lacks}
use Rattle.answer.specs.declared.Refusal.{Refusal}
use Rattle.answer.proofs.Answer.{then_refused, then_refuses, not_refused, same_refused, refusing_is}
use Rattle.frame.specs.Frame.{Frame, framing, value_in, behind}
use Rattle.frame.proofs.Laws.{framed, unframed, framing_again, framing_anywhere, value_more, behind_more}
use Rattle.frame.proofs.CutShort.{framing_lacks}
use Rattle.laws.proofs.Test.{by_order}
use Rattle.message.specs.Layout.{Layout, layout_of, end}
use Rattle.message.specs.Message.{built_in, number_at, by_type, judging}
use Rattle.stream.specs.Order.{Lies, first, later, itself, within}
use Rattle.stream.specs.Stream.{rows_in, judging_from, outer_from}
use Rattle.stream.proofs.Places.{judged_cut, rows_between}
use Rattle.stream.proofs.Records.{judged_at, row_at, rows_next, rows_end, rows_unframed, rows_on}
use Rattle.table.specs.Table.{known, lookup}
use Rattle.cut_short.specs.Cut.{Begun, CutIn, CutExtension}
use Rattle.cut_short.proofs.Wholes.{behind_whole, ensure_whole, checking_whole, layout_whole, sized_whole, front_whole}

module _ (table : List ℕ) where
  -- what is found in a stream that is cut short: that itself, or a record from whose value one that is cut short is entered
  data Found (ns l place low : ℕ) (bs : List ℕ) (r : Refusal) : Type 0 where
    here : Lacks r (Begun (drop (r.place - place) bs)) (λ more. rows_in table ns l place low (bs ++ more)) → Found ns l place low bs r
    inside : {x : Frame} {from : List ℕ} {n : ℕ} → Lies x from bs → lookup table ns x.kind ≡ known 5 n → CutIn table n (value_in x from) r → Found ns l place low bs r

  module _ (ns l : ℕ) where
    -- a refusal for what is cut short inside a whole record, or behind it, lies behind the record's first byte
    behind_place : (place low : ℕ) (bs : List ℕ) (x : Frame) → 0 < length bs → framing low place bs ≡ Ok x → (q : Refusal) → rows_in table ns l place low bs ≡ Err q →
        CutShort q → place < q.place
    behind_place place low bs x some ex q k cut =
        let w = framed low place bs x ex in
        ⊎_elim (λ no. absurd (not_refused ex no))
        (λ f.
        let same : f.0 ≡ x = cc (f.1, ex) in
        ⊎_elim
        (λ value.
        let j = judged_cut table place f.0.kind (place + f.0.head) (value_in f.0 bs) q cut l (lookup table ns f.0.kind) value in
        let v = refusing_is (rows_between table j.namespace j.levels (place + f.0.head) 0 (value_in f.0 bs)) j.refuses in
        let h : f.0.head ≡ x.head = ap (λ (y : Frame). y.head) same in
        omega (arith, v.2))
        (λ g.
        ⊎_elim
        (λ rest.
        let v = refusing_is (rows_between table ns l (place + (f.0.head + f.0.size)) (suc f.0.kind) (behind f.0 bs)) rest in
        let h : f.0.head ≡ x.head = ap (λ (y : Frame). y.head) same in
        omega (arith, v.2))
        (λ h. absurd (not_refused refl h.2))
        (then_refuses _ _ q g.2))
        (then_refuses _ _ q f.2))
        (then_refuses _ _ q (sym (rows_next table ns l place low bs some) ∙ k))

    -- the record at the front is cut short
    front_lacks : (place low : ℕ) (bs : List ℕ) (r : Refusal) → 0 < length bs → framing low place bs ≡ Err r → CutShort r →
        Lacks r (Begun (drop (r.place - place) bs)) (λ more. rows_in table ns l place low (bs ++ more))
    front_lacks place low bs r some e cut =
        let at : r.place ≡ place = (unframed low place bs r e).0 in
        let none : r.place - place ≡ 0 = omega arith in
        let lacks = framing_lacks low place bs r some e cut in
        rw none record {
          still = λ more few. rows_unframed table ns l place low (bs ++ more) (omega (arith, length-append bs more)) _ (lacks.still more few);
          whole = λ more all begun q k same.
              let long : 0 < length (bs ++ more) = omega (arith, length-append bs more) in
              by_frame more all begun q k same long (framing low place (bs ++ more)) refl;
        }
      where
        by_frame : (more : List ℕ) → length more ≡ r.missing → Begun bs ⊎ (get_or more 0 0 < 253) → (q : Refusal) → rows_in table ns l place low (bs ++ more) ≡ Err q →
            (q.number ≡ r.number) × (q.place ≡ r.place) → 0 < length (bs ++ more) → (x : Answer Frame) → framing low place (bs ++ more) ≡ x → ⊥
        by_frame more all begun q k same long (Err p) ep =
            let is : p ≡ q = same_refused (rows_unframed table ns l place low (bs ++ more) long p ep) k in
            (framing_lacks low place bs r some e cut).whole more all begun p ep (rw is same)
        by_frame more all begun q k same long (Ok x) ex =
            omega (arith, behind_place place low (bs ++ more) x long ex q k (rw same.0 cut), same.1, (unframed low place bs r e).0)

    -- a record behind a whole one is
    module _ (place low : ℕ) (bs : List ℕ) (r : Refusal) (some : 0 < length bs) (x : Frame) (ex : framing low place bs ≡ Ok x) (mark : ℕ)
        (fine : judged_at table ns l place bs x ≡ Ok mark) where
      with_more : (more : List ℕ) →
          rows_in table ns l place low (bs ++ more) ≡
          (rows_in table ns l (place + (x.head + x.size)) (suc x.kind) (behind x bs ++ more) >>= λ rest. Ok (row_at place x mark ∷ rest))
      with_more more =
          rows_on table ns l place low (bs ++ more) (omega (arith, length-append bs more)) x (framing_again low place bs x ex low place (framed low place bs x ex).0 more) mark
          (rw (value_more low place bs x ex more) fine)
          ∙ rw (behind_more low place bs x ex more)

      behind_found : rows_in table ns l (place + (x.head + x.size)) (suc x.kind) (behind x bs) ≡ Err r →
          Found ns l (place + (x.head + x.size)) (suc x.kind) (behind x bs) r → Found ns l place low bs r
      behind_found e (inside lies has c) = inside (later (framing_anywhere low place bs x ex) lies) has c
      behind_found e (here lacks) =
          let far = (refusing_is (rows_between table ns l (place + (x.head + x.size)) (suc x.kind) (behind x bs)) e).2 in
          let left : x.head + x.size + (r.place - (place + (x.head + x.size))) ≡ r.place - place = omega arith in
          here (rw (drop-drop, left) at (moved lacks))
        where
          moved : Lacks r (Begun (drop (r.place - (place + (x.head + x.size))) (behind x bs)))
              (λ more. rows_in table ns l (place + (x.head + x.size)) (suc x.kind) (behind x bs ++ more)) →
              Lacks r (Begun (drop (r.place - (place + (x.head + x.size))) (behind x bs))) (λ more. rows_in table ns l place low (bs ++ more))
          moved lacks =
              record {
                still = λ more few. with_more more ∙ then_refused _ _ _ (lacks.still more few);
                whole = λ more all begun q k same.
                    ⊎_elim (λ rest. lacks.whole more all begun q rest same) (λ h. not_refused refl h.2) (then_refuses _ _ q (sym (with_more more) ∙ k));
              }

  -- the streams that are entered from one level
  abbrev Enters : (levels : ℕ) → Type 0
  Enters l = (m : ℕ) → l ≡ suc m → (n start : ℕ) (v : List ℕ) (r : Refusal) → rows_in table n m start 0 v ≡ Err r → CutShort r → CutIn table n v r

  find_cut : (l : ℕ) → Enters l → (c ns place low : ℕ) (bs : List ℕ) (r : Refusal) → length bs ≤ c → rows_in table ns l place low bs ≡ Err r → CutShort r →
      Found ns l place low bs r
  find_cut l enters zero ns place low bs r few e cut = absurd (not_refused (rows_end table ns l place low bs (omega arith)) e)
  find_cut l enters (suc c) ns place low bs r few e cut =
      by_order 0 (length bs)
      (λ some.
      ⊎_elim (λ frame. here (front_lacks ns l place low bs r some frame cut))
      (λ f.
      let x = f.0 in
      let w = framed low place bs x f.1 in
      ⊎_elim
      (λ value.
      let j = judged_cut table place x.kind (place + x.head) (value_in x bs) r cut l (lookup table ns x.kind) value in
      inside (first (framing_anywhere low place bs x f.1)) j.has (enters j.levels j.left j.namespace (place + x.head) (value_in x bs) r j.refuses cut))
      (λ g.
      ⊎_elim
      (λ rest.
      behind_found ns l place low bs r some x f.1 g.0 g.1 rest
      (find_cut l enters c ns (place + (x.head + x.size)) (suc x.kind) (behind x bs) r (omega (arith, length-drop (x.head + x.size) bs)) rest cut))
      (λ h. absurd (not_refused refl h.2))
      (then_refuses _ _ r g.2))
      (then_refuses _ _ r f.2))
      (then_refuses _ _ r (sym (rows_next table ns l place low bs some) ∙ e)))
      (λ none. absurd (not_refused (rows_end table ns l place low bs (omega arith)) e))

  found_in : (ns l place : ℕ) (s : List ℕ) (r : Refusal) → rows_in table ns l place 0 s ≡ Err r → Found ns l place 0 s r → CutIn table ns s r
  found_in ns l place s r e (here lacks) = record { own = ns; levels = l; place = place; bytes = s; entered = itself; alone = e; lacks = lacks }
  found_in ns l place s r e (inside lies has c) =
      record { own = c.own; levels = c.levels; place = c.place; bytes = c.bytes; entered = within lies has c.entered; alone = c.alone; lacks = c.lacks }

  -- A stream, at whatever level, that is refused for what is cut short: it is so itself, or a stream is that is entered from it; that one lacks what is told.
  pub rows_cut : (l ns place : ℕ) (s : List ℕ) (r : Refusal) → rows_in table ns l place 0 s ≡ Err r → CutShort r → CutIn table ns s r
  rows_cut zero ns place s r e cut = found_in ns 0 place s r e (find_cut 0 (λ m z. absurd (omega arith)) (length s) ns place 0 s r (omega arith) e cut)
  rows_cut (suc l) ns place s r e cut =
      found_in ns (suc l) place s r e
      (find_cut (suc l) (λ m z n start v q k c. let is : m ≡ l = omega arith in rows_cut l n start v q (rw is at k) c) (length s) ns place 0 s r (omega arith) e cut)

-- A stream as it is read that is refused for what is cut short: so it is behind the table, the namespace and the length.
pub stream_cut : (at : ℕ) (table : List ℕ) (ns : ℕ) (s : List ℕ) (r : Refusal) → judging_from at table ns s ≡ Err r → CutShort r → CutIn table ns (drop at s) r
unfolding judging_from outer_from
stream_cut at table ns s r e cut =
    let a = behind_whole (checking_whole table) _ r e cut in
    let b = behind_whole (ensure_whole (leb ns 63) (bare 61) (refl, refl)) _ r a.1 cut in
    let c = behind_whole (ensure_whole (leb (length (drop at s)) 65535) (bare 14) (refl, refl)) _ r b.1 cut in
    rows_cut table 3 ns at (drop at s) r c.1 cut

-- one of the five, by its parts
by_each_type : (kind : ℕ) (x : Answer Layout) → layout_of kind ≡ x → (m : List ℕ) (r : Refusal) → by_type kind x m ≡ Err r → CutShort r → CutExtension m r
unfolding by_type
by_each_type kind (Ok l) is m r e cut =
    let a = behind_whole (front_whole l.front kind m) _ r e cut in
    let b = behind_whole (sized_whole kind (end a.0) m) _ r a.1 cut in
    ⊎_elim
    (λ extension. record { begin = end b.0; namespace = l.namespace; judged = extension; cut = stream_cut (end b.0) built_in l.namespace m r extension cut })
    (λ c. absurd (not_refused refl c.2))
    (then_refuses _ _ r b.1)
by_each_type kind (Err q) is m r e cut =
    absurd (not_refused refl (behind_whole (ensure_whole (eqb (kind % 2) 1) q (refusing_is (layout_whole kind) is)) _ r e cut).1)

-- A message that is refused for what is cut short is cut short in its extension.
pub message_cut : (m : List ℕ) (r : Refusal) → judging m ≡ Err r → CutShort r → CutExtension m r
unfolding judging
message_cut m r e cut =
    let a = behind_whole (ensure_whole (leb (length m) 65535) (bare 21) (refl, refl)) _ r e cut in
    let b = behind_whole (ensure_whole (leb 2 (length m)) (bare 20) (refl, refl)) _ r a.1 cut in
    by_each_type (number_at 0 m) (layout_of (number_at 0 m)) refl m r b.1 cut
