-- The answers about a whole message, one law each. Assumes nothing.
use Rattle.std.specs.Prelude.{Ok, Err}
use mathlib.Core.Bool.{Bool, true, false}
use mathlib.Core.Path.{◌≡◌, refl, sym, ap, ◌∙◌}
use mathlib.Core.List.{List, []}
use Prim.Native.Nat.{ℕ, ◌+◌, ◌*◌, ◌-◌, ◌%◌, ◌≤◌, ◌<◌}
use native.Mathlib.Omega.{arith}
use lib.Dec.{leb}
use lib.ListN.{length}
use borrow.Author.Tests.{leb-true, le-leb, lt-leb, eq-eqb, ne_eqb}
use Rattle.laws.specs.Test.{pick}
use Rattle.laws.proofs.Test.{by_order}
use Rattle.answer.specs.Answer.{Answer, refuse, bare, mapped, ensure, fitting, ◌>>=◌}
use Rattle.answer.specs.declared.Part.{Part}
use Rattle.answer.specs.declared.Refusal.{Refusal}
use Rattle.answer.proofs.Answer.{then_accepted, then_refused, both, ensure_yes, ensure_no, ensured}
use Rattle.stream.specs.Tally.{tally}
use Rattle.stream.specs.declared.Counts.{Counts}
use Rattle.stream.specs.Stream.{Row, per_row, judging_from, reading_from}
use Rattle.stream.proofs.Judging.{judging_none}
use Rattle.stream_index.specs.Index.{numbers}
use Rattle.stream_index.proofs.Filling.{length_numbers}
use Rattle.table.specs.Table.{allowed, not_below, rising, checking}
use Rattle.message.specs.Layout.{part, end, Layout, layout_of, extension_at}
use Rattle.message.specs.Message.{built_in, number_at, fixed, sized, front_at, Outcome, passed_over, told, by_type, judging, index_of, extension, answer_of}
use Rattle.message.specs.Private.{extending}
use Rattle.message.specs.declared.Extension.{Extension}
use Rattle.message.specs.declared.Message.TheVariants as Message
use Rattle.message.specs.declared.layout.Payload.{Payload}
use Rattle.message.proofs.PartLaws.{fixed_fits, fixed_cut, sized_refused, sized_then, sized_length, front_begin}

-- The whole message.
module _ (m : List ℕ) where
  pub judging_long : 65535 < length m → judging m ≡ Err (bare 21)
  unfolding judging
  judging_long h = ensure_no _ _ _ (lt-leb (length m) 65535 h)

  pub judging_cut : length m < 2 → judging m ≡ Err (bare 20)
  unfolding judging
  judging_cut h = ensure_yes _ _ _ (le-leb (length m) 65535 (omega arith)) ∙ ensure_no _ _ _ (lt-leb 2 (length m) h)

  pub judging_type : length m ≤ 65535 → 2 ≤ length m → judging m ≡ by_type (number_at 0 m) (layout_of (number_at 0 m)) m
  unfolding judging
  judging_type h k = ensure_yes _ _ _ (le-leb (length m) 65535 h) ∙ ensure_yes _ _ _ (le-leb 2 (length m) k)

-- A type that is none of the five.
pub unknown_odd : (kind : ℕ) (r : Refusal) (m : List ℕ) → kind % 2 ≡ 1 → by_type kind (Err r) m ≡ Ok (passed_over kind)
unfolding by_type
unknown_odd kind r m h = ensure_yes _ _ _ (eq-eqb _ _ h)

pub unknown_even : (kind : ℕ) (r : Refusal) (m : List ℕ) → (kind % 2 ≡ 1 → ⊥) → by_type kind (Err r) m ≡ Err r
unfolding by_type
unknown_even kind r m h = ensure_no _ _ _ (ne_eqb _ _ h)

-- One of the five, part by part.
module _ (kind : ℕ) (l : Layout) (m : List ℕ) where
  pub front_refused : (r : Refusal) → front_at l.front kind m ≡ Err r → by_type kind (Ok l) m ≡ Err r
  unfolding by_type
  front_refused r e = then_refused r _ _ e

  module _ (first : Part) (there : front_at l.front kind m ≡ Ok first) where
    pub last_refused : (r : Refusal) → sized kind (end first) m ≡ Err r → by_type kind (Ok l) m ≡ Err r
    unfolding by_type
    last_refused r e = then_accepted first _ _ there ∙ then_refused r _ _ e

    pub payload_then : (last : Part) → sized kind (end first) m ≡ Ok last → by_type kind (Ok l) m ≡
        extending (l.payload first last (number_at first.start m)) (judging_from (end last) built_in l.namespace m)
    unfolding by_type
    payload_then last e = then_accepted first _ _ there ∙ then_accepted last _ _ e

  -- where a part in front is found, as far as it is not cut short, the rest is asked of its place
  module _ (at n : ℕ) (is : front_at l.front kind m ≡ fixed kind at n m) where
    pub front_cut : length m < at + n + 2 → by_type kind (Ok l) m ≡ Err (refuse 20 0 kind)
    front_cut few =
        by_order (length m) (at + n)
        (λ h. front_refused _ (is ∙ fixed_cut kind at m n h))
        (λ h. last_refused (part at n) (is ∙ fixed_fits kind at m n h) _ (sized_refused kind (at + n) m _ (fixed_cut kind (at + n) m 2 few)))

    module _ (long : at + n + 2 ≤ length m) where
      last_fixed : sized kind (at + n) m ≡ fixed kind (at + n + 2) (number_at (at + n) m) m
      last_fixed = sized_then kind (at + n) m _ (fixed_fits kind (at + n) m 2 long)

      pub last_cut : length m < at + n + 2 + number_at (at + n) m → by_type kind (Ok l) m ≡ Err (refuse 20 0 kind)
      last_cut few =
          last_refused (part at n) (is ∙ fixed_fits kind at m n (omega arith)) _ (last_fixed ∙ fixed_cut kind (at + n + 2) m (number_at (at + n) m) few)

      pub last_fits : at + n + 2 + number_at (at + n) m ≤ length m → by_type kind (Ok l) m ≡
          extending (l.payload (part at n) (part (at + n + 2) (number_at (at + n) m)) (number_at at m))
          (judging_from (at + n + 2 + number_at (at + n) m) built_in l.namespace m)
      last_fits h =
          payload_then (part at n) (is ∙ fixed_fits kind at m n (omega arith)) (part (at + n + 2) (number_at (at + n) m))
          (last_fixed ∙ fixed_fits kind (at + n + 2) m (number_at (at + n) m) h)

-- What an accepted message is made of, where it is not passed over.
pub record Read (m : List ℕ) (p : Payload) (rows : List Row) : Type 0 where
  pub short : length m ≤ 65535
  pub long : 2 ≤ length m
  pub layout : Layout
  pub laid : layout_of (number_at 0 m) ≡ Ok layout
  pub first : Part
  pub fronted : front_at layout.front (number_at 0 m) m ≡ Ok first
  pub last : Part
  pub ended : sized (number_at 0 m) (end first) m ≡ Ok last
  pub extended : judging_from (end last) built_in layout.namespace m ≡ Ok rows
  pub is : p ≡ layout.payload first last (number_at first.start m)

module _ (m : List ℕ) (p : Payload) (rows : List Row) where
  read_type : length m ≤ 65535 → 2 ≤ length m → (x : Answer Layout) → layout_of (number_at 0 m) ≡ x → by_type (number_at 0 m) x m ≡ Ok (told p rows) →
      Read m p rows
  unfolding by_type
  read_type short long (Ok l) laid h =
      let a = both _ _ (told p rows) h in
      let b = both _ _ (told p rows) a.second in
      let c = both _ _ (told p rows) b.second in
      let same : rows ≡ c.is = cc c.second in
      record {
        short = short;
        long = long;
        layout = l;
        laid = laid;
        first = a.is;
        fronted = a.first;
        last = b.is;
        ended = b.first;
        extended = c.first ∙ ap Ok (sym same);
        is = cc c.second;
      }
  read_type short long (Err r) laid h = absurd (let e = (ensured _ _ _ (told p rows) h).rest in let z : ◌≡◌ {A = ℕ} 0 1 = cc in omega arith)

  pub read_is : judging m ≡ Ok (told p rows) → Read m p rows
  unfolding judging
  read_is h =
      let a = ensured _ _ _ (told p rows) h in
      let b = ensured _ _ _ (told p rows) a.rest in
      read_type (leb-true _ _ a.holds) (leb-true _ _ b.holds) (layout_of (number_at 0 m)) refl b.rest

-- its type and the length of its last part are there
pub read_long : (m : List ℕ) (p : Payload) (rows : List Row) → judging m ≡ Ok (told p rows) → 4 ≤ length m
read_long m p rows h =
    let r = read_is m p rows h in
    omega (
      arith,
      front_begin r.layout.front (number_at 0 m) m r.first r.fronted,
      sized_length (number_at 0 m) (end r.first) m r.last r.ended,
    )

-- The extension behind a payload, its rows read into an index of some length: the stream's reader asks for the same room.
module _ (room : ℕ) (p : Payload) where
  fits_test : (rows : List Row) (c : Bool) → (ensure c (bare 12) >>= λ _. Ok (told p rows)) ≡ extending p (ensure c (bare 12) >>= λ _. Ok rows)
  unfolding ensure ◌>>=◌
  fits_test rows true = refl
  fits_test rows false = refl

  fits_rows : (x : Answer (List Row)) → fitting (λ o. length (index_of o)) room (extending p x) ≡ extending p (fitting (λ rows. per_row * length rows) room x)
  unfolding fitting ◌>>=◌
  fits_rows (Err r) = refl
  fits_rows (Ok rows) = rw (length_numbers rows) (fits_test rows (leb (per_row * length rows) room))

  pub extension_fits : (begin ns : ℕ) (m : List ℕ) →
      fitting (λ o. length (index_of o)) room (extending p (judging_from begin built_in ns m)) ≡ extending p (reading_from begin built_in ns m room)
  extension_fits begin ns m = fits_rows (judging_from begin built_in ns m)

-- the built-in table is right
built_in_fine : checking built_in ≡ Ok tt
unfolding checking rising not_below allowed ◌>>=◌ ensure pick
built_in_fine = refl

-- a message without an extension
pub no_extension : (begin ns : ℕ) (m : List ℕ) → ns ≤ 63 → length m ≤ begin → judging_from begin built_in ns m ≡ Ok []
no_extension begin ns m = judging_none begin built_in ns m built_in_fine

-- its index is the index that the stream's reader fills
pub extension_index : (p : Payload) (x : Answer (List Row)) → mapped index_of (extending p x) ≡ mapped numbers x
unfolding ◌>>=◌
extension_index p (Ok rows) = refl
extension_index p (Err r) = refl

-- the answer, by the place and the counts that were found
pub accepted_is : (p : Payload) (begin size : ℕ) (rows : List Row) (records known : ℕ) → begin ≡ extension_at p → tally rows ≡ record { records = records; known = known } →
    Message.Accepted p (record { start = begin; size = size - begin; records = records; known = known }) ≡
    Message.Accepted p (extension (extension_at p) (size - extension_at p) rows)
accepted_is p begin size rows records known b t = rw (b, ← (ap (λ (x : Counts). x.records) t), ← (ap (λ (x : Counts). x.known) t))

-- What the reader's answer says.
module _ (m : List ℕ) where
  pub answer_refused : (x : Answer Outcome) (r : Refusal) → answer_of m x ≡ Err r → x ≡ Err r
  answer_refused (Err q) r h = cc
  answer_refused (Ok (passed_over kind)) r h = absurd (let z : ◌≡◌ {A = ℕ} 0 1 = cc in omega arith)
  answer_refused (Ok (told p rows)) r h = absurd (let z : ◌≡◌ {A = ℕ} 0 1 = cc in omega arith)

  pub answer_passed : (x : Answer Outcome) (kind : ℕ) → answer_of m x ≡ Ok (Message.PassedOver kind) → x ≡ Ok (passed_over kind)
  answer_passed (Ok (passed_over k)) kind h = cc
  answer_passed (Ok (told p rows)) kind h = absurd (let z : ◌≡◌ {A = ℕ} 0 1 = cc in omega arith)
  answer_passed (Err r) kind h = absurd (let z : ◌≡◌ {A = ℕ} 0 1 = cc in omega arith)

  pub answer_accepted : (x : Answer Outcome) (p : Payload) (e : Extension) → answer_of m x ≡ Ok (Message.Accepted p e) →
      (rows : List Row) × (x ≡ Ok (told p rows)) × (length rows ≡ e.records)
  answer_accepted (Ok (told q rows)) p e h =
      let is : extension (extension_at q) (length m - extension_at q) rows ≡ e = cc in
      (rows, cc, ap (λ (x : Extension). x.records) is)
  answer_accepted (Ok (passed_over kind)) p e h = absurd (let z : ◌≡◌ {A = ℕ} 0 1 = cc in omega arith)
  answer_accepted (Err r) p e h = absurd (let z : ◌≡◌ {A = ℕ} 0 1 = cc in omega arith)
