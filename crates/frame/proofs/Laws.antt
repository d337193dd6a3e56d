-- What callers use of a record's frame. Assumes nothing.
use Rattle.std.specs.Prelude.{Ok, Err}
use mathlib.Core.Path.{◌≡◌, refl, sym, ap, ◌∙◌}
use mathlib.Core.List.{List, [], ◌++◌, append-nil}
use Prim.Native.Nat.{ℕ, ◌+◌, ◌-◌, ◌≤◌, ◌<◌}
use native.Mathlib.Omega.{arith}
use lib.Dec.{eqb}
use lib.ListN.{length, drop, length-append, length-drop}
use lib.Seq.{take-append-le, drop-append-le}
use borrow.Author.Tests.{eq-eqb, ne_eqb, leb-true, le-leb, lt-leb}
use Rattle.bigsize.proofs.Laws.{reading_width, reading_more, read_peeked}
use Rattle.bigsize.specs.BigSize.{number, reading, peeking}
use Rattle.bigsize.specs.declared.Number.{Number}
use Rattle.laws.specs.Test.{pick}
use Rattle.laws.proofs.Test.{pick_yes, pick_no, pick_all}
use Rattle.answer.specs.Answer.{Answer, lacking, refuse, bare, retold, ◌>>=◌}
use Rattle.answer.proofs.Answer.{then_accepted, then_refused, then_all, both, ensured, retold_accepted, retold_refused, ensure_yes, ensure_no, ensure_all}
use Rattle.answer.specs.Missing.{CutShort}
use Rattle.answer.specs.declared.Refusal.{Refusal}
use Rattle.answer.proofs.Missing.{whole_uncut}
use Rattle.frame.specs.Frame.{Frame, frame, fault, faulty, sized, framing, value_in, behind}

-- a BigSize's refusal, told of a type or a length: by whether it is of what is cut short, or 2
pub fault_cut : (long cut : ℕ) (q : Refusal) → CutShort q → fault long cut q.number ≡ cut
fault_cut long cut q c =
    pick_no _ _ _ (ne_eqb q.number 2 (λ e. whole_uncut (bare 2) (refl, refl) (rw e at c)))

pub fault_long : (long cut : ℕ) (q : Refusal) → q ≡ bare 2 → fault long cut q.number ≡ long
fault_long long cut q two = pick_yes _ _ _ (eq-eqb q.number 2 (ap (λ (r : Refusal). r.number) two))

-- a refusal from 1 to 6 at its place
abbrev pub At : (place : ℕ) → Refusal → Type 0
At place r = (r.place ≡ place) × (1 ≤ r.number) × (r.number ≤ 6)

-- The record at the front of some bytes lies in them and its type is at least `low`; a refusal, 1 to 6, is at its place.
abbrev pub Sound : (low place room : ℕ) → Answer Frame → Type 0
Sound low place room (Ok x) = (low ≤ x.kind) × (2 ≤ x.head) × (x.head + x.size ≤ room)
Sound low place room (Err r) = At place r

-- a type or a length that cannot be read
fault_at_place : (long cut place kind : ℕ) → (1 ≤ long) × (long ≤ 6) → (1 ≤ cut) × (cut ≤ 6) → (s : List ℕ) (r : Refusal) →
    retold (faulty long cut place kind) (reading s) ≡ Err r → At place r
fault_at_place long cut place kind l c s r e =
    let q = retold_refused (faulty long cut place kind) (reading s) r e in
    let in_List = pick_all (λ m. (1 ≤ m) × (m ≤ 6)) (eqb q.first.number 2) long cut (λ _. l) (λ _. c) in
    rw q.is (refl, in_List.0, in_List.1)

module _ (low place : ℕ) (bs : List ℕ) where
  framing_sound : Sound low place (length bs) (framing low place bs)
  unfolding framing sized
  framing_sound =
      then_all G _ _
      (λ t et.
      let wt = reading_width bs t (retold_accepted _ _ t et) in
      ensure_all G _ _ _
      (λ rises.
      then_all G _ _
      (λ n en.
      let wn = reading_width (drop t.width bs) n (retold_accepted _ _ n en) in
      ensure_all G _ _ _
      (λ whole. (leb-true low t.value rises, omega arith, leb-true _ _ whole))
      (λ _. (refl, omega arith, omega arith)))
      (λ r er. fault_at_place 5 4 place t.value (omega arith) (omega arith) (drop t.width bs) r er))
      (λ _. (refl, omega arith, omega arith)))
      (λ r er. fault_at_place 2 1 place 0 (omega arith) (omega arith) bs r er)
    where
      G : Answer Frame → Type 0
      G = Sound low place (length bs)

  -- a frame that was read lies in its bytes
  pub framed : (x : Frame) → framing low place bs ≡ Ok x → (low ≤ x.kind) × (2 ≤ x.head) × (x.head + x.size ≤ length bs)
  framed x e = rw e at framing_sound

  -- a frame that was refused: 1 to 6, at its place
  pub unframed : (r : Refusal) → framing low place bs ≡ Err r → At place r
  unframed r e = rw e at framing_sound

-- where there is no byte, the type is cut short
pub framing_nothing : (low place : ℕ) → framing low place [] ≡ Err (lacking 1 place 0 1)
unfolding framing reading pick ◌>>=◌
framing_nothing low place = refl

-- What a frame is made of, whatever its place and the least type: two numbers.
pub record Made (bs : List ℕ) (x : Frame) : Type 0 where
  pub kind : Number
  pub size : Number
  pub kind_read : reading bs ≡ Ok kind
  pub size_read : reading (drop kind.width bs) ≡ Ok size
  pub is : x ≡ frame kind.value (kind.width + size.width) size.value

pub made : (low place : ℕ) (bs : List ℕ) (x : Frame) → framing low place bs ≡ Ok x → Made bs x
unfolding framing sized
made low place bs x e =
    let t = both _ _ x e in
    let n = both _ _ x (ensured _ _ _ x t.second).rest in
    let whole = (ensured _ _ _ x n.second).rest in
    record { kind = t.is; size = n.is; kind_read = retold_accepted _ _ _ t.first; size_read = retold_accepted _ _ _ n.first; is = cc }

-- A frame that was read is that of the two numbers that are peeked.
pub peeked : (low place : ℕ) (bs : List ℕ) (x : Frame) → framing low place bs ≡ Ok x →
    (kind size : Number) → kind ≡ peeking bs → size ≡ peeking (drop kind.width bs) → x ≡ frame kind.value (kind.width + size.width) size.value
peeked low place bs x e kind size k n =
    let m = made low place bs x e in
    let t : kind ≡ m.kind = k ∙ read_peeked bs m.kind m.kind_read in
    let l : size ≡ m.size = rw t at n ∙ read_peeked _ m.size m.size_read in
    rw (t, l) m.is

-- The answers, one by one.

module _ (low place : ℕ) (bs : List ℕ) where
  pub framing_refused : (r : Refusal) → reading bs ≡ Err r → framing low place bs ≡ Err (faulty 2 1 place 0 r)
  unfolding framing
  framing_refused r e = then_refused _ _ _ (rw e)

  module _ (kind width : ℕ) (e : reading bs ≡ Ok (number kind width)) where
    pub framing_falls : kind < low → framing low place bs ≡ Err (refuse 3 place kind)
    unfolding framing
    framing_falls h = then_accepted (number kind width) _ _ (rw e) ∙ ensure_no _ _ _ (lt-leb low kind h)

    pub framing_rises : low ≤ kind → framing low place bs ≡ sized kind width place bs
    unfolding framing
    framing_rises h = then_accepted (number kind width) _ _ (rw e) ∙ ensure_yes _ _ _ (le-leb low kind h)

module _ (kind width place : ℕ) (bs : List ℕ) where
  pub sized_refused : (r : Refusal) → reading (drop width bs) ≡ Err r → sized kind width place bs ≡ Err (faulty 5 4 place kind r)
  unfolding sized
  sized_refused r e = then_refused _ _ _ (rw e)

  module _ (size more : ℕ) (e : reading (drop width bs) ≡ Ok (number size more)) where
    pub sized_cut : length bs < width + more + size → sized kind width place bs ≡ Err (lacking 6 place kind (size - (length bs - (width + more))))
    unfolding sized
    sized_cut h =
        rw (← length-drop (width + more) bs) (then_accepted (number size more) _ _ (rw e) ∙ ensure_no _ _ _ (lt-leb (width + more + size) (length bs) h))

    pub sized_whole : width + more + size ≤ length bs → sized kind width place bs ≡ Ok (frame kind (width + more) size)
    unfolding sized
    sized_whole h = then_accepted (number size more) _ _ (rw e) ∙ ensure_yes _ _ _ (le-leb (width + more + size) (length bs) h)

-- A frame that was read, at any place, with types that rise from any one up to its own, and where more bytes follow.
module _ (low place : ℕ) (bs : List ℕ) (x : Frame) (e : framing low place bs ≡ Ok x) where
  pub framing_again : (low' place' : ℕ) → low' ≤ x.kind → (more : List ℕ) → framing low' place' (bs ++ more) ≡ Ok x
  framing_again low' place' rises more =
      let m = made low place bs x e in
      let w = framed low place bs x e in
      let k : x.kind ≡ m.kind.value = ap (λ (y : Frame). y.kind) m.is in
      let h : x.head ≡ m.kind.width + m.size.width = ap (λ (y : Frame). y.head) m.is in
      let n : x.size ≡ m.size.value = ap (λ (y : Frame). y.size) m.is in
      let size_read : reading (drop m.kind.width (bs ++ more)) ≡ Ok m.size =
      rw (drop-append-le m.kind.width bs more (reading_width bs m.kind m.kind_read).1) (reading_more _ m.size m.size_read more) in
      framing_rises low' place' (bs ++ more) m.kind.value m.kind.width (reading_more bs m.kind m.kind_read more) (omega arith)
      ∙ sized_whole m.kind.value m.kind.width place' (bs ++ more) m.size.value m.size.width size_read (omega (arith, length-append bs more))
      ∙ ap Ok (sym m.is)

  pub framing_anywhere : framing 0 0 bs ≡ Ok x
  framing_anywhere = rw append-nil at (framing_again 0 0 (omega arith) [])

  -- its value, and what is behind it
  pub value_more : (more : List ℕ) → value_in x (bs ++ more) ≡ value_in x bs
  value_more more =
      let w = framed low place bs x e in
      rw (drop-append-le x.head bs more (omega arith)) (take-append-le x.size (drop x.head bs) more (omega (arith, length-drop x.head bs)))

  pub behind_more : (more : List ℕ) → behind x (bs ++ more) ≡ behind x bs ++ more
  behind_more more = let w = framed low place bs x e in drop-append-le (x.head + x.size) bs more (omega arith)
