-- A stream put behind its namespace and its length. Assumes nothing.
use mathlib.Core.List.{List, [], ◌∷◌, ◌++◌}
use mathlib.Core.Path.{◌≡◌, refl, sym, ap, ◌∙◌}
use Prim.Native.Nat.{ℕ, suc, ◌+◌, ◌-◌, ◌/◌, ◌%◌, ◌≤◌, ◌<◌}
use native.Mathlib.Nat.{zero-add}
use native.Mathlib.Omega.{arith}
use lib.ListN.{length, take, drop, set, length-append, length-drop}
use lib.Seq.{sets, set_comm, length-take-le}
use Rattle.laws.specs.Digits.{to_bytes}
use Rattle.laws.proofs.Digits.{to_last, to_one}
use Rattle.laws.proofs.Lists.{triple_put, sets_append}
use Rattle.book.specs.Book.{Parts, end_of}
use Rattle.book_mender.specs.BookMender.{stream_of, new_streams, new_book}

-- an element before a run, set after it
set_before : (l b : List ℕ) (i j x : ℕ) → i < j → set (sets l j b) i x ≡ sets (set l i x) j b
set_before l [] i j x h = refl
set_before l (y ∷ b) i j x h =
    set_before (set l j y) b i (suc j) x (omega arith) ∙ ap (λ (m : List ℕ). sets m (suc j) b) (set_comm l j i y x (λ e. omega arith))

-- the two bytes of a length
pub two_bytes : (n : ℕ) → n ≤ 65535 → to_bytes 2 n ≡ n / 256 ∷ n % 256 ∷ []
two_bytes n h =
    let high : n / 256 % 256 ≡ n / 256 = omega arith in
    to_last 8 1 n ∙ rw (to_one 8 (n / 256), high)

-- what stands before a stream, set after it
pub stream_put : (l s : List ℕ) (at namespace size : ℕ) → size ≡ length s → size ≤ 65535 →
    set (set (set (sets l (at + 3) s) at namespace) (at + 1) (size / 256)) (at + 2) (size % 256) ≡ sets l at (stream_of namespace s)
stream_put l s at namespace size is small =
    rw (
      set_before l s at (at + 3) namespace (omega arith),
      set_before (set l at namespace) s (at + 1) (at + 3) (size / 256) (omega arith),
      set_before (set (set l at namespace) (at + 1) (size / 256)) s (at + 2) (at + 3) (size % 256) (omega arith),
      triple_put l at namespace (size / 256) (size % 256) s,
      ← is,
      two_bytes size small,
    ) refl

-- how long it is then
pub length_stream : (namespace : ℕ) (s : List ℕ) → length s ≤ 65535 → length (stream_of namespace s) ≡ 3 + length s
length_stream namespace s small = rw (two_bytes (length s) small) (omega arith)

-- three runs, one behind the other
three_put : (l a b c : List ℕ) (at end : ℕ) → at ≡ length a → end ≡ at + length b → sets (sets (sets l 0 a) at b) end c ≡ sets l 0 (a ++ (b ++ c))
three_put l a b c at end first second =
    rw (second, first) (sym (rw (zero-add) at (sets_append l 0 a (b ++ c) ∙ sets_append (sets l 0 a) (0 + length a) b c)))

-- what stands before the streams, what they become, and what stands behind them, put one behind the other
module _ (book : List ℕ) (p : Parts) where
  pub record Whole (before after : List ℕ) (end : ℕ) : Type 0 where
    pub size : end ≡ length (new_book book p)
    pub is : after ≡ sets before 0 (new_book book p)

  pub whole_put : (before put after : List ℕ) (begin old new : ℕ) → begin ≡ p.streams.begin → begin ≤ length book → old ≡ end_of p.streams →
      new ≡ begin + length (new_streams book p.streams.items) →
      put ≡ sets (sets before 0 (take begin book)) begin (new_streams book p.streams.items) → after ≡ sets put new (drop old book) →
      Whole before after (new + (length book - old))
  whole_put before put after begin old new starts inside ends to first second =
      let a = take p.streams.begin book in
      let b = new_streams book p.streams.items in
      let c = drop (end_of p.streams) book in
      let long = length-take-le p.streams.begin book (rw starts at inside) in
      record {
        size = omega (arith, length-append a (b ++ c), length-append b c, long, length-drop (end_of p.streams) book, starts, ends, to);
        is = second ∙ rw (first, ends, starts) (three_put before a b c p.streams.begin new (sym long) (to ∙ ap (λ (n : ℕ). n + length b) starts));
      }
