-- The cycle of `judge_stream` and `judge_value` meets its contracts: each answer by its rule. Assumes nothing.
use Rattle.std.specs.Prelude.{Ok}
use Rattle.std.proofs.Common.{arith, sym, ap, ◌≡◌, ℕ, ◌+◌, ◌-◌, ◌≤◌, ◌<◌, List, length, take, drop, length-drop}
use native.Mathlib.Nat.{add-zero, add_assoc}
use lib.ListN.{length-take}
use lib.Seq.{drop-drop}
use Rattle.laws.proofs.Lists.{part_tail, part_behind}
use Rattle.frame.proofs.Laws.{framed}
use Rattle.frame.specs.Frame.{frame, framing}
use Rattle.stream.specs.Sought.{ends, unframed, stops, goes}
use Rattle.stream.proofs.Records.{joined_none, joined_joined, counted_le}
use Rattle.stream.proofs.Seeking.{valued_odd, valued_even, valued_flat, valued_deep, valued_stream, enters}
use Rattle.stream.proofs.judge.+judge_stream_judge_value.Goals as goal
use Rattle.answer.proofs.Answer.{handed_on}

-- some bytes are left
some : (bytes : List ℕ) (at : ℕ) → at < length bytes → 0 < length (drop at bytes)
some bytes at more = omega (arith, length-drop at bytes)

-- a record at `at` lies in the bytes
fits : (low place : ℕ) {kind head size : ℕ} (bytes : List ℕ) (at : ℕ) → at < length bytes → framing low place (drop at bytes) ≡ Ok (frame kind head size) →
    (2 ≤ head) × (at + head + size ≤ length bytes)
fits low place bytes at more is = let w = framed _ _ _ _ is in omega (arith, length-drop at bytes)

-- Of `judge_stream`.

pub judge_stream-loop-at-init : goal.judge_stream-loop-at-init
judge_stream-loop-at-init t c = (omega arith, omega arith, omega arith, λ a s. rw (joined_none a) (rw add-zero at s))

pub judge_stream-returns-in_err-record : goal.judge_stream-returns-in_err-record
judge_stream-returns-in_err-record t c =
    rw (handed_on c.from_residual.ensures.1)
    (c.loop-at.invariant.3 _ (unframed (some _ _ c.loop-at-test.true) (sym (rw part_tail at c.in_err-record.ensures.result_value))))

pub judge_stream-overflow_add-start : goal.judge_stream-overflow_add-start
judge_stream-overflow_add-start t c = omega (arith, fits _ _ _ _ c.loop-at-test.true (sym (rw part_tail at c.in_ok-record.ensures.result_value)))

pub judge_stream-overflow_add-value : goal.judge_stream-overflow_add-value
judge_stream-overflow_add-value t c = omega (arith, fits _ _ _ _ c.loop-at-test.true (sym (rw part_tail at c.in_ok-record.ensures.result_value)))

pub judge_stream-slice_bounds-value-end : goal.judge_stream-slice_bounds-value-end
judge_stream-slice_bounds-value-end t c =
    omega (arith, fits _ _ _ _ c.loop-at-test.true (sym (rw part_tail at c.in_ok-record.ensures.result_value)))

pub judge_stream-overflow_add-base-in-loop-at : goal.judge_stream-overflow_add-base-in-loop-at
judge_stream-overflow_add-base-in-loop-at t c =
    omega (arith, fits _ _ _ _ c.loop-at-test.true (sym (rw part_tail at c.in_ok-record.ensures.result_value)))

pub judge_stream-judge_value-requires : goal.judge_stream-judge_value-requires
judge_stream-judge_value-requires t c =
    let start = c.loop-at.at + c.in_ok-record.«record».head in
    let f = fits _ _ _ _ c.loop-at-test.true (sym (rw part_tail at c.in_ok-record.ensures.result_value)) in
    let n : length (take (start + c.in_ok-record.«record».size - start) (drop start c.args.bytes.now)) ≤ c.in_ok-record.«record».size =
    omega (arith, length-take (start + c.in_ok-record.«record».size - start) (drop start c.args.bytes.now)) in
    (omega (arith, c.decreases), omega arith)

pub judge_stream-returns-in_err-judge_value : goal.judge_stream-returns-in_err-judge_value
judge_stream-returns-in_err-judge_value t c =
    let l = c.loop-at in
    let a = c.args in
    let v = c.in_ok-record.«record» in
    let is = sym (rw part_tail at c.in_ok-record.ensures.result_value) in
    let value =
    rw (ap (λ w. w.found) c.find-search.ensures, part_behind a.bytes.now l.at v.head v.size, ← (add_assoc a.base l.at v.head)) at
    c.in_err-judge_value.ensures in
    rw (handed_on c.from_residual-in_err-judge_value.ensures.1) (l.invariant.3 _ (stops _ (some _ _ c.loop-at-test.true) is value))

pub judge_stream-overflow_add-known : goal.judge_stream-overflow_add-known
judge_stream-overflow_add-known t c =
    omega (arith, fits _ _ _ _ c.loop-at-test.true (sym (rw part_tail at c.in_ok-record.ensures.result_value)), counted_le c.of.result)

pub judge_stream-overflow_add-at : goal.judge_stream-overflow_add-at
judge_stream-overflow_add-at t c =
    omega (arith, fits _ _ _ _ c.loop-at-test.true (sym (rw part_tail at c.in_ok-record.ensures.result_value)), c.in_ok-record.ensures.spans)

pub judge_stream-loop-at-smaller : goal.judge_stream-loop-at-smaller
judge_stream-loop-at-smaller t c =
    omega (arith, fits _ _ _ _ c.loop-at-test.true (sym (rw part_tail at c.in_ok-record.ensures.result_value)), c.in_ok-record.ensures.spans)

pub judge_stream-loop-at-preserved : goal.judge_stream-loop-at-preserved
judge_stream-loop-at-preserved t c =
    let l = c.loop-at in
    let a = c.args in
    let v = c.in_ok-record.«record» in
    let is = sym (rw part_tail at c.in_ok-record.ensures.result_value) in
    let f = fits _ _ _ _ c.loop-at-test.true is in
    let whole : v.whole ≡ v.head + v.size = c.in_ok-record.ensures.spans in
    let found = ap (λ w. w.found) c.find-search.ensures in
    let behind = part_behind a.bytes.now l.at v.head v.size in
    let place : a.base + l.at + (v.head + v.size) ≡ a.base + (l.at + v.whole) = omega arith in
    let rest : drop (v.head + v.size) (drop l.at a.bytes.now) ≡ drop (l.at + v.whole) a.bytes.now = rw (drop-drop (v.head + v.size) l.at a.bytes.now, whole) in (
      omega arith,
      omega arith,
      omega (arith, counted_le c.of.result),
      λ z s.
          let next = rw (ap (λ w. w.next) c.find-search.ensures, ← place, ← rest) at s in
          let fine = rw (found, behind, ← (add_assoc a.base l.at v.head)) at c.in_ok-judge_value.ensures in
          rw (c.known_by-known.ensures, rw (found, behind) at c.of.ensures)
          (rw joined_joined at (l.invariant.3 _ (goes _ (some _ _ c.loop-at-test.true) is fine next))),
    )

pub judge_stream-returns : goal.judge_stream-returns
judge_stream-returns t c =
    let none : length (drop c.loop-at.at c.args.bytes.now) ≡ 0 = omega (arith, length-drop c.loop-at.at c.args.bytes.now) in
    simp add-zero at (c.loop-at.invariant.3 _ (ends none))

-- Of `judge_value`.

pub judge_value-returns-then-kind-eq1 : goal.judge_value-returns-then-kind-eq1
judge_value-returns-then-kind-eq1 t c = valued_odd _ _ _ _ _ _ _ c.in-None.is c.if-kind-eq1.true

pub judge_value-returns-then-form-ne5 : goal.judge_value-returns-then-form-ne5
judge_value-returns-then-form-ne5 t c = valued_flat _ _ _ _ _ _ _ _ _ c.in-Some.is c.if-form-ne5.true _ c.judge.ensures

pub judge_value-returns-then-levels-eq0 : goal.judge_value-returns-then-levels-eq0
judge_value-returns-then-levels-eq0 t c =
    rw c.at-then-levels-eq0.ensures (valued_deep _ _ _ _ _ _ _ _ _ c.in-Some.is c.if-form-ne5.false c.if-levels-eq0.true)

pub judge_value-returns-else-kind-eq1 : goal.judge_value-returns-else-kind-eq1
judge_value-returns-else-kind-eq1 t c = rw c.at.ensures (valued_even _ _ _ _ _ _ _ c.in-None.is c.if-kind-eq1.false)

pub judge_value-returns-in_ok-judge_stream-in-Some : goal.judge_value-returns-in_ok-judge_stream-in-Some
judge_value-returns-in_ok-judge_stream-in-Some t c =
    let some : 0 < c.args.levels = omega (arith, c.if-levels-eq0.false) in
    valued_stream _ _ _ _ _ _ _ _ _ c.in-Some.is c.if-form-ne5.false some _ (enters _ _ _ _ _ _ some c.in_ok-judge_stream-in-Some.ensures)

pub judge_value-returns-in_err-judge_stream-in-Some : goal.judge_value-returns-in_err-judge_stream-in-Some
judge_value-returns-in_err-judge_stream-in-Some t c =
    let some : 0 < c.args.levels = omega (arith, c.if-levels-eq0.false) in
    rw (handed_on c.from_residual.ensures.1)
    (valued_stream _ _ _ _ _ _ _ _ _ c.in-Some.is c.if-form-ne5.false some _ (enters _ _ _ _ _ _ some c.in_err-judge_stream-in-Some.ensures))
