-- `message::parts::payload` meets its contract: part by part. Assumes nothing.
use Rattle.std.proofs.Common.{arith, ap, ◌≡◌, ◌∙◌, ℕ, ◌+◌, ◌≤◌, Ok, List, length}
use mathlib.Core.Path.{ap₂}
use Rattle.answer.specs.Answer.{mapped}
use Rattle.stream.specs.Stream.{judging_from}
use Rattle.message.specs.Layout.{end, part, parts, Layout, layout_of, shaped, shape_of}
use Rattle.message.specs.Message.{built_in, number_at, fixed, front_at}
use Rattle.message.specs.Private.{by_front, Stands, extending}
use Rattle.message.specs.declared.layout.Front.{Front}
use Rattle.message.specs.declared.layout.Payload.{Payload}
use Rattle.message.specs.declared.parts.Before.{Before}
use Rattle.message.proofs.LayoutLaws.{told_by, shape_layout}
use Rattle.message.proofs.MessageLaws.{front_cut, last_cut, last_fits}
use Rattle.message.proofs.parts.payload.Goals as goal

-- what stands in front of a type of that layout
module _ (kind : ℕ) (front : Front) (before : Before) (m : List ℕ) (stands : Stands front before m) (ns : ℕ)
    (h : mapped shape_of (layout_of kind) ≡ Ok (shaped front ns)) where
  layout_is : (l : Layout) × (layout_of kind ≡ Ok l) × (l.front ≡ front) × (l.namespace ≡ ns)
  layout_is = shape_layout (layout_of kind) _ _ h

  front_is : front_at layout_is.0.front kind m ≡ fixed kind stands.lies.start stands.lies.size m
  front_is = rw layout_is.2 (stands.is kind)

pub returns-then-message-before-clause-parsed_by : goal.returns-then-message-before-clause-parsed_by
returns-then-message-before-clause-parsed_by c ns h =
    let a = c.args in
    let stands = c.front_at-before.ensures.by_index _ c.requires.1 in
    let few = rw stands.ends at c.if-message-before.true in
    let l = layout_is a.kind a.front _ a.message.now stands ns h in
    rw (c.cut.ensures, l.1) (front_cut a.kind l.0 a.message.now _ _ (front_is a.kind a.front _ a.message.now stands ns h) few)

pub returns-then-message-start-clause-parsed_by : goal.returns-then-message-start-clause-parsed_by
returns-then-message-start-clause-parsed_by c ns h =
    let a = c.args in
    let stands = c.front_at-before.ensures.by_index _ c.requires.1 in
    let long = rw stands.ends at c.if-message-before.false in
    let few = rw (c.number_at-size.ensures.0, stands.ends) at c.if-message-start.true in
    let l = layout_is a.kind a.front _ a.message.now stands ns h in
    rw (c.cut-then-message-start.ensures, l.1)
    (last_cut a.kind l.0 a.message.now _ _ (front_is a.kind a.front _ a.message.now stands ns h) long (omega (arith, long, few)))

pub returns-clause-parsed_by : goal.returns-clause-parsed_by
returns-clause-parsed_by c ns h =
    let a = c.args in
    let kind = a.kind in
    let m = a.message.now in
    let r = c.front_at-before.result in
    let stands = c.front_at-before.ensures.by_index _ c.requires.1 in
    let p = stands.lies in
    let long = rw stands.ends at c.if-message-before.false in
    let room = rw (c.number_at-size.ensures.0, stands.ends) at c.if-message-start.false in
    let begin = end p + 2 + number_at (end p) m in
    let last = part (end p + 2) (number_at (end p) m) in
    let fits : begin ≤ length m = omega (arith, long, room) in
    let told = stands.tells (omega (arith, stands.ends, long)) kind last in
    let l = layout_is kind a.front _ m stands ns h in
    let tells : l.0.payload p last (number_at p.start m) ≡ parts kind r.first last r.wanted =
    told_by p last (number_at p.start m) kind l.0 l.1 ∙ ap (λ (x : Front). by_front x kind p last (number_at p.start m)) l.2 ∙ told in
    rw (c.number_at-size.ensures.0, stands.ends)
    (rw l.1 (last_fits kind l.0 m _ _ (front_is kind a.front _ m stands ns h) long fits)
    ∙ ap₂ (λ (k : ℕ) (q : Payload). extending q (judging_from begin built_in k m)) l.3 tells)
