-- `message_writer::write` meets its contract: all that can be refused is asked, then the payload is put, and the extension behind it. Assumes nothing.
use Rattle.std.proofs.Common.{arith, refl, sym, ap, ◌≡◌, ◌+◌, ◌≤◌, ◌<◌, ◌++◌, ℕ, Ok, Err, List, length, length-append, min}
use Rattle.answer.specs.Answer.{bare, mapped}
use Rattle.answer.proofs.Answer.{handed_on, not_refused, mapped_accepted, mapped_refused, fitting_refused, fitting_short, fitting_fits}
use Rattle.stream_writer.specs.Writer.{composing as composingStream}
use Rattle.stream_writer.proofs.Composing.{composed as composedStream}
use Rattle.message.specs.Layout.{Layout, layout_of, shape_of}
use Rattle.message.specs.Message.{built_in}
use Rattle.message.specs.declared.layout.Shape.{Shape}
use Rattle.message.proofs.LayoutLaws.{shape_layout}
use Rattle.message_writer.specs.Writer.{payload, Draft, draft, composing}
use Rattle.message_writer.proofs.Composing.{composing_unknown, composing_payload, composing_stream, composing_long, composing_fits, extension_written, message_put}
use Rattle.message_writer.proofs.Named.{kind_small}
use Rattle.message_writer.proofs.write.Goals as goal

-- the type's layout, asked first
module _ (d : Draft) (shape : Shape) (known : Ok shape ≡ mapped shape_of (layout_of d.kind)) where
  layout_is : (l : Layout) × (layout_of d.kind ≡ Ok l) × (l.front ≡ shape.front) × (l.namespace ≡ shape.namespace)
  layout_is = shape_layout (layout_of d.kind) _ _ (sym known)

  -- the payload, measured next
  module _ (begin : ℕ) (measured : Ok begin ≡ mapped (λ b. min (length b) 65536) (payload shape.front d.kind d.first d.last d.wanted)) where
    paid_of : (b : List ℕ) × (payload shape.front d.kind d.first d.last d.wanted ≡ Ok b) × (min (length b) 65536 ≡ begin)
    paid_of = mapped_accepted _ _ _ (sym measured)

    paid_as : payload layout_is.0.front d.kind d.first d.last d.wanted ≡ Ok paid_of.0
    paid_as = rw layout_is.2 paid_of.1

    -- the extension, measured last
    module _ (more : ℕ) (counted : Ok more ≡ mapped length (composingStream built_in shape.namespace d.triples d.source)) where
      extended_of : (e : List ℕ) × (composingStream built_in shape.namespace d.triples d.source ≡ Ok e) × (length e ≡ more)
      extended_of = mapped_accepted _ _ _ (sym counted)

      extended_as : composingStream built_in layout_is.0.namespace d.triples d.source ≡ Ok extended_of.0
      extended_as = rw layout_is.3 extended_of.1

      -- how long both are
      sizes : (min (length paid_of.0) 65536 ≡ begin) × (length extended_of.0 ≡ more) × (length extended_of.0 ≤ 65535)
      sizes =
          let e = extended_of in
          let s = composedStream _ _ _ _ e.0 e.1 in
          (paid_of.2, e.2, omega (arith, s.short, ap length s.is))

      -- the message, where it is not too long
      message_of : begin + more ≤ 65535 → (composing d ≡ Ok (paid_of.0 ++ extended_of.0)) × (length (paid_of.0 ++ extended_of.0) ≡ begin + more)
      message_of short =
          let long = length-append paid_of.0 extended_of.0 in (
            composing_fits d layout_is.0 layout_is.1 paid_of.0 paid_as extended_of.0 extended_as (omega (arith, sizes, short, long)),
            omega (arith, sizes, short, long),
          )

      message_long : 65535 < begin + more → composing d ≡ Err (bare 21)
      message_long long =
          let all = length-append paid_of.0 extended_of.0 in
          composing_long d layout_is.0 layout_is.1 paid_of.0 paid_as extended_of.0 extended_as (omega (arith, sizes, long, all))

-- the type's refusal
pub returns-in_err-shape : goal.returns-in_err-shape
returns-in_err-shape c =
    let a = c.args in
    let d = draft a.kind a.first.now a.last.now a.wanted a.triples.now a.source.now in
    let e = mapped_refused shape_of (layout_of a.kind) _ (sym c.in_err-shape.ensures) in
    rw (fitting_refused length (length a.out.now) _ _ (composing_unknown d _ e)) (handed_on c.from_residual.ensures.1, refl)

-- the payload's
pub returns-in_err-begin : goal.returns-in_err-begin
returns-in_err-begin c =
    let a = c.args in
    let d = draft a.kind a.first.now a.last.now a.wanted a.triples.now a.source.now in
    let l = layout_is d c.in_ok-shape.shape c.in_ok-shape.ensures in
    let e = mapped_refused _ _ _ (sym (c.in_err-begin.ensures a.wanted)) in
    let unpaid = composing_payload d l.0 l.1 _ (rw l.2 e) in
    rw (fitting_refused length (length a.out.now) _ _ unpaid) (handed_on c.from_residual-in_err-begin.ensures.1, refl)

-- the extension's
pub returns-in_err-more : goal.returns-in_err-more
returns-in_err-more c =
    let a = c.args in
    let d = draft a.kind a.first.now a.last.now a.wanted a.triples.now a.source.now in
    let shape = c.in_ok-shape.shape in
    let l = layout_is d shape c.in_ok-shape.ensures in
    let b = paid_of d shape c.in_ok-shape.ensures _ (c.in_ok-begin.ensures a.wanted) in
    let paid = paid_as d shape c.in_ok-shape.ensures _ (c.in_ok-begin.ensures a.wanted) in
    let e = mapped_refused _ _ _ (sym c.in_err-more.ensures) in
    let unextended = composing_stream d l.0 l.1 b.0 paid _ (rw l.3 e) in
    rw (fitting_refused length (length a.out.now) _ _ unextended) (handed_on c.from_residual-in_err-more.ensures.1, refl)

pub overflow_add-size : goal.overflow_add-size
overflow_add-size c =
    let a = c.args in
    let d = draft a.kind a.first.now a.last.now a.wanted a.triples.now a.source.now in
    omega (arith, sizes d c.in_ok-shape.shape c.in_ok-shape.ensures _ (c.in_ok-begin.ensures a.wanted) _ c.in_ok-more.ensures)

pub returns-then-size-gt65535 : goal.returns-then-size-gt65535
returns-then-size-gt65535 c =
    let a = c.args in
    let d = draft a.kind a.first.now a.last.now a.wanted a.triples.now a.source.now in
    let long = message_long d c.in_ok-shape.shape c.in_ok-shape.ensures _ (c.in_ok-begin.ensures a.wanted) _ c.in_ok-more.ensures c.if-size-gt65535.true in
    rw (fitting_refused length (length a.out.now) _ _ long) (ap Err c.bare.ensures, refl)

pub returns-then-out-size : goal.returns-then-out-size
returns-then-out-size c =
    let a = c.args in
    let d = draft a.kind a.first.now a.last.now a.wanted a.triples.now a.source.now in
    let m = message_of d c.in_ok-shape.shape c.in_ok-shape.ensures _ (c.in_ok-begin.ensures a.wanted) _ c.in_ok-more.ensures c.if-size-gt65535.false in
    rw (fitting_short length (length a.out.now) _ _ m.0 (omega (arith, m.1, c.if-out-size.true))) (ap Err c.bare-then-out-size.ensures, refl)

pub put-requires : goal.put-requires
put-requires c =
    let a = c.args in
    let d = draft a.kind a.first.now a.last.now a.wanted a.triples.now a.source.now in
    let shape = c.in_ok-shape.shape in
    let l = layout_is d shape c.in_ok-shape.ensures in
    let b = paid_of d shape c.in_ok-shape.ensures _ (c.in_ok-begin.ensures a.wanted) in
    let few = sizes d shape c.in_ok-shape.ensures _ (c.in_ok-begin.ensures a.wanted) _ c.in_ok-more.ensures in
    record {
      kind_bound = kind_small _ l.0 l.1;
      by_index = (b.0, b.1, omega (arith, few, c.if-size-gt65535.false), omega (arith, few, c.if-size-gt65535.false, c.if-out-size.false));
    }

-- what was measured is written behind the payload
pub returns-in_err-write : goal.returns-in_err-write
returns-in_err-write c =
    let a = c.args in
    let d = draft a.kind a.first.now a.last.now a.wanted a.triples.now a.source.now in
    let shape = c.in_ok-shape.shape in
    let b = paid_of d shape c.in_ok-shape.ensures _ (c.in_ok-begin.ensures a.wanted) in
    let e = extended_of d shape c.in_ok-shape.ensures _ (c.in_ok-begin.ensures a.wanted) _ c.in_ok-more.ensures in
    let m = message_of d shape c.in_ok-shape.ensures _ (c.in_ok-begin.ensures a.wanted) _ c.in_ok-more.ensures c.if-size-gt65535.false in
    let room : length (b.0 ++ e.0) ≤ length a.out.now = omega (arith, m.1, c.if-out-size.false) in
    let few = sizes d shape c.in_ok-shape.ensures _ (c.in_ok-begin.ensures a.wanted) _ c.in_ok-more.ensures in
    let behind : c.in_ok-begin.begin ≡ length b.0 = omega (arith, few, c.if-size-gt65535.false) in
    let written = extension_written a.out.now b.0 _ behind _ _ _ _ e.0 e.1 room in
    absurd (not_refused refl (sym (rw (c.put.ensures b.0 b.1, written) at c.in_err-write.ensures.result_value)))

pub returns : goal.returns
returns c =
    let a = c.args in
    let d = draft a.kind a.first.now a.last.now a.wanted a.triples.now a.source.now in
    let shape = c.in_ok-shape.shape in
    let b = paid_of d shape c.in_ok-shape.ensures _ (c.in_ok-begin.ensures a.wanted) in
    let e = extended_of d shape c.in_ok-shape.ensures _ (c.in_ok-begin.ensures a.wanted) _ c.in_ok-more.ensures in
    let m = message_of d shape c.in_ok-shape.ensures _ (c.in_ok-begin.ensures a.wanted) _ c.in_ok-more.ensures c.if-size-gt65535.false in
    let room : length (b.0 ++ e.0) ≤ length a.out.now = omega (arith, m.1, c.if-out-size.false) in
    let fits = fitting_fits length (length a.out.now) _ _ m.0 room in
    let put = c.put.ensures b.0 b.1 in
    let few = sizes d shape c.in_ok-shape.ensures _ (c.in_ok-begin.ensures a.wanted) _ c.in_ok-more.ensures in
    let behind : c.in_ok-begin.begin ≡ length b.0 = omega (arith, few, c.if-size-gt65535.false) in
    let tail = rw put at c.write.ensures.out_after in
    rw (fits, put) (ap Ok (sym m.1), message_put a.out.now b.0 _ behind _ _ _ _ e.0 _ e.1 room tail)
