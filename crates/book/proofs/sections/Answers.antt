use Rattle.std.proofs.Common.{◌≡◌, ◌∙◌, ℕ, ◌+◌, ◌*◌, List, length, sym, ap, arith}
use Rattle.answer.specs.Answer.{mapped}
use Rattle.answer.proofs.Answer.{handed_on}
use Rattle.book.specs.Book.{contents_of}
use Rattle.book.proofs.PartLaws.{behind_streams, behind_messages, behind_invoices, behind_extra, behind_all, contents_are}
use Rattle.book.proofs.SectionLaws.{walk_refused, walk_to, section_read}
use Rattle.book.proofs.sections.Goals as goal

-- where the streams' count stands
begins : (rows : ℕ) (table : List ℕ) → length table ≡ 4 * rows → 2 + rows * 32 ≡ 2 + 8 * length table
begins rows table long = omega arith

pub returns-in_err-streams : goal.returns-in_err-streams
returns-in_err-streams c table long =
    handed_on c.from_residual.ensures.1
    ∙ sym (ap (mapped contents_of) (behind_streams table _ _ (walk_refused _ _ _ _ (begins _ table long) _ c.in_err-streams.ensures)))

pub returns-in_err-messages : goal.returns-in_err-messages
returns-in_err-messages c table long =
    let s = walk_to _ _ _ _ (begins _ table long) _ _ c.in_ok-streams.ensures in
    handed_on c.from_residual-in_err-messages.ensures.1
    ∙ sym (ap (mapped contents_of) (behind_messages table _ s.0 s.1 _ (walk_refused _ _ _ _ (sym s.3) _ c.in_err-messages.ensures)))

pub returns-in_err-invoices : goal.returns-in_err-invoices
returns-in_err-invoices c table long =
    let s = walk_to _ _ _ _ (begins _ table long) _ _ c.in_ok-streams.ensures in
    let m = walk_to _ _ _ _ (sym s.3) _ _ c.in_ok-messages.ensures in
    handed_on c.from_residual-in_err-invoices.ensures.1
    ∙ sym (ap (mapped contents_of) (behind_invoices table _ s.0 s.1 m.0 m.1 _ (walk_refused _ _ _ _ (sym m.3) _ c.in_err-invoices.ensures)))

pub returns-then-end-book : goal.returns-then-end-book
returns-then-end-book c table long =
    let s = walk_to _ _ _ _ (begins _ table long) _ _ c.in_ok-streams.ensures in
    let m = walk_to _ _ _ _ (sym s.3) _ _ c.in_ok-messages.ensures in
    let i = walk_to _ _ _ _ (sym m.3) _ _ c.in_ok-invoices.ensures in
    rw c.bare.ensures (sym (ap (mapped contents_of) (behind_extra _ _ s.0 s.1 m.0 m.1 i.0 i.1 (λ e. omega (arith, c.if-end-book.true, i.3)))))

pub returns : goal.returns
returns c table long =
    let s = walk_to _ _ _ _ (begins _ table long) _ _ c.in_ok-streams.ensures in
    let m = walk_to _ _ _ _ (sym s.3) _ _ c.in_ok-messages.ensures in
    let i = walk_to _ _ _ _ (sym m.3) _ _ c.in_ok-invoices.ensures in
    let ends = (section_read _ _ _ i.0 i.1).ends in
    rw (behind_all table _ s.0 s.1 m.0 m.1 i.0 i.1 (omega (arith, c.if-end-book.false, i.3, ends)))
    (contents_are (record { table = table; streams = s.0; messages = m.0; invoices = i.0 }) _ _ _ _ long s.2 m.2 i.2)
