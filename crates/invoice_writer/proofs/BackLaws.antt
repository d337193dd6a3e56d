-- What writing an invoice back uses: where its parts lie, and an equation for each answer. Assumes nothing.
use Rattle.std.specs.Prelude.{Ok, Err}
use mathlib.Core.List.{List, map}
use mathlib.Core.Path.{◌≡◌, refl, sym, ap, ◌∙◌}
use Prim.Native.Nat.{ℕ, ◌+◌, ◌-◌, ◌*◌, ◌≤◌, ◌<◌}
use native.Mathlib.Nat.{add-sub_cancel_left}
use native.Mathlib.Omega.{arith}
use lib.ListN.{length, take, drop}
use Rattle.field.specs.Fields.{numbers_of}
use Rattle.invoice.specs.Invoice.{Contents, summary_of, time_of, judging, reading}
use Rattle.invoice.specs.declared.Summary.{Summary}
use Rattle.invoice.proofs.Accepted.{judged, amount_inside, enough_groups}
use Rattle.invoice.proofs.InvoiceLaws.{room_refused, room_groups, room_index, room_fits}
use Rattle.laws.proofs.Lists.{part_tail}
use Rattle.laws.proofs.Test.{by_order}
use Rattle.letters.specs.Letters.{lower}
use Rattle.answer.specs.Answer.{Answer, bare, mapped, filled}
use Rattle.answer.specs.declared.Refusal.{Refusal}
use Rattle.answer.proofs.Answer.{then_accepted, then_refused, fitting_refused, fitting_short, fitting_fits}
use Rattle.invoice_writer.specs.Back.{writing_back, WritesBack}
use Rattle.invoice_writer.specs.Private.{unwritten_of}
use Rattle.invoice_writer.specs.Writer.{writing}
use Rattle.invoice_writer.proofs.RoundTrip.{read_is_written}

module _ (text : List ℕ) (told : Contents) (h : judging text ≡ Ok told) where
  -- what is written of the parts, as the code cuts them out
  pub written_again : (room : ℕ) → length text ≤ room →
      let p = told.hrp in
      let gs = told.groups in
      let middle = length gs - 104 in
      writing p.prefix (take (p.start + p.size - p.start) (drop p.start text)) (time_of gs) (take (middle - 7) (drop 7 gs)) (take (length gs - middle) (drop middle gs)) room ≡
      Ok (map lower text)
  written_again room fits =
      let p = told.hrp in
      let gs = told.groups in
      let middle : length gs - 104 - 7 ≡ length gs - 111 = omega arith in
      rw (add-sub_cancel_left p.start p.size, part_tail gs (length gs - 104), middle) (read_is_written text told h room fits)

-- What is left, by what was read and by the output.
module _ (text groups index out : List ℕ) where
  unwritten_back : (r : Refusal) → writing_back text (length groups) (length index) (length out) ≡ Err r → (w : Answer ℕ) → w ≡ Err r →
      WritesBack text groups index out w groups index out
  unwritten_back r e w is = record { answers = is ∙ sym (ap (mapped (λ _. length text)) e); fills_groups = rw e refl; fills_index = rw e refl; fills_out = rw e refl }

  pub back_refused : (r : Refusal) → reading text (length groups) (length index) ≡ Err r → (groupsLeft indexLeft : List ℕ) → groupsLeft ≡ groups → indexLeft ≡ index →
      WritesBack text groups index out (Err r) groupsLeft indexLeft out
  back_refused r e groupsLeft indexLeft g i = rw (g, i) (unwritten_back r (fitting_refused _ _ _ r e) (Err r) refl)

  pub back_read : (told : Contents) → reading text (length groups) (length index) ≡ Ok told → length text ≤ length out →
      (w : Answer ℕ) (groupsLeft indexLeft outLeft : List ℕ) → w ≡ Ok (length text) → groupsLeft ≡ filled (Ok told.groups) groups →
      indexLeft ≡ filled (Ok (numbers_of told.fields)) index → outLeft ≡ filled (Ok (map lower text)) out →
      WritesBack text groups index out w groupsLeft indexLeft outLeft
  back_read told e h w groupsLeft indexLeft outLeft is g i o =
      let fits = fitting_fits _ _ _ told e h in
      record { answers = is ∙ sym (ap (mapped (λ _. length text)) fits); fills_groups = rw fits g; fills_index = rw fits i; fills_out = rw fits o }

  -- A text that does not fit into the output: its own refusal, or 12.
  module _ (short : length out < length text) where
    short_by : (x : Answer Contents) → judging text ≡ x → (w : Answer ℕ) → w ≡ unwritten_of text → WritesBack text groups index out w groups index out
    unfolding unwritten_of
    short_by (Err r) e w is =
        unwritten_back r (fitting_refused _ _ _ r (room_refused _ _ _ r e)) w (is ∙ then_refused r _ _ e)
    short_by (Ok told) e w is =
        let last = is ∙ then_accepted told _ _ e in
        by_order (length groups) (length told.groups) (λ h. unwritten_back (bare 12) (fitting_refused _ _ _ _ (room_groups _ _ _ told e h)) w last) λ a.
        by_order (length index) (3 * length told.fields) (λ h. unwritten_back (bare 12) (fitting_refused _ _ _ _ (room_index _ _ _ told e a h)) w last) λ b.
        unwritten_back (bare 12) (fitting_short _ _ _ told (room_fits _ _ _ told e a b) short) w last

    pub back_short : (w : Answer ℕ) → w ≡ unwritten_of text → WritesBack text groups index out w groups index out
    back_short w is = short_by (judging text) refl w is

-- What the reader's summary says of the text and the groups.
module _ (text groups : List ℕ) (s : Summary) (told : Contents) (h : judging text ≡ Ok told) (a : summary_of told ≡ s) (is : groups ≡ told.groups) where
  pub summary_groups : s.groups ≡ length told.groups
  summary_groups = sym (ap (λ (x : Summary). x.groups) a)

  pub summary_inside : s.amount.start + s.amount.size ≤ length text
  summary_inside = omega (arith, amount_inside text told (judged text told h), ap (λ (x : Summary). x.amount.start + x.amount.size) a)

  pub summary_enough : 111 ≤ length groups
  summary_enough = let j = judged text told h in omega (arith, enough_groups text told j, ap length (is ∙ j.groups))

  pub summary_written : (room : ℕ) → length text ≤ room →
      let start = s.amount.start in
      let middle = length groups - 104 in
      writing s.prefix (take (start + s.amount.size - start) (drop start text)) s.time (take (middle - 7) (drop 7 groups)) (take (length groups - middle) (drop middle groups)) room ≡
      Ok (map lower text)
  summary_written room fits = rw (← a, is) (written_again text told h room fits)
