-- Records that are entered in lent rows: what holds while some are left. Assumes nothing.
use Rattle.std.specs.Prelude.{Option, Some}
use Rattle.std.proofs.Common.{◌≡◌, ℕ, ◌<◌, ◌≤◌, List, [], ◌∷◌, ◌++◌, length, sym, ap, ◌∙◌, arith}
use Rattle.laws.proofs.Test.{by_order}
use Rattle.pairs.specs.declared.Row.{Row}
use Rattle.month.specs.Private.{within, told, EntersAll}
use Rattle.pairs.specs.declared.Entered.{Entered}
use Rattle.pairs.specs.Rows.{entering, enters, rows_of, Rises, Enters}
use Rattle.pairs.proofs.Entering.{enters_none, enters_append, enters_rise}
use Rattle.month.proofs.Holding.{within_yes, within_no, within_over, told_yes, told_no, told_rows, told_over}
use Rattle.pairs.proofs.InOrder.{in_order}
use Rattle.pairs.proofs.Laying.{laid_rows, length_rows}

-- nothing is entered
pub nothing_entered : (rows : List ℕ) (count : ℕ) → count ≤ 512 → EntersAll rows count [] count rows
nothing_entered rows count few =
    told_yes count rows few ∙ sym (within_yes (rows_of count rows) (rw (length_rows count rows) few)) ∙ ap within (sym (enters_none (rows_of count rows)))

-- one record is entered
pub entered_one : (before after : List ℕ) (count : ℕ) (r : Entered) (m : Row) → length before ≡ 3584 → count ≤ 512 → Rises 0 (rows_of count before) →
    Enters m count before r after → EntersAll before count (m ∷ []) r.count after
unfolding enters
entered_one before after count r m long few rises e =
    let new = entering m (rows_of count before) in
    let o = in_order m count before r after e (omega arith) rises in
    by_order 512 (length new)
    (λ many. told_no r.count after (rw o.0 many) ∙ sym (within_no new many))
    (λ room. told_yes r.count after (rw o.0 room) ∙ rw (o.0, o.1) (ap Some (laid_rows new before (omega arith))) ∙ sym (within_yes new room))

-- Those that are left, entered, make the whole.
module _ (whole : Option (List Row)) where
  pub record Going (rows : List ℕ) (held : ℕ) (left : List Row) : Type 0 where
    pub long : length rows ≡ 3584
    pub few : held ≤ 512
    pub rises : Rises 0 (rows_of held rows)
    pub same : within (enters (rows_of held rows) left) ≡ whole

  -- none is left
  pub going_end : (rows : List ℕ) (held : ℕ) → Going rows held [] → told held rows ≡ whole
  going_end rows held g = nothing_entered rows held g.few ∙ g.same

  -- some were entered
  module _ (rows rows' : List ℕ) (held r : ℕ) (these left : List Row) (g : Going rows held (these ++ left)) (done : EntersAll rows held these r rows') where
    pub going_over : 512 < r → told r rows' ≡ whole
    going_over many =
        told_no r rows' many
        ∙ sym (within_over (enters (rows_of held rows) these) left (told_over r rows' _ done many))
        ∙ ap within (sym (enters_append (rows_of held rows) these left))
        ∙ g.same

    pub going_next : length rows' ≡ length rows → r ≤ 512 → Going rows' r left
    going_next long few =
        let are = (told_rows r rows' _ done few).0 in
        record {
          long = long ∙ g.long;
          few = few;
          rises = rw (← are) (enters_rise these (rows_of held rows) g.rises);
          same = ap (λ x. within (enters x left)) (sym are) ∙ ap within (sym (enters_append (rows_of held rows) these left)) ∙ g.same;
        }
