-- What an answer of the code says about the definition's. Assumes nothing.
use Rattle.std.specs.Prelude.{Ok, Err}
use mathlib.Core.List.{List}
use mathlib.Core.Path.{◌≡◌, refl, sym, ap}
use Prim.Native.Nat.{ℕ, ◌*◌, ◌≤◌, ◌<◌}
use lib.ListN.{length}
use Rattle.answer.specs.Answer.{Answer, bare, filled}
use Rattle.answer.specs.declared.Refusal.{Refusal}
use Rattle.field.specs.declared.Field.{Field}
use Rattle.field.specs.Fields.{numbers_of}
use Rattle.invoice.specs.Invoice.{HumanReadable, Contents, fitting_both, summary_of, Reads}
use Rattle.invoice.specs.Private.{hrp_of, data_of}
use Rattle.invoice.specs.declared.Data.{Data}
use Rattle.invoice.specs.declared.Hrp.{Hrp}
use Rattle.invoice.specs.declared.Summary.{Summary}
use Rattle.invoice.proofs.InvoiceLaws.{room_refused, room_groups, room_index, room_fits}

-- the summary, by what the two parts say
pub summary_is : (p : HumanReadable) (groups : List ℕ) (fs : List Field) (h : Hrp) (d : Data) (size : ℕ) → hrp_of p ≡ h → data_of groups fs ≡ d → length groups ≡ size →
    record {
      prefix = h.prefix;
      amount = h.amount;
      asked = h.asked;
      time = d.time;
      groups = size;
      fields = d.fields;
      payment = d.payment;
      expiry = d.expiry;
      delta = d.delta;
    } ≡ summary_of (record { hrp = p; groups = groups; fields = fs })
summary_is p groups fs h d size a b c = rw (← a, ← b, ← c)

-- What the reader leaves, by what the invoice is judged to be and by the lent buffers.
module _ (x : Answer Contents) (groups index : List ℕ) where
  unread : (r : Refusal) → fitting_both (length groups) (length index) x ≡ Err r → Reads x groups index (Err r) groups index
  unread r e = record { answers = rw e refl; fills_groups = rw e refl; fills_index = rw e refl }

  pub reads_refused : (r : Refusal) → x ≡ Err r → Reads x groups index (Err r) groups index
  reads_refused r e = unread r (room_refused _ _ x r e)

  module _ (c : Contents) (e : x ≡ Ok c) where
    pub reads_short : length groups < length c.groups → Reads x groups index (Err (bare 12)) groups index
    reads_short h = unread (bare 12) (room_groups _ _ x c e h)

    module _ (room : length c.groups ≤ length groups) where
      pub reads_short_index : length index < 3 * length c.fields → Reads x groups index (Err (bare 12)) groups index
      reads_short_index h = unread (bare 12) (room_index _ _ x c e room h)

      pub reads_all : 3 * length c.fields ≤ length index → (s : Summary) (groupsLeft indexLeft : List ℕ) → summary_of c ≡ s →
          groupsLeft ≡ filled (Ok c.groups) groups → indexLeft ≡ filled (Ok (numbers_of c.fields)) index →
          Reads x groups index (Ok s) groupsLeft indexLeft
      reads_all h s groupsLeft indexLeft a g i =
          let fits = room_fits _ _ x c e room h in
          record { answers = rw fits (ap Ok (sym a)); fills_groups = rw fits g; fills_index = rw fits i }
