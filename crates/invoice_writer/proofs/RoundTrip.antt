-- The invoice writer and the reader, there and back. Assumes nothing.
use Rattle.std.specs.Prelude.{Ok}
use mathlib.Core.List.{List, ◌++◌, map, append_assoc}
use mathlib.Core.Path.{◌≡◌, refl, sym, ap, ap₂, ◌∙◌, subst}
use Prim.Native.Nat.{ℕ, ◌-◌, ◌^◌, ◌≤◌}
use native.Mathlib.Omega.{arith}
use lib.ListN.{length, take, drop, length-append, length-map, take-append-drop}
use lib.Seq.{take_at, take-append_seam, drop-append_seam}
use mathlib.Core.Bool.{not}
use borrow.Author.Tests.{leb-true, lt-ltb}
use Rattle.bech32.specs.Alphabet.{groups_in}
use Rattle.bech32.specs.Groups.{number, digits}
use Rattle.bech32.proofs.GroupLaws.{length_groups, number_digits, take_groups}
use Rattle.field.specs.Fields.{fielding}
use Rattle.invoice.specs.Invoice.{Contents, prefix_in, asking, groups_of, time_of, middle_of, signature_of, amount_of, judging}
use Rattle.invoice.proofs.Accepted.{Judged, judged, amount_told, enough_groups}
use Rattle.invoice.proofs.InvoiceLaws.{judging_parts_is, parts_fine}
use Rattle.invoice_text.specs.Text.{first_where, hrp_of, data_of}
use Rattle.invoice_text.proofs.TextLaws.{accepted_spelled}
use Rattle.letters.specs.Letters.{lower}
use Rattle.money.specs.Amount.{is_digit}
use Rattle.answer.proofs.Answer.{then_accepted, both, ensure_yes, ensured, fitted}
use Rattle.invoice_writer.specs.Back.{SameContent}
use Rattle.invoice_writer.specs.Private.{name_of}
use Rattle.invoice_writer.specs.Writer.{groups_from, text_of, composing, writing}
use Rattle.invoice_writer.proofs.Composing.{Composed, composed, writing_fits}
use Rattle.invoice_writer.proofs.GroupLaws.{length_from, from_groups, middle_is, signature_is}
use Rattle.invoice_writer.proofs.Reread.{spelled, parts_are, hrp_read, plain_hrp}
use Rattle.invoice_writer.proofs.Rewritten.{prefix_back, time_below, groups_back, no_group_above, text_back}
use Rattle.invoice_writer.proofs.TextLaws.{length_name, hrp_lower}

-- What is said of an accepted text, composed again.
module _ (text : List ℕ) (told : Contents) (j : Judged text told) where
  abbrev hrp : List ℕ
  hrp = map lower (hrp_of text)

  abbrev groups : List ℕ
  groups = groups_of text

  composed_again : composing told.hrp.prefix (amount_of text told) (time_of groups) (middle_of groups) (signature_of groups) ≡ Ok (map lower text)
  unfolding composing
  composed_again =
      let s = accepted_spelled text j.spelled in
      let are = take_groups (length (data_of text) - 6) (groups_in (data_of text)) s.seal.are in
      let enough = enough_groups text told j in
      let amount = amount_told text told j in
      ensure_yes _ _ _ (lt-ltb (time_of groups) (2 ^ 35) (time_below groups are enough))
      ∙ ensure_yes _ _ _ (ap not (no_group_above groups are enough))
      ∙ then_accepted (prefix_in hrp) _ _ (prefix_back hrp _ j.prefix)
      ∙ then_accepted told.hrp.msat _ _ (ap asking amount ∙ j.asked)
      ∙ then_accepted told.fields _ _ j.fielded
      ∙ ap Ok
      (ap₂ text_of (ap (λ (l : List ℕ). prefix_in hrp ++ l) amount ∙ take-append-drop (first_where is_digit hrp) hrp) (groups_back groups are enough) ∙ text_back text s)

-- What the reader accepts, the writer makes again from what it answered and the groups that it filled: the same text in lower case.
pub read_is_written : (text : List ℕ) (told : Contents) → judging text ≡ Ok told → (room : ℕ) → length text ≤ room →
    writing told.hrp.prefix (amount_of text told) (time_of told.groups) (middle_of told.groups) (signature_of told.groups) room ≡ Ok (map lower text)
read_is_written text told h room fits =
    let j = judged text told h in
    let long = length-map text lower in
    rw j.groups
    (writing_fits _ _ _ _ _ room (map lower text) (composed_again text told j) (omega (arith, (accepted_spelled text j.spelled).parts.short)) (omega arith))

-- A composed text, read again.
module _ (prefix : ℕ) (amount : List ℕ) (time : ℕ) (fields signature text : List ℕ) (c : Composed prefix amount time fields signature text) where
  abbrev low : List ℕ
  low = map lower amount

  abbrev written : List ℕ
  written = name_of prefix ++ low

  abbrev all : List ℕ
  all = groups_from time fields signature

  abbrev answer : Contents
  answer = record { hrp = record { prefix = prefix; start = length (name_of prefix); size = length low; msat = c.msat }; groups = all; fields = c.list }

  judged_again : length text ≤ 4096 → judging (text_of written all) ≡ Ok answer
  judged_again short =
      let lowered = hrp_lower prefix c.named amount in
      let ok = from_groups time fields signature c.groups.0 c.groups.1 in
      judging_parts_is (text_of written all)
      (spelled written all lowered ok (plain_hrp prefix low c.msat c.named c.asked) (omega (arith, length-append (name_of prefix) low, length_name prefix c.named))
      (omega (arith, length_from time fields signature, c.whole)) (rw (← c.is) short))
      ∙ parts_are written all lowered ok
      ∙ parts_fine written all _ (hrp_read prefix low c.msat c.named c.asked) c.list (ap₂ fielding (middle_is time fields signature c.whole) (signature_is time fields signature c.whole) ∙ c.fielded)

  same_again : SameContent prefix amount time fields signature (text_of written all) answer
  unfolding text_of
  same_again =
      let count = length_groups 7 time in
      record {
        same_prefix = refl;
        same_amount =
            ap (take (length low)) (ap (drop (length (name_of prefix))) (append_assoc (name_of prefix) low _) ∙ drop-append_seam (name_of prefix) _) ∙ take-append_seam low _;
        same_value = c.asked;
        same_time =
            ap number (ap (take 7) (append_assoc (digits 7 time) fields signature) ∙ take_at (digits 7 time) (fields ++ signature) 7 count) ∙ number_digits 7 time c.early;
        same_fields = middle_is time fields signature c.whole;
        same_signature = signature_is time fields signature c.whole;
      }

-- Whatever the writer makes, the reader accepts, with the same content.
pub written_is_read : (prefix : ℕ) (amount : List ℕ) (time : ℕ) (fields signature : List ℕ) (room : ℕ) (text : List ℕ) →
    writing prefix amount time fields signature room ≡ Ok text → (told : Contents) × (judging text ≡ Ok told) × SameContent prefix amount time fields signature text told
unfolding writing
written_is_read prefix amount time fields signature room text h =
    let a = both _ _ text h in
    let b = ensured _ _ _ text a.second in
    let same : a.is ≡ text = cc (fitted length room _ text b.rest).was in
    let c = composed prefix amount time fields signature a.is a.first in
    let is : text ≡ text_of (name_of prefix ++ map lower amount) (groups_from time fields signature) = sym same ∙ c.is in (
      answer prefix amount time fields signature a.is c,
      ap judging is ∙ judged_again prefix amount time fields signature a.is c (leb-true (length a.is) 4096 b.holds),
      subst (λ (t : List ℕ). SameContent prefix amount time fields signature t (answer prefix amount time fields signature a.is c)) (sym is)
          (same_again prefix amount time fields signature a.is c),
    )
