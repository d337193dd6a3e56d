-- What an accepted invoice's summary says of where its groups and its amount lie. Assumes nothing.
use Rattle.std.specs.Prelude.{Ok}
use mathlib.Core.List.{List}
use mathlib.Core.Path.{◌≡◌, sym, ap, ◌∙◌}
use Prim.Native.Nat.{ℕ, ◌+◌, ◌-◌, ◌≤◌}
use native.Mathlib.Omega.{arith}
use lib.ListN.{length, take, length-drop}
use lib.Seq.{length-take-le, take-take}
use Rattle.answer.specs.Answer.{mapped}
use Rattle.answer.proofs.Answer.{mapped_accepted}
use Rattle.bech32.specs.Alphabet.{groups_in}
use Rattle.bech32.specs.Groups.{AreGroups}
use Rattle.bech32.proofs.AlphabetLaws.{length_groups_in}
use Rattle.bech32.proofs.GroupLaws.{take_groups}
use Rattle.field.specs.Fields.{fields_in}
use Rattle.field.proofs.SurveyLaws.{fielding_fields}
use Rattle.invoice.specs.Invoice.{Contents, groups_of, middle_of, judging, summary_of}
use Rattle.invoice.specs.declared.Summary.{Summary}
use Rattle.invoice.proofs.Accepted.{judged, amount_inside, enough_groups}
use Rattle.invoice.proofs.GroupText.{Held}
use Rattle.invoice_text.specs.Text.{up_to_last_one, data_of}
use Rattle.invoice_text.proofs.TextLaws.{accepted_spelled}

pub record Told (t : List ℕ) (s : Summary) : Type 0 where
  pub contents : Contents
  pub is : judging t ≡ Ok contents
  pub groups : contents.groups ≡ groups_of t
  pub fields : fields_in (middle_of (groups_of t)) ≡ Ok contents.fields
  pub are : AreGroups (groups_of t)
  pub count : s.groups ≡ length (groups_of t)
  pub enough : 111 ≤ s.groups
  pub lengths : up_to_last_one t + s.groups + 6 ≡ length t
  pub short : length t ≤ 4096
  pub start : s.amount.start ≡ contents.hrp.start
  pub size : s.amount.size ≡ contents.hrp.size
  pub inside : s.amount.start + s.amount.size ≤ length t

pub told : (t : List ℕ) (s : Summary) → mapped summary_of (judging t) ≡ Ok s → Told t s
told t s h =
    let a = mapped_accepted summary_of (judging t) s h in
    let c = a.0 in
    let j = judged t c a.1 in
    let same : summary_of c ≡ s = a.2 in
    let spelled = accepted_spelled t j.spelled in
    let n = length (data_of t) in
    let size : length (groups_of t) ≡ n - 6 = length-take-le (n - 6) (groups_in (data_of t)) (omega (arith, length_groups_in (data_of t))) in
    let count : s.groups ≡ length (groups_of t) = sym (ap (λ (x : Summary). x.groups) same) ∙ ap length j.groups in
    let start : s.amount.start ≡ c.hrp.start = sym (ap (λ (x : Summary). x.amount.start) same) in
    let amount : s.amount.size ≡ c.hrp.size = sym (ap (λ (x : Summary). x.amount.size) same) in
    record {
      contents = c;
      is = a.1;
      groups = j.groups;
      fields = fielding_fields _ _ _ j.fielded;
      are = take_groups (n - 6) (groups_in (data_of t)) spelled.seal.are;
      count = count;
      enough = omega (arith, count, enough_groups t c j);
      lengths = omega (arith, count, size, length-drop (up_to_last_one t) t, spelled.parts.enough);
      short = spelled.parts.short;
      start = start;
      size = amount;
      inside = omega (arith, start, amount, amount_inside t c j);
    }

-- an array that holds the groups of its data
pub front_groups : (t : List ℕ) (s : Summary) → Told t s → (own : List ℕ) → Held t (up_to_last_one t) own → take s.groups own ≡ groups_of t
front_groups t s d own h =
    let n = length (data_of t) in
    let all : length t - up_to_last_one t ≡ n = sym (length-drop (up_to_last_one t) t) in
    let size : s.groups ≡ n - 6 = omega (arith, d.lengths) in
    ap (λ (k : ℕ). take k own) size
    ∙ sym (take-take (n - 6) n own (omega arith))
    ∙ ap (take (n - 6)) (ap (λ (k : ℕ). take k own) (sym all) ∙ h.are)
