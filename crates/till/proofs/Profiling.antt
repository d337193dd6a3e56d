-- The profile of an invoice, by what the plain reader says and what was counted. Assumes nothing.
use Rattle.std.specs.Prelude.{Ok, Err}
use mathlib.Core.Bool.{Bool, true}
use mathlib.Core.List.{List, map}
use mathlib.Core.Logic.{◌↔◌}
use mathlib.Core.Path.{◌≡◌, sym, ap, ap₂, ◌∙◌}
use Prim.Native.Nat.{ℕ, ◌+◌, ◌-◌}
use native.Mathlib.Nat.{add-sub_cancel_left}
use native.Mathlib.Omega.{arith}
use lib.ListN.{take, drop}
use Rattle.amount_spelling.specs.Shortest.{Shortest}
use Rattle.answer.specs.Answer.{Answer}
use Rattle.answer.specs.declared.Refusal.{Refusal}
use Rattle.field.specs.Fields.{fields_in}
use Rattle.field.specs.declared.Field.{Field}
use Rattle.invoice.specs.Invoice.{groups_of, middle_of, amount_of, judging}
use Rattle.invoice.specs.declared.Summary.{Summary}
use Rattle.letters.specs.Letters.{lower}
use Rattle.till.specs.Private.{is_unclean, Counts, failing, tests}
use Rattle.till.specs.Till.{is_judged, profile_of, Profiles}
use Rattle.till.specs.declared.Profile.{Profile}
use Rattle.till.specs.declared.Tally.{Tally}
use Rattle.till.proofs.Ruling.{broken_listed}
use Rattle.till.proofs.Told.{Told}

pub profiles_refused : (t : List ℕ) (q : Refusal) (answer : Answer Profile) → judging t ≡ Err q → answer ≡ Err q → Profiles t answer
profiles_refused t q answer e is =
    record {
      lists = λ told accepts. absurd (let z : ◌≡◌ {A = ℕ} 0 1 = cc in omega arith);
      refuses = λ r refuses.
          let same : q ≡ r = cc in
          is ∙ ap Err same;
    }

module _ (t : List ℕ) (s : Summary) (d : Told t s) (g : List ℕ) (front : g ≡ groups_of t) (tally : Tally) (shortest : Bool)
    (counted : (fields : List Field) → fields_in (middle_of g) ≡ Ok fields → Counts is_judged fields tally.judged × Counts (is_unclean g) fields tally.unclean)
    (spelled : (shortest ≡ true) ↔ Shortest (map lower (take (s.amount.start + s.amount.size - s.amount.start) (drop s.amount.start t)))) where
  amount : take (s.amount.start + s.amount.size - s.amount.start) (drop s.amount.start t) ≡ amount_of t d.contents
  amount =
      ap (λ (n : ℕ). take n (drop s.amount.start t)) (add-sub_cancel_left s.amount.start s.amount.size)
      ∙ ap₂ (λ (n at : ℕ). take n (drop at t)) d.size d.start

  pub profiles_listed : (profile : Profile) → profile ≡ profile_of (failing 1 (tests tally shortest)) → Profiles t (Ok profile)
  profiles_listed profile is =
      let counts = rw (front ∙ sym d.groups) at (counted d.contents.fields (ap (λ (l : List ℕ). fields_in (middle_of l)) front ∙ d.fields)) in
      let list = broken_listed t d.contents tally shortest counts.0 counts.1 (rw amount at spelled) in
      record {
        lists = λ told accepts.
            let same : d.contents ≡ told = cc (sym d.is ∙ accepts) in
            (failing 1 (tests tally shortest), rw same at list, ap Ok is);
        refuses = λ r refuses. absurd (let z : ◌≡◌ {A = ℕ} 0 1 = cc (sym d.is ∙ refuses) in omega arith);
      }
