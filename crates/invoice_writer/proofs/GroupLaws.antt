-- The groups that the writer closes, and the parts that the reader finds in them. Assumes nothing.
use mathlib.Core.List.{List, [], ◌∷◌, ◌++◌, append_assoc}
use mathlib.Core.Path.{◌≡◌, ap, ◌∙◌}
use Prim.Native.Nat.{ℕ, zero, suc, ◌+◌, ◌-◌}
use native.Mathlib.Omega.{arith}
use lib.ListN.{length, drop, length-append}
use lib.Seq.{take-append_seam, drop-append_seam, drop_at}
use Rattle.bech32.specs.Groups.{AreGroups, digits}
use Rattle.bech32.proofs.GroupLaws.{length_groups, digits_groups}
use Rattle.invoice.specs.Invoice.{middle_of, signature_of}
use Rattle.invoice_writer.specs.Writer.{groups_from}

-- two runs of groups are one
pub append_groups : (a b : List ℕ) → AreGroups a → AreGroups b → AreGroups (a ++ b)
append_groups [] b h k i = k i
append_groups (x ∷ a) b h k zero = h 0
append_groups (x ∷ a) b h k (suc i) = append_groups a b (λ j. h (suc j)) k i

module _ (time : ℕ) (fields signature : List ℕ) where
  abbrev groups : List ℕ
  groups = groups_from time fields signature

  pub length_from : length groups ≡ 7 + length fields + length signature
  length_from = omega (arith, length-append (digits 7 time ++ fields) signature, length-append (digits 7 time) fields, length_groups 7 time)

  -- all of them are groups
  pub from_groups : AreGroups fields → AreGroups signature → AreGroups groups
  from_groups f s = append_groups (digits 7 time ++ fields) signature (append_groups (digits 7 time) fields (digits_groups 7 time) f) s

  -- what stands behind the time
  behind_time : drop 7 groups ≡ fields ++ signature
  behind_time = rw append_assoc (drop_at (digits 7 time) (fields ++ signature) 7 (length_groups 7 time))

  module _ (whole : length signature ≡ 104) where
    pub middle_is : middle_of groups ≡ fields
    middle_is =
        let e : length groups - 111 ≡ length fields = omega (arith, length_from) in
        rw (e, behind_time) (take-append_seam fields signature)

    pub signature_is : signature_of groups ≡ signature
    signature_is =
        let e : length groups - 104 ≡ length (digits 7 time ++ fields) = omega (arith, length_from, length-append (digits 7 time) fields, length_groups 7 time) in
        ap (λ (n : ℕ). drop n groups) e ∙ drop-append_seam (digits 7 time ++ fields) signature
