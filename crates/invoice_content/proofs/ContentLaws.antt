-- A field's bytes, its number and its route, by what its check answers: an equation for each answer. Assumes nothing.
use Rattle.std.specs.Prelude.{Some, None, Ok, Err}
use mathlib.Core.List.{List}
use mathlib.Core.Path.{◌≡◌, refl, ◌∙◌}
use Prim.Native.Nat.{ℕ, ◌+◌, ◌*◌, ◌≤◌, ◌<◌}
use native.Mathlib.Omega.{arith}
use lib.ListN.{length, take, drop}
use borrow.Author.Tests.{lt-ltb, le-ltb, le-leb, lt-leb}
use Rattle.bech32.specs.Groups.{number, bytes_of}
use Rattle.laws.proofs.Lists.{length_part}
use Rattle.laws.proofs.Test.{pick_yes, pick_no}
use Rattle.answer.proofs.Answer.{then_accepted, then_refused, ensure_yes, ensure_no, fitting_short, fitting_fits}
use Rattle.answer.specs.Answer.{bare, fitting}
use Rattle.answer.specs.declared.Refusal.{Refusal}
use Rattle.invoice_content.specs.Content.{groups_at, checking, bytes_at, number_at, entries_in, route_size, parts_of, entry_at, route_entry}
use Rattle.invoice_content.proofs.CheckLaws.{sound}
use Rattle.invoice_content.proofs.EntryLaws.{key_at, key_length}
use Rattle.invoice_content.proofs.RouteSizes.{entries_whole}

module _ (groups : List ℕ) (start size : ℕ) where
  -- Refused.
  module _ (r : Refusal) (e : checking groups start size ≡ Err r) where
    pub bytes_refused : (room : ℕ) → bytes_at groups start size room ≡ Err r
    unfolding bytes_at
    bytes_refused room = then_refused _ _ _ e

    pub number_refused : number_at groups start size ≡ Err r
    unfolding number_at
    number_refused = then_refused _ _ _ e

    pub size_refused : (kind : ℕ) → route_size groups kind start size ≡ Err r
    unfolding route_size
    size_refused kind = then_refused _ _ _ e

    pub entry_refused : (kind k room : ℕ) → route_entry groups kind start size k room ≡ Err r
    unfolding route_entry
    entry_refused kind k room = then_refused _ _ _ e

  -- Accepted.
  module _ (e : checking groups start size ≡ Ok tt) where
    pub bytes_sound : (room : ℕ) → bytes_at groups start size room ≡ fitting length room (Ok (bytes_of (groups_at groups start size)))
    unfolding bytes_at
    bytes_sound room = then_accepted _ _ _ e

    pub number_many : 12 < size → number_at groups start size ≡ Err (bare 38)
    unfolding number_at
    number_many h = then_accepted _ _ _ e ∙ ensure_no _ _ _ (lt-leb size 12 h)

    pub number_few : size ≤ 12 → number_at groups start size ≡ Ok (number (groups_at groups start size))
    unfolding number_at
    number_few h = then_accepted _ _ _ e ∙ ensure_yes _ _ _ (le-leb size 12 h)

    -- its route, by its type
    module _ (kind : ℕ) where
      pub size_sound : route_size groups kind start size ≡ Ok (entries_in kind size)
      unfolding route_size
      size_sound = then_accepted _ _ _ e

      -- an entry lies in the whole bytes
      pub entry_inside : (k : ℕ) → k < entries_in kind size → 8 * (51 * k + 51) ≤ 5 * length (groups_at groups start size)
      entry_inside k h = omega (arith, entries_whole kind size, length_part groups start size (sound groups start size e).inside)

      missing : (k : ℕ) → entries_in kind size ≤ k → entry_at groups kind start size k ≡ None
      unfolding entry_at
      missing k h = pick_no _ _ _ (le-ltb k (entries_in kind size) h)

      pub entry_none : (k room : ℕ) → entries_in kind size ≤ k → route_entry groups kind start size k room ≡ Ok None
      unfolding route_entry
      entry_none k room h = then_accepted _ _ _ e ∙ rw (missing k h) (fitting_fits _ room _ None refl (omega arith))

      module _ (k room : ℕ) (h : k < entries_in kind size) where
        found : entry_at groups kind start size k ≡ Some (parts_of (take 51 (drop (51 * k) (bytes_of (groups_at groups start size)))))
        unfolding entry_at
        found = pick_yes _ _ _ (lt-ltb k (entries_in kind size) h)

        key_33 : length (key_at (groups_at groups start size) (51 * k)) ≡ 33
        key_33 = key_length (groups_at groups start size) (51 * k) (entry_inside k h)

        pub entry_short : room < 33 → route_entry groups kind start size k room ≡ Err (bare 12)
        unfolding route_entry
        entry_short short = then_accepted _ _ _ e ∙ rw found (fitting_short _ room _ _ refl (omega (arith, key_33)))

        pub entry_fits : 33 ≤ room → route_entry groups kind start size k room ≡ Ok (Some (parts_of (take 51 (drop (51 * k) (bytes_of (groups_at groups start size))))))
        unfolding route_entry
        entry_fits fits = then_accepted _ _ _ e ∙ rw found (fitting_fits _ room _ _ refl (omega (arith, key_33)))
