-- The 32 characters of Bech32, and the group of five bits that each stands for: document 01, "Invoices"; BIP 173. Assumes nothing.
use Rattle.std.specs.Prelude.{ℕ, suc, List, [], ◌∷◌, map, ◌==◌, slice_index}
use Rattle.letters.specs.Letters.{lower}
use Rattle.laws.specs.Test.{pick}

-- qpzry9x8gf2tvdw0s3jn54khce6mua7l, the characters of the values 0 to 31
abbrev pub alphabet : List ℕ
alphabet =
    113 ∷ 112 ∷ 122 ∷ 114 ∷ 121 ∷ 57 ∷ 120 ∷ 56 ∷ 103 ∷ 102 ∷ 50 ∷ 116 ∷ 118 ∷ 100 ∷ 119 ∷ 48
    ∷ 115 ∷ 51 ∷ 106 ∷ 110 ∷ 53 ∷ 52 ∷ 107 ∷ 104 ∷ 99 ∷ 101 ∷ 54 ∷ 109 ∷ 117 ∷ 97 ∷ 55 ∷ 108 ∷ []

-- the place of a character in a list, from 0; the list's length where it is not there
unfoldable pub place_in : (characters : List ℕ) (c : ℕ) → ℕ
place_in [] c = 0
place_in (x ∷ xs) c = pick (x == c) 0 (suc (place_in xs c))

-- The group of a character: its place in the alphabet, and 32 where it has none.
unfoldable pub group_of : (c : ℕ) → ℕ
group_of c = place_in alphabet c

-- The character of a group.
unfoldable pub char_of : (g : ℕ) → ℕ
char_of g = slice_index alphabet g

-- The groups of a text, whose letters may be of either case.
abbrev pub groups_in : (text : List ℕ) → List ℕ
groups_in text = map (λ c. group_of (lower c)) text
