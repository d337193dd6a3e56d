-- Descriptors, computed from the definitions: which rest is one of a type, and what a value is read as. Assumes nothing.
use Rattle.std.specs.Prelude.{Ok, Err}
use mathlib.Core.Bool.{Bool, true, false}
use mathlib.Core.List.{List, [], ◌∷◌, map}
use mathlib.Core.Path.{◌≡◌, refl}
use Prim.Native.Nat.{ℕ}
use lib.ListN.{replicate}
use Rattle.laws.specs.Test.{pick}
use Rattle.answer.specs.Answer.{Answer, bare, ensure, ◌>>=◌}
use Rattle.address.specs.Address.{is_name, by_length, is_rest, is_descriptor, Descriptor, descriptor, reading, writing}

-- A descriptor by its type and so many bytes behind it, and whether it is one.
abbrev Sized : Type 0
Sized = (kind : ℕ) × (size : ℕ) × Bool

sizes : List Sized
sizes =
    -- 1, 2, 3 and 4: the length, one byte less and one more
    (1, 6, true) ∷ (1, 5, false) ∷ (1, 7, false) ∷ (1, 0, false) ∷
    (2, 18, true) ∷ (2, 17, false) ∷ (2, 19, false) ∷ (2, 0, false) ∷
    (3, 12, true) ∷ (3, 11, false) ∷ (3, 13, false) ∷ (3, 0, false) ∷
    (4, 37, true) ∷ (4, 36, false) ∷ (4, 38, false) ∷ (4, 0, false) ∷
    -- 0, 6 and 255 are unknown: any rest, also none
    (0, 0, true) ∷ (0, 6, true) ∷ (6, 0, true) ∷ (6, 300, true) ∷ (255, 0, true) ∷ (255, 1, true) ∷
    []

by_size : map (λ (s : Sized). is_descriptor (s.0 ∷ replicate s.1 9)) sizes ≡ map (λ (s : Sized). s.2) sizes
unfolding sizes is_name by_length is_rest is_descriptor pick
by_size = refl

-- The type 5: the bytes of the rest, and whether it is one.
names : List (List ℕ × Bool)
names =
    ([], false) ∷
    (0x00 ∷ [], false) ∷
    (0x00 ∷ 0x00 ∷ 0x00 ∷ [], false) ∷
    -- a name of one byte with its port, cut at its port and in its name, and with a byte behind the port
    (0x01 ∷ 0x61 ∷ 0x26 ∷ 0x07 ∷ [], true) ∷
    (0x01 ∷ 0x61 ∷ 0x26 ∷ [], false) ∷
    (0x01 ∷ [], false) ∷
    (0x01 ∷ 0x61 ∷ 0x26 ∷ 0x07 ∷ 0x00 ∷ [], false) ∷
    -- the longest name
    (0xff ∷ replicate 257 0x61, true) ∷
    (0xff ∷ replicate 256 0x61, false) ∷
    []

by_name : map (λ (s : List ℕ × Bool). is_descriptor (5 ∷ s.0)) names ≡ map (λ (s : List ℕ × Bool). s.1) names
unfolding names is_name by_length is_rest is_descriptor pick
by_name = refl

-- What is read: 127.0.0.1 with the port 9735, an unknown type without a rest, no byte at all, and an IPv4 address without its port.
values : List (List ℕ × Answer Descriptor)
values =
    (0x01 ∷ 0x7f ∷ 0x00 ∷ 0x00 ∷ 0x01 ∷ 0x26 ∷ 0x07 ∷ [], Ok (descriptor 1 (0x7f ∷ 0x00 ∷ 0x00 ∷ 0x01 ∷ 0x26 ∷ 0x07 ∷ []))) ∷
    (0x09 ∷ [], Ok (descriptor 9 [])) ∷
    ([], Err (bare 8)) ∷
    (0x01 ∷ 0x7f ∷ 0x00 ∷ 0x00 ∷ 0x01 ∷ [], Err (bare 8)) ∷
    []

by_value : map (λ (s : List ℕ × Answer Descriptor). reading s.0) values ≡ map (λ (s : List ℕ × Answer Descriptor). s.1) values
unfolding values reading is_name by_length is_rest pick ensure ◌>>=◌
by_value = refl

-- What is written: 8 before 12.
written : map (λ room. writing (descriptor 5 (0x01 ∷ 0x61 ∷ 0x26 ∷ 0x07 ∷ [])) room) (5 ∷ 4 ∷ [])
    ≡ Ok (0x05 ∷ 0x01 ∷ 0x61 ∷ 0x26 ∷ 0x07 ∷ []) ∷ Err (bare 12) ∷ []
unfolding writing is_name by_length is_rest pick ensure ◌>>=◌
written = refl

unwritten : writing (descriptor 1 []) 0 ≡ Err (bare 8)
unfolding writing is_name by_length is_rest pick ensure ◌>>=◌
unwritten = refl
