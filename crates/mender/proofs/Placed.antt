-- From the places in the code's hands to the records of the definition. Assumes nothing.
use borrow.Author.Tests.{eqb-true, eqb-false}
use mathlib.Core.Bool.{true, false}
use mathlib.Core.List.{List, [], ◌∷◌, ◌++◌, append-nil}
use mathlib.Core.Path.{◌≡◌, refl, sym, ap, ◌∙◌}
use Prim.Native.Nat.{ℕ, zero, suc, ◌+◌, ◌*◌, ◌≤◌, ◌<◌}
use native.Mathlib.Omega.{arith}
use lib.Dec.{eqb}
use lib.ListN.{length, take, drop, length-map, length-append, length-drop, drop_of_length-le}
use lib.Seq.{sets, drop-drop, take_at, take-append-le, length-take-le}
use Rattle.answer.specs.Answer.{filled}
use Rattle.laws.proofs.Lists.{sets_front}
use Rattle.laws.proofs.Test.{pick_yes, pick_no, by_order, by_test}
use Rattle.piece.specs.Piece.{Record, kind_of, span_of, record_at, is_whole, longer}
use Rattle.piece.proofs.Laws.{is_whole_means}
use Rattle.sorting.specs.Private.{All}
use Rattle.sorting.specs.Sorting.{put, puts, sorted, sorting, Rises, key_by}
use Rattle.sorting.proofs.Answered.{sorting_fits}
use Rattle.sorting.proofs.Laws.{put_here, put_behind, put_put, sorted_length, sorted_rises, sorted_same, sorted_all, lower}
use Rattle.mending.specs.Mender.{reading, read_in, places_of, without, kept, ordered, respelled}
use Rattle.mender.specs.Private.{record_from, records_at, AreWhole, least_in, Sifts, Arranged}
use Rattle.mender.specs.declared.order.Sifted.{Sifted}
use Rattle.mending.proofs.Keeping.{without_same, without_other, kept_sorted}

abbrev place_of : Record → ℕ
place_of e = e.place

-- The records that are read stand at their places, which rise.
pub record Placed (s : List ℕ) (at : ℕ) (es : List Record) : Type 0 where
  pub back : records_at s (places_of es) ≡ es
  pub rises : Rises place_of at es
  pub whole : All (λ e. is_whole (drop e.place s) ≡ true) es
  pub below : All (λ e. e.place < length s) es
  pub kinds : All (λ e. kind_of e ≡ key_by s false e.place) es

placed : (c : ℕ) (s : List ℕ) (at : ℕ) → Placed s at (reading c at (drop at s))
unfolding reading All Rises
placed zero s at = record { back = refl; rises = tt; whole = tt; below = tt; kinds = tt }
placed (suc c) s at =
    by_test (is_whole (drop at s))
    (λ w.
    let e = record_from s at in
    let n = span_of e in
    let i = is_whole_means (drop at s) w in
    let next = rw (← drop-drop n at s) at (placed c s (at + n)) in
    rw (pick_yes _ (e ∷ reading c (at + n) (drop n (drop at s))) [] w)
    (record {
      back = ap (λ (l : List Record). e ∷ l) next.back;
      rises = (omega arith, lower place_of (at + n) at (reading c (at + n) (drop n (drop at s))) (omega arith) next.rises);
      whole = (w, next.whole);
      below = (omega (arith, i.0, i.2, length-drop at s), next.below);
      kinds = (refl, next.kinds);
    }))
    (λ w. rw (pick_no _ (record_from s at ∷ reading c (at + span_of (record_from s at)) (drop (span_of (record_from s at)) (drop at s))) [] w)
    (record { back = refl; rises = tt; whole = tt; below = tt; kinds = tt }))

pub placed_all : (s : List ℕ) → Placed s 0 (read_in s)
placed_all s = placed (length s) s 0

pub places_whole : (s : List ℕ) (es : List Record) → All (λ e. is_whole (drop e.place s) ≡ true) es → AreWhole s (places_of es)
unfolding All AreWhole
places_whole s [] a = tt
places_whole s (e ∷ es) a = (a.0, places_whole s es a.1)

-- the places of the records at some places
pub places_back : (s l : List ℕ) → places_of (records_at s l) ≡ l
places_back s [] = refl
places_back s (p ∷ l) = ap (λ (m : List ℕ). p ∷ m) (places_back s l)

-- Sorted by their types, as places or as records.
put_records : (s : List ℕ) (p : ℕ) (l : List ℕ) → records_at s (put (key_by s false) p l) ≡ put kind_of (record_from s p) (records_at s l)
unfolding put
put_records s p [] = refl
put_records s p (q ∷ l) =
    by_order (key_by s false q) (key_by s false p)
    (λ h. rw (put_behind (key_by s false) p q l h, put_behind kind_of (record_from s p) (record_from s q) (records_at s l) h, put_records s p l))
    (λ h. rw (put_here (key_by s false) p q l h, put_here kind_of (record_from s p) (record_from s q) (records_at s l) h))

sorted_records : (s l : List ℕ) → records_at s (sorted (key_by s false) l) ≡ sorted kind_of (records_at s l)
unfolding puts
sorted_records s [] = refl
sorted_records s (p ∷ l) = put_records s p (sorted (key_by s false) l) ∙ ap (put kind_of (record_from s p)) (sorted_records s l)

pub types_sorted : (s : List ℕ) → records_at s (sorted (key_by s false) (places_of (read_in s))) ≡ sorted kind_of (read_in s)
types_sorted s = sorted_records s (places_of (read_in s)) ∙ ap (sorted kind_of) (placed_all s).back

pub places_sorted : (s : List ℕ) → sorted (key_by s false) (places_of (read_in s)) ≡ places_of (sorted kind_of (read_in s))
places_sorted s = sym (places_back s _) ∙ ap places_of (types_sorted s)

-- Sorted by place, whatever order they came in.
put_either : (key : ℕ → ℕ) → ((a b : ℕ) → key a ≡ key b → a ≡ b) → (x y : ℕ) (l : List ℕ) → put key y (put key x l) ≡ put key x (put key y l)
put_either key one x y l =
    by_order (key x) (key y)
    (λ h. sym (put_put key y x h l))
    (λ h. by_order (key y) (key x) (λ g. put_put key x y g l) (λ g. rw (one x y (omega arith))))

resort_put : (key : ℕ → ℕ) → ((a b : ℕ) → key a ≡ key b → a ≡ b) → (e : Record) (es : List Record) → sorted key (places_of (put kind_of e es)) ≡ put key e.place (sorted key (places_of es))
unfolding put puts
resort_put key one e [] = refl
resort_put key one e (x ∷ es) =
    by_order (kind_of x) (kind_of e)
    (λ h. rw (put_behind kind_of e x es h) (ap (put key x.place) (resort_put key one e es) ∙ put_either key one e.place x.place (sorted key (places_of es))))
    (λ h. rw (put_here kind_of e x es h))

resort : (key : ℕ → ℕ) → ((a b : ℕ) → key a ≡ key b → a ≡ b) → (es : List Record) → sorted key (places_of (sorted kind_of es)) ≡ sorted key (places_of es)
unfolding puts
resort key one [] = refl
resort key one (e ∷ es) = resort_put key one e (sorted kind_of es) ∙ ap (put key e.place) (resort key one es)

without_places : (k at : ℕ) (es : List Record) → Rises place_of at es → Rises place_of at (without k es)
unfolding without Rises
without_places k at [] r = tt
without_places k at (e ∷ es) r =
    by_test (eqb (kind_of e) k)
    (λ t. rw (without_same k e es (eqb-true _ _ t)) (lower place_of e.place at (without k es) r.0 (without_places k e.place es r.1)))
    (λ t. rw (without_other k e es (eqb-false _ _ t)) (r.0, without_places k e.place es r.1))

kept_places : (at : ℕ) (es : List Record) → Rises place_of at es → Rises place_of at (kept es)
unfolding kept Rises
kept_places at [] r = tt
kept_places at (e ∷ es) r = (r.0, without_places (kind_of e) e.place (kept es) (kept_places e.place es r.1))

places_rise : (s : List ℕ) (at : ℕ) (es : List Record) → Rises place_of at es → Rises (key_by s true) at (places_of es)
unfolding Rises
places_rise s at [] r = tt
places_rise s at (e ∷ es) r = (r.0, places_rise s e.place es r.1)

-- the records kept, in their old order
pub old_order : (s : List ℕ) → sorted (key_by s true) (places_of (ordered (read_in s))) ≡ places_of (kept (read_in s))
old_order s =
    resort (key_by s true) (λ a b h. h) (kept (read_in s))
    ∙ sorted_same (key_by s true) 0 (places_of (kept (read_in s))) (places_rise s 0 (kept (read_in s)) (kept_places 0 (read_in s) (placed_all s).rises))

-- Respelled numbers do not hang on the order.
respelled_put : (e : Record) (es : List Record) → respelled (put kind_of e es) ≡ longer e.type + longer e.size + respelled es
unfolding put respelled
respelled_put e [] = refl
respelled_put e (x ∷ es) =
    by_order (kind_of x) (kind_of e)
    (λ h. rw (put_behind kind_of e x es h, respelled) (omega (arith, respelled_put e es)))
    (λ h. rw (put_here kind_of e x es h))

respelled_sorted : (es : List Record) → respelled (sorted kind_of es) ≡ respelled es
unfolding puts respelled
respelled_sorted [] = refl
respelled_sorted (e ∷ es) = respelled_put e (sorted kind_of es) ∙ ap (λ (n : ℕ). longer e.type + longer e.size + n) (respelled_sorted es)

-- The front of a list that was laid over another one, and that was sorted in place.
pub front_laid : (l p : List ℕ) (n : ℕ) → n ≡ length p → n ≤ length l → take n (sets l 0 p) ≡ p
front_laid l p n h k = rw (sets_front l p (omega arith)) (take_at p (drop (length p) l) n (sym h))

module _ (key : ℕ → ℕ) (l q : List ℕ) (n room : ℕ) (h : n ≤ length l) (r : n ≤ room) (e : q ≡ filled (sorting key (take n l) room) (take n l)) where
  as_long : length (sorted key (take n l)) ≡ n
  as_long = sorted_length key (take n l) ∙ length-take-le n l h

  sorted_is : q ≡ sorted key (take n l)
  sorted_is =
      e ∙ rw (sorting_fits key (take n l) room (omega (arith, length-take-le n l h)))
      (rw (drop_of_length-le (take n l) {i = length (sorted key (take n l))} (omega (arith, as_long, length-take-le n l h))) (append-nil _))

  pub front_sorted : take n (q ++ drop n l) ≡ sorted key (take n l)
  front_sorted = rw sorted_is (take_at (sorted key (take n l)) (drop n l) n as_long)

  pub front_room : n ≤ length (q ++ drop n l)
  front_room = omega (arith, length-append q (drop n l), ap length sorted_is, as_long)

-- What is kept of the places in the order of their types.
module _ (s o : List ℕ) (n : ℕ) (count : n ≡ length (read_in s)) (is : take n o ≡ sorted (key_by s false) (places_of (read_in s))) where
  pub sift_whole : AreWhole s (take n o)
  sift_whole = rw (is, places_sorted s) (places_whole s (sorted kind_of (read_in s)) (sorted_all kind_of _ (read_in s) (placed_all s).whole))

  pub sift_rises : Rises (key_by s false) 0 (take n o)
  sift_rises = rw is (sorted_rises (key_by s false) (places_of (read_in s)))

  records_are : records_at s (take n o) ≡ sorted kind_of (read_in s)
  records_are = rw is (types_sorted s)

  as_many : length (take n o) ≡ n
  as_many = rw is (sorted_length (key_by s false) (places_of (read_in s)) ∙ length-map (read_in s) place_of ∙ sym count)

  pub arranged : (q : List ℕ) (r : Sifted) → length q ≡ length (take n o) → Sifts s (take n o) q r → Arranged s (q ++ drop n o) r
  arranged q r same f =
      let front : take r.kept (q ++ drop n o) ≡ take r.kept q = take-append-le r.kept q (drop n o) (omega (arith, f.fewer)) in
      let to-kept : kept (records_at s (take n o)) ≡ ordered (read_in s) = ap kept records_are ∙ kept_sorted (read_in s) in
      let all : records_at s (take r.kept (q ++ drop n o)) ≡ ordered (read_in s) = ap (records_at s) front ∙ f.records ∙ to-kept in
      let places = sym (places_back s (take r.kept (q ++ drop n o))) ∙ ap places_of all in
      record {
        fewer = omega (arith, f.fewer, as_many, count);
        room = omega (arith, f.fewer, length-append q (drop n o));
        placed = places;
        records = all;
        many = sym (length-take-le r.kept q (omega (arith, f.fewer))) ∙ ap length (sym front ∙ places) ∙ length-map (ordered (read_in s)) place_of ∙ sorted_length kind_of (kept (read_in s));
        fault = f.fault ∙ ap least_in records_are;
        size = f.size ∙ rw to-kept;
        respelled = f.respelled ∙ rw to-kept (respelled_sorted (kept (read_in s)));
      }

-- a record takes two bytes or more
reading_half : (c place : ℕ) (bs : List ℕ) → 2 * length (reading c place bs) ≤ length bs
unfolding reading
reading_half zero place bs = omega arith
reading_half (suc c) place bs =
    let e = record_at place bs in
    let rest = reading c (place + span_of e) (drop (span_of e) bs) in
    by_test (is_whole bs)
    (λ w.
    let i = is_whole_means bs w in
    rw (pick_yes _ (e ∷ rest) [] w) (omega (arith, i.0, i.1, i.2, length-drop (span_of e) bs, reading_half c (place + span_of e) (drop (span_of e) bs))))
    (λ w. rw (pick_no _ (e ∷ rest) [] w) (omega arith))

pub read_half : (s : List ℕ) → 2 * length (read_in s) ≤ length s
read_half s = reading_half (length s) 0 s
