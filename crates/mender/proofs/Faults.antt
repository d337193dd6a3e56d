-- The first record that disagrees with an earlier one is found by a scan in the order of the types. Assumes nothing.
use Rattle.std.specs.Prelude.{Option, Some, None, Ok, Err}
use borrow.Author.Tests.{eqb-true, eqb-false, eq-eqb, ne_eqb, lt-ltb, le-ltb}
use mathlib.Core.Bool.{Bool, true, false, ◌&&◌, ◌||◌, not}
use mathlib.Core.List.{List, [], ◌∷◌}
use mathlib.Core.Logic.{◌⊎◌, inl, inr, ⊎_elim}
use mathlib.Core.Path.{◌≡◌, refl, sym, ap, ◌∙◌}
use Prim.Native.Nat.{ℕ, ◌≤◌, ◌<◌, min}
use native.Mathlib.Omega.{arith}
use lib.Dec.{eqb}
use Rattle.laws.specs.Test.{pick}
use Rattle.laws.proofs.Test.{pick_yes, pick_no, pick_all, by_order, by_test, and_both}
use Rattle.answer.specs.Answer.{Answer, refuse}
use Rattle.answer.proofs.Answer.{ensure_yes, ensure_no}
use Rattle.sorting.specs.Sorting.{put, puts, sorted, Rises}
use Rattle.sorting.proofs.Laws.{put_here, put_behind, sorted_rises, lower}
use Rattle.mending.specs.Mender.{agrees, agreed, Has}
use Rattle.mender.specs.Private.{leader, lesser, lowered, least_from, least_in}
use Rattle.piece.proofs.Laws.{same_self, same_true}
use Rattle.piece.specs.Piece.{Record, kind_of, same}
use Rattle.sorting.specs.Private.{All}

-- The value of the first record of a type.
unfoldable pub value_of : (kind : ℕ) → List Record → List ℕ
value_of k [] = []
value_of k (e ∷ es) = pick (eqb (kind_of e) k) e.value (value_of k es)

value_here : (k : ℕ) (e : Record) (es : List Record) → kind_of e ≡ k → value_of k (e ∷ es) ≡ e.value
unfolding value_of
value_here k e es h = pick_yes _ _ _ (eq-eqb _ _ h)

value_later : (k : ℕ) (e : Record) (es : List Record) → (kind_of e ≡ k → ⊥) → value_of k (e ∷ es) ≡ value_of k es
unfolding value_of
value_later k e es h = pick_no _ _ _ (ne_eqb _ _ h)

-- the same in the order of the types: equal ones stay as they were
value_put : (k : ℕ) (e : Record) (es : List Record) → value_of k (put kind_of e es) ≡ value_of k (e ∷ es)
unfolding put
value_put k e [] = refl
value_put k e (x ∷ es) =
    by_order (kind_of x) (kind_of e)
    (λ h. rw (put_behind kind_of e x es h)
    (by_test (eqb (kind_of x) k)
    (λ t.
    let is = eqb-true _ _ t in
    value_here k x (put kind_of e es) is ∙ sym (value_later k e (x ∷ es) (λ z. absurd (omega (arith, is, z))) ∙ value_here k x es is))
    (λ t.
    let not-x = eqb-false _ _ t in
    value_later k x (put kind_of e es) not-x ∙ value_put k e es
    ∙ by_test (eqb (kind_of e) k)
    (λ u. value_here k e es (eqb-true _ _ u) ∙ sym (value_here k e (x ∷ es) (eqb-true _ _ u)))
    (λ u. value_later k e es (eqb-false _ _ u) ∙ sym (value_later k e (x ∷ es) (eqb-false _ _ u) ∙ value_later k x es not-x)))))
    (λ h. rw (put_here kind_of e x es h))

value_sorted : (k : ℕ) (es : List Record) → value_of k (sorted kind_of es) ≡ value_of k es
unfolding puts
value_sorted k [] = refl
value_sorted k (e ∷ es) =
    value_put k e (sorted kind_of es)
    ∙ by_test (eqb (kind_of e) k)
    (λ u. value_here k e (sorted kind_of es) (eqb-true _ _ u) ∙ sym (value_here k e es (eqb-true _ _ u)))
    (λ u. value_later k e (sorted kind_of es) (eqb-false _ _ u) ∙ value_sorted k es ∙ sym (value_later k e es (eqb-false _ _ u)))

-- A place, or 65,536 where there is none.
abbrev pub number : Option ℕ → ℕ
number (Some p) = p
number None = 65536

lesser_is : (m : Option ℕ) (q : ℕ) → q < 65536 → lesser m q ≡ min (number m) q
lesser_is (Some p) q h = by_order q p (λ l. pick_yes _ q p (lt-ltb _ _ l) ∙ omega arith) (λ l. pick_no _ q p (le-ltb _ _ l) ∙ omega arith)
lesser_is None q h = omega arith

-- The least place of a record with another value than F says of its type.
module _ (F : ℕ → List ℕ) where
  unfoldable pub fault_at : Record → ℕ
  fault_at e = pick (same (F (kind_of e)) e.value) 65536 e.place

  unfoldable pub least : List Record → ℕ
  least [] = 65536
  least (e ∷ es) = min (fault_at e) (least es)

  least_put : (e : Record) (es : List Record) → least (put kind_of e es) ≡ min (fault_at e) (least es)
  unfolding put least
  least_put e [] = refl
  least_put e (x ∷ es) =
      by_order (kind_of x) (kind_of e)
      (λ h. rw (put_behind kind_of e x es h, least, least_put e es) (omega arith))
      (λ h. rw (put_here kind_of e x es h))

  least_sorted : (es : List Record) → least (sorted kind_of es) ≡ least es
  unfolding puts least
  least_sorted [] = refl
  least_sorted (e ∷ es) = least_put e (sorted kind_of es) ∙ ap (min (fault_at e)) (least_sorted es)

  fault_none : (e : Record) → same (F (kind_of e)) e.value ≡ true → fault_at e ≡ 65536
  unfolding fault_at
  fault_none e h = pick_yes _ _ _ h

  fault_here : (e : Record) → same (F (kind_of e)) e.value ≡ false → fault_at e ≡ e.place
  unfolding fault_at
  fault_here e h = pick_no _ _ _ h

  least_le : (es : List Record) → least es ≤ 65536
  unfolding least
  least_le [] = omega arith
  least_le (e ∷ es) = omega (arith, least_le es)

  -- places rise
  least_up : (p : ℕ) (es : List Record) → p ≤ 65536 → Rises (λ e. e.place) p es → p ≤ least es
  unfolding least Rises
  least_up p [] h r = h
  least_up p (e ∷ es) h r =
      by_test (same (F (kind_of e)) e.value)
      (λ t. omega (arith, fault_none e t, least_up p es h (lower (λ (a : Record). a.place) e.place p es r.0 r.1)))
      (λ t. omega (arith, fault_here e t, r.0, least_up p es h (lower (λ (a : Record). a.place) e.place p es r.0 r.1)))

  -- A scan: f is the first of its type, and so is the first of each greater type that is to come.
  lowered_is : (f e : Record) (m : Option ℕ) → F (kind_of e) ≡ f.value → number m ≤ 65536 → e.place < 65536 → number (lowered f e m) ≡ min (number m) (fault_at e)
  unfolding lowered fault_at
  lowered_is f e m a h p =
      rw a
      (by_test (same f.value e.value)
      (λ t. rw (pick_yes _ m (Some (lesser m e.place)) t, pick_yes _ 65536 e.place t) (omega arith))
      (λ t. rw (pick_no _ m (Some (lesser m e.place)) t, pick_no _ 65536 e.place t) (lesser_is m e.place p)))

  leads : (f e : Record) → kind_of f ≡ kind_of e → leader f e ≡ f
  unfolding leader
  leads f e h = pick_yes _ _ _ (eq-eqb _ _ h)

  leaves : (f e : Record) → (kind_of f ≡ kind_of e → ⊥) → leader f e ≡ e
  unfolding leader
  leaves f e h = pick_no _ _ _ (ne_eqb _ _ h)

  scan : (f : Record) (m : Option ℕ) (es : List Record) → F (kind_of f) ≡ f.value → ((k : ℕ) → kind_of f < k → F k ≡ value_of k es) → Rises kind_of (kind_of f) es →
      number m ≤ 65536 → All (λ e. e.place < 65536) es → number (least_from f m es) ≡ min (number m) (least es)
  unfolding least_from least Rises All
  scan f m [] a b r h p = omega arith
  scan f m (e ∷ es) a b r h p =
      by_test (eqb (kind_of f) (kind_of e))
      (λ t.
      let is : kind_of f ≡ kind_of e = eqb-true (kind_of f) (kind_of e) t in
      let low = lowered_is f e m (ap F (sym is) ∙ a) h p.0 in
      rw (leads f e is)
      (omega (arith, low, scan f (lowered f e m) es a (λ k g. b k g ∙ value_later k e es (λ z. absurd (omega (arith, is, z)))) (rw (sym is) at r.1) (omega (arith, low)) p.1)))
      (λ t.
      let n : kind_of f ≡ kind_of e → ⊥ = eqb-false (kind_of f) (kind_of e) t in
      let up : kind_of f < kind_of e = by_order (kind_of f) (kind_of e) (λ z. z) (λ z. absurd (n (omega (arith, r.0)))) in
      let first = b (kind_of e) up ∙ value_here (kind_of e) e es refl in
      let low = lowered_is e e m first h p.0 in
      rw (leaves f e n)
      (omega (arith, low, scan e (lowered e e m) es first (λ k g. b k (omega arith) ∙ value_later k e es (λ z. absurd (omega (arith, z)))) r.1 (omega (arith, low)) p.1)))

  -- The first record that disagrees.
  agrees_all : (e : Record) (earlier : List Record) → All (λ a. a.value ≡ F (kind_of a)) earlier → F (kind_of e) ≡ e.value → agrees e earlier ≡ true
  unfolding agrees All
  agrees_all e [] a h = refl
  agrees_all e (x ∷ more) a h =
      and_both (not (eqb (kind_of x) (kind_of e)) || same x.value e.value) (agrees e more)
      (by_test (eqb (kind_of x) (kind_of e))
      (λ t.
      let is : x.value ≡ e.value = a.0 ∙ ap F (eqb-true _ _ t) ∙ h in
      rw (t, is) (same_self e.value))
      (λ t. rw t))
      (agrees_all e more a.1 h)

  disagrees : (k : ℕ) (v : List ℕ) (e : Record) (earlier : List Record) → Has k v earlier → kind_of e ≡ k → same v e.value ≡ false → agrees e earlier ≡ false
  unfolding agrees Has
  disagrees k v e [] h is n = absurd h
  disagrees k v e (x ∷ more) h is n =
      ⊎_elim
      (λ q. and_first (not (eqb (kind_of x) (kind_of e)) || same x.value e.value) (agrees e more) (rw (eq-eqb (kind_of x) (kind_of e) (q.0 ∙ sym is), q.1) n))
      (λ q. and_second (not (eqb (kind_of x) (kind_of e)) || same x.value e.value) (agrees e more) (disagrees k v e more q is n))
      h
    where
      and_first : (a b : Bool) → a ≡ false → (a && b) ≡ false
      and_first a b h = rw h

      and_second : (a b : Bool) → b ≡ false → (a && b) ≡ false
      and_second true b h = h
      and_second false b h = refl

  pub record Found (K : ℕ → ℕ) (m : ℕ) (a : Answer (Unit {0})) : Type 0 where
    pub none : 65536 ≤ m → a ≡ Ok tt
    pub some : m < 65536 → a ≡ Err (refuse 80 m (K m))

  answered : (K : ℕ → ℕ) (p : ℕ) (earlier es : List Record) → All (λ a. a.value ≡ F (kind_of a)) earlier → ((k : ℕ) → Has k (F k) earlier ⊎ (F k ≡ value_of k es)) →
      Rises (λ e. e.place) p es → All (λ e. e.place < 65536) es → All (λ e. kind_of e ≡ K e.place) es → Found K (least es) (agreed earlier es)
  unfolding agreed least Rises All Has
  answered K p earlier [] a b r s q = record { none = λ _. refl; some = λ h. absurd (omega arith) }
  answered K p earlier (e ∷ es) a b r s q =
      by_test (same (F (kind_of e)) e.value)
      (λ t.
      let is = same_true _ _ t in
      let next = answered K e.place (e ∷ earlier) es (sym is, a)
      (λ k. ⊎_elim (λ h. inl (inr h))
      (λ h. by_test (eqb (kind_of e) k)
      (λ u. inl (inl (eqb-true _ _ u, sym is ∙ ap F (eqb-true _ _ u))))
      (λ u. inr (h ∙ value_later k e es (eqb-false _ _ u))))
      (b k))
      r.1 s.1 q.1 in
      let m : min (fault_at e) (least es) ≡ least es = omega (arith, fault_none e t, least_le es) in
      let g = ensure_yes (agrees e earlier) (refuse 80 e.place (kind_of e)) (λ _. agreed (e ∷ earlier) es) (agrees_all e earlier a is) in
      rw (m, g) next)
      (λ t.
      let there : Has (kind_of e) (F (kind_of e)) earlier = ⊎_elim (λ h. h) (λ h. absurd (clash t (h ∙ value_here (kind_of e) e es refl))) (b (kind_of e)) in
      let m : min (fault_at e) (least es) ≡ e.place = omega (arith, fault_here e t, least_up e.place es (omega (arith, s.0)) r.1) in
      let g = ensure_no (agrees e earlier) (refuse 80 e.place (kind_of e)) (λ _. agreed (e ∷ earlier) es) (disagrees (kind_of e) (F (kind_of e)) e earlier there refl t) in
      rw (m, g) (record { none = λ h. absurd (omega (arith, s.0)); some = λ h. ap (λ (k : ℕ). Err (refuse 80 e.place k)) q.0 }))
    where
      clash : {v w : List ℕ} → same v w ≡ false → v ≡ w → ⊥
      clash {v} {w} n h = let z : true ≡ false = sym (same_self w) ∙ (rw h at n) in cc

scanned : (F : ℕ → List ℕ) (l : List Record) → ((k : ℕ) → F k ≡ value_of k l) → Rises kind_of 0 l → All (λ e. e.place < 65536) l → number (least_in l) ≡ least F l
unfolding least Rises All
scanned F [] h r s = refl
scanned F (e ∷ l) h r s =
    let is = h (kind_of e) ∙ value_here (kind_of e) e l refl in
    scan F e None l is (λ k g. h k ∙ value_later k e l (λ z. absurd (omega (arith, z)))) r.1 (omega arith) s.1
    ∙ omega (arith, least_le F l, fault_none F e (rw is (same_self e.value)))

-- A place that is found is one of the records'.
abbrev Below : Option ℕ → Type 0
Below (Some p) = p < 65536
Below None = Unit {0}

lowered_below : (f e : Record) (m : Option ℕ) → e.place < 65536 → Below m → Below (lowered f e m)
unfolding lowered
lowered_below f e m p b = pick_all Below (same f.value e.value) m (Some (lesser m e.place)) (λ _. b) (λ _. omega (arith, lesser_is m e.place p))

least_below : (f : Record) (m : Option ℕ) (es : List Record) → Below m → All (λ e. e.place < 65536) es → Below (least_from f m es)
unfolding least_from All
least_below f m [] b p = b
least_below f m (e ∷ es) b p = least_below (leader f e) (lowered (leader f e) e m) es (lowered_below (leader f e) e m p.0 b) p.1

found_below : (l : List Record) → All (λ e. e.place < 65536) l → Below (least_in l)
unfolding All
found_below [] p = tt
found_below (e ∷ l) p = least_below e None l tt p.1

-- What the scan of the sorted records finds is the first that disagrees.
pub record Finds (K : ℕ → ℕ) (m : Option ℕ) (a : Answer (Unit {0})) : Type 0 where
  pub none : m ≡ None → a ≡ Ok tt
  pub some : (p : ℕ) → m ≡ Some p → (p < 65536) × (a ≡ Err (refuse 80 p (K p)))

finds : {F : ℕ → List ℕ} {K : ℕ → ℕ} {a : Answer (Unit {0})} (m : Option ℕ) → Below m → Found F K (number m) a → Finds K m a
finds m b f = record { none = λ e. f.none (rw e (omega arith)); some = λ p e. let s : p < 65536 = rw e at b in (s, (rw e at f.some) s) }

pub fault_found : (K : ℕ → ℕ) (es : List Record) → Rises (λ e. e.place) 0 es → All (λ e. e.place < 65536) es → All (λ e. e.place < 65536) (sorted kind_of es) →
    All (λ e. kind_of e ≡ K e.place) es → Finds K (least_in (sorted kind_of es)) (agreed [] es)
unfolding All
fault_found K es r s s' q =
    let F : ℕ → List ℕ = λ k. value_of k es in
    let found : number (least_in (sorted kind_of es)) ≡ least F es = scanned F (sorted kind_of es) (λ k. sym (value_sorted k es)) (sorted_rises kind_of es) s' ∙ least_sorted F es in
    finds {F = F} _ (found_below _ s') (let f : Found F K (number (least_in (sorted kind_of es))) (agreed [] es) = rw found (answered F K 0 [] es tt (λ k. inr refl) r s q) in f)
