-- What a step of a depth-first walk changes of edges that were taken.
use Rattle.std.proofs.Common.{◌≡◌, ◌≢◌, ℕ, zero, suc, ◌+◌, ◌<◌, ◌≤◌, ◌⊎◌, true, if◌then◌else◌, [], ◌∷◌, refl, inl, inr, ⊎_elim, arith, length-append}
use Rattle.std.proofs.lemmas.Bool.{cases_lt, or_left, or_right, eq-eqb, ne_eqb}
use Rattle.closed_walks.specs.Graph.{Graph, edge_count, touches, touching_below}
use Rattle.cycle_equiv.specs.DepthFirst.{Joins}
use Rattle.cycle_equiv.specs.Walking.{Trail, IsTaken, earlier, put, taking}

-- ---- functions told another value

pub put_same : {A : Type 0} (f : ℕ → A) (x : ℕ) (a : A) (y : ℕ) → y ≡ x → put f x a y ≡ a
put_same f x a y same = rw (eq-eqb y x same) refl

pub put_other : {A : Type 0} (f : ℕ → A) (x : ℕ) (a : A) (y : ℕ) → y ≢ x → put f x a y ≡ f y
put_other f x a y other = rw (ne_eqb y x other) refl

-- ---- the ends of an edge

pub joins_touches : (g : Graph) (e x y : ℕ) → Joins g e x y → touches g x e ≡ true
joins_touches g e x y ends = grind (arith, or_left, eq-eqb, or_right)

-- the one end tells the other
pub joins_one : (g : Graph) (e x y z : ℕ) → Joins g e x y → Joins g e x z → z ≡ y
joins_one g e x y z first second = grind arith

pub joins_back : (g : Graph) (e x y : ℕ) → Joins g e x y → Joins g e y x
joins_back g e x y ends = ⊎_elim (λ h. inr h) (λ h. inl h) ends

-- two pairs of ends of an edge are the same, or turned round
pub two_ends : (g : Graph) (e u x v y : ℕ) → Joins g e u x → Joins g e v y → ((u ≡ y) × (v ≡ x)) ⊎ (x ≡ y)
two_ends g e u x v y first second = grind arith

-- ---- how many edges of lower numbers touch a node

module _ (g : Graph) (x : ℕ) where
  earlier_next : (e : ℕ) → touches g x e ≡ true → earlier g x (suc e) ≡ earlier g x e + 1
  earlier_next e touched = rw touched (length-append (touching_below g x e) (e ∷ []))

  earlier_grows : (e d : ℕ) → e ≤ d → earlier g x e ≤ earlier g x d
  earlier_grows e zero less = let same : e ≡ 0 = omega arith in rw same (omega arith)
  earlier_grows e (suc d) less = ⊎_elim
      (λ (h : e < suc d).
      let rest = earlier_grows e d (omega arith) in
      let long = length-append (touching_below g x d) (if touches g x d then d ∷ [] else []) in
      omega arith)
      (λ (h : suc d ≤ e). let same : e ≡ suc d = omega arith in rw same (omega arith))
      (cases_lt e (suc d))

  pub earlier_less : (e d : ℕ) → touches g x e ≡ true → e < d → earlier g x e < earlier g x d
  earlier_less e d touched less = grind (arith, earlier_next e touched, earlier_grows (suc e) d)

  pub earlier_one : (e d : ℕ) → touches g x e ≡ true → touches g x d ≡ true → earlier g x e ≡ earlier g x d → e ≡ d
  earlier_one e d e_touched d_touched same = grind (arith, earlier_less)

-- ---- one edge more was taken

module _ (g : Graph) (w : Trail) (u : ℕ) where
  pub taken_still : (x e : ℕ) → IsTaken g w x e → IsTaken g (taking w u) x e
  taken_still x e h = grind (arith, put_same w.taken, put_other w.taken)

  pub taken_elsewhere : (x e : ℕ) → x ≢ u → IsTaken g (taking w u) x e → IsTaken g w x e
  taken_elsewhere x e other h = grind (arith, put_other w.taken u (w.taken u + 1) x other)

  module _ (e : ℕ) (edge : e < edge_count g) (touched : touches g u e ≡ true) (next : earlier g u e ≡ w.taken u) where
    pub taken_now : IsTaken g (taking w u) u e
    taken_now = grind (arith, put_same w.taken u (w.taken u + 1) u)

    pub taken_here : (d : ℕ) → IsTaken g (taking w u) u d → (d ≡ e) ⊎ IsTaken g w u d
    taken_here d h = grind (arith, put_same w.taken u (w.taken u + 1) u, earlier_one g u d e h.touched touched, cases_lt (earlier g u d) (w.taken u))
