-- Walks end to end, split at an edge, and closed walks begun at another edge.
use Rattle.std.proofs.Common.{◌≡◌, ℕ, ◌<◌, ◌⊎◌, Bool, false, List, [], ◌∷◌, ◌++◌, refl, sym, ap, subst, inl, inr, ⊎_elim}
use Rattle.std.proofs.lemmas.Bool.{cases_eq}
use Rattle.closed_walks.specs.Graph.{Graph, edge_count, from, to}
use Rattle.closed_walks.specs.Walk.{Walk, IsClosed, Holds, Avoids}
use Rattle.std.proofs.Common.{arith}
use Rattle.std.proofs.lemmas.Grind.{elements}

-- ---- edges of a walk

pub Holds-left : (v w : List ℕ) (e : ℕ) → Holds v e → Holds (v ++ w) e
Holds-left [] w e h = absurd h
Holds-left (f ∷ v) w e (inl same) = inl same
Holds-left (f ∷ v) w e (inr h) = inr (Holds-left v w e h)

pub Holds-right : (v w : List ℕ) (e : ℕ) → Holds w e → Holds (v ++ w) e
Holds-right [] w e h = h
Holds-right (f ∷ v) w e h = inr (Holds-right v w e h)

pub Holds-append : (v w : List ℕ) (e : ℕ) → Holds (v ++ w) e → Holds v e ⊎ Holds w e
Holds-append [] w e h = inr h
Holds-append (f ∷ v) w e (inl same) = inl (inl same)
Holds-append (f ∷ v) w e (inr h) = ⊎_elim (λ l. inl (inr l)) (λ r. inr r) (Holds-append v w e h)

-- whether an edge is one of the walk
pub cases_Holds : (w : List ℕ) (e : ℕ) → Holds w e ⊎ (Holds w e → ⊥)
cases_Holds [] e = inr (λ h. h)
cases_Holds (f ∷ w) e = grind (arith, cases_Holds w e, cases_eq f e)

-- ---- walks

module _ (g : Graph) where
  pub Walk-append : (u v x : ℕ) (w z : List ℕ) → Walk g u w v → Walk g v z x → Walk g u (w ++ z) x
  Walk-append u v x [] z same rest = subst (λ n. Walk g n z x) (sym same) rest
  Walk-append u v x (e ∷ w) z h rest = (h.0, h.1, Walk-append (to g e) v x w z h.2 rest)

  -- a walk from u to v is a walk to the edge, the edge, and a walk from it
  pub record IsSplit (u v : ℕ) (w : List ℕ) (e : ℕ) : Type 0 where
    pub prefix : List ℕ
    pub back : List ℕ
    pub parts : w ≡ prefix ++ e ∷ back
    pub edge : e < edge_count g
    pub before : Walk g u prefix (from g e)
    pub after : Walk g (to g e) back v

  pub split : (u v : ℕ) (w : List ℕ) (e : ℕ) → Walk g u w v → Holds w e → IsSplit u v w e
  split u v [] e h holds = absurd holds
  split u v (f ∷ w) e h (inl same) = subst (λ x. IsSplit u v (f ∷ w) x) same (record { prefix = []; back = w; parts = refl; edge = h.0; before = sym h.1; after = h.2 })
  split u v (f ∷ w) e h (inr holds) =
      let s = split (to g f) v w e h.2 holds in
      record { prefix = f ∷ s.prefix; back = s.back; parts = ap (λ x. f ∷ x) s.parts; edge = s.edge; before = (h.0, h.1, s.before); after = s.after }

  -- an edge and a walk back to where it begins are a closed walk
  pub IsClosed-around : (e : ℕ) (w : List ℕ) → e < edge_count g → Walk g (to g e) w (from g e) → IsClosed g (e ∷ w)
  IsClosed-around e w edge leads = (edge, refl, leads)

  -- a closed walk, begun at one of its edges, goes on by the rest
  pub record IsAround (w : List ℕ) (e : ℕ) : Type 0 where
    pub rest : List ℕ
    pub edge : e < edge_count g
    pub leads : Walk g (to g e) rest (from g e)
    pub within : (f : ℕ) → Holds rest f → Holds w f
    pub covers : (f : ℕ) → Holds w f → (e ≡ f) ⊎ Holds rest f

  around_parts : (base e : ℕ) (prefix back : List ℕ) → e < edge_count g → Walk g base prefix (from g e) → Walk g (to g e) back base → IsAround (prefix ++ e ∷ back) e
  around_parts base e prefix back edge before after = grind (arith, elements, Walk-append, Holds-right, Holds-left, Holds-append)

  pub rotate : (w : List ℕ) (e : ℕ) → IsClosed g w → Holds w e → IsAround w e
  rotate [] e closed holds = absurd holds
  rotate (f ∷ w) e closed holds = grind (arith, split (from g f) (from g f) (f ∷ w) e closed holds, around_parts (from g f) e)

-- ---- edges that are avoided

pub Avoids-append : (avoided : ℕ → Bool) (v w : List ℕ) → Avoids avoided v → Avoids avoided w → Avoids avoided (v ++ w)
Avoids-append avoided [] w h rest = rest
Avoids-append avoided (e ∷ v) w h rest = (h.0, Avoids-append avoided v w h.1 rest)

pub Avoids-each : (avoided : ℕ → Bool) (w : List ℕ) → ((e : ℕ) → Holds w e → avoided e ≡ false) → Avoids avoided w
Avoids-each avoided [] each = tt
Avoids-each avoided (e ∷ w) each = (each e (inl refl), Avoids-each avoided w (λ f h. each f (inr h)))

pub Avoids-at : (avoided : ℕ → Bool) (w : List ℕ) (e : ℕ) → Avoids avoided w → Holds w e → avoided e ≡ false
Avoids-at avoided [] e h holds = absurd holds
Avoids-at avoided (f ∷ w) e h (inl same) = subst (λ x. avoided x ≡ false) same h.0
Avoids-at avoided (f ∷ w) e h (inr holds) = Avoids-at avoided w e h.1 holds

pub Avoids-within : (more less : ℕ → Bool) → ((e : ℕ) → more e ≡ false → less e ≡ false) → (w : List ℕ) → Avoids more w → Avoids less w
Avoids-within more less within [] h = tt
Avoids-within more less within (e ∷ w) h = (within e h.0, Avoids-within more less within w h.1)
