-- When two edges are cycle equivalent.
use Rattle.std.proofs.Common.{◌≡◌, ◌≢◌, ℕ, ◌<◌, ◌↔◌, List, ◌∷◌, refl, sym, ◌∙◌, subst, inl, ⊎_elim}
use Rattle.std.proofs.lemmas.Bool.{ne_eqb, eq-eqb, false≢true}
use Rattle.closed_walks.specs.Graph.{Graph, edge_count, from, to}
use Rattle.closed_walks.specs.Walk.{IsClosed, Holds, Avoids, Reach, only, IsCycleEquivalent, IsOnlyOnWalksWith}
use Rattle.closed_walks.proofs.Walks.{cases_Holds, rotate, IsClosed-around, Avoids-each, Avoids-at}
use Rattle.std.proofs.Common.{arith}

-- a walk avoids b where it doesn't hold it
pub Avoids-only : (w : List ℕ) (b : ℕ) → (Holds w b → ⊥) → Avoids (only b) w
Avoids-only w b none = Avoids-each (only b) w (λ e holds. ne_eqb e b (λ same. none (subst (λ x. Holds w x) same holds)))

pub not_held : (w : List ℕ) (b : ℕ) → Avoids (only b) w → Holds w b → ⊥
not_held w b avoids holds = false≢true (sym (Avoids-at (only b) w b avoids holds) ∙ eq-eqb b b refl)

module _ (g : Graph) where
  -- Each closed walk with a holds b exactly where a lies on no closed walk of the graph without b.
  pub only_with : (a b : ℕ) → ((w : List ℕ) → IsClosed g w → Holds w a → Holds w b) ↔ IsOnlyOnWalksWith g b a
  only_with a b = (
    λ each w closed avoids holds. not_held w b avoids (each w closed holds),
    λ none w closed holds. ⊎_elim
        (λ h. h)
        (λ missing. absurd (none w closed (Avoids-only w b missing) holds))
        (cases_Holds w b),
  )

  -- the way back to where a begins, of a closed walk without b
  pub Reach-closed : (a b : ℕ) (w : List ℕ) → IsClosed g w → Holds w a → (Holds w b → ⊥) → Reach g (only b) (to g a) (from g a)
  Reach-closed a b w closed holds missing = grind (arith, rotate g w a closed holds, Avoids-only)

  -- Where neither edge is closed to a walk without the other, each closed walk with either holds both.
  forth : (a b : ℕ) → (Reach g (only b) (to g a) (from g a) → ⊥) → (w : List ℕ) → IsClosed g w → Holds w a → Holds w b
  forth a b none w closed holds = ⊎_elim (λ h. h) (λ missing. absurd (none (Reach-closed a b w closed holds missing))) (cases_Holds w b)

  pub IsCycleEquivalent-closed : (a b : ℕ) → (Reach g (only b) (to g a) (from g a) → ⊥) → (Reach g (only a) (to g b) (from g b) → ⊥) → IsCycleEquivalent g a b
  IsCycleEquivalent-closed a b first second = record { forth = forth a b first; back = forth b a second }

  -- an edge that is back at its beginning without b is not on b's closed walks alone
  apart_by : (a b : ℕ) → a < edge_count g → a ≢ b → ((w : List ℕ) → IsClosed g w → Holds w a → Holds w b) → Reach g (only b) (to g a) (from g a) → ⊥
  apart_by a b edge apart each r =
      ⊎_elim apart (not_held r.walk b r.avoids) (each (a ∷ r.walk) (IsClosed-around g a r.walk edge r.leads) (inl refl))

  pub first_closed : (a b : ℕ) → a < edge_count g → a ≢ b → IsCycleEquivalent g a b → Reach g (only b) (to g a) (from g a) → ⊥
  first_closed a b edge apart same = apart_by a b edge apart same.forth

  pub second_closed : (a b : ℕ) → b < edge_count g → a ≢ b → IsCycleEquivalent g a b → Reach g (only a) (to g b) (from g b) → ⊥
  second_closed a b edge apart same = apart_by b a edge (λ e. apart (sym e)) same.back

  -- ---- cycle equivalence is an equivalence

  pub equivalent_itself : (a : ℕ) → IsCycleEquivalent g a a
  equivalent_itself a = record { forth = λ w closed h. h; back = λ w closed h. h }

  pub equivalent_same : (a b : ℕ) → a ≡ b → IsCycleEquivalent g a b
  equivalent_same a b same = subst (λ x. IsCycleEquivalent g a x) same (equivalent_itself a)

  pub equivalent_back : (a b : ℕ) → IsCycleEquivalent g a b → IsCycleEquivalent g b a
  equivalent_back a b e = record { forth = e.back; back = e.forth }

  pub equivalent_on : (a b c : ℕ) → IsCycleEquivalent g a b → IsCycleEquivalent g b c → IsCycleEquivalent g a c
  equivalent_on a b c e f = grind (arith, forth)
