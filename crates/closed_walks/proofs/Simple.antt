-- Walks that pass no node twice.
use Rattle.std.proofs.Common.{◌≡◌, ℕ, ◌<◌, Bool, true, false, List, [], ◌∷◌, length, map, refl, sym, ◌∙◌, subst, inl, inr, ⊎_elim, arith}
use Rattle.std.proofs.lemmas.Bool.{cases_eq, or_cases, ne_eqb, eqb-true, false≢true}
use Rattle.std.proofs.lemmas.List.{length-map}
use Rattle.std.proofs.Math.Dec.{eqb}
use Rattle.std.specs.List.{IsDistinct, AllByRecursion, list_any}
use Rattle.std.proofs.lemmas.Map.Steps.{length-le_from_distinct_below}
use Rattle.closed_walks.specs.Graph.{Graph, IsGraph, from, to}
use Rattle.closed_walks.specs.Walk.{Walk, Holds, Avoids, Reach}
use Rattle.closed_walks.specs.Cycle.{AllDiffer}
use Rattle.closed_walks.proofs.Walks.{cases_Holds, Avoids-each, Avoids-at}

module _ (g : Graph) where
  -- the walk leaves no node twice, and ends at none that it left
  pub record IsSimple (w : List ℕ) (v : ℕ) : Type 0 where
    pub passes : AllDiffer (map (from g) w)
    pub ends : Holds (map (from g) w) v → ⊥

  -- a simple walk from u to v whose edges are among those of w
  pub record IsShortened (u v : ℕ) (w : List ℕ) : Type 0 where
    pub walk : List ℕ
    pub leads : Walk g u walk v
    pub simple : IsSimple walk v
    pub within : (e : ℕ) → Holds walk e → Holds w e

  IsSimple-tail : (e : ℕ) (w : List ℕ) (v : ℕ) → IsSimple (e ∷ w) v → IsSimple w v
  IsSimple-tail e w v s = record { passes = s.passes.1; ends = λ h. s.ends (inr h) }

  -- the part of a simple walk from one of its nodes on
  part_from : (x u v : ℕ) (w : List ℕ) → Walk g x w v → IsSimple w v → Holds (map (from g) w) u → IsShortened u v w
  part_from x u v [] leads simple holds = absurd holds
  part_from x u v (e ∷ w) leads simple (inl same) = grind arith
  part_from x u v (e ∷ w) leads simple (inr holds) =
      grind (arith, part_from (to g e) u v w leads.2 (IsSimple-tail e w v simple) holds, IsSimple-tail e w v simple)

  pub shorten : (u v : ℕ) (w : List ℕ) → Walk g u w v → IsShortened u v w
  shorten u v [] leads = record { walk = []; leads = leads; simple = record { passes = tt; ends = λ h. h }; within = λ e h. h }
  shorten u v (e ∷ w) leads =
      let s : IsShortened (to g e) v w = shorten (to g e) v w leads.2 in
      ⊎_elim
      (λ (here : v ≡ u). record { walk = []; leads = sym here; simple = record { passes = tt; ends = λ h. h }; within = λ f h. absurd h })
      (λ apart. ⊎_elim
      (λ (again : Holds (map (from g) s.walk) u).
      let p : IsShortened u v s.walk = part_from (to g e) u v s.walk s.leads s.simple again in
      record { walk = p.walk; leads = p.leads; simple = p.simple; within = λ f h. inr (s.within f (p.within f h)) })
      (λ once. record {
        walk = e ∷ s.walk;
        leads = (leads.0, leads.1, s.leads);
        simple = record {
          passes = (λ h. once (subst (λ x. Holds (map (from g) s.walk) x) leads.1 h), s.simple.passes);
          ends = ⊎_elim (λ same. apart (sym same ∙ leads.1)) s.simple.ends;
        };
        within = λ f h. ⊎_elim (λ same. inl same) (λ rest. inr (s.within f rest)) h;
      })
      (cases_Holds (map (from g) s.walk) u))
      (cases_eq v u)

  -- A node that is reached without some edges is reached by a walk without them that passes no node twice.
  pub record IsSimplyReached (avoided : ℕ → Bool) (u v : ℕ) : Type 0 where
    pub walk : List ℕ
    pub leads : Walk g u walk v
    pub avoids : Avoids avoided walk
    pub simple : IsSimple walk v

  pub Reach-simple : (avoided : ℕ → Bool) (u v : ℕ) → Reach g avoided u v → IsSimplyReached avoided u v
  Reach-simple avoided u v r = grind (arith, shorten u v r.walk r.leads, Avoids-each avoided, Avoids-at avoided r.walk)

-- ---- a walk that passes no node twice is short

-- numbers that differ, as the keys of a set
apart_from : (x : ℕ) (xs : List ℕ) → (Holds xs x → ⊥) → AllByRecursion (λ y. eqb x y ≡ false) xs
apart_from x [] none = tt
apart_from x (y ∷ xs) none = (ne_eqb x y (λ same. none (inl (sym same))), apart_from x xs (λ h. none (inr h)))

distinct : (xs : List ℕ) → AllDiffer xs → IsDistinct eqb xs
unfolding IsDistinct
distinct [] differ = tt
distinct (x ∷ xs) differ = (apart_from x xs differ.0, distinct xs differ.1)

found_below : (xs : List ℕ) (n : ℕ) → ((x : ℕ) → Holds xs x → x < n) → (q : ℕ) → list_any (eqb q) xs ≡ true → q < n
found_below [] n each q found = absurd (false≢true found)
found_below (x ∷ xs) n each q found = ⊎_elim
    (λ (h : eqb q x ≡ true). subst (λ y. y < n) (sym (eqb-true q x h)) (each x (inl refl)))
    (λ (h : list_any (eqb q) xs ≡ true). found_below xs n (λ y held. each y (inr held)) q h)
    (or_cases (eqb q x) (list_any (eqb q) xs) found)

module _ (g : Graph) (sound : IsGraph g) where
  begins_below : (u v : ℕ) (w : List ℕ) → Walk g u w v → (x : ℕ) → Holds (map (from g) w) x → x < g.nodes
  begins_below u v [] leads x held = absurd held
  begins_below u v (e ∷ w) leads x (inl same) = subst (λ y. y < g.nodes) same (sound.begins e leads.0)
  begins_below u v (e ∷ w) leads x (inr held) = begins_below (to g e) v w leads.2 x held

  pub simple_length : (u v : ℕ) (w : List ℕ) → v < g.nodes → Walk g u w v → IsSimple g w v → length w < g.nodes
  simple_length u v w node leads simple =
      grind (arith, length-le_from_distinct_below (v ∷ map (from g) w) g.nodes (distinct (v ∷ map (from g) w) (simple.ends, simple.passes)), distinct (v ∷ map (from g) w) (simple.ends, simple.passes), found_below (v ∷ map (from g) w) g.nodes, begins_below u v w leads, length-map w (from g))
