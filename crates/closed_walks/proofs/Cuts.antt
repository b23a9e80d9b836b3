-- Cuts of two edges: in a strongly connected graph two edges are cycle equivalent exactly where they are one.
use Rattle.std.proofs.Common.{◌≡◌, ◌≢◌, ℕ, ◌<◌, ◌⊎◌, ◌↔◌, Bool, true, false, ◌==◌, sym, ◌∙◌, subst, ⊎_elim}
use Rattle.std.proofs.lemmas.Bool.{or_parts, or_from, ne_eqb, eqb-true, eqb-false, false≢true, false_from_ne_true}
use Rattle.closed_walks.specs.Graph.{Graph, IsGraph, edge_count, from, to}
use Rattle.closed_walks.specs.Walk.{Reach, no_edge, only, either, IsStrong, IsCycleEquivalent, IsCut}
use Rattle.closed_walks.specs.Region.{IsPair, IsInside, IsEntered}
use Rattle.closed_walks.proofs.Reaching.{stay, join, along_last, Reach-within, IsMet, first_of, last_of, same_along}
use Rattle.closed_walks.proofs.Decided.{reaches, Reach-reaches, reaches-Reach}
use Rattle.closed_walks.proofs.Classes.{IsCycleEquivalent-closed, first_closed, second_closed}
use Rattle.std.proofs.Common.{arith}
use Rattle.std.proofs.lemmas.Grind.{elements}

-- ---- sets of one edge and of two

either_first : (a b e : ℕ) → either a b e ≡ false → only a e ≡ false
either_first a b e h = (or_parts (e == a) (e == b) h).0

either_second : (a b e : ℕ) → either a b e ≡ false → only b e ≡ false
either_second a b e h = (or_parts (e == a) (e == b) h).1

free_of : (b e : ℕ) → e ≢ b → only b e ≡ false
free_of b e apart = ne_eqb e b apart

module _ (g : Graph) where
  -- a way from u to v meets neither of two edges, or meets one of them: `prefix` is avoided before it, and `back` after it
  pub data MeetsOf (a b : ℕ) (prefix back : ℕ → Bool) (u v : ℕ) : Type 0 where
    meets_none : Reach g (either a b) u v → MeetsOf a b prefix back u v
    meets_a : Reach g prefix u (from g a) → Reach g back (to g a) v → MeetsOf a b prefix back u v
    meets_b : Reach g prefix u (from g b) → Reach g back (to g b) v → MeetsOf a b prefix back u v

  met : (a b : ℕ) (prefix back : ℕ → Bool) (u v : ℕ) → Reach g (either a b) u v ⊎ IsMet g (either a b) prefix back u v → MeetsOf a b prefix back u v
  met a b prefix back u v found = grind (arith, eqb-true)

  -- the first of two edges on a way, and the last
  pub first_of_two : (a b u v : ℕ) → Reach g no_edge u v → MeetsOf a b (either a b) no_edge u v
  first_of_two a b u v r = met a b (either a b) no_edge u v (first_of g (either a b) no_edge (either a b) (λ e h none. h) u v r)

  pub last_of_two : (a b u v : ℕ) → Reach g no_edge u v → MeetsOf a b no_edge (either a b) u v
  last_of_two a b u v r = met a b no_edge (either a b) u v (last_of g (either a b) no_edge (either a b) (λ e h none. h) u v r)

  pub without_first : (a b u v : ℕ) → Reach g (either a b) u v → Reach g (only a) u v
  without_first a b u v r = Reach-within g (either a b) (only a) (either_first a b) u v r

  pub without_second : (a b u v : ℕ) → Reach g (either a b) u v → Reach g (only b) u v
  without_second a b u v r = Reach-within g (either a b) (only b) (either_second a b) u v r

  -- without b as far as the first b
  pub before_first : (b u : ℕ) → Reach g no_edge u (from g b) → Reach g (only b) u (from g b)
  before_first b u r = ⊎_elim
      (λ h. h)
      (λ (m : IsMet g (only b) (only b) no_edge u (from g b)). subst (λ x. Reach g (only b) u (from g x)) (eqb-true m.edge b m.among) m.before)
      (first_of g (only b) no_edge (only b) (λ e h none. h) u (from g b) r)

  -- ---- a class is a cut

  -- the nodes that are reached from the head of a without b
  abbrev pub side : (a b : ℕ) → ℕ → Bool
  side a b p = reaches g (only b) (to g a) p

  module _ (sound : IsGraph g) (strong : IsStrong g) (a b : ℕ) (a_edge : a < edge_count g) (b_edge : b < edge_count g)
      (no_way : Reach g (only b) (to g a) (from g a) → ⊥) (no_back : Reach g (only a) (to g b) (from g b) → ⊥) where
    reached : (p : ℕ) → side a b p ≡ true → Reach g (only b) (to g a) p
    reached p test = Reach-reaches g (only b) (to g a) p test

    is_inside : (p : ℕ) → Reach g (only b) (to g a) p → side a b p ≡ true
    is_inside p r = reaches-Reach g (only b) sound (to g a) p r

    is_outside : (p : ℕ) → (Reach g (only b) (to g a) p → ⊥) → side a b p ≡ false
    is_outside p none = false_from_ne_true (side a b p) (λ test. none (reached p test))

    exit_reached : Reach g (only b) (to g a) (from g b)
    exit_reached = before_first b (to g a) (strong (to g a) (from g b) (sound.ends a a_edge) (sound.begins b b_edge))

    not_past : Reach g (only b) (to g a) (to g b) → ⊥
    not_past past = elim (first_of_two a b (to g b) (from g b) (strong (to g b) (from g b) (sound.ends b b_edge) (sound.begins b b_edge))) [
      | meets_none r ↦ no_back (without_first a b (to g b) (from g b) r)
      | meets_a prefix back ↦ no_way (join g (only b) (to g a) (to g b) (from g a) past (without_second a b (to g b) (from g a) prefix))
      | meets_b prefix back ↦ no_back (without_first a b (to g b) (from g b) prefix)
    ]

    -- a way from b's head to an edge that goes into the set, and on from there to b
    not_round : (e : ℕ) → e < edge_count g → Reach g (either a b) (to g b) (to g e) → Reach g (only b) (to g a) (to g e) → ⊥
    not_round e edge round inside = elim (first_of_two a b (to g e) (from g b) (strong (to g e) (from g b) (sound.ends e edge) (sound.begins b b_edge))) [
      | meets_none r ↦ no_back (without_first a b (to g b) (from g b) (join g (either a b) (to g b) (to g e) (from g b) round r))
      | meets_a prefix back ↦ no_way (join g (only b) (to g a) (to g e) (from g a) inside (without_second a b (to g e) (from g a) prefix))
      | meets_b prefix back ↦ no_back (without_first a b (to g b) (from g b) (join g (either a b) (to g b) (to g e) (from g b) round prefix))
    ]

    -- no other edge enters the set
    not_entered : (e : ℕ) → e < edge_count g → e ≢ a → e ≢ b → Reach g (only b) (to g a) (to g e) → (Reach g (only b) (to g a) (from g e) → ⊥) → ⊥
    not_entered e edge not_a not_b inside outside = elim (last_of_two a b (to g a) (from g e) (strong (to g a) (from g e) (sound.ends a a_edge) (sound.begins e edge))) [
      | meets_none r ↦ outside (without_second a b (to g a) (from g e) r)
      | meets_a prefix back ↦ outside (without_second a b (to g a) (from g e) back)
      | meets_b prefix back ↦ not_round e edge (along_last g (either a b) e (to g b) edge (or_from (e == a) (e == b) (free_of a e not_a) (free_of b e not_b)) back) inside
    ]

    other_edge : (e : ℕ) → e < edge_count g → e ≢ a → e ≢ b → side a b (from g e) ≡ side a b (to g e)
    other_edge e edge not_a not_b = grind (arith, is_inside, along_last, free_of, reached, is_outside, not_entered)

    pub entered : IsEntered g (side a b) a b
    entered = grind (arith, elements, is_inside, stay, is_outside, exit_reached, not_past, other_edge)

    pub IsCut-entered : IsCut g (side a b) a b
    IsCut-entered = record {
      first = λ same. false≢true (sym entered.tail ∙ (same ∙ entered.head));
      second = λ same. false≢true (sym entered.exit_head ∙ (sym same ∙ entered.exit_tail));
      others = entered.others;
    }

  -- Two edges of one class are a cut: of all edges the one alone enters the nodes that are reached from its head without
  -- the other, and the other alone leaves them.
  pub class_entered : IsGraph g → IsStrong g → (a b : ℕ) → a < edge_count g → b < edge_count g → a ≢ b → IsCycleEquivalent g a b → IsEntered g (side a b) a b
  class_entered sound strong a b a_edge b_edge apart same = entered sound strong a b a_edge b_edge (first_closed g a b a_edge apart same) (second_closed g a b b_edge apart same)

  pub class_cut : IsGraph g → IsStrong g → (a b : ℕ) → a < edge_count g → b < edge_count g → a ≢ b → IsCycleEquivalent g a b → IsCut g (side a b) a b
  class_cut sound strong a b a_edge b_edge apart same = IsCut-entered sound strong a b a_edge b_edge (first_closed g a b a_edge apart same) (second_closed g a b b_edge apart same)

  -- that set, as the nodes that lie between the two edges
  pub class_side : IsGraph g → IsStrong g → (a b : ℕ) → IsPair g a b → (inside : ℕ → Bool) × ((node : ℕ) → (inside node ≡ true) ↔ IsInside g a b node) × IsEntered g inside a b
  class_side sound strong a b p =
      grind (arith, Reach-reaches g (only b) (to g a), reaches-Reach g (only b) sound (to g a), class_entered sound strong a b p.first p.second p.apart p.same)

  -- ---- a cut is a class, in any graph

  module _ (test : ℕ → Bool) (a b : ℕ) (cut : IsCut g test a b) where
    constant : (u v : ℕ) → Reach g (either a b) u v → test u ≡ test v
    constant u v r = same_along g (either a b) test
        (λ e edge free. cut.others e edge (eqb-false e a (either_first a b e free)) (eqb-false e b (either_second a b e free)))
        u v r

    cut_first : Reach g (only b) (to g a) (from g a) → ⊥
    cut_first r = ⊎_elim
        (λ round. cut.first (sym (constant (to g a) (from g a) round)))
        (λ (m : IsMet g (only a) (only b) (either a b) (to g a) (from g a)).
        cut.first (sym (constant (to g a) (from g a) (subst (λ x. Reach g (either a b) (to g x) (from g a)) (eqb-true m.edge a m.among) m.after))))
        (last_of g (only a) (only b) (either a b) (λ e not_a not_b. or_from (e == a) (e == b) not_a not_b) (to g a) (from g a) r)

    cut_second : Reach g (only a) (to g b) (from g b) → ⊥
    cut_second r = ⊎_elim
        (λ round. cut.second (sym (constant (to g b) (from g b) round)))
        (λ (m : IsMet g (only b) (only a) (either a b) (to g b) (from g b)).
        cut.second (sym (constant (to g b) (from g b) (subst (λ x. Reach g (either a b) (to g x) (from g b)) (eqb-true m.edge b m.among) m.after))))
        (last_of g (only b) (only a) (either a b) (λ e not_b not_a. or_from (e == a) (e == b) not_a not_b) (to g b) (from g b) r)

    pub cut_class : IsCycleEquivalent g a b
    cut_class = IsCycleEquivalent-closed g a b cut_first cut_second

  -- In a strongly connected graph two different edges are cycle equivalent exactly where they are a cut.
  pub class_is_cut : IsGraph g → IsStrong g → (a b : ℕ) → a < edge_count g → b < edge_count g → a ≢ b → IsCycleEquivalent g a b ↔ ((test : ℕ → Bool) × IsCut g test a b)
  class_is_cut sound strong a b a_edge b_edge apart =
      (λ same. (side a b, class_cut sound strong a b a_edge b_edge apart same), λ (test, cut). cut_class test a b cut)
