-- The order in which the edges of a class are met from the start.
use Rattle.std.proofs.Common.{◌≡◌, ◌≢◌, ℕ, ◌<◌, ◌⊎◌, true, false, sym, ◌∙◌, subst, inl, inr, ⊎_elim}
use Rattle.std.proofs.lemmas.Bool.{cases_eq, eqb-false, false≢true, false_from_ne_true}
use Rattle.closed_walks.specs.Graph.{Graph, from, to}
use Rattle.closed_walks.specs.Walk.{Reach, only}
use Rattle.closed_walks.specs.Region.{IsFlowGraph, IsPair, IsBefore, IsInside, IsEntered}
use Rattle.closed_walks.proofs.Reaching.{join, kept}
use Rattle.closed_walks.proofs.Decided.{Reach-reaches, reaches-Reach}
use Rattle.closed_walks.proofs.Classes.{first_closed, equivalent_back}
use Rattle.closed_walks.proofs.Cuts.{meets_none, meets_a, meets_b, first_of_two, last_of_two, without_first, without_second, side, class_entered}
use Rattle.std.proofs.Common.{arith}

pub IsPair-back : (g : Graph) (a b : ℕ) → IsPair g a b → IsPair g b a
IsPair-back g a b p = record { first = p.second; second = p.first; apart = λ same. p.apart (sym same); same = equivalent_back g a b p.same }

module _ (g : Graph) (flow : IsFlowGraph g) where
  pub start_node : 0 < g.nodes
  start_node = subst (λ n. n < g.nodes) flow.start (flow.sound.ends 0 flow.some)

  -- ---- the nodes between two edges, as a test

  pub side_inside : (a b node : ℕ) → side g a b node ≡ true → IsInside g a b node
  side_inside a b node test = Reach-reaches g (only b) (to g a) node test

  pub inside_side : (a b node : ℕ) → IsInside g a b node → side g a b node ≡ true
  inside_side a b node r = reaches-Reach g (only b) flow.sound (to g a) node r

  pub side_false : (a b node : ℕ) → (IsInside g a b node → ⊥) → side g a b node ≡ false
  side_false a b node none = false_from_ne_true (side g a b node) (λ test. none (side_inside a b node test))

  pub pair_entered : (a b : ℕ) → IsPair g a b → IsEntered g (side g a b) a b
  pair_entered a b p = class_entered g flow.sound flow.strong a b p.first p.second p.apart p.same

  -- ---- which of two edges is met first

  -- a node between two edges, from which the first is met, is not the start
  pub not_start : (a b : ℕ) → IsPair g a b → IsBefore g a b → IsInside g a b 0 → ⊥
  not_start a b p before inside = first_closed g a b p.first p.apart p.same (join g (only b) (to g a) 0 (from g a) inside before)

  pub not_both : (a b : ℕ) → IsPair g a b → IsBefore g a b → IsBefore g b a → ⊥
  not_both a b p before after = elim (last_of_two g a b (to g a) 0 (flow.strong (to g a) 0 (flow.sound.ends a p.first) start_node)) [
    | meets_none r ↦ not_start a b p before (without_second g a b (to g a) 0 r)
    | meets_a prefix back ↦ not_start a b p before (without_second g a b (to g a) 0 back)
    | meets_b prefix back ↦ not_start b a (IsPair-back g a b p) after (without_first g a b (to g b) 0 back)
  ]

  pub either_before : (a b : ℕ) → IsPair g a b → IsBefore g a b ⊎ IsBefore g b a
  either_before a b p = elim (first_of_two g a b 0 (from g a) (flow.strong 0 (from g a) start_node (flow.sound.begins a p.first))) [
    | meets_none r ↦ inl (without_second g a b 0 (from g a) r)
    | meets_a prefix back ↦ inl (without_second g a b 0 (from g a) prefix)
    | meets_b prefix back ↦ inr (without_first g a b 0 (from g b) prefix)
  ]

  -- of its class edge 0 is met last
  pub last_is_zero : (c : ℕ) → IsPair g c 0 → IsBefore g c 0
  last_is_zero c p = grind (arith, first_closed, equivalent_back, either_before)

  -- ---- what lies between two edges is entered by the first and left by the second

  pub entered_by : (a b : ℕ) → IsPair g a b → IsBefore g a b → (node : ℕ) → Reach g (only a) 0 node → IsInside g a b node → ⊥
  entered_by a b p before node way inside =
      let cut : IsEntered g (side g a b) a b = pair_entered a b p in
      let out : side g a b node ≡ false = kept g (only a) (λ n. side g a b n ≡ false)
      (λ e edge free here. ⊎_elim
      (λ (same : e ≡ b). subst (λ x. side g a b (to g x) ≡ false) (sym same) cut.exit_head)
      (λ (apart : e ≢ b). sym (cut.others e edge (eqb-false e a free) apart) ∙ here)
      (cases_eq e b))
      0 node way (side_false a b 0 (not_start a b p before)) in
      false≢true (sym out ∙ inside_side a b node inside)

  pub left_by : (a b : ℕ) → IsPair g a b → IsBefore g a b → (node : ℕ) → IsInside g a b node → Reach g (only b) node 0 → ⊥
  left_by a b p before node inside way = not_start a b p before (join g (only b) (to g a) node 0 inside way)
