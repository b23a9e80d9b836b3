-- Regions of one class: an entry has one exit, and the nodes of two regions are apart.
use Rattle.std.proofs.Common.{◌≡◌, ◌≢◌, ℕ, ◌↔◌, true, ◌==◌, sym, ◌∙◌, subst, ⊎_elim}
use Rattle.std.proofs.lemmas.Bool.{cases_eq, ne_eqb, eqb-true, or_from, false≢true}
use Rattle.closed_walks.specs.Graph.{Graph, from, to}
use Rattle.closed_walks.specs.Walk.{Reach, only, either}
use Rattle.closed_walks.specs.Region.{IsFlowGraph, IsPair, IsBefore, IsInside, IsEntered, IsRegion}
use Rattle.closed_walks.proofs.Reaching.{IsMet, first_of, along_first, join}
use Rattle.closed_walks.proofs.Classes.{equivalent_back, equivalent_on}
use Rattle.closed_walks.proofs.Cuts.{without_first, without_second, side}
use Rattle.closed_walks.proofs.Orders.{IsPair-back, side_inside, inside_side, pair_entered, not_both, either_before, entered_by}
use Rattle.std.proofs.lemmas.Grind.{elements}
use Rattle.std.proofs.Common.{arith}

module _ (g : Graph) (flow : IsFlowGraph g) where
  -- ---- entries and exits

  pub one_exit : (a b c : ℕ) → IsRegion g a b → IsRegion g a c → b ≡ c
  one_exit a b c r s = search (equivalent_on, equivalent_back, not_both, arith)

  pub one_entry : (a c b : ℕ) → IsRegion g a b → IsRegion g c b → a ≡ c
  one_entry a c b r s = grind (arith, equivalent_on, equivalent_back, not_both)

  -- the nodes of a region tell its entry
  pub entry_of : (a b c d : ℕ) → IsRegion g a b → IsRegion g c d → ((node : ℕ) → IsInside g a b node ↔ IsInside g c d node) → a ≡ c
  entry_of a b c d r s equal =
      let inner : IsEntered g (side g a b) a b = pair_entered g flow a b r.pair in
      let outer : IsEntered g (side g c d) c d = pair_entered g flow c d s.pair in
      let in_c : side g a b (to g c) ≡ true = inside_side g flow a b (to g c) ((equal (to g c)).1 (side_inside g flow c d (to g c) outer.head)) in
      let out_c : side g a b (from g c) ≡ true → ⊥ = λ h. false≢true (sym outer.tail ∙ inside_side g flow c d (from g c) ((equal (from g c)).0 (side_inside g flow a b (from g c) h))) in
      ⊎_elim
      (λ (same : c ≡ a). sym same)
      (λ (not_a : c ≢ a). ⊎_elim
      (λ (same : c ≡ b). absurd (out_c (subst (λ x. side g a b (from g x) ≡ true) (sym same) inner.exit_tail)))
      (λ (not_b : c ≢ b). absurd (out_c (inner.others c s.pair.first not_a not_b ∙ in_c)))
      (cases_eq c b))
      (cases_eq c a)

  -- ---- two regions of one class

  -- what lies between two edges is reached from the start without the second
  inside_reached : (a b node : ℕ) → IsPair g a b → IsBefore g a b → IsInside g a b node → Reach g (only b) 0 node
  inside_reached a b node p before inside = grind (arith, elements, join, along_first, ne_eqb)

  apart_after : (a b c d : ℕ) → IsRegion g a b → IsRegion g c d → IsPair g a c → IsBefore g a c → (node : ℕ) → IsInside g a b node → IsInside g c d node → ⊥
  apart_after a b c d r s p before node inside other =
      let way : Reach g (only b) 0 node = inside_reached a b node r.pair r.before inside in
      ⊎_elim
      (λ (same : c ≡ b). entered_by g flow c d s.pair s.before node (subst (λ x. Reach g (only x) 0 node) (sym same) way) other)
      (λ (not_b : c ≢ b).
      let q : IsPair g b c = record { first = r.pair.second; second = s.pair.first; apart = λ same. not_b (sym same); same = equivalent_on g b a c (equivalent_back g a b r.pair.same) p.same } in
      ⊎_elim
      (λ (h : IsBefore g c a). not_both g flow a c p before h)
      (λ (h : IsBefore g b c). ⊎_elim
      (λ (none : Reach g (either b c) 0 node). entered_by g flow c d s.pair s.before node (without_second g b c 0 node none) other)
      (λ (m : IsMet g (only c) (either b c) (only b) 0 node).
      not_both g flow b c q h (without_first g b c 0 (from g c) (subst (λ x. Reach g (either b c) 0 (from g x)) (eqb-true m.edge c m.among) m.before)))
      (first_of g (only c) (only b) (either b c) (λ e not_c free. or_from (e == b) (e == c) free not_c) 0 node way))
      (r.next c s.pair.first (λ same. p.apart (sym same)) not_b p.same))
      (cases_eq c b)

  pub class_apart : (a b c d : ℕ) → IsRegion g a b → IsRegion g c d → IsPair g a c → (node : ℕ) → IsInside g a b node → IsInside g c d node → ⊥
  class_apart a b c d r s p node inside other = ⊎_elim
      (λ (h : IsBefore g a c). apart_after a b c d r s p h node inside other)
      (λ (h : IsBefore g c a). apart_after c d a b s r (IsPair-back g a c p) h node other inside)
      (either_before g flow a c p)
