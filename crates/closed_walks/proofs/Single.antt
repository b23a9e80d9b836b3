-- A node other than the start with one edge to it and one from it: the two are a region, and the node is all of it.
use Rattle.std.proofs.Common.{◌≡◌, ◌≢◌, ℕ, ◌↔◌, ◌==◌, refl, sym, ◌∙◌}
use Rattle.std.proofs.lemmas.Bool.{ne_eqb, eq-eqb, eqb-false, false≢true}
use Rattle.closed_walks.specs.Graph.{Graph, from, to}
use Rattle.closed_walks.specs.Walk.{Reach, only, IsCut}
use Rattle.closed_walks.specs.Region.{IsFlowGraph, IsPair, IsBefore, IsInside, IsRegion, IsPassed}
use Rattle.closed_walks.proofs.Reaching.{stay, along_last, kept}
use Rattle.closed_walks.proofs.Cuts.{cut_class}
use Rattle.closed_walks.proofs.Orders.{either_before}
use Rattle.std.proofs.Common.{arith}

module _ (g : Graph) (flow : IsFlowGraph g) (node a b : ℕ) (p : IsPassed g node a b) where
  not_from_a : from g a ≢ node
  not_from_a h = p.apart (p.one_out a p.entry h)

  not_to_b : to g b ≢ node
  not_to_b h = p.apart (sym (p.one_in b p.exit h))

  abbrev cut : IsCut g (λ n. n == node) a b
  cut = record {
    first = λ same. false≢true (sym (ne_eqb (from g a) node not_from_a) ∙ (same ∙ eq-eqb (to g a) node p.in_ends));
    second = λ same. false≢true (sym (ne_eqb (to g b) node not_to_b) ∙ (sym same ∙ eq-eqb (from g b) node p.out_begins));
    others = λ e edge not_a not_b.
        ne_eqb (from g e) node (λ h. not_b (p.one_out e edge h)) ∙ sym (ne_eqb (to g e) node (λ h. not_a (p.one_in e edge h)));
  }

  pair : IsPair g a b
  pair = record { first = p.entry; second = p.exit; apart = p.apart; same = cut_class g (λ n. n == node) a b cut }

  -- the node isn't come to without its one edge
  not_reached : 0 ≢ node → Reach g (only a) 0 node → ⊥
  not_reached away way = kept g (only a) (λ n. n ≢ node) (λ e edge free h there. eqb-false e a free (p.one_in e edge there)) 0 node way away refl

  before : 0 ≢ node → IsBefore g a b
  before away = grind (arith, not_reached away, either_before, pair)

  -- an edge that is met after the one is met after the other
  after_exit : (c : ℕ) → c ≢ a → IsBefore g a c → IsBefore g b c
  after_exit c apart way = grind (arith, along_last g (only c) a 0 p.entry, ne_eqb a c)

  pub passed_region : 0 ≢ node → IsRegion g a b
  passed_region away = search (pair, before, after_exit, either_before, arith)

  pub passed_inside : (n : ℕ) → IsInside g a b n ↔ (n ≡ node)
  passed_inside n = (
    λ way. kept g (only b) (λ x. x ≡ node) (λ e edge free h. absurd (eqb-false e b free (p.one_out e edge h))) (to g a) n way p.in_ends,
    λ same. stay g (only b) (to g a) n (p.in_ends ∙ sym same),
  )
