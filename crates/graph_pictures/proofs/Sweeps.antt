-- What sweeps over the edges find.
use Rattle.std.proofs.Common.{arith, ◌≡◌, ◌∙◌, ◌<◌, ◌≤◌, ◌+◌, ◌-◌, ℕ, zero, suc, List, Option, ap, refl, sym}
use Rattle.printed_graphs.specs.declared.flow.PrintedFlow.{PrintedFlow}
use Rattle.graph_pictures.specs.FlowDot.{over_all, over_edges}

-- a sweep that finds nothing comes to an end
idle : (flow : PrintedFlow) (times : ℕ) (found : List (Option ℕ)) → over_edges flow 0 flow.edges.items found ≡ found → over_all flow times found ≡ found
idle flow zero found same = refl
idle flow (suc n) found same = ap (over_all flow n) same ∙ idle flow n found same

module _ (flow : PrintedFlow) (count k : ℕ) (found next whole : List (Option ℕ)) where
  -- one sweep more
  pub one_sweep : k < count → next ≡ over_edges flow 0 flow.edges.items found → over_all flow (count - k) found ≡ whole → over_all flow (count - (k + 1)) next ≡ whole
  one_sweep more is before =
      let one : count - k ≡ suc (count - (k + 1)) = omega (arith, more) in
      ap (over_all flow (count - (k + 1))) is ∙ sym (ap (λ m. over_all flow m found) one) ∙ before

  -- nothing was found
  pub idle_sweep : next ≡ over_edges flow 0 flow.edges.items found → next ≡ found → over_all flow (count - k) found ≡ whole → next ≡ whole
  idle_sweep is same before = same ∙ sym (idle flow (count - k) found (sym is ∙ same)) ∙ before

  -- there were as many as there may be
  pub last_sweep : count ≤ k → over_all flow (count - k) found ≡ whole → found ≡ whole
  last_sweep all before = let none : count - k ≡ 0 = omega (arith, all) in sym (ap (λ m. over_all flow m found) none) ∙ before
