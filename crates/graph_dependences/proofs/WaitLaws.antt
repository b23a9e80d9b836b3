-- Waiting of operations on operations.
use Rattle.std.proofs.Common.{◌≡◌, ◌<◌, ◌≤◌, ◌+◌, ◌↔◌, ℕ, Bool, true, false, length, subst, arith, ⊎_elim}
use Rattle.std.proofs.lemmas.Bool.{cases_lt}
use Rattle.std.proofs.lemmas.Option.{slice_get_within}
use Rattle.printed_graphs.specs.declared.dataflow.PrintedGraph.{PrintedGraph}
use Rattle.printed_graphs.specs.declared.flow.PrintedFlow.{PrintedFlow}
use Rattle.graph_dependences.specs.Waiting.{WaitsAt, WaitsFor, WaitsOn}

-- none of the first ones, and not the next one
pub none_more : (P : ℕ → Type 0) (k : ℕ) → ((i : ℕ) → i < k → P i → ⊥) → (P k → ⊥) → (i : ℕ) → i < k + 1 → P i → ⊥
none_more P k none never i low h = ⊎_elim (λ (less : i < k). none i less h) (λ (same : k ≤ i). never (subst P (omega (arith, same, low)) h)) (cases_lt i k)

module _ (g : PrintedGraph) (flow : PrintedFlow) (one_line two_line : ℕ) (turned : Bool) where
  pub none_on : (first n : ℕ) → length g.nodes.items ≤ n → ((i : ℕ) → i < n → WaitsAt g flow one_line two_line turned first i → ⊥) → (false ≡ true) ↔ WaitsOn g flow one_line two_line turned first
  none_on first n all none = (λ e. absurd cc, λ h. absurd (none h.0 (omega (arith, all, slice_get_within g.nodes.items h.0 h.1.two h.1.is_two)) h.1))

  pub none_for : (n : ℕ) → length g.nodes.items ≤ n → ((i : ℕ) → i < n → WaitsOn g flow one_line two_line turned i → ⊥) → (false ≡ true) ↔ WaitsFor g flow one_line two_line turned
  none_for n all none = (λ e. absurd cc, λ h. absurd (none h.0 (omega (arith, all, slice_get_within g.nodes.items h.0 h.1.1.one h.1.1.is_one)) h.1))
