-- The markings that firings make, and what they name, from what their steps do.
use Rattle.std.proofs.Common.{◌≡◌, ◌<◌, ℕ, true, false, List, [], ◌∷◌, length, All, Contains, Option, Some, None, is_some, slice_set, inl, inr, sym, ap, ◌∙◌, subst}
use Rattle.dep_routing.specs.Routing.{next_at}
use Rattle.op_table.specs.declared.Trap.{Trap}
use Rattle.cfg_build.specs.Passes.{Traps, out}
use Rattle.firing.specs.declared.system.NodeName.TheVariants.{Merge, Switch}
use Rattle.list_laws.specs.Member.{Member}
use Rattle.net_board.specs.Nodes.{NetOf, graph_in, nodes_of, first_node}
use Rattle.net_board.specs.Tokens.{Tokens, acted, edge_of, gone, left_for, stopped, switched}
use Rattle.net_board.specs.WokenNodes.{HasNext, IsWoken}
use Rattle.token_net.specs.WokenList.{Keeps}
use Rattle.token_net.proofs.WakeLoops.{next_kept}

pub merge_woken : (net : NetOf) (new : Tokens) (piece line : ℕ) (woken : List ℕ) → All (λ j. j < length (nodes_of net)) woken → HasNext net woken line (edge_of new line) → IsWoken net new (Merge piece line) woken
merge_woken net new piece line woken nodes has = record { are_nodes = nodes; lines = by; nodes = λ j m. absurd m }
  where
    by : (l : ℕ) → Member (line ∷ []) l → HasNext net woken l (edge_of new l)
    by l (inl same) = subst (λ x. HasNext net woken x (edge_of new x)) same has
    by l (inr none) = absurd none

pub switch_woken : (net : NetOf) (new : Tokens) (piece line first : ℕ) (before woken : List ℕ) → All (λ j. j < length (nodes_of net)) woken → HasNext net before line (edge_of new line) → Keeps before woken → first ≡ first_node net piece → Contains woken first → IsWoken net new (Switch piece line) woken
switch_woken net new piece line first before woken nodes has keeps is names = record { are_nodes = nodes; lines = by; nodes = waits }
  where
    by : (l : ℕ) → Member (line ∷ []) l → HasNext net woken l (edge_of new l)
    by l (inl same) = subst (λ x. HasNext net woken x (edge_of new x)) same (next_kept net before woken line (edge_of new line) keeps has)
    by l (inr none) = absurd none

    waits : (j : ℕ) → Member (first_node net piece ∷ []) j → Contains woken j
    waits j (inl same) = subst (Contains woken) (is ∙ same) names
    waits j (inr none) = absurd none

pub switch_marking : (net : NetOf) (m : Tokens) (k line edge led : ℕ) → left_for m k ≡ Some edge → led ≡ next_at net.routing line edge → (record { lines = slice_set m.lines line (Some led); edges = slice_set m.edges k None; memory = m.memory; trap = m.trap }) ≡ switched net m k line (left_for m k)
switch_marking net m k line edge led left is =
    ap (λ x. record { lines = slice_set m.lines line (Some x); edges = slice_set m.edges k None; memory = m.memory; trap = m.trap }) is
    ∙ ap (switched net m k line) (sym left)

pub left_clash : (o : Option ℕ) → o ≡ None → is_some o ≡ true → ⊥
left_clash o none some = let clash : false ≡ true = sym (ap is_some none) ∙ some in cc

pub over_marking : (net : NetOf) (m new : Tokens) (piece edge : ℕ) (trap : Trap) → net.touches piece 0 ≡ false → edge ≡ out (graph_in net) piece 0 → new ≡ gone net m piece edge m.memory → new ≡ acted net m piece (Traps trap)
over_marking net m new piece edge trap untouched is so =
    so
    ∙ ap (λ e. gone net m piece e m.memory) is
    ∙ ap (λ (b : _). Rattle.std.proofs.Common.cond b (stopped net m piece trap) (gone net m piece (out (graph_in net) piece 0) m.memory)) (sym untouched)
