-- The marking of a net before any firing.
use Rattle.std.proofs.Common.{◌≡◌, ℕ, List, length, map, replicate, Option, Some, None, sym, ap, ◌∙◌, subst}
use Rattle.std.proofs.lemmas.List.{length-map, length-replicate}
use Rattle.std.proofs.lemmas.List.FromFn.{length-range_with_len}
use Rattle.f77_tree.specs.Execution.{Memory}
use Rattle.f77_tree.specs.Run.{first_memory}
use Rattle.firing.specs.Control.{IsInStep}
use Rattle.net_board.specs.declared.control.Control.{Control}
use Rattle.net_board.specs.SoundNets.{CanCome}
use Rattle.net_board.specs.ControlCourse.{first_control}
use Rattle.net_board.specs.NetLockstep.{IsInLockstep}
use Rattle.net_board.specs.Nodes.{NetOf, all_lines, nodes_of}
use Rattle.net_board.specs.Tokens.{Tokens, first_tokens, led_from, net_moves}

-- there is an edge for each line
pub every_line : (net : NetOf) (lines : List (Option ℕ)) → lines ≡ map (led_from net 1) (all_lines net) → length lines ≡ net.routing.lines
every_line net lines are = ap length are ∙ length-map (all_lines net) (led_from net 1) ∙ length-range_with_len 0 net.routing.lines

pub every_node : (nodes count : ℕ) (edges : List (Option ℕ)) → edges ≡ replicate count None → count ≡ nodes → length edges ≡ nodes
every_node nodes count edges are same = ap length are ∙ length-replicate count None ∙ same

-- the marking of what was made is the first one
pub first_made : (net : NetOf) (nodes : ℕ) (lines edges : List (Option ℕ)) (memory : Memory) → lines ≡ map (led_from net 1) (all_lines net) → edges ≡ replicate nodes None → nodes ≡ length (nodes_of net) → memory ≡ first_memory net.program → record { lines = lines; edges = edges; memory = memory; trap = None } ≡ first_tokens net
first_made net nodes lines edges memory are_lines are_edges count is_memory =
    let all : edges ≡ replicate (length (nodes_of net)) None = are_edges ∙ ap (λ n. replicate n None) count in
    λ i. record { lines = are_lines i; edges = all i; memory = is_memory i; trap = None }

pub can_come : (net made : NetOf) (m : Tokens) → net ≡ made → m ≡ first_tokens net → CanCome made (first_tokens made) → CanCome net m
can_come net made m same is comes = subst (λ t. CanCome net t) (sym is) (subst (λ (x : NetOf). CanCome x (first_tokens x)) (sym same) comes)

pub in_step : (net made : NetOf) (m : Tokens) (c : Control) → net ≡ made → m ≡ first_tokens net → c ≡ first_control net → IsInLockstep made (first_tokens made) (first_control made) → IsInStep (net_moves net) (IsInLockstep net) m (Some c)
in_step net made m c same is stands lockstep none =
    let here : IsInLockstep net (first_tokens net) (first_control net) = subst (λ (x : NetOf). IsInLockstep x (first_tokens x) (first_control x)) (sym same) lockstep in
    subst (λ (x : Control). IsInLockstep net m x) (sym stands) (subst (λ t. IsInLockstep net t (first_control net)) (sym is) here)
