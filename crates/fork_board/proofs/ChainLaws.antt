-- Loads come once along a line, by what lower layers tell of nets.
use Rattle.std.proofs.Common.{◌<◌, ℕ, subst, ◌≡◌, true}
use Rattle.closed_walks.specs.Graph.{from}
use Rattle.closed_walks.specs.Region.{IsFlowGraph}
use Rattle.region_tree.specs.Laws.{HasBorders}
use Rattle.region_tree.specs.Tree.{IsIn, IsNumber}
use Rattle.dep_routing.specs.Next.{Next}
use Rattle.dep_routing.specs.Quiet.{IsFree}
use Rattle.net_board.specs.ControlCourse.{first_control}
use Rattle.net_board.specs.NetLockstep.{IsInLockstep}
use Rattle.net_board.specs.Nodes.{NetOf, graph_in}
use Rattle.net_board.specs.ProgramFacts.{ProgramFacts}
use Rattle.net_board.specs.SoundNets.{CanCome, IsNet}
use Rattle.net_board.specs.Tokens.{first_tokens}
use Rattle.net_board.proofs.FiringLaws.{led_below, out_below, some_edge}
use Rattle.op_board.specs.OperationFacts.{OperationFacts}
use Rattle.op_board.specs.OperationNets.{OperationNet}
use Rattle.op_board.specs.SoundOperationNets.{IsOperationNet}
use Rattle.fork_board.specs.Chains.{ComeOnce, GroupsEnd}
use Rattle.fork_board.specs.Successors.{FollowOne, MeetSuccessors}
use Rattle.fork_board.proofs.GroupChains.{LineFacts, not_among}
use Rattle.fork_board.proofs.GroupEnds.{ends}
use Rattle.fork_board.proofs.LoadSuccessors.{meets}
use Rattle.fork_board.proofs.OneSource.{one_source}

pub flow_graph : (ground : ProgramFacts) (net : NetOf) → IsNet net → IsFlowGraph (graph_in net)
flow_graph ground net is = ground.strong net.program.names net.program.execs net.program.loops is.program.execs

module _ (begins : (net : NetOf) → IsNet net → CanCome net (first_tokens net)) (steps : (net : NetOf) (is : IsNet net) → IsInLockstep net (first_tokens net) (first_control net)) (operations : (x : OperationNet) → IsOperationNet x → OperationFacts x) (borders : (x : OperationNet) (n : IsOperationNet x) (r : ℕ) → IsFlowGraph (graph_in x.net) → IsNumber n.is_net.tree r → HasBorders (graph_in x.net) n.is_net.tree r) (start : (x : OperationNet) (n : IsOperationNet x) (r : ℕ) → IsFlowGraph (graph_in x.net) → IsNumber n.is_net.tree r → IsIn (graph_in x.net) n.is_net.tree r 0 → ⊥) where
  line_facts : (x : OperationNet) (n : IsOperationNet x) (line : ℕ) → line < x.net.routing.lines → LineFacts x n line
  line_facts x n line below =
      let ground = (begins x.net n.is_net).ground in
      record {
        operations = operations x n;
        graph = (steps x.net n.is_net).ground.graph;
        flow = flow_graph ground x.net n.is_net;
        borders = λ r number. borders x n r (flow_graph ground x.net n.is_net) number;
        start = λ r number. start x n r (flow_graph ground x.net n.is_net) number;
        next = λ e there. n.is_net.own_routing.next line e (subst (λ lines. line < lines) n.is_net.own_routing.count below) there;
        led = λ e there. led_below ground x.net n.is_net e line there below;
        out_exists = λ piece. out_below (graph_in x.net) piece 0 (some_edge ground x.net n.is_net);
      }

  pub come_once : (x : OperationNet) → IsOperationNet x → ComeOnce x
  come_once x n line count s load below exists are at = not_among x n line (line_facts x n line below) count s load exists are at

  pub groups_end : (x : OperationNet) → IsOperationNet x → GroupsEnd x
  groups_end x n line s below exists = ends x n line (line_facts x n line below) s exists

  pub meet_successors : (x : OperationNet) → IsOperationNet x → MeetSuccessors x
  meet_successors x n line s load below exists at = meets x n line (line_facts x n line below) s load exists at

  pub follow_one : ((x : OperationNet) (n : IsOperationNet x) (line node : ℕ) → x.net.touches node line ≡ true → IsFree (graph_in x.net) n.is_net.tree x.net.touches line node)
      → ((x : OperationNet) (n : IsOperationNet x) (line e d f : ℕ) → IsFlowGraph (graph_in x.net) → IsFree (graph_in x.net) n.is_net.tree x.net.touches line (from (graph_in x.net) e) → IsFree (graph_in x.net) n.is_net.tree x.net.touches line (from (graph_in x.net) d) → Next (graph_in x.net) n.is_net.tree x.net.touches line e f → Next (graph_in x.net) n.is_net.tree x.net.touches line d f → e ≡ d)
      → (x : OperationNet) → IsOperationNet x → FollowOne x
  follow_one free back x n line s t a b c below s_exists t_exists first second s_next t_next =
      one_source x n line (line_facts x n line below) (λ node touched. free x n line node touched) (λ e d f. back x n line e d f (flow_graph (begins x.net n.is_net).ground x.net n.is_net)) s t a b c s_exists t_exists first second s_next t_next
