-- For which loads lines are open, in place of which have fired.
use Rattle.std.specs.Prelude.{◌≡◌, ◌<◌, ℕ, ◌&&◌, Bool, true, not, count_by, List, Some, slice_get}
use Rattle.firing.specs.declared.system.NodeName.{NodeName}
use Rattle.firing.specs.declared.system.NodeName.TheVariants.{Op}
use Rattle.closed_walks.specs.Graph.{edge_count}
use Rattle.net_board.specs.Nodes.{graph_in}
use Rattle.net_board.specs.Tokens.{edge_of}
use Rattle.op_board.specs.OperationNets.{OperationNet, needed, operation_node}
use Rattle.op_board.specs.OperationTokens.{OperationTokens, passed_by}
use Rattle.operation_tables.specs.Waits.{IsNodeBefore, failing, node_total}
use Rattle.fork_board.specs.LoadGroups.{Site, Spot, behind_group, group_at, spot}
use Rattle.fork_board.specs.ForkTokens.{ForkTokens, is_load_node}
use Rattle.read_forks.specs.LoadChanges.{Loaded}
use Rattle.read_forks.specs.LoadedGroups.{is_near_on}
use Rattle.read_forks.specs.declared.steps.Group.{Group}

-- the load is one of the group before which the line stands
abbrev pub is_near_in : OperationNet → OperationTokens → (line piece number : ℕ) → Bool
is_near_in x m line piece number = is_near_on x line piece number (passed_by m line) (edge_of m.tokens line)

-- the loads of the groups for which the lines aren't open have fired
abbrev pub marking_by : OperationNet → OperationTokens → (opened : Loaded) → ForkTokens
marking_by x m opened = record { operations = m; loaded = λ line piece number. is_near_in x m line piece number && not (opened line piece number) }

-- a line is open for loads of its group alone
abbrev pub AreOpenNear : OperationNet → OperationTokens → (opened : Loaded) → Type 0
AreOpenNear x m opened = (line piece number : ℕ) → opened line piece number ≡ true → is_near_in x m line piece number ≡ true

-- So many loads of the group there are left. Behind it the line stands on that edge, where it has passed so many operations, before that
-- node, or before none.
pub record IsGroupAt (x : OperationNet) (opened : Loaded) (line : ℕ) (s : Spot) (group : Group) : Type 0 where
  pub left : group.left ≡ count_by (λ (load : Site). opened line load.piece load.number) (group_at x line s)
  pub behind : spot group.edge group.passed ≡ behind_group x line s
  pub exists : group.edge < edge_count (graph_in x.net)
  pub from : IsNodeBefore x line (Some s.edge) s.passed group.from
  pub to : IsNodeBefore x line (Some group.edge) group.passed group.to

-- each line for which loads are open has its group
abbrev pub AreGroups : OperationNet → OperationTokens → (opened : Loaded) → List Group → Type 0
AreGroups x m opened groups = (line piece number edge : ℕ) (group : Group) → opened line piece number ≡ true → edge_of m.tokens line ≡ Some edge → slice_get groups line ≡ Some group → IsGroupAt x opened line (spot edge (passed_by m line)) group

-- ---- what loads wait for

-- how many of the lines that a load needs aren't open for it
abbrev pub closed_of : OperationNet → (opened : Loaded) → NodeName → ℕ
closed_of x opened (Op piece i) = failing (λ line. opened line piece i) (needed x piece i)
closed_of x opened _ = 0

abbrev pub AreClosed : OperationNet → (opened : Loaded) → (closed : List ℕ) → Type 0
AreClosed x opened closed = (k : ℕ) → k < node_total x → is_load_node x (operation_node x k) ≡ true → slice_get closed k ≡ Some (closed_of x opened (operation_node x k))
