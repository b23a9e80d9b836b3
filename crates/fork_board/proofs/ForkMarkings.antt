-- Loads lead from markings that can come to markings that can come.
use Rattle.std.proofs.Common.{◌≡◌, ◌<◌, ℕ, zero, suc, Bool, true, false, if◌then◌else◌, Option, Some, None, refl, ◌∙◌, subst}
use Rattle.closed_walks.specs.Graph.{edge_count}
use Rattle.cfg_build.specs.Passes.{out}
use Rattle.dep_routing.specs.Routing.{next_at}
use Rattle.net_board.specs.Nodes.{graph_in}
use Rattle.net_board.specs.ProgramFacts.{ProgramFacts}
use Rattle.net_board.specs.SoundNets.{IsNet}
use Rattle.net_board.proofs.FiringLaws.{led_below, out_below, some_edge, with_all_below}
use Rattle.net_board.proofs.ListPlaces.{length_with_all}
use Rattle.op_board.specs.OperationNets.{OperationNet, needed}
use Rattle.op_board.specs.OperationTokens.{OperationTokens}
use Rattle.op_board.specs.SoundOperationNets.{IsOperationMarking}
use Rattle.op_board.proofs.NeededLines.{needed_has}
use Rattle.op_board.proofs.ReplacedItems.{length_replaced}
use Rattle.fork_board.specs.LoadGroups.{Site, Spot, behind_group, here_or, is_last_there, load_at, most_loads, piece_at, spot, spot_after, spot_behind}
use Rattle.fork_board.specs.ForkTokens.{ForkTokens, Standing, after_load, gone_on, is_whole, loaded_on, read_by, standing, standing_at, with_load}

module _ (ground : ProgramFacts) (x : OperationNet) (is : IsNet x.net) where
  abbrev Exists : ℕ → Type 0
  Exists edge = edge < edge_count (graph_in x.net)

  after_exists : (line : ℕ) (s : Spot) → line < x.net.routing.lines → Exists s.edge → Exists (spot_after x line s).edge
  after_exists line s below exists = by (is_last_there x line s)
    where
      by : (b : Bool) → Exists (if b then spot (next_at x.net.routing line (out (graph_in x.net) (piece_at x s) 0)) 0 else spot s.edge (suc s.passed)).edge
      by true = led_below ground x.net is (out (graph_in x.net) (piece_at x s) 0) line (out_below (graph_in x.net) (piece_at x s) 0 (some_edge ground x.net is)) below
      by false = exists

  behind_exists : (most line : ℕ) (s : Spot) → line < x.net.routing.lines → Exists s.edge → Exists (spot_behind most x line s).edge
  behind_exists zero line s below exists = exists
  behind_exists (suc most) line s below exists = by (load_at x line s) (behind_exists most line (spot_after x line s) below (after_exists line s below exists))
    where
      by : (o : Option Site) → Exists (spot_behind most x line (spot_after x line s)).edge → Exists (here_or o s (spot_behind most x line (spot_after x line s))).edge
      by None later = exists
      by (Some load) later = later

  -- the edges on which lines stand after loads are edges of the graph
  read_exists : (line piece i edge : ℕ) (s : Standing) → line < x.net.routing.lines → ((e : ℕ) → s.edge ≡ Some e → Exists e) → (read_by x line piece i s).edge ≡ Some edge → Exists edge
  read_exists line piece i edge s below exist at = by s.edge refl at
    where
      fired : Standing
      fired = record s { loaded = with_load piece i s.loaded }

      same : (a b : ℕ) → Some a ≡ Some b → a ≡ b
      same a b e = cc

      whole : (e : ℕ) (b : Bool) → s.edge ≡ Some e → (if b then standing_at (behind_group x line (spot e s.passed)) else fired).edge ≡ Some edge → Exists edge
      whole e true is at = subst (λ k. Exists k) (same (behind_group x line (spot e s.passed)).edge edge at) (behind_exists (most_loads x) line (spot e s.passed) below (exist e is))
      whole e false is at = exist edge at

      by : (o : Option ℕ) → s.edge ≡ o → (gone_on x line fired o).edge ≡ Some edge → Exists edge
      by None is at = exist edge at
      by (Some e) is at = whole e (is_whole x line fired (spot e s.passed)) is at

  pub loaded_marking : (m : ForkTokens) (piece i : ℕ) (done : OperationTokens) → IsOperationMarking x m.operations → IsOperationMarking x done → IsOperationMarking x (loaded_on x m piece i done).operations
  loaded_marking m piece i done mark then_mark = record {
    tokens = record {
      lines = length_with_all m.operations.tokens.lines (needed x piece i) (λ line. (after_load x m piece i line).edge) ∙ mark.tokens.lines;
      nodes = then_mark.tokens.nodes;
      stand = with_all_below (edge_count (graph_in x.net)) m.operations.tokens.lines (needed x piece i) (λ line. (after_load x m piece i line).edge) mark.tokens.stand
          (λ line e among at. read_exists line piece i e (standing m line) ((needed_has x piece i line among).0) (mark.tokens.stand line) at);
      lie = then_mark.tokens.lie;
      memory = then_mark.tokens.memory;
    };
    passed = length_replaced m.operations.passed (needed x piece i) (λ line. (after_load x m piece i line).passed) ∙ mark.passed;
    values = then_mark.values;
  }
