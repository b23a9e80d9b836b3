-- For what loads wait while no line is open for any.
use Rattle.std.proofs.Common.{◌≡◌, ℕ, true, false, List, length, map, Some, slice_get, sym, ap, ◌∙◌, arith}
use Rattle.std.proofs.lemmas.List.{length-map}
use Rattle.firing.specs.declared.system.NodeName.{NodeName}
use Rattle.firing.specs.declared.system.NodeName.TheVariants.{Act, Merge, Op, Switch}
use Rattle.net_board.proofs.NodeLaws.{get_some}
use Rattle.op_board.specs.OperationNets.{OperationNet, operation_node}
use Rattle.op_board.specs.OperationTokens.{OperationTokens}
use Rattle.fork_board.specs.ForkTokens.{is_load_node}
use Rattle.read_forks.specs.KeptLoads.{AreKept, IsOpenForNone, opened_of}
use Rattle.read_forks.specs.MadeSteps.{AreShut}
use Rattle.read_forks.specs.NodeLinks.{AreSteps, AreValueLoads, IsStep, linked_lines}
use Rattle.read_forks.specs.OpenGroups.{AreClosed, closed_of}
use Rattle.read_forks.specs.Ways.{AreWays}
use Rattle.read_forks.specs.declared.steps.Step.{Step}
use Rattle.read_forks.specs.declared.waiting.Waiting.{Waiting}
use Rattle.read_forks.proofs.CountedLines.{all_closed}
use Rattle.read_forks.proofs.OpenedLinks.{none_opened}
use Rattle.read_forks.proofs.TestedLoads.{mapped}

module _ (x : OperationNet) (w : Waiting) (shut : AreShut w.links.items) where
  new_none : (line : ℕ) → IsOpenForNone (opened_of x w) line
  new_none line piece number = none_opened x w.links.items shut line piece number

  nowhere : {P : Type 0} (line piece number : ℕ) → opened_of x w line piece number ≡ true → P
  nowhere line piece number is = let e : true ≡ false = sym is ∙ new_none line piece number in absurd cc

  module _ (steps : AreSteps x w.steps w.links.items) (counts : w.closed.items ≡ map (λ (step : Step). step.count) w.steps) where
    by_name : (name : NodeName) → is_load_node x name ≡ true → length (linked_lines x name) ≡ closed_of x (opened_of x w) name
    by_name (Op piece i) loads = sym (all_closed x (opened_of x w) piece i (λ line. new_none line piece i))
    by_name (Switch piece line) loads = absurd cc
    by_name (Merge piece line) loads = absurd cc
    by_name (Act piece) loads = absurd cc

    new_closed : AreClosed x (opened_of x w) w.closed.items
    new_closed k low loads =
        let all = steps.all in
        let found = get_some x.net w.steps k (omega (arith, low, all)) in
        let step : IsStep x w.links.items k found.0 = steps.each k found.0 found.1 in
        ap (λ (ns : List ℕ). slice_get ns k) counts
        ∙ mapped (λ (s : Step). s.count) w.steps k found.0 found.1
        ∙ ap (λ (n : ℕ). Some n) (step.has_links.count ∙ by_name (operation_node x k) loads)

    long : length w.closed.items ≡ length w.steps
    long = ap length counts ∙ length-map w.steps (λ (s : Step). s.count)

    pub new_kept : ∥ AreWays x w.links.items ∥₁ → AreValueLoads x w.steps w.givers.items → length w.groups.items ≡ x.net.routing.lines → (m : OperationTokens) → AreKept x m w
    new_kept ways values lines m = record {
      tables = record { steps = steps; ways = ways; values = values; lines = lines; nodes = long };
      near = λ line piece number is. nowhere line piece number is;
      closed = new_closed;
      groups = λ line piece number edge group is stands at. nowhere line piece number is;
    }
