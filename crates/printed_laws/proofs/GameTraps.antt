-- Where a game of a net of operations traps, and which nodes fire in it.
use Rattle.std.proofs.Common.{◌≡◌, ℕ, zero, suc, ◌<◌, ◌^◌, Bool, true, false, if◌then◌else◌, List, Option, Some, None, Result, Ok, Err, refl, ap, sym, ◌∙◌, arith}
use Rattle.std.proofs.Math.Nat.{lt_trans}
use Rattle.op_table.specs.declared.Trap.{Trap}
use Rattle.firing.specs.declared.playing.PlayEnd.{PlayEnd}
use Rattle.firing.specs.declared.playing.PlayEnd.TheVariants as end
use Rattle.firing.specs.declared.system.NodeName.{NodeName}
use Rattle.firing.specs.declared.system.NodeName.TheVariants.{Act, Merge, Switch, Op}
use Rattle.firing.specs.Moves.{CanFire}
use Rattle.firing.specs.Play.{Moment, Way, node_at, played}
use Rattle.firing.specs.Runs.{IsRun}
use Rattle.net_board.specs.Nodes.{graph_in}
use Rattle.net_board.specs.Tokens.{left_for, source_line, switched}
use Rattle.net_board.specs.WokenNodes.{switch_number}
use Rattle.op_board.specs.Effects.{Effect}
use Rattle.op_board.specs.Operations.{Operation}
use Rattle.op_board.specs.OperationNets.{OperationNet, operation_at, operation_node}
use Rattle.op_board.specs.OperationTokens.{OperationTokens, fired_as, operated, operated_on, performed_at, stopped_by, zero_effect}
use Rattle.program_nets.specs.Game.{Marking, Place, game_of}
use Rattle.program_nets.specs.Playing.{opening, way_of}
use Rattle.printed_laws.proofs.NetNodes.{IsNodeOf, node_named}
use Rattle.printed_laws.proofs.NodeLines.{IsBelow, number_below}
use Rattle.printed_laws.proofs.TraceLines.{AreShortTo, HasShortTrap, IsShortName}

-- a line at which a piece of the net stands
pub record StandsAt (x : OperationNet) (line : ℕ) : Type 0 where
  pub piece : ℕ
  pub exists : piece < (graph_in x.net).nodes
  pub is : source_line x.net piece ≡ line

nothing : {X : Type 0} (t : X) → None ≡ Some t → ⊥
nothing t is = cc

no_trap : {X : Type 0} (o : Option X) (t : X) → o ≡ None → o ≡ Some t → ⊥
no_trap o t none some = nothing t (sym none ∙ some)

either : {X R : Type 0} (trap : OperationTokens → X) (b : Bool) (m n : OperationTokens) (t : X) → trap (if b then m else n) ≡ t → (trap m ≡ t → R) → (trap n ≡ t → R) → R
either trap true m n t is first second = first is
either trap false m n t is first second = second is

line_told : (a b : Trap × ℕ) → Some a ≡ Some b → a.1 ≡ b.1
line_told a b is = let same : a ≡ b = cc in ap (λ (told : Trap × ℕ). told.1) same

trap_by : (x : OperationNet) (m : OperationTokens) (k piece i : ℕ) (op : Operation) (result : Result Effect Trap) (t : Trap) (line : ℕ) → piece < (graph_in x.net).nodes → m.tokens.trap ≡ None → (operated x m k piece i op result).tokens.trap ≡ Some (t, line) → StandsAt x line
trap_by x m k piece i op (Ok effect) t line exists none is = absurd (no_trap m.tokens.trap (t, line) none is)
trap_by x m k piece i op (Err trap) t line exists none is =
    either (λ (n : OperationTokens). n.tokens.trap) (x.needs piece i 0) (stopped_by x m piece i op trap) (operated_on x m k piece i op (zero_effect m op.work)) (Some (t, line)) is
    (λ stopped. record { piece = piece; exists = exists; is = line_told (trap, source_line x.net piece) (t, line) stopped })
    (λ goes. absurd (no_trap m.tokens.trap (t, line) none goes))

switch_keeps : (x : OperationNet) (m : OperationTokens) (k line : ℕ) (edge : Option ℕ) → (switched x.net m.tokens k line edge).trap ≡ m.tokens.trap
switch_keeps x m k line None = refl
switch_keeps x m k line (Some edge) = refl

trap_after : (x : OperationNet) (m : OperationTokens) (k : ℕ) (name : NodeName) (t : Trap) (line : ℕ) → IsNodeOf x name → m.tokens.trap ≡ None → (fired_as x m k name).tokens.trap ≡ Some (t, line) → StandsAt x line
trap_after x m k (Op piece i) t line is none trapped = trap_by x m k piece i (operation_at x piece i) (performed_at x m piece (operation_at x piece i)) t line is.0 none trapped
trap_after x m k (Switch piece other) t line is none trapped =
    let switch = switch_number x.net piece other in
    absurd (no_trap m.tokens.trap (t, line) none (sym (switch_keeps x m switch other (left_for m.tokens switch)) ∙ trapped))
trap_after x m k (Merge piece other) t line is none trapped = absurd (no_trap m.tokens.trap (t, line) none trapped)
trap_after x m k (Act piece) t line is none trapped = absurd is

-- a name of 32 bits
short_name : (x : OperationNet) (name : NodeName) → IsBelow x (2 ^ 32) → IsNodeOf x name → IsShortName name
short_name x (Op piece i) below is = (lt_trans is.0 below.pieces, number_below x piece i (2 ^ 32) below.nodes is.0 is.1)
short_name x (Switch piece line) below is = (lt_trans is.0 below.pieces, lt_trans is.1 below.lines)
short_name x (Merge piece line) below is = (lt_trans is.0 below.pieces, lt_trans is.1 below.lines)
short_name x (Act piece) below is = absurd is

module _ (x : OperationNet) (picks : List ℕ) where
  abbrev way : Way Marking Place
  way = way_of (game_of x) picks

  abbrev start : Moment Marking Place
  start = opening (game_of x)

  abbrev CanFireTo : ℕ → Type 0
  CanFireTo count = (n : ℕ) → n < count → CanFire way.moves (played way start n).marking (node_at way start n)

  trapped_at : (n : ℕ) (t : Trap) (line : ℕ) → CanFireTo n → way.moves.trap (played way start n).marking ≡ Some (t, line) → StandsAt x line
  trapped_at zero t line going is = absurd (nothing (t, line) is)
  trapped_at (suc n) t line going is =
      let can = going n (omega arith) in
      let k = node_at way start n in
      trap_after x (played way start n).marking k (operation_node x k) t line (node_named x k can.node) can.going is

  pub fired_short : (count : ℕ) → CanFireTo count → IsBelow x (2 ^ 32) → AreShortTo way start count
  fired_short count going below = record {
    nodes = λ n lt. let can = going n lt in lt_trans can.node below.nodes;
    names = λ n lt. let can = going n lt in let k = node_at way start n in short_name x (operation_node x k) below (node_named x k can.node);
  }

  pub trap_short : (limit count : ℕ) (e : PlayEnd) → IsRun way start limit count e → ((line : ℕ) → StandsAt x line → line < 2 ^ 32) → HasShortTrap e
  trap_short limit count (end.Rest n) run short = tt
  trap_short limit count (end.Trapped t line) run short = short line (trapped_at count t line run.going run.ends)
  trap_short limit count end.Limit run short = tt
  trap_short limit count (end.WriteFault n) run short = tt
