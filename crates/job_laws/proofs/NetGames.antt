-- The games of nets: what is known of the nets of a kind of games, told of the games of programs.
use Rattle.std.proofs.Common.{◌≡◌, ◌+◌, ◌*◌, ◌≤◌, ℕ, ℤ, List, length, suc, refl, sym, ap, subst, ◌∙◌, arith}
use Rattle.std.proofs.Math.Nat.{mul-le-mul_left, mul-le-mul_right}
use mathlib.Core.Path.{fun_ext}
use Rattle.closed_walks.specs.Region.{IsFlowGraph}
use Rattle.f77_tree.specs.declared.programs.Program.{Program}
use Rattle.f77_tree.specs.Operations.{most_operations}
use Rattle.f77_tree.specs.Run.{Mark, Running, Ended, Trapped, source}
use Rattle.alias_classes.specs.Classes.{ClassTable, IsClasses, class_count}
use Rattle.alias_classes.specs.Number.{number_of_classes}
use Rattle.cfg_build.specs.Flow.{flow}
use Rattle.firing.specs.Orders.{after}
use Rattle.firing.specs.Pacing.{FollowsSource, IsSimulation, Stage}
use Rattle.firing.specs.SourceOrder.{IsDueOrder}
use Rattle.net_board.specs.Nodes.{NetOf}
use Rattle.net_board.specs.ProgramStages as net_steps
use Rattle.net_board.specs.ProgramStages.{program_stage, program_text}
use Rattle.op_board.specs.OperationNets.{OperationNet}
use Rattle.op_board.specs.SoundOperationNets.{IsOperationNet}
use Rattle.program_nets.specs.Game.{GameKind, IsGameOn, Place, firing_bound}
use Rattle.job_laws.specs.GameLaws.{DueEnds, GameLaws, RunLaws, StopFirst}
use Rattle.job_laws.specs.Headline.{bound_of, line_count}
use Rattle.program_nets.specs.Playing.{Game, StaysInLockstep, stage, stage_of}
use Rattle.job_laws.proofs.OneNet.{OneOfEach, one_net}

-- ---- the stages of a net's program

same_stage : (mark : Mark) → net_steps.stage_of mark ≡ stage_of mark
same_stage Running = refl
same_stage Ended = refl
same_stage (Trapped trap line) = refl

same_stages : (net : NetOf) → program_stage net ≡ stage net.program net.input
same_stages net = fun_ext (λ n. same_stage (source net.program net.input n).mark)

-- a game in lockstep with the stages of a net's program
pub in_lockstep : {M : Type 0} (x : OperationNet) (game : Game M Place)
    → IsSimulation game.moves game.start (program_text x.net) (program_stage x.net) game.own_order
    → FollowsSource game.moves game.start (program_text x.net) (program_stage x.net) game.own_order
    → ((steps : ℕ) → IsDueOrder game.moves game.course game.start game.control (game.own_order steps))
    → ((steps : ℕ) → length (game.own_order steps) ≤ game.bound steps)
    → StaysInLockstep game x.net.program x.net.input
in_lockstep x game simulated follows due few = record {
  simulated = subst (λ (s : ℕ → Stage). IsSimulation game.moves game.start (program_text x.net) s game.own_order) (same_stages x.net) simulated;
  follows = subst (λ (s : ℕ → Stage). FollowsSource game.moves game.start (program_text x.net) s game.own_order) (same_stages x.net) follows;
  due = due;
  few = few;
}

-- ---- games of a kind

-- what is known of the nets of a kind of games beside their programs
pub record KindLaws {M : Type 0} (kind : GameKind M) : Type 0 where
  pub lockstep : (x : OperationNet) → IsOperationNet x → StaysInLockstep (kind.of_net x) x.net.program x.net.input
  pub memory : (x : OperationNet) → IsOperationNet x → (steps : ℕ) → kind.store (after (kind.of_net x).moves (kind.of_net x).start ((kind.of_net x).own_order steps)) ≡ (source x.net.program x.net.input steps).memory.store
  pub due_ends : (x : OperationNet) → DueEnds (kind.of_net x)
  pub bound : (x : OperationNet) (steps : ℕ) → (kind.of_net x).bound steps ≡ firing_bound x steps

-- a program has as many classes as are counted
abbrev pub AreClassesCounted : Type 0
AreClassesCounted = (p : Program) (t : ClassTable) → IsClasses p t → class_count t ≡ number_of_classes p

enough : (l m n : ℕ) → (5 * l + m) * n ≤ (5 * (l + 1) + m) * (n + 1)
enough l m n =
    let wide : 5 * l + m ≤ 5 * (l + 1) + m = omega arith in
    let first = mul-le-mul_right n wide in
    let second : (5 * (l + 1) + m) * n ≤ (5 * (l + 1) + m) * (n + 1) = mul-le-mul_left (5 * (l + 1) + m) (omega arith) in
    omega (arith, first, second)

module _ {M : Type 0} (kind : GameKind M) (laws : KindLaws kind) where
  -- games stay in lockstep with their programs
  stays_in_lockstep : (p : Program) (words : List ℤ) (game : Game M Place) → IsGameOn kind p words game → StaysInLockstep game p words
  stays_in_lockstep p words game is =
      let x = is.net in
      let stays : StaysInLockstep (kind.of_net x) x.net.program x.net.input = laws.lockstep x is.own.operations in
      let here : StaysInLockstep (kind.of_net x) p words = subst (λ (n : NetOf). StaysInLockstep (kind.of_net x) n.program n.input) is.own.is stays in
      subst (λ (g : Game M Place). StaysInLockstep g p words) (sym is.is) here

  -- after the firings of so many steps the store is that of the program
  store_after : (p : Program) (words : List ℤ) (game : Game M Place) (steps : ℕ) → IsGameOn kind p words game → kind.store (after game.moves game.start (game.own_order steps)) ≡ (source p words steps).memory.store
  store_after p words game steps is =
      let x = is.net in
      let there : kind.store (after game.moves game.start (game.own_order steps)) ≡ (source x.net.program x.net.input steps).memory.store =
      ap (λ (g : Game M Place). kind.store (after g.moves g.start (g.own_order steps))) is.is ∙ laws.memory x is.own.operations steps in
      there ∙ ap (λ (n : NetOf). (source n.program n.input steps).memory.store) is.own.is

  -- a program and its data have one game
  one_game : OneOfEach → (p : Program) (words : List ℤ) (game other : Game M Place) → IsFlowGraph (flow p.execs).graph → IsGameOn kind p words game → IsGameOn kind p words other → game ≡ other
  one_game each p words game other strong is too = is.is ∙ ap kind.of_net (one_net each p strong words is.net too.net is.own too.own) ∙ sym too.is

  -- few firings are enough
  few_firings : AreClassesCounted → (p : Program) (words : List ℤ) (game : Game M Place) (steps : ℕ) → IsGameOn kind p words game → game.bound steps ≤ bound_of p steps
  few_firings count p words game steps is =
      let parts = is.own.parts in
      let x = is.net in
      let lines : x.net.routing.lines ≡ line_count p = parts.own_routing.count ∙ ap suc (count p parts.classes parts.own_classes) in
      let own : x.net.program ≡ p = ap (λ (n : NetOf). n.program) is.own.is in
      let same : game.bound steps ≡ (5 * line_count p + most_operations p) * steps =
      ap (λ (g : Game M Place). g.bound steps) is.is ∙ laws.bound x steps ∙ ap (λ l. (5 * l + most_operations x.net.program) * steps) lines ∙ ap (λ (q : Program). (5 * line_count p + most_operations q) * steps) own in
      let all = enough (line_count p) (most_operations p) steps in
      omega (arith, same, all)

  -- the source's own order comes to its end
  due_ends_of : (p : Program) (words : List ℤ) (game : Game M Place) → IsGameOn kind p words game → DueEnds game
  due_ends_of p words game is = subst (λ (g : Game M Place). DueEnds g) (sym is.is) (laws.due_ends is.net)

  pub game_laws_of : RunLaws M → OneOfEach → AreClassesCounted → StopFirst → GameLaws kind
  game_laws_of runs each count stop_first = record {
    runs = runs;
    due = due_ends_of;
    one = one_game each;
    lockstep = stays_in_lockstep;
    few = few_firings count;
    store = store_after;
    stop_first = stop_first;
  }
