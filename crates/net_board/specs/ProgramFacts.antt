-- What lower layers tell, as the laws of nets need it. No public clause cites this module by itself.
use Rattle.std.specs.Prelude.{◌≡◌, ◌<◌, ◌≤◌, ℕ, ℤ, Bool, List, Option}
use Rattle.closed_walks.specs.Graph.{Graph, edge_count}
use Rattle.closed_walks.specs.Region.{IsFlowGraph}
use Rattle.region_tree.specs.Tree.{Tree, IsRegionTree}
use Rattle.f77_tree.specs.declared.expressions.Expr.{Expr}
use Rattle.f77_tree.specs.declared.programs.ExecKind.{ExecKind}
use Rattle.f77_tree.specs.declared.programs.Exec.{Exec}
use Rattle.f77_tree.specs.declared.programs.NameInfo.{NameInfo}
use Rattle.f77_tree.specs.declared.programs.Program.{Program}
use Rattle.f77_tree.specs.CanRun.{CanExecute}
use Rattle.f77_tree.specs.Execution.{Memory, outcome}
use Rattle.f77_tree.specs.Steps.{IfGoes, HasRoomFor, AreAlike}
use Rattle.f77_tree.specs.Touched.{ExecMayRead, MayRead, ReadsData}
use Rattle.f77_tree.specs.Value.{value, word_at, ArePlaced}
use Rattle.f77_tree.specs.WellFormed.{AreExecs, IsWellFormed}
use Rattle.alias_classes.specs.Classes.{ClassTable, IsClasses, class_of_word, class_count}
use Rattle.alias_classes.specs.Frame.{AgreeOnClasses, KeepsOtherClasses}
use Rattle.alias_classes.specs.Needs.{ExecNeeds}
use Rattle.cfg_build.specs.Flow.{flow}
use Rattle.cfg_build.specs.Joined.{finish}
use Rattle.cfg_build.specs.Shape.{IsShaped}
use Rattle.dep_routing.specs.Next.{Next}

pub record ProgramFacts : Type 0 where
  -- flow graphs are strongly connected, and have a shape
  pub strong : (names : List NameInfo) (execs : List Exec) (loops : ℕ) → AreExecs names execs loops → IsFlowGraph (flow execs).graph
  pub shaped : (names : List NameInfo) (execs : List Exec) (loops : ℕ) → AreExecs names execs loops → IsShaped (flow execs) (finish execs)
  -- a line is led to an edge of the graph
  pub next_exists : (g : Graph) (t : Tree) (touches : ℕ → ℕ → Bool) (line e f : ℕ) → IsFlowGraph g → IsRegionTree g t → e < edge_count g → Next g t touches line e f → f < edge_count g
  -- what an executable needs are classes
  pub are_classes : (p : Program) (t : ClassTable) (kind : ExecKind) (n : ℕ) → IsWellFormed p → IsClasses p t → CanExecute p kind → ExecNeeds t kind n → (1 ≤ n) × (n ≤ class_count t)
  -- values depend on the words that are read
  pub values : (names : List NameInfo) (a b : List ℤ) (next next' : Option ℤ) (e : Expr) → ((word : ℕ) → MayRead names e word → word_at a word ≡ word_at b word) → (ReadsData e → next ≡ next') → value names a next e ≡ value names b next' e
  pub reads : (p : Program) (t : ClassTable) (kind : ExecKind) (word : ℕ) → IsClasses p t → ArePlaced p.names p.words → CanExecute p kind → ExecMayRead p.names kind word → ExecNeeds t kind (class_of_word t word)
  -- outcomes depend on what is needed, and leave what isn't
  pub decide : (p : Program) (t : ClassTable) (input : List ℤ) (m n : Memory) (kind : ExecKind) → IsClasses p t → ArePlaced p.names p.words → HasRoomFor p m → HasRoomFor p n → CanExecute p kind → AgreeOnClasses t kind m n → AreAlike p.names input kind m n (outcome p.names input m kind) (outcome p.names input n kind)
  pub keep : (p : Program) (t : ClassTable) (input : List ℤ) (m : Memory) (kind : ExecKind) → IsClasses p t → ArePlaced p.names p.words → CanExecute p kind → IfGoes (outcome p.names input m kind) (λ next new text. KeepsOtherClasses t kind m new)
