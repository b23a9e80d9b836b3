-- What laws say of places, of executables and of runs. No public clause cites this module.
use Rattle.std.specs.Prelude.{◌≡◌, ◌≢◌, ◌<◌, ◌⊎◌, ℕ, suc, ℤ, Bool, true, List, Option, Some, Ok}
use Rattle.closed_walks.specs.Graph.{Graph, edge_count, from, to}
use Rattle.closed_walks.specs.Region.{IsFlowGraph, IsPassed}
use Rattle.f77_tree.specs.declared.expressions.Access.{Access}
use Rattle.f77_tree.specs.declared.expressions.Expr.{Expr}
use Rattle.f77_tree.specs.declared.programs.ExecKind.{ExecKind}
use Rattle.f77_tree.specs.declared.programs.NameInfo.{NameInfo}
use Rattle.f77_tree.specs.declared.programs.Program.{Program}
use Rattle.f77_tree.specs.CanRun.{CanExecute}
use Rattle.f77_tree.specs.Execution.{Memory, outcome}
use Rattle.f77_tree.specs.KnownWith.{known_with, AreRight}
use Rattle.f77_tree.specs.Run.{Running}
use Rattle.f77_tree.specs.Steps.{IfGoes, KeepsRest, Changes}
use Rattle.f77_tree.specs.Touched.{AccessMayName, ExecMayChange}
use Rattle.f77_tree.specs.Value.{value, IsAccess}
use Rattle.alias_classes.specs.Classes.{ClassTable, class_of_word}
use Rattle.alias_classes.specs.Needs.{Hits, ExecNeeds}
use Rattle.cfg_build.specs.Flow.{flow}
use Rattle.cfg_build.specs.Passes.{passes}
use Rattle.region_tree.specs.Tree.{Tree}
use Rattle.dep_routing.specs.Place.{Place}
use Rattle.dep_routing.specs.Quiet.{IsFree}
use Rattle.dep_routing.specs.Routing.{Routing, next_at, wire_at}

-- where lines stand
pub record PlaceFacts (g : Graph) (tree : Tree) (touches : ℕ → ℕ → Bool) (r : Routing) : Type 0 where
  pub flow : IsFlowGraph g
  pub cases : (line node : ℕ) → node < g.nodes → IsFree g tree touches line node ⊎ (IsFree g tree touches line node → ⊥)
  pub touching : (line node : ℕ) → touches node line ≡ true → IsFree g tree touches line node
  pub start : (line : ℕ) → IsFree g tree touches line 0
  pub exists : (line d h : ℕ) → d < edge_count g → Place g tree touches line d h → h < edge_count g
  pub arrives : (line e : ℕ) → e < edge_count g → IsFree g tree touches line (to g e) → Place g tree touches line e e
  pub departs : (line d h : ℕ) → line < r.lines → d < edge_count g → IsFree g tree touches line (from g d) → Place g tree touches line d h → h ≡ next_at r line d
  pub stays : (line e d h : ℕ) → e < edge_count g → d < edge_count g → from g d ≡ to g e → (IsFree g tree touches line (to g e) → ⊥) → Place g tree touches line d h → Place g tree touches line e h
  pub wire : (line e : ℕ) → line < r.lines → e < edge_count g → IsFree g tree touches line (to g e) → wire_at r line e ≡ true
  pub passed : (line node a b : ℕ) → IsPassed g node a b → 0 ≢ node → IsFree g tree touches line node → touches node line ≡ true

-- what is known of an expression is its value
abbrev pub ValuesAreRight : Type 0
ValuesAreRight = (names : List NameInfo) (words : ℕ → Option ℤ) (store : List ℤ) (next : Option ℤ) (e : Expr) (z : ℤ) → AreRight words store → known_with names words e ≡ Some z → value names store next e ≡ Ok z

-- what executables change
pub record WordFacts (p : Program) (c : ClassTable) (input : List ℤ) : Type 0 where
  pub rest : (m : Memory) (kind : ExecKind) → IfGoes (outcome p.names input m kind) (λ next new text. KeepsRest p.names input kind m new)
  pub changes : (m : Memory) (kind : ExecKind) (word : ℕ) → Changes p.names input m kind word → ExecMayChange p.names kind word
  pub hits : (access : Access) (word : ℕ) → IsAccess p.names access → AccessMayName p.names access word → Hits c access (class_of_word c word)
  pub changed : (m : Memory) (kind : ExecKind) (word : ℕ) → CanExecute p kind → Changes p.names input m kind word → ExecNeeds c kind (class_of_word c word)
  pub values : ValuesAreRight

-- which edges a run takes
pub record RunFacts (p : Program) (input : List ℤ) : Type 0 where
  pub edges : (n : ℕ) → (passes p input n).edge < edge_count (flow p.execs).graph
  pub start : from (flow p.execs).graph (passes p input 0).edge ≡ 0
  pub leads_on : (n : ℕ) → (passes p input (suc n)).mark ≡ Running → from (flow p.execs).graph (passes p input (suc n)).edge ≡ to (flow p.execs).graph (passes p input n).edge
  pub returns : (n : ℕ) → (passes p input n).mark ≡ Running → to (flow p.execs).graph (passes p input n).edge ≢ 0
