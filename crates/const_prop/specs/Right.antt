-- What a closed table says of a run.
use Rattle.std.specs.Prelude.{◌≡◌, ◌<◌, ◌+◌, ℕ, ℤ, Bool, true, suc, List, Option, Ok}
use Rattle.op_table.specs.Trips.{at_least_zero}
use Rattle.f77_tree.specs.declared.expressions.Expr.{Expr}
use Rattle.f77_tree.specs.declared.programs.NameInfo.{NameInfo}
use Rattle.f77_tree.specs.declared.programs.Program.{Program}
use Rattle.f77_tree.specs.Execution.{Memory}
use Rattle.f77_tree.specs.Run.{Running}
use Rattle.f77_tree.specs.Value.{value, word_at}
use Rattle.f77_tree.specs.WellFormed.{IsWellFormed}
use Rattle.alias_classes.specs.Classes.{ClassTable, IsClasses, class_of_word, class_count}
use Rattle.alias_classes.specs.Needs.{ExprNeeds}
use Rattle.cfg_build.specs.Flow.{flow}
use Rattle.cfg_build.specs.Passes.{PassState, out, passes}
use Rattle.region_tree.specs.Tree.{Tree, IsRegionTree}
use Rattle.dep_routing.specs.Place.{Place}
use Rattle.dep_routing.specs.Routing.{Routing, IsRouting}
use Rattle.dep_routing.specs.Sound.{comes_to}
use Rattle.dep_routing.specs.Touches.{PieceNeeds, piece_kind}
use Rattle.const_prop.specs.declared.known.Known.TheVariants.{One}
use Rattle.const_prop.specs.Closed.{is_action}
use Rattle.const_prop.specs.Known.{IsSomething}
use Rattle.const_prop.specs.Table.{Knowns}

-- pieces touch the lines of the classes that they need
abbrev pub CoverNeeds : Program → ClassTable → (touches : ℕ → ℕ → Bool) → Type 0
CoverNeeds p c touches = (node n : ℕ) → node < (flow p.execs).graph.nodes → PieceNeeds p c node (suc n) → touches node (suc n) ≡ true

-- only pieces that read and change what their lines bring touch lines
abbrev pub OnlyActionsTouch : Program → (touches : ℕ → ℕ → Bool) → Type 0
OnlyActionsTouch p touches = (node line : ℕ) → node < (flow p.execs).graph.nodes → touches node line ≡ true → is_action (piece_kind p node) ≡ true

-- A well-formed program with its classes, a region tree of its flow graph, what pieces touch, and the routing of the lines by these.
pub record AreRouted (p : Program) (c : ClassTable) (touches : ℕ → ℕ → Bool) (tree : Tree) (r : Routing) : Type 0 where
  pub well_formed : IsWellFormed p
  pub classes : IsClasses p c
  pub is_tree : IsRegionTree (flow p.execs).graph tree
  pub routing : IsRouting (flow p.execs).graph tree touches (class_count c + 1) r
  pub needs : CoverNeeds p c touches
  pub actions : OnlyActionsTouch p touches

-- the routing of a region tree of the program's flow graph
pub record IsProgramRouting (p : Program) (touches : ℕ → ℕ → Bool) (lines : ℕ) (r : Routing) : Type 0 where
  pub tree : Tree
  pub is_tree : IsRegionTree (flow p.execs).graph tree
  pub routing : IsRouting (flow p.execs).graph tree touches lines r

module _ (p : Program) (c : ClassTable) (touches : ℕ → ℕ → Bool) (tree : Tree) (lines : ℕ) (t : Knowns) where
  -- Where each line stands something comes, and where one value is known of a word there, it is the word.
  pub record IsRightAt (x : PassState) : Type 0 where
    pub something : (line f : ℕ) → line < lines → Place (flow p.execs).graph tree touches line x.edge f → IsSomething (t.value line f)
    pub word : (word f : ℕ) (v : ℤ) → word < p.words → class_of_word c word < lines → Place (flow p.execs).graph tree touches (class_of_word c word) x.edge f → t.value (class_of_word c word) f ≡ One v → word_at x.memory.store word ≡ v

-- The pass that follows so many passes comes to a piece of which something is decided. Where the run goes on and one out-edge is
-- decided, it takes this one.
pub record IsDecidedAt (p : Program) (input : List ℤ) (t : Knowns) (n : ℕ) : Type 0 where
  pub something : IsSomething (t.decision (comes_to p input n))
  pub takes : (v : ℤ) → t.decision (comes_to p input n) ≡ One v → (passes p input (suc n)).mark ≡ Running → (passes p input (suc n)).edge ≡ out (flow p.execs).graph (comes_to p input n) (at_least_zero v)

-- ---- what is known of expressions

-- the piece touches each class that the expression needs
abbrev pub TouchesNeeded : ClassTable → (touches : ℕ → ℕ → Bool) → (node : ℕ) → Expr → Type 0
TouchesNeeded c touches node e = (n : ℕ) → ExprNeeds c e n → touches node n ≡ true

-- the expression has the value in this memory, whatever the next datum is
abbrev pub HasValue : List NameInfo → Memory → Expr → ℤ → Type 0
HasValue names m e z = (next : Option ℤ) → value names m.store next e ≡ Ok z

-- The pass that follows so many passes takes the out-edge with this place, and changes nothing else.
pub record TakesQuietly (p : Program) (input : List ℤ) (n : ℕ) (v : ℤ) : Type 0 where
  pub goes_on : (passes p input (suc n)).mark ≡ Running
  pub edge : (passes p input (suc n)).edge ≡ out (flow p.execs).graph (comes_to p input n) (at_least_zero v)
  pub memory : (passes p input (suc n)).memory ≡ (passes p input n).memory
  pub text : (passes p input (suc n)).out ≡ (passes p input n).out
