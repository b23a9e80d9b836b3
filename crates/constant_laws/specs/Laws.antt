-- Laws on closed tables.
use Rattle.std.specs.Prelude.{◌≡◌, ◌+◌, ℕ, ℤ, Bool, true, List, Some}
use Rattle.closed_walks.specs.Graph.{edge_count, to}
use Rattle.f77_tree.specs.declared.expressions.Expr.{Expr}
use Rattle.f77_tree.specs.declared.programs.Program.{Program}
use Rattle.f77_tree.specs.KnownWith.{known_with}
use Rattle.f77_tree.specs.Run.{Running}
use Rattle.f77_tree.specs.WellFormed.{IsWellFormed}
use Rattle.alias_classes.specs.Classes.{ClassTable, IsClasses, class_count}
use Rattle.cfg_build.specs.Flow.{flow}
use Rattle.cfg_build.specs.Passes.{passes}
use Rattle.region_tree.specs.Tree.{Tree}
use Rattle.dep_routing.specs.Routing.{Routing}
use Rattle.dep_routing.specs.Sound.{comes_to}
use Rattle.dep_routing.specs.Touches.{piece_kind}
use Rattle.const_prop.specs.declared.known.Known.TheVariants.{One}
use Rattle.const_prop.specs.Closed.{IsClosed, IsConstants, is_switch, words_on}
use Rattle.const_prop.specs.Live.{IsLive, IsKnownOutAfter}
use Rattle.const_prop.specs.Right.{AreRouted, IsProgramRouting, TouchesNeeded, HasValue, TakesQuietly}
use Rattle.const_prop.specs.Table.{Knowns, AreSameKnowns}

-- Where a run comes to a piece that touches each class that an expression needs, and a value of the expression is known on the edge by
-- which it comes, the expression has that value.
abbrev pub KnownExpressionsHaveTheirValues : Type 0
KnownExpressionsHaveTheirValues = (p : Program) (c : ClassTable) (touches : ℕ → ℕ → Bool) (tree : Tree) (r : Routing) (t : Knowns) (input : List ℤ) (n : ℕ) (e : Expr) (z : ℤ)
    → AreRouted p c touches tree r → IsClosed p (flow p.execs) c touches r t → (passes p input n).mark ≡ Running
    → TouchesNeeded c touches (comes_to p input n) e → known_with p.names (words_on c t (passes p input n).edge) e ≡ Some z
    → HasValue p.names (passes p input n).memory e z

-- A run that comes to a branch or a hold at which one out-edge is decided goes on by that edge, and the pass does nothing else.
abbrev pub DecidedPiecesGoOn : Type 0
DecidedPiecesGoOn = (p : Program) (c : ClassTable) (touches : ℕ → ℕ → Bool) (tree : Tree) (r : Routing) (t : Knowns) (input : List ℤ) (n : ℕ) (v : ℤ)
    → AreRouted p c touches tree r → IsClosed p (flow p.execs) c touches r t → (passes p input n).mark ≡ Running
    → is_switch (piece_kind p (comes_to p input n)) ≡ true → t.decision (comes_to p input n) ≡ One v
    → TakesQuietly p input n v

-- One out-edge that is decided at a branch or a hold to which a live edge leads is known there.
abbrev pub LiveDecisionsAreKnown : Type 0
LiveDecisionsAreKnown = (p : Program) (c : ClassTable) (touches : ℕ → ℕ → Bool) (tree : Tree) (r : Routing) (t : Knowns) (e : ℕ) (v : ℤ)
    → AreRouted p c touches tree r → IsClosed p (flow p.execs) c touches r t → IsLive p t e
    → is_switch (piece_kind p (to (flow p.execs).graph e)) ≡ true → t.decision (to (flow p.execs).graph e) ≡ One v
    → IsKnownOutAfter p c t e v

-- Two tables of constants of a program over the same touches tell the same, whatever routings of its lines they are made over.
abbrev pub ConstantsAreOneTable : Type 0
ConstantsAreOneTable = (p : Program) (c : ClassTable) (touches : ℕ → ℕ → Bool) (r s : Routing) (t u : Knowns)
    → IsWellFormed p → IsClasses p c → IsProgramRouting p touches (class_count c + 1) r → IsProgramRouting p touches (class_count c + 1) s
    → IsConstants p (flow p.execs) c touches r t → IsConstants p (flow p.execs) c touches s u
    → AreSameKnowns (class_count c + 1) (edge_count (flow p.execs).graph) (flow p.execs).graph.nodes t u
