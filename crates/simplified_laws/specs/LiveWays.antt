-- Where control can come on from executables to which it can come, by the decisions of a table.
use Rattle.std.specs.Prelude.{◌≡◌, ◌<◌, ◌⊎◌, ℕ, ℤ, pos, Bool, true, false, length, Option, Some, None, slice_get, slice_index}
use Rattle.closed_walks.specs.Graph.{to}
use Rattle.f77_tree.specs.declared.programs.Exec.{Exec}
use Rattle.f77_tree.specs.declared.programs.ExecKind.{ExecKind}
use Rattle.f77_tree.specs.declared.programs.ExecKind.TheVariants.{Test, Sign, Pick}
use Rattle.f77_tree.specs.declared.programs.Program.{Program}
use Rattle.f77_tree.specs.Control.{successors}
use Rattle.alias_classes.specs.Classes.{ClassTable}
use Rattle.region_tree.specs.Tree.{Tree}
use Rattle.cfg_build.specs.declared.pieces.PieceKind.TheVariants.{Branch, Hold}
use Rattle.cfg_build.specs.Flow.{flow, piece_at}
use Rattle.cfg_build.specs.Passes.{kind_in}
use Rattle.cfg_build.specs.Shape.{kind_at}
use Rattle.dep_routing.specs.Routing.{Routing}
use Rattle.const_prop.specs.declared.known.Known.TheVariants.{One}
use Rattle.const_prop.specs.Closed.{IsClosed}
use Rattle.const_prop.specs.Live.{IsLive}
use Rattle.const_prop.specs.Right.{AreRouted}
use Rattle.const_prop.specs.Table.{Knowns}
use Rattle.simplified_forms.specs.Items.{begins_do, IsEntered}
use Rattle.simplified_forms.specs.Simplified.{decided}

-- what a table decides where live edges lead to holds, and to the tests of DOs
pub record LiveFacts (p : Program) (t : Knowns) : Type 0 where
  pub holds : (e : ℕ) (v : ℤ) → IsLive p t e → kind_at (flow p.execs) (to (flow p.execs).graph e) ≡ Hold → t.decision (to (flow p.execs).graph e) ≡ One v → v ≡ pos 0
  pub tests : (e : ℕ) (v : ℤ) → IsLive p t e → kind_at (flow p.execs) (to (flow p.execs).graph e) ≡ Branch → begins_do (kind_in (slice_get p.execs (piece_at (flow p.execs).pieces (to (flow p.execs).graph e)).exec)) ≡ true → t.decision (to (flow p.execs).graph e) ≡ One v → ⊥

-- the executable decides where control goes on
abbrev pub decides : ExecKind → Bool
decides (Test cond if_true if_false) = true
decides (Sign value below at above) = true
decides (Pick value targets other) = true
decides _ = false

-- the executable may go to the successor with this place: where it decides, its decision is for it, or for none
abbrev pub MayTake : ExecKind → (decided : Option ℕ) → (i : ℕ) → Type 0
MayTake kind decided i = decides kind ≡ true → (decided ≡ None) ⊎ (decided ≡ Some i)

-- Where control can come to an executable, by the decisions of a closed table, it can come to each successor that it may go to.
abbrev pub LiveExecutablesLeadOn : Type 0
LiveExecutablesLeadOn = (p : Program) (c : ClassTable) (touches : ℕ → ℕ → Bool) (tree : Tree) (r : Routing) (t : Knowns) (k i : ℕ) (exec : Exec)
    → AreRouted p c touches tree r → IsClosed p (flow p.execs) c touches r t
    → slice_get p.execs k ≡ Some exec → i < length (successors exec.kind) → MayTake exec.kind (decided p t k) i
    → IsEntered p t k → IsEntered p t (slice_index (successors exec.kind) i)

-- By the decisions of a closed table control can come to the first executable.
abbrev pub FirstExecutableIsLive : Type 0
FirstExecutableIsLive = (p : Program) (c : ClassTable) (touches : ℕ → ℕ → Bool) (tree : Tree) (r : Routing) (t : Knowns) → AreRouted p c touches tree r → IsClosed p (flow p.execs) c touches r t → IsEntered p t 0
