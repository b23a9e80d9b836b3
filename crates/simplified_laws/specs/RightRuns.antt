-- What a table of constants tells of an executable is so where a run comes to it.
use Rattle.std.specs.Prelude.{◌≡◌, ◌≢◌, ◌<◌, ℕ, ℤ, Bool, List, [], All, Some, slice_index}
use Rattle.op_table.specs.Words.{IsWord}
use Rattle.closed_walks.specs.Graph.{edge_count}
use Rattle.f77_tree.specs.declared.programs.Exec.{Exec}
use Rattle.f77_tree.specs.declared.programs.ExecKind.TheVariants.{End}
use Rattle.f77_tree.specs.declared.programs.Program.{Program}
use Rattle.f77_tree.specs.Control.{successors}
use Rattle.f77_tree.specs.Execution.{Memory, Goes, outcome}
use Rattle.f77_tree.specs.KnownWith.{AreRight}
use Rattle.f77_tree.specs.Run.{Running, source}
use Rattle.f77_tree.specs.Steps.{IsMemoryOf, HoldsWords}
use Rattle.alias_classes.specs.Classes.{ClassTable}
use Rattle.region_tree.specs.Tree.{Tree}
use Rattle.cfg_build.specs.Control.{IsReachedExec}
use Rattle.cfg_build.specs.Flow.{flow}
use Rattle.dep_routing.specs.Routing.{Routing}
use Rattle.const_prop.specs.declared.known.Known.TheVariants.{One}
use Rattle.const_prop.specs.Closed.{IsConstants, words_on}
use Rattle.const_prop.specs.Right.{AreRouted}
use Rattle.const_prop.specs.Table.{Knowns}
use Rattle.simplified_forms.specs.Items.{own_edge, IsEntered, IsItem}
use Rattle.simplified_forms.specs.Simplified.{decided}

-- The executable k is the next one in this memory: control can come to it by the decisions of the table, so that it is an item, and what
-- the table tells there is so.
pub record IsRightAt (p : Program) (c : ClassTable) (t : Knowns) (input : List ℤ) (k : ℕ) (m : Memory) : Type 0 where
  pub exec : Exec
  pub reached : IsReachedExec p.names p.execs p.loops k exec
  pub entered : IsEntered p t k
  pub item : IsItem p t k
  -- words that have one value on the edge to the executable have it; several edges may lead to END, which reads no word
  pub words : exec.kind ≢ End → AreRight (words_on c t (own_edge p k)) m.store
  -- where one successor is decided, control goes there, and nothing is changed or written
  pub goes : (i : ℕ) → decided p t k ≡ Some i
      → outcome p.names input m exec.kind ≡ Goes (slice_index (successors exec.kind) i) m []
  pub sizes : IsMemoryOf p input m
  pub holds : HoldsWords m

-- The constants of a program are right at each executable that comes next in a run over data of words.
abbrev pub ConstantsAreRightInRuns : Type 0
ConstantsAreRightInRuns = (p : Program) (c : ClassTable) (touches : ℕ → ℕ → Bool) (tree : Tree) (r : Routing) (t : Knowns) (input : List ℤ) (n : ℕ)
    → AreRouted p c touches tree r → IsConstants p (flow p.execs) c touches r t → All IsWord input → (source p input n).mark ≡ Running
    → IsRightAt p c t input (source p input n).position (source p input n).memory

-- The constants of a program are words.
abbrev pub ConstantsAreWords : Type 0
ConstantsAreWords = (p : Program) (c : ClassTable) (touches : ℕ → ℕ → Bool) (tree : Tree) (r : Routing) (t : Knowns) (line e : ℕ) (v : ℤ)
    → AreRouted p c touches tree r → IsConstants p (flow p.execs) c touches r t → line < r.lines → e < edge_count (flow p.execs).graph
    → t.value line e ≡ One v → IsWord v
