-- Control goes from items to items.
use Rattle.std.specs.Prelude.{◌≡◌, ◌<◌, ◌↔◌, ℕ, Bool, length, Contains, Some, slice_get, slice_index}
use Rattle.f77_tree.specs.declared.programs.Exec.{Exec}
use Rattle.f77_tree.specs.declared.programs.Program.{Program}
use Rattle.f77_tree.specs.Control.{successors}
use Rattle.f77_tree.specs.Loops.{do_start, do_next}
use Rattle.alias_classes.specs.Classes.{ClassTable}
use Rattle.region_tree.specs.Tree.{Tree}
use Rattle.cfg_build.specs.Flow.{flow}
use Rattle.dep_routing.specs.Routing.{Routing}
use Rattle.const_prop.specs.Closed.{IsClosed}
use Rattle.const_prop.specs.Right.{AreRouted}
use Rattle.const_prop.specs.Table.{Knowns}
use Rattle.simplified_forms.specs.Items.{IsEntered, IsItem}
use Rattle.simplified_laws.specs.LiveWays.{MayTake}
use Rattle.simplified_forms.specs.Simplified.{rest, own_jumps, decided}

-- The first executable is an item.
abbrev pub FirstExecutableIsItem : Type 0
FirstExecutableIsItem = (p : Program) (c : ClassTable) (touches : ℕ → ℕ → Bool) (tree : Tree) (r : Routing) (t : Knowns) → AreRouted p c touches tree r → IsClosed p (flow p.execs) c touches r t → IsItem p t 0

-- Each executable to which control can come is an item.
abbrev pub LiveExecutablesAreItems : Type 0
LiveExecutablesAreItems = (p : Program) (c : ClassTable) (touches : ℕ → ℕ → Bool) (tree : Tree) (r : Routing) (t : Knowns) (k : ℕ)
    → AreRouted p c touches tree r → IsClosed p (flow p.execs) c touches r t
    → k < length p.execs → IsEntered p t k → IsItem p t k

-- Each successor to which an item may go is an item to which control can come; so it is with an increment to which control can't come.
pub record IsLiveItem (p : Program) (t : Knowns) (k : ℕ) : Type 0 where
  pub item : IsItem p t k
  pub entered : IsEntered p t k

abbrev pub ItemsLeadToItems : Type 0
ItemsLeadToItems = (p : Program) (c : ClassTable) (touches : ℕ → ℕ → Bool) (tree : Tree) (r : Routing) (t : Knowns) (k i : ℕ) (exec : Exec)
    → AreRouted p c touches tree r → IsClosed p (flow p.execs) c touches r t
    → slice_get p.execs k ≡ Some exec → i < length (successors exec.kind) → MayTake exec.kind (decided p t k) i
    → IsItem p t k → IsLiveItem p t (slice_index (successors exec.kind) i)

-- So is the successor that is left after those to which its statement jumps by itself, and so are these.
abbrev pub RestsAreItems : Type 0
RestsAreItems = (p : Program) (c : ClassTable) (touches : ℕ → ℕ → Bool) (tree : Tree) (r : Routing) (t : Knowns) (k s : ℕ) (exec : Exec)
    → AreRouted p c touches tree r → IsClosed p (flow p.execs) c touches r t
    → slice_get p.execs k ≡ Some exec → rest exec.kind (decided p t k) ≡ Some s → IsItem p t k → IsLiveItem p t s

abbrev pub JumpsAreItems : Type 0
JumpsAreItems = (p : Program) (c : ClassTable) (touches : ℕ → ℕ → Bool) (tree : Tree) (r : Routing) (t : Knowns) (k s : ℕ) (exec : Exec)
    → AreRouted p c touches tree r → IsClosed p (flow p.execs) c touches r t
    → slice_get p.execs k ≡ Some exec → Contains (own_jumps exec.kind (decided p t k)) s → IsItem p t k → IsLiveItem p t s

-- The beginning of a DO is an item where its increment is one.
abbrev pub DosAreItems : Type 0
DosAreItems = (p : Program) (c : ClassTable) (touches : ℕ → ℕ → Bool) (tree : Tree) (r : Routing) (t : Knowns) (n : ℕ)
    → AreRouted p c touches tree r → IsClosed p (flow p.execs) c touches r t
    → n < p.loops → IsItem p t (do_start p.execs n) ↔ IsItem p t (do_next p.execs n)
