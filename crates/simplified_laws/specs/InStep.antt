-- A run of a program and a run of its simplified form, in step.
use Rattle.std.specs.Prelude.{◌≡◌, ℕ, zero, suc, ◌+◌, ◌*◌, ◌≤◌, ◌<◌, ℤ, Bool, true, if◌then◌else◌, List, length, All, Option, Some, None, slice_get, slice_index}
use Rattle.op_table.specs.Words.{IsWord}
use Rattle.f77_tree.specs.declared.programs.Exec.{Exec}
use Rattle.f77_tree.specs.declared.programs.Program.{Program}
use Rattle.f77_tree.specs.Execution.{Memory}
use Rattle.f77_tree.specs.Loops.{do_start}
use Rattle.f77_tree.specs.Operations.{exec_operations, most_operations}
use Rattle.f77_tree.specs.Run.{PrintAlike, State, Running, Ended, source}
use Rattle.f77_tree.specs.Value.{word_at}
use Rattle.alias_classes.specs.Classes.{ClassTable}
use Rattle.region_tree.specs.Tree.{Tree}
use Rattle.cfg_build.specs.Flow.{flow}
use Rattle.dep_routing.specs.Routing.{Routing}
use Rattle.const_prop.specs.Closed.{IsConstants}
use Rattle.const_prop.specs.Right.{AreRouted}
use Rattle.const_prop.specs.Table.{Knowns}
use Rattle.flat_programs.specs.Executables.{first_of, program_of}
use Rattle.flat_programs.specs.Marks.{loop_at, loop_count}
use Rattle.simplified_laws.specs.ItemPlaces.{begins_at}
use Rattle.simplified_forms.specs.Items.{AreItems}
use Rattle.simplified_forms.specs.Simplified.{flat, has_mark, IsSimplified}

-- how many operations the executable that comes next takes
abbrev pub operations_in : Option Exec → ℕ
operations_in None = 0
operations_in (Some exec) = exec_operations exec.kind

-- how many operations a run takes in n steps; one that has stopped stays at its executable, which each later step counts again
abbrev pub operations_of_run : Program → List ℤ → (n : ℕ) → ℕ
operations_of_run p input zero = 0
operations_of_run p input (suc n) = operations_of_run p input n + operations_in (slice_get p.execs (source p input n).position)

module _ (p : Program) (c : ClassTable) (t : Knowns) (checked : Bool) (is_item : ℕ → Bool) where
  -- the executable of the simplified form at which an item begins; of another executable, the one at which the next item begins
  abbrev pub entry : (k : ℕ) → ℕ
  entry k = first_of (flat p c t checked is_item) (begins_at p c t checked is_item k)

  -- the place of the statement of an item that stands after its mark
  abbrev pub after_mark : (k : ℕ) → ℕ
  after_mark k = begins_at p c t checked is_item k + (if has_mark p t is_item k then 1 else 0)

  -- the number that a DO has in the simplified form
  abbrev pub new_number : (n : ℕ) → ℕ
  new_number n = loop_at (flat p c t checked is_item) (after_mark (do_start p.execs n))

  -- two memories, of the program and of its simplified form: the words of storage, and the words of the data that were taken, are the
  -- same, and so are the counts and steps of each DO that is kept
  pub record AreMemoriesInStep (m new : Memory) : Type 0 where
    pub store : new.store ≡ m.store
    pub taken : new.taken ≡ m.taken
    pub count_room : length new.counts ≡ loop_count (flat p c t checked is_item)
    pub step_room : length new.steps ≡ loop_count (flat p c t checked is_item)
    pub counts : (n : ℕ) → n < p.loops → is_item (do_start p.execs n) ≡ true → slice_index new.counts (new_number n) ≡ slice_index m.counts n
    pub steps : (n : ℕ) → n < p.loops → is_item (do_start p.execs n) ≡ true → word_at new.steps (new_number n) ≡ word_at m.steps n

  -- two states, of the program and of its simplified form: the same was written, both go on, have ended or have trapped, at the same
  -- line, and where they go on, the simplified form is where the next executable begins
  pub record AreInStep (x new : State) : Type 0 where
    pub position : x.mark ≡ Running → new.position ≡ entry x.position
    pub memory : AreMemoriesInStep x.memory new.memory
    pub out : new.out ≡ x.out
    pub mark : new.mark ≡ x.mark

  -- after n steps of the program, its simplified form is in step after at most 3 * n steps, which take at most twice the operations
  pub record KeepsStep (input : List ℤ) (n : ℕ) : Type 0 where
    pub steps : ℕ
    pub most : steps ≤ 3 * n
    pub operations : operations_of_run (program_of p (flat p c t checked is_item)) input steps ≤ 2 * operations_of_run p input n
    pub in_step : AreInStep (source p input n) (source (program_of p (flat p c t checked is_item)) input steps)

-- The simplified form of a program by its constants keeps in step with it, over data of words.
abbrev pub SimplifiedProgramsKeepStep : Type 0
SimplifiedProgramsKeepStep = (p : Program) (c : ClassTable) (touches : ℕ → ℕ → Bool) (tree : Tree) (r : Routing) (t : Knowns) (checked : Bool) (is_item : ℕ → Bool) (input : List ℤ) (n : ℕ)
    → AreRouted p c touches tree r → IsConstants p (flow p.execs) c touches r t → AreItems p t is_item → All IsWord input → KeepsStep p c t checked is_item input n

-- So it prints alike: it writes the same, ends where the program ends, and traps where it traps, in the same way.
abbrev pub SimplifiedProgramsPrintAlike : Type 0
SimplifiedProgramsPrintAlike = (p : Program) (c : ClassTable) (touches : ℕ → ℕ → Bool) (tree : Tree) (r : Routing) (t : Knowns) (checked : Bool) (q : Program) (input : List ℤ)
    → AreRouted p c touches tree r → IsConstants p (flow p.execs) c touches r t → IsSimplified p c t checked q → All IsWord input → PrintAlike (source p input) (source q input)

-- Where both have ended, they have the same words.
abbrev pub SimplifiedProgramsLeaveTheSameWords : Type 0
SimplifiedProgramsLeaveTheSameWords = (p : Program) (c : ClassTable) (touches : ℕ → ℕ → Bool) (tree : Tree) (r : Routing) (t : Knowns) (checked : Bool) (q : Program) (input : List ℤ) (m n : ℕ)
    → AreRouted p c touches tree r → IsConstants p (flow p.execs) c touches r t → IsSimplified p c t checked q → All IsWord input
    → (source p input m).mark ≡ Ended → (source q input n).mark ≡ Ended → (source q input n).memory.store ≡ (source p input m).memory.store

-- A run takes at most the greatest number of operations of the program at each step.
abbrev pub RunsTakeFewOperations : Type 0
RunsTakeFewOperations = (p : Program) (input : List ℤ) (n : ℕ) → operations_of_run p input n ≤ most_operations p * n
