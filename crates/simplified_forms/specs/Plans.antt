-- What is looked up of the items of a program. No public clause cites this module.
use Rattle.std.specs.Prelude.{◌≡◌, ◌+◌, ◌≤◌, ℕ, ◌<◌, Bool, true, false, List, length, Option, None, slice_index_or, count_by}
use Rattle.std.specs.List.{range_with_len}
use Rattle.f77_tree.specs.declared.programs.ExecKind.{ExecKind}
use Rattle.f77_tree.specs.declared.programs.ExecKind.TheVariants.{Test, Sign, Pick, DoStart, DoNext, End}
use Rattle.f77_tree.specs.declared.programs.Program.{Program}
use Rattle.f77_tree.specs.Loops.{do_start, do_next}
use Rattle.f77_tree.specs.WellFormed.{IsWellFormed}
use Rattle.alias_classes.specs.Classes.{ClassTable, IsClasses, class_count}
use Rattle.const_prop.specs.Table.{Knowns, Held, knowns_of}
use Rattle.simplified_forms.specs.declared.plan.Plan.{Plan}
use Rattle.simplified_forms.specs.declared.ways.Ways.{Ways}
use Rattle.simplified_forms.specs.Items.{kind_at, own_piece, own_edge, AreItems}
use Rattle.simplified_forms.specs.Simplified.{decided, items_before, has_mark, mark_of}
use Rattle.simplified_forms.specs.Tables.{IsTable, AreAnswers}

-- what a table answers of a number
abbrev pub answer : List Bool → (k : ℕ) → Bool
answer table k = slice_index_or table k false

-- what it tells of a number
abbrev pub told : List (Option ℕ) → (k : ℕ) → Option ℕ
told table k = slice_index_or table k None

-- for each number below n what a function tells
pub record AreTold (f : ℕ → Option ℕ) (n : ℕ) (table : List (Option ℕ)) : Type 0 where
  pub size : length table ≡ n
  pub entry : (k : ℕ) → k < n → told table k ≡ f k

-- ---- items

-- an executable is kept, where it is told to which pieces control can come
abbrev pub keeps_kind : Program → (entered : ℕ → Bool) → (k : ℕ) → ExecKind → Bool
keeps_kind p entered k End = true
keeps_kind p entered k (DoNext loop_no var body exit) = entered (own_piece p (do_start p.execs loop_no))
keeps_kind p entered k kind = entered (own_piece p k)

abbrev pub keeps : Program → (entered : ℕ → Bool) → (k : ℕ) → Bool
keeps p entered k = keeps_kind p entered k (kind_at p k)

-- the table tells of each executable whether it is kept
pub record AreKept (p : Program) (t : Knowns) (table : List Bool) : Type 0 where
  pub size : length table ≡ length p.execs
  pub items : AreItems p t (answer table)

-- ---- where control goes on

-- the tables fit one another
pub record AreWays (ways : Ways) : Type 0 where
  pub decided : length ways.decided.items ≡ length ways.items.items
  pub before : IsTable (items_before (answer ways.items.items)) (length ways.items.items + 1) ways.before.items
  pub few : length ways.items.items ≤ 20000

pub record IsWays (p : Program) (t : Knowns) (ways : Ways) : Type 0 where
  pub kept : AreKept p t ways.items.items
  pub decided : AreTold (decided p t) (length p.execs) ways.decided.items
  pub fit : AreWays ways

-- ---- marks

pub record IsPlan (p : Program) (t : Knowns) (plan : Plan) : Type 0 where
  pub ways : IsWays p t plan.ways
  pub edges : IsTable (own_edge p) (length p.execs) plan.edges.items
  pub marked : AreAnswers (has_mark p t (answer plan.ways.items.items)) (length p.execs) plan.marked.items
  pub marks : IsTable (λ k. count_by (answer plan.marked.items) (range_with_len 0 k)) (length plan.marked.items + 1) plan.marks.items
  pub nexts : IsTable (do_next p.execs) p.loops plan.nexts.items

-- ---- statements

-- a program with its classes and its table of constants, and its plan
pub record IsScene {W : ℕ} (p : Program) (c : ClassTable) (t : Held W) (plan : Plan) : Type 0 where
  pub program : IsWellFormed p
  pub classes : IsClasses p c
  pub lines : t.known.lines ≡ class_count c + 1
  pub planned : IsPlan p (knowns_of t) plan

-- the number of the mark of an executable
abbrev pub mark_in : Program → Knowns → Plan → (k : ℕ) → ℕ
mark_in p t plan = mark_of p t (answer plan.ways.items.items)

-- the edge is one of so many, where the executable has expressions
abbrev pub IsFoldedAt : (edge edges : ℕ) → ExecKind → Type 0
IsFoldedAt edge edges (DoNext loop_no var body exit) = Unit {0}
IsFoldedAt edge edges End = Unit {0}
IsFoldedAt edge edges kind = edge < edges

-- a branch, but the test of a DO
abbrev pub IsChoice : ExecKind → Type 0
IsChoice (Test cond if_true if_false) = Unit {0}
IsChoice (Sign value below at above) = Unit {0}
IsChoice (Pick value targets other) = Unit {0}
IsChoice kind = ⊥

-- the beginning of a DO
abbrev pub IsStart : ExecKind → Type 0
IsStart (DoStart loop_no var first last step body exit) = Unit {0}
IsStart kind = ⊥
