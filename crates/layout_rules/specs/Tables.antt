-- Tables over the statements of a program, made once, in which what a statement's executables need is looked up.
use Rattle.std.specs.Prelude.{◌≡◌, ℕ, ◌<◌, Bool, true, false, List, length, Option, Some, None, slice_index, slice_get, All}
use Rattle.f77_tree.specs.declared.statements.Labelled.{Labelled}
use Rattle.f77_tree.specs.declared.statements.Stmt.{Stmt, more_of-Stmt}
use Rattle.f77_tree.specs.declared.statements.Stmt.TheVariants.{Assign, Print, Take, Continue, Stop, GoTo, PickGoTo, SignIf, ThenIf', BlockIf, ElseIf, Else, EndIf, Do, End}
use Rattle.f77_tree.specs.StatementGrammar.{is_of_subroutines}
use Rattle.layout_rules.specs.Labels.{statement_of, used}
use Rattle.layout_rules.specs.Executables.{loops_above}

-- the first n values of a function
pub record IsTable (f : ℕ → ℕ) (n : ℕ) (table : List ℕ) : Type 0 where
  pub size : length table ≡ n
  pub entry : (k : ℕ) → k < n → slice_index table k ≡ f k

-- for each label the DOs above a place whose ranges end at it
abbrev pub AreLoops : List Labelled → (place : ℕ) → (lists : ℕ → List ℕ) → Type 0
AreLoops stmts place lists = (label : ℕ) → lists label ≡ loops_above stmts label place

abbrev pub rank_of : List Labelled → (place : ℕ) → Stmt → ℕ
rank_of stmts place (Do label variable first last step) = length (loops_above stmts label place)
rank_of stmts place _ = 0

-- how many DOs above the one at this place end at the same label
abbrev pub rank_at : List Labelled → (place : ℕ) → Option Labelled → ℕ
rank_at stmts place None = 0
rank_at stmts place (Some s) = rank_of stmts place s.stmt

abbrev pub rank : List Labelled → (place : ℕ) → ℕ
rank stmts place = rank_at stmts place (slice_get stmts place)

-- ---- statements as those of a source are

-- a statement that has one executable and may stand after a condition
abbrev pub is_plain : Stmt → Bool
is_plain (Assign target value) = true
is_plain (Print items) = true
is_plain Continue = true
is_plain Stop = true
is_plain (GoTo label) = true
is_plain (PickGoTo labels index) = true
is_plain (SignIf value negative zero positive) = true
is_plain _ = false

-- a statement that may stand after a condition
abbrev pub is_simple : Stmt → Bool
is_simple (Take targets) = true
is_simple stmt = is_plain stmt

-- a statement that has one executable, where blocks of IF and loops begin and end
abbrev pub is_structural : Stmt → Bool
is_structural (BlockIf condition) = true
is_structural (ElseIf condition) = true
is_structural EndIf = true
is_structural (Do label variable first last step) = true
is_structural End = true
is_structural _ = false

-- after the condition of a logical IF stands a statement that may stand there
abbrev pub has_simple_inner : Stmt → Bool
has_simple_inner (ThenIf' condition shape (more_of-Stmt stmt rest)) = is_simple stmt
has_simple_inner _ = true

-- a label of up to five digits that a statement has
pub record IsStanding (stmts : List Labelled) (label : ℕ) : Type 0 where
  pub number : label < 100000
  pub stands : statement_of stmts label < length stmts

-- a statement as it stands in a source without the faults of labels
pub record IsUsable (stmts : List Labelled) (s : Labelled) : Type 0 where
  pub label : s.label < 100000
  pub inner : has_simple_inner s.stmt ≡ true
  pub labels : All (IsStanding stmts) (used s.stmt)
  pub no_subroutine : is_of_subroutines s.stmt ≡ false

-- a statement after which an arm of a block begins
abbrev pub begins_arm : Stmt → Bool
begins_arm (BlockIf condition) = true
begins_arm (ElseIf condition) = true
begins_arm Else = true
begins_arm _ = false
