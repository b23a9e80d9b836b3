-- The simplified form of a program: executables to which control can't come are left out, a branch that always goes one way only goes
-- there, and constants stand for what is known.
use Rattle.std.specs.Prelude.{◌≡◌, ℕ, ◌+◌, ℤ, Bool, true, false, ◌&&◌, ◌||◌, ◌==◌, nat_lt, if◌then◌else◌, List, [], ◌∷◌, ◌++◌, length, map, flat_map, count_by, Option, Some, None, slice_get, slice_index}
use Rattle.std.specs.Option.{option_map}
use Rattle.std.specs.List.{list_any, range_with_len}
use Rattle.op_table.specs.Trips.{at_least_zero}
use Rattle.f77_tree.specs.declared.programs.ExecKind.{ExecKind}
use Rattle.f77_tree.specs.declared.programs.ExecKind.TheVariants.{Assign, Print, Pass, Test, Sign, Pick, DoStart, DoNext, End}
use Rattle.f77_tree.specs.declared.programs.Program.{Program}
use Rattle.f77_tree.specs.Control.{successors}
use Rattle.f77_tree.specs.Loops.{do_next}
use Rattle.alias_classes.specs.Classes.{ClassTable}
use Rattle.cfg_build.specs.Parts.{line_in}
use Rattle.const_prop.specs.Closed.{words_on}
use Rattle.const_prop.specs.Known.{one_of}
use Rattle.const_prop.specs.Table.{Knowns}
use Rattle.flat_programs.specs.declared.statements.Flat.{Flat}
use Rattle.flat_programs.specs.declared.statements.Flat.TheVariants.{Mark, Assignment, Output, LogicalIf, ArithmeticIf, ComputedGoTo, DoLoop, Jump, Finish}
use Rattle.flat_programs.specs.declared.statements.FlatLine.{FlatLine}
use Rattle.flat_programs.specs.Declarations.{declared}
use Rattle.flat_programs.specs.Executables.{program_of}
use Rattle.simplified_forms.specs.Folding.{folded, folded_access, folded_item}
use Rattle.simplified_forms.specs.Items.{kind_at, own_piece, own_edge, AreItems}

-- ---- where control goes from an item, whose decision is told where it always goes one way

-- the successor that is left after those to which the statement jumps by itself: none where it always jumps, and none of a DO, whose
-- range follows
abbrev pub rest : ExecKind → (decided : Option ℕ) → Option ℕ
rest (Assign target value next) decided = Some next
rest (Print items next) decided = Some next
rest (Pass next) decided = Some next
rest (Test cond if_true if_false) None = Some if_false
rest (Sign value below at above) None = None
rest (Pick value targets other) None = Some other
rest (DoStart loop_no var first last step body exit) decided = None
rest (DoNext loop_no var body exit) decided = Some exit
rest End decided = None
rest branch (Some i) = Some (slice_index (successors branch) i)

-- the successors to which the statement jumps by itself
abbrev pub own_jumps : ExecKind → (decided : Option ℕ) → List ℕ
own_jumps (Test cond if_true if_false) None = if_true ∷ []
own_jumps (Sign value below at above) None = below ∷ at ∷ above ∷ []
own_jumps (Pick value targets other) None = targets
own_jumps kind decided = []

abbrev pub is_increment : ExecKind → Bool
is_increment (DoNext loop_no var body exit) = true
is_increment kind = false

-- the out-edge that a branch always takes, counted from 0
abbrev pub decided : Program → Knowns → (k : ℕ) → Option ℕ
decided p t k = option_map at_least_zero (one_of (t.decision (own_piece p k)))

module _ (is_item : ℕ → Bool) where
  -- how many items stand before an executable
  abbrev pub items_before : (k : ℕ) → ℕ
  items_before k = count_by is_item (range_with_len 0 k)

  -- s is the item after the item k
  abbrev pub is_next : (k s : ℕ) → Bool
  is_next k s = is_item s && (items_before s == items_before k + 1)

  -- a jump to the successor that is left, where that isn't the next item
  abbrev pub last_jump : (k : ℕ) → Option ℕ → List ℕ
  last_jump k None = []
  last_jump k (Some s) = if is_next k s then [] else s ∷ []

  -- all executables to which the statements of an item jump, where its decision is told
  abbrev pub jumps_by : (k : ℕ) → ExecKind → (decided : Option ℕ) → List ℕ
  jumps_by k kind decided = own_jumps kind decided ++ last_jump k (rest kind decided)

module _ (p : Program) (t : Knowns) (is_item : ℕ → Bool) where
  abbrev pub jumps : (k : ℕ) → List ℕ
  jumps k = jumps_by is_item k (kind_at p k) (decided p t k)

  -- ---- marks: of what is jumped to, and of each increment

  abbrev pub is_jumped_to : (k : ℕ) → Bool
  is_jumped_to k = list_any (λ j. is_item j && list_any (λ s. s == k) (jumps j)) (range_with_len 0 (length p.execs))

  abbrev pub has_mark : (k : ℕ) → Bool
  has_mark k = is_item k && (is_increment (kind_at p k) || is_jumped_to k)

  -- the number of the mark of an executable
  abbrev pub mark_of : (k : ℕ) → ℕ
  mark_of k = count_by has_mark (range_with_len 0 (k + 1))

-- ---- statements

-- what is left of an executable itself, where its decision is told, what is known of words, and the number of the mark of each executable
module _ (p : Program) (checked : Bool) (words : ℕ → Option ℤ) (mark : ℕ → ℕ) where
  abbrev pub left_of : ExecKind → (decided : Option ℕ) → List Flat
  left_of (Assign target value next) decided = Assignment (folded_access p.names checked words target) (folded p.names checked words value) ∷ []
  left_of (Print items next) decided = Output (map (folded_item p.names checked words) items) ∷ []
  left_of (Test cond if_true if_false) None = LogicalIf (folded p.names checked words cond) (mark if_true) ∷ []
  left_of (Sign value below at above) None = ArithmeticIf (folded p.names checked words value) (mark below) (mark at) (mark above) ∷ []
  left_of (Pick value targets other) None = ComputedGoTo (folded p.names checked words value) (map mark targets) ∷ []
  left_of (DoStart loop_no var first last step body exit) decided = DoLoop (mark (do_next p.execs loop_no)) var (folded p.names checked words first) (folded p.names checked words last) (folded p.names checked words step) ∷ []
  left_of End decided = Finish ∷ []
  left_of kind decided = []

module _ (p : Program) (c : ClassTable) (t : Knowns) (checked : Bool) (is_item : ℕ → Bool) where
  -- what is known of words where control comes to an executable
  abbrev pub words_at : (k word : ℕ) → Option ℤ
  words_at k = words_on c t (own_edge p k)

  abbrev pub mark : (k : ℕ) → ℕ
  mark k = mark_of p t is_item k

  module _ (k : ℕ) where
    -- what is left of an executable itself
    abbrev pub own : ExecKind → (decided : Option ℕ) → List Flat
    own kind decided = left_of p checked (words_at k) mark kind decided

    -- the statements of an item: its mark, what is left of it, and its jump
    abbrev pub statements : List Flat
    statements = (if has_mark p t is_item k then Mark ∷ [] else []) ++ own (kind_at p k) (decided p t k) ++ map (λ s. Jump (mark s)) (last_jump is_item k (rest (kind_at p k) (decided p t k)))

    abbrev pub lines : List FlatLine
    lines = if is_item k then map (λ stmt. record { line = line_in (slice_get p.execs k); stmt = stmt }) statements else []

  -- all statements
  abbrev pub flat : List FlatLine
  flat = flat_map lines (range_with_len 0 (length p.execs))

-- ---- the result

-- no text has more statements
abbrev pub most_statements : ℕ
most_statements = 4000

-- with its declarations a program of these statements has too many
abbrev pub has_many_statements : Program → List FlatLine → Bool
has_many_statements p flat = nat_lt most_statements (length (declared p) + length flat)

-- the statements of the simplified form
pub record AreSimplified (p : Program) (c : ClassTable) (t : Knowns) (checked : Bool) (statements : List FlatLine) : Type 0 where
  pub is_item : ℕ → Bool
  pub items : AreItems p t is_item
  pub are : statements ≡ flat p c t checked is_item

-- the simplified form, whose statements are few enough
pub record IsSimplified (p : Program) (c : ClassTable) (t : Knowns) (checked : Bool) (q : Program) : Type 0 where
  pub statements : List FlatLine
  pub simplified : AreSimplified p c t checked statements
  pub is : q ≡ program_of p statements
  pub few : has_many_statements p statements ≡ false

-- its statements are too many
pub record HasManySimplified (p : Program) (c : ClassTable) (t : Knowns) (checked : Bool) : Type 0 where
  pub statements : List FlatLine
  pub simplified : AreSimplified p c t checked statements
  pub many : has_many_statements p statements ≡ true
