-- Repeated expressions done once: a temporary keeps the value of each candidate that is available where it is computed again.
use Rattle.std.specs.Prelude.{◌≡◌, ◌↔◌, ℕ, ◌+◌, pos, Bool, not, ◌&&◌, ◌||◌, ◌==◌, nat_lt, if◌then◌else◌, List, [], ◌∷◌, ◌++◌, length, map, flat_map, filter, fold, count_by, replicate, Option, Some, None, slice_get, slice_index_or, option_to_list}
use Rattle.std.specs.List.{list_any, range_with_len}
use Rattle.f77_tree.specs.declared.expressions.Access.{Access}
use Rattle.f77_tree.specs.declared.expressions.Expr.{Expr, Row_of-Expr, end_of-Expr, more_of-Expr}
use Rattle.f77_tree.specs.declared.expressions.Expr.TheVariants.{Const, Truth, Input, Read, Read', Apply, Apply'}
use Rattle.f77_tree.specs.declared.programs.Item.{Item}
use Rattle.f77_tree.specs.declared.programs.Item.TheVariants.{Value, Chars}
use Rattle.f77_tree.specs.declared.programs.NameInfo.{NameInfo}
use Rattle.f77_tree.specs.declared.programs.Program.{Program}
use Rattle.f77_tree.specs.Line.{kind_of_expression}
use Rattle.cfg_build.specs.Flow.{flow, piece_at}
use Rattle.flat_programs.specs.declared.statements.Flat.{Flat}
use Rattle.flat_programs.specs.declared.statements.Flat.TheVariants.{Mark, Assignment, Output, LogicalIf, ArithmeticIf, ComputedGoTo, DoLoop, Jump, Finish}
use Rattle.flat_programs.specs.declared.statements.FlatLine.{FlatLine}
use Rattle.flat_programs.specs.Executables.{program_of, first_of}
use Rattle.flat_programs.specs.FlatForm.{AreStatementsOf}
use Rattle.flat_programs.specs.Text.{has_long_text, text as text_of}
use Rattle.redundancy.specs.Available.{Availability, available_at}
use Rattle.redundancy.specs.Computed.{computed_by}
use Rattle.shared_forms.specs.declared.ends.RewriteEnd.{RewriteEnd}
use Rattle.shared_forms.specs.declared.ends.RewriteEnd.TheVariants.{TooManyNames, TooManyStatements, LongText}
use Rattle.simplified_forms.specs.Items.{own_piece}
use Rattle.simplified_forms.specs.Simplified.{has_many_statements}
use Rattle.shared_forms.specs.Temporaries.{free_names}

-- no program has more words
abbrev pub most_words : ℕ
most_words = 262144

-- the number of each expression that is a candidate
abbrev pub AreNumbers : Availability → (number : Expr → Option ℕ) → Type 0
AreNumbers a number = (e : Expr) (k : ℕ) → (number e ≡ Some k) ↔ (slice_get a.candidates k ≡ Some e)

abbrev pub is_one_of : List ℕ → (n : ℕ) → Bool
is_one_of ns n = list_any (λ m. m == n) ns

-- an expression that isn't told is 0
abbrev pub expression_in : Option Expr → Expr
expression_in None = Const (pos 0)
expression_in (Some e) = e

-- A flat program with these statements, and its available expressions.
module _ (q : Program) (a : Availability) (number : Expr → Option ℕ) where
  -- ---- candidates that are shared

  -- the numbers of the candidates that an executable computes, in the order of evaluation
  abbrev pub computed : (k : ℕ) → List ℕ
  computed k = flat_map (λ e. option_to_list (number e)) (computed_by q.execs (piece_at (flow q.execs).pieces (own_piece q k)))

  -- the candidate is available where the executable begins
  abbrev pub is_available : (k n : ℕ) → Bool
  is_available k n = available_at a n (own_piece q k)

  -- a candidate is shared where it is available at an executable that computes it
  abbrev pub is_shared : (n : ℕ) → Bool
  is_shared n = list_any (λ k. is_one_of (computed k) n && is_available k n) (range_with_len 0 (length q.execs))

  -- the shared candidates, in order
  abbrev pub shared : List ℕ
  shared = filter is_shared (range_with_len 0 (length a.candidates))

  abbrev pub candidate : (n : ℕ) → Expr
  candidate n = expression_in (slice_get a.candidates n)

  -- ---- temporaries

  -- the name of the temporary of a shared candidate: those of temporaries come after the program's names
  abbrev pub temporary : (n : ℕ) → ℕ
  temporary n = length q.names + count_by is_shared (range_with_len 0 n)

  -- the temporary j of a candidate has the free name j, and the word j after those of the program
  abbrev pub temporary_info : (j n : ℕ) → NameInfo
  temporary_info j n = record { name = slice_index_or (free_names q.names) j []; kind = kind_of_expression q.names (candidate n); dims = []; place = q.words + j }

  abbrev pub temporary_at : (j : ℕ) → Option ℕ → List NameInfo
  temporary_at j None = []
  temporary_at j (Some n) = temporary_info j n ∷ []

  abbrev pub temporaries : List NameInfo
  temporaries = flat_map (λ j. temporary_at j (slice_get shared j)) (range_with_len 0 (length shared))

  -- the program with temporaries, whose words are 0 at first
  abbrev pub with_temporaries : Program
  with_temporaries = record q { names = q.names ++ temporaries; words = q.words + length shared; initial = q.initial ++ replicate (length shared) (pos 0) }

  -- ---- expressions in which temporaries stand for shared candidates

  abbrev pub scalar : (name : ℕ) → Access
  scalar name = record { name = name; subs = [] }

  abbrev pub temporary_or : Option ℕ → Expr → Expr
  temporary_or None e = e
  temporary_or (Some n) e = if is_shared n then Read (scalar (temporary n)) else e

  abbrev mutual
    pub replaced : Expr → Expr
    replaced (Const z) = Const z
    replaced (Truth b) = Truth b
    replaced Input = Input
    replaced (Read' name shape subs) = Read (record { name = name; subs = row_replaced subs })
    replaced (Apply' op shape args) = temporary_or (number (Apply' op shape args)) (Apply op (row_replaced args))

    pub row_replaced : {m : _} → Row_of-Expr m → List Expr
    row_replaced end_of-Expr = []
    row_replaced (more_of-Expr e rest) = replaced e ∷ row_replaced rest

  abbrev pub replaced_item : Item → Item
  replaced_item (Value e) = Value (replaced e)
  replaced_item (Chars text) = Chars text

  abbrev pub replaced_access : Access → Access
  replaced_access access = record { name = access.name; subs = map replaced access.subs }

  abbrev pub replaced_in : Flat → Flat
  replaced_in Mark = Mark
  replaced_in (Assignment target value) = Assignment (replaced_access target) (replaced value)
  replaced_in (Output items) = Output (map replaced_item items)
  replaced_in (LogicalIf cond target) = LogicalIf (replaced cond) target
  replaced_in (ArithmeticIf value below at above) = ArithmeticIf (replaced value) below at above
  replaced_in (ComputedGoTo value targets) = ComputedGoTo (replaced value) targets
  replaced_in (DoLoop end var first last step) = DoLoop end var (replaced first) (replaced last) (replaced step)
  replaced_in (Jump target) = Jump target
  replaced_in Finish = Finish

  -- ---- assignments to temporaries, before the statement that computes what isn't available there

  abbrev pub once : List ℕ → (n : ℕ) → List ℕ
  once seen n = if is_one_of seen n then seen else seen ++ n ∷ []

  -- the shared candidates that the executable computes and that aren't available where it begins, each once
  abbrev pub due : (k : ℕ) → List ℕ
  due k = fold once [] (filter (λ n. is_shared n && not (is_available k n)) (computed k))

  abbrev pub kept_value : (line n : ℕ) → FlatLine
  kept_value line n = record { line = line; stmt = Assignment (scalar (temporary n)) (candidate n) }

  -- a statement of which this is the first executable, after the assignments that are due there
  abbrev pub shared_lines : (first : ℕ) → Option FlatLine → List FlatLine
  shared_lines first None = []
  shared_lines first (Some l) = map (kept_value l.line) (due first) ++ record { line = l.line; stmt = replaced_in l.stmt } ∷ []

  abbrev pub shared_flat : List FlatLine → List FlatLine
  shared_flat flat = flat_map (λ place. shared_lines (first_of flat place) (slice_get flat place)) (range_with_len 0 (length flat))

  -- ---- the result, and its limits

  -- the shared form
  abbrev pub shared_program : List FlatLine → Program
  shared_program flat = program_of with_temporaries (shared_flat flat)

  -- names or words are left for fewer temporaries than there are
  abbrev pub has_many_names : Bool
  has_many_names = nat_lt (length (free_names q.names)) (length shared) || nat_lt most_words (q.words + length shared)

  -- why there is no shared form: the first limit that it passes
  abbrev pub refusal : List FlatLine → Option RewriteEnd
  refusal flat =
      if has_many_names then Some TooManyNames
      else if has_many_statements with_temporaries (shared_flat flat) then Some TooManyStatements
      else if has_long_text with_temporaries (shared_flat flat) then Some LongText
      else None

-- a flat program has these statements, its candidates these numbers, and its shared form is refused or not
pub record IsSharing (q : Program) (a : Availability) (number : Expr → Option ℕ) (flat : List FlatLine) (end : Option RewriteEnd) : Type 0 where
  pub numbers : AreNumbers a number
  pub statements : AreStatementsOf q flat
  pub ends : refusal q a number flat ≡ end

-- the shared form of a flat program, which passes no limit
pub record IsShared (q : Program) (a : Availability) (r : Program) : Type 0 where
  pub number : Expr → Option ℕ
  pub flat : List FlatLine
  pub sharing : IsSharing q a number flat None
  pub is : r ≡ shared_program q a number flat

-- the text of the shared form of a flat program
pub record IsSharedText (q : Program) (a : Availability) (text : List ℕ) : Type 0 where
  pub form : Program
  pub shared : IsShared q a form
  pub flat : List FlatLine
  pub statements : AreStatementsOf form flat
  pub is : text ≡ text_of form flat

-- the shared form of a flat program passes a limit
pub record IsRefused (q : Program) (a : Availability) (end : RewriteEnd) : Type 0 where
  pub number : Expr → Option ℕ
  pub flat : List FlatLine
  pub sharing : IsSharing q a number flat (Some end)
