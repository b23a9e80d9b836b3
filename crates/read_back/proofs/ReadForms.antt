-- What a printed flat statement is read as, with the forms of its expressions.
use Rattle.std.proofs.Common.{◌≡◌, ◌==◌, ℕ, ◌≤◌, Bool, true, false, cond, List, [], ◌∷◌, map, refl, ap, Option, Some, None, if◌then◌else◌}
use Rattle.std.specs.Prelude.{All}
use Rattle.f77_tree.specs.declared.expressions.Access.{Access}
use Rattle.f77_tree.specs.declared.expressions.Expr.{Expr}
use Rattle.f77_tree.specs.declared.expressions.Expr.TheVariants.{Read}
use Rattle.f77_tree.specs.declared.programs.Item.{Item}
use Rattle.f77_tree.specs.declared.programs.Item.TheVariants.{Value, Chars}
use Rattle.f77_tree.specs.declared.programs.NameInfo.{NameInfo}
use Rattle.f77_tree.specs.declared.statements.RawExpr.{RawExpr}
use Rattle.f77_tree.specs.declared.statements.RawItem.{RawItem}
use Rattle.f77_tree.specs.declared.statements.RawItem.TheVariants.{Value as RawValue, Chars as RawChars}
use Rattle.f77_tree.specs.declared.statements.Stmt.{Stmt}
use Rattle.f77_tree.specs.declared.statements.Stmt.TheVariants.{Assign, Print, Take, Continue, GoTo, PickGoTo, SignIf, ThenIf, Do, End}
use Rattle.f77_tree.specs.Declarations.{IsNameInfo}
use Rattle.f77_tree.specs.Execution.{words_taken}
use Rattle.f77_tree.specs.Grammar.{reading}
use Rattle.f77_tree.specs.Kinds.{IsProper, IsAssignment}
use Rattle.f77_tree.specs.Name.{is_name}
use Rattle.f77_tree.specs.StatementGrammar.{WrittenStatement, Read_star, item_of, step_of, statement_of}
use Rattle.f77_tree.specs.WellFormed.{IsProperItem, IsDo}
use Rattle.f77_tree.proofs.AllLemmas.{All-first, All-rest}
use Rattle.f77_expr.specs.Printing.{name_at, raw_form}
use Rattle.f77_expr.proofs.PrintedLaws.{proper-writes}
use Rattle.flat_programs.specs.declared.statements.Flat.{Flat}
use Rattle.flat_programs.specs.declared.statements.Flat.TheVariants.{Mark, Assignment, Output, LogicalIf, ArithmeticIf, ComputedGoTo, DoLoop, Jump, Finish}
use Rattle.flat_programs.specs.FlatForm.{IsProperFlat, IsNumber, HasNumbers}
use Rattle.flat_programs.specs.Shown.{written, written_item, is_one, shown}
use Rattle.read_back.proofs.PrintedLabels.{again, all_again}
use Rattle.read_back.proofs.ShownForms.{value_proper}
use Rattle.std.proofs.lemmas.Grind.{elements}
use Rattle.std.proofs.Common.{arith}

abbrev pub item_form : List NameInfo → Item → RawItem
item_form names (Value e) = RawValue (raw_form names e)
item_form names (Chars text) = RawChars text

-- a step of 1 isn't written
abbrev pub step_form : List NameInfo → Expr → Option RawExpr
step_form names step = if is_one step then None else Some (raw_form names step)

-- an assignment, where it is told whether it takes data
abbrev pub assigned_form : List NameInfo → (takes : Bool) → Access → Expr → Stmt
assigned_form names takes target value = if takes then Take (raw_form names (Read target) ∷ []) else Assign (raw_form names (Read target)) (raw_form names value)

abbrev pub read_form : List NameInfo → Flat → Stmt
read_form names Mark = Continue
read_form names (Assignment target value) = assigned_form names (words_taken value == 1) target value
read_form names (Output items) = Print (map (item_form names) items)
read_form names (LogicalIf condition target) = ThenIf (raw_form names condition) (GoTo target)
read_form names (ArithmeticIf value below at above) = SignIf (raw_form names value) below at above
read_form names (ComputedGoTo value targets) = PickGoTo targets (raw_form names value)
read_form names (DoLoop end var first last step) = Do end (name_at names var) (raw_form names first) (raw_form names last) (step_form names step)
read_form names (Jump target) = GoTo target
read_form names Finish = End

module _ (names : List NameInfo) (table : All IsNameInfo names) (count : ℕ) (few : count ≤ 4000) where
  symbolic : All (λ (info : NameInfo). is_name info.name ≡ true) names
  symbolic k d lt = (table k d lt).symbolic

  form_of : (e : Expr) → IsProper names e → reading (written names e) ≡ raw_form names e
  form_of e proper = (proper-writes names e proper symbolic).is

  assigned_is : (target : Access) (value : Expr) (takes : Bool) → IsAssignment names target value → (words_taken value == 1) ≡ takes → statement_of (cond takes (WrittenStatement.read Read_star (written names (Read target) ∷ [])) (WrittenStatement.assignment (written names (Read target)) (written names value))) ≡ assigned_form names takes target value
  assigned_is target value true is takes = ap (λ e. Take (e ∷ [])) (form_of (Read target) is.access)
  assigned_is target value false is takes = search (form_of, value_proper, arith)

  item_is : (item : Item) → IsProperItem names item → item_of (written_item names item) ≡ item_form names item
  item_is (Value e) proper = ap RawValue (form_of e proper)
  item_is (Chars text) proper = refl

  items_are : (items : List Item) → All (IsProperItem names) items → map item_of (map (written_item names) items) ≡ map (item_form names) items
  items_are [] all = refl
  items_are (item ∷ items) all = grind (arith, elements, item_is, All-first, All-rest, items_are items (All-rest (IsProperItem names) item items all))

  step_is : (step : Expr) (one : Bool) → IsProper names step → step_of (cond one None (Some (written names step))) ≡ cond one None (Some (raw_form names step))
  step_is step true proper = refl
  step_is step false proper = ap Some (form_of step proper)

  loop_is : (end var : ℕ) (first last step : Expr) → IsDo names var (first ∷ last ∷ step ∷ []) → IsNumber count end → statement_of (shown names (DoLoop end var first last step)) ≡ read_form names (DoLoop end var first last step)
  loop_is end var first last step of number =
      grind (arith, All-first, All-rest, again end count few number, form_of first, form_of last, step_is step (is_one step))

  signs_are : (value : Expr) (below at above : ℕ) → IsProper names value → All (IsNumber count) (below ∷ at ∷ above ∷ []) → statement_of (shown names (ArithmeticIf value below at above)) ≡ read_form names (ArithmeticIf value below at above)
  signs_are value below at above proper all =
      grind (arith, All-rest (IsNumber count) below, form_of value proper, again below count few, All-first (IsNumber count) below, again, All-first (IsNumber count), again above count few, All-first (IsNumber count) above, All-rest (IsNumber count))

  pub form_is : (stmt : Flat) → IsProperFlat names stmt → HasNumbers count stmt → statement_of (shown names stmt) ≡ read_form names stmt
  form_is Mark proper has = refl
  form_is (Assignment target value) proper has = assigned_is target value (words_taken value == 1) proper refl
  form_is (Output items) proper has = ap Print (items_are items proper)
  form_is (LogicalIf condition target) proper has = grind (arith, elements, form_of, again, All-first)
  form_is (ArithmeticIf value below at above) proper has = signs_are value below at above proper.proper has.jumps
  form_is (ComputedGoTo value targets) proper has = grind (arith, form_of value proper.0.proper, all_again count few targets has.jumps)
  form_is (DoLoop end var first last step) proper has = loop_is end var first last step proper (All-first (IsNumber count) end [] has.range_end)
  form_is (Jump target) proper has = ap GoTo (again target count few (All-first (IsNumber count) target [] has.jumps))
  form_is Finish proper has = refl
