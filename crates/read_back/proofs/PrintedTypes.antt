-- No kind is wrong in a printed program: each name is typed once, by the first statements; there is no IMPLICIT; and expressions have the
-- kinds that their places ask for.
use Rattle.std.proofs.Common.{◌≡◌, ◌==◌, ℕ, zero, suc, ◌+◌, ◌<◌, Bool, true, false, cond, not, List, [], ◌∷◌, ◌++◌, length, map, take, ◌&&◌, ◌||◌, nat_lt, refl, sym, ap, ◌∙◌, subst, ⊎_elim, ◌⊎◌, arith, Some, None, if◌then◌else◌}
use Rattle.std.specs.Prelude.{All, bytes_eq, flat_map, slice_get}
use Rattle.std.specs.List.{list_any, list_all}
use Rattle.std.specs.Option.{is_some}
use Rattle.std.proofs.lemmas.Bool.{and_from, cases_Bool, lt-ltb}
use Rattle.std.proofs.lemmas.List.Elements.{All-append}
use Rattle.f77_tree.specs.declared.declarations.Kind.{Kind}
use Rattle.f77_tree.specs.declared.declarations.Kind.TheVariants.{Integer, Logical}
use Rattle.f77_tree.specs.declared.expressions.Access.{Access}
use Rattle.f77_tree.specs.declared.expressions.Expr.{Expr}
use Rattle.f77_tree.specs.declared.expressions.Expr.TheVariants.{Const, Truth as IsTruth, Input, Read, Read', Apply' as ApplyOf}
use Rattle.f77_tree.specs.declared.programs.Item.{Item}
use Rattle.f77_tree.specs.declared.programs.Item.TheVariants.{Value, Chars}
use Rattle.f77_tree.specs.declared.programs.NameInfo.{NameInfo}
use Rattle.f77_tree.specs.declared.programs.Program.{Program}
use Rattle.f77_tree.specs.declared.statements.Labelled.{Labelled}
use Rattle.f77_tree.specs.declared.statements.RawExpr.{RawExpr, Row_of-RawExpr, end_of-RawExpr, more_of-RawExpr}
use Rattle.f77_tree.specs.declared.statements.RawExpr.TheVariants.{Int, Truth, Named, Call', Apply'}
use Rattle.f77_tree.specs.declared.statements.Stmt.{Stmt}
use Rattle.f77_tree.specs.declared.statements.Stmt.TheVariants.{GoTo, ThenIf}
use Rattle.f77_tree.specs.Declarations.{NamesDiffer, index_of}
use Rattle.f77_tree.specs.Execution.{words_taken}
use Rattle.f77_tree.specs.Kinds.{IsProper, IsOfKind, IsAssignment, taken_as, operand_kind}
use Rattle.f77_tree.specs.Line.{kind_of_expression, kind_of_op}
use Rattle.f77_tree.specs.OtherPlaces.{without_places}
use Rattle.f77_tree.specs.StatementGrammar.{WrittenStatement, statement_of}
use Rattle.f77_tree.specs.Value.{dims_of, kind_of}
use Rattle.f77_tree.specs.WellFormed.{IsProperItem, IsDo}
use Rattle.f77_tree.proofs.AllLemmas.{All-first, All-rest, All-get}
use Rattle.f77_tree.proofs.NameLemmas.{bytes_eq-same}
use Rattle.f77_expr.specs.Printing.{name_at, Form, access_form, row_forms, raw_form}
use Rattle.layout_rules.specs.Declarations.{is_implicit_none}
use Rattle.layout_rules.specs.Faults.{first_line, has_repeat}
use Rattle.layout_rules.specs.Layout.{names_of}
use Rattle.layout_rules.specs.TypeFaults.{typed_names, implied_letters, is_implicit, types_twice, implies_twice, is_beside_none, has_wrong_type}
use Rattle.layout_rules.specs.Types.{kind_in, is_row_of, is_of_kind, is_kind, kind_of_call, count_of_row, takes, is_array_in, dims_named, kind_named, is_variable, is_target, is_item, is_step, is_kind_of_target, is_well_kinded}
use Rattle.flat_programs.specs.declared.statements.Flat.{Flat}
use Rattle.flat_programs.specs.declared.statements.Flat.TheVariants.{Mark, Assignment, Output, LogicalIf, ArithmeticIf, ComputedGoTo, DoLoop, Jump, Finish}
use Rattle.flat_programs.specs.declared.statements.FlatLine.{FlatLine}
use Rattle.flat_programs.specs.Declarations.{commons, group_statement, init_statement, declared}
use Rattle.flat_programs.specs.FlatForm.{IsProperFlat}
use Rattle.flat_programs.specs.Shown.{is_one}
use Rattle.read_back.specs.PrintedArrays.{HasNoPrintedArrays}
use Rattle.read_back.specs.PrintedStatements.{CanBeText}
use Rattle.read_back.specs.SourceStatements.{statements_read}
use Rattle.read_back.proofs.DeclaredEach.{mapped_each, commons_each, declared_each}
use Rattle.read_back.proofs.FirstFaults.{none_faulty, none_above_flat}
use Rattle.read_back.proofs.PrintedKinds.{index-name, printed_kind, row_count, same_kind}
use Rattle.read_back.proofs.PrintedPlaces.{each_statement}
use Rattle.read_back.proofs.PrintedTable.{flat_form, table_same}
use Rattle.read_back.proofs.ReadForms.{item_form, step_form, assigned_form, read_form}
use Rattle.read_back.proofs.ShownForms.{taken-one}
use Rattle.read_back.proofs.StatementParts.{HoldsOfRead, holds_of_read}
use Rattle.read_back.proofs.TypedFirst.{TypesName, named_or}

-- ---- kinds over a table without places

pub bare-index : (names : List NameInfo) (name : List ℕ) → index_of (without_places names) name ≡ index_of names name
bare-index [] name = refl
bare-index (info ∷ names) name = ap (λ k. cond (not (bytes_eq info.name name)) (1 + k) 0) (bare-index names name)

bare-kind : (names : List NameInfo) (k : ℕ) → kind_of (without_places names) k ≡ kind_of names k
bare-kind [] k = refl
bare-kind (info ∷ names) zero = refl
bare-kind (info ∷ names) (suc k) = bare-kind names k

pub bare-dims : (names : List NameInfo) (k : ℕ) → dims_of (without_places names) k ≡ dims_of names k
bare-dims [] k = refl
bare-dims (info ∷ names) zero = refl
bare-dims (info ∷ names) (suc k) = bare-dims names k

module _ (names : List NameInfo) where
  abbrev bare : List NameInfo
  bare = without_places names

  dims_same : (name : List ℕ) → dims_named bare name ≡ dims_named names name
  dims_same name = ap (dims_of bare) (bare-index names name) ∙ bare-dims names (index_of names name)

  kind_same : (name : List ℕ) → kind_named bare name ≡ kind_named names name
  kind_same name = ap (kind_of bare) (bare-index names name) ∙ bare-kind names (index_of names name)

  pub array_same : (name : List ℕ) → is_array_in bare name ≡ is_array_in names name
  array_same name = ap (λ dims. nat_lt 0 (length dims)) (dims_same name)

  call_same : (name : List ℕ) (count : ℕ) → kind_of_call bare name count ≡ kind_of_call names name count
  call_same name count =
      ap (λ b. if b then (if length (dims_named bare name) == count then Some (kind_named bare name) else None) else (if takes name count then Some Integer else None)) (array_same name)
      ∙ ap (λ dims. if is_array_in names name then (if length dims == count then Some (kind_named bare name) else None) else (if takes name count then Some Integer else None)) (dims_same name)
      ∙ ap (λ kind. if is_array_in names name then (if length (dims_named names name) == count then Some kind else None) else (if takes name count then Some Integer else None)) (kind_same name)

  mutual
    kinds_same : (e : RawExpr) → kind_in bare e ≡ kind_in names e
    kinds_same (Int z) = refl
    kinds_same (Truth b) = refl
    kinds_same (Named name) = ap (λ b. if b then None else Some (kind_named bare name)) (array_same name) ∙ ap (λ kind. if is_array_in names name then None else Some kind) (kind_same name)
    kinds_same (Call' name shape args) =
        ap (λ b. if b then kind_of_call bare name (count_of_row args) else None) (rows_same Integer args) ∙ ap (λ kind. if is_row_of names Integer args then kind else None) (call_same name (count_of_row args))
    kinds_same (Apply' op shape args) = ap (λ b. if b then Some (kind_of_op op) else None) (rows_same (operand_kind op) args)

    rows_same : {m : _} (kind : Kind) (row : Row_of-RawExpr m) → is_row_of bare kind row ≡ is_row_of names kind row
    rows_same kind end_of-RawExpr = refl
    rows_same kind (more_of-RawExpr e rest) = ap (λ found. is_kind kind found && is_row_of bare kind rest) (kinds_same e) ∙ ap (λ b. is_kind kind (kind_in names e) && b) (rows_same kind rest)

-- ---- kinds of flat statements

abbrev reads : Expr → Bool
reads (Read' k shape subs) = true
reads _ = false

-- a condition and the GO TO after it
guarded_kinds : (names : List NameInfo) (condition : RawExpr) (target : ℕ) → is_well_kinded names (ThenIf condition (GoTo target)) ≡ (is_of_kind names Logical condition && true)
unfolding Rattle.f77_tree.specs.declared.statements.Stmt.TheBlock.hidden-the_row-Stmt-0 denote.Hole.Carrier.hidden
guarded_kinds names condition target = refl

module _ (names : List NameInfo) (differ : NamesDiffer names) (free : HasNoPrintedArrays names) where
  pub kind_is : (e : Expr) → IsProper names e → kind_in (bare names) (raw_form names e) ≡ Some (kind_of_expression names e)
  kind_is e proper = kinds_same names (raw_form names e) ∙ printed_kind names differ free e proper

  of_kind : (kind : Kind) (e : Expr) → IsOfKind names kind e → is_of_kind (bare names) kind (raw_form names e) ≡ true
  of_kind kind e is = ap (is_kind kind) (kind_is e is.proper ∙ ap Some is.of_kind) ∙ same_kind kind

  -- what is assigned to is a variable or an element of an array
  access_is : (k : ℕ) (fs : List Form) → k < length names → length fs ≡ length (dims_of names k) → is_variable (bare names) (access_form (name_at names k) fs).alone ≡ true
  access_is k [] known len = refl
  access_is k (a ∷ more) known len =
      array_same names (name_at names k) ∙ ap (λ j. nat_lt 0 (length (dims_of names j))) (index-name names k differ known) ∙ ap (nat_lt 0) (sym len) ∙ lt-ltb 0 (length (a ∷ more)) (omega arith)

  variable_of : (e : Expr) → IsProper names e → reads e ≡ true → is_variable (bare names) (raw_form names e) ≡ true
  variable_of (Const z) proper is = absurd cc
  variable_of (IsTruth b) proper is = absurd cc
  variable_of Input proper is = absurd cc
  variable_of (Read' k shape subs) proper is = access_is k (row_forms names subs) proper.0 (row_count names differ free subs ∙ proper.1)
  variable_of (ApplyOf op shape args) proper is = absurd cc

  variable_is : (target : Access) → IsProper names (Read target) → is_variable (bare names) (raw_form names (Read target)) ≡ true
  variable_is target proper = variable_of (Read target) proper refl

  target_is : (target : Access) → IsProper names (Read target) → is_target (bare names) (raw_form names (Read target)) ≡ true
  target_is target proper =
      and_from (is_variable (bare names) (raw_form names (Read target))) (is_some (kind_in (bare names) (raw_form names (Read target)))) (variable_is target proper) (ap is_some (kind_is (Read target) proper))

  pub value_of : (target : Access) (value : Expr) → IsAssignment names target value → (words_taken value == 1) ≡ false → IsOfKind names (kind_of names target.name) value
  value_of target value is none =
      ⊎_elim
      (λ (of : IsOfKind names (kind_of names target.name) value). of)
      (λ (taken : value ≡ taken_as (kind_of names target.name)).
      let one : words_taken value ≡ 1 = ap words_taken taken ∙ taken-one (kind_of names target.name) in
      let e : true ≡ false = ap (λ n. n == 1) (sym one) ∙ none in
      absurd cc)
      is.of_kind

  assigned_is : (takes_data : Bool) (target : Access) (value : Expr) → IsAssignment names target value → (words_taken value == 1) ≡ takes_data → is_well_kinded (bare names) (assigned_form names takes_data target value) ≡ true
  assigned_is true target value is takes_data = and_from (is_target (bare names) (raw_form names (Read target))) true (target_is target is.access) refl
  assigned_is false target value is takes_data =
      let of = value_of target value is takes_data in
      let a = raw_form names (Read target) in
      let b = raw_form names value in
      let left : kind_in (bare names) a ≡ Some (kind_of names target.name) = kind_is (Read target) is.access in
      let variable = variable_is target is.access in
      and_from (is_variable (bare names) a) (is_kind_of_target (kind_in (bare names) a) (kind_in (bare names) b)) variable
      (ap (λ kind. is_kind_of_target kind (kind_in (bare names) b)) left ∙ of_kind (kind_of names target.name) value of)

  items_are : (items : List Item) → All (IsProperItem names) items → list_all (is_item (bare names)) (map (item_form names) items) ≡ true
  items_are [] all = refl
  items_are (Value e ∷ items) all =
      and_from (is_some (kind_in (bare names) (raw_form names e))) (list_all (is_item (bare names)) (map (item_form names) items)) (ap is_some (kind_is e (All-first (IsProperItem names) (Value e) items all))) (items_are items (All-rest (IsProperItem names) (Value e) items all))
  items_are (Chars text ∷ items) all = items_are items (All-rest (IsProperItem names) (Chars text) items all)

  step_is : (step : Expr) (one : Bool) → IsOfKind names Integer step → is_step (bare names) (cond one None (Some (raw_form names step))) ≡ true
  step_is step true of = refl
  step_is step false of = of_kind Integer step of

  loop_is : (end var : ℕ) (first last step : Expr) → IsDo names var (first ∷ last ∷ step ∷ []) → is_well_kinded (bare names) (read_form names (DoLoop end var first last step)) ≡ true
  loop_is end var first last step of =
      let integer = IsOfKind names Integer in
      let later = All-rest integer first (last ∷ step ∷ []) of.integers in
      let name = name_at names var in
      let at = index-name names var differ of.variable.known in
      let scalar : not (is_array_in (bare names) name) ≡ true = ap not (array_same names name ∙ ap (λ j. nat_lt 0 (length (dims_of names j))) at ∙ ap (λ dims. nat_lt 0 (length dims)) of.variable.scalar) in
      let kind : is_kind Integer (Some (kind_named (bare names) name)) ≡ true = ap (λ k. is_kind Integer (Some k)) (kind_same names name ∙ ap (kind_of names) at ∙ of.variable.integer) in
      let a = of_kind Integer first (All-first integer first (last ∷ step ∷ []) of.integers) in
      let b = of_kind Integer last (All-first integer last (step ∷ []) later) in
      let c = step_is step (is_one step) (All-first integer step [] (All-rest integer last (step ∷ []) later)) in
      and_from (not (is_array_in (bare names) name) && is_kind Integer (Some (kind_named (bare names) name)) && is_of_kind (bare names) Integer (raw_form names first) && is_of_kind (bare names) Integer (raw_form names last)) (is_step (bare names) (step_form names step))
      (and_from (not (is_array_in (bare names) name) && is_kind Integer (Some (kind_named (bare names) name)) && is_of_kind (bare names) Integer (raw_form names first)) (is_of_kind (bare names) Integer (raw_form names last))
      (and_from (not (is_array_in (bare names) name) && is_kind Integer (Some (kind_named (bare names) name))) (is_of_kind (bare names) Integer (raw_form names first)) (and_from (not (is_array_in (bare names) name)) (is_kind Integer (Some (kind_named (bare names) name))) scalar kind) a)
      b)
      c

  form_is_kinded : (stmt : Flat) → IsProperFlat names stmt → is_well_kinded (bare names) (read_form names stmt) ≡ true
  form_is_kinded Mark proper = refl
  form_is_kinded (Assignment target value) proper = assigned_is (words_taken value == 1) target value proper refl
  form_is_kinded (Output items) proper = items_are items proper
  form_is_kinded (LogicalIf condition target) proper = guarded_kinds (bare names) (raw_form names condition) target ∙ and_from (is_of_kind (bare names) Logical (raw_form names condition)) true (of_kind Logical condition proper) refl
  form_is_kinded (ArithmeticIf value below at above) proper = of_kind Integer value proper
  form_is_kinded (ComputedGoTo value targets) proper = of_kind Integer value proper.0
  form_is_kinded (DoLoop end var first last step) proper = loop_is end var first last step proper
  form_is_kinded (Jump target) proper = refl
  form_is_kinded Finish proper = refl

-- ---- kinds that are given

-- a statement gives no kind to a letter, nor does it say that letters have none
record GivesNoLetter (s : Stmt) : Type 0 where
  letters : implied_letters s ≡ []
  implicit : is_implicit s ≡ false

no_letters : (names : List NameInfo) → HoldsOfRead GivesNoLetter names
no_letters names = record {
  mark = record { letters = refl; implicit = refl };
  assigned = λ target value. record { letters = refl; implicit = refl };
  taken = λ target. record { letters = refl; implicit = refl };
  output = λ items. record { letters = refl; implicit = refl };
  guarded = λ condition target. record { letters = refl; implicit = refl };
  by_sign = λ value below at above. record { letters = refl; implicit = refl };
  picked = λ value targets. record { letters = refl; implicit = refl };
  loop = λ end var first last step. record { letters = refl; implicit = refl };
  jump = λ target. record { letters = refl; implicit = refl };
  finish = record { letters = refl; implicit = refl };
}

types_nothing : (names : List NameInfo) → HoldsOfRead (λ s. typed_names s ≡ []) names
types_nothing names = record {
  mark = refl;
  assigned = λ target value. refl;
  taken = λ target. refl;
  output = λ items. refl;
  guarded = λ condition target. refl;
  by_sign = λ value below at above. refl;
  picked = λ value targets. refl;
  loop = λ end var first last step. refl;
  jump = λ target. refl;
  finish = refl;
}

module _ (q : Program) (flat : List FlatLine) (given : CanBeText q flat) (free : HasNoPrintedArrays q.names) where
  abbrev stmts : List Labelled
  stmts = statements_read q flat

  abbrev TypesNone : WrittenStatement → Type 0
  TypesNone w = typed_names (statement_of w) ≡ []

  typed_of : (k : ℕ) (s : Labelled) → slice_get stmts k ≡ Some s → (typed_names s.stmt ≡ []) ⊎ TypesName q k s
  typed_of =
      named_or q flat (λ t. typed_names t ≡ [])
      (All-append TypesNone (commons q.commons) (map group_statement q.groups ++ map init_statement q.inits) (commons_each TypesNone q.commons (λ block. refl))
      (All-append TypesNone (map group_statement q.groups) (map init_statement q.inits) (mapped_each TypesNone group_statement q.groups (λ group. refl)) (mapped_each TypesNone init_statement q.inits (λ part. refl))))
      (λ place s is. ap typed_names is.stmt ∙ holds_of_read (λ t. typed_names t ≡ []) q.names (types_nothing q.names) is.l.stmt)

  abbrev typed_in : Labelled → List (List ℕ)
  typed_in a = typed_names a.stmt

  other_name : (j k : ℕ) (a : Labelled) (info : NameInfo) → j < k → slice_get q.names k ≡ Some info → slice_get stmts j ≡ Some a → list_any (bytes_eq info.name) (typed_in a) ≡ false
  other_name j k a info lt there is =
      ⊎_elim
      (λ (none : typed_names a.stmt ≡ []). ap (list_any (bytes_eq info.name)) none)
      (λ (typed : TypesName q j a).
      ap (λ t. list_any (bytes_eq info.name) (typed_names t)) typed.stmt
      ∙ ⊎_elim
      (λ (same : bytes_eq info.name typed.info.name ≡ true).
      let at : k ≡ j = given.declarations.differ k j info typed.info there typed.there (bytes_eq-same info.name typed.info.name same) in
      absurd (omega (arith, at, lt)))
      (λ (other : bytes_eq info.name typed.info.name ≡ false). ap (λ b. b || false) other)
      (cases_Bool (bytes_eq info.name typed.info.name)))
      (typed_of j a is)

  typed_once : (k : ℕ) (s : Labelled) → slice_get stmts k ≡ Some s → types_twice (take k stmts) s ≡ false
  typed_once k s is =
      ⊎_elim
      (λ (none : typed_names s.stmt ≡ []). ap (has_repeat bytes_eq (flat_map typed_in (take k stmts))) none)
      (λ (typed : TypesName q k s).
      ap (λ t. has_repeat bytes_eq (flat_map typed_in (take k stmts)) (typed_names t)) typed.stmt
      ∙ ap (λ b. b || false) (none_above_flat (bytes_eq typed.info.name) typed_in stmts k (λ j a lt there. other_name j k a typed.info lt typed.there there)))
      (typed_of k s is)

  gives_no_letter : (k : ℕ) (s : Labelled) → slice_get stmts k ≡ Some s → GivesNoLetter s.stmt
  gives_no_letter =
      each_statement q flat (λ s. GivesNoLetter s.stmt)
      (λ k s is. subst GivesNoLetter (sym is.stmt) (All-get (λ w. GivesNoLetter (statement_of w)) (declared q) k is.w
      (declared_each (λ w. GivesNoLetter (statement_of w)) q (λ block. record { letters = refl; implicit = refl }) (λ info. record { letters = refl; implicit = refl }) (λ group. record { letters = refl; implicit = refl }) (λ part. record { letters = refl; implicit = refl })) is.there))
      (λ place s is. subst GivesNoLetter (sym is.stmt) (holds_of_read GivesNoLetter q.names (no_letters q.names) is.l.stmt))

  well_kinded : (k : ℕ) (s : Labelled) → slice_get stmts k ≡ Some s → is_well_kinded (names_of stmts) s.stmt ≡ true
  well_kinded =
      each_statement q flat (λ s. is_well_kinded (names_of stmts) s.stmt ≡ true)
      (λ k s is. ap (is_well_kinded (names_of stmts)) is.stmt ∙ All-get (λ w. is_well_kinded (names_of stmts) (statement_of w) ≡ true) (declared q) k is.w
      (declared_each (λ w. is_well_kinded (names_of stmts) (statement_of w) ≡ true) q (λ block. refl) (λ info. refl) (λ group. refl) (λ part. refl)) is.there)
      (λ place s is.
      ap (λ names. is_well_kinded names s.stmt) (table_same q flat given free)
      ∙ ap (is_well_kinded (without_places q.names)) (is.stmt ∙ flat_form q flat given free place is.l is.there)
      ∙ form_is_kinded q.names given.declarations.differ free is.l.stmt (All-get (λ (l : FlatLine). IsProperFlat q.names l.stmt) flat place is.l given.proper is.there))

  pub none_wrong_type : first_line (has_wrong_type (names_of (statements_read q flat))) (statements_read q flat) ≡ None
  none_wrong_type =
      none_faulty (has_wrong_type (names_of stmts)) stmts (λ k s is.
      let above = take k stmts in
      let letters = gives_no_letter k s is in
      let kinded = not (is_well_kinded (names_of stmts) s.stmt) in
      ap (λ b. b || implies_twice above s || is_beside_none above s || kinded) (typed_once k s is)
      ∙ ap (λ ls. has_repeat (λ a b. a == b) (flat_map (λ (t : Labelled). implied_letters t.stmt) above) ls || is_beside_none above s || kinded) letters.letters
      ∙ ap (λ b. (b && list_any (λ (t : Labelled). is_implicit t.stmt && (is_implicit_none t.stmt || is_implicit_none s.stmt)) above) || kinded) letters.implicit
      ∙ ap not (well_kinded k s is))
