-- Whatever a text comes to has operators of the plain dialect alone: statements of the grammar, and their copies.
use Rattle.std.proofs.Common.{◌≡◌, ℕ, zero, suc, Bool, true, false, if◌then◌else◌, List, [], ◌∷◌, ◌++◌, map, get_or, All, Option, Some, None, Ok, subst}
use Rattle.std.specs.Prelude.{Result, flat_map, filter}
use Rattle.std.proofs.lemmas.List.Elements.{All-map}
use Rattle.f77_tree.specs.declared.statements.Labelled.{Labelled}
use Rattle.f77_tree.specs.declared.statements.RawExpr.{RawExpr}
use Rattle.f77_tree.specs.declared.statements.RawItem.{RawItem}
use Rattle.f77_tree.specs.declared.statements.RawItem.TheVariants.{Value, Chars}
use Rattle.f77_tree.specs.declared.statements.Stmt.{Stmt, more_of-Stmt}
use Rattle.f77_tree.specs.declared.statements.Stmt.TheVariants.{Assign, Print, Take, PickGoTo, SignIf, ThenIf', BlockIf, ElseIf, Do, Equivalence, Init}
use Rattle.f77_tree.specs.Grammar.{Written, reading}
use Rattle.f77_tree.specs.StatementGrammar.{WrittenStatement, WrittenItem, IsStatement, IsItem, IsVariable, IsStep, item_of, step_of, statement_of}
use Rattle.program_units.specs.declared.sub_end.SubEnd.{SubEnd}
use Rattle.program_units.specs.Copies.{Change, changed, changed_item, changed_step, changed_stmt, changes, Context, number_at}
use Rattle.program_units.specs.declared.entity.Entity.{Entity}
use Rattle.program_units.specs.Entities.{stands_for}
use Rattle.program_units.specs.Expansion.{blocks, common_of, data_for, is_running, merged, equivalence_for, type_of, units_but_main, whole_list}
use Rattle.program_units.specs.Names.{y_entities}
use Rattle.program_units.specs.Merged.{is_merged}
use Rattle.program_units.specs.Refusals.{expansion, list_unless, unit_refusal}
use Rattle.program_units.specs.Units.{guard_of, in_first, is_end, unit_at, unit_of, units}
use Rattle.expanded_sources.proofs.HeldPieces.{Holds, IsInUnit, Whole, all-come, list-holds, whole-append, whole-each, whole-flat, whole-map}
use Rattle.f77_source.specs.Listed.{is_one_unit, listed}
use Rattle.layout_rules.specs.Layout.{last_line}
use Rattle.read_dialects.proofs.PlainOperators.{IsPlain, IsPlainItem, IsPlainStep, IsPlainStmt, written-plain, changed-plain}

-- ---- statements of the grammar

item-plain : (item : WrittenItem) → IsItem item → IsPlainItem (item_of item)
item-plain (WrittenItem.Expression w) is = written-plain w is
item-plain (WrittenItem.Characters characters) is = tt

items-plain : (items : List WrittenItem) → All IsItem items → All IsPlainItem (map item_of items)
items-plain items are = All-map IsPlainItem item_of items (λ k d less. item-plain (get_or items k d) (are k d less))

targets-plain : (targets : List Written) → All IsVariable targets → All IsPlain (map reading targets)
targets-plain targets are = All-map IsPlain reading targets (λ k d less. written-plain (get_or targets k d) (are k d less).grammatical)

step-plain : (step : Option Written) → IsStep step → IsPlainStep (step_of step)
step-plain None is = tt
step-plain (Some w) is = written-plain w is

pub statement-plain : (s : WrittenStatement) → IsStatement s → IsPlainStmt (statement_of s)
unfolding Rattle.f77_tree.specs.declared.statements.Stmt.TheBlock.hidden-the_row-Stmt-0 denote.Hole.Carrier.hidden
statement-plain (WrittenStatement.assignment target value) is = (written-plain target is.0.grammatical, written-plain value is.1)
statement-plain (WrittenStatement.print form items) is = items-plain items is
statement-plain (WrittenStatement.read form targets) is = targets-plain targets is.1
statement-plain (WrittenStatement.computed_go_to targets comma w) is = written-plain w is.2
statement-plain (WrittenStatement.arithmetic_if w below none above) is = written-plain w is.0
statement-plain (WrittenStatement.logical_if w s) is = (written-plain w is.0, statement-plain s is.1)
statement-plain (WrittenStatement.block_if w) is = written-plain w is
statement-plain (WrittenStatement.else_if w) is = written-plain w is
statement-plain (WrittenStatement.do_loop label comma variable first last step) is = (written-plain first is.2, written-plain last is.3, step-plain step is.4)
statement-plain _ is = tt

-- ---- changed statements

module _ (c : Change) where
  changed_item-plain : (item : RawItem) → IsPlainItem item → IsPlainItem (changed_item c item)
  changed_item-plain (Value e) is = changed-plain c e is
  changed_item-plain (Chars text) is = tt

  changed_items-plain : (items : List RawItem) → All IsPlainItem items → All IsPlainItem (map (changed_item c) items)
  changed_items-plain items are = All-map IsPlainItem (changed_item c) items (λ k d less. changed_item-plain (get_or items k d) (are k d less))

  changed_targets-plain : (targets : List RawExpr) → All IsPlain targets → All IsPlain (map (changed c) targets)
  changed_targets-plain targets are = All-map IsPlain (changed c) targets (λ k d less. changed-plain c (get_or targets k d) (are k d less))

  changed_step-plain : (step : Option RawExpr) → IsPlainStep step → IsPlainStep (changed_step c step)
  changed_step-plain None is = tt
  changed_step-plain (Some e) is = changed-plain c e is

  changed_stmt-plain : (s : Stmt) → IsPlainStmt s → IsPlainStmt (changed_stmt c s)
  unfolding Rattle.f77_tree.specs.declared.statements.Stmt.TheBlock.hidden-the_row-Stmt-0 denote.Hole.Carrier.hidden
  changed_stmt-plain (Assign target value) is = (changed-plain c target is.0, changed-plain c value is.1)
  changed_stmt-plain (Print items) is = changed_items-plain items is
  changed_stmt-plain (Take targets) is = changed_targets-plain targets is
  changed_stmt-plain (PickGoTo targets e) is = changed-plain c e is
  changed_stmt-plain (SignIf e below none above) is = changed-plain c e is
  changed_stmt-plain (ThenIf' condition shape (more_of-Stmt stmt rest)) is = (changed-plain c condition is.0, changed_stmt-plain stmt is.1)
  changed_stmt-plain (BlockIf e) is = changed-plain c e is
  changed_stmt-plain (ElseIf e) is = changed-plain c e is
  changed_stmt-plain (Do label variable first last step) is = (changed-plain c first is.0, changed-plain c last is.1, changed_step-plain step is.2)
  changed_stmt-plain _ is = tt

guard-plain : (s : Stmt) → IsPlainStmt s → IsPlainStep (guard_of s)
guard-plain (ThenIf' condition shape (more_of-Stmt stmt rest)) is = is.0
guard-plain _ is = tt

-- ---- lists and units

abbrev pub ArePlainLines : List Labelled → Type 0
ArePlainLines list = Whole IsPlainStmt list

abbrev ArePlainUnits : List (List Labelled) → Type 0
ArePlainUnits [] = Unit {0}
ArePlainUnits (u ∷ us) = ArePlainLines u × ArePlainUnits us

in_first-plain : (s : Labelled) (us : List (List Labelled)) → IsPlainStmt s.stmt → ArePlainUnits us → ArePlainUnits (in_first s us)
in_first-plain s [] is are = ((is, tt), tt)
in_first-plain s (u ∷ us) is are = ((is, are.0), are.1)

units-plain : (stmts : List Labelled) → ArePlainLines stmts → ArePlainUnits (units stmts)
units-plain [] are = tt
units-plain (s ∷ rest) are = by (is_end s.stmt) (units-plain rest are.1)
  where
    by : (b : Bool) → ArePlainUnits (units rest) → ArePlainUnits (if b then (s ∷ []) ∷ units rest else in_first s (units rest))
    by true more = ((are.0, tt), more)
    by false more = in_first-plain s (units rest) are.0 more

unit-plain : (us : List (List Labelled)) (k : ℕ) → ArePlainUnits us → ArePlainLines (unit_at us k)
unit-plain [] k are = tt
unit-plain (u ∷ us) zero are = are.0
unit-plain (u ∷ us) (suc k) are = unit-plain us k are.1

module _ (us : List (List Labelled)) (are : ArePlainUnits us) where
  -- ---- copies

  inside-plain : (k : ℕ) (s : Labelled) → IsInUnit us k s → IsPlainStmt s.stmt
  inside-plain k s inside = whole-each IsPlainStmt (unit_at us k) (unit-plain us k are) inside.place s inside.here

  abbrev AnyContext : Context → Type 0
  AnyContext c = Unit {0}

  copied : Holds us IsPlainStmt AnyContext
  copied = record {
    labels_too = tt;
    ends = tt;
    statements = λ c s can inside kept alone. changed_stmt-plain (changes us c) s.stmt (inside-plain c.unit s inside);
    heads = λ c s condition can inside is. changed-plain (changes us c) condition (subst IsPlainStep is (guard-plain s.stmt (inside-plain c.unit s inside)));
    calls = λ c place s call can here kept is. all-come AnyContext (λ d. tt) c.depth (unit_of us call.name) (map (stands_for us c.unit c.arguments) call.arguments) (number_at us c.depth c.unit c.base place);
  }

  -- ---- what is merged

  -- what is made of statements of declarations is one line each, or none
  ties-plain : (k : ℕ) (s : Labelled) → ArePlainLines (equivalence_for us k s)
  ties-plain k s = by s.stmt
    where
      by : (stmt : Stmt) → ArePlainLines (equivalence_for us k (record s { stmt = stmt }))
      by (Equivalence groups) = (tt, tt)
      by _ = tt

  datas-plain : (k : ℕ) (s : Labelled) → ArePlainLines (data_for us k s)
  datas-plain k s = by s.stmt
    where
      by : (stmt : Stmt) → ArePlainLines (data_for us k (record s { stmt = stmt }))
      by (Init parts) = (tt, tt)
      by _ = tt

  -- what is made of each statement of the units that run
  abbrev from_units : (ℕ → Labelled → List Labelled) → List Labelled
  from_units f = flat_map (λ k. flat_map (f k) (unit_at us k)) (units_but_main us)

  from_units-plain : (f : ℕ → Labelled → List Labelled) → ((k : ℕ) (s : Labelled) → ArePlainLines (f k s)) → ArePlainLines (from_units f)
  from_units-plain f each = whole-flat IsPlainStmt (λ k. flat_map (f k) (unit_at us k)) (λ k. whole-flat IsPlainStmt (f k) (each k) (unit_at us k)) (units_but_main us)

  merged-plain : ArePlainLines (merged us)
  merged-plain =
      let line : ℕ = last_line (unit_at us 0) in
      let types : List Entity = filter (is_running us) (y_entities us) in
      let commons : List (Option (List ℕ)) = filter (is_merged us) (blocks us) in
      let declared : List Labelled = map (type_of us line) types ++ map (common_of us line) commons in
      whole-append IsPlainStmt (declared ++ from_units (equivalence_for us)) (from_units (data_for us))
      (whole-append IsPlainStmt declared (from_units (equivalence_for us))
      (whole-append IsPlainStmt (map (type_of us line) types) (map (common_of us line) commons) (whole-map IsPlainStmt (type_of us line) (λ e. tt) types) (whole-map IsPlainStmt (common_of us line) (λ b. tt) commons))
      (from_units-plain (equivalence_for us) ties-plain))
      (from_units-plain (data_for us) datas-plain)

  pub whole-plain : ArePlainLines (whole_list us)
  whole-plain = list-holds us IsPlainStmt AnyContext copied tt merged-plain

-- ---- what a text comes to

pub listed-plain : (stmts list : List Labelled) (checked : Bool) → ArePlainLines stmts → listed stmts checked ≡ Ok list → ArePlainLines list
listed-plain stmts list checked are is = by (is_one_unit stmts) is
  where
    unless : (refused : Option SubEnd) → list_unless refused (whole_list (units stmts)) ≡ Ok list → ArePlainLines list
    unless None e = let same : whole_list (units stmts) ≡ list = cc in subst ArePlainLines same (whole-plain (units stmts) (units-plain stmts are))
    unless (Some end) e = absurd cc

    by : (one : Bool) → if◌then◌else◌ {A = Result (List Labelled) SubEnd} one (Ok stmts) (expansion stmts checked) ≡ Ok list → ArePlainLines list
    by true e = let same : stmts ≡ list = cc in subst ArePlainLines same are
    by false e = unless (unit_refusal stmts checked) e
