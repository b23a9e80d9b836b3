-- What is gathered from the statements of a printed program: first from its declarations, the names first, and then from its flat
-- statements.
use Rattle.std.proofs.Common.{◌≡◌, ℕ, ◌+◌, Bool, true, false, cond, List, [], ◌∷◌, ◌++◌, length, map, refl, sym, ap, ◌∙◌, subst, append_assoc, Option, Some, None}
use Rattle.std.specs.Prelude.{All, flat_map, slice_get}
use Rattle.std.specs.List.{range_with_len}
use Rattle.std.proofs.lemmas.List.{map-append}
use Rattle.std.proofs.lemmas.List.Concat.{flat_map-append}
use Rattle.std.proofs.lemmas.List.Elements.{All-append}
use Rattle.f77_tree.specs.declared.expressions.Access.{Access}
use Rattle.f77_tree.specs.declared.expressions.Expr.{Expr}
use Rattle.f77_tree.specs.declared.expressions.Expr.TheVariants.{Read}
use Rattle.f77_tree.specs.declared.programs.Item.{Item}
use Rattle.f77_tree.specs.declared.programs.NameInfo.{NameInfo}
use Rattle.f77_tree.specs.declared.programs.Program.{Program}
use Rattle.f77_tree.specs.declared.statements.Labelled.{Labelled}
use Rattle.f77_tree.specs.declared.statements.Stmt.{Stmt}
use Rattle.f77_tree.specs.StatementGrammar.{WrittenStatement, Print_star, Read_star, statement_of}
use Rattle.f77_tree.proofs.AllLemmas.{All-nil, All-first, All-rest}
use Rattle.layout_rules.specs.Faults.{first_answer, answer_or}
use Rattle.flat_programs.specs.declared.statements.Flat.{Flat}
use Rattle.flat_programs.specs.declared.statements.Flat.TheVariants.{Mark, Assignment, Output, LogicalIf, ArithmeticIf, ComputedGoTo, DoLoop, Jump, Finish}
use Rattle.flat_programs.specs.declared.statements.FlatLine.{FlatLine}
use Rattle.flat_programs.specs.Declarations.{typed_name, commons, group_statement, init_statement}
use Rattle.flat_programs.specs.Lines.{line_count}
use Rattle.flat_programs.specs.Shown.{written, written_item, shown}
use Rattle.flat_programs.specs.Typeset.{typeset}
use Rattle.read_back.specs.PrintedStatements.{LabelledStatement, declaration, written_in, written_at, written_statements, labelled_from}
use Rattle.read_back.specs.SourceStatements.{statements_read}
use Rattle.std.proofs.lemmas.Grind.{elements}
use Rattle.std.proofs.Common.{arith}

-- ---- without lines

abbrev pub read_stmt : LabelledStatement → Stmt
read_stmt s = statement_of s.written

parts-labelled : {X : Type 0} (f : Stmt → List X) (line : ℕ) (ss : List LabelledStatement) → flat_map (λ (s : Labelled). f s.stmt) (labelled_from line ss) ≡ flat_map (λ s. f (read_stmt s)) ss
parts-labelled f line [] = refl
parts-labelled f line (s ∷ ss) = ap (λ xs. f (read_stmt s) ++ xs) (parts-labelled f (line + line_count (typeset s.written)) ss)

answers-labelled : {X : Type 0} (f : Stmt → Option X) (line : ℕ) (ss : List LabelledStatement) → first_answer (λ (s : Labelled). f s.stmt) (labelled_from line ss) ≡ first_answer (λ s. f (read_stmt s)) ss
answers-labelled f line [] = refl
answers-labelled f line (s ∷ ss) = ap (answer_or (f (read_stmt s))) (answers-labelled f (line + line_count (typeset s.written)) ss)

-- ---- names first

abbrev pub after_names : Program → List FlatLine → List LabelledStatement
after_names q flat = map declaration (commons q.commons) ++ (map declaration (map group_statement q.groups) ++ (map declaration (map init_statement q.inits) ++ flat_map (written_at q.names flat) (range_with_len 0 (length flat))))

names_first : (q : Program) (flat : List FlatLine) → written_statements q flat ≡ map declaration (map typed_name q.names) ++ after_names q flat
names_first q flat = grind (arith, map-append declaration, append_assoc)

pub parts_of_all : {X : Type 0} (f : Stmt → List X) (q : Program) (flat : List FlatLine) → flat_map (λ (s : Labelled). f s.stmt) (statements_read q flat) ≡ flat_map (λ s. f (read_stmt s)) (map declaration (map typed_name q.names) ++ after_names q flat)
parts_of_all f q flat = parts-labelled f 1 (written_statements q flat) ∙ ap (flat_map (λ s. f (read_stmt s))) (names_first q flat)

pub answers_of_all : {X : Type 0} (f : Stmt → Option X) (q : Program) (flat : List FlatLine) → first_answer (λ (s : Labelled). f s.stmt) (statements_read q flat) ≡ first_answer (λ s. f (read_stmt s)) (map declaration (map typed_name q.names) ++ after_names q flat)
answers_of_all f q flat = answers-labelled f 1 (written_statements q flat) ∙ ap (first_answer (λ s. f (read_stmt s))) (names_first q flat)

-- ---- flat statements

-- what holds of the statements that flat ones are read as
pub record HoldsOfRead (P : Stmt → Type 0) (names : List NameInfo) : Type 0 where
  pub mark : P (statement_of WrittenStatement.continue)
  pub assigned : (target : Access) (value : Expr) → P (statement_of (WrittenStatement.assignment (written names (Read target)) (written names value)))
  pub taken : (target : Access) → P (statement_of (WrittenStatement.read Read_star (written names (Read target) ∷ [])))
  pub output : (items : List Item) → P (statement_of (WrittenStatement.print Print_star (map (written_item names) items)))
  pub guarded : (condition : Expr) (target : ℕ) → P (statement_of (shown names (LogicalIf condition target)))
  pub by_sign : (value : Expr) (below at above : ℕ) → P (statement_of (shown names (ArithmeticIf value below at above)))
  pub picked : (value : Expr) (targets : List ℕ) → P (statement_of (shown names (ComputedGoTo value targets)))
  pub loop : (end var : ℕ) (first last step : Expr) → P (statement_of (shown names (DoLoop end var first last step)))
  pub jump : (target : ℕ) → P (statement_of (shown names (Jump target)))
  pub finish : P (statement_of WrittenStatement.end)

either : (P : Stmt → Type 0) (b : Bool) (v w : WrittenStatement) → P (statement_of v) → P (statement_of w) → P (statement_of (cond b v w))
either P true v w a c = a
either P false v w a c = c

pub holds_of_read : (P : Stmt → Type 0) (names : List NameInfo) → HoldsOfRead P names → (stmt : Flat) → P (statement_of (shown names stmt))
holds_of_read P names h Mark = h.mark
holds_of_read P names h (Assignment target value) = grind (arith, elements, either, h.taken target, h.assigned target value)
holds_of_read P names h (Output items) = h.output items
holds_of_read P names h (LogicalIf condition target) = h.guarded condition target
holds_of_read P names h (ArithmeticIf value below at above) = h.by_sign value below at above
holds_of_read P names h (ComputedGoTo value targets) = h.picked value targets
holds_of_read P names h (DoLoop end var first last step) = h.loop end var first last step
holds_of_read P names h (Jump target) = h.jump target
holds_of_read P names h Finish = h.finish

-- ---- what holds of all parts

module _ {X : Type 0} (P : X → Type 0) (f : Stmt → List X) where
  abbrev gathered : List LabelledStatement → List X
  gathered ss = flat_map (λ s. f (read_stmt s)) ss

  both : (ss ts : List LabelledStatement) → All P (gathered ss) → All P (gathered ts) → All P (gathered (ss ++ ts))
  both ss ts a b = subst (All P) (sym (flat_map-append (λ s. f (read_stmt s)) ss ts)) (All-append P (gathered ss) (gathered ts) a b)

  each_declared : (ws : List WrittenStatement) → All (λ w. All P (f (statement_of w))) ws → All P (gathered (map declaration ws))
  each_declared [] all = All-nil P
  each_declared (w ∷ ws) all =
      All-append P (f (statement_of w)) (gathered (map declaration ws)) (All-first (λ v. All P (f (statement_of v))) w ws all) (each_declared ws (All-rest (λ v. All P (f (statement_of v))) w ws all))

  each_mapped : {Y : Type 0} (g : Y → WrittenStatement) (ys : List Y) → All (λ y. All P (f (statement_of (g y)))) ys → All P (gathered (map declaration (map g ys)))
  each_mapped g [] all = All-nil P
  each_mapped g (y ∷ ys) all =
      All-append P (f (statement_of (g y))) (gathered (map declaration (map g ys))) (All-first (λ z. All P (f (statement_of (g z)))) y ys all) (each_mapped g ys (All-rest (λ z. All P (f (statement_of (g z)))) y ys all))

  module _ (names : List NameInfo) (flat : List FlatLine) (each : (place : ℕ) (l : FlatLine) → slice_get flat place ≡ Some l → All P (f (statement_of (shown names l.stmt)))) where
    each_in : (place : ℕ) (l : Option FlatLine) → slice_get flat place ≡ l → All P (gathered (written_in names flat place l))
    each_in place None is = All-nil P
    each_in place (Some l) is = All-append P (f (statement_of (shown names l.stmt))) [] (each place l is) (All-nil P)

    each_from : (places : List ℕ) → All P (gathered (flat_map (written_at names flat) places))
    each_from [] = All-nil P
    each_from (place ∷ places) = both (written_at names flat place) (flat_map (written_at names flat) places) (each_in place (slice_get flat place) refl) (each_from places)

  -- all that comes after the names
  pub after_each : (q : Program) (flat : List FlatLine) → All (λ w. All P (f (statement_of w))) (commons q.commons) → All (λ group. All P (f (statement_of (group_statement group)))) q.groups → All (λ part. All P (f (statement_of (init_statement part)))) q.inits → ((place : ℕ) (l : FlatLine) → slice_get flat place ≡ Some l → All P (f (statement_of (shown q.names l.stmt)))) → All P (flat_map (λ s. f (read_stmt s)) (after_names q flat))
  after_each q flat blocks groups inits each = search (both, each_declared, each_mapped, each_from, arith)
