-- The statements of the shared form of a flat program are of the dialect of the program.
use Rattle.std.proofs.Common.{◌≡◌, ℕ, Bool, true, false, List, [], ◌∷◌, length, map, All, Option, Some, None, refl}
use Rattle.std.specs.Prelude.{if◌then◌else◌, slice_get}
use Rattle.std.specs.List.{range_with_len}
use Rattle.std.proofs.lemmas.List.Elements.{All-append, All-contains}
use Rattle.f77_tree.specs.declared.expressions.Access.{Access}
use Rattle.f77_tree.specs.declared.expressions.Expr.{Expr, Row_of-Expr, end_of-Expr, more_of-Expr}
use Rattle.f77_tree.specs.declared.expressions.Expr.TheVariants.{Const, Truth, Input, Read, Read', Apply, Apply'}
use Rattle.f77_tree.specs.declared.programs.ExecKind.{ExecKind}
use Rattle.f77_tree.specs.declared.programs.ExecKind.TheVariants.{Assign, Print, Pass as Passing, Test, Sign, Pick, DoStart, DoNext, End as Ending}
use Rattle.f77_tree.specs.declared.programs.Item.{Item}
use Rattle.f77_tree.specs.declared.programs.Item.TheVariants.{Value, Chars}
use Rattle.f77_tree.specs.declared.programs.Program.{Program}
use Rattle.f77_tree.specs.Dialects.{HasDialect, HaveDialect, ItemHasDialect, ExecHasDialect, IsOfDialect}
use Rattle.f77_tree.proofs.AllLemmas.{All-nil, All-cons, All-get}
use Rattle.f77_tree.proofs.DialectLaws.{Apply-dialect, Read-dialect}
use Rattle.cfg_build.specs.declared.pieces.Piece.{Piece}
use Rattle.cfg_build.specs.declared.pieces.PieceKind.{PieceKind}
use Rattle.cfg_build.specs.declared.pieces.PieceKind.TheVariants.{Start, Join, Act, Pass, Branch, Hold, End}
use Rattle.cfg_build.specs.Joined.{FlowGraph}
use Rattle.flat_programs.specs.declared.statements.Flat.{Flat}
use Rattle.flat_programs.specs.declared.statements.Flat.TheVariants.{Mark, Assignment, Output, LogicalIf, ArithmeticIf, ComputedGoTo, DoLoop, Jump, Finish}
use Rattle.flat_programs.specs.declared.statements.FlatLine.{FlatLine}
use Rattle.flat_programs.specs.Executables.{first_of}
use Rattle.redundancy.specs.Available.{Availability}
use Rattle.redundancy.specs.Candidates.{subexpressions, row_subexpressions}
use Rattle.redundancy.specs.Computed.{all_computed, computed_by, evaluated, expressions, in_item, kind_of_piece, selectors, AreCandidates}
use Rattle.shared_forms.specs.Shared.{due, expression_in, is_shared, kept_value, replaced, replaced_in, replaced_item, row_replaced, scalar, shared_flat, shared_lines, temporary, temporary_or}
use Rattle.rewritten_texts.proofs.FlatDialects.{FlatHasDialect, LineHasDialect}
use Rattle.rewritten_texts.proofs.FoldedDialects.{all-flat_map, all-map, all-one}
use Rattle.rewritten_texts.proofs.SimplifiedDialects.{Anything, anything, at-dialect}

-- ---- what pieces compute

module _ (checked : Bool) where
  abbrev Has : Expr → Type 0
  Has e = HasDialect checked e

  mutual
    parts-dialect : (e : Expr) → HasDialect checked e → All Has (subexpressions e)
    parts-dialect (Const z) has = all-one Has (Const z) tt
    parts-dialect (Truth b) has = all-one Has (Truth b) tt
    parts-dialect Input has = all-one Has Input tt
    parts-dialect (Read' name shape subs) has = All-append Has (row_subexpressions subs) (Read' name shape subs ∷ []) (row_parts-dialect _ subs has) (all-one Has (Read' name shape subs) has)
    parts-dialect (Apply' op shape args) has = All-append Has (row_subexpressions args) (Apply' op shape args ∷ []) (row_parts-dialect _ args has.1) (all-one Has (Apply' op shape args) has)

    row_parts-dialect : (m : _) (row : Row_of-Expr m) → HaveDialect checked row → All Has (row_subexpressions row)
    row_parts-dialect m end_of-Expr have = All-nil Has
    row_parts-dialect m (more_of-Expr e rest) have = All-append Has (subexpressions e) (row_subexpressions rest) (parts-dialect e have.0) (row_parts-dialect _ rest have.1)

  in_item-dialect : (item : Item) → ItemHasDialect checked item → All Has (in_item item)
  in_item-dialect (Value e) has = all-one Has e has
  in_item-dialect (Chars text) has = All-nil Has

  expressions-dialect : (kind : ExecKind) → ExecHasDialect checked kind → All Has (expressions kind)
  expressions-dialect (Assign target value next) has = All-append Has target.subs (value ∷ []) has.0 (all-one Has value has.1)
  expressions-dialect (Print items next) has = all-flat_map (ItemHasDialect checked) Has in_item items in_item-dialect has
  expressions-dialect (Passing next) has = All-nil Has
  expressions-dialect (Test cond if_true if_false) has = all-one Has cond has
  expressions-dialect (Sign value below at above) has = all-one Has value has
  expressions-dialect (Pick value targets other) has = all-one Has value has
  expressions-dialect (DoStart loop_no var first last step body exit) has = All-cons Has first (last ∷ step ∷ []) has.0 (All-cons Has last (step ∷ []) has.1 (all-one Has step has.2))
  expressions-dialect (DoNext loop_no var body exit) has = All-nil Has
  expressions-dialect Ending has = All-nil Has

  selectors-dialect : (kind : ExecKind) → ExecHasDialect checked kind → All Has (selectors kind)
  selectors-dialect (Assign target value next) has = expressions-dialect (Assign target value next) has
  selectors-dialect (Print items next) has = expressions-dialect (Print items next) has
  selectors-dialect (Passing next) has = All-nil Has
  selectors-dialect (Test cond if_true if_false) has = all-one Has cond has
  selectors-dialect (Sign value below at above) has = all-one Has value has
  selectors-dialect (Pick value targets other) has = all-one Has value has
  selectors-dialect (DoStart loop_no var first last step body exit) has = All-nil Has
  selectors-dialect (DoNext loop_no var body exit) has = All-nil Has
  selectors-dialect Ending has = All-nil Has

  evaluated-dialect : (piece : PieceKind) (kind : ExecKind) → ExecHasDialect checked kind → All Has (evaluated piece kind)
  evaluated-dialect Act kind has = expressions-dialect kind has
  evaluated-dialect Branch kind has = selectors-dialect kind has
  evaluated-dialect Start kind has = All-nil Has
  evaluated-dialect Join kind has = All-nil Has
  evaluated-dialect Pass kind has = All-nil Has
  evaluated-dialect Hold kind has = All-nil Has
  evaluated-dialect End kind has = All-nil Has

  module _ (q : Program) (f : FlowGraph) (all : IsOfDialect checked q) where
    computed-dialect : (piece : Piece) → All Has (computed_by q.execs piece)
    computed-dialect piece =
        let kind = kind_of_piece q.execs piece in
        all-flat_map Has Has subexpressions (evaluated piece.kind kind) parts-dialect (evaluated-dialect piece.kind kind (at-dialect checked q.execs piece.exec all))

    all_computed-dialect : All Has (all_computed q.execs f)
    all_computed-dialect = all-flat_map Anything Has (computed_by q.execs) f.pieces (λ piece h. computed-dialect piece) (anything f.pieces)

    pub candidates-dialect : (candidates : List Expr) → AreCandidates q f candidates → (k : ℕ) (e : Expr) → slice_get candidates k ≡ Some e → HasDialect checked e
    candidates-dialect candidates are k e at = All-contains Has (all_computed q.execs f) e all_computed-dialect (are.sound k e at).1

-- ---- statements

module _ (checked : Bool) (q : Program) (a : Availability) (number : Expr → Option ℕ) (each : (k : ℕ) (e : Expr) → slice_get a.candidates k ≡ Some e → HasDialect checked e) where
  scalar-dialect : (name : ℕ) → HasDialect checked (Read (scalar q a number name))
  scalar-dialect name = (Read-dialect checked (scalar q a number name)).1 (All-nil (HasDialect checked))

  shared_or-dialect : (b : Bool) (name : ℕ) (e : Expr) → HasDialect checked e → HasDialect checked (if b then Read (scalar q a number name) else e)
  shared_or-dialect true name e has = scalar-dialect name
  shared_or-dialect false name e has = has

  temporary_or-dialect : (told : Option ℕ) (e : Expr) → HasDialect checked e → HasDialect checked (temporary_or q a number told e)
  temporary_or-dialect None e has = has
  temporary_or-dialect (Some n) e has = shared_or-dialect (is_shared q a number n) (temporary q a number n) e has

  mutual
    replaced-dialect : (e : Expr) → HasDialect checked e → HasDialect checked (replaced q a number e)
    replaced-dialect (Const z) has = tt
    replaced-dialect (Truth b) has = tt
    replaced-dialect Input has = tt
    replaced-dialect (Read' name shape subs) has =
        let access : Access = record { name = name; subs = row_replaced q a number subs } in
        (Read-dialect checked access).1 (row_replaced-dialect _ subs has)
    replaced-dialect (Apply' op shape args) has =
        let es = row_replaced q a number args in
        temporary_or-dialect (number (Apply' op shape args)) (Apply op es) ((Apply-dialect checked op es).1 (has.0, row_replaced-dialect _ args has.1))

    row_replaced-dialect : (m : _) (row : Row_of-Expr m) → HaveDialect checked row → All (HasDialect checked) (row_replaced q a number row)
    row_replaced-dialect m end_of-Expr have = All-nil (HasDialect checked)
    row_replaced-dialect m (more_of-Expr e rest) have = All-cons (HasDialect checked) (replaced q a number e) (row_replaced q a number rest) (replaced-dialect e have.0) (row_replaced-dialect _ rest have.1)

  replaced_item-dialect : (item : Item) → ItemHasDialect checked item → ItemHasDialect checked (replaced_item q a number item)
  replaced_item-dialect (Value e) has = replaced-dialect e has
  replaced_item-dialect (Chars text) has = tt

  statement-dialect : (stmt : Flat) → FlatHasDialect checked stmt → FlatHasDialect checked (replaced_in q a number stmt)
  statement-dialect Mark has = tt
  statement-dialect (Assignment target value) has = (all-map (HasDialect checked) (HasDialect checked) (replaced q a number) target.subs replaced-dialect has.0, replaced-dialect value has.1)
  statement-dialect (Output items) has = all-map (ItemHasDialect checked) (ItemHasDialect checked) (replaced_item q a number) items replaced_item-dialect has
  statement-dialect (LogicalIf cond target) has = replaced-dialect cond has
  statement-dialect (ArithmeticIf value below at above) has = replaced-dialect value has
  statement-dialect (ComputedGoTo value targets) has = replaced-dialect value has
  statement-dialect (DoLoop end var first last step) has = (replaced-dialect first has.0, replaced-dialect last has.1, replaced-dialect step has.2)
  statement-dialect (Jump target) has = tt
  statement-dialect Finish has = tt

  expression_in-dialect : (o : Option Expr) → ((e : Expr) → o ≡ Some e → HasDialect checked e) → HasDialect checked (expression_in o)
  expression_in-dialect None told = tt
  expression_in-dialect (Some e) told = told e refl

  kept_value-dialect : (line n : ℕ) → LineHasDialect checked (kept_value q a number line n)
  kept_value-dialect line n = (All-nil (HasDialect checked), expression_in-dialect (slice_get a.candidates n) (λ e at. each n e at))

  shared_lines-dialect : (first : ℕ) (o : Option FlatLine) → ((l : FlatLine) → o ≡ Some l → LineHasDialect checked l) → All (LineHasDialect checked) (shared_lines q a number first o)
  shared_lines-dialect first None told = All-nil (LineHasDialect checked)
  shared_lines-dialect first (Some l) told =
      let ns = due q a number first in
      let last : FlatLine = record { line = l.line; stmt = replaced_in q a number l.stmt } in
      All-append (LineHasDialect checked) (map (kept_value q a number l.line) ns) (last ∷ [])
      (all-map Anything (LineHasDialect checked) (kept_value q a number l.line) ns (λ n h. kept_value-dialect l.line n) (anything ns))
      (all-one (LineHasDialect checked) last (statement-dialect l.stmt (told l refl)))

  pub shared-dialect : (flat : List FlatLine) → All (LineHasDialect checked) flat → All (LineHasDialect checked) (shared_flat q a number flat)
  shared-dialect flat all =
      let places = range_with_len 0 (length flat) in
      all-flat_map Anything (LineHasDialect checked) (λ place. shared_lines q a number (first_of flat place) (slice_get flat place)) places
      (λ place h. shared_lines-dialect (first_of flat place) (slice_get flat place) (λ l at. All-get (LineHasDialect checked) flat place l all at)) (anything places)
