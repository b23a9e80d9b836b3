-- The executables of statements with operators of the plain dialect alone are of the dialect in which they are read.
use Rattle.std.proofs.Common.{◌≡◌, ℕ, ◌+◌, Bool, true, false, length, get_or, ◌++◌, List, [], ◌∷◌, map, All, Option, Some, None, Ok, Err, refl, subst}
use Rattle.std.specs.Prelude.{Result, slice_get}
use Rattle.std.specs.List.{range_with_len}
use Rattle.std.proofs.lemmas.List.Elements.{All-append, All-map}
use Rattle.op_table.specs.declared.Op.TheVariants.{Truth}
use Rattle.f77_tree.specs.declared.declarations.Kind.{Kind}
use Rattle.f77_tree.specs.declared.declarations.Kind.TheVariants.{Integer, Logical}
use Rattle.f77_tree.specs.declared.expressions.Expr.TheVariants.{Input}
use Rattle.f77_tree.specs.declared.programs.Exec.{Exec}
use Rattle.f77_tree.specs.declared.programs.ExecKind.{ExecKind}
use Rattle.f77_tree.specs.declared.programs.ExecKind.TheVariants.{Assign}
use Rattle.f77_tree.specs.declared.programs.NameInfo.{NameInfo}
use Rattle.f77_tree.specs.declared.programs.Program.{Program}
use Rattle.f77_tree.specs.declared.statements.Labelled.{Labelled}
use Rattle.f77_tree.specs.declared.statements.RawExpr.{RawExpr}
use Rattle.f77_tree.specs.declared.statements.RawItem.{RawItem}
use Rattle.f77_tree.specs.declared.statements.RawItem.TheVariants.{Value, Chars}
use Rattle.f77_tree.specs.declared.statements.Stmt.{Stmt, more_of-Stmt}
use Rattle.f77_tree.specs.declared.statements.Stmt.TheVariants as StmtOf
use Rattle.f77_tree.specs.Dialects.{HasDialect, ItemHasDialect, ExecHasDialect, IsOfDialect, is_of_dialect}
use Rattle.f77_tree.specs.Kinds.{taken_as}
use Rattle.f77_tree.proofs.AllLemmas.{All-nil, All-cons, All-first, All-rest}
use Rattle.f77_tree.proofs.DialectLaws.{Apply-dialect}
use Rattle.f77_tree.proofs.Equations.{All-flat}
use Rattle.fixed_form.specs.declared.raw_stmt.RawStmt.{RawStmt}
use Rattle.f77_parse.specs.declared.stmt_end.StmtEnd.{StmtEnd}
use Rattle.f77_parse.specs.Parsing.{IsParsed, reading_of}
use Rattle.layout_rules.specs.Executables.{at_line, beyond, executables, executables_at, executables_if_any, first_of, increments, kind_or_integer, loops_to, own_executables, own_kinds, taking}
use Rattle.layout_rules.specs.Layout.{names_of}
use Rattle.layout_rules.specs.Resolved.{access_of, resolved_item, resolved_step}
use Rattle.layout_rules.specs.Types.{kind_in}
use Rattle.expanded_sources.proofs.HeldPieces.{whole-each}
use Rattle.f77_source.specs.declared.source_end.Refusal.{Refusal}
use Rattle.f77_source.specs.Reading.{Reads, statement_before, statements_of}
use Rattle.read_dialects.proofs.CopiedOperators.{ArePlainLines, listed-plain, statement-plain}
use Rattle.read_dialects.proofs.PlainDialects.{plain-dialect, target-dialect}
use Rattle.read_dialects.proofs.PlainOperators.{IsPlain, IsPlainItem, IsPlainStep, IsPlainStmt}

-- ---- executables

module _ (names : List NameInfo) (checked : Bool) where
  abbrev Has : ExecKind → Type 0
  Has kind = ExecHasDialect checked kind

  one-kind : (kind : ExecKind) → Has kind → All Has (kind ∷ [])
  one-kind kind has = All-cons Has kind [] has (All-nil Has)

  truth-dialect : (c : Bool) → is_of_dialect c Truth ≡ true
  truth-dialect true = refl
  truth-dialect false = refl

  taken-dialect : (kind : Kind) → HasDialect checked (taken_as kind)
  taken-dialect Integer = tt
  taken-dialect Logical = (Apply-dialect checked Truth (Input ∷ [])).1 (truth-dialect checked, All-cons (HasDialect checked) Input [] tt (All-nil (HasDialect checked)))

  item-dialect : (item : RawItem) → IsPlainItem item → ItemHasDialect checked (resolved_item names checked item)
  item-dialect (Value e) is = plain-dialect names checked e is
  item-dialect (Chars text) is = tt

  items-dialect : (items : List RawItem) → All IsPlainItem items → All (ItemHasDialect checked) (map (resolved_item names checked) items)
  items-dialect items are = All-map (ItemHasDialect checked) (resolved_item names checked) items (λ k d less. item-dialect (get_or items k d) (are k d less))

  step-dialect : (step : Option RawExpr) → IsPlainStep step → HasDialect checked (resolved_step names checked step)
  step-dialect None is = tt
  step-dialect (Some e) is = plain-dialect names checked e is

  -- a target takes a word of the data
  target-kind : (e : RawExpr) (next : ℕ) → IsPlain e → Has (Assign (access_of names checked e) (taken_as (kind_or_integer (kind_in names e))) next)
  target-kind e next is = (target-dialect names checked e is, taken-dialect (kind_or_integer (kind_in names e)))

  taking-dialect : (index next : ℕ) (targets : List RawExpr) → All IsPlain targets → All Has (taking names checked index next targets)
  taking-dialect index next [] are = All-nil Has
  taking-dialect index next (e ∷ []) are = one-kind _ (target-kind e next (All-first IsPlain e [] are))
  taking-dialect index next (e ∷ another ∷ rest) are =
      All-cons Has _ (taking names checked (index + 1) next (another ∷ rest))
      (target-kind e (index + 1) (All-first IsPlain e (another ∷ rest) are)) (taking-dialect (index + 1) next (another ∷ rest) (All-rest IsPlain e (another ∷ rest) are))

  module _ (whole : List Labelled) (place next : ℕ) where
    own-dialect : (index : ℕ) (s : Stmt) → IsPlainStmt s → All Has (own_kinds names checked whole place index next s)
    own-dialect index (StmtOf.Assign target value) is = one-kind _ (target-dialect names checked target is.0, plain-dialect names checked value is.1)
    own-dialect index (StmtOf.Print items) is = one-kind _ (items-dialect items is)
    own-dialect index (StmtOf.Take targets) is = taking-dialect index next targets is
    own-dialect index StmtOf.Continue is = one-kind _ tt
    own-dialect index StmtOf.EndIf is = one-kind _ tt
    own-dialect index StmtOf.Stop is = one-kind _ tt
    own-dialect index (StmtOf.GoTo label) is = one-kind _ tt
    own-dialect index (StmtOf.PickGoTo labels e) is = one-kind _ (plain-dialect names checked e is)
    own-dialect index (StmtOf.SignIf e negative zero positive) is = one-kind _ (plain-dialect names checked e is)
    own-dialect index (StmtOf.ThenIf' condition shape (more_of-Stmt stmt rest)) is =
        All-cons Has _ (own_kinds names checked whole place (index + 1) next stmt) (plain-dialect names checked condition is.0) (own-dialect (index + 1) stmt is.1)
    own-dialect index (StmtOf.BlockIf e) is = one-kind _ (plain-dialect names checked e is)
    own-dialect index (StmtOf.ElseIf e) is = one-kind _ (plain-dialect names checked e is)
    own-dialect index (StmtOf.Do label variable first last step) is =
        one-kind _ (plain-dialect names checked first is.0, plain-dialect names checked last is.1, step-dialect step is.2)
    own-dialect index StmtOf.End is = one-kind _ tt
    own-dialect index _ is = All-nil Has

  increments-dialect : (whole : List Labelled) (place index : ℕ) (ds : List ℕ) → All Has (increments names whole place index ds)
  increments-dialect whole place index [] = All-nil Has
  increments-dialect whole place index (d ∷ outer) = All-cons Has _ (increments names whole place (index + 1) outer) tt (increments-dialect whole place (index + 1) outer)

  -- ---- programs

  abbrev ExecHas : Exec → Type 0
  ExecHas exec = ExecHasDialect checked exec.kind

  lined-dialect : (line : ℕ) (kinds : List ExecKind) → All Has kinds → All ExecHas (at_line line kinds)
  lined-dialect line kinds each = All-map ExecHas (λ kind. record { line = line; kind = kind }) kinds each

  statement-dialect : (whole : List Labelled) (place : ℕ) (s : Labelled) → IsPlainStmt s.stmt → All ExecHas (executables_at names checked whole place s)
  statement-dialect whole place s is =
      let index = first_of whole place in
      let next = beyond whole place s in
      let own = own_kinds names checked whole place index next s.stmt in
      let ends = increments names whole place (index + own_executables s.stmt) (loops_to whole s.label) in
      let has : All Has own = own-dialect whole place next index s.stmt is in
      lined-dialect s.line (own ++ ends) (All-append Has own ends has (increments-dialect whole place (index + own_executables s.stmt) (loops_to whole s.label)))

  at-dialect : (whole : List Labelled) (place : ℕ) (found : Option Labelled) → ((s : Labelled) → found ≡ Some s → IsPlainStmt s.stmt) → All ExecHas (executables_if_any names checked whole place found)
  at-dialect whole place None each = All-nil ExecHas
  at-dialect whole place (Some s) each = statement-dialect whole place s (each s refl)

  executables-dialect : (whole : List Labelled) → ArePlainLines whole → All ExecHas (executables names checked whole)
  executables-dialect whole each =
      All-flat ExecHas (λ place. executables_if_any names checked whole place (slice_get whole place)) (range_with_len 0 (length whole))
      (λ k d less. let place = get_or (range_with_len 0 (length whole)) k d in at-dialect whole place (slice_get whole place) (λ s at. whole-each IsPlainStmt whole each place s at))

-- ---- texts

-- what is due for a statement of the source
abbrev pub IsDue : Type 0
IsDue = (raw : RawStmt) → IsParsed raw (reading_of raw)

module _ (due : IsDue) where
  statement-read : (raw : RawStmt) (s : Labelled) → reading_of raw ≡ Ok s → IsPlainStmt s.stmt
  statement-read raw s is =
      let parsed : IsParsed raw (Ok s) = subst (IsParsed raw) is (due raw) in
      let read = parsed.1 in
      subst IsPlainStmt read.is (statement-plain read.written read.spells.grammatical)

  statements-read : (raws : List RawStmt) (stmts : List Labelled) → statements_of raws ≡ Ok stmts → ArePlainLines stmts
  statements-read [] stmts is = let none : [] ≡ stmts = cc in subst ArePlainLines none tt
  statements-read (raw ∷ raws) stmts is = by (reading_of raw) (statements_of raws) is (λ s one. statement-read raw s one) (λ more rest. statements-read raws more rest)
    where
      by : (first : Result Labelled StmtEnd) (others : Result (List Labelled) Refusal) → statement_before first others ≡ Ok stmts → ((s : Labelled) → first ≡ Ok s → IsPlainStmt s.stmt) → ((more : List Labelled) → others ≡ Ok more → ArePlainLines more) → ArePlainLines stmts
      by (Err end) others e one rest = absurd cc
      by (Ok s) (Err refusal) e one rest = absurd cc
      by (Ok s) (Ok more) e one rest =
          let same : s ∷ more ≡ stmts = cc in
          subst ArePlainLines same (one s refl, rest more refl)

  pub read-dialect : (bytes : List ℕ) (checked : Bool) (p : Program) → Reads bytes checked p → IsOfDialect checked p
  read-dialect bytes checked p reads =
      let list = reads.list in
      let plain = listed-plain reads.stmts list checked (statements-read reads.raws reads.stmts reads.statements) reads.units in
      subst (IsOfDialect checked) reads.is (executables-dialect (names_of list) checked list plain)
