-- The executables of a program stand where its statements do, and labels lead to them.
use Rattle.std.proofs.Common.{rules, ◌≡◌, ℕ, ◌+◌, ◌≤◌, Bool, true, false, not, List, [], length, Some, Ok, slice_get, map, refl, sym, ap, subst, ◌∙◌, arith}
use Rattle.std.proofs.lemmas.Bool.{and_parts, eqb-true, not-true}
use Rattle.std.proofs.lemmas.List.{length-map}
use Rattle.std.proofs.lemmas.Option.{slice_get_within, get_or_from_slice_get}
use Rattle.f77_tree.specs.declared.programs.ExecKind.{ExecKind}
use Rattle.f77_tree.specs.declared.programs.Program.{Program}
use Rattle.f77_tree.specs.declared.statements.Labelled.{Labelled}
use Rattle.f77_tree.specs.declared.statements.RawExpr.{RawExpr}
use Rattle.f77_tree.specs.declared.statements.Stmt.{Stmt, more_of-Stmt}
use Rattle.f77_tree.specs.declared.statements.Stmt.TheVariants.{Take, ThenIf'}
use Rattle.f77_tree.specs.StatementGrammar.{WrittenStatement, IsStatement, statement_of as stmt_of}
use Rattle.f77_tree.specs.Grammar.{reading}
use Rattle.layout_rules.specs.Executables.{beyond, first_of, increments, labelled, loops_to, own_executables, own_kinds, executables}
use Rattle.layout_rules.specs.Labels.{IsBorne, bears, used, statement_of, is_executable, is_arm, IsLabel}
use Rattle.layout_rules.specs.Layout.{layout, names_of}
use Rattle.f77_layout.specs.Leading.{IsLedTo}
use Rattle.layout_rules.specs.Source.{IsSource}
use Rattle.control_structure.proofs.LabelLemmas.{statement_of-own, Passes, any-exists, bears-parts}
use Rattle.control_laws.proofs.LoopPlaces.{length-own_kinds, own-at, end-at}
use Rattle.control_structure.proofs.SourceLabels.{tree_at}
use Rattle.control_structure.proofs.Usable.{usable, used_borne}
use Rattle.control_structure.proofs.Walks.{item_at}
use Rattle.f77_layout.proofs.LaidFacts.{AreFaultless, laid-faultless, laid-program}

-- ---- statements have executables

-- READ has an item
pub taken_some : (w : WrittenStatement) → IsStatement w → (targets : List RawExpr) → stmt_of w ≡ Take targets → 1 ≤ length targets
taken_some (WrittenStatement.read form items) is targets e =
    let same : map reading items ≡ targets = cc in
    omega (arith, is.0, length-map items reading, ap (λ (xs : List RawExpr). length xs) same)
taken_some _ is targets e = cc

own_some : (stmt : Stmt) → ((targets : List RawExpr) → stmt ≡ Take targets → 1 ≤ length targets) → is_executable stmt ≡ true → is_arm stmt ≡ false → 1 ≤ own_executables stmt
own_some (Take targets) some x a = some targets refl
own_some (ThenIf' condition shape (more_of-Stmt stmt rest)) some x a = omega arith
own_some _ some x a = search (arith, rules)

module _ (stmts : List Labelled) (checked : Bool) (p : Program) (source : IsSource stmts) (laid : layout stmts checked ≡ Ok p) where
  none : AreFaultless stmts checked
  none = laid-faultless stmts checked p laid

  execs_are : executables (names_of stmts) checked stmts ≡ p.execs
  execs_are = ap (λ (q : Program). q.execs) (laid-program stmts checked p laid)

  pub own-stand : (i j : ℕ) (s : Labelled) (kind : ExecKind) → slice_get stmts i ≡ Some s → slice_get (own_kinds (names_of stmts) checked stmts i (first_of stmts i) (beyond stmts i s) s.stmt) j ≡ Some kind → slice_get p.execs (first_of stmts i + j) ≡ Some (record { line = s.line; kind = kind })
  own-stand i j s kind here is =
      ap (λ execs. slice_get execs (first_of stmts i + j)) (sym execs_are) ∙ own-at (names_of stmts) checked stmts (usable stmts source none.borne) i j s kind here is

  pub increments-stand : (i j : ℕ) (s : Labelled) (kind : ExecKind) → slice_get stmts i ≡ Some s → slice_get (increments (names_of stmts) stmts i (first_of stmts i + own_executables s.stmt) (loops_to stmts s.label)) j ≡ Some kind → slice_get p.execs (first_of stmts i + own_executables s.stmt + j) ≡ Some (record { line = s.line; kind = kind })
  increments-stand i j s kind here is =
      ap (λ execs. slice_get execs (first_of stmts i + own_executables s.stmt + j)) (sym execs_are) ∙ end-at (names_of stmts) checked stmts (usable stmts source none.borne) i j s kind here is

  -- ---- where a label leads

  led : (label : ℕ) → IsLabel label → Passes (bears label) stmts → IsLedTo stmts p.execs label (labelled stmts label)
  led label number b =
      let parts = bears-parts label b.item b.is in
      let same = eqb-true b.item.label label parts.0 in
      let some : b.item.label ≡ 0 → ⊥ = λ e. number.0 (sym same ∙ e) in
      let at : statement_of stmts label ≡ b.place = ap (statement_of stmts) (sym same) ∙ statement_of-own stmts none.once b.place b.item b.stands some in
      let target = and_parts (is_executable b.item.stmt) (not (is_arm b.item.stmt)) parts.1 in
      let tree = tree_at stmts source b.place b.item b.stands in
      let own = own_kinds (names_of stmts) checked stmts b.place (first_of stmts b.place) (beyond stmts b.place b.item) b.item.stmt in
      let many = length-own_kinds (names_of stmts) checked stmts (usable stmts source none.borne) b.place b.item b.stands in
      let one = own_some b.item.stmt tree.takes target.0 (not-true (is_arm b.item.stmt) target.1) in
      let item = item_at own 0 (omega (arith, many, one)) in
      record {
        place = b.place;
        statement = b.item;
        stands = b.stands;
        bears_it = b.is;
        alone = λ j other there e. sym (statement_of-own stmts none.once j other there (λ z. number.0 (sym e ∙ z))) ∙ ap (statement_of stmts) e ∙ at;
        first = ap (first_of stmts) at;
        exec = record { line = b.item.line; kind = item.0 };
        is = ap (slice_get p.execs) (let e : labelled stmts label ≡ first_of stmts b.place + 0 = omega (arith, ap (first_of stmts) at) in e) ∙ own-stand b.place 0 b.item item.0 b.stands item.1;
        line = refl;
      }

  pub labels-lead : (i j : ℕ) (s : Labelled) (label : ℕ) → slice_get stmts i ≡ Some s → slice_get (used s.stmt) j ≡ Some label → IsLedTo stmts p.execs label (labelled stmts label)
  labels-lead i j s label here is =
      let borne = subst (IsBorne stmts) (get_or_from_slice_get (used s.stmt) j label label is) (used_borne stmts source none.borne i s here j label (slice_get_within (used s.stmt) j label is)) in
      led label borne.0 (any-exists (bears label) stmts borne.1)
