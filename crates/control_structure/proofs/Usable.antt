-- The statements of a source without the faults of labels and counts, as the executables rely on them.
use Rattle.std.proofs.Common.{◌≡◌, ℕ, true, false, not, ◌==◌, List, [], get_or, Some, None, All, refl, sym, ap, subst, ◌∙◌, arith, ◌+◌, ◌∷◌, map, slice_get}
use Rattle.std.specs.Prelude.{slice_get}
use Rattle.std.proofs.lemmas.Bool.{or_parts, not-false}
use Rattle.std.proofs.lemmas.Option.{slice_get_within, slice_get-get_or, get_or_from_slice_get}
use Rattle.std.specs.List.{list_any}
use Rattle.std.proofs.lemmas.List.Elements.{All-nil, All-cons, All-head, All-tail}
use Rattle.f77_tree.specs.declared.statements.Labelled.{Labelled}
use Rattle.f77_tree.specs.declared.statements.Stmt.{Stmt, more_of-Stmt}
use Rattle.f77_tree.specs.Grammar.{reading, number_of}
use Rattle.f77_tree.specs.StatementGrammar.{WrittenStatement, IsStatement, IsGiven, is_of_subroutines, statement_of as stmt_of, is_simple as is_simple_text, has_bad_constant, is_bad_label}
use Rattle.f77_tree.proofs.Subroutines.{guarded_subroutines}
use Rattle.layout_rules.specs.Faults.{first_line}
use Rattle.layout_rules.specs.Source.{IsSource}
use Rattle.layout_rules.specs.Labels.{IsBorne, bears, used, lacks_label, jumps, IsLabel}
use Rattle.layout_rules.specs.Tables.{is_simple, has_simple_inner, IsStanding, IsUsable}
use Rattle.f77_tree.specs.declared.statements.RawExpr.{RawExpr}
use Rattle.f77_tree.specs.declared.statements.Stmt.TheVariants.{Do, ThenIf, ThenIf'}
use Rattle.control_structure.proofs.SourceLabels.{label_is_small, tree_at}
use Rattle.control_structure.proofs.OwnExecutables.{guarded_simple}
use Rattle.control_structure.proofs.LabelLemmas.{faultless, good_label, any-exists, bears-parts, position-upto}

one_label : (label : ℕ) → IsLabel label → All IsLabel (label ∷ [])
one_label label is = All-cons IsLabel label [] is (All-nil IsLabel)

good_labels : (labels : List (List ℕ)) → list_any is_bad_label labels ≡ false → All IsLabel (map number_of labels)
good_labels [] h = All-nil IsLabel
good_labels (label ∷ rest) h =
    let parts = or_parts (is_bad_label label) (list_any is_bad_label rest) h in
    All-cons IsLabel (number_of label) (map number_of rest) (good_label label parts.0) (good_labels rest parts.1)

-- a condition makes no difference
pub jumps-ThenIf : (condition : RawExpr) (stmt : Stmt) → jumps (ThenIf condition stmt) ≡ jumps stmt
unfolding Rattle.f77_tree.specs.declared.statements.Stmt.TheBlock.hidden-the_row-Stmt-0 denote.Hole.Carrier.hidden
jumps-ThenIf condition stmt = refl

used-ThenIf : (condition : RawExpr) (stmt : Stmt) → used (ThenIf condition stmt) ≡ jumps stmt
unfolding Rattle.f77_tree.specs.declared.statements.Stmt.TheBlock.hidden-the_row-Stmt-0 denote.Hole.Carrier.hidden
used-ThenIf condition stmt = refl

-- after how many conditions a statement stands
abbrev pub guards : Stmt → ℕ
guards (ThenIf' condition shape (more_of-Stmt stmt rest)) = 1 + guards stmt
guards _ = 0

pub guards-ThenIf : (condition : RawExpr) (stmt : Stmt) → guards (ThenIf condition stmt) ≡ 1 + guards stmt
unfolding Rattle.f77_tree.specs.declared.statements.Stmt.TheBlock.hidden-the_row-Stmt-0 denote.Hole.Carrier.hidden
guards-ThenIf condition stmt = refl

jumps_of : (w : WrittenStatement) → has_bad_constant w ≡ false → All IsLabel (jumps (stmt_of w))
jumps_of (WrittenStatement.go_to label) h = one_label (number_of label) (good_label label h)
jumps_of (WrittenStatement.computed_go_to labels comma w) h = good_labels labels (or_parts (list_any is_bad_label labels) _ h).0
jumps_of (WrittenStatement.arithmetic_if w negative zero positive) h = good_labels (negative ∷ zero ∷ positive ∷ []) (or_parts _ (list_any is_bad_label (negative ∷ zero ∷ positive ∷ [])) h).1
jumps_of (WrittenStatement.logical_if w s) h = subst (λ (labels : List ℕ). All IsLabel labels) (sym (jumps-ThenIf (reading w) (stmt_of s))) (jumps_of s (or_parts _ (has_bad_constant s) h).1)
jumps_of _ h = All-nil IsLabel

used_by : (w : WrittenStatement) → has_bad_constant w ≡ false → All IsLabel (used (stmt_of w))
used_by (WrittenStatement.do_loop label comma variable first last step) h = one_label (number_of label) (good_label label (or_parts (is_bad_label label) _ (or_parts _ _ (or_parts _ _ h).0).0).0)
used_by (WrittenStatement.logical_if w s) h = subst (λ (labels : List ℕ). All IsLabel labels) (sym (used-ThenIf (reading w) (stmt_of s))) (jumps_of s (or_parts _ (has_bad_constant s) h).1)
used_by w h = jumps_of w h

-- the labels that a statement of a text uses
pub used-given : (stmt : Stmt) → IsGiven stmt → All IsLabel (used stmt)
used-given stmt given = subst (λ (t : Stmt). All IsLabel (used t)) given.is_read.is (used_by given.is_read.written given.is_read.constants)

pub used_labels : (stmts : List Labelled) → IsSource stmts → (i : ℕ) (s : Labelled) → slice_get stmts i ≡ Some s → All IsLabel (used s.stmt)
used_labels stmts source i s here = (tree_at stmts source i s here).labels

-- ---- labels that stand where they may

pub used_jumps : (P : ℕ → Type 0) (stmt : Stmt) → All P (used stmt) → All P (jumps stmt)
used_jumps P (Do label variable first last step) h = All-nil P
used_jumps P _ h = h

borne_all : (stmts : List Labelled) (labels : List ℕ) → All IsLabel labels → list_any (λ label. not (list_any (bears label) stmts)) labels ≡ false → All (IsBorne stmts) labels
borne_all stmts [] are h = All-nil (IsBorne stmts)
borne_all stmts (label ∷ rest) are h =
    let parts = or_parts (not (list_any (bears label) stmts)) (list_any (λ l. not (list_any (bears l) stmts)) rest) h in
    All-cons (IsBorne stmts) label rest (All-head IsLabel label rest are, not-false (list_any (bears label) stmts) parts.0) (borne_all stmts rest (All-tail IsLabel label rest are) parts.1)

-- where no statement lacks a label those that are used stand where they may
pub used_borne : (stmts : List Labelled) → IsSource stmts → first_line (lacks_label stmts) stmts ≡ None → (i : ℕ) (s : Labelled) → slice_get stmts i ≡ Some s → All (IsBorne stmts) (used s.stmt)
used_borne stmts source none i s here = borne_all stmts (used s.stmt) (used_labels stmts source i s here) (faultless (lacks_label stmts) [] stmts none i s here)

pub jumps_borne : (stmts : List Labelled) → IsSource stmts → first_line (lacks_label stmts) stmts ≡ None → (i : ℕ) (s : Labelled) → slice_get stmts i ≡ Some s → All (IsBorne stmts) (jumps s.stmt)
jumps_borne stmts source none i s here = used_jumps (IsBorne stmts) s.stmt (used_borne stmts source none i s here)

-- ---- after a condition

simple_is : (w : WrittenStatement) → is_simple_text w ≡ true → is_of_subroutines (stmt_of w) ≡ false → is_simple (stmt_of w) ≡ true
simple_is (WrittenStatement.assignment target value) e none = refl
simple_is (WrittenStatement.print form items) e none = refl
simple_is (WrittenStatement.read form targets) e none = refl
simple_is WrittenStatement.continue e none = refl
simple_is (WrittenStatement.stop shown) e none = refl
simple_is (WrittenStatement.go_to label) e none = refl
simple_is (WrittenStatement.computed_go_to labels comma w) e none = refl
simple_is (WrittenStatement.arithmetic_if w below nought above) e none = refl
simple_is (WrittenStatement.call_of name arguments) e none = let h : true ≡ false = none in absurd cc
simple_is WrittenStatement.go_back e none = let h : true ≡ false = none in absurd cc
simple_is _ e none = let h : false ≡ true = e in absurd cc

inner_is : (w : WrittenStatement) → IsStatement w → is_of_subroutines (stmt_of w) ≡ false → has_simple_inner (stmt_of w) ≡ true
inner_is (WrittenStatement.logical_if w s) is none =
    guarded_simple (reading w) (stmt_of s) ∙ simple_is s is.2 (sym (guarded_subroutines (reading w) (stmt_of s)) ∙ none)
inner_is _ is none = refl

pub inner_given : (stmt : Stmt) → IsGiven stmt → is_of_subroutines stmt ≡ false → has_simple_inner stmt ≡ true
inner_given stmt given none =
    let w = given.is_read.written in
    let is : stmt_of w ≡ stmt = given.is_read.is in
    subst (λ (t : Stmt). has_simple_inner t ≡ true) is (inner_is w given.is_read.spells.grammatical (ap is_of_subroutines is ∙ none))

-- ---- labels

-- a label that is borne is a statement's
standing : (stmts : List Labelled) (label : ℕ) → IsBorne stmts label → IsStanding stmts label
standing stmts label borne =
    let found = any-exists (bears label) stmts borne.1 in
    record { number = borne.0.1; stands = omega (arith, slice_get_within stmts found.place found.item found.stands, position-upto (λ s. s.label == label) stmts found.place found.item found.stands (bears-parts label found.item found.is).0) }

module _ (stmts : List Labelled) (source : IsSource stmts) where
  usable_at : first_line (lacks_label stmts) stmts ≡ None → (i : ℕ) (s : Labelled) → slice_get stmts i ≡ Some s → IsUsable stmts s
  usable_at none i s here =
      let same = get_or_from_slice_get stmts i s s here in
      let inside = slice_get_within stmts i s here in
      let no_subroutine : is_of_subroutines s.stmt ≡ false = subst (λ (t : Labelled). is_of_subroutines t.stmt ≡ false) same (source.no_subroutines i s inside) in
      record {
        label = label_is_small stmts source i s here;
        inner = (tree_at stmts source i s here).inner;
        labels = λ k d below. standing stmts (get_or (used s.stmt) k d) (used_borne stmts source none i s here k d below);
        no_subroutine = no_subroutine;
      }

  pub usable : first_line (lacks_label stmts) stmts ≡ None → All (IsUsable stmts) stmts
  usable none k d below = usable_at none k (get_or stmts k d) (slice_get-get_or stmts k d below)
