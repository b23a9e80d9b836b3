-- Labels of a source, and of the statements that it has.
use Rattle.std.proofs.Common.{◌≡◌, ℕ, List, Some, None, subst, ◌<◌, ◌≤◌, slice_get, arith, [], All}
use Rattle.std.proofs.lemmas.Option.{slice_get_within, get_or_from_slice_get}
use Rattle.std.proofs.lemmas.List.Elements.{All-head}
use Rattle.f77_tree.specs.declared.statements.Labelled.{Labelled}
use Rattle.layout_rules.specs.declared.nesting.Opened.TheVariants.{Loop}
use Rattle.layout_rules.specs.declared.nesting.Role.{Role}
use Rattle.layout_rules.specs.declared.nesting.Role.TheVariants.{BeginLoop, NextArm}
use Rattle.layout_rules.specs.Faults.{first_line}
use Rattle.layout_rules.specs.Source.{IsSource}
use Rattle.layout_rules.specs.Labels.{IsLabel, is_labelled_twice, used}
use Rattle.layout_rules.specs.Roles.{role_of}
use Rattle.layout_rules.specs.StatementTrees.{IsTree}
use Rattle.f77_tree.specs.declared.statements.Stmt.{Stmt}
use Rattle.f77_tree.specs.declared.statements.Stmt.TheVariants.{Do}
use Rattle.control_structure.proofs.LabelLemmas.{statement_of-own}
use Rattle.control_structure.proofs.RoleLemmas.{opened_by}
use Rattle.control_structure.proofs.OpenSpans.{AreLabelled}

abbrev pub TellsLabel : Role → Type 0
TellsLabel (BeginLoop terminal) = IsLabel terminal
TellsLabel _ = Unit {0}

pub role_label : (stmt : Stmt) → All IsLabel (used stmt) → TellsLabel (role_of stmt)
role_label (Do label variable first last step) are = All-head IsLabel label [] are
role_label _ are = tt

pub tree_at : (stmts : List Labelled) → IsSource stmts → (i : ℕ) (s : Labelled) → slice_get stmts i ≡ Some s → IsTree s.stmt
tree_at stmts source i s here = subst (λ (t : Labelled). IsTree t.stmt) (get_or_from_slice_get stmts i s s here) (source.trees i s (slice_get_within stmts i s here))

pub label_is_small : (stmts : List Labelled) → IsSource stmts → (i : ℕ) (s : Labelled) → slice_get stmts i ≡ Some s → s.label < 100000
label_is_small stmts source i s here =
    let le : s.label ≤ 99999 = subst (λ (t : Labelled). t.label ≤ 99999) (get_or_from_slice_get stmts i s s here) (source.labels i s (slice_get_within stmts i s here)) in
    omega (arith, le)

opens_loop : (role : Role) (terminal : ℕ) → opened_by role ≡ Some (Loop terminal) → TellsLabel role → IsLabel terminal
opens_loop (BeginLoop label) terminal h is = let same : label ≡ terminal = cc in subst IsLabel same is
opens_loop NextArm terminal h is = absurd cc
opens_loop _ terminal h is = absurd cc

pub AreLabelled-source : (stmts : List Labelled) → IsSource stmts → first_line is_labelled_twice stmts ≡ None → AreLabelled stmts
AreLabelled-source stmts source once = record {
  places = statement_of-own stmts once;
  loops = λ h terminal at. (opens_loop (role_of at.s.stmt) terminal at.opens (role_label at.s.stmt (tree_at stmts source h at.s at.stands).labels)).0;
}
