-- Statements as they are written.
use Rattle.std.proofs.Common.{◌≡◌, ℕ, ◌∷◌, ◌++◌, true, false, List, [], refl, sym, ap, ◌∙◌, append_assoc, append-nil, ⊎_elim}
use Rattle.std.specs.Prelude.{codes, decimal, ◌==◌}
use Rattle.f77_tree.specs.declared.declarations.Kind.{Kind}
use Rattle.f77_tree.specs.declared.declarations.Kind.TheVariants.{Integer, Logical}
use Rattle.f77_tree.specs.declared.expressions.Access.{Access}
use Rattle.f77_tree.specs.declared.expressions.Expr.{Expr}
use Rattle.f77_tree.specs.declared.expressions.Expr.TheVariants.{Input}
use Rattle.f77_tree.proofs.Taking.{words_taken_apply}
use Rattle.op_table.specs.declared.Op.TheVariants.{Truth}
use Rattle.f77_tree.specs.declared.programs.NameInfo.{NameInfo}
use Rattle.f77_tree.specs.Execution.{words_taken}
use Rattle.f77_tree.specs.Kinds.{IsAssignment, IsOfKind, IsProper, taken_as}
use Rattle.f77_tree.specs.StatementGrammar.{step_text}
use Rattle.f77_tree.specs.Value.{kind_of}
use Rattle.f77_expr.specs.Printing.{name_at, printed_text}
use Rattle.flat_programs.specs.declared.statements.Flat.TheVariants.{DoLoop}
use Rattle.flat_programs.specs.Shown.{shown, written_step}
use Rattle.flat_programs.specs.Typeset.{blank, typeset}

taken-one : (kind : Kind) → words_taken (taken_as kind) ≡ 1
taken-one Integer = refl
taken-one Logical = words_taken_apply Truth (Input ∷ [])

-- the value of an assignment that takes no data is an expression of the program
pub value_proper : (names : List NameInfo) (target : Access) (value : Expr) → IsAssignment names target value → (words_taken value == 1) ≡ false → IsProper names value
value_proper names target value is none =
    ⊎_elim
    (λ (of : IsOfKind names (kind_of names target.name) value). of.proper)
    (λ (taken : value ≡ taken_as (kind_of names target.name)).
    let one : words_taken value ≡ 1 = ap words_taken taken ∙ taken-one (kind_of names target.name) in
    let e : true ≡ false = ap (λ n. n == 1) (sym one) ∙ none in
    absurd cc)
    is.of_kind

pub do_text : (names : List NameInfo) (end var : ℕ) (first last step : Expr) → typeset (shown names (DoLoop end var first last step)) ≡ (codes "DO " ++ decimal end ++ blank ++ name_at names var ++ codes "=") ++ (printed_text names first ++ codes "," ++ printed_text names last) ++ step_text (written_step names step)
do_text names end var first last step =
    let label = codes "DO " ++ decimal end ++ blank in
    let head = label ++ name_at names var ++ codes "=" in
    let a = printed_text names first in
    let b = printed_text names last in
    let s = step_text (written_step names step) in
    ap (λ t. t ++ name_at names var ++ codes "=" ++ a ++ codes "," ++ b ++ s) (append-nil label)
    ∙ ap (λ t. t ++ s) (ap (λ t. t ++ b) (append_assoc head a (codes ",")) ∙ append_assoc head (a ++ codes ",") b)
