-- The label that a DO names is a number above 0.
use Rattle.std.proofs.Common.{◌≡◌, ℕ, zero, suc, ◌<◌, ◌==◌, ◌||◌, Bool, true, false, nat_lt, refl, sym, ap, ◌∙◌, arith, subst}
use Rattle.std.proofs.lemmas.Bool.{eqb-true}
use Rattle.f77_tree.specs.declared.statements.RawExpr.{RawExpr}
use Rattle.f77_tree.specs.declared.statements.Stmt.{Stmt}
use Rattle.f77_tree.specs.declared.statements.Stmt.TheVariants.{ThenIf}
use Rattle.f77_tree.specs.Grammar.{has_great_number, number_of, reading}
use Rattle.f77_tree.specs.StatementGrammar.{WrittenStatement, IsGiven, has_bad_constant, statement_of, step_is_great}
use Rattle.layout_rules.specs.Executables.{is_do_to}

after-condition : (label : ℕ) (condition : RawExpr) (stmt : Stmt) → is_do_to label (ThenIf condition stmt) ≡ false
unfolding Rattle.f77_tree.specs.declared.statements.Stmt.TheBlock.hidden-the_row-Stmt-0 denote.Hole.Carrier.hidden
after-condition label condition stmt = refl

above-nought : (n : ℕ) → (n == 0) ≡ false → 0 < n
above-nought zero e = let h : true ≡ false = e in absurd cc
above-nought (suc n) e = omega arith

named : (w : WrittenStatement) (label : ℕ) → has_bad_constant w ≡ false → is_do_to label (statement_of w) ≡ true → 0 < label
named (WrittenStatement.do_loop digits comma variable first last step) label fit does =
    let same : number_of digits ≡ label = eqb-true (number_of digits) label does in
    let some : (number_of digits == 0) ≡ false = first_false (number_of digits == 0) (nat_lt 99999 (number_of digits)) (has_great_number first) (has_great_number last) (step_is_great step) fit in
    subst (λ (n : ℕ). 0 < n) same (above-nought (number_of digits) some)
  where
    first_false : (a b c d e : Bool) → ((a || b) || c || d || e) ≡ false → a ≡ false
    first_false true b c d e h = h
    first_false false b c d e h = refl
named (WrittenStatement.logical_if w s) label fit does = let h : false ≡ true = sym (after-condition label (reading w) (statement_of s)) ∙ does in absurd cc
named _ label fit does = let h : false ≡ true = does in absurd cc

pub do-label : (s : Stmt) (label : ℕ) → IsGiven s → is_do_to label s ≡ true → 0 < label
do-label s label given does =
    let read = given.is_read in
    named read.written label read.constants (ap (is_do_to label) read.is ∙ does)
