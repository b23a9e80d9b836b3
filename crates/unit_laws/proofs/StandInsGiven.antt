-- What stands in for a statement that some text is read as: a text is read as it too.
use Rattle.std.proofs.Common.{◌≡◌, ℕ, ◌||◌, ◌&&◌, Bool, true, false, List, ◌++◌, refl, sym, ap, subst, ◌∙◌}
use Rattle.std.specs.Prelude.{codes}
use Rattle.std.specs.List.{list_all}
use Rattle.std.proofs.lemmas.Bool.{and_parts, or_parts}
use Rattle.std.proofs.lemmas.List.Folds.{list_all-append}
use Rattle.f77_tree.specs.declared.statements.RawExpr.{RawExpr}
use Rattle.f77_tree.specs.declared.statements.Stmt.{Stmt}
use Rattle.f77_tree.specs.declared.statements.Stmt.TheVariants.{ThenIf}
use Rattle.f77_tree.specs.Grammar.{reading, spelling, has_great_number}
use Rattle.f77_tree.specs.StatementGrammar.{WrittenStatement, Nothing_shown, IsStatement, IsGiven, statement_of, statement_text, is_simple, has_bad_constant, is_printable, is_of_subroutines, in_brackets}
use Rattle.program_units.specs.Units.{stand_in, stand_in_alone}
use Rattle.program_units.proofs.StandingIn.{stand_in-ThenIf}

abbrev Shows : List ℕ → Type 0
Shows text = list_all is_printable text ≡ true

both : (a b : Bool) → a ≡ true → b ≡ true → (a && b) ≡ true
both true b h i = i
both false b h i = absurd cc

neither : (a b : Bool) → a ≡ false → b ≡ false → (a || b) ≡ false
neither true b h i = absurd cc
neither false b h i = i

-- ---- a statement alone

pub alone-ThenIf : (condition : RawExpr) (stmt : Stmt) → stand_in_alone (ThenIf condition stmt) ≡ ThenIf condition stmt
unfolding Rattle.f77_tree.specs.declared.statements.Stmt.TheBlock.hidden-the_row-Stmt-0 denote.Hole.Carrier.hidden
alone-ThenIf condition stmt = refl

abbrev written_alone : WrittenStatement → WrittenStatement
written_alone (WrittenStatement.subroutine name dummies) = WrittenStatement.program (codes "A")
written_alone (WrittenStatement.call_of name arguments) = WrittenStatement.continue
written_alone WrittenStatement.go_back = WrittenStatement.stop Nothing_shown
written_alone w = w

record IsAlone (w : WrittenStatement) : Type 0 where
  grammatical : IsStatement (written_alone w)
  shown : Shows (statement_text (written_alone w))
  is : statement_of (written_alone w) ≡ stand_in_alone (statement_of w)
  constants : has_bad_constant (written_alone w) ≡ false
  simple : is_simple w ≡ true → is_simple (written_alone w) ≡ true

alone : (w : WrittenStatement) → IsStatement w → Shows (statement_text w) → has_bad_constant w ≡ false → IsAlone w
alone (WrittenStatement.subroutine name dummies) is shown few = record { grammatical = refl; shown = refl; is = refl; constants = refl; simple = λ e. e }
alone (WrittenStatement.call_of name arguments) is shown few = record { grammatical = tt; shown = refl; is = refl; constants = refl; simple = λ e. refl }
alone WrittenStatement.go_back is shown few = record { grammatical = refl; shown = refl; is = refl; constants = refl; simple = λ e. refl }
alone (WrittenStatement.logical_if w s) is shown few = record { grammatical = is; shown = shown; is = sym (alone-ThenIf (reading w) (statement_of s)); constants = few; simple = λ e. e }
alone _ is shown few = record { grammatical = is; shown = shown; is = refl; constants = few; simple = λ e. e }

-- ---- a statement, also after a condition

after : (xs ys zs : List ℕ) → Shows (xs ++ ys) → Shows zs → Shows (xs ++ zs)
after xs ys zs h more =
    list_all-append is_printable xs zs ∙ both (list_all is_printable xs) (list_all is_printable zs) (and_parts (list_all is_printable xs) (list_all is_printable ys) (sym (list_all-append is_printable xs ys) ∙ h)).0 more

last : (xs ys : List ℕ) → Shows (xs ++ ys) → Shows ys
last xs ys h = (and_parts (list_all is_printable xs) (list_all is_printable ys) (sym (list_all-append is_printable xs ys) ∙ h)).1

told : (w : WrittenStatement) → IsAlone w → IsGiven (stand_in_alone (statement_of w))
told w a = record {
  text = statement_text (written_alone w);
  printable = a.shown;
  is_read = record { written = written_alone w; spells = record { grammatical = a.grammatical; is = refl }; is = a.is; constants = a.constants };
}

stand_in-told : (w : WrittenStatement) → IsStatement w → Shows (statement_text w) → has_bad_constant w ≡ false → IsGiven (stand_in (statement_of w))
stand_in-told (WrittenStatement.logical_if w s) is shown few =
    let parts = or_parts (has_great_number w) (has_bad_constant s) few in
    let a = alone s is.1 (last (in_brackets (spelling w)) (statement_text s) shown) parts.1 in
    record {
      text = statement_text (WrittenStatement.logical_if w (written_alone s));
      printable = after (in_brackets (spelling w)) (statement_text s) (statement_text (written_alone s)) shown a.shown;
      is_read = record {
        written = WrittenStatement.logical_if w (written_alone s);
        spells = record { grammatical = (is.0, a.grammatical, a.simple is.2); is = refl };
        is = ap (λ (t : Stmt). ThenIf (reading w) t) a.is ∙ sym (stand_in-ThenIf (reading w) (statement_of s));
        constants = neither (has_great_number w) (has_bad_constant (written_alone s)) parts.0 a.constants;
      };
    }
stand_in-told w is shown few = told w (alone w is shown few)

pub stand_in-given : (s : Stmt) → IsGiven s → IsGiven (stand_in s)
stand_in-given s given =
    let read = given.is_read in
    let shown : Shows (statement_text read.written) = subst Shows (sym read.spells.is) given.printable in
    subst (λ (t : Stmt). IsGiven (stand_in t)) read.is (stand_in-told read.written read.spells.grammatical shown read.constants)

-- ---- none is of subroutines

pub subroutines-ThenIf : (condition : RawExpr) (stmt : Stmt) → is_of_subroutines (ThenIf condition stmt) ≡ is_of_subroutines stmt
unfolding Rattle.f77_tree.specs.declared.statements.Stmt.TheBlock.hidden-the_row-Stmt-0 denote.Hole.Carrier.hidden
subroutines-ThenIf condition stmt = refl

pub plain_alone : (w : WrittenStatement) → is_simple w ≡ true → is_of_subroutines (stand_in_alone (statement_of w)) ≡ false
plain_alone (WrittenStatement.logical_if w s) e = let h : false ≡ true = e in absurd cc
plain_alone _ e = refl

plain : (w : WrittenStatement) → IsStatement w → is_of_subroutines (stand_in (statement_of w)) ≡ false
plain (WrittenStatement.logical_if w s) is =
    ap is_of_subroutines (stand_in-ThenIf (reading w) (statement_of s)) ∙ subroutines-ThenIf (reading w) (stand_in_alone (statement_of s)) ∙ plain_alone s is.2
plain _ is = refl

pub stand_in-plain : (s : Stmt) → IsGiven s → is_of_subroutines (stand_in s) ≡ false
stand_in-plain s given =
    let read = given.is_read in
    subst (λ (t : Stmt). is_of_subroutines (stand_in t) ≡ false) read.is (plain read.written read.spells.grammatical)
