-- A text that is read as a statement is one that the grammar writes so.
use Rattle.std.proofs.Common.{◌≡◌, ℕ, List, [], ◌∷◌, ◌++◌, Some, None, if◌then◌else◌, codes, sym, subst, ◌∙◌, append-nil}
use Rattle.f77_tree.specs.declared.declarations.Kind.TheVariants.{Integer, Logical}
use Rattle.f77_tree.specs.StatementGrammar.{WrittenStatement, statement_text, IsWrittenStatement}
use Rattle.f77_expr.specs.Reader.{Reads, read_as}
use Rattle.f77_expr.proofs.EachRead.{Each, each_at, each_if, each_weaker}
use Rattle.f77_parse.specs.Parts.{name_at}
use Rattle.f77_parse.specs.Forms.{stands_free, whole, do_at, equals_at, alone, simple_at, if_at, else_if_at, subroutine_at, implicit_at, typed_at, dimension_at, common_at, equivalence_at, data_statement_at, keyword_at, form_at, statement_at}
use Rattle.f77_parse.proofs.FormsSound.{IsStatementAtStart, IsSimpleAtStart, form_or_sound, simple_sound}
use Rattle.f77_parse.proofs.FormsSoundIf.{if_sound, else_if_sound}
use Rattle.f77_parse.proofs.FormsSoundDeclared.{program_sound, subroutine_sound, implicit_sound, typed_sound, dimension_sound, common_sound, equivalence_sound, data_statement_sound}
use Rattle.f77_parse.proofs.FormsSoundAssigned.{equals_sound, do_sound}

-- by its keyword
keyword_sound : (text : List ℕ) → Each (λ s rest. IsStatementAtStart text s rest) (keyword_at text)
keyword_sound text =
    form_or_sound P (λ rest. read_as (λ n. WrittenStatement.program n) (name_at rest)) (codes "PROGRAM") text _ (λ rest e. moved (codes "PROGRAM" ++ rest) e (read_as (λ n. WrittenStatement.program n) (name_at rest)) (program_sound rest))
    (form_or_sound P subroutine_at (codes "SUBROUTINE") text _ (λ rest e. moved (codes "SUBROUTINE" ++ rest) e (subroutine_at rest) (subroutine_sound rest))
    (form_or_sound P (alone WrittenStatement.implicit_none) (codes "IMPLICITNONE") text _ (λ rest e. (tt, e))
    (form_or_sound P implicit_at (codes "IMPLICIT") text _ (λ rest e. moved (codes "IMPLICIT" ++ rest) e (implicit_at rest) (implicit_sound rest))
    (form_or_sound P (typed_at Integer) (codes "INTEGER") text _ (λ rest e. moved (codes "INTEGER" ++ rest) e (typed_at Integer rest) (typed_sound Integer rest))
    (form_or_sound P (typed_at Logical) (codes "LOGICAL") text _ (λ rest e. moved (codes "LOGICAL" ++ rest) e (typed_at Logical rest) (typed_sound Logical rest))
    (form_or_sound P dimension_at (codes "DIMENSION") text _ (λ rest e. moved (codes "DIMENSION" ++ rest) e (dimension_at rest) (dimension_sound rest))
    (form_or_sound P common_at (codes "COMMON") text _ (λ rest e. moved (codes "COMMON" ++ rest) e (common_at rest) (common_sound rest))
    (form_or_sound P equivalence_at (codes "EQUIVALENCE") text _ (λ rest e. moved (codes "EQUIVALENCE" ++ rest) e (equivalence_at rest) (equivalence_sound rest))
    (form_or_sound P data_statement_at (codes "DATA") text _ (λ rest e. moved (codes "DATA" ++ rest) e (data_statement_at rest) (data_statement_sound rest))
    (form_or_sound P (alone WrittenStatement.end_if) (codes "ENDIF") text _ (λ rest e. (tt, e))
    (form_or_sound P (alone WrittenStatement.end) (codes "END") text _ (λ rest e. (tt, e))
    (form_or_sound P else_if_at (codes "ELSEIF(") text _ (λ rest e. moved (codes "ELSEIF(" ++ rest) e (else_if_at rest) (else_if_sound rest))
    (form_or_sound P (alone WrittenStatement.else) (codes "ELSE") text _ (λ rest e. (tt, e))
    (form_or_sound P if_at (codes "IF(") text (simple_at text) (λ rest e. moved (codes "IF(" ++ rest) e (if_at rest) (if_sound rest))
    (each_weaker (λ s rest. IsSimpleAtStart text s rest) P (simple_at text) (λ s rest is. (is.0, is.2)) (simple_sound text))))))))))))))))
  where
    P : WrittenStatement → List ℕ → Type 0
    P s rest = IsStatementAtStart text s rest

    moved : (prefix : List ℕ) → prefix ≡ text → (x : Reads WrittenStatement) → Each (λ s rest. IsStatementAtStart prefix s rest) x → Each P x
    moved prefix e x h = subst (λ (t : List ℕ). Each (λ s rest. IsStatementAtStart t s rest) x) e h

-- by what stands free, and the keyword
form_sound : (text : List ℕ) → Each (λ s rest. IsStatementAtStart text s rest) (form_at text)
form_sound text =
    each_if (λ s rest. IsStatementAtStart text s rest) (stands_free 61 text) (if stands_free 44 text then do_at text else equals_at text) (keyword_at text)
    (λ equals. each_if (λ s rest. IsStatementAtStart text s rest) (stands_free 44 text) (do_at text) (equals_at text) (λ comma. do_sound text) (λ none. equals_sound text))
    (λ none. keyword_sound text)

-- what was read up to the end
pub whole_is : {A : Type 0} (x : Reads A) (a : A) → whole x ≡ Some a → x ≡ Some (a, [])
whole_is None a e = absurd cc
whole_is (Some (b, [])) a e = let same : b ≡ a = cc in cc
whole_is (Some (b, c ∷ rest)) a e = absurd cc

-- a text that is read as a statement is one that the grammar writes so
pub statement_sound : (text : List ℕ) (s : WrittenStatement) → statement_at text ≡ Some s → IsWrittenStatement text s
statement_sound text s e =
    let is : IsStatementAtStart text s [] = each_at (λ v rest. IsStatementAtStart text v rest) (form_at text) (form_sound text) s [] (whole_is (form_at text) s e) in
    record { grammatical = is.0; is = sym (append-nil (statement_text s)) ∙ is.1 }
