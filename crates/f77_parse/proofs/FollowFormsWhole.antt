-- Whole statements: what is kept of them.
use Rattle.std.proofs.Common.{◌≡◌, ℕ, Bool, false, List, [], ◌∷◌, Option, Some, None, if◌then◌else◌, codes, refl, ap, ◌∙◌}
use Rattle.f77_tree.specs.declared.declarations.Kind.TheVariants.{Integer, Logical}
use Rattle.f77_tree.specs.declared.statements.Stmt.{Stmt}
use Rattle.f77_tree.specs.declared.statements.Stmt.TheVariants.{Program, ImplicitNone, Implicit, TypeOf, Dimension, Common, Equivalence, Init, EndIf, End, Else}
use Rattle.f77_tree.specs.StatementGrammar.{WrittenStatement, has_bad_constant}
use Rattle.f77_expr.specs.Reader.{Reads, read_as, after_prefix}
use Rattle.f77_parse.specs.Parts.{name_at}
use Rattle.f77_parse.specs.Forms.{stands_free, whole, alone, do_at, equals_at, simple_at, if_at, else_if_at, subroutine_at, implicit_at, typed_at, dimension_at, common_at, equivalence_at, data_statement_at, keyword_at, form_at, statement_at}
use Rattle.f77_parse.specs.Keeping.{Keeps, kept_list, kept_parts, kept_ranges, name_kept, decl_kept, arrays_kept, first_part_kept, part_kept, group_kept, init_part_kept, next_init_part_kept}
use Rattle.f77_parse.specs.KeptForms.{as_stmt, simple_kept, if_kept, else_if_kept, do_kept, assignment_kept, subroutine_kept, executable_kept, storage_kept, keyword_kept, equated_kept, form_kept, kept_whole}
use Rattle.f77_parse.specs.KeptValues.{kept_statement}
use Rattle.f77_parse.proofs.FollowLemmas.{never_bad, no_flag, as_told, if_told}
use Rattle.f77_parse.proofs.FollowNumbers.{name_told}
use Rattle.f77_parse.proofs.FollowFormsSimple.{told_statement, form_told, subroutine_told, simple_told}
use Rattle.f77_parse.proofs.FollowFormsAssigned.{equals_told, do_told}
use Rattle.f77_parse.proofs.FollowFormsIf.{if_statement_told, else_if_told}
use Rattle.f77_parse.proofs.FollowFormsDeclared.{implicit_told, typed_told, dimension_told, common_told, equivalence_told, data_statement_told}

-- ---- by the keyword

program_told : (bad : Bool) (text : List ℕ) → as_stmt (λ name. Program) (name_kept bad text) ≡ told_statement bad (read_as (λ n. WrittenStatement.program n) (name_at text))
program_told bad text =
    as_told (λ (name : List ℕ). name) never_bad bad kept_statement has_bad_constant bad (λ n. WrittenStatement.program n) (λ name. Program) (name_at text) (name_kept bad text) (name_told bad text) (λ n. refl) (λ n. refl)

keyword_told : (bad : Bool) (text : List ℕ) → keyword_kept bad text ≡ told_statement bad (keyword_at text)
unfolding keyword_kept storage_kept executable_kept
keyword_told bad text =
    form_told bad (λ rest. read_as (λ n. WrittenStatement.program n) (name_at rest)) (after_prefix (codes "PROGRAM") text) _ (λ rest. as_stmt (λ name. Program) (name_kept bad rest)) _ (λ rest. program_told bad rest)
    (form_told bad subroutine_at (after_prefix (codes "SUBROUTINE") text) _ (λ rest. subroutine_kept bad rest) _ (λ rest. subroutine_told bad rest)
    (form_told bad (alone WrittenStatement.implicit_none) (after_prefix (codes "IMPLICITNONE") text) _ (λ rest. Some (ImplicitNone, bad, rest)) _ (λ rest. no_flag ImplicitNone bad rest)
    (form_told bad implicit_at (after_prefix (codes "IMPLICIT") text) _ (λ rest. as_stmt (λ ranges. Implicit ranges) (kept_ranges bad rest)) _ (λ rest. implicit_told bad rest)
    (form_told bad (typed_at Integer) (after_prefix (codes "INTEGER") text) _ (λ rest. as_stmt (λ decls. TypeOf Integer decls) (kept_list decl_kept bad rest)) _ (λ rest. typed_told Integer bad rest)
    (form_told bad (typed_at Logical) (after_prefix (codes "LOGICAL") text) _ (λ rest. as_stmt (λ decls. TypeOf Logical decls) (kept_list decl_kept bad rest)) _ (λ rest. typed_told Logical bad rest)
    (form_told bad dimension_at (after_prefix (codes "DIMENSION") text) _ (λ rest. as_stmt (λ decls. Dimension decls) (arrays_kept bad rest)) _ (λ rest. dimension_told bad rest)
    (form_told bad common_at (after_prefix (codes "COMMON") text) _ (λ rest. as_stmt (λ parts. Common parts) (kept_parts first_part_kept part_kept bad rest)) _ (λ rest. common_told bad rest)
    (form_told bad equivalence_at (after_prefix (codes "EQUIVALENCE") text) _ (λ rest. as_stmt (λ groups. Equivalence groups) (kept_list group_kept bad rest)) _ (λ rest. equivalence_told bad rest)
    (form_told bad data_statement_at (after_prefix (codes "DATA") text) _ (λ rest. as_stmt (λ parts. Init parts) (kept_parts init_part_kept next_init_part_kept bad rest)) _ (λ rest. data_statement_told bad rest)
    (form_told bad (alone WrittenStatement.end_if) (after_prefix (codes "ENDIF") text) _ (λ rest. Some (EndIf, bad, rest)) _ (λ rest. no_flag EndIf bad rest)
    (form_told bad (alone WrittenStatement.end) (after_prefix (codes "END") text) _ (λ rest. Some (End, bad, rest)) _ (λ rest. no_flag End bad rest)
    (form_told bad else_if_at (after_prefix (codes "ELSEIF(") text) _ (λ rest. else_if_kept bad rest) _ (λ rest. else_if_told bad rest)
    (form_told bad (alone WrittenStatement.else) (after_prefix (codes "ELSE") text) _ (λ rest. Some (Else, bad, rest)) _ (λ rest. no_flag Else bad rest)
    (form_told bad if_at (after_prefix (codes "IF(") text) (simple_at text) (λ rest. if_kept bad rest) (simple_kept bad text) (λ rest. if_statement_told bad rest)
    (simple_told bad text)))))))))))))))

-- ---- whole statements

-- the form of a statement, where the code knows what stands free in its text
form_kept_told : (bad : Bool) (text : List ℕ) → form_kept (stands_free 61 text) (stands_free 44 text) bad text ≡ told_statement bad (form_at text)
unfolding form_kept equated_kept
form_kept_told bad text =
    if_told kept_statement has_bad_constant bad (stands_free 61 text) (if stands_free 44 text then do_at text else equals_at text) (keyword_at text) (if stands_free 44 text then do_kept bad text else assignment_kept bad text) (keyword_kept bad text)
    (if_told kept_statement has_bad_constant bad (stands_free 44 text) (do_at text) (equals_at text) (do_kept bad text) (assignment_kept bad text) (do_told bad text) (equals_told bad text))
    (keyword_told bad text)

-- what is kept of the statement that a whole text is
abbrev pub told_whole : Option WrittenStatement → Keeps Stmt
told_whole None = None
told_whole (Some s) = Some (kept_statement s, has_bad_constant s, [])

nothing_left : (x : Reads WrittenStatement) → kept_whole (told_statement false x) ≡ told_whole (whole x)
nothing_left None = refl
nothing_left (Some (s, [])) = refl
nothing_left (Some (s, c ∷ rest)) = refl

pub statement_told : (text : List ℕ) → kept_whole (form_kept (stands_free 61 text) (stands_free 44 text) false text) ≡ told_whole (statement_at text)
statement_told text = ap kept_whole (form_kept_told false text) ∙ nothing_left (form_at text)
