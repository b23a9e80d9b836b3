-- Declarations are read as they are written.
use Rattle.std.proofs.Common.{◌≡◌, ℕ, ◌≤◌, true, not, List, [], ◌∷◌, ◌++◌, length, map, flat_map, All, Option, Some, None, codes, refl, ap, ◌∙◌, append_assoc, arith}
use Rattle.std.proofs.lemmas.Bool.{and_parts, not-true}
use Rattle.std.proofs.lemmas.List.Elements.{All-head, All-tail}
use Rattle.std.specs.List.{list_all}
use Rattle.f77_tree.specs.declared.declarations.Kind.{Kind}
use Rattle.f77_tree.specs.declared.declarations.Kind.TheVariants.{Integer, Logical}
use Rattle.f77_tree.specs.Name.{is_name}
use Rattle.f77_tree.specs.StatementGrammar.{with_commas, in_brackets, decls_text, WrittenDecl, IsDecl, has_dims, kind_text, range_text, WrittenLetters, letters_text, are_letters, WrittenPart, part_text, IsPart, is_said, WrittenMember, group_text, is_group, WrittenData, data_text, is_data, names_text, are_names, WrittenStatement, IsStatement}
use Rattle.f77_expr.specs.Reader.{read_as, and_then_read, after_prefix}
use Rattle.f77_expr.proofs.EachRead.{if_true}
use Rattle.f77_parse.specs.Parts.{where_it, name_at, list_at, letters_at, decl_at, part_at, group_at, data_at, parts_to_end}
use Rattle.f77_parse.specs.Forms.{form_or, alone, implicit_at, typed_at, keyword_at}
use Rattle.f77_parse.proofs.PartCommon.{first_part_reads, common_parts_reads, common_parts_follow}
use Rattle.f77_parse.proofs.PartData.{first_data_reads, data_parts_reads}
use Rattle.f77_parse.proofs.PartDeclarations.{decls_reads}
use Rattle.f77_parse.proofs.PartLetters.{letters_list_reads}
use Rattle.f77_parse.proofs.PartMembers.{groups_reads}
use Rattle.f77_parse.proofs.PartNames.{named_reads}
use Rattle.f77_parse.proofs.PartNumbers.{name_reads}
use Rattle.f77_parse.proofs.FormsReads.{to_the_end}

pub program_reads : (name : List ℕ) → is_name name ≡ true → keyword_at (codes "PROGRAM" ++ name) ≡ Some (WrittenStatement.program name, [])
program_reads name h = ap (read_as (λ n. WrittenStatement.program n)) (to_the_end name_at name name (name_reads name [] h refl))

pub subroutine_reads : (name : List ℕ) (dummies : Option (List (List ℕ))) → is_name name ≡ true → are_names dummies ≡ true → keyword_at (codes "SUBROUTINE" ++ name ++ names_text dummies) ≡ Some (WrittenStatement.subroutine name dummies, [])
subroutine_reads name dummies is are = named_reads (λ name dummies. WrittenStatement.subroutine name dummies) name dummies is are

-- ---- IMPLICIT

-- no kind begins as NONE does
no_none : (kind : Kind) (text : List ℕ) → after_prefix (codes "NONE") (kind_text kind ++ text) ≡ None
no_none Integer text = refl
no_none Logical text = refl

letters_no_none : (l : WrittenLetters) (more : List WrittenLetters) → after_prefix (codes "NONE") (with_commas (map letters_text (l ∷ more))) ≡ None
letters_no_none l [] = no_none l.kind (in_brackets (with_commas (map range_text l.ranges)))
letters_no_none l (next ∷ more) =
    let ranges : List ℕ = in_brackets (with_commas (map range_text l.ranges)) in
    let others : List ℕ = with_commas (map letters_text (next ∷ more)) in
    ap (after_prefix (codes "NONE")) (append_assoc (kind_text l.kind ++ ranges) (codes ",") others ∙ append_assoc (kind_text l.kind) ranges (44 ∷ others)) ∙ no_none l.kind (ranges ++ (44 ∷ others))

pub implicit_reads : (letters : List WrittenLetters) → 1 ≤ length letters → list_all are_letters letters ≡ true → keyword_at (codes "IMPLICIT" ++ with_commas (map letters_text letters)) ≡ Some (WrittenStatement.implicit letters, [])
implicit_reads [] some all = absurd (omega arith)
implicit_reads (l ∷ more) some all =
    ap (λ x. form_or (alone WrittenStatement.implicit_none) x (implicit_at (with_commas (map letters_text (l ∷ more))))) (letters_no_none l more)
    ∙ ap (read_as (λ letters. WrittenStatement.implicit letters)) (to_the_end (list_at letters_at) (with_commas (map letters_text (l ∷ more))) (l ∷ more) (letters_list_reads (l ∷ more) [] some all refl))

-- ---- types and dimensions

decls_read : (decls : List WrittenDecl) → 1 ≤ length decls → All IsDecl decls → list_at decl_at (decls_text decls) ≡ Some (decls, [])
decls_read decls some all = to_the_end (list_at decl_at) (decls_text decls) decls (decls_reads decls [] some all refl)

by_kind : (kind : Kind) (text : List ℕ) → keyword_at (kind_text kind ++ text) ≡ typed_at kind text
by_kind Integer text = refl
by_kind Logical text = refl

pub typed_reads : (kind : Kind) (decls : List WrittenDecl) → 1 ≤ length decls → All IsDecl decls → keyword_at (kind_text kind ++ decls_text decls) ≡ Some (WrittenStatement.typed kind decls, [])
typed_reads kind decls some all = by_kind kind (decls_text decls) ∙ ap (read_as (λ decls. WrittenStatement.typed kind decls)) (decls_read decls some all)

pub dimension_reads : (decls : List WrittenDecl) → 1 ≤ length decls → All IsDecl decls → list_all has_dims decls ≡ true → keyword_at (codes "DIMENSION" ++ decls_text decls) ≡ Some (WrittenStatement.dimension decls, [])
dimension_reads decls some all dims =
    ap (λ x. read_as (λ decls. WrittenStatement.dimension decls) (where_it (λ decls. list_all has_dims decls) x)) (decls_read decls some all)
    ∙ ap (read_as (λ decls. WrittenStatement.dimension decls)) (if_true (list_all has_dims decls) (Some (decls, [])) None dims)

-- ---- COMMON, EQUIVALENCE and DATA

pub common_reads : (parts : List WrittenPart) → IsStatement (WrittenStatement.common parts) → keyword_at (codes "COMMON" ++ flat_map part_text parts) ≡ Some (WrittenStatement.common parts, [])
common_reads [] h = absurd cc
common_reads (first ∷ others) h =
    let both = and_parts (not first.comma) (list_all (λ p. is_said p.block) others) h.0 in
    ap (and_then_read (λ first rest. read_as (λ others. WrittenStatement.common (first ∷ others)) (parts_to_end (length rest) part_at rest)))
    (first_part_reads first (flat_map part_text others) (All-head IsPart first others h.1) (not-true first.comma both.0) (common_parts_follow others both.1))
    ∙ ap (read_as (λ others. WrittenStatement.common (first ∷ others))) (common_parts_reads others (All-tail IsPart first others h.1) both.1)

pub equivalence_reads : (groups : List (List WrittenMember)) → 1 ≤ length groups → list_all is_group groups ≡ true → keyword_at (codes "EQUIVALENCE" ++ with_commas (map group_text groups)) ≡ Some (WrittenStatement.equivalence groups, [])
equivalence_reads groups some all =
    ap (read_as (λ groups. WrittenStatement.equivalence groups)) (to_the_end (list_at group_at) (with_commas (map group_text groups)) groups (groups_reads groups [] some all refl))

pub data_reads : (parts : List WrittenData) → IsStatement (WrittenStatement.init parts) → keyword_at (codes "DATA" ++ flat_map data_text parts) ≡ Some (WrittenStatement.init parts, [])
data_reads [] h = absurd cc
data_reads (first ∷ others) h =
    let both = and_parts (is_data first) (list_all is_data others) h.1 in
    ap (and_then_read (λ first rest. read_as (λ others. WrittenStatement.init (first ∷ others)) (parts_to_end (length rest) data_at rest)))
    (first_data_reads first (flat_map data_text others) both.0 (not-true first.comma h.0))
    ∙ ap (read_as (λ others. WrittenStatement.init (first ∷ others))) (data_parts_reads others both.1)
