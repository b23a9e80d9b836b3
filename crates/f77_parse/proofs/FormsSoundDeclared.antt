-- What the readers of declarations, assignments and DO read is of the grammar, and its text stands before the rest.
use Rattle.std.proofs.Common.{◌≡◌, ℕ, ◌≤◌, true, false, not, List, [], ◌∷◌, ◌++◌, length, map, flat_map, All, codes, ap, ◌∙◌, append_assoc, append-nil}
use Rattle.std.proofs.lemmas.Bool.{and_from}
use Rattle.std.proofs.lemmas.List.Elements.{All-cons}
use Rattle.std.specs.List.{list_all}
use Rattle.f77_tree.specs.declared.declarations.Kind.{Kind}
use Rattle.f77_tree.specs.Name.{is_name}
use Rattle.f77_tree.specs.StatementGrammar.{with_commas, decls_text, IsDecl, has_dims, kind_text, letters_text, are_letters, part_text, IsPart, is_said, group_text, is_group, data_text, is_data, names_text, WrittenStatement}
use Rattle.f77_expr.specs.Reader.{read_as}
use Rattle.f77_expr.proofs.EachRead.{Each, each_then, each_as}
use Rattle.f77_parse.specs.Parts.{where_it, name_at, list_at, letters_at, decl_at, first_part_at, part_at, group_at, data_after, data_at, parts_to_end}
use Rattle.f77_parse.specs.Forms.{subroutine_at, implicit_at, typed_at, dimension_at, common_at, equivalence_at, data_statement_at}
use Rattle.f77_parse.proofs.Followers.{IsAtStart}
use Rattle.f77_parse.proofs.PartCommon.{first_part_sound, common_parts_sound}
use Rattle.f77_parse.proofs.PartData.{first_data_sound, data_parts_sound}
use Rattle.f77_parse.proofs.PartDeclarations.{decls_sound}
use Rattle.f77_parse.proofs.PartLetters.{letters_list_sound}
use Rattle.f77_parse.proofs.PartMembers.{groups_sound}
use Rattle.f77_parse.proofs.PartNames.{named_sound}
use Rattle.f77_parse.proofs.PartNumbers.{name_sound}
use Rattle.f77_parse.proofs.PartReaders.{where_sound, between}
use Rattle.f77_parse.proofs.FormsSound.{IsStatementAtStart}

pub program_sound : (text : List ℕ) → Each (λ s rest. IsStatementAtStart (codes "PROGRAM" ++ text) s rest) (read_as (λ n. WrittenStatement.program n) (name_at text))
program_sound text =
    each_as (λ name rest. IsAtStart (λ name. is_name name ≡ true) (λ name. name) text name rest) (λ s rest. IsStatementAtStart (codes "PROGRAM" ++ text) s rest) (λ n. WrittenStatement.program n) (name_at text) (name_sound text)
    (λ name rest is. (is.0, ap (λ more. codes "PROGRAM" ++ more) is.1))

pub subroutine_sound : (text : List ℕ) → Each (λ s rest. IsStatementAtStart (codes "SUBROUTINE" ++ text) s rest) (subroutine_at text)
subroutine_sound text =
    named_sound (λ s rest. IsStatementAtStart (codes "SUBROUTINE" ++ text) s rest) (λ name dummies. WrittenStatement.subroutine name dummies) text
    (λ name dummies rest is are e. ((is, are), between (codes "SUBROUTINE") name (names_text dummies) rest ∙ ap (λ more. codes "SUBROUTINE" ++ more) e))

pub implicit_sound : (text : List ℕ) → Each (λ s rest. IsStatementAtStart (codes "IMPLICIT" ++ text) s rest) (implicit_at text)
implicit_sound text =
    each_as (λ letters rest. IsAtStart (λ letters. (1 ≤ length letters) × (list_all are_letters letters ≡ true)) (λ letters. with_commas (map letters_text letters)) text letters rest) (λ s rest. IsStatementAtStart (codes "IMPLICIT" ++ text) s rest)
    (λ letters. WrittenStatement.implicit letters) (list_at letters_at text) (letters_list_sound text) (λ letters rest is. (is.0, ap (λ more. codes "IMPLICIT" ++ more) is.1))

pub typed_sound : (kind : Kind) (text : List ℕ) → Each (λ s rest. IsStatementAtStart (kind_text kind ++ text) s rest) (typed_at kind text)
typed_sound kind text =
    each_as (λ ds rest. IsAtStart (λ ds. (1 ≤ length ds) × All IsDecl ds) decls_text text ds rest) (λ s rest. IsStatementAtStart (kind_text kind ++ text) s rest)
    (λ decls. WrittenStatement.typed kind decls) (list_at decl_at text) (decls_sound text)
    (λ decls rest is. (is.0, append_assoc (kind_text kind) (decls_text decls) rest ∙ ap (λ more. kind_text kind ++ more) is.1))

pub dimension_sound : (text : List ℕ) → Each (λ s rest. IsStatementAtStart (codes "DIMENSION" ++ text) s rest) (dimension_at text)
dimension_sound text =
    each_as (λ ds rest. IsAtStart (λ ds. (1 ≤ length ds) × All IsDecl ds) decls_text text ds rest × (list_all has_dims ds ≡ true)) (λ s rest. IsStatementAtStart (codes "DIMENSION" ++ text) s rest)
    (λ decls. WrittenStatement.dimension decls) (where_it (λ decls. list_all has_dims decls) (list_at decl_at text))
    (where_sound (λ ds rest. IsAtStart (λ ds. (1 ≤ length ds) × All IsDecl ds) decls_text text ds rest) (λ decls. list_all has_dims decls) (list_at decl_at text) (decls_sound text))
    (λ decls rest is. ((is.0.0.0, is.0.0.1, is.1), ap (λ more. codes "DIMENSION" ++ more) is.0.1))

pub equivalence_sound : (text : List ℕ) → Each (λ s rest. IsStatementAtStart (codes "EQUIVALENCE" ++ text) s rest) (equivalence_at text)
equivalence_sound text =
    each_as (λ groups rest. IsAtStart (λ groups. (1 ≤ length groups) × (list_all is_group groups ≡ true)) (λ groups. with_commas (map group_text groups)) text groups rest) (λ s rest. IsStatementAtStart (codes "EQUIVALENCE" ++ text) s rest)
    (λ groups. WrittenStatement.equivalence groups) (list_at group_at text) (groups_sound text) (λ groups rest is. (is.0, ap (λ more. codes "EQUIVALENCE" ++ more) is.1))

-- parts up to the end of the text, after the first
to_end : (prefix text_of_first others rest text : List ℕ) (beyond : List ℕ) → text_of_first ++ beyond ≡ text → others ≡ beyond → rest ≡ [] → (prefix ++ (text_of_first ++ others)) ++ rest ≡ prefix ++ text
to_end prefix text_of_first others rest text beyond e same none =
    ap (λ more. (prefix ++ (text_of_first ++ others)) ++ more) none ∙ append-nil (prefix ++ (text_of_first ++ others)) ∙ ap (λ more. prefix ++ (text_of_first ++ more)) same ∙ ap (λ more. prefix ++ more) e

pub common_sound : (text : List ℕ) → Each (λ s rest. IsStatementAtStart (codes "COMMON" ++ text) s rest) (common_at text)
common_sound text =
    each_then (λ p rest. IsAtStart (λ p. IsPart p × (p.comma ≡ false)) part_text text p rest) P (λ first rest. read_as (λ others. WrittenStatement.common (first ∷ others)) (parts_to_end (length rest) part_at rest)) (first_part_at text) (first_part_sound text)
    (λ first beyond is. each_as (λ parts rest. All IsPart parts × (list_all (λ p. is_said p.block) parts ≡ true) × (flat_map part_text parts ≡ beyond) × (rest ≡ [])) P (λ others. WrittenStatement.common (first ∷ others)) (parts_to_end (length beyond) part_at beyond) (common_parts_sound beyond)
    (λ others rest are. (
      (and_from (not first.comma) (list_all (λ p. is_said p.block) others) (ap not is.0.1) are.1, All-cons IsPart first others is.0.0 are.0),
      to_end (codes "COMMON") (part_text first) (flat_map part_text others) rest text beyond is.1 are.2 are.3,
    )))
  where
    P : WrittenStatement → List ℕ → Type 0
    P s rest = IsStatementAtStart (codes "COMMON" ++ text) s rest

pub data_statement_sound : (text : List ℕ) → Each (λ s rest. IsStatementAtStart (codes "DATA" ++ text) s rest) (data_statement_at text)
data_statement_sound text =
    each_then (λ d rest. IsAtStart (λ d. (is_data d ≡ true) × (d.comma ≡ false)) data_text text d rest) P (λ first rest. read_as (λ others. WrittenStatement.init (first ∷ others)) (parts_to_end (length rest) data_at rest)) (data_after false text) (first_data_sound text)
    (λ first beyond is. each_as (λ parts rest. (list_all is_data parts ≡ true) × (flat_map data_text parts ≡ beyond) × (rest ≡ [])) P (λ others. WrittenStatement.init (first ∷ others)) (parts_to_end (length beyond) data_at beyond) (data_parts_sound beyond)
    (λ others rest are. (
      (ap not is.0.1, and_from (is_data first) (list_all is_data others) is.0.0 are.0),
      to_end (codes "DATA") (data_text first) (flat_map data_text others) rest text beyond is.1 are.1 are.2,
    )))
  where
    P : WrittenStatement → List ℕ → Type 0
    P s rest = IsStatementAtStart (codes "DATA" ++ text) s rest
