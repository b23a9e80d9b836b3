-- Declarations: what is kept of them.
use Rattle.std.proofs.Common.{◌≡◌, ◌||◌, ℕ, Bool, false, List, [], ◌∷◌, length, map, Some, None, refl, sym, ap, ◌∙◌}
use Rattle.std.specs.Prelude.{flat_map}
use Rattle.std.specs.List.{list_any, list_all}
use Rattle.f77_tree.specs.declared.declarations.Kind.{Kind}
use Rattle.f77_tree.specs.declared.statements.Stmt.{Stmt}
use Rattle.f77_tree.specs.declared.statements.Stmt.TheVariants.{Implicit, TypeOf, Dimension, Common, Equivalence, Init}
use Rattle.f77_tree.specs.StatementGrammar.{SignedDigits, WrittenStatement, has_bad_constant, has_dims, is_great, are_great, decl_numbers, letters_of, value_is_bad}
use Rattle.f77_expr.specs.Reader.{Reads, read_as, and_then_read}
use Rattle.f77_parse.specs.Parts.{where_it, decl_at, letters_at, list_at, parts_to_end, first_part_at, part_at, group_at, data_after, data_at}
use Rattle.f77_parse.specs.Forms.{implicit_at, typed_at, dimension_at, common_at, equivalence_at, data_statement_at}
use Rattle.f77_parse.specs.Keeping.{Keeps, kept_list, kept_parts, kept_ranges, decl_kept, arrays_kept, first_part_kept, part_kept, group_kept, init_part_kept, next_init_part_kept}
use Rattle.f77_parse.specs.KeptForms.{as_stmt}
use Rattle.f77_parse.specs.KeptValues.{kept_decl, kept_part, kept_member, kept_data, kept_statement}
use Rattle.f77_parse.proofs.FollowLemmas.{told, never_bad, as_told}
use Rattle.f77_parse.proofs.FollowLists.{list_told, parts_told}
use Rattle.f77_parse.proofs.FollowDeclarations.{decl_is_great, any_among, decls_told, arrays_told, ranges_told, part_is_great, first_part_told, part_told}
use Rattle.f77_parse.proofs.FollowMembers.{member_is_great, group_told, data_is_bad, data_told, next_data_told}
use Rattle.f77_parse.proofs.FollowFormsSimple.{told_statement}

-- ---- numbers that are too great

any_same : {A : Type 0} (p q : A → Bool) → ((x : A) → p x ≡ q x) → (xs : List A) → list_any p xs ≡ list_any q xs
any_same p q same [] = refl
any_same p q same (x ∷ xs) = ap (λ (b : Bool). b || list_any p xs) (same x) ∙ ap (λ (b : Bool). q x || b) (any_same p q same xs)

pub great_in : {A : Type 0} (numbers : A → List SignedDigits) (xs : List A) → are_great (flat_map numbers xs) ≡ list_any (λ x. are_great (numbers x)) xs
great_in numbers xs = any_among (λ n. is_great n.digits) numbers xs

-- ---- statements of what was read

module _ {A V : Type 0} (value : A → V) (is_bad : A → Bool) (f : A → WrittenStatement) (g : V → Stmt) (is : (a : A) → g (value a) ≡ kept_statement (f a)) (same : (a : A) → has_bad_constant (f a) ≡ is_bad a) where
  made_told : (bad : Bool) (x : Reads A) (k : Keeps V) → k ≡ told value is_bad bad x → as_stmt g k ≡ told_statement bad (read_as f x)
  made_told bad x k e = as_told value is_bad bad kept_statement has_bad_constant bad f g x k e is (λ a. ap (λ (b : Bool). bad || b) (sym (same a)))

pub implicit_told : (bad : Bool) (text : List ℕ) → as_stmt (λ ranges. Implicit ranges) (kept_ranges bad text) ≡ told_statement bad (implicit_at text)
implicit_told bad text =
    made_told (flat_map letters_of) never_bad (λ letters. WrittenStatement.implicit letters) (λ ranges. Implicit ranges) (λ letters. refl) (λ letters. refl) bad (list_at letters_at text) (kept_ranges bad text) (ranges_told bad text)

pub typed_told : (kind : Kind) (bad : Bool) (text : List ℕ) → as_stmt (λ decls. TypeOf kind decls) (kept_list decl_kept bad text) ≡ told_statement bad (typed_at kind text)
typed_told kind bad text =
    made_told (map kept_decl) (list_any decl_is_great) (λ decls. WrittenStatement.typed kind decls) (λ decls. TypeOf kind decls) (λ decls. refl) (λ decls. great_in decl_numbers decls) bad (list_at decl_at text) (kept_list decl_kept bad text) (decls_told bad text)

pub dimension_told : (bad : Bool) (text : List ℕ) → as_stmt (λ decls. Dimension decls) (arrays_kept bad text) ≡ told_statement bad (dimension_at text)
dimension_told bad text =
    made_told (map kept_decl) (list_any decl_is_great) (λ decls. WrittenStatement.dimension decls) (λ decls. Dimension decls) (λ decls. refl) (λ decls. great_in decl_numbers decls) bad (where_it (λ decls. list_all has_dims decls) (list_at decl_at text)) (arrays_kept bad text) (arrays_told bad text)

pub equivalence_told : (bad : Bool) (text : List ℕ) → as_stmt (λ groups. Equivalence groups) (kept_list group_kept bad text) ≡ told_statement bad (equivalence_at text)
equivalence_told bad text =
    made_told (map (map kept_member)) (list_any (list_any member_is_great)) (λ groups. WrittenStatement.equivalence groups) (λ groups. Equivalence groups) (λ groups. refl)
    (λ groups. great_in (λ members. flat_map (λ m. m.subs) members) groups ∙ any_same (λ members. are_great (flat_map (λ m. m.subs) members)) (list_any member_is_great) (λ members. great_in (λ m. m.subs) members) groups)
    bad (list_at group_at text) (kept_list group_kept bad text) (list_told (map kept_member) (list_any member_is_great) group_at group_kept group_told bad text)

-- ---- statements of parts up to the end

as_whole : {A : Type 0} (f : List A → WrittenStatement) (part : List ℕ → Reads A) (x : Reads A) → and_then_read (λ first rest. read_as (λ others. f (first ∷ others)) (parts_to_end (length rest) part rest)) x ≡ read_as f (and_then_read (λ a rest. read_as (λ others. a ∷ others) (parts_to_end (length rest) part rest)) x)
as_whole {A = A} f part None = refl
as_whole {A = A} f part (Some (first, rest)) = here (parts_to_end (length rest) part rest)
  where
    here : (x : Reads (List A)) → read_as (λ others. f (first ∷ others)) x ≡ read_as f (read_as (λ others. first ∷ others) x)
    here None = refl
    here (Some (others, more)) = refl

pub common_told : (bad : Bool) (text : List ℕ) → as_stmt (λ parts. Common parts) (kept_parts first_part_kept part_kept bad text) ≡ told_statement bad (common_at text)
common_told bad text =
    made_told (map kept_part) (list_any part_is_great) (λ parts. WrittenStatement.common parts) (λ parts. Common parts) (λ parts. refl)
    (λ parts. great_in (λ p. flat_map decl_numbers p.decls) parts ∙ any_same (λ p. are_great (flat_map decl_numbers p.decls)) part_is_great (λ p. great_in decl_numbers p.decls) parts)
    bad (and_then_read (λ a rest. read_as (λ others. a ∷ others) (parts_to_end (length rest) part_at rest)) (first_part_at text)) (kept_parts first_part_kept part_kept bad text)
    (parts_told kept_part part_is_great part_at part_kept part_told first_part_at first_part_kept first_part_told bad text)
    ∙ ap (told_statement bad) (sym (as_whole (λ parts. WrittenStatement.common parts) part_at (first_part_at text)))

pub data_statement_told : (bad : Bool) (text : List ℕ) → as_stmt (λ parts. Init parts) (kept_parts init_part_kept next_init_part_kept bad text) ≡ told_statement bad (data_statement_at text)
data_statement_told bad text =
    made_told (map kept_data) (list_any data_is_bad) (λ parts. WrittenStatement.init parts) (λ parts. Init parts) (λ parts. refl)
    (λ parts. any_same (λ d. are_great (flat_map (λ m. m.subs) d.items) || list_any value_is_bad d.values) data_is_bad (λ d. ap (λ (b : Bool). b || list_any value_is_bad d.values) (great_in (λ m. m.subs) d.items)) parts)
    bad (and_then_read (λ a rest. read_as (λ others. a ∷ others) (parts_to_end (length rest) data_at rest)) (data_after false text)) (kept_parts init_part_kept next_init_part_kept bad text)
    (parts_told kept_data data_is_bad data_at next_init_part_kept next_data_told (data_after false) init_part_kept data_told bad text)
    ∙ ap (told_statement bad) (sym (as_whole (λ parts. WrittenStatement.init parts) data_at (data_after false text)))
