-- The names of a text have six characters at most.
use Rattle.std.proofs.Common.{◌≡◌, ℕ, suc, Bool, true, false, ◌&&◌, ◌||◌, List, [], ◌∷◌, ◌++◌, length, map, flat_map, fold, Some, All, append_assoc, if◌then◌else◌, refl, sym, ap, subst, ◌∙◌}
use Rattle.std.specs.Prelude.{bytes_eq, nat_le, nat_lt, slice_index}
use Rattle.std.specs.List.{list_all, list_any, slice_get}
use Rattle.std.proofs.lemmas.Bool.{and_from, and_parts}
use Rattle.std.proofs.lemmas.List.Concat.{flat_map-cons}
use Rattle.std.proofs.lemmas.List.Folds.{list_all-append}
use Rattle.f77_tree.specs.Grammar.{Written, reading}
use Rattle.f77_tree.specs.Name.{is_capital, is_figure, is_name}
use Rattle.f77_tree.specs.StatementGrammar.{IsGiven, IsPart, IsStatement, WrittenBlock, WrittenPart, WrittenStatement, block_of, is_block, part_of, statement_of}
use Rattle.f77_tree.specs.declared.declarations.CommonPart.{CommonPart}
use Rattle.f77_tree.specs.declared.statements.Labelled.{Labelled}
use Rattle.f77_tree.specs.declared.statements.Stmt.{Stmt}
use Rattle.f77_tree.proofs.AllLemmas.{All-first, All-rest}
use Rattle.layout_rules.specs.Appearances.{names_in, with_name}
use Rattle.layout_rules.specs.Declarations.{all_commons, is_array, parts_of}
use Rattle.layout_rules.proofs.NamesOf.{appearing-ThenIf}
use Rattle.storage_laws.proofs.SymbolicNames.{expression_symbolic, given_symbolic}
use Rattle.program_units.specs.Names.{appearing_here, names_of_unit, option_names, used_names}
use Rattle.program_units.specs.Texts.{IsText}
use Rattle.program_units.specs.Units.{dummies_of, sub_dummies, sub_name, units}
use Rattle.unit_laws.proofs.NamesMet.{appearing_here-ThenIf}
use Rattle.unit_laws.proofs.UnitSources.{IsUnit, text-unit}

abbrev pub AreNames : List (List ℕ) → Type 0
AreNames names = list_all is_name names ≡ true

pub joined : (xs ys : List (List ℕ)) → AreNames xs → AreNames ys → AreNames (xs ++ ys)
joined xs ys h i = list_all-append is_name xs ys ∙ and_from (list_all is_name xs) (list_all is_name ys) h i

-- ---- statements

pub after-condition : (arrays : List ℕ → Bool) (c : Written) (s : WrittenStatement) → IsStatement (WrittenStatement.logical_if c s) → IsGiven (statement_of (WrittenStatement.logical_if c s)) → AreNames (names_in arrays (reading c) ++ appearing_here arrays (statement_of s))
after-condition arrays c (WrittenStatement.call_of name arguments) is given = joined (names_in arrays (reading c)) _ (expression_symbolic arrays c is.0) is.1.1
after-condition arrays c (WrittenStatement.logical_if d t) is given = absurd cc
after-condition arrays c s is given = sym (ap (list_all is_name) (appearing-ThenIf arrays (reading c) (statement_of s))) ∙ given_symbolic arrays (statement_of (WrittenStatement.logical_if c s)) given

pub names-here : (arrays : List ℕ → Bool) (w : WrittenStatement) → IsStatement w → IsGiven (statement_of w) → AreNames (appearing_here arrays (statement_of w))
names-here arrays (WrittenStatement.call_of name arguments) is given = is.1
names-here arrays (WrittenStatement.logical_if c s) is given = ap (list_all is_name) (appearing_here-ThenIf arrays (reading c) (statement_of s)) ∙ after-condition arrays c s is given
names-here arrays w is given = given_symbolic arrays (statement_of w) given

pub sub-named : (w : WrittenStatement) → IsStatement w → AreNames (option_names (sub_name (statement_of w)))
sub-named (WrittenStatement.subroutine name dummies) is = and_from (is_name name) true is.0 refl
sub-named w is = refl

pub dummies-named : (w : WrittenStatement) → IsStatement w → AreNames (sub_dummies (statement_of w))
dummies-named (WrittenStatement.subroutine name dummies) is = is.1
dummies-named w is = refl

pub block-named : (block : WrittenBlock) → is_block block ≡ true → AreNames (option_names (block_of block))
block-named (WrittenBlock.Block name) is = and_from (is_name name) true is refl
block-named WrittenBlock.Unsaid is = refl
block-named WrittenBlock.Blank is = refl

pub parts-named : (parts : List WrittenPart) → All IsPart parts → AreNames (flat_map (λ (part : CommonPart). option_names part.block) (map part_of parts))
parts-named [] all = refl
parts-named (p ∷ parts) all =
    ap (list_all is_name) (flat_map-cons (λ (part : CommonPart). option_names part.block) (part_of p) (map part_of parts))
    ∙ joined (option_names (block_of p.block)) (flat_map (λ (part : CommonPart). option_names part.block) (map part_of parts)) (block-named p.block (IsPart.block (All-first IsPart p parts all))) (parts-named parts (All-rest IsPart p parts all))

pub blocks-named : (w : WrittenStatement) → IsStatement w → AreNames (flat_map (λ (part : CommonPart). option_names part.block) (parts_of (statement_of w)))
blocks-named (WrittenStatement.common parts) is = parts-named parts is.1
blocks-named w is = refl

-- ---- of a statement that is given

pub from-text : (names : Stmt → List (List ℕ)) → ((w : WrittenStatement) → IsStatement w → IsGiven (statement_of w) → AreNames (names (statement_of w))) → (s : Stmt) → IsGiven s → AreNames (names s)
from-text names named s given =
    let read = given.is_read in
    subst (λ (t : Stmt). AreNames (names t)) read.is (named read.written read.spells.grammatical (subst IsGiven (sym read.is) given))

pub each-named : (names : Stmt → List (List ℕ)) → ((s : Stmt) → IsGiven s → AreNames (names s)) → (stmts : List Labelled) → ((j : ℕ) (s : Labelled) → slice_get stmts j ≡ Some s → IsGiven s.stmt) → AreNames (flat_map (λ s. names s.stmt) stmts)
each-named names named [] given = refl
each-named names named (s ∷ rest) given =
    ap (list_all is_name) (flat_map-cons (λ s. names s.stmt) s rest)
    ∙ joined (names s.stmt) (flat_map (λ s. names s.stmt) rest) (named s.stmt (given 0 s refl)) (each-named names named rest (λ j t here. given (suc j) t here))

pub once-named : (seen names : List (List ℕ)) → AreNames seen → AreNames names → AreNames (fold with_name seen names)
once-named seen [] before all = before
once-named seen (n ∷ names) before all =
    let parts = and_parts (is_name n) (list_all is_name names) all in
    once-named (with_name seen n) names (by (list_any (bytes_eq n) seen) parts.0) parts.1
  where
    by : (b : Bool) → is_name n ≡ true → AreNames (if b then seen else seen ++ n ∷ [])
    by true is = before
    by false is = joined seen (n ∷ []) before (and_from (is_name n) true is refl)

-- the blocks of a unit, statement by statement
pub blocks-of : (stmts : List Labelled) → ((j : ℕ) (s : Labelled) → slice_get stmts j ≡ Some s → IsGiven s.stmt) → AreNames (flat_map (λ (part : CommonPart). option_names part.block) (all_commons stmts))
blocks-of [] given = refl
blocks-of (s ∷ rest) given =
    ap (λ (parts : List CommonPart). list_all is_name (flat_map (λ (part : CommonPart). option_names part.block) parts)) (flat_map-cons (λ s. parts_of s.stmt) s rest)
    ∙ ap (list_all is_name) (split (parts_of s.stmt) (all_commons rest))
    ∙ joined (flat_map (λ (part : CommonPart). option_names part.block) (parts_of s.stmt)) (flat_map (λ (part : CommonPart). option_names part.block) (all_commons rest))
    (from-text (λ t. flat_map (λ (part : CommonPart). option_names part.block) (parts_of t)) (λ w is g. blocks-named w is) s.stmt (given 0 s refl)) (blocks-of rest (λ j t here. given (suc j) t here))
  where
    split : (xs ys : List CommonPart) → flat_map (λ (part : CommonPart). option_names part.block) (xs ++ ys) ≡ flat_map (λ (part : CommonPart). option_names part.block) xs ++ flat_map (λ (part : CommonPart). option_names part.block) ys
    split [] ys = refl
    split (x ∷ xs) ys =
        flat_map-cons (λ (part : CommonPart). option_names part.block) x (xs ++ ys)
        ∙ ap (λ (zs : List (List ℕ)). option_names x.block ++ zs) (split xs ys)
        ∙ sym (append_assoc (option_names x.block) (flat_map (λ (part : CommonPart). option_names part.block) xs) (flat_map (λ (part : CommonPart). option_names part.block) ys))
        ∙ ap (λ (zs : List (List ℕ)). zs ++ flat_map (λ (part : CommonPart). option_names part.block) ys) (sym (flat_map-cons (λ (part : CommonPart). option_names part.block) x xs))

abbrev pub used_in : List Labelled → List (List ℕ)
used_in u = names_of_unit u ++ dummies_of u ++ flat_map (λ s. option_names (sub_name s.stmt)) u ++ flat_map (λ part. option_names part.block) (all_commons u)

pub unit-named : (u : List Labelled) → ((j : ℕ) (s : Labelled) → slice_get u j ≡ Some s → IsGiven s.stmt) → AreNames (used_in u)
unit-named u given =
    let subs = flat_map (λ s. option_names (sub_name s.stmt)) u in
    let blocks = flat_map (λ part. option_names part.block) (all_commons u) in
    joined (names_of_unit u ++ dummies_of u ++ subs) blocks
    (joined (names_of_unit u ++ dummies_of u) subs
    (joined (names_of_unit u) (dummies_of u) (once-named [] (flat_map (λ s. appearing_here (is_array u) s.stmt) u) refl (each-named (appearing_here (is_array u)) (from-text (appearing_here (is_array u)) (names-here (is_array u))) u given))
    (each-named sub_dummies (from-text sub_dummies (λ w is g. dummies-named w is)) u given))
    (each-named (λ t. option_names (sub_name t)) (from-text (λ t. option_names (sub_name t)) (λ w is g. sub-named w is)) u given))
    (blocks-of u given)

pub units-named : (us : List (List Labelled)) → ((k : ℕ) (u : List Labelled) → slice_get us k ≡ Some u → AreNames (used_in u)) → AreNames (used_names us)
units-named [] each = refl
units-named (u ∷ us) each = ap (list_all is_name) (flat_map-cons used_in u us) ∙ joined (used_in u) (used_names us) (each 0 u refl) (units-named us (λ k v here. each (suc k) v here))

pub short : (names : List (List ℕ)) → AreNames names → list_all (λ x. nat_le (length x) 6) names ≡ true
short [] all = refl
short (x ∷ names) all =
    let parts = and_parts (is_name x) (list_all is_name names) all in
    let a = and_parts ((nat_lt 0 (length x) && nat_le (length x) 6) && is_capital (slice_index x 0)) (list_all (λ b. is_capital b || is_figure b) x) parts.0 in
    let b = and_parts (nat_lt 0 (length x) && nat_le (length x) 6) (is_capital (slice_index x 0)) a.0 in
    let c = and_parts (nat_lt 0 (length x)) (nat_le (length x) 6) b.0 in
    and_from (nat_le (length x) 6) (list_all (λ x. nat_le (length x) 6) names) c.1 (short names parts.1)

pub text-short : (stmts : List Labelled) → IsText stmts → list_all (λ x. nat_le (length x) 6) (used_names (units stmts)) ≡ true
text-short stmts text = short (used_names (units stmts)) (units-named (units stmts) (λ k u here. unit-named u (IsUnit.read (text-unit stmts text k u here)).given))
