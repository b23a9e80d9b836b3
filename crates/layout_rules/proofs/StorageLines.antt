-- The first fault of a kind, and what the order of statements says of declarations and DATA.
use Rattle.std.proofs.Common.{◌≡◌, ℕ, ◌<◌, Bool, true, false, not, ◌&&◌, ◌||◌, cond, List, [], ◌∷◌, ◌++◌, length, get_or, All, Some, None, ⊎_elim, refl, sym, ap, subst, ◌∙◌, append_assoc, append-nil, arith}
use Rattle.std.specs.Prelude.{nat_lt, ◌==◌, bytes_eq}
use Rattle.std.specs.List.{list_any}
use Rattle.std.proofs.lemmas.Bool.{false_from_ne_true, or_parts, or_from, or_left, or_cases, true≢false, eqb-true, and_left}
use Rattle.std.proofs.lemmas.List.{length-map, get_or-map}
use Rattle.std.proofs.lemmas.List.Folds.{list_any-append}
use Rattle.f77_tree.specs.declared.declarations.Decl.{Decl}
use Rattle.f77_tree.specs.declared.programs.NameInfo.{NameInfo}
use Rattle.f77_tree.specs.declared.statements.Labelled.{Labelled}
use Rattle.f77_tree.specs.declared.statements.Stmt.{Stmt}
use Rattle.f77_tree.specs.declared.statements.Stmt.TheVariants.{Equivalence, Init}
use Rattle.layout_rules.specs.Faults.{first_after, first_answer, answer_or}
use Rattle.layout_rules.specs.Declarations.{declarators, all_declarators, has_dims, dims_told, dims_or_none, all_groups, groups_of}
use Rattle.layout_rules.specs.Order.{rank, is_out_of_order}
use Rattle.layout_rules.specs.StorageFaults.{is_equivalence, is_data, are_wrong_dims, has_dims_twice, is_common_twice, has_wrong_member, gives_places, has_wrong_dims, has_wrong_declaration, has_wrong_places, has_wrong_data, has_wrong_storage}
use Rattle.layout_rules.specs.Appearances.{all_names}
use Rattle.layout_rules.specs.Layout.{name_info, names_of}
use Rattle.layout_rules.specs.PlacedNames.{HasRightDims}
use Rattle.layout_rules.proofs.FlatParts.{list_any-flat_map}

abbrev pub Fault : Type 0
Fault = List Labelled → Labelled → Bool

-- ---- a statement without the fault, and one with it

pub after_clear : (fault : Fault) (above rest : List Labelled) (s : Labelled) → first_after fault above (s ∷ rest) ≡ None → fault above s ≡ false
after_clear fault above rest s none = false_from_ne_true (fault above s) (λ is. let some : first_after fault above (s ∷ rest) ≡ Some s.line = rw is refl in cc)

pub after_next : (fault : Fault) (above rest : List Labelled) (s : Labelled) → fault above s ≡ false → first_after fault above (s ∷ rest) ≡ first_after fault (above ++ s ∷ []) rest
after_next fault above rest s clear = rw clear refl

pub after_here : (fault : Fault) (above rest : List Labelled) (s : Labelled) → fault above s ≡ true → first_after fault above (s ∷ rest) ≡ Some s.line
after_here fault above rest s is = rw is refl

-- ---- the order of declarations and DATA

abbrev pub comes_late : Labelled → Bool
comes_late a = rank a.stmt == 3

-- after DATA there is no statement of a lower rank
pub late_rank : (above : List Labelled) (s : Labelled) → list_any comes_late above ≡ true → is_out_of_order above s ≡ false → nat_lt (rank s.stmt) 3 ≡ false
late_rank [] s some clear = absurd (true≢false (sym some))
late_rank (a ∷ above) s some clear =
    let parts = or_parts (nat_lt (rank s.stmt) (rank a.stmt) || (rank a.stmt == 0 && rank s.stmt == 0) || rank a.stmt == 4) (is_out_of_order above s) clear in
    ⊎_elim
    (λ (here : comes_late a ≡ true).
    let rank_a : rank a.stmt ≡ 3 = eqb-true (rank a.stmt) 3 here in
    let first = or_parts (nat_lt (rank s.stmt) (rank a.stmt) || (rank a.stmt == 0 && rank s.stmt == 0)) (rank a.stmt == 4) parts.0 in
    let second = or_parts (nat_lt (rank s.stmt) (rank a.stmt)) (rank a.stmt == 0 && rank s.stmt == 0) first.0 in
    ap (λ (n : ℕ). nat_lt (rank s.stmt) n) (sym rank_a) ∙ second.0)
    (λ (later : list_any comes_late above ≡ true). late_rank above s later parts.1)
    (or_cases (comes_late a) (list_any comes_late above) some)

late_places : (s : Labelled) → nat_lt (rank s.stmt) 3 ≡ false → is_equivalence s.stmt ≡ false
late_places s late = no_equivalence s.stmt late
  where
    no_equivalence : (stmt : Stmt) → nat_lt (rank stmt) 3 ≡ false → is_equivalence stmt ≡ false
    no_equivalence (Equivalence groups) late = absurd (true≢false late)
    no_equivalence _ late = refl

pub still_late : (above : List Labelled) (s : Labelled) → list_any comes_late above ≡ true → list_any comes_late (above ++ s ∷ []) ≡ true
still_late above s some = list_any-append comes_late above (s ∷ []) ∙ or_left (list_any comes_late above) (list_any comes_late (s ∷ [])) some

-- no EQUIVALENCE stands after DATA
pub no_places_after : (names : List NameInfo) (whole above rest : List Labelled) → list_any comes_late above ≡ true → first_after is_out_of_order above rest ≡ None → first_after (has_wrong_places names whole) above rest ≡ None
no_places_after names whole above [] some ordered = refl
no_places_after names whole above (s ∷ rest) some ordered =
    let clear = after_clear is_out_of_order above rest s ordered in
    let none : has_wrong_places names whole above s ≡ false = and_left (is_equivalence s.stmt) (not (gives_places names whole (all_groups above ++ groups_of s.stmt))) (late_places s (late_rank above s some clear)) in
    after_next (has_wrong_places names whole) above rest s none
    ∙ no_places_after names whole (above ++ s ∷ []) rest (still_late above s some) (sym (after_next is_out_of_order above rest s clear) ∙ ordered)

-- ---- sizes

-- the dimensions that declarators give to a name
told_right : (name : List ℕ) (decls : List Decl) → list_any (λ decl. are_wrong_dims decl.dims) decls ≡ false → are_wrong_dims (dims_or_none (first_answer (dims_told name) decls)) ≡ false
told_right name [] right = refl
told_right name (decl ∷ decls) right =
    let parts = or_parts (are_wrong_dims decl.dims) (list_any (λ d. are_wrong_dims d.dims) decls) right in
    elim (bytes_eq decl.name name && has_dims decl) as (λ t. are_wrong_dims (dims_or_none (answer_or (cond t (Some decl.dims) None) (first_answer (dims_told name) decls))) ≡ false) [ true ↦ parts.0 | false ↦ told_right name decls parts.1 ]

pub right_sizes : (stmts : List Labelled) → list_any has_wrong_dims stmts ≡ false → All HasRightDims (names_of stmts)
right_sizes stmts right = λ k d lt.
    let decls : list_any (λ decl. are_wrong_dims decl.dims) (all_declarators stmts) ≡ false = list_any-flat_map (λ (decl : Decl). are_wrong_dims decl.dims) (λ (s : Labelled). declarators s.stmt) stmts ∙ right in
    let inside : k < length (all_names stmts) = omega (arith, length-map (all_names stmts) (name_info stmts)) in
    let name : List ℕ = get_or (all_names stmts) k [] in
    ap (λ (info : NameInfo). are_wrong_dims info.dims) (get_or-map (name_info stmts) (all_names stmts) k [] d inside)
    ∙ told_right name (all_declarators stmts) decls

-- ---- statements

pub data_late : (stmt : Stmt) → is_data stmt ≡ true → (rank stmt == 3) ≡ true
data_late (Init parts) is = refl
data_late _ is = absurd (true≢false (sym is))

-- what a statement without a fault of storage lacks
pub record IsRightStatement (names placed : List NameInfo) (whole above : List Labelled) (s : Labelled) : Type 0 where
  pub first : (has_dims_twice above s || has_wrong_dims s || is_common_twice above s) ≡ false
  pub dims_once : has_dims_twice above s ≡ false
  pub dims : has_wrong_dims s ≡ false
  pub common_once : is_common_twice above s ≡ false
  pub members : has_wrong_member names s ≡ false
  pub places : has_wrong_places names whole above s ≡ false
  pub values : has_wrong_data placed above s ≡ false

-- what no statement has twice or wrong, whatever else it lacks
pub declared_right : (above : List Labelled) (s : Labelled) (other : Bool) → (has_dims_twice above s || has_wrong_dims s || is_common_twice above s || other) ≡ false → (has_dims_twice above s ≡ false) × (has_wrong_dims s ≡ false) × (is_common_twice above s ≡ false)
declared_right above s other clear =
    let most = or_parts (has_dims_twice above s || has_wrong_dims s) (is_common_twice above s) (or_parts (has_dims_twice above s || has_wrong_dims s || is_common_twice above s) other clear).0 in
    let dims = or_parts (has_dims_twice above s) (has_wrong_dims s) most.0 in
    (dims.0, dims.1, most.1)

pub right_statement : (names placed : List NameInfo) (whole above : List Labelled) (s : Labelled) → has_wrong_storage names placed whole above s ≡ false → IsRightStatement names placed whole above s
right_statement names placed whole above s clear =
    let both = or_parts (has_wrong_declaration names above s || has_wrong_places names whole above s) (has_wrong_data placed above s) clear in
    let parts = or_parts (has_wrong_declaration names above s) (has_wrong_places names whole above s) both.0 in
    let declaration = or_parts (has_dims_twice above s || has_wrong_dims s || is_common_twice above s) (has_wrong_member names s) parts.0 in
    let each = declared_right above s (has_wrong_member names s) parts.0 in
    record { first = declaration.0; dims_once = each.0; dims = each.1; common_once = each.2; members = declaration.1; places = parts.1; values = both.1 }

-- ---- all statements

-- what each statement without the fault keeps is so after all of them
pub kept-after : (fault : Fault) (P : List Labelled → Type 0) → ((above : List Labelled) (s : Labelled) → fault above s ≡ false → P above → P (above ++ s ∷ [])) → (above rest : List Labelled) → first_after fault above rest ≡ None → P above → P (above ++ rest)
kept-after fault P keeps above [] none so = subst P (sym (append-nil above)) so
kept-after fault P keeps above (s ∷ rest) none so =
    let clear = after_clear fault above rest s none in
    subst P (append_assoc above (s ∷ []) rest) (kept-after fault P keeps (above ++ s ∷ []) rest (sym (after_next fault above rest s clear) ∙ none) (keeps above s clear so))

-- where no statement has the fault, none is bad, if a bad one has it
pub none-any : (fault : Fault) (bad : Labelled → Bool) → ((above : List Labelled) (s : Labelled) → fault above s ≡ false → bad s ≡ false) → (above stmts : List Labelled) → first_after fault above stmts ≡ None → list_any bad stmts ≡ false
none-any fault bad lacks above [] right = refl
none-any fault bad lacks above (s ∷ rest) right =
    let clear = after_clear fault above rest s right in
    or_from (bad s) (list_any bad rest) (lacks above s clear) (none-any fault bad lacks (above ++ s ∷ []) rest (sym (after_next fault above rest s clear) ∙ right))
