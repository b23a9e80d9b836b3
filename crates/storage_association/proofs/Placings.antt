-- EQUIVALENCE statements, one after another.
use Rattle.std.proofs.Common.{◌≡◌, ℕ, ◌+◌, ◌<◌, ◌≤◌, true, ⊎_elim, List, [], ◌∷◌, ◌++◌, length, get_or, take, Some, sym, ap, subst, ◌∙◌, arith, append_assoc, append-nil}
use Rattle.std.specs.Prelude.{flat_map, slice_get}
use Rattle.std.proofs.lemmas.Bool.{cases_eq}
use Rattle.std.proofs.lemmas.List.{take_all, take_more, flat_map_more}
use Rattle.std.proofs.lemmas.List.Concat.{flat_map-append}
use Rattle.std.proofs.lemmas.Option.{slice_get-get_or}
use Rattle.f77_tree.specs.declared.programs.NameInfo.{NameInfo}
use Rattle.f77_tree.specs.declared.statements.Labelled.{Labelled}
use Rattle.layout_rules.specs.Declarations.{all_commons, all_groups, groups_of}
use Rattle.layout_rules.specs.Storage.{common_equations, group_equations, equations}
use Rattle.layout_rules.specs.StorageFaults.{is_equivalence}
use Rattle.storage_association.specs.CommonStorages.{equations_to, AreRightTo, StayRight}

pub equations-start : (names : List NameInfo) (stmts : List Labelled) → equations_to names stmts 0 ≡ common_equations names (all_commons stmts)
equations-start names stmts = append-nil (common_equations names (all_commons stmts))

pub equations-next : (names : List NameInfo) (stmts : List Labelled) (i : ℕ) (s : Labelled) → i < length stmts → s ≡ get_or stmts i s → equations_to names stmts i ++ flat_map (group_equations names) (groups_of s.stmt) ≡ equations_to names stmts (i + 1)
equations-next names stmts i s lt is =
    let commons = common_equations names (all_commons stmts) in
    let before = all_groups (take i stmts) in
    let groups : all_groups (take (i + 1) stmts) ≡ before ++ groups_of s.stmt = ap all_groups (take_more stmts i s lt ∙ ap (λ x. take i stmts ++ x ∷ []) (sym is)) ∙ sym (flat_map_more (λ (x : Labelled). groups_of x.stmt) [] (take i stmts) s) in
    append_assoc commons (flat_map (group_equations names) before) (flat_map (group_equations names) (groups_of s.stmt))
    ∙ ap (λ es. commons ++ es) (sym (ap (flat_map (group_equations names)) groups ∙ flat_map-append (group_equations names) before (groups_of s.stmt)))

pub equations-all : (names : List NameInfo) (stmts : List Labelled) (i : ℕ) → length stmts ≤ i → equations_to names stmts i ≡ equations names (all_commons stmts) (all_groups stmts)
equations-all names stmts i le = ap (λ (ss : List Labelled). equations names (all_commons stmts) (all_groups ss)) (take_all i stmts le)

same-statement : (stmts : List Labelled) (i j : ℕ) (s t : Labelled) → i < length stmts → s ≡ get_or stmts i s → j ≡ i → slice_get stmts j ≡ Some t → s ≡ t
same-statement stmts i j s t lt is e there =
    let here : slice_get stmts i ≡ Some s = slice_get-get_or stmts i s lt ∙ ap Some (sym is) in
    let same : Some s ≡ Some t = sym here ∙ ap (slice_get stmts) (sym e) ∙ there in
    cc

pub right-next : (names : List NameInfo) (stmts : List Labelled) (i : ℕ) (s : Labelled) → i < length stmts → s ≡ get_or stmts i s → StayRight names stmts i → (is_equivalence s.stmt ≡ true → AreRightTo names stmts (i + 1)) → StayRight names stmts (i + 1)
right-next names stmts i s lt is so_far here j t below there equates =
    ⊎_elim
    (λ e.
    let same : s ≡ t = same-statement stmts i j s t lt is e there in
    let mine : is_equivalence s.stmt ≡ true = ap (λ (x : Labelled). is_equivalence x.stmt) same ∙ equates in
    subst (λ (k : ℕ). AreRightTo names stmts (k + 1)) (sym e) (here mine))
    (λ ne. so_far j t (omega (arith, ne)) there equates)
    (cases_eq j i)

pub stands-here : (stmts : List Labelled) (i : ℕ) (s : Labelled) → i < length stmts → s ≡ get_or stmts i s → slice_get stmts i ≡ Some s
stands-here stmts i s lt is = slice_get-get_or stmts i s lt ∙ ap Some (sym is)
