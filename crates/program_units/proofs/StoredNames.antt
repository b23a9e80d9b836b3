-- Names of storage and dummies, met one by one.
use Rattle.std.proofs.Common.{◌≡◌, ℕ, ◌+◌, ◌<◌, Bool, true, false, ◌||◌, cond, List, [], ◌∷◌, ◌++◌, length, get_or, take, fold, refl, sym, ap, ◌∙◌}
use Rattle.std.specs.Prelude.{bytes_eq, filter, flat_map, if◌then◌else◌}
use Rattle.std.specs.List.{list_any}
use Rattle.std.proofs.lemmas.List.Sums.{fold-append}
use mathlib.Core.Path.{fun_ext}
use Rattle.f77_tree.specs.declared.statements.Labelled.{Labelled}
use Rattle.f77_tree.specs.declared.statements.Stmt.{Stmt}
use Rattle.layout_rules.specs.Appearances.{appearing, each_once, with_name}
use Rattle.layout_rules.specs.Declarations.{is_array}
use Rattle.declared_names.specs.Described.{Described, described, is_array_told}
use Rattle.layout_rules.specs.Faults.{has_repeat}
use Rattle.layout_rules.proofs.FlatParts.{flat_map_taken}
use Rattle.f77_tree.proofs.NameLemmas.{bytes_eq-same}
use Rattle.program_units.proofs.NamesAbove.{any-push, or-none}
use Rattle.program_units.specs.Refusals.{has_wrong_dummy, is_of_storage, names_of_storage}
use Rattle.program_units.specs.Units.{sub_dummies}
use Rattle.program_units.specs.Dummies.{are_wrong_dummies, stored}

-- ---- the names of storage

abbrev here : List Labelled → Labelled → List (List ℕ)
here unit s = stored (is_array unit) s.stmt

abbrev pub stored_in : (arrays : List ℕ → Bool) → List Labelled → List (List ℕ)
stored_in arrays stmts = flat_map (λ s. appearing arrays s.stmt) stmts

pub stored-step : (arrays : List ℕ → Bool) (s : Labelled) (rest : List (List ℕ)) (stored_rest : List Labelled) → rest ≡ stored_in arrays stored_rest → (b : Bool)
    → (if b then appearing arrays s.stmt else []) ++ rest ≡ stored_in arrays (cond b (s ∷ stored_rest) stored_rest)
stored-step arrays s rest stored_rest is true = ap (λ (names : List (List ℕ)). appearing arrays s.stmt ++ names) is
stored-step arrays s rest stored_rest is false = is

pub stored-by : (arrays : List ℕ → Bool) (stmts : List Labelled) → flat_map (λ s. stored arrays s.stmt) stmts ≡ stored_in arrays (filter (λ s. is_of_storage s.stmt) stmts)
stored-by arrays [] = refl
stored-by arrays (s ∷ stmts) =
    stored-step arrays s (flat_map (λ a. stored arrays a.stmt) stmts) (filter (λ a. is_of_storage a.stmt) stmts) (stored-by arrays stmts) (is_of_storage s.stmt)

pub storage-is : (unit : List Labelled) → each_once (flat_map (λ s. stored (is_array unit) s.stmt) unit) ≡ each_once (names_of_storage unit)
storage-is unit = ap each_once (stored-by (is_array unit) unit)

pub storage-more : (unit : List Labelled) (i : ℕ) (s : Labelled) (said : Described) → i < length unit → s ≡ get_or unit i s → said ≡ described unit
    → fold with_name (each_once (flat_map (λ a. stored (is_array unit) a.stmt) (take i unit))) (stored (is_array_told said) s.stmt) ≡ each_once (flat_map (λ a. stored (is_array unit) a.stmt) (take (i + 1) unit))
storage-more unit i s said inside stands is =
    ap (λ (told : Described). fold with_name (each_once (flat_map (here unit) (take i unit))) (stored (is_array_told told) s.stmt)) is
    ∙ sym (fold-append with_name [] (flat_map (here unit) (take i unit)) (here unit s))
    ∙ ap each_once (sym (flat_map_taken (here unit) unit i s inside stands))

-- ---- names that are told once are those that are told

pub or-known : (a b : Bool) → (a ≡ true → b ≡ true) → b ≡ (b || a)
or-known true b known = known refl ∙ ap (λ (c : Bool). c || true) (sym (known refl))
or-known false true known = refl
or-known false false known = refl

pub or-assoc : (a b c : Bool) → ((a || b) || c) ≡ (a || (b || c))
or-assoc true b c = refl
or-assoc false b c = refl

pub told-step : (x : List ℕ) (seen : List (List ℕ)) (n : List ℕ) → list_any (bytes_eq x) (with_name seen n) ≡ (list_any (bytes_eq x) seen || bytes_eq x n)
told-step x seen n = by_test (list_any (bytes_eq n) seen) refl
  where
    by_test : (b : Bool) → list_any (bytes_eq n) seen ≡ b → list_any (bytes_eq x) (if b then seen else seen ++ n ∷ []) ≡ (list_any (bytes_eq x) seen || bytes_eq x n)
    by_test true known = or-known (bytes_eq x n) (list_any (bytes_eq x) seen) (λ (same : bytes_eq x n ≡ true). ap (λ (y : List ℕ). list_any (bytes_eq y) seen) (bytes_eq-same x n same) ∙ known)
    by_test false known = any-push (bytes_eq x) seen n

pub told-all : (x : List ℕ) (seen names : List (List ℕ)) → list_any (bytes_eq x) (fold with_name seen names) ≡ (list_any (bytes_eq x) seen || list_any (bytes_eq x) names)
told-all x seen [] = sym (or-none (list_any (bytes_eq x) seen))
told-all x seen (n ∷ names) =
    told-all x (with_name seen n) names
    ∙ ap (λ (b : Bool). b || list_any (bytes_eq x) names) (told-step x seen n)
    ∙ or-assoc (list_any (bytes_eq x) seen) (bytes_eq x n) (list_any (bytes_eq x) names)

-- the dummies of a statement of the unit
pub wrong-is : (unit : List Labelled) (names : List (List ℕ)) (s : Stmt) → names ≡ each_once (names_of_storage unit) → are_wrong_dummies names (sub_dummies s) ≡ has_wrong_dummy unit s
wrong-is unit names s is =
    ap (λ (told : List (List ℕ)). are_wrong_dummies told (sub_dummies s)) is
    ∙ ap (λ (test : List ℕ → Bool). has_repeat bytes_eq [] (sub_dummies s) || list_any test (sub_dummies s)) (fun_ext (λ d. told-all d [] (names_of_storage unit)))
