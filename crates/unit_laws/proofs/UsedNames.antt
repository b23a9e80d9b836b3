-- The names of units are names of the text, so the names that entities get are none of them.
use Rattle.std.proofs.Common.{◌≡◌, ℕ, zero, suc, ◌+◌, ◌<◌, ◌^◌, true, false, List, [], ◌∷◌, ◌++◌, length, flat_map, Option, Some, None, refl, sym, ap, subst, ◌∙◌}
use Rattle.std.specs.Prelude.{bytes_eq}
use Rattle.std.specs.List.{list_any, slice_get}
use Rattle.std.proofs.lemmas.Bool.{or_left, or_right}
use Rattle.std.proofs.lemmas.List.Concat.{flat_map-cons}
use Rattle.std.proofs.lemmas.List.Folds.{list_any-append}
use Rattle.f77_tree.specs.declared.statements.Labelled.{Labelled}
use Rattle.layout_rules.specs.Declarations.{all_commons}
use Rattle.program_units.specs.declared.entity.Entity.{Entity}
use Rattle.program_units.specs.Names.{name_for, names_of_unit, option_names, same_entity, used_names, y_entities}
use Rattle.program_units.specs.Units.{dummies_of, sub_name, unit_at, unit_or_none}
use Rattle.unit_laws.proofs.OwnNames.{names-free}

abbrev pub Among : List ℕ → List (List ℕ) → Type 0
Among x names = list_any (bytes_eq x) names ≡ true

pub in-front : (x : List ℕ) (xs ys : List (List ℕ)) → Among x xs → Among x (xs ++ ys)
in-front x xs ys has = list_any-append (bytes_eq x) xs ys ∙ or_left (list_any (bytes_eq x) xs) (list_any (bytes_eq x) ys) has

pub behind : (x : List ℕ) (xs ys : List (List ℕ)) → Among x ys → Among x (xs ++ ys)
behind x xs ys has = list_any-append (bytes_eq x) xs ys ∙ or_right (list_any (bytes_eq x) xs) (list_any (bytes_eq x) ys) has

-- the names of a unit that are in use
abbrev pub used_in : List Labelled → List (List ℕ)
used_in u = names_of_unit u ++ dummies_of u ++ flat_map (λ s. option_names (sub_name s.stmt)) u ++ flat_map (λ part. option_names part.block) (all_commons u)

pub first-used : (u : List Labelled) (x : List ℕ) → Among x (names_of_unit u) → Among x (used_in u)
first-used u x has =
    in-front x ((names_of_unit u ++ dummies_of u) ++ flat_map (λ s. option_names (sub_name s.stmt)) u) (flat_map (λ part. option_names part.block) (all_commons u))
    (in-front x (names_of_unit u ++ dummies_of u) (flat_map (λ s. option_names (sub_name s.stmt)) u) (in-front x (names_of_unit u) (dummies_of u) has))

pub used-at : (us : List (List Labelled)) (k : ℕ) (u : List Labelled) (x : List ℕ) → slice_get us k ≡ Some u → Among x (names_of_unit u) → Among x (used_names us)
used-at [] k u x is has = let e : None ≡ Some u = is in absurd cc
used-at (v ∷ us) zero u x is has =
    let e : Some v ≡ Some u = is in
    let same : u ≡ v = cc in
    ap (list_any (bytes_eq x)) (flat_map-cons used_in v us) ∙ in-front x (used_in v) (used_names us) (first-used v x (subst (λ (w : List Labelled). Among x (names_of_unit w)) same has))
used-at (v ∷ us) (suc k) u x is has = ap (list_any (bytes_eq x)) (flat_map-cons used_in v us) ∙ behind x (used_in v) (used_names us) (used-at us k u x is has)

pub used : (us : List (List Labelled)) (k : ℕ) (x : List ℕ) → Among x (names_of_unit (unit_at us k)) → Among x (used_names us)
used us k x has = by_unit (slice_get us k) refl has
  where
    by_unit : (o : Option (List Labelled)) → slice_get us k ≡ o → Among x (names_of_unit (unit_or_none o)) → Among x (used_names us)
    by_unit None is here = let e : false ≡ true = here in absurd cc
    by_unit (Some u) is here = used-at us k u x is here

-- a name that is not in use is none of a unit
pub new-by : (us : List (List Labelled)) (e : Entity) → list_any (bytes_eq (name_for us e)) (used_names us) ≡ false → (k : ℕ) (x : List ℕ) → list_any (bytes_eq x) (names_of_unit (unit_at us k)) ≡ true → name_for us e ≡ x → ⊥
new-by us e free k x has same =
    let both : true ≡ false = sym (used us k x has) ∙ ap (λ (name : List ℕ). list_any (bytes_eq name) (used_names us)) (sym same) ∙ free in
    cc

pub names-new : (us : List (List Labelled)) → length (y_entities us) + length (used_names us) < 2 ^ 64 → (e : Entity) → list_any (same_entity e) (y_entities us) ≡ true → (k : ℕ) (x : List ℕ) → list_any (bytes_eq x) (names_of_unit (unit_at us k)) ≡ true → name_for us e ≡ x → ⊥
names-new us few e is k x has same = new-by us e (names-free us few e is) k x has same
