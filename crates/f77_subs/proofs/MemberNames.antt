-- Names in EQUIVALENCE and DATA, item by item.
use Rattle.std.proofs.Common.{◌≡◌, ℕ, zero, suc, ◌<◌, true, List, [], ◌∷◌, length, get_or, map, flat_map, Some, None, refl, ap, subst, ◌∙◌}
use Rattle.std.specs.Prelude.{bytes_eq}
use Rattle.std.specs.Cmp.Lexicographic.{nat_list_eq_equiv}
use Rattle.std.specs.List.{list_any, slice_get}
use Rattle.std.proofs.lemmas.Bool.{or_left, or_right}
use Rattle.std.proofs.lemmas.Option.{slice_get_read}
use Rattle.f77_tree.specs.declared.declarations.Member.{Member}
use Rattle.f77_tree.specs.declared.statements.Labelled.{Labelled}
use Rattle.program_units.specs.Entities.{entity_of}
use Rattle.program_units.specs.NamedEntities.{HaveNames, has_name}
use Rattle.unit_laws.proofs.UnitNames.{among-part}
use Rattle.unit_laws.proofs.UsedNames.{Among}

abbrev pub member_names : List Member → List (List ℕ)
member_names members = map (λ (member : Member). member.name) members

among-members : (members : List Member) (i : ℕ) (m : Member) → slice_get members i ≡ Some m → Among m.name (member_names members)
among-members [] i m at = let e : None ≡ Some m = at in absurd cc
among-members (x ∷ members) zero m at =
    let e : Some x ≡ Some m = at in
    let same : x ≡ m = cc in
    or_left (bytes_eq m.name x.name) (list_any (bytes_eq m.name) (member_names members)) (ap (λ (y : Member). bytes_eq m.name y.name) same ∙ nat_list_eq_equiv.refl m.name)
among-members (x ∷ members) (suc i) m at = or_right (bytes_eq m.name x.name) (list_any (bytes_eq m.name) (member_names members)) (among-members members i m at)

module _ (us : List (List Labelled)) (k : ℕ) where
  pub member-named : (all items : List Member) (i : ℕ) (m : Member) → items ≡ all → HaveNames us k (member_names all) → i < length items → m ≡ get_or items i m → has_name us (entity_of us k m.name) ≡ true
  member-named all items i m same named inside is =
      named m.name (subst (λ (xs : List Member). Among m.name (member_names xs)) same (among-members items i m (slice_get_read items (length items) i m refl inside is)))

  pub part-named : {X : Type 0} (f : X → List (List ℕ)) (all items : List X) (i : ℕ) (x : X) → items ≡ all → HaveNames us k (flat_map f all) → i < length items → x ≡ get_or items i x → HaveNames us k (f x)
  part-named f all items i x same named inside is name among =
      named name (subst (λ (xs : List _). Among name (flat_map f xs)) same (among-part f name items i x (slice_get_read items (length items) i x refl inside is) among))
