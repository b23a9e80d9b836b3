-- The members of EQUIVALENCE and the items of DATA of a source without faults of storage.
use Rattle.std.proofs.Common.{◌≡◌, ◌<◌, ◌&&◌, ⊎_elim, inl, inr, ℤ, true, false, not, List, [], ◌∷◌, length, All, None, refl, sym, ap, subst, ◌∙◌, arith}
use Rattle.std.specs.Prelude.{int_le, ◌==◌}
use Rattle.std.specs.List.{list_any}
use Rattle.std.proofs.lemmas.Bool.{or_cases, and_parts, not-false, eqb-true, true≢false}
use Rattle.std.proofs.lemmas.Int.{ints}
use Rattle.std.proofs.lemmas.List.Elements.{All-nil, All-weaker}
use Rattle.f77_tree.specs.declared.declarations.Dim.{Dim}
use Rattle.f77_tree.specs.declared.declarations.InitPart.{InitPart}
use Rattle.f77_tree.specs.declared.declarations.Member.{Member}
use Rattle.f77_tree.specs.declared.programs.NameInfo.{NameInfo}
use Rattle.f77_tree.specs.declared.statements.Labelled.{Labelled}
use Rattle.f77_tree.specs.declared.statements.Stmt.{Stmt}
use Rattle.f77_tree.specs.declared.statements.Stmt.TheVariants.{Equivalence, Init}
use Rattle.f77_tree.specs.Value.{dims_of}
use Rattle.f77_tree.specs.Declarations.{index_of, member_index, AreWithin, IsMember, IsGroup}
use Rattle.layout_rules.specs.Faults.{first_line}
use Rattle.layout_rules.specs.Declarations.{groups_of, all_groups, inits_of, all_inits}
use Rattle.layout_rules.specs.Layout.{names_of, placed_names}
use Rattle.layout_rules.specs.Source.{IsSource}
use Rattle.layout_rules.specs.StorageFaults.{are_within, is_member, members_of, has_wrong_member, has_wrong_storage}
use Rattle.layout_rules.specs.ReadDeclarations.{IsReadGroup}
use Rattle.layout_rules.proofs.FlatParts.{each_part, none-bad}
use Rattle.layout_rules.proofs.StorageLines.{none-any, right_statement}
use Rattle.layout_rules.proofs.ProperPlaced.{placed_names-agrees}
use Rattle.storage_laws.proofs.DeclaredForms.{All-flat_map, all_groups-read}
use Rattle.storage_laws.proofs.DeclaredNames.{same_index}
use Rattle.storage_laws.proofs.DeclaredKnown.{GroupKnown, all_groups-known, all_inits-known}
use Rattle.storage_laws.proofs.DeclaredCommon.{known_placed}

-- ---- members

within : (dims : List Dim) (subs : List ℤ) → are_within dims subs ≡ true → AreWithin dims subs
within [] [] is = tt
within [] (sub ∷ subs) is = absurd (true≢false (sym is))
within (dim ∷ dims) [] is = absurd (true≢false (sym is))
within (dim ∷ dims) (sub ∷ subs) is =
    let parts = and_parts (int_le dim.lo sub && int_le sub dim.hi) (are_within dims subs) is in
    let bounds = and_parts (int_le dim.lo sub) (int_le sub dim.hi) parts.0 in
    let low = bounds.0 in
    let high = bounds.1 in
    (grind (arith, ints, low), grind (arith, ints, high), within dims subs parts.1)

no_subs : (subs : List ℤ) → (length subs == 0) ≡ true → subs ≡ []
no_subs [] is = refl
no_subs (sub ∷ subs) is = let none = eqb-true (length (sub ∷ subs)) 0 is in absurd (omega (arith, none))

-- a name alone or an element, over the table without places
abbrev IsRight : List NameInfo → Member → Type 0
IsRight names member = not (is_member names member) ≡ false

module _ (names : List NameInfo) where
  in_groups : (stmt : Stmt) → list_any (λ member. not (is_member names member)) (members_of stmt) ≡ false → All (λ group. All (IsRight names) group) (groups_of stmt)
  in_groups (Equivalence groups) none = each_part (IsRight names) (λ (group : List Member). group) groups (none-bad (λ member. not (is_member names member)) (members_of (Equivalence groups)) none)
  in_groups _ none = All-nil (λ (group : List Member). All (IsRight names) group)

  in_items : (stmt : Stmt) → list_any (λ member. not (is_member names member)) (members_of stmt) ≡ false → All (λ part. All (IsRight names) part.items) (inits_of stmt)
  in_items (Init parts) none = each_part (IsRight names) (λ (part : InitPart). part.items) parts (none-bad (λ member. not (is_member names member)) (members_of (Init parts)) none)
  in_items _ none = All-nil (λ (part : InitPart). All (IsRight names) part.items)

module _ (whole : List Labelled) (source : IsSource whole) (right : first_line (has_wrong_storage (names_of whole) (placed_names whole) whole) whole ≡ None) where
  abbrev names : List NameInfo
  names = names_of whole

  abbrev placed : List NameInfo
  placed = placed_names whole

  a_member : (member : Member) → index_of names member.name < length names → IsRight names member → IsMember placed member
  a_member member known is = record {
    known = known_placed whole member.name known;
    element = ⊎_elim
        (λ (none : (length member.subs == 0) ≡ true). inl (no_subs member.subs none))
        (λ (element : are_within (dims_of names (member_index names member)) member.subs ≡ true).
        inr (subst (λ (dims : List Dim). AreWithin dims member.subs) (sym ((placed_names-agrees whole).dims (member_index placed member) ∙ ap (dims_of names) (same_index whole member.name))) (within (dims_of names (member_index names member)) member.subs element)))
        (or_cases (length member.subs == 0) (are_within (dims_of names (member_index names member)) member.subs) (not-false (is_member names member) is));
  }

  right_members : All (λ s. has_wrong_member names s ≡ false) whole
  right_members = none-bad (has_wrong_member names) whole (none-any (has_wrong_storage names placed whole) (has_wrong_member names) (λ above s clear. (right_statement names placed whole above s clear).members) [] whole right)

  -- ---- EQUIVALENCE

  groups_right : All (λ group. All (IsRight names) group) (all_groups whole)
  groups_right = All-flat_map (λ (group : List Member). All (IsRight names) group) (λ (s : Labelled). groups_of s.stmt) whole (All-weaker (λ s. has_wrong_member names s ≡ false) (λ s. All (λ (group : List Member). All (IsRight names) group) (groups_of s.stmt)) (λ s. in_groups names s.stmt) whole right_members)

  a_group : (group : List Member) → IsReadGroup group → GroupKnown whole group → All (IsRight names) group → IsGroup placed group
  a_group group read known is = record { two = read; members = λ k d lt. a_member _ (known k d lt) (is k d lt) }

  -- each group of a program is a group
  pub all_groups-right : All (IsGroup placed) (all_groups whole)
  all_groups-right k d lt = a_group _ (all_groups-read whole source.trees k d lt) (all_groups-known whole k d lt) (groups_right k d lt)

  -- each item of DATA is a member
  items_right : All (λ part. All (IsRight names) part.items) (all_inits whole)
  items_right = All-flat_map (λ (part : InitPart). All (IsRight names) part.items) (λ (s : Labelled). inits_of s.stmt) whole (All-weaker (λ s. has_wrong_member names s ≡ false) (λ s. All (λ (part : InitPart). All (IsRight names) part.items) (inits_of s.stmt)) (λ s. in_items names s.stmt) whole right_members)

  pub all_items-right : All (λ part. All (IsMember placed) part.items) (all_inits whole)
  all_items-right k d lt = λ j e within_items. a_member _ (all_inits-known whole k d lt j e within_items) (items_right k d lt j e within_items)
