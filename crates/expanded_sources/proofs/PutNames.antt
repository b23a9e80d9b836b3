-- The names of what is merged are symbolic.
use Rattle.std.proofs.Common.{◌≡◌, ℕ, zero, suc, ◌+◌, ◌<◌, ◌≤◌, Bool, true, List, [], ◌∷◌, ◌++◌, length, map, flat_map, get_or, Option, Some, None, refl, ap, subst, ◌∙◌, arith}
use Rattle.std.specs.Prelude.{bytes_eq}
use Rattle.std.specs.Cmp.Lexicographic.{nat_list_eq_equiv}
use Rattle.std.specs.List.{list_all, list_any, range_with_len, slice_get}
use Rattle.std.proofs.lemmas.Bool.{and_from, or_left, or_right}
use Rattle.std.proofs.lemmas.List.Folds.{list_all-append}
use Rattle.std.proofs.lemmas.Option.{slice_get-get_or}
use Rattle.f77_tree.specs.Name.{is_name}
use Rattle.f77_tree.specs.declared.declarations.InitPart.{InitPart}
use Rattle.f77_tree.specs.declared.declarations.Member.{Member}
use Rattle.f77_tree.specs.declared.statements.Labelled.{Labelled}
use Rattle.layout_rules.specs.Appearances.{appearing}
use Rattle.layout_rules.specs.Declarations.{all_commons, is_array}
use Rattle.program_units.specs.declared.entity.Entity.{Entity}
use Rattle.program_units.specs.declared.entity.Entity.TheVariants.{InBlock}
use Rattle.program_units.specs.Entities.{block_list, entity_of}
use Rattle.program_units.specs.Expansion.{block_size, common_decl, init_for, members_for}
use Rattle.program_units.specs.Names.{appearing_here, name_for}
use Rattle.program_units.specs.Refusals.{is_of_storage, unit_refusal}
use Rattle.program_units.specs.Texts.{IsText}
use Rattle.program_units.specs.Units.{unit_at, units}
use Rattle.entity_names.proofs.FirstBlocks.{size-first}
use Rattle.unit_laws.proofs.UsedNames.{Among, behind, in-front}
use Rattle.entity_names.proofs.BlockPlaces.{among-at, block-place, own-among}
use Rattle.unit_laws.proofs.CommonOnce.{common-once}
use Rattle.unit_laws.proofs.FirstUnits.{HasFirst}
use Rattle.entity_names.proofs.NamedEntities.{common-appears, common-at}
use Rattle.unit_laws.proofs.NoAnswer.{form-none}
use Rattle.expanded_sources.proofs.HeldPieces.{IsInUnit}
use Rattle.expanded_sources.proofs.NewNames.{own-name}
use Rattle.unit_laws.proofs.StoredOwn.{stored-own}
use Rattle.unit_laws.proofs.UnitNames.{appears, own-of}

-- ---- names of members

module _ (us : List (List Labelled)) (k : ℕ) where
  abbrev pub IsNamed : List ℕ → Type 0
  IsNamed x = is_name (name_for us (entity_of us k x)) ≡ true

  abbrev pub AreNamed : List (List ℕ) → Type 0
  AreNamed names = (x : List ℕ) → Among x names → IsNamed x

  abbrev member_names : List Member → List (List ℕ)
  member_names members = map (λ member. member.name) members

  both : (xs ys : List (List ℕ)) → list_all is_name xs ≡ true → list_all is_name ys ≡ true → list_all is_name (xs ++ ys) ≡ true
  both xs ys first second = list_all-append is_name xs ys ∙ and_from (list_all is_name xs) (list_all is_name ys) first second

  pub members-named : (members : List Member) → AreNamed (member_names members) → list_all is_name (member_names (members_for us k members)) ≡ true
  members-named [] named = refl
  members-named (m ∷ members) named =
      and_from (is_name (name_for us (entity_of us k m.name))) (list_all is_name (member_names (members_for us k members)))
      (named m.name (or_left (bytes_eq m.name m.name) (list_any (bytes_eq m.name) (member_names members)) (nat_list_eq_equiv.refl m.name)))
      (members-named members (λ x among. named x (or_right (bytes_eq x m.name) (list_any (bytes_eq x) (member_names members)) among)))

  pub groups-named : (groups : List (List Member)) → AreNamed (flat_map member_names groups) → list_all is_name (flat_map member_names (map (members_for us k) groups)) ≡ true
  groups-named [] named = refl
  groups-named (group ∷ groups) named =
      both (member_names (members_for us k group)) (flat_map member_names (map (members_for us k) groups))
      (members-named group (λ x among. named x (in-front x (member_names group) (flat_map member_names groups) among)))
      (groups-named groups (λ x among. named x (behind x (member_names group) (flat_map member_names groups) among)))

  abbrev part_names : InitPart → List (List ℕ)
  part_names part = member_names part.items

  pub inits-named : (parts : List InitPart) → AreNamed (flat_map part_names parts) → list_all is_name (flat_map part_names (map (init_for us k) parts)) ≡ true
  inits-named [] named = refl
  inits-named (part ∷ parts) named =
      both (member_names (members_for us k part.items)) (flat_map part_names (map (init_for us k) parts))
      (members-named part.items (λ x among. named x (in-front x (part_names part) (flat_map part_names parts) among)))
      (inits-named parts (λ x among. named x (behind x (part_names part) (flat_map part_names parts) among)))

-- ---- a text that nothing refuses

module _ (stmts : List Labelled) (checked : Bool) (text : IsText stmts) (accepted : unit_refusal stmts checked ≡ None) where
  abbrev all : List (List Labelled)
  all = units stmts

  -- names of COMMON, EQUIVALENCE and DATA
  pub stored-named : (k : ℕ) (s : Labelled) → 0 < k → k < length all → IsInUnit all k s → is_of_storage s.stmt ≡ true → appearing_here (is_array (unit_at all k)) s.stmt ≡ appearing (is_array (unit_at all k)) s.stmt
      → AreNamed all k (appearing (is_array (unit_at all k)) s.stmt)
  stored-named k s some inside here is same x among =
      own-name stmts checked text accepted k x some inside
      (own-of all k x (appears all k s here x (ap (list_any (bytes_eq x)) same ∙ among)) (stored-own stmts checked (form-none stmts checked accepted) k s here is x among))

  -- names of COMMON
  block-named : (k : ℕ) (block : Option (List ℕ)) (place : ℕ) (x : List ℕ) → 0 < k → k < length all → slice_get (block_list (unit_at all k) block) place ≡ Some x → is_name (name_for all (InBlock block place)) ≡ true
  block-named k block place x some inside here =
      let u : List Labelled = unit_at all k in
      let there = common-at x u (own-among block x (all_commons u) (among-at (block_list u block) place x here)) in
      let here_too = common-appears (is_array u) x there.s.stmt there.among in
      let named : is_name (name_for all (entity_of all k x)) ≡ true = stored-named k there.s some inside (record { place = there.place; here = there.here }) here_too.stores here_too.same x here_too.among in
      subst (λ (e : Entity). is_name (name_for all e) ≡ true) (block-place all k (common-once stmts checked (form-none stmts checked accepted) k) block place x here) named

  -- those from a place on
  places-named : (k : ℕ) (block : Option (List ℕ)) → 0 < k → k < length all → (from count : ℕ) → from + count ≤ length (block_list (unit_at all k) block) → list_all is_name (map (λ decl. decl.name) (map (common_decl all block) (range_with_len from count))) ≡ true
  places-named k block some inside from zero fits = refl
  places-named k block some inside from (suc count) fits =
      let names : List (List ℕ) = block_list (unit_at all k) block in
      and_from (is_name (name_for all (InBlock block from))) (list_all is_name (map (λ decl. decl.name) (map (common_decl all block) (range_with_len (from + 1) count))))
      (block-named k block from (get_or names from []) some inside (slice_get-get_or names from [] (omega (arith, fits))))
      (places-named k block some inside (from + 1) count (omega (arith, fits)))

  pub common-named : (block : Option (List ℕ)) → HasFirst all block → list_all is_name (map (λ decl. decl.name) (map (common_decl all block) (range_with_len 0 (block_size all block)))) ≡ true
  common-named block first =
      let size : block_size all block ≡ length (block_list (unit_at all first.unit) block) = size-first all block first.unit first.is in
      places-named first.unit block first.behind_main first.inside 0 (block_size all block) (omega (arith, size))
