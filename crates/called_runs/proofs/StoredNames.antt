-- Names of storage are no dummies, so they are a unit's own.
use Rattle.std.proofs.Common.{◌≡◌, ℕ, Bool, true, false, not, List, [], map, flat_map, filter, Option, Some, ⊎_elim, refl, sym, ap, ◌∙◌}
use Rattle.std.specs.Prelude.{bytes_eq}
use Rattle.std.specs.List.{list_any, slice_get}
use Rattle.std.proofs.lemmas.Bool.{cases_Bool}
use Rattle.std.proofs.lemmas.Map.Views.{Contains-from_any}
use Rattle.std.proofs.lemmas.Option.{slice_get-get_or}
use Rattle.std.proofs.lemmas.Slice.Eq.{bytes_eq-Decides}
use Rattle.list_laws.proofs.Members.{Contains-from_Member, Member-filter, Member-filtered, Member-flat_map, Member-flat_mapped, Member-from_Contains, at_of, list_any_member, member_of_list_any}
use Rattle.list_laws.specs.Member.{Member}
use Rattle.f77_tree.specs.declared.declarations.CommonPart.{CommonPart}
use Rattle.f77_tree.specs.declared.declarations.Decl.{Decl}
use Rattle.f77_tree.specs.declared.declarations.InitPart.{InitPart}
use Rattle.f77_tree.specs.declared.statements.Labelled.{Labelled}
use Rattle.f77_tree.specs.declared.statements.Stmt.{Stmt}
use Rattle.f77_tree.specs.declared.statements.Stmt.TheVariants.{Common, Equivalence, Init}
use Rattle.f77_tree.specs.declared.declarations.Member.{Member as Named}
use Rattle.f77_tree.specs.Places.{same_block}
use Rattle.layout_rules.specs.Appearances.{appearing}
use Rattle.layout_rules.specs.Declarations.{all_commons, all_groups, all_inits, groups_of, inits_of, is_array, parts_of}
use Rattle.layout_rules.specs.Faults.{has_repeat}
use Rattle.unit_laws.proofs.AcceptedTables.{or-parts}
use Rattle.program_units.proofs.StoredNames.{told-all}
use Rattle.program_units.specs.Entities.{block_list, entity_of}
use Rattle.program_units.specs.Names.{appearing_here, names_of_unit, own_names}
use Rattle.program_units.specs.Refusals.{has_wrong_dummy, is_of_storage, names_of_storage}
use Rattle.program_units.specs.Storage.{IsOfRun}
use Rattle.program_units.specs.Units.{dummies_of, runs, sub_dummies, unit_at}

pub there-at : {X : Type 0} (xs : List X) (x : X) → Member xs x → (k : ℕ) × (slice_get xs k ≡ Some x)
there-at xs x m = let at = at_of xs x m in (at.place, slice_get-get_or xs at.place x at.exists ∙ ap (λ y. Some y) (at.is x))

-- ---- of a unit

module _ (u : List Labelled) where
  abbrev stated : List (List ℕ)
  stated = flat_map (λ s. appearing_here (is_array u) s.stmt) u

  same-here : (arrays : List ℕ → Bool) (x : List ℕ) (s : Stmt) → is_of_storage s ≡ true → Member (appearing arrays s) x → Member (appearing_here arrays s) x
  same-here arrays x (Common parts) of m = m
  same-here arrays x (Equivalence groups) of m = m
  same-here arrays x (Init parts) of m = m
  same-here arrays x s of m = absurd cc

  -- a name of storage is a name of the unit
  pub stored-named : (x : List ℕ) → Member (names_of_storage u) x → list_any (bytes_eq x) (names_of_unit u) ≡ true
  stored-named x m =
      let one = Member-flat_mapped (λ (s : Labelled). appearing (is_array u) s.stmt) (filter (λ (s : Labelled). is_of_storage s.stmt) u) x m in
      let kept = Member-filtered (λ (s : Labelled). is_of_storage s.stmt) u one.origin one.among in
      let here = Member-flat_map (λ (s : Labelled). appearing_here (is_array u) s.stmt) u one.origin x kept.0 (same-here (is_array u) x one.origin.stmt kept.1 one.has) in
      told-all x [] stated ∙ list_any_member (bytes_eq x) stated x here ((bytes_eq-Decides x x).1 refl)

  module _ (right : (place : ℕ) (s : Labelled) → slice_get u place ≡ Some s → has_wrong_dummy u s.stmt ≡ false) where
    -- and none of its dummies
    pub stored-own : (x : List ℕ) → Member (names_of_storage u) x → list_any (bytes_eq x) (dummies_of u) ≡ false
    stored-own x m = ⊎_elim
        (λ (is : list_any (bytes_eq x) (dummies_of u) ≡ true). clash (member_of_list_any (bytes_eq x) (dummies_of u) is).one (member_of_list_any (bytes_eq x) (dummies_of u) is).among (member_of_list_any (bytes_eq x) (dummies_of u) is).passes)
        (λ (is : list_any (bytes_eq x) (dummies_of u) ≡ false). is)
        (cases_Bool (list_any (bytes_eq x) (dummies_of u)))
      where
        clash : (d : List ℕ) → Member (dummies_of u) d → bytes_eq x d ≡ true → list_any (bytes_eq x) (dummies_of u) ≡ false
        clash d among same =
            let one = Member-flat_mapped (λ (s : Labelled). sub_dummies s.stmt) u d among in
            let at = there-at u one.origin one.among in
            let test : List ℕ → Bool = λ e. list_any (bytes_eq e) (names_of_storage u) in
            let none : list_any test (sub_dummies one.origin.stmt) ≡ false = (or-parts (has_repeat bytes_eq [] (sub_dummies one.origin.stmt)) (list_any test (sub_dummies one.origin.stmt)) (right at.0 one.origin at.1)).1 in
            let is : x ≡ d = (bytes_eq-Decides x d).0 same in
            let stored : test d ≡ true = ap test (sym is) ∙ list_any_member (bytes_eq x) (names_of_storage u) x m ((bytes_eq-Decides x x).1 refl) in
            let e : true ≡ false = sym (list_any_member test (sub_dummies one.origin.stmt) d one.has stored) ∙ none in
            absurd cc

  -- ---- names of blocks and groups

  in-parts : (arrays : List ℕ → Bool) (x : List ℕ) (part : CommonPart) (s : Stmt) → Member (parts_of s) part → Member (map (λ (decl : Decl). decl.name) part.decls) x → (is_of_storage s ≡ true) × Member (appearing arrays s) x
  in-parts arrays x part (Common parts) among has = (refl, Member-flat_map (λ (p : CommonPart). map (λ (decl : Decl). decl.name) p.decls) parts part x among has)
  in-parts arrays x part s among has = absurd among

  in-groups : (arrays : List ℕ → Bool) (x : List ℕ) (group : List Named) (s : Stmt) → Member (groups_of s) group → Member (map (λ (m : Named). m.name) group) x → (is_of_storage s ≡ true) × Member (appearing arrays s) x
  in-groups arrays x group (Equivalence groups) among has = (refl, Member-flat_map (λ (g : List Named). map (λ (m : Named). m.name) g) groups group x among has)
  in-groups arrays x group s among has = absurd among

  in-inits : (arrays : List ℕ → Bool) (x : List ℕ) (part : InitPart) (s : Stmt) → Member (inits_of s) part → Member (map (λ (m : Named). m.name) part.items) x → (is_of_storage s ≡ true) × Member (appearing arrays s) x
  in-inits arrays x part (Init parts) among has = (refl, Member-flat_map (λ (p : InitPart). map (λ (m : Named). m.name) p.items) parts part x among has)
  in-inits arrays x part s among has = absurd among

  of-stmt : (x : List ℕ) (s : Labelled) → Member u s → (is_of_storage s.stmt ≡ true) × Member (appearing (is_array u) s.stmt) x → Member (names_of_storage u) x
  of-stmt x s among both = Member-flat_map (λ (t : Labelled). appearing (is_array u) t.stmt) (filter (λ (t : Labelled). is_of_storage t.stmt) u) s x (Member-filter (λ (t : Labelled). is_of_storage t.stmt) u s among both.0) both.1

  pub block-stored : (block : Option (List ℕ)) (x : List ℕ) → Member (block_list u block) x → Member (names_of_storage u) x
  block-stored block x m =
      let part = Member-flat_mapped (λ (p : CommonPart). map (λ (decl : Decl). decl.name) p.decls) (filter (λ (p : CommonPart). same_block p.block block) (all_commons u)) x m in
      let kept = Member-filtered (λ (p : CommonPart). same_block p.block block) (all_commons u) part.origin part.among in
      let s = Member-flat_mapped (λ (t : Labelled). parts_of t.stmt) u part.origin kept.0 in
      of-stmt x s.origin s.among (in-parts (is_array u) x part.origin s.origin.stmt s.has part.has)

  pub group-stored : (group : List Named) (x : List ℕ) → Member (all_groups u) group → Member (map (λ (m : Named). m.name) group) x → Member (names_of_storage u) x
  group-stored group x among m =
      let s = Member-flat_mapped (λ (t : Labelled). groups_of t.stmt) u group among in
      of-stmt x s.origin s.among (in-groups (is_array u) x group s.origin.stmt s.has m)

  pub init-stored : (part : InitPart) (x : List ℕ) → Member (all_inits u) part → Member (map (λ (m : Named). m.name) part.items) x → Member (names_of_storage u) x
  init-stored part x among m =
      let s = Member-flat_mapped (λ (t : Labelled). inits_of t.stmt) u part among in
      of-stmt x s.origin s.among (in-inits (is_array u) x part s.origin.stmt s.has m)

-- a name of a unit's own stands for an entity of the run, where the unit runs
pub own-run : (us : List (List Labelled)) (k : ℕ) (x : List ℕ) → runs us k ≡ true → list_any (bytes_eq x) (names_of_unit (unit_at us k)) ≡ true → list_any (bytes_eq x) (dummies_of (unit_at us k)) ≡ false → IsOfRun us (entity_of us k x)
own-run us k x run there none =
    let u = unit_at us k in
    let own : List ℕ → Bool = λ y. not (list_any (bytes_eq y) (dummies_of u)) in
    let named = Contains-from_any (λ a b same. (bytes_eq-Decides a b).0 same) x (names_of_unit u) there in
    let among = Member-filter own (names_of_unit u) x (Member-from_Contains (names_of_unit u) x named) (ap not none) in
    record { unit = k; name = x; appears = Contains-from_Member (own_names us k) x among; runs_it = run; is = refl }

-- and so does a name of its storage
pub stored-run : (us : List (List Labelled)) (k : ℕ) (x : List ℕ) → ((place : ℕ) (s : Labelled) → slice_get (unit_at us k) place ≡ Some s → has_wrong_dummy (unit_at us k) s.stmt ≡ false) → runs us k ≡ true → Member (names_of_storage (unit_at us k)) x → IsOfRun us (entity_of us k x)
stored-run us k x right run m = own-run us k x run (stored-named (unit_at us k) x m) (stored-own (unit_at us k) right x m)
