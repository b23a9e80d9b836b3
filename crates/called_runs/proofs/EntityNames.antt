-- The names that entities of the run have in the list: different ones, declared as the entities are.
use Rattle.std.proofs.Common.{◌≡◌, ℕ, zero, suc, ◌<◌, ◌==◌, Bool, true, false, not, ◌||◌, if◌then◌else◌, List, [], ◌∷◌, length, filter, Option, Some, None, ⊎_elim, refl, sym, ap, subst, ◌∙◌, arith}
use Rattle.std.specs.Prelude.{bytes_eq, Contains}
use Rattle.std.specs.Cmp.Lexicographic.{nat_list_eq_equiv}
use Rattle.std.specs.List.{list_any, position_or_len, slice_get}
use Rattle.std.proofs.lemmas.Bool.{and_parts, cases_Bool, eq-eqb, eqb-true}
use Rattle.std.proofs.lemmas.Map.Views.{any-filter_same, list_any-from_Contains}
use Rattle.std.proofs.lemmas.Option.{slice_get_within}
use Rattle.std.proofs.lemmas.Slice.Eq.{bytes_eq-Decides}
use Rattle.f77_tree.specs.declared.declarations.CommonPart.{CommonPart}
use Rattle.f77_tree.specs.declared.statements.Labelled.{Labelled}
use Rattle.f77_tree.specs.Places.{same_block}
use Rattle.layout_rules.specs.Declarations.{all_commons, dims_of, kind_of}
use Rattle.layout_rules.specs.Executables.{kind_or_integer}
use Rattle.layout_rules.specs.Faults.{answer_or, first_answer}
use Rattle.unit_laws.proofs.AcceptedTables.{not-not, or-parts}
use Rattle.unit_laws.proofs.MainNames.{Tells, found-at, in-first, later, named}
use Rattle.unit_laws.proofs.OwnNames.{blocks-same}
use Rattle.program_units.specs.declared.entity.Entity.{Entity}
use Rattle.program_units.specs.declared.entity.Entity.TheVariants.{InBlock, Local}
use Rattle.program_units.specs.Entities.{block_list, entity_of, entity_or, found_in}
use Rattle.program_units.specs.Expansion.{declared_in, is_running, units_but_main, whole_list}
use Rattle.program_units.specs.Names.{has_block, is_main, main_name, name_for, names_of_unit, own_names, same_entity, y_entities, y_name}
use Rattle.program_units.specs.Refusals.{are_alike, first_unit, first_with, is_mismatched_part}
use Rattle.program_units.specs.Storage.{IsOfRun}
use Rattle.program_units.specs.Units.{dummies_of, runs, unit_at, unit_or_none}
use Rattle.called_runs.specs.DeclaredNames.{IsDeclaredAs}
use Rattle.called_runs.proofs.DeclaredAlike.{beside, own-declared}
use Rattle.called_runs.proofs.NamesOfUnits.{any-weaker, block-names, in-units}

module _ (us : List (List Labelled)) where
  -- where the entity of a name was found
  abbrev pub IsFound : (k : ℕ) → List ℕ → Entity → Type 0
  IsFound k x (Local j y) = (j ≡ k) × (y ≡ x)
  IsFound k x (InBlock block i) = (has_block (unit_at us k) block ≡ true) × (slice_get (block_list (unit_at us k) block) i ≡ Some x)

  module _ (k : ℕ) (x : List ℕ) where
    abbrev unit : List Labelled
    unit = unit_at us k

    found-by : (parts : List CommonPart) → ((block : Option (List ℕ)) → Tells parts x block → Tells (all_commons unit) x block) → IsFound k x (entity_or k x (first_answer (found_in unit x) parts))
    found-by [] whole = (refl, refl)
    found-by (part ∷ parts) whole =
        let place = position_or_len (bytes_eq x) (block_list unit part.block) in
        let told : Bool → Entity = λ b. entity_or k x (answer_or (if b then Some (InBlock part.block place) else None) (first_answer (found_in unit x) parts)) in
        ⊎_elim
        (λ (is : list_any (named x) part.decls ≡ true).
        let here = whole part.block (in-first x part parts is) in
        subst (IsFound k x) (sym (ap told is)) (here.here, found-at x (block_list unit part.block) here.among))
        (λ (is : list_any (named x) part.decls ≡ false). subst (IsFound k x) (sym (ap told is)) (found-by parts (λ block more. whole block (later x part parts block more))))
        (cases_Bool (list_any (named x) part.decls))

    pub found-as : (e : Entity) → entity_of us k x ≡ e → IsFound k x e
    found-as e is = subst (IsFound k x) is (found-by (all_commons unit) (λ block told. told))

  -- ---- blocks of the main program

  pub first-main : (block : Option (List ℕ)) → has_block (unit_at us 0) block ≡ true → first_with us block ≡ unit_at us 0
  first-main block has = by us has
    where
      by : (vs : List (List Labelled)) → has_block (unit_at vs 0) block ≡ true → first_unit (filter (λ u. has_block u block) vs) ≡ unit_at vs 0
      by [] is = let e : false ≡ true = is in absurd cc
      by (v ∷ vs) is = ap (λ (b : Bool). first_unit (if b then v ∷ filter (λ u. has_block u block) vs else filter (λ u. has_block u block) vs)) is

  pub even-lists : (u : List Labelled) (block : Option (List ℕ)) (parts : List CommonPart) → list_any (is_mismatched_part us u) parts ≡ false → list_any (λ part. same_block part.block block) parts ≡ true → are_alike u (first_with us block) (block_list u block) (block_list (first_with us block) block) ≡ true
  even-lists u block [] even has = let e : false ≡ true = has in absurd cc
  even-lists u block (part ∷ parts) even has =
      let both = or-parts (is_mismatched_part us u part) (list_any (is_mismatched_part us u) parts) even in
      by (same_block part.block block) refl has both.0 (even-lists u block parts both.1)
    where
      by : (b : Bool) → same_block part.block block ≡ b → (b || list_any (λ p. same_block p.block block) parts) ≡ true → is_mismatched_part us u part ≡ false → (list_any (λ p. same_block p.block block) parts ≡ true → are_alike u (first_with us block) (block_list u block) (block_list (first_with us block) block) ≡ true)
          → are_alike u (first_with us block) (block_list u block) (block_list (first_with us block) block) ≡ true
      by true is here mine more =
          let alike : are_alike u (first_with us part.block) (block_list u part.block) (block_list (first_with us part.block) part.block) ≡ true = not-not (are_alike u (first_with us part.block) (block_list u part.block) (block_list (first_with us part.block) part.block)) mine in
          subst (λ (b : Option (List ℕ)). are_alike u (first_with us b) (block_list u b) (block_list (first_with us b) b) ≡ true) (blocks-same part.block block is) alike
      by false is here mine more = more here

  pub main-name : (block : Option (List ℕ)) (i : ℕ) (x : List ℕ) → has_block (unit_at us 0) block ≡ true → slice_get (block_list (unit_at us 0) block) i ≡ Some x → name_for us (InBlock block i) ≡ x
  main-name block i x has there =
      ap (λ (b : Bool). if b then main_name us (InBlock block i) else y_name us (InBlock block i)) has
      ∙ rw there refl

  -- ---- entities of the run

  module _ (kept : (x : List ℕ) → name_for us (entity_of us 0 x) ≡ x)
      (once : (k : ℕ) (block : Option (List ℕ)) (i : ℕ) (x : List ℕ) → slice_get (block_list (unit_at us k) block) i ≡ Some x → entity_of us k x ≡ InBlock block i)
      (even : (k : ℕ) → list_any (is_mismatched_part us (unit_at us k)) (all_commons (unit_at us k)) ≡ false) where
    -- a name of a block has the same place in the main program
    in-main : (k : ℕ) (block : Option (List ℕ)) (i : ℕ) (x : List ℕ) → has_block (unit_at us 0) block ≡ true → has_block (unit_at us k) block ≡ true → slice_get (block_list (unit_at us k) block) i ≡ Some x → entity_of us 0 (name_for us (InBlock block i)) ≡ InBlock block i
    in-main k block i x has there stands =
        let u = unit_at us k in
        let other = beside u (first_with us block) (block_list u block) (block_list (first_with us block) block) i x (even-lists u block (all_commons u) (even k) there) stands in
        let main_there : slice_get (block_list (unit_at us 0) block) i ≡ Some other.name = ap (λ (v : List Labelled). slice_get (block_list v block) i) (sym (first-main block has)) ∙ other.there in
        ap (entity_of us 0) (main-name block i other.name has main_there) ∙ once 0 block i other.name main_there

    -- an entity with a name of the main program is what this name stands for there
    pub main-entity : (k : ℕ) (x : List ℕ) (e : Entity) → entity_of us k x ≡ e → is_main us e ≡ true → entity_of us 0 (name_for us e) ≡ e
    main-entity zero x e is main = ap (λ (f : Entity). entity_of us 0 (name_for us f)) (sym is) ∙ ap (entity_of us 0) (kept x) ∙ is
    main-entity (suc k) x (Local j y) is main =
        let found = found-as (suc k) x (Local j y) is in
        let first : j ≡ 0 = eqb-true j 0 main in
        let other : j ≡ suc k = found.0 in
        absurd (omega (arith, first, other))
    main-entity (suc k) x (InBlock block i) is main =
        let found = found-as (suc k) x (InBlock block i) is in
        in-main (suc k) block i x main found.0 found.1

    -- and the main program has that name
    pub in-names : (k : ℕ) (x : List ℕ) (e : Entity) → list_any (bytes_eq x) (names_of_unit (unit_at us k)) ≡ true → entity_of us k x ≡ e → is_main us e ≡ true → list_any (bytes_eq (name_for us e)) (names_of_unit (unit_at us 0)) ≡ true
    in-names zero x e there is main = ap (λ (n : List ℕ). list_any (bytes_eq n) (names_of_unit (unit_at us 0))) (ap (name_for us) (sym is) ∙ kept x) ∙ there
    in-names (suc k) x (Local j y) there is main =
        let found = found-as (suc k) x (Local j y) is in
        let first : j ≡ 0 = eqb-true j 0 main in
        let other : j ≡ suc k = found.0 in
        absurd (omega (arith, first, other))
    in-names (suc k) x (InBlock block i) there is main =
        let found = found-as (suc k) x (InBlock block i) is in
        let u = unit_at us (suc k) in
        let other = beside u (first_with us block) (block_list u block) (block_list (first_with us block) block) i x (even-lists u block (all_commons u) (even (suc k)) found.0) found.1 in
        let main_there : slice_get (block_list (unit_at us 0) block) i ≡ Some other.name = ap (λ (v : List Labelled). slice_get (block_list v block) i) (sym (first-main block main)) ∙ other.there in
        ap (λ (n : List ℕ). list_any (bytes_eq n) (names_of_unit (unit_at us 0))) (main-name block i other.name main main_there) ∙ block-names (unit_at us 0) block i other.name main_there

    pub main-main : (x : List ℕ) → is_main us (entity_of us 0 x) ≡ true
    main-main x = by (entity_of us 0 x) refl
      where
        by : (e : Entity) → entity_of us 0 x ≡ e → is_main us e ≡ true
        by (Local j y) is = let found = found-as 0 x (Local j y) is in eq-eqb j 0 found.0
        by (InBlock block i) is = let found = found-as 0 x (InBlock block i) is in found.0

    -- ---- names of the run

    module _ (noted : (k : ℕ) (x : List ℕ) → 0 < k → k < length us → list_any (bytes_eq x) (own_names us k) ≡ true → is_main us (entity_of us k x) ≡ false → list_any (same_entity (entity_of us k x)) (y_entities us) ≡ true) where
      -- names of a unit's own are names of it
      pub of-own : (k : ℕ) (x : List ℕ) → Contains (own_names us k) x → list_any (bytes_eq x) (names_of_unit (unit_at us k)) ≡ true
      of-own k x there =
          let own : List ℕ → Bool = λ y. not (list_any (bytes_eq y) (dummies_of (unit_at us k))) in
          let names = names_of_unit (unit_at us k) in
          (and_parts (own x) (list_any (bytes_eq x) names) (sym (any-filter_same (bytes_eq x) own (own x) (λ y same. ap own (sym ((bytes_eq-Decides x y).0 same))) names) ∙ list_any-from_Contains nat_list_eq_equiv x (own_names us k) there)).1

      -- what is no unit has no names
      inside : (k : ℕ) (x : List ℕ) → list_any (bytes_eq x) (own_names us k) ≡ true → k < length us
      inside k x any = by (slice_get us k) refl any
        where
          by : (o : Option (List Labelled)) → slice_get us k ≡ o → list_any (bytes_eq x) (filter (λ y. not (list_any (bytes_eq y) (dummies_of (unit_or_none o)))) (names_of_unit (unit_or_none o))) ≡ true → k < length us
          by None is has = let e : false ≡ true = has in absurd cc
          by (Some u) is has = slice_get_within us k u is

      pub own-entity : (e : Entity) → IsOfRun us e → is_main us e ≡ false → list_any (same_entity e) (y_entities us) ≡ true
      own-entity e run other = by run.unit refl
        where
          there : list_any (bytes_eq run.name) (own_names us run.unit) ≡ true
          there = list_any-from_Contains nat_list_eq_equiv run.name (own_names us run.unit) run.appears

          by : (k : ℕ) → run.unit ≡ k → list_any (same_entity e) (y_entities us) ≡ true
          by zero is =
              let main : is_main us e ≡ true = ap (is_main us) (sym run.is ∙ ap (λ (k : ℕ). entity_of us k run.name) is) ∙ main-main run.name in
              let both : true ≡ false = sym main ∙ other in
              absurd cc
          by (suc k) is =
              ap (λ (f : Entity). list_any (same_entity f) (y_entities us)) (sym run.is)
              ∙ noted run.unit run.name (omega (arith, is)) (inside run.unit run.name there) there (ap (is_main us) run.is ∙ other)

      pub entity-runs : (e : Entity) → IsOfRun us e → is_main us e ≡ false → is_running us e ≡ true
      entity-runs e run other = by e refl
        where
          there : list_any (bytes_eq run.name) (own_names us run.unit) ≡ true
          there = list_any-from_Contains nat_list_eq_equiv run.name (own_names us run.unit) run.appears

          by : (f : Entity) → e ≡ f → is_running us f ≡ true
          by (Local j y) is =
              let found = found-as run.unit run.name (Local j y) (run.is ∙ is) in
              ap (runs us) found.0 ∙ run.runs_it
          by (InBlock block i) is =
              let found = found-as run.unit run.name (InBlock block i) (run.is ∙ is) in
              some-block block run.unit found.0 (in-units us run.unit (not-first block i is found.0) (inside run.unit run.name there) run.runs_it)
            where
              not-first : (block : Option (List ℕ)) (i : ℕ) → e ≡ InBlock block i → has_block (unit_at us run.unit) block ≡ true → 0 < run.unit
              not-first block i is has = by_unit run.unit refl
                where
                  by_unit : (k : ℕ) → run.unit ≡ k → 0 < k
                  by_unit zero first =
                      let main : is_main us e ≡ true = ap (is_main us) is ∙ ap (λ (k : ℕ). has_block (unit_at us k) block) (sym first) ∙ has in
                      let both : true ≡ false = sym main ∙ other in
                      absurd cc
                  by_unit (suc k) first = omega arith

              some-block : (block : Option (List ℕ)) (k : ℕ) → has_block (unit_at us k) block ≡ true → list_any (λ (j : ℕ). j == k) (units_but_main us) ≡ true → list_any (λ (j : ℕ). has_block (unit_at us j) block) (units_but_main us) ≡ true
              some-block block k has among = any-weaker (λ (j : ℕ). j == k) (λ (j : ℕ). has_block (unit_at us j) block) (λ j same. ap (λ (n : ℕ). has_block (unit_at us n) block) (eqb-true j k same) ∙ has) (units_but_main us) among

      -- an entity of the run has its name alone
      pub names-apart : ((e f : Entity) → list_any (same_entity e) (y_entities us) ≡ true → list_any (same_entity f) (y_entities us) ≡ true → name_for us e ≡ name_for us f → e ≡ f) → ((e : Entity) → list_any (same_entity e) (y_entities us) ≡ true → (x : List ℕ) → list_any (bytes_eq x) (names_of_unit (unit_at us 0)) ≡ true → name_for us e ≡ x → ⊥)
          → (e f : Entity) → IsOfRun us e → IsOfRun us f → name_for us e ≡ name_for us f → e ≡ f
      names-apart apart others e f one two same = by (is_main us e) (is_main us f) refl refl
        where
          of-main : (g : Entity) → IsOfRun us g → is_main us g ≡ true → entity_of us 0 (name_for us g) ≡ g
          of-main g run main = main-entity run.unit run.name g run.is main

          named-main : (g : Entity) → IsOfRun us g → is_main us g ≡ true → list_any (bytes_eq (name_for us g)) (names_of_unit (unit_at us 0)) ≡ true
          named-main g run main = in-names run.unit run.name g (of-own run.unit run.name run.appears) run.is main

          by : (b c : Bool) → is_main us e ≡ b → is_main us f ≡ c → e ≡ f
          by true true a b = sym (of-main e one a) ∙ ap (entity_of us 0) same ∙ of-main f two b
          by true false a b = absurd (others f (own-entity f two b) (name_for us e) (named-main e one a) (sym same))
          by false true a b = absurd (others e (own-entity e one a) (name_for us f) (named-main f two b) same)
          by false false a b = apart e f (own-entity e one a) (own-entity f two b) same

      -- ---- declarations in the list

      module _ (others : (e : Entity) → list_any (same_entity e) (y_entities us) ≡ true → (x : List ℕ) → list_any (bytes_eq x) (names_of_unit (unit_at us 0)) ≡ true → name_for us e ≡ x → ⊥) where
        -- a name of the main program is none that an entity got
        none-got : (e : Entity) → IsOfRun us e → is_main us e ≡ true → (f : Entity) → list_any (same_entity f) (y_entities us) ≡ true → name_for us f ≡ name_for us e → ⊥
        none-got e run main f listed same = others f listed (name_for us e) (in-names run.unit run.name e (of-own run.unit run.name run.appears) run.is main) same

        main-declared : (e : Entity) → IsOfRun us e → is_main us e ≡ true → IsDeclaredAs us (unit_at us 0) (name_for us e) e
        main-declared e run main = subst (IsDeclaredAs us (unit_at us 0) (name_for us e)) (main-entity run.unit run.name e run.is main) (own-declared us 0 (name_for us e) (even 0))

        pub dims-kept : ((x : List ℕ) → ((f : Entity) → list_any (same_entity f) (y_entities us) ≡ true → name_for us f ≡ x → ⊥) → dims_of (whole_list us) x ≡ dims_of (unit_at us 0) x)
            → ((f : Entity) → list_any (same_entity f) (y_entities us) ≡ true → is_running us f ≡ true → dims_of (whole_list us) (name_for us f) ≡ dims_of (declared_in us f).0 (declared_in us f).1)
            → (e : Entity) → IsOfRun us e → dims_of (whole_list us) (name_for us e) ≡ dims_of (declared_in us e).0 (declared_in us e).1
        dims-kept main_dims own_dims e run = by (is_main us e) refl
          where
            by : (b : Bool) → is_main us e ≡ b → dims_of (whole_list us) (name_for us e) ≡ dims_of (declared_in us e).0 (declared_in us e).1
            by true is = main_dims (name_for us e) (none-got e run is) ∙ (main-declared e run is).dims
            by false is = own_dims e (own-entity e run is) (entity-runs e run is)

        pub kinds-kept : ((x : List ℕ) → ((f : Entity) → list_any (same_entity f) (y_entities us) ≡ true → name_for us f ≡ x → ⊥) → kind_of (whole_list us) x ≡ kind_of (unit_at us 0) x)
            → ((f : Entity) → list_any (same_entity f) (y_entities us) ≡ true → is_running us f ≡ true → kind_of (whole_list us) (name_for us f) ≡ Some (kind_or_integer (kind_of (declared_in us f).0 (declared_in us f).1)))
            → (e : Entity) → IsOfRun us e → kind_or_integer (kind_of (whole_list us) (name_for us e)) ≡ kind_or_integer (kind_of (declared_in us e).0 (declared_in us e).1)
        kinds-kept main_kinds own_kinds e run = by (is_main us e) refl
          where
            by : (b : Bool) → is_main us e ≡ b → kind_or_integer (kind_of (whole_list us) (name_for us e)) ≡ kind_or_integer (kind_of (declared_in us e).0 (declared_in us e).1)
            by true is = ap kind_or_integer (main_kinds (name_for us e) (none-got e run is) ∙ (main-declared e run is).kinds)
            by false is = ap kind_or_integer (own_kinds e (own-entity e run is) (entity-runs e run is))
