-- In a text whose form nothing refuses, each entity of the expansion has a name, and a unit that declares it.
use Rattle.std.proofs.Common.{◌≡◌, ℕ, suc, ◌<◌, ⊎_elim, Bool, true, false, not, ◌||◌, cond, All, List, [], ◌∷◌, ◌++◌, length, map, flat_map, filter, fold, get_or, Option, Some, None, if◌then◌else◌, refl, sym, ap, subst, ◌∙◌, arith}
use Rattle.std.specs.Prelude.{bytes_eq, nat_lt}
use Rattle.std.specs.Cmp.Lexicographic.{nat_list_eq_equiv}
use Rattle.std.specs.List.{list_any, position_or_len, range_with_len, slice_get}
use Rattle.std.proofs.lemmas.Bool.{cases_Bool, lt-ltb, ltb-true, or_left, or_parts, or_right}
use Rattle.std.proofs.lemmas.List.Concat.{flat_map-append}
use Rattle.std.proofs.lemmas.List.Elements.{All-filter, All-map}
use Rattle.std.proofs.lemmas.List.Folds.{list_any-append}
use Rattle.std.proofs.lemmas.List.FromFn.{get_or-range_with_len, length-range_with_len}
use Rattle.std.proofs.lemmas.Option.{slice_get-get_or, slice_get_within}
use Rattle.f77_tree.proofs.AllLemmas.{All-cons, All-first, All-get, All-nil, All-rest}
use Rattle.f77_tree.proofs.Equations.{All-flat}
use Rattle.f77_tree.specs.declared.declarations.CommonPart.{CommonPart}
use Rattle.f77_tree.specs.declared.statements.Labelled.{Labelled}
use Rattle.f77_tree.specs.declared.statements.Stmt.{Stmt}
use Rattle.f77_tree.specs.declared.statements.Stmt.TheVariants.{Common, Equivalence, Init}
use Rattle.layout_rules.specs.Appearances.{appearing}
use Rattle.layout_rules.specs.Declarations.{all_commons, is_array, parts_of}
use Rattle.layout_rules.specs.Faults.{answer_or, first_answer}
use Rattle.program_units.specs.declared.sub_end.SubEnd.TheVariants.{BadBlock}
use Rattle.program_units.specs.declared.entity.Entity.{Entity}
use Rattle.program_units.specs.declared.entity.Entity.TheVariants.{Local, InBlock}
use Rattle.program_units.specs.Entities.{block_list, entity_of, entity_or, found_in}
use Rattle.program_units.specs.Expansion.{block_size}
use Rattle.program_units.specs.NamedEntities.{AreAllNamed, HaveNames, has_main_name, has_name, is_declared}
use Rattle.program_units.specs.Names.{appearing_here, has_block, is_main, own_names, same_entity, with_entity, y_entities}
use Rattle.program_units.specs.Merged.{is_merged}
use Rattle.program_units.specs.Refusals.{are_alike, bad_block, end_at, first_unit, first_with, form_refusals, is_mismatched_part, is_of_storage}
use Rattle.program_units.specs.Texts.{IsText}
use Rattle.program_units.specs.Units.{unit_at, unit_or_none, units}
use Rattle.unit_laws.proofs.AcceptedTables.{alike-lengths, not-not}
use Rattle.entity_names.proofs.BlockPlaces.{among-at, block-place, own-among}
use Rattle.unit_laws.proofs.CommonOnce.{common-once}
use Rattle.entity_names.proofs.FirstBlocks.{size-first}
use Rattle.unit_laws.proofs.FirstUnits.{any-at, first-unit}
use Rattle.unit_laws.proofs.MainNames.{Tells, decl_names, in-first, later, named}
use Rattle.unit_laws.proofs.NoAnswer.{each-none, no-end, no-line, none-at}
use Rattle.unit_laws.proofs.NotedEntities.{noted}
use Rattle.program_units.proofs.Counting.{first-inside}
use Rattle.unit_laws.proofs.SameEntities.{same-itself}
use Rattle.unit_laws.proofs.StoredOwn.{stored-own}
use Rattle.unit_laws.proofs.TextNames.{text-short}
use Rattle.unit_laws.proofs.UnitNames.{IsInUnit, appears, own-of}
use Rattle.unit_laws.proofs.UsedNames.{Among}

-- ---- what a name stands for

none-of : {X : Type 0} (xs : List X) → list_any (λ x. false) xs ≡ false
none-of [] = refl
none-of (x ∷ xs) = none-of xs

-- it is a local, or its place in a block whose parts pass
module _ (us : List (List Labelled)) (k : ℕ) (x : List ℕ) (P : Entity → Type 0) (odd : CommonPart → Bool) (local : P (Local k x))
    (placed : (part : CommonPart) → odd part ≡ false → Among x (block_list (unit_at us k) part.block) → P (InBlock part.block (position_or_len (bytes_eq x) (block_list (unit_at us k) part.block)))) where
  abbrev u : List Labelled
  u = unit_at us k

  by-parts : (parts : List CommonPart) → ((block : Option (List ℕ)) → Tells parts x block → Tells (all_commons u) x block) → list_any odd parts ≡ false → P (entity_or k x (first_answer (found_in u x) parts))
  by-parts [] whole even = local
  by-parts (part ∷ parts) whole even =
      let place = position_or_len (bytes_eq x) (block_list u part.block) in
      let made : Bool → Entity = λ b. entity_or k x (answer_or (if b then Some (InBlock part.block place) else None) (first_answer (found_in u x) parts)) in
      let each = or_parts (odd part) (list_any odd parts) even in
      ⊎_elim
      (λ (is : list_any (named x) part.decls ≡ true). subst (λ (b : Bool). P (made b)) (sym is) (placed part each.0 (Tells.among (whole part.block (in-first x part parts is)))))
      (λ (is : list_any (named x) part.decls ≡ false). subst (λ (b : Bool). P (made b)) (sym is) (by-parts parts (λ block more. whole block (later x part parts block more)) each.1))
      (cases_Bool (list_any (named x) part.decls))

  pub stands : list_any odd (all_commons u) ≡ false → P (entity_of us k x)
  stands even = by-parts (all_commons u) (λ block told. told) even

-- ---- the entities that get names of their own

all-append : {X : Type 0} (P : X → Type 0) (xs ys : List X) → All P xs → All P ys → All P (xs ++ ys)
all-append P [] ys first second = second
all-append P (x ∷ xs) ys first second = All-cons P x (xs ++ ys) (All-first P x xs first) (all-append P xs ys (All-rest P x xs first) second)

all-among : (P : List ℕ → Type 0) (xs : List (List ℕ)) → ((x : List ℕ) → Among x xs → P x) → All P xs
all-among P [] each = All-nil P
all-among P (x ∷ xs) each = All-cons P x xs (each x (or_left (bytes_eq x x) (list_any (bytes_eq x) xs) (nat_list_eq_equiv.refl x))) (all-among P xs (λ y among. each y (or_right (bytes_eq y x) (list_any (bytes_eq y) xs) among)))

all-pass : (p : Entity → Bool) (xs : List Entity) → All (λ e. p e ≡ true) (filter p xs)
all-pass p [] = All-nil (λ e. p e ≡ true)
all-pass p (x ∷ xs) = by (p x) refl (all-pass p xs)
  where
    by : (b : Bool) → p x ≡ b → All (λ e. p e ≡ true) (filter p xs) → All (λ e. p e ≡ true) (cond b (x ∷ filter p xs) (filter p xs))
    by true is more = All-cons (λ e. p e ≡ true) x (filter p xs) is more
    by false is more = more

module _ (P : Entity → Type 0) where
  all-noted : (seen found : List Entity) → All P seen → All P found → All P (fold with_entity seen found)
  all-noted seen [] before all = before
  all-noted seen (e ∷ found) before all = all-noted (with_entity seen e) found (by (list_any (same_entity e) seen)) (All-rest P e found all)
    where
      by : (b : Bool) → All P (if b then seen else seen ++ e ∷ [])
      by true = before
      by false = all-append P seen (e ∷ []) before (All-cons P e [] (All-first P e found all) (All-nil P))

module _ (us : List (List Labelled)) where
  abbrev of_unit : ℕ → List Entity
  of_unit k = map (entity_of us k) (own_names us k)

  inside-of : (k : ℕ) (x : List ℕ) → Among x (own_names us k) → k < length us
  inside-of k x among = by (slice_get us k) refl
    where
      none : unit_at us k ≡ [] → k < length us
      none is = let e : false ≡ true = rw is at among in absurd cc

      by : (o : Option (List Labelled)) → slice_get us k ≡ o → k < length us
      by None is = none (ap unit_or_none is)
      by (Some u) is = slice_get_within us k u is

  -- what holds of each name's entity holds of those that get names of their own
  pub each-own : (P : Entity → Type 0) → ((k : ℕ) (x : List ℕ) → 0 < k → k < length us → Among x (own_names us k) → P (entity_of us k x)) → (i : ℕ) (e : Entity) → slice_get (y_entities us) i ≡ Some e → P e
  each-own P each i e at =
      let ks : List ℕ = range_with_len 1 (length us) in
      let found : List Entity = flat_map of_unit ks in
      let all : All P found = All-flat P of_unit ks (λ j d below. All-map P (entity_of us (get_or ks j d)) (own_names us (get_or ks j d)) (all-among (λ x. P (entity_of us (get_or ks j d) x)) (own_names us (get_or ks j d)) (λ x among. each (get_or ks j d) x (some j d below) (inside-of (get_or ks j d) x among) among))) in
      All-get P (y_entities us) i e (all-noted P [] (filter (λ f. not (is_main us f)) found) (All-nil P) (All-filter (λ f. not (is_main us f)) P found all)) at
    where
      some : (j d : ℕ) → j < length (range_with_len 1 (length us)) → 0 < get_or (range_with_len 1 (length us)) j d
      some j d below =
          let many = length-range_with_len 1 (length us) in
          let is = get_or-range_with_len 1 (length us) j d (omega (arith, below, many)) in
          omega (arith, is)

  -- a local is one of a unit of the text
  pub own-within : (i : ℕ) (e : Entity) → slice_get (y_entities us) i ≡ Some e → (k : ℕ) (name : List ℕ) → e ≡ Local k name → k < length us
  own-within i e at = each-own (λ f. (k : ℕ) (name : List ℕ) → f ≡ Local k name → k < length us)
      (λ j x some inside among. stands us j x (λ f. (k : ℕ) (name : List ℕ) → f ≡ Local k name → k < length us) (λ part. false)
      (λ k name is. let same : j ≡ k = cc in omega (arith, same, inside))
      (λ part even there k name is. absurd cc)
      (none-of (all_commons (unit_at us j))))
      i e at

  -- and so is one that a unit declares
  pub local-inside : (e : Entity) → is_declared us e ≡ true → (k : ℕ) (name : List ℕ) → e ≡ Local k name → k < length us
  local-inside e declared k name is = ltb-true k (length us) (sym (ap (is_declared us) is) ∙ declared)

  -- each has a name
  pub own-named : (i : ℕ) (e : Entity) → slice_get (y_entities us) i ≡ Some e → has_name us e ≡ true
  own-named i e at =
      let found : List Entity = flat_map of_unit (range_with_len 1 (length us)) in
      let other : Entity → Bool = λ f. not (is_main us f) in
      let apart : not (is_main us e) ≡ true = All-get (λ f. other f ≡ true) (y_entities us) i e (all-noted (λ f. other f ≡ true) [] (filter other found) (All-nil (λ f. other f ≡ true)) (all-pass other found)) at in
      by (is_main us e) refl apart (any-at (same_entity e) (y_entities us) i e at (same-itself e))
    where
      by : (b : Bool) → is_main us e ≡ b → not b ≡ true → list_any (same_entity e) (y_entities us) ≡ true → has_name us e ≡ true
      by true is other has = (let e : false ≡ true = other in absurd cc)
      by false is other has = ap (λ (b : Bool). if b then has_main_name us e else list_any (same_entity e) (y_entities us)) is ∙ has

-- ---- a name of COMMON stands in a statement

abbrev pub names_in_part : CommonPart → List (List ℕ)
names_in_part part = decl_names part.decls

pub record StandsAt (x : List ℕ) (stmts : List Labelled) : Type 0 where
  pub place : ℕ
  pub s : Labelled
  pub here : slice_get stmts place ≡ Some s
  pub among : Among x (flat_map names_in_part (parts_of s.stmt))

pub common-at : (x : List ℕ) (stmts : List Labelled) → Among x (flat_map names_in_part (all_commons stmts)) → StandsAt x stmts
common-at x [] among = let e : false ≡ true = among in absurd cc
common-at x (s ∷ rest) among = by (list_any (bytes_eq x) own) refl (sym (list_any-append (bytes_eq x) own back) ∙ ap (list_any (bytes_eq x)) (sym (flat_map-append names_in_part (parts_of s.stmt) (all_commons rest))) ∙ among) (common-at x rest)
  where
    own : List (List ℕ)
    own = flat_map names_in_part (parts_of s.stmt)

    back : List (List ℕ)
    back = flat_map names_in_part (all_commons rest)

    by : (b : Bool) → list_any (bytes_eq x) own ≡ b → (b || list_any (bytes_eq x) back) ≡ true → (Among x back → StandsAt x rest) → StandsAt x (s ∷ rest)
    by true is any later = record { place = 0; s = s; here = refl; among = is }
    by false is any later = let more = later any in record { place = suc more.place; s = more.s; here = more.here; among = more.among }

pub record IsStored (arrays : List ℕ → Bool) (x : List ℕ) (stmt : Stmt) : Type 0 where
  pub stores : is_of_storage stmt ≡ true
  pub among : Among x (appearing arrays stmt)
  pub same : appearing_here arrays stmt ≡ appearing arrays stmt

pub common-appears : (arrays : List ℕ → Bool) (x : List ℕ) (stmt : Stmt) → Among x (flat_map names_in_part (parts_of stmt)) → IsStored arrays x stmt
common-appears arrays x (Common parts) among = record { stores = refl; among = among; same = refl }
common-appears arrays x _ among = let e : false ≡ true = among in absurd cc

same-here : (arrays : List ℕ → Bool) (stmt : Stmt) → is_of_storage stmt ≡ true → appearing_here arrays stmt ≡ appearing arrays stmt
same-here arrays (Common parts) is = refl
same-here arrays (Equivalence groups) is = refl
same-here arrays (Init parts) is = refl
same-here arrays _ is = let e : false ≡ true = is in absurd cc

-- ---- blocks

first-main : (us : List (List Labelled)) (block : Option (List ℕ)) → has_block (unit_at us 0) block ≡ true → first_with us block ≡ unit_at us 0
first-main [] block has = let e : false ≡ true = has in absurd cc
first-main (u ∷ us) block has = ap (λ (b : Bool). first_unit (cond b (u ∷ filter (λ v. has_block v block) us) (filter (λ v. has_block v block) us))) has

size-of-first : (us : List (List Labelled)) (block : Option (List ℕ)) → block_size us block ≡ length (block_list (first_with us block) block)
size-of-first us block = by (filter (λ u. has_block u block) us) refl
  where
    by : (found : List (List Labelled)) → filter (λ u. has_block u block) us ≡ found → block_size us block ≡ length (block_list (first_with us block) block)
    by [] is = rw is refl
    by (u ∷ rest) is = rw is refl

-- ---- a text whose form nothing refuses

module _ (stmts : List Labelled) (checked : Bool) (text : IsText stmts) (formed : first_answer (λ r. r) (form_refusals stmts (units stmts) checked) ≡ None) where
  abbrev us : List (List Labelled)
  us = units stmts

  none-mismatched : (k : ℕ) → list_any (is_mismatched_part us (unit_at us k)) (all_commons (unit_at us k)) ≡ false
  none-mismatched k = by (slice_get us k) refl
    where
      none : first_answer (bad_block us) us ≡ None
      none = no-end BadBlock (first_answer (bad_block us) us) (none-at (form_refusals stmts us checked) 5 (end_at BadBlock (first_answer (bad_block us) us)) formed refl)

      by : (o : Option (List Labelled)) → slice_get us k ≡ o → list_any (is_mismatched_part us (unit_or_none o)) (all_commons (unit_or_none o)) ≡ false
      by None at = refl
      by (Some u) at = no-line (list_any (is_mismatched_part us u) (all_commons u)) u (each-none (bad_block us) us none k u at)

  module _ (k : ℕ) (x : List ℕ) where
    -- a block is as long as in the first unit that has it
    as-long : (part : CommonPart) → is_mismatched_part us (unit_at us k) part ≡ false → length (block_list (unit_at us k) part.block) ≡ length (block_list (first_with us part.block) part.block)
    as-long part even =
        let u = unit_at us k in
        let v = first_with us part.block in
        alike-lengths u v (block_list u part.block) (block_list v part.block) (not-not (are_alike u v (block_list u part.block) (block_list v part.block)) even)

    main-place : (part : CommonPart) → is_mismatched_part us (unit_at us k) part ≡ false → Among x (block_list (unit_at us k) part.block)
        → has_block (unit_at us 0) part.block ≡ true → nat_lt (position_or_len (bytes_eq x) (block_list (unit_at us k) part.block)) (length (block_list (unit_at us 0) part.block)) ≡ true
    main-place part even among has =
        let own = block_list (unit_at us k) part.block in
        let mains = block_list (unit_at us 0) part.block in
        let long : length own ≡ length mains = as-long part even ∙ ap (λ (v : List Labelled). length (block_list v part.block)) (first-main us part.block has) in
        let early = first-inside (bytes_eq x) own among in
        lt-ltb (position_or_len (bytes_eq x) own) (length mains) (omega (arith, long, early))

    own-name : 0 < k → k < length us → Among x (own_names us k) → has_name us (entity_of us k x) ≡ true
    own-name some below own = by (is_main us (entity_of us k x)) refl
      where
        by : (b : Bool) → is_main us (entity_of us k x) ≡ b → has_name us (entity_of us k x) ≡ true
        by true is =
            ap (λ (b : Bool). if b then has_main_name us (entity_of us k x) else list_any (same_entity (entity_of us k x)) (y_entities us)) is
            ∙ stands us k x (λ e. is_main us e ≡ true → has_main_name us e ≡ true) (is_mismatched_part us (unit_at us k)) (λ main. refl) main-place (none-mismatched k) is
        by false is =
            ap (λ (b : Bool). if b then has_main_name us (entity_of us k x) else list_any (same_entity (entity_of us k x)) (y_entities us)) is
            ∙ noted us k x some below own is

    declared-in : k < length us → is_declared us (entity_of us k x) ≡ true
    declared-in inside = stands us k x (λ e. is_declared us e ≡ true) (is_mismatched_part us (unit_at us k)) (lt-ltb k (length us) inside) there (none-mismatched k)
      where
        there : (part : CommonPart) → is_mismatched_part us (unit_at us k) part ≡ false → Among x (block_list (unit_at us k) part.block) → is_declared us (InBlock part.block (position_or_len (bytes_eq x) (block_list (unit_at us k) part.block))) ≡ true
        there part even among =
            let own = block_list (unit_at us k) part.block in
            let long = as-long part even in
            let size = size-of-first us part.block in
            let early = first-inside (bytes_eq x) own among in
            lt-ltb (position_or_len (bytes_eq x) own) (block_size us part.block) (omega (arith, long, size, early))

  -- names of COMMON, EQUIVALENCE and DATA
  stored-name : (k i : ℕ) (s : Labelled) → 0 < k → k < length us → slice_get (unit_at us k) i ≡ Some s → is_of_storage s.stmt ≡ true → HaveNames us k (appearing (is_array (unit_at us k)) s.stmt)
  stored-name k i s some inside at is x among =
      let here : IsInUnit us k s = record { place = i; here = at } in
      own-name k x some inside
      (own-of us k x (appears us k s here x (ap (list_any (bytes_eq x)) (same-here (is_array (unit_at us k)) s.stmt is) ∙ among)) (stored-own stmts checked formed k s here is x among))

  place-name : (k : ℕ) (block : Option (List ℕ)) (place : ℕ) (x : List ℕ) → 0 < k → k < length us → slice_get (block_list (unit_at us k) block) place ≡ Some x → has_name us (InBlock block place) ≡ true
  place-name k block place x some inside here =
      let u : List Labelled = unit_at us k in
      let there = common-at x u (own-among block x (all_commons u) (among-at (block_list u block) place x here)) in
      let stored = common-appears (is_array u) x there.s.stmt there.among in
      subst (λ (e : Entity). has_name us e ≡ true) (block-place us k (common-once stmts checked formed k) block place x here)
      (stored-name k there.place there.s some inside there.here stored.stores x stored.among)

  put-place : (block : Option (List ℕ)) (place : ℕ) → is_merged us block ≡ true → place < block_size us block → has_name us (InBlock block place) ≡ true
  put-place block place put inside =
      let first = first-unit us block put in
      let names : List (List ℕ) = block_list (unit_at us first.unit) block in
      let size : block_size us block ≡ length names = size-first us block first.unit first.is in
      place-name first.unit block place (get_or names place []) first.behind_main first.inside (slice_get-get_or names place [] (omega (arith, size, inside)))

  pub all-named : AreAllNamed us
  all-named = record {
    own = λ k some inside x own. own-name k x some inside own;
    stored = stored-name;
    places = put-place;
    declared = each-own us (λ e. is_declared us e ≡ true) (λ k x some inside own. declared-in k x inside);
    short = text-short stmts text;
  }
