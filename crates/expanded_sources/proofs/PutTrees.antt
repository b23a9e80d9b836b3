-- What is merged are trees.
use Rattle.std.proofs.Common.{◌≡◌, ℕ, zero, suc, ◌+◌, ◌-◌, ◌<◌, ◌≤◌, Bool, true, false, ◌&&◌, cond, All, List, [], ◌∷◌, ◌++◌, length, map, flat_map, filter, Option, None, refl, ap, ◌∙◌, arith}
use Rattle.std.specs.Prelude.{nat_lt}
use Rattle.std.specs.List.{list_all, list_any, range_with_len}
use Rattle.std.proofs.lemmas.Bool.{and_from, and_parts, lt-ltb, ltb-true}
use Rattle.std.proofs.lemmas.List.{append-nil, length-map}
use Rattle.std.proofs.lemmas.List.FromFn.{length-range_with_len}
use Rattle.f77_tree.proofs.AllLemmas.{All-cons, All-first, All-nil, All-rest}
use Rattle.f77_tree.specs.Name.{is_name}
use Rattle.f77_tree.specs.declared.declarations.CommonPart.{CommonPart}
use Rattle.f77_tree.specs.declared.declarations.Decl.{Decl}
use Rattle.f77_tree.specs.declared.declarations.InitPart.{InitPart}
use Rattle.f77_tree.specs.declared.declarations.Member.{Member}
use Rattle.f77_tree.specs.declared.statements.Labelled.{Labelled}
use Rattle.f77_tree.specs.declared.statements.Stmt.{Stmt}
use Rattle.f77_tree.specs.declared.statements.Stmt.TheVariants.{Equivalence, Init}
use Rattle.layout_rules.specs.Labels.{IsLabel}
use Rattle.layout_rules.specs.Layout.{last_line}
use Rattle.layout_rules.specs.ReadDeclarations.{IsReadDecl, IsReadGroup, IsReadInit, IsReadPart}
use Rattle.layout_rules.specs.StatementTrees.{IsTree}
use Rattle.storage_laws.proofs.DeclaredForms.{All-flat_map}
use Rattle.program_units.specs.declared.entity.Entity.{Entity}
use Rattle.program_units.specs.Expansion.{block_size, blocks, common_decl, common_of, data_for, init_for, is_running, members_for, merged, equivalence_for, type_decl, type_of, units_but_main}
use Rattle.program_units.specs.Entities.{entity_of}
use Rattle.program_units.specs.Names.{name_for, same_entity, y_entities}
use Rattle.program_units.specs.Merged.{is_merged}
use Rattle.program_units.specs.Refusals.{unit_refusal}
use Rattle.program_units.specs.Texts.{IsText}
use Rattle.program_units.specs.Units.{runs, unit_at, units}
use Rattle.unit_laws.proofs.AcceptedTexts.{some-unit}
use Rattle.entity_names.proofs.FirstBlocks.{size-first}
use Rattle.unit_laws.proofs.MergedDeclared.{running-listed}
use Rattle.expanded_sources.proofs.HeldPieces.{IsInUnit, Whole, whole-append, whole-flat-all, whole-flat-each, whole-map-all}
use Rattle.expanded_sources.proofs.NewNames.{entity-name}
use Rattle.unit_laws.proofs.FirstUnits.{first-unit}
use Rattle.expanded_sources.proofs.PutNames.{common-named, groups-named, inits-named, stored-named}
use Rattle.expanded_sources.proofs.UnitDeclarations.{block-read, declared-dims, no-dims, unit-declares}

-- ---- lists

kept-passes : {X : Type 0} (p : X → Bool) (xs : List X) → list_all p (filter p xs) ≡ true
kept-passes p [] = refl
kept-passes p (x ∷ xs) = by (p x) refl (kept-passes p xs)
  where
    by : (b : Bool) → p x ≡ b → list_all p (filter p xs) ≡ true → list_all p (cond b (x ∷ filter p xs) (filter p xs)) ≡ true
    by true is later = and_from (p x) (list_all p (filter p xs)) is later
    by false is later = later

still-passes : {X : Type 0} (p q : X → Bool) (xs : List X) → list_all p xs ≡ true → list_all p (filter q xs) ≡ true
still-passes p q [] all = refl
still-passes p q (x ∷ xs) all = by (q x) (still-passes p q xs parts.1)
  where
    parts : (p x ≡ true) × (list_all p xs ≡ true)
    parts = and_parts (p x) (list_all p xs) all

    by : (b : Bool) → list_all p (filter q xs) ≡ true → list_all p (cond b (x ∷ filter q xs) (filter q xs)) ≡ true
    by true later = and_from (p x) (list_all p (filter q xs)) parts.0 later
    by false later = later

-- a unit of so many, but not the first
abbrev is_sub_unit : ℕ → ℕ → Bool
is_sub_unit count k = nat_lt 0 k && nat_lt k count

all-subs : (count a n : ℕ) → 0 < a → a + n ≤ count → list_all (is_sub_unit count) (range_with_len a n) ≡ true
all-subs count a zero some fits = refl
all-subs count a (suc n) some fits =
    and_from (is_sub_unit count a) (list_all (is_sub_unit count) (range_with_len (a + 1) n)) (and_from (nat_lt 0 a) (nat_lt a count) (lt-ltb 0 a some) (lt-ltb a count (omega (arith, fits))))
    (all-subs count (a + 1) n (omega arith) (omega (arith, fits)))

subs-all : (us : List (List Labelled)) → 0 < length us → list_all (is_sub_unit (length us)) (units_but_main us) ≡ true
subs-all us some = still-passes (is_sub_unit (length us)) (runs us) (range_with_len 1 (length us - 1)) (all-subs (length us) 1 (length us - 1) (omega arith) (omega (arith, some)))

-- ---- declarations

no-labels : All IsLabel []
no-labels = All-nil IsLabel

bare-decls : (us : List (List Labelled)) (block : Option (List ℕ)) (places : List ℕ) → All IsReadDecl (map (common_decl us block) places)
bare-decls us block [] = All-nil IsReadDecl
bare-decls us block (i ∷ places) = All-cons IsReadDecl (common_decl us block i) (map (common_decl us block) places) no-dims (bare-decls us block places)

groups-read : (us : List (List Labelled)) (k : ℕ) (groups : List (List Member)) → All IsReadGroup groups → All IsReadGroup (map (members_for us k) groups)
groups-read us k [] all = All-nil IsReadGroup
groups-read us k (group ∷ groups) all =
    let two : 2 ≤ length group = All-first IsReadGroup group groups all in
    let same = length-map group (λ (m : Member). record m { name = name_for us (entity_of us k m.name) }) in
    All-cons IsReadGroup (members_for us k group) (map (members_for us k) groups) (omega (arith, two, same)) (groups-read us k groups (All-rest IsReadGroup group groups all))

inits-read : (us : List (List Labelled)) (k : ℕ) (parts : List InitPart) → All IsReadInit parts → All IsReadInit (map (init_for us k) parts)
inits-read us k [] all = All-nil IsReadInit
inits-read us k (part ∷ parts) all =
    let first = All-first IsReadInit part parts all in
    let some = first.some_items in
    let same = length-map part.items (λ (m : Member). record m { name = name_for us (entity_of us k m.name) }) in
    All-cons IsReadInit (init_for us k part) (map (init_for us k) parts) (record { some_items = omega (arith, some, same); some_values = first.some_values; written = first.written }) (inits-read us k parts (All-rest IsReadInit part parts all))

-- ---- a text that nothing refuses

module _ (stmts : List Labelled) (checked : Bool) (text : IsText stmts) (accepted : unit_refusal stmts checked ≡ None) where
  abbrev us : List (List Labelled)
  us = units stmts

  type-tree : (line : ℕ) (e : Entity) → list_any (same_entity e) (y_entities us) ≡ true → IsTree (type_of us line e).stmt
  type-tree line e listed = record {
    declares = record { decls = All-cons IsReadDecl (type_decl us e) [] (declared-dims stmts text e) (All-nil IsReadDecl); parts = All-nil IsReadPart; groups = All-nil IsReadGroup; inits = All-nil IsReadInit };
    reads = tt;
    labels = no-labels;
    takes = λ targets is. absurd cc;
    names = λ arrays. and_from (is_name (type_decl us e).name) true (entity-name stmts checked text accepted e listed) refl;
    inner = refl;
  }

  common-tree : (line : ℕ) (block : Option (List ℕ)) → is_merged us block ≡ true → IsTree (common_of us line block).stmt
  common-tree line block put =
      let first = first-unit us block put in
      let places : List ℕ = range_with_len 0 (block_size us block) in
      let decls : List Decl = map (common_decl us block) places in
      let part : CommonPart = record { block = block; decls = decls } in
      let read = block-read stmts text first.unit block first.has in
      let size = size-first us block first.unit first.is in
      let long = length-map places (common_decl us block) in
      let count = length-range_with_len 0 (block_size us block) in
      let more = read.some in
      let some : 0 < length decls = omega (arith, size, long, count, more) in
      record {
        declares = record {
          decls = All-flat_map IsReadDecl (λ (p : CommonPart). p.decls) (part ∷ []) (All-cons (λ (p : CommonPart). All IsReadDecl p.decls) part [] (bare-decls us block places) (All-nil (λ (p : CommonPart). All IsReadDecl p.decls)));
          parts = All-cons IsReadPart part [] (record { block_name = read.is_block; some = some }) (All-nil IsReadPart);
          groups = All-nil IsReadGroup;
          inits = All-nil IsReadInit;
        };
        reads = tt;
        labels = no-labels;
        takes = λ targets is. absurd cc;
        names = λ arrays. ap (list_all is_name) (append-nil (map (λ (decl : Decl). decl.name) decls)) ∙ common-named stmts checked text accepted block first;
        inner = refl;
      }

  module _ (k : ℕ) (some : 0 < k) (inside : k < length us) where
    tie-tree : (label line : ℕ) (groups : List (List Member)) → IsInUnit us k (record { label = label; line = line; stmt = Equivalence groups }) → IsTree (Equivalence (map (members_for us k) groups))
    tie-tree label line groups here =
        let s : Labelled = record { label = label; line = line; stmt = Equivalence groups } in
        record {
          declares = record { decls = All-nil IsReadDecl; parts = All-nil IsReadPart; groups = groups-read us k groups (unit-declares stmts text k s here).groups; inits = All-nil IsReadInit };
          reads = tt;
          labels = no-labels;
          takes = λ targets is. absurd cc;
          names = λ arrays. groups-named us k groups (stored-named stmts checked text accepted k s some inside here refl refl);
          inner = refl;
        }

    data-tree : (label line : ℕ) (parts : List InitPart) → IsInUnit us k (record { label = label; line = line; stmt = Init parts }) → IsTree (Init (map (init_for us k) parts))
    data-tree label line parts here =
        let s : Labelled = record { label = label; line = line; stmt = Init parts } in
        record {
          declares = record { decls = All-nil IsReadDecl; parts = All-nil IsReadPart; groups = All-nil IsReadGroup; inits = inits-read us k parts (unit-declares stmts text k s here).inits };
          reads = tt;
          labels = no-labels;
          takes = λ targets is. absurd cc;
          names = λ arrays. inits-named us k parts (stored-named stmts checked text accepted k s some inside here refl refl);
          inner = refl;
        }

    ties-hold : (s : Labelled) → IsInUnit us k s → Whole IsTree (equivalence_for us k s)
    ties-hold s here = by s.label s.line s.stmt here
      where
        by : (label line : ℕ) (stmt : Stmt) → IsInUnit us k (record { label = label; line = line; stmt = stmt }) → Whole IsTree (equivalence_for us k (record { label = label; line = line; stmt = stmt }))
        by label line (Equivalence groups) it = (tie-tree label line groups it, tt)
        by label line _ it = tt

    datas-hold : (s : Labelled) → IsInUnit us k s → Whole IsTree (data_for us k s)
    datas-hold s here = by s.label s.line s.stmt here
      where
        by : (label line : ℕ) (stmt : Stmt) → IsInUnit us k (record { label = label; line = line; stmt = stmt }) → Whole IsTree (data_for us k (record { label = label; line = line; stmt = stmt }))
        by label line (Init parts) it = (data-tree label line parts it, tt)
        by label line _ it = tt

  -- of each subroutine that runs
  each-unit : (f : ℕ → Labelled → List Labelled) → ((k : ℕ) → 0 < k → k < length us → (s : Labelled) → IsInUnit us k s → Whole IsTree (f k s)) → Whole IsTree (flat_map (λ k. flat_map (f k) (unit_at us k)) (units_but_main us))
  each-unit f holds =
      whole-flat-all IsTree (is_sub_unit (length us)) (λ k. flat_map (f k) (unit_at us k))
      (λ k is. let parts = and_parts (nat_lt 0 k) (nat_lt k (length us)) is in
      whole-flat-each IsTree (f k) (unit_at us k) (λ j s here. holds k (ltb-true 0 k parts.0) (ltb-true k (length us) parts.1) s (record { place = j; here = here })))
      (units_but_main us) (subs-all us (some-unit stmts text.ended))

  pub put-trees : Whole IsTree (merged us)
  put-trees =
      let line : ℕ = last_line (unit_at us 0) in
      let types : List Labelled = map (type_of us line) (filter (is_running us) (y_entities us)) in
      let commons : List Labelled = map (common_of us line) (filter (is_merged us) (blocks us)) in
      let tied : List Labelled = flat_map (λ k. flat_map (equivalence_for us k) (unit_at us k)) (units_but_main us) in
      let given : List Labelled = flat_map (λ k. flat_map (data_for us k) (unit_at us k)) (units_but_main us) in
      whole-append IsTree ((types ++ commons) ++ tied) given
      (whole-append IsTree (types ++ commons) tied
      (whole-append IsTree types commons
      (whole-map-all IsTree (λ e. list_any (same_entity e) (y_entities us)) (type_of us line) (type-tree line) (filter (is_running us) (y_entities us)) (running-listed us))
      (whole-map-all IsTree (is_merged us) (common_of us line) (common-tree line) (filter (is_merged us) (blocks us)) (kept-passes (is_merged us) (blocks us))))
      (each-unit (equivalence_for us) ties-hold))
      (each-unit (data_for us) datas-hold)
