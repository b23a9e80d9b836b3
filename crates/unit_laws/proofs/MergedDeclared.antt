-- What is merged are declarations.
use Rattle.std.proofs.Common.{◌≡◌, ℕ, Bool, true, not, ◌&&◌, ◌||◌, cond, Option, append_assoc, sym, List, [], ◌∷◌, ◌++◌, map, flat_map, filter, false, ◌==◌, refl, ap, ◌∙◌}
use Rattle.std.specs.List.{list_all, list_any}
use Rattle.std.proofs.lemmas.Bool.{and_from, and_parts, or_left, or_right}
use Rattle.std.proofs.lemmas.List.Folds.{list_all-append, list_any-append}
use Rattle.f77_tree.specs.declared.declarations.InitPart.{InitPart}
use Rattle.f77_tree.specs.declared.declarations.Member.{Member}
use Rattle.f77_tree.specs.declared.statements.Labelled.{Labelled}
use Rattle.f77_tree.specs.declared.statements.Stmt.{Stmt}
use Rattle.f77_tree.specs.declared.statements.Stmt.TheVariants.{Program, Implicit, ImplicitNone, TypeOf, Dimension, Common, Equivalence, Init, Assign, Print, Take, Continue, Stop, GoTo, PickGoTo, SignIf, ThenIf', BlockIf, ElseIf, Else, EndIf, Do, Sub, CallTo, Back, End}
use Rattle.layout_rules.specs.Labels.{is_executable}
use Rattle.layout_rules.specs.Layout.{last_line}
use Rattle.program_units.specs.Units.{unit_at}
use Rattle.program_units.specs.Names.{y_entities, has_block, same_entity}
use Rattle.program_units.specs.Expansion.{type_of, common_of, equivalence_for, data_for, merged, is_running, member_for, units_but_main, blocks}
use Rattle.program_units.specs.Copies.{bare}
use Rattle.program_units.specs.declared.entity.Entity.{Entity}
use Rattle.unit_laws.proofs.SameEntities.{same-itself}

abbrev pub Listed : List (List Labelled) → Entity → Type 0
Listed us e = list_any (same_entity e) (y_entities us) ≡ true

-- each of a list is one of it
pub all-in : (more xs : List Entity) → list_all (λ e. list_any (same_entity e) (more ++ xs)) xs ≡ true
all-in more [] = refl
all-in more (e ∷ xs) =
    and_from (list_any (same_entity e) (more ++ e ∷ xs)) (list_all (λ x. list_any (same_entity x) (more ++ e ∷ xs)) xs)
    (list_any-append (same_entity e) more (e ∷ xs) ∙ or_right (list_any (same_entity e) more) (same_entity e e || list_any (same_entity e) xs) (or_left (same_entity e e) (list_any (same_entity e) xs) (same-itself e)))
    (ap (λ (ys : List Entity). list_all (λ x. list_any (same_entity x) ys) xs) (sym (append_assoc more (e ∷ []) xs)) ∙ all-in (more ++ e ∷ []) xs)

pub all-left : (p q : Entity → Bool) (xs : List Entity) → list_all p xs ≡ true → list_all p (filter q xs) ≡ true
all-left p q [] all = refl
all-left p q (e ∷ xs) all =
    let parts = and_parts (p e) (list_all p xs) all in
    by (q e) (and_from (p e) (list_all p (filter q xs)) parts.0 (all-left p q xs parts.1)) (all-left p q xs parts.1)
  where
    by : (b : Bool) → list_all p (e ∷ filter q xs) ≡ true → list_all p (filter q xs) ≡ true → list_all p (cond b (e ∷ filter q xs) (filter q xs)) ≡ true
    by true with_it without = with_it
    by false with_it without = without

pub running-listed : (us : List (List Labelled)) → list_all (λ e. list_any (same_entity e) (y_entities us)) (filter (is_running us) (y_entities us)) ≡ true
running-listed us = all-left (λ e. list_any (same_entity e) (y_entities us)) (is_running us) (y_entities us) (all-in [] (y_entities us))

-- what is merged behind the types
abbrev pub merged_rest : List (List Labelled) → List Labelled
merged_rest us =
    map (common_of us (last_line (unit_at us 0))) (filter (λ b. not (has_block (unit_at us 0) b) && list_any (λ k. has_block (unit_at us k) b) (units_but_main us)) (blocks us))
    ++ flat_map (λ k. flat_map (equivalence_for us k) (unit_at us k)) (units_but_main us)
    ++ flat_map (λ k. flat_map (data_for us k) (unit_at us k)) (units_but_main us)

abbrev pub merged_types : List (List Labelled) → List Labelled
merged_types us = map (type_of us (last_line (unit_at us 0))) (filter (is_running us) (y_entities us))

pub merged-parts : (us : List (List Labelled)) → merged us ≡ merged_types us ++ merged_rest us
merged-parts us =
    let commons = map (common_of us (last_line (unit_at us 0))) (filter (λ b. not (has_block (unit_at us 0) b) && list_any (λ k. has_block (unit_at us k) b) (units_but_main us)) (blocks us)) in
    let tied = flat_map (λ k. flat_map (equivalence_for us k) (unit_at us k)) (units_but_main us) in
    let given = flat_map (λ k. flat_map (data_for us k) (unit_at us k)) (units_but_main us) in
    ap (λ (xs : List Labelled). xs ++ given) (append_assoc (merged_types us) commons tied) ∙ append_assoc (merged_types us) (commons ++ tied) given

-- a test that passes the blocks, and each EQUIVALENCE and DATA
module _ (us : List (List Labelled)) (test : Labelled → Bool) (blocked : (line : ℕ) (block : Option (List ℕ)) → test (common_of us line block) ≡ true)
    (equal : (line : ℕ) (groups : List (List Member)) → test (bare 0 line (Equivalence groups)) ≡ true) (begun : (line : ℕ) (parts : List InitPart) → test (bare 0 line (Init parts)) ≡ true) where
  all-both : (xs ys : List Labelled) → list_all test xs ≡ true → list_all test ys ≡ true → list_all test (xs ++ ys) ≡ true
  all-both xs ys a b = list_all-append test xs ys ∙ and_from (list_all test xs) (list_all test ys) a b

  all-each : {X : Type 0} (f : X → List Labelled) → ((x : X) → list_all test (f x) ≡ true) → (xs : List X) → list_all test (flat_map f xs) ≡ true
  all-each f each [] = refl
  all-each f each (x ∷ xs) = all-both (f x) (flat_map f xs) (each x) (all-each f each xs)

  all-one : {X : Type 0} (f : X → Labelled) → ((x : X) → test (f x) ≡ true) → (xs : List X) → list_all test (map f xs) ≡ true
  all-one f each [] = refl
  all-one f each (x ∷ xs) = and_from (test (f x)) (list_all test (map f xs)) (each x) (all-one f each xs)

  ties-plain : (k label line : ℕ) (stmt : Stmt) → list_all test (equivalence_for us k (record { label = label; line = line; stmt = stmt })) ≡ true
  ties-plain k label line Program = refl
  ties-plain k label line (Implicit a) = refl
  ties-plain k label line ImplicitNone = refl
  ties-plain k label line (TypeOf a b) = refl
  ties-plain k label line (Dimension a) = refl
  ties-plain k label line (Common a) = refl
  ties-plain k label line (Equivalence a) = and_from (test (bare 0 line (Equivalence (map (λ group. map (member_for us k) group) a)))) true (equal line (map (λ group. map (member_for us k) group) a)) refl
  ties-plain k label line (Init a) = refl
  ties-plain k label line (Assign a b) = refl
  ties-plain k label line (Print a) = refl
  ties-plain k label line (Take a) = refl
  ties-plain k label line Continue = refl
  ties-plain k label line Stop = refl
  ties-plain k label line (GoTo a) = refl
  ties-plain k label line (PickGoTo a b) = refl
  ties-plain k label line (SignIf a b c d) = refl
  ties-plain k label line (ThenIf' a b c) = refl
  ties-plain k label line (BlockIf a) = refl
  ties-plain k label line (ElseIf a) = refl
  ties-plain k label line Else = refl
  ties-plain k label line EndIf = refl
  ties-plain k label line (Do a b c d e) = refl
  ties-plain k label line (Sub a b) = refl
  ties-plain k label line (CallTo a b) = refl
  ties-plain k label line Back = refl
  ties-plain k label line End = refl

  datas-plain : (k label line : ℕ) (stmt : Stmt) → list_all test (data_for us k (record { label = label; line = line; stmt = stmt })) ≡ true
  datas-plain k label line Program = refl
  datas-plain k label line (Implicit a) = refl
  datas-plain k label line ImplicitNone = refl
  datas-plain k label line (TypeOf a b) = refl
  datas-plain k label line (Dimension a) = refl
  datas-plain k label line (Common a) = refl
  datas-plain k label line (Equivalence a) = refl
  datas-plain k label line (Init a) = and_from (test (bare 0 line (Init (map (λ (part : InitPart). record part { items = map (member_for us k) part.items }) a)))) true (begun line (map (λ (part : InitPart). record part { items = map (member_for us k) part.items }) a)) refl
  datas-plain k label line (Assign a b) = refl
  datas-plain k label line (Print a) = refl
  datas-plain k label line (Take a) = refl
  datas-plain k label line Continue = refl
  datas-plain k label line Stop = refl
  datas-plain k label line (GoTo a) = refl
  datas-plain k label line (PickGoTo a b) = refl
  datas-plain k label line (SignIf a b c d) = refl
  datas-plain k label line (ThenIf' a b c) = refl
  datas-plain k label line (BlockIf a) = refl
  datas-plain k label line (ElseIf a) = refl
  datas-plain k label line Else = refl
  datas-plain k label line EndIf = refl
  datas-plain k label line (Do a b c d e) = refl
  datas-plain k label line (Sub a b) = refl
  datas-plain k label line (CallTo a b) = refl
  datas-plain k label line Back = refl
  datas-plain k label line End = refl

  pub rest-passes : list_all test (merged_rest us) ≡ true
  rest-passes =
      let line = last_line (unit_at us 0) in
      let added = filter (λ b. not (has_block (unit_at us 0) b) && list_any (λ k. has_block (unit_at us k) b) (units_but_main us)) (blocks us) in
      let commons = map (common_of us line) added in
      let tied = flat_map (λ k. flat_map (equivalence_for us k) (unit_at us k)) (units_but_main us) in
      let given = flat_map (λ k. flat_map (data_for us k) (unit_at us k)) (units_but_main us) in
      let b : list_all test commons ≡ true = all-one (common_of us line) (blocked line) added in
      let c : list_all test tied ≡ true = all-each (λ k. flat_map (equivalence_for us k) (unit_at us k)) (λ k. all-each (equivalence_for us k) (λ s. ties-plain k s.label s.line s.stmt) (unit_at us k)) (units_but_main us) in
      let d : list_all test given ≡ true = all-each (λ k. flat_map (data_for us k) (unit_at us k)) (λ k. all-each (data_for us k) (λ s. datas-plain k s.label s.line s.stmt) (unit_at us k)) (units_but_main us) in
      all-both (commons ++ tied) given (all-both commons tied b c) d

  -- and the types of entities with names of their own
  module _ (typed : (line : ℕ) (e : Entity) → Listed us e → test (type_of us line e) ≡ true) where
    all-typed : (line : ℕ) (xs : List Entity) → list_all (λ e. list_any (same_entity e) (y_entities us)) xs ≡ true → list_all test (map (type_of us line) xs) ≡ true
    all-typed line [] all = refl
    all-typed line (e ∷ xs) all =
        let parts = and_parts (list_any (same_entity e) (y_entities us)) (list_all (λ x. list_any (same_entity x) (y_entities us)) xs) all in
        and_from (test (type_of us line e)) (list_all test (map (type_of us line) xs)) (typed line e parts.0) (all-typed line xs parts.1)

    pub merged-passes : list_all test (merged us) ≡ true
    merged-passes = ap (list_all test) (merged-parts us) ∙ all-both (merged_types us) (merged_rest us) (all-typed (last_line (unit_at us 0)) (filter (is_running us) (y_entities us)) (running-listed us)) rest-passes

pub merged-declared : (us : List (List Labelled)) → list_all (λ s. not (is_executable s.stmt)) (merged us) ≡ true
merged-declared us = merged-passes us (λ s. not (is_executable s.stmt)) (λ line block. refl) (λ line groups. refl) (λ line parts. refl) (λ line e listed. refl)

pub merged-unlabelled : (us : List (List Labelled)) → list_all (λ s. s.label == 0) (merged us) ≡ true
merged-unlabelled us = merged-passes us (λ s. s.label == 0) (λ line block. refl) (λ line groups. refl) (λ line parts. refl) (λ line e listed. refl)
