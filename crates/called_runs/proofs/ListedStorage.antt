-- COMMON, EQUIVALENCE and DATA of the whole list: those of the main program, and what is merged among them.
use Rattle.std.proofs.Common.{◌≡◌, ℕ, ◌<◌, Bool, true, false, List, [], ◌∷◌, ◌++◌, map, flat_map, filter, take, drop, refl, sym, ap, ◌∙◌, Option}
use Rattle.std.specs.List.{range_with_len}
use Rattle.std.proofs.lemmas.List.{append-nil, map-append}
use Rattle.std.proofs.lemmas.List.Concat.{flat_map-append}
use mathlib.Core.Path.{fun_ext}
use Rattle.f77_tree.specs.declared.declarations.CommonPart.{CommonPart}
use Rattle.f77_tree.specs.declared.declarations.InitPart.{InitPart}
use Rattle.f77_tree.specs.declared.declarations.Member.{Member}
use Rattle.f77_tree.specs.declared.statements.Labelled.{Labelled}
use Rattle.f77_tree.specs.declared.statements.Stmt.{Stmt}
use Rattle.f77_tree.specs.declared.statements.Stmt.TheVariants.{Common, Equivalence, Init}
use Rattle.layout_rules.specs.Declarations.{all_commons, all_groups, all_inits, groups_of, inits_of, parts_of}
use Rattle.layout_rules.specs.Labels.{is_executable}
use Rattle.layout_rules.specs.Layout.{last_line}
use Rattle.program_units.specs.Expansion.{block_size, blocks, common_decl, common_of, data_for, declared_first, init_for, is_running, members_for, merged, equivalence_for, type_of, units_but_main, whole_list}
use Rattle.copied_values.specs.ListedDeclarations.{declarations, unless_executable}
use Rattle.program_units.specs.Names.{y_entities}
use Rattle.program_units.specs.Merged.{is_merged}
use Rattle.program_units.specs.Units.{unit_at, unit_of}

-- ---- the whole list

-- the declarations of the list
abbrev ListsDeclare : Type 0
ListsDeclare = (us : List (List Labelled)) → ((name : List ℕ) → 0 < unit_of us name) → declarations (whole_list us) ≡ declarations (take (declared_first (unit_at us 0)) (unit_at us 0)) ++ (map (λ s. s.stmt) (merged us) ++ declarations (drop (declared_first (unit_at us 0)) (unit_at us 0)))

module _ {X : Type 0} (f : Stmt → List X) where
  of-stmts : (stmts : List Labelled) → flat_map f (map (λ s. s.stmt) stmts) ≡ flat_map (λ (s : Labelled). f s.stmt) stmts
  of-stmts [] = refl
  of-stmts (s ∷ rest) = ap (λ (xs : List X). f s.stmt ++ xs) (of-stmts rest)

  of-declared : ((s : Stmt) → is_executable s ≡ true → f s ≡ []) → (stmts : List Labelled) → flat_map (λ (s : Labelled). f s.stmt) stmts ≡ flat_map f (declarations stmts)
  of-declared none [] = refl
  of-declared none (s ∷ rest) = by_test (is_executable s.stmt) refl (of-declared none rest)
    where
      by_test : (b : Bool) → is_executable s.stmt ≡ b → flat_map (λ (t : Labelled). f t.stmt) rest ≡ flat_map f (declarations rest) → f s.stmt ++ flat_map (λ (t : Labelled). f t.stmt) rest ≡ flat_map f (unless_executable b s.stmt (declarations rest))
      by_test true does more = ap (λ (xs : List X). xs ++ flat_map (λ (t : Labelled). f t.stmt) rest) (none s.stmt does) ∙ more
      by_test false is more = ap (λ (xs : List X). f s.stmt ++ xs) more

  of-list : ListsDeclare → ((s : Stmt) → is_executable s ≡ true → f s ≡ []) → (us : List (List Labelled)) → ((name : List ℕ) → 0 < unit_of us name)
      → flat_map (λ (s : Labelled). f s.stmt) (whole_list us) ≡ flat_map (λ (s : Labelled). f s.stmt) (take (declared_first (unit_at us 0)) (unit_at us 0)) ++ (flat_map (λ (s : Labelled). f s.stmt) (merged us) ++ flat_map (λ (s : Labelled). f s.stmt) (drop (declared_first (unit_at us 0)) (unit_at us 0)))
  of-list declares none us subs =
      let front = take (declared_first (unit_at us 0)) (unit_at us 0) in
      let back = drop (declared_first (unit_at us 0)) (unit_at us 0) in
      let among = map (λ (s : Labelled). s.stmt) (merged us) in
      of-declared none (whole_list us)
      ∙ ap (flat_map f) (declares us subs)
      ∙ flat_map-append f (declarations front) (among ++ declarations back)
      ∙ ap (λ (xs : List X). flat_map f (declarations front) ++ xs) (flat_map-append f among (declarations back))
      ∙ ap (λ (xs : List X). xs ++ (flat_map f among ++ flat_map f (declarations back))) (sym (of-declared none front))
      ∙ ap (λ (xs : List X). flat_map (λ (s : Labelled). f s.stmt) front ++ (xs ++ flat_map f (declarations back))) (of-stmts (merged us))
      ∙ ap (λ (xs : List X). flat_map (λ (s : Labelled). f s.stmt) front ++ (flat_map (λ (s : Labelled). f s.stmt) (merged us) ++ xs)) (sym (of-declared none back))

no-parts : (s : Stmt) → is_executable s ≡ true → parts_of s ≡ []
no-parts (Common parts) does = let e : false ≡ true = does in absurd cc
no-parts s does = refl

no-groups : (s : Stmt) → is_executable s ≡ true → groups_of s ≡ []
no-groups (Equivalence groups) does = let e : false ≡ true = does in absurd cc
no-groups s does = refl

no-inits : (s : Stmt) → is_executable s ≡ true → inits_of s ≡ []
no-inits (Init parts) does = let e : false ≡ true = does in absurd cc
no-inits s does = refl

pub list-commons : ListsDeclare → (us : List (List Labelled)) → ((name : List ℕ) → 0 < unit_of us name) → all_commons (whole_list us) ≡ all_commons (take (declared_first (unit_at us 0)) (unit_at us 0)) ++ (all_commons (merged us) ++ all_commons (drop (declared_first (unit_at us 0)) (unit_at us 0)))
list-commons declares us subs = of-list parts_of declares no-parts us subs

pub list-groups : ListsDeclare → (us : List (List Labelled)) → ((name : List ℕ) → 0 < unit_of us name) → all_groups (whole_list us) ≡ all_groups (take (declared_first (unit_at us 0)) (unit_at us 0)) ++ (all_groups (merged us) ++ all_groups (drop (declared_first (unit_at us 0)) (unit_at us 0)))
list-groups declares us subs = of-list groups_of declares no-groups us subs

pub list-inits : ListsDeclare → (us : List (List Labelled)) → ((name : List ℕ) → 0 < unit_of us name) → all_inits (whole_list us) ≡ all_inits (take (declared_first (unit_at us 0)) (unit_at us 0)) ++ (all_inits (merged us) ++ all_inits (drop (declared_first (unit_at us 0)) (unit_at us 0)))
list-inits declares us subs = of-list inits_of declares no-inits us subs

-- ---- what is merged

flat-none : {X Y : Type 0} (g : X → List Y) → ((x : X) → g x ≡ []) → (xs : List X) → flat_map g xs ≡ []
flat-none g none [] = refl
flat-none {X} {Y} g none (x ∷ xs) = ap (λ (ys : List Y). ys ++ flat_map g xs) (none x) ∙ flat-none g none xs

map-flat : {X Y Z : Type 0} (h : Y → Z) (g : X → List Y) (xs : List X) → flat_map (λ x. map h (g x)) xs ≡ map h (flat_map g xs)
map-flat h g [] = refl
map-flat {X} {Y} {Z} h g (x ∷ xs) = ap (λ (zs : List Z). map h (g x) ++ zs) (map-flat h g xs) ∙ sym (map-append h (g x) (flat_map g xs))

module _ {X : Type 0} (of : Labelled → List X) (puts : ℕ → Labelled → List Labelled) (gives : ℕ → Labelled → List X) (same : (k : ℕ) (s : Labelled) → flat_map of (puts k s) ≡ gives k s) where
  of-unit : (k : ℕ) (u : List Labelled) → flat_map of (flat_map (puts k) u) ≡ flat_map (gives k) u
  of-unit k [] = refl
  of-unit k (s ∷ u) = flat_map-append of (puts k s) (flat_map (puts k) u) ∙ ap (λ (xs : List X). xs ++ flat_map of (flat_map (puts k) u)) (same k s) ∙ ap (λ (xs : List X). gives k s ++ xs) (of-unit k u)

  of-units : (us : List (List Labelled)) (ks : List ℕ) → flat_map of (flat_map (λ k. flat_map (puts k) (unit_at us k)) ks) ≡ flat_map (λ k. flat_map (gives k) (unit_at us k)) ks
  of-units us [] = refl
  of-units us (k ∷ ks) =
      flat_map-append of (flat_map (puts k) (unit_at us k)) (flat_map (λ j. flat_map (puts j) (unit_at us j)) ks)
      ∙ ap (λ (xs : List X). xs ++ flat_map of (flat_map (λ j. flat_map (puts j) (unit_at us j)) ks)) (of-unit k (unit_at us k))
      ∙ ap (λ (xs : List X). flat_map (gives k) (unit_at us k) ++ xs) (of-units us ks)

  none-of-units : ((k : ℕ) (s : Labelled) → gives k s ≡ []) → (us : List (List Labelled)) (ks : List ℕ) → flat_map of (flat_map (λ k. flat_map (puts k) (unit_at us k)) ks) ≡ []
  none-of-units none us ks = of-units us ks ∙ flat-none (λ k. flat_map (gives k) (unit_at us k)) (λ k. flat-none (gives k) (none k) (unit_at us k)) ks

module _ (us : List (List Labelled)) where
  tie-parts : (k label line : ℕ) (stmt : Stmt) → flat_map (λ (s : Labelled). parts_of s.stmt) (equivalence_for us k (record { label = label; line = line; stmt = stmt })) ≡ []
  tie-parts k label line (Equivalence groups) = refl
  tie-parts k label line stmt = refl

  tie-inits : (k label line : ℕ) (stmt : Stmt) → flat_map (λ (s : Labelled). inits_of s.stmt) (equivalence_for us k (record { label = label; line = line; stmt = stmt })) ≡ []
  tie-inits k label line (Equivalence groups) = refl
  tie-inits k label line stmt = refl

  tie-groups : (k label line : ℕ) (stmt : Stmt) → flat_map (λ (s : Labelled). groups_of s.stmt) (equivalence_for us k (record { label = label; line = line; stmt = stmt })) ≡ map (members_for us k) (groups_of stmt)
  tie-groups k label line (Equivalence groups) = append-nil (map (members_for us k) groups)
  tie-groups k label line stmt = refl

  data-parts : (k label line : ℕ) (stmt : Stmt) → flat_map (λ (s : Labelled). parts_of s.stmt) (data_for us k (record { label = label; line = line; stmt = stmt })) ≡ []
  data-parts k label line (Init parts) = refl
  data-parts k label line stmt = refl

  data-groups : (k label line : ℕ) (stmt : Stmt) → flat_map (λ (s : Labelled). groups_of s.stmt) (data_for us k (record { label = label; line = line; stmt = stmt })) ≡ []
  data-groups k label line (Init parts) = refl
  data-groups k label line stmt = refl

  data-inits : (k label line : ℕ) (stmt : Stmt) → flat_map (λ (s : Labelled). inits_of s.stmt) (data_for us k (record { label = label; line = line; stmt = stmt })) ≡ map (init_for us k) (inits_of stmt)
  data-inits k label line (Init parts) = append-nil (map (init_for us k) parts)
  data-inits k label line stmt = refl

  abbrev part_of : Option (List ℕ) → CommonPart
  part_of block = record { block = block; decls = map (common_decl us block) (range_with_len 0 (block_size us block)) }

  common-parts : (line : ℕ) (bs : List (Option (List ℕ))) → flat_map (λ (s : Labelled). parts_of s.stmt) (map (common_of us line) bs) ≡ map part_of bs
  common-parts line [] = refl
  common-parts line (block ∷ bs) = ap (λ (parts : List CommonPart). part_of block ∷ parts) (common-parts line bs)

  module _ {X : Type 0} (of : Labelled → List X) where
    none-mapped : {Y : Type 0} (made : Y → Labelled) → ((y : Y) → of (made y) ≡ []) → (ys : List Y) → flat_map of (map made ys) ≡ []
    none-mapped made none [] = refl
    none-mapped made none (y ∷ ys) = ap (λ (xs : List X). xs ++ flat_map of (map made ys)) (none y) ∙ none-mapped made none ys

    in-four : (types commons tied given : List Labelled) → flat_map of (types ++ commons ++ tied ++ given) ≡ flat_map of types ++ flat_map of commons ++ flat_map of tied ++ flat_map of given
    in-four types commons tied given =
        flat_map-append of (types ++ commons ++ tied) given
        ∙ ap (λ (xs : List X). xs ++ flat_map of given) (flat_map-append of (types ++ commons) tied ∙ ap (λ (xs : List X). xs ++ flat_map of tied) (flat_map-append of types commons))

    of-put-in : (a b c d : List X) → flat_map of (map (type_of us (last_line (unit_at us 0))) (filter (is_running us) (y_entities us))) ≡ a → flat_map of (map (common_of us (last_line (unit_at us 0))) (filter (is_merged us) (blocks us))) ≡ b
        → flat_map of (flat_map (λ k. flat_map (equivalence_for us k) (unit_at us k)) (units_but_main us)) ≡ c → flat_map of (flat_map (λ k. flat_map (data_for us k) (unit_at us k)) (units_but_main us)) ≡ d → flat_map of (merged us) ≡ a ++ b ++ c ++ d
    of-put-in a b c d first second third fourth =
        let types = map (type_of us (last_line (unit_at us 0))) (filter (is_running us) (y_entities us)) in
        let commons = map (common_of us (last_line (unit_at us 0))) (filter (is_merged us) (blocks us)) in
        let tied = flat_map (λ k. flat_map (equivalence_for us k) (unit_at us k)) (units_but_main us) in
        let given = flat_map (λ k. flat_map (data_for us k) (unit_at us k)) (units_but_main us) in
        in-four types commons tied given
        ∙ ap (λ (xs : List X). xs ++ flat_map of commons ++ flat_map of tied ++ flat_map of given) first
        ∙ ap (λ (xs : List X). a ++ xs ++ flat_map of tied ++ flat_map of given) second
        ∙ ap (λ (xs : List X). a ++ b ++ xs ++ flat_map of given) third
        ∙ ap (λ (xs : List X). a ++ b ++ c ++ xs) fourth

  pub merged-commons : all_commons (merged us) ≡ map part_of (filter (is_merged us) (blocks us))
  merged-commons =
      let of : Labelled → List CommonPart = λ s. parts_of s.stmt in
      let made = map part_of (filter (is_merged us) (blocks us)) in
      of-put-in of [] made [] [] (none-mapped of (type_of us (last_line (unit_at us 0))) (λ e. refl) (filter (is_running us) (y_entities us))) (common-parts (last_line (unit_at us 0)) (filter (is_merged us) (blocks us)))
      (none-of-units of (equivalence_for us) (λ k s. []) (λ k s. tie-parts k s.label s.line s.stmt) (λ k s. refl) us (units_but_main us)) (none-of-units of (data_for us) (λ k s. []) (λ k s. data-parts k s.label s.line s.stmt) (λ k s. refl) us (units_but_main us))
      ∙ append-nil (made ++ []) ∙ append-nil made

  pub merged-groups : all_groups (merged us) ≡ flat_map (λ k. map (members_for us k) (all_groups (unit_at us k))) (units_but_main us)
  merged-groups =
      let of : Labelled → List (List Member) = λ s. groups_of s.stmt in
      let made = flat_map (λ k. map (members_for us k) (all_groups (unit_at us k))) (units_but_main us) in
      of-put-in of [] [] made [] (none-mapped of (type_of us (last_line (unit_at us 0))) (λ e. refl) (filter (is_running us) (y_entities us))) (none-mapped of (common_of us (last_line (unit_at us 0))) (λ b. refl) (filter (is_merged us) (blocks us)))
      (of-units of (equivalence_for us) (λ k s. map (members_for us k) (groups_of s.stmt)) (λ k s. tie-groups k s.label s.line s.stmt) us (units_but_main us) ∙ ap (λ (g : ℕ → List (List Member)). flat_map g (units_but_main us)) (fun_ext (λ k. map-flat (members_for us k) of (unit_at us k))))
      (none-of-units of (data_for us) (λ k s. []) (λ k s. data-groups k s.label s.line s.stmt) (λ k s. refl) us (units_but_main us))
      ∙ append-nil made

  pub merged-inits : all_inits (merged us) ≡ flat_map (λ k. map (init_for us k) (all_inits (unit_at us k))) (units_but_main us)
  merged-inits =
      let of : Labelled → List InitPart = λ s. inits_of s.stmt in
      let made = flat_map (λ k. map (init_for us k) (all_inits (unit_at us k))) (units_but_main us) in
      of-put-in of [] [] [] made (none-mapped of (type_of us (last_line (unit_at us 0))) (λ e. refl) (filter (is_running us) (y_entities us))) (none-mapped of (common_of us (last_line (unit_at us 0))) (λ b. refl) (filter (is_merged us) (blocks us)))
      (none-of-units of (equivalence_for us) (λ k s. []) (λ k s. tie-inits k s.label s.line s.stmt) (λ k s. refl) us (units_but_main us))
      (of-units of (data_for us) (λ k s. map (init_for us k) (inits_of s.stmt)) (λ k s. data-inits k s.label s.line s.stmt) us (units_but_main us) ∙ ap (λ (g : ℕ → List InitPart). flat_map g (units_but_main us)) (fun_ext (λ k. map-flat (init_for us k) of (unit_at us k))))
