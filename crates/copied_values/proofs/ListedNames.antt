-- Kinds and dimensions of names in the list of the expansion.
use Rattle.std.proofs.Common.{◌≡◌, ℕ, ◌<◌, Bool, true, false, not, ◌&&◌, ◌||◌, if◌then◌else◌, List, [], ◌∷◌, ◌++◌, map, flat_map, take, drop, Option, Some, None, refl, sym, ap, ◌∙◌}
use Rattle.std.specs.Prelude.{bytes_eq, slice_index}
use Rattle.std.specs.List.{list_all, list_any}
use Rattle.std.specs.Option.{is_some}
use Rattle.std.proofs.lemmas.Bool.{and_from, and_parts}
use Rattle.std.proofs.lemmas.List.Concat.{flat_map-cons}
use Rattle.std.proofs.lemmas.List.Folds.{list_any-append}
use Rattle.std.proofs.lemmas.Slice.Eq.{bytes_eq-Decides}
use Rattle.f77_tree.specs.declared.declarations.CommonPart.{CommonPart}
use Rattle.f77_tree.specs.declared.declarations.Decl.{Decl}
use Rattle.f77_tree.specs.declared.declarations.Dim.{Dim}
use Rattle.f77_tree.specs.declared.declarations.InitPart.{InitPart}
use Rattle.f77_tree.specs.declared.declarations.Kind.{Kind}
use Rattle.f77_tree.specs.declared.declarations.Member.{Member}
use Rattle.f77_tree.specs.declared.statements.Labelled.{Labelled}
use Rattle.f77_tree.specs.declared.statements.Stmt.{Stmt}
use Rattle.f77_tree.specs.declared.statements.Stmt.TheVariants.{Equivalence, Init}
use Rattle.layout_rules.specs.Declarations.{declarators, dims_of, dims_or_none, dims_told, has_dims, is_implicit_none, kind_by_default, kind_implied, kind_of, kind_typed}
use Rattle.layout_rules.specs.Executables.{kind_or_integer}
use Rattle.layout_rules.specs.Faults.{answer_or, first_answer}
use Rattle.layout_rules.specs.Labels.{is_executable}
use Rattle.program_units.specs.declared.entity.Entity.{Entity}
use Rattle.program_units.specs.declared.entity.Entity.TheVariants.{InBlock}
use Rattle.program_units.specs.Expansion.{common_of, declared_first, declared_in, merged, type_of, whole_list}
use Rattle.copied_values.specs.ListedDeclarations.{declarations}
use Rattle.program_units.specs.Names.{name_for}
use Rattle.program_units.specs.Units.{unit_at, unit_of}
use Rattle.copied_values.proofs.ListedDeclarations.{list-declares, main-declares}
use Rattle.unit_laws.proofs.MergedDeclared.{Listed, merged-passes}
use Rattle.std.proofs.Common.{arith}

-- ---- first answers

answer-again : {B : Type 0} (a b c : Option B) → answer_or (answer_or a b) c ≡ answer_or a (answer_or b c)
answer-again None b c = refl
answer-again (Some x) b c = refl

pub or-none : {B : Type 0} (o : Option B) → answer_or o None ≡ o
or-none None = refl
or-none (Some y) = refl

pub first-append : {A B : Type 0} (f : A → Option B) (xs ys : List A) → first_answer f (xs ++ ys) ≡ answer_or (first_answer f xs) (first_answer f ys)
first-append f [] ys = refl
first-append f (x ∷ xs) ys = ap (answer_or (f x)) (first-append f xs ys) ∙ sym (answer-again (f x) (first_answer f xs) (first_answer f ys))

pub first-none : {A B : Type 0} (f : A → Option B) (xs : List A) → list_all (λ x. not (is_some (f x))) xs ≡ true → first_answer f xs ≡ None
first-none f [] all = refl
first-none f (x ∷ xs) all = grind (arith, first-none f xs)

-- ---- answers of declarations alone

first-declared : {B : Type 0} (f : Stmt → Option B) → ((s : Stmt) → is_executable s ≡ true → f s ≡ None) → (stmts : List Labelled) → first_answer (λ (s : Labelled). f s.stmt) stmts ≡ first_answer f (declarations stmts)
first-declared f none [] = refl
first-declared f none (s ∷ rest) = grind (arith, first-declared f none rest)

any-declared : (f : Stmt → Bool) → ((s : Stmt) → is_executable s ≡ true → f s ≡ false) → (stmts : List Labelled) → list_any (λ (s : Labelled). f s.stmt) stmts ≡ list_any f (declarations stmts)
any-declared f none [] = refl
any-declared f none (s ∷ rest) = grind (arith, any-declared f none rest)

pub all-declared-too : (f : Stmt → Bool) (stmts : List Labelled) → list_all (λ (s : Labelled). f s.stmt) stmts ≡ true → list_all f (declarations stmts) ≡ true
all-declared-too f [] all = refl
all-declared-too f (s ∷ rest) all = grind (arith, all-declared-too f rest, and_from)

flat-declared : {B : Type 0} (f : Stmt → List B) → ((s : Stmt) → is_executable s ≡ true → f s ≡ []) → (stmts : List Labelled) → flat_map (λ (s : Labelled). f s.stmt) stmts ≡ flat_map f (declarations stmts)
flat-declared f none [] = refl
flat-declared f none (s ∷ rest) = grind (arith, flat_map-cons, flat-declared f none rest, flat_map f (declarations rest), flat_map f, flat_map-cons f)

-- executable statements give no kinds, and declare nothing
typed-none : (x : List ℕ) (s : Stmt) → is_executable s ≡ true → kind_typed x s ≡ None
typed-none x h is = grind arith

implied-none : (letter : ℕ) (s : Stmt) → is_executable s ≡ true → kind_implied letter s ≡ None
implied-none letter h is = grind arith

implicit-none : (s : Stmt) → is_executable s ≡ true → is_implicit_none s ≡ false
implicit-none h is = grind arith

declarators-none : (s : Stmt) → is_executable s ≡ true → declarators s ≡ []
declarators-none h is = grind arith

-- ---- kinds and dimensions by declarations

abbrev pub kind_by : List Stmt → List ℕ → Option Kind
kind_by ts x = answer_or (first_answer (kind_typed x) ts) (answer_or (first_answer (kind_implied (slice_index x 0)) ts) (kind_by_default (list_any is_implicit_none ts) (slice_index x 0)))

pub kind-declared : (stmts : List Labelled) (x : List ℕ) → kind_of stmts x ≡ kind_by (declarations stmts) x
kind-declared stmts x =
    grind (arith, first-declared (kind_typed x) (typed-none x) stmts, typed-none x, first-declared (kind_implied (slice_index x 0)) (implied-none (slice_index x 0)) stmts, implied-none (slice_index x 0), any-declared is_implicit_none implicit-none stmts, implicit-none)

abbrev pub told_in : List ℕ → Stmt → Option (List Dim)
told_in x s = first_answer (dims_told x) (declarators s)

first-flat : (x : List ℕ) (ts : List Stmt) → first_answer (dims_told x) (flat_map declarators ts) ≡ first_answer (told_in x) ts
first-flat x [] = refl
first-flat x (t ∷ ts) = ap (first_answer (dims_told x)) (flat_map-cons declarators t ts) ∙ first-append (dims_told x) (declarators t) (flat_map declarators ts) ∙ ap (answer_or (told_in x t)) (first-flat x ts)

pub dims-declared : (stmts : List Labelled) (x : List ℕ) → dims_of stmts x ≡ dims_or_none (first_answer (told_in x) (declarations stmts))
dims-declared stmts x = ap (λ (decls : List Decl). dims_or_none (first_answer (dims_told x) decls)) (flat-declared declarators declarators-none stmts) ∙ ap dims_or_none (first-flat x (declarations stmts))

-- ---- answers over the list

module _ (us : List (List Labelled)) (subs : (name : List ℕ) → 0 < unit_of us name) where
  abbrev pub front : List Stmt
  front = declarations (take (declared_first (unit_at us 0)) (unit_at us 0))

  abbrev pub middle : List Stmt
  middle = map (λ s. s.stmt) (merged us)

  abbrev pub back : List Stmt
  back = declarations (drop (declared_first (unit_at us 0)) (unit_at us 0))

  list-parts : declarations (whole_list us) ≡ front ++ (middle ++ back)
  list-parts = list-declares us subs

  -- where nothing that is merged answers, the main program does
  main-answers : {B : Type 0} (f : Stmt → Option B) → first_answer f middle ≡ None → first_answer f (declarations (whole_list us)) ≡ first_answer f (declarations (unit_at us 0))
  main-answers f none =
      grind (arith, list-parts, first-append f front (middle ++ back), first-append f middle back, first-append f front back, main-declares us)

  -- where the main program doesn't answer, what is merged does
  pub merged-answers : {B : Type 0} (f : Stmt → Option B) → first_answer f front ≡ None → first_answer f back ≡ None → first_answer f (declarations (whole_list us)) ≡ first_answer f middle
  merged-answers f none_front none_back =
      grind (arith, list-parts, first-append f front (middle ++ back), first-append f middle back, or-none (first_answer f middle))

  -- ---- what is merged names no other names

  pub all-of-stmts : (test : Stmt → Bool) (xs : List Labelled) → list_all (λ s. test s.stmt) xs ≡ list_all test (map (λ s. s.stmt) xs)
  all-of-stmts test [] = refl
  all-of-stmts test (x ∷ xs) = ap (λ (b : Bool). test x.stmt && b) (all-of-stmts test xs)

  bare-ones : (x : List ℕ) (block : Option (List ℕ)) (places : List ℕ) → first_answer (dims_told x) (map (λ i. record { name = name_for us (InBlock block i); dims = [] }) places) ≡ None
  bare-ones x block [] = refl
  bare-ones x block (i ∷ places) = grind (arith, bare-ones x block places)

  pub bare-decls : (x : List ℕ) (block : Option (List ℕ)) (places : List ℕ) → first_answer (dims_told x) (flat_map (λ (part : CommonPart). part.decls) (record { block = block; decls = map (λ i. record { name = name_for us (InBlock block i); dims = [] }) places } ∷ [])) ≡ None
  bare-decls x block places = first-append (dims_told x) (map (λ i. record { name = name_for us (InBlock block i); dims = [] }) places) [] ∙ ap (λ (o : Option (List Dim)). answer_or o None) (bare-ones x block places)

  module _ (x : List ℕ) (differ : (e : Entity) → Listed us e → name_for us e ≡ x → ⊥) where
    differs : (e : Entity) → Listed us e → bytes_eq (name_for us e) x ≡ false
    differs e listed = grind (arith, bytes_eq-Decides (name_for us e) x)

    none-put : {B : Type 0} (f : Stmt → Option B) → ((line : ℕ) (e : Entity) → Listed us e → f (type_of us line e).stmt ≡ None) → ((line : ℕ) (block : Option (List ℕ)) → f (common_of us line block).stmt ≡ None) → ((groups : List (List Member)) → f (Equivalence groups) ≡ None) → ((parts : List InitPart) → f (Init parts) ≡ None) → first_answer f middle ≡ None
    none-put f types commons groups inits =
        first-none f middle (sym (all-of-stmts (λ s. not (is_some (f s))) (merged us))
        ∙ merged-passes us (λ s. not (is_some (f s.stmt))) (λ line block. ap (λ (o : Option _). not (is_some o)) (commons line block)) (λ line g. ap (λ (o : Option _). not (is_some o)) (groups g)) (λ line i. ap (λ (o : Option _). not (is_some o)) (inits i)) (λ line e listed. ap (λ (o : Option _). not (is_some o)) (types line e listed)))

    typed-other : (line : ℕ) (e : Entity) → Listed us e → kind_typed x (type_of us line e).stmt ≡ None
    typed-other line e listed = ap (λ (b : Bool). if b || false then Some (kind_or_integer (kind_of (declared_in us e).0 (declared_in us e).1)) else None) (differs e listed)

    told-other : (line : ℕ) (e : Entity) → Listed us e → told_in x (type_of us line e).stmt ≡ None
    told-other line e listed = ap (λ (b : Bool). answer_or (if b && has_dims (record { name = name_for us e; dims = dims_of (declared_in us e).0 (declared_in us e).1 }) then Some (dims_of (declared_in us e).0 (declared_in us e).1) else None) None) (differs e listed)

    no-implicit : list_any is_implicit_none middle ≡ false
    no-implicit = none-any middle (sym (all-of-stmts (λ s. not (is_implicit_none s)) (merged us)) ∙ merged-passes us (λ s. not (is_implicit_none s.stmt)) (λ line block. refl) (λ line g. refl) (λ line i. refl) (λ line e listed. refl))
      where
        none-any : (ts : List Stmt) → list_all (λ s. not (is_implicit_none s)) ts ≡ true → list_any is_implicit_none ts ≡ false
        none-any [] all = refl
        none-any (t ∷ ts) all =
            let parts = and_parts (not (is_implicit_none t)) (list_all (λ s. not (is_implicit_none s)) ts) all in
            ap (λ (b : Bool). b || list_any is_implicit_none ts) (by (is_implicit_none t) parts.0) ∙ none-any ts parts.1
          where
            by : (b : Bool) → not b ≡ true → b ≡ false
            by true is = let e : false ≡ true = is in absurd cc
            by false is = refl

    pub main-kinds : kind_of (whole_list us) x ≡ kind_of (unit_at us 0) x
    main-kinds =
        grind (arith, main-answers (kind_typed x), none-put (kind_typed x) typed-other, typed-other, main-answers, none-put, list-parts, list_any-append is_implicit_none front (middle ++ back), list_any-append is_implicit_none middle back, no-implicit, list_any-append is_implicit_none front back, main-declares us, kind-declared (whole_list us) x, kind-declared (unit_at us 0) x)

    pub main-dims : dims_of (whole_list us) x ≡ dims_of (unit_at us 0) x
    main-dims =
        grind (arith, dims-declared (whole_list us) x, main-answers (told_in x), none-put (told_in x) told-other, told-other, bare-decls x, dims-declared (unit_at us 0) x)
