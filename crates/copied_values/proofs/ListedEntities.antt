-- The name that an entity got has in the list the kind and the dimensions of the entity.
use Rattle.std.proofs.Common.{◌≡◌, ℕ, ◌<◌, Bool, true, false, not, ◌&&◌, ◌||◌, ◌⊎◌, cond, if◌then◌else◌, List, [], ◌∷◌, ◌++◌, length, map, filter, flat_map, fold, Option, Some, None, ⊎_elim, refl, sym, ap, subst, ◌∙◌, arith}
use Rattle.std.specs.Prelude.{bytes_eq, nat_le, nat_lt}
use Rattle.std.specs.List.{list_all, list_any, range_with_len}
use Rattle.std.specs.Option.{is_some}
use Rattle.std.proofs.lemmas.Bool.{and_from, and_parts, cases_Bool, or_left, or_right}
use Rattle.std.proofs.lemmas.Bool.Decides.{nat_tests}
use Rattle.std.proofs.lemmas.List.{map-append}
use Rattle.std.proofs.lemmas.List.Concat.{flat_map-cons}
use Rattle.std.proofs.lemmas.List.Folds.{list_all-append, list_any-append}
use Rattle.std.proofs.lemmas.Slice.Eq.{bytes_eq-Decides}
use Rattle.f77_tree.specs.declared.declarations.CommonPart.{CommonPart}
use Rattle.f77_tree.specs.declared.declarations.Decl.{Decl}
use Rattle.f77_tree.specs.declared.declarations.Dim.{Dim}
use Rattle.f77_tree.specs.declared.declarations.Kind.{Kind}
use Rattle.f77_tree.specs.declared.statements.Labelled.{Labelled}
use Rattle.f77_tree.specs.declared.statements.Stmt.{Stmt}
use Rattle.layout_rules.specs.Appearances.{with_name}
use Rattle.layout_rules.specs.Declarations.{dims_of, dims_or_none, dims_told, has_dims, is_array, kind_of, kind_typed}
use Rattle.layout_rules.specs.Executables.{kind_or_integer}
use Rattle.layout_rules.specs.Faults.{answer_or, first_answer}
use Rattle.layout_rules.specs.Layout.{last_line}
use Rattle.program_units.specs.declared.entity.Entity.{Entity}
use Rattle.program_units.specs.Expansion.{block_size, declared_in, is_running, type_of, whole_list}
use Rattle.copied_values.specs.ListedDeclarations.{declarations}
use Rattle.program_units.specs.Names.{appearing_here, name_for, names_of_unit, same_entity, used_names, y_entities}
use Rattle.program_units.specs.Refusals.{has_great_name}
use Rattle.program_units.specs.Units.{unit_at, unit_of}
use Rattle.copied_values.proofs.ListedDeclarations.{main-declares}
use Rattle.copied_values.proofs.ListedNames.{all-declared-too, all-of-stmts, bare-decls, back, dims-declared, first-append, first-none, front, kind-declared, or-none, merged-answers, told_in}
use Rattle.unit_laws.proofs.OwnNames.{entities-same}
use Rattle.unit_laws.proofs.MergedDeclared.{Listed, merged-parts, merged_rest, merged_types, rest-passes, running-listed}
use Rattle.unit_laws.proofs.SameEntities.{same-itself}
use Rattle.unit_laws.proofs.ShortNames.{short-apart, short-free}
use Rattle.unit_laws.proofs.UsedNames.{new-by}

-- ---- a name that a unit has nowhere

left-none : (a b : Bool) → (a || b) ≡ false → a ≡ false
left-none true b is = is
left-none false b is = refl

right-none : (a b : Bool) → (a || b) ≡ false → b ≡ false
right-none true b is = let e : true ≡ false = is in absurd cc
right-none false b is = is

negation : (b : Bool) → b ≡ false → not b ≡ true
negation true is = let e : true ≡ false = is in absurd cc
negation false is = refl

turned : (x y : List ℕ) → bytes_eq x y ≡ false → bytes_eq y x ≡ false
turned x y is = grind (arith, bytes_eq-Decides x y, bytes_eq-Decides y x)

record NotAmong (y : List ℕ) (xs ys : List (List ℕ)) : Type 0 where
  here : list_any (bytes_eq y) xs ≡ false
  there : list_any (bytes_eq y) ys ≡ false

module _ (y : List ℕ) where
  not-before : (seen : List (List ℕ)) (n : List ℕ) → list_any (bytes_eq y) (with_name seen n) ≡ false → NotAmong y seen (n ∷ [])
  not-before seen n none =
      grind (arith, bytes_eq-Decides y n, list_any-append (bytes_eq y) seen (n ∷ []), left-none (list_any (bytes_eq y) seen), right-none (list_any (bytes_eq y) seen))

  not-found : (seen found : List (List ℕ)) → list_any (bytes_eq y) (fold with_name seen found) ≡ false → NotAmong y seen found
  not-found seen [] none = record { here = none; there = refl }
  not-found seen (n ∷ found) none = grind (arith, not-found (with_name seen n) found none, not-before seen n, left-none (bytes_eq y n) false)

  -- a statement that has the name nowhere
  abbrev lacks : (arrays : List ℕ → Bool) → Stmt → Bool
  lacks arrays s = not (list_any (bytes_eq y) (appearing_here arrays s))

  all-lack : (arrays : List ℕ → Bool) (stmts : List Labelled) → list_any (bytes_eq y) (flat_map (λ s. appearing_here arrays s.stmt) stmts) ≡ false → list_all (λ s. lacks arrays s.stmt) stmts ≡ true
  all-lack arrays [] none = refl
  all-lack arrays (s ∷ rest) none =
      grind (arith, flat_map, list_any-append (bytes_eq y), flat_map-cons, and_from, negation, left-none, all-lack arrays rest, right-none)

  unit-lacks : (u : List Labelled) → list_any (bytes_eq y) (names_of_unit u) ≡ false → list_all (λ s. lacks (is_array u) s.stmt) u ≡ true
  unit-lacks u none = all-lack (is_array u) u (NotAmong.there (not-found [] (flat_map (λ s. appearing_here (is_array u) s.stmt) u) none))

  -- ---- it is declared nowhere

  names-lack : (decls : List Decl) → list_any (bytes_eq y) (map (λ decl. decl.name) decls) ≡ false → list_any (λ decl. bytes_eq decl.name y) decls ≡ false
  names-lack [] none = refl
  names-lack (decl ∷ decls) none = grind (arith, turned y, left-none, names-lack decls, right-none)

  told-lack : (decls : List Decl) → list_any (bytes_eq y) (map (λ decl. decl.name) decls) ≡ false → first_answer (dims_told y) decls ≡ None
  told-lack [] none = refl
  told-lack (decl ∷ decls) none = grind (arith, turned y, left-none, told-lack decls, right-none)

  parts-lack : (parts : List CommonPart) → list_any (bytes_eq y) (flat_map (λ part. map (λ decl. decl.name) part.decls) parts) ≡ false → first_answer (dims_told y) (flat_map (λ part. part.decls) parts) ≡ None
  parts-lack [] none = refl
  parts-lack (part ∷ parts) none =
      grind (arith, flat_map, list_any-append (bytes_eq y), flat_map-cons, first-append (dims_told y), told-lack, left-none, parts-lack parts, right-none)

  not-true : (b : Bool) → not b ≡ true → b ≡ false
  not-true true is = let e : false ≡ true = is in absurd cc
  not-true false is = refl

  typed-lack : (arrays : List ℕ → Bool) (s : Stmt) → lacks arrays s ≡ true → kind_typed y s ≡ None
  typed-lack arrays h is = grind (arith, names-lack, not-true)

  told-in-lack : (arrays : List ℕ → Bool) (s : Stmt) → lacks arrays s ≡ true → told_in y s ≡ None
  told-in-lack arrays h is = grind (arith, told-lack, not-true, parts-lack, flat_map)

  first-lack : {B : Type 0} (f : Stmt → Option B) (test : Stmt → Bool) → ((s : Stmt) → test s ≡ true → f s ≡ None) → (ts : List Stmt) → list_all test ts ≡ true → first_answer f ts ≡ None
  first-lack f test none [] all = refl
  first-lack f test none (t ∷ ts) all = grind (arith, first-lack f test none ts)

-- ---- the name of an entity

module _ (us : List (List Labelled)) (subs : (name : List ℕ) → 0 < unit_of us name) (apart : (e f : Entity) → Listed us e → Listed us f → name_for us e ≡ name_for us f → e ≡ f) (e : Entity) (listed : Listed us e) (running : is_running us e ≡ true) (new : list_any (bytes_eq (name_for us e)) (names_of_unit (unit_at us 0)) ≡ false) where
  abbrev y : List ℕ
  y = name_for us e

  abbrev dims : List Dim
  dims = dims_of (declared_in us e).0 (declared_in us e).1

  abbrev kind : Kind
  kind = kind_or_integer (kind_of (declared_in us e).0 (declared_in us e).1)

  main-lacks : list_all (lacks y (is_array (unit_at us 0))) (front us subs ++ back us subs) ≡ true
  main-lacks = sym (ap (list_all (lacks y (is_array (unit_at us 0)))) (main-declares us)) ∙ all-declared-too (lacks y (is_array (unit_at us 0))) (unit_at us 0) (unit-lacks y (unit_at us 0) new)

  both-lack : (list_all (lacks y (is_array (unit_at us 0))) (front us subs) ≡ true) × (list_all (lacks y (is_array (unit_at us 0))) (back us subs) ≡ true)
  both-lack = and_parts (list_all (lacks y (is_array (unit_at us 0))) (front us subs)) (list_all (lacks y (is_array (unit_at us 0))) (back us subs)) (sym (list_all-append (lacks y (is_array (unit_at us 0))) (front us subs) (back us subs)) ∙ main-lacks)

  -- the answers are those of what is merged: of the types first
  types-answer : {B : Type 0} (f : Stmt → Option B) → ((s : Stmt) → lacks y (is_array (unit_at us 0)) s ≡ true → f s ≡ None) → list_all (λ s. not (is_some (f s.stmt))) (merged_rest us) ≡ true → first_answer f (declarations (whole_list us)) ≡ first_answer f (map (λ s. s.stmt) (merged_types us))
  types-answer f none rest =
      grind (arith, merged_rest us, merged-answers us subs f (first-lack y f (lacks y (is_array (unit_at us 0))) none (front us subs) both-lack.0) (first-lack y f (lacks y (is_array (unit_at us 0))) none (back us subs) both-lack.1), first-lack y f (lacks y (is_array (unit_at us 0))) none (front us subs) both-lack.0, front us subs, first-lack y f (lacks y (is_array (unit_at us 0))) none (back us subs) both-lack.1, back us subs, merged-parts us, map-append, merged_types us, first-append f, first-none f, all-of-stmts us subs, or-none)

  differs : (x : Entity) → Listed us x → same_entity e x ≡ false → bytes_eq (name_for us x) y ≡ false
  differs x known apart_here = by (bytes_eq (name_for us x) y) refl
    where
      by : (b : Bool) → bytes_eq (name_for us x) y ≡ b → b ≡ false
      by true is =
          let same : x ≡ e = apart x e known listed ((bytes_eq-Decides (name_for us x) y).0 is) in
          let h : true ≡ false = sym (same-itself e) ∙ ap (same_entity e) (sym same) ∙ apart_here in
          absurd cc
      by false is = refl

  module _ {B : Type 0} (f : Stmt → Option B) (line : ℕ) (answer : Option B) (mine : f (type_of us line e).stmt ≡ answer) (others : (x : Entity) → Listed us x → same_entity e x ≡ false → f (type_of us line x).stmt ≡ None) where
    -- where it isn't there, nothing answers
    none-there : (xs : List Entity) → list_all (λ x. list_any (same_entity x) (y_entities us)) xs ≡ true → list_any (same_entity e) xs ≡ false → first_answer f (map (λ s. s.stmt) (map (type_of us line) xs)) ≡ None
    none-there [] all absent = refl
    none-there (x ∷ xs) all absent = grind (arith, left-none, none-there xs, right-none)

    -- all that answer give the same answer
    answers : (xs : List Entity) → list_all (λ x. list_any (same_entity x) (y_entities us)) xs ≡ true → list_any (same_entity e) xs ≡ true → first_answer f (map (λ s. s.stmt) (map (type_of us line) xs)) ≡ answer
    answers [] all there = let h : false ≡ true = there in absurd cc
    answers (x ∷ xs) all there =
        let parts = and_parts (list_any (same_entity x) (y_entities us)) (list_all (λ x. list_any (same_entity x) (y_entities us)) xs) all in
        let more = first_answer f (map (λ s. s.stmt) (map (type_of us line) xs)) in
        ⊎_elim
        (λ (is : same_entity e x ≡ true).
        let same : e ≡ x = entities-same e x is in
        let here : f (type_of us line x).stmt ≡ answer = subst (λ (z : Entity). f (type_of us line z).stmt ≡ answer) same mine in
        ap (λ (o : Option B). answer_or o more) here ∙ by answer (cases_Bool (list_any (same_entity e) xs)) (λ again. answers xs parts.1 again) (λ absent. none-there xs parts.1 absent))
        (λ (is : same_entity e x ≡ false). ap (λ (o : Option B). answer_or o more) (others x parts.0 is) ∙ answers xs parts.1 (sym (ap (λ (b : Bool). b || list_any (same_entity e) xs) is) ∙ there))
        (cases_Bool (same_entity e x))
      where
        by : (o : Option B) → (list_any (same_entity e) xs ≡ true) ⊎ (list_any (same_entity e) xs ≡ false) → (list_any (same_entity e) xs ≡ true → first_answer f (map (λ s. s.stmt) (map (type_of us line) xs)) ≡ o) → (list_any (same_entity e) xs ≡ false → first_answer f (map (λ s. s.stmt) (map (type_of us line) xs)) ≡ None) → answer_or o (first_answer f (map (λ s. s.stmt) (map (type_of us line) xs))) ≡ o
        by (Some v) which again absent = refl
        by None which again absent = ⊎_elim again absent which

  in-running : list_any (same_entity e) (filter (is_running us) (y_entities us)) ≡ true
  in-running = kept (y_entities us) listed
    where
      kept : (xs : List Entity) → list_any (same_entity e) xs ≡ true → list_any (same_entity e) (filter (is_running us) xs) ≡ true
      kept [] has = has
      kept (x ∷ xs) has = ⊎_elim
          (λ (is : same_entity e x ≡ true).
          let runs : is_running us x ≡ true = subst (λ (z : Entity). is_running us z ≡ true) (entities-same e x is) running in
          ap (λ (b : Bool). list_any (same_entity e) (cond b (x ∷ filter (is_running us) xs) (filter (is_running us) xs))) runs ∙ or_left (same_entity e x) (list_any (same_entity e) (filter (is_running us) xs)) is)
          (λ (is : same_entity e x ≡ false). by (is_running us x) (kept xs (sym (ap (λ (b : Bool). b || list_any (same_entity e) xs) is) ∙ has)))
          (cases_Bool (same_entity e x))
        where
          by : (b : Bool) → list_any (same_entity e) (filter (is_running us) xs) ≡ true → list_any (same_entity e) (cond b (x ∷ filter (is_running us) xs) (filter (is_running us) xs)) ≡ true
          by true more = or_right (same_entity e x) (list_any (same_entity e) (filter (is_running us) xs)) more
          by false more = more

  itself : bytes_eq y y ≡ true
  itself = (bytes_eq-Decides y y).1 refl

  pub own-kinds : kind_of (whole_list us) y ≡ Some kind
  own-kinds =
      grind (arith, types-answer (kind_typed y) (typed-lack y (is_array (unit_at us 0))), typed-lack y (is_array (unit_at us 0)), rest-passes us, answers (kind_typed y), itself, differs, running-listed us, in-running, kind-declared (whole_list us) y)

  pub own-dims : dims_of (whole_list us) y ≡ dims
  own-dims =
      let line = last_line (unit_at us 0) in
      let answer : Option (List Dim) = if has_dims (record { name = y; dims = dims }) then Some dims else None in
      let told : first_answer (told_in y) (declarations (whole_list us)) ≡ answer =
      types-answer (told_in y) (told-in-lack y (is_array (unit_at us 0))) (rest-passes us (λ s. not (is_some (told_in y s.stmt))) (λ line block. ap (λ (o : Option (List Dim)). not (is_some o)) (bare-decls us subs y block (range_with_len 0 (block_size us block)))) (λ line g. refl) (λ line i. refl))
      ∙ answers (told_in y) line answer (ap (λ (b : Bool). answer_or (if b && has_dims (record { name = y; dims = dims }) then Some dims else None) None) itself ∙ or-none answer)
      (λ x known is. ap (λ (b : Bool). answer_or (if b && has_dims (record { name = name_for us x; dims = dims_of (declared_in us x).0 (declared_in us x).1 }) then Some (dims_of (declared_in us x).0 (declared_in us x).1) else None) None) (differs x known is))
      (filter (is_running us) (y_entities us)) (running-listed us) in-running in
      dims-declared (whole_list us) y ∙ ap dims_or_none told ∙ same dims
    where
      same : (ds : List Dim) → dims_or_none (if nat_lt 0 (length ds) then Some ds else None) ≡ ds
      same [] = refl
      same (d ∷ ds) = by (nat_lt 0 (length (d ∷ ds))) (grind (arith, nat_tests))
        where
          by : (b : Bool) → b ≡ true → dims_or_none (if b then Some (d ∷ ds) else None) ≡ d ∷ ds
          by true is = refl
          by false is = let h : false ≡ true = is in absurd cc

-- where names are short and few enough
module _ (us : List (List Labelled)) (subs : (name : List ℕ) → 0 < unit_of us name) (short : list_all (λ x. nat_le (length x) 6) (used_names us) ≡ true) (few : has_great_name us ≡ false) (e : Entity) (listed : list_any (same_entity e) (y_entities us) ≡ true) (running : is_running us e ≡ true) where
  not-named : list_any (bytes_eq (name_for us e)) (names_of_unit (unit_at us 0)) ≡ false
  not-named = grind (arith, new-by us e (short-free us short few e listed) 0 (name_for us e), short-free us short few e listed)

  pub listed-kinds : kind_of (whole_list us) (name_for us e) ≡ Some (kind_or_integer (kind_of (declared_in us e).0 (declared_in us e).1))
  listed-kinds = own-kinds us subs (short-apart us short few) e listed running not-named

  pub listed-dims : dims_of (whole_list us) (name_for us e) ≡ dims_of (declared_in us e).0 (declared_in us e).1
  listed-dims = own-dims us subs (short-apart us short few) e listed running not-named
