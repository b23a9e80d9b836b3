-- The names of the units of a text are symbolic.
use Rattle.std.proofs.Common.{◌≡◌, ℕ, suc, ⊎_elim, ◌||◌, Bool, true, false, cond, List, [], ◌∷◌, ◌++◌, map, flat_map, filter, Option, Some, None, refl, sym, ap, subst, ◌∙◌}
use Rattle.std.specs.Prelude.{bytes_eq}
use Rattle.std.specs.List.{list_all, list_any, slice_get}
use Rattle.std.proofs.lemmas.Bool.{and_from, and_parts, cases_Bool}
use Rattle.std.proofs.lemmas.List.Concat.{flat_map-append}
use Rattle.std.proofs.lemmas.Slice.Eq.{bytes_eq-Decides}
use Rattle.f77_tree.specs.Name.{is_name}
use Rattle.f77_tree.specs.Places.{same_block}
use Rattle.f77_tree.specs.StatementGrammar.{IsGiven}
use Rattle.f77_tree.specs.declared.declarations.CommonPart.{CommonPart}
use Rattle.f77_tree.specs.declared.declarations.Decl.{Decl}
use Rattle.f77_tree.specs.declared.statements.Labelled.{Labelled}
use Rattle.f77_tree.specs.declared.statements.Stmt.{Stmt}
use Rattle.f77_tree.specs.declared.statements.Stmt.TheVariants.{Common}
use Rattle.layout_rules.specs.Appearances.{appearing}
use Rattle.layout_rules.specs.Declarations.{all_commons, parts_of}
use Rattle.storage_laws.proofs.SymbolicNames.{given_symbolic}
use Rattle.program_units.specs.Entities.{block_list}
use Rattle.program_units.specs.Names.{names_of_unit, option_names}
use Rattle.program_units.specs.Texts.{IsText}
use Rattle.program_units.specs.Units.{dummies_of, sub_name, unit_at, unit_or_none, units}
use Rattle.unit_laws.proofs.TextNames.{unit-named}
use Rattle.unit_laws.proofs.UnitSources.{Each, IsUnit, text-unit}
use Rattle.expanded_sources.proofs.ReadRows.{AreNames, joined, parted}

-- ---- members of lists

pub member-passes : (p : List ℕ → Bool) (xs : List (List ℕ)) (x : List ℕ) → list_all p xs ≡ true → list_any (bytes_eq x) xs ≡ true → p x ≡ true
member-passes p [] x all any = let e : false ≡ true = any in absurd cc
member-passes p (y ∷ xs) x all any =
    let parts = and_parts (p y) (list_all p xs) all in
    ⊎_elim
    (λ (is : bytes_eq x y ≡ true). subst (λ (z : List ℕ). p z ≡ true) (sym ((bytes_eq-Decides x y).0 is)) parts.0)
    (λ (is : bytes_eq x y ≡ false). member-passes p xs x parts.1 (sym (ap (λ (b : Bool). b || list_any (bytes_eq x) xs) is) ∙ any))
    (cases_Bool (bytes_eq x y))

pub all-members : (p : List ℕ → Bool) (xs : List (List ℕ)) → ((x : List ℕ) → list_any (bytes_eq x) xs ≡ true → p x ≡ true) → list_all p xs ≡ true
all-members p [] each = refl
all-members p (y ∷ xs) each =
    let own : bytes_eq y y ≡ true = (bytes_eq-Decides y y).1 refl in
    and_from (p y) (list_all p xs) (each y (ap (λ (b : Bool). b || list_any (bytes_eq y) xs) own)) (all-members p xs (λ x any. each x (later (bytes_eq x y) (list_any (bytes_eq x) xs) any)))
  where
    later : (a b : Bool) → b ≡ true → (a || b) ≡ true
    later true b is = refl
    later false b is = is

-- ---- names of blocks

abbrev decl_names : List CommonPart → List (List ℕ)
decl_names parts = flat_map (λ part. map (λ decl. decl.name) part.decls) parts

parts-named : (s : Stmt) → AreNames (appearing (λ x. false) s) → AreNames (decl_names (parts_of s))
parts-named (Common parts) all = all
parts-named _ all = refl

commons-named : (u : List Labelled) → Each (λ s. IsGiven s.stmt) u → AreNames (decl_names (all_commons u))
commons-named [] given = refl
commons-named (s ∷ rest) given =
    ap (list_all is_name) (flat_map-append (λ (part : CommonPart). map (λ (decl : Decl). decl.name) part.decls) (parts_of s.stmt) (all_commons rest))
    ∙ joined (decl_names (parts_of s.stmt)) (decl_names (all_commons rest)) (parts-named s.stmt (given_symbolic (λ x. false) s.stmt (given 0 s refl))) (commons-named rest (λ j t here. given (suc j) t here))

kept-named : (q : CommonPart → Bool) (parts : List CommonPart) → AreNames (decl_names parts) → AreNames (decl_names (filter q parts))
kept-named q [] all = refl
kept-named q (part ∷ parts) all =
    let both = parted is_name (map (λ (decl : Decl). decl.name) part.decls) (decl_names parts) all in
    by (q part) both.0 (kept-named q parts both.1)
  where
    by : (b : Bool) → AreNames (map (λ (decl : Decl). decl.name) part.decls) → AreNames (decl_names (filter q parts)) → AreNames (decl_names (cond b (part ∷ filter q parts) (filter q parts)))
    by true first more = joined (map (λ (decl : Decl). decl.name) part.decls) (decl_names (filter q parts)) first more
    by false first more = more

-- ---- a text

module _ (stmts : List Labelled) (text : IsText stmts) where
  abbrev us : List (List Labelled)
  us = units stmts

  -- what holds of no statements and of each unit
  pub each-unit : (P : List Labelled → Type 0) → P [] → ((k : ℕ) (u : List Labelled) → slice_get us k ≡ Some u → P u) → (k : ℕ) → P (unit_at us k)
  each-unit P none some k = by (slice_get us k) refl
    where
      by : (o : Option (List Labelled)) → slice_get us k ≡ o → P (unit_or_none o)
      by None at = none
      by (Some u) at = some k u at

  pub block-named : (k : ℕ) (block : Option (List ℕ)) → AreNames (block_list (unit_at us k) block)
  block-named k block = each-unit (λ (u : List Labelled). AreNames (block_list u block)) refl
      (λ j u at. kept-named (λ part. same_block part.block block) (all_commons u) (commons-named u (IsUnit.read (text-unit stmts text j u at)).given)) k

  pub names-named : (k : ℕ) → AreNames (names_of_unit (unit_at us k))
  names-named k = each-unit (λ (u : List Labelled). AreNames (names_of_unit u)) refl named k
    where
      named : (j : ℕ) (u : List Labelled) → slice_get us j ≡ Some u → AreNames (names_of_unit u)
      named j u at =
          let subs = flat_map (λ s. option_names (sub_name s.stmt)) u in
          let blocks = flat_map (λ part. option_names part.block) (all_commons u) in
          let all = parted is_name ((names_of_unit u ++ dummies_of u) ++ subs) blocks (unit-named u (IsUnit.read (text-unit stmts text j u at)).given) in
          let two = parted is_name (names_of_unit u ++ dummies_of u) subs all.0 in
          (parted is_name (names_of_unit u) (dummies_of u) two.0).0
