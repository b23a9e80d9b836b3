-- The names of a unit: those of its blocks are among them, and units that run have numbers from 1.
use Rattle.std.proofs.Common.{◌≡◌, ℕ, ◌+◌, ◌-◌, ◌<◌, ◌==◌, Bool, true, false, ◌||◌, List, [], ◌∷◌, length, map, flat_map, Option, Some, ◌⊎◌, inl, inr, ⊎_elim, refl, sym, ap, ◌∙◌, arith}
use Rattle.std.specs.Prelude.{bytes_eq}
use Rattle.std.specs.List.{list_any, range_with_len, slice_get}
use Rattle.std.proofs.lemmas.Bool.{cases_Bool, eq-eqb, eqb-true}
use Rattle.std.proofs.lemmas.List.Concat.{flat_map-append}
use Rattle.std.proofs.lemmas.List.Folds.{list_any-append}
use Rattle.std.proofs.lemmas.List.FromFn.{get_or-range_with_len, length-range_with_len}
use Rattle.std.proofs.lemmas.Map.Keys.{any_passes_from_place}
use Rattle.std.proofs.lemmas.Map.Views.{any-filter_same}
use Rattle.std.proofs.lemmas.Option.{slice_get-get_or}
use Rattle.f77_tree.specs.declared.declarations.CommonPart.{CommonPart}
use Rattle.f77_tree.specs.declared.statements.Labelled.{Labelled}
use Rattle.f77_tree.specs.declared.statements.Stmt.{Stmt}
use Rattle.f77_tree.specs.declared.statements.Stmt.TheVariants.{Common}
use Rattle.layout_rules.specs.Declarations.{all_commons, is_array, parts_of}
use Rattle.program_units.proofs.StoredNames.{told-all}
use Rattle.program_units.specs.Entities.{block_list}
use Rattle.program_units.specs.Expansion.{units_but_main}
use Rattle.program_units.specs.Names.{appearing_here, names_of_unit}
use Rattle.program_units.specs.Units.{runs}
use Rattle.called_runs.proofs.OnceInCommon.{among-at, block-lacks, names_of_parts}

-- ---- lists

pub any-weaker : {X : Type 0} (p q : X → Bool) → ((x : X) → p x ≡ true → q x ≡ true) → (xs : List X) → list_any p xs ≡ true → list_any q xs ≡ true
any-weaker p q weaker [] any = any
any-weaker p q weaker (x ∷ xs) any = by (p x) (q x) (weaker x) any (any-weaker p q weaker xs)
  where
    by : (b c : Bool) → (b ≡ true → c ≡ true) → (b || list_any p xs) ≡ true → (list_any p xs ≡ true → list_any q xs ≡ true) → (c || list_any q xs) ≡ true
    by b true gives here more = refl
    by true false gives here more = let e : false ≡ true = gives refl in absurd cc
    by false false gives here more = more here

-- ---- names of blocks

stated : (arrays : List ℕ → Bool) (x : List ℕ) (s : Stmt) → list_any (bytes_eq x) (names_of_parts (parts_of s)) ≡ true → list_any (bytes_eq x) (appearing_here arrays s) ≡ true
stated arrays x (Common parts) any = any
stated arrays x s any = absurd cc

or-some : (a b : Bool) → (a || b) ≡ true → (a ≡ true) ⊎ (b ≡ true)
or-some true b some = inl refl
or-some false b some = inr some

or-left : (a b : Bool) → a ≡ true → (a || b) ≡ true
or-left true b is = refl
or-left false b is = let e : false ≡ true = is in absurd cc

or-right : (a b : Bool) → b ≡ true → (a || b) ≡ true
or-right true b is = refl
or-right false b is = is

all-stated : (arrays : List ℕ → Bool) (x : List ℕ) (u : List Labelled) → list_any (bytes_eq x) (names_of_parts (all_commons u)) ≡ true → list_any (bytes_eq x) (flat_map (λ s. appearing_here arrays s.stmt) u) ≡ true
all-stated arrays x [] any = any
all-stated arrays x (s ∷ u) any =
    let here = names_of_parts (parts_of s.stmt) in
    let there = names_of_parts (all_commons u) in
    let both : (list_any (bytes_eq x) here || list_any (bytes_eq x) there) ≡ true = sym (list_any-append (bytes_eq x) here there) ∙ sym (ap (list_any (bytes_eq x)) (flat_map-append (λ (part : CommonPart). map (λ decl. decl.name) part.decls) (parts_of s.stmt) (all_commons u))) ∙ any in
    let mine = appearing_here arrays s.stmt in
    let others = flat_map (λ s. appearing_here arrays s.stmt) u in
    list_any-append (bytes_eq x) mine others
    ∙ ⊎_elim
    (λ (is : list_any (bytes_eq x) here ≡ true). or-left (list_any (bytes_eq x) mine) (list_any (bytes_eq x) others) (stated arrays x s.stmt is))
    (λ (is : list_any (bytes_eq x) there ≡ true). or-right (list_any (bytes_eq x) mine) (list_any (bytes_eq x) others) (all-stated arrays x u is))
    (or-some (list_any (bytes_eq x) here) (list_any (bytes_eq x) there) both)

-- a name of a block is a name of the unit
pub block-names : (u : List Labelled) (block : Option (List ℕ)) (i : ℕ) (x : List ℕ) → slice_get (block_list u block) i ≡ Some x → list_any (bytes_eq x) (names_of_unit u) ≡ true
block-names u block i x there =
    told-all x [] (flat_map (λ s. appearing_here (is_array u) s.stmt) u) ∙ all-stated (is_array u) x u
    (⊎_elim
    (λ (is : list_any (bytes_eq x) (names_of_parts (all_commons u)) ≡ true). is)
    (λ (none : list_any (bytes_eq x) (names_of_parts (all_commons u)) ≡ false). let e : true ≡ false = sym (among-at (block_list u block) i x there) ∙ block-lacks block x (all_commons u) none in absurd cc)
    (cases_Bool (list_any (bytes_eq x) (names_of_parts (all_commons u)))))

-- ---- numbers of units

pub in-range : (n k : ℕ) → 0 < k → k < 1 + n → slice_get (range_with_len 1 n) (k - 1) ≡ Some k
in-range n k some below =
    let e : 1 + (k - 1) ≡ k = omega (arith, some) in
    let less : k - 1 < n = omega (arith, some, below) in
    slice_get-get_or (range_with_len 1 n) (k - 1) k (omega (arith, less, length-range_with_len 1 n)) ∙ ap (λ (m : ℕ). Some m) (get_or-range_with_len 1 n (k - 1) k less ∙ e)

pub in-units : (us : List (List Labelled)) (k : ℕ) → 0 < k → k < length us → runs us k ≡ true → list_any (λ (j : ℕ). j == k) (units_but_main us) ≡ true
in-units us k some below run =
    let test : ℕ → Bool = λ j. j == k in
    any-filter_same test (runs us) true (λ j same. ap (runs us) (eqb-true j k same) ∙ run) (range_with_len 1 (length us - 1))
    ∙ any_passes_from_place test (range_with_len 1 (length us - 1)) (k - 1) k (in-range (length us - 1) k some (omega (arith, some, below))) (eq-eqb k k refl)
