-- The entities of names of subroutines are noted, but for those that have names of the main program.
use Rattle.std.proofs.Common.{◌≡◌, ℕ, zero, suc, ◌+◌, ◌<◌, ◌≤◌, Bool, true, false, not, ◌||◌, cond, List, [], ◌∷◌, ◌++◌, length, filter, flat_map, fold, map, if◌then◌else◌, ⊎_elim, refl, sym, ap, subst, ◌∙◌, arith}
use Rattle.std.specs.Prelude.{bytes_eq}
use Rattle.std.specs.List.{list_any, range_with_len}
use Rattle.std.proofs.lemmas.Bool.{cases_Bool, cases_lt, or_left, or_right}
use Rattle.std.proofs.lemmas.List.Concat.{flat_map-cons}
use Rattle.std.proofs.lemmas.List.Folds.{list_any-append}
use Rattle.std.proofs.lemmas.Slice.Eq.{bytes_eq-Decides}
use Rattle.f77_tree.specs.declared.statements.Labelled.{Labelled}
use Rattle.program_units.specs.declared.entity.Entity.{Entity}
use Rattle.program_units.specs.Entities.{entity_of}
use Rattle.program_units.specs.Names.{is_main, own_names, same_entity, with_entity, y_entities}
use Rattle.unit_laws.proofs.OwnNames.{entities-same}
use Rattle.unit_laws.proofs.SameEntities.{same-itself}

abbrev pub Has : Entity → List Entity → Type 0
Has e found = list_any (same_entity e) found ≡ true

pub in-either : (e : Entity) (xs ys : List Entity) → Has e xs → Has e (xs ++ ys)
in-either e xs ys has = list_any-append (same_entity e) xs ys ∙ or_left (list_any (same_entity e) xs) (list_any (same_entity e) ys) has

pub in-other : (e : Entity) (xs ys : List Entity) → Has e ys → Has e (xs ++ ys)
in-other e xs ys has = list_any-append (same_entity e) xs ys ∙ or_right (list_any (same_entity e) xs) (list_any (same_entity e) ys) has

-- ---- notes

pub still-noted : (e x : Entity) (seen : List Entity) → Has e seen → Has e (with_entity seen x)
still-noted e x seen has = by_test (list_any (same_entity x) seen)
  where
    by_test : (b : Bool) → Has e (if b then seen else seen ++ x ∷ [])
    by_test true = has
    by_test false = in-either e seen (x ∷ []) has

pub now-noted : (e : Entity) (seen : List Entity) → Has e (with_entity seen e)
now-noted e seen = by_test (list_any (same_entity e) seen) refl
  where
    by_test : (b : Bool) → list_any (same_entity e) seen ≡ b → Has e (if b then seen else seen ++ e ∷ [])
    by_test true is = is
    by_test false is = in-other e seen (e ∷ []) (or_left (same_entity e e) false (same-itself e))

pub all-stay : (e : Entity) (found seen : List Entity) → Has e seen → Has e (fold with_entity seen found)
all-stay e [] seen has = has
all-stay e (x ∷ found) seen has = all-stay e found (with_entity seen x) (still-noted e x seen has)

pub all-come : (e : Entity) (found seen : List Entity) → Has e found → Has e (fold with_entity seen found)
all-come e [] seen has = let h : false ≡ true = has in absurd cc
all-come e (x ∷ found) seen has = ⊎_elim
    (λ (is : same_entity e x ≡ true). all-stay e found (with_entity seen x) (subst (λ (y : Entity). Has e (with_entity seen y)) (entities-same e x is) (now-noted e seen)))
    (λ (is : same_entity e x ≡ false). all-come e found (with_entity seen x) (sym (ap (λ (b : Bool). b || list_any (same_entity e) found) is) ∙ has))
    (cases_Bool (same_entity e x))

-- ---- where they come from

pub among-kept : (q : Entity → Bool) (e : Entity) (found : List Entity) → q e ≡ true → Has e found → Has e (filter q found)
among-kept q e [] passes has = has
among-kept q e (x ∷ found) passes has = ⊎_elim
    (λ (is : same_entity e x ≡ true).
    let kept : q x ≡ true = subst (λ (y : Entity). q y ≡ true) (entities-same e x is) passes in
    ap (λ (b : Bool). list_any (same_entity e) (cond b (x ∷ filter q found) (filter q found))) kept ∙ or_left (same_entity e x) (list_any (same_entity e) (filter q found)) is)
    (λ (is : same_entity e x ≡ false). by_test (q x) (among-kept q e found passes (sym (ap (λ (b : Bool). b || list_any (same_entity e) found) is) ∙ has)))
    (cases_Bool (same_entity e x))
  where
    by_test : (b : Bool) → Has e (filter q found) → Has e (cond b (x ∷ filter q found) (filter q found))
    by_test true more = or_right (same_entity e x) (list_any (same_entity e) (filter q found)) more
    by_test false more = more

pub among-mapped : (f : List ℕ → Entity) (x : List ℕ) (names : List (List ℕ)) → list_any (bytes_eq x) names ≡ true → Has (f x) (map f names)
among-mapped f x [] has = has
among-mapped f x (y ∷ names) has = ⊎_elim
    (λ (is : bytes_eq x y ≡ true). or_left (same_entity (f x) (f y)) (list_any (same_entity (f x)) (map f names)) (subst (λ (z : List ℕ). same_entity (f x) (f z) ≡ true) ((bytes_eq-Decides x y).0 is) (same-itself (f x))))
    (λ (is : bytes_eq x y ≡ false). or_right (same_entity (f x) (f y)) (list_any (same_entity (f x)) (map f names)) (among-mapped f x names (sym (ap (λ (b : Bool). b || list_any (bytes_eq x) names) is) ∙ has)))
    (cases_Bool (bytes_eq x y))

pub among-all : (f : ℕ → List Entity) (e : Entity) (a n k : ℕ) → a ≤ k → k < a + n → Has e (f k) → Has e (flat_map f (range_with_len a n))
among-all f e a zero k least below has = absurd (omega (arith, least, below))
among-all f e a (suc n) k least below has =
    ap (list_any (same_entity e)) (flat_map-cons f a (range_with_len (a + 1) n))
    ∙ ⊎_elim
    (λ (more : a < k). in-other e (f a) (flat_map f (range_with_len (a + 1) n)) (among-all f e (a + 1) n k (omega (arith, more)) (omega (arith, below)) has))
    (λ (most : k ≤ a). let same : k ≡ a = omega (arith, least, most) in in-either e (f a) (flat_map f (range_with_len (a + 1) n)) (subst (λ (m : ℕ). Has e (f m)) same has))
    (cases_lt a k)

pub noted : (us : List (List Labelled)) (k : ℕ) (x : List ℕ) → 0 < k → k < length us → list_any (bytes_eq x) (own_names us k) ≡ true → is_main us (entity_of us k x) ≡ false → list_any (same_entity (entity_of us k x)) (y_entities us) ≡ true
noted us k x some below named apart =
    let all : ℕ → List Entity = λ j. map (entity_of us j) (own_names us j) in
    let here : Has (entity_of us k x) (flat_map all (range_with_len 1 (length us))) = among-all all (entity_of us k x) 1 (length us) k (omega (arith, some)) (omega (arith, below)) (among-mapped (entity_of us k) x (own_names us k) named) in
    let kept : not (is_main us (entity_of us k x)) ≡ true = ap not apart in
    all-come (entity_of us k x) (filter (λ e. not (is_main us e)) (flat_map all (range_with_len 1 (length us)))) [] (among-kept (λ e. not (is_main us e)) (entity_of us k x) (flat_map all (range_with_len 1 (length us))) kept here)
