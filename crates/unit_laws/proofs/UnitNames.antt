-- Names of a unit: those of its statements, and those that are its own.
use Rattle.std.proofs.Common.{◌≡◌, ℕ, zero, suc, Bool, true, false, not, ◌||◌, cond, List, [], ◌∷◌, filter, flat_map, Some, None, refl, sym, ap, ◌∙◌}
use Rattle.std.specs.Prelude.{bytes_eq}
use Rattle.std.specs.List.{list_any, slice_get}
use Rattle.std.proofs.lemmas.Bool.{or_right}
use Rattle.f77_tree.proofs.NameLemmas.{bytes_eq-same}
use Rattle.f77_tree.specs.declared.statements.Labelled.{Labelled}
use Rattle.layout_rules.specs.Declarations.{is_array}
use Rattle.program_units.specs.Names.{appearing_here, names_of_unit, own_names}
use Rattle.program_units.specs.Units.{dummies_of, unit_at}
use Rattle.program_units.proofs.StoredNames.{told-all}
use Rattle.unit_laws.proofs.UsedNames.{Among, behind, in-front}

-- a statement of the unit k
pub record IsInUnit (us : List (List Labelled)) (k : ℕ) (s : Labelled) : Type 0 where
  pub place : ℕ
  pub here : slice_get (unit_at us k) place ≡ Some s

pub among-part : {X : Type 0} (f : X → List (List ℕ)) (x : List ℕ) (xs : List X) (j : ℕ) (part : X) → slice_get xs j ≡ Some part → Among x (f part) → Among x (flat_map f xs)
among-part f x [] j part here among = let e : None ≡ Some part = here in absurd cc
among-part f x (y ∷ ys) zero part here among =
    let e : Some y ≡ Some part = here in
    let same : part ≡ y = cc in
    in-front x (f y) (flat_map f ys) (ap (λ (p : _). list_any (bytes_eq x) (f p)) (sym same) ∙ among)
among-part f x (y ∷ ys) (suc j) part here among = behind x (f y) (flat_map f ys) (among-part f x ys j part here among)

pub among-kept : (q : List ℕ → Bool) (x : List ℕ) (names : List (List ℕ)) → q x ≡ true → Among x names → Among x (filter q names)
among-kept q x [] passes among = let e : false ≡ true = among in absurd cc
among-kept q x (y ∷ ys) passes among = by (bytes_eq x y) refl (q y) refl among (among-kept q x ys passes)
  where
    by : (b : Bool) → bytes_eq x y ≡ b → (c : Bool) → q y ≡ c → (b || list_any (bytes_eq x) ys) ≡ true → (Among x ys → Among x (filter q ys)) → Among x (cond c (y ∷ filter q ys) (filter q ys))
    by true same true keeps any later = ap (λ (b : Bool). b || list_any (bytes_eq x) (filter q ys)) same
    by true same false drops any later = let e : true ≡ false = sym passes ∙ ap q (bytes_eq-same x y same) ∙ drops in absurd cc
    by false other true keeps any later = or_right (bytes_eq x y) (list_any (bytes_eq x) (filter q ys)) (later any)
    by false other false drops any later = later any

module _ (us : List (List Labelled)) (k : ℕ) where
  pub appears : (s : Labelled) → IsInUnit us k s → (x : List ℕ) → Among x (appearing_here (is_array (unit_at us k)) s.stmt) → Among x (names_of_unit (unit_at us k))
  appears s inside x among =
      let arrays : List ℕ → Bool = is_array (unit_at us k) in
      let all : List (List ℕ) = flat_map (λ (t : Labelled). appearing_here arrays t.stmt) (unit_at us k) in
      told-all x [] all ∙ among-part (λ (t : Labelled). appearing_here arrays t.stmt) x (unit_at us k) inside.place s inside.here among

  -- a name that is no dummy
  pub own-of : (x : List ℕ) → Among x (names_of_unit (unit_at us k)) → list_any (bytes_eq x) (dummies_of (unit_at us k)) ≡ false → Among x (own_names us k)
  own-of x among none = among-kept (λ (y : List ℕ). not (list_any (bytes_eq y) (dummies_of (unit_at us k)))) x (names_of_unit (unit_at us k)) (ap not none) among
