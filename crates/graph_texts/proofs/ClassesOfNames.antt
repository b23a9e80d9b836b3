-- The classes that an access hits of whose subscripts nothing is known: those of the words of its name.
use Rattle.std.proofs.Common.{◌≡◌, ℕ, ℤ, pos, Bool, true, false, List, [], ◌∷◌, Option, None, Some, length, map, nat_abs, ap, refl, subst, ◌∙◌, sym, arith}
use Rattle.std.specs.Prelude.{All, ◌==◌, ◌↔◌, slice_get}
use Rattle.std.proofs.lemmas.Bool.{eq-eqb, eqb-true}
use Rattle.std.proofs.lemmas.Int.{ints}
use Rattle.std.proofs.lemmas.Option.{get_or_from_slice_get, slice_get_within}
use Rattle.alias_classes.specs.Classes.{ClassTable, class_of_word}
use Rattle.alias_classes.specs.Needs.{Hits, HitsAt, HitsName, IsClassOfName}
use Rattle.alias_classes.specs.declared.TheConstants.{CLASS_WORDS}
use Rattle.class_set.specs.ClassSet.{holds}
use Rattle.class_set.specs.declared.ClassSet.{ClassSet}
use Rattle.f77_tree.specs.declared.declarations.Dim.{Dim}
use Rattle.f77_tree.specs.declared.expressions.Access.{Access}
use Rattle.f77_tree.specs.declared.expressions.Expr.{Expr}
use Rattle.f77_tree.specs.declared.expressions.Expr.TheVariants.{Input}
use Rattle.f77_tree.specs.declared.programs.NameInfo.{NameInfo}
use Rattle.f77_tree.specs.Known.{known}
use Rattle.f77_tree.specs.KnownWith.{known_word}
use Rattle.f77_tree.specs.Value.{ArePlaced, IsAccess, IsPlaced, dims_in, dims_of, place_in, place_of, size_of}
use Rattle.graph_texts.specs.GraphText.{has_class}
use Rattle.graph_texts.specs.NameSets.{IsNameSet}
use Rattle.graph_texts.proofs.NameWords.{any_range, range_any, size_some}

abbrev IsUnknown : Expr → Type 0
IsUnknown e = e ≡ Input

-- no word is known of a name at such subscripts
known_nowhere : (names : List NameInfo) (name : ℕ) (e : Expr) (subs : List Expr) → IsUnknown e → known_word names name (map known (e ∷ subs)) ≡ None
known_nowhere names name e subs is =
    let none : known e ≡ None = ap known is in
    ap (λ (first : Option ℤ). known_word names name (first ∷ map known subs)) none

-- a name without dimensions has one word
one_word : (dims : List Dim) → 0 ≡ length dims → size_of dims ≡ pos 1
one_word [] none = refl
one_word (dim ∷ dims) none = absurd (omega (arith, none))

module _ (c : ClassTable) (name : ℕ) (info : NameInfo) (at : slice_get c.names name ≡ Some info) (size : size_of info.dims ≡ pos (nat_abs (size_of info.dims))) (class : ℕ) where
  abbrev is_class : ℕ → Bool
  is_class word = class_of_word c word == class

  place : place_of c.names name ≡ info.place
  place = ap place_in at

  dims : size_of (dims_of c.names name) ≡ size_of info.dims
  dims = ap (λ (found : Option NameInfo). size_of (dims_in found)) at

  class_has : IsClassOfName c name class → has_class c class info ≡ true
  class_has found =
      let begins = found.has.begins in
      let ends = found.has.ends in
      range_any is_class info.place (nat_abs (size_of info.dims)) found.word (omega (arith, begins, place)) (omega (arith, ints, ends, place, dims, size)) (eq-eqb (class_of_word c found.word) class found.is)

  has_class_of : has_class c class info ≡ true → IsClassOfName c name class
  has_class_of has =
      let found = any_range is_class info.place (nat_abs (size_of info.dims)) has in
      let from = found.1 in
      let below = found.2 in
      record {
        word = found.0;
        has = record { known = slice_get_within c.names name info at; begins = omega (arith, from, place); ends = omega (arith, ints, below, place, dims, size) };
        is = eqb-true (class_of_word c found.0) class found.3;
      }

  scalar_has : 0 ≡ length info.dims → class_of_word c (place_of c.names name) ≡ class → has_class c class info ≡ true
  scalar_has none is =
      let one = one_word info.dims none in
      range_any is_class info.place (nat_abs (size_of info.dims)) info.place (omega arith) (omega (arith, ints, one, size)) (eq-eqb (class_of_word c info.place) class (ap (class_of_word c) (sym place) ∙ is))

  has_scalar : 0 ≡ length info.dims → has_class c class info ≡ true → class_of_word c (place_of c.names name) ≡ class
  has_scalar none has =
      let one = one_word info.dims none in
      let found = any_range is_class info.place (nat_abs (size_of info.dims)) has in
      let from = found.1 in
      let below = found.2 in
      let same : place_of c.names name ≡ found.0 = omega (arith, ints, from, below, place, one, size) in
      ap (class_of_word c) same ∙ eqb-true (class_of_word c found.0) class found.3

  -- the classes that are hit are those of the name's words
  hits_class : (subs : List Expr) → length subs ≡ length info.dims → All IsUnknown subs → HitsName c name (map known subs) class ↔ (has_class c class info ≡ true)
  hits_class [] count unknown = (scalar_has count, has_scalar count)
  hits_class (e ∷ subs) count unknown =
      let none = known_nowhere c.names name e subs (unknown 0 e (omega arith)) in
      (λ hit. class_has (subst (λ (found : Option ℕ). HitsAt c name found class) none hit), λ has. subst (λ (found : Option ℕ). HitsAt c name found class) (sym none) (has_class_of has))

-- two tests that hold together are the same
same_test : (a b : Bool) → (a ≡ true → b ≡ true) → (b ≡ true → a ≡ true) → a ≡ b
same_test true b forth back = sym (forth refl)
same_test false true forth back = back refl
same_test false false forth back = refl

-- the set of the classes that it hits is the set of the name
pub name_set_is : (c : ClassTable) (words : ℕ) (access : Access) (info : NameInfo) (set : ClassSet CLASS_WORDS) → ArePlaced c.names words → IsAccess c.names access → All IsUnknown access.subs
    → slice_get c.names access.name ≡ Some info → ((n : ℕ) → (holds set n ≡ true) ↔ Hits c access n) → IsNameSet c info set
name_set_is c words access info set placed fits unknown at hits class =
    let own : IsPlaced words info = subst (IsPlaced words) (get_or_from_slice_get c.names access.name info info at) (placed.each access.name info (slice_get_within c.names access.name info at)) in
    let size = size_some info.dims own.bounds in
    let count = fits.as_many ∙ ap (λ (found : Option NameInfo). length (dims_in found)) at in
    let both = hits_class c access.name info at size class access.subs count unknown in
    let hit = hits class in
    same_test (holds set class) (has_class c class info) (λ held. both.0 (hit.0 held)) (λ has. hit.1 (both.1 has))
