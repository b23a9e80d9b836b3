-- The same equations in another order have the same places.
use Rattle.std.proofs.Common.{ℕ, inl, inr, ⊎_elim, List, Contains}
use Rattle.f77_tree.specs.declared.declarations.CommonPart.{CommonPart}
use Rattle.f77_tree.specs.declared.programs.NameInfo.{NameInfo}
use Rattle.f77_tree.specs.Places.{Equation, IsEarlier, BeginsAfter, ArePlaces}
use Rattle.storage_laws.proofs.DeclaredEquations.{linked-within}

-- each of the one is among the others
abbrev pub AreAmong : List Equation → List Equation → Type 0
AreAmong some all = (e : Equation) → Contains some e → Contains all e

module _ (one other : List Equation) (there : AreAmong one other) (back : AreAmong other one) where
  earlier : (x y : ℕ) → IsEarlier one x y → IsEarlier other x y
  earlier x y is = record {
    witness = is.witness;
    linked = linked-within one other there is.witness x is.linked;
    before = λ z link. is.before z (linked-within other one back z y link);
  }

  begins-alike : (names : List NameInfo) (y : ℕ) → BeginsAfter names one y → BeginsAfter names other y
  begins-alike names y is = record { name = is.name; known = is.known; earlier = earlier is.name y is.earlier; meets = is.meets }

-- places by the one list of equations are places by the other
pub places-alike : (names : List NameInfo) (commons : List CommonPart) (one other : List Equation) (words : ℕ) → AreAmong one other → AreAmong other one → ArePlaces names commons one words → ArePlaces names commons other words
places-alike names commons one other words there back are = record {
  equal = λ e h. are.equal e (back e h);
  blocks = λ a b x y at_x at_y link. are.blocks a b x y at_x at_y (linked-within other one back x y link);
  extended = λ x y first link. are.extended x y first (linked-within other one back x y link);
  within = are.within;
  ordered = λ x y i j before. are.ordered x y i j (earlier other one back there x y before);
  begins = λ y j lowest.
      ⊎_elim
      (λ zeroth. inl zeroth)
      (λ beyond. inr (begins-alike one other there back names y beyond))
      (are.begins y j (λ z i link. lowest z i (linked-within one other there z y link)));
  ends = are.ends;
}
