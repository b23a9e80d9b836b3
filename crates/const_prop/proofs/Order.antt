-- The order of what is known.
use Rattle.std.proofs.Common.{◌≡◌, ℕ, ℤ, Some, None, refl, sym, ap, subst, ◌∙◌}
use Rattle.const_prop.specs.declared.known.Known.{Known}
use Rattle.const_prop.specs.declared.known.Known.TheVariants.{Nothing, One, Any}
use Rattle.const_prop.specs.Closed.{Allows, KindAllows}
use Rattle.const_prop.specs.Known.{AtMost, IsSomething, one_of}
use Rattle.cfg_build.specs.declared.pieces.PieceKind.{PieceKind}
use Rattle.cfg_build.specs.declared.pieces.PieceKind.TheVariants.{Start, Act, Pass, Branch, Join, Hold, End}

pub at_most-refl : (k : Known) → AtMost k k
at_most-refl Nothing = tt
at_most-refl (One v) = refl
at_most-refl Any = tt

pub at_most-is : (j k : Known) → j ≡ k → AtMost j k
at_most-is j k is = subst (AtMost j) is (at_most-refl j)

pub at_most-trans : (i j k : Known) → AtMost i j → AtMost j k → AtMost i k
at_most-trans Nothing j k a b = tt
at_most-trans (One v) Nothing k a b = absurd a
at_most-trans (One v) (One w) Nothing a b = absurd b
at_most-trans (One v) (One w) (One x) a b = a ∙ b
at_most-trans (One v) (One w) Any a b = tt
at_most-trans (One v) Any Nothing a b = absurd b
at_most-trans (One v) Any (One x) a b = absurd b
at_most-trans (One v) Any Any a b = tt
at_most-trans Any Nothing k a b = absurd a
at_most-trans Any (One w) k a b = absurd a
at_most-trans Any Any k a b = b

pub at_most-any : (k : Known) → AtMost k Any
at_most-any Nothing = tt
at_most-any (One v) = tt
at_most-any Any = tt

pub something-more : (j k : Known) → AtMost j k → IsSomething j → IsSomething k
something-more Nothing k a s = absurd s
something-more (One v) Nothing a s = absurd a
something-more (One v) (One w) a s = tt
something-more (One v) Any a s = tt
something-more Any Nothing a s = absurd a
something-more Any (One w) a s = tt
something-more Any Any a s = tt

-- one value is known above something, so it is known there
pub one-below : (j k : Known) (z : ℤ) → AtMost j k → IsSomething j → one_of k ≡ Some z → one_of j ≡ Some z
one-below Nothing k z a s e = absurd s
one-below (One v) Nothing z a s e = absurd a
one-below (One v) (One w) z a s e = ap Some a ∙ e
one-below (One v) Any z a s e = let no : None ≡ Some z = e in absurd cc
one-below Any Nothing z a s e = absurd a
one-below Any (One w) z a s e = absurd a
one-below Any Any z a s e = e

pub allows-more : (j k : Known) (i : ℕ) → AtMost j k → Allows j i → Allows k i
allows-more Nothing k i a s = absurd s
allows-more (One v) Nothing i a s = absurd a
allows-more (One v) (One w) i a s = sym a ∙ s
allows-more (One v) Any i a s = tt
allows-more Any Nothing i a s = absurd a
allows-more Any (One w) i a s = absurd a
allows-more Any Any i a s = tt

pub kind_allows-more : (kind : PieceKind) (j k : Known) (i : ℕ) → AtMost j k → KindAllows kind j i → KindAllows kind k i
kind_allows-more Branch j k i a s = allows-more j k i a s
kind_allows-more Hold j k i a s = allows-more j k i a s
kind_allows-more Start j k i a s = tt
kind_allows-more Act j k i a s = tt
kind_allows-more Pass j k i a s = tt
kind_allows-more Join j k i a s = tt
kind_allows-more End j k i a s = tt

-- ---- rises
