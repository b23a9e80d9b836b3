-- What is known of an operator's value, or of its traps, where some of its operands are known.
use Rattle.std.specs.Prelude.{◌≡◌, ℤ, ◌<ℤ◌, List, [], ◌∷◌, Option, Some, None, IsErr}
use Rattle.std.specs.Option.{option_map, option_and_then}
use Rattle.std.specs.Result.{result_ok}
use Rattle.op_table.specs.declared.Op.{Op}
use Rattle.op_table.specs.Words.{IsWord}
use Rattle.op_table.specs.Operators.{applied}

-- the operands, where each is known
abbrev pub all_known : List (Option ℤ) → Option (List ℤ)
all_known [] = Some []
all_known (None ∷ known) = None
all_known (Some x ∷ known) = option_map (λ args. x ∷ args) (all_known known)

-- the value, where each operand is known and the operator does not trap
unfoldable pub folded : Op → List (Option ℤ) → Option ℤ
folded op known = option_and_then (λ args. result_ok (applied op args)) (all_known known)

-- what an operand may be: the number that is known, or any word where none is
abbrev pub MayBe : Option ℤ → ℤ → Type 0
MayBe None x = IsWord x
MayBe (Some y) x = x ≡ y

-- what the operands may be
abbrev pub MayAllBe : List (Option ℤ) → List ℤ → Type 0
MayAllBe [] [] = Unit {0}
MayAllBe (k ∷ known) (x ∷ args) = MayBe k x × MayAllBe known args
MayAllBe _ _ = ⊥

-- the operator traps at some words that the operands may be
pub record CanTrap (op : Op) (known : List (Option ℤ)) : Type 0 where
  pub args : List ℤ
  pub words : MayAllBe known args
  pub traps : IsErr (applied op args)

-- a number that the first operand may be is below one that the second may be
pub record MayBeBelow (k j : Option ℤ) : Type 0 where
  pub low : ℤ
  pub high : ℤ
  pub may_be_low : MayBe k low
  pub may_be_high : MayBe j high
  pub below : low <ℤ high
