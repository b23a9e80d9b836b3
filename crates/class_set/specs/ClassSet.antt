-- What a contract sees of a `ClassSet`: which numbers are members.
use Rattle.std.specs.Prelude.{ℕ, Bool}
use Rattle.class_set.specs.Members.{bit_of}
use Rattle.class_set.specs.declared.ClassSet.{ClassSet}

module _ {W : ℕ} where
  -- whether the number is a member
  unfoldable pub holds : ClassSet W → ℕ → Bool
  holds set n = bit_of set.words n
