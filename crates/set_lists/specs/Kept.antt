-- How the sets are kept. No public clause cites this module.
use Rattle.std.specs.Prelude.{◌≡◌, ◌<◌, ◌≤◌, ◌*◌, ◌==◌, ℕ, Bool, false, List, length, Option, None, Some, slice_get}
use Rattle.class_set.specs.ClassSet.{holds}
use Rattle.class_set.specs.declared.ClassSet.{ClassSet}
use Rattle.set_lists.specs.declared.lists.Members.{Members}
use Rattle.set_lists.specs.declared.lists.Members.TheVariants.{Nothing, One, Shared}

module _ {W : ℕ} where
  abbrev pub test_in : Option (ClassSet W) → (k : ℕ) → Bool
  test_in None k = false
  test_in (Some set) k = holds set k

  -- a number is a member
  abbrev pub test_of : (shared : List (ClassSet W)) → Members → (k : ℕ) → Bool
  test_of shared Nothing k = false
  test_of shared (One n) k = k == n
  test_of shared (Shared i) k = test_in (slice_get shared i) k

  abbrev pub test_by : (shared : List (ClassSet W)) → Option Members → (k : ℕ) → Bool
  test_by shared None k = false
  test_by shared (Some members) k = test_of shared members k

  -- the sets are the first ones of the others
  pub record AreMore (old new : List (ClassSet W)) : Type 0 where
    pub longer : length old ≤ length new
    pub same : (i : ℕ) → i < length old → slice_get new i ≡ slice_get old i

-- the one member is one that a set of so many words can have, and the shared set is one of so many
abbrev pub IsThere : (words count : ℕ) → Members → Type 0
IsThere words count Nothing = Unit {0}
IsThere words count (One n) = n < 64 * words
IsThere words count (Shared i) = i < count

-- these are all members, without a shared set
pub record IsSmall (words : ℕ) (test : ℕ → Bool) (members : Members) : Type 0 where
  pub there : (count : ℕ) → IsThere words count members
  pub are : {W : ℕ} (shared : List (ClassSet W)) (k : ℕ) → test_of shared members k ≡ test k
