-- The walk through the words of names, as far as it has come.
use Rattle.std.specs.Prelude.{◌≡◌, ◌≢◌, ℕ, ◌+◌, ◌-◌, ◌<◌, ◌≤◌, ◌⊎◌, Bool, ◌&&◌, nat_eq, List, length, slice_index, slice_index_or, slice_set}
use Rattle.std.specs.List.{position_or_len}
use Rattle.indexmap.specs.IndexSet.{insert_key}
use Rattle.alias_classes.specs.Classes.{IsMet, IsNextNumber, SameNames}
use Rattle.alias_classes.specs.Spans.{Holds}
use Rattle.alias_classes.specs.declared.spans.Spans.{Spans}
use Rattle.alias_classes.specs.declared.walk.Marks.{Marks}
use Rattle.alias_classes.specs.declared.walk.Walk.{Walk}

-- what tells the class of a word: one more than the last place at which a name begins that covers it, and the same from the
-- end of the store
abbrev pub key_of : (words : ℕ) → (forth back : List ℕ) → ℕ → ℕ × ℕ
key_of words forth back word = (slice_index forth (word + 1), slice_index back (words - word))

abbrev pub no_key : ℕ × ℕ
no_key = (0, 0)

abbrev pub same_keys : ℕ × ℕ → ℕ × ℕ → Bool
same_keys x y = nat_eq x.0 y.0 && nat_eq x.1 y.1

-- a word without a number gets the place of its key among the keys, counted from 1; one that has a number keeps it
pub record IsMarked (word : ℕ) (key : ℕ × ℕ) (numbers : List ℕ) (keys : List (ℕ × ℕ)) (new : List ℕ) (more : List (ℕ × ℕ)) : Type 0 where
  pub blank : slice_index numbers word ≡ 0 → (new ≡ slice_set numbers word (position_or_len (same_keys key) keys + 1)) × (more ≡ insert_key same_keys keys key)
  pub kept : slice_index numbers word ≢ 0 → (new ≡ numbers) × (more ≡ keys)

-- after each word all up to the one that it leads to have numbers
pub record AreSkips (numbers skips : List ℕ) : Type 0 where
  pub each : length skips ≡ length numbers
  pub later : (v : ℕ) → v < length numbers → v < slice_index skips v
  pub within : (v : ℕ) → v < length numbers → slice_index skips v ≤ length numbers
  pub met : (v u : ℕ) → v < length numbers → v < u → u < slice_index skips v → 1 ≤ slice_index numbers u

module _ (covers : ℕ → ℕ → Type 0) (key : ℕ → ℕ × ℕ) where
  -- the numbers are places of keys, counted from 1, each key stands there once, and each place is the number of a word
  pub record IsKeyed (numbers : List ℕ) (keys : List (ℕ × ℕ)) : Type 0 where
    pub within : (v : ℕ) → slice_index numbers v ≤ length keys
    pub keyed : (v : ℕ) → 1 ≤ slice_index numbers v → slice_index_or keys (slice_index numbers v - 1) no_key ≡ key v
    pub apart : (i j : ℕ) → i < j → j < length keys → slice_index_or keys i no_key ≢ slice_index_or keys j no_key
    pub reached : (n : ℕ) → 1 ≤ n → n ≤ length keys → (v : ℕ) × (slice_index numbers v ≡ n)

  -- the walk comes to the word x of the name j before it comes to the word w of the name k
  abbrev pub Before : (j x k w : ℕ) → Type 0
  Before j x k w = (j < k) ⊎ ((j ≡ k) × (x < w))

  -- when the walk comes to the word w of the name k, it has met none with the number of w
  abbrev pub IsNew : (numbers : List ℕ) → (k w : ℕ) → Type 0
  IsNew numbers k w = (v : ℕ) → IsMet covers k w v → slice_index numbers v ≢ slice_index numbers w

  -- the walk comes to the word w of the name k: the words that it has met have numbers, and no others
  pub record IsWalked (k w : ℕ) (numbers : List ℕ) (keys : List (ℕ × ℕ)) : Type 0 where
    pub met : (v : ℕ) → IsMet covers k w v → 1 ≤ slice_index numbers v
    pub own : (v : ℕ) → 1 ≤ slice_index numbers v → IsMet covers k w v
    pub table : IsKeyed numbers keys
    pub first : (j x : ℕ) → covers j x → Before j x k w → IsNew numbers j x → IsNextNumber covers numbers j x (slice_index numbers x)

-- two words have the same key exactly where the same names cover them
pub record KeysTell (covers : ℕ → ℕ → Type 0) (key : ℕ → ℕ × ℕ) (words : ℕ) : Type 0 where
  pub names : (v w : ℕ) → v < words → w < words → key v ≡ key w → SameNames covers v w
  pub keys : (v w : ℕ) → v < words → w < words → SameNames covers v w → key v ≡ key w

-- the walk through the names with these spans comes to the name k
abbrev pub IsWalkedTo : Marks → Spans → ℕ → Walk → Type 0
IsWalkedTo marks spans k walk = IsWalked (Holds spans.begins.items spans.ends.items) (key_of marks.words marks.forth.items marks.back.items) k 0 walk.numbers.items walk.keys.keys
