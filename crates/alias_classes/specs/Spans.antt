-- The words of names as spans, and where the last span begins that holds a word.
use Rattle.std.specs.Prelude.{◌≡◌, ℕ, suc, ◌+◌, ◌<◌, ◌≤◌, pos, List, length, slice_index}
use Rattle.f77_tree.specs.declared.programs.NameInfo.{NameInfo}
use Rattle.f77_tree.specs.Places.{end_of}
use Rattle.f77_tree.specs.Value.{place_of}

-- the span of each name: from its first word up to the word after its last one
pub record AreSpansOf (names : List NameInfo) (begins ends : List ℕ) : Type 0 where
  pub begin_count : length begins ≡ length names
  pub end_count : length ends ≡ length names
  pub begin : (k : ℕ) → k < length names → slice_index begins k ≡ place_of names k
  pub end : (k : ℕ) → k < length names → pos (slice_index ends k) ≡ end_of names k

-- each span has a word, and lies in a store of so many words
pub record AreSpans (words : ℕ) (begins ends : List ℕ) : Type 0 where
  pub as_many : length ends ≡ length begins
  pub some : (k : ℕ) → k < length begins → slice_index begins k < slice_index ends k
  pub inside : (k : ℕ) → k < length begins → slice_index ends k ≤ words

-- the span k holds the word
pub record Holds (begins ends : List ℕ) (k word : ℕ) : Type 0 where
  pub known : k < length begins
  pub from : slice_index begins k ≤ word
  pub below : word < slice_index ends k

-- for each word at which a span begins the greatest end of those that begin there, else 0
pub record AreReaches (words : ℕ) (begins ends reaches : List ℕ) : Type 0 where
  pub each : length reaches ≡ words
  pub far : (k : ℕ) → k < length begins → slice_index ends k ≤ slice_index reaches (slice_index begins k)
  pub own : (p : ℕ) → 0 < slice_index reaches p → (k : ℕ) × (k < length begins) × (slice_index begins k ≡ p) × (slice_index ends k ≡ slice_index reaches p)

-- q is one more than the last place at which a span begins that holds the word, or 0 where none holds it
pub record IsLastBegin (begins ends : List ℕ) (word q : ℕ) : Type 0 where
  pub most : (k : ℕ) → Holds begins ends k word → slice_index begins k < q
  pub own : 0 < q → (k : ℕ) × Holds begins ends k word × (suc (slice_index begins k) ≡ q)

-- the last begins of the words below `words`, after a 0
pub record AreLastBegins (words : ℕ) (begins ends last : List ℕ) : Type 0 where
  pub each : length last ≡ words + 1
  pub none : slice_index last 0 ≡ 0
  pub own : (word : ℕ) → word < words → IsLastBegin begins ends word (slice_index last (word + 1))

-- places counted from the end of a store of so many words
pub record AreFromEnd (words : ℕ) (places back : List ℕ) : Type 0 where
  pub as_many : length back ≡ length places
  pub own : (k : ℕ) → k < length places → slice_index back k + slice_index places k ≡ words
