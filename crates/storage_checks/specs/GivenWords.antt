-- The words that DATA has given values to, kept as intervals by their first words (ANSI X3.9-1978, section 9).
use Rattle.std.specs.Prelude.{◌≡◌, ℕ, ◌<◌, ◌≤◌, ◌⊎◌, true, ◌==◌, List, IsSome, Option, Some, None, ◌++◌, not, ◌&&◌, ◌||◌, Bool}
use Rattle.std.specs.List.{list_any}
use Rattle.std.specs.Ordering.{nat_cmp}
use Rattle.std.specs.BTreeMap.{get}
use Rattle.layout_rules.specs.Faults.{has_repeat}
use Rattle.storage_checks.specs.declared.given_words.GivenWords.{GivenWords}
use Rattle.f77_tree.specs.declared.programs.NameInfo.{NameInfo}
use Rattle.layout_rules.specs.Declarations.{inits_of}
use Rattle.layout_rules.specs.StorageFaults.{has_wrong_member, is_data, has_wrong_part}
use Rattle.f77_tree.specs.declared.statements.Labelled.{Labelled}

-- an interval from `first` on that holds the word
pub record IsWithin (end_of : ℕ → Option ℕ) (word : ℕ) : Type 0 where
  pub first : ℕ
  pub end : ℕ
  pub stands : end_of first ≡ Some end
  pub from : first ≤ word
  pub before : word < end

-- The intervals, of which each ends before the next one begins, hold these words and no other.
pub record Holds (end_of : ℕ → Option ℕ) (seen : List ℕ) : Type 0 where
  pub some : (first end : ℕ) → end_of first ≡ Some end → first < end
  pub apart : (first end next last : ℕ) → end_of first ≡ Some end → end_of next ≡ Some last → first < next → end ≤ next
  pub seen_all : (word : ℕ) → IsWithin end_of word → list_any (λ x. word == x) seen ≡ true
  pub held_all : (word : ℕ) → list_any (λ x. word == x) seen ≡ true → IsWithin end_of word

-- The intervals and one more, which may meet them, hold these words and no other.
pub record HoldsBeside (end_of : ℕ → Option ℕ) (from to : ℕ) (seen : List ℕ) : Type 0 where
  pub some : (first end : ℕ) → end_of first ≡ Some end → first < end
  pub apart : (first end next last : ℕ) → end_of first ≡ Some end → end_of next ≡ Some last → first < next → end ≤ next
  pub seen_all : (word : ℕ) → IsWithin end_of word → list_any (λ x. word == x) seen ≡ true
  pub seen_beside : (word : ℕ) → from ≤ word → word < to → list_any (λ x. word == x) seen ≡ true
  pub held_all : (word : ℕ) → list_any (λ x. word == x) seen ≡ true → IsWithin end_of word ⊎ ((from ≤ word) × (word < to))

-- no interval meets these words
abbrev pub AreClear : (end_of : ℕ → Option ℕ) → (from to : ℕ) → Type 0
AreClear end_of from to = (first end : ℕ) → end_of first ≡ Some end → (end ≤ from) ⊎ (to ≤ first)

-- the last interval that begins before this word, or none
abbrev pub IsLastBefore : (end_of : ℕ → Option ℕ) → (word : ℕ) → Option (ℕ × ℕ) → Type 0
IsLastBefore end_of word None = (first : ℕ) → first < word → end_of first ≡ None
IsLastBefore end_of word (Some found) =
    (found.0 < word) × (end_of found.0 ≡ Some found.1) × ((first : ℕ) → first < word → IsSome (end_of first) → first ≤ found.0)

-- the last interval that begins before this word, where it ends behind another one
abbrev pub IsLastReaching : (end_of : ℕ → Option ℕ) → (from word : ℕ) → Option (ℕ × ℕ) → Type 0
IsLastReaching end_of from word None = IsLastBefore end_of word None ⊎ ((found : ℕ × ℕ) × IsLastBefore end_of word (Some found) × (found.1 ≤ from))
IsLastReaching end_of from word (Some found) = IsLastBefore end_of word (Some found) × (from < found.1)

-- the words that have got values so far are these
abbrev pub AreGiven : GivenWords → List ℕ → Type 0
AreGiven given seen = Holds (get nat_cmp given.ends) seen

-- these words get values too
abbrev pub GivesMore : (old new : GivenWords) → List ℕ → Type 0
GivesMore old new words = (seen : List ℕ) → AreGiven old seen → AreGiven new (seen ++ words)

-- whether none of these words has a value or stands twice
abbrev pub TellsFree : GivenWords → List ℕ → Bool → Type 0
TellsFree given words free = (seen : List ℕ) → AreGiven given seen → free ≡ not (has_repeat (λ a b. a == b) seen words)

-- the statement gives values wrongly, where the names have their places and these words have values
abbrev pub gives_wrongly : (names placed : List NameInfo) → (seen : List ℕ) → Labelled → Bool
gives_wrongly names placed seen s = is_data s.stmt && (has_wrong_member names s || has_wrong_part placed seen (inits_of s.stmt))
