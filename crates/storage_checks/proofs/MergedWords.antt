-- An interval of words that takes in the others that it meets.
use Rattle.std.proofs.Common.{◌≡◌, ℕ, ◌+◌, ◌<◌, ◌≤◌, min, max, true, List, ◌++◌, Option, Some, None, ◌⊎◌, arith}
use Rattle.std.specs.Option.{is_some}
use Rattle.std.proofs.lemmas.Bool.{cases_eq, or_cases, or_left, or_right}
use Rattle.std.proofs.lemmas.List.Folds.{list_any-append}
use Rattle.f77_tree.specs.InitialWords.{words_from}
use Rattle.storage_checks.specs.GivenWords.{AreClear, Holds, HoldsBeside, IsLastBefore, IsWithin}
use Rattle.storage_checks.proofs.GivenWordLemmas.{stands, stands-words_from, words_from-stands}
use Rattle.std.proofs.lemmas.Grind.{elements}

-- more words beside those that are held
pub beside-words : (end_of : ℕ → Option ℕ) (seen : List ℕ) → Holds end_of seen → (first len : ℕ) → HoldsBeside end_of first (first + len) (seen ++ words_from first len)
beside-words end_of seen holds first len = grind (arith, elements, list_any-append, or_left, or_right, stands-words_from, words_from-stands, or_cases)

module _ (end_of after : ℕ → Option ℕ) (from to : ℕ) (seen : List ℕ) (holds : HoldsBeside end_of from to seen) where
  -- ---- an interval that meets the words is taken in

  module _ (other last : ℕ) (stands_there : end_of other ≡ Some last) (gone : after other ≡ None) (others : (q : ℕ) → (other ≡ q → ⊥) → after q ≡ end_of q) (before : other < to) (reaches : from < last) where
    old : (q end : ℕ) → after q ≡ Some end → end_of q ≡ Some end
    old q end is = grind arith

    beside : (word : ℕ) → min from other ≤ word → word < max to last → stands word seen ≡ true
    beside word low high = grind (arith, stands)

    held : (word : ℕ) → IsWithin end_of word ⊎ ((from ≤ word) × (word < to)) → IsWithin after word ⊎ ((min from other ≤ word) × (word < max to last))
    held word is = grind (arith, stands, cases_eq other)

    pub taken_in : HoldsBeside after (min from other) (max to last) seen
    taken_in = grind (arith, old, stands, beside, held)

    -- and where it is the last one before a word, those that begin behind it begin behind the words too
    pub beyond_taken : (limit : ℕ) → IsLastBefore end_of limit (Some (other, last)) → ((q end : ℕ) → end_of q ≡ Some end → limit ≤ q → to ≤ q) → (q end : ℕ) → after q ≡ Some end → other ≤ q → max to last ≤ q
    beyond_taken limit is beyond q end is_q le = grind (arith, elements, old, is_some)

  -- ---- where none meets the words, they are an interval

  module _ (clear : AreClear end_of from to) (some_words : from < to) (at : after from ≡ Some to) (others : (q : ℕ) → (from ≡ q → ⊥) → after q ≡ end_of q) where
    old_or_new : (q end : ℕ) → after q ≡ Some end → ((q ≡ from) × (end ≡ to)) ⊎ (end_of q ≡ Some end)
    old_or_new q end is = grind arith

    some_after : (q end : ℕ) → after q ≡ Some end → q < end
    some_after q end is = grind (arith, old_or_new)

    apart_after : (q end next last : ℕ) → after q ≡ Some end → after next ≡ Some last → q < next → end ≤ next
    apart_after q end next last is is_next lt = grind (arith, old_or_new)

    seen_after : (word : ℕ) → IsWithin after word → stands word seen ≡ true
    seen_after word within = grind (arith, elements, stands, old_or_new)

    held_after : (word : ℕ) → IsWithin end_of word ⊎ ((from ≤ word) × (word < to)) → IsWithin after word
    held_after word is = grind (arith, stands)

    pub holds_all : Holds after seen
    holds_all = record { some = some_after; apart = apart_after; seen_all = seen_after; held_all = λ word is. held_after word (holds.held_all word is) }
