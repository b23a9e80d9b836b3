-- Words, one after another.
use Rattle.std.proofs.Common.{◌≡◌, ℕ, ◌+◌, ◌<◌, ◌≤◌, List, [], ◌∷◌, drop, get_or, length, map}
use Rattle.std.proofs.lemmas.List.{at_drop_all, at_drop_more}

-- the words from a place on begin with the one there
pub word_step : {A : Type 0} (f : A → List ℕ) (words : List A) (i : ℕ) (d : A) → i < length words → map f (drop i words) ≡ f (get_or words i d) ∷ map f (drop (i + 1) words)
word_step f words i d more = at_drop_more (map f) words i d more

pub words_end : {A : Type 0} (f : A → List ℕ) (words : List A) (i : ℕ) → length words ≤ i → map f (drop i words) ≡ []
words_end f words i past = at_drop_all (map f) words i past
