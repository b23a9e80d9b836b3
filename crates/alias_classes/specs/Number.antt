-- How many alias classes a program has: a number that its names and their words give by themselves.
use Rattle.std.specs.Prelude.{ℕ, ◌+◌, ◌*◌, ◌<◌, pos, int_lt, Bool, not, ◌&&◌, nat_lt, nat_le, List, length, filter, bytes_eq}
use Rattle.std.specs.List.{list_any, range_with_len}
use Rattle.f77_tree.specs.declared.programs.NameInfo.{NameInfo}
use Rattle.f77_tree.specs.declared.programs.Program.{Program}
use Rattle.f77_tree.specs.Places.{end_of}
use Rattle.f77_tree.specs.Value.{place_of}
use Rattle.alias_classes.specs.declared.TheConstants.{CLASS_WORDS}

-- whether a word is one of the words of the name k
abbrev pub covers : List NameInfo → (word k : ℕ) → Bool
covers names word k = nat_le (place_of names k) word && int_lt (pos word) (end_of names k)

-- the numbers of the names that cover a word
abbrev pub names_at : List NameInfo → (word : ℕ) → List ℕ
names_at names word = filter (covers names word) (range_with_len 0 (length names))

-- whether names cover a word, and the same ones no lower word
abbrev pub is_first : List NameInfo → (word : ℕ) → Bool
is_first names word = nat_lt 0 (length (names_at names word)) && not (list_any (λ lower. bytes_eq (names_at names lower) (names_at names word)) (range_with_len 0 word))

-- one class for each word that is the first of its class, and one for each DO
unfoldable pub number_of_classes : Program → ℕ
number_of_classes p = length (filter (is_first p.names) (range_with_len 0 p.words)) + p.loops

-- a set of alias classes holds each of them
abbrev pub HasFewClasses : Program → Type 0
HasFewClasses p = number_of_classes p < 64 * CLASS_WORDS
