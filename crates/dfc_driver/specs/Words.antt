-- What the words ask for.
use Rattle.std.specs.Prelude.{ℕ, ◌+◌, ℤ, pos, neg_ℤ, Bool, true, false, ◌&&◌, nat_le, ◌==◌, List, [], ◌∷◌, ◌++◌, length, map, take, drop, Option, Some, None, codes, if◌then◌else◌}
use Rattle.std.specs.List.{list_all}
use Rattle.std.specs.Str.{bytes_eq}
use Rattle.f77_tree.specs.Name.{is_figure}
use Rattle.fixed_form.specs.Columns.{number}
use Rattle.f77_tree.specs.Grammar.{greatest_constant}
use Rattle.job_terms.specs.declared.task.Told.{Told}
use Rattle.job_terms.specs.declared.task.Told.TheVariants.{Output, Nodes, Store}
use Rattle.job_terms.specs.Tasks.{Asked, Task, Regions, Graph, Play, Forks, Regen, Run}
use Rattle.dfc_driver.specs.declared.words.Setting.{Setting}
use Rattle.dfc_driver.specs.declared.words.Setting.TheVariants.{Limit, Picks, Data}

-- a task on the program of a text, in the checked dialect or in the plain one, or the sample with this number
pub data Job : Type 0 where
  On : (task : Task) (checked : Bool) → Job
  Sample : (number : ℕ) → Job

-- ---- numbers and lists of them

-- the pieces of a text between its commas, of which the first begins with these characters
abbrev pub pieces_after : (begun text : List ℕ) → List (List ℕ)
pieces_after begun [] = begun ∷ []
pieces_after begun (c ∷ text) = if c == 44 then begun ∷ pieces_after [] text else pieces_after (begun ++ c ∷ []) text

-- one to so many digits
abbrev pub are_digits_to : (most : ℕ) → List ℕ → Bool
are_digits_to most digits = nat_le 1 (length digits) && nat_le (length digits) most && list_all is_figure digits

-- one to ten digits, of a number up to this one
abbrev pub is_number_to : (greatest : ℕ) → (digits : List ℕ) → Bool
is_number_to greatest digits = are_digits_to 10 digits && nat_le (number digits) greatest

-- a word of the machine in decimal, a negative one after a minus sign
abbrev pub is_word : List ℕ → Bool
is_word [] = false
is_word (c ∷ digits) = if c == 45 then is_number_to (greatest_constant + 1) digits else is_number_to greatest_constant (c ∷ digits)

abbrev pub word_value : List ℕ → ℤ
word_value [] = pos 0
word_value (c ∷ digits) = if c == 45 then neg_ℤ (pos (number digits)) else pos (number (c ∷ digits))

-- ---- settings of a game or of a run: `limit=` and a number of firings or steps, `picks=` and numbers, `data=` and words, with commas between them

abbrev pub name_of : Setting → List ℕ
name_of Limit = codes "limit="
name_of Picks = codes "picks="
name_of Data = codes "data="

-- a piece between commas
abbrev pub is_piece : Setting → List ℕ → Bool
is_piece Limit piece = are_digits_to 18 piece
is_piece Picks piece = are_digits_to 9 piece
is_piece Data piece = is_word piece

-- what may stand after the name; a limit is a single number
abbrev pub is_text : Setting → List ℕ → Bool
is_text Limit text = is_piece Limit text
is_text Picks text = list_all (is_piece Picks) (pieces_after [] text)
is_text Data text = list_all (is_piece Data) (pieces_after [] text)

abbrev pub is_setting : Setting → List ℕ → Bool
is_setting s word = bytes_eq (take (length (name_of s)) word) (name_of s) && is_text s (drop (length (name_of s)) word)

-- what the first word says, where it is this setting
abbrev pub text_of : Setting → List (List ℕ) → List ℕ
text_of s [] = []
text_of s (word ∷ words) = if is_setting s word then drop (length (name_of s)) word else []

-- the words after this setting, which may stand before them
abbrev pub after : Setting → List (List ℕ) → List (List ℕ)
after s [] = []
after s (word ∷ words) = if is_setting s word then words else word ∷ words

abbrev pub limit_in : (text : List ℕ) → ℕ
limit_in [] = 1000000
limit_in (c ∷ text) = number (c ∷ text)

-- the values of the pieces of a text, if there is one
abbrev pub values_in : {A : Type 0} → (List ℕ → A) → (text : List ℕ) → List A
values_in value [] = []
values_in value (c ∷ text) = map value (pieces_after [] (c ∷ text))

-- ---- the dialect: `checked`, or the plain one

-- whether it is the checked one
abbrev pub dialect_of : List (List ℕ) → Option Bool
dialect_of [] = Some false
dialect_of (word ∷ []) = if bytes_eq word (codes "checked") then Some true else None
dialect_of (word ∷ more ∷ words) = None

-- ---- jobs

abbrev pub on : Task → Option Bool → Option Job
on task None = None
on task (Some checked) = Some (On task checked)

-- what a game is asked by these words: the limit, the picks and the data, in this order, each of them once or not at all
abbrev pub asked_of : List (List ℕ) → Asked
asked_of words =
    let after_limit = after Limit words in
    let after_picks = after Picks after_limit in
    record { limit = limit_in (text_of Limit words); picks = values_in number (text_of Picks after_limit); input = values_in word_value (text_of Data after_picks) }

-- the dialect, which stands after them
abbrev pub dialect_after : List (List ℕ) → Option Bool
dialect_after words = dialect_of (after Data (after Picks (after Limit words)))

abbrev pub play_of : Told → List (List ℕ) → Option Job
play_of told words = on (Play told (asked_of words)) (dialect_after words)

-- the same settings, and before them `nodes` or not
abbrev pub forks_of : List (List ℕ) → Option Job
forks_of [] = on (Forks false (asked_of [])) (dialect_after [])
forks_of (word ∷ words) = if bytes_eq word (codes "nodes") then on (Forks true (asked_of words)) (dialect_after words) else on (Forks false (asked_of (word ∷ words))) (dialect_after (word ∷ words))

-- the game that this word asks for
abbrev pub told_by : List ℕ → Option Told
told_by word = if bytes_eq word (codes "fire") then Some Output else if bytes_eq word (codes "trace") then Some Nodes else if bytes_eq word (codes "store") then Some Store else None

abbrev pub game_of_words : Option Told → List (List ℕ) → Option Job
game_of_words None words = None
game_of_words (Some told) words = play_of told words

-- a run has no picks
abbrev pub run_of : List (List ℕ) → Option Job
run_of words =
    let after_limit = after Limit words in
    on (Run (limit_in (text_of Limit words)) (values_in word_value (text_of Data after_limit))) (dialect_of (after Data after_limit))

-- the samples are numbered from 1 to 2,000
abbrev pub is_sample : List ℕ → Bool
is_sample digits = are_digits_to 18 digits && nat_le 1 (number digits) && nat_le (number digits) 2000

abbrev pub sample_of : List (List ℕ) → Option Job
sample_of [] = None
sample_of (word ∷ []) = if is_sample word then Some (Sample (number word)) else None
sample_of (word ∷ more ∷ words) = None

-- The job that these words ask for: `sample` and its number, `regions`, `graph` or `regen` and the dialect, `run` and the settings of a run, `fire`, `trace`
-- or `store` and the settings of a game, or `forks`, `nodes` or not, and the settings of a game. Other words have no meaning.
abbrev pub job_of : List (List ℕ) → Option Job
job_of [] = None
job_of (word ∷ words) = if bytes_eq word (codes "regions") then on Regions (dialect_of words) else if bytes_eq word (codes "graph") then on Graph (dialect_of words) else if bytes_eq word (codes "regen") then on Regen (dialect_of words) else if bytes_eq word (codes "run") then run_of words else if bytes_eq word (codes "sample") then sample_of words else if bytes_eq word (codes "forks") then forks_of words else game_of_words (told_by word) words
