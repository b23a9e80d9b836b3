-- What stands in columns 1 to 72 of a line. Those 72 characters are the line's card.
use Rattle.std.specs.Prelude.{ℕ, ◌+◌, ◌-◌, ◌*◌, Bool, not, ◌||◌, ◌&&◌, ◌==◌, if◌then◌else◌, List, ◌++◌, take, drop, replicate, slice_index}
use Rattle.std.specs.Char.{is_ascii_digit}
use Rattle.std.specs.Int.{is_in_range}
use Rattle.std.specs.List.{list_all, list_any, filter, fold}
use Rattle.fixed_form.specs.declared.line.LineKind.{LineKind}
use Rattle.fixed_form.specs.declared.line.LineKind.TheVariants.{Comment, Initial, Continuation}

-- columns 1 to 72, a short line being filled with blanks
unfoldable pub card : List ℕ → List ℕ
card line = take 72 (line ++ replicate 72 32)

-- the character in a column, counted from 1
abbrev pub column : ℕ → List ℕ → ℕ
column n card = slice_index card (n - 1)

-- nothing but blanks
abbrev pub is_blank : List ℕ → Bool
is_blank characters = list_all (λ c. c == 32) characters

-- `C`, `c` or `*`
abbrev pub marks_comment : ℕ → Bool
marks_comment c = c == 67 || c == 99 || c == 42

-- a comment has a mark in column 1, or is blank
abbrev pub is_comment : List ℕ → Bool
is_comment card = marks_comment (column 1 card) || is_blank card

-- an initial line has a blank or `0` in column 6, and a continuation line any other character
abbrev pub kind : List ℕ → LineKind
kind card = if is_comment card then Comment else (if column 6 card == 32 || column 6 card == 48 then Initial else Continuation)

-- a character of the source, from the blank to the tilde
abbrev pub is_character : ℕ → Bool
is_character c = is_in_range 32 126 c

abbrev pub is_label_character : ℕ → Bool
is_label_character c = c == 32 || is_ascii_digit c

-- columns 1 to 5
abbrev pub label_field : List ℕ → List ℕ
label_field card = take 5 card

-- columns 7 to 72
abbrev pub statement_field : List ℕ → List ℕ
statement_field card = drop 6 card

-- the number that digits write
abbrev pub number : List ℕ → ℕ
number digits = fold (λ n d. 10 * n + (d - 48)) 0 digits

-- the label in columns 1 to 5: the number that their digits write, or 0 where there are none
abbrev pub label : List ℕ → ℕ
label card = number (filter is_ascii_digit (label_field card))

-- another character than digits and blanks, or digits that are all 0
abbrev pub is_bad_label_field : List ℕ → Bool
is_bad_label_field field = not (list_all is_label_character field) || (list_any is_ascii_digit field && number (filter is_ascii_digit field) == 0)

abbrev pub has_bad_label : List ℕ → Bool
has_bad_label card = is_bad_label_field (label_field card)

-- a byte that is no character
abbrev pub has_bad_byte : List ℕ → Bool
has_bad_byte card = not (list_all is_character card)
