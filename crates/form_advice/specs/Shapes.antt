-- Shapes that no statement has.
use Rattle.std.specs.Prelude.{ℕ, ◌+◌, ◌-◌, ◌%◌, ◌==◌, nat_lt, nat_eq, Bool, false, not, ◌&&◌, ◌||◌, if◌then◌else◌, List, [], ◌∷◌, codes, length, min, Option, Some, None}
use Rattle.std.specs.List.{count_by, ends_with, fold, list_any, slice_get, starts_with}
use Rattle.std.specs.Char.{is_ascii_digit, is_ascii_uppercase}
use Rattle.form_advice.specs.declared.shapes.TheConstants.{OPERATOR_PAIRS, EMPTY_PAIRS}
use Rattle.form_advice.specs.declared.shapes.Marks.{Marks}
use Rattle.form_advice.specs.declared.shapes.Run.{Run}
use Rattle.form_advice.specs.Said.{Said}

-- ---- what is wrong, and what to write instead

abbrev pub open_text : Said
open_text = record {
  wrong = codes "a text in quotes isn't closed";
  instead = codes "End it with a quote before column 73; a quote inside a text is written twice.";
}

abbrev pub empty_text : Said
empty_text = record {
  wrong = codes "a text in quotes has no characters";
  instead = codes "Write one blank or more: ' '.";
}

abbrev pub open_bracket : Said
open_bracket = record {
  wrong = codes "a bracket isn't closed";
  instead = codes "Close it before column 73, or go on in the next line with a character in column 6.";
}

abbrev pub stray_bracket : Said
stray_bracket = record {
  wrong = codes "there are more closing brackets than opening ones";
  instead = codes "Leave one out, or open it.";
}

abbrev pub unfinished : Said
unfinished = record {
  wrong = codes "the statement isn't finished";
  instead = codes "Add what is missing at its end, before column 73, or go on in the next line with a character in column 6.";
}

abbrev pub real_constant : Said
real_constant = record {
  wrong = codes "a number with a point is real, and real numbers aren't in the language";
  instead = codes "Use integers, scaled where there are fractions.";
}

abbrev pub two_operators : Said
two_operators = record {
  wrong = codes "two operators stand side by side";
  instead = codes "Put the second one and its operand into brackets: 2*(-3).";
}

abbrev pub empty_place : Said
empty_place = record {
  wrong = codes "an operand or an item is missing";
  instead = codes "Write one between the signs, or leave a sign out.";
}

abbrev pub equals : Said
equals = record {
  wrong = codes "a condition has an equals sign";
  instead = codes "Compare integers by .EQ. and logical values by .EQV.";
}

abbrev pub two_equals : Said
two_equals = record {
  wrong = codes "a statement has two equals signs";
  instead = codes "Write one statement a line, and assign to one name at a time; values are compared by .EQ.";
}

abbrev pub long_name : Said
long_name = record {
  wrong = codes "a name is longer than six characters";
  instead = codes "Make it shorter: a name has a letter and up to five letters and digits. Or use --wide.";
}

-- an apostrophe opens a constant, and the next one closes it
abbrev pub toggled : (inside : Bool) → ℕ → Bool
toggled inside c = if c == 39 then not inside else inside

-- the text with an apostrophe for each character between apostrophes
abbrev pub without_constants : (inside : Bool) → List ℕ → List ℕ
without_constants inside [] = []
without_constants inside (c ∷ rest) = (if toggled inside c then 39 else c) ∷ without_constants (toggled inside c) rest

abbrev pub begins : (text part : List ℕ) → Bool
begins text part = starts_with nat_eq text part

-- a text stands somewhere in another
abbrev pub has : (text part : List ℕ) → Bool
has [] part = false
has (c ∷ rest) part = begins (c ∷ rest) part || has rest part

abbrev pub count : List ℕ → ℕ → ℕ
count text sign = count_by (λ c. c == sign) text

abbrev pub has_empty_text : List ℕ → Bool
has_empty_text text = ends_with nat_eq text (codes ",''") || has text (codes ",'',")

-- a digit and a point that belongs to it come first
abbrev pub is_point : List ℕ → Bool
is_point (first ∷ point ∷ []) = point == 46 && is_ascii_digit first
is_point (first ∷ point ∷ next ∷ rest) = point == 46 && is_ascii_digit first && not (is_ascii_uppercase next)
is_point _ = false

abbrev pub has_point : (plain : List ℕ) → Bool
has_point [] = false
has_point (c ∷ rest) = is_point (c ∷ rest) || has_point rest

-- ---- equals signs and commas outside brackets

abbrev pub depth_after : ℕ → ℕ → ℕ
depth_after depth c = if c == 40 then min (depth + 1) 4294967295 else (if c == 41 then depth - 1 else depth)

abbrev pub after : Marks → ℕ → Marks
after marks c =
    record {
      depth = depth_after marks.depth c;
      has_equals = marks.has_equals || (c == 61 && marks.depth == 0);
      has_comma = marks.has_comma || (c == 44 && marks.depth == 0);
      has_inner_equals = marks.has_inner_equals || (c == 61 && nat_lt 0 marks.depth);
    }

abbrev pub marks_of : (plain : List ℕ) → Marks
marks_of plain = fold after (record { depth = 0; has_equals = false; has_comma = false; has_inner_equals = false }) plain

-- an equals sign stands outside brackets, and no comma does
abbrev pub is_assignment : (plain : List ℕ) → Bool
is_assignment plain = (marks_of plain).has_equals && not (marks_of plain).has_comma

-- an equals sign stands in the condition of an IF
abbrev pub compares_by_equals : (plain : List ℕ) → Bool
compares_by_equals plain = (begins plain (codes "IF(") || begins plain (codes "ELSEIF(")) && (marks_of plain).has_inner_equals

-- something has to follow the last sign
abbrev pub is_unfinished_at : Option ℕ → (plain : List ℕ) → Bool
is_unfinished_at None plain = false
is_unfinished_at (Some c) plain =
    (list_any (λ sign. sign == c) (codes "=+-*,(") && not (ends_with nat_eq plain (codes ")*"))) || (c == 47 && is_assignment plain)

abbrev pub is_unfinished : (plain : List ℕ) → Bool
is_unfinished plain = is_unfinished_at (slice_get plain (length plain - 1)) plain

-- ---- names

abbrev pub goes_on : Run → ℕ → Bool
goes_on run c = is_ascii_uppercase c || (nat_lt 0 run.length && is_ascii_digit c)

abbrev pub length_after : Run → ℕ → ℕ
length_after run c = if goes_on run c then min (run.length + 1) 4294967295 else 0

abbrev pub run_after : Run → ℕ → Run
run_after run c =
    record {
      length = length_after run c;
      counts = (if goes_on run c then run.counts else not (c == 41) && not (is_ascii_digit c));
      is_long = run.is_long || (nat_lt 6 (length_after run c) && run.counts);
    }

-- the first name of the text has no word of a statement before it
abbrev pub begins_with_name : (plain : List ℕ) → Bool
begins_with_name plain = is_assignment plain && not (begins plain (codes "INTEGER")) && not (begins plain (codes "LOGICAL"))

-- a name has more than six characters, where no word of a statement can stand before it
abbrev pub has_long_name : (plain : List ℕ) → Bool
has_long_name plain = (fold run_after (record { length = 0; counts = begins_with_name plain; is_long = false }) plain).is_long

-- ---- what is told

abbrev pub advice_on_operands : (plain : List ℕ) → Option Said
advice_on_operands plain =
    if has_point plain then Some real_constant
    else (if list_any (λ pair. has plain pair.now) OPERATOR_PAIRS then Some two_operators
    else (if compares_by_equals plain then Some equals
    else (if is_assignment plain && nat_lt 1 (count plain 61) then Some two_equals
    else (if has_long_name plain then Some long_name
    else (if not (begins plain (codes "WRITE")) && not (begins plain (codes "READ")) && list_any (λ pair. has plain pair.now) EMPTY_PAIRS then Some empty_place
    else None)))))

abbrev pub advice_on_shape : (text plain : List ℕ) → Option Said
advice_on_shape text plain =
    if count text 39 % 2 == 1 then Some open_text
    else (if has_empty_text text then Some empty_text
    else (if nat_lt (count plain 41) (count plain 40) then Some open_bracket
    else (if nat_lt (count plain 40) (count plain 41) then Some stray_bracket
    else (if is_unfinished plain then Some unfinished
    else advice_on_operands plain))))
