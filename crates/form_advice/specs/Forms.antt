-- What is told of a statement that has no form of the language, by tables.
use Rattle.std.specs.Prelude.{ℕ, false, if◌then◌else◌, List, Option, None, option_map, codes}
use Rattle.std.specs.List.{find}
use Rattle.std.specs.Option.{option_or, unwrap_or}
use Rattle.form_advice.specs.declared.forms.Row.{Row}
use Rattle.form_advice.specs.declared.forms.Tables.{Tables}
use Rattle.form_advice.specs.Said.{Said}
use Rattle.form_advice.specs.Shapes.{advice_on_shape, begins, has, is_assignment, without_constants}

abbrev pub said_by : Row → Said
said_by row = record { wrong = row.1.now; instead = row.2.now }

-- what the first row tells that the text begins with
abbrev pub begun_like : List Row → (text : List ℕ) → Option Said
begun_like rows text = option_map said_by (find (λ row. begins text row.0.now) rows)

-- what the first row tells that the text has somewhere
abbrev pub with_sign : List Row → (text : List ℕ) → Option Said
with_sign rows text = option_map said_by (find (λ row. has text row.0.now) rows)

abbrev pub unknown : Said
unknown = record {
  wrong = codes "no statement of the language has this form";
  instead = codes "Compare it with the statements of docs/LANGUAGE.md: names have at most six letters and digits, and arrays are assigned element by element.";
}

-- Of statements that the language lacks, then of signs, then of the shape, then of the statement of the language that it begins
-- like. One that assigns is none that the language lacks.
abbrev pub advice_on_plain : Tables → (text plain : List ℕ) → Said
advice_on_plain tables text plain =
    unwrap_or
    (option_or (if is_assignment plain then None else begun_like tables.lacking.now plain)
    (option_or (begun_like tables.files.now plain)
    (option_or (with_sign tables.signs.now plain)
    (option_or (advice_on_shape text plain)
    (begun_like tables.known.now plain)))))
    unknown

-- of a text with its character constants, by tables of statements and signs
abbrev pub advice_on_form : Tables → (text : List ℕ) → Said
advice_on_form tables text = advice_on_plain tables text (without_constants false text)
