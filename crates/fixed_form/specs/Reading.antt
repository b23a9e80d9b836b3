-- What a source text is: its statements, or its refusal.
use Rattle.std.specs.Prelude.{ℕ, ◌+◌, if◌then◌else◌, List, [], length, Option, Some, None, Result, Ok, Err}
use Rattle.std.specs.List.{filter}
use Rattle.fixed_form.specs.declared.form_end.FormEnd.{FormEnd}
use Rattle.fixed_form.specs.declared.form_end.FormEnd.TheVariants.{NoEnd}
use Rattle.fixed_form.specs.declared.raw_stmt.RawStmt.{RawStmt}
use Rattle.fixed_form.specs.SourceLine.{source_lines, is_statement_line}
use Rattle.fixed_form.specs.Statement.{statements_of, ends_with_end}
use Rattle.fixed_form.specs.Fault.{first_fault}

-- The first fault, or the statements, of which the last has to be END. The refusal of that stands on the line after the last of n.
abbrev pub outcome : Option FormEnd → List RawStmt → ℕ → Result (List RawStmt) FormEnd
outcome (Some fault) statements n = Err fault
outcome None statements n = if ends_with_end statements then Ok statements else Err (NoEnd (n + 1))

-- the statements of a text, or its refusal
abbrev pub reading : List ℕ → Result (List RawStmt) FormEnd
reading bytes =
    let source = source_lines bytes in
    outcome (first_fault [] source) (statements_of (filter is_statement_line source)) (length source)
