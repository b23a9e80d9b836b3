-- The statements of a text that is refused, as far as they can be read.
use Rattle.std.specs.Prelude.{List, [], ◌∷◌, Result, Ok, Err}
use Rattle.fixed_form.specs.declared.form_end.FormEnd.{FormEnd}
use Rattle.fixed_form.specs.declared.raw_stmt.RawStmt.{RawStmt}
use Rattle.f77_parse.specs.declared.stmt_end.StmtEnd.{StmtEnd}
use Rattle.f77_parse.specs.Parsing.{reading_of}
use Rattle.f77_tree.specs.declared.statements.Labelled.{Labelled}

-- as they stand there; none where a line is refused
abbrev pub raws_of : Result (List RawStmt) FormEnd → List RawStmt
raws_of (Ok raws) = raws
raws_of (Err end) = []

abbrev pub before : Result Labelled StmtEnd → List Labelled → List Labelled
before (Ok s) more = s ∷ more
before (Err end) more = []

-- as they are read, up to the first that is refused
abbrev pub parsed : List RawStmt → List Labelled
parsed [] = []
parsed (raw ∷ more) = before (reading_of raw) (parsed more)
