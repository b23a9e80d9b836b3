-- A text that is read statement by statement has these statements.
use Rattle.std.proofs.Common.{◌≡◌, ℕ, List, [], ◌∷◌, map, refl, Ok}
use Rattle.f77_tree.specs.declared.statements.Labelled.{Labelled}
use Rattle.fixed_form.specs.declared.raw_stmt.RawStmt.{RawStmt}
use Rattle.f77_parse.specs.Parsing.{reading_of}
use Rattle.f77_source.specs.Reading.{statements_of}
use Rattle.read_back.specs.PrintedStatements.{AreReadAs}
use Rattle.read_back.specs.SourceStatements.{HasStatements}
use Rattle.std.proofs.Common.{arith}

all_read : (raws : List RawStmt) (stmts : List Labelled) → map reading_of raws ≡ map Ok stmts → statements_of raws ≡ Ok stmts
all_read [] [] are = refl
all_read [] (s ∷ stmts) are = absurd cc
all_read (raw ∷ raws) [] are = absurd cc
all_read (raw ∷ raws) (s ∷ stmts) are = grind (arith, all_read raws stmts)

pub has_statements : (bytes : List ℕ) (stmts : List Labelled) → AreReadAs bytes stmts → HasStatements bytes stmts
has_statements bytes stmts are = record { raws = are.raws; lines = are.lines; statements = all_read are.raws stmts are.statements }
