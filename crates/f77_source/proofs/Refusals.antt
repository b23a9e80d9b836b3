-- What is told of the refusals of the crates below.
use Rattle.std.proofs.Common.{◌≡◌, ◌≢◌, Result, Err}
use Rattle.f77_parse.specs.declared.stmt_end.StmtEnd.{StmtEnd}
use Rattle.f77_parse.specs.declared.stmt_end.StmtEnd.TheVariants as stmt
use Rattle.f77_source.specs.declared.source_end.Refusal.{Refusal}
use Rattle.f77_source.specs.Answers.{IsReadAs, told_stmt}
use Rattle.f77_source.specs.Reading.{stmt_refusal}

pub stmt_told : {A : Type 0} (read : Result A Refusal) (end : StmtEnd) → (end ≢ stmt.NoMemory → read ≡ Err (stmt_refusal end)) → IsReadAs read (Err (told_stmt end))
stmt_told read (stmt.NoForm line) h = h (λ e. cc)
stmt_told read (stmt.BadConstant line) h = h (λ e. cc)
stmt_told read (stmt.TooDeep line) h = h (λ e. cc)
stmt_told read stmt.NoMemory h = tt
