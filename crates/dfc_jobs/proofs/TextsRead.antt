-- The programs of texts that were read.
use Rattle.std.proofs.Common.{◌≡◌, ℕ, Bool, List, Option, Some, None, sym, subst}
use Rattle.std.specs.Prelude.{IfSome}
use Rattle.f77_tree.specs.declared.programs.Program.{Program}
use Rattle.f77_tree.specs.Dialects.{IsOfDialect}
use Rattle.f77_tree.specs.WellFormed.{IsWellFormed}
use Rattle.f77_source.specs.Reading.{IsProgramOf}
use Rattle.job_terms.specs.declared.reading.Code.{Code}
use Rattle.job_terms.specs.Reading.{Reading, Accepted, IfAccepted, IsOf, IsOwnProgram, Refused, reading}

-- a text that is accepted
pub own_program : (left : Option (List ℕ)) (checked : Bool) (p : Program) → IfSome left (λ bytes. reading checked bytes ≡ Accepted p) → IfSome left (λ bytes. IsProgramOf bytes checked p) → IsWellFormed p → IsOfDialect checked p → IfSome left (λ bytes. IsOwnProgram bytes checked)
own_program None checked p read is well dialect = tt
own_program (Some bytes) checked p read is well dialect = subst (λ (r : Reading). IfAccepted r (IsOf bytes checked)) (sym read) (record { statements = is; well_formed = well; dialect = dialect })

-- one that is refused has none
pub no_program : (left : Option (List ℕ)) (checked : Bool) (line : ℕ) (code : Code) → IfSome left (λ bytes. reading checked bytes ≡ Refused line code) → IfSome left (λ bytes. IsOwnProgram bytes checked)
no_program None checked line code read = tt
no_program (Some bytes) checked line code read = subst (λ (r : Reading). IfAccepted r (IsOf bytes checked)) (sym read) tt
