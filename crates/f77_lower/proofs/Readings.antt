-- What a reading says of a text.
use Rattle.std.proofs.Common.{◌≡◌, ℕ, false, List, Ok, Err, sym, subst, arith}
use Rattle.f77_tree.specs.declared.programs.Program.{Program}
use Rattle.f77_source.specs.declared.source_end.Refusal.{Refusal}
use Rattle.f77_source.specs.Reading.{reading}
use Rattle.f77_lower.specs.Lowering.{IsProgram}

pub program_of : (text : List ℕ) (program : Program) → reading text false ≡ Ok program → IsProgram text
program_of text program is = (program, is)

pub same_program : (source text : List ℕ) → IsProgram source → text ≡ source → IsProgram text
same_program source text found same = subst IsProgram (sym same) found

pub no_program : (text : List ℕ) (refusal : Refusal) → reading text false ≡ Err refusal → IsProgram text → ⊥
no_program text refusal is found = grind (arith, is, found.1)
