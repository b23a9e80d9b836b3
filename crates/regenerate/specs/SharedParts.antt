-- The declarations and the statements of a shared form. No public clause cites this module.
use Rattle.std.specs.Prelude.{◌≡◌, false, List, []}
use Rattle.f77_tree.specs.declared.programs.Program.{Program}
use Rattle.flat_programs.specs.declared.statements.FlatLine.{FlatLine}
use Rattle.redundancy.specs.Available.{Availability}
use Rattle.regenerate.specs.declared.shared_form.SharedParts.{SharedParts}
use Rattle.shared_forms.specs.Numbered.{number_of}
use Rattle.shared_forms.specs.Shared.{has_many_names, shared_flat, with_temporaries}

-- the declarations of a program, without executables
abbrev pub declared_alone : Program → Program
declared_alone p = record p { execs = [] }

-- the parts of the shared form of a flat program with these statements, which has names and words for all temporaries
pub record HasParts (q : Program) (a : Availability) (flat : List FlatLine) (parts : SharedParts) : Type 0 where
  pub few : has_many_names q a (number_of a) ≡ false
  pub declared : parts.declared ≡ declared_alone (with_temporaries q a (number_of a))
  pub statements : parts.statements ≡ shared_flat q a (number_of a) flat
