use Rattle.shared_laws.proofs.SharedIsFlat.{shared-program}
use Rattle.shared_laws.proofs.SharedTable.{KeepScalars}
use Rattle.shared_laws.proofs.shared_laws.shared_programs_are_flat.Goals as goal

pub returns : goal.returns
returns g = λ q c a s flat available shared.
    let added = g.scalars_can_be_added.ensures in
    let keep : KeepScalars = record { declarations = added.declarations; places = added.places; initial = added.initial; executables = added.executables } in
    shared-program q c a keep g.executables_tell_statements.ensures.proper g.flat_statements_make_programs.ensures.program flat.well_formed available s shared
