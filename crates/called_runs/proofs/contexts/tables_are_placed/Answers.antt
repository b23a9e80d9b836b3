use Rattle.f77_tree.proofs.WellFormedLaws.{well_formed-placed}
use Rattle.program_units.specs.Expansion.{whole_list}
use Rattle.program_units.specs.Layouts.{own_program}
use Rattle.program_units.specs.Units.{unit_at, units}
use Rattle.called_runs.specs.PairedWords.{listed_spot}
use Rattle.called_runs.proofs.contexts.tables_are_placed.Goals as goal

pub returns-clause-paired : goal.returns-clause-paired
returns-clause-paired c = λ stmts checked p is spot words opening storage.
    let us = units stmts in
    c.placings_pair_words.ensures.words us p.names spot (listed_spot us p.names) (c.placings_pair_words.ensures.storages us checked spot words opening storage p.names) (c.programs_place_their_entities.ensures stmts checked p is)

pub returns-clause-frames : goal.returns-clause-frames
returns-clause-frames c = λ stmts checked text accepted spot words opening storage context at reached.
    let us = units stmts in
    c.frames_are_placed.ensures.placed us checked spot words opening storage context.unit context.arguments (own_program (unit_at us context.unit) checked).names (c.tables_have_entities.ensures stmts checked text accepted context at reached)

pub returns-clause-program : goal.returns-clause-program
returns-clause-program c = λ stmts checked p is. well_formed-placed p (c.programs_are_well_formed.ensures.well_formed (whole_list (units stmts)) checked p is.source is.laid)
