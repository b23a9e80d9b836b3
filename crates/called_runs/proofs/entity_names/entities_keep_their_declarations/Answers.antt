use Rattle.program_units.specs.Units.{units}
use Rattle.called_runs.proofs.BlocksOfTexts.{none-great}
use Rattle.called_runs.proofs.DeclaredAlike.{blocks-even}
use Rattle.called_runs.proofs.EntityNames.{dims-kept, kinds-kept, names-apart}
use Rattle.called_runs.proofs.entity_names.entities_keep_their_declarations.Goals as goal

pub returns-clause-apart : goal.returns-clause-apart
returns-clause-apart c = λ stmts checked text accepted e f one two same.
    let us = units stmts in
    names-apart us (c.own_names_are_new.ensures.kept us) (c.names_of_blocks_stand_once.ensures stmts checked text accepted) (blocks-even stmts checked accepted) (c.own_names_are_new.ensures.noted us)
    (c.short_names_are_new.ensures.apart us (c.names_of_texts_are_short.ensures stmts text) (none-great stmts checked accepted))
    (λ g listed x there. c.short_names_are_new.ensures.others us (c.names_of_texts_are_short.ensures stmts text) (none-great stmts checked accepted) g listed 0 x there) e f one two same

pub returns-clause-kinds : goal.returns-clause-kinds
returns-clause-kinds c = λ stmts checked text accepted e run.
    let us = units stmts in
    let subs = c.lists_declare.ensures.subs stmts checked text accepted in
    kinds-kept us (c.own_names_are_new.ensures.kept us) (c.names_of_blocks_stand_once.ensures stmts checked text accepted) (blocks-even stmts checked accepted) (c.own_names_are_new.ensures.noted us)
    (λ g listed x there. c.short_names_are_new.ensures.others us (c.names_of_texts_are_short.ensures stmts text) (none-great stmts checked accepted) g listed 0 x there)
    (c.names_keep_their_declarations.ensures.main_kinds us subs) (c.names_keep_their_declarations.ensures.own_kinds us subs (c.names_of_texts_are_short.ensures stmts text) (none-great stmts checked accepted)) e run

pub returns-clause-dims : goal.returns-clause-dims
returns-clause-dims c = λ stmts checked text accepted e run.
    let us = units stmts in
    let subs = c.lists_declare.ensures.subs stmts checked text accepted in
    dims-kept us (c.own_names_are_new.ensures.kept us) (c.names_of_blocks_stand_once.ensures stmts checked text accepted) (blocks-even stmts checked accepted) (c.own_names_are_new.ensures.noted us)
    (λ g listed x there. c.short_names_are_new.ensures.others us (c.names_of_texts_are_short.ensures stmts text) (none-great stmts checked accepted) g listed 0 x there)
    (c.names_keep_their_declarations.ensures.main_dims us subs) (c.names_keep_their_declarations.ensures.own_dims us subs (c.names_of_texts_are_short.ensures stmts text) (none-great stmts checked accepted)) e run
