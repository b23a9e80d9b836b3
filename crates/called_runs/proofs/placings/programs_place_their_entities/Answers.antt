use Rattle.std.proofs.Common.{◌≡◌, sym, subst}
use Rattle.std.specs.Prelude.{Ok}
use Rattle.f77_tree.specs.declared.programs.Program.{Program}
use Rattle.layout_rules.specs.Layout.{layout, names_of, program}
use Rattle.copied_values.proofs.SameTrees.{same-dims}
use Rattle.program_units.specs.Expansion.{whole_list}
use Rattle.program_units.specs.Units.{units}
use Rattle.called_runs.specs.PairedWords.{IsPlacing, listed_spot}
use Rattle.called_runs.proofs.PlacedProgram.{laid-program, placing}
use Rattle.called_runs.proofs.placings.programs_place_their_entities.Goals as goal

pub returns : goal.returns
returns c = λ stmts checked p is.
    let us = units stmts in
    let list = whole_list us in
    let q = program list checked in
    let same = laid-program list checked p is.laid in
    let subs = c.lists_declare.ensures.subs stmts checked is.text is.accepted in
    let laid = subst (λ (r : Program). layout list checked ≡ Ok r) (sym same) is.laid in
    subst (λ (r : Program). IsPlacing us r.names (listed_spot us r.names)) same
    (placing stmts checked is.accepted (same-dims (names_of list) q.names (c.places_decide_no_trees.ensures.programs list checked)) (c.programs_are_well_formed.ensures.well_formed list checked q is.source laid) (c.names_that_share_words_are_linked.ensures list checked q (record { source = is.source; laid = laid }))
    (c.own_names_are_new.ensures.kept us) (c.names_of_blocks_stand_once.ensures stmts checked is.text is.accepted) (c.entities_keep_their_declarations.ensures.apart stmts checked is.text is.accepted) (c.entities_keep_their_declarations.ensures.dims stmts checked is.text is.accepted)
    (c.lists_share_storage.ensures.commons us subs) (c.lists_share_storage.ensures.groups us subs) (c.lists_share_storage.ensures.added_commons us) (c.lists_share_storage.ensures.added_groups us))
