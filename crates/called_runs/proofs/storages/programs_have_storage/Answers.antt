use Rattle.std.proofs.Common.{◌≡◌, sym, subst}
use Rattle.std.specs.Prelude.{Ok}
use Rattle.f77_tree.specs.declared.programs.Program.{Program}
use Rattle.layout_rules.specs.Layout.{layout, names_of, program}
use Rattle.copied_values.proofs.SameTrees.{same-dims}
use Rattle.program_units.specs.Expansion.{whole_list}
use Rattle.program_units.specs.Units.{units}
use Rattle.called_runs.specs.PairedWords.{IsPlacing, listed_spot}
use Rattle.called_runs.proofs.OpeningLaw.{has-storage}
use Rattle.called_runs.proofs.PlacedProgram.{ends-known, laid-program}
use Rattle.called_runs.proofs.SpareNumbers.{have-numbers}
use Rattle.called_runs.proofs.storages.programs_have_storage.Goals as goal

pub returns : goal.returns
returns c = λ stmts checked p is.
    let us = units stmts in
    let list = whole_list us in
    let q = program list checked in
    let same = laid-program list checked p is.laid in
    let subs = c.lists_declare.ensures.subs stmts checked is.text is.accepted in
    let laid = subst (λ (r : Program). layout list checked ≡ Ok r) (sym same) is.laid in
    let formed = c.programs_are_well_formed.ensures.well_formed list checked q is.source laid in
    let placing = subst (λ (r : Program). IsPlacing us r.names (listed_spot us r.names)) (sym same) (c.programs_place_their_entities.ensures stmts checked p is) in
    let kept = c.own_names_are_new.ensures.kept us in
    let apart = c.entities_keep_their_declarations.ensures.apart stmts checked is.text is.accepted in
    let dims = c.entities_keep_their_declarations.ensures.dims stmts checked is.text is.accepted in
    let once = c.names_of_blocks_stand_once.ensures stmts checked is.text is.accepted in
    let numbers = have-numbers stmts checked is.text is.accepted kept once (c.own_names_are_new.ensures.noted us) in
    let ends = ends-known stmts checked is.accepted (same-dims (names_of list) q.names (c.places_decide_no_trees.ensures.programs list checked)) formed (c.names_that_share_words_are_linked.ensures list checked q (record { source = is.source; laid = laid })) kept once apart dims
    (c.lists_share_storage.ensures.commons us subs) (c.lists_share_storage.ensures.groups us subs) (c.lists_share_storage.ensures.added_commons us) (c.lists_share_storage.ensures.added_groups us) in
    has-storage stmts checked is.text is.accepted c.programs_are_well_formed.ensures.well_formed c.units_are_sources.ensures formed c.places_decide_no_trees.ensures.programs c.stand_ins_are_declared_alike.ensures dims kept (c.lists_share_storage.ensures.inits us subs) (c.lists_share_storage.ensures.added_inits us) placing ends apart numbers
