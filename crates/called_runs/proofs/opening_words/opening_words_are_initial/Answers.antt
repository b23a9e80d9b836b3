use Rattle.std.proofs.Common.{◌≡◌, ℕ, ◌<◌, length, sym, subst}
use Rattle.std.specs.Prelude.{Ok}
use Rattle.std.specs.List.{slice_get}
use Rattle.f77_tree.specs.declared.programs.Program.{Program}
use Rattle.layout_rules.specs.Layout.{layout, program}
use Rattle.program_units.specs.Expansion.{whole_list}
use Rattle.program_units.specs.Units.{units}
use Rattle.called_runs.specs.PairedWords.{IsPaired, IsPlacing, listed_spot}
use Rattle.called_runs.proofs.OpeningLaw.{room, words-alike}
use Rattle.called_runs.proofs.PlacedProgram.{laid-program}
use Rattle.called_runs.proofs.opening_words.opening_words_are_initial.Goals as goal

pub returns-clause-words : goal.returns-clause-words
returns-clause-words c = λ stmts checked p is spot words opening storage.
    let us = units stmts in
    let list = whole_list us in
    let q = program list checked in
    let same = laid-program list checked p is.laid in
    let subs = c.lists_declare.ensures.subs stmts checked is.text is.accepted in
    let laid = subst (λ (r : Program). layout list checked ≡ Ok r) (sym same) is.laid in
    let formed = c.programs_are_well_formed.ensures.well_formed list checked q is.source laid in
    let placing = subst (λ (r : Program). IsPlacing us r.names (listed_spot us r.names)) (sym same) (c.programs_place_their_entities.ensures stmts checked p is) in
    let pairing = c.placings_pair_words.ensures.words us q.names spot (listed_spot us q.names) (c.placings_pair_words.ensures.storages us checked spot words opening storage q.names) placing in
    subst (λ (r : Program). (v w : ℕ) → IsPaired us r.names spot (listed_spot us r.names) v w → slice_get opening v ≡ slice_get r.initial w) same
    (words-alike stmts checked is.text is.accepted c.programs_are_well_formed.ensures.well_formed c.units_are_sources.ensures formed c.places_decide_no_trees.ensures.programs c.stand_ins_are_declared_alike.ensures (c.entities_keep_their_declarations.ensures.dims stmts checked is.text is.accepted)
    (c.own_names_are_new.ensures.kept us) (c.lists_share_storage.ensures.inits us subs) (c.lists_share_storage.ensures.added_inits us) spot words opening storage pairing)

pub returns-clause-room : goal.returns-clause-room
returns-clause-room c = λ stmts checked p is spot words opening storage.
    let us = units stmts in
    let list = whole_list us in
    let q = program list checked in
    let same = laid-program list checked p is.laid in
    let subs = c.lists_declare.ensures.subs stmts checked is.text is.accepted in
    let laid = subst (λ (r : Program). layout list checked ≡ Ok r) (sym same) is.laid in
    let formed = c.programs_are_well_formed.ensures.well_formed list checked q is.source laid in
    subst (λ (r : Program). (v w : ℕ) → IsPaired us r.names spot (listed_spot us r.names) v w → (v < length opening) × (w < length r.initial)) same
    (room stmts checked is.text is.accepted c.programs_are_well_formed.ensures.well_formed c.units_are_sources.ensures formed c.places_decide_no_trees.ensures.programs c.stand_ins_are_declared_alike.ensures (c.entities_keep_their_declarations.ensures.dims stmts checked is.text is.accepted)
    (c.own_names_are_new.ensures.kept us) (c.lists_share_storage.ensures.inits us subs) (c.lists_share_storage.ensures.added_inits us) spot words opening storage)
