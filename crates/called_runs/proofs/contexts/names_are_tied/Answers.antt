use Rattle.std.proofs.Common.{ℕ, List, Contains, sym, subst, ◌∙◌}
use Rattle.list_laws.proofs.Members.{Member-from_Contains}
use Rattle.list_laws.specs.Member.{Member}
use Rattle.f77_tree.specs.declared.programs.Program.{Program}
use Rattle.layout_rules.specs.Appearances.{appearing}
use Rattle.layout_rules.specs.Declarations.{is_array}
use Rattle.layout_rules.specs.Layout.{names_of, program}
use Rattle.copied_values.specs.SideBySide.{AreTied}
use Rattle.program_units.specs.Copies.{changes}
use Rattle.program_units.specs.Expansion.{whole_list}
use Rattle.program_units.specs.Layouts.{own_program}
use Rattle.program_units.specs.Storage.{placed}
use Rattle.program_units.specs.Units.{stand_in, standing_in, unit_at, units}
use Rattle.called_runs.specs.PairedWords.{IsPaired, listed_spot}
use Rattle.called_runs.proofs.KindsOfPlaces.{well-kinded-same}
use Rattle.called_runs.proofs.PlainNames.{plain-appearing, plain-kinds}
use Rattle.called_runs.proofs.PlacedProgram.{laid-program}
use Rattle.called_runs.proofs.TiedNames.{known-as, placed-alike}
use Rattle.called_runs.proofs.UnitKinds.{copied-name, unit-inner, unit-kinds, unit-there}
use Rattle.called_runs.proofs.contexts.names_are_tied.Goals as goal

pub returns-clause-tied : goal.returns-clause-tied
returns-clause-tied c = λ stmts checked p is spot context at reached place s there does.
    let us = units stmts in
    let k = context.unit in
    let u = unit_at us k in
    let list = whole_list us in
    let q = program list checked in
    let own = own_program u checked in
    let frame = placed us spot k context.arguments own.names in
    let xs = appearing (is_array u) s.stmt in
    let subs = c.lists_declare.ensures.subs stmts checked is.text is.accepted in
    let declared = c.copied_names_are_declared_alike.ensures stmts checked is.accepted context at reached in
    let stands = c.stand_ins_are_declared_alike.ensures u in
    let run = c.contexts_are_of_the_run.ensures.entities stmts checked is.text is.accepted context at reached in
    let kinds = c.entities_keep_their_declarations.ensures.kinds stmts checked is.text is.accepted in
    let dims = c.entities_keep_their_declarations.ensures.dims stmts checked is.text is.accepted in
    let named = copied-name us (c.own_names_are_new.ensures.kept us) subs context at reached in
    let has = (c.units_keep_their_control.ensures.placed stmts checked is.text is.accepted context at reached).stands.pieces place s there in
    let inner = unit-inner stmts checked is.accepted k place s there (c.units_are_sources.ensures stmts is.text k u (unit-there us k place s there)) in
    let kinded = unit-kinds stmts checked is.accepted k place s there in
    let here : (x : List ℕ) → Contains xs x → Member (appearing (is_array u) (stand_in s.stmt)) x = λ x among. subst (λ (ns : List (List ℕ)). Member ns x) (sym (plain-appearing (is_array u) s.stmt)) (Member-from_Contains xs x among) in
    let others_is = c.places_decide_no_trees.ensures.programs list checked in
    subst (λ (r : Program). AreTied (IsPaired us r.names spot (listed_spot us r.names)) frame r.names (changes us context) xs) (laid-program list checked p is.laid)
    (record {
      known = λ x among. known-as us context frame q.names (c.places_decide_no_trees.ensures.frames us spot k context.arguments (standing_in u) checked) others_is stands declared run kinds dims named at place s there has does inner kinded x (here x among);
      paired = c.frames_are_placed.ensures.paired us spot (listed_spot us q.names) k context.arguments own.names q.names (changes us context) xs
          (λ x among. placed-alike us context own.names q.names (c.places_decide_no_trees.ensures.programs (standing_in u) checked) others_is stands declared run kinds dims named at place s there has does inner kinded x (here x among));
    })

pub returns-clause-kinded : goal.returns-clause-kinded
returns-clause-kinded c = λ stmts checked accepted spot k arguments place s there.
    let us = units stmts in
    let u = unit_at us k in
    let names = names_of (standing_in u) in
    well-kinded-same names (placed us spot k arguments (own_program u checked).names) (c.places_decide_no_trees.ensures.frames us spot k arguments (standing_in u) checked) s.stmt
    ∙ sym (plain-kinds names s.stmt) ∙ unit-kinds stmts checked accepted k place s there
