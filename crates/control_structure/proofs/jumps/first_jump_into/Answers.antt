use Rattle.std.proofs.Common.{◌≡◌, ℕ, true, false, length, take, refl, sym, ap, ◌∙◌, arith}
use Rattle.std.specs.List.{list_any}
use Rattle.std.proofs.lemmas.List.{length-take-le}
use Rattle.std.proofs.lemmas.Option.{slice_get_read}
use Rattle.f77_tree.specs.declared.statements.Labelled.{Labelled}
use Rattle.layout_rules.specs.Jumps.{jumps_into, leads_into}
use Rattle.layout_rules.specs.Labels.{jumps, statement_of}
use Rattle.layout_rules.proofs.FirstLine.{first_after-here, first_after-next}
use Rattle.control_structure.proofs.Usable.{jumps_borne}
use Rattle.control_structure.proofs.jumps.first_jump_into.Goals as goal

pub enters_from-requires-clause-targets : goal.enters_from-requires-clause-targets
enters_from-requires-clause-targets c =
    let s = c.index-stmts-i.result in
    let here = slice_get_read c.args.stmts.now (length c.args.stmts.now) c.loop-i.i s refl c.loop-i-test.true c.index-stmts-i.is in
    jumps_borne c.args.stmts.now c.requires.source c.requires.borne c.loop-i.i s here

pub returns-then-enters_from : goal.returns-then-enters_from
returns-then-enters_from c =
    let s = c.index-stmts-i.result in
    let place = length-take-le {A = Labelled} c.loop-i.i c.args.stmts.now (omega (arith, c.loop-i-test.true)) in
    let fault : jumps_into c.args.stmts.now (take c.loop-i.i c.args.stmts.now) s ≡ true =
    ap (λ (n : ℕ). list_any (λ label. leads_into c.args.stmts.now n (statement_of c.args.stmts.now label)) (jumps s.stmt)) place ∙ (sym c.enters_from.ensures ∙ c.if-enters_from.true) in
    sym (c.loop-i.invariant ∙ first_after-here (jumps_into c.args.stmts.now) c.args.stmts.now c.loop-i.i s c.loop-i-test.true c.index-stmts-i.is fault)

pub loop-i-preserved : goal.loop-i-preserved
loop-i-preserved c =
    let s = c.index-stmts-i.result in
    let place = length-take-le {A = Labelled} c.loop-i.i c.args.stmts.now (omega (arith, c.loop-i-test.true)) in
    let none : jumps_into c.args.stmts.now (take c.loop-i.i c.args.stmts.now) s ≡ false =
    ap (λ (n : ℕ). list_any (λ label. leads_into c.args.stmts.now n (statement_of c.args.stmts.now label)) (jumps s.stmt)) place ∙ (sym c.enters_from.ensures ∙ c.if-enters_from.false) in
    c.loop-i.invariant ∙ first_after-next (jumps_into c.args.stmts.now) c.args.stmts.now c.loop-i.i s c.loop-i-test.true c.index-stmts-i.is none
