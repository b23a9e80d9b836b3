use Rattle.f77_tree.specs.declared.programs.Program.{Program}
use Rattle.f77_tree.specs.WellFormed.{IsWellFormed}
use Rattle.net_board.proofs.TouchKinds.{touch_some}
use Rattle.op_board.proofs.ListEnds.{RunsExecutables}
use Rattle.op_board.proofs.PieceFacts.{needed_by, needed_touched, waits_for}
use Rattle.op_board.proofs.structure_laws.pieces_touch_needed_lines.Goals as goal

pub returns-clause-touched : goal.returns-clause-touched
returns-clause-touched c = λ x piece i line is exists inside needs.
    let n = is.is_net in
    needed_touched x is (λ exec class can need. c.needs_are_numbered.ensures x.net.program n.classes exec class n.program n.own_classes can need) piece i line exists inside needs

pub returns-clause-needed : goal.returns-clause-needed
returns-clause-needed c = λ x piece line is exists acts touched.
    let n = is.is_net in
    needed_by x is (λ exec class can need. c.needs_are_numbered.ensures x.net.program n.classes exec class n.program n.own_classes can need) (runs x.net.program n.program) piece line exists acts touched
  where
    runs : (p : Program) → IsWellFormed p → RunsExecutables p
    runs p well = record {
      acts = λ piece exists is. c.pieces_run_executables.ensures.acts p.names p.execs p.loops piece well.execs exists is;
      branches = λ piece exists is. c.pieces_run_executables.ensures.branches p.names p.execs p.loops piece well.execs exists is;
    }

pub returns-clause-waits : goal.returns-clause-waits
returns-clause-waits c = λ x piece i is exists inside.
    let n = is.is_net in
    let p = x.net.program in
    let t = x.net.touches in
    waits_for x is (λ exec class can need. c.needs_are_numbered.ensures p n.classes exec class n.program n.own_classes can need)
    (λ node there acts. touch_some x.net n node
    (c.pieces_touch_lines.ensures.acts p n.classes n.tree t node n.program n.own_classes n.sound_touches there)
    (c.pieces_touch_lines.ensures.branches p n.classes n.tree t node n.program n.own_classes n.sound_touches there)
    (c.pieces_touch_lines.ensures.holds p n.classes n.tree t node n.program n.own_classes n.sound_touches there)
    acts)
    piece i exists inside
