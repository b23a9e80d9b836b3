use Rattle.std.proofs.Common.{inr}
use Rattle.dep_routing.specs.Touch.{touches_in}
use Rattle.const_prop.specs.Closed.{IsReady}
use Rattle.const_prop.specs.Work.{so_far, no_line}
use Rattle.const_prop.proofs.Sending.{false_true}
use Rattle.const_prop.proofs.Settling.{piece-closed}
use Rattle.const_prop.proofs.Uses.{setting-covered}
use Rattle.const_prop.proofs.work.Work.enter.Goals as goal

pub returns-then-not-is_ready-clause-settling : goal.returns-then-not-is_ready-clause-settling
returns-then-not-is_ready-clause-settling g c =
    let not_ready : IsReady c.args.s.now.flow.now (touches_in c.args.s.now.touch.now) c.args.s.now.lines.now.lines (so_far c.args.self.now) c.args.edge → ⊥ =
    λ ready. false_true c.is_ready.result (c.is_ready.ensures.1 ready) c.if-not-is_ready.true in
    piece-closed c.args.s.now.program.now c.args.s.now.flow.now c.args.s.now.classes.now (touches_in c.args.s.now.touch.now) c.args.s.now.lines.now (setting-covered c.args.s.now.program.now c.args.s.now.flow.now c.args.s.now.classes.now c.args.s.now.touch.now c.args.s.now.lines.now c.requires.setting.program c.requires.setting.lines) c.requires.setting.program.shape.two_edges c.requires.setting.lines.next c.args.self.now c.args.edge no_line c.requires.settling
    (inr (record { decision = λ ready s. absurd (not_ready ready); left = λ line i ready way l t m. absurd (not_ready ready) }))
