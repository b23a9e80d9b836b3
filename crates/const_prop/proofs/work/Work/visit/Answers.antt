use Rattle.std.proofs.Common.{arith, rules}
use Rattle.dep_routing.specs.Touch.{touches_in}
use Rattle.const_prop.proofs.Settled.{visited-settling, visited-less}
use Rattle.const_prop.proofs.work.Work.visit.Goals as goal

pub pass-requires : goal.pass-requires
pass-requires g c =
    let settling = visited-settling c.args.s.now.program.now c.args.s.now.flow.now c.args.s.now.classes.now (touches_in c.args.s.now.touch.now) c.args.s.now.lines.now c.args.self.now c.args.edge c.take-fresh.new.self c.remove.new.self c.take-fresh.result c.requires.edge c.take-fresh.ensures.keys c.remove.ensures.room c.remove.ensures.holds c.take-fresh.ensures.taken c.take-fresh.ensures.holds c.requires.settling in
    search (rules, settling)

pub returns-clause-less : goal.returns-clause-less
returns-clause-less g c =
    let less = visited-less c.args.s.now.program.now c.args.s.now.flow.now c.args.s.now.classes.now (touches_in c.args.s.now.touch.now) c.args.s.now.lines.now c.args.self.now c.args.edge c.take-fresh.new.self c.remove.new.self c.take-fresh.result c.requires.edge c.take-fresh.ensures.keys c.remove.ensures.room c.remove.ensures.holds c.take-fresh.ensures.taken c.take-fresh.ensures.holds c.requires.waits in
    omega (arith, less, c.pass.ensures.bounded, c.enter.ensures.bounded)
