use Rattle.dep_routing.specs.Touch.{touches_in}
use Rattle.const_prop.proofs.Deciding.{woken-settling, woken-left}
use Rattle.const_prop.proofs.work.Work.again.Goals as goal

pub returns-clause-settling : goal.returns-clause-settling
returns-clause-settling g c =
    let s = c.args.s.now in
    woken-settling s.program.now s.flow.now s.classes.now (touches_in s.touch.now) s.lines.now c.args.self.now c.args.edge c.add.new.self c.insert.new.self c.wires.result.now c.add.ensures.keys c.insert.ensures.room c.insert.ensures.holds c.wires.ensures.wires c.add.ensures.holds c.requires.settling

pub returns-clause-bounded : goal.returns-clause-bounded
returns-clause-bounded g c =
    let s = c.args.s.now in
    woken-left s.program.now s.flow.now s.classes.now (touches_in s.touch.now) s.lines.now c.args.self.now c.args.edge c.add.new.self c.insert.new.self c.wires.result.now c.add.ensures.keys c.insert.ensures.room c.insert.ensures.holds c.wires.ensures.wires c.add.ensures.holds
