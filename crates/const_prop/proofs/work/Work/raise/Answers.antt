use Rattle.std.proofs.Common.{◌==◌, refl}
use Rattle.dep_routing.specs.Touch.{touches_in}
use Rattle.const_prop.specs.declared.work.Work.{Work}
use Rattle.const_prop.proofs.Raising.{IsWoken, raised-one, found-one}
use Rattle.const_prop.proofs.Rising.{raised-rises}
use Rattle.const_prop.proofs.work.Work.raise.Goals as goal

pub returns-then-raise-clause-rises : goal.returns-then-raise-clause-rises
returns-then-raise-clause-rises g c =
    let f = c.args.s.now.flow.now in
    let lines = c.args.s.now.lines.now.lines in
    let old = c.args.self.now in
    let new : Work g.row.W = record { known = c.raise.new.self; decisions = c.args.self.now.decisions; pending = c.insert.new.self; waits = c.insert-then-raise.new.self } in
    let woken : IsWoken old new c.args.edge (λ k. k == c.args.line) = record { lines_are = c.raise.ensures.lines; edges_are = c.raise.ensures.edges; decisions = refl; pending_size = c.insert.ensures.keys; pending = c.insert.ensures.holds; waits_size = c.insert-then-raise.ensures.room; waits = c.insert-then-raise.ensures.holds } in
    raised-rises f lines old new c.args.edge (λ k. k == c.args.line) (raised-one f lines old new c.args.edge c.requires.edge c.requires.sized c.args.line c.args.comes c.requires.line woken (c.raise.ensures.rises c.if-raise.true) c.raise.ensures.others)

pub returns-then-raise-clause-found : goal.returns-then-raise-clause-found
returns-then-raise-clause-found g c =
    let s = c.args.s.now in
    let f = s.flow.now in
    let lines = s.lines.now.lines in
    let old = c.args.self.now in
    let new : Work g.row.W = record { known = c.raise.new.self; decisions = c.args.self.now.decisions; pending = c.insert.new.self; waits = c.insert-then-raise.new.self } in
    let woken : IsWoken old new c.args.edge (λ k. k == c.args.line) = record { lines_are = c.raise.ensures.lines; edges_are = c.raise.ensures.edges; decisions = refl; pending_size = c.insert.ensures.keys; pending = c.insert.ensures.holds; waits_size = c.insert-then-raise.ensures.room; waits = c.insert-then-raise.ensures.holds } in
    let rise = c.raise.ensures.rises c.if-raise.true in
    let raised = raised-one f lines old new c.args.edge c.requires.edge c.requires.sized c.args.line c.args.comes c.requires.line woken rise c.raise.ensures.others in
    found-one s.program.now f s.classes.now (touches_in s.touch.now) s.lines.now old new c.args.edge c.requires.edge c.requires.found c.args.line c.args.comes c.requires.line raised rise c.requires.due c.requires.one
