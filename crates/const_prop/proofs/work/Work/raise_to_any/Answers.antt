use Rattle.std.proofs.Common.{◌≡◌, ℕ, Bool, true, not, None, refl, sym, ◌∙◌}
use Rattle.std.proofs.lemmas.Bool.{and_parts}
use Rattle.class_set.specs.ClassSet.{holds}
use Rattle.class_set.specs.Members.{IsLast, IsNext}
use Rattle.dep_routing.specs.Touch.{touches_in}
use Rattle.const_prop.specs.declared.work.Work.{Work}
use Rattle.const_prop.proofs.Going.{some-member}
use Rattle.const_prop.proofs.Raising.{IsWoken, raised-any, found-any, any-here, true_of_not}
use Rattle.const_prop.proofs.Rising.{raised-rises}
use Rattle.const_prop.proofs.work.Work.raise_to_any.Goals as goal

pub returns-clause-rises : goal.returns-clause-rises
returns-clause-rises g c =
    let f = c.args.s.now.flow.now in
    let lines = c.args.s.now.lines.now.lines in
    let old = c.args.self.now in
    let new : Work g.row.W = record { known = c.set_any.new.self; decisions = c.args.self.now.decisions; pending = c.add.new.self; waits = c.insert.new.self } in
    let rose : ℕ → Bool = holds c.difference-risen.result in
    let woken : IsWoken old new c.args.edge rose = record { lines_are = c.set_any.ensures.lines; edges_are = c.set_any.ensures.edges; decisions = refl; pending_size = c.add.ensures.keys; pending = c.add.ensures.holds; waits_size = c.insert.ensures.room; waits = c.insert.ensures.holds } in
    let parts = λ (k : ℕ) (is : rose k ≡ true). and_parts (holds c.args.lines.now k) (not (holds c.any_at.result.now k)) (sym (c.difference-risen.ensures k) ∙ is) in
    let lower = λ (k : ℕ) (is : rose k ≡ true). sym (c.any_at.ensures k) ∙ true_of_not (holds c.any_at.result.now k) (parts k is).1 in
    let first = some-member (IsLast (holds c.difference-risen.result) None) (IsNext (holds c.difference-risen.result) None) c.next_after.result c.if-is_none.ensures c.next_after.ensures.next in
    let member = first.1.member in
    raised-rises f lines old new c.args.edge rose (raised-any f lines old new c.args.edge c.requires.edge c.requires.sized rose c.set_any.ensures.values woken lower first.0 (c.requires.within first.0 (parts first.0 member).0) member)

pub returns-clause-found : goal.returns-clause-found
returns-clause-found g c =
    let s = c.args.s.now in
    let f = s.flow.now in
    let lines = s.lines.now.lines in
    let old = c.args.self.now in
    let new : Work g.row.W = record { known = c.set_any.new.self; decisions = c.args.self.now.decisions; pending = c.add.new.self; waits = c.insert.new.self } in
    let rose : ℕ → Bool = holds c.difference-risen.result in
    let woken : IsWoken old new c.args.edge rose = record { lines_are = c.set_any.ensures.lines; edges_are = c.set_any.ensures.edges; decisions = refl; pending_size = c.add.ensures.keys; pending = c.add.ensures.holds; waits_size = c.insert.ensures.room; waits = c.insert.ensures.holds } in
    let parts = λ (k : ℕ) (is : rose k ≡ true). and_parts (holds c.args.lines.now k) (not (holds c.any_at.result.now k)) (sym (c.difference-risen.ensures k) ∙ is) in
    let lower = λ (k : ℕ) (is : rose k ≡ true). sym (c.any_at.ensures k) ∙ true_of_not (holds c.any_at.result.now k) (parts k is).1 in
    let first = some-member (IsLast (holds c.difference-risen.result) None) (IsNext (holds c.difference-risen.result) None) c.next_after.result c.if-is_none.ensures c.next_after.ensures.next in
    let member = first.1.member in
    let raised = raised-any f lines old new c.args.edge c.requires.edge c.requires.sized rose c.set_any.ensures.values woken lower first.0 (c.requires.within first.0 (parts first.0 member).0) member in
    found-any s.program.now f s.classes.now (touches_in s.touch.now) s.lines.now old new c.args.edge c.requires.edge c.requires.found rose raised (any-here f lines old new c.args.edge c.requires.edge c.requires.sized rose c.set_any.ensures.values)
    (λ b k closed is. c.requires.due b k closed (parts k is).0)
