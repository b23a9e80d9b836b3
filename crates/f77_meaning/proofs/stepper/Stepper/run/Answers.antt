use Rattle.std.proofs.Common.{◌≤◌, vec_capacity, Vec, Global, ℕ, sym, ap, subst, ◌∙◌, arith}
use Rattle.f77_tree.specs.declared.programs.ExecKind.{ExecKind}
use Rattle.f77_tree.specs.Execution.{Goes, outcome, printed}
use Rattle.f77_tree.specs.Line.{IsLine}
use Rattle.f77_tree.proofs.LineLaws.{line-feed}
use Rattle.f77_meaning.specs.Room.{kind_room}
use Rattle.f77_meaning.specs.Storage.{memory_of}
use Rattle.f77_meaning.specs.Stepper.{mark_in}
use Rattle.f77_meaning.proofs.Lines.{most_enough}
use Rattle.f77_meaning.proofs.Steps.{step_goes, step_stops, next_is}
use Rattle.f77_meaning.proofs.stepper.Stepper.run.Goals as goal

pub write_line-printed-requires-clause-room : goal.write_line-printed-requires-clause-room
write_line-printed-requires-clause-room c =
    let s = c.args.self.now in
    let enough = most_enough s.program.now.execs s.position c.at-exec.result.now c.at-exec.ensures.item in
    let room = s.draft_room in
    subst (λ (kind : ExecKind). kind_room kind ≤ vec_capacity s.draft) c.in-Print.is (omega (arith, enough, room))

pub returns-in-Err-clause-state : goal.returns-in-Err-clause-state
returns-in-Err-clause-state c out =
    let s = c.args.self.now in
    let p = s.program.now in
    let memory = memory_of s.storage in
    let is = ap (outcome p.names s.input.items memory) c.in-Print.is ∙ ap (printed memory c.in-Print.next) c.in-Err.ensures.line in
    step_stops p s.input.items s.position memory (mark_in s.progress) c.requires.going out c.at-exec.result.now c.in-Err.trap c.at-exec.ensures.item is

pub returns-in_default-printed-clause-state : goal.returns-in_default-printed-clause-state
returns-in_default-printed-clause-state c out =
    let s = c.args.self.now in
    let p = s.program.now in
    let memory = memory_of s.storage in
    let next = c.in-Print.next in
    let is =
    ap (outcome p.names s.input.items memory) c.in-Print.is
    ∙ ap (printed memory next) c.in_default-printed.ensures.line
    ∙ ap (λ (line : Vec ℕ Global). Goes next memory line.items) (sym c.swap.ensures.x_after)
    in
    step_goes p s.input.items s.position memory (mark_in s.progress) c.requires.going out c.at-exec.result.now next memory c.swap.new.x.items c.at-exec.ensures.item is

pub returns-in_default-printed-clause-line : goal.returns-in_default-printed-clause-line
returns-in_default-printed-clause-line c =
    let s = c.args.self.now in
    let whole = line-feed s.program.now.names s.storage.store.items c.in-Print.items c.write_line-printed.new.line.items c.in_default-printed.ensures.line in
    subst (λ (line : Vec ℕ Global). IsLine line.items) (sym c.swap.ensures.x_after) whole

pub invariant_of-self-in-Ok-clause-place : goal.invariant_of-self-in-Ok-clause-place
invariant_of-self-in-Ok-clause-place c =
    let s = c.args.self.now in
    next_is s.program.now s.input.items (memory_of s.storage) (memory_of c.execute.new.s) c.at-exec.result.now.kind c.in-Ok.next (c.requires.program.executes s.position c.at-exec.result.now c.at-exec.ensures.item) c.in-Ok.ensures.outcome
