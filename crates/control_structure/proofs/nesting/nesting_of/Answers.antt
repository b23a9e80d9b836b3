use Rattle.std.proofs.Common.{◌≡◌, Bool, false, if◌then◌else◌, length, Some, None, refl, sym, ap, ◌∙◌}
use Rattle.std.proofs.lemmas.Option.{slice_get_read}
use Rattle.layout_rules.specs.declared.nesting.Role.{Role}
use Rattle.layout_rules.specs.Roles.{role_of, turns_arm}
use Rattle.control_structure.specs.OpenStack.{entries_after, head_of}
use Rattle.control_structure.proofs.OpenSpans.{held}
use Rattle.control_structure.proofs.Laminar.{AreNested-walk}
use Rattle.control_structure.proofs.SourceLabels.{AreLabelled-source}
use Rattle.control_structure.proofs.NestingWalk.{IsWalk-fault, IsWalk-step, IsWalk-end, head-ended, head-inside}
use Rattle.control_structure.proofs.nesting.nesting_of.Goals as goal
use Rattle.control_structure.proofs.nesting.nesting_of.Goals.{in-EndBlock, in_default}

pub returns-then-not-branch : goal.returns-then-not-branch
returns-then-not-branch c =
    let s = c.index-stmts-i.result in
    let here = slice_get_read c.args.stmts.now (length c.args.stmts.now) c.loop-i.i s refl c.loop-i-test.true c.index-stmts-i.is in
    let fault : entries_after (role_of s.stmt) c.loop-i.i s.label c.loop-i.stack ≡ None =
    ap (λ (r : Role). entries_after r c.loop-i.i s.label c.loop-i.stack) (sym c.role_in-role.ensures) ∙ (c.in_ok-step.ensures ∙ ap (λ (b : Bool). if b then Some c.step.new.stack else None) c.if-not-branch.true) in
    IsWalk-fault c.args.stmts.now c.loop-i.i s c.loop-i.stack c.loop-i.heads.items here c.loop-i.invariant fault

pub loop-i-preserved : goal.loop-i-preserved
loop-i-preserved c =
    let s = c.index-stmts-i.result in
    let role = c.role_in-role.result in
    let here = slice_get_read c.args.stmts.now (length c.args.stmts.now) c.loop-i.i s refl c.loop-i-test.true c.index-stmts-i.is in
    let by_role : entries_after role c.loop-i.i s.label c.loop-i.stack ≡ Some c.step.new.stack = c.in_ok-step.ensures ∙ ap (λ (b : Bool). if b then Some c.step.new.stack else None) c.if-not-branch.false in
    let is : entries_after (role_of s.stmt) c.loop-i.i s.label c.loop-i.stack ≡ Some c.step.new.stack = ap (λ (r : Role). entries_after r c.loop-i.i s.label c.loop-i.stack) (sym c.role_in-role.ensures) ∙ by_role in
    let head_is : turns_arm (role_of s.stmt) ≡ false → c.match-role.head ≡ head_of (held (role_of s.stmt) c.loop-i.stack) = λ no_arm. elim c.match-role.branch [
      | in-EndBlock w ↦ w.head-is ∙ (w.head-head.ensures ∙ head-ended (role_of s.stmt) c.loop-i.i s.label c.loop-i.stack c.step.new.stack (sym c.role_in-role.ensures ∙ w.in-EndBlock.is) is)
      | in_default w ↦ w.head-is ∙ (c.head-inside.ensures ∙ head-inside (role_of s.stmt) c.loop-i.stack (λ is. w.in_default.not-EndBlock (c.role_in-role.ensures ∙ is)) no_arm)
    ] in
    rw c.in_ok-push.ensures.items (IsWalk-step c.args.stmts.now c.requires.source c.requires.labels c.loop-i.i s c.loop-i.stack c.step.new.stack c.loop-i.heads.items c.match-role.head here c.loop-i.invariant is head_is)

pub returns : goal.returns
returns c =
    let walk = IsWalk-end c.args.stmts.now c.loop-i.i c.loop-i.stack c.loop-i.heads.items c.loop-i-test.false c.loop-i.invariant c.loop-i.auto.i-end in
    (walk.0, walk.1, AreNested-walk c.args.stmts.now (AreLabelled-source c.args.stmts.now c.requires.source c.requires.labels) c.requires.source.ended walk.0)
