use Rattle.std.proofs.Common.{◌≡◌, ◌≤◌, List, length, ap, sym, subst, ◌∙◌}
use Rattle.std.specs.Prelude.{slice_get, Some}
use Rattle.std.proofs.lemmas.Option.{slice_get-get_or}
use Rattle.f77_tree.specs.declared.programs.Exec.{Exec}
use Rattle.dep_routing.proofs.Flags.{flag-more, flags-all}
use Rattle.dep_routing.proofs.touching.trap_flags.Goals as goal

pub exec_may_trap-requires : goal.exec_may_trap-requires
exec_may_trap-requires c =
    let p = c.args.p.now in
    let exec = c.exec-item.result in
    let k = c.loop-exec.exec-index in
    let at : slice_get p.execs k ≡ Some exec = subst (λ (xs : List Exec). slice_get xs k ≡ Some exec) c.as_slice-exec-items.ensures.items (slice_get-get_or c.as_slice-exec-items.result.now k exec c.loop-exec-test.true ∙ ap Some (sym c.exec-item.is)) in
    (c.well_formed_programs_can_run.ensures p c.requires).executes k exec at

pub loop-exec-preserved : goal.loop-exec-preserved
loop-exec-preserved c =
    let p = c.args.p.now in
    let exec = c.exec-item.result in
    let k = c.loop-exec.exec-index in
    let at : slice_get p.execs k ≡ Some exec = subst (λ (xs : List Exec). slice_get xs k ≡ Some exec) c.as_slice-exec-items.ensures.items (slice_get-get_or c.as_slice-exec-items.result.now k exec c.loop-exec-test.true ∙ ap Some (sym c.exec-item.is)) in
    rw c.in_ok-push.ensures.items (flag-more p k c.loop-exec.flags.items exec c.exec_may_trap.result at c.exec_may_trap.ensures c.loop-exec.invariant)

pub returns : goal.returns
returns c =
    let p = c.args.p.now in
    let k = c.loop-exec.exec-index in
    let whole : length p.execs ≤ k = subst (λ (xs : List Exec). length xs ≤ k) c.as_slice-exec-items.ensures.items c.loop-exec-test.false in
    flags-all p k c.loop-exec.flags.items whole c.loop-exec.invariant
