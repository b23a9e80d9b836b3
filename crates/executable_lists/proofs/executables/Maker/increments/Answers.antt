use Rattle.std.proofs.Common.{arith, ◌≡◌, ℕ, ◌-◌, ◌<◌, true, All, List, length, sym, subst, ◌∙◌}
use Rattle.std.specs.Prelude.{slice_get}
use Rattle.layout_rules.specs.Executables.{is_do_in, loops_above}
use Rattle.control_structure.proofs.LoopTables.{loops_above-dos, loops_above-within}
use Rattle.executable_lists.proofs.executables.Maker.increments.Goals as goal

pub increment-kind-requires-clause-place : goal.increment-kind-requires-clause-place
increment-kind-requires-clause-place c =
    let stmts = c.args.self.now.stmts.now in
    let ds = c.as_slice-loops.result.now in
    let are : ds ≡ loops_above stmts c.args.s.now.label (length stmts) = c.as_slice-loops.ensures.items ∙ c.loops_to.ensures in
    let within = subst (λ (xs : List ℕ). All (λ d. d < length stmts) xs) (sym are) (loops_above-within stmts c.args.s.now.label (length stmts)) in
    within (c.loop-outer.outer - 1) 0 (omega arith)

pub increment-kind-requires-clause-begins : goal.increment-kind-requires-clause-begins
increment-kind-requires-clause-begins c =
    let stmts = c.args.self.now.stmts.now in
    let ds = c.as_slice-loops.result.now in
    let are : ds ≡ loops_above stmts c.args.s.now.label (length stmts) = c.as_slice-loops.ensures.items ∙ c.loops_to.ensures in
    let dos = subst (λ (xs : List ℕ). All (λ d. is_do_in c.args.s.now.label (slice_get stmts d) ≡ true) xs) (sym are) (loops_above-dos stmts c.args.s.now.label (length stmts)) in
    dos (c.loop-outer.outer - 1) 0 (omega arith)
