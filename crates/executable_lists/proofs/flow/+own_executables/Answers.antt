use Rattle.std.proofs.Common.{◌≡◌, ℕ, ◌+◌, rules, arith, sym, ap, ◌∙◌}
use Rattle.f77_tree.specs.declared.statements.Stmt.TheVariants.{ThenIf}
use Rattle.layout_rules.specs.Executables.{own_executables as own_executables_of}
use Rattle.control_structure.proofs.OwnExecutables.{guarded_own}
use Rattle.executable_lists.proofs.flow.+own_executables.Goals as goal
use Rattle.executable_lists.proofs.flow.+own_executables.Goals.{After-get}

-- the condition has one executable more than its statement
one-more : (t : ℕ) (c : After-get t) → own_executables_of c.args.stmt.now ≡ 1 + own_executables_of c.get.result.now
one-more t c =
    let whole : c.args.stmt.now ≡ ThenIf c.in-ThenIf.field-0 c.in-ThenIf.inner = search rules in
    let same : c.get.result.now ≡ c.in-ThenIf.inner = search rules in
    ap own_executables_of whole ∙ guarded_own c.in-ThenIf.field-0 c.in-ThenIf.inner ∙ ap (λ s. 1 + own_executables_of s) (sym same)

pub own_executables-requires : goal.own_executables-requires
own_executables-requires t c = let more = one-more t (goal.at.own_executables-requires t c).After-get in let d = c.decreases in (omega (arith, d, more), omega arith)

pub overflow_add-result : goal.overflow_add-result
overflow_add-result t c = search (rules, one-more t (goal.at.overflow_add-result t c).After-get)

pub returns-in-ThenIf : goal.returns-in-ThenIf
returns-in-ThenIf t c = omega (arith, one-more t (goal.at.returns-in-ThenIf t c).After-get)
