use Rattle.std.proofs.Common.{◌≡◌, ◌<◌, ◌+◌, ◌-◌, ℕ, List, length, reverse, get_or, refl, sym, ap, subst, ◌∙◌, arith}
use Rattle.std.proofs.lemmas.Option.{slice_get_read}
use Rattle.f77_tree.specs.declared.statements.Labelled.{Labelled}
use Rattle.layout_rules.specs.declared.nesting.Role.{Role}
use Rattle.layout_rules.specs.Roles.{role_of}
use Rattle.control_structure.specs.BlockEnds.{end_by}
use Rattle.control_structure.proofs.EndsMet.{IsWalkBack, IsWalkBack-step}
use Rattle.control_structure.proofs.blocks.ends_after.Goals as goal

pub loop-i-preserved : goal.loop-i-preserved
loop-i-preserved c =
    let stmts = c.args.stmts.now in
    let s = c.index-stmts-i.result in
    let met = c.loop-i.met.items in
    let here_next : c.loop-i.i ≡ c.loop-i.i - 1 + 1 = omega (arith, c.loop-i-test.true) in
    let lt : c.loop-i.i - 1 < length stmts = omega (arith, c.loop-i-test.true, c.loop-i.invariant.inside) in
    let here = slice_get_read stmts (length stmts) (c.loop-i.i - 1) s refl lt c.index-stmts-i.is in
    let walk : IsWalkBack c.args.are_arms stmts (c.loop-i.i - 1 + 1) met c.loop-i.ends.items = subst (λ (n : ℕ). IsWalkBack c.args.are_arms stmts n met c.loop-i.ends.items) here_next c.loop-i.invariant in
    let top = c.top_or.ensures ∙ ap (λ (xs : List ℕ). get_or (reverse xs) 0 (length stmts)) c.deref.ensures.value in
    IsWalkBack-step c.args.are_arms stmts (c.loop-i.i - 1) s met c.step_back.new.met.items c.loop-i.ends.items c.top_or.result here lt walk top
    (λ none inner. c.in_ok-step_back.ensures none inner ∙ ap (λ (role : Role). end_by c.args.are_arms role (c.loop-i.i - 1) (λ k. get_or (reverse met) k none) inner) (c.role_in.ensures ∙ ap (λ (t : Labelled). role_of t.stmt) (sym c.index-stmts-i.is)))
