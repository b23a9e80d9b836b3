use Rattle.std.proofs.Common.{◌+◌, ◌<◌, ◌∙◌, [], length, subst, sym, arith}
use Rattle.std.proofs.lemmas.List.{get_or_default}
use Rattle.brackets.specs.Brackets.{IsFree}
use Rattle.cycle_equiv.proofs.CapSteps.{free_ended, own_pushed}
use Rattle.cycle_equiv.proofs.walk_caps.end_list.Goals as goal

pub push-requires-then-second-place-clause-free : goal.push-requires-then-second-place-clause-free
push-requires-then-second-place-clause-free g c =
    let inside : c.args.f < length c.args.lists.now = omega (arith, c.requires.size, c.requires.edge) in
    subst (λ ls. IsFree ls (c.args.edges + c.args.f)) (sym c.end.ensures.lists)
    (free_ended c.args.lists.now c.args.f c.args.edges inside c.index_mut.result.now (c.args.edges + c.args.f) (c.requires.free c.if-second-place.true))

pub returns-in_ok-push-clause-lists : goal.returns-in_ok-push-clause-lists
returns-in_ok-push-clause-lists g c =
    let inside : c.args.f < length c.args.lists.now = omega (arith, c.requires.size, c.requires.edge) in
    own_pushed c.args.lists.now c.args.f c.args.edges inside c.args.caps.now.items c.args.place c.args.second c.index_mut.result.now c.end.new.lists c.push-then-second-place.new.self
    c.if-second-place.true
    (c.index_mut.ensures.value ∙ get_or_default c.args.caps.now.items c.args.place c.index_mut.result.now [] c.requires.place)
    c.end.ensures.lists
    c.push-then-second-place.ensures.lists
