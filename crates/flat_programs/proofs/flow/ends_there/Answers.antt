use Rattle.std.proofs.Common.{◌≡◌, get_or, ap, ◌∙◌, arith}
use Rattle.std.specs.Prelude.{nat_lt}
use Rattle.flat_programs.specs.Marks.{mark_at, loop_to}
use Rattle.flat_programs.proofs.MarkLemmas.{mark_at-most}
use Rattle.flat_programs.proofs.FlowLemmas.{test_is}
use Rattle.flat_programs.proofs.flow.ends_there.Goals as goal

pub bounds-ends-number : goal.bounds-ends-number
bounds-ends-number c =
    let number = c.requires.numbers.entry c.args.place (omega (arith, c.requires.place)) in
    omega (arith, number, mark_at-most c.args.flat.now c.args.place, c.requires.ends.size)

pub returns : goal.returns
returns c =
    let flat = c.args.flat.now in
    let place = c.args.place in
    let ends = c.args.ends.now in
    let number = c.requires.numbers.entry place (omega (arith, c.requires.place)) in
    let head : get_or ends (get_or c.args.numbers.now place 0) 0 ≡ loop_to flat (mark_at flat place) = ap (λ n. get_or ends n 0) number ∙ c.requires.ends.entry (mark_at flat place) (omega (arith, mark_at-most flat place)) in
    ap (nat_lt (get_or ends (get_or c.args.numbers.now place 0) 0)) c.len.ensures ∙ test_is flat (get_or ends (get_or c.args.numbers.now place 0) 0) place head
