use Rattle.std.proofs.Common.{◌≡◌, ◌+◌, ◌∙◌, ap, cond, get_or, arith}
use Rattle.std.proofs.lemmas.List.{get_or_read}
use Rattle.cfg_build.specs.declared.parts.Part.{Part}
use Rattle.cfg_build.specs.Parts.{start_part}
use Rattle.cfg_build.specs.Joined.{width}
use Rattle.cfg_build.specs.Tables.{number_in, is_joined_by}
use Rattle.cfg_build.proofs.BuildingTables.{next-step, few_so_far, numbers-step, numbers_are}
use Rattle.cfg_build.proofs.numbers.numbers.Goals as goal

-- the number of the next piece
next_is : (c : goal.After-width-next) → c.loop-part.next + c.width-next.result ≡ Rattle.std.specs.List.sum_by (width c.args.parts.now) (Rattle.std.proofs.Common.take (c.loop-part.part-index + 1) c.args.parts.now)
next_is c =
    let ps = c.args.parts.now in
    let i = c.loop-part.part-index in
    let is : c.part-item.result ≡ get_or ps i start_part = get_or_read ps i c.part-item.result c.loop-part-test.true c.part-item.is start_part in
    let wide : c.width-next.result ≡ cond (is_joined_by (number_in c.args.ways.now (get_or ps i start_part).own) (get_or ps i start_part)) 2 1 =
    c.width-next.ensures ∙ ap (λ (p : Part). cond (is_joined_by (number_in c.args.ways.now p.own) p) 2 1) is in
    ap (λ n. c.loop-part.next + n) wide
    ∙ next-step ps i (number_in c.args.ways.now (get_or ps i start_part).own) c.loop-part.next c.loop-part-test.true (c.requires.ways (get_or ps i start_part).own) c.loop-part.invariant.next

pub overflow_add-next : goal.overflow_add-next
overflow_add-next c = omega (arith, next_is c, few_so_far c.args.execs c.args.parts.now (c.loop-part.part-index + 1) c.requires.parts)

pub loop-part-preserved : goal.loop-part-preserved
loop-part-preserved c = search (get_or_read, next_is, numbers-step, c.set.ensures.room c.args.execs c.loop-part.invariant.room, arith)

pub returns-clause-numbers : goal.returns-clause-numbers
returns-clause-numbers c = numbers_are c.args.execs c.args.parts.now c.loop-part.numbers c.requires.parts (λ j l. c.loop-part.invariant.numbers j (omega (arith, l)))
