use Rattle.std.proofs.Common.{rules, length, ◌≡◌, ◌+◌, ◌<◌, true, false, arith, ◌∙◌}
use Rattle.std.specs.Prelude.{slice_get}
use Rattle.std.proofs.lemmas.List.{get_or_read}
use Rattle.layout_rules.specs.Executables.{is_else_at}
use Rattle.control_structure.proofs.Meeting.{end_of_arm-within, else-inside}
use Rattle.control_structure.proofs.Exits.{when_false-is}
use Rattle.executable_lists.proofs.flow.Flow.when_false.Goals as goal

pub returns-then-is_else_at : goal.returns-then-is_else_at
returns-then-is_else_at c =
    let flow = c.requires.flow in
    let stmts = c.args.stmts.now in
    let end = c.end_of_arm-end.result in
    let is : is_else_at (slice_get stmts end) ≡ true = search rules in
    let there : end < length stmts = else-inside stmts end is in
    get_or_read c.args.self.now.met.items (end + 1) c.index.result.now (omega (arith, flow.met.size)) c.index.ensures 0
    ∙ flow.met.entry (end + 1) (omega arith)
    ∙ when_false-is stmts c.args.place end true c.end_of_arm-end.ensures.end is

pub index-requires-2 : goal.index-requires-2
index-requires-2 c = omega (arith, c.end_of_arm-end.ensures.end, c.requires.flow.first.size, end_of_arm-within c.args.stmts.now c.args.place c.requires.place)

pub returns : goal.returns
returns c =
    let flow = c.requires.flow in
    let stmts = c.args.stmts.now in
    let end = c.end_of_arm-end.result in
    let is : is_else_at (slice_get stmts end) ≡ false = search rules in
    let there : end < length stmts + 1 = omega (arith, c.end_of_arm-end.ensures.end, end_of_arm-within stmts c.args.place c.requires.place) in
    get_or_read c.args.self.now.first.items end c.index-2.result.now (omega (arith, flow.first.size)) c.index-2.ensures 0
    ∙ flow.first.entry end there
    ∙ when_false-is stmts c.args.place end false c.end_of_arm-end.ensures.end is
