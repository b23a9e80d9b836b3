use Rattle.std.proofs.Common.{◌*◌, ◌+◌, ◌<◌, ◌≤◌, length, arith}
use Rattle.std.proofs.lemmas.Nat.{mul-add-lt}
use Rattle.set_columns.specs.Marks.{marked}
use Rattle.set_columns.proofs.Marking.{IsLeast-found, IsPast-end, Passed-block}
use Rattle.set_columns.proofs.columns.Columns.least_from.Goals as goal

pub returns-in-Some : goal.returns-in-Some
unfolding marked
returns-in-Some c =
    let t = c.args.self.now in
    let block = c.loop-block.block in
    let low : block < t.blocks = omega (arith, c.loop-block-test.true) in
    let inside = mul-add-lt c.args.column t.blocks block t.columns c.requires low in
    let there : c.args.column * t.blocks + block < length t.marks.items = omega (arith, inside, t.each) in
    IsLeast-found t.marks.items t.blocks c.args.column c.args.first block c.in-Some.row c.loop-block.before c.index.result.now low there c.index.ensures c.loop-block.invariant.from c.loop-block.invariant.passed c.in-Some.ensures.within c.in-Some.ensures.next

pub loop-block-preserved : goal.loop-block-preserved
loop-block-preserved c =
    let t = c.args.self.now in
    let block = c.loop-block.block in
    let low : block < t.blocks = omega (arith, c.loop-block-test.true) in
    let inside = mul-add-lt c.args.column t.blocks block t.columns c.requires low in
    let there : c.args.column * t.blocks + block < length t.marks.items = omega (arith, inside, t.each) in
    record {
      in_word = omega arith;
      from = omega (arith, c.loop-block.invariant.from, c.loop-block.invariant.in_word);
      passed = Passed-block t.marks.items t.blocks c.args.column c.args.first block c.loop-block.before c.index.result.now low there c.index.ensures c.loop-block.invariant.passed c.in_default.ensures.next;
    }

pub returns : goal.returns
unfolding marked
returns c =
    let t = c.args.self.now in
    let end : t.blocks ≤ c.loop-block.block = omega (arith, c.loop-block-test.false) in
    IsPast-end t.marks.items t.blocks c.args.column c.args.first c.loop-block.block c.loop-block.before end c.loop-block.invariant.passed
