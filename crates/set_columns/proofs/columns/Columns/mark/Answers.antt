use Rattle.std.proofs.Common.{◌*◌, ◌+◌, ◌/◌, ◌<◌, length, arith}
use Rattle.std.proofs.lemmas.Nat.{mul-add-lt}
use Rattle.set_columns.specs.Marks.{marked}
use Rattle.set_columns.proofs.Marking.{one_marked}
use Rattle.set_columns.proofs.columns.Columns.mark.Goals as goal

pub returns-clause-marks : goal.returns-clause-marks
unfolding marked
returns-clause-marks c =
    let t = c.args.self.now in
    let low : c.args.row / 64 < t.blocks = omega (arith, c.requires.row, t.some) in
    let place : c.args.column * t.blocks + c.args.row / 64 < length t.marks.items = let inside = mul-add-lt c.args.column t.blocks (c.args.row / 64) t.columns c.requires.column low in omega (arith, inside, t.each) in
    one_marked t.marks.items t.blocks c.args.column c.args.row c.index_mut.result.now c.insert.new.self place low c.index_mut.ensures.value c.insert.ensures
