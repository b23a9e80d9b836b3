use Rattle.std.proofs.Common.{◌∙◌, sym, arith}
use Rattle.shared_rows.proofs.Standing.{block_exists, block_read, cell_of_block, is_row, is_column, number_at, place_within, within_row}
use Rattle.shared_rows.proofs.rows.SharedRows.get.Goals as goal

pub place-requires : goal.place-requires
place-requires c =
    let d = c.self.inside in
    let row = is_row d c.args.self.now c.self.view_is c.args.row c.requires.row in
    let column = is_column d c.args.self.now c.self.view_is c.args.column c.requires.column in
    let within = place_within d c.self.invariant c.args.row c.args.column row column in
    omega (arith, within, d.numbers.ok.0)

pub index-block-requires : goal.index-block-requires
index-block-requires c =
    let d = c.self.inside in
    let row = is_row d c.args.self.now c.self.view_is c.args.row c.requires.row in
    let column = is_column d c.args.self.now c.self.view_is c.args.column c.requires.column in
    let within = place_within d c.self.invariant c.args.row c.args.column row column in
    let at = c.place.ensures in
    omega (arith, within, at)

pub index-requires : goal.index-requires
index-requires c =
    let d = c.self.inside in
    let row = is_row d c.args.self.now c.self.view_is c.args.row c.requires.row in
    let column = is_column d c.args.self.now c.self.view_is c.args.column c.requires.column in
    let read = block_read d c.self.invariant c.args.row c.args.column c.index-block.result.now row column (rw c.place.ensures at c.index-block.ensures) in
    let exists = block_exists d c.self.invariant c.args.row c.args.column row column in
    omega (arith, read, exists)

pub returns-clause-number : goal.returns-clause-number
returns-clause-number c =
    let d = c.self.inside in
    let row = is_row d c.args.self.now c.self.view_is c.args.row c.requires.row in
    let column = is_column d c.args.self.now c.self.view_is c.args.column c.requires.column in
    let read = block_read d c.self.invariant c.args.row c.args.column c.index-block.result.now row column (rw c.place.ensures at c.index-block.ensures) in
    cell_of_block d c.self.invariant c.args.row c.args.column c.index-block.result.now c.index.result.now row column read c.index.ensures
    ∙ sym (number_at d c.args.self.now c.self.view_is c.args.row c.args.column c.requires.row c.requires.column)

pub returns-clause-within : goal.returns-clause-within
returns-clause-within c = within_row c.self.inside c.args.self.now c.self.view_is c.args.row c.args.column c.requires.row c.requires.column
