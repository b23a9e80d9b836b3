use Rattle.std.proofs.Common.{◌∙◌, [], sym, ap, arith}
use Rattle.shared_rows.specs.Table.{numbered_row, row_at}
use Rattle.net_tables.specs.LookupView.{net_on}
use Rattle.net_tables.proofs.PlaceRows.{numbers_length, told_row, told_there}
use Rattle.net_tables.proofs.PlacesLemmas.{kept_cell, kept_first}
use Rattle.net_tables.proofs.lookups.Board.place.Goals as goal

pub index-requires : goal.index-requires
index-requires g c =
    let rows = c.args.self.now.tables.places in
    let count = numbers_length (net_on c.args.self.now) rows.table rows.row_of.items c.args.self.now.own_tables.places.places in
    let exists = c.requires.piece in
    omega (arith, count, exists)

pub get-requires-clause-row : goal.get-requires-clause-row
get-requires-clause-row g c =
    let rows = c.args.self.now.tables.places in
    told_there (net_on c.args.self.now) rows.table rows.row_of.items c.args.self.now.own_tables.places.places c.args.piece c.in-Some.row c.index.result.now c.args.self.now.own_tables.places.there c.requires.piece c.index.ensures c.in-Some.is

pub get-requires-clause-column : goal.get-requires-clause-column
get-requires-clause-column g c =
    let wide = c.args.self.now.own_tables.places.wide in
    let line = c.requires.line in
    omega (arith, wide, line)

pub returns-in-Some : goal.returns-in-Some
returns-in-Some g c = λ node.
    let net = net_on c.args.self.now in
    let rows = c.args.self.now.tables.places in
    let told = told_row net rows.table rows.row_of.items c.args.self.now.own_tables.places.places c.args.piece c.index.result.now c.requires.piece c.index.ensures in
    c.get.ensures.number ∙ kept_cell net c.args.piece (row_at rows.table c.in-Some.row) c.args.line (sym (ap (numbered_row rows.table) c.in-Some.is) ∙ told) c.get.ensures.within

pub returns-in-None : goal.returns-in-None
returns-in-None g c = λ node.
    let net = net_on c.args.self.now in
    let rows = c.args.self.now.tables.places in
    let told = told_row net rows.table rows.row_of.items c.args.self.now.own_tables.places.places c.args.piece c.index.result.now c.requires.piece c.index.ensures in
    c.first.ensures ∙ kept_first net c.args.piece [] c.args.line (sym (ap (numbered_row rows.table) c.in-None.is) ∙ told) (omega arith) c.requires.line node
