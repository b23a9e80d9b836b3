use Rattle.std.proofs.Common.{◌≡◌, Some, false, true, slice_get}
use Rattle.graph_dependences.specs.Nodes.{is_output_line, kind_of}
use Rattle.graph_dependences.proofs.Between.{known_leads, pair_told}
use Rattle.graph_dependences.proofs.pairs.add_between.Goals as goal

pub returns-clause-added : goal.returns-clause-added
returns-clause-added c =
    let by = c.args.by in
    let one = c.args.one.now in
    let two = c.args.two.now in
    let kind = c.in-Some.kind in
    let known = c.in_ok-known.known in
    let found = c.in-Some.is in
    let asked = c.kind_of.ensures in
    let output = c.requires.by.output in
    let is_kind : kind_of (is_output_line (slice_get by.graph.now.lines.items by.line)) by.line one two ≡ Some kind = cc in
    pair_told by.graph.now by.flow.now by.line c.args.first c.args.second one two (record { is_one = c.requires.one; is_two = c.requires.two }) kind is_kind c.has.result c.has-2.result
    (known_leads by c.args.first c.args.second one two c.requires.by known c.in_ok-known.ensures.known c.in_ok-known.ensures.steps false c.has.result c.has.ensures)
    (known_leads by c.args.first c.args.second one two c.requires.by known c.in_ok-known.ensures.known c.in_ok-known.ensures.steps true c.has-2.result c.has-2.ensures)
    c.text_line-from.result c.text_line-to.result c.text_line-from.ensures c.text_line-to.ensures c.args.all.now.items c.add_if.new.all.items c.add_if-2.new.all.items c.in_ok-add_if.ensures c.in_ok-add_if-2.ensures
