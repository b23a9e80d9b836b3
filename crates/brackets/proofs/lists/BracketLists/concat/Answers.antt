use Rattle.std.proofs.Common.{◌++◌, [], ap, set, ◌∙◌, arith}
use Rattle.brackets.specs.Brackets.{list_at}
use Rattle.brackets.proofs.ConcatLemmas.{concat_are, concat_seen, has_bottom, sizes_fit}
use Rattle.brackets.proofs.JoinLemmas.{led_cell}
use Rattle.brackets.proofs.PushLemmas.{has_top, inside_seen}
use Rattle.brackets.proofs.lists.BracketLists.concat.Goals as goal

pub link_below-requires : goal.link_below-requires
link_below-requires g c =
    let s = c.self.inside in
    let many = inside_seen s.cells.slots s.lists.items c.args.self.now c.self.view_is in
    has_bottom s.cells.slots s.lists.items c.self.invariant c.args.upper (omega (arith, c.requires.upper, many)) c.index.result.now c.index.ensures

pub link_above-requires : goal.link_above-requires
link_above-requires g c =
    let s = c.self.inside in
    let many = inside_seen s.cells.slots s.lists.items c.args.self.now c.self.view_is in
    let upper = has_bottom s.cells.slots s.lists.items c.self.invariant c.args.upper (omega (arith, c.requires.upper, many)) c.index.result.now c.index.ensures in
    let lower = has_top s.cells.slots s.lists.items c.self.invariant c.args.lower (omega (arith, c.requires.lower, many)) c.index-under.result.now c.index-under.ensures in
    rw c.link_below.ensures (led_cell s.cells.slots c.index-under.result.now.top c.index.result.now.bottom c.index-under.result.now.top upper lower)

pub overflow_add-size : goal.overflow_add-size
overflow_add-size g c =
    let s = c.self.inside in
    let many = inside_seen s.cells.slots s.lists.items c.args.self.now c.self.view_is in
    let fits = sizes_fit s.cells.slots s.lists.items c.self.invariant c.args.upper c.args.lower c.requires.differ (omega (arith, c.requires.upper, many)) (omega (arith, c.requires.lower, many)) c.index.result.now c.index-under.result.now c.index.ensures c.index-under.ensures in
    omega (arith, fits)

pub invariant_of-self : goal.invariant_of-self
invariant_of-self g c =
    let s = c.self.inside in
    let many = inside_seen s.cells.slots s.lists.items c.args.self.now c.self.view_is in
    rw (c.link_above.ensures, c.link_below.ensures, c.or.ensures, c.or-2.ensures) (concat_are s.cells.slots s.lists.items c.self.invariant c.args.upper c.args.lower c.requires.differ (omega (arith, c.requires.upper, many)) (omega (arith, c.requires.lower, many)) c.index.result.now c.index-under.result.now c.index.ensures c.index-under.ensures)

pub returns-clause-lists : goal.returns-clause-lists
returns-clause-lists g c =
    let s = c.self.inside in
    let many = inside_seen s.cells.slots s.lists.items c.args.self.now c.self.view_is in
    let seen = concat_seen s.cells.slots s.lists.items c.self.invariant c.args.upper c.args.lower c.requires.differ (omega (arith, c.requires.upper, many)) (omega (arith, c.requires.lower, many)) c.index.result.now c.index-under.result.now c.index.ensures c.index-under.ensures in
    rw (c.link_above.ensures, c.link_below.ensures, c.or.ensures, c.or-2.ensures) (seen ∙ ap (λ lists. set (set lists c.args.upper (list_at lists c.args.upper ++ list_at lists c.args.lower)) c.args.lower []) c.self.view_is)
