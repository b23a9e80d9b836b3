use Rattle.std.proofs.Common.{◌∙◌, ap, get_or, set, subst, sym}
use Rattle.brackets.specs.Brackets.{Stands, list_at, without}
use Rattle.brackets.specs.Kept.{no_ends}
use Rattle.brackets.proofs.DeleteLemmas.{delete_are, delete_seen, has_lower, has_upper, own_read}
use Rattle.brackets.proofs.JoinLemmas.{led_cell}
use Rattle.brackets.proofs.lists.BracketLists.delete.Goals as goal

pub link_below-requires : goal.link_below-requires
link_below-requires g c =
    let s = c.self.inside in
    let stands = subst (λ lists. Stands (list_at lists c.args.list) c.args.bracket) (sym c.self.view_is) c.requires in
    has_upper s.cells.slots s.lists.items c.self.invariant c.args.list c.args.bracket stands (get_or s.lists.items c.args.list no_ends) (own_read s.cells.slots s.lists.items c.args.list c.args.bracket stands) c.index.result.now c.index.ensures

pub link_above-requires : goal.link_above-requires
link_above-requires g c =
    let s = c.self.inside in
    let stands = subst (λ lists. Stands (list_at lists c.args.list) c.args.bracket) (sym c.self.view_is) c.requires in
    let own = own_read s.cells.slots s.lists.items c.args.list c.args.bracket stands in
    let upper = has_upper s.cells.slots s.lists.items c.self.invariant c.args.list c.args.bracket stands (get_or s.lists.items c.args.list no_ends) own c.index.result.now c.index.ensures in
    let lower = has_lower s.cells.slots s.lists.items c.self.invariant c.args.list c.args.bracket stands (get_or s.lists.items c.args.list no_ends) own c.index.result.now c.index.ensures in
    rw c.link_below.ensures (led_cell s.cells.slots c.index.result.now.below c.index.result.now.above c.index.result.now.below upper lower)

pub invariant_of-self : goal.invariant_of-self
invariant_of-self g c =
    let s = c.self.inside in
    let stands = subst (λ lists. Stands (list_at lists c.args.list) c.args.bracket) (sym c.self.view_is) c.requires in
    rw (c.link_above.ensures, c.link_below.ensures, c.end_after.ensures, c.end_after-2.ensures) (delete_are s.cells.slots s.lists.items c.self.invariant c.args.list c.args.bracket stands c.index-2.result.now c.index-2.ensures c.index.result.now c.index.ensures)

pub returns-clause-lists : goal.returns-clause-lists
returns-clause-lists g c =
    let s = c.self.inside in
    let stands = subst (λ lists. Stands (list_at lists c.args.list) c.args.bracket) (sym c.self.view_is) c.requires in
    let seen = delete_seen s.cells.slots s.lists.items c.self.invariant c.args.list c.args.bracket stands c.index-2.result.now c.index-2.ensures c.index.result.now c.index.ensures in
    rw (c.link_above.ensures, c.link_below.ensures, c.end_after.ensures, c.end_after-2.ensures) (seen ∙ ap (λ lists. set lists c.args.list (without (list_at lists c.args.list) c.args.bracket)) c.self.view_is)
