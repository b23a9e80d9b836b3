use Rattle.std.proofs.Common.{◌∙◌, ◌∷◌, ap, set, subst, sym, arith}
use Rattle.brackets.specs.Brackets.{IsFree, list_at}
use Rattle.brackets.proofs.PushLemmas.{has_top, inside_seen, pushed_are, pushed_seen, size_fits}
use Rattle.brackets.proofs.lists.BracketLists.push.Goals as goal

pub link_above-requires : goal.link_above-requires
link_above-requires g c =
    let s = c.self.inside in
    let many = inside_seen s.cells.slots s.lists.items c.args.self.now c.self.view_is in
    has_top s.cells.slots s.lists.items c.self.invariant c.args.list (omega (arith, c.requires.list, many)) c.index.result.now c.index.ensures

pub overflow_add-size : goal.overflow_add-size
overflow_add-size g c =
    let s = c.self.inside in
    let many = inside_seen s.cells.slots s.lists.items c.args.self.now c.self.view_is in
    let free = subst (λ lists. IsFree lists c.args.bracket) (sym c.self.view_is) c.requires.free in
    let fits = size_fits s.cells.slots s.lists.items c.self.invariant c.args.list (omega (arith, c.requires.list, many)) c.index.result.now c.index.ensures c.args.bracket (omega (arith, c.requires.bracket, many)) free in
    omega (arith, fits)

pub invariant_of-self : goal.invariant_of-self
invariant_of-self g c =
    let s = c.self.inside in
    let many = inside_seen s.cells.slots s.lists.items c.args.self.now c.self.view_is in
    let free = subst (λ lists. IsFree lists c.args.bracket) (sym c.self.view_is) c.requires.free in
    rw (c.link_above.ensures, c.or.ensures) (pushed_are s.cells.slots s.lists.items c.self.invariant c.args.list (omega (arith, c.requires.list, many)) c.index.result.now c.index.ensures c.args.bracket (omega (arith, c.requires.bracket, many)) free)

pub returns-clause-lists : goal.returns-clause-lists
returns-clause-lists g c =
    let s = c.self.inside in
    let many = inside_seen s.cells.slots s.lists.items c.args.self.now c.self.view_is in
    let free = subst (λ lists. IsFree lists c.args.bracket) (sym c.self.view_is) c.requires.free in
    let seen = pushed_seen s.cells.slots s.lists.items c.self.invariant c.args.list (omega (arith, c.requires.list, many)) c.index.result.now c.index.ensures c.args.bracket (omega (arith, c.requires.bracket, many)) free in
    rw (c.link_above.ensures, c.or.ensures) (seen ∙ ap (λ lists. set lists c.args.list (c.args.bracket ∷ list_at lists c.args.list)) c.self.view_is)
