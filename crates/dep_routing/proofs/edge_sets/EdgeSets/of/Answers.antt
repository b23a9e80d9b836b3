use Rattle.std.proofs.Common.{◌≡◌, ◌<◌, ◌∙◌, length, get_or, sym, ap, subst}
use Rattle.std.proofs.lemmas.List.{get_or_read}
use Rattle.dep_routing.specs.Touch.{touches_in}
use Rattle.dep_routing.proofs.SetTables.{touches-read}
use Rattle.dep_routing.proofs.edge_sets.EdgeSets.of.Goals as goal

pub returns : goal.returns
returns g c = λ line.
    let sets = c.args.self.now.sets.items in
    let numbers = c.args.self.now.set_of.items in
    let number : c.index.result.now ≡ get_or numbers c.args.edge 0 = get_or_read numbers c.args.edge c.index.result.now c.requires.edge c.index.ensures 0 in
    let inside : c.index.result.now < length sets = subst (λ k. k < length sets) (sym number) c.requires.there in
    touches-read sets c.index.result.now line c.index-2.result.now inside c.index-2.ensures ∙ ap (λ k. touches_in sets k line) number
