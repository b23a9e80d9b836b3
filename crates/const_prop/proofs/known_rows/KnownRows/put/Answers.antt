use Rattle.std.proofs.Common.{◌≡◌, ◌+◌, ◌*◌, refl, sym, subst}
use Rattle.const_prop.specs.KnownRows.{edges_of, rows_of, Rows}
use Rattle.const_prop.proofs.KnownRowsLemmas.{value_in-other}
use Rattle.const_prop.proofs.known_rows.KnownRows.put.Goals as goal

pub returns-in-One-clause-others : goal.returns-in-One-clause-others
returns-in-One-clause-others g c =
    let old : Rows g.row.W = rows_of c.self.inside in
    let is : old ≡ c.args.self.now = c.self.view_is in
    let place_is : c.place-place.result ≡ c.args.line * edges_of old + c.args.edge = subst (λ (r : Rows g.row.W). c.place-place.result ≡ c.args.line * edges_of r + c.args.edge) (sym is) c.place-place.ensures.is in
    rw (← is)
    (λ l e. value_in-other old (record old { values = c.set.new.self }) c.args.line c.args.edge _ (rw (← is) at c.requires.edge) refl (rw place_is at c.set.ensures.words) l e)
