use Rattle.std.proofs.Common.{◌≡◌, Bool, true, false, not, nat_lt, get_or, refl, sym}
use Rattle.std.proofs.lemmas.Option.{slice_get-get_or}
use Rattle.layout_rules.specs.Order.{rank}
use Rattle.f77_tree.specs.declared.statements.Labelled.{Labelled}
use Rattle.inlined_copies.proofs.WholeLists.{stops-at}
use Rattle.f77_subs.proofs.whole_list.declared_first.Goals as goal

not-false : (b : Bool) → false ≡ not b → b ≡ true
not-false true is = refl
not-false false is = let e : false ≡ true = is in absurd cc

pub returns-then-not-is_declared_first-clause-count : goal.returns-then-not-is_declared_first-clause-count
returns-then-not-is_declared_first-clause-count c =
    let main = c.args.main.now in
    let i = c.loop-i.i in
    let s = get_or main i c.index-main-i.result in
    sym (stops-at (λ (s : Labelled). nat_lt 2 (rank s.stmt)) main i s c.loop-i.invariant (slice_get-get_or main i c.index-main-i.result c.loop-i-test.true) (not-false (nat_lt 2 (rank s.stmt)) c.if-not-is_declared_first.ensures))
