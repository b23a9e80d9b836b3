use Rattle.std.proofs.Common.{pos, ◌*◌, ap, sym, subst, ◌∙◌, arith, get_or, List}
use Rattle.std.proofs.lemmas.Int.{ints}
use Rattle.f77_tree.specs.declared.declarations.Dim.{Dim}
use Rattle.f77_tree.specs.Declarations.{AreDims}
use Rattle.f77_tree.specs.Value.{size_of}
use Rattle.alias_classes.proofs.SizeLemmas.{next-size, whole-size, width-nat, width-is}
use Rattle.game_jobs.proofs.store.size.Goals as goal

abbrev no_dim : Dim
no_dim = record { lo = pos 0; hi = pos 0 }

pub width-size-requires-clause-few : goal.width-size-requires-clause-few
width-size-requires-clause-few c =
    let dims = c.as_slice-dim-items.result.now in
    let are : AreDims dims = subst AreDims (sym c.as_slice-dim-items.ensures.items) c.requires in
    let next = next-size dims c.loop-dim.dim-index c.loop-dim.size no_dim are c.loop-dim-test.true c.loop-dim.invariant.some c.loop-dim.invariant.whole in
    let is = width-is (get_or dims c.loop-dim.dim-index no_dim) next.is_dim in
    let few = next.few in
    omega (arith, ints, is, few)

pub overflow_mul-size : goal.overflow_mul-size
overflow_mul-size c =
    let dims = c.as_slice-dim-items.result.now in
    let are : AreDims dims = subst AreDims (sym c.as_slice-dim-items.ensures.items) c.requires in
    let next = next-size dims c.loop-dim.dim-index c.loop-dim.size no_dim are c.loop-dim-test.true c.loop-dim.invariant.some c.loop-dim.invariant.whole in
    let same = ap (λ x. c.loop-dim.size * x) (width-nat c.width-size.result (get_or dims c.loop-dim.dim-index no_dim) c.width-size.ensures) in
    let fits = next.fits in
    omega (arith, same, fits)

pub loop-dim-preserved : goal.loop-dim-preserved
loop-dim-preserved c =
    let dims = c.as_slice-dim-items.result.now in
    let are : AreDims dims = subst AreDims (sym c.as_slice-dim-items.ensures.items) c.requires in
    let next = next-size dims c.loop-dim.dim-index c.loop-dim.size no_dim are c.loop-dim-test.true c.loop-dim.invariant.some c.loop-dim.invariant.whole in
    let same = width-nat c.width-size.result (get_or dims c.loop-dim.dim-index no_dim) c.width-size.ensures in
    rw same (record { some = next.some; whole = next.whole })

pub returns : goal.returns
returns c =
    let dims = c.as_slice-dim-items.result.now in
    let are : AreDims dims = subst AreDims (sym c.as_slice-dim-items.ensures.items) c.requires in
    whole-size dims c.loop-dim.dim-index c.loop-dim.size are c.loop-dim-test.false c.loop-dim.invariant.whole ∙ ap (λ (ds : List Dim). size_of ds) c.as_slice-dim-items.ensures.items
