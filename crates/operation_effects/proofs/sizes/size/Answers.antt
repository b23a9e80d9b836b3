use Rattle.std.proofs.Common.{pos, ◌*◌, ◌≤ℤ◌, All, ap, sym, subst, ◌∙◌, arith, get_or, List}
use Rattle.std.proofs.lemmas.Int.{ints}
use Rattle.f77_tree.specs.declared.declarations.Dim.{Dim}
use Rattle.f77_tree.specs.Value.{size_of}
use Rattle.f77_tree.proofs.Places.{IsOrdered, extent-pos}
use Rattle.operation_effects.proofs.ArraySizes.{next_size, whole_size, width_nat}
use Rattle.operation_effects.proofs.sizes.size.Goals as goal

abbrev no_dim : Dim
no_dim = record { lo = pos 0; hi = pos 0 }

pub width-size-requires-clause-few : goal.width-size-requires-clause-few
width-size-requires-clause-few c =
    let dims = c.as_slice-dim-items.result.now in
    let all : All IsOrdered dims = subst (All IsOrdered) (sym c.as_slice-dim-items.ensures.items) c.requires.order in
    let most : size_of dims ≤ℤ pos 2147483647 = subst (λ (ds : List Dim). size_of ds ≤ℤ pos 2147483647) (sym c.as_slice-dim-items.ensures.items) c.requires.few in
    let next = next_size dims c.loop-dim.dim-index c.loop-dim.size no_dim all most c.loop-dim-test.true c.loop-dim.invariant.some c.loop-dim.invariant.whole in
    let is = extent-pos (get_or dims c.loop-dim.dim-index no_dim) next.order in
    let few = next.few in
    omega (arith, ints, is, few)

pub overflow_mul-size : goal.overflow_mul-size
overflow_mul-size c =
    let dims = c.as_slice-dim-items.result.now in
    let all : All IsOrdered dims = subst (All IsOrdered) (sym c.as_slice-dim-items.ensures.items) c.requires.order in
    let most : size_of dims ≤ℤ pos 2147483647 = subst (λ (ds : List Dim). size_of ds ≤ℤ pos 2147483647) (sym c.as_slice-dim-items.ensures.items) c.requires.few in
    let next = next_size dims c.loop-dim.dim-index c.loop-dim.size no_dim all most c.loop-dim-test.true c.loop-dim.invariant.some c.loop-dim.invariant.whole in
    let same = ap (λ x. c.loop-dim.size * x) (width_nat c.width-size.result (get_or dims c.loop-dim.dim-index no_dim) c.width-size.ensures) in
    let fits = next.fits in
    omega (arith, same, fits)

pub loop-dim-preserved : goal.loop-dim-preserved
loop-dim-preserved c =
    let dims = c.as_slice-dim-items.result.now in
    let all : All IsOrdered dims = subst (All IsOrdered) (sym c.as_slice-dim-items.ensures.items) c.requires.order in
    let most : size_of dims ≤ℤ pos 2147483647 = subst (λ (ds : List Dim). size_of ds ≤ℤ pos 2147483647) (sym c.as_slice-dim-items.ensures.items) c.requires.few in
    let next = next_size dims c.loop-dim.dim-index c.loop-dim.size no_dim all most c.loop-dim-test.true c.loop-dim.invariant.some c.loop-dim.invariant.whole in
    let same = width_nat c.width-size.result (get_or dims c.loop-dim.dim-index no_dim) c.width-size.ensures in
    rw same (record { some = next.some; whole = next.whole })

pub returns : goal.returns
returns c =
    let dims = c.as_slice-dim-items.result.now in
    let all : All IsOrdered dims = subst (All IsOrdered) (sym c.as_slice-dim-items.ensures.items) c.requires.order in
    whole_size dims c.loop-dim.dim-index c.loop-dim.size all c.loop-dim-test.false c.loop-dim.invariant.whole ∙ ap (λ (ds : List Dim). size_of ds) c.as_slice-dim-items.ensures.items
