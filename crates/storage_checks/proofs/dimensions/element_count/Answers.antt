use Rattle.std.proofs.Common.{◌≡◌, ◌+◌, ◌*◌, false, not, pos, get_or, drop, sym, ap, ◌∙◌, rules, w32}
use mir.Val.{SFits}
use Rattle.std.specs.Prelude.{int_lt}
use Rattle.std.proofs.lemmas.Int.{to_z-of_z}
use Rattle.std.proofs.lemmas.List.{get_or_default}
use Rattle.f77_tree.specs.declared.declarations.Dim.{Dim}
use Rattle.layout_rules.proofs.ElementCounts.{is_too_large, too_large-next, too_large-more}
use Rattle.storage_checks.proofs.dimensions.element_count.Goals as goal

pub returns-then-elements-gt-MOST_ELEMENTS-clause-wrong : goal.returns-then-elements-gt-MOST_ELEMENTS-clause-wrong
returns-then-elements-gt-MOST_ELEMENTS-clause-wrong c =
    let dims = c.args.dims.now in
    let i = c.loop-dim.dim-index in
    let dim : Dim = get_or dims i (record { lo = pos 0; hi = pos 0 }) in
    let fits_lo : SFits w32 dim.lo = search rules in
    let fits_hi : SFits w32 dim.hi = search rules in
    let forward : int_lt dim.hi dim.lo ≡ false = rw (to_z-of_z w32 dim.lo fits_lo, to_z-of_z w32 dim.hi fits_hi) at c.if-dim.false in
    let count = c.extent-elements.ensures.extent in
    let is = get_or_default dims i (record { lo = pos 0; hi = pos 0 }) dim c.loop-dim-test.true in
    ap not (sym (c.loop-dim.invariant.faults ∙ too_large-next c.loop-dim.elements dims i dim c.loop-dim-test.true is forward ∙ ap (λ n. is_too_large (c.loop-dim.elements * n) (drop (i + 1) dims)) (sym count) ∙ too_large-more (c.loop-dim.elements * c.extent-elements.result) (drop (i + 1) dims) c.if-elements-gt-MOST_ELEMENTS.true))
