use Rattle.std.proofs.Common.{◌≡◌, ◌++◌, ◌∷◌, [], ◌<◌, length, get_or, pos, OnOk, sym, ap, subst, ◌∙◌, arith}
use Rattle.f77_tree.specs.declared.declarations.Dim.{Dim}
use Rattle.f77_tree.specs.Value.{dims_in, dims_of}
use Rattle.range_lines.specs.Marks.{bound_flags}
use Rattle.range_lines.proofs.FlagRows.{flags-Apply, flags-Read, bound-next, bounds-all, same-item}
use Rattle.range_lines.proofs.marks.+marking.Goals as goal

abbrev no_dim : Dim
no_dim = record { lo = pos 0; hi = pos 0 }

pub mark-returns-in-Apply : goal.mark-returns-in-Apply
mark-returns-in-Apply t c =
    subst (λ fs. OnOk c.mark_all.result (c.mark_all.new.row ≡ c.args.row.now ++ fs)) (sym (flags-Apply c.args.names.now c.args.current.now c.args.k c.args.e.now c.in-Apply.op c.in-Apply.args c.in-Apply.is)) c.mark_all.ensures

pub mark_access-loop-sub-preserved : goal.mark_access-loop-sub-preserved
mark_access-loop-sub-preserved t c =
    let names = c.args.names.now in
    let kept = c.loop-sub.invariant in
    let dims = c.as_slice-dims.result.now in
    let subs = c.as_slice-sub-items.result.now in
    let counted = kept.counted in
    let as_many = kept.as_many in
    let test = c.loop-sub-test.true in
    let in_subs : c.loop-sub.at < length subs = omega (arith, counted, test) in
    let in_dims : c.loop-sub.at < length dims = omega (arith, as_many, in_subs) in
    record {
      counted = omega (arith, counted);
      as_many = kept.as_many;
      expressions = kept.expressions;
      rest = bound-next names c.args.current.now c.args.k c.loop-sub.row c.mark.new.row c.push.new.self (c.args.row.now ++ bound_flags names c.args.current.now c.args.k dims subs) dims subs c.loop-sub.at (get_or dims c.loop-sub.at no_dim) c.sub-item.result in_dims in_subs (same-item dims c.loop-sub.at no_dim (get_or dims c.loop-sub.at no_dim) in_dims) (c.sub-item.is ∙ ap (λ j. get_or subs j c.sub-item.result) (sym counted)) kept.rest c.in_ok-mark.ensures (c.in_ok-push.ensures ∙ ap (λ flag. c.mark.new.row ++ flag ∷ []) c.is_seen.ensures);
    }

pub mark_access-returns : goal.mark_access-returns
mark_access-returns t c =
    let names = c.args.names.now in
    let access = c.args.access.now in
    let kept = c.loop-sub.invariant in
    let dims = c.as_slice-dims.result.now in
    let subs = c.as_slice-sub-items.result.now in
    let counted = kept.counted in
    let test = c.loop-sub-test.false in
    let same_dims : dims_of names access.name ≡ dims = ap dims_in c.at.ensures.item ∙ sym c.as_slice-dims.ensures.items in
    bounds-all names c.args.current.now c.args.k c.loop-sub.row (c.args.row.now ++ bound_flags names c.args.current.now c.args.k dims subs) dims subs c.loop-sub.at (omega (arith, counted, test)) kept.rest
    ∙ ap (λ ds. c.args.row.now ++ bound_flags names c.args.current.now c.args.k ds subs) (sym same_dims)
    ∙ ap (λ es. c.args.row.now ++ bound_flags names c.args.current.now c.args.k (dims_of names access.name) es) c.as_slice-sub-items.ensures.items
    ∙ ap (λ fs. c.args.row.now ++ fs) (sym (flags-Read names c.args.current.now c.args.k access))
