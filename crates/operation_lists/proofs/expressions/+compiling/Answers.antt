use Rattle.std.proofs.Common.{◌≡◌, ℕ, ◌+◌, ◌<◌, ◌*ℤ◌, pos, map, get_or, length, List, All, ℤ, w32, to_z, of_z, refl, sym, ap, subst, ◌∙◌, arith}
use mir.Val.{SFits}
use Rattle.std.specs.Prelude.{sum_by}
use Rattle.std.proofs.lemmas.Int.{to_z-of_z}
use Rattle.std.proofs.lemmas.Option.{get_or_from_slice_get, slice_get-get_or}
use Rattle.f77_tree.specs.declared.declarations.Dim.{Dim}
use Rattle.f77_tree.specs.declared.expressions.Expr.{Expr}
use Rattle.f77_tree.specs.Known.{known}
use Rattle.f77_tree.specs.Operations.{operations}
use Rattle.f77_tree.specs.Value.{dims_in, dims_of, extent, IsExpression}
use Rattle.f77_tree.proofs.Places.{IsOrdered}
use Rattle.op_board.specs.Operations.{Compiled, CompiledRow, Known, Load, compiled, operated, place_moved, place_operands, with_operation}
use Rattle.operation_lists.specs.Seen.{operand_seen, operation_seen, compiled_seen}
use Rattle.operation_lists.proofs.CompiledLists.{compiled-Apply, compiled-Read, place-Read, subscripts_compiled, subscripts-next}
use Rattle.operation_lists.proofs.DimensionParts.{HasParts, part-at, name-parts}
use Rattle.operation_lists.proofs.ListLemmas.{IfOk-then, OnOk-then, sum_left}
use Rattle.operation_lists.proofs.expressions.+compiling.Goals as goal

pub compile-returns-in-Input-clause-can : goal.compile-returns-in-Input-clause-can
compile-returns-in-Input-clause-can t c = OnOk-then c.push_operation.result (λ next. next c.args.p.now c.requires.can tt) c.push_operation.ensures.can

pub compile-returns-in_ok-operands-in-Apply-clause-can : goal.compile-returns-in_ok-operands-in-Apply-clause-can
compile-returns-in_ok-operands-in-Apply-clause-can t c = OnOk-then c.operate.result (λ next. next c.args.p.now c.in_ok-operands-in-Apply.ensures.can) c.operate.ensures.can

pub compile-returns-in_ok-operands-in-Apply-clause-compiled : goal.compile-returns-in_ok-operands-in-Apply-clause-compiled
compile-returns-in_ok-operands-in-Apply-clause-compiled t c =
    let names = c.args.p.now.names in
    let start = map operation_seen c.args.done.now.items in
    let op = c.in-Apply.op in
    let same = ap (λ (r : CompiledRow). operated r.done op r.operands) c.in_ok-operands-in-Apply.ensures.compiled ∙ sym (compiled-Apply names start op c.in-Apply.args) ∙ ap (compiled names start) (sym c.in-Apply.is) in
    IfOk-then c.operate.result (λ operand is. is ∙ same) c.operate.ensures.compiled

pub compile_load-returns-clause-compiled : goal.compile_load-returns-clause-compiled
compile_load-returns-clause-compiled t c =
    let names = c.args.p.now.names in
    let start = map operation_seen c.args.done.now.items in
    let access = c.args.access.now in
    let between = map operation_seen c.compile_place.new.done.items in
    let work = Load access.name (map known access.subs) in
    let same = ap (with_operation between work) c.in_ok-operands.ensures.operands ∙ ap (λ (r : Compiled). with_operation r.done work (place_operands access.subs r.operand)) c.in_ok-place.ensures.compiled ∙ sym (compiled-Read names start access) in
    IfOk-then c.push_operation.result (λ operand is. is ∙ same) c.push_operation.ensures.compiled

pub compile_load-returns-clause-can : goal.compile_load-returns-clause-can
compile_load-returns-clause-can t c = OnOk-then c.push_operation.result (λ next. next c.args.p.now c.in_ok-place.ensures.can c.requires.access) c.push_operation.ensures.can

pub compile_subscript-returns-clause-can : goal.compile_subscript-returns-clause-can
compile_subscript-returns-clause-can t c = OnOk-then c.move_place.result (λ next. next c.args.p.now c.in_ok-v.ensures.can) c.move_place.ensures.can

-- ---- compile_place

pub compile_place-loop-sub-init : goal.compile_place-loop-sub-init
compile_place-loop-sub-init t c =
    let names = c.args.p.now.names in
    let start = map operation_seen c.args.done.now.items in
    let access = c.args.access.now in
    let is = c.requires.access in
    let parts = name-parts names access.name c.args.p.now.words c.requires.places is.known in
    let dims : dims_of names access.name ≡ c.as_slice-dims.result.now = ap dims_in c.at.ensures.item ∙ sym c.as_slice-dims.ensures.items in
    let subs = c.as_slice-sub-items.ensures.items in
    record {
      counted = refl;
      as_many = ap length subs ∙ is.as_many ∙ ap length dims;
      expressions = subst (λ (es : List Expr). All (IsExpression names) es) (sym subs) is.subscripts;
      can = c.requires.can;
      bounds = subst (All IsOrdered) dims parts.bounds;
      parts = subst (λ (ds : List Dim). HasParts ds (pos 1)) dims parts.parts;
      compiled = ap (λ (ds : List Dim). subscripts_compiled names start ds (pos 1) (Known (pos 0)) c.as_slice-sub-items.result.now) (sym dims) ∙ ap (λ (es : List Expr). subscripts_compiled names start (dims_of names access.name) (pos 1) (Known (pos 0)) es) subs ∙ sym (place-Read names start access);
      few = let same = ap (sum_by (λ e. 2 + operations e)) subs in omega (arith, same);
    }

-- a read past its default
item-is : {X : Type 0} (xs : List X) (k : ℕ) (d : X) → k < length xs → get_or xs k d ≡ get_or xs k (get_or xs k d)
item-is xs k d lt = sym (get_or_from_slice_get xs k (get_or xs k d) (get_or xs k d) (slice_get-get_or xs k d lt))

abbrev no_dim : Dim
no_dim = record { lo = pos 0; hi = pos 0 }

pub compile_place-width-size-requires-clause-few : goal.compile_place-width-size-requires-clause-few
compile_place-width-size-requires-clause-few t c =
    let dims = c.as_slice-dims.result.now in
    let k = c.loop-sub.k in
    let kept = c.loop-sub.invariant in
    let counted = kept.counted in
    let as_many = kept.as_many in
    let test = c.loop-sub-test.true in
    let lt : k < length dims = omega (arith, counted, as_many, test) in
    (part-at dims k (get_or dims k no_dim) (to_z w32 c.loop-sub.size-bits) lt (item-is dims k no_dim lt) kept.bounds kept.parts).few

width-back : (z e : ℤ) → z ≡ e → SFits w32 e → to_z w32 (of_z w32 z) ≡ e
width-back z e is f = ap (λ x. to_z w32 (of_z w32 x)) is ∙ to_z-of_z w32 e f

pub compile_place-overflow_mul-size : goal.compile_place-overflow_mul-size
compile_place-overflow_mul-size t c =
    let dims = c.as_slice-dims.result.now in
    let k = c.loop-sub.k in
    let dim = get_or dims k no_dim in
    let size = to_z w32 c.loop-sub.size-bits in
    let kept = c.loop-sub.invariant in
    let counted = kept.counted in
    let as_many = kept.as_many in
    let test = c.loop-sub-test.true in
    let lt : k < length dims = omega (arith, counted, as_many, test) in
    let next = part-at dims k dim size lt (item-is dims k no_dim lt) kept.bounds kept.parts in
    subst (λ e. SFits w32 (size *ℤ e)) (sym (width-back c.width-size.result (extent dim) c.width-size.ensures next.width)) next.size_word

pub compile_place-loop-sub-preserved : goal.compile_place-loop-sub-preserved
compile_place-loop-sub-preserved t c =
    let names = c.args.p.now.names in
    let dims = c.as_slice-dims.result.now in
    let subs = c.as_slice-sub-items.result.now in
    let sub = c.sub-item.result in
    let k = c.loop-sub.k in
    let dim = get_or dims k no_dim in
    let size = to_z w32 c.loop-sub.size-bits in
    let kept = c.loop-sub.invariant in
    let counted = kept.counted in
    let as_many = kept.as_many in
    let test = c.loop-sub-test.true in
    let lt : k < length dims = omega (arith, counted, as_many, test) in
    let lt_sub : k < length subs = omega (arith, counted, test) in
    let at_sub : sub ≡ get_or subs k sub = subst (λ i. sub ≡ get_or subs i sub) (sym counted) c.sub-item.is in
    let next = part-at dims k dim size lt (item-is dims k no_dim lt) kept.bounds kept.parts in
    let width = c.width-size.result in
    let larger : to_z w32 (of_z w32 (size *ℤ to_z w32 (of_z w32 width))) ≡ size *ℤ extent dim = ap (λ e. to_z w32 (of_z w32 (size *ℤ e))) (width-back width (extent dim) c.width-size.ensures next.width) ∙ to_z-of_z w32 (size *ℤ extent dim) next.size_word in
    let done = map operation_seen c.loop-sub.done.items in
    let place = operand_seen c.loop-sub.place in
    let moved = compiled_seen c.compile_subscript.new.done.items c.in_ok-place.place in
    let is : moved ≡ place_moved place dim size (compiled names done sub) = c.in_ok-place.ensures.compiled in
    let one_more = subscripts-next names done dims subs k dim sub size place moved lt (item-is dims k no_dim lt) lt_sub at_sub is in
    record {
      counted = omega (arith, counted);
      as_many = as_many;
      expressions = kept.expressions;
      can = c.in_ok-place.ensures.can;
      bounds = next.rest;
      parts = rw (larger) next.parts;
      compiled = rw (larger) (sym one_more ∙ kept.compiled);
      few = let left = sum_left (λ e. 2 + operations e) subs k sub lt_sub at_sub in let room = kept.few in let added = c.in_ok-place.ensures.few in omega (arith, left, room, added);
    }
