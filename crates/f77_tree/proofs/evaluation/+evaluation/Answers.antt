use Rattle.std.proofs.Common.{rules, nat_abs, ◌≡◌, ℕ, ◌+◌, ◌<◌, ◌<ℤ◌, ℤ, pos, ◌*ℤ◌, List, length, map, take, drop, get_or, Option, Some, Result, Ok, Err, All, refl, ap, sym, subst, ◌∙◌, w32, to_z, of_z, arith}
use Rattle.std.specs.Prelude.{slice_get}
use mir.Val.{SFits}
use Rattle.std.proofs.lemmas.Int.{to_z-of_z, ints}
use Rattle.std.proofs.lemmas.List.{take_more_set}
use Rattle.std.proofs.lemmas.Option.{unwrap_or-slice_get, get_or_from_slice_get, slice_get-get_or}
use Rattle.op_table.specs.declared.Trap.{Trap}
use Rattle.f77_tree.specs.declared.declarations.Dim.{Dim}
use Rattle.f77_tree.specs.declared.declarations.Kind.{Kind}
use Rattle.f77_tree.specs.declared.expressions.Access.{Access}
use Rattle.f77_tree.specs.declared.expressions.Expr.{Expr, Read, Apply}
use Rattle.f77_tree.specs.declared.programs.NameInfo.{NameInfo}
use Rattle.f77_tree.specs.Value.{value, and_then, place, all_values, moved, subscripted, extent, dims_in, dims_of, place_in, place_of, kind_in, kind_of, read_as, word_at, read_of, IsExpression}
use Rattle.f77_tree.proofs.ExpressionLemmas.{weights, All-at, weight, weight-Read, weight-Apply, weight-at, value-Apply, value-Read, IsExpression-access, IsExpression-arity, IsExpression-operands, arity_of-le, values_after-none, values_after-next}
use Rattle.f77_tree.proofs.Places.{IsOrdered, IsAt, place-inside, name-taken, count_end, has_next, at-words, subscripted-next, subscripted-trap, subscripted-outside}
use Rattle.f77_tree.proofs.evaluation.+evaluation.Goals as goal

-- ---- evaluate

pub evaluate-locate-requires : goal.evaluate-locate-requires
evaluate-locate-requires t c =
    (let w = weight-Read c.in-Read.access in let i = ap weight c.in-Read.is in let d = c.decreases in omega (arith, d, i, w), (IsExpression-access c.args.names.now c.in-Read.access (subst (λ (e : Expr). IsExpression c.args.names.now e) c.in-Read.is c.requires.expression), c.requires.places))

pub evaluate-evaluate-requires : goal.evaluate-evaluate-requires
evaluate-evaluate-requires t c =
    let at = weight-at c.as_slice-arg-items.result.now c.loop-arg.arg-index c.arg-item.result c.loop-arg-test.true c.arg-item.is in
    let same = ap weights c.as_slice-arg-items.ensures.items in
    let w = weight-Apply c.in-Apply.op c.in-Apply.args in
    let i = ap weight c.in-Apply.is in
    let d = c.decreases in
    (omega (arith, d, i, w, same, at), (All-at (IsExpression c.args.names.now) c.as_slice-arg-items.result.now c.loop-arg.arg-index c.arg-item.result c.loop-arg-test.true c.arg-item.is c.loop-arg.invariant.expressions, c.requires.places))

pub evaluate-returns-in_err-word-in-Read : goal.evaluate-returns-in_err-word-in-Read
evaluate-returns-in_err-word-in-Read t c =
    let names = c.args.names.now in
    let store = c.args.store.now in
    let access = c.in-Read.access in
    let was : place names store c.args.next access ≡ Err c.in_err-word-in-Read.field-0.0 = search rules in
    let is : c.from_residual.result ≡ Err c.in_err-word-in-Read.field-0.0 = search rules in
    is ∙ sym (ap (λ (e : Expr). value names store c.args.next e) c.in-Read.is ∙ value-Read names store c.args.next access ∙ ap (read_of names store access.name) was)

pub evaluate-bounds-store-word : goal.evaluate-bounds-store-word
evaluate-bounds-store-word t c =
    let names = c.args.names.now in
    let is = IsExpression-access names c.in-Read.access (subst (λ (e : Expr). IsExpression names e) c.in-Read.is c.requires.expression) in
    let was : place names c.args.store.now c.args.next c.in-Read.access ≡ Ok c.in_ok-word-in-Read.word = search rules in
    place-inside names c.args.store.now c.args.next c.in-Read.access c.in_ok-word-in-Read.word c.requires.places is was

pub evaluate-loop-arg-init : goal.evaluate-loop-arg-init
evaluate-loop-arg-init t c =
    let names = c.args.names.now in
    let store = c.args.store.now in
    let next = c.args.next in
    let op = c.in-Apply.op in
    let operands = c.as_slice-arg-items.result.now in
    let items = c.as_slice-arg-items.ensures.items in
    let is_whole : IsExpression names (Apply op operands) = subst (λ (es : List Expr). IsExpression names (Apply op es)) (sym items) (subst (λ (e : Expr). IsExpression names e) c.in-Apply.is c.requires.expression) in
    let as_many = IsExpression-arity names op operands is_whole in
    record {
      counted = refl;
      as_many = as_many;
      few = omega (arith, as_many, arity_of-le op);
      room = search rules;
      expressions = IsExpression-operands names op operands is_whole;
      values = values_after-none (all_values (map (value names store next) operands));
      whole = sym (value-Apply names store next op operands) ∙ ap (λ (es : List Expr). value names store next (Apply op es)) items ∙ ap (λ (e : Expr). value names store next e) (sym c.in-Apply.is);
    }

pub evaluate-loop-arg-preserved : goal.evaluate-loop-arg-preserved
evaluate-loop-arg-preserved t c =
    let names = c.args.names.now in
    let store = c.args.store.now in
    let next = c.args.next in
    let y = c.in_ok-operands-in-Apply.field-0 in
    let fits : SFits w32 y = search rules in
    let was : value names store next c.arg-item.result ≡ Ok y = search rules in
    let operands = c.loop-arg.operands in
    let n = c.loop-arg.arg-index in
    let i = c.loop-arg.count in
    let kept = c.loop-arg.invariant in
    let room : i < length operands = omega (arith, kept.room, kept.few, kept.counted, c.loop-arg-test.true) in
    record {
      counted = search rules;
      as_many = kept.as_many;
      few = kept.few;
      room = search rules;
      expressions = kept.expressions;
      values = rw (to_z-of_z w32 y fits, take_more_set operands i y room) (sym (values_after-next (value names store next) c.as_slice-arg-items.result.now n c.arg-item.result (take i operands) y c.loop-arg-test.true c.arg-item.is was) ∙ kept.values);
      whole = kept.whole;
    }

-- what is read at the word of an access
read-value : (names : List NameInfo) (store : List ℤ) (next : Option ℤ) (access : Access) (w : ℕ) (info : NameInfo) (z : ℤ) → w < length store → slice_get names access.name ≡ Some info → place names store next access ≡ Ok w → z ≡ read_as info.kind (get_or store w (pos 0)) → Ok z ≡ value names store next (Read access)
read-value names store next access w info z lt at was is =
    let known : kind_of names access.name ≡ info.kind = ap kind_in at in
    let word : word_at store w ≡ get_or store w (pos 0) = unwrap_or-slice_get store w (pos 0) in
    sym (value-Read names store next access ∙ ap (read_of names store access.name) was ∙ ap (λ (k : Kind). Ok (read_as k (word_at store w))) known ∙ ap (λ x. Ok (read_as info.kind x)) word ∙ ap (λ x. Ok x) (sym is))

pub evaluate-returns-in_ok-word-in-Read : goal.evaluate-returns-in_ok-word-in-Read
evaluate-returns-in_ok-word-in-Read t c =
    let names = c.args.names.now in
    let store = c.args.store.now in
    let w = c.in_ok-word-in-Read.word in
    let z = c.read.result in
    let x = get_or store w (pos 0) in
    let access = c.in-Read.access in
    let was : place names store c.args.next access ≡ Ok w = search rules in
    let is = IsExpression-access names access (subst (λ (e : Expr). IsExpression names e) c.in-Read.is c.requires.expression) in
    let lt = place-inside names store c.args.next access w c.requires.places is was in
    let fits : SFits w32 z = search rules in
    let fits_x : SFits w32 x = search rules in
    let said : z ≡ read_as c.at.result.now.kind x = c.read.ensures ∙ ap (read_as c.at.result.now.kind) (to_z-of_z w32 x fits_x) in
    ap (λ y. Ok y) (to_z-of_z w32 z fits) ∙ read-value names store c.args.next access w c.at.result.now z lt c.at.ensures.item was said ∙ ap (λ (e : Expr). value names store c.args.next e) (sym c.in-Read.is)

-- ---- locate

pub locate-overflow_cast-word : goal.locate-overflow_cast-word
locate-overflow_cast-word t c =
    let names = c.args.names.now in
    let taken = name-taken names c.args.access.now.name (length c.args.store.now) c.requires.places c.requires.access.known in
    let words = at-words (dims_of names c.args.access.now.name) (place_of names c.args.access.now.name) (count_end names c.args.access.now.name) (pos 1) (pos (place_of names c.args.access.now.name)) taken.few taken.bounds taken.start in
    subst (λ (n : ℕ). SFits w32 (pos n)) (ap place_in c.at-info.ensures.item) words.place_word

pub locate-loop-sub-init : goal.locate-loop-sub-init
locate-loop-sub-init t c =
    let names = c.args.names.now in
    let store = c.args.store.now in
    let name = c.args.access.now.name in
    let access = c.requires.access in
    let taken = name-taken names name (length store) c.requires.places access.known in
    let words = at-words (dims_of names name) (place_of names name) (count_end names name) (pos 1) (pos (place_of names name)) taken.few taken.bounds taken.start in
    let dims : dims_of names name ≡ c.as_slice-dims.result.now = ap dims_in c.at-info.ensures.item ∙ sym c.as_slice-dims.ensures.items in
    let first : pos (place_of names name) ≡ pos c.at-info.result.now.place = ap (λ info. pos (place_in info)) c.at-info.ensures.item in
    let begun : to_z w32 c.at-info.result.now.place ≡ pos (place_of names name) = to_z-of_z w32 (pos c.at-info.result.now.place) (subst (SFits w32) first words.place_word) ∙ sym first in
    let subs = c.as_slice-sub-items.ensures.items in
    record {
      counted = refl;
      as_many = ap length subs ∙ access.as_many ∙ ap length dims;
      expressions = subst (λ (es : List Expr). All (IsExpression names) es) (sym subs) access.subscripts;
      bounds = subst (All IsOrdered) dims taken.bounds;
      few = taken.few;
      here = subst (λ (ds : List Dim). IsAt ds (place_of names name) (count_end names name) (pos 1) (to_z w32 c.at-info.result.now.place)) dims (subst (λ p. IsAt (dims_of names name) (place_of names name) (count_end names name) (pos 1) p) (sym begun) taken.start);
      rest = ap (λ p. subscripted c.as_slice-dims.result.now (pos 1) p (map (value names store c.args.next) c.as_slice-sub-items.result.now)) begun ∙ ap (λ (ds : List Dim). subscripted ds (pos 1) (pos (place_of names name)) (map (value names store c.args.next) c.as_slice-sub-items.result.now)) (sym dims) ∙ ap (λ (es : List Expr). subscripted (dims_of names name) (pos 1) (pos (place_of names name)) (map (value names store c.args.next) es)) subs;
    }

-- a read past its default
item-is : {X : Type 0} (xs : List X) (k : ℕ) (d : X) → k < length xs → get_or xs k d ≡ get_or xs k (get_or xs k d)
item-is xs k d lt = sym (get_or_from_slice_get xs k (get_or xs k d) (get_or xs k d) (slice_get-get_or xs k d lt))

abbrev no_dim : Dim
no_dim = record { lo = pos 0; hi = pos 0 }

pub locate-evaluate-requires : goal.locate-evaluate-requires
locate-evaluate-requires t c =
    let at = weight-at c.as_slice-sub-items.result.now c.loop-sub.sub-index c.sub-item.result c.loop-sub-test.true c.sub-item.is in
    let same = ap weights c.as_slice-sub-items.ensures.items in
    let d = c.decreases in
    (omega (arith, d, same, at), (All-at (IsExpression c.args.names.now) c.as_slice-sub-items.result.now c.loop-sub.sub-index c.sub-item.result c.loop-sub-test.true c.sub-item.is c.loop-sub.invariant.expressions, c.requires.places))

pub locate-returns-in_err-v : goal.locate-returns-in_err-v
locate-returns-in_err-v t c =
    let f = value c.args.names.now c.args.store.now c.args.next in
    let dims = c.as_slice-dims.result.now in
    let subs = c.as_slice-sub-items.result.now in
    let k = c.loop-sub.k in
    let sub = c.sub-item.result in
    let kept = c.loop-sub.invariant in
    let size = to_z w32 c.loop-sub.size-bits in
    let p = to_z w32 c.loop-sub.word-bits in
    let trap = c.in_err-v.field-0.0 in
    let counted = kept.counted in
    let as_many = kept.as_many in
    let test = c.loop-sub-test.true in
    let lt_sub : k < length subs = omega (arith, counted, test) in
    let lt_dim : k < length dims = omega (arith, lt_sub, as_many) in
    let at_sub : sub ≡ get_or subs k sub = subst (λ i. sub ≡ get_or subs i sub) (sym counted) c.sub-item.is in
    let was : f sub ≡ Err trap = search rules in
    let is : c.from_residual.result ≡ Err trap = search rules in
    let trapped = subscripted-trap f dims subs k (get_or dims k no_dim) sub size p trap lt_dim (item-is dims k no_dim lt_dim) lt_sub at_sub was in
    is ∙ sym (ap (λ (r : Result ℤ Trap). and_then (λ q. Ok (nat_abs q)) r) (sym kept.rest ∙ trapped))

pub locate-returns-in_err-word : goal.locate-returns-in_err-word
locate-returns-in_err-word t c =
    let f = value c.args.names.now c.args.store.now c.args.next in
    let dims = c.as_slice-dims.result.now in
    let subs = c.as_slice-sub-items.result.now in
    let k = c.loop-sub.k in
    let sub = c.sub-item.result in
    let kept = c.loop-sub.invariant in
    let size = to_z w32 c.loop-sub.size-bits in
    let p = to_z w32 c.loop-sub.word-bits in
    let v = c.in_ok-v.v in
    let trap = c.in_err-word.field-0.0 in
    let counted = kept.counted in
    let as_many = kept.as_many in
    let test = c.loop-sub-test.true in
    let lt_sub : k < length subs = omega (arith, counted, test) in
    let lt_dim : k < length dims = omega (arith, lt_sub, as_many) in
    let at_sub : sub ≡ get_or subs k sub = subst (λ i. sub ≡ get_or subs i sub) (sym counted) c.sub-item.is in
    let was : f sub ≡ Ok v = search rules in
    let shifted : moved size (get_or dims k no_dim) p v ≡ Err trap = search rules in
    let is : c.from_residual-in_err-word.result ≡ Err trap = search rules in
    let trapped = subscripted-outside f dims subs k (get_or dims k no_dim) sub size p v trap lt_dim (item-is dims k no_dim lt_dim) lt_sub at_sub was shifted in
    is ∙ sym (ap (λ (r : Result ℤ Trap). and_then (λ q. Ok (nat_abs q)) r) (sym kept.rest ∙ trapped))

pub locate-width-size-requires-clause-few : goal.locate-width-size-requires-clause-few
locate-width-size-requires-clause-few t c =
    let names = c.args.names.now in
    let name = c.args.access.now.name in
    let dims = c.as_slice-dims.result.now in
    let k = c.loop-sub.k in
    let kept = c.loop-sub.invariant in
    let counted = kept.counted in
    let as_many = kept.as_many in
    let test = c.loop-sub-test.true in
    let lt : k < length dims = omega (arith, counted, as_many, test) in
    (has_next dims k (get_or dims k no_dim) (place_of names name) (count_end names name) (to_z w32 c.loop-sub.size-bits) (to_z w32 c.loop-sub.word-bits) lt (item-is dims k no_dim lt) kept.few kept.bounds kept.here).few

extent-word : (dim : Dim) → IsOrdered dim → extent dim <ℤ pos 2147483648 → SFits w32 (extent dim)
extent-word dim is few = omega (arith, ints, is, few)

width-back : (z e : ℤ) → z ≡ e → SFits w32 e → to_z w32 (of_z w32 z) ≡ e
width-back z e is f = ap (λ x. to_z w32 (of_z w32 x)) is ∙ to_z-of_z w32 e f

pub locate-overflow_mul-size : goal.locate-overflow_mul-size
locate-overflow_mul-size t c =
    let names = c.args.names.now in
    let name = c.args.access.now.name in
    let dims = c.as_slice-dims.result.now in
    let k = c.loop-sub.k in
    let dim = get_or dims k no_dim in
    let kept = c.loop-sub.invariant in
    let size = to_z w32 c.loop-sub.size-bits in
    let p = to_z w32 c.loop-sub.word-bits in
    let v = c.in_ok-v.v in
    let q = c.in_ok-word.word in
    let counted = kept.counted in
    let as_many = kept.as_many in
    let test = c.loop-sub-test.true in
    let lt : k < length dims = omega (arith, counted, as_many, test) in
    let shifted : moved size dim p v ≡ Ok q = search rules in
    let next = has_next dims k dim (place_of names name) (count_end names name) size p lt (item-is dims k no_dim lt) kept.few kept.bounds kept.here in
    let wide : SFits w32 (extent dim) = extent-word dim next.is_dim next.few in
    let words = at-words (drop (k + 1) dims) (place_of names name) (count_end names name) (size *ℤ extent dim) q kept.few next.rest (next.goes_on v q shifted) in
    subst (λ e. SFits w32 (size *ℤ e)) (sym (width-back c.width-size.result (extent dim) c.width-size.ensures wide)) words.size_word

pub locate-loop-sub-preserved : goal.locate-loop-sub-preserved
locate-loop-sub-preserved t c =
    let names = c.args.names.now in
    let name = c.args.access.now.name in
    let dims = c.as_slice-dims.result.now in
    let k = c.loop-sub.k in
    let dim = get_or dims k no_dim in
    let kept = c.loop-sub.invariant in
    let size = to_z w32 c.loop-sub.size-bits in
    let p = to_z w32 c.loop-sub.word-bits in
    let v = c.in_ok-v.v in
    let q = c.in_ok-word.word in
    let counted = kept.counted in
    let as_many = kept.as_many in
    let test = c.loop-sub-test.true in
    let lt : k < length dims = omega (arith, counted, as_many, test) in
    let shifted : moved size dim p v ≡ Ok q = search rules in
    let next = has_next dims k dim (place_of names name) (count_end names name) size p lt (item-is dims k no_dim lt) kept.few kept.bounds kept.here in
    let wide : SFits w32 (extent dim) = extent-word dim next.is_dim next.few in
    let words = at-words (drop (k + 1) dims) (place_of names name) (count_end names name) (size *ℤ extent dim) q kept.few next.rest (next.goes_on v q shifted) in
    let f = value names c.args.store.now c.args.next in
    let subs = c.as_slice-sub-items.result.now in
    let sub = c.sub-item.result in
    let width = c.width-size.result in
    let larger : to_z w32 (of_z w32 (size *ℤ to_z w32 (of_z w32 width))) ≡ size *ℤ extent dim = ap (λ e. to_z w32 (of_z w32 (size *ℤ e))) (width-back width (extent dim) c.width-size.ensures wide) ∙ to_z-of_z w32 (size *ℤ extent dim) words.size_word in
    let further : to_z w32 (of_z w32 q) ≡ q = to_z-of_z w32 q words.place_word in
    let lt_sub : k < length subs = omega (arith, counted, test) in
    let at_sub : sub ≡ get_or subs k sub = subst (λ i. sub ≡ get_or subs i sub) (sym counted) c.sub-item.is in
    let was : f sub ≡ Ok v = search rules in
    let one_more = subscripted-next f dims subs k dim sub size p v q lt (item-is dims k no_dim lt) lt_sub at_sub was shifted in
    record {
      counted = omega (arith, counted);
      as_many = as_many;
      expressions = kept.expressions;
      bounds = next.rest;
      few = kept.few;
      here = rw (larger, further) (next.goes_on v q shifted);
      rest = rw (larger, further) (sym one_more ∙ kept.rest);
    }
