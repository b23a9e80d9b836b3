use Rattle.std.proofs.Common.{◌≡◌, ℕ, suc, List, length, map, sym, ap, subst, ◌∙◌, add-one, arith}
use Rattle.program_units.specs.CallTable.{AreAfter, row_width}
use Rattle.inlined_copies.proofs.SettledWidths.{begun, one-more, same-settled}
use Rattle.inlined_copies.proofs.widths.settled_widths.Goals as goal

pub loop-init : goal.loop-init
loop-init c = begun c.args.limit c.args.rows.now c.in_ok-widths.widths.items

pub loop-preserved : goal.loop-preserved
loop-preserved c =
    let limit = c.args.limit in
    let rows = c.args.rows.now in
    let next = c.in_ok-next.next.items in
    let one : next ≡ map (row_width limit c.loop.widths.items) rows = c.in_ok-next.ensures ∙ ap (λ (ws : List ℕ). map (row_width limit ws) rows) c.deref.ensures.value in
    subst (λ (n : ℕ). AreAfter limit rows n next) (sym (add-one c.loop.counter)) (one-more limit rows c.loop.widths.items c.loop.counter next c.loop.invariant one)

pub returns-then-are_same : goal.returns-then-are_same
returns-then-are_same c =
    let limit = c.args.limit in
    let rows = c.args.rows.now in
    let same : c.in_ok-next.next.items ≡ c.loop.widths.items = sym c.deref-in-loop.ensures.value ∙ c.are_same.ensures c.if-are_same.true ∙ c.deref-in-loop-2.ensures.value in
    let one : c.in_ok-next.next.items ≡ map (row_width limit c.loop.widths.items) rows = c.in_ok-next.ensures ∙ ap (λ (ws : List ℕ). map (row_width limit ws) rows) c.deref.ensures.value in
    same-settled limit rows c.loop.widths.items (sym one ∙ same)

pub returns : goal.returns
returns c =
    let limit = c.args.limit in
    let rows = c.args.rows.now in
    let last = c.in_ok-last.last.items in
    let one : last ≡ map (row_width limit c.loop.widths.items) rows = c.in_ok-last.ensures ∙ ap (λ (ws : List ℕ). map (row_width limit ws) rows) c.deref-2.ensures.value in
    let all : c.loop.counter ≡ length rows = omega arith in
    subst (λ (n : ℕ). AreAfter limit rows (suc n) last) all (one-more limit rows c.loop.widths.items c.loop.counter last c.loop.invariant one)
