use Rattle.std.proofs.Common.{◌≡◌, ◌≢◌, ◌<◌, ◌+◌, ℕ, get_or, length, sym, ap, ◌∙◌, refl, subst, arith}
use Rattle.std.proofs.lemmas.List.{get_or_read}
use Rattle.region_tree.specs.Tree.{IsNumber, entry_of, exit_of}
use Rattle.dep_routing.specs.Order.{IsOrdering, IsPutAfter, unmarked}
use Rattle.closed_walks.proofs.Held.{Holds-at}
use Rattle.dep_routing.proofs.Ordering.{IsOrdering-none_before, IsOrdering-before, IsOrder-end, number_at, none_at, one_at, find_at}
use Rattle.dep_routing.proofs.order.regions_in_order.Goals as goal
use Rattle.dep_routing.proofs.order.regions_in_order.Goals.{then-before-ne0+in_ok-place, else-before-ne0}

pub entry-requires : goal.entry-requires
entry-requires c =
    let order = c.loop-done.order.items in
    let more : c.loop-done.done < length order = omega (arith, c.loop-done-test.true, c.len.ensures) in
    let read : c.index.result.now ≡ get_or order c.loop-done.done 0 = get_or_read order c.loop-done.done c.index.result.now more c.index.ensures 0 in
    let number : IsNumber c.args.t.now (get_or order c.loop-done.done 0) = c.loop-done.invariant.numbers (get_or order c.loop-done.done 0) (Holds-at order c.loop-done.done more) in
    subst (λ n. IsNumber c.args.t.now n) (sym read) number

pub index-before-requires : goal.index-before-requires
index-before-requires c =
    let order = c.loop-done.order.items in
    let more : c.loop-done.done < length order = omega (arith, c.loop-done-test.true, c.len.ensures) in
    let read : c.index.result.now ≡ get_or order c.loop-done.done 0 = get_or_read order c.loop-done.done c.index.result.now more c.index.ensures 0 in
    let number : IsNumber c.args.t.now c.index.result.now = subst (λ n. IsNumber c.args.t.now n) (sym read) (c.loop-done.invariant.numbers (get_or order c.loop-done.done 0) (Holds-at order c.loop-done.done more)) in
    omega (arith, (c.requires.exist c.index.result.now number).0, c.entry.ensures, c.requires.left.size, c.args.borders.now.left.ok.0)

pub place-requires : goal.place-requires
place-requires c =
    let order = c.loop-done.order.items in
    let left = c.args.borders.now.left.items in
    let more : c.loop-done.done < length order = omega (arith, c.loop-done-test.true, c.len.ensures) in
    let read : c.index.result.now ≡ get_or order c.loop-done.done 0 = get_or_read order c.loop-done.done c.index.result.now more c.index.ensures 0 in
    let number : IsNumber c.args.t.now c.index.result.now = subst (λ n. IsNumber c.args.t.now n) (sym read) (c.loop-done.invariant.numbers (get_or order c.loop-done.done 0) (Holds-at order c.loop-done.done more)) in
    let before : c.index-before.result.now ≡ get_or left c.entry.result 0 =
    get_or_read left c.entry.result c.index-before.result.now (omega (arith, (c.requires.exist c.index.result.now number).0, c.entry.ensures, c.requires.left.size)) c.index-before.ensures 0 in
    let below = c.requires.left.some c.entry.result (λ none. c.if-before-ne0.true (before ∙ none)) in
    omega (arith, before, below, c.loop-done.invariant.size)

-- one step back: the order goes on, and the work gets less
step : (c : goal.Joined-before-ne0) → IsOrdering c.args.t.now (length c.args.t.now.entries) (c.loop-done.done + 1) c.if-before-ne0.marks.items c.if-before-ne0.order.items
    × (unmarked c.if-before-ne0.marks.items + length c.if-before-ne0.order.items ≡ unmarked c.loop-done.marks.items + length c.loop-done.order.items)
step c =
    let t = c.args.t.now in
    let order = c.loop-done.order.items in
    let marks = c.loop-done.marks.items in
    let left = c.args.borders.now.left.items in
    let done = c.loop-done.done in
    let more : done < length order = omega (arith, c.loop-done-test.true, c.len.ensures) in
    let here = get_or order done 0 in
    let read : c.index.result.now ≡ here = get_or_read order done c.index.result.now more c.index.ensures 0 in
    let number : IsNumber t here = c.loop-done.invariant.numbers here (Holds-at order done more) in
    let e = entry_of t here in
    let is_entry : c.entry.result ≡ e = c.entry.ensures ∙ ap (entry_of t) read in
    let before : c.index-before.result.now ≡ get_or left e 0 =
    get_or_read left c.entry.result c.index-before.result.now (omega (arith, (c.requires.exist here number).0, is_entry, c.requires.left.size)) c.index-before.ensures 0 ∙ ap (λ n. get_or left n 0) is_entry in
    elim c.if-before-ne0.branch [
      | then-before-ne0+in_ok-place w ↦
          let some : get_or left e 0 ≢ 0 = λ none. w.if-before-ne0.true (before ∙ none) in
          let there : IsNumber t (get_or left e 0) = number_at t (length c.args.borders.now.left.items) (exit_of t) left c.requires.left e some in
          rw (w.marks-is, w.order-is)
          (IsOrdering-before t (length t.entries) done marks order c.loop-done.invariant more (get_or left e 0) w.place.new.marks.items w.place.new.order.items there (c.requires.left.right e some)
          (λ q other same. one_at t (length c.args.borders.now.left.items) (exit_of t) left c.requires.left q (get_or left e 0) other there same)
          (λ q other same. one_at t (length c.args.borders.now.entered.items) (entry_of t) c.args.borders.now.entered.items c.requires.entered q here other number same)
          (subst (λ (r : ℕ). IsPutAfter r marks order w.place.new.marks.items w.place.new.order.items) before w.in_ok-place.ensures))
      | else-before-ne0 w ↦
          rw (w.marks-is, w.order-is) (
            IsOrdering-none_before t (length t.entries) done marks order c.loop-done.invariant more
                (λ q other same. none_at t (length c.args.borders.now.left.items) (exit_of t) left c.requires.left e q (sym before ∙ w.if-before-ne0.false) other same),
            refl,
          )
    ]

pub loop-done-smaller : goal.loop-done-smaller
loop-done-smaller c =
    let work = (step c).1 in
    let more : c.loop-done.done < length c.loop-done.order.items = omega (arith, c.loop-done-test.true, c.len.ensures) in
    omega (arith, work, more)

pub loop-done-preserved : goal.loop-done-preserved
loop-done-preserved c = (step c).0

pub returns : goal.returns
returns c =
    let t = c.args.t.now in
    IsOrder-end t c.requires.ranks (λ e. find_at t (length c.args.borders.now.entered.items) (entry_of t) c.args.borders.now.entered.items c.requires.entered e)
    c.loop-done.done c.loop-done.marks.items c.loop-done.order.items c.loop-done.invariant (omega (arith, c.loop-done-test.false, c.len.ensures))
