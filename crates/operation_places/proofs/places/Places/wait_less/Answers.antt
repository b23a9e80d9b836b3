use Rattle.std.proofs.Common.{◌≡◌, ◌-◌, ◌<◌, ◌≤◌, Bool, List, length, get_or, slice_set, refl, sym, ap, ◌∙◌, subst, arith}
use Rattle.std.proofs.lemmas.List.{get_or_default, length-set}
use Rattle.firing.specs.ReadySet.{has}
use Rattle.operation_tables.specs.Waits.{one_if}
use Rattle.operation_places.specs.Counts.{AreCounts}
use Rattle.operation_places.proofs.CountedNumbers.{less_kept, less_marked, less_outside}
use Rattle.operation_places.proofs.CountsKept.{flags_kept, led_not, none_apart}
use Rattle.operation_places.proofs.places.Places.wait_less.Goals as goal

pub take_in-requires-clause-out : goal.take_in-requires-clause-out
take_in-requires-clause-out c =
    let old = c.args.self.now in
    let items = old.counts.items in
    let was = c.index.result.now in
    let inside : c.args.k < length items = omega (arith, c.if-k-len.true, c.len.ensures) in
    let at : was ≡ get_or items c.args.k 0 = c.index.ensures ∙ get_or_default items c.args.k was 0 inside in
    let low : one_if (has old.apart.items c.args.k) < get_or items c.args.k 0 = c.requires.some inside in
    let none : one_if (has old.apart.items c.args.k) ≡ 0 = omega (arith, at, low, c.if-count-eq0.true) in
    c.requires.right inside (omega (arith, low)) (led_not old.apart.items c.args.k none)

pub returns-then-count-eq0-clause-counts : goal.returns-then-count-eq0-clause-counts
returns-then-count-eq0-clause-counts c count but are =
    let items = c.args.self.now.counts.items in
    let was = c.index.result.now in
    let inside : c.args.k < length items = omega (arith, c.if-k-len.true, c.len.ensures) in
    let at : was - 1 ≡ get_or items c.args.k 0 - 1 = ap (λ n. n - 1) (c.index.ensures ∙ get_or_default items c.args.k was 0 inside) in
    subst (λ (marks : List Bool). AreCounts (length items) count but (slice_set items c.args.k (was - 1)) marks) (sym c.take_in.ensures) (less_marked (length items) count c.args.k but items c.args.self.now.set are inside (was - 1) at c.if-count-eq0.true)

pub returns-else-count-eq0-clause-counts : goal.returns-else-count-eq0-clause-counts
returns-else-count-eq0-clause-counts c count but are =
    let items = c.args.self.now.counts.items in
    let was = c.index.result.now in
    let inside : c.args.k < length items = omega (arith, c.if-k-len.true, c.len.ensures) in
    let at : was - 1 ≡ get_or items c.args.k 0 - 1 = ap (λ n. n - 1) (c.index.ensures ∙ get_or_default items c.args.k was 0 inside) in
    less_kept (length items) count c.args.k but items c.args.self.now.set are inside (was - 1) at c.if-count-eq0.false

pub returns-else-k-len-clause-counts : goal.returns-else-k-len-clause-counts
returns-else-k-len-clause-counts c count but are =
    let items = c.args.self.now.counts.items in
    let outside : length items ≤ c.args.k = omega (arith, c.if-k-len.false, c.len.ensures) in
    less_outside (length items) count c.args.k but items c.args.self.now.set are outside

pub returns-then-count-eq0-clause-kept : goal.returns-then-count-eq0-clause-kept
returns-then-count-eq0-clause-kept c =
    let old = c.args.self.now in
    let items = old.counts.items in
    let was = c.index.result.now in
    let led = old.apart.items in
    let inside : c.args.k < length items = omega (arith, c.if-k-len.true, c.len.ensures) in
    let at : was ≡ get_or items c.args.k 0 = c.index.ensures ∙ get_or_default items c.args.k was 0 inside in
    let low : one_if (has led c.args.k) < get_or items c.args.k 0 = c.requires.some inside in
    let none : one_if (has led c.args.k) ≡ 0 = omega (arith, at, low, c.if-count-eq0.true) in
    record {
      counted = refl;
      marks = ap (λ (marks : List Bool). length marks) c.take_in.ensures ∙ length-set old.set c.args.k _;
      room = omega arith;
      apart = refl;
      flags = λ j is. ap (λ (marks : List Bool). has marks j) c.take_in.ensures ∙ flags_kept led old.set c.args.k _ (none_apart led c.args.k none) j is;
    }
