use Rattle.std.proofs.Common.{◌≡◌, ◌+◌, ◌<◌, ◌≤◌, Bool, List, length, get_or, slice_set, refl, sym, ap, ◌∙◌, subst, arith}
use Rattle.std.proofs.lemmas.List.{get_or_default, length-set}
use Rattle.firing.specs.ReadySet.{has}
use Rattle.operation_tables.specs.Waits.{one_if}
use Rattle.operation_places.specs.Counts.{AreCounts, one_more}
use Rattle.operation_places.proofs.CountedNumbers.{more_kept, more_marked, more_outside}
use Rattle.operation_places.proofs.CountsKept.{flags_kept, none_apart}
use Rattle.operation_places.proofs.places.Places.wait_more.Goals as goal

pub returns-then-count-eq0-clause-counts : goal.returns-then-count-eq0-clause-counts
returns-then-count-eq0-clause-counts c count but are =
    let items = c.args.self.now.counts.items in
    let now = c.index-count.result.now in
    let inside : c.args.k < length items = omega (arith, c.if-k-len.true, c.len.ensures) in
    let at : now ≡ get_or items c.args.k 0 = c.index-count.ensures ∙ get_or_default items c.args.k now 0 inside in
    subst (λ (marks : List Bool). AreCounts (length items) (one_more count c.args.k) but (slice_set items c.args.k (now + 1)) marks) (sym c.leave_out.ensures) (more_marked (length items) count c.args.k but items c.args.self.now.set are inside now at)

pub returns-else-count-eq0-clause-counts : goal.returns-else-count-eq0-clause-counts
returns-else-count-eq0-clause-counts c count but are =
    let items = c.args.self.now.counts.items in
    let now = c.index-count.result.now in
    let inside : c.args.k < length items = omega (arith, c.if-k-len.true, c.len.ensures) in
    let at : now ≡ get_or items c.args.k 0 = c.index-count.ensures ∙ get_or_default items c.args.k now 0 inside in
    more_kept (length items) count c.args.k but items c.args.self.now.set are inside now at c.if-count-eq0.false

pub returns-else-k-len-clause-counts : goal.returns-else-k-len-clause-counts
returns-else-k-len-clause-counts c count but are =
    let items = c.args.self.now.counts.items in
    let outside : length items ≤ c.args.k = omega (arith, c.if-k-len.false, c.len.ensures) in
    more_outside (length items) count c.args.k but items c.args.self.now.set are outside

pub returns-then-count-eq0-clause-kept : goal.returns-then-count-eq0-clause-kept
returns-then-count-eq0-clause-kept c =
    let old = c.args.self.now in
    let items = old.counts.items in
    let now = c.index-count.result.now in
    let led = old.apart.items in
    let inside : c.args.k < length items = omega (arith, c.if-k-len.true, c.len.ensures) in
    let at : now ≡ get_or items c.args.k 0 = c.index-count.ensures ∙ get_or_default items c.args.k now 0 inside in
    let low : one_if (has led c.args.k) ≤ get_or items c.args.k 0 = c.requires.apart inside in
    let none : one_if (has led c.args.k) ≡ 0 = omega (arith, at, low, c.if-count-eq0.true) in
    record {
      counted = refl;
      marks = ap (λ (marks : List Bool). length marks) c.leave_out.ensures ∙ length-set old.set c.args.k _;
      room = omega arith;
      apart = refl;
      flags = λ j is. ap (λ (marks : List Bool). has marks j) c.leave_out.ensures ∙ flags_kept led old.set c.args.k _ (none_apart led c.args.k none) j is;
    }
