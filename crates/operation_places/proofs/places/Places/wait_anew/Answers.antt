use Rattle.std.proofs.Common.{◌≡◌, ◌+◌, ◌<◌, ◌≤◌, ℕ, Bool, List, length, get_or, set, sym, ◌∙◌, subst, arith}
use Rattle.std.proofs.lemmas.List.{get_or_default}
use Rattle.operation_places.specs.Counts.{AreCounts, more_of}
use Rattle.operation_places.proofs.CountedNumbers.{anew_kept, anew_marked, anew_outside}
use Rattle.operation_places.proofs.places.Places.wait_anew.Goals.{else-count-eq0-via-then-count-eq0+else-more-gt0, else-count-eq0-via-else-count-eq0}
use Rattle.operation_places.proofs.places.Places.wait_anew.Goals as goal

pub returns-then-more-gt0-clause-counts : goal.returns-then-more-gt0-clause-counts
returns-then-more-gt0-clause-counts c count but are =
    let items = c.args.self.now.counts.items in
    let now = c.index-count.result.now in
    let inside : c.args.k < length items = omega (arith, c.if-k-len.true, c.len.ensures) in
    let at : now ≡ get_or items c.args.k 0 = c.index-count.ensures ∙ get_or_default items c.args.k now 0 inside in
    subst (λ (n : ℕ). AreCounts (length items) (more_of count c.args.k c.args.more) but (set items c.args.k (now + n)) c.take_out.new.self) (sym c.from.ensures)
    (subst (λ (marks : List Bool). AreCounts (length items) (more_of count c.args.k c.args.more) but (set items c.args.k (now + c.args.more)) marks) (sym c.take_out.ensures)
    (anew_marked (length items) count c.args.k c.args.more but items c.args.self.now.set are inside now at c.if-more-gt0.true))

pub returns-else-count-eq0-clause-counts : goal.returns-else-count-eq0-clause-counts
returns-else-count-eq0-clause-counts c count but are =
    let items = c.args.self.now.counts.items in
    let now = c.index-count.result.now in
    let inside : c.args.k < length items = omega (arith, c.if-k-len.true, c.len.ensures) in
    let at : now ≡ get_or items c.args.k 0 = c.index-count.ensures ∙ get_or_default items c.args.k now 0 inside in
    let none : now ≡ 0 → c.args.more ≡ 0 = elim c.else-count-eq0.branch [
      | else-count-eq0-via-then-count-eq0+else-more-gt0 w ↦ λ e. omega (arith, w.if-more-gt0.false)
      | else-count-eq0-via-else-count-eq0 w ↦ λ e. absurd (w.if-count-eq0.false e)
    ] in
    subst (λ (n : ℕ). AreCounts (length items) (more_of count c.args.k c.args.more) but (set items c.args.k (now + n)) c.args.self.now.set) (sym c.from.ensures)
    (anew_kept (length items) count c.args.k c.args.more but items c.args.self.now.set are inside now at none)

pub returns-else-k-len-clause-counts : goal.returns-else-k-len-clause-counts
returns-else-k-len-clause-counts c count but are =
    let items = c.args.self.now.counts.items in
    let outside : length items ≤ c.args.k = omega (arith, c.if-k-len.false, c.len.ensures) in
    anew_outside (length items) count c.args.k c.args.more but items c.args.self.now.set are outside
