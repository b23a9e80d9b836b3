use Rattle.std.proofs.Common.{◌≡◌, ◌+◌, ◌<◌, ◌&&◌, nat_lt, ℕ, Bool, true, Option, Some, None, List, [], ◌∷◌, ◌++◌, length, map, slice_index, slice_set, refl, ap, ◌∙◌, subst, arith, rules, length-set}
use Rattle.std.proofs.lemmas.List.{get_or-set_same, get_or-set_other, map-append}
use Rattle.std.proofs.lemmas.List.Elements.{All-append, All-cons, All-nil}
use Rattle.std.proofs.lemmas.Grind.{get_or_default_zero}
use Rattle.class_set.specs.ClassSet.{holds}
use Rattle.operation_tables.specs.declared.hops.Hop.{Hop}
use Rattle.operation_tables.specs.ScratchLines.{before_at}
use Rattle.operation_tables.specs.Waits.{one_if}
use Rattle.operation_tables.proofs.HopWalks.{IsWalk, walk_begin, walk_more, counts_begin, count_at, counts_more, end_of}
use Rattle.operation_tables.proofs.hops.unlinked_hops.Goals as goal

abbrev line_of : Hop → ℕ
line_of hop = hop.line

-- what is read before a line is one more operation's
line_low : (test : ℕ → Bool) (lines line : ℕ) (next : Option ℕ) (found : List ℕ) → IsWalk test lines next found → next ≡ Some line → ((k : ℕ) → test k ≡ true → k < lines) → line < lines
line_low test lines line next found walk is exist = exist line (subst (λ (o : Option ℕ). IsWalk test lines o found) is walk).member

pub unlinked_hop-requires-clause-line : goal.unlinked_hop-requires-clause-line
unlinked_hop-requires-clause-line g c =
    let low = line_low (holds c.args.needs.now) (length c.args.scratch.now.before.items) c.in-Some.line c.loop-next.next (map line_of c.loop-next.hops.items) c.loop-next.invariant.walk c.in-Some.is c.requires.exist in
    let few = c.requires.lines in
    omega (arith, low, few)

pub unlinked_hop-requires-clause-before : goal.unlinked_hop-requires-clause-before
unlinked_hop-requires-clause-before g c =
    let test = holds c.args.needs.now in
    let old = c.args.scratch.now in
    let lines = length old.before.items in
    let line = c.in-Some.line in
    let counts = c.loop-next.scratch.before.items in
    let inv = c.loop-next.invariant in
    let low = line_low test lines line c.loop-next.next (map line_of c.loop-next.hops.items) inv.walk c.in-Some.is c.requires.exist in
    let counted : (k : ℕ) → before_at c.loop-next.scratch k ≡ before_at old k + one_if (test k && nat_lt k line) = subst (λ (o : Option ℕ). (k : ℕ) → before_at c.loop-next.scratch k ≡ before_at old k + one_if (test k && nat_lt k (end_of lines o))) c.in-Some.is inv.counts in
    let inside : line < length counts = rw inv.all low in
    let read : c.index-before.result.now ≡ slice_index counts line = c.index-before.ensures ∙ get_or_default_zero counts line c.index-before.result.now inside in
    let same : c.index-before.result.now ≡ before_at old line = read ∙ count_at test lines line low (before_at old) (before_at c.loop-next.scratch) counted in
    let few = c.requires.few line in
    omega (arith, same, few)

pub loop-next-init : goal.loop-next-init
loop-next-init g c =
    let test = holds c.args.needs.now in
    let lines = length c.args.scratch.now.before.items in
    record {
      walk = rw c.in_ok-hops.ensures.items (walk_begin test lines c.next_after-next.result c.next_after-next.ensures.next);
      before = rw c.in_ok-hops.ensures.items (search rules);
      counts = counts_begin test lines (before_at c.args.scratch.now) c.next_after-next.result c.next_after-next.ensures.next;
      all = refl;
      first = refl;
    }

pub loop-next-preserved : goal.loop-next-preserved
loop-next-preserved g c =
    let test = holds c.args.needs.now in
    let old = c.args.scratch.now in
    let lines = length old.before.items in
    let line = c.in-Some.line in
    let next = c.next_after-next-in-Some in
    let hops = c.loop-next.hops.items in
    let counts = c.loop-next.scratch.before.items in
    let hop : Hop = record { line = line; before = c.index-before.result.now; next = None } in
    let inv = c.loop-next.invariant in
    let walk : IsWalk test lines (Some line) (map line_of hops) = subst (λ (o : Option ℕ). IsWalk test lines o (map line_of hops)) c.in-Some.is inv.walk in
    let low : line < lines = c.requires.exist line walk.member in
    let counted : (k : ℕ) → before_at c.loop-next.scratch k ≡ before_at old k + one_if (test k && nat_lt k line) = subst (λ (o : Option ℕ). (k : ℕ) → before_at c.loop-next.scratch k ≡ before_at old k + one_if (test k && nat_lt k (end_of lines o))) c.in-Some.is inv.counts in
    let pushed : c.push.new.self.items ≡ hops ++ hop ∷ [] = c.in_ok-push.ensures.items ∙ ap (λ (h : Hop). hops ++ h ∷ []) c.unlinked_hop.ensures in
    let inside : line < length counts = rw inv.all low in
    let read : c.index-before.result.now ≡ slice_index counts line = c.index-before.ensures ∙ get_or_default_zero counts line c.index-before.result.now inside in
    let same : c.index-before.result.now ≡ before_at old line = read ∙ count_at test lines line low (before_at old) (before_at c.loop-next.scratch) counted in
    record {
      walk = rw pushed (rw (map-append line_of hops (hop ∷ [])) (walk_more test lines line low next.result (map line_of hops) walk next.ensures.next));
      before = rw pushed (All-append (λ (h : Hop). h.before ≡ before_at old h.line) hops (hop ∷ []) inv.before (All-cons (λ (h : Hop). h.before ≡ before_at old h.line) hop [] same (All-nil (λ (h : Hop). h.before ≡ before_at old h.line))));
      counts = counts_more test lines line low (before_at old) (before_at c.loop-next.scratch) (λ k. slice_index (slice_set counts line (c.index-before.result.now + 1)) k) counted walk.member
          (get_or-set_same counts line (c.index-before.result.now + 1) 0 inside ∙ ap (λ n. n + 1) read)
          (λ k apart. get_or-set_other counts line k (c.index-before.result.now + 1) 0 apart) next.result next.ensures.next;
      all = length-set counts line (c.index-before.result.now + 1) ∙ inv.all;
      first = inv.first;
    }
