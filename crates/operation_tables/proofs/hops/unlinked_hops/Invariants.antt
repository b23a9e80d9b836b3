use Rattle.std.proofs.Common.{◌≡◌, ◌+◌, ◌-◌, ◌&&◌, nat_lt, ℕ, All, length, map}
use Rattle.class_set.specs.ClassSet.{holds}
use Rattle.operation_tables.specs.declared.hops.Hop.{Hop}
use Rattle.operation_tables.specs.ScratchLines.{before_at}
use Rattle.operation_tables.specs.Waits.{one_if}
use Rattle.operation_tables.proofs.HopWalks.{IsWalk, end_of}
use Rattle.operation_tables.proofs.hops.unlinked_hops.Given as goal

abbrev pub invariant-loop-next : goal.invariant-loop-next
invariant-loop-next g l =
    let lines = length l.fn.scratch.before.items in
    record {
      walk : IsWalk (holds l.needs) lines l.next (map (λ (hop : Hop). hop.line) l.hops.items);
      before : All (λ (hop : Hop). hop.before ≡ before_at l.fn.scratch hop.line) l.hops.items;
      counts : (k : ℕ) → before_at l.scratch k ≡ before_at l.fn.scratch k + one_if (holds l.needs k && nat_lt k (end_of lines l.next));
      all : length l.scratch.before.items ≡ lines;
      first : l.scratch.first.items ≡ l.fn.scratch.first.items;
    }

abbrev pub decreases-loop-next : goal.decreases-loop-next
decreases-loop-next g l = let lines = length l.fn.scratch.before.items in lines - end_of lines l.next
