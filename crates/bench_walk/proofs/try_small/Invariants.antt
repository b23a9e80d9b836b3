use Rattle.std.proofs.Common.{◌≤◌}
use Rattle.bench_walk.proofs.try_small.Given as goal

abbrev pub invariant-loop : goal.invariant-loop
invariant-loop l = l.tried ≤ l.counter

abbrev pub ghosts-classes_of : goal.ghosts-classes_of
ghosts-classes_of a = record { name = a.blank.name; parts = a.blank.parts }
