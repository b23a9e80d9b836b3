use Rattle.std.proofs.Common.{◌≡◌, ◌++◌, length}
use Rattle.std.specs.Fmt.{decimal}
use Rattle.printed_graphs.specs.Reading.{digits_on, long_number_at}
use Rattle.printed_graphs.proofs.cursor.number_at.Given as goal

abbrev pub invariant-loop-n : goal.invariant-loop-n
invariant-loop-n l = record {
  text : l.text ≡ decimal l.n ++ l.rest;
  after : digits_on l.n l.rest ≡ long_number_at l.text;
}

abbrev pub decreases-loop-n : goal.decreases-loop-n
decreases-loop-n l = length l.rest
