use Rattle.std.proofs.Common.{◌≡◌, ℕ, ◌<◌, take, sum_by}
use Rattle.cfg_build.specs.Joined.{width}
use Rattle.cfg_build.specs.Tables.{number_in, HasRoom}
use Rattle.cfg_build.proofs.PieceNumbers.{part_at, first_piece}
use Rattle.cfg_build.proofs.numbers.numbers.Given as goal

abbrev pub invariant-loop-part : goal.invariant-loop-part
invariant-loop-part l = record {
  room : HasRoom l.execs l.numbers;
  next : l.next ≡ sum_by (width l.parts) (take l.part-index l.parts);
  numbers : (j : ℕ) → j < l.part-index → number_in l.numbers (part_at l.parts j).own ≡ first_piece l.parts j;
}
