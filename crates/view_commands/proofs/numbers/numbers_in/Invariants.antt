use Rattle.std.proofs.Common.{◌≡◌, drop, None}
use Rattle.view_commands.specs.Numbers.{numbers_on}
use Rattle.view_commands.proofs.NumberLists.{with_rest}
use Rattle.view_commands.proofs.numbers.numbers_in.Given as goal

abbrev pub invariant-loop-c : goal.invariant-loop-c
invariant-loop-c l = with_rest l.all.items l.number (drop l.c-index l.text) ≡ numbers_on None l.text
