use Rattle.std.proofs.Common.{◌≡◌, ◌<◌, ◌^◌, take}
use Rattle.std.specs.Char.{is_ascii_digit}
use Rattle.std.specs.List.{filter}
use Rattle.fixed_form.specs.Columns.{number}
use Rattle.fixed_form.proofs.line.number_in.Given as goal

abbrev pub invariant-loop-c : goal.invariant-loop-c
invariant-loop-c l = record {
  value : l.number ≡ number (filter is_ascii_digit (take l.c-index l.field));
  small : l.number < 10 ^ l.c-index;
}
