use Rattle.std.proofs.Common.{◌≡◌, min, take}
use Rattle.f77_tree.specs.Grammar.{number_of}
use Rattle.f77_expr.proofs.characters.bounded_number.Given as goal

abbrev pub invariant-loop-digit : goal.invariant-loop-digit
invariant-loop-digit l = l.number ≡ min (number_of (take l.digit-index l.digits)) 2147483648
