use Rattle.std.proofs.Common.{◌≡◌, take}
use Rattle.f77_tree.proofs.copies.RawExprCopied.+copy.Given as goal

abbrev pub invariant-loop-arg : goal.invariant-loop-arg
invariant-loop-arg l = l.copied ≡ take l.arg-index l.arg-items

abbrev pub invariant-loop-operand : goal.invariant-loop-operand
invariant-loop-operand l = l.copied ≡ take l.operand-index l.operand-items
