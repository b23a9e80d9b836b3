use Rattle.std.proofs.Common.{◌≡◌, take}
use Rattle.f77_tree.proofs.copies.+copies.Given as goal

abbrev pub invariant-AccessCopied::copy-loop-sub : goal.invariant-AccessCopied::copy-loop-sub
invariant-AccessCopied::copy-loop-sub l = l.copied ≡ take l.sub-index l.sub-items

abbrev pub invariant-ExprCopied::copy-loop-arg : goal.invariant-ExprCopied::copy-loop-arg
invariant-ExprCopied::copy-loop-arg l = l.copied ≡ take l.arg-index l.arg-items
