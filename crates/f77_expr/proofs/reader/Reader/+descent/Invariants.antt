use Rattle.std.proofs.Common.{◌+◌, ◌*◌, length}
use Rattle.f77_expr.specs.Answers.{IsBegun}
use Rattle.f77_expr.proofs.Lists.{AreBegun}
use Rattle.f77_expr.proofs.reader.Reader.+descent.Given as goal

-- a call that passes no character goes to a function of a lower rank
abbrev pub decreases-arguments : goal.decreases-arguments
decreases-arguments l = 6 * length l.self.now.rest.now + 5

abbrev pub decreases-bracketed : goal.decreases-bracketed
decreases-bracketed l = 6 * length l.self.now.rest.now + 5

abbrev pub decreases-expression : goal.decreases-expression
decreases-expression l = 6 * length l.self.now.rest.now + 4

abbrev pub decreases-operand : goal.decreases-operand
decreases-operand l = 6 * length l.self.now.rest.now + 3

abbrev pub decreases-primary : goal.decreases-primary
decreases-primary l = 6 * length l.self.now.rest.now + 2

abbrev pub decreases-named : goal.decreases-named
decreases-named l = 6 * length l.self.now.rest.now + 1

abbrev pub invariant-expression-loop-op : goal.invariant-expression-loop-op
invariant-expression-loop-op l = IsBegun l.least l.fn.self.rest.now l.fn.self.has_great l.left.expr l.left.level l.self.rest.now l.self.has_great

abbrev pub decreases-expression-loop-op : goal.decreases-expression-loop-op
decreases-expression-loop-op l = length l.self.rest.now

abbrev pub invariant-arguments-loop-alloc : goal.invariant-arguments-loop-alloc
invariant-arguments-loop-alloc l = AreBegun l.fn.self.rest.now l.fn.self.has_great l.list l.self.rest.now l.self.has_great

abbrev pub decreases-arguments-loop-alloc : goal.decreases-arguments-loop-alloc
decreases-arguments-loop-alloc l = length l.self.rest.now
