use Rattle.std.proofs.Common.{◌≡◌, ◌≤◌, ◌++◌, replicate}
use Rattle.fortran_tree.proofs.print.Printer.lay_out.Given as goal

-- the place of the statement for each line so far
abbrev pub invariant-loop-part : goal.invariant-loop-part
invariant-loop-part l = (l.self.places.items ≡ l.initial.self.places.items ++ replicate l.count l.statement.place) × (l.count ≤ 20)

abbrev pub invariant-loop-byte : goal.invariant-loop-byte
invariant-loop-byte l = l.self.places ≡ l.initial.self.places
