use Rattle.std.proofs.Common.{◌≡◌, ◌+◌, ◌++◌, length, take}
use Rattle.std.specs.Prelude.{reverse}
use Rattle.layout_rules.specs.Executables.{increments, loops_to, at_line}
use Rattle.executable_lists.proofs.executables.Maker.increments.Given as goal

abbrev pub invariant-loop-outer : goal.invariant-loop-outer
invariant-loop-outer l =
    let names = l.self.names.now in
    let whole = l.self.stmts.now in
    record {
      size : length l.execs + l.outer ≡ length l.initial.execs + length l.loops;
      execs : l.execs ++ at_line l.s.line (increments names whole l.place (length l.execs) (reverse (take l.outer l.loops))) ≡ l.initial.execs ++ at_line l.s.line (increments names whole l.place (length l.initial.execs) (loops_to whole l.s.label));
    }
