use Rattle.std.proofs.Common.{◌≡◌, ◌++◌, filter, map, take}
use Rattle.program_units.specs.Expansion.{is_running, type_of}
use Rattle.program_units.specs.Names.{y_entities}
use Rattle.f77_subs.proofs.merging.Merging.put_types.Given as goal

abbrev pub invariant-loop-i : goal.invariant-loop-i
invariant-loop-i l = l.out.items ≡ l.initial.out.items ++ map (type_of l.self.new.now.text.now.us.now l.self.line) (filter (is_running l.self.new.now.text.now.us.now) (take l.i (y_entities l.self.new.now.text.now.us.now)))
