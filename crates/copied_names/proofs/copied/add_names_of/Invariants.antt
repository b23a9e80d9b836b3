use Rattle.std.proofs.Common.{◌≡◌, ◌++◌, take, map}
use Rattle.copied_names.specs.CopiedNames.{copied_name}
use Rattle.copied_names.proofs.copied.add_names_of.Given as goal

abbrev pub invariant-loop-i : goal.invariant-loop-i
invariant-loop-i l = l.names.items ≡ l.initial.names.items ++ map (copied_name l.new.text.now.us.now l.k l.subroutine) (take l.i l.all)
