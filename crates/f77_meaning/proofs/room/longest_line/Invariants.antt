use Rattle.std.proofs.Common.{◌≡◌, drop, max}
use Rattle.f77_meaning.specs.Room.{most_room}
use Rattle.f77_meaning.proofs.room.longest_line.Given as goal

abbrev pub invariant-loop-exec : goal.invariant-loop-exec
invariant-loop-exec l = max l.most (most_room (drop l.exec-index l.execs)) ≡ most_room l.execs
