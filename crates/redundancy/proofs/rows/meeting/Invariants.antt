use Rattle.redundancy.proofs.Meetings.{IsTold}
use Rattle.redundancy.proofs.rows.meeting.Given as goal

abbrev pub invariant-loop-k : goal.invariant-loop-k
invariant-loop-k g l = IsTold l.sets l.set l.k l.word
