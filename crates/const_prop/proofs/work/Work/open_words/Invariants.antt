use Rattle.dep_routing.specs.Touch.{touches_in}
use Rattle.const_prop.specs.Work.{IsSettlingFrom, no_line, no_piece}
use Rattle.const_prop.proofs.work.Work.open_words.Given as goal

abbrev pub invariant-loop-word : goal.invariant-loop-word
invariant-loop-word g l = IsSettlingFrom l.s.program.now l.s.flow.now l.s.classes.now (touches_in l.s.touch.now) l.s.lines.now l.word l.s.lines.now.lines no_line no_piece l.self
