use Rattle.std.proofs.Common.{◌≡◌, drop}
use Rattle.std.specs.List.{list_any}
use Rattle.std.specs.Str.{bytes_eq}
use Rattle.printed_graphs.specs.Names.{work_text}
use Rattle.printed_graphs.specs.GraphReading.{is_work}
use Rattle.printed_graphs.proofs.words.work_of.Given as goal

abbrev pub invariant-loop-work : goal.invariant-loop-work
invariant-loop-work l = list_any (λ work. bytes_eq (work_text work) l.word) (drop l.work-index l.work-items) ≡ is_work l.word
