use Rattle.std.proofs.Common.{◌≡◌, drop}
use Rattle.std.specs.List.{list_any}
use Rattle.std.specs.Str.{bytes_eq}
use Rattle.printed_graphs.specs.Names.{trap_text}
use Rattle.printed_graphs.specs.GraphReading.{is_trap}
use Rattle.printed_graphs.proofs.words.trap_of.Given as goal

abbrev pub invariant-loop-trap : goal.invariant-loop-trap
invariant-loop-trap l = list_any (λ trap. bytes_eq (trap_text trap) l.word) (drop l.trap-index l.trap-items) ≡ is_trap l.word
