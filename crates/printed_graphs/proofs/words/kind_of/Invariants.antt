use Rattle.std.proofs.Common.{◌≡◌, drop}
use Rattle.std.specs.List.{list_any}
use Rattle.std.specs.Str.{bytes_eq}
use Rattle.printed_graphs.specs.Names.{kind_text}
use Rattle.printed_graphs.specs.Reading.{is_kind}
use Rattle.printed_graphs.proofs.words.kind_of.Given as goal

abbrev pub invariant-loop-kind : goal.invariant-loop-kind
invariant-loop-kind l = list_any (λ kind. bytes_eq (kind_text kind) l.word) (drop l.kind-index l.kind-items) ≡ is_kind l.word
