use Rattle.std.proofs.Common.{◌≡◌, ◌==◌, drop}
use Rattle.std.specs.List.{list_any}
use Rattle.view_output.proofs.shown_lines.holds.Given as goal

abbrev pub invariant-loop-found : goal.invariant-loop-found
invariant-loop-found l = list_any (λ n. n == l.number) (drop l.found-index l.numbers) ≡ list_any (λ n. n == l.number) l.numbers
