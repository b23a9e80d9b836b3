use Rattle.std.proofs.Common.{◌≡◌, map}
use Rattle.std.specs.List.{range_with_len}
use Rattle.net_board.specs.Tokens.{led_from}
use Rattle.net_tables.specs.PartsView.{net_in}
use Rattle.net_tables.proofs.new_board.first_places.Given as goal

abbrev pub invariant-loop-line : goal.invariant-loop-line
invariant-loop-line g l = l.places.items ≡ map (led_from (net_in l.plan) 1) (range_with_len 0 l.line)
