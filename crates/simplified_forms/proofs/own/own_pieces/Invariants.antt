use Rattle.std.proofs.Common.{◌+◌, drop, length}
use Rattle.std.specs.List.{position_or_len}
use Rattle.simplified_forms.specs.Items.{is_piece_of}
use Rattle.simplified_forms.specs.Tables.{IsTable}
use Rattle.simplified_forms.proofs.own.own_pieces.Given as goal

abbrev pub invariant-loop-node : goal.invariant-loop-node
invariant-loop-node l = IsTable (λ k. l.node + position_or_len (is_piece_of l.p k) (drop l.node l.f.pieces)) (length l.p.execs) l.own.items
