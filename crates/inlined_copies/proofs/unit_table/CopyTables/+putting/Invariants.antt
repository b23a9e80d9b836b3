use Rattle.std.proofs.Common.{◌≡◌, ◌+◌, ◌*◌, ◌++◌, drop}
use Rattle.inlined_copies.specs.Changes.{changes_of}
use Rattle.inlined_copies.specs.PutCopies.{labels_in, pieces_of}
use Rattle.inlined_copies.proofs.unit_table.CopyTables.+putting.Given as goal

-- a call that follows no CALL goes to a function of a lower rank
abbrev pub decreases-put_copy : goal.decreases-put_copy
decreases-put_copy l = 4 * l.depth

abbrev pub decreases-put_pieces : goal.decreases-put_pieces
decreases-put_pieces l = 4 * l.depth + 3

abbrev pub decreases-put_piece : goal.decreases-put_piece
decreases-put_piece l = 4 * l.depth + 2

abbrev pub decreases-put_call : goal.decreases-put_call
decreases-put_call l = 4 * l.depth + 1

abbrev pub invariant-put_pieces-loop-s : goal.invariant-put_pieces-loop-s
invariant-put_pieces-loop-s l = record {
  labels : l.stood + labels_in l.self l.k (drop l.s-index l.stmts) ≡ l.before + labels_in l.self l.k l.stmts;
  put : l.out.items ++ pieces_of l.self l.depth l.k (changes_of l.copy) l.stood (drop l.s-index l.stmts) ≡ l.initial.out.items ++ pieces_of l.self l.depth l.k (changes_of l.copy) l.before l.stmts;
}
