-- The lines of pieces, one after another.
use Rattle.std.proofs.Common.{◌≡◌, ℕ, ◌+◌, ◌<◌, ◌≤◌, ◌^◌, List, Option, Some, length, slice_get, ⊎_elim, sym, subst, arith}
use Rattle.std.proofs.Math.Nat.{eq-or-lt_of_le}
use Rattle.cfg_build.specs.declared.pieces.Piece.{Piece}
use Rattle.cfg_build.specs.Flow.{piece_in, piece_at}
use Rattle.printed_laws.specs.ShortFlow.{AreShortBelow}

up_to : (node k : ℕ) → node < k + 1 → node ≤ k
up_to node k lt = omega arith

pub one_more_short : (pieces : List Piece) (k : ℕ) (piece : Piece) → AreShortBelow pieces k → slice_get pieces k ≡ Some piece → piece.line < 2 ^ 32 → AreShortBelow pieces (k + 1)
one_more_short pieces k piece before is short node lt =
    ⊎_elim
    (λ (last : node ≡ k). subst (λ n. (piece_at pieces n).line < 2 ^ 32) (sym last) (subst (λ (found : Option Piece). (piece_in found).line < 2 ^ 32) (sym is) short))
    (λ (low : node < k). before node low)
    (eq-or-lt_of_le (up_to node k lt))

below_all : (node n k end : ℕ) → node < n → end ≤ k → end ≡ n → node < k
below_all node n k end lt le is = omega arith

pub all_short : (pieces : List Piece) (k end : ℕ) → AreShortBelow pieces k → end ≤ k → end ≡ length pieces → AreShortBelow pieces (length pieces)
all_short pieces k end before le is node lt = before node (below_all node (length pieces) k end lt le is)
