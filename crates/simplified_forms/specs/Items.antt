-- The executables of a program that its simplified form keeps: those to which control can come by the decisions of a table.
use Rattle.std.specs.Prelude.{◌≡◌, ◌↔◌, ℕ, Bool, true, false, not, ◌&&◌, ◌==◌, Some, slice_get}
use Rattle.std.specs.List.{range_with_len, position_or_len}
use Rattle.closed_walks.specs.Graph.{edge_count, to}
use Rattle.f77_tree.specs.declared.programs.Exec.{Exec}
use Rattle.f77_tree.specs.declared.programs.ExecKind.{ExecKind}
use Rattle.f77_tree.specs.declared.programs.ExecKind.TheVariants as exec
use Rattle.f77_tree.specs.declared.programs.Program.{Program}
use Rattle.f77_tree.specs.Loops.{do_start}
use Rattle.cfg_build.specs.declared.pieces.Piece.{Piece}
use Rattle.cfg_build.specs.declared.pieces.PieceKind.{PieceKind}
use Rattle.cfg_build.specs.declared.pieces.PieceKind.TheVariants.{Act, Pass, Branch, End}
use Rattle.cfg_build.specs.Flow.{flow}
use Rattle.cfg_build.specs.Passes.{kind_in}
use Rattle.const_prop.specs.Live.{IsLive}
use Rattle.const_prop.specs.Table.{Knowns}

-- ---- own pieces

abbrev pub begins_do : ExecKind → Bool
begins_do (exec.DoStart loop_no var first last step body exit) = true
begins_do _ = false

-- whether a piece of this kind runs its executable: so do all but the start, joins, holds, and the test of a DO
abbrev pub is_own : PieceKind → ExecKind → Bool
is_own Act kind = true
is_own Pass kind = true
is_own Branch kind = not (begins_do kind)
is_own End kind = true
is_own _ kind = false

module _ (p : Program) where
  abbrev pub kind_at : (k : ℕ) → ExecKind
  kind_at k = kind_in (slice_get p.execs k)

  abbrev pub is_piece_of : (k : ℕ) → Piece → Bool
  is_piece_of k piece = (piece.exec == k) && is_own piece.kind (kind_at k)

  -- the piece that runs an executable; the number of pieces, where control can't come to the executable and none does
  abbrev pub own_piece : (k : ℕ) → ℕ
  own_piece k = position_or_len (is_piece_of k) (flow p.execs).pieces

  -- the edge to it
  abbrev pub own_edge : (k : ℕ) → ℕ
  own_edge k = let g = (flow p.execs).graph in position_or_len (λ e. to g e == own_piece k) (range_with_len 0 (edge_count g))

  -- ---- what is kept

  module _ (t : Knowns) where
    -- control can come to the piece
    pub record IsEnteredPiece (piece : ℕ) : Type 0 where
      pub edge : ℕ
      pub live : IsLive p t edge
      pub ends : to (flow p.execs).graph edge ≡ piece

    -- control can come to the piece that runs the executable
    abbrev pub IsEntered : (k : ℕ) → Type 0
    IsEntered k = IsEnteredPiece (own_piece k)

    -- END is kept, and with the beginning of a DO its increment
    abbrev pub IsKeptKind : (k : ℕ) → ExecKind → Type 0
    IsKeptKind k exec.End = Unit {0}
    IsKeptKind k (exec.DoNext loop_no var body exit) = IsEntered (do_start p.execs loop_no)
    IsKeptKind k kind = IsEntered k

    -- an item: an executable that is kept
    pub record IsItem (k : ℕ) : Type 0 where
      pub exec : Exec
      pub found : slice_get p.execs k ≡ Some exec
      pub kept : IsKeptKind k exec.kind

    -- the test tells of each executable whether it is kept
    abbrev pub AreItems : (is_item : ℕ → Bool) → Type 0
    AreItems is_item = (k : ℕ) → (is_item k ≡ true) ↔ IsItem k
