-- What stands at each piece of the joined graph, and how many ways lead on from it.
use Rattle.std.proofs.Common.{◌≡◌, ℕ, zero, suc, ◌<◌, ◌⊎◌, true, List, [], ◌∷◌, length, get_or, map, refl, ap, subst, inl, inr, ⊎_elim, arith}
use Rattle.f77_tree.specs.declared.programs.Exec.{Exec}
use Rattle.f77_tree.specs.declared.programs.ExecKind.{ExecKind}
use Rattle.cfg_build.specs.declared.parts.Part.{Part}
use Rattle.cfg_build.specs.declared.pieces.Piece.{Piece}
use Rattle.cfg_build.specs.declared.pieces.PieceKind.TheVariants as piece
use Rattle.cfg_build.specs.Parts.{parts, parts_of, start_part, end_part}
use Rattle.cfg_build.specs.Joined.{Row, is_joined, join_row, part_row, rows}
use Rattle.cfg_build.specs.Flow.{piece_at}
use Rattle.list_laws.specs.Member.{Member}
use Rattle.cfg_build.proofs.PieceNumbers.{part_at, first_piece, own_piece, row_of_join, row_of_part, own_below, first_below}
use Rattle.cfg_build.proofs.PartsFound.{IsExecPart, cases_part}

-- a part of an executable acts or passes, and has one way on; or it branches
abbrev pub IsExecKind : Part → Type 0
IsExecKind p = ((p.piece.kind ≡ piece.Act) × (length p.outs ≡ 1)) ⊎ (((p.piece.kind ≡ piece.Pass) × (length p.outs ≡ 1)) ⊎ (p.piece.kind ≡ piece.Branch))

kind_of : (p q : Part) → q ≡ p → IsExecKind q → IsExecKind p
kind_of p q same k = subst (λ (x : Part). IsExecKind x) same k

exec_kind : (execs : List Exec) (k line : ℕ) (kind : ExecKind) (p : Part) → Member (parts_of execs k line kind) p → IsExecKind p
exec_kind execs k line h p none = grind (arith, kind_of)

-- the start, a part of an executable, or the end
pub cases_kind : (execs : List Exec) (p : Part) → Member (parts execs) p → (start_part ≡ p) ⊎ (IsExecKind p ⊎ (end_part execs ≡ p))
cases_kind execs p m = ⊎_elim
    (λ (same : start_part ≡ p). inl same)
    (⊎_elim
    (λ (r : IsExecPart execs p). inr (inl (exec_kind execs r.at r.exec.line r.exec.kind p r.among)))
    (λ (same : end_part execs ≡ p). inr (inr same)))
    (cases_part execs p m)

-- ---- what stands at a piece

abbrev pub pieces_of : List Part → List Piece
pieces_of ps = map (λ row. row.piece) (rows ps)

piece_of_row : (rs : List Row) (k : ℕ) (r : Row) → k < length rs → ((d : Row) → get_or rs k d ≡ r) → piece_at (map (λ (row : Row). row.piece) rs) k ≡ r.piece
piece_of_row [] k r some is = absurd (omega (arith, some))
piece_of_row (q ∷ rs) zero r some is = ap (λ (x : Row). x.piece) (is r)
piece_of_row (q ∷ rs) (suc k) r some is = piece_of_row rs k r (omega (arith, some)) is

pub piece_of_join : (ps : List Part) (j : ℕ) → j < length ps → is_joined ps (part_at ps j) ≡ true → piece_at (pieces_of ps) (first_piece ps j) ≡ (join_row ps (part_at ps j)).piece
piece_of_join ps j some joined = piece_of_row (rows ps) (first_piece ps j) (join_row ps (part_at ps j)) (first_below ps j some) (λ d. row_of_join ps j d some joined)

pub piece_of_part : (ps : List Part) (j : ℕ) → j < length ps → piece_at (pieces_of ps) (own_piece ps j) ≡ (part_at ps j).piece
piece_of_part ps j some = piece_of_row (rows ps) (own_piece ps j) (part_row ps (part_at ps j)) (own_below ps j some) (λ d. row_of_part ps j d some)

pub join_kind : (ps : List Part) (j : ℕ) → j < length ps → is_joined ps (part_at ps j) ≡ true → (piece_at (pieces_of ps) (first_piece ps j)).kind ≡ piece.Join
join_kind ps j some joined = ap (λ (x : Piece). x.kind) (piece_of_join ps j some joined)

pub part_kind : (ps : List Part) (j : ℕ) → j < length ps → (piece_at (pieces_of ps) (own_piece ps j)).kind ≡ (part_at ps j).piece.kind
part_kind ps j some = ap (λ (x : Piece). x.kind) (piece_of_part ps j some)

length_pieces_of : (rs : List Row) → length (map (λ (row : Row). row.piece) rs) ≡ length rs
length_pieces_of [] = refl
length_pieces_of (r ∷ rs) = ap suc (length_pieces_of rs)

pub length_pieces : (ps : List Part) → length (pieces_of ps) ≡ length (rows ps)
length_pieces ps = length_pieces_of (rows ps)
