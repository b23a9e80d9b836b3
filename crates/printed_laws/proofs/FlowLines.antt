-- The lines of pieces, edges and regions, as both sides write them.
use Rattle.std.proofs.Common.{◌≡◌, ℕ, ◌+◌, List, [], ◌∷◌, ◌++◌, codes, refl, ap, ◌∙◌}
use Rattle.std.specs.Fmt.{decimal}
use Rattle.cfg_build.specs.declared.pieces.Piece.{Piece}
use Rattle.cfg_build.specs.declared.pieces.PieceKind.{PieceKind}
use Rattle.cfg_build.specs.declared.pieces.PieceKind.TheVariants.{Start, Act, Pass, Branch, Join, Hold, End}
use Rattle.graph_jobs.specs.Regions.{kind_name, piece_line, edge_line, region_line}
use Rattle.printed_graphs.specs.declared.flow.Edge as printed_edge
use Rattle.printed_graphs.specs.declared.flow.Piece as printed_piece
use Rattle.printed_graphs.specs.declared.flow.PieceKind as printed_kind
use Rattle.printed_graphs.specs.declared.flow.PieceKind.TheVariants as kind
use Rattle.printed_graphs.specs.declared.flow.Region.{Region}
use Rattle.printed_graphs.specs.Names.{kind_text}
use Rattle.printed_graphs.specs.FlowText.{piece_text, edge_text, region_text}
use Rattle.printed_graphs.specs.Words.{field_text}
use Rattle.printed_laws.proofs.Lines.{apart}

abbrev pub kind_of : PieceKind → printed_kind.PieceKind
kind_of Start = kind.Start
kind_of Act = kind.Act
kind_of Pass = kind.Pass
kind_of Branch = kind.Branch
kind_of Join = kind.Join
kind_of Hold = kind.Hold
kind_of End = kind.End

kind_same : (k : PieceKind) → kind_text (kind_of k) ≡ kind_name k
kind_same Start = refl
kind_same Act = refl
kind_same Pass = refl
kind_same Branch = refl
kind_same Join = refl
kind_same Hold = refl
kind_same End = refl

abbrev pub piece_of : Piece → printed_piece.Piece
piece_of piece = record { kind = kind_of piece.kind; line = piece.line }

abbrev pub edge_of : (a b c : ℕ) → printed_edge.Edge
edge_of a b c = record { from = a; to = b; class = c }

abbrev pub region_of : (a b c : ℕ) → Region
region_of a b c = record { entry = a; exit = b; parent = c }

three_apart : (xs a b c : List ℕ) → xs ++ (32 ∷ a) ++ (32 ∷ b) ++ (32 ∷ c) ≡ xs ++ 32 ∷ [] ++ a ++ 32 ∷ [] ++ b ++ 32 ∷ [] ++ c
three_apart xs a b c =
    apart (xs ++ (32 ∷ a) ++ (32 ∷ b)) c
    ∙ ap (λ r. r ++ (32 ∷ []) ++ c) (apart (xs ++ (32 ∷ a)) b ∙ ap (λ r. r ++ (32 ∷ []) ++ b) (apart xs a))

pub piece_same : (k : ℕ) (piece : Piece) → piece_text k (piece_of piece) ≡ piece_line k piece
piece_same k piece =
    ap (λ name. codes "P " ++ decimal k ++ (32 ∷ []) ++ name ++ field_text piece.line ++ (10 ∷ [])) (kind_same piece.kind)
    ∙ ap (λ r. r ++ (10 ∷ [])) (apart (codes "P " ++ decimal k ++ (32 ∷ []) ++ kind_name piece.kind) (decimal piece.line))

pub edge_same : (k a b c : ℕ) → edge_text k (edge_of a b c) ≡ edge_line k a b c
edge_same k a b c = ap (λ r. r ++ (10 ∷ [])) (three_apart (codes "E " ++ decimal k) (decimal a) (decimal b) (decimal c))

pub region_same : (place r a b c : ℕ) → place + 1 ≡ r → region_text place (region_of a b c) ≡ region_line r a b c
region_same place r a b c is =
    ap (λ n. codes "R " ++ decimal n ++ field_text a ++ field_text b ++ field_text c ++ (10 ∷ [])) is
    ∙ ap (λ r. r ++ (10 ∷ [])) (three_apart (codes "R " ++ decimal r) (decimal a) (decimal b) (decimal c))
