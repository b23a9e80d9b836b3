-- The text that tells the pieces, edges, classes and regions of a program.
use Rattle.std.specs.Prelude.{◌≡◌, ℕ, List, [], ◌∷◌, ◌++◌, length, flat_map, codes, slice_index}
use Rattle.std.specs.Fmt.{decimal}
use Rattle.std.specs.List.{range_with_len}
use Rattle.closed_walks.specs.Graph.{Graph, edge_count, from, to}
use Rattle.closed_walks.specs.Numbering.{fresh, IsNumbering}
use Rattle.f77_tree.specs.declared.programs.Program.{Program}
use Rattle.cfg_build.specs.declared.pieces.Piece.{Piece}
use Rattle.cfg_build.specs.declared.pieces.PieceKind.{PieceKind}
use Rattle.cfg_build.specs.declared.pieces.PieceKind.TheVariants.{Start, Act, Pass, Branch, Join, Hold, End}
use Rattle.cfg_build.specs.Joined.{FlowGraph}
use Rattle.cfg_build.specs.Flow.{flow, piece_at}
use Rattle.region_tree.specs.Tree.{Tree, IsRegionTree, region_count, entry_of, exit_of, parent_of}

-- ---- lines

abbrev pub kind_name : PieceKind → List ℕ
kind_name Start = codes "START"
kind_name Act = codes "ACT"
kind_name Pass = codes "PASS"
kind_name Branch = codes "BRANCH"
kind_name Join = codes "JOIN"
kind_name Hold = codes "HOLD"
kind_name End = codes "END"

-- how many pieces, edges, classes and regions there are
abbrev pub counts_line : (pieces edges classes regions : ℕ) → List ℕ
counts_line pieces edges classes regions = codes "PIECES " ++ decimal pieces ++ codes " EDGES " ++ decimal edges ++ codes " CLASSES " ++ decimal classes ++ codes " REGIONS " ++ decimal regions ++ 10 ∷ []

-- the number of a piece, its kind, and the line of its statement
abbrev pub piece_line : (k : ℕ) → Piece → List ℕ
piece_line k piece = codes "P " ++ decimal k ++ 32 ∷ [] ++ kind_name piece.kind ++ 32 ∷ [] ++ decimal piece.line ++ 10 ∷ []

-- the number of an edge, the pieces at which it begins and ends, and its class
abbrev pub edge_line : (e from to class : ℕ) → List ℕ
edge_line e from to class = codes "E " ++ decimal e ++ 32 ∷ [] ++ decimal from ++ 32 ∷ [] ++ decimal to ++ 32 ∷ [] ++ decimal class ++ 10 ∷ []

-- the number of a region, the edges by which it is entered and left, and the smallest region around it
abbrev pub region_line : (r entry exit parent : ℕ) → List ℕ
region_line r entry exit parent = codes "R " ++ decimal r ++ 32 ∷ [] ++ decimal entry ++ 32 ∷ [] ++ decimal exit ++ 32 ∷ [] ++ decimal parent ++ 10 ∷ []

-- ---- the text: each part stands after the ones before it

abbrev pub piece_lines : List Piece → (count : ℕ) → List ℕ
piece_lines pieces count = flat_map (λ k. piece_line k (piece_at pieces k)) (range_with_len 0 count)

abbrev pub edge_lines : Graph → (classes : List ℕ) → (count : ℕ) → List ℕ
edge_lines g classes count = flat_map (λ e. edge_line e (from g e) (to g e) (slice_index classes e)) (range_with_len 0 count)

abbrev pub region_lines : Tree → (count : ℕ) → List ℕ
region_lines t count = flat_map (λ r. region_line r (entry_of t r) (exit_of t r) (parent_of t r)) (range_with_len 1 count)

abbrev pub regions_text : FlowGraph → (classes : List ℕ) → Tree → List ℕ
regions_text f classes t = counts_line (length f.pieces) (edge_count f.graph) (fresh classes) (region_count t) ++ piece_lines f.pieces (length f.pieces) ++ edge_lines f.graph classes (edge_count f.graph) ++ region_lines t (region_count t)

-- The text tells the classes of the flow graph's edges and its regions.
pub record TellsRegions (p : Program) (text : List ℕ) : Type 0 where
  pub classes : List ℕ
  pub numbering : IsNumbering (flow p.execs).graph classes
  pub tree : Tree
  pub regions : IsRegionTree (flow p.execs).graph tree
  pub is : text ≡ regions_text (flow p.execs) classes tree
