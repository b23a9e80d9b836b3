-- A flow graph that was printed is read again.
use Rattle.std.proofs.Common.{◌≡◌, ℕ, ◌+◌, ◌-◌, ◌^◌, ◌<◌, ◌≤◌, List, [], ◌∷◌, ◌++◌, length, codes, Option, Some, refl, ap, ◌∙◌, append_assoc, arith}
use Rattle.std.specs.Fmt.{decimal}
use Rattle.std.specs.List.{All}
use Rattle.std.proofs.lemmas.List.Elements.{All-head, All-tail}
use Rattle.printed_graphs.specs.declared.flow.Edge.{Edge}
use Rattle.printed_graphs.specs.declared.flow.Piece.{Piece}
use Rattle.printed_graphs.specs.declared.flow.PieceKind.{PieceKind}
use Rattle.printed_graphs.specs.declared.flow.PieceKind.TheVariants as kind
use Rattle.printed_graphs.specs.declared.flow.PrintedFlow.{PrintedFlow}
use Rattle.printed_graphs.specs.declared.flow.Region.{Region}
use Rattle.printed_graphs.specs.FlowText.{counts_text, piece_text, edge_text, region_text, flow_text}
use Rattle.printed_graphs.specs.Names.{kind_text}
use Rattle.printed_graphs.specs.Printable.{IsPrintablePiece, IsPrintableEdge, IsPrintableRegion, IsPrintableFlow}
use Rattle.printed_graphs.specs.Reading.{◌>>=◌, after_word, digit_at, number_at, after_number, field_at, after_name, is_kind, lines_at, count_at, counts_at, piece_at, edge_at, region_at, flow_at}
use Rattle.printed_graphs.specs.Words.{lines_from}
use Rattle.printed_graphs.proofs.Again.{number_again, after_number_again}

-- ---- numbers before a blank and before the end of a line

pub number_blank : (n : ℕ) (rest : List ℕ) → n < 2 ^ 32 → number_at (decimal n ++ 32 ∷ rest) ≡ Some (n, 32 ∷ rest)
unfolding digit_at
number_blank n rest fits = number_again n (32 ∷ rest) fits refl

pub number_end : (n : ℕ) (rest : List ℕ) → n < 2 ^ 32 → number_at (decimal n ++ 10 ∷ rest) ≡ Some (n, 10 ∷ rest)
unfolding digit_at
number_end n rest fits = number_again n (10 ∷ rest) fits refl

pub numbered : (n : ℕ) (rest : List ℕ) → n < 2 ^ 32 → after_number n (decimal n ++ 32 ∷ rest) ≡ Some (32 ∷ rest)
unfolding digit_at
numbered n rest fits = after_number_again n (32 ∷ rest) fits refl

-- ---- lines

pub edge_again : (k : ℕ) (edge : Edge) (rest : List ℕ) → k < 2 ^ 32 → IsPrintableEdge edge → edge_at k (edge_text k edge ++ rest) ≡ Some rest
unfolding edge_at after_word field_at
edge_again k edge rest few fits =
    let end = 10 ∷ rest in
    let class = 32 ∷ (decimal edge.class ++ end) in
    let to = 32 ∷ (decimal edge.to ++ class) in
    let from = 32 ∷ (decimal edge.from ++ to) in
    let regrouped : edge_text k edge ++ rest ≡ 69 ∷ 32 ∷ (decimal k ++ from) = simp append_assoc in
    ap (edge_at k) regrouped
    ∙ rw (numbered k (decimal edge.from ++ to) few, number_blank edge.from (decimal edge.to ++ class) fits.from, number_blank edge.to (decimal edge.class ++ end) fits.to, number_end edge.class rest fits.class) refl

pub region_again : (k : ℕ) (region : Region) (rest : List ℕ) → k + 1 < 2 ^ 32 → IsPrintableRegion region → region_at k (region_text k region ++ rest) ≡ Some rest
unfolding region_at after_word field_at
region_again k region rest few fits =
    let end = 10 ∷ rest in
    let parent = 32 ∷ (decimal region.parent ++ end) in
    let exit = 32 ∷ (decimal region.exit ++ parent) in
    let entry = 32 ∷ (decimal region.entry ++ exit) in
    let regrouped : region_text k region ++ rest ≡ 82 ∷ 32 ∷ (decimal (k + 1) ++ entry) = simp append_assoc in
    ap (region_at k) regrouped
    ∙ rw (numbered (k + 1) (decimal region.entry ++ exit) few, number_blank region.entry (decimal region.exit ++ parent) fits.entry, number_blank region.exit (decimal region.parent ++ end) fits.exit, number_end region.parent rest fits.parent) refl

-- the name of a kind before a blank
pub kind_again : (kind : PieceKind) (rest : List ℕ) → after_name is_kind (kind_text kind ++ 32 ∷ rest) ≡ Some (32 ∷ rest)
unfolding after_name is_kind
kind_again kind.Start rest = refl
kind_again kind.Act rest = refl
kind_again kind.Branch rest = refl
kind_again kind.Join rest = refl
kind_again kind.Pass rest = refl
kind_again kind.Hold rest = refl
kind_again kind.End rest = refl

pub piece_again : (k : ℕ) (piece : Piece) (rest : List ℕ) → k < 2 ^ 32 → IsPrintablePiece piece → piece_at k (piece_text k piece ++ rest) ≡ Some rest
unfolding piece_at after_word field_at
piece_again k piece rest few fits =
    let line = 32 ∷ (decimal piece.line ++ 10 ∷ rest) in
    let kind = 32 ∷ (kind_text piece.kind ++ line) in
    let regrouped : piece_text k piece ++ rest ≡ 80 ∷ 32 ∷ (decimal k ++ kind) = simp append_assoc in
    ap (piece_at k) regrouped
    ∙ rw (numbered k (kind_text piece.kind ++ line) few, kind_again piece.kind (decimal piece.line ++ 10 ∷ rest), number_end piece.line rest fits) refl

-- ---- lists of lines

pub lines_again : {A : Type 0} (line : ℕ → A → List ℕ) (at : ℕ → List ℕ → Option (List ℕ)) (limit : ℕ) (fits : A → Type 0) → ((k : ℕ) (x : A) (rest : List ℕ) → k < limit → fits x → at k (line k x ++ rest) ≡ Some rest) → (k : ℕ) (xs : List A) (rest : List ℕ) → k + length xs ≤ limit → All fits xs → lines_at at k (length xs) (lines_from line k xs ++ rest) ≡ Some rest
unfolding lines_at
lines_again line at limit fits again k [] rest few all = refl
lines_again line at limit fits again k (x ∷ xs) rest few all =
    let within : k < limit = omega arith in
    let fewer : (k + 1) + length xs ≤ limit = omega arith in
    ap (λ text. at k text >>= lines_at at (k + 1) (length xs)) (append_assoc (line k x) (lines_from line (k + 1) xs) rest)
    ∙ ap (λ read. read >>= lines_at at (k + 1) (length xs)) (again k x (lines_from line (k + 1) xs ++ rest) within (All-head fits x xs all))
    ∙ lines_again line at limit fits again (k + 1) xs rest fewer (All-tail fits x xs all)

-- ---- the whole

pub counts_again : (pieces edges classes regions : ℕ) (rest : List ℕ) → pieces < 2 ^ 32 → edges < 2 ^ 32 → classes < 2 ^ 32 → regions < 2 ^ 32 → counts_at (counts_text pieces edges classes regions ++ rest) ≡ Some (record { pieces = pieces; edges = edges; classes = classes; regions = regions }, rest)
unfolding counts_at count_at after_word
counts_again pieces edges classes regions rest p e c r =
    let end = 10 ∷ rest in
    let fourth = codes "REGIONS " ++ decimal regions ++ end in
    let third = codes "CLASSES " ++ decimal classes ++ 32 ∷ fourth in
    let second = codes "EDGES " ++ decimal edges ++ 32 ∷ third in
    let regrouped : counts_text pieces edges classes regions ++ rest ≡ codes "PIECES " ++ (decimal pieces ++ 32 ∷ second) = simp append_assoc in
    ap counts_at regrouped
    ∙ rw (number_blank pieces second p, number_blank edges third e, number_blank classes fourth c, number_end regions rest r) refl

pub flow_again : (flow : PrintedFlow) (rest : List ℕ) → IsPrintableFlow flow → flow_at (flow_text flow ++ rest) ≡ Some rest
unfolding flow_at
flow_again flow rest fits =
    let pieces = flow.pieces.items in
    let edges = flow.edges.items in
    let regions = flow.regions.items in
    let third = lines_from region_text 0 regions ++ rest in
    let second = lines_from edge_text 0 edges ++ third in
    let first = lines_from piece_text 0 pieces ++ second in
    let regrouped : flow_text flow ++ rest ≡ counts_text (length pieces) (length edges) flow.classes (length regions) ++ first = simp append_assoc in
    let few_pieces : 0 + length pieces ≤ 2 ^ 32 = omega (arith, fits.few_pieces) in
    let few_edges : 0 + length edges ≤ 2 ^ 32 = omega (arith, fits.few_edges) in
    let few_regions : 0 + length regions ≤ 2 ^ 32 - 1 = omega (arith, fits.few_regions) in
    ap flow_at regrouped
    ∙ rw (
      counts_again (length pieces) (length edges) flow.classes (length regions) first fits.few_pieces fits.few_edges fits.classes fits.few_regions,
      lines_again piece_text piece_at (2 ^ 32) IsPrintablePiece piece_again 0 pieces second few_pieces fits.pieces,
      lines_again edge_text edge_at (2 ^ 32) IsPrintableEdge edge_again 0 edges third few_edges fits.edges,
      lines_again region_text region_at (2 ^ 32 - 1) IsPrintableRegion (λ k region more lt ok. region_again k region more (omega arith) ok) 0 regions rest few_regions fits.regions,
    ) refl
