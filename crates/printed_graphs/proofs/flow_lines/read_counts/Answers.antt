use Rattle.std.proofs.Common.{◌≡◌, ◌∷◌, ◌++◌, [], codes, rules}
use Rattle.std.specs.Fmt.{decimal}
use Rattle.printed_graphs.proofs.Texts.{joined, two_joined}
use Rattle.printed_graphs.proofs.flow_lines.read_counts.Goals as goal

pub returns-clause-text : goal.returns-clause-text
returns-clause-text c =
    let text = c.args.cursor.now.rest.now in
    let after1 = c.count_after.new.cursor.rest.now in
    let after2 = c.count_after-2.new.cursor.rest.now in
    let after3 = c.count_after-3.new.cursor.rest.now in
    let after4 = c.count_after-4.new.cursor.rest.now in
    let after5 = c.passes.new.self.rest.now in
    let pieces = decimal c.in_ok-pieces.pieces in
    let edges = decimal c.in_ok-edges.edges in
    let classes = decimal c.in_ok-classes.classes in
    let regions = decimal c.in_ok-regions.regions in
    let first : text ≡ codes "PIECES " ++ pieces ++ after1 = search rules in
    let second : after1 ≡ codes " EDGES " ++ edges ++ after2 = search rules in
    let third : after2 ≡ codes " CLASSES " ++ classes ++ after3 = search rules in
    let fourth : after3 ≡ codes " REGIONS " ++ regions ++ after4 = search rules in
    let fifth : after4 ≡ (10 ∷ []) ++ after5 = search rules in
    let two = two_joined (codes "PIECES " ++ pieces) (codes " EDGES ") edges text after1 after2 first second in
    let three = two_joined (codes "PIECES " ++ pieces ++ codes " EDGES " ++ edges) (codes " CLASSES ") classes text after2 after3 two third in
    let four = two_joined (codes "PIECES " ++ pieces ++ codes " EDGES " ++ edges ++ codes " CLASSES " ++ classes) (codes " REGIONS ") regions text after3 after4 three fourth in
    joined (codes "PIECES " ++ pieces ++ codes " EDGES " ++ edges ++ codes " CLASSES " ++ classes ++ codes " REGIONS " ++ regions) (10 ∷ []) text after4 after5 four fifth
