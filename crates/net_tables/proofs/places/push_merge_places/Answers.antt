use Rattle.std.proofs.Common.{◌≡◌, ◌+◌, ℕ, Bool, List, map, get_or, if◌then◌else◌, ◌∙◌, refl, ap, arith, rules}
use Rattle.class_set.specs.ClassSet.{holds}
use Rattle.cfg_build.specs.declared.pieces.PieceKind.TheVariants as kind
use Rattle.net_board.specs.Nodes.{all_lines}
use Rattle.net_board.specs.WokenNodes.{merge_number, no_node, passing_below, place_by}
use Rattle.shared_rows.specs.Table.{row_at, with_row}
use Rattle.net_tables.specs.PartsView.{net_in}
use Rattle.net_tables.proofs.PlaceRows.{base_is, there_is, width_is, written_is}
use Rattle.net_tables.proofs.PlacesLemmas.{merge_told, merge_row}
use Rattle.net_tables.proofs.places.push_merge_places.Goals as goal

pub number_lines-requires : goal.number_lines-requires
number_lines-requires g c =
    let net = net_in c.args.plan.now in
    let t = c.args.table.now in
    let free = holds c.free_lines.result in
    let pushed = c.in_ok-push_copy.ensures.ok in
    let wide : c.push_copy.new.self.width ≡ net.routing.lines = width_is t c.push_copy.new.self (row_at t 0) c.len-row.result pushed c.len-row.ensures.count ∙ c.requires.blank.wide in
    let told : c.args.first + passing_below free net.routing.lines ≡ merge_number net c.args.piece net.routing.lines = merge_told net c.args.piece free c.args.first net.routing.lines c.requires.first (λ k low. c.free_lines.ensures k low) in
    let many = ap (passing_below free) wide in
    let room = c.requires.room in
    (search rules, (c.args.plan.now.width, (there_is t c.push_copy.new.self (row_at t 0) c.len-row.result pushed c.len-row.ensures.count, omega (arith, told, many, room))))

pub returns : goal.returns
returns g c =
    let net = net_in c.args.plan.now in
    let t = c.args.table.now in
    let first = c.args.first in
    let free : ℕ → Bool = holds c.free_lines.result in
    let pushed = c.in_ok-push_copy.ensures.ok in
    let n = c.len-row.result in
    let last = c.len-row.ensures.count in
    let written = c.in_ok-number_lines.ensures in
    let wide : c.push_copy.new.self.width ≡ net.routing.lines = width_is t c.push_copy.new.self (row_at t 0) n pushed last ∙ c.requires.blank.wide in
    let row : written.row ≡ map (λ (line : ℕ). place_by net c.args.piece line kind.Join) (all_lines net) =
    merge_row net c.args.piece net.routing.lines first (no_node net) refl c.requires.first refl free written.row (λ k low. c.free_lines.ensures k low) (written.size ∙ wide)
    (λ k low. written.numbers k (omega (arith, low, wide)) ∙ ap (λ (xs : List ℕ). if free k then first + passing_below free k else get_or xs k 0) (base_is t c.push_copy.new.self (row_at t 0) n pushed last ∙ c.requires.blank.blank)) in
    (last, written_is t c.push_copy.new.self (row_at t 0) n pushed last c.number_lines.new.table (λ line. if free line then first + passing_below free line else get_or (row_at c.push_copy.new.self n) line 0) written ∙ ap (with_row t) row)
