use Rattle.std.proofs.Common.{◌≡◌, ◌+◌, ℕ, Bool, List, map, get_or, if◌then◌else◌, ◌∙◌, refl, ap, arith, rules}
use Rattle.class_set.specs.ClassSet.{holds}
use Rattle.cfg_build.specs.declared.pieces.PieceKind.TheVariants as kind
use Rattle.net_board.specs.Nodes.{all_lines}
use Rattle.net_board.specs.WokenNodes.{no_node, passing_below, place_by, switch_number}
use Rattle.shared_rows.specs.Table.{row_at, with_row}
use Rattle.net_tables.specs.PartsView.{net_in}
use Rattle.net_tables.proofs.PlaceRows.{base_is, there_is, width_is, written_is}
use Rattle.net_tables.proofs.PlacesLemmas.{switch_told, switch_row}
use Rattle.net_tables.proofs.TableLemmas.{touches_at}
use Rattle.net_tables.proofs.places.push_switch_places.Goals as goal

pub number_lines-requires : goal.number_lines-requires
number_lines-requires g c =
    let net = net_in c.args.plan.now in
    let t = c.args.table.now in
    let passing = holds c.passing_lines.result in
    let pushed = c.in_ok-push_copy.ensures.ok in
    let wide : c.push_copy.new.self.width ≡ net.routing.lines = width_is t c.push_copy.new.self (row_at t 0) c.len-row.result pushed c.len-row.ensures.count ∙ c.requires.blank.wide in
    let told : (c.args.first + 1) + passing_below passing net.routing.lines ≡ switch_number net c.args.piece net.routing.lines = switch_told net c.args.piece passing c.args.first net.routing.lines c.requires.first (λ k low. c.passing_lines.ensures k low) in
    let many = ap (passing_below passing) wide in
    let room = c.requires.room in
    (search rules, (c.args.plan.now.width, (there_is t c.push_copy.new.self (row_at t 0) c.len-row.result pushed c.len-row.ensures.count, omega (arith, told, many, room))))

pub write_at_lines-requires : goal.write_at_lines-requires
write_at_lines-requires g c =
    let t = c.args.table.now in
    let passing = holds c.passing_lines.result in
    let pushed = c.in_ok-push_copy.ensures.ok in
    let n = c.len-row.result in
    let last = c.len-row.ensures.count in
    let numbered = c.in_ok-number_lines.ensures in
    let is = written_is t c.push_copy.new.self (row_at t 0) n pushed last c.number_lines.new.table (λ line. if passing line then (c.args.first + 1) + passing_below passing line else get_or (row_at c.push_copy.new.self n) line 0) numbered in
    (search rules, (c.args.plan.now.width, there_is t c.number_lines.new.table numbered.row n is last))

pub returns : goal.returns
returns g c =
    let net = net_in c.args.plan.now in
    let t = c.args.table.now in
    let first = c.args.first in
    let passing : ℕ → Bool = holds c.passing_lines.result in
    let touched : ℕ → Bool = holds c.at.result.now in
    let pushed = c.in_ok-push_copy.ensures.ok in
    let n = c.len-row.result in
    let last = c.len-row.ensures.count in
    let numbered = c.in_ok-number_lines.ensures in
    let written = c.in_ok-write_at_lines.ensures in
    let is = written_is t c.push_copy.new.self (row_at t 0) n pushed last c.number_lines.new.table (λ line. if passing line then (first + 1) + passing_below passing line else get_or (row_at c.push_copy.new.self n) line 0) numbered in
    let wide : c.push_copy.new.self.width ≡ net.routing.lines = width_is t c.push_copy.new.self (row_at t 0) n pushed last ∙ c.requires.blank.wide in
    let wide' : c.number_lines.new.table.width ≡ net.routing.lines = width_is t c.number_lines.new.table numbered.row n is last ∙ c.requires.blank.wide in
    let row : written.row ≡ map (λ (line : ℕ). place_by net c.args.piece line kind.Branch) (all_lines net) =
    switch_row net c.args.piece net.routing.lines first (no_node net) refl c.requires.first refl touched passing numbered.row written.row
    (λ k low. touches_at c.args.plan.now.touch.now c.args.piece k c.at.result.now c.at.ensures.item)
    (λ k low. c.passing_lines.ensures k low)
    (λ k low. numbered.numbers k (omega (arith, low, wide)) ∙ ap (λ (xs : List ℕ). if passing k then (first + 1) + passing_below passing k else get_or xs k 0) (base_is t c.push_copy.new.self (row_at t 0) n pushed last ∙ c.requires.blank.blank))
    (written.size ∙ wide')
    (λ k low. written.numbers k (omega (arith, low, wide')) ∙ ap (λ (xs : List ℕ). if touched k then first else get_or xs k 0) (base_is t c.number_lines.new.table numbered.row n is last)) in
    (last, written_is t c.number_lines.new.table numbered.row n is last c.write_at_lines.new.table (λ line. if touched line then first else get_or (row_at c.number_lines.new.table n) line 0) written ∙ ap (with_row t) row)
