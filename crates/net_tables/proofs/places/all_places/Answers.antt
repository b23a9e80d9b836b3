use Rattle.std.proofs.Common.{rules, ◌≡◌, ◌<◌, suc, ◌∙◌, ℕ, List, Option, refl, sym, ap, subst, arith}
use Rattle.net_board.specs.Nodes.{graph_in, first_node}
use Rattle.net_tables.specs.PartsView.{net_in}
use Rattle.net_tables.specs.NetTables.{kept_places}
use Rattle.shared_rows.specs.Table.{AreThere, numbered_rows}
use Rattle.net_tables.proofs.PlaceRows.{blank_stays, rows_pushed, there_pushed}
use Rattle.net_tables.proofs.TableLemmas.{mapped_more, mapped_length, mapped_at}
use Rattle.net_tables.proofs.places.all_places.Goals as goal

pub index-requires : goal.index-requires
index-requires g c =
    let net = net_in c.args.plan.now in
    let count = mapped_length (first_node net) c.args.firsts.now.items (suc (graph_in net).nodes) c.requires.firsts in
    let below : c.loop-piece.piece < (graph_in net).nodes = search rules in
    omega (arith, count, below)

pub push_places-requires : goal.push_places-requires
push_places-requires g c =
    let net = net_in c.args.plan.now in
    let below : c.loop-piece.piece < (graph_in net).nodes = search rules in
    let first : c.index.result.now ≡ first_node net c.loop-piece.piece = c.index.ensures ∙ mapped_at (first_node net) c.args.firsts.now.items (suc (graph_in net).nodes) c.loop-piece.piece c.index.result.now c.requires.firsts (omega (arith, below)) in
    (omega arith, (below, (first, (c.requires.none, c.loop-piece.invariant.blank))))

pub loop-piece-preserved : goal.loop-piece-preserved
loop-piece-preserved g c =
    let net = net_in c.args.plan.now in
    let piece = c.loop-piece.piece in
    let t = c.loop-piece.table in
    let new = c.push_places.new.table in
    let numbers = c.loop-piece.row_of.items in
    let o = c.in_ok-push_places.field-0 in
    let pushed = c.in_ok-push_places.ensures in
    let items = c.in_ok-push.ensures.items in
    let i = c.loop-piece.invariant in
    record {
      blank = blank_stays t new (kept_places net piece) net o pushed i.blank;
      there = subst (λ (xs : List (Option ℕ)). AreThere new xs) (sym items) (there_pushed t new (kept_places net piece) numbers o pushed i.there);
      places = mapped_more (kept_places net) (numbered_rows t numbers) (numbered_rows new c.push.new.self.items) piece (kept_places net piece) i.places refl
          (ap (λ (xs : List (Option ℕ)). numbered_rows new xs) items ∙ rows_pushed t new (kept_places net piece) numbers o pushed i.there);
    }
