use Rattle.std.proofs.Common.{◌≡◌, ◌<◌, ◌≤◌, ℕ, List, All, length, subst, sym, ◌∙◌, arith}
use Rattle.net_board.specs.Nodes.{graph_in, touched}
use Rattle.net_tables.specs.LookupView.{net_on}
use Rattle.net_tables.proofs.LookupLemmas.{touched_exist, touched_few}
use Rattle.net_tables.proofs.TableLemmas.{mapped_length, mapped_at}
use Rattle.net_tables.proofs.lookups.Board.touched.Goals as goal

pub index-requires : goal.index-requires
index-requires g c =
    let net = net_on c.args.self.now in
    let count = mapped_length (touched net) c.args.self.now.tables.touched.items (graph_in net).nodes c.args.self.now.own_tables.touched in
    omega (arith, count, c.requires)

pub returns-clause-lines : goal.returns-clause-lines
returns-clause-lines g c =
    let net = net_on c.args.self.now in
    c.as_slice.ensures.items ∙ c.index.ensures ∙ mapped_at (touched net) c.args.self.now.tables.touched.items (graph_in net).nodes c.args.piece c.index.result.now c.args.self.now.own_tables.touched c.requires

pub returns-clause-exist : goal.returns-clause-exist
returns-clause-exist g c =
    let net = net_on c.args.self.now in
    let is : c.as_slice.result.now ≡ touched net c.args.piece = c.as_slice.ensures.items ∙ c.index.ensures ∙ mapped_at (touched net) c.args.self.now.tables.touched.items (graph_in net).nodes c.args.piece c.index.result.now c.args.self.now.own_tables.touched c.requires in
    subst (λ (xs : List ℕ). All (λ (line : ℕ). line < c.args.self.now.plan.routes.now.lines) xs) (sym is) (touched_exist net c.args.piece)

pub returns-clause-few : goal.returns-clause-few
returns-clause-few g c =
    let net = net_on c.args.self.now in
    let is : c.as_slice.result.now ≡ touched net c.args.piece = c.as_slice.ensures.items ∙ c.index.ensures ∙ mapped_at (touched net) c.args.self.now.tables.touched.items (graph_in net).nodes c.args.piece c.index.result.now c.args.self.now.own_tables.touched c.requires in
    subst (λ (xs : List ℕ). length xs ≤ c.args.self.now.plan.routes.now.lines) (sym is) (touched_few net c.args.piece)
