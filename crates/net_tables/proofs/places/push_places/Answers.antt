use Rattle.std.proofs.Common.{◌≡◌, ⊎_elim, ℕ, suc, map, refl, sym, ap, ◌∙◌, arith}
use Rattle.std.proofs.lemmas.List.{length-map}
use Rattle.cfg_build.specs.declared.pieces.PieceKind.TheVariants as kind
use Rattle.cfg_build.specs.Flow.{flow}
use Rattle.firing.specs.declared.system.NodeName.TheVariants.{Merge, Switch}
use Rattle.net_board.specs.Nodes.{all_lines, led_to, passing}
use Rattle.net_board.specs.WokenNodes.{place_by}
use Rattle.net_tables.specs.PartsView.{net_in}
use Rattle.net_tables.specs.NetTables.{kept_places}
use Rattle.net_tables.proofs.PlacesLemmas.{kept_as, switch_room, merge_room}
use Rattle.net_tables.proofs.TableLemmas.{kind_told}
use Rattle.net_tables.proofs.places.push_places.Goals as goal

pub push_switch_places-requires : goal.push_switch_places-requires
push_switch_places-requires g c =
    let net = net_in c.args.plan.now in
    let told = kind_told c.args.plan.now.flow.now (flow c.args.plan.now.program.now.execs) c.args.piece c.piece.result c.args.plan.now.own_flow c.piece.ensures in
    let one = ap suc (length-map (passing net c.args.piece) (Switch c.args.piece)) in
    let few = ⊎_elim
    (λ (e : c.piece.result.kind ≡ kind.Branch). switch_room net c.args.piece kind.Branch c.requires.piece (sym told ∙ e) one)
    (λ (e : c.piece.result.kind ≡ kind.Hold). switch_room net c.args.piece kind.Hold c.requires.piece (sym told ∙ e) one)
    c.in-Branch.is
    in
    let fits = c.ranges.none.fits in
    (omega arith, (c.requires.piece, (c.requires.first, (c.requires.none, (c.requires.blank, omega (arith, few, fits, c.requires.none))))))

pub push_merge_places-requires : goal.push_merge_places-requires
push_merge_places-requires g c =
    let net = net_in c.args.plan.now in
    let told = kind_told c.args.plan.now.flow.now (flow c.args.plan.now.program.now.execs) c.args.piece c.piece.result c.args.plan.now.own_flow c.piece.ensures in
    let one = length-map (led_to net c.args.piece) (Merge c.args.piece) in
    let few = ⊎_elim
    (λ (e : c.piece.result.kind ≡ kind.Join). merge_room net c.args.piece kind.Join c.requires.piece (sym told ∙ e) one)
    (λ (e : c.piece.result.kind ≡ kind.End). merge_room net c.args.piece kind.End c.requires.piece (sym told ∙ e) one)
    c.in-Join.is
    in
    let fits = c.ranges.none.fits in
    (omega arith, (c.requires.piece, (c.requires.first, (c.requires.none, (c.requires.blank, omega (arith, few, fits, c.requires.none))))))

pub returns-in-Branch : goal.returns-in-Branch
returns-in-Branch g c =
    let net = net_in c.args.plan.now in
    let told = kind_told c.args.plan.now.flow.now (flow c.args.plan.now.program.now.execs) c.args.piece c.piece.result c.args.plan.now.own_flow c.piece.ensures in
    let row : map (λ (line : ℕ). place_by net c.args.piece line kind.Branch) (all_lines net) ≡ kept_places net c.args.piece = ⊎_elim
    (λ (e : c.piece.result.kind ≡ kind.Branch). kept_as net c.args.piece kind.Branch (sym told ∙ e) refl)
    (λ (e : c.piece.result.kind ≡ kind.Hold). kept_as net c.args.piece kind.Hold (sym told ∙ e) refl)
    c.in-Branch.is
    in
    rw (← row) c.push_switch_places.ensures

pub returns-in-Join : goal.returns-in-Join
returns-in-Join g c =
    let net = net_in c.args.plan.now in
    let told = kind_told c.args.plan.now.flow.now (flow c.args.plan.now.program.now.execs) c.args.piece c.piece.result c.args.plan.now.own_flow c.piece.ensures in
    let row : map (λ (line : ℕ). place_by net c.args.piece line kind.Join) (all_lines net) ≡ kept_places net c.args.piece = ⊎_elim
    (λ (e : c.piece.result.kind ≡ kind.Join). kept_as net c.args.piece kind.Join (sym told ∙ e) refl)
    (λ (e : c.piece.result.kind ≡ kind.End). kept_as net c.args.piece kind.End (sym told ∙ e) refl)
    c.in-Join.is
    in
    rw (← row) c.push_merge_places.ensures
