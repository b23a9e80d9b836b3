use Rattle.std.proofs.Common.{◌≡◌, ◌∙◌, length, Some, slice_get, refl, arith}
use Rattle.std.proofs.Math.Logic.{∥∥₁_map, ∥∥₁_map₂}
use Rattle.std.proofs.lemmas.Option.{slice_get_read}
use Rattle.net_board.proofs.ListPlaces.{length_slice_set}
use Rattle.op_net.specs.NetView.{net_of}
use Rattle.read_forks.specs.MadeSteps.{AreWaysBelow}
use Rattle.read_forks.proofs.FoundWays.{all_ways, no_ways, still_shut, ways_more}
use Rattle.read_forks.proofs.OpenedLinks.{set_steps}
use Rattle.read_forks.proofs.new_steps.find_ways.Goals as goal

pub loop-at-init : goal.loop-at-init
loop-at-init g c = record { steps = c.requires.steps; shut = c.requires.shut; ways = ∣ no_ways (net_of c.args.net.now) c.args.links.now.items ∣₁; room = refl }

pub loop-at-preserved : goal.loop-at-preserved
loop-at-preserved g c =
    let x = net_of c.args.net.now in
    let steps = c.args.steps.now in
    let links = c.loop-at.links.items in
    let at = c.loop-at.at in
    let link = c.index_mut.result.now in
    let kept = c.loop-at.invariant in
    let low = c.loop-at-test.true in
    let count = c.len-at-end.ensures in
    let room = kept.room in
    let is : slice_get links at ≡ Some link = slice_get_read links (length links) at link refl (omega (arith, low, count, room, c.args.links.now.ok.0)) c.index_mut.ensures.value in
    record {
      steps = set_steps x steps links kept.steps at link _ is refl refl;
      shut = still_shut x at links link _ is refl refl refl kept.shut;
      ways = ∥∥₁_map₂ kept.ways (c.way_of-way.ensures link is) (λ are way. ways_more x at links link _ is refl refl are way);
      room = length_slice_set links at _ ∙ kept.room;
    }

pub returns-clause-ways : goal.returns-clause-ways
returns-clause-ways g c =
    let over = c.loop-at-test.false in
    let end = c.loop-at.auto.at-end in
    let count = c.len-at-end.ensures in
    let room = c.loop-at.invariant.room in
    ∥∥₁_map c.loop-at.invariant.ways (λ (are : AreWaysBelow (net_of c.args.net.now) c.loop-at.at c.loop-at.links.items). all_ways (net_of c.args.net.now) c.loop-at.at c.loop-at.links.items (omega (arith, over, end, count, room, c.args.links.now.ok.0)) are)
