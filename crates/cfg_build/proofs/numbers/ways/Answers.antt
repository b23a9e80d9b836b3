use Rattle.std.proofs.Common.{◌≡◌, ◌∙◌, List, ap, length, count_by, get_or, arith}
use Rattle.cfg_build.specs.declared.parts.Part.{Part}
use Rattle.cfg_build.specs.declared.parts.Target.{Target}
use Rattle.cfg_build.specs.Parts.{start_part}
use Rattle.cfg_build.specs.Joined.{is_same}
use Rattle.std.proofs.lemmas.List.{get_or_read}
use Rattle.cfg_build.proofs.BuildingTables.{few_ways_to, ways_more}
use Rattle.cfg_build.proofs.numbers.ways.Goals as goal

pub count_ways-requires-clause-few : goal.count_ways-requires-clause-few
count_ways-requires-clause-few c target =
    let ps = c.args.parts.now in
    let i = c.loop-part.part-index in
    let is : c.part-item.result ≡ get_or ps i start_part = get_or_read ps i c.part-item.result c.loop-part-test.true c.part-item.is start_part in
    let same : length c.as_slice.result.now ≡ length (get_or ps i start_part).outs = ap length c.as_slice.ensures.items ∙ ap (λ (p : Part). length p.outs) is in
    omega (arith, same, few_ways_to c.args.execs ps i target c.requires c.loop-part-test.true, c.loop-part.invariant.ways target)

pub loop-part-preserved : goal.loop-part-preserved
loop-part-preserved c =
    let ps = c.args.parts.now in
    let i = c.loop-part.part-index in
    let is : c.part-item.result ≡ get_or ps i start_part = get_or_read ps i c.part-item.result c.loop-part-test.true c.part-item.is start_part in
    record {
      room = c.count_ways.ensures.room c.args.execs c.loop-part.invariant.room;
      ways = λ target.
          let same : count_by (is_same target) c.as_slice.result.now ≡ count_by (is_same target) (get_or ps i start_part).outs =
          ap (λ (outs : List Target). count_by (is_same target) outs) (c.as_slice.ensures.items ∙ ap (λ (p : Part). p.outs) is) in
          omega (arith, c.count_ways.ensures.counts target, same, c.loop-part.invariant.ways target, ways_more ps i target c.loop-part-test.true);
    }
