use Rattle.layout_rules.specs.Storage.{standings_of}
use Rattle.storage_association.proofs.Coming.{extends-flat, extends-flat-all}
use Rattle.storage_association.proofs.equations.Commons.stand_in_parts.Goals as goal

pub loop-part-preserved : goal.loop-part-preserved
loop-part-preserved c =
    let names = c.args.names.now in
    let some = c.loop-part.invariant.some in
    record {
      some = record { standings = _; are = c.in_ok-stand_in_part.ensures some.standings some.are };
      came = extends-flat (standings_of names) names c.args.self.now c.loop-part.self c.stand_in_part.new.self c.args.parts.now c.loop-part.part-index _ _ c.loop-part-test.true c.part-item.is c.loop-part.invariant.came c.in_ok-stand_in_part.ensures;
    }

pub returns : goal.returns
returns c = extends-flat-all (standings_of c.args.names.now) c.args.names.now c.args.self.now c.loop-part.self c.args.parts.now c.loop-part.part-index c.loop-part-test.false c.loop-part.invariant.came
