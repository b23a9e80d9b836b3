use Rattle.layout_rules.specs.Standings.{standing_of}
use Rattle.storage_association.proofs.Coming.{extends-next, extends-all}
use Rattle.storage_association.proofs.equations.Commons.stand_in_part.Goals as goal

pub loop-decl-preserved : goal.loop-decl-preserved
loop-decl-preserved c =
    let names = c.args.names.now in
    let some = c.loop-decl.invariant.some in
    record {
      some = record { standings = _; are = c.in_ok-stand.ensures some.standings some.are };
      came = extends-next (standing_of names c.args.part.now.block) names c.args.self.now c.loop-decl.self c.stand.new.self c.as_slice-decls.result.now c.loop-decl.decl-index _ _ c.loop-decl-test.true c.decl-item.is c.loop-decl.invariant.came c.in_ok-stand.ensures;
    }

pub returns : goal.returns
returns c = extends-all (standing_of c.args.names.now c.args.part.now.block) c.args.names.now c.args.self.now c.loop-decl.self c.as_slice-decls.result.now c.args.part.now.decls c.loop-decl.decl-index c.loop-decl-test.false c.as_slice-decls.ensures.items c.loop-decl.invariant.came
