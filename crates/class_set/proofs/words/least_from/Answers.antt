use Rattle.std.proofs.Common.{arith}
use Rattle.class_set.proofs.Bits.{IsLeast-found, Passed-word, IsPast-end}
use Rattle.class_set.proofs.words.least_from.Goals as goal

pub returns-in-Some-clause-least : goal.returns-in-Some-clause-least
returns-in-Some-clause-least c = IsLeast-found c.args.words.now c.args.first c.loop-at.at c.loop-at.low c.in-Some.bit c.loop-at.invariant.in_word c.loop-at.invariant.from c.loop-at.invariant.passed c.in-Some.ensures

pub loop-at-preserved : goal.loop-at-preserved
loop-at-preserved c = record {
  in_word = omega arith;
  from = omega (arith, c.loop-at.invariant.from, c.loop-at.invariant.in_word);
  passed = Passed-word c.args.words.now c.args.first c.loop-at.at c.loop-at.low c.loop-at.invariant.in_word c.loop-at.invariant.passed c.in_default.ensures;
}

pub returns-clause-least : goal.returns-clause-least
returns-clause-least c = IsPast-end c.args.words.now c.args.first c.loop-at.at c.loop-at.low (omega arith) c.loop-at.invariant.passed
