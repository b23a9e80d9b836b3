use Rattle.std.proofs.Common.{rules}
use Rattle.const_prop.proofs.work.Work.blank.Goals as goal

pub returns : goal.returns
returns g c = record {
  sized = record {
    lines_are = search rules;
    edges_are = search rules;
    decisions = search rules;
    pending = search rules;
    waits = search rules;
  };
  values = search rules;
  decisions = search rules;
  pending = λ line e. c.in_ok-new-2.ensures.none e line;
  waits = λ e l. c.in_ok-full.ensures.all e (search (rules, l));
}
