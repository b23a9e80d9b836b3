use Rattle.simplified_laws.proofs.FewLoops.{no-more-classes}
use Rattle.simplified_laws.proofs.flat_laws.simplified_programs_have_no_more_classes.Goals as goal

pub returns : goal.returns
returns c = no-more-classes c.fewer_loops_have_no_more_classes.ensures.number
