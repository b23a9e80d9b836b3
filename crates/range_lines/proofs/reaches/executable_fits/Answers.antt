use Rattle.f77_tree.proofs.WellFormedLaws.{well_formed-runs}
use Rattle.range_lines.proofs.reaches.executable_fits.Goals as goal

pub returns : goal.returns
returns c = (well_formed-runs c.args.p.now c.requires.program).executes c.args.k c.args.exec.now c.requires.executable
