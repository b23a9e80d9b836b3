use Rattle.std.proofs.Common.{sym, subst, List, All}
use Rattle.f77_tree.specs.declared.programs.NameInfo.{NameInfo}
use Rattle.f77_tree.specs.Value.{IsExpression}
use Rattle.redundancy.proofs.Fits.{candidates_fit}
use Rattle.redundancy.proofs.avail.candidates_fit.Goals as goal

pub returns : goal.returns
returns c = λ names same. subst (λ (z : List NameInfo). All (IsExpression z) c.args.candidates.now.items) (sym same) (candidates_fit c.args.p.now c.args.f.now c.args.candidates.now.items c.requires.program c.requires.candidates)
