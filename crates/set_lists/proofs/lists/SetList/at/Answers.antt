use Rattle.std.proofs.Common.{◌∙◌}
use Rattle.set_lists.specs.Sets.{test_at}
use Rattle.set_lists.proofs.Grown.{read_test}
use Rattle.set_lists.proofs.lists.SetList.at.Goals as goal

pub returns : goal.returns
unfolding test_at
returns g c = λ k. c.set_of.ensures k ∙ read_test c.args.self.now.shared.items c.args.self.now.items.items c.args.i k c.index.result.now c.requires c.index.ensures
