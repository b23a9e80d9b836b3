use Rattle.std.proofs.Common.{◌∙◌}
use Rattle.std.specs.Result.{is_ok}
use Rattle.set_lists.specs.Sets.{test_at}
use Rattle.set_lists.proofs.Grown.{exist_either, last_test, ones_either, other_tests}
use Rattle.set_lists.proofs.lists.SetList.push.Goals as goal

pub invariant_of-self-2-clause-ones : goal.invariant_of-self-2-clause-ones
invariant_of-self-2-clause-ones g c = ones_either c.args.self.now.shared.items c.members_of.new.shared.items c.members_of.ensures.more c.args.self.now.items.items c.in_ok-item.item c.in_ok-item.ensures.there (is_ok c.push.result) c.push.new.self.items c.push.ensures.items c.args.self.now.ones

pub invariant_of-self-2-clause-exist : goal.invariant_of-self-2-clause-exist
invariant_of-self-2-clause-exist g c = exist_either c.args.self.now.shared.items c.members_of.new.shared.items c.members_of.ensures.more c.args.self.now.items.items c.in_ok-item.item c.in_ok-item.ensures.there (is_ok c.push.result) c.push.new.self.items c.push.ensures.items c.args.self.now.exist

pub returns-clause-last : goal.returns-clause-last
unfolding test_at
returns-clause-last g c = λ k. last_test c.args.self.now.shared.items c.members_of.new.shared.items c.members_of.ensures.more c.args.self.now.items.items c.push.new.self.items c.in_ok-item.item c.in_ok-push.ensures.items k ∙ c.in_ok-item.ensures.members k

pub returns-clause-others : goal.returns-clause-others
unfolding test_at
returns-clause-others g c = other_tests c.args.self.now.shared.items c.members_of.new.shared.items c.members_of.ensures.more c.args.self.now.items.items c.push.new.self.items c.in_ok-item.item c.in_ok-push.ensures.items c.args.self.now.exist
