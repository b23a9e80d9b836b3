use Rattle.std.proofs.Common.{reverse, get_or, sym, ap, ◌∙◌}
use Rattle.layout_rules.specs.declared.nesting.Role.{Role}
use Rattle.control_structure.specs.BlockEnds.{end_by}
use Rattle.control_structure.proofs.EndsMet.{arm_ends, popped, turned}
use Rattle.control_structure.proofs.blocks.step_back.Goals as goal

pub returns-in-BeginBlock : goal.returns-in-BeginBlock
returns-in-BeginBlock c = λ none inner.
    popped c.args.met.now.items c.pop.new.self.items c.pop.result _ _ c.pop.ensures.items c.pop.ensures.cases c.args.met.now.ok.0 c.pop.new.self.ok.0 none inner
    ∙ ap (λ (role : Role). end_by c.args.are_arms role c.args.place (λ k. get_or (reverse c.args.met.now.items) k none) inner) (sym c.in-BeginBlock.is)

pub returns-in_ok-push-in-NextArm : goal.returns-in_ok-push-in-NextArm
returns-in_ok-push-in-NextArm c = λ none inner.
    turned c.args.met.now.items c.pop-then-are_arms.new.self.items c.push-then-are_arms.new.self.items c.args.place
    (popped c.args.met.now.items c.pop-then-are_arms.new.self.items c.pop-then-are_arms.result _ _ c.pop-then-are_arms.ensures.items c.pop-then-are_arms.ensures.cases c.args.met.now.ok.0 c.pop-then-are_arms.new.self.ok.0)
    c.in_ok-push-in-NextArm.ensures.items none inner
    ∙ arm_ends c.args.are_arms c.args.role c.args.place (λ k. get_or (reverse c.args.met.now.items) k none) inner c.in-NextArm.is c.if-are_arms.true
