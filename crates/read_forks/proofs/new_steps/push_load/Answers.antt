use Rattle.std.proofs.Common.{◌++◌, ◌∙◌, [], ◌∷◌, cond, sym, ap, append-nil}
use Rattle.read_forks.proofs.MadeTables.{flag_read}
use Rattle.read_forks.proofs.new_steps.push_load.Goals as goal

pub returns-in_ok-push : goal.returns-in_ok-push
returns-in_ok-push c =
    let flags = c.args.loads.now.items in
    c.in_ok-push.ensures.items ∙ sym (ap (λ b. c.args.givers.now.items ++ cond b (c.args.k ∷ []) []) (flag_read flags c.args.k c.index.result.now c.requires c.index.ensures ∙ c.if-index.true))

pub returns-else-index : goal.returns-else-index
returns-else-index c =
    let flags = c.args.loads.now.items in
    sym (ap (λ b. c.args.givers.now.items ++ cond b (c.args.k ∷ []) []) (flag_read flags c.args.k c.index.result.now c.requires c.index.ensures ∙ c.if-index.false) ∙ append-nil c.args.givers.now.items)
