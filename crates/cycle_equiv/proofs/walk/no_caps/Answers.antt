use Rattle.std.proofs.Common.{◌∙◌, ap, [], ◌∷◌, ◌++◌}
use Rattle.std.proofs.lemmas.List.{replicate-append-replicate}
use Rattle.cycle_equiv.proofs.walk.no_caps.Goals as goal

pub loop-preserved : goal.loop-preserved
loop-preserved c =
    c.in_ok-push.ensures.items
    ∙ ap (λ x. c.loop.caps.items ++ x ∷ []) c.new.ensures
    ∙ ap (λ xs. xs ++ [] ∷ []) c.loop.invariant
    ∙ replicate-append-replicate c.loop.counter 1 []
