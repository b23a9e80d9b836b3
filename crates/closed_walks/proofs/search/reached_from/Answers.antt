use Rattle.std.proofs.Common.{Result, IfOk}
use Rattle.std.proofs.Common.{Ok, Err}
use Rattle.closed_walks.proofs.Reversals.{Reach-without_none, Reach-with_none}
use Rattle.closed_walks.proofs.search.reached_from.Goals as goal

-- what follows of the value, if there is one
on_value : {T E : Type 0} (r : Result T E) (P Q : T → Type 0) → ((x : T) → P x → Q x) → IfOk r P → IfOk r Q
on_value (Ok x) P Q follows h = follows x h
on_value (Err e) P Q follows h = tt

pub returns-clause-reached : goal.returns-clause-reached
returns-clause-reached c =
    on_value c.visited_from.result _ _
    (λ marks reached v. (
      λ now. Reach-with_none c.args.g.now c.edges.result c.args.start v ((reached v).0 now),
      λ way. (reached v).1 (Reach-without_none c.args.g.now c.edges.result c.args.start v c.edges.ensures.count way),
    ))
    c.visited_from.ensures.reached
