use Rattle.std.proofs.Common.{◌≡◌, List, true, Bool, subst, arith, EachIndex, IsTrue, ◌↔◌}
use Rattle.closed_walks.specs.Search.{is_visited}
use Rattle.closed_walks.proofs.Reversals.{Reach-without_none, Reach-with_none}
use Rattle.closed_walks.proofs.strong.reaches_all.Goals as goal

pub returns : goal.returns
returns c =
    let g = c.args.g.now in
    let marks = c.in_ok-visited.visited.items in
    let all = subst (λ (xs : List Bool). IsTrue c.all_visited.result ↔ EachIndex xs (λ k. is_visited xs k ≡ true)) c.deref.ensures.value c.all_visited.ensures in (
      λ every v v_node. Reach-with_none g c.edges.result 0 v ((c.in_ok-visited.ensures.reached v).0 (all.0 every v (omega (arith, v_node, c.in_ok-visited.ensures.nodes)))),
      λ each. all.1 (λ v h. (c.in_ok-visited.ensures.reached v).1 (Reach-without_none g c.edges.result 0 v c.edges.ensures.count (each v (omega (arith, h, c.in_ok-visited.ensures.nodes))))),
    )
