use Rattle.std.proofs.Common.{[], replicate, ap, ◌∙◌, subst, arith}
use Rattle.cycle_equiv.specs.Walking.{beginning}
use Rattle.cycle_equiv.specs.WalkTables.{IsTreeTable, IsReachTable}
use Rattle.cycle_equiv.proofs.WalkBegun.{begun_walk}
use Rattle.cycle_equiv.proofs.walk.BracketWalk.begin.Goals as goal

pub returns : goal.returns
returns c =
    begun_walk c.args.g.now c.args.root c.requires
    (record { sound = c.edges-edges.ensures.sound; few_nodes = omega (arith, c.nodes.ensures.count, c.nodes.type_inv); few_edges = omega (arith, c.edges-edges.ensures.count, c.edges-edges.ensures.few) })
    (record { tree = c.in_ok-begin.field-0; reaches = c.in_ok-begin-2.field-0; lists = c.in_ok-with_room.field-0; caps = c.in_ok-no_caps.field-0; names = record { tops = c.in_ok-vec.field-0; sizes = c.in_ok-vec-2.field-0 } })
    (subst (λ n. IsTreeTable n c.in_ok-begin.field-0 (beginning c.args.root)) c.nodes.ensures.count c.in_ok-begin.ensures)
    (subst (λ n. IsReachTable n c.in_ok-begin-2.field-0 (record { own = λ x. 0; first = λ x. 0; second = λ x. 0 })) c.nodes-2.ensures.count c.in_ok-begin-2.ensures)
    (c.in_ok-with_room.ensures ∙ ap (λ n. replicate n []) c.edges-edges.ensures.count)
    (c.in_ok-no_caps.ensures ∙ ap (λ n. replicate n []) c.nodes-3.ensures.count)
    (c.in_ok-vec.ensures.items_if_clones_equal (λ y same. same) ∙ ap (λ n. replicate n 0) c.edges-edges.ensures.count)
    (c.in_ok-vec-2.ensures.items_if_clones_equal (λ y same. same) ∙ ap (λ n. replicate n 0) c.edges-edges.ensures.count)
