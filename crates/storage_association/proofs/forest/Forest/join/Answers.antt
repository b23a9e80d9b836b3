use Rattle.std.proofs.Common.{sym, subst, arith}
use Rattle.f77_tree.specs.Places.{Equation}
use Rattle.storage_association.specs.declared.forest.Joined.TheVariants.{Same}
use Rattle.storage_association.specs.Trees.{IsJoined}
use Rattle.storage_association.proofs.Joining.{rooted-close, told, join-same, join-first, join-second, counts-fit, gap-fits, gap-is, sum-fits, offset-fits, offset-is, turned-fits, turned-is}
use Rattle.storage_association.proofs.forest.Forest.join.Goals as goal

pub overflow_sub-distance : goal.overflow_sub-distance
overflow_sub-distance c =
    let a = rooted-close c.requires.trees c.requires.few c.requires.first c.find-a.ensures in
    let b = rooted-close c.requires.trees c.requires.few c.requires.second c.find-b.ensures in
    gap-fits a b

pub returns-then-a-b : goal.returns-then-a-b
returns-then-a-b c = λ spots forest.
    let nodes = c.args.self.now.nodes.items in
    let e : Equation = record { from = c.args.from; to = c.args.to; distance = c.args.distance } in
    let a = rooted-close c.requires.trees c.requires.few c.requires.first c.find-a.ensures in
    let b = rooted-close c.requires.trees c.requires.few c.requires.second c.find-b.ensures in
    subst (λ z. IsJoined nodes nodes spots e (Same z)) (sym (gap-is a b)) (join-same e forest (c.find-a.ensures spots forest) (c.find-b.ensures spots forest) c.if-a-b.true)

pub overflow_add-offset : goal.overflow_add-offset
overflow_add-offset c =
    let a = rooted-close c.requires.trees c.requires.few c.requires.first c.find-a.ensures in
    let b = rooted-close c.requires.trees c.requires.few c.requires.second c.find-b.ensures in
    sum-fits a b c.requires.reach

pub overflow_sub-offset : goal.overflow_sub-offset
overflow_sub-offset c =
    let a = rooted-close c.requires.trees c.requires.few c.requires.first c.find-a.ensures in
    let b = rooted-close c.requires.trees c.requires.few c.requires.second c.find-b.ensures in
    offset-fits a b c.requires.reach

pub overflow_sub-offset-then-index : goal.overflow_sub-offset-then-index
overflow_sub-offset-then-index c =
    let a = rooted-close c.requires.trees c.requires.few c.requires.first c.find-a.ensures in
    let b = rooted-close c.requires.trees c.requires.few c.requires.second c.find-b.ensures in
    turned-fits a b c.requires.reach

pub hang-requires-clause-few : goal.hang-requires-clause-few
hang-requires-clause-few c =
    let e : Equation = record { from = c.args.from; to = c.args.to; distance = c.args.distance } in
    let trees = c.requires.trees in
    let fit = counts-fit e trees.forest (c.find-a.ensures trees.spots trees.forest) (c.find-b.ensures trees.spots trees.forest) c.if-a-b.false c.requires.reach c.requires.first c.requires.second in
    omega arith

pub hang-requires-else-index-clause-few : goal.hang-requires-else-index-clause-few
hang-requires-else-index-clause-few c =
    let e : Equation = record { from = c.args.from; to = c.args.to; distance = c.args.distance } in
    let trees = c.requires.trees in
    let fit = counts-fit e trees.forest (c.find-a.ensures trees.spots trees.forest) (c.find-b.ensures trees.spots trees.forest) c.if-a-b.false c.requires.reach c.requires.first c.requires.second in
    omega arith

pub returns-then-index : goal.returns-then-index
returns-then-index c = λ spots forest.
    let e : Equation = record { from = c.args.from; to = c.args.to; distance = c.args.distance } in
    let a = rooted-close c.requires.trees c.requires.few c.requires.first c.find-a.ensures in
    let b = rooted-close c.requires.trees c.requires.few c.requires.second c.find-b.ensures in
    told (turned-is a b c.requires.reach) c.hang.ensures.nodes c.hang.ensures.answer (join-first e forest (c.find-a.ensures spots forest) (c.find-b.ensures spots forest) c.if-a-b.false c.requires.reach c.requires.first c.requires.second)

pub returns-else-index : goal.returns-else-index
returns-else-index c = λ spots forest.
    let e : Equation = record { from = c.args.from; to = c.args.to; distance = c.args.distance } in
    let a = rooted-close c.requires.trees c.requires.few c.requires.first c.find-a.ensures in
    let b = rooted-close c.requires.trees c.requires.few c.requires.second c.find-b.ensures in
    told (offset-is a b c.requires.reach) c.hang-else-index.ensures.nodes c.hang-else-index.ensures.answer (join-second e forest (c.find-a.ensures spots forest) (c.find-b.ensures spots forest) c.if-a-b.false c.requires.reach c.requires.first c.requires.second)
