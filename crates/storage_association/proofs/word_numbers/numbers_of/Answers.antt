use Rattle.std.proofs.Common.{ℕ, List, length, sym, ap, subst, ◌∙◌}
use Rattle.std.proofs.lemmas.Result.{IfOk-weaker}
use Rattle.f77_tree.specs.Places.{Equation}
use Rattle.storage_association.specs.declared.forest.Forest.{Forest}
use Rattle.layout_rules.specs.Storage.{Spot, spots_by}
use Rattle.storage_association.specs.Trees.{IsForest, AreLowTrees}
use Rattle.layout_rules.specs.Spots.{AreLowest}
use Rattle.storage_association.specs.Storages.{AreStorages}
use Rattle.storage_association.specs.WordNumbers.{AreNumbers}
use Rattle.storage_association.proofs.word_numbers.numbers_of.Goals as goal

pub word_numbers-requires : goal.word_numbers-requires
word_numbers-requires c =
    let held = c.requires.some.held in
    let trees : AreLowTrees c.args.storages.now.forest.nodes.items = record { spots = spots_by c.requires.some.count c.requires.some.all; forest = held.forest; lowest = held.lowest } in
    record {
      trees = subst (λ (f : Forest). AreLowTrees f.nodes.items) (sym c.forest.ensures) trees;
      names = ap (λ (f : Forest). length f.nodes.items) c.forest.ensures ∙ held.names ∙ sym held.parts ∙ c.requires.names;
    }

pub returns : goal.returns
returns c =
    let names = c.args.names.now in
    IfOk-weaker c.word_numbers.result
    (λ w. (spots : List Spot) → IsForest c.forest.result.now.nodes.items spots → AreLowest spots → AreNumbers names spots w)
    (λ w. (firsts : List ℕ) (all : List Equation) → AreStorages (length names) firsts all c.args.storages.now → AreNumbers names (spots_by (length names) all) w)
    (λ w numbers firsts all held. numbers (spots_by (length names) all) (subst (λ (f : Forest). IsForest f.nodes.items (spots_by (length names) all)) (sym c.forest.ensures) held.forest) held.lowest)
    c.word_numbers.ensures
