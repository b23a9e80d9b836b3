use Rattle.std.proofs.Common.{◌≡◌, ◌<◌, length, get_or, arith, ap, ◌∙◌}
use Rattle.std.proofs.lemmas.Grind.{get_or_default_zero}
use Rattle.const_prop.specs.SparseSets.{Sets, keys_of, set_holds}
use Rattle.const_prop.proofs.SparseSetLemmas.{set_read}
use Rattle.const_prop.proofs.sparse_sets.SparseSets.at.Goals as goal

pub returns : goal.returns
returns g c = λ k.
    let within : c.args.key < length c.self.inside.numbers.items = omega (arith, ap (keys_of {W = g.row.W}) c.self.view_is, c.requires) in
    let is : c.index.result.now ≡ get_or c.self.inside.numbers.items c.args.key 0 = c.index.ensures ∙ get_or_default_zero c.self.inside.numbers.items c.args.key c.index.result.now within in
    set_read c.self.inside.numbers.items c.self.inside.sets.items c.self.inside.free.items c.self.invariant.shared c.args.key c.index.result.now k c.index-2.result.now is c.index-2.ensures
    ∙ ap (λ (s : Sets g.row.W). set_holds s c.args.key k) c.self.view_is
