use Rattle.std.proofs.Common.{◌≡◌, ◌≢◌, ◌<◌, ◌==◌, ◌&&◌, ◌||◌, ℕ, Bool, length, get_or, arith, ap, sym, ◌∙◌}
use Rattle.std.proofs.lemmas.Grind.{get_or_default_zero}
use Rattle.std.proofs.Math.Bool.{or_comm}
use Rattle.class_set.specs.ClassSet.{holds}
use Rattle.const_prop.specs.SparseSets.{Sets, keys_of, number_of, set_holds}
use Rattle.const_prop.proofs.SparseSetLemmas.{nth_read, shared_written, holds_written}
use Rattle.const_prop.proofs.sparse_sets.SparseSets.add.Goals as goal

pub invariant_of-self : goal.invariant_of-self
invariant_of-self g c =
    let kept = c.self.invariant in
    let within : c.args.key < length c.self.inside.numbers.items = omega (arith, ap (keys_of {W = g.row.W}) c.self.view_is, c.begin.ensures.keys, c.requires.key) in
    let is : c.index.result.now ≡ get_or c.self.inside.numbers.items c.args.key 0 = c.index.ensures ∙ get_or_default_zero c.self.inside.numbers.items c.args.key c.index.result.now within in
    let some : c.index.result.now ≢ 0 = λ none. c.begin.ensures.numbered (sym (ap (λ (s : Sets g.row.W). number_of s c.args.key) c.self.view_is) ∙ sym is ∙ none) in
    record {
      width = kept.width;
      few = kept.few;
      shared = shared_written c.self.inside.numbers.items c.self.inside.sets.items c.self.inside.free.items c.self.invariant.shared c.index.result.now c.union.result some;
      room = kept.room;
      free_room = kept.free_room;
    }

pub returns-clause-holds : goal.returns-clause-holds
returns-clause-holds g c =
    let within : c.args.key < length c.self.inside.numbers.items = omega (arith, ap (keys_of {W = g.row.W}) c.self.view_is, c.begin.ensures.keys, c.requires.key) in
    let is : c.index.result.now ≡ get_or c.self.inside.numbers.items c.args.key 0 = c.index.ensures ∙ get_or_default_zero c.self.inside.numbers.items c.args.key c.index.result.now within in
    let some : c.index.result.now ≢ 0 = λ none. c.begin.ensures.numbered (sym (ap (λ (s : Sets g.row.W). number_of s c.args.key) c.self.view_is) ∙ sym is ∙ none) in
    let inside : c.index.result.now < length c.self.inside.sets.items = (let w = c.self.invariant.shared.within c.args.key in omega (arith, w, is)) in
    let more : ℕ → Bool = holds c.args.members.now in
    λ e k. holds_written c.self.inside.numbers.items c.self.inside.sets.items c.self.inside.free.items c.self.invariant.shared c.args.key c.index.result.now c.union.result more is some
    (λ k. c.union.ensures k ∙ or_comm (holds c.index-2.result.now k) (holds c.args.members.now k) ∙ ap (λ b. holds c.args.members.now k || b) (nth_read c.self.inside.sets.items c.index.result.now k c.index-2.result.now inside c.index-2.ensures)) e k
    ∙ ap (λ b. (e == c.args.key && more k) || b) (ap (λ (s : Sets g.row.W). set_holds s e k) c.self.view_is ∙ c.begin.ensures.holds e k)
