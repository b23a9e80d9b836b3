use Rattle.std.proofs.Common.{◌≡◌, ◌<◌, ◌+◌, ℕ, ◌-ℤ◌, [], ◌∷◌, ◌++◌, length, set, Some, None, sym, ap, subst, ◌∙◌, arith, rules}
use Rattle.std.specs.Prelude.{nat_abs}
use Rattle.std.proofs.lemmas.List.{get_or_read, length-set}
use Rattle.storage_association.specs.WordNumbers.{begun, base_at, AreNumbered}
use Rattle.storage_association.proofs.Numbering.{read-at, span-order, span-fits, size-read, distance-order, distance-fits, distance-read, distance-few, words-sum, begun-few, number-next}
use Rattle.storage_association.proofs.word_numbers.word_numbers.Goals as goal

pub words_between-size-requires-clause-order : goal.words_between-size-requires-clause-order
words_between-size-requires-clause-order c =
    let trees = c.requires.trees in
    let got = read-at trees.forest _ c.requires.names (omega arith) (omega arith) c.in_ok-spans.ensures.all c.index.ensures (c.find-root.ensures trees.spots trees.forest) (c.in_ok-spans.ensures.reach trees.spots trees.forest) in
    span-order trees.forest trees.lowest got (search rules) (search rules)

pub words_between-size-requires-clause-fits : goal.words_between-size-requires-clause-fits
words_between-size-requires-clause-fits c =
    let trees = c.requires.trees in
    let got = read-at trees.forest _ c.requires.names (omega arith) (omega arith) c.in_ok-spans.ensures.all c.index.ensures (c.find-root.ensures trees.spots trees.forest) (c.in_ok-spans.ensures.reach trees.spots trees.forest) in
    span-fits trees.forest trees.lowest got (search rules) (search rules)

pub words_between-requires-clause-order : goal.words_between-requires-clause-order
words_between-requires-clause-order c =
    let trees = c.requires.trees in
    let got = read-at trees.forest _ c.requires.names (omega arith) (omega arith) c.in_ok-spans.ensures.all c.index.ensures (c.find-root.ensures trees.spots trees.forest) (c.in_ok-spans.ensures.reach trees.spots trees.forest) in
    distance-order trees.forest trees.lowest got (search rules) (search rules)

pub words_between-requires-clause-fits : goal.words_between-requires-clause-fits
words_between-requires-clause-fits c =
    let trees = c.requires.trees in
    let got = read-at trees.forest _ c.requires.names (omega arith) (omega arith) c.in_ok-spans.ensures.all c.index.ensures (c.find-root.ensures trees.spots trees.forest) (c.in_ok-spans.ensures.reach trees.spots trees.forest) in
    distance-fits trees.forest trees.lowest got (search rules) (search rules)

pub begun-base-requires : goal.begun-base-requires
begun-base-requires c =
    let trees = c.requires.trees in
    let got = read-at trees.forest _ c.requires.names (omega arith) (omega arith) c.in_ok-spans.ensures.all c.index.ensures (c.find-root.ensures trees.spots trees.forest) (c.in_ok-spans.ensures.reach trees.spots trees.forest) in
    let few = got.few in
    let read = size-read trees.forest trees.lowest got c.words_between-size.result c.words_between-size.ensures (search rules) (search rules) in
    let sum = words-sum trees.forest trees.lowest got c.loop-name.words (c.loop-name.invariant.so_far trees.spots trees.forest trees.lowest).words_are in
    omega (arith, read)

pub index-requires-in-loop-name : goal.index-requires-in-loop-name
index-requires-in-loop-name c =
    let known = (c.find-root.ensures c.requires.trees.spots c.requires.trees.forest).known in
    omega (arith, c.loop-name.invariant.all, known, c.requires.names)

pub index_mut-requires : goal.index_mut-requires
index_mut-requires c =
    let known = (c.find-root.ensures c.requires.trees.spots c.requires.trees.forest).known in
    omega (arith, c.loop-name.invariant.all, known, c.requires.names)

pub overflow_add-base : goal.overflow_add-base
overflow_add-base c =
    let trees = c.requires.trees in
    let got = read-at trees.forest _ c.requires.names (omega arith) (omega arith) c.in_ok-spans.ensures.all c.index.ensures (c.find-root.ensures trees.spots trees.forest) (c.in_ok-spans.ensures.reach trees.spots trees.forest) in
    let few = got.few in
    let base = c.index-in-loop-name.result.now in
    let in_bases : c.find-root.result.root < length c.loop-name.bases.items = omega (arith, c.loop-name.invariant.all, got.at.known, c.requires.names) in
    let base_here : base ≡ base_at c.loop-name.bases.items c.find-root.result.root = get_or_read c.loop-name.bases.items c.find-root.result.root base in_bases c.index-in-loop-name.ensures None in
    let so_far = c.loop-name.invariant.so_far trees.spots trees.forest trees.lowest in
    let read = size-read trees.forest trees.lowest got c.words_between-size.result c.words_between-size.ensures (search rules) (search rules) in
    let small = begun-few trees.forest trees.lowest got c.loop-name.words base so_far.words_are (base_here ∙ so_far.bases_are c.find-root.result.root got.at.known got.at.root) in
    let there = distance-read trees.forest trees.lowest got c.words_between.result c.words_between.ensures (search rules) (search rules) in
    let first = ap (λ (p : ℕ × ℕ). p.0) (c.begun-base.ensures ∙ ap (λ n. begun base c.loop-name.words n) read) in
    omega (arith, there, distance-few trees.forest trees.lowest got, small.0, first)

pub loop-name-preserved : goal.loop-name-preserved
loop-name-preserved c =
    let names = c.args.names.now in
    let nodes = c.args.forest.now.nodes.items in
    let k = c.loop-name.name in
    let r = c.find-root.result.root in
    let d = c.find-root.result.distance in
    let was = c.index.result.now in
    record {
      all = length-set c.loop-name.bases.items r _ ∙ c.loop-name.invariant.all;
      so_far = λ spots forest lowest.
          let got = read-at forest _ c.requires.names (omega arith) (omega arith) c.in_ok-spans.ensures.all c.index.ensures (c.find-root.ensures spots forest) (c.in_ok-spans.ensures.reach spots forest) in
          let in_bases : r < length c.loop-name.bases.items = omega (arith, c.loop-name.invariant.all, got.at.known, c.requires.names) in
          let base = c.index-in-loop-name.result.now in
          let base_here : base ≡ base_at c.loop-name.bases.items r = get_or_read c.loop-name.bases.items r base in_bases c.index-in-loop-name.ensures None in
          let read = size-read forest lowest got c.words_between-size.result c.words_between-size.ensures (search rules) (search rules) in
          let answer : c.begun-base.result ≡ begun base c.loop-name.words (nat_abs (was.high -ℤ was.low)) = c.begun-base.ensures ∙ ap (λ n. begun base c.loop-name.words n) read in
          let there = distance-read forest lowest got c.words_between.result c.words_between.ensures (search rules) (search rules) in
          let next = number-next forest lowest got c.loop-name.words c.loop-name.places.items c.loop-name.bases.items base in_bases base_here (c.loop-name.invariant.so_far spots forest lowest) in
          let now = subst (λ (q : ℕ × ℕ). AreNumbered names nodes spots (k + 1) q.1 (c.loop-name.places.items ++ (q.0 + nat_abs (d -ℤ was.low)) ∷ []) (set c.loop-name.bases.items r (Some q.0))) (sym answer) next in
          let items : c.push.new.self.items ≡ c.loop-name.places.items ++ (c.begun-base.result.0 + nat_abs (d -ℤ was.low)) ∷ [] = c.in_ok-push.ensures.items ∙ ap (λ x. c.loop-name.places.items ++ (c.begun-base.result.0 + x) ∷ []) there in
          rw items now;
    }
