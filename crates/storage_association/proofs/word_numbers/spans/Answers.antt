use Rattle.std.proofs.Common.{◌≡◌, ◌<◌, ℕ, pos, length, ap, subst, ◌∙◌, arith, rules}
use Rattle.std.proofs.lemmas.List.{get_or_read, length-set}
use Rattle.layout_rules.specs.Storage.{size_at, size_of}
use Rattle.storage_association.specs.WordNumbers.{AreSpans, span_at, no_span}
use Rattle.storage_association.proofs.Joining.{rooted-close}
use Rattle.storage_association.proofs.Spans.{spans-next, span-read, size-few, end-sum-fits}
use Rattle.storage_association.proofs.word_numbers.spans.Goals as goal

pub overflow_add-end : goal.overflow_add-end
overflow_add-end c =
    let size : c.from.result ≡ pos (size_at c.args.names.now c.loop-name.name) = c.from.ensures ∙ ap pos (c.size_of.ensures ∙ ap (λ dims. size_of dims) c.dims.ensures) in
    let close = rooted-close c.requires.trees (omega (arith, c.requires.names)) (omega (arith, c.requires.names)) c.find-root.ensures in
    end-sum-fits c.find-root.result.distance c.from.result (size_at c.args.names.now c.loop-name.name) close (size-few c.args.names.now c.loop-name.name) size

pub loop-name-preserved : goal.loop-name-preserved
loop-name-preserved c =
    let nodes = c.args.forest.now.nodes.items in
    let names = c.args.names.now in
    let k = c.loop-name.name in
    let spans = c.loop-name.spans.items in
    let r = c.find-root.result.root in
    let d = c.find-root.result.distance in
    let size : c.from.result ≡ pos (size_at names k) = c.from.ensures ∙ ap pos (c.size_of.ensures ∙ ap (λ dims. size_of dims) c.dims.ensures) in
    let close = rooted-close c.requires.trees (omega (arith, c.requires.names)) (omega (arith, c.requires.names)) c.find-root.ensures in
    let found = c.find-root.ensures c.requires.trees.spots c.requires.trees.forest in
    let in_spans : r < length spans = omega (arith, found.known, c.requires.names, c.loop-name.invariant.all) in
    let here : c.index-span.result.now ≡ span_at spans r = get_or_read spans r c.index-span.result.now in_spans c.index-span.ensures no_span in
    let new = span-read (span_at spans r) c.index-span.result.now d c.from.result c.min.result c.max.result (size_at names k) here close (size-few names k) size (search rules) (search rules) (search rules) (search rules) c.min.ensures.value c.max.ensures.value in
    record {
      all = length-set spans r _ ∙ c.loop-name.invariant.all;
      so_far = λ spots forest.
          let at = c.find-root.ensures spots forest in
          spans-next names nodes spots forest k r d (omega (arith, forest.all, c.requires.names)) at.known at.root at.below spans _ in_spans new (c.loop-name.invariant.so_far spots forest);
    }

pub returns-clause-reach : goal.returns-clause-reach
returns-clause-reach c = λ spots forest.
    let done : c.loop-name.name ≡ length c.args.names.now = omega arith in
    subst (λ (k : ℕ). AreSpans c.args.names.now c.args.forest.now.nodes.items spots k c.loop-name.spans.items) done (c.loop-name.invariant.so_far spots forest)
