use Rattle.std.proofs.Common.{◌≡◌, map, sym, ap, ◌∙◌, arith}
use Rattle.std.specs.List.{range_with_len}
use Rattle.std.proofs.lemmas.List.FromFn.{map-range_with_len_more}
use Rattle.storage_association.specs.Trees.{leaf}
use Rattle.storage_association.proofs.Beginnings.{forest-alone}
use Rattle.storage_association.proofs.forest.Forest.new.Goals as goal

pub loop-name-preserved : goal.loop-name-preserved
loop-name-preserved c =
    rw (c.in_ok-push.ensures.items, c.loop-name.invariant) (sym (map-range_with_len_more leaf 0 c.loop-name.name c.loop-name.name (omega arith)))

pub returns : goal.returns
returns c =
    let same : c.loop-name.name ≡ c.args.count = omega arith in
    let items : c.loop-name.nodes.items ≡ map leaf (range_with_len 0 c.args.count) = c.loop-name.invariant ∙ ap (λ n. map leaf (range_with_len 0 n)) same in
    rw items (forest-alone c.args.count)
