use Rattle.std.proofs.Common.{◌≡◌, suc, ◌+◌, [], ◌∷◌, ◌++◌, length, take, get_or, refl, ap, sym, ◌∙◌, arith}
use Rattle.std.proofs.Math.Seq.{take-suc}
use Rattle.std.proofs.lemmas.List.{get_or_read, length-take-le}
use Rattle.view_output.specs.Told.{told}
use Rattle.graph_json.proofs.Rows.{words_at, Adds_nothing, one_row}
use Rattle.graph_json.proofs.json.write_separated.Goals as goal

pub loop-value-init : goal.loop-value-init
loop-value-init g c = record { told = Adds_nothing (told g.K.Sink.got c.args.output.now); before = refl }

pub loop-value-preserved : goal.loop-value-preserved
loop-value-preserved g c =
    let got = g.K.Sink.got in
    let i = c.loop-value.value-index in
    let first = c.args.first.now in
    let between = c.args.between.now in
    let so_far = take i c.args.values.now in
    let x = c.value-item.result in
    let words = c.loop-value.before.now in
    let is : x ≡ get_or c.args.values.now i x = get_or_read c.args.values.now i x c.loop-value-test.true c.value-item.is x in
    let next : i + 1 ≡ suc i = omega arith in
    let longer : take (i + 1) c.args.values.now ≡ so_far ++ x ∷ [] = ap (λ n. take n c.args.values.now) next ∙ take-suc c.args.values.now i x c.loop-value-test.true ∙ ap (λ y. so_far ++ y ∷ []) (sym is) in
    let count : length so_far ≡ i = length-take-le i c.args.values.now c.loop-value.auto.value-index-end in
    let same : words ≡ words_at first between (length so_far) = c.loop-value.invariant.before ∙ ap (words_at first between) (sym count) in
    record {
      told = one_row first between g.T.Json.json_text so_far (take (i + 1) c.args.values.now) x (told got c.args.output.now) (told got c.loop-value.output) (told got c.bytes.new.self) (told got c.write.new.output) words longer same c.loop-value.invariant.told c.in_ok-bytes.ensures c.in_ok-write.ensures;
      before = ap (words_at first between) (sym next);
    }
