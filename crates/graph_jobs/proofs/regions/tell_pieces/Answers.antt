use Rattle.std.proofs.Common.{◌≡◌, ◌+◌, sym, ap, ◌∙◌, arith, length}
use Rattle.cfg_build.specs.Flow.{piece_in, piece_at}
use Rattle.graph_jobs.specs.Regions.{piece_line}
use Rattle.graph_texts.proofs.Texts.{line_told, fault_at_line, on_error}
use Rattle.graph_jobs.proofs.regions.tell_pieces.Goals as goal

pub returns-in_err-append-clause-prefix : goal.returns-in_err-append-clause-prefix
returns-in_err-append-clause-prefix g c =
    let pieces = c.args.flow.now.pieces in
    let k = c.loop-k.k in
    let here : k ≡ 0 + k = omega arith in
    let is = c.as_bytes.ensures.value ∙ c.as_str.ensures.value ∙ c.piece_line-line.ensures ∙ ap (λ found. piece_line k (piece_in found)) (sym c.piece.ensures) ∙ ap (λ n. piece_line n (piece_at pieces n)) here in
    on_error c.from_residual.result
    (fault_at_line (λ n. piece_line n (piece_at pieces n)) 0 k (length pieces) c.args.buffer.now c.loop-k.buffer c.as_bytes.result.now
    (g.K.Sink.got c.args.sink.now) (g.K.Sink.got c.loop-k.sink) (g.K.Sink.got c.append.new.sink)
    (grind (arith, c.loop-k-test.true, c.pieces-k-end.ensures.count)) is c.loop-k.invariant.written c.in_err-append.ensures.prefix)

pub loop-k-preserved : goal.loop-k-preserved
loop-k-preserved g c =
    let pieces = c.args.flow.now.pieces in
    let k = c.loop-k.k in
    let here : k ≡ 0 + k = omega arith in
    let is = c.as_bytes.ensures.value ∙ c.as_str.ensures.value ∙ c.piece_line-line.ensures ∙ ap (λ found. piece_line k (piece_in found)) (sym c.piece.ensures) ∙ ap (λ n. piece_line n (piece_at pieces n)) here in
    record {
      written = line_told (λ n. piece_line n (piece_at pieces n)) 0 k c.args.buffer.now c.loop-k.buffer c.append.new.self c.as_bytes.result.now
          (g.K.Sink.got c.args.sink.now) (g.K.Sink.got c.loop-k.sink) (g.K.Sink.got c.append.new.sink) is c.loop-k.invariant.written c.in_ok-append.ensures.text;
      later = omega (arith, c.loop-k.invariant.later, c.append.ensures.later);
    }
