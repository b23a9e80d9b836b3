use Rattle.std.proofs.Common.{◌∷◌, [], ◌++◌, ap, sym}
use Rattle.flat_programs.specs.Lines.{margin}
use Rattle.flat_programs.proofs.LineLemmas.{lines_next}
use Rattle.flat_programs.proofs.lines.append_lines.Goals as goal

pub loop-line-preserved : goal.loop-line-preserved
loop-line-preserved c =
    let label = c.args.label in
    let text = c.args.text.now in
    let line = c.loop-line.line in
    lines_next (record { label = label; text = text }) line c.args.out.now.items c.loop-line.out.items c.append_margin.new.out.items c.append.new.out.items c.append-in-loop-line.new.out.items (margin label line) c.line_at.result.now c.loop-line.invariant c.in_ok-append_margin.ensures c.in_ok-append.ensures c.in_ok-append-2.ensures (ap (λ chars. margin label line ++ chars ++ 10 ∷ []) (sym c.line_at.ensures))
