use Rattle.std.proofs.Common.{◌≡◌, ◌<◌, ◌≤◌, [], ◌∷◌, ◌++◌, Some, arith, rules}
use Rattle.std.proofs.lemmas.Result.{err_from_is_err_and}
use Rattle.printed_graphs.specs.DataflowText.{wires_text}
use Rattle.printed_graphs.specs.GraphReading.{wires_at}
use Rattle.printed_graphs.specs.Printable.{IsPrintableWires}
use Rattle.printed_graphs.specs.Reading.{lines_at}
use Rattle.printed_graphs.proofs.Loops.{all_pushed, lines_go, lines_fail, lines_end}
use Rattle.printed_graphs.proofs.Texts.{lines_step}
use Rattle.printed_graphs.proofs.dataflow_lines.read_all_wires.Goals as goal

pub loop-k-preserved : goal.loop-k-preserved
loop-k-preserved c =
    let x = c.in_ok-read_wires.field-0 in
    let text = c.loop-k.cursor.rest.now in
    let after = c.read_wires.new.cursor.rest.now in
    let longer : c.push.new.self.items ≡ c.loop-k.all.items ++ x ∷ [] = search rules in
    let read : text ≡ wires_text c.loop-k.k x ++ after = search rules in
    let step = lines_step wires_text c.loop-k.k c.loop-k.all.items x c.push.new.self.items c.args.cursor.now.rest.now text after longer c.loop-k.invariant.count c.loop-k.invariant.text read in
    let more : c.loop-k.k < c.args.count = omega arith in
    let passed : wires_at c.loop-k.k text ≡ Some after = search rules in
    record {
      text = step.0;
      count = step.1;
      after = lines_go wires_at c.loop-k.k c.args.count text after (lines_at wires_at 0 c.args.count c.args.cursor.now.rest.now) more passed c.loop-k.invariant.after;
      printable = all_pushed IsPrintableWires c.loop-k.all.items c.push.new.self.items x longer c.loop-k.invariant.printable c.in_ok-read_wires.ensures.printable;
    }

pub returns-in_err-read_wires-clause-after : goal.returns-in_err-read_wires-clause-after
returns-in_err-read_wires-clause-after c =
    let p = err_from_is_err_and c.from_residual.result c.from_residual.ensures.1 in
    let more : c.loop-k.k < c.args.count = omega arith in
    rw (p.1, p.2) (λ unread. lines_fail wires_at c.loop-k.k c.args.count c.loop-k.cursor.rest.now (lines_at wires_at 0 c.args.count c.args.cursor.now.rest.now) more (c.in_err-read_wires.ensures.after unread) c.loop-k.invariant.after)

pub returns-clause-after : goal.returns-clause-after
returns-clause-after c =
    let all : c.args.count ≤ c.loop-k.k = omega arith in
    lines_end wires_at c.loop-k.k c.args.count c.loop-k.cursor.rest.now (lines_at wires_at 0 c.args.count c.args.cursor.now.rest.now) all c.loop-k.invariant.after
