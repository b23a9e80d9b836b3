use Rattle.std.proofs.Common.{◌≡◌, ◌<◌, ◌≤◌, [], ◌∷◌, ◌++◌, Some, arith, rules}
use Rattle.std.proofs.lemmas.Result.{err_from_is_err_and}
use Rattle.printed_graphs.specs.DataflowText.{node_line_text}
use Rattle.printed_graphs.specs.GraphReading.{node_line_at}
use Rattle.printed_graphs.specs.Printable.{IsPrintableNode}
use Rattle.printed_graphs.specs.Reading.{lines_at}
use Rattle.printed_graphs.proofs.Loops.{all_pushed, lines_go, lines_fail, lines_end}
use Rattle.printed_graphs.proofs.Texts.{lines_step}
use Rattle.printed_graphs.proofs.dataflow_lines.read_nodes.Goals as goal

pub loop-k-preserved : goal.loop-k-preserved
loop-k-preserved c =
    let x = c.in_ok-read_node_line.field-0 in
    let text = c.loop-k.cursor.rest.now in
    let after = c.read_node_line.new.cursor.rest.now in
    let longer : c.push.new.self.items ≡ c.loop-k.all.items ++ x ∷ [] = search rules in
    let read : text ≡ node_line_text c.loop-k.k x ++ after = search rules in
    let step = lines_step node_line_text c.loop-k.k c.loop-k.all.items x c.push.new.self.items c.args.cursor.now.rest.now text after longer c.loop-k.invariant.count c.loop-k.invariant.text read in
    let more : c.loop-k.k < c.args.count = omega arith in
    let passed : node_line_at c.loop-k.k text ≡ Some after = search rules in
    record {
      text = step.0;
      count = step.1;
      after = lines_go node_line_at c.loop-k.k c.args.count text after (lines_at node_line_at 0 c.args.count c.args.cursor.now.rest.now) more passed c.loop-k.invariant.after;
      printable = all_pushed IsPrintableNode c.loop-k.all.items c.push.new.self.items x longer c.loop-k.invariant.printable c.in_ok-read_node_line.ensures.printable;
    }

pub returns-in_err-read_node_line-clause-after : goal.returns-in_err-read_node_line-clause-after
returns-in_err-read_node_line-clause-after c =
    let p = err_from_is_err_and c.from_residual.result c.from_residual.ensures.1 in
    let more : c.loop-k.k < c.args.count = omega arith in
    rw (p.1, p.2) (λ unread. lines_fail node_line_at c.loop-k.k c.args.count c.loop-k.cursor.rest.now (lines_at node_line_at 0 c.args.count c.args.cursor.now.rest.now) more (c.in_err-read_node_line.ensures.after unread) c.loop-k.invariant.after)

pub returns-clause-after : goal.returns-clause-after
returns-clause-after c =
    let all : c.args.count ≤ c.loop-k.k = omega arith in
    lines_end node_line_at c.loop-k.k c.args.count c.loop-k.cursor.rest.now (lines_at node_line_at 0 c.args.count c.args.cursor.now.rest.now) all c.loop-k.invariant.after
