use Rattle.std.proofs.Common.{◌+◌, List, Bool, length, subst}
use Rattle.std.specs.List.{count_by, range_with_len}
use Rattle.const_prop.specs.Table.{knowns_of}
use Rattle.simplified_forms.specs.Plans.{answer}
use Rattle.simplified_forms.specs.Tables.{IsTable}
use Rattle.simplified_forms.proofs.plan.Plan.of.Goals as goal

pub returns : goal.returns
returns g c =
    let t = knowns_of c.args.t.now in
    let ways = c.in_ok-ways.ensures in
    record {
      ways = ways;
      edges = c.in_ok-edges.ensures;
      marked = c.in_ok-marked.ensures.marked t ways.decided;
      marks = subst (λ (xs : List Bool). IsTable (λ k. count_by (answer xs) (range_with_len 0 k)) (length xs + 1) c.in_ok-marks.marks.items) c.deref-3.ensures.value c.in_ok-marks.ensures;
      nexts = c.in_ok-nexts.ensures;
    }
