use Rattle.std.proofs.Common.{rules, ◌≡◌, Bool, List, length, true, false, sym, ap, ◌∙◌, arith}
use Rattle.std.specs.List.{list_any, range_with_len}
use Rattle.std.proofs.lemmas.List.{get_or_read}
use Rattle.cfg_build.specs.Passes.{kind_in}
use Rattle.simplified_forms.specs.Plans.{answer}
use Rattle.simplified_forms.proofs.JumpTables.{jumped-item, jumped-other, jumps_there}
use Rattle.simplified_forms.proofs.plan.jumped_to.Goals as goal
use Rattle.simplified_forms.proofs.plan.jumped_to.Goals.{then-index, else-index}

pub loop-k-preserved : goal.loop-k-preserved
loop-k-preserved c =
    let p = c.args.p.now in
    let ways = c.args.ways.now in
    let items = ways.items.items in
    let k = c.loop-k.k in
    let old = c.loop-k.jumped.items in
    let kept = c.loop-k.invariant in
    let read : answer items k ≡ c.index.result.now = sym (get_or_read items k c.index.result.now (omega (arith, c.requires.size, c.loop-k-test.true, c.len-k-end.ensures)) c.index.ensures false) in
    elim c.if-index.branch [
      | then-index w ↦
          let item : answer items k ≡ true = read ∙ w.if-index.true in
          let same : c.if-index.jumped.items ≡ w.note_jumps.new.noted.items = search rules in
          record {
            size = ap length same ∙ w.note_jumps.ensures.size ∙ kept.size;
            jumped = λ t told s less.
                ap (λ (xs : List Bool). answer xs s) same
                ∙ jumped-item p t (answer items) s k w.at.result.now.kind ways.decided.items (answer old s) (answer w.note_jumps.new.noted.items s) item (ap kind_in w.at.ensures.item) (omega (arith, c.loop-k-test.true, c.len-k-end.ensures)) told (kept.jumped t told s less) (w.note_jumps.ensures.noted s (omega (arith, less, kept.size)));
          }
      | else-index w ↦
          let none : answer items k ≡ false = read ∙ w.if-index.false in
          let same : c.if-index.jumped.items ≡ old = search rules in
          record {
            size = ap length same ∙ kept.size;
            jumped = λ t told s less.
                ap (λ (xs : List Bool). answer xs s) same
                ∙ jumped-other p t (answer items) s k (answer old s) none (kept.jumped t told s less);
          }
    ]

pub returns-clause-jumped : goal.returns-clause-jumped
returns-clause-jumped c = λ t told.
    let p = c.args.p.now in
    let items = c.args.ways.now.items.items in
    let end : c.loop-k.k ≡ length p.execs = omega (arith, c.loop-k-test.false, c.len-k-end.ensures) in
    record {
      size = c.loop-k.invariant.size;
      entry = λ s less. c.loop-k.invariant.jumped t told s less ∙ ap (λ n. list_any (jumps_there p t (answer items) s) (range_with_len 0 n)) end;
    }
