use Rattle.std.proofs.Common.{◌≡◌, get_or, sym, ap, ◌∙◌, arith}
use Rattle.f77_tree.specs.Loops.{do_start}
use Rattle.cfg_build.specs.Passes.{kind_in}
use Rattle.simplified_forms.specs.Items.{own_piece}
use Rattle.simplified_forms.specs.Plans.{answer, keeps_kind}
use Rattle.simplified_forms.proofs.LoopNumbers.{next_number, start_within}
use Rattle.simplified_forms.proofs.items.is_kept.Goals as goal

pub bounds-starts-loop_no : goal.bounds-starts-loop_no
bounds-starts-loop_no c =
    let p = c.args.p.now in
    let n = c.in-DoNext in
    let below = next_number p.execs p.loops c.requires.program.execs.loops_nest c.args.k c.at.result.now n.loop_no n.var n.body n.exit c.at.ensures.item n.is in
    omega (arith, below, c.requires.starts.size)

pub bounds-own-starts : goal.bounds-own-starts
bounds-own-starts c =
    let p = c.args.p.now in
    let n = c.in-DoNext in
    let loops = c.requires.program.execs.loops_nest in
    let below = next_number p.execs p.loops loops c.args.k c.at.result.now n.loop_no n.var n.body n.exit c.at.ensures.item n.is in
    let start = c.requires.starts.entry n.loop_no below in
    let within = start_within p.execs p.loops loops n.loop_no below in
    omega (arith, start, within, c.requires.own.size)

pub returns-in-DoNext : goal.returns-in-DoNext
returns-in-DoNext c =
    let p = c.args.p.now in
    let n = c.in-DoNext in
    let loops = c.requires.program.execs.loops_nest in
    let below = next_number p.execs p.loops loops c.args.k c.at.result.now n.loop_no n.var n.body n.exit c.at.ensures.item n.is in
    let start : get_or c.args.starts.now n.loop_no 0 ≡ do_start p.execs n.loop_no = c.requires.starts.entry n.loop_no below in
    let within = start_within p.execs p.loops loops n.loop_no below in
    let own : get_or c.args.own.now (get_or c.args.starts.now n.loop_no 0) 0 ≡ own_piece p (do_start p.execs n.loop_no) = ap (λ k. get_or c.args.own.now k 0) start ∙ c.requires.own.entry (do_start p.execs n.loop_no) within in
    c.is_entered.ensures ∙ ap (answer c.args.entered.now) own ∙ sym (ap (λ kind. keeps_kind p (answer c.args.entered.now) c.args.k kind) (ap kind_in c.at.ensures.item ∙ n.is))
