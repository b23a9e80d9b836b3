use Rattle.std.proofs.Common.{◌++◌, List, map, option_to_list, ap, ◌∙◌, arith}
use Rattle.const_prop.specs.KnownRows.{edges_of}
use Rattle.const_prop.specs.Table.{knowns_of}
use Rattle.flat_programs.specs.declared.statements.Flat.{Flat}
use Rattle.flat_programs.specs.declared.statements.FlatLine.{FlatLine}
use Rattle.simplified_forms.specs.Plans.{answer, told}
use Rattle.simplified_forms.proofs.StatementLemmas.{item-edge, lines-item}
use Rattle.simplified_forms.proofs.statements.append_item.Goals as goal

pub left-requires : goal.left-requires
left-requires g c =
    let s = c.args.s.now in
    let exec = c.at-exec.result.now in
    let item = (c.requires.scene.planned.ways.kept.items s.k).0 c.requires.item in
    let edge = item-edge s.p.now (knowns_of s.t.now) s.k exec s.edge (edges_of s.t.now.known) item c.at-exec.ensures.item c.requires.edge c.requires.edges in
    let can = (c.well_formed_programs_can_run.ensures s.p.now c.requires.scene.program).executes s.k exec c.at-exec.ensures.item in
    (omega arith, (c.requires.scene, (c.requires.k, (edge, can))))

pub returns : goal.returns
returns g c =
    let s = c.args.s.now in
    let t = knowns_of s.t.now in
    let exec = c.at-exec.result.now in
    let told_is = c.requires.scene.planned.ways.decided.entry s.k c.requires.k in
    let line : Flat → FlatLine = λ stmt. record { line = exec.line; stmt = stmt } in
    let m = option_to_list c.own_mark.result in
    let o = option_to_list c.in_ok-left.field-0 in
    let j = option_to_list c.jump.result in
    c.in_ok-append-3.ensures
    ∙ ap (λ (xs : List FlatLine). xs ++ map line j) (c.in_ok-append-2.ensures ∙ ap (λ (xs : List FlatLine). xs ++ map line o) c.in_ok-append.ensures)
    ∙ lines-item s.p.now s.c.now t s.checked (answer s.plan.now.ways.items.items) s.k exec s.edge (told s.plan.now.ways.decided.items s.k) c.args.flat.now m o j c.requires.item c.at-exec.ensures.item c.requires.edge told_is c.own_mark.ensures c.in_ok-left.ensures c.jump.ensures
