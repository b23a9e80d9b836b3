use Rattle.std.proofs.Common.{Some, None, sym, ◌∙◌, arith}
use Rattle.control_structure.proofs.InnermostSpans.{leads-none, leads-innermost, target_of, Target-inside, Target-innermost, inner_inside}
use Rattle.control_structure.proofs.jumps.enters.Goals as goal

pub bounds : goal.bounds
bounds c =
    let target = target_of c.args.stmts.now c.requires.once c.args.label c.requires.label in
    let lt = Target-inside c.args.stmts.now c.args.label target in
    let place = c.place.ensures ∙ c.requires.places c.args.label in
    omega (arith, lt, place, c.requires.heads.length_is)

pub holds-requires-clause-head : goal.holds-requires-clause-head
holds-requires-clause-head c =
    let target = target_of c.args.stmts.now c.requires.once c.args.label c.requires.label in
    let place = c.place.ensures ∙ c.requires.places c.args.label in
    inner_inside c.args.stmts.now _ c.in-Some.head (Target-innermost c.args.stmts.now c.args.heads.now c.args.label c.place.result target c.requires.heads place (Some c.in-Some.head) c.in-Some.is)

pub returns-in-Some : goal.returns-in-Some
returns-in-Some c =
    let target = target_of c.args.stmts.now c.requires.once c.args.label c.requires.label in
    let place = c.place.ensures ∙ c.requires.places c.args.label in
    let inner = Target-innermost c.args.stmts.now c.args.heads.now c.args.label c.place.result target c.requires.heads place (Some c.in-Some.head) c.in-Some.is in
    leads-innermost c.args.stmts.now c.args.from _ c.in-Some.head inner c.holds.result (c.holds.ensures inner.span inner.is inner.begins)

pub returns-in-None : goal.returns-in-None
returns-in-None c =
    let target = target_of c.args.stmts.now c.requires.once c.args.label c.requires.label in
    let place = c.place.ensures ∙ c.requires.places c.args.label in
    sym (leads-none c.args.stmts.now c.args.from _ (Target-innermost c.args.stmts.now c.args.heads.now c.args.label c.place.result target c.requires.heads place None c.in-None.is))
