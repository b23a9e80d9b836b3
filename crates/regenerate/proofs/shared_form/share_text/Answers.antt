use Rattle.std.proofs.Common.{sym, ◌∙◌}
use Rattle.regenerate.proofs.SharedResults.{made-text, proper, refused-all, refused-long}
use Rattle.regenerate.proofs.shared_form.share_text.Goals as goal

pub returns-then-is_many-clause-statements : goal.returns-then-is_many-clause-statements
returns-then-is_many-clause-statements g c =
    let has = c.in_ok-parts.ensures.parts in
    λ _. refused-all c.args.q.now c.args.f.now c.args.c.now c.args.a c.requires.program c.requires.available c.args.flat c.requires.statements c.in_ok-parts.parts.declared c.in_ok-parts.parts.statements has.declared has.statements has.few (sym c.has_many_statements-is_many.ensures ∙ c.if-is_many.true)

pub print_unless_long-requires-clause-proper : goal.print_unless_long-requires-clause-proper
print_unless_long-requires-clause-proper g c =
    let q = c.args.q.now in
    let has = c.in_ok-parts.ensures.parts in
    let fits = c.executables_tell_statements.ensures.proper q c.args.flat c.requires.program c.requires.statements in
    proper q c.args.f.now c.args.c.now c.args.a c.requires.program c.requires.available c.args.flat c.requires.statements c.in_ok-parts.parts.declared c.in_ok-parts.parts.statements has.declared has.statements (c.scalars_can_be_added.ensures.executables q.names) fits

pub returns-in-None-clause-long : goal.returns-in-None-clause-long
returns-in-None-clause-long g c =
    let has = c.in_ok-parts.ensures.parts in
    λ _. refused-long c.args.q.now c.args.f.now c.args.c.now c.args.a c.requires.program c.requires.available c.args.flat c.requires.statements c.in_ok-parts.parts.declared c.in_ok-parts.parts.statements has.declared has.statements has.few (sym c.has_many_statements-is_many.ensures ∙ c.if-is_many.false) (rw c.in-None.is at c.in_ok-print_unless_long.ensures)

pub returns-clause-text : goal.returns-clause-text
returns-clause-text g c =
    let has = c.in_ok-parts.ensures.parts in
    let printed = rw c.in-Some.is at c.in_ok-print_unless_long.ensures in
    made-text c.args.q.now c.args.f.now c.args.c.now c.args.a c.requires.program c.requires.available c.args.flat c.requires.statements c.in_ok-parts.parts.declared c.in_ok-parts.parts.statements has.declared has.statements has.few (sym c.has_many_statements-is_many.ensures ∙ c.if-is_many.false) printed.0 c.in-Some.text.items printed.1
