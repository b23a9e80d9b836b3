use Rattle.std.proofs.Common.{sym, ◌∙◌}
use Rattle.regenerate.proofs.SharedResults.{made, proper, refused-all, refused-long}
use Rattle.regenerate.proofs.shared_form.share.Goals as goal

pub returns-then-has_many_statements-clause-statements : goal.returns-then-has_many_statements-clause-statements
returns-then-has_many_statements-clause-statements g c =
    let has = c.in_ok-parts.ensures.parts in
    λ _. refused-all c.args.q.now c.args.f.now c.args.c.now c.args.a c.requires.program c.requires.available c.args.flat c.requires.statements c.in_ok-parts.parts.declared c.in_ok-parts.parts.statements has.declared has.statements has.few (sym c.has_many_statements.ensures ∙ c.if-has_many_statements.true)

pub has_long_text-requires-clause-proper : goal.has_long_text-requires-clause-proper
has_long_text-requires-clause-proper g c =
    let q = c.args.q.now in
    let has = c.in_ok-parts.ensures.parts in
    let fits = c.executables_tell_statements.ensures.proper q c.args.flat c.requires.program c.requires.statements in
    proper q c.args.f.now c.args.c.now c.args.a c.requires.program c.requires.available c.args.flat c.requires.statements c.in_ok-parts.parts.declared c.in_ok-parts.parts.statements has.declared has.statements (c.scalars_can_be_added.ensures.executables q.names) fits

pub returns-then-branch-clause-long : goal.returns-then-branch-clause-long
returns-then-branch-clause-long g c =
    let has = c.in_ok-parts.ensures.parts in
    λ _. refused-long c.args.q.now c.args.f.now c.args.c.now c.args.a c.requires.program c.requires.available c.args.flat c.requires.statements c.in_ok-parts.parts.declared c.in_ok-parts.parts.statements has.declared has.statements has.few (sym c.has_many_statements.ensures ∙ c.if-has_many_statements.false) (sym c.in_ok-has_long_text.ensures ∙ c.if-branch.true)

pub returns-clause-shared : goal.returns-clause-shared
returns-clause-shared g c =
    let has = c.in_ok-parts.ensures.parts in
    made c.args.q.now c.args.f.now c.args.c.now c.args.a c.requires.program c.requires.available c.args.flat c.requires.statements c.in_ok-parts.parts.declared c.in_ok-parts.parts.statements has.declared has.statements c.in_ok-program_of.field-0 has.few (sym c.has_many_statements.ensures ∙ c.if-has_many_statements.false) (sym c.in_ok-has_long_text.ensures ∙ c.if-branch.false) c.in_ok-program_of.ensures
