use Rattle.std.proofs.Common.{◌∙◌, ap, sym}
use Rattle.redundancy.specs.Digests.{digest, mixed, digest_of_all}
use Rattle.redundancy.proofs.Comparing.{digest-Apply, digest-Read, digest_more}
use Rattle.redundancy.proofs.trees.+digest.Goals as goal

pub digest-returns-in-Read : goal.digest-returns-in-Read
digest-returns-in-Read t c =
    c.mix.ensures ∙ ap (λ n. mixed n c.from-in-Read.result) c.digest_all.ensures ∙ ap (mixed (digest_of_all c.in-Read.access.subs)) c.from-in-Read.ensures ∙ sym (digest-Read c.in-Read.access) ∙ ap digest (sym c.in-Read.is)

pub digest-returns-in-Apply : goal.digest-returns-in-Apply
digest-returns-in-Apply t c =
    c.digest_all-in-Apply.ensures ∙ sym (digest-Apply c.in-Apply.field-0 c.in-Apply.args) ∙ ap digest (sym c.in-Apply.is)

pub digest_all-loop-e-preserved : goal.digest_all-loop-e-preserved
digest_all-loop-e-preserved t c =
    c.mix-all.ensures ∙ ap (mixed c.loop-e.all) c.digest.ensures ∙ ap (λ all. mixed all (digest c.e-item.result)) c.loop-e.invariant ∙ digest_more c.as_slice-e-items.result.now c.loop-e.e-index c.e-item.result c.loop-e-test.true c.e-item.is
