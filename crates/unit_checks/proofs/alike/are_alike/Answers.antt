use Rattle.std.proofs.Common.{◌≡◌, ◌<◌, true, false, length, sym, ◌∙◌, arith}
use Rattle.std.specs.Prelude.{slice_get}
use Rattle.declared_names.specs.KeptDeclarations.{said_by}
use Rattle.unit_checks.specs.Alike.{is_alike_told, are_both}
use Rattle.unit_checks.proofs.AlikeOnes.{fit-end, fit-inside, fit-more, fit-none}
use Rattle.unit_checks.proofs.alike.are_alike.Goals as goal

pub returns-then-not-is_alike_at : goal.returns-then-not-is_alike_at
returns-then-not-is_alike_at c =
    let xs = c.args.xs.now in
    let ys = c.args.ys.now in
    let i = c.loop-i.i in
    let none : are_both (is_alike_told (said_by c.args.u.now) (said_by c.args.v.now)) (slice_get xs i) (slice_get ys i) ≡ false = sym c.is_alike_at.ensures ∙ c.if-not-is_alike_at.true in
    sym (c.loop-i.invariant.same ∙ fit-none (is_alike_told (said_by c.args.u.now) (said_by c.args.v.now)) xs ys i c.loop-i-test.true none)

pub loop-i-preserved : goal.loop-i-preserved
loop-i-preserved c =
    let xs = c.args.xs.now in
    let ys = c.args.ys.now in
    let i = c.loop-i.i in
    let both : are_both (is_alike_told (said_by c.args.u.now) (said_by c.args.v.now)) (slice_get xs i) (slice_get ys i) ≡ true = sym c.is_alike_at.ensures ∙ c.if-not-is_alike_at.false in
    let inside : i < length ys = fit-inside (is_alike_told (said_by c.args.u.now) (said_by c.args.v.now)) xs ys i both in
    record { same = c.loop-i.invariant.same ∙ fit-more (is_alike_told (said_by c.args.u.now) (said_by c.args.v.now)) xs ys i both; few = omega (arith, inside) }

pub returns : goal.returns
returns c =
    let xs = c.args.xs.now in
    let ys = c.args.ys.now in
    sym (c.loop-i.invariant.same ∙ fit-end (is_alike_told (said_by c.args.u.now) (said_by c.args.v.now)) xs ys c.loop-i.i (omega arith) c.loop-i.invariant.few)
