use Rattle.std.proofs.Common.{◌≡◌, ◌<◌, true, false, length, sym, ◌∙◌, arith}
use Rattle.std.specs.Prelude.{slice_get}
use Rattle.program_units.specs.Refusals.{is_same_dim}
use Rattle.unit_checks.specs.Alike.{are_both}
use Rattle.unit_checks.proofs.AlikeOnes.{fit-end, fit-inside, fit-more, fit-none}
use Rattle.unit_checks.proofs.alike.are_same_dims.Goals as goal

pub returns-then-not-is_same_dim_at : goal.returns-then-not-is_same_dim_at
returns-then-not-is_same_dim_at c =
    let xs = c.args.a.now in
    let ys = c.args.b.now in
    let i = c.loop-i.i in
    let none : are_both is_same_dim (slice_get xs i) (slice_get ys i) ≡ false = sym c.is_same_dim_at.ensures ∙ c.if-not-is_same_dim_at.true in
    sym (c.loop-i.invariant.same ∙ fit-none is_same_dim xs ys i c.loop-i-test.true none)

pub loop-i-preserved : goal.loop-i-preserved
loop-i-preserved c =
    let xs = c.args.a.now in
    let ys = c.args.b.now in
    let i = c.loop-i.i in
    let both : are_both is_same_dim (slice_get xs i) (slice_get ys i) ≡ true = sym c.is_same_dim_at.ensures ∙ c.if-not-is_same_dim_at.false in
    let inside : i < length ys = fit-inside is_same_dim xs ys i both in
    record { same = c.loop-i.invariant.same ∙ fit-more is_same_dim xs ys i both; few = omega (arith, inside) }

pub returns : goal.returns
returns c =
    let xs = c.args.a.now in
    let ys = c.args.b.now in
    sym (c.loop-i.invariant.same ∙ fit-end is_same_dim xs ys c.loop-i.i (omega arith) c.loop-i.invariant.few)
