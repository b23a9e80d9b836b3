use Rattle.std.proofs.Common.{length, slice_get, refl, sym, ◌∙◌}
use Rattle.std.proofs.lemmas.Bool.{ltb-false, ltb-true}
use Rattle.std.proofs.lemmas.Option.{slice_get_past, slice_get_read}
use Rattle.program_units.specs.Refusals.{is_same_dim}
use Rattle.unit_checks.proofs.AlikeOnes.{both-some, first-none, second-none}
use Rattle.unit_checks.proofs.alike.is_same_dim_at.Goals as goal

pub returns-in-Some-Some : goal.returns-in-Some-Some
returns-in-Some-Some c =
    let xs = c.args.a.now in
    let ys = c.args.b.now in
    let i = c.args.i in
    let x = c.in-Some-Some.x.now in
    let y = c.in-Some-Some.y.now in
    let left = c.in-Some-Some.ensures.lookup in
    let right = c.in-Some-Some.ensures'.lookup in
    c.is_same_dim.ensures
    ∙ both-some is_same_dim (slice_get xs i) (slice_get ys i) x y (slice_get_read xs (length xs) i x refl (ltb-true i (length xs) (sym left.0)) left.1) (slice_get_read ys (length ys) i y refl (ltb-true i (length ys) (sym right.0)) right.1)

pub returns-in_default : goal.returns-in_default
returns-in_default c =
    let ys = c.args.b.now in
    second-none is_same_dim (slice_get c.args.a.now c.args.i) (slice_get ys c.args.i) (slice_get_past ys c.args.i (ltb-false c.args.i (length ys) (sym c.in_default.ensures'.lookup.0)))

pub returns-in_default-2 : goal.returns-in_default-2
returns-in_default-2 c =
    let xs = c.args.a.now in
    first-none is_same_dim (slice_get xs c.args.i) (slice_get c.args.b.now c.args.i) (slice_get_past xs c.args.i (ltb-false c.args.i (length xs) (sym c.in_default.ensures.lookup.0)))
