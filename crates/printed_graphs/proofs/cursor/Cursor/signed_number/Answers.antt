use Rattle.std.proofs.Common.{cond, Some, None, refl, sym, ap, ◌∙◌}
use Rattle.std.proofs.lemmas.Result.{err_from_is_err_and}
use Rattle.printed_graphs.proofs.Loops.{minus_taken, signed_none, signed_is}
use Rattle.printed_graphs.proofs.cursor.Cursor.signed_number.Goals as goal

pub returns-in_err-n-clause-after : goal.returns-in_err-n-clause-after
returns-in_err-n-clause-after c =
    let text = c.args.self.now.rest.now in
    let number = c.takes-is_negative.new.self.rest.now in
    let minus = minus_taken c.takes-is_negative.result text number c.takes-is_negative.ensures.text c.takes-is_negative.ensures.after in
    let p = err_from_is_err_and c.from_residual.result c.from_residual.ensures.1 in
    rw (p.1, p.2) (c.in_err-n.ensures.after.0, signed_none text number minus.1 c.in_err-n.ensures.after.1)

pub returns-in-Some-clause-after : goal.returns-in-Some-clause-after
returns-in-Some-clause-after c =
    let text = c.args.self.now.rest.now in
    let number = c.takes-is_negative.new.self.rest.now in
    let after = c.number.new.self.rest.now in
    let minus = minus_taken c.takes-is_negative.result text number c.takes-is_negative.ensures.text c.takes-is_negative.ensures.after in
    signed_is c.takes-is_negative.result c.in_ok-n.n text number after minus.0 minus.1 c.in_ok-n.ensures.after
    ∙ ap (λ b. cond b (Some after) None) (sym c.in-Some.ensures.variant)

pub returns-in-None-clause-after : goal.returns-in-None-clause-after
returns-in-None-clause-after c =
    let text = c.args.self.now.rest.now in
    let number = c.takes-is_negative.new.self.rest.now in
    let after = c.number.new.self.rest.now in
    let minus = minus_taken c.takes-is_negative.result text number c.takes-is_negative.ensures.text c.takes-is_negative.ensures.after in (
      refl,
      signed_is c.takes-is_negative.result c.in_ok-n.n text number after minus.0 minus.1 c.in_ok-n.ensures.after
          ∙ ap (λ b. cond b (Some after) None) (sym c.in-None.ensures.variant),
    )
