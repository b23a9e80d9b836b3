use Rattle.std.proofs.Common.{◌+◌, ◌-◌, [], ◌∷◌, length, replicate, sym, ap, ◌∙◌, arith}
use Rattle.fixed_form.specs.OpenStmt.{with_characters}
use Rattle.fixed_form.proofs.Texts.{blank_next, put_length, put_nothing}
use Rattle.fixed_form.proofs.open_stmt.OpenStmt.put_blanks.Goals as goal

pub loop-i-preserved : goal.loop-i-preserved
loop-i-preserved c =
    let stmt = c.loop-i.self in
    record {
      so_far = ap (λ s. with_characters s (replicate (c.args.n - (c.loop-i.i + 1)) 32)) c.in_ok-put.ensures ∙ blank_next stmt c.args.n c.loop-i.i c.loop-i-test.true ∙ c.loop-i.invariant.so_far;
      room = omega (arith, ap (λ s. length s.text) c.in_ok-put.ensures, put_length stmt (32 ∷ []));
    }

pub returns-then-not-self : goal.returns-then-not-self
returns-then-not-self c = sym (put_nothing c.args.self.now c.args.n c.if-not-self.true)
