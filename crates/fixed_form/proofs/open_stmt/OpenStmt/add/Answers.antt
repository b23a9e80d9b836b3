use Rattle.std.proofs.Common.{◌-◌, length, replicate, ap, ◌∙◌, arith}
use Rattle.fixed_form.specs.OpenStmt.{with_characters}
use Rattle.fixed_form.proofs.Texts.{put_length, put_card}
use Rattle.fixed_form.proofs.open_stmt.OpenStmt.add.Goals as goal

pub put_blanks-requires : goal.put_blanks-requires
put_blanks-requires c =
    omega (arith, ap (λ s. length s.text) c.in_ok-put_all.ensures, put_length c.args.self.now c.statement_field-field.result.now)

pub returns : goal.returns
returns c =
    let stmt = c.args.self.now in
    let field = c.statement_field-field.result.now in
    c.in_ok-put_blanks.ensures
    ∙ ap (λ s. with_characters s (replicate (66 - length field) 32)) c.in_ok-put_all.ensures
    ∙ ap (λ f. with_characters (with_characters stmt f) (replicate (66 - length f) 32)) c.statement_field-field.ensures.field
    ∙ put_card stmt c.args.columns.now c.requires.short
