use Rattle.std.proofs.Common.{◌≡◌, [], false, Err, length, rules}
use Rattle.std.proofs.lemmas.List.{nil_from_length}
use Rattle.f77_expr.specs.Reader.{expression_at}
use Rattle.f77_expr.specs.Answers.{IsRead}
use Rattle.f77_expr.proofs.Whole.{more_written, whole_written, piece_fails}
use Rattle.f77_expr.proofs.reader.read_piece.Goals as goal

pub returns-in_err-expr : goal.returns-in_err-expr
returns-in_err-expr c =
    let whole : c.from_residual.result ≡ Err c.in_err-expr.field-0.0 = search rules in
    piece_fails _ c.args.piece.now c.args.from c.expression.result c.from_residual.result c.in_err-expr.field-0.0 c.in_err-expr.was whole c.expression.ensures

pub returns-then-not-is_empty : goal.returns-then-not-is_empty
returns-then-not-is_empty c =
    let piece = c.args.piece.now in
    let rest = c.expression.new.self.rest.now in
    let read : IsRead piece false (expression_at 0 piece) c.in_ok-expr.expr rest c.expression.new.self.has_great = search rules in
    let some : rest ≡ [] → ⊥ = search rules in
    more_written piece false c.in_ok-expr.expr rest c.expression.new.self.has_great read some

pub returns : goal.returns
returns c =
    let piece = c.args.piece.now in
    let rest = c.expression.new.self.rest.now in
    let read : IsRead piece false (expression_at 0 piece) c.in_ok-expr.expr rest c.expression.new.self.has_great = search rules in
    let none : length rest ≡ 0 = search rules in
    let whole = nil_from_length rest none in
    (whole_written piece c.in_ok-expr.expr rest c.expression.new.self.has_great read whole, search rules)
