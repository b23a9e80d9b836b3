use Rattle.std.proofs.Common.{◌≡◌, ℕ, ◌+◌, ◌-◌, ◌||◌, List, length, drop, Err, rules, arith, sym, ap, subst, ◌∙◌}
use Rattle.f77_expr.specs.Piece.{piece}
use Rattle.f77_expr.specs.Parsing.{IsReadWhole}
use Rattle.f77_parse.proofs.ExpressionsKept.{piece_short, piece_some, piece_failed, expression_there}
use Rattle.f77_parse.proofs.reader.Reader.expression.Goals as goal

pub returns-in_err-read-clause-gives : goal.returns-in_err-read-clause-gives
returns-in_err-read-clause-gives c =
    let text = c.args.self.now.rest.now in
    let end : text ≡ drop (c.len.result - length text) c.args.self.now.text.now = search rules in
    let whole : c.from_residual.result ≡ Err c.in_err-read.field-0.0 = search rules in
    piece_failed text (drop (c.len.result - length text) c.args.self.now.text.now) end _ c.args.self.now.is_bad _ _ c.read_expr.result c.from_residual.result c.in_err-read.field-0.0 c.in_err-read.was whole c.read_expr.ensures

pub skip-requires : goal.skip-requires
skip-requires c =
    let text = c.args.self.now.rest.now in
    let end : text ≡ drop (c.len.result - length text) c.args.self.now.text.now = search rules in
    let next : c.in_ok-read.read.next ≡ (c.len.result - length text) + length (piece (drop (c.len.result - length text) c.args.self.now.text.now)) = c.in_ok-read.ensures.1 in
    let same = ap (λ (t : List ℕ). length (piece t)) end in
    let short = piece_short text in
    omega arith

pub returns-clause-gives : goal.returns-clause-gives
returns-clause-gives c =
    let text = c.args.self.now.rest.now in
    let e = c.in_ok-read.read.expr in
    let great = c.in_ok-read.read.has_great_constant in
    let end : text ≡ drop (c.len.result - length text) c.args.self.now.text.now = search rules in
    let next : c.in_ok-read.read.next ≡ (c.len.result - length text) + length (piece (drop (c.len.result - length text) c.args.self.now.text.now)) = c.in_ok-read.ensures.1 in
    let same = ap (λ (t : List ℕ). length (piece t)) end in
    let count : c.in_ok-read.read.next - (c.len.result - length text) ≡ length (piece text) = omega arith in
    let is = subst (λ (t : List ℕ). IsReadWhole (piece t) e great) (sym end) c.in_ok-read.ensures.0 in
    let bad : c.tell.new.self.is_bad ≡ (c.args.self.now.is_bad || great) = search rules in
    expression_there c.args.self.now.is_bad text e great c.tell.new.self.rest.now c.tell.new.self.is_bad is (c.tell.ensures.rest ∙ c.skip.ensures.rest ∙ ap (λ (n : ℕ). drop n text) count) bad

pub returns-clause-shorter : goal.returns-clause-shorter
returns-clause-shorter c =
    let text = c.args.self.now.rest.now in
    let e = c.in_ok-read.read.expr in
    let great = c.in_ok-read.read.has_great_constant in
    let end : text ≡ drop (c.len.result - length text) c.args.self.now.text.now = search rules in
    let next : c.in_ok-read.read.next ≡ (c.len.result - length text) + length (piece (drop (c.len.result - length text) c.args.self.now.text.now)) = c.in_ok-read.ensures.1 in
    let same = ap (λ (t : List ℕ). length (piece t)) end in
    let count : c.in_ok-read.read.next - (c.len.result - length text) ≡ length (piece text) = omega arith in
    let is = subst (λ (t : List ℕ). IsReadWhole (piece t) e great) (sym end) c.in_ok-read.ensures.0 in
    let less = piece_some text e great is in
    let rest : length c.tell.new.self.rest.now ≡ length (drop (length (piece text)) text) = ap length (c.tell.ensures.rest ∙ c.skip.ensures.rest ∙ ap (λ (n : ℕ). drop n text) count) in
    omega arith
