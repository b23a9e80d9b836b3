use Rattle.std.proofs.Common.{◌≡◌, ◌≤◌, true, false, Some, None, refl, rules, sym, ◌∙◌}
use Rattle.f77_expr.specs.Piece.{bracket_depth}
use Rattle.f77_parse.specs.Forms.{stands_free}
use Rattle.f77_parse.specs.KeptForms.{kept_whole, form_kept}
use Rattle.f77_parse.proofs.StatementsKept.{as_marked, not_told, read_bad, read_good}
use Rattle.f77_parse.proofs.parse.parsed.Goals as goal

pub returns-in-Err-NoForm : goal.returns-in-Err-NoForm
returns-in-Err-NoForm c =
    let text = c.args.raw.now.text in
    let m = c.marks_of-marks.result in
    let few : bracket_depth text ≤ 60 = search rules in
    let equals : m.has_equals ≡ stands_free 61 text = search rules in
    let comma : m.has_comma ≡ stands_free 44 text = search rules in
    let begun : c.new-reader.result.rest.now ≡ text = search rules in
    let good : c.new-reader.result.is_bad ≡ false = search rules in
    let marked = sym (as_marked m.has_equals m.has_comma c.new-reader.result.is_bad c.new-reader.result.rest.now text equals comma good begun) in
    let none : kept_whole (form_kept m.has_equals m.has_comma c.new-reader.result.is_bad c.new-reader.result.rest.now) ≡ None = search rules in
    (few, not_told text (marked ∙ none), refl)

pub returns-then-is_bad : goal.returns-then-is_bad
returns-then-is_bad c =
    let text = c.args.raw.now.text in
    let m = c.marks_of-marks.result in
    let few : bracket_depth text ≤ 60 = search rules in
    let equals : m.has_equals ≡ stands_free 61 text = search rules in
    let comma : m.has_comma ≡ stands_free 44 text = search rules in
    let begun : c.new-reader.result.rest.now ≡ text = search rules in
    let good : c.new-reader.result.is_bad ≡ false = search rules in
    let marked = sym (as_marked m.has_equals m.has_comma c.new-reader.result.is_bad c.new-reader.result.rest.now text equals comma good begun) in
    let stmt = c.in-Ok.stmt in
    let bad = c.statement.new.self.is_bad in
    let rest = c.statement.new.self.rest.now in
    let some : kept_whole (form_kept m.has_equals m.has_comma c.new-reader.result.is_bad c.new-reader.result.rest.now) ≡ Some (stmt, bad, rest) = search rules in
    let is_bad : bad ≡ true = search rules in
    (few, read_bad text stmt bad rest (marked ∙ some) is_bad, refl)

pub returns-else-is_bad : goal.returns-else-is_bad
returns-else-is_bad c =
    let text = c.args.raw.now.text in
    let m = c.marks_of-marks.result in
    let few : bracket_depth text ≤ 60 = search rules in
    let equals : m.has_equals ≡ stands_free 61 text = search rules in
    let comma : m.has_comma ≡ stands_free 44 text = search rules in
    let begun : c.new-reader.result.rest.now ≡ text = search rules in
    let good : c.new-reader.result.is_bad ≡ false = search rules in
    let marked = sym (as_marked m.has_equals m.has_comma c.new-reader.result.is_bad c.new-reader.result.rest.now text equals comma good begun) in
    let stmt = c.in-Ok.stmt in
    let bad = c.statement.new.self.is_bad in
    let rest = c.statement.new.self.rest.now in
    let some : kept_whole (form_kept m.has_equals m.has_comma c.new-reader.result.is_bad c.new-reader.result.rest.now) ≡ Some (stmt, bad, rest) = search rules in
    let fine : bad ≡ false = search rules in
    (few, read_good text stmt bad rest (marked ∙ some) fine, refl, refl)
