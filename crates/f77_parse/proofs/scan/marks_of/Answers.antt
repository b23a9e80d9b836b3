use Rattle.std.proofs.Common.{◌≡◌, ◌==◌, ◌&&◌, ◌||◌, not, max, false, get_or, rules, sym, subst}
use Rattle.f77_expr.specs.Piece.{Open, nothing_open, open_after}
use Rattle.f77_expr.specs.Scanning.{what_is_open}
use Rattle.f77_parse.proofs.Marks.{IsMarked, marks_begin, marks_go_on, marks_end}
use Rattle.f77_parse.proofs.scan.marks_of.Goals as goal

pub loop-c-init : goal.loop-c-init
loop-c-init c =
    let nothing : what_is_open c.nothing-state.result ≡ nothing_open = search rules in
    subst (λ (open_now : Open). IsMarked c.args.text.now open_now 0 false false 0) (sym nothing) (marks_begin c.args.text.now)

pub loop-c-preserved : goal.loop-c-preserved
loop-c-preserved c =
    let text = c.args.text.now in
    let i = c.loop-c.c-index in
    let state = what_is_open c.loop-c.state in
    let next = what_is_open c.open_after-next.result in
    let is : next ≡ open_after state (get_or text i 0) = search rules in
    let depth : c.marks_after-marks.result.depth ≡ max c.loop-c.marks.depth next.brackets = search rules in
    let equals : c.marks_after-marks.result.has_equals ≡ (c.loop-c.marks.has_equals || ((get_or text i 0 == 61) && not state.quoted && (state.brackets == 0))) = search rules in
    let comma : c.marks_after-marks.result.has_comma ≡ (c.loop-c.marks.has_comma || ((get_or text i 0 == 44) && not state.quoted && (state.brackets == 0))) = search rules in
    marks_go_on text state next c.loop-c.marks.depth c.marks_after-marks.result.depth c.loop-c.marks.has_equals c.loop-c.marks.has_comma c.marks_after-marks.result.has_equals c.marks_after-marks.result.has_comma i 0 c.loop-c.invariant c.loop-c-test.true is depth equals comma

pub returns : goal.returns
returns c =
    let ends = marks_end c.args.text.now _ _ _ _ c.loop-c.c-index c.loop-c.invariant c.loop-c-test.false in
    record { depth = ends.0; equals = ends.1; comma = ends.2 }
