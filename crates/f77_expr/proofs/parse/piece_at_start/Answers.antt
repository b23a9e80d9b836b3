use Rattle.std.proofs.Common.{◌≡◌, ℕ, ◌+◌, false, max, get_or, rules, sym, subst}
use Rattle.f77_expr.specs.Piece.{ends_piece, open_after}
use Rattle.f77_expr.specs.Scanning.{what_is_open}
use Rattle.f77_expr.proofs.Scans.{IsScanned, scan_goes_on}
use Rattle.f77_expr.proofs.parse.piece_at_start.Goals as goal

pub loop-i-preserved : goal.loop-i-preserved
loop-i-preserved c =
    let text = c.args.text.now in
    let i = c.loop-i.i in
    let next = what_is_open c.open_after-state.result in
    let goes_on : ends_piece (what_is_open c.loop-i.state) (get_or text i 0) ≡ false = search rules in
    let is : next ≡ open_after (what_is_open c.loop-i.state) (get_or text i 0) = search rules in
    let deepest : c.max-depth.result ≡ max next.brackets c.loop-i.depth = search rules in
    subst (λ (n : ℕ). IsScanned text next n (i + 1)) (sym deepest) (scan_goes_on text (what_is_open c.loop-i.state) next c.loop-i.depth i 0 c.loop-i.invariant c.loop-i-test.true goes_on is)
