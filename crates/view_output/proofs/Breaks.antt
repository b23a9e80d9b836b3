-- Lines of a text, one by one.
use Rattle.std.proofs.Common.{◌≡◌, ℕ, zero, suc, ◌+◌, ◌-◌, ◌<◌, ◌≤◌, List, [], drop, refl, ap, arith}
use Rattle.std.specs.List.{prefix_len}
use Rattle.view_output.specs.Lines.{is_inside, line_after}

-- past the last line there is nothing
pub nothing_after : (k : ℕ) → line_after k [] ≡ []
nothing_after zero = refl
nothing_after (suc k) = nothing_after k

-- one line more is skipped
pub line_skipped : (n k : ℕ) (text : List ℕ) → k < n → line_after (n - k) text ≡ line_after (n - (k + 1)) (drop (suc (prefix_len is_inside text)) text)
line_skipped n k text more =
    let one : n - k ≡ suc (n - (k + 1)) = omega (arith, more) in
    ap (λ m. line_after m text) one

-- the last line is no longer in sight
pub line_at_end : (n k : ℕ) (text : List ℕ) → n ≤ k → line_after (n - k) text ≡ line_after 0 text
line_at_end n k text past =
    let none : n - k ≡ 0 = omega (arith, past) in
    ap (λ m. line_after m text) none
