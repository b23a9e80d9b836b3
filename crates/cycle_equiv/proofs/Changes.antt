-- Tests that change together: at each step both are as they were, or both turn.
use Rattle.std.proofs.Common.{◌≡◌, ◌↔◌, Bool}
use Rattle.std.proofs.Math.Bool.{xor}
use Rattle.std.proofs.Common.{arith}

-- whether one of two tests holds changes where just one of them does
pub xor_since : (a b c d : Bool) → (a ≡ c ↔ b ≡ d) → xor a b ≡ xor c d
unfolding xor
xor_since h h2 h3 h4 h5 = grind arith

pub xor_second : (a b c d : Bool) → xor a b ≡ xor c d → a ≡ c → b ≡ d
unfolding xor
xor_second h b h2 d h3 same = grind arith

pub xor_first : (a b c d : Bool) → xor a b ≡ xor c d → b ≡ d → a ≡ c
unfolding xor
xor_first a h c h2 h3 same = grind arith
