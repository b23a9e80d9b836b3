-- Rows of a table, one after another.
use Rattle.std.proofs.Common.{arith, ◌<◌, ◌≤◌, ◌+◌, ◌*◌, ◌/◌, ℕ, List, add-one, refl}
use Rattle.std.proofs.Math.Nat.{mul-le-mul_right}
use Rattle.std.proofs.lemmas.Grind.{put_two}
use Rattle.std.specs.Fmt.{HasWritten}
use Rattle.trace_profiles.specs.Profiles.{row_text, rows_text}

-- one row more
pub one_row_more : {W : Type 0} (took : W → List ℕ → W → Type 0) (widths : List ℕ) (k : ℕ) (f g h : _) → HasWritten took f (rows_text widths k) g → HasWritten took g (row_text widths k) h → HasWritten took f (rows_text widths (k + 1)) h
one_row_more took widths k f g h before next = put_two took f g h (rows_text widths k) (row_text widths k) (rows_text widths (k + 1)) before next (rw (add-one k) refl)

-- how many rounds stand before a row
pub few_before : (number len : ℕ) → number < 40 → number * (len / 40 + 1) ≤ len + 40
few_before number len few = let most : number * (len / 40 + 1) ≤ 40 * (len / 40 + 1) = mul-le-mul_right (len / 40 + 1) (omega (arith, few)) in omega (arith, most)
