-- Firings counted by rounds.
use Rattle.std.proofs.Common.{arith, ◌≡◌, ◌≢◌, ◌∙◌, ◌<◌, ◌==◌, ap, if◌then◌else◌, ℕ, suc, List, length, slice_index, subst, sym, Option}
use Rattle.std.proofs.lemmas.Bool.Decides.{nat_tests}
use Rattle.std.proofs.lemmas.Grind.{common_steps, same_number_lists}
use Rattle.std.proofs.lemmas.List.FromFn.{get_or-map-range_with_len, length-map-range_with_len}
use Rattle.std.specs.List.{position}
use Rattle.trace_profiles.specs.Profiles.{counted, widest_round, width_of, widths_of}
use Rattle.trace_profiles.specs.Rounds.{greatest}

-- all are counted
pub all_counted : (rounds widths : List ℕ) → length widths ≡ greatest rounds → ((i : ℕ) → i < greatest rounds → slice_index widths i ≡ width_of rounds (suc i)) → widths ≡ widths_of rounds
all_counted rounds widths count each =
    same_number_lists widths (widths_of rounds) (count ∙ sym (length-map-range_with_len (width_of rounds) 1 (greatest rounds))) (λ i lt.
    let low : i < greatest rounds = omega (arith, count, lt) in
    each i low ∙ sym (get_or-map-range_with_len (width_of rounds) 1 (greatest rounds) i (suc i) 0 low (omega arith)))

-- the place of the first of the widest rounds
abbrev WidestAt : (widths : List ℕ) → (place : Option ℕ) → (most : ℕ) → Type 0
WidestAt widths place most = counted place ≡ (if most == 0 then 0 else counted (position (λ w. w == most) widths))

at_most : (widths : List ℕ) (place : Option ℕ) (most : ℕ) → most ≢ 0 → place ≡ position (λ w. w == most) widths → WidestAt widths place most
at_most widths place most some at = let same = ap counted at in grind (arith, common_steps, nat_tests, some, same)

pub widest_told : (widths : List ℕ) (most : ℕ) (place : Option ℕ) → most ≡ greatest widths → most ≢ 0 → place ≡ position (λ w. w == most) widths → counted place ≡ widest_round widths
widest_told widths most place is some at = subst (WidestAt widths place) is (at_most widths place most some at)
