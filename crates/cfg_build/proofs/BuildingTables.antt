-- Tables of targets.
use Rattle.std.proofs.Common.{◌≡◌, ℕ, ◌+◌, ◌^◌, ◌<◌, ◌≤◌, false, cond, List, length, take, get_or, flat_map, sum_by, count_by, ap, sym, ◌∙◌, arith}
use Rattle.std.proofs.lemmas.Bool.{false≢true, cond_both}
use Rattle.std.proofs.lemmas.List.{append-nil, take_more}
use Rattle.std.proofs.lemmas.List.Concat.{flat_map-append, length-flat_map}
use Rattle.std.proofs.lemmas.List.Folds.{length-flat_map-take}
use Rattle.std.proofs.lemmas.List.Sums.{count_by_more_yes, count_by_more_no, count_by-le-length, sum_by-append, sum_by_more, sum_by-take-le, sum_by-le}
use Rattle.cfg_build.specs.declared.numbers.ByTarget.{ByTarget}
use Rattle.cfg_build.specs.declared.parts.Part.{Part}
use Rattle.cfg_build.specs.declared.parts.Target.{Target}
use Rattle.cfg_build.specs.declared.parts.Target.TheVariants.{Start}
use Rattle.cfg_build.specs.Parts.{start_part}
use Rattle.cfg_build.specs.Joined.{is_same, is_joined, ways_to, width, number}
use Rattle.cfg_build.specs.Tables.{number_in, AreParts, is_joined_by}
use Rattle.cfg_build.proofs.PartOrder.{is_same_itself, same_of, not_same}
use Rattle.cfg_build.proofs.PieceNumbers.{part_at, first_piece, number_is}

pub differ_back : (t s : Target) → is_same t s ≡ false → is_same s t ≡ false
differ_back t s apart = not_same s t (λ (same : s ≡ t). false≢true (sym apart ∙ ap (is_same t) same ∙ is_same_itself t))

-- ---- counting ways

-- one way more
pub count-step : (outs : List Target) (i : ℕ) (d t : Target) (before now : ByTarget) (n : ℕ) → i < length outs → is_same Start (get_or outs i d) ≡ false
    → number_in before t ≡ n + count_by (is_same t) (take i outs)
    → (is_same Start (get_or outs i d) ≡ false → number_in now (get_or outs i d) ≡ number_in before (get_or outs i d) + 1)
    → ((other : Target) → is_same (get_or outs i d) other ≡ false → number_in now other ≡ number_in before other)
    → number_in now t ≡ n + count_by (is_same t) (take (i + 1) outs)
count-step outs i d t before now n l other so_far here others = grind (arith, same_of, count_by_more_yes, count_by_more_no, differ_back)

-- the ways from one part more
pub ways_more : (ps : List Part) (i : ℕ) (t : Target) → i < length ps → ways_to (take (i + 1) ps) t ≡ ways_to (take i ps) t + count_by (is_same t) (get_or ps i start_part).outs
ways_more ps i t l = grind (arith, count_by (is_same t), flat_map, take_more ps i start_part l, flat_map-append, append-nil, sum_by-append)

-- so many ways at most
pub few_ways_to : (execs : ℕ) (ps : List Part) (i : ℕ) (t : Target) → AreParts execs ps → i < length ps → ways_to (take i ps) t + length (get_or ps i start_part).outs < 2 ^ 32
few_ways_to execs ps i t are l =
    let f = flat_map (λ (part : Part). part.outs) (take i ps) in
    omega (arith, count_by-le-length (is_same t) f, length-flat_map-take (λ (part : Part). part.outs) ps i start_part l, length-flat_map (λ (part : Part). part.outs) ps, are.few_ways)

-- ---- numbers

-- the numbers so far
pub next-step : (ps : List Part) (i ways next : ℕ) → i < length ps → ways ≡ ways_to ps (get_or ps i start_part).own → next ≡ sum_by (width ps) (take i ps)
    → next + cond (is_joined_by ways (get_or ps i start_part)) 2 1 ≡ sum_by (width ps) (take (i + 1) ps)
next-step ps i ways next l tells so_far = grind (arith, sum_by_more (width ps) ps i start_part l)

small_width : (ps : List Part) (p : Part) → width ps p ≤ 2
small_width ps p = cond_both (is_joined ps p) 2 1 (λ n. n ≤ 2) (λ h. omega arith) (λ h. omega arith)

-- all numbers are small
pub few_numbers : (execs : ℕ) (ps : List Part) → AreParts execs ps → sum_by (width ps) ps ≤ 80004
few_numbers execs ps are = omega (arith, sum_by-le (width ps) 2 ps (λ k d l. small_width ps (get_or ps k d)), are.few_parts)

pub few_so_far : (execs : ℕ) (ps : List Part) (i : ℕ) → AreParts execs ps → sum_by (width ps) (take i ps) ≤ 80004
few_so_far execs ps i are = omega (arith, few_numbers execs ps are, sum_by-take-le (width ps) ps i)

-- one part is numbered
pub numbers-step : (execs : ℕ) (ps : List Part) (i : ℕ) (before now : ByTarget) → AreParts execs ps → i < length ps
    → (is_same Start (part_at ps i).own ≡ false → number_in now (part_at ps i).own ≡ first_piece ps i)
    → ((other : Target) → is_same (part_at ps i).own other ≡ false → number_in now other ≡ number_in before other)
    → ((j : ℕ) → j < i → number_in before (part_at ps j).own ≡ first_piece ps j)
    → (j : ℕ) → j < i + 1 → number_in now (part_at ps j).own ≡ first_piece ps j
numbers-step execs ps i before now are l here others so_far j below = grind (arith, part_at ps, first_piece ps, differ_back)

pub numbers_are : (execs : ℕ) (ps : List Part) (table : ByTarget) → AreParts execs ps → ((j : ℕ) → j < length ps → number_in table (part_at ps j).own ≡ first_piece ps j) → (j : ℕ) → j < length ps → number_in table (part_at ps j).own ≡ number ps (part_at ps j).own
numbers_are execs ps table are tells j l = tells j l ∙ sym (number_is ps j are.apart l)
