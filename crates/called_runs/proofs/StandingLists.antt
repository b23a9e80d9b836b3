-- Control in the statements that stand in for a unit's goes as in the unit.
use Rattle.std.proofs.Common.{◌≡◌, ℕ, zero, suc, ◌+◌, ◌-◌, Bool, true, false, not, ◌&&◌, ◌||◌, ◌==◌, cond, if◌then◌else◌, List, [], ◌∷◌, length, drop, filter, reverse, take, sum_by, Some, None, refl, sym, ap, ◌∙◌}
use Rattle.std.specs.List.{slice_get, range_with_len}
use Rattle.std.proofs.lemmas.List.Sums.{sum_by-cons}
use mathlib.Core.Path.{fun_ext}
use Rattle.f77_tree.specs.declared.statements.Labelled.{Labelled}
use Rattle.layout_rules.specs.Executables.{executables_with_ends, first_of, is_do, is_do_in, is_else_at, loop_number, loops_to, met, met_after, own_executables}
use Rattle.layout_rules.specs.Jumps.{end_after, end_of_arm, end_of_block, is_block_if, is_end_if}
use Rattle.layout_rules.specs.Labels.{is_arm, is_executable, statement_of}
use Rattle.program_units.specs.Units.{stand_in, standing_in}
use Rattle.called_runs.specs.CopiedPositions.{standing}
use Rattle.called_runs.proofs.ControlRoles.{stand-role}

pub standing-at : (unit : List Labelled) (i : ℕ) (s : Labelled) → slice_get unit i ≡ Some s → slice_get (standing_in unit) i ≡ Some (standing s)
standing-at [] i s is = let e : None ≡ Some s = is in absurd cc
standing-at (x ∷ unit) zero s is = let e : Some x ≡ Some s = is in let same : x ≡ s = cc in ap (λ (y : Labelled). Some (standing y)) same
standing-at (x ∷ unit) (suc i) s is = standing-at unit i s is

-- whose stand-in a statement is
pub record StandsFor (unit : List Labelled) (i : ℕ) (t : Labelled) : Type 0 where
  pub s : Labelled
  pub is : slice_get unit i ≡ Some s
  pub same : t ≡ standing s

pub stands-for : (unit : List Labelled) (i : ℕ) (t : Labelled) → slice_get (standing_in unit) i ≡ Some t → StandsFor unit i t
stands-for [] i t is = let e : None ≡ Some t = is in absurd cc
stands-for (x ∷ unit) zero t is = let e : Some (standing x) ≡ Some t = is in let same : standing x ≡ t = cc in record { s = x; is = refl; same = sym same }
stands-for (x ∷ unit) (suc i) t is = let more = stands-for unit i t is in record { s = more.s; is = more.is; same = more.same }

pub standing-long : (unit : List Labelled) → length (standing_in unit) ≡ length unit
standing-long [] = refl
standing-long (x ∷ unit) = ap suc (standing-long unit)

pub standing-drop : (n : ℕ) (unit : List Labelled) → drop n (standing_in unit) ≡ standing_in (drop n unit)
standing-drop zero unit = refl
standing-drop (suc n) [] = refl
standing-drop (suc n) (x ∷ unit) = standing-drop n unit

standing-take : (n : ℕ) (unit : List Labelled) → take n (standing_in unit) ≡ standing_in (take n unit)
standing-take zero unit = refl
standing-take (suc n) [] = refl
standing-take (suc n) (x ∷ unit) = ap (λ (xs : List Labelled). standing x ∷ xs) (standing-take n unit)

-- ---- DOs

do-in : (label : ℕ) (unit : List Labelled) (d : ℕ) → is_do_in label (slice_get (standing_in unit) d) ≡ is_do_in label (slice_get unit d)
do-in label [] d = refl
do-in label (x ∷ unit) zero = (stand-role x.stmt).ends_at label
do-in label (x ∷ unit) (suc d) = do-in label unit d

pub standing-loops : (unit : List Labelled) (label : ℕ) → loops_to (standing_in unit) label ≡ loops_to unit label
standing-loops unit label =
    let same : (λ d. is_do_in label (slice_get (standing_in unit) d)) ≡ (λ d. is_do_in label (slice_get unit d)) = fun_ext (do-in label unit) in
    ap (λ (p : ℕ → Bool). reverse (filter p (range_with_len 0 (length (standing_in unit))))) same
    ∙ ap (λ (n : ℕ). reverse (filter (λ d. is_do_in label (slice_get unit d)) (range_with_len 0 n))) (standing-long unit)

pub counted : (unit : List Labelled) → length (filter (λ s. is_do s.stmt) (standing_in unit)) ≡ length (filter (λ s. is_do s.stmt) unit)
counted [] = refl
counted (x ∷ unit) = ap (λ (b : Bool). length (cond b (standing x ∷ filter (λ s. is_do s.stmt) (standing_in unit)) (filter (λ s. is_do s.stmt) (standing_in unit)))) (stand-role x.stmt).begins_loop ∙ by_test (is_do x.stmt) (counted unit)
  where
    by_test : (b : Bool) → length (filter (λ s. is_do s.stmt) (standing_in unit)) ≡ length (filter (λ s. is_do s.stmt) unit)
        → length (cond b (standing x ∷ filter (λ s. is_do s.stmt) (standing_in unit)) (filter (λ s. is_do s.stmt) (standing_in unit))) ≡ length (cond b (x ∷ filter (λ s. is_do s.stmt) unit) (filter (λ s. is_do s.stmt) unit))
    by_test true same = ap suc same
    by_test false same = same

pub standing-number : (unit : List Labelled) (place : ℕ) → loop_number (standing_in unit) place ≡ loop_number unit place
standing-number unit place = ap (λ (xs : List Labelled). length (filter (λ s. is_do s.stmt) xs)) (standing-take place unit) ∙ counted (take place unit)

-- ---- places

pub standing-statement : (unit : List Labelled) (label : ℕ) → statement_of (standing_in unit) label ≡ statement_of unit label
standing-statement [] label = refl
standing-statement (x ∷ unit) label = ap (λ (n : ℕ). cond (not (x.label == label)) (1 + n) 0) (standing-statement unit label)

with-ends : (unit : List Labelled) (s : Labelled) → executables_with_ends (standing_in unit) (standing s) ≡ executables_with_ends unit s
with-ends unit s =
    ap (λ (n : ℕ). n + length (loops_to (standing_in unit) s.label)) (stand-role s.stmt).own
    ∙ ap (λ (xs : List ℕ). own_executables s.stmt + length xs) (standing-loops unit s.label)

summed : (unit xs : List Labelled) → sum_by (executables_with_ends (standing_in unit)) (standing_in xs) ≡ sum_by (executables_with_ends unit) xs
summed unit [] = refl
summed unit (x ∷ xs) =
    sum_by-cons (executables_with_ends (standing_in unit)) (standing x) (standing_in xs)
    ∙ ap (λ (n : ℕ). n + sum_by (executables_with_ends (standing_in unit)) (standing_in xs)) (with-ends unit x)
    ∙ ap (λ (n : ℕ). executables_with_ends unit x + n) (summed unit xs)
    ∙ sym (sum_by-cons (executables_with_ends unit) x xs)

pub standing-first : (unit : List Labelled) (place : ℕ) → first_of (standing_in unit) place ≡ first_of unit place
standing-first unit place = ap (λ (xs : List Labelled). sum_by (executables_with_ends (standing_in unit)) xs) (standing-take place unit) ∙ summed unit (take place unit)

-- ---- blocks

-- where the search for an end goes on after a statement with these tests
abbrev gone : (begins ends arm arms : Bool) (inner place : ℕ) (next : ℕ → ℕ) → ℕ
gone begins ends arm arms inner place next = if begins then next (inner + 1) else if (inner == 0) && (ends || (arms && arm)) then place else if ends then next (inner - 1) else next inner

standing-after : (arms : Bool) (xs : List Labelled) (inner place : ℕ) → end_after arms inner (standing_in xs) place ≡ end_after arms inner xs place
standing-after arms [] inner place = refl
standing-after arms (x ∷ xs) inner place =
    let role = stand-role x.stmt in
    let stood : ℕ → ℕ = λ d. end_after arms d (standing_in xs) (place + 1) in
    ap (λ (b : Bool). gone b (is_end_if (stand_in x.stmt)) (is_arm (stand_in x.stmt)) arms inner place stood) role.begins
    ∙ ap (λ (b : Bool). gone (is_block_if x.stmt) b (is_arm (stand_in x.stmt)) arms inner place stood) role.ends
    ∙ ap (λ (b : Bool). gone (is_block_if x.stmt) (is_end_if x.stmt) b arms inner place stood) role.arm
    ∙ ap (λ (next : ℕ → ℕ). gone (is_block_if x.stmt) (is_end_if x.stmt) (is_arm x.stmt) arms inner place next) (fun_ext (λ d. standing-after arms xs d (place + 1)))

pub standing-end : (arms : Bool) (unit : List Labelled) (place : ℕ) → end_after arms 0 (drop (place + 1) (standing_in unit)) (place + 1) ≡ end_after arms 0 (drop (place + 1) unit) (place + 1)
standing-end arms unit place = ap (λ (xs : List Labelled). end_after arms 0 xs (place + 1)) (standing-drop (place + 1) unit) ∙ standing-after arms (drop (place + 1) unit) 0 (place + 1)

pub standing-arm : (unit : List Labelled) (place : ℕ) → end_of_arm (standing_in unit) place ≡ end_of_arm unit place
standing-arm unit place = standing-end true unit place

pub standing-block : (unit : List Labelled) (place : ℕ) → end_of_block (standing_in unit) place ≡ end_of_block unit place
standing-block unit place = standing-end false unit place

pub standing-else : (unit : List Labelled) (place : ℕ) → is_else_at (slice_get (standing_in unit) place) ≡ is_else_at (slice_get unit place)
standing-else [] place = refl
standing-else (x ∷ unit) zero =
    ap (λ (b : Bool). b && (own_executables (stand_in x.stmt) == 0)) (stand-role x.stmt).arm
    ∙ ap (λ (n : ℕ). is_arm x.stmt && (n == 0)) (stand-role x.stmt).own
standing-else (x ∷ unit) (suc place) = standing-else unit place

-- ---- where control falls

abbrev fallen : (arm does : Bool) → (there here further : ℕ) → ℕ
fallen arm does there here further = if arm then there else if does then here else further

meets : (unit xs : List Labelled) (place : ℕ) → met_after (standing_in unit) (standing_in xs) place ≡ met_after unit xs place
meets unit [] place = standing-first unit place
meets unit (x ∷ xs) place =
    let role = stand-role x.stmt in
    let further = met_after (standing_in unit) (standing_in xs) (place + 1) in
    ap (λ (b : Bool). fallen b (is_executable (stand_in x.stmt)) (first_of (standing_in unit) (end_of_block (standing_in unit) place)) (first_of (standing_in unit) place) further) role.arm
    ∙ ap (λ (b : Bool). fallen (is_arm x.stmt) b (first_of (standing_in unit) (end_of_block (standing_in unit) place)) (first_of (standing_in unit) place) further) role.does
    ∙ ap (λ (n : ℕ). fallen (is_arm x.stmt) (is_executable x.stmt) n (first_of (standing_in unit) place) further) (standing-first unit (end_of_block (standing_in unit) place) ∙ ap (λ (n : ℕ). first_of unit n) (standing-block unit place))
    ∙ ap (λ (n : ℕ). fallen (is_arm x.stmt) (is_executable x.stmt) (first_of unit (end_of_block unit place)) n further) (standing-first unit place)
    ∙ ap (λ (n : ℕ). fallen (is_arm x.stmt) (is_executable x.stmt) (first_of unit (end_of_block unit place)) (first_of unit place) n) (meets unit xs (place + 1))

pub standing-met : (unit : List Labelled) (place : ℕ) → met (standing_in unit) place ≡ met unit place
standing-met unit place = ap (λ (xs : List Labelled). met_after (standing_in unit) xs place) (standing-drop place unit) ∙ meets unit (drop place unit) place
