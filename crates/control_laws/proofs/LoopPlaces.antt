-- Where the executables of each statement stand among all.
use Rattle.std.proofs.Common.{◌≡◌, ℕ, zero, suc, ◌+◌, ◌-◌, ◌<◌, ◌≤◌, Bool, inl, inr, ⊎_elim, List, [], ◌∷◌, ◌++◌, length, take, refl, sym, ap, subst, ◌∙◌, arith, Option, Some, All, length-append}
use Rattle.std.specs.Prelude.{slice_get, flat_map, sum_by}
use Rattle.std.specs.List.{range_with_len}
use Rattle.std.specs.Option.{option_map}
use Rattle.std.proofs.lemmas.Bool.{cases_eq, cases_lt}
use Rattle.std.proofs.lemmas.List.{length-map, flat_map_more}
use Rattle.std.proofs.lemmas.List.Sums.{sum_by-cons}
use Rattle.std.proofs.lemmas.Option.{slice_get_within, get_or_from_slice_get, slice_get-map}
use Rattle.f77_tree.specs.declared.programs.Exec.{Exec}
use Rattle.f77_tree.specs.declared.programs.ExecKind.{ExecKind}
use Rattle.f77_tree.specs.declared.programs.NameInfo.{NameInfo}
use Rattle.f77_tree.specs.declared.statements.Labelled.{Labelled}
use Rattle.layout_rules.specs.Executables.{beyond, own_executables, own_kinds, increments, loops_to, executables_with_ends, first_of, kinds_at, executables_at, executables_if_any, executables}
use Rattle.layout_rules.specs.Tables.{IsUsable}
use Rattle.control_structure.proofs.ExecutableLemmas.{length-own, length-increments, first_of-next}
use Rattle.control_structure.proofs.LoopTables.{range-more}
use Rattle.control_structure.proofs.Walks.{item_at}

suc_more : (n : ℕ) → suc n ≡ n + 1
suc_more n = omega arith

-- ---- items of joined lists

pub got_left : {X : Type 0} (xs ys : List X) (k : ℕ) → k < length xs → slice_get (xs ++ ys) k ≡ slice_get xs k
got_left [] ys k below = absurd (omega (arith, below))
got_left (x ∷ xs) ys zero below = refl
got_left (x ∷ xs) ys (suc k) below = got_left xs ys k (omega (arith, below))

pub got_right : {X : Type 0} (xs ys : List X) (n k : ℕ) → n ≡ length xs + k → slice_get (xs ++ ys) n ≡ slice_get ys k
got_right [] ys n k is = ap (slice_get ys) (omega (arith, is))
got_right (x ∷ xs) ys zero k is = absurd (omega (arith, is))
got_right (x ∷ xs) ys (suc n) k is = got_right xs ys n k (omega (arith, is))

-- the step in which a number is passed
pub step-at : (f : ℕ → ℕ) (n k : ℕ) → f 0 ≡ 0 → k < f n → (i : ℕ) × (i < n) × (f i ≤ k) × (k < f (i + 1))
step-at f zero k start below = absurd (omega (arith, start, below))
step-at f (suc n) k start below = ⊎_elim
    (λ (lt : k < f n). let at = step-at f n k start lt in (at.0, omega (arith, at.1), at.2, at.3))
    (λ (ge : f n ≤ k). (n, omega arith, ge, omega (arith, below, ap f (suc_more n))))
    (cases_lt k (f n))

-- ---- the first executable of each statement

pub first-next : (whole : List Labelled) (i : ℕ) (s : Labelled) → slice_get whole i ≡ Some s → first_of whole (i + 1) ≡ first_of whole i + executables_with_ends whole s
first-next whole i s here = first_of-next whole i s (slice_get_within whole i s here) (sym (get_or_from_slice_get whole i s s here))

-- a sum over more items is no less
pub sum-rises : {X : Type 0} (f : X → ℕ) (xs : List X) (i j : ℕ) → i ≤ j → sum_by f (take i xs) ≤ sum_by f (take j xs)
sum-rises f xs zero j le = omega arith
sum-rises f xs (suc i) zero le = absurd (omega (arith, le))
sum-rises f [] (suc i) (suc j) le = omega arith
sum-rises f (x ∷ xs) (suc i) (suc j) le = omega (arith, sum_by-cons f x (take i xs), sum_by-cons f x (take j xs), sum-rises f xs i j (omega (arith, le)))

-- no statement has its executables before those of one above it
pub first-rises : (whole : List Labelled) (i j : ℕ) → i ≤ j → j ≤ length whole → first_of whole i ≤ first_of whole j
first-rises whole i j le within = sum-rises (executables_with_ends whole) whole i j le

-- ---- all executables

-- the statement of an executable, and how many of the statement's stand before it
pub record Located (whole : List Labelled) (k : ℕ) : Type 0 where
  pub place : ℕ
  pub s : Labelled
  pub offset : ℕ
  pub stands : slice_get whole place ≡ Some s
  pub within : offset < executables_with_ends whole s
  pub is : k ≡ first_of whole place + offset

pub located : (whole : List Labelled) (n k : ℕ) → n ≤ length whole → k < first_of whole n → Located whole k
located whole n k within below =
    let at = step-at (first_of whole) n k refl below in
    let here = item_at whole at.0 (omega (arith, at.1, within)) in
    record { place = at.0; s = here.0; offset = k - first_of whole at.0; stands = here.1; within = omega (arith, at.2, at.3, first-next whole at.0 here.0 here.1); is = omega (arith, at.2) }

module _ (names : List NameInfo) (checked : Bool) (whole : List Labelled) (usable : All (IsUsable whole) whole) where
  pub usable-at : (i : ℕ) (s : Labelled) → slice_get whole i ≡ Some s → IsUsable whole s
  usable-at i s here = subst (IsUsable whole) (get_or_from_slice_get whole i s s here) (usable i s (slice_get_within whole i s here))

  -- those of the statements above a place
  abbrev above : ℕ → List Exec
  above n = flat_map (λ place. executables_if_any names checked whole place (slice_get whole place)) (range_with_len 0 n)

  pub length-own_kinds : (i : ℕ) (s : Labelled) → slice_get whole i ≡ Some s → length (own_kinds names checked whole i (first_of whole i) (beyond whole i s) s.stmt) ≡ own_executables s.stmt
  length-own_kinds i s here = let u = usable-at i s here in length-own names checked whole i (first_of whole i) (beyond whole i s) s.stmt u.inner u.no_subroutine

  length-at : (i : ℕ) (s : Labelled) → slice_get whole i ≡ Some s → length (executables_at names checked whole i s) ≡ executables_with_ends whole s
  length-at i s here =
      let own = own_kinds names checked whole i (first_of whole i) (beyond whole i s) s.stmt in
      let ends = increments names whole i (first_of whole i + own_executables s.stmt) (loops_to whole s.label) in
      let line : ExecKind → Exec = λ kind. record { line = s.line; kind = kind } in
      length-map (own ++ ends) line ∙ length-append own ends
      ∙ omega (arith, length-own_kinds i s here, length-increments names checked whole i (first_of whole i + own_executables s.stmt) (loops_to whole s.label))

  above-more : (n : ℕ) (s : Labelled) → slice_get whole n ≡ Some s → above (n + 1) ≡ above n ++ executables_at names checked whole n s
  above-more n s here =
      let f : ℕ → List Exec = λ p. executables_if_any names checked whole p (slice_get whole p) in
      ap (λ (ps : List ℕ). flat_map f ps) (range-more n)
      ∙ sym (flat_map_more f [] (range_with_len 0 n) n)
      ∙ ap (λ (o : Option Labelled). above n ++ executables_if_any names checked whole n o) here

  pub length-above : (n : ℕ) → n ≤ length whole → length (above n) ≡ first_of whole n
  length-above zero within = refl
  length-above (suc n) within =
      let here = item_at whole n (omega (arith, within)) in
      let s = here.0 in
      let step : length (above (n + 1)) ≡ first_of whole (n + 1) = ap (λ (xs : List Exec). length xs) (above-more n s here.1) ∙ length-append (above n) (executables_at names checked whole n s)
      ∙ omega (arith, length-above n (omega (arith, within)), length-at n s here.1, first-next whole n s here.1) in
      subst (λ (m : ℕ). length (above m) ≡ first_of whole m) (let e : n + 1 ≡ suc n = omega arith in e) step

  above-at : (n : ℕ) → n ≤ length whole → (i j : ℕ) (s : Labelled) → i < n → slice_get whole i ≡ Some s → j < executables_with_ends whole s → slice_get (above n) (first_of whole i + j) ≡ slice_get (executables_at names checked whole i s) j
  above-at zero within i j s below here inside = absurd (omega (arith, below))
  above-at (suc n) within i j s below here inside =
      let last = item_at whole n (omega (arith, within)) in
      let t = last.0 in
      let ends = length-above n (omega (arith, within)) in
      let step : slice_get (above n ++ executables_at names checked whole n t) (first_of whole i + j) ≡ slice_get (executables_at names checked whole i s) j = elim (cases_eq i n) as (λ _. slice_get (above n ++ executables_at names checked whole n t) (first_of whole i + j) ≡ slice_get (executables_at names checked whole i s) j) [
        | inl same ↦
            let at_n : slice_get whole n ≡ Some s = ap (slice_get whole) (sym same) ∙ here in
            let one : t ≡ s = let e : Some t ≡ Some s = sym last.1 ∙ at_n in cc in
            got_right (above n) (executables_at names checked whole n t) (first_of whole i + j) j (omega (arith, ends, ap (first_of whole) same))
            ∙ ap (λ (u : Labelled). slice_get (executables_at names checked whole n u) j) one
            ∙ ap (λ (m : ℕ). slice_get (executables_at names checked whole m s) j) (sym same)
        | inr other ↦
            let lt : i < n = omega (arith, below, other) in
            let up : first_of whole (i + 1) ≤ first_of whole n = first-rises whole (i + 1) n (omega (arith, lt)) (omega (arith, within)) in
            got_left (above n) (executables_at names checked whole n t) (first_of whole i + j) (omega (arith, ends, up, first-next whole i s here, inside))
            ∙ above-at n (omega (arith, within)) i j s lt here inside
      ] in
      ap (λ (xs : List Exec). slice_get xs (first_of whole i + j)) (ap above (let e : suc n ≡ n + 1 = omega arith in e) ∙ above-more n t last.1) ∙ step

  pub length-executables : length (executables names checked whole) ≡ first_of whole (length whole)
  length-executables = length-above (length whole) (omega arith)

  pub at-place : (i j : ℕ) (s : Labelled) (kind : ExecKind) → slice_get whole i ≡ Some s → j < executables_with_ends whole s → slice_get (kinds_at names checked whole i s) j ≡ Some kind → slice_get (executables names checked whole) (first_of whole i + j) ≡ Some (record { line = s.line; kind = kind })
  at-place i j s kind here inside is =
      let line : ExecKind → Exec = λ k. record { line = s.line; kind = k } in
      above-at (length whole) (omega arith) i j s (slice_get_within whole i s here) here inside
      ∙ slice_get-map line (kinds_at names checked whole i s) j
      ∙ ap (option_map line) is

  -- an executable of a statement's own
  pub own-at : (i j : ℕ) (s : Labelled) (kind : ExecKind) → slice_get whole i ≡ Some s → slice_get (own_kinds names checked whole i (first_of whole i) (beyond whole i s) s.stmt) j ≡ Some kind → slice_get (executables names checked whole) (first_of whole i + j) ≡ Some (record { line = s.line; kind = kind })
  own-at i j s kind here is =
      let own = own_kinds names checked whole i (first_of whole i) (beyond whole i s) s.stmt in
      let ends = increments names whole i (first_of whole i + own_executables s.stmt) (loops_to whole s.label) in
      let below : j < length own = slice_get_within own j kind is in
      at-place i j s kind here (omega (arith, below, length-own_kinds i s here)) (got_left own ends j below ∙ is)

  -- an increment after them
  pub end-at : (i m : ℕ) (s : Labelled) (kind : ExecKind) → slice_get whole i ≡ Some s → slice_get (increments names whole i (first_of whole i + own_executables s.stmt) (loops_to whole s.label)) m ≡ Some kind → slice_get (executables names checked whole) (first_of whole i + own_executables s.stmt + m) ≡ Some (record { line = s.line; kind = kind })
  end-at i m s kind here is =
      let own = own_kinds names checked whole i (first_of whole i) (beyond whole i s) s.stmt in
      let ends = increments names whole i (first_of whole i + own_executables s.stmt) (loops_to whole s.label) in
      let below : m < length ends = slice_get_within ends m kind is in
      let many = length-increments names checked whole i (first_of whole i + own_executables s.stmt) (loops_to whole s.label) in
      ap (slice_get (executables names checked whole)) (let e : first_of whole i + own_executables s.stmt + m ≡ first_of whole i + (own_executables s.stmt + m) = omega arith in e)
      ∙ at-place i (own_executables s.stmt + m) s kind here (omega (arith, below, many)) (got_right own ends (own_executables s.stmt + m) m (omega (arith, length-own_kinds i s here)) ∙ is)
