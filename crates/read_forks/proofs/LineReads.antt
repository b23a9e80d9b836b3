-- A load on a line, as code has it.
use Rattle.std.proofs.Common.{◌≡◌, ◌<◌, ◌⊎◌, inl, inr, ℕ, zero, suc, ◌==◌, ◌&&◌, ◌||◌, Bool, true, false, if◌then◌else◌, List, [], ◌∷◌, length, Option, Some, slice_get, slice_index, slice_set, refl, sym, ap, ◌∙◌, subst, eqb-true, arith}
use Rattle.std.specs.List.{list_all}
use Rattle.std.proofs.lemmas.Bool.{and_from, and_parts, eq-eqb, ne_eqb}
use mathlib.Core.Path.{fun_ext}
use Rattle.net_board.specs.Tokens.{edge_of, joined}
use Rattle.net_board.proofs.ListPlaces.{same_or_not}
use Rattle.op_board.specs.OperationNets.{OperationNet}
use Rattle.op_board.specs.OperationTokens.{OperationTokens, passed_by}
use Rattle.fork_board.specs.LoadGroups.{Site, Spot, behind_group, group_at, is_among, spot}
use Rattle.fork_board.specs.ForkTokens.{ForkTokens, Standing, gone_on, is_open, is_whole, none_loaded, read_by, standing, standing_at, with_load}
use Rattle.fork_board.proofs.ForkFirings.{both_ways}
use Rattle.fork_board.proofs.ForkLines.{IsOpen, opened}
use Rattle.read_forks.specs.LoadSteps.{line_read, stood}
use Rattle.read_forks.specs.LoadChanges.{IsForgotten, IsPut, Loaded, are_loaded}
use Rattle.read_forks.specs.LoadedGroups.{LineIsNear, is_near_on}

own_edge : (edges : List (Option ℕ)) (k : ℕ) → k < length edges → slice_set edges k (joined (slice_get edges k)) ≡ edges
own_edge [] k inside = refl
own_edge (e ∷ edges) zero inside = refl
own_edge (e ∷ edges) (suc k) inside = ap (λ more. e ∷ more) (own_edge edges k (omega (arith, inside)))

-- a line that stands on an edge is one of the list
pub is_inside : (edges : List (Option ℕ)) (k edge : ℕ) → joined (slice_get edges k) ≡ Some edge → k < length edges
is_inside [] k edge is = absurd cc
is_inside (e ∷ edges) zero edge is = omega arith
is_inside (e ∷ edges) (suc k) edge is = let r = is_inside edges k edge is in omega (arith, r)

own_number : (numbers : List ℕ) (k : ℕ) → slice_set numbers k (slice_index numbers k) ≡ numbers
own_number [] k = refl
own_number (n ∷ numbers) zero = refl
own_number (n ∷ numbers) (suc k) = ap (λ more. n ∷ more) (own_number numbers k)

-- ---- the loads that have fired

abbrev on_line : (line : ℕ) (here : (piece number : ℕ) → Bool) (others : (line piece number : ℕ) → Bool) → (l : ℕ) → (piece number : ℕ) → Bool
on_line line here others l = if l == line then here else others l

on_own : (line : ℕ) (here : (piece number : ℕ) → Bool) (others : (line piece number : ℕ) → Bool) → on_line line here others line ≡ here
on_own line here others = ap (λ b. if b then here else others line) (eq-eqb line line refl)

on_other : (line l : ℕ) (here : (piece number : ℕ) → Bool) (others : (line piece number : ℕ) → Bool) → (l ≡ line → ⊥) → on_line line here others l ≡ others l
on_other line l here others differ = ap (λ b. if b then here else others l) (ne_eqb l line differ)

-- a function of lines is told line by line
by_line : (line : ℕ) (new others : (line piece number : ℕ) → Bool) (here : (piece number : ℕ) → Bool) → new line ≡ here → ((l : ℕ) → (l ≡ line → ⊥) → new l ≡ others l) → new ≡ on_line line here others
by_line line new others here own other = fun_ext (λ l. by l (same_or_not l line))
  where
    by : (l : ℕ) → (l ≡ line) ⊎ (l ≡ line → ⊥) → new l ≡ on_line line here others l
    by l (inl e) = subst (λ (q : ℕ). new q ≡ on_line line here others q) (sym e) (own ∙ sym (on_own line here others))
    by l (inr differ) = other l differ ∙ sym (on_other line l here others differ)

module _ (line piece i : ℕ) (old new : Loaded) (put : IsPut line piece i true old new) where
  put_here : (p n : ℕ) → new line p n ≡ with_load piece i (old line) p n
  put_here p n = by ((piece == p) && (i == n)) refl
    where
      by : (b : Bool) → ((piece == p) && (i == n)) ≡ b → new line p n ≡ (b || old line p n)
      by true same = let both = and_parts (piece == p) (i == n) same in subst (λ (q : ℕ). new line q n ≡ true) (eqb-true piece p both.0) (subst (λ (q : ℕ). new line piece q ≡ true) (eqb-true i n both.1) put.here)
      by false other = put.others line p n (λ same. both_ways ((piece == p) && (i == n)) (and_from (piece == p) (i == n) (eq-eqb piece p (sym same.1)) (eq-eqb i n (sym same.2))) other)

  pub put_on_line : new line ≡ with_load piece i (old line)
  put_on_line = fun_ext (λ p. fun_ext (λ n. put_here p n))

  pub put_elsewhere : (l : ℕ) → (l ≡ line → ⊥) → new l ≡ old l
  put_elsewhere l differ = fun_ext (λ p. fun_ext (λ n. put.others l p n (λ same. differ same.0)))

-- ---- markings

-- the line stands there
abbrev line_put : OperationTokens → (line : ℕ) → Spot → OperationTokens
line_put m line s = record m { tokens = record m.tokens { lines = slice_set m.tokens.lines line (Some s.edge) }; passed = slice_set m.passed line s.passed }

module _ (x : OperationNet) (piece i line edge : ℕ) (m : OperationTokens) (old put : Loaded) (is_put : IsPut line piece i true old put) where
  abbrev before : ForkTokens
  before = record { operations = m; loaded = old }

  abbrev s : Standing
  s = standing before line

  abbrev fired : Standing
  fired = record s { loaded = with_load piece i s.loaded }

  abbrev here : Spot
  here = spot edge (passed_by m line)

  -- whether all of the group have fired, as the marks tell
  whole : edge_of m.tokens line ≡ Some edge → is_whole x line fired here ≡ are_loaded x put line here
  whole stands = ap (λ (loaded : (piece number : ℕ) → Bool). list_all (λ (load : Site). loaded load.piece load.number) (group_at x line here)) (sym (put_on_line line piece i old put is_put))

  reads : (b : Bool) → edge_of m.tokens line ≡ Some edge → are_loaded x put line here ≡ b → read_by x line piece i s ≡ (if b then standing_at (behind_group x line here) else fired)
  reads b stands is = ap (gone_on x line fired) stands ∙ ap (λ c. if c then standing_at (behind_group x line here) else fired) (whole stands ∙ is)

  -- some load of the group hasn't fired
  pub read_some : edge_of m.tokens line ≡ Some edge → line < length m.tokens.lines → are_loaded x put line here ≡ false → record { operations = m; loaded = put } ≡ line_read x piece i before line
  read_some stands inside is =
      let loaded = by_line line (put) (old) (with_load piece i (old line)) (put_on_line line piece i old put is_put) (put_elsewhere line piece i old put is_put) in
      let lines = own_edge m.tokens.lines line inside in
      let passed = own_number m.passed line in
      ap (λ (loaded : (line piece number : ℕ) → Bool). record { operations = m; loaded = loaded }) loaded
      ∙ (λ n. record { operations = record m { tokens = record m.tokens { lines = sym lines n }; passed = sym passed n }; loaded = on_line line (with_load piece i (old line)) (old) })
      ∙ ap (stood before line) (sym (reads false stands is))

  -- all have
  module _ (left : Loaded) (forgotten : IsForgotten line (group_at x line here) put left) where
    none_left : is_open x line piece i s ≡ true → LineIsNear x before line → edge_of m.tokens line ≡ Some edge → (p n : ℕ) → left line p n ≡ false
    none_left is near stands p n = by (left line p n) refl
      where
        among : is_among (group_at x line here) piece i ≡ true
        among =
            let at : IsOpen x line piece i s = opened x line piece i s is in
            let same : at.edge ≡ edge = let both : Some at.edge ≡ Some edge = sym at.stands ∙ stands in cc in
            subst (λ (e : ℕ). is_among (group_at x line (spot e (passed_by m line))) piece i ≡ true) same at.among

        not_among : is_among (group_at x line here) p n ≡ false → (b : Bool) → ((piece == p) && (i == n)) ≡ b → (b || old line p n) ≡ true → ⊥
        not_among out true same told =
            let both = and_parts (piece == p) (i == n) same in
            both_ways (is_among (group_at x line here) p n) (subst (λ (q : ℕ). is_among (group_at x line here) q n ≡ true) (eqb-true piece p both.0) (subst (λ (q : ℕ). is_among (group_at x line here) piece q ≡ true) (eqb-true i n both.1) among)) out
        not_among out false same told = both_ways (is_among (group_at x line here) p n) (sym (ap (is_near_on x line p n (passed_by m line)) stands) ∙ near p n told) out

        by : (b : Bool) → left line p n ≡ b → left line p n ≡ false
        by true is_left =
            let f = forgotten.left p n is_left in
            absurd (not_among f.1 ((piece == p) && (i == n)) refl (sym (put_here line piece i old put is_put p n) ∙ f.0))
        by false is_left = is_left

    pub read_last : is_open x line piece i s ≡ true → LineIsNear x before line → edge_of m.tokens line ≡ Some edge → are_loaded x put line here ≡ true → (behind : Spot) → behind ≡ behind_group x line here
        → record { operations = line_put m line behind; loaded = left } ≡ line_read x piece i before line
    read_last is near stands all behind goes =
        let none : left line ≡ none_loaded = fun_ext (λ p. fun_ext (λ n. none_left is near stands p n)) in
        let others : (l : ℕ) → (l ≡ line → ⊥) → left l ≡ old l = λ l differ. fun_ext (λ p. fun_ext (λ n. forgotten.others l p n differ)) ∙ put_elsewhere line piece i old put is_put l differ in
        let loaded = by_line line (left) (old) none_loaded none others in
        ap (λ (loaded : (line piece number : ℕ) → Bool). record { operations = line_put m line behind; loaded = loaded }) loaded
        ∙ ap (λ (b : Spot). stood before line (standing_at b)) goes
        ∙ ap (stood before line) (sym (reads true stands all))
