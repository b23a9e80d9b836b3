-- What loads do to the lines that they need: two of one group in either order do the same.
use Rattle.std.proofs.Common.{◌≡◌, ℕ, zero, suc, ◌==◌, ◌&&◌, ◌||◌, Bool, true, false, not, if◌then◌else◌, List, [], ◌∷◌, Option, Some, None, refl, sym, ap, ◌∙◌, subst, eqb-true, slice_get, slice_index}
use Rattle.std.specs.List.{list_all}
use Rattle.std.proofs.lemmas.Bool.{and_parts, and_from}
use Rattle.net_board.specs.Tokens.{joined}
use Rattle.op_board.specs.OperationNets.{OperationNet}
use Rattle.firing.specs.declared.system.NodeName.TheVariants.{Op}
use Rattle.fork_board.specs.LoadGroups.{Site, spot, behind_group, group_at, is_among, is_site}
use Rattle.fork_board.specs.ForkTokens.{Standing, gone_on, is_open, is_open_on, is_whole, read_by, standing_at, with_load}
use Rattle.fork_board.specs.ForkFootprints.{StandValue, number_in, put_in, standing_of, stand_read, stood_as}
use mathlib.Core.Path.{fun_ext}

-- ---- sites

pub same_site : (piece i : ℕ) (s : Site) → is_site piece i s ≡ true → (s.piece ≡ piece) × (s.number ≡ i)
same_site piece i s is = let both = and_parts (s.piece == piece) (s.number == i) is in (eqb-true s.piece piece both.0, eqb-true s.number i both.1)

-- where all of a list pass, one that is among them does
pub all_among : (test : (piece i : ℕ) → Bool) (sites : List Site) (piece i : ℕ) → list_all (λ (s : Site). test s.piece s.number) sites ≡ true → is_among sites piece i ≡ true → test piece i ≡ true
all_among test [] piece i all among = absurd cc
all_among test (s ∷ sites) piece i all among =
    let both = and_parts (test s.piece s.number) (list_all (λ (s : Site). test s.piece s.number) sites) all in
    by (all_among test sites piece i both.1) both.0 (is_site piece i s) refl among
  where
    by : (is_among sites piece i ≡ true → test piece i ≡ true) → test s.piece s.number ≡ true → (b : Bool) → is_site piece i s ≡ b → (b || is_among sites piece i) ≡ true → test piece i ≡ true
    by rest passes true is among = let same = same_site piece i s is in subst (λ p. test p i ≡ true) same.0 (subst (λ n. test s.piece n ≡ true) same.1 passes)
    by rest passes false is among = rest among

-- ---- the loads that have fired

or_swaps : (a b c : Bool) → (a || (b || c)) ≡ (b || (a || c))
or_swaps true true c = refl
or_swaps true false c = refl
or_swaps false b c = refl

loads_swap : (p i q j : ℕ) (loaded : (piece number : ℕ) → Bool) → with_load p i (with_load q j loaded) ≡ with_load q j (with_load p i loaded)
loads_swap p i q j loaded = fun_ext (λ r. fun_ext (λ k. or_swaps ((p == r) && (i == k)) ((q == r) && (j == k)) (loaded r k)))

-- another load hasn't fired yet
still_none : (p i q j : ℕ) (loaded : (piece number : ℕ) → Bool) → ((p ≡ q) × (i ≡ j) → ⊥) → loaded q j ≡ false → with_load p i loaded q j ≡ false
still_none p i q j loaded differ none = by ((p == q) && (i == j)) refl
  where
    by : (b : Bool) → ((p == q) && (i == j)) ≡ b → (b || loaded q j) ≡ false
    by true is = let both = and_parts (p == q) (i == j) is in absurd (differ (eqb-true p q both.0, eqb-true i j both.1))
    by false is = none

module _ (x : OperationNet) (line : ℕ) where
  -- a load before which a line stands
  pub record IsOpen (piece i : ℕ) (s : Standing) : Type 0 where
    pub edge : ℕ
    pub stands : s.edge ≡ Some edge
    pub among : is_among (group_at x line (spot edge s.passed)) piece i ≡ true
    pub fresh : s.loaded piece i ≡ false

  pub opened : (piece i : ℕ) (s : Standing) → is_open x line piece i s ≡ true → IsOpen piece i s
  opened piece i s stood = by s.edge refl stood
    where
      not_true : (b : Bool) → not b ≡ true → b ≡ false
      not_true true is = absurd cc
      not_true false is = refl

      by : (o : Option ℕ) → s.edge ≡ o → is_open_on x line piece i s o ≡ true → IsOpen piece i s
      by None is stood = absurd cc
      by (Some edge) is stood =
          let both = and_parts (is_among (group_at x line (spot edge s.passed)) piece i) (not (s.loaded piece i)) stood in
          record { edge = edge; stands = is; among = both.0; fresh = not_true (s.loaded piece i) both.1 }

  pub open_from : (piece i : ℕ) (s : Standing) → IsOpen piece i s → is_open x line piece i s ≡ true
  open_from piece i s stood =
      ap (is_open_on x line piece i s) stood.stands
      ∙ and_from (is_among (group_at x line (spot stood.edge s.passed)) piece i) (not (s.loaded piece i)) stood.among (ap not stood.fresh)

  -- one load of the group hasn't fired, so the line stays
  stays : (p i q j : ℕ) (s : Standing) → IsOpen q j s → with_load p i s.loaded q j ≡ false → read_by x line p i s ≡ record s { loaded = with_load p i s.loaded }
  stays p i q j s stood none =
      let fired : Standing = record s { loaded = with_load p i s.loaded } in
      ap (gone_on x line fired) stood.stands ∙ by (is_whole x line fired (spot stood.edge s.passed)) refl
    where
      by : (b : Bool) → is_whole x line (record s { loaded = with_load p i s.loaded }) (spot stood.edge s.passed) ≡ b
          → (if b then standing_at (behind_group x line (spot stood.edge s.passed)) else (record s { loaded = with_load p i s.loaded })) ≡ record s { loaded = with_load p i s.loaded }
      by true whole =
          let all = all_among (with_load p i s.loaded) (group_at x line (spot stood.edge s.passed)) q j whole stood.among in
          let e : true ≡ false = sym all ∙ none in
          absurd cc
      by false whole = refl

  -- ---- of two loads, the other one stays stood

  pub other_stays : (p i q j : ℕ) (s : Standing) → ((p ≡ q) × (i ≡ j) → ⊥) → IsOpen q j s → read_by x line p i s ≡ record s { loaded = with_load p i s.loaded }
  other_stays p i q j s differ stood = stays p i q j s stood (still_none p i q j s.loaded differ stood.fresh)

  -- ---- the places for a line

  put_back : {A : Type 0} (f : Option A → A) (o : Option A) → ((a : A) → f (Some a) ≡ a) → put_in (f o) o ≡ o
  put_back f None same = refl
  put_back f (Some a) same = ap (λ b. Some b) (same a)

  abbrev with_loaded : ((piece number : ℕ) → Bool) → StandValue → StandValue
  with_loaded loaded v = record v { loaded = loaded }

  read_value : (p i q j : ℕ) (v : StandValue) → ((p ≡ q) × (i ≡ j) → ⊥) → IsOpen q j (standing_of v) → stood_as (read_by x line p i (standing_of v)) v ≡ with_loaded (with_load p i v.loaded) v
  read_value p i q j v differ stood =
      let edge = put_back joined v.edge (λ a. refl) in
      let passed = put_back number_in v.passed (λ a. refl) in
      ap (λ s. stood_as s v) (other_stays p i q j (standing_of v) differ stood)
      ∙ (λ n. record { edge = edge n; passed = passed n; loaded = with_load p i v.loaded })

  pub value_open : (p i q j : ℕ) (v : StandValue) → ((p ≡ q) × (i ≡ j) → ⊥) → IsOpen q j (standing_of v) → IsOpen q j (standing_of (stood_as (read_by x line p i (standing_of v)) v))
  value_open p i q j v differ stood =
      let open_then : IsOpen q j (standing_of (with_loaded (with_load p i v.loaded) v)) = record { edge = stood.edge; stands = stood.stands; among = stood.among; fresh = still_none p i q j v.loaded differ stood.fresh } in
      subst (λ w. IsOpen q j (standing_of w)) (sym (read_value p i q j v differ stood)) open_then

  -- what both make of the places, where the first one leaves the line where it is
  both_read : (p i q j : ℕ) (v : StandValue) → ((p ≡ q) × (i ≡ j) → ⊥) → IsOpen q j (standing_of v)
      → stood_as (read_by x line q j (standing_of (stood_as (read_by x line p i (standing_of v)) v))) (stood_as (read_by x line p i (standing_of v)) v)
      ≡ stood_as (gone_on x line (record (standing_of v) { loaded = with_load q j (with_load p i v.loaded) }) (joined v.edge)) v
  both_read p i q j v differ stood = ap (λ w. stood_as (read_by x line q j (standing_of w)) w) (read_value p i q j v differ stood)

  pub reads_commute : (p i q j : ℕ) (v : StandValue) → ((p ≡ q) × (i ≡ j) → ⊥) → IsOpen p i (standing_of v) → IsOpen q j (standing_of v)
      → stand_read x line (Op p i) (stand_read x line (Op q j) v) ≡ stand_read x line (Op q j) (stand_read x line (Op p i) v)
  reads_commute p i q j v differ first second =
      both_read q j p i v (λ same. differ (sym same.0, sym same.1)) first
      ∙ ap (λ (loaded : (piece number : ℕ) → Bool). stood_as (gone_on x line (record (standing_of v) { loaded = loaded }) (joined v.edge)) v) (loads_swap p i q j v.loaded)
      ∙ sym (both_read p i q j v differ second)

-- ---- markings

pub index_get : (xs : List ℕ) (k : ℕ) → slice_index xs k ≡ number_in (slice_get xs k)
index_get [] k = refl
index_get (y ∷ xs) zero = refl
index_get (y ∷ xs) (suc k) = index_get xs k
