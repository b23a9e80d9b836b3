-- Lists of edges, and what is read of them and written to them.
use Rattle.std.proofs.Common.{◌≡◌, ◌<◌, ◌≤◌, ◌+◌, ◌-◌, ◌&&◌, ℕ, zero, suc, Bool, true, false, List, [], ◌∷◌, length, get_or, drop, Option, Some, None, slice_get, slice_set, All, refl, sym, ap, ◌∙◌, subst, inl, inr, ◌⊎◌, arith}
use Rattle.std.specs.List.{list_all, range_with_len}
use Rattle.closed_walks.specs.Graph.{Graph, edge_count}
use Rattle.cfg_build.specs.Joined.{FlowGraph}
use Rattle.dep_routing.specs.Routing.{next_at}
use Rattle.list_laws.specs.Member.{Member}
use Rattle.net_board.specs.Nodes.{graph_in}
use Rattle.net_board.specs.Tokens.{joined, led_from, with_all}
use Rattle.net_board.specs.TokenEdges.{AreEdges, edge_at}
use Rattle.list_laws.proofs.Members.{Member-range, Member-in_range, IsAt, at_of}
use Rattle.net_board.proofs.ListPlaces.{all_pass, same_or_not, member_or_not, with_all_other, with_all_same, put}
use Rattle.net_tables.specs.declared.program_parts.Plan.{Plan}
use Rattle.net_tables.specs.PartsView.{net_in}

-- ---- reads

pub read_edge : (xs : List (Option ℕ)) (k : ℕ) (x : Option ℕ) → k < length xs → x ≡ get_or xs k x → edge_at xs k ≡ x
read_edge [] k x below is = absurd (omega (arith, below))
read_edge (y ∷ ys) zero x below is = sym is
read_edge (y ∷ ys) (suc k) x below is = read_edge ys k x (omega (arith, below)) is

-- ---- tests of numbers in a row

all_in : (test : ℕ → Bool) (xs : List ℕ) → ((x : ℕ) → Member xs x → test x ≡ true) → list_all test xs ≡ true
all_in test [] each = refl
all_in test (x ∷ xs) each = ap (λ b. b && list_all test xs) (each x (inl refl)) ∙ all_in test xs (λ y m. each y (inr m))

in_row : (a n x : ℕ) → Member (range_with_len a n) x → (a ≤ x) × (x < a + n)
in_row a n x m = Member-in_range a n x m

pub each_in_row : (test : ℕ → Bool) (first end : ℕ) → first < end → ((j : ℕ) → first < j → j < end → test j ≡ true) → list_all test (range_with_len (suc first) (end - suc first)) ≡ true
each_in_row test first end some each = all_in test (range_with_len (suc first) (end - suc first)) (λ j m. let r = in_row (suc first) (end - suc first) j m in let low = r.0 in let high = r.1 in each j (omega (arith, low)) (omega (arith, high, some)))

false_or : (b : Bool) → (b ≡ true → ⊥) → b ≡ false
false_or true none = absurd (none refl)
false_or false none = refl

pub not_each_in_row : (test : ℕ → Bool) (first end j : ℕ) → first < j → j < end → test j ≡ false → list_all test (range_with_len (suc first) (end - suc first)) ≡ false
not_each_in_row test first end j low high fails = false_or (list_all test (range_with_len (suc first) (end - suc first))) (λ all. let e : false ≡ true = sym fails ∙ all_pass test (range_with_len (suc first) (end - suc first)) j all (Member-range (suc first) (end - suc first) j (omega (arith, low)) (omega (arith, low, high))) in absurd cc)

-- ---- writes

-- one number more of a row
pub row_next : (xs ys goal : List (Option ℕ)) (value : ℕ → Option ℕ) (k end : ℕ) → k < end → ys ≡ slice_set xs k (value k) → with_all xs (range_with_len k (end - k)) value ≡ goal → with_all ys (range_with_len (k + 1) (end - (k + 1))) value ≡ goal
row_next xs ys goal value k end within is so =
    let more : end - k ≡ suc (end - (k + 1)) = omega (arith, within) in
    ap (λ zs. with_all zs (range_with_len (k + 1) (end - (k + 1))) value) is
    ∙ ap (λ n. with_all xs (range_with_len k n) value) (sym more)
    ∙ so

drop_past : (places : List ℕ) (i : ℕ) → length places ≤ i → drop i places ≡ []
drop_past [] zero past = refl
drop_past [] (suc i) past = refl
drop_past (x ∷ xs) zero past = absurd (omega (arith, past))
drop_past (x ∷ xs) (suc i) past = drop_past xs i (omega (arith, past))

pub places_end : (places : List ℕ) (xs : List (Option ℕ)) (value : ℕ → Option ℕ) (i : ℕ) → length places ≤ i → with_all xs (drop i places) value ≡ xs
places_end places xs value i past = ap (λ rest. with_all xs rest value) (drop_past places i past)

-- what stands at any place then is an edge of so many
pub with_all_below : (bound : ℕ) (values : List (Option ℕ)) (places : List ℕ) (value : ℕ → Option ℕ) → ((k e : ℕ) → edge_at values k ≡ Some e → e < bound) → ((k e : ℕ) → Member places k → value k ≡ Some e → e < bound) → (k e : ℕ) → edge_at (with_all values places value) k ≡ Some e → e < bound
with_all_below bound values places value old new k e is = by (member_or_not places k)
  where
    put_is : (o : Option (Option ℕ)) → joined (put (value k) o) ≡ Some e → value k ≡ Some e
    put_is None is = absurd cc
    put_is (Some x) is = is

    by : Member places k ⊎ (Member places k → ⊥) → e < bound
    by (inl m) = new k e m (put_is (slice_get values k) (sym (ap joined (with_all_same values places value k m)) ∙ is))
    by (inr none) = old k e (sym (ap joined (with_all_other values places value k none)) ∙ is)

-- one number more that passes
pub each_next : (test : ℕ → Bool) (first k : ℕ) → ((j : ℕ) → first < j → j < k → test j ≡ true) → test k ≡ true → (j : ℕ) → first < j → j < k + 1 → test j ≡ true
each_next test first k each here j low high = by (same_or_not j k)
  where
    by : (j ≡ k) ⊎ (j ≡ k → ⊥) → test j ≡ true
    by (inl e) = ap test e ∙ here
    by (inr n) = each j low (omega (arith, high, n))

pub all_members : (P : ℕ → Type 0) (xs : List ℕ) (x : ℕ) → All P xs → Member xs x → P x
all_members P xs x all m = let r : IsAt xs x = at_of xs x m in subst P (r.is 0) (all r.place 0 r.exists)

pub none_all : (P : ℕ → Type 0) (xs : List ℕ) → xs ≡ [] → All P xs
none_all P xs none = subst (All P) (sym none) (λ k d below. absurd (omega (arith, below)))

module _ {W : ℕ} (plan : Plan W) where
  -- where a line is led is an edge of the net
  pub led_below : (edge line : ℕ) → line < plan.routes.now.lines → edge < edge_count (graph_in (net_in plan)) → next_at plan.routes.now line edge < edge_count (graph_in (net_in plan))
  led_below edge line inside exists =
      let same : plan.flow.now.graph ≡ graph_in (net_in plan) = ap (λ (f : FlowGraph). f.graph) plan.own_flow in
      subst (λ (g : Graph). edge < edge_count g → next_at plan.routes.now line edge < edge_count g) same (plan.led line edge inside) exists

  some_is : (a b : ℕ) → Some a ≡ Some b → a ≡ b
  some_is a b e = cc

  pub leads_stand : (edge : ℕ) (touched : List ℕ) (old now : List (Option ℕ)) → All (λ line. line < plan.routes.now.lines) touched → edge < edge_count (graph_in (net_in plan)) → now ≡ with_all old touched (led_from (net_in plan) edge) → AreEdges (net_in plan) old → AreEdges (net_in plan) now
  leads_stand edge touched old now inside exists are stand =
      subst (λ xs. AreEdges (net_in plan) xs) (sym are)
      (with_all_below (edge_count (graph_in (net_in plan))) old touched (led_from (net_in plan) edge) stand
      (λ k e m is. subst (λ x. x < edge_count (graph_in (net_in plan))) (some_is (next_at plan.routes.now k edge) e is) (led_below edge k (all_members (λ line. line < plan.routes.now.lines) touched k inside m) exists)))
