-- The edges that leave a piece, in order.
use Rattle.std.proofs.Common.{◌≡◌, ◌≢◌, ℕ, zero, suc, ◌+◌, ◌-◌, ◌<◌, ◌≤◌, Bool, true, false, ◌==◌, List, [], ◌∷◌, ◌++◌, length, get_or, take, filter, sum_by, refl, sym, ap, ◌∙◌, inl, inr, ⊎_elim, zero-add, append-nil, arith}
use Rattle.std.proofs.lemmas.Bool.{cases_Bool, cond-true, cond-false, eqb-true, eq-eqb}
use Rattle.std.proofs.lemmas.List.Elements.{filter-append}
use Rattle.std.proofs.lemmas.List.FromFn.{get_or-range_with_len}
use Rattle.std.proofs.lemmas.List.Sums.{sum_by-take-le}
use Rattle.std.specs.List.{range_with_len}
use Rattle.closed_walks.specs.Graph.{edge_count, from, to}
use Rattle.cfg_build.specs.declared.parts.Part.{Part}
use Rattle.cfg_build.specs.Control.{fan}
use Rattle.cfg_build.specs.Joined.{rows}
use Rattle.cfg_build.specs.Passes.{outs, out}
use Rattle.cfg_build.proofs.Fans.{places_before, get_or-fan, fan_below, length-fan}
use Rattle.cfg_build.proofs.JoinedGraph.{heads_in, heads_at, length_heads, row_graph, row_edge, edge_zero}
use Rattle.list_laws.specs.Member.{Member}
use Rattle.list_laws.proofs.Members.{Member-in_range}

-- ---- filters of numbers in a row

pub range_split : (a n k : ℕ) → range_with_len a (n + k) ≡ range_with_len a n ++ range_with_len (a + n) k
range_split a zero k = grind arith
range_split a (suc n) k =
    let left : suc n + k ≡ suc (n + k) = omega arith in
    let right : a + 1 + n ≡ a + suc n = omega arith in
    ap (λ m. range_with_len a m) left ∙ ap (λ xs. a ∷ xs) (range_split (a + 1) n k ∙ ap (λ m. range_with_len (a + 1) n ++ range_with_len m k) right)

pub filter_none : (test : ℕ → Bool) (xs : List ℕ) → ((x : ℕ) → Member xs x → test x ≡ false) → filter test xs ≡ []
filter_none test [] none = refl
filter_none test (x ∷ xs) none = cond-false (test x) (x ∷ filter test xs) (filter test xs) (none x (inl refl)) ∙ filter_none test xs (λ y m. none y (inr m))

pub filter_all : (test : ℕ → Bool) (xs : List ℕ) → ((x : ℕ) → Member xs x → test x ≡ true) → filter test xs ≡ xs
filter_all test [] all = refl
filter_all test (x ∷ xs) all = cond-true (test x) (x ∷ filter test xs) (filter test xs) (all x (inl refl)) ∙ ap (λ ys. x ∷ ys) (filter_all test xs (λ y m. all y (inr m)))

pub filter_same : (test other : ℕ → Bool) (xs : List ℕ) → ((x : ℕ) → Member xs x → test x ≡ other x) → filter test xs ≡ filter other xs
filter_same test other [] same = refl
filter_same test other (x ∷ xs) same = grind (arith, filter_same test other xs)

-- those that pass are just those in a row
pub filter_row : (test : ℕ → Bool) (m a n : ℕ) → a + n ≤ m → ((e : ℕ) → e < m → test e ≡ true → (a ≤ e) × (e < a + n)) → ((e : ℕ) → a ≤ e → e < a + n → test e ≡ true) → filter test (range_with_len 0 m) ≡ range_with_len a n
filter_row test m a n within only all =
    let k : ℕ = m - (a + n) in
    let e1 : m ≡ (a + n) + k = omega (arith, within) in
    let split : range_with_len 0 m ≡ (range_with_len 0 a ++ range_with_len a n) ++ range_with_len (a + n) k =
    ap (λ x. range_with_len 0 x) e1 ∙ range_split 0 (a + n) k ∙ ap (λ x. range_with_len 0 (a + n) ++ range_with_len x k) (zero-add (a + n))
    ∙ ap (λ xs. xs ++ range_with_len (a + n) k) (range_split 0 a n ∙ ap (λ x. range_with_len 0 a ++ range_with_len x n) (zero-add a)) in
    ap (λ xs. filter test xs) split
    ∙ filter-append test (range_with_len 0 a ++ range_with_len a n) (range_with_len (a + n) k)
    ∙ ap (λ xs. xs ++ filter test (range_with_len (a + n) k)) (filter-append test (range_with_len 0 a) (range_with_len a n))
    ∙ ap (λ xs. (xs ++ filter test (range_with_len a n)) ++ filter test (range_with_len (a + n) k)) (filter_none test (range_with_len 0 a) low)
    ∙ ap (λ xs. xs ++ filter test (range_with_len (a + n) k)) (filter_all test (range_with_len a n) middle)
    ∙ ap (λ xs. range_with_len a n ++ xs) (filter_none test (range_with_len (a + n) k) high)
    ∙ append-nil (range_with_len a n)
  where
    out_of : (e : ℕ) → e < m → (((a ≤ e) × (e < a + n)) → ⊥) → test e ≡ false
    out_of e below not_in = ⊎_elim (λ (h : test e ≡ true). absurd (not_in (only e below h))) (λ h. h) (cases_Bool (test e))

    low : (e : ℕ) → Member (range_with_len 0 a) e → test e ≡ false
    low e mem = let r : (0 ≤ e) × (e < 0 + a) = Member-in_range 0 a e mem in out_of e (omega (arith, r.1, within)) (λ (h : (a ≤ e) × (e < a + n)). omega (arith, h.0, r.1))

    middle : (e : ℕ) → Member (range_with_len a n) e → test e ≡ true
    middle e mem = let r : (a ≤ e) × (e < a + n) = Member-in_range a n e mem in all e r.0 r.1

    high : (e : ℕ) → Member (range_with_len (a + n) (m - (a + n))) e → test e ≡ false
    high e mem = let r : (a + n ≤ e) × (e < a + n + (m - (a + n))) = Member-in_range (a + n) (m - (a + n)) e mem in out_of e (omega (arith, r.0, r.1, within)) (λ (h : (a ≤ e) × (e < a + n)). omega (arith, h.1, r.0))

-- ---- the out-edges of a piece are its row's heads

module _ (ps : List Part) (finish : ℕ) where
  -- the number of the first edge that leaves the piece
  abbrev pub first_out : ℕ → ℕ
  first_out piece = suc (places_before (heads_in ps) piece)

  nth_begins : (piece nth : ℕ) → piece < length (rows ps) → nth < length (heads_at ps piece) → from (row_graph ps finish) (suc (places_before (heads_in ps) piece + nth)) ≡ piece
  unfolding from
  nth_begins piece nth some within = grind (arith, heads_in ps, length_heads ps, get_or-fan 0 (heads_in ps) piece nth, zero-add piece)

  nth_ends : (piece nth : ℕ) → piece < length (rows ps) → nth < length (heads_at ps piece) → to (row_graph ps finish) (suc (places_before (heads_in ps) piece + nth)) ≡ get_or (heads_at ps piece) nth 0
  unfolding to
  nth_ends piece nth some within = grind (arith, heads_in ps, length_heads ps, get_or-fan 0 (heads_in ps) piece nth)

  nth_below : (piece nth : ℕ) → piece < length (rows ps) → nth < length (heads_at ps piece) → suc (places_before (heads_in ps) piece + nth) < edge_count (row_graph ps finish)
  nth_below piece nth some within = grind (arith, heads_in ps, length_heads ps, places_before, fan_below 0 (heads_in ps) piece nth)

  leaves_within : (piece : ℕ) → piece ≢ finish → (e : ℕ) → e < edge_count (row_graph ps finish) → (from (row_graph ps finish) e == piece) ≡ true → (first_out piece ≤ e) × (e < first_out piece + length (heads_at ps piece))
  leaves_within piece other zero edge test = absurd (other (sym (sym (edge_zero ps finish).0 ∙ eqb-true (from (row_graph ps finish) 0) piece test)))
  leaves_within piece other (suc e) edge test =
      grind (arith, row_edge ps finish e edge, eqb-true (from (row_graph ps finish) (suc e)) piece test, row_graph ps finish, places_before (heads_in ps) piece, heads_in ps, places_before (heads_in ps), heads_at ps piece, heads_at ps)

  -- the edges that leave a piece other than the end, in order
  pub outs_are : (piece : ℕ) → piece < length (rows ps) → piece ≢ finish → outs (row_graph ps finish) piece ≡ range_with_len (first_out piece) (length (heads_at ps piece))
  outs_are piece some other =
      filter_row (λ e. from (row_graph ps finish) e == piece) (edge_count (row_graph ps finish)) (first_out piece) (length (heads_at ps piece))
      (within (length (heads_at ps piece)) refl)
      (leaves_within piece other)
      (λ e low high.
      let nth : ℕ = e - first_out piece in
      let at : suc (places_before (heads_in ps) piece + nth) ≡ e = omega (arith, low) in
      let inside : nth < length (heads_at ps piece) = omega (arith, low, high) in
      eq-eqb (from (row_graph ps finish) e) piece (ap (λ x. from (row_graph ps finish) x) (sym at) ∙ nth_begins piece nth some inside))
    where
      within : (n : ℕ) → length (heads_at ps piece) ≡ n → first_out piece + n ≤ edge_count (row_graph ps finish)
      within zero same =
          let all : places_before (heads_in ps) piece ≤ length (fan 0 (heads_in ps)) = before_all in
          omega (arith, all)
        where
          before_all : places_before (heads_in ps) piece ≤ length (fan 0 (heads_in ps))
          before_all = let e : length (fan 0 (heads_in ps)) ≡ sum_by (λ heads. length heads) (heads_in ps) = length-fan 0 (heads_in ps) in
              let l : sum_by (λ (heads : List ℕ). length heads) (take piece (heads_in ps)) ≤ sum_by (λ heads. length heads) (heads_in ps) = sum_by-take-le (λ (heads : List ℕ). length heads) (heads_in ps) piece in
              omega (arith, e, l)
      within (suc n) same =
          let below : suc (places_before (heads_in ps) piece + n) < edge_count (row_graph ps finish) = nth_below piece n some (omega (arith, same)) in
          omega (arith, below)

  -- the edge number i of a piece other than the end
  pub record IsOut (piece i : ℕ) : Type 0 where
    pub is : out (row_graph ps finish) piece i ≡ first_out piece + i
    pub exists : out (row_graph ps finish) piece i < edge_count (row_graph ps finish)
    pub begins : from (row_graph ps finish) (out (row_graph ps finish) piece i) ≡ piece
    pub ends : to (row_graph ps finish) (out (row_graph ps finish) piece i) ≡ get_or (heads_at ps piece) i 0

  pub out_is : (piece i : ℕ) → piece < length (rows ps) → piece ≢ finish → i < length (heads_at ps piece) → IsOut piece i
  out_is piece i some other within =
      grind (arith, row_graph ps finish, outs_are piece some other, get_or-range_with_len (first_out piece) (length (heads_at ps piece)) i 0 within, heads_at ps piece, places_before (heads_in ps) piece, heads_in ps, nth_below piece i some within, nth_begins piece i some within, nth_ends piece i some within)
