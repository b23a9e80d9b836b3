-- Which operations stand at the places of a line, and what groups of loads have.
use Rattle.std.proofs.Common.{◌≡◌, ◌<◌, ℕ, zero, suc, ◌+◌, Bool, true, false, if◌then◌else◌, Option, Some, None, refl, sym, ap, ◌∙◌, subst, arith}
use Rattle.closed_walks.specs.Graph.{to}
use Rattle.net_board.specs.Nodes.{graph_in}
use Rattle.net_board.specs.WokenNodes.{passing_below}
use Rattle.op_board.specs.OperationNets.{OperationNet, needing_before, operation_at, operation_count}
use Rattle.fork_board.specs.LoadGroups.{Site, Spot, site, spot, followed_by, is_among, is_load, load_at, load_in, loads_within, number_at, piece_at, spot_after}
use Rattle.fork_board.proofs.FilteredRanges.{IsFiltered, filtered, is_filtered}

-- the site of a load
pub record IsLoadIn (x : OperationNet) (piece : ℕ) (o : Option ℕ) (load : Site) : Type 0 where
  pub number : ℕ
  pub at : o ≡ Some number
  pub loads : is_load (operation_at x piece number).work ≡ true
  pub is : load ≡ site piece number

pub load_is : (x : OperationNet) (piece : ℕ) (o : Option ℕ) (load : Site) → load_in x piece o ≡ Some load → IsLoadIn x piece o load
load_is x piece None load is = let e : None ≡ Some load = is in absurd cc
load_is x piece (Some i) load is = by (is_load (operation_at x piece i).work) refl is
  where
    by : (b : Bool) → is_load (operation_at x piece i).work ≡ b → (if b then Some (site piece i) else None) ≡ Some load → IsLoadIn x piece (Some i) load
    by true loads is = let e : site piece i ≡ load = cc in record { number = i; at = refl; loads = loads; is = sym e }
    by false loads is = let e : None ≡ Some load = is in absurd cc

module _ (x : OperationNet) (line : ℕ) where
  -- the operation with this number stands there
  pub record IsNumberAt (s : Spot) (i : ℕ) : Type 0 where
    pub below : i < operation_count x (piece_at x s)
    pub needs : x.needs (piece_at x s) i line ≡ true
    pub before : needing_before x (piece_at x s) i line ≡ s.passed

  pub number_is : (s : Spot) (i : ℕ) → number_at x line s ≡ Some i → IsNumberAt s i
  number_is s i at =
      let r : IsFiltered (λ j. x.needs (piece_at x s) j line) 0 (operation_count x (piece_at x s)) s.passed i = filtered (λ j. x.needs (piece_at x s) j line) 0 (operation_count x (piece_at x s)) s.passed i at in
      let is = r.is in
      let below = r.below in
      let same : r.more ≡ i = omega (arith, is) in
      record { below = omega (arith, is, below); needs = r.passes; before = subst (λ k. passing_below (λ j. x.needs (piece_at x s) j line) k ≡ s.passed) same r.before }

  pub number_there : (edge i : ℕ) → i < operation_count x (to (graph_in x.net) edge) → x.needs (to (graph_in x.net) edge) i line ≡ true → number_at x line (spot edge (needing_before x (to (graph_in x.net) edge) i line)) ≡ Some i
  number_there edge i below needs =
      let e : 0 + i ≡ i = omega arith in
      is_filtered (λ j. x.needs (to (graph_in x.net) edge) j line) 0 (operation_count x (to (graph_in x.net) edge)) i below (subst (λ k. x.needs (to (graph_in x.net) edge) k line ≡ true) (sym e) needs) ∙ ap (λ k. Some k) e

  -- a load stands there
  pub record HasLoad (s : Spot) : Type 0 where
    pub number : ℕ
    pub at : number_at x line s ≡ Some number
    pub loads : is_load (operation_at x (piece_at x s) number).work ≡ true

  pub has_load : (most : ℕ) (s : Spot) (piece i : ℕ) → is_among (loads_within most x line s) piece i ≡ true → HasLoad s
  has_load zero s piece i among = absurd cc
  has_load (suc most) s piece i among = by (load_at x line s) refl among
    where
      by : (o : Option Site) → load_at x line s ≡ o → is_among (followed_by o (loads_within most x line (spot_after x line s))) piece i ≡ true → HasLoad s
      by None is among = absurd cc
      by (Some load) is among = let r : IsLoadIn x (piece_at x s) (number_at x line s) load = load_is x (piece_at x s) (number_at x line s) load is in record { number = r.number; at = r.at; loads = r.loads }
