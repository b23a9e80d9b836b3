-- Walks along the loads of a group, load by load.
use Rattle.std.proofs.Common.{◌≡◌, ◌<◌, ℕ, zero, suc, true, false, List, [], ◌∷◌, length, Some, None, slice_get, refl, sym, ap, subst, arith}
use Rattle.op_board.specs.OperationNets.{OperationNet, operation_at, operation_count}
use Rattle.fork_board.specs.LoadGroups.{Site, Spot, followed_by, here_or, is_among, is_load, load_at, loads_within, number_at, piece_at, spot_after, spot_behind}
use Rattle.fork_board.proofs.LoadSpots.{IsLoadIn, IsNumberAt, load_is, number_is}

pub within : {A : Type 0} (xs : List A) (k : ℕ) (a : A) → slice_get xs k ≡ Some a → k < length xs
within [] k a is = absurd cc
within (y ∷ xs) zero a is = omega arith
within (y ∷ xs) (suc k) a is = let r = within xs k a is in omega (arith, r)

module _ (x : OperationNet) (line : ℕ) where
  -- ---- one spot

  pub record IsNeeding (s : Spot) (load : Site) : Type 0 where
    pub here : load.piece ≡ piece_at x s
    pub below : load.number < operation_count x load.piece
    pub needs : x.needs load.piece load.number line ≡ true
    pub loads : is_load (operation_at x load.piece load.number).work ≡ true

  pub needing_at : (s : Spot) (load : Site) → load_at x line s ≡ Some load → IsNeeding s load
  needing_at s load is =
      let l : IsLoadIn x (piece_at x s) (number_at x line s) load = load_is x (piece_at x s) (number_at x line s) load is in
      let n : IsNumberAt x line s l.number = number_is x line s l.number l.at in
      subst (λ (a : Site). IsNeeding s a) (sym l.is) (record { here = refl; below = n.below; needs = n.needs; loads = l.loads })

  -- ---- a step

  pub no_more : (left : ℕ) (s : Spot) → load_at x line s ≡ None → loads_within left x line s ≡ []
  no_more zero s none = refl
  no_more (suc left) s none = ap (λ o. followed_by o (loads_within left x line (spot_after x line s))) none

  pub stays_behind : (left : ℕ) (s : Spot) → load_at x line s ≡ None → spot_behind left x line s ≡ s
  stays_behind zero s none = refl
  stays_behind (suc left) s none = ap (λ o. here_or o s (spot_behind left x line (spot_after x line s))) none

  -- ---- a load that is looked for

  pub nowhere : (left : ℕ) (s : Spot) (piece i : ℕ) → load_at x line s ≡ None → is_among (loads_within left x line s) piece i ≡ false
  nowhere left s piece i none = ap (λ loads. is_among loads piece i) (no_more left s none)
