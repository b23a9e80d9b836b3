-- Loads along a line, one after another.
use Rattle.std.proofs.Common.{◌≡◌, ℕ, suc, ◌∷◌, length, Option, Some, None, refl, ap, arith}
use Rattle.op_board.specs.OperationNets.{OperationNet}
use Rattle.fork_board.specs.LoadGroups.{Site, Spot, followed_by, here_or, load_at, loads_within, spot_after, spot_behind}

module _ (x : OperationNet) (line : ℕ) where
  -- so many loads stand one after another from there on
  abbrev pub AreLoads : (count : ℕ) (s : Spot) → Type 0
  AreLoads count s = length (loads_within count x line s) ≡ count

  -- the first one, and the others
  pub record IsFirstLoad (count : ℕ) (s : Spot) : Type 0 where
    pub load : Site
    pub at : load_at x line s ≡ Some load
    pub others : AreLoads count (spot_after x line s)
    pub list : loads_within (suc count) x line s ≡ load ∷ loads_within count x line (spot_after x line s)
    pub behind : spot_behind (suc count) x line s ≡ spot_behind count x line (spot_after x line s)

  pub first_of : (count : ℕ) (s : Spot) → AreLoads (suc count) s → IsFirstLoad count s
  first_of count s are = by (load_at x line s) refl are
    where
      by : (o : Option Site) → load_at x line s ≡ o → length (followed_by o (loads_within count x line (spot_after x line s))) ≡ suc count → IsFirstLoad count s
      by None is are = absurd (omega (arith, are))
      by (Some load) is are = record {
        load = load;
        at = is;
        others = omega (arith, are);
        list = ap (λ o. followed_by o (loads_within count x line (spot_after x line s))) is;
        behind = ap (λ o. here_or o s (spot_behind count x line (spot_after x line s))) is;
      }
