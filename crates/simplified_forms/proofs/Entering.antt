-- Pieces to which edges lead, as they are noted edge by edge.
use Rattle.std.proofs.Common.{◌≡◌, ℕ, ◌<◌, Bool, true, false, List, length, ◌↔◌}
use Rattle.std.specs.Prelude.{slice_index_or}

-- where each edge leads, and which edges count
module _ (ends : ℕ → ℕ) (live : List Bool) where
  -- an edge below the bound leads to the node
  pub record Enters (bound node : ℕ) : Type 0 where
    pub edge : ℕ
    pub below : edge < bound
    pub counts : slice_index_or live edge false ≡ true
    pub leads : ends edge ≡ node

  -- so many nodes, of which those are noted to which an edge below the bound leads
  pub record AreNoted (nodes bound : ℕ) (noted : List Bool) : Type 0 where
    pub size : length noted ≡ nodes
    pub each : (node : ℕ) → node < nodes → (slice_index_or noted node false ≡ true) ↔ Enters bound node
