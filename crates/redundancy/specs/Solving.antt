-- What is kept while it is found what is missing where. No public clause cites this module.
use Rattle.std.specs.Prelude.{◌≡◌, ℕ, ◌+◌, ◌-◌, ◌*◌, ◌^◌, ◌<◌, ◌⊎◌, Bool, true, ◌&&◌, ◌||◌, not, List, [], ◌∷◌, length, slice_index}
use Rattle.closed_walks.specs.Graph.{Graph, edge_count, from, to}
use Rattle.closed_walks.specs.Walk.{Walk, Holds}
use Rattle.redundancy.specs.Available.{has_bit, IsComputedOn}

-- whether the word of a node has a bit
abbrev pub bit : List ℕ → (k node : ℕ) → Bool
bit row k node = has_bit (slice_index row node) k

abbrev pub HasBit : List ℕ → (k node : ℕ) → Type 0
HasBit row k node = bit row k node ≡ true

-- a walk leads from the start to the node on which what the bit stands for isn't computed
pub record IsLost (g : Graph) (computes kills : ℕ → Type 0) (node : ℕ) : Type 0 where
  pub walk : List ℕ
  pub leads : Walk g 0 walk node
  pub lost : IsComputedOn g computes kills walk → ⊥

-- what is missing after a node: what it kills, and what is missing at it and isn't computed by it
abbrev pub missing_after : (computes kills missing : ℕ → Bool) → ℕ → Bool
missing_after computes kills missing node = kills node || (missing node && not (computes node))

-- What is missing is so by a walk. What is missing after a node is missing at each node to which an edge leads from it, or the
-- node is waiting for its turn, or the edge is one of the rest.
pub record IsSolving (g : Graph) (computes kills missing waiting : List ℕ) (rest : ℕ → Type 0) : Type 0 where
  pub nodes : length missing ≡ g.nodes
  pub waits : (v : ℕ) → Holds waiting v → v < g.nodes
  pub start : (k : ℕ) → k < 64 → HasBit missing k 0
  pub lost : (v k : ℕ) → k < 64 → HasBit missing k v → IsLost g (HasBit computes k) (HasBit kills k) v
  pub closed : (e k : ℕ) → e < edge_count g → k < 64 → missing_after (bit computes k) (bit kills k) (bit missing k) (from g e) ≡ true → HasBit missing k (to g e) ⊎ (Holds waiting (from g e) ⊎ rest e)

-- no edge
abbrev pub Nothing : ℕ → Type 0
Nothing e = ⊥

-- how far the words are below a limit, all together
abbrev pub room : (limit : ℕ) → List ℕ → ℕ
room limit [] = 0
room limit (word ∷ words) = (limit - word) + room limit words

-- how much is left to do: a word that grows makes one node wait, and a node that has had its turn doesn't wait any more
abbrev pub work : (missing waiting : List ℕ) → ℕ
work missing waiting = 2 * room (2 ^ 64) missing + length waiting
