-- Pairs of nodes that pass a token to and fro, from a first live pair on.
use Rattle.std.specs.Prelude.{◌≡◌, ◌+◌, ◌-◌, ◌*◌, ◌/◌, ◌%◌, ◌&&◌, ℕ, Bool, false, not, nat_le, nat_eq, if◌then◌else◌, List, length, get_or, set, None}
use Rattle.firing.specs.declared.system.NodeName.TheVariants.{Act}
use Rattle.firing.specs.Moves.{Moves}

-- how many pairs there are, and which is the first with a token
pub record Pairs : Type 0 where
  pub count : ℕ
  pub first : ℕ

-- whether the token of a node's pair, where the even node has it or not, is the node's
abbrev pub has_token : Bool → ℕ → Bool
has_token even k = if nat_eq (k % 2) 0 then even else not even

abbrev pub is_ready : Pairs → List Bool → ℕ → Bool
is_ready pairs m k = nat_le pairs.first (k / 2) && has_token (get_or m (k / 2) false) k

-- the token goes to the other node
abbrev pub after_node : List Bool → ℕ → List Bool
after_node m k = set m (k / 2) (nat_eq (k % 2) 1)

abbrev pub other_node : ℕ → ℕ
other_node k = if nat_eq (k % 2) 0 then k + 1 else k - 1

abbrev pub swing_moves : Pairs → Moves (List Bool)
swing_moves pairs = record {
  nodes = 2 * pairs.count;
  name = λ k. Act k;
  serial = λ k. false;
  ready = is_ready pairs;
  fired = after_node;
  line = λ m k. None;
  trap = λ m. None;
}

abbrev pub has_pairs : Pairs → List Bool → Type 0
has_pairs pairs m = length m ≡ pairs.count
