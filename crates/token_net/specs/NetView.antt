-- What contracts see of a net.
use Rattle.std.specs.Prelude.{◌≡◌, ℕ, Bool, true, List, length, Option, None}
use Rattle.f77_meaning.specs.Storage.{memory_of}
use Rattle.firing.specs.Marks.{AreMarks}
use Rattle.net_board.specs.declared.control.Control.{Control}
use Rattle.net_board.specs.Nodes.{NetOf, nodes_of}
use Rattle.net_board.specs.Tokens.{Tokens, net_moves}
use Rattle.token_net.specs.declared.net.Net.{Net}
use Rattle.net_tables.specs.LookupView.{net_on}

-- all but the marks
pub record Unmarked : Type 0 where
  pub net : NetOf
  pub tokens : Tokens
  pub control : Option Control
  pub text : List ℕ
  pub kept : Bool
  -- the nodes that the last firing can have made ready
  pub woken : List ℕ

module _ {W : ℕ} where
  -- what firings never change
  abbrev pub net_of : Net W → NetOf
  net_of s = net_on s.board

  abbrev pub tokens_of : Net W → Tokens
  tokens_of s = record { lines = s.lines.items; edges = s.edges.items; memory = memory_of s.storage; trap = s.trapped }

  abbrev pub rest_of : Net W → Unmarked
  rest_of s = record { net = net_of s; tokens = tokens_of s; control = s.control; text = s.text.items; kept = s.kept; woken = s.woken.items }

  -- the ready nodes are marked, if nothing has trapped
  pub record KeepsSet (s : Net W) : Type 0 where
    pub kept : s.kept ≡ true
    pub marks : s.trapped ≡ None → AreMarks (length (nodes_of (net_of s))) ((net_moves (net_of s)).ready (tokens_of s)) s.set
