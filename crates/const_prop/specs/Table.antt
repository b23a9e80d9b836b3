-- Tables of what is known, for each line on each edge, and for each piece that decides where control goes.
use Rattle.std.specs.Prelude.{◌≡◌, ℕ, ◌<◌, List, slice_index_or}
use Rattle.const_prop.specs.declared.known.Known.{Known}
use Rattle.const_prop.specs.declared.known.Known.TheVariants.{Nothing}
use Rattle.const_prop.specs.declared.table.Table.TheInside.{Inside}
use Rattle.const_prop.specs.Known.{AtMost}
use Rattle.const_prop.specs.KnownRows.{Rows, value_in}

pub record Knowns : Type 0 where
  -- what is known of the word of a line where the line stands on an edge
  pub value : (line edge : ℕ) → Known
  -- what is known of the out-edge, counted from 0, that control takes at a piece
  pub decision : (piece : ℕ) → Known

-- on each edge, and at each piece, the one table knows no less than the other
pub record IsBelow (lines edges pieces : ℕ) (s t : Knowns) : Type 0 where
  pub value : (line e : ℕ) → line < lines → e < edges → AtMost (s.value line e) (t.value line e)
  pub decision : (piece : ℕ) → piece < pieces → AtMost (s.decision piece) (t.decision piece)

-- on each edge, and at each piece, the two tables tell the same
pub record AreSameKnowns (lines edges pieces : ℕ) (s t : Knowns) : Type 0 where
  pub value : (line e : ℕ) → line < lines → e < edges → s.value line e ≡ t.value line e
  pub decision : (piece : ℕ) → piece < pieces → s.decision piece ≡ t.decision piece

-- ---- what a contract sees of a `Table`

pub record Held (W : ℕ) : Type 0 where
  pub known : Rows W
  pub decisions : List Known

module _ {W : ℕ} where
  abbrev pub knowns : Rows W → (decisions : List Known) → Knowns
  knowns rows decisions = record {
    value = value_in rows;
    decision = λ piece. slice_index_or decisions piece Nothing;
  }

  abbrev pub knowns_of : Held W → Knowns
  knowns_of h = knowns h.known h.decisions

  abbrev pub held_of : Inside W → Held W
  held_of d = record { known = d.known; decisions = d.decisions.items }
