-- Which edges control may come to, by the decisions of a table.
use Rattle.std.specs.Prelude.{◌≡◌, ◌<◌, ℕ, Bool, false, ◌==◌, ◌&&◌, not, if◌then◌else◌, Option, Some, None, ℤ, pos, List, length}
use Rattle.op_table.specs.Operators.{which_of_three, picked}
use Rattle.op_table.specs.Trips.{at_least_zero}
use Rattle.op_table.specs.Words.{is_true}
use Rattle.closed_walks.specs.Graph.{edge_count, from, to}
use Rattle.closed_walks.specs.Walk.{Reach}
use Rattle.f77_tree.specs.declared.programs.ExecKind.{ExecKind}
use Rattle.f77_tree.specs.declared.programs.ExecKind.TheVariants.{Test, Sign, Pick}
use Rattle.f77_tree.specs.declared.programs.NameInfo.{NameInfo}
use Rattle.f77_tree.specs.declared.programs.Program.{Program}
use Rattle.f77_tree.specs.KnownWith.{known_with}
use Rattle.alias_classes.specs.Classes.{ClassTable}
use Rattle.cfg_build.specs.declared.pieces.PieceKind.{PieceKind}
use Rattle.cfg_build.specs.declared.pieces.PieceKind.TheVariants.{Branch, Hold}
use Rattle.cfg_build.specs.Flow.{flow}
use Rattle.cfg_build.specs.Passes.{out}
use Rattle.dep_routing.specs.Touches.{piece_kind, exec_kind}
use Rattle.const_prop.specs.Known.{one_of}
use Rattle.const_prop.specs.Table.{Knowns}
use Rattle.const_prop.specs.Closed.{is_switch, words_on}

module _ (p : Program) (t : Knowns) where
  -- the edge isn't the out-edge that is decided
  abbrev pub is_other : (node e : ℕ) → Option ℤ → Bool
  is_other node e None = false
  is_other node e (Some v) = not (out (flow p.execs).graph node (at_least_zero v) == e)

  -- the piece at which the edge begins decides for another one
  abbrev pub is_excluded : (e : ℕ) → Bool
  is_excluded e = let node = from (flow p.execs).graph e in is_switch (piece_kind p node) && is_other node e (one_of (t.decision node))

  -- a walk from the start takes the edge, and no edge that is excluded
  pub record IsLive (e : ℕ) : Type 0 where
    pub edge : e < edge_count (flow p.execs).graph
    pub reached : Reach (flow p.execs).graph is_excluded 0 (from (flow p.execs).graph e)
    pub kept : is_excluded e ≡ false

-- ---- what is decided at live edges

-- the place of an out-edge that belongs to a known value
pub record IsKnownPlace (place : ℤ → ℕ) (told : Option ℤ) (v : ℤ) : Type 0 where
  pub value : ℤ
  pub is_known : told ≡ Some value
  pub is : v ≡ pos (place value)

-- the out-edge that a branch takes by its selector, whose value is known; the test of a DO has none
abbrev pub IsSelected : List NameInfo → (words : ℕ → Option ℤ) → ExecKind → (v : ℤ) → Type 0
IsSelected names words (Test cond if_true if_false) v = IsKnownPlace (λ z. if is_true z then 0 else 1) (known_with names words cond) v
IsSelected names words (Sign e neg zero pos') v = IsKnownPlace (λ z. at_least_zero (which_of_three z)) (known_with names words e) v
IsSelected names words (Pick e targets other) v = IsKnownPlace (λ z. at_least_zero (picked z (pos (length targets)))) (known_with names words e) v
IsSelected names words _ v = ⊥

-- a hold takes its first out-edge
abbrev pub IsKnownOut : List NameInfo → (words : ℕ → Option ℤ) → PieceKind → ExecKind → (v : ℤ) → Type 0
IsKnownOut names words Branch kind v = IsSelected names words kind v
IsKnownOut names words Hold kind v = v ≡ pos 0
IsKnownOut names words _ kind v = ⊥

-- it is the out-edge of the piece to which the edge leads, by what is known on the edge
abbrev pub IsKnownOutAfter : Program → ClassTable → Knowns → (e : ℕ) → (v : ℤ) → Type 0
IsKnownOutAfter p c t e v = let node = to (flow p.execs).graph e in IsKnownOut p.names (words_on c t e) (piece_kind p node) (exec_kind p node) v
