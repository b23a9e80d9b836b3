-- The walk comes further with each step.
use Rattle.std.proofs.Common.{◌≡◌, ℕ, ◌+◌, ◌<◌, List, length, get_or, set, sum_by, arith}
use Rattle.std.proofs.lemmas.List.Sums.{sum_by-set}
use Rattle.cycle_equiv.specs.WalkState.{left_weight, progress}
use Rattle.cycle_equiv.specs.declared.walk_tree.Mark.{Mark}
use Rattle.cycle_equiv.specs.declared.walk_tree.Mark.TheVariants.{New, Open, Left}
use Rattle.cycle_equiv.specs.declared.walk.BracketWalk.{BracketWalk}

module _ (old new : BracketWalk) where
  -- an edge was taken
  pub take_further : (u : ℕ) → u < length old.tree.taken.items → new.tree.taken.items ≡ set old.tree.taken.items u (get_or old.tree.taken.items u 0 + 1)
      → sum_by left_weight new.tree.marks.items ≡ sum_by left_weight old.tree.marks.items → progress old < progress new
  take_further u inside taken marks = grind (arith, sum_by-set)

  -- a node was left
  pub leave_further : (u : ℕ) → u < length old.tree.marks.items → get_or old.tree.marks.items u New ≡ Open → new.tree.marks.items ≡ set old.tree.marks.items u Left
      → new.tree.taken.items ≡ old.tree.taken.items → progress old < progress new
  leave_further u inside was marks taken = grind (arith, sum_by-set left_weight old.tree.marks.items u Left New inside, sum_by left_weight)

-- a node that was found isn't left
pub found_marks : (marks new : List Mark) (v : ℕ) → v < length marks → get_or marks v New ≡ New → new ≡ set marks v Open → sum_by left_weight new ≡ sum_by left_weight marks
found_marks marks new v inside was is = grind (arith, sum_by-set left_weight marks v Open New inside, sum_by left_weight)
