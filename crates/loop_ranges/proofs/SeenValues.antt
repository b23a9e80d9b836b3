-- The values of subscripts that are seen in range.
use Rattle.std.proofs.Common.{ℕ, ◌-◌, ◌≤◌, ℤ, pos, negsuc, ◌*ℤ◌, ◌≤ℤ◌, inl, inr, List, Option, slice_index, arith}
use Rattle.std.proofs.lemmas.Int.{ints}
use Rattle.op_table.specs.Words.{IsWord}
use Rattle.f77_tree.specs.declared.declarations.Dim.{Dim}
use Rattle.f77_tree.specs.declared.expressions.Expr.{Expr}
use Rattle.f77_tree.specs.declared.programs.Program.{Program}
use Rattle.f77_tree.specs.Declarations.{CanBeWritten}
use Rattle.f77_tree.specs.Known.{IsInBounds}
use Rattle.f77_tree.specs.Run.{source}
use Rattle.f77_tree.specs.Value.{value}
use Rattle.f77_tree.specs.WellFormed.{IsWellFormed}
use Rattle.alias_classes.specs.Classes.{ClassTable, IsClasses}
use Rattle.alias_classes.specs.WriteLaws.{WritesWhatChanges}
use Rattle.loop_ranges.specs.Linear.{Linear, linear_at}
use Rattle.loop_ranges.specs.Plain.{count_of, value_after}
use Rattle.loop_ranges.specs.Seen.{LiesIn, IsSeenInRange}
use Rattle.loop_ranges.proofs.FormValues.{linear-is}
use Rattle.loop_ranges.proofs.Multiples.{IsAmong, scaled}
use Rattle.loop_ranges.proofs.PlainRuns.{value_among, under-way, variable-integer, variable-scalar}

-- what lies between two numbers lies within the bounds that they lie within
form-inside : (form : Linear) (dim : Dim) (a b x : ℤ) → LiesIn dim (linear_at form a) → LiesIn dim (linear_at form b) → IsAmong a b x → LiesIn dim (linear_at form x)
form-inside form dim a b x at_a at_b among = by (scaled form.factor a b x among)
  where
    by : IsAmong (form.factor *ℤ a) (form.factor *ℤ b) (form.factor *ℤ x) → LiesIn dim (linear_at form x)
    by (inl is) =
        let low = is.0 in
        let high = is.1 in
        let lower = at_a.lower in
        let upper = at_b.upper in
        record { lower = omega (arith, ints, low, lower); upper = omega (arith, ints, high, upper) }
    by (inr is) =
        let low = is.0 in
        let high = is.1 in
        let lower = at_b.lower in
        let upper = at_a.upper in
        record { lower = omega (arith, ints, low, lower); upper = omega (arith, ints, high, upper) }

written-word : (z : ℤ) → CanBeWritten z → IsWord z
written-word (pos n) le = omega (arith, ints, le)
written-word (negsuc n) le = omega (arith, ints, le)

inside-word : (low high z : ℤ) → IsWord low → IsWord high → low ≤ℤ z → z ≤ℤ high → IsWord z
inside-word low high z u v le ge = omega (arith, ints, u, v, le, ge)

module _ (p : Program) (t : ClassTable) (input : List ℤ) (well : IsWellFormed p) (classes : IsClasses p t) (covers : WritesWhatChanges) where
  -- a subscript that is seen in range has a value within the bounds of its dimension
  pub seen-in_bounds : (steps : ℕ) (next : Option ℤ) (sub : Expr) (dim : Dim) → IsSeenInRange p t (source p input steps).position sub dim → IsInBounds dim (value p.names (source p input steps).memory.store next sub)
  seen-in_bounds steps next sub dim seen =
      let q = seen.parameters in
      let after = seen.between.after_start in
      let before = seen.between.before_next in
      let here = under-way p t input well classes covers seen.number seen.loop q seen.plain steps (record { after_start = after; up_to_next = omega (arith, before) }) in
      let m = (source p input steps).memory in
      let i = count_of q - slice_index m.counts seen.number in
      let some = here.some in
      let within : i ≤ count_of q - 1 = omega (arith, some) in
      let lies : LiesIn dim (linear_at seen.form (value_after q i)) = form-inside seen.form dim q.first (value_after q (count_of q - 1)) (value_after q i) seen.at_first seen.at_last (value_among q i (count_of q - 1) within) in
      let word : IsWord (linear_at seen.form (value_after q i)) = inside-word dim.lo dim.hi (linear_at seen.form (value_after q i)) (written-word dim.lo seen.dimension.lower) (written-word dim.hi seen.dimension.upper) lies.lower lies.upper in
      record {
        result = linear_at seen.form (value_after q i);
        is = linear-is p.names m.store next seen.loop.variable (value_after q i) (variable-integer p t input well classes covers seen.number seen.loop q seen.plain) (variable-scalar p t input well classes covers seen.number seen.loop q seen.plain) here.variable sub seen.form seen.linear word;
        lower = lies.lower;
        upper = lies.upper;
      }
