-- The simplified form is flat.
use Rattle.std.proofs.Common.{ℕ, Bool}
use Rattle.f77_tree.specs.declared.programs.Program.{Program}
use Rattle.f77_tree.specs.WellFormed.{AreExecs}
use Rattle.alias_classes.specs.Classes.{ClassTable}
use Rattle.const_prop.specs.Table.{Knowns}
use Rattle.flat_programs.specs.FlatForm.{IsFlat}
use Rattle.simplified_forms.specs.Simplified.{flat}
use Rattle.simplified_laws.proofs.FlatEnds.{ends-flat, some-statement}
use Rattle.simplified_laws.proofs.FlatItems.{AreClosedItems}
use Rattle.simplified_laws.proofs.FlatMoves.{AreComeTo, jumps-move}
use Rattle.simplified_laws.proofs.FlatNumbers.{are-numbered}
use Rattle.simplified_laws.proofs.FlatRanges.{range-alone, range-kept_out, range-later, ranges-nest}

-- where its items are closed, and control comes to each from another one
pub is-flat : (p : Program) (c : ClassTable) (t : Knowns) (checked : Bool) (is_item : ℕ → Bool) → AreExecs p.names p.execs p.loops → AreClosedItems p t is_item → AreComeTo p t is_item → IsFlat (flat p c t checked is_item)
is-flat p c t checked is_item well closed come = record {
  some = some-statement p c t checked is_item closed well.end;
  ended = ends-flat p c t checked is_item closed well.end;
  numbered = are-numbered p c t checked is_item closed well.loops_nest;
  later = range-later p c t checked is_item closed well.loops_nest;
  one_range = range-alone p c t checked is_item closed well.loops_nest;
  nested = ranges-nest p c t checked is_item closed well.loops_nest;
  kept_out = range-kept_out p c t checked is_item closed well.loops_nest;
  moves = jumps-move p c t checked is_item closed well.loops_nest come;
}
