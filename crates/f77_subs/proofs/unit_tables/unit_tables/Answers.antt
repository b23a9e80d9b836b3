use Rattle.std.proofs.Common.{◌∷◌, [], ◌^◌, ℕ, List, length, sym, ap, subst, ◌∙◌, arith, length-append}
use Rattle.std.specs.Prelude.{slice_get}
use Rattle.inlined_copies.specs.declared.unit_table.UnitTable.{UnitTable}
use Rattle.inlined_copies.specs.UnitTables.{IsTableOf}
use Rattle.program_units.proofs.UnitsMet.{each-push}
use Rattle.f77_subs.proofs.unit_tables.unit_tables.Goals as goal

pub loop-k-preserved : goal.loop-k-preserved
loop-k-preserved c =
    let us = c.args.new.now.text.now.us.now in
    let counts = c.args.counts.now.counts.now in
    let old = c.loop-k.tables.items in
    let x = c.in_ok-unit_table.field-0 in
    let items = c.in_ok-push.ensures.items in
    let long = ap length items in
    let sum = length-append old (x ∷ []) in
    let before = c.loop-k.invariant.count in
    record {
      count = omega (arith, long, sum, before);
      each = λ j y is. each-push (λ k table. IsTableOf us (2 ^ 20) counts k table) old x c.loop-k.invariant.each (subst (λ (k : ℕ). IsTableOf us (2 ^ 20) counts k x) (sym before) c.in_ok-unit_table.ensures) j y (ap (λ (t : List UnitTable). slice_get t j) (sym items) ∙ is);
    }
