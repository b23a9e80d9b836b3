use Rattle.std.proofs.Common.{◌^◌, ℕ, List, sym, ap, subst, ◌∙◌}
use Rattle.f77_tree.specs.declared.statements.Labelled.{Labelled}
use Rattle.inlined_copies.specs.declared.unit_table.UnitTable.{UnitTable}
use Rattle.inlined_copies.specs.LabelCounts.{AreCounted, count_at}
use Rattle.inlined_copies.specs.NamedTables.{AreTablesOf}
use Rattle.inlined_copies.proofs.WholeLists.{few-whole}
use Rattle.f77_subs.proofs.whole_list.whole_list.Goals as goal

pub invariant_of-units : goal.invariant_of-units
invariant_of-units c = record {
  named = c.requires.index;
  counted = subst (λ (counts : List ℕ). AreCounted c.args.us.now (2 ^ 20) counts) (sym c.deref.ensures.value) c.in_ok-counts.ensures.counted;
}

pub put_whole-requires-clause-tables : goal.put_whole-requires-clause-tables
put_whole-requires-clause-tables c =
    let us = c.args.us.now in
    let counts = c.deref.result.now in
    let told = subst (λ (ws : List (List Labelled)). AreTablesOf ws counts c.in_ok-tables.tables.items) c.requires.same c.in_ok-tables.ensures in
    let are = subst (λ (tables : List UnitTable). AreTablesOf us counts tables) (sym c.deref-2.ensures.value) told in
    record {
      none = c.requires.none;
      fit = c.requires.fit;
      made = record {
        as_many = are.as_many;
        right = are.right;
        counted = subst (λ (ns : List ℕ). AreCounted us (2 ^ 20) ns) (sym c.deref.ensures.value) c.in_ok-counts.ensures.counted;
        exact = λ k. ap (λ (ns : List ℕ). count_at ns k) c.deref.ensures.value ∙ c.in_ok-counts.ensures.exact k;
        subs = c.requires.fit.subs;
        fit = c.requires.fit.fit;
      };
    }

pub in_sequence-requires : goal.in_sequence-requires
in_sequence-requires c = record { few = few-whole c.args.us.now c.in_ok-list.list.items c.requires.few c.in_ok-list.ensures }
