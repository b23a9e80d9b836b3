use Rattle.std.proofs.Common.{◌≡◌, take, map, All}
use Rattle.f77_tree.specs.KnownWith.{known_with}
use Rattle.f77_tree.specs.Value.{IsExpression}
use Rattle.const_prop.specs.Closed.{words_on}
use Rattle.const_prop.specs.Table.{knowns_of}
use Rattle.simplified_forms.specs.Folding.{folded}
use Rattle.simplified_forms.proofs.folding.+fold.Given as goal

abbrev pub invariant-fold_all-loop-e : goal.invariant-fold_all-loop-e
invariant-fold_all-loop-e g l = record {
  expressions : All (IsExpression l.p.names) l.e-items;
  trees : l.trees ≡ map (folded l.p.names l.checked (words_on l.c (knowns_of l.t) l.edge)) (take l.e-index l.e-items);
  known : l.known.items ≡ map (known_with l.p.names (words_on l.c (knowns_of l.t) l.edge)) (take l.e-index l.e-items);
}
