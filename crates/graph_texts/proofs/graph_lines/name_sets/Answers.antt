use Rattle.std.proofs.Common.{◌+◌, List, sym, subst}
use Rattle.alias_classes.specs.declared.TheConstants.{CLASS_WORDS}
use Rattle.class_set.specs.declared.ClassSet.{ClassSet}
use Rattle.graph_texts.specs.NameSets.{AreNameSetsTo}
use Rattle.graph_texts.proofs.LinesTold.{sets_more}
use Rattle.graph_texts.proofs.graph_lines.name_sets.Goals as goal

pub loop-name-preserved : goal.loop-name-preserved
loop-name-preserved c =
    let names = c.args.p.now.names in
    let table = c.args.c.now in
    subst (λ (sets : List (ClassSet CLASS_WORDS)). AreNameSetsTo names table (c.loop-name.name + 1) sets) (sym {A = List (ClassSet CLASS_WORDS)} c.in_ok-push.ensures.items)
    (sets_more names table c.loop-name.name c.loop-name.sets.items c.in_ok-name_set.field-0 c.loop-name.invariant c.in_ok-name_set.ensures)
