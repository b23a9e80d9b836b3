use Rattle.std.proofs.Common.{◌+◌, ◌<◌, slice_index, sym, ap, subst, ◌∙◌}
use Rattle.f77_tree.specs.Known.{known}
use Rattle.f77_tree.specs.Loops.{Loop, begun}
use Rattle.f77_tree.specs.Value.{place_of}
use Rattle.alias_classes.specs.Classes.{class_of_word}
use Rattle.loop_ranges.specs.Plain.{all_three, parameters}
use Rattle.range_lines.specs.Reaches.{IsNextWrite}
use Rattle.range_lines.proofs.ReachLemmas.{incremented-reach, other-reach}
use Rattle.range_lines.proofs.reaches.reach_from.Goals as goal

pub returns-then-is_increment_of : goal.returns-then-is_increment_of
returns-then-is_increment_of g c =
    let p = c.args.p.now in
    let t = c.args.c.now in
    let is = c.in-DoStart.is in
    let loop : Loop = record { number = c.in-DoStart.loop_no; variable = c.in-DoStart.var; body = c.in-DoStart.body; exit = c.in-DoStart.exit } in
    let at = slice_index c.args.next.now c.class_of.result in
    let next : IsNextWrite p t (c.args.k + 1) (class_of_word t (place_of p.names c.in-DoStart.var)) at = subst (λ class. IsNextWrite p t (c.args.k + 1) class at) c.class_of.ensures.class (c.requires.next c.class_of.result (subst (λ n. c.class_of.result < n) (sym c.requires.all) c.class_of.ensures.below)) in
    incremented-reach p t c.requires.program c.requires.classes c.args.k c.args.exec.now c.requires.executable loop (ap begun is) (all_three (known c.in-DoStart.first) (known c.in-DoStart.last) (known c.in-DoStart.step)) (ap parameters is) at next c.reach_of.result (sym c.is_increment_of.ensures ∙ c.if-is_increment_of.true) c.reach_of.ensures

pub returns-else-is_increment_of : goal.returns-else-is_increment_of
returns-else-is_increment_of g c =
    let p = c.args.p.now in
    let t = c.args.c.now in
    let is = c.in-DoStart.is in
    let loop : Loop = record { number = c.in-DoStart.loop_no; variable = c.in-DoStart.var; body = c.in-DoStart.body; exit = c.in-DoStart.exit } in
    let at = slice_index c.args.next.now c.class_of.result in
    let next : IsNextWrite p t (c.args.k + 1) (class_of_word t (place_of p.names c.in-DoStart.var)) at = subst (λ class. IsNextWrite p t (c.args.k + 1) class at) c.class_of.ensures.class (c.requires.next c.class_of.result (subst (λ n. c.class_of.result < n) (sym c.requires.all) c.class_of.ensures.below)) in
    other-reach p t c.requires.program c.requires.classes c.args.k c.args.exec.now c.requires.executable loop (ap begun is) (all_three (known c.in-DoStart.first) (known c.in-DoStart.last) (known c.in-DoStart.step)) (ap parameters is) at next (sym c.is_increment_of.ensures ∙ c.if-is_increment_of.false)
