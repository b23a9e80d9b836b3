use Rattle.std.proofs.Common.{length, inl, sym, ap, subst, ◌∙◌, arith}
use Rattle.program_units.specs.NamedEntities.{AreAllNamed}
use Rattle.program_units.specs.Refusals.{has_great_name}
use Rattle.copied_names.specs.CopiedNames.{HaveDummiesFirst, copied_names, names_in_copies}
use Rattle.copied_names.proofs.CopiedLists.{units-all, units-more}
use Rattle.copied_names.proofs.copied.names_of_text.Goals as goal

pub of-requires-3-clause-named : goal.of-requires-3-clause-named
of-requires-3-clause-named c = subst AreAllNamed (sym (c.in_ok-text.ensures ∙ c.in_ok-units.ensures)) c.requires.named

pub of-requires-3-clause-small : goal.of-requires-3-clause-small
of-requires-3-clause-small c = ap has_great_name (c.in_ok-text.ensures ∙ c.in_ok-units.ensures) ∙ c.requires.small

pub add_unit-requires-clause-first : goal.add_unit-requires-clause-first
add_unit-requires-clause-first c = subst HaveDummiesFirst (sym (ap (λ text. text.us.now) c.in_ok-new.ensures ∙ c.in_ok-text.ensures ∙ c.in_ok-units.ensures)) c.requires.first

pub add_unit-requires-clause-unit : goal.add_unit-requires-clause-unit
add_unit-requires-clause-unit c =
    let same = ap length (ap (λ text. text.us.now) c.in_ok-new.ensures ∙ c.in_ok-text.ensures) in
    omega (arith, same)

pub loop-k-preserved : goal.loop-k-preserved
loop-k-preserved c =
    let some = c.loop-k.invariant.some in
    let same = ap length (ap (λ text. text.us.now) c.in_ok-new.ensures ∙ c.in_ok-text.ensures) in
    record {
      some = omega (arith, some);
      most = inl (omega (arith, same));
      names = units-more (names_in_copies c.in_ok-new.new.text.now.us.now) c.loop-k.k c.loop-k.names.items c.add_unit.new.names.items some c.loop-k.invariant.names c.in_ok-add_unit.ensures;
    }

pub returns : goal.returns
returns c =
    let same = ap (λ text. text.us.now) c.in_ok-new.ensures ∙ c.in_ok-text.ensures in
    let long = ap length same in
    units-all c.in_ok-new.new.text.now.us.now c.loop-k.k c.loop-k.names.items c.loop-k.invariant.some (omega (arith, long)) c.loop-k.invariant.most c.loop-k.invariant.names
    ∙ ap copied_names (same ∙ c.in_ok-units.ensures)
