use Rattle.std.proofs.Common.{◌≡◌, List, Some, ap, sym, ◌∙◌}
use Rattle.std.specs.Prelude.{slice_get}
use Rattle.program_units.specs.declared.entity.Entity.{Entity}
use Rattle.program_units.specs.Expansion.{is_running, type_of}
use Rattle.program_units.specs.Names.{y_entities}
use Rattle.entity_names.proofs.NamedEntities.{own-named}
use Rattle.entity_names.proofs.PutLists.{kept-more}
use Rattle.f77_subs.proofs.merging.Merging.put_types.Goals as goal

pub put_type-requires-clause-named : goal.put_type-requires-clause-named
put_type-requires-clause-named c =
    let new = c.args.self.now.new.now in
    own-named new.text.now.us.now c.loop-i.i c.at.result.now (ap (λ (es : List Entity). slice_get es c.loop-i.i) (sym new.text.now.all_own) ∙ c.at.ensures)

pub put_type-requires-clause-declared : goal.put_type-requires-clause-declared
put_type-requires-clause-declared c =
    let new = c.args.self.now.new.now in
    new.named.declared c.loop-i.i c.at.result.now (ap (λ (es : List Entity). slice_get es c.loop-i.i) (sym new.text.now.all_own) ∙ c.at.ensures)

pub loop-i-preserved : goal.loop-i-preserved
loop-i-preserved c =
    let us = c.args.self.now.new.now.text.now.us.now in
    let there : slice_get (y_entities us) c.loop-i.i ≡ Some c.at.result.now = ap (λ (es : List Entity). slice_get es c.loop-i.i) (sym c.args.self.now.new.now.text.now.all_own) ∙ c.at.ensures in
    kept-more (type_of us c.args.self.now.line) (is_running us) (y_entities us) c.loop-i.i c.at.result.now c.args.out.now.items c.loop-i.out.items c.put_type.new.out.items there c.loop-i.invariant c.in_ok-put_type.ensures
