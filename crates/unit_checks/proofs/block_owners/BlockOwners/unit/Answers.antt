use Rattle.std.proofs.Common.{List, sym, ◌∙◌}
use Rattle.f77_tree.specs.declared.statements.Labelled.{Labelled}
use Rattle.program_units.specs.Names.{has_block}
use Rattle.program_units.proofs.FirstPlaces.{place-none, place-some}
use Rattle.unit_checks.proofs.block_owners.BlockOwners.unit.Goals as goal

pub returns-in-Some : goal.returns-in-Some
returns-in-Some c = place-some (λ (u : List Labelled). has_block u c.args.block.now) c.args.us.now c.in-Some.k (sym (c.requires.each c.args.block.now) ∙ sym c.found.ensures ∙ c.in-Some.is)

pub returns-in-None : goal.returns-in-None
returns-in-None c = c.len.ensures ∙ place-none (λ (u : List Labelled). has_block u c.args.block.now) c.args.us.now (sym (c.requires.each c.args.block.now) ∙ sym c.found.ensures ∙ c.in-None.is)
