use Rattle.std.proofs.Common.{◌≡◌, ◌<◌, ℕ, Bool, List, Option, length, take, refl, sym, ap, ◌∙◌, arith}
use Rattle.std.specs.List.{list_any}
use Rattle.std.proofs.lemmas.List.{take_all}
use Rattle.std.proofs.lemmas.Option.{slice_get_read}
use Rattle.f77_tree.specs.declared.statements.Labelled.{Labelled}
use Rattle.f77_tree.specs.Places.{same_block}
use Rattle.layout_rules.specs.Faults.{answer_or}
use Rattle.unit_checks.specs.declared.block_names.BlockTable.{BlockTable}
use Rattle.program_units.specs.CallTable.{unit_if}
use Rattle.program_units.specs.Names.{has_block}
use Rattle.program_units.specs.Units.{unit_at}
use Rattle.unit_checks.specs.BlockTables.{block_owner, owner_in, IsTableOfBlocks}
use Rattle.program_units.proofs.UnitsMet.{unit-there}
use Rattle.program_units.proofs.FirstPlaces.{place-next}
use Rattle.unit_checks.proofs.block_owners.block_owners.Goals as goal

pub loop-k-preserved : goal.loop-k-preserved
loop-k-preserved c = λ block.
    let us = c.args.us.now in
    let k = c.loop-k.k in
    let inside : k < length us = omega arith in
    let table = c.index-tables-k.result in
    let count = c.requires.count in
    let is : IsTableOfBlocks (unit_at us k) table = c.requires.each k table (slice_get_read c.args.tables.now (length c.args.tables.now) k table refl (omega (arith, count, inside)) c.index-tables-k.is) in
    let test : Option (List ℕ) → Bool = λ b. same_block b block in
    let marks : list_any test c.deref.result.now ≡ has_block (unit_at us k) block = ap (list_any test) (c.deref.ensures.value ∙ ap (λ (t : BlockTable). t.blocks.items) (sym c.index-tables-k.is)) ∙ is.kept.tested test in
    place-next (λ (u : List Labelled). has_block u block) us k (unit_at us k) (owner_in c.loop-k.owners block) (owner_in c.note_all.new.self block) inside (unit-there us k inside) (c.loop-k.invariant block)
    (c.in_ok-note_all.ensures block ∙ ap (λ (b : Bool). answer_or (owner_in c.loop-k.owners block) (unit_if b k)) marks)

pub returns : goal.returns
returns c =
    let us = c.args.us.now in
    let whole : take c.loop-k.k us ≡ us = take_all c.loop-k.k us (omega arith) in
    record { each = λ block. c.loop-k.invariant block ∙ ap (λ (vs : List (List Labelled)). block_owner vs block) whole }
