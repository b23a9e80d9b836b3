use Rattle.std.proofs.Common.{◌≡◌, ℕ, ◌+◌, Bool, List, Option, Some, if◌then◌else◌, subst, ap, ◌∙◌}
use Rattle.std.specs.Option.{is_some}
use Rattle.indexmap.specs.IndexMap.{get, index_map_len}
use Rattle.program_units.specs.declared.entity.Entity.{Entity}
use Rattle.program_units.proofs.EntityKeys.{same-keys}
use Rattle.entity_names.proofs.unit_blocks.note_name.Goals as goal

pub returns-clause-sets : goal.returns-clause-sets
returns-clause-sets c = λ other.
    subst (λ (E : Entity → Entity → Bool). get E c.insert.new.self other ≡ (if E c.args.entity other then Some c.args.name else get E c.args.names.now other)) same-keys (c.in_ok-insert.ensures.updates.0 other)

pub returns-clause-more : goal.returns-clause-more
returns-clause-more c = λ none.
    c.in_ok-insert.ensures.len
    ∙ ap (λ (old : Option (List ℕ)). index_map_len c.args.names.now + (if is_some old then 0 else 1)) (c.in_ok-insert.ensures.old ∙ ap (λ (E : Entity → Entity → Bool). get E c.args.names.now c.args.entity) same-keys ∙ none)
