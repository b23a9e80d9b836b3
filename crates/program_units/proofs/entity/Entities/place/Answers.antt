use Rattle.std.proofs.Common.{◌≡◌, Bool, sym, ap, ◌∙◌, arith}
use Rattle.std.specs.List.{position}
use Rattle.symbol_table.proofs.NameEntries.{position-none, position-some}
use Rattle.program_units.specs.Entities.{Entity}
use Rattle.program_units.specs.Names.{same_entity}
use Rattle.program_units.proofs.EntityKeys.{same-keys}
use Rattle.program_units.proofs.Counting.{first-inside}
use Rattle.program_units.proofs.entity.Entities.place.Goals as goal

pub unreachable-requires : goal.unreachable-requires
unreachable-requires c =
    let test = same_entity c.args.entity.now in
    let own = c.args.self.now in
    let found : c.get_index_of.result ≡ position test own =
    c.get_index_of.ensures.index ∙ ap (λ (E : Entity → Entity → Bool). position (E c.args.entity.now) c.self.inside.set.keys) same-keys ∙ ap (position test) c.self.view_is in
    let inside = first-inside test own c.requires in
    let past = position-none test own (sym c.in-None.is ∙ found) in
    omega (arith, inside, past)

pub returns-clause-is : goal.returns-clause-is
returns-clause-is c =
    let test = same_entity c.args.entity.now in
    let own = c.args.self.now in
    let found : c.get_index_of.result ≡ position test own =
    c.get_index_of.ensures.index ∙ ap (λ (E : Entity → Entity → Bool). position (E c.args.entity.now) c.self.inside.set.keys) same-keys ∙ ap (position test) c.self.view_is in
    position-some test own c.in-Some.i (sym c.in-Some.is ∙ found)

pub returns-clause-inside : goal.returns-clause-inside
returns-clause-inside c =
    let test = same_entity c.args.entity.now in
    let own = c.args.self.now in
    let found : c.get_index_of.result ≡ position test own =
    c.get_index_of.ensures.index ∙ ap (λ (E : Entity → Entity → Bool). position (E c.args.entity.now) c.self.inside.set.keys) same-keys ∙ ap (position test) c.self.view_is in
    let inside = first-inside test own c.requires in
    let same = position-some test own c.in-Some.i (sym c.in-Some.is ∙ found) in
    omega (arith, inside, same)
