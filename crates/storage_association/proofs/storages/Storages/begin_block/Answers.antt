use Rattle.std.proofs.Common.{◌≡◌, ◌<◌, ℤ, length, Some, None, sym, ap, ◌∙◌, refl, arith, rules, w64}
use mir.Val.{SFits}
use Rattle.std.proofs.lemmas.Int.{to_z-of_z}
use Rattle.std.proofs.lemmas.List.{get_or_read}
use Rattle.storage_association.specs.declared.storages.Part.{Part}
use Rattle.layout_rules.specs.Storage.{spots_by}
use Rattle.storage_association.specs.Storages.{joined_part, part_at, no_part}
use Rattle.storage_association.proofs.Begun.{begun-wrong, begun-refused, begun-right}
use Rattle.storage_association.proofs.storages.Storages.begin_block.Goals as goal

pub returns-else-self : goal.returns-else-self
returns-else-self c = λ count firsts all held fresh.
    let s = c.args.self.now in
    let at = c.find-root.ensures (spots_by count all) held.forest in
    begun-wrong count firsts all s held c.args.name c.find-root.result.root c.find-root.result.distance (omega (arith, held.parts, c.requires.known)) at.known at.root at.below fresh _ refl refl c.if-self.false refl

pub returns-in-None : goal.returns-in-None
returns-in-None c = λ count firsts all held fresh.
    let s = c.args.self.now in
    let at = c.find-root.ensures (spots_by count all) held.forest in
    let d : SFits w64 c.find-root.result.distance = search rules in
    let in_parts : c.find-root.result.root < length s.parts.items = omega (arith, held.parts, held.names, at.known) in
    let here : c.index.result.now ≡ part_at s.parts.items c.find-root.result.root = get_or_read s.parts.items c.find-root.result.root c.index.result.now in_parts c.index.ensures no_part in
    let own = λ (z : ℤ). let p : Part = record { low = z; start = Some z } in p in
    let answer : joined_part (part_at s.parts.items c.find-root.result.root) (own c.find-root.result.distance) ≡ None = ap (λ p. joined_part p (own c.find-root.result.distance)) (sym here) ∙ ap (λ z. joined_part c.index.result.now (own z)) (sym (to_z-of_z w64 c.find-root.result.distance d)) ∙ sym c.joined.ensures ∙ c.in-None.is in
    begun-refused count firsts all s held c.args.name c.find-root.result.root c.find-root.result.distance (omega (arith, held.parts, c.requires.known)) at.known at.root at.below fresh _ refl refl c.if-self.true refl answer

pub returns-in-Some : goal.returns-in-Some
returns-in-Some c = λ count firsts all held fresh.
    let s = c.args.self.now in
    let at = c.find-root.ensures (spots_by count all) held.forest in
    let d : SFits w64 c.find-root.result.distance = search rules in
    let in_parts : c.find-root.result.root < length s.parts.items = omega (arith, held.parts, held.names, at.known) in
    let here : c.index.result.now ≡ part_at s.parts.items c.find-root.result.root = get_or_read s.parts.items c.find-root.result.root c.index.result.now in_parts c.index.ensures no_part in
    let own = λ (z : ℤ). let p : Part = record { low = z; start = Some z } in p in
    let answer : joined_part (part_at s.parts.items c.find-root.result.root) (own c.find-root.result.distance) ≡ Some c.in-Some.part = ap (λ p. joined_part p (own c.find-root.result.distance)) (sym here) ∙ ap (λ z. joined_part c.index.result.now (own z)) (sym (to_z-of_z w64 c.find-root.result.distance d)) ∙ sym c.joined.ensures ∙ c.in-Some.is in
    begun-right count firsts all s held c.args.name c.find-root.result.root c.find-root.result.distance (omega (arith, held.parts, c.requires.known)) at.known at.root at.below fresh _ refl c.if-self.true refl c.in-Some.part refl answer
