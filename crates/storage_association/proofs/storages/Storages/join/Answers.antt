use Rattle.std.proofs.Common.{◌≡◌, ◌+ℤ◌, sym, ap, subst, ◌∙◌, refl, rules, w64, to_z, of_z, FitsSigned}
use mir.Val.{SFits}
use Rattle.std.proofs.lemmas.Int.{to_z-of_z}
use Rattle.std.proofs.lemmas.List.{get_or_read}
use Rattle.f77_tree.specs.Places.{Equation}
use Rattle.storage_association.specs.declared.storages.Part.{Part}
use Rattle.layout_rules.specs.Storage.{spots_by}
use Rattle.storage_association.specs.Storages.{part_at, no_part}
use Rattle.storage_association.proofs.Joining.{as-passed, plain-sum}
use Rattle.storage_association.proofs.Held.{held-unkept, held-kept, held-joined, held-refused, held-wrong, low-fits, start-fits, child-in, answer-is}
use Rattle.storage_association.proofs.storages.Storages.join.Goals as goal

pub moved-under-requires-clause-low : goal.moved-under-requires-clause-low
moved-under-requires-clause-low c =
    let some = c.requires.some in
    let e : Equation = record { from = c.args.from; to = c.args.to; distance = c.args.distance } in
    let joined = as-passed c.ranges.distance (c.in-Hung.ensures (spots_by some.count some.all) some.held.forest) in
    let parts = c.args.self.now.parts.items in
    let here : c.index.result.now ≡ part_at parts c.in-Hung.child = get_or_read parts c.in-Hung.child c.index.result.now (child-in some.held e c.requires.first c.requires.second c.in-Hung.child c.in-Hung.root c.in-Hung.offset joined) c.index.ensures no_part in
    plain-sum c.index.result.now.low c.in-Hung.offset (search rules) (subst (λ (p : Part). FitsSigned w64 (p.low +ℤ c.in-Hung.offset)) (sym here) (low-fits some.held e c.requires.first c.requires.second c.in-Hung.child c.in-Hung.root c.in-Hung.offset joined c.if-self.true))

pub moved-under-requires-clause-start : goal.moved-under-requires-clause-start
moved-under-requires-clause-start c = λ x is.
    let some = c.requires.some in
    let e : Equation = record { from = c.args.from; to = c.args.to; distance = c.args.distance } in
    let joined = as-passed c.ranges.distance (c.in-Hung.ensures (spots_by some.count some.all) some.held.forest) in
    let parts = c.args.self.now.parts.items in
    let here : c.index.result.now ≡ part_at parts c.in-Hung.child = get_or_read parts c.in-Hung.child c.index.result.now (child-in some.held e c.requires.first c.requires.second c.in-Hung.child c.in-Hung.root c.in-Hung.offset joined) c.index.ensures no_part in
    plain-sum x c.in-Hung.offset (search rules) (start-fits some.held e c.requires.first c.requires.second c.in-Hung.child c.in-Hung.root c.in-Hung.offset joined c.if-self.true x (sym (ap (λ (p : Part). p.start) here) ∙ is))

pub returns-then-there-distance : goal.returns-then-there-distance
returns-then-there-distance c = λ count firsts all held.
    let e : Equation = record { from = c.args.from; to = c.args.to; distance = c.args.distance } in
    let joined = as-passed c.ranges.distance (c.in-Same.ensures (spots_by count all) held.forest) in
    held-unkept held e c.requires.first c.requires.second _ c.in-Same.there joined refl refl (λ h. c.if-there-distance.true (ap (of_z w64) h))

pub returns-else-there-distance : goal.returns-else-there-distance
returns-else-there-distance c = λ count firsts all held.
    let e : Equation = record { from = c.args.from; to = c.args.to; distance = c.args.distance } in
    let joined = as-passed c.ranges.distance (c.in-Same.ensures (spots_by count all) held.forest) in
    let there : SFits w64 c.in-Same.there = search rules in
    held-kept held e c.requires.first c.requires.second _ c.in-Same.there joined refl refl (sym (to_z-of_z w64 c.in-Same.there there) ∙ ap (to_z w64) c.if-there-distance.false ∙ to_z-of_z w64 c.args.distance c.ranges.distance)

pub returns-else-self : goal.returns-else-self
returns-else-self c = λ count firsts all held.
    let e : Equation = record { from = c.args.from; to = c.args.to; distance = c.args.distance } in
    let joined = as-passed c.ranges.distance (c.in-Hung.ensures (spots_by count all) held.forest) in
    held-wrong held e c.requires.first c.requires.second c.in-Hung.child c.in-Hung.root c.in-Hung.offset joined _ refl c.if-self.false refl refl

pub returns-in-None : goal.returns-in-None
returns-in-None c = λ count firsts all held.
    let e : Equation = record { from = c.args.from; to = c.args.to; distance = c.args.distance } in
    let joined = as-passed c.ranges.distance (c.in-Hung.ensures (spots_by count all) held.forest) in
    let answer = answer-is held e c.requires.first c.requires.second c.in-Hung.child c.in-Hung.root c.in-Hung.offset joined c.index.ensures c.index-then-self.ensures c.moved-under.ensures c.joined.ensures (search rules) in
    held-refused held e c.requires.first c.requires.second c.in-Hung.child c.in-Hung.root c.in-Hung.offset joined _ refl c.if-self.true (answer ∙ c.in-None.is) refl refl

pub returns-in-Some : goal.returns-in-Some
returns-in-Some c = λ count firsts all held.
    let e : Equation = record { from = c.args.from; to = c.args.to; distance = c.args.distance } in
    let joined = as-passed c.ranges.distance (c.in-Hung.ensures (spots_by count all) held.forest) in
    let answer = answer-is held e c.requires.first c.requires.second c.in-Hung.child c.in-Hung.root c.in-Hung.offset joined c.index.ensures c.index-then-self.ensures c.moved-under.ensures c.joined.ensures (search rules) in
    held-joined held e c.requires.first c.requires.second c.in-Hung.child c.in-Hung.root c.in-Hung.offset joined _ refl c.if-self.true c.in-Some.part (answer ∙ c.in-Some.is) refl refl
