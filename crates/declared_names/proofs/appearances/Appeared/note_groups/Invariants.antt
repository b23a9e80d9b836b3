use Rattle.std.proofs.Common.{◌≡◌, take, fold, map, flat_map}
use Rattle.declared_names.specs.Noting.{noted}
use Rattle.declared_names.proofs.appearances.Appeared.note_groups.Given as goal

abbrev pub invariant-loop-group : goal.invariant-loop-group
invariant-loop-group l = l.self ≡ fold (noted l.declared) l.initial.self (flat_map (λ group. map (λ member. member.name) group) (take l.group-index l.groups))
