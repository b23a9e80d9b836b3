use Rattle.std.proofs.Common.{◌≡◌, take, fold, map}
use Rattle.declared_names.specs.Noting.{noted}
use Rattle.declared_names.proofs.appearances.Appeared.note_members.Given as goal

abbrev pub invariant-loop-member : goal.invariant-loop-member
invariant-loop-member l = l.self ≡ fold (noted l.declared) l.initial.self (map (λ member. member.name) (take l.member-index l.members))
