use Rattle.list_laws.proofs.Members.{Contains-from_Member, Member-from_Contains}
use Rattle.list_laws.proofs.laws.members_are_contained.Goals as goal

pub returns-clause-at_a_place : goal.returns-clause-at_a_place
returns-clause-at_a_place c = λ xs x m. Contains-from_Member xs x m

pub returns-clause-members : goal.returns-clause-members
returns-clause-members c = λ xs x h. Member-from_Contains xs x h
