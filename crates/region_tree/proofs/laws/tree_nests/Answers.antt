use Rattle.region_tree.specs.Tree.{entry_of, exit_of}
use Rattle.region_tree.proofs.Within.{one_number, one_region}
use Rattle.region_tree.proofs.laws.tree_nests.Goals as goal

pub returns-clause-apart : goal.returns-clause-apart
returns-clause-apart c = λ g t q r flow s number other apart.
    let f = c.region_facts.ensures g flow in
    f.nest (entry_of t q) (exit_of t q) (entry_of t r) (exit_of t r) (s.regions.sound q number) (s.regions.sound r other) (λ same. apart (one_number g f t s.regions q r number other same))

pub returns-clause-one_way : goal.returns-clause-one_way
returns-clause-one_way c = λ g t q r flow s number other part back. one_region g (c.region_facts.ensures g flow) t s.regions q r number other part back
