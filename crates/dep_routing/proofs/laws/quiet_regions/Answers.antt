use Rattle.dep_routing.proofs.Quietness.{quiet_or_touched, quiet_innermost, innermost_quiet}
use Rattle.dep_routing.proofs.laws.quiet_regions.Goals as goal

pub returns-clause-either : goal.returns-clause-either
returns-clause-either c = λ g t touches line r flow s number. quiet_or_touched g t (c.tree_facts.ensures g t flow s) touches line r number

pub returns-clause-within : goal.returns-clause-within
returns-clause-within c = λ g t touches line q r quiet number part. record { number = number; untouched = λ node inside. quiet.untouched node (part node inside) }

pub returns-clause-innermost : goal.returns-clause-innermost
returns-clause-innermost c = λ g t touches line node flow s exists.
    let f = c.tree_facts.ensures g t flow s in
    (quiet_innermost g t f touches line node exists, innermost_quiet g t f touches line node exists)
