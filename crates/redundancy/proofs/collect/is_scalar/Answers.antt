use Rattle.std.proofs.Common.{◌∙◌, ap, sym}
use Rattle.redundancy.specs.Candidates.{is_scalar}
use Rattle.redundancy.proofs.Operands.{is_scalar-Read, empty_test}
use Rattle.redundancy.proofs.collect.is_scalar.Goals as goal

pub returns-in-Read : goal.returns-in-Read
returns-in-Read c =
    empty_test c.is_empty.result c.in-Read.access.subs c.is_empty.ensures ∙ sym (is_scalar-Read c.in-Read.access) ∙ ap is_scalar (sym c.in-Read.is)
