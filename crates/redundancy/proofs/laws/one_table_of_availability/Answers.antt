use Rattle.std.proofs.Common.{sym, subst}
use Rattle.alias_classes.specs.Classes.{ClassTable}
use Rattle.redundancy.specs.Available.{IsAvailability}
use Rattle.redundancy.proofs.Orders.{same_tables}
use Rattle.redundancy.proofs.laws.one_table_of_availability.Goals as goal

pub returns : goal.returns
returns c = λ p f t other a b is also are told.
    same_tables p f t a b are (subst (λ (x : ClassTable). IsAvailability p f x b) (sym (c.one_numbering.ensures p t other is also)) told)
