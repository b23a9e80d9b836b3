use Rattle.std.proofs.Common.{ap, arith}
use Rattle.alias_classes.specs.Classes.{class_count}
use Rattle.operation_tables.proofs.plan.few_lines.Goals as goal

pub returns : goal.returns
returns g c = omega (arith, c.requires.parts.parts.own_routing.count, ap class_count c.requires.parts.own_classes, c.few_classes.ensures, c.requires.width.few)
