use Rattle.std.proofs.Common.{◌≡◌, Some, rules, sym, ap, ◌∙◌}
use Rattle.f77_tree.specs.declared.declarations.Kind.TheVariants.{Logical}
use Rattle.f77_tree.specs.Kinds.{taken_as}
use Rattle.f77_tree.specs.Operations.{operations}
use Rattle.layout_rules.specs.Executables.{kind_or_integer}
use Rattle.control_structure.proofs.OwnExecutables.{taken_logical}
use Rattle.executable_lists.proofs.counts.operations_of_taken.Goals as goal

pub returns-in-Some-Logical : goal.returns-in-Some-Logical
returns-in-Some-Logical c =
    let is : c.args.kind ≡ Some Logical = search rules in
    taken_logical ∙ ap (λ k. operations (taken_as (kind_or_integer k))) (sym is)
