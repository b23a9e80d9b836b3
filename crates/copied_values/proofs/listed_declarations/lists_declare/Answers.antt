use Rattle.copied_values.proofs.ListedDeclarations.{list-declares, main-declares, subs-behind}
use Rattle.copied_values.proofs.listed_declarations.lists_declare.Goals as goal

pub returns : goal.returns
returns c = record { subs = subs-behind; list = list-declares; main = main-declares }
