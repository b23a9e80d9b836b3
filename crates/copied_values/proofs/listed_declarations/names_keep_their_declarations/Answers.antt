use Rattle.copied_values.proofs.ListedEntities.{listed-dims, listed-kinds}
use Rattle.copied_values.proofs.ListedNames.{main-dims, main-kinds}
use Rattle.copied_values.proofs.listed_declarations.names_keep_their_declarations.Goals as goal

pub returns : goal.returns
returns c = record { main_kinds = main-kinds; main_dims = main-dims; own_kinds = listed-kinds; own_dims = listed-dims }
