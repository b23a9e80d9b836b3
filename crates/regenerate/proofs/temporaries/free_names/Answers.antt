use Rattle.std.proofs.Common.{sym}
use Rattle.shared_forms.proofs.TemporaryLemmas.{last_number-is}
use Rattle.regenerate.proofs.temporaries.free_names.Goals as goal

pub first_free_names-requires : goal.first_free_names-requires
first_free_names-requires c = sym last_number-is
