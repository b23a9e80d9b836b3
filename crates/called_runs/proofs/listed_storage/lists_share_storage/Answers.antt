use Rattle.called_runs.proofs.ListedStorage.{list-commons, list-groups, list-inits, merged-commons, merged-groups, merged-inits}
use Rattle.called_runs.proofs.listed_storage.lists_share_storage.Goals as goal

pub returns : goal.returns
returns c = record { commons = list-commons c.lists_declare.ensures.list; groups = list-groups c.lists_declare.ensures.list; inits = list-inits c.lists_declare.ensures.list; added_commons = merged-commons; added_groups = merged-groups; added_inits = merged-inits }
