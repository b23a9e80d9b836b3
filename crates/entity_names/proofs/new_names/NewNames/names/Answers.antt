use Rattle.entity_names.proofs.KeptNames.{kept-at}
use Rattle.entity_names.proofs.new_names.NewNames.names.Goals as goal

pub returns : goal.returns
returns c =
    let text = c.args.self.now.text.now in
    let kept = c.index.result.now in
    (kept-at text.us.now text.kept.items c.args.k kept text.all_kept c.requires c.index.ensures).names
