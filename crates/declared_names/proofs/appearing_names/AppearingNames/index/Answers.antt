use Rattle.std.proofs.Common.{◌∙◌, ap}
use Rattle.std.specs.Prelude.{bytes_eq}
use Rattle.std.specs.List.{position_or_len}
use Rattle.declared_names.proofs.Describing.{index-names}
use Rattle.declared_names.proofs.appearing_names.AppearingNames.index.Goals as goal

pub returns : goal.returns
returns c =
    c.index.ensures ∙ index-names c.self.inside.seen.names c.args.name.now ∙ ap (position_or_len (bytes_eq c.args.name.now)) c.self.view_is
