use Rattle.std.proofs.Common.{◌∙◌, ap, sym}
use Rattle.std.specs.Prelude.{bytes_eq}
use Rattle.std.specs.List.{list_any}
use Rattle.layout_rules.proofs.FlatParts.{list_any-map}
use Rattle.declared_names.proofs.appearing_names.AppearingNames.has.Goals as goal

pub returns : goal.returns
returns c =
    c.has.ensures ∙ sym (list_any-map (bytes_eq c.args.name.now) (λ info. info.name) c.self.inside.seen.names) ∙ ap (list_any (bytes_eq c.args.name.now)) c.self.view_is
