use Rattle.std.proofs.Common.{ℕ, ◌<◌, ◌∙◌, List, length, ap, subst, sym}
use Rattle.std.specs.Prelude.{slice_get}
use Rattle.declared_names.proofs.Describing.{name-at}
use Rattle.declared_names.proofs.appearing_names.AppearingNames.name.Goals as goal

pub returns : goal.returns
returns c =
    ap (λ (names : List (List ℕ)). slice_get names c.args.k) (sym c.self.view_is)
    ∙ name-at c.self.inside.seen.names c.args.k c.name.result.now (subst (λ (names : List (List ℕ)). c.args.k < length names) (sym c.self.view_is) c.requires) c.name.ensures
