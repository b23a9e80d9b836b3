-- Pairs of names, one after another.
use Rattle.std.proofs.Common.{◌≡◌, ℕ, ◌+◌, ◌<◌, ◌≤◌, List, ◌∷◌, None, drop, get_or, length}
use Rattle.std.specs.declared.alloc.Global.{Global}
use Rattle.std.specs.declared.string.String.{String}
use Rattle.std.proofs.lemmas.List.{at_drop_all, at_drop_more}
use Rattle.source_maps.specs.Places.{long_in}

-- the pairs from a place on begin with the one there
pub pair_step : (names : List (String Global × String Global)) (i : ℕ) (d : String Global × String Global) (name : List ℕ) → i < length names → long_in (drop i names) name ≡ long_in (get_or names i d ∷ drop (i + 1) names) name
pair_step names i d name more = at_drop_more (λ rest. long_in rest name) names i d more

pub pairs_end : (names : List (String Global × String Global)) (i : ℕ) (name : List ℕ) → length names ≤ i → long_in (drop i names) name ≡ None
pairs_end names i name past = at_drop_all (λ rest. long_in rest name) names i past
