use Rattle.std.proofs.Common.{◌≡◌, ◌++◌, codes, drop, flat_map}
use Rattle.dependence_texts.specs.Json.{dependence_json}
use Rattle.dependence_texts.proofs.json.add_all.Given as goal

abbrev pub invariant-loop-dependence : goal.invariant-loop-dependence
invariant-loop-dependence l =
    l.text.items ++ flat_map (λ d. codes ",\n " ++ dependence_json l.graph d) (drop l.dependence-index l.others)
    ≡ l.initial.text.items ++ flat_map (λ d. codes ",\n " ++ dependence_json l.graph d) l.others
