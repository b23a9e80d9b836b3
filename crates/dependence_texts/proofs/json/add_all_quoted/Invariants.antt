use Rattle.std.proofs.Common.{◌≡◌, ◌++◌, codes, drop, flat_map}
use Rattle.dependence_texts.specs.Json.{quoted}
use Rattle.dependence_texts.proofs.json.add_all_quoted.Given as goal

abbrev pub invariant-loop-name : goal.invariant-loop-name
invariant-loop-name l = l.text.items ++ flat_map (λ n. codes "," ++ quoted n) (drop l.name-index l.others) ≡ l.initial.text.items ++ flat_map (λ n. codes "," ++ quoted n) l.others
