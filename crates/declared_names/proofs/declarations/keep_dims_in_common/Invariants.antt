use Rattle.std.proofs.Common.{◌≡◌, ℕ, List, take, flat_map}
use Rattle.std.specs.Prelude.{bytes_eq}
use Rattle.indexmap.specs.IndexMap.{get}
use Rattle.layout_rules.specs.Faults.{answer_or, first_answer}
use Rattle.layout_rules.specs.Declarations.{dims_told}
use Rattle.declared_names.proofs.declarations.keep_dims_in_common.Given as goal

abbrev pub invariant-loop-part : goal.invariant-loop-part
invariant-loop-part l = (name : List ℕ) → get bytes_eq l.dims name ≡ answer_or (get bytes_eq l.initial.dims name) (first_answer (dims_told name) (flat_map (λ part. part.decls) (take l.part-index l.parts)))
