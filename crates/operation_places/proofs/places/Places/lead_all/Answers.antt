use Rattle.std.proofs.Common.{◌≡◌, true, false, rules}
use Rattle.operation_places.proofs.places.Places.lead_all.Goals as goal

pub returns-then-len-gt0-clause-counted : goal.returns-then-len-gt0-clause-counted
returns-then-len-gt0-clause-counted c = λ x were. record {
  counts = λ (on : false ≡ true). absurd cc;
  marks = λ (on : false ≡ true). absurd cc;
  none = λ off. search rules;
  leads = were.leads;
}
