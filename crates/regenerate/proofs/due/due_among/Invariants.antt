use Rattle.std.proofs.Common.{◌≡◌, ◌&&◌, not, [], filter, fold, take}
use Rattle.redundancy.specs.Available.{available_at}
use Rattle.shared_forms.specs.Numbered.{added, number_of}
use Rattle.shared_forms.specs.Shared.{is_shared}
use Rattle.regenerate.proofs.due.due_among.Given as goal

abbrev pub invariant-loop-n : goal.invariant-loop-n
invariant-loop-n l = record {
  due : l.due.items ≡ fold added [] (filter (λ n. is_shared l.t.q.now l.t.a.now (number_of l.t.a.now) n && not (available_at l.t.a.now n l.node)) (take l.n-index l.numbers));
}
