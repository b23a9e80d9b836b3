use Rattle.std.proofs.Common.{◌≡◌, length}
use Rattle.std.specs.Prelude.{flat_map, slice_get}
use Rattle.std.specs.List.{range_with_len}
use Rattle.layout_rules.specs.Executables.{first_of, executables_if_any}
use Rattle.executable_lists.proofs.executables.all.Given as goal

abbrev pub invariant-loop-place : goal.invariant-loop-place
invariant-loop-place l =
    let names = l.maker.names.now in
    let checked = l.maker.checked in
    let whole = l.maker.stmts.now in
    record {
      index : length l.execs ≡ first_of whole l.place;
      execs : l.execs ≡ flat_map (λ place. executables_if_any names checked whole place (slice_get whole place)) (range_with_len 0 l.place);
    }
