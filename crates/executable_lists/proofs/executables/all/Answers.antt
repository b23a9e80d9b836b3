use Rattle.std.proofs.Common.{rules, ◌≡◌, ℕ, ◌+◌, ◌++◌, [], List, length, sym, ap, ◌∙◌}
use Rattle.std.specs.Prelude.{flat_map, slice_get}
use Rattle.std.specs.List.{range_with_len}
use Rattle.std.proofs.lemmas.List.{flat_map_more}
use Rattle.f77_tree.specs.declared.programs.Exec.{Exec}
use Rattle.layout_rules.specs.Executables.{first_of, executables_if_any}
use Rattle.control_structure.proofs.LoopTables.{range-more}
use Rattle.executable_lists.proofs.executables.all.Goals as goal

pub loop-place-preserved : goal.loop-place-preserved
loop-place-preserved c =
    let whole = c.args.maker.now.stmts.now in
    let names = c.args.maker.now.names.now in
    let checked = c.args.maker.now.checked in
    let place = c.loop-place.place in
    let f : ℕ → List Exec = λ p. executables_if_any names checked whole p (slice_get whole p) in
    let one : c.statement.new.execs ≡ c.loop-place.execs ++ f place = search rules in
    let index : length c.statement.new.execs ≡ first_of whole (place + 1) = search rules in
    record {
      index = index;
      execs = one ∙ ap (λ (xs : List Exec). xs ++ f place) c.loop-place.invariant.execs ∙ flat_map_more f [] (range_with_len 0 place) place ∙ ap (λ (ps : List ℕ). flat_map f ps) (sym (range-more place));
    }
