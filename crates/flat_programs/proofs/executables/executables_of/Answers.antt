use Rattle.std.proofs.Common.{◌≡◌, ℕ, ◌++◌, [], List, length, sym, ap, ◌∙◌, arith}
use Rattle.std.specs.Prelude.{flat_map}
use Rattle.std.specs.List.{range_with_len}
use Rattle.std.proofs.lemmas.List.{flat_map_more, length-append}
use Rattle.list_laws.proofs.Ranges.{range_more}
use Rattle.f77_tree.specs.declared.programs.Exec.{Exec}
use Rattle.flat_programs.specs.Executables.{executables_at}
use Rattle.flat_programs.proofs.FlowLemmas.{executables_at-most}
use Rattle.flat_programs.proofs.executables.executables_of.Goals as goal

pub loop-place-preserved : goal.loop-place-preserved
loop-place-preserved c =
    let flat = c.args.flat.now in
    let place = c.loop-place.place in
    let f : ℕ → List Exec = executables_at flat in
    let one : c.append_executables.new.execs ≡ c.loop-place.execs ++ f place = c.in_ok-append_executables.ensures in
    let size = ap length one ∙ length-append c.loop-place.execs (f place) in
    record {
      few = omega (arith, size, executables_at-most flat place, c.loop-place.invariant.few);
      execs = one ∙ ap (λ (xs : List Exec). xs ++ f place) c.loop-place.invariant.execs ∙ flat_map_more f [] (range_with_len 0 place) place ∙ ap (λ (ps : List ℕ). flat_map f ps) (sym (range_more place));
    }
