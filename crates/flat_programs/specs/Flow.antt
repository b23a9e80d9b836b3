-- What is looked up of the statements of a flat program.
use Rattle.std.specs.Prelude.{◌≡◌, ℕ, ◌+◌, ◌<◌, ◌^◌, List, length, slice_index}
use Rattle.flat_programs.specs.declared.flow.Flow.{Flow}
use Rattle.flat_programs.specs.declared.statements.FlatLine.{FlatLine}
use Rattle.flat_programs.specs.Marks.{mark_at, mark_count, mark_places, loop_at, loop_to}
use Rattle.flat_programs.specs.Executables.{first_of}

-- the first n values of a function
pub record IsTable (f : ℕ → ℕ) (n : ℕ) (table : List ℕ) : Type 0 where
  pub size : length table ≡ n
  pub entry : (k : ℕ) → k < n → slice_index table k ≡ f k

pub record IsFlow (flat : List FlatLine) (flow : Flow) : Type 0 where
  pub marks : flow.marks.items ≡ mark_places flat
  pub numbers : IsTable (mark_at flat) (length flat + 1) flow.numbers.items
  pub loops : IsTable (loop_at flat) (length flat + 1) flow.loops.items
  pub ends : IsTable (loop_to flat) (mark_count flat + 2) flow.ends.items
  pub first : IsTable (first_of flat) (length flat + 1) flow.first.items
  pub short : length flat < 2 ^ 31
