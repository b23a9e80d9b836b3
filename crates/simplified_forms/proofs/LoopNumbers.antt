-- The numbers of DOs, and where DOs begin and are incremented.
use Rattle.std.proofs.Common.{◌≡◌, ℕ, ◌<◌, List, length, Option, Some, None, refl, ap, ◌∙◌}
use Rattle.std.specs.Prelude.{slice_get}
use Rattle.std.proofs.lemmas.Option.{slice_get_within}
use Rattle.f77_tree.specs.declared.programs.Exec.{Exec}
use Rattle.f77_tree.specs.declared.programs.ExecKind.TheVariants.{DoNext}
use Rattle.f77_tree.specs.Loops.{Loop, begun_in, incremented, incremented_in, do_start, do_next, AreLoops}

module _ (execs : List Exec) (count : ℕ) (loops : AreLoops execs count) where
  pub next_number : (k : ℕ) (exec : Exec) (n var body exit : ℕ) → slice_get execs k ≡ Some exec → exec.kind ≡ DoNext n var body exit → n < count
  next_number k exec n var body exit found is =
      loops.nexts k (record { number = n; variable = var; body = body; exit = exit }) (ap incremented_in found ∙ ap incremented is)

  begun_within : (k : ℕ) (loop : Loop) (o : Option Exec) → slice_get execs k ≡ o → begun_in o ≡ Some loop → k < length execs
  begun_within k loop None found is = let no : None ≡ Some loop = is in absurd cc
  begun_within k loop (Some exec) found is = slice_get_within execs k exec found

  incremented_within : (k : ℕ) (loop : Loop) (o : Option Exec) → slice_get execs k ≡ o → incremented_in o ≡ Some loop → k < length execs
  incremented_within k loop None found is = let no : None ≡ Some loop = is in absurd cc
  incremented_within k loop (Some exec) found is = slice_get_within execs k exec found

  pub start_within : (n : ℕ) → n < count → do_start execs n < length execs
  start_within n less = let loop = loops.each n less in begun_within (do_start execs n) loop.loop (slice_get execs (do_start execs n)) refl loop.begins

  pub next_within : (n : ℕ) → n < count → do_next execs n < length execs
  next_within n less = let loop = loops.each n less in incremented_within (do_next execs n) loop.loop (slice_get execs (do_next execs n)) refl loop.increments
