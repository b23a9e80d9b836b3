-- Frames that wait: their contexts are reached, and what doesn't change their counts leaves them as they are.
use Rattle.std.proofs.Common.{◌≡◌, ℕ, ℤ, Bool, List, [], ◌∷◌, ◌∙◌}
use Rattle.std.specs.Prelude.{slice_index}
use Rattle.f77_tree.specs.declared.statements.Labelled.{Labelled}
use Rattle.f77_tree.specs.Execution.{Memory}
use Rattle.f77_tree.specs.Value.{word_at}
use Rattle.layout_rules.specs.Executables.{beyond}
use Rattle.program_units.specs.Calls.{Frame}
use Rattle.program_units.specs.Contexts.{IsReached, called, main}
use Rattle.program_units.specs.Copies.{Context}
use Rattle.program_units.specs.Expansion.{whole_list}
use Rattle.program_units.specs.Units.{unit_at}
use Rattle.called_runs.specs.CopiedPositions.{AreCopiedLoops}
use Rattle.called_runs.specs.FramesInStep.{CountAlike, IsInside, Wait, behind, directly, further, inside, inside_at, nobody}

module _ (us : List (List Labelled)) (checked : Bool) where
  pub wait-reached : (m : Memory) (c : Context) (at : ℕ → ℕ) (rest : List Frame) → Wait us checked m c at rest → IsReached us c at
  wait-reached m _ _ [] nobody = main
  wait-reached m _ _ (f ∷ rest) (behind {c} {at} place s call counts steps is calls counted outer) = called place s call (wait-reached m c at rest outer) is calls

  -- the counts and steps of a context's DOs are the same in two memories
  pub record LoopsKept (m n : Memory) (c : Context) (at : ℕ → ℕ) : Type 0 where
    pub counts : (i j : ℕ) → AreCopiedLoops us (whole_list us) c at i j → slice_index m.counts j ≡ slice_index n.counts j
    pub steps : (i j : ℕ) → AreCopiedLoops us (whole_list us) c at i j → word_at m.steps j ≡ word_at n.steps j

  pub count-kept : (m n : Memory) (c : Context) (at : ℕ → ℕ) (position : ℕ) (counts : List ℕ) (steps : List ℤ) → LoopsKept m n c at → CountAlike us checked c at position counts steps m → CountAlike us checked c at position counts steps n
  count-kept m n c at position counts steps kept counted = record {
    room = counted.room;
    step_room = counted.step_room;
    same = λ i j live. counted.same i j live ∙ kept.counts i j live.loops;
    same_steps = λ i j live. counted.same_steps i j live ∙ kept.steps i j live.loops;
  }

  wait-inside : (m n : Memory) (c : Context) (at : ℕ → ℕ) (rest : List Frame) (d : Context) (there : ℕ → ℕ) → ((e : Context) (where' : ℕ → ℕ) → IsReached us e where' → IsInside us e where' d there → LoopsKept m n e where') → IsInside us c at d there → Wait us checked m c at rest → Wait us checked n c at rest
  wait-inside m n _ _ [] d there kept inner nobody = nobody
  wait-inside m n _ _ (f ∷ rest) d there kept inner (behind {c} {at} place s call counts steps is calls counted outer) =
      let more : IsInside us c at d there = further place s call is calls inner in
      behind place s call counts steps is calls (count-kept m n c at (beyond (unit_at us c.unit) place s) counts steps (kept c at (wait-reached m c at rest outer) more) counted) (wait-inside m n c at rest d there kept more outer)

  -- the frames that wait while one of a context runs
  pub wait-kept : (m n : Memory) (c : Context) (at : ℕ → ℕ) (rest : List Frame) → ((e : Context) (where' : ℕ → ℕ) → IsReached us e where' → IsInside us e where' c at → LoopsKept m n e where') → Wait us checked m c at rest → Wait us checked n c at rest
  wait-kept m n _ _ [] kept nobody = nobody
  wait-kept m n _ _ (f ∷ rest) kept (behind {c} {at} place s call counts steps is calls counted outer) =
      let more : IsInside us c at (inside us c place call) (inside_at us c at place s call) = directly place s call is calls in
      behind place s call counts steps is calls (count-kept m n c at (beyond (unit_at us c.unit) place s) counts steps (kept c at (wait-reached m c at rest outer) more) counted) (wait-inside m n c at rest _ _ kept more outer)
