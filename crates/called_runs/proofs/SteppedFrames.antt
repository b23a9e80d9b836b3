-- A step of a frame, and one of the program, where their executables are copies.
use Rattle.std.proofs.Common.{◌≡◌, ℕ, ◌⊎◌, inl, inr, ℤ, Bool, List, ◌++◌, Contains, Option, Some, slice_get, refl, sym, ap, ◌∙◌, arith}
use Rattle.std.specs.Prelude.{slice_index}
use Rattle.std.proofs.lemmas.Option.{unwrap_or-slice_get}
use Rattle.std.specs.Prelude.{pos, unwrap_or}
use Rattle.op_table.specs.declared.Trap.{Trap}
use Rattle.f77_tree.specs.declared.programs.Exec.{Exec}
use Rattle.f77_tree.specs.declared.programs.ExecKind.{ExecKind}
use Rattle.f77_tree.specs.declared.programs.ExecKind.TheVariants.{DoNext}
use Rattle.f77_tree.specs.declared.programs.NameInfo.{NameInfo}
use Rattle.f77_tree.specs.declared.programs.Program.{Program}
use Rattle.f77_tree.specs.declared.statements.Labelled.{Labelled}
use Rattle.f77_tree.specs.Control.{successors}
use Rattle.f77_tree.specs.Execution.{Memory, Outcome, Goes, Stops, Ends, outcome}
use Rattle.f77_tree.specs.Loops.{InRange}
use Rattle.f77_tree.specs.Run.{Running, Ended, Trapped, State, after as program_after}
use Rattle.f77_tree.specs.Steps.{IfGoes, IsMemoryOf, KeepsRest}
use Rattle.f77_tree.specs.Touched.{SetsCount, SetsStep}
use Rattle.f77_tree.proofs.Keeping.{outcome-keeps}
use Rattle.f77_tree.proofs.Outcomes.{outcome-successor}
use Rattle.f77_tree.proofs.RunInvariants.{goes-memory}
use Rattle.program_units.specs.declared.entity.Entity.{Entity}
use Rattle.program_units.specs.Calls.{CallState, after}
use Rattle.program_units.specs.Contexts.{IsReached}
use Rattle.program_units.specs.Copies.{Context, changes}
use Rattle.program_units.specs.Expansion.{whole_list}
use Rattle.program_units.specs.Layouts.{own_program}
use Rattle.program_units.specs.Units.{unit_at}
use Rattle.copied_values.specs.SideBySide.{AreSideBySide, GoAlike}
use Rattle.called_runs.specs.CopiedPositions.{AreCopiedLoops}
use Rattle.called_runs.specs.FramesInStep.{AreInStep, AreLive, IsInside, frame_in, innermost}
use Rattle.called_runs.proofs.FramesBeside.{Beside}
use Rattle.called_runs.proofs.AlikeRuns.{StopAlike}
use Rattle.called_runs.proofs.CopiedOutcomes.{Held}
use Rattle.called_runs.proofs.LiveLoops.{entered-by, increment-held}
use Rattle.called_runs.proofs.RunGrounds.{AreRunGrounds, IsGrounded, table_of}
use Rattle.called_runs.proofs.WaitingFrames.{LoopsKept, wait-kept, wait-reached}

-- the number of a DO that an executable sets
abbrev pub SetsLoop : ExecKind → ℕ → Type 0
SetsLoop kind j = SetsCount kind j ⊎ SetsStep kind j

index-kept : (xs ys : List ℕ) (k : ℕ) → slice_get xs k ≡ slice_get ys k → slice_index xs k ≡ slice_index ys k
index-kept xs ys k same = sym (unwrap_or-slice_get xs k 0) ∙ ap (λ (o : Option ℕ). unwrap_or o 0) same ∙ unwrap_or-slice_get ys k 0

module _ (us : List (List Labelled)) (checked : Bool) (spot : Entity → ℕ) (input opening : List ℤ) (p : Program) (words : ℕ) (Paired : ℕ → ℕ → Type 0) (g : AreRunGrounds us checked spot p words Paired) where
  abbrev list : List Labelled
  list = whole_list us

  abbrev pub InStep : CallState → State → Type 0
  InStep = AreInStep us checked p input words Paired

  abbrev pub Stopped : CallState → State → Type 0
  Stopped = StopAlike us checked spot input opening p innermost Paired InStep

  abbrev pub memory : CallState → (counts : List ℕ) → (steps : List ℤ) → Memory
  memory x counts steps = record { store = x.store; counts = counts; steps = steps; taken = x.taken }

  module _ (c : Context) (at : ℕ → ℕ) where
    abbrev table : List NameInfo
    table = table_of us checked spot c

    abbrev Loops : ℕ → ℕ → Type 0
    Loops = AreCopiedLoops us list c at

    abbrev Live : ℕ → ℕ → ℕ → Type 0
    Live position = AreLive us checked c at position

    abbrev own : Program
    own = own_program (unit_at us c.unit) checked

    -- the unit's program over the storage
    abbrev stored : Program
    stored = record own { names = table; words = words }

    module _ (M N : ℕ → ℕ → Type 0) (x : CallState) (y : State) (b : Beside us checked p input words Paired c at M x y) where
      reached : IsReached us c at
      reached = wait-reached us checked y.memory c at b.rest b.waits

      abbrev m : Memory
      m = memory x b.counts b.steps

      grounds : IsGrounded us checked spot p words Paired c at
      grounds = g.contexts c at reached

      -- both are side by side
      pub side : AreSideBySide Paired (Live b.position) Loops table p.names (changes us c) m y.memory
      side = record {
        tables = grounds.tables;
        words = words;
        placed = grounds.placed;
        other_words = p.words;
        other_placed = g.placed;
        words_paired = g.words_paired;
        loops_paired = grounds.loops_paired;
        of_loops = λ i j live. live.loops;
        room = record {
          words = λ v w pair. let both = g.inside v w pair in let r = b.room in let s = b.other_room.words in let i_in = both.0 in let j_in = both.1 in (omega (arith, i_in, r), omega (arith, j_in, s));
          counts = λ i j loop. let both = grounds.loops_numbered i j loop in let r = b.counted.room in let s = b.other_room.counts in let i_in = both.0 in let j_in = both.1 in (omega (arith, i_in, r), omega (arith, j_in, s));
          steps = λ i j loop. let both = grounds.loops_numbered i j loop in let r = b.counted.step_room in let s = b.other_room.steps in let i_in = both.0 in let j_in = both.1 in (omega (arith, i_in, r), omega (arith, j_in, s));
        };
        alike = record { store = b.store; counts = b.counted.same; steps = b.counted.same_steps; taken = b.taken };
      }

      own-room : IsMemoryOf stored input m
      own-room = record { words = b.room; counts = b.counted.room; steps = b.counted.step_room; taken = let t = b.taken in let s = b.other_room.taken in omega (arith, t, s) }

      -- a DO that an executable increments is live
      pub live : (e : Exec) → slice_get own.execs b.position ≡ Some e → (i j variable body exit : ℕ) → e.kind ≡ DoNext i variable body exit → Loops i j → Live b.position i j
      live e found i j variable body exit is loop = record { loops = loop; held = increment-held own.execs own.loops grounds.loops b.position i variable body exit e found is }

      module _ (e e' : Exec) (found : slice_get own.execs b.position ≡ Some e) (line : e'.line ≡ e.line)
          (own_loop : (j : ℕ) → SetsLoop e'.kind j → (k : ℕ) × Loops k j) where
        -- the counts of frames that wait don't change
        loops-kept : (new : Memory) → KeepsRest p.names input e'.kind y.memory new → (d : Context) (there : ℕ → ℕ) → IsReached us d there → IsInside us d there c at → LoopsKept us checked y.memory new d there
        loops-kept new keeps d there reach inner = record {
          counts = λ i j loop. index-kept y.memory.counts new.counts j (sym (keeps.counts j (λ sets. let mine = own_loop j (inl sets) in g.apart d c there at i j mine.0 reach inner loop mine.1)));
          steps = λ i j loop. ap (λ (o : Option ℤ). unwrap_or o (pos 0)) (sym (keeps.steps j (λ sets. let mine = own_loop j (inr sets) in g.apart d c there at i j mine.0 reach inner loop mine.1)));
        }

        held : (next i j : ℕ) → Contains (successors e.kind) next → Live next i j → Held e.kind (Live b.position) Loops i j
        held next i j leads l = by (entered-by own.execs own.loops grounds.loops b.position next i e found leads (grounds.loops_numbered i j l.loops).0 l.held)
          where
            by : InRange own.execs i b.position ⊎ SetsStep e.kind i → Held e.kind (Live b.position) Loops i j
            by (inl range) = inl (record { loops = l.loops; held = range })
            by (inr sets) = inr (sets, l.loops)

        abbrev Come : Outcome → Outcome → Type 0
        Come o o' = Beside us checked p input words Paired c at N (after us checked spot input x (frame_in c b.position b.counts b.steps) b.rest e.line o) (program_after y e'.line o') ⊎ Stopped (after us checked spot input x (frame_in c b.position b.counts b.steps) b.rest e.line o) (program_after y e'.line o')

        by-outcomes : (o o' : Outcome) → GoAlike Paired (Held e.kind (Live b.position) Loops) N o o' → IfGoes o (λ next new text. Contains (successors e.kind) next) → IfGoes o (λ next new text. IsMemoryOf stored input new) → IfGoes o' (λ next new text. IsMemoryOf p input new) → IfGoes o' (λ next new text. KeepsRest p.names input e'.kind y.memory new) → Come o o'
        by-outcomes (Goes next new text) (Goes next' new' text') go leads mine theirs keeps = inl (record {
          going = b.going;
          other_going = b.other_going;
          position = next;
          counts = new.counts;
          steps = new.steps;
          rest = b.rest;
          frames = refl;
          follows = go.0;
          counted = record {
            room = mine.counts;
            step_room = mine.steps;
            same = λ i j l. go.2.counts i j (held next i j leads l);
            same_steps = λ i j l. go.2.steps i j (held next i j leads l);
          };
          waits = wait-kept us checked y.memory new' c at b.rest (loops-kept new' keeps) b.waits;
          room = mine.words;
          other_room = theirs;
          store = go.2.store;
          taken = go.2.taken;
          out = ap (λ (xs : List ℕ). xs ++ text) b.out ∙ ap (λ (xs : List ℕ). y.out ++ xs) go.1;
        })
        by-outcomes (Goes next new text) (Stops trap) go leads mine theirs keeps = absurd go
        by-outcomes (Goes next new text) Ends go leads mine theirs keeps = absurd go
        by-outcomes (Stops trap) (Goes next new text) go leads mine theirs keeps = absurd go
        by-outcomes (Stops trap) Ends go leads mine theirs keeps = absurd go
        by-outcomes Ends (Goes next new text) go leads mine theirs keeps = absurd go
        by-outcomes Ends (Stops trap) go leads mine theirs keeps = absurd go
        by-outcomes (Stops trap) (Stops trap') go leads mine theirs keeps = inr (record { stopped = λ h. let no : Trapped trap e.line ≡ Running = h in cc; marks = ap (λ (t : Trap). Trapped t e.line) go ∙ ap (λ (n : ℕ). Trapped trap' n) (sym line); outs = b.out; store = b.store })
        by-outcomes Ends Ends go leads mine theirs keeps = inr (record { stopped = λ h. let no : Ended ≡ Running = h in cc; marks = refl; outs = b.out; store = b.store })

        -- what both come to
        pub come : GoAlike Paired (Held e.kind (Live b.position) Loops) N (outcome table input m e.kind) (outcome p.names input y.memory e'.kind) → Come (outcome table input m e.kind) (outcome p.names input y.memory e'.kind)
        come go =
            by-outcomes (outcome table input m e.kind) (outcome p.names input y.memory e'.kind) go (outcome-successor table input m e.kind) (goes-memory stored input m e.kind own-room) (goes-memory p input y.memory e'.kind b.other_room) (outcome-keeps p.names input y.memory e'.kind)
