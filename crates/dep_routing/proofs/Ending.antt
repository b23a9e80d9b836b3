-- A pass that ends the run is that of the end.
use Rattle.std.proofs.Common.{◌≡◌, ◌≢◌, ℕ, ◌+◌, ℤ, pos, Bool, true, false, cond, if◌then◌else◌, List, length, Result, Ok, Err, refl, sym, ◌∙◌}
use Rattle.std.proofs.lemmas.Bool.{false≢true}
use Rattle.std.specs.Ordering.{int_eq}
use Rattle.op_table.specs.declared.Trap.{Trap}
use Rattle.op_table.specs.declared.Trap.TheVariants.{Step as NoStep}
use Rattle.op_table.specs.Words.{is_true}
use Rattle.f77_tree.specs.declared.programs.ExecKind.{ExecKind}
use Rattle.f77_tree.specs.declared.programs.ExecKind.TheVariants as exec
use Rattle.f77_tree.specs.declared.programs.NameInfo.{NameInfo}
use Rattle.f77_tree.specs.declared.programs.Program.{Program}
use Rattle.f77_tree.specs.Execution.{Memory, Outcome, Goes, Stops, Ends, outcome, assigned, printed, branched as branched_to, do_begun, started, words_taken, next_word, value_in, by_sign, by_number}
use Rattle.f77_tree.specs.Line.{line_of}
use Rattle.f77_tree.specs.Value.{value, place, place_of}
use Rattle.cfg_build.specs.declared.pieces.PieceKind.{PieceKind}
use Rattle.cfg_build.specs.declared.pieces.PieceKind.TheVariants as piece
use Rattle.cfg_build.specs.Passes.{Done, acted, branched, choice, pass_of}

abbrev ends : Outcome → Bool
ends (Goes next memory text) = false
ends (Stops trap) = false
ends Ends = true

assigned_goes : (m : Memory) (next words : ℕ) (a : Result ℕ Trap) (b : Result ℤ Trap) → ends (assigned m next words a b) ≡ false
assigned_goes m next words (Err trap) b = refl
assigned_goes m next words (Ok word) (Err trap) = refl
assigned_goes m next words (Ok word) (Ok z) = refl

printed_goes : (m : Memory) (next : ℕ) (line : Result (List ℕ) Trap) → ends (printed m next line) ≡ false
printed_goes m next (Err trap) = refl
printed_goes m next (Ok line) = refl

led_goes : (m : Memory) (next_of : ℤ → ℕ) (r : Result ℤ Trap) → ends (branched_to m next_of r) ≡ false
led_goes m next_of (Err trap) = refl
led_goes m next_of (Ok z) = refl

begun_goes : (m : Memory) (loop_no word body exit : ℕ) (a b c : Result ℤ Trap) → ends (do_begun m loop_no word body exit a b c) ≡ false
begun_goes m loop_no word body exit (Err trap) b c = refl
begun_goes m loop_no word body exit (Ok x) (Err trap) c = refl
begun_goes m loop_no word body exit (Ok x) (Ok y) (Err trap) = refl
begun_goes m loop_no word body exit (Ok x) (Ok y) (Ok z) = by (int_eq z (pos 0))
  where
    by : (none : Bool) → ends (if none then Stops NoStep else started m loop_no word body exit x y z) ≡ false
    by true = refl
    by false = refl

-- an executable that ends the run is END
only_end : (names : List NameInfo) (input : List ℤ) (m : Memory) (e : ExecKind) → ends (outcome names input m e) ≡ true → e ≡ exec.End
only_end names input m (exec.Assign target e next) h = absurd (false≢true (sym (assigned_goes m next (m.taken + words_taken e) (place names m.store (next_word input m) target) (value names m.store (next_word input m) e)) ∙ h))
only_end names input m (exec.Print items next) h = absurd (false≢true (sym (printed_goes m next (line_of names m.store items)) ∙ h))
only_end names input m (exec.Pass next) h = absurd (false≢true h)
only_end names input m (exec.Test c a b) h = absurd (false≢true (sym (led_goes m (λ z. cond (is_true z) a b) (value_in names m c)) ∙ h))
only_end names input m (exec.Sign e a b c) h = absurd (false≢true (sym (led_goes m (by_sign a b c) (value_in names m e)) ∙ h))
only_end names input m (exec.Pick e targets other) h = absurd (false≢true (sym (led_goes m (by_number targets other (pos (length targets))) (value_in names m e)) ∙ h))
only_end names input m (exec.DoStart loop_no var first last step body exit) h = absurd (false≢true (sym (begun_goes m loop_no (place_of names var) body exit (value_in names m first) (value_in names m last) (value_in names m step)) ∙ h))
only_end names input m (exec.DoNext loop_no var body exit) h = absurd (false≢true h)
only_end names input m exec.End h = refl

acted_done : (names : List NameInfo) (input : List ℤ) (m : Memory) (e : ExecKind) (next : ℕ) (o : Outcome) → acted next o ≡ Done → ends o ≡ true
acted_done names input m e next (Goes k new text) done = absurd cc
acted_done names input m e next (Stops trap) done = absurd cc
acted_done names input m e next Ends done = refl

branched_goes : (m : Memory) (out : ℕ → ℕ) (r : Result ℕ Trap) → branched m out r ≡ Done → ⊥
branched_goes m out (Ok i) done = cc
branched_goes m out (Err trap) done = cc

pub done_at : (p : Program) (input : List ℤ) (m : Memory) (out : ℕ → ℕ) (kind : PieceKind) (e : ExecKind) → (kind ≡ piece.Act → e ≢ exec.End) → pass_of p input m out kind e ≡ Done → kind ≡ piece.End
done_at p input m out piece.Start e acts done = absurd cc
done_at p input m out piece.Pass e acts done = absurd cc
done_at p input m out piece.Join e acts done = absurd cc
done_at p input m out piece.Hold e acts done = absurd cc
done_at p input m out piece.Act e acts done = absurd (acts refl (only_end p.names input m e (acted_done p.names input m e (out 0) (outcome p.names input m e) done)))
done_at p input m out piece.Branch e acts done = absurd (branched_goes m out (choice p.names m e) done)
done_at p input m out piece.End e acts done = refl
