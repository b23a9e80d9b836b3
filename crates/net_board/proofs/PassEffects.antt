-- What the pass of a piece depends on, and what it changes: no more than the piece touches.
use Rattle.std.proofs.Common.{◌≡◌, inl, inr, ℕ, ◌-◌, ℤ, pos, Bool, true, false, if◌then◌else◌, List, [], length, None, Result, Ok, Err, slice_get, slice_index, nat_lt, refl, sym, ap, ◌∙◌, subst, arith}
use Rattle.std.specs.Ordering.{int_eq}
use Rattle.op_table.specs.declared.Trap.{Trap}
use Rattle.op_table.specs.Words.{is_true}
use Rattle.op_table.specs.Operators.{which_of_three, picked}
use Rattle.op_table.specs.Trips.{at_least_zero, trip_count}
use Rattle.f77_tree.specs.declared.expressions.Expr.{Expr}
use Rattle.f77_tree.specs.declared.programs.ExecKind.{ExecKind}
use Rattle.f77_tree.specs.declared.programs.ExecKind.TheVariants as exec
use Rattle.f77_tree.specs.declared.programs.NameInfo.{NameInfo}
use Rattle.f77_tree.specs.declared.programs.Program.{Program}
use Rattle.f77_tree.specs.CanRun.{CanRun, CanExecute}
use Rattle.f77_tree.specs.Execution.{Memory, Outcome, Goes, Stops, Ends, outcome, value_in, next_word, assigned, printed, branched as went, do_begun, started}
use Rattle.f77_tree.specs.Line.{line_of}
use Rattle.f77_tree.specs.Steps.{IfGoes, HasRoomFor, AreAlike, ChangeAlike}
use Rattle.f77_tree.specs.Touched.{MayRead}
use Rattle.f77_tree.specs.Value.{value, place, place_of, and_then}
use Rattle.alias_classes.specs.Classes.{ClassTable, IsClasses, class_of_word, class_of_loop}
use Rattle.alias_classes.specs.Frame.{AgreeOnClasses, KeepsOtherClasses}
use Rattle.cfg_build.specs.declared.pieces.PieceKind.{PieceKind}
use Rattle.cfg_build.specs.declared.pieces.PieceKind.TheVariants as kind
use Rattle.cfg_build.specs.Passes.{Passed, Along, Traps, Done, IfAlong, acted, branched, choice, pass_of}
use Rattle.dep_routing.specs.Touches.{KindNeeds, Prints}
use Rattle.dep_routing.specs.Sound.{KindMustTouchOut}
use Rattle.net_board.specs.SoundNets.{HasSizesOf}
use Rattle.net_board.specs.ProgramFacts.{ProgramFacts}
use Rattle.net_board.proofs.ListPlaces.{same_words, same_numbers, index_of, length_slice_set}

-- ---- what any executable does

-- sizes stay, and only an output writes
record IsPlain (m : Memory) (e : ExecKind) (new : Memory) (text : List ℕ) : Type 0 where
  pub words : length new.store ≡ length m.store
  pub counts : length new.counts ≡ length m.counts
  pub steps : length new.steps ≡ length m.steps
  pub silent : (Prints e → ⊥) → text ≡ []

module _ (m : Memory) (e : ExecKind) where
  abbrev Plain : Outcome → Type 0
  Plain o = IfGoes o (λ next new text. IsPlain m e new text)

  unchanged : IsPlain m e m []
  unchanged = record { words = refl; counts = refl; steps = refl; silent = λ none. refl }

  assigned_plain : (next taken : ℕ) (at : Result ℕ Trap) (given : Result ℤ Trap) → Plain (assigned m next taken at given)
  assigned_plain next taken (Err trap) given = tt
  assigned_plain next taken (Ok word) (Err trap) = tt
  assigned_plain next taken (Ok word) (Ok z) = record { words = length_slice_set m.store word z; counts = refl; steps = refl; silent = λ none. refl }

  went_plain : (next : ℤ → ℕ) (given : Result ℤ Trap) → Plain (went m next given)
  went_plain next (Err trap) = tt
  went_plain next (Ok z) = unchanged

  begun_plain : (loop_no word body exit : ℕ) (first last step : Result ℤ Trap) → Plain (do_begun m loop_no word body exit first last step)
  begun_plain loop_no word body exit (Err trap) last step = tt
  begun_plain loop_no word body exit (Ok a) (Err trap) step = tt
  begun_plain loop_no word body exit (Ok a) (Ok b) (Err trap) = tt
  begun_plain loop_no word body exit (Ok a) (Ok b) (Ok c) = by (int_eq c (pos 0))
    where
      by : (zero_step : Bool) → Plain (if zero_step then Stops Rattle.op_table.specs.declared.Trap.TheVariants.Step else started m loop_no word body exit a b c)
      by true = tt
      by false = record { words = length_slice_set m.store word a; counts = length_slice_set m.counts loop_no (trip_count a b c); steps = length_slice_set m.steps loop_no c; silent = λ none. refl }

  printed_plain : (Prints e) → (next : ℕ) (line : Result (List ℕ) Trap) → Plain (printed m next line)
  printed_plain prints next (Err trap) = tt
  printed_plain prints next (Ok line) = record { words = refl; counts = refl; steps = refl; silent = λ none. absurd (none prints) }

outcome_plain : (names : List NameInfo) (input : List ℤ) (m : Memory) (e : ExecKind) → IfGoes (outcome names input m e) (λ next new text. IsPlain m e new text)
outcome_plain names input m (exec.Assign target e next) = assigned_plain m (exec.Assign target e next) next _ (place names m.store (next_word input m) target) (value names m.store (next_word input m) e)
outcome_plain names input m (exec.Print items next) = printed_plain m (exec.Print items next) tt next (line_of names m.store items)
outcome_plain names input m (exec.Pass next) = unchanged m (exec.Pass next)
outcome_plain names input m (exec.Test cond yes' no') = went_plain m (exec.Test cond yes' no') _ (value_in names m cond)
outcome_plain names input m (exec.Sign e neg zero' pos') = went_plain m (exec.Sign e neg zero' pos') _ (value_in names m e)
outcome_plain names input m (exec.Pick e targets other) = went_plain m (exec.Pick e targets other) _ (value_in names m e)
outcome_plain names input m (exec.DoStart loop_no var first last step body exit) =
    begun_plain m (exec.DoStart loop_no var first last step body exit) loop_no (place_of names var) body exit (value_in names m first) (value_in names m last) (value_in names m step)
outcome_plain names input m (exec.DoNext loop_no var body exit) = record {
  words = length_slice_set m.store (place_of names var) _;
  counts = length_slice_set m.counts loop_no (slice_index m.counts loop_no - 1);
  steps = refl;
  silent = λ none. refl;
}
outcome_plain names input m exec.End = tt

-- ---- a piece

-- the lines that a piece touches are those that it needs
pub record IsTouching (c : ClassTable) (touches : ℕ → Bool) (piece : PieceKind) (e : ExecKind) : Type 0 where
  pub needs : (n : ℕ) → KindNeeds c piece e n → touches n ≡ true
  pub must : KindMustTouchOut c piece e → touches 0 ≡ true

module _ (c : ClassTable) (touches : ℕ → Bool) where
  -- two memories agree on what is touched
  pub record AgreeOn (m n : Memory) : Type 0 where
    pub store : (word : ℕ) → touches (class_of_word c word) ≡ true → slice_get m.store word ≡ slice_get n.store word
    pub counts : (k : ℕ) → touches (class_of_loop c k) ≡ true → slice_get m.counts k ≡ slice_get n.counts k
    pub steps : (k : ℕ) → touches (class_of_loop c k) ≡ true → slice_get m.steps k ≡ slice_get n.steps k
    pub taken : touches 0 ≡ true → m.taken ≡ n.taken

  -- what isn't touched stays as it was
  pub record KeepsOthers (m new : Memory) : Type 0 where
    pub store : (word : ℕ) → touches (class_of_word c word) ≡ false → slice_get new.store word ≡ slice_get m.store word
    pub counts : (k : ℕ) → touches (class_of_loop c k) ≡ false → slice_get new.counts k ≡ slice_get m.counts k
    pub steps : (k : ℕ) → touches (class_of_loop c k) ≡ false → slice_get new.steps k ≡ slice_get m.steps k
    pub taken : touches 0 ≡ false → new.taken ≡ m.taken

  -- two passes take one edge and write one text, and agree then; or trap alike; or the run ends in both
  abbrev pub PassAlike : Passed → Passed → Type 0
  PassAlike (Along edge m text) (Along edge' n text') = (edge ≡ edge') × (text ≡ text') × AgreeOn m n
  PassAlike (Traps trap) (Traps trap') = trap ≡ trap'
  PassAlike Done Done = Unit {0}
  PassAlike _ _ = ⊥

-- what a pass makes of the memory: sizes stay, what isn't touched stays, and nothing is written where the line of output isn't
pub record IsFramed (p : Program) (c : ClassTable) (touches : ℕ → Bool) (m new : Memory) (text : List ℕ) : Type 0 where
  pub sizes : HasSizesOf p new
  pub keeps : KeepsOthers c touches m new
  pub silent : touches 0 ≡ false → text ≡ []

module _ (ground : ProgramFacts) (p : Program) (input : List ℤ) (c : ClassTable) (own : IsClasses p c) (run : CanRun p) (touches : ℕ → Bool) (out : ℕ → ℕ) where
  not_both : {P : Type 0} (n : ℕ) → touches n ≡ true → touches n ≡ false → P
  not_both n yes' no' = let e : true ≡ false = sym yes' ∙ no' in absurd cc

  room : (m : Memory) → HasSizesOf p m → HasRoomFor p m
  room m sizes = let w = sizes.words in let k = sizes.counts in let s = sizes.steps in record { words = omega (arith, w); counts = omega (arith, k); steps = omega (arith, s) }

  -- ---- acts

  module _ (e : ExecKind) (can : CanExecute p e) (is : IsTouching c touches kind.Act e) where
    agree_classes : (m n : Memory) → AgreeOn c touches m n → AgreeOnClasses c e m n
    agree_classes m n agree = record {
      store = λ word need. ap (λ o. Rattle.std.specs.Prelude.unwrap_or o (pos 0)) (agree.store word (is.needs (class_of_word c word) need));
      counts = λ k need. index_of m.counts n.counts k (agree.counts k (is.needs (class_of_loop c k) need));
      steps = λ k need. ap (λ o. Rattle.std.specs.Prelude.unwrap_or o (pos 0)) (agree.steps k (is.needs (class_of_loop c k) need));
      taken = λ reads. agree.taken (is.must (inr reads));
    }

    sizes_of : (m new : Memory) (text : List ℕ) → HasSizesOf p m → IsPlain m e new text → HasSizesOf p new
    sizes_of m new text sizes plain = record { words = plain.words ∙ sizes.words; counts = plain.counts ∙ sizes.counts; steps = plain.steps ∙ sizes.steps }

    agree_after : (m n new_m new_n : Memory) → AgreeOn c touches m n → HasSizesOf p new_m → HasSizesOf p new_n → ChangeAlike p.names input e m n new_m new_n → AgreeOn c touches new_m new_n
    agree_after m n new_m new_n agree first second change = record {
      store = λ word touched. same_words new_m.store new_n.store word (first.words ∙ sym second.words) (change.store word (inr (ap (λ o. Rattle.std.specs.Prelude.unwrap_or o (pos 0)) (agree.store word touched))));
      counts = λ k touched. same_numbers new_m.counts new_n.counts k (first.counts ∙ sym second.counts) (change.counts k (inr (index_of m.counts n.counts k (agree.counts k touched))));
      steps = λ k touched. same_words new_m.steps new_n.steps k (first.steps ∙ sym second.steps) (change.steps k (inr (ap (λ o. Rattle.std.specs.Prelude.unwrap_or o (pos 0)) (agree.steps k touched))));
      taken = λ touched. change.taken (agree.taken touched);
    }

    acts_alike : (m n : Memory) → HasSizesOf p m → HasSizesOf p n → AgreeOn c touches m n → (o o' : Outcome) → IfGoes o (λ next new text. IsPlain m e new text) → IfGoes o' (λ next new text. IsPlain n e new text) → AreAlike p.names input e m n o o' → PassAlike c touches (acted (out 0) o) (acted (out 0) o')
    acts_alike m n first second agree (Goes next new text) (Goes next' new' text') plain plain' alike =
        (refl, alike.1, agree_after m n new new' agree (sizes_of m new text first plain) (sizes_of n new' text' second plain') alike.2)
    acts_alike m n first second agree (Goes next new text) (Stops trap) plain plain' alike = absurd alike
    acts_alike m n first second agree (Goes next new text) Ends plain plain' alike = absurd alike
    acts_alike m n first second agree (Stops trap) (Goes next new text) plain plain' alike = absurd alike
    acts_alike m n first second agree (Stops trap) (Stops trap') plain plain' alike = alike
    acts_alike m n first second agree (Stops trap) Ends plain plain' alike = absurd alike
    acts_alike m n first second agree Ends (Goes next new text) plain plain' alike = absurd alike
    acts_alike m n first second agree Ends (Stops trap) plain plain' alike = absurd alike
    acts_alike m n first second agree Ends Ends plain plain' alike = tt

    act_framed : (m : Memory) → HasSizesOf p m → (o : Outcome) → IfGoes o (λ next new text. IsPlain m e new text) → IfGoes o (λ next new text. KeepsOtherClasses c e m new) → IfAlong (acted (out 0) o) (λ edge new text. IsFramed p c touches m new text)
    act_framed m sizes (Goes next new text) plain keeps = record {
      sizes = sizes_of m new text sizes plain;
      keeps = record {
        store = λ word not. keeps.store word (λ need. not_both (class_of_word c word) (is.needs (class_of_word c word) need) not);
        counts = λ k not. keeps.counts k (λ need. not_both (class_of_loop c k) (is.needs (class_of_loop c k) need) not);
        steps = λ k not. keeps.steps k (λ need. not_both (class_of_loop c k) (is.needs (class_of_loop c k) need) not);
        taken = λ not. keeps.taken (λ reads. not_both 0 (is.must (inr reads)) not);
      };
      silent = λ not. plain.silent (λ prints. not_both 0 (is.must (inl prints)) not);
    }
    act_framed m sizes (Stops trap) plain keeps = tt
    act_framed m sizes Ends plain keeps = tt

  -- ---- branches

  same_value : (m n : Memory) (e : Expr) (kind' : ExecKind) → CanExecute p kind' → AgreeOn c touches m n → ((word : ℕ) → MayRead p.names e word → touches (class_of_word c word) ≡ true) → value_in p.names m e ≡ value_in p.names n e
  same_value m n e kind' can agree touched = ground.values p.names m.store n.store None None e (λ word may. ap (λ o. Rattle.std.specs.Prelude.unwrap_or o (pos 0)) (agree.store word (touched word may))) (λ reads. refl)

  same_choice : (m n : Memory) (e : ExecKind) → CanExecute p e → IsTouching c touches kind.Branch e → AgreeOn c touches m n → choice p.names m e ≡ choice p.names n e
  same_choice m n (exec.Test cond yes' no') can is agree =
      ap (and_then (λ z. Ok (if is_true z then 0 else 1))) (same_value m n cond (exec.Test cond yes' no') can agree (λ word may. is.needs (class_of_word c word) (ground.reads p c (exec.Test cond yes' no') word own run.placed can may)))
  same_choice m n (exec.Sign e neg zero' pos') can is agree =
      ap (and_then (λ z. Ok (at_least_zero (which_of_three z)))) (same_value m n e (exec.Sign e neg zero' pos') can agree (λ word may. is.needs (class_of_word c word) (ground.reads p c (exec.Sign e neg zero' pos') word own run.placed can may)))
  same_choice m n (exec.Pick e targets other) can is agree =
      ap (and_then (λ z. Ok (at_least_zero (picked z (pos (length targets)))))) (same_value m n e (exec.Pick e targets other) can agree (λ word may. is.needs (class_of_word c word) (ground.reads p c (exec.Pick e targets other) word own run.placed can may)))
  same_choice m n (exec.DoStart loop_no var first last step body exit) can is agree =
      ap (λ count. Ok (if nat_lt 0 count then 0 else 1)) (index_of m.counts n.counts loop_no (agree.counts loop_no (is.needs (class_of_loop c loop_no) refl)))
  same_choice m n (exec.Assign target e next) can is agree = refl
  same_choice m n (exec.Print items next) can is agree = refl
  same_choice m n (exec.Pass next) can is agree = refl
  same_choice m n (exec.DoNext loop_no var body exit) can is agree = refl
  same_choice m n exec.End can is agree = refl

  branches_alike : (m n : Memory) → AgreeOn c touches m n → (a b : Result ℕ Trap) → a ≡ b → PassAlike c touches (branched m out a) (branched n out b)
  branches_alike m n agree a b same = subst (λ x. PassAlike c touches (branched m out a) (branched n out x)) same (by a)
    where
      by : (a : Result ℕ Trap) → PassAlike c touches (branched m out a) (branched n out a)
      by (Ok i) = (refl, refl, agree)
      by (Err trap) = refl

  kept : (m : Memory) → HasSizesOf p m → IsFramed p c touches m m []
  kept m sizes = record {
    sizes = sizes;
    keeps = record { store = λ word not. refl; counts = λ k not. refl; steps = λ k not. refl; taken = λ not. refl };
    silent = λ not. refl;
  }

  -- ---- the kinds of pieces

  pub pass_alike : (piece : PieceKind) (e : ExecKind) → CanExecute p e → IsTouching c touches piece e → (m n : Memory) → HasSizesOf p m → HasSizesOf p n → AgreeOn c touches m n → PassAlike c touches (pass_of p input m out piece e) (pass_of p input n out piece e)
  pass_alike kind.Act e can is m n first second agree =
      acts_alike e can is m n first second agree (outcome p.names input m e) (outcome p.names input n e) (outcome_plain p.names input m e) (outcome_plain p.names input n e) (ground.decide p c input m n e own run.placed (room m first) (room n second) can (agree_classes e can is m n agree))
  pass_alike kind.Branch e can is m n first second agree = branches_alike m n agree (choice p.names m e) (choice p.names n e) (same_choice m n e can is agree)
  pass_alike kind.Start e can is m n first second agree = (refl, refl, agree)
  pass_alike kind.Pass e can is m n first second agree = (refl, refl, agree)
  pass_alike kind.Join e can is m n first second agree = (refl, refl, agree)
  pass_alike kind.Hold e can is m n first second agree = (refl, refl, agree)
  pass_alike kind.End e can is m n first second agree = tt

  pub pass_framed : (piece : PieceKind) (e : ExecKind) → CanExecute p e → IsTouching c touches piece e → (m : Memory) → HasSizesOf p m → IfAlong (pass_of p input m out piece e) (λ edge new text. IsFramed p c touches m new text)
  pass_framed kind.Act e can is m sizes = act_framed e can is m sizes (outcome p.names input m e) (outcome_plain p.names input m e) (ground.keep p c input m e own run.placed can)
  pass_framed kind.Branch e can is m sizes = by (choice p.names m e)
    where
      by : (a : Result ℕ Trap) → IfAlong (branched m out a) (λ edge new text. IsFramed p c touches m new text)
      by (Ok i) = kept m sizes
      by (Err trap) = tt
  pass_framed kind.Start e can is m sizes = kept m sizes
  pass_framed kind.Pass e can is m sizes = kept m sizes
  pass_framed kind.Join e can is m sizes = kept m sizes
  pass_framed kind.Hold e can is m sizes = kept m sizes
  pass_framed kind.End e can is m sizes = tt

-- ---- edges

module _ (out : ℕ → ℕ) (p : Program) (input : List ℤ) where
  -- the edge is one that leaves the piece
  abbrev pub IsOut : ℕ → Type 0
  IsOut edge = (number : ℕ) × (edge ≡ out number)

  pub pass_out : (piece : PieceKind) (e : ExecKind) (m : Memory) → IfAlong (pass_of p input m out piece e) (λ edge new text. IsOut edge)
  pass_out kind.Act e m = by (outcome p.names input m e)
    where
      by : (o : Outcome) → IfAlong (acted (out 0) o) (λ edge new text. IsOut edge)
      by (Goes next new text) = (0, refl)
      by (Stops trap) = tt
      by Ends = tt
  pass_out kind.Branch e m = by (choice p.names m e)
    where
      by : (a : Result ℕ Trap) → IfAlong (branched m out a) (λ edge new text. IsOut edge)
      by (Ok i) = (i, refl)
      by (Err trap) = tt
  pass_out kind.Start e m = (0, refl)
  pass_out kind.Pass e m = (0, refl)
  pass_out kind.Join e m = (0, refl)
  pass_out kind.Hold e m = (0, refl)
  pass_out kind.End e m = tt
