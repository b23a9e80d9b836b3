-- What an executable leaves as it is where it goes on.
use Rattle.std.proofs.Common.{◌≡◌, ℕ, zero, suc, ◌+◌, ◌-◌, ◌<◌, ℤ, pos, Bool, true, false, List, [], ◌∷◌, length, Some, None, Ok, slice_get, slice_index, slice_set, inl, inr, refl, ap, ◌∙◌, arith}
use Rattle.op_table.specs.Trips.{trip_count}
use Rattle.f77_tree.specs.declared.expressions.Expr.{Expr, Row_of-Expr, end_of-Expr, more_of-Expr}
use Rattle.f77_tree.specs.declared.expressions.Expr.TheVariants.{Const, Truth, Input, Read', Apply'}
use Rattle.f77_tree.specs.declared.programs.ExecKind.{ExecKind}
use Rattle.f77_tree.specs.declared.programs.ExecKind.TheVariants.{Assign, Print, Pass, Test, Sign, Pick, DoStart, DoNext, End}
use Rattle.f77_tree.specs.declared.programs.NameInfo.{NameInfo}
use Rattle.f77_tree.specs.Execution.{Memory, outcome, words_taken, is_input, row_inputs, is_truth, count_if, by_sign, by_number}
use Rattle.f77_tree.specs.Line.{line_of}
use Rattle.f77_tree.specs.Steps.{IfGoes, KeepsRest}
use Rattle.f77_tree.specs.Touched.{ReadsData, SomeReadsData}
use Rattle.f77_tree.specs.Value.{value, place, place_of}
use Rattle.f77_tree.proofs.Outcomes.{assigned-goes, printed-goes, branched-goes, begun-goes}

-- ---- a list with an item replaced

pub get-set_other : {X : Type 0} (xs : List X) (k j : ℕ) (x : X) → (k ≡ j → ⊥) → slice_get (slice_set xs k x) j ≡ slice_get xs j
get-set_other [] k j x differ = refl
get-set_other (y ∷ xs) zero zero x differ = absurd (differ refl)
get-set_other (y ∷ xs) zero (suc j) x differ = refl
get-set_other (y ∷ xs) (suc k) zero x differ = refl
get-set_other (y ∷ xs) (suc k) (suc j) x differ = get-set_other xs k j x (λ same. differ (ap suc same))

pub get-set_same : {X : Type 0} (xs : List X) (k : ℕ) (x : X) → k < length xs → slice_get (slice_set xs k x) k ≡ Some x
get-set_same [] k x lt = absurd (omega (arith, lt))
get-set_same (y ∷ xs) zero x lt = refl
get-set_same (y ∷ xs) (suc k) x lt = get-set_same xs k x (omega (arith, lt))

-- ---- data

first-none : (b : Bool) (e : Expr) (more : List Bool) → (ReadsData e → ⊥) → count_if b (is_input e ∷ more) ≡ 0
first-none false e more none = refl
first-none true (Const z) more none = refl
first-none true (Truth z) more none = refl
first-none true Input more none = absurd (none tt)
first-none true (Read' name shape subs) more none = refl
first-none true (Apply' op shape args) more none = refl

row-none : {m : _} (b : Bool) (row : Row_of-Expr m) → (SomeReadsData row → ⊥) → count_if b (row_inputs row) ≡ 0
row-none false row none = refl
row-none true end_of-Expr none = refl
row-none true (more_of-Expr e rest) none = first-none true e (row_inputs rest) (λ reads. none (inl reads))

-- an expression that reads no data takes none
pub words_taken-none : (e : Expr) → (ReadsData e → ⊥) → words_taken e ≡ 0
words_taken-none (Const z) none = refl
words_taken-none (Truth b) none = refl
words_taken-none Input none = absurd (none tt)
words_taken-none (Read' name shape subs) none = refl
words_taken-none (Apply' op shape args) none = row-none (is_truth op) args none

-- ---- executables

module _ (names : List NameInfo) (input : List ℤ) (m : Memory) where
  nothing-changed : (kind : ExecKind) → KeepsRest names input kind m m
  nothing-changed kind = record { store = λ word changes. refl; counts = λ n sets. refl; steps = λ n sets. refl; taken = λ reads. refl }

  -- an executable leaves every word but its target's as it is, every count and step but its DO's, and the data that it
  -- doesn't read
  pub outcome-keeps : (kind : ExecKind) → IfGoes (outcome names input m kind) (λ next new text. KeepsRest names input kind m new)
  outcome-keeps (Assign target e next) =
      let word = slice_get input m.taken in
      assigned-goes (λ to new text. KeepsRest names input (Assign target e next) m new) m next (m.taken + words_taken e) (place names m.store word target) (value names m.store word e)
      (λ k z at given. record {
        store = λ j changes. get-set_other m.store k j z (λ same. changes (at ∙ ap (λ i. Ok i) same));
        counts = λ n sets. refl;
        steps = λ n sets. refl;
        taken = λ reads. let none = words_taken-none e (λ more. reads (inr more)) in omega (arith, none);
      })
  outcome-keeps (Print items next) = printed-goes (λ to new text. KeepsRest names input (Print items next) m new) m next (line_of names m.store items) (λ text line. nothing-changed (Print items next))
  outcome-keeps (Pass next) = nothing-changed (Pass next)
  outcome-keeps (Test cond if_true if_false) = branched-goes (λ to new text. KeepsRest names input (Test cond if_true if_false) m new) m _ (value names m.store None cond) (λ z given. nothing-changed (Test cond if_true if_false))
  outcome-keeps (Sign e neg equal pos') = branched-goes (λ to new text. KeepsRest names input (Sign e neg equal pos') m new) m (by_sign neg equal pos') (value names m.store None e) (λ z given. nothing-changed (Sign e neg equal pos'))
  outcome-keeps (Pick e targets other) = branched-goes (λ to new text. KeepsRest names input (Pick e targets other) m new) m (by_number targets other (pos (length targets))) (value names m.store None e) (λ z given. nothing-changed (Pick e targets other))
  outcome-keeps (DoStart loop_no var first last step body exit) =
      begun-goes (λ to new text. KeepsRest names input (DoStart loop_no var first last step body exit) m new) m loop_no (place_of names var) body exit (value names m.store None first) (value names m.store None last) (value names m.store None step)
      (λ a b c is_a is_b is_c some. record {
        store = λ j changes. get-set_other m.store (place_of names var) j a changes;
        counts = λ n sets. get-set_other m.counts loop_no n (trip_count a b c) sets;
        steps = λ n sets. get-set_other m.steps loop_no n c sets;
        taken = λ reads. refl;
      })
  outcome-keeps (DoNext loop_no var body exit) = record {
    store = λ j changes. get-set_other m.store (place_of names var) j _ changes;
    counts = λ n sets. get-set_other m.counts loop_no n (slice_index m.counts loop_no - 1) sets;
    steps = λ n sets. refl;
    taken = λ reads. refl;
  }
  outcome-keeps End = tt
