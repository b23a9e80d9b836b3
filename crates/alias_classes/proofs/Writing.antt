-- What is written beside what may change and what is needed.
use Rattle.std.proofs.Common.{◌≡◌, ◌≤◌, ℕ, List, length, filter, inl, inr, refl, sym, ap, subst, ◌∙◌, arith}
use Rattle.std.specs.List.{range_with_len}
use Rattle.f77_tree.specs.declared.programs.ExecKind.{ExecKind}
use Rattle.f77_tree.specs.declared.programs.ExecKind.TheVariants.{Assign, Print, Pass, Test, Sign, Pick, DoStart, DoNext, End}
use Rattle.f77_tree.specs.declared.programs.NameInfo.{NameInfo}
use Rattle.f77_tree.specs.declared.programs.Program.{Program}
use Rattle.f77_tree.specs.CanRun.{CanExecute}
use Rattle.f77_tree.specs.Places.{IsWordOf}
use Rattle.f77_tree.specs.Touched.{ExecMayChange, SetsCount, SetsStep}
use Rattle.f77_tree.specs.Value.{place_of, ArePlaced}
use Rattle.alias_classes.specs.Classes.{ClassTable, IsClasses, IsNumbering, class_of_word, class_of_loop}
use Rattle.alias_classes.specs.Needs.{ExecNeeds}
use Rattle.alias_classes.specs.Number.{number_of_classes, is_first}
use Rattle.alias_classes.specs.WriteLaws.{HaveSameWords}
use Rattle.alias_classes.specs.Writes.{ExecWrites, ExecWritesOrCounts}
use Rattle.alias_classes.proofs.Covering.{StayInNames, AreAlone, hits}

-- ---- executables

module _ (own : StayInNames) (alone : AreAlone) (p : Program) (t : ClassTable) (is_table : t.names ≡ p.names) (placed : ArePlaced p.names p.words) (word : ℕ) where
  variable : (var : ℕ) → place_of p.names var ≡ word → class_of_word t (place_of t.names var) ≡ class_of_word t word
  variable var is = ap (class_of_word t) (ap (λ (names : List NameInfo). place_of names var) is_table ∙ is)

  pub changes : (kind : ExecKind) → CanExecute p kind → ExecMayChange p.names kind word → ExecWrites t kind (class_of_word t word)
  changes (Assign target e next) can may = hits own alone p t is_table placed word target can.0 may
  changes (DoStart loop_no var first last step body exit) can may = variable var may
  changes (DoNext loop_no var body exit) can may = variable var may
  changes (Print items next) can may = absurd may
  changes (Pass next) can may = absurd may
  changes (Test cond if_true if_false) can may = absurd may
  changes (Sign e neg equal pos') can may = absurd may
  changes (Pick e targets other) can may = absurd may
  changes End can may = absurd may

module _ (t : ClassTable) (n : ℕ) where
  pub sets_count : (kind : ExecKind) → SetsCount kind n → ExecWritesOrCounts t kind (class_of_loop t n)
  sets_count (DoStart loop_no var first last step body exit) is = inr (ap (class_of_loop t) is)
  sets_count (DoNext loop_no var body exit) is = inr (ap (class_of_loop t) is)
  sets_count (Assign target e next) is = absurd is
  sets_count (Print items next) is = absurd is
  sets_count (Pass next) is = absurd is
  sets_count (Test cond if_true if_false) is = absurd is
  sets_count (Sign e neg equal pos') is = absurd is
  sets_count (Pick e targets other) is = absurd is
  sets_count End is = absurd is

  pub sets_step : (kind : ExecKind) → SetsStep kind n → ExecWritesOrCounts t kind (class_of_loop t n)
  sets_step (DoStart loop_no var first last step body exit) is = inr (ap (class_of_loop t) is)
  sets_step (DoNext loop_no var body exit) is = absurd is
  sets_step (Assign target e next) is = absurd is
  sets_step (Print items next) is = absurd is
  sets_step (Pass next) is = absurd is
  sets_step (Test cond if_true if_false) is = absurd is
  sets_step (Sign e neg equal pos') is = absurd is
  sets_step (Pick e targets other) is = absurd is
  sets_step End is = absurd is

  pub counts : (kind : ExecKind) → ExecWrites t kind n → ExecWritesOrCounts t kind n
  counts (DoStart loop_no var first last step body exit) is = inl is
  counts (DoNext loop_no var body exit) is = inl is
  counts (Assign target e next) is = is
  counts (Print items next) is = is
  counts (Pass next) is = is
  counts (Test cond if_true if_false) is = is
  counts (Sign e neg equal pos') is = is
  counts (Pick e targets other) is = is
  counts End is = is

  pub needs : (kind : ExecKind) → ExecWritesOrCounts t kind n → ExecNeeds t kind n
  needs (DoStart loop_no var first last step body exit) is = inr is
  needs (DoNext loop_no var body exit) is = is
  needs (Assign target e next) is = inl (inr is)
  needs (Print items next) is = absurd is
  needs (Pass next) is = absurd is
  needs (Test cond if_true if_false) is = absurd is
  needs (Sign e neg equal pos') is = absurd is
  needs (Pick e targets other) is = absurd is
  needs End is = absurd is

-- ---- programs with the same names and words

module _ (p q : Program) (same : HaveSameWords p q) where
  as_many : length (filter (is_first q.names) (range_with_len 0 q.words)) ≡ length (filter (is_first p.names) (range_with_len 0 p.words))
  as_many =
      ap (λ (names : List NameInfo). length (filter (is_first names) (range_with_len 0 q.words))) same.names
      ∙ ap (λ (words : ℕ). length (filter (is_first p.names) (range_with_len 0 words))) same.words

  pub fewer : q.loops ≤ p.loops → number_of_classes q ≤ number_of_classes p
  unfolding number_of_classes
  fewer less = let e = as_many in omega (arith, e, less)

  pub same_classes : (t : ClassTable) → IsClasses p t → IsClasses q (record t { loops = q.loops })
  same_classes t is = record {
    names = is.names ∙ sym same.names;
    numbering = subst (λ (names : List NameInfo). IsNumbering (IsWordOf names) q.words t.numbers t.word_classes) (sym same.names)
        (subst (λ (words : ℕ). IsNumbering (IsWordOf p.names) words t.numbers t.word_classes) (sym same.words) is.numbering);
    loops = refl;
  }
