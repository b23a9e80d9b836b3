-- Statements that are laid out have none of the faults, whatever else they are.
use Rattle.std.proofs.Common.{◌≡◌, ℕ, suc, zero, Bool, List, [], ◌∷◌, Option, Some, None, Ok, Err, refl}
use Rattle.std.specs.Prelude.{slice_get}
use Rattle.f77_tree.specs.declared.programs.Program.{Program}
use Rattle.f77_tree.specs.declared.statements.Labelled.{Labelled}
use Rattle.layout_rules.specs.declared.layout_end.LayoutEnd.{LayoutEnd}
use Rattle.layout_rules.specs.declared.layout_end.LayoutEnd.TheVariants.{OutOfOrder, RealName, TypeWrong, LayoutWrong, LabelTwice, LabelMissing, BadNesting, JumpInto, TooManyWords, TooManyOps}
use Rattle.layout_rules.specs.Appearances.{has_real_name}
use Rattle.layout_rules.specs.Counts.{asks_too_much}
use Rattle.layout_rules.specs.Faults.{first_answer, first_line}
use Rattle.layout_rules.specs.Jumps.{jumps_into}
use Rattle.layout_rules.specs.Labels.{is_labelled_twice, lacks_label}
use Rattle.layout_rules.specs.Layout.{at_line, layout, line_of_words, names_of, placed_names, program, refusal, refusals, unless_refused}
use Rattle.layout_rules.specs.Nesting.{first_unnested}
use Rattle.layout_rules.specs.Order.{is_out_of_order}
use Rattle.layout_rules.specs.StorageFaults.{has_wrong_storage}
use Rattle.layout_rules.specs.TypeFaults.{has_wrong_type}
use Rattle.storage_checks.proofs.FaultLines.{no-storage-fault, none-too-great}

no-answer : {B : Type 0} (answers : List (Option B)) → first_answer (λ r. r) answers ≡ None → (k : ℕ) (o : Option B) → slice_get answers k ≡ Some o → o ≡ None
no-answer [] none k o at = let h : None ≡ Some o = at in absurd cc
no-answer (None ∷ answers) none zero o at = let h : Some None ≡ Some o = at in cc
no-answer (None ∷ answers) none (suc k) o at = no-answer answers none k o at
no-answer (Some b ∷ answers) none k o at = let h : Some b ≡ None = none in absurd cc

no-line : (told : ℕ → LayoutEnd) (o : Option ℕ) → at_line told o ≡ None → o ≡ None
no-line told None e = refl
no-line told (Some line) e = let h : Some (told line) ≡ None = e in absurd cc

not-refused : (end : Option LayoutEnd) (made p : Program) → unless_refused end made ≡ Ok p → end ≡ None
not-refused None made p laid = refl
not-refused (Some end) made p laid = let h : Err end ≡ Ok p = laid in absurd cc

is-made : (end : Option LayoutEnd) (made p : Program) → unless_refused end made ≡ Ok p → made ≡ p
is-made None made p laid = let h : Ok made ≡ Ok p = laid in cc
is-made (Some end) made p laid = let h : Err end ≡ Ok p = laid in absurd cc

pub record AreFaultless (stmts : List Labelled) (checked : Bool) : Type 0 where
  pub ordered : first_line is_out_of_order stmts ≡ None
  pub typed : first_line (has_real_name stmts) stmts ≡ None
  pub kinds : first_line (has_wrong_type (names_of stmts)) stmts ≡ None
  pub stored : first_line (has_wrong_storage (names_of stmts) (placed_names stmts) stmts) stmts ≡ None
  pub once : first_line is_labelled_twice stmts ≡ None
  pub borne : first_line (lacks_label stmts) stmts ≡ None
  pub nested : first_unnested [] stmts ≡ None
  pub stays : first_line (jumps_into stmts) stmts ≡ None
  pub fits : line_of_words stmts ≡ None
  pub modest : first_line (asks_too_much (names_of stmts) checked stmts) stmts ≡ None

module _ (stmts : List Labelled) (checked : Bool) (p : Program) (laid : layout stmts checked ≡ Ok p) where
  accepted : refusal stmts checked ≡ None
  accepted = not-refused (refusal stmts checked) (program stmts checked) p laid

  pub laid-program : program stmts checked ≡ p
  laid-program = is-made (refusal stmts checked) (program stmts checked) p laid

  none-of : (told : ℕ → LayoutEnd) (k : ℕ) (o : Option ℕ) → slice_get (refusals stmts checked) k ≡ Some (at_line told o) → o ≡ None
  none-of told k o at = no-line told o (no-answer (refusals stmts checked) accepted k (at_line told o) at)

  pub laid-faultless : AreFaultless stmts checked
  laid-faultless = record {
    ordered = none-of OutOfOrder 0 _ refl;
    typed = none-of RealName 1 _ refl;
    kinds = none-of TypeWrong 2 _ refl;
    stored = no-storage-fault (names_of stmts) (placed_names stmts) stmts (none-of LayoutWrong 3 _ refl);
    once = none-of LabelTwice 4 _ refl;
    borne = none-of LabelMissing 5 _ refl;
    nested = none-of BadNesting 6 _ refl;
    stays = none-of JumpInto 7 _ refl;
    fits = none-of TooManyWords 8 _ refl;
    modest = none-too-great (names_of stmts) checked stmts (none-of TooManyOps 9 _ refl);
  }
