-- What is looked up of flat statements.
use Rattle.std.proofs.Common.{◌≡◌, ℕ, zero, suc, ◌+◌, ◌*◌, ◌<◌, ◌≤◌, Bool, true, false, cond, List, [], ◌∷◌, length, get_or, refl, sym, ap, ◌∙◌, arith}
use Rattle.std.specs.Prelude.{slice_get, slice_index, Some, None, Option, option_to_list, nat_lt, sum_by}
use Rattle.std.specs.List.{range_with_len}
use Rattle.std.proofs.lemmas.List.{get_or_read, length-map}
use Rattle.std.proofs.lemmas.List.Sums.{sum_by-append}
use Rattle.list_laws.proofs.Ranges.{range_more}
use Rattle.f77_tree.specs.declared.programs.ExecKind.{ExecKind}
use Rattle.f77_tree.specs.declared.programs.ExecKind.TheVariants.{DoNext}
use Rattle.flat_programs.specs.declared.statements.Flat.{Flat}
use Rattle.flat_programs.specs.declared.statements.Flat.TheVariants.{Mark, Assignment, Output, LogicalIf, ArithmeticIf, ComputedGoTo, DoLoop, Jump, Finish}
use Rattle.flat_programs.specs.declared.statements.FlatLine.{FlatLine}
use Rattle.flat_programs.specs.Marks.{is_mark_in, mark_at, mark_count, mark_places, loop_at, loop_to, is_end, variable_in}
use Rattle.flat_programs.specs.Executables.{width_by, width, width_in, width_at, first_of, increment, increments, leading, following, executables_in, executables_at}
use Rattle.flat_programs.specs.Flow.{IsTable}
use Rattle.flat_programs.proofs.MarkLemmas.{mark_at-most}
use Rattle.flat_programs.proofs.Positions.{one}

-- ---- widths

pub width_by-most : (b : Bool) (stmt : Flat) → width_by b stmt ≤ 2
width_by-most true Mark = omega arith
width_by-most false Mark = omega arith
width_by-most b (LogicalIf cond target) = omega arith
width_by-most b (Assignment target value) = omega arith
width_by-most b (Output items) = omega arith
width_by-most b (ArithmeticIf value below at above) = omega arith
width_by-most b (ComputedGoTo value targets) = omega arith
width_by-most b (DoLoop end var first last step) = omega arith
width_by-most b (Jump target) = omega arith
width_by-most b Finish = omega arith

module _ (flat : List FlatLine) where
  width_in-most : (place : ℕ) (o : Option FlatLine) → width_in flat place o ≤ 2
  width_in-most place None = omega arith
  width_in-most place (Some l) = width_by-most (is_end flat (mark_at flat place)) l.stmt

  pub first_of-step : (place : ℕ) → first_of flat (place + 1) ≡ first_of flat place + width_at flat place
  first_of-step place =
      let one : sum_by (width_at flat) (place ∷ []) ≡ width_at flat place = omega arith in
      ap (sum_by (width_at flat)) (range_more place) ∙ sum_by-append (width_at flat) (range_with_len 0 place) (place ∷ []) ∙ ap (λ n. first_of flat place + n) one

  pub first_of-next : (place : ℕ) (l : FlatLine) → slice_get flat place ≡ Some l → first_of flat (place + 1) ≡ first_of flat place + width flat place l.stmt
  first_of-next place l is = first_of-step place ∙ ap (λ (o : Option FlatLine). first_of flat place + width_in flat place o) is

  pub first_of-most : (place : ℕ) → first_of flat place ≤ 2 * place
  first_of-most zero = omega arith
  first_of-most (suc place) =
      let add : place + 1 ≡ suc place = omega arith in
      let step = first_of-step place in
      let less = first_of-most place in
      let w = width_in-most place (slice_get flat place) in
      let e : first_of flat (suc place) ≡ first_of flat (place + 1) = ap (first_of flat) (sym add) in
      omega (arith, step, less, w, e)

  -- ---- tables

  -- what is read among the places of marks is a place
  pub mark_within : (marks : List ℕ) (i place : ℕ) → marks ≡ mark_places flat → i < length marks → place ≡ get_or marks i place → place < length flat
  mark_within marks i place same less read =
      let is : place ≡ slice_index (mark_places flat) i = get_or_read marks i place less read 0 ∙ ap (λ (ps : List ℕ). slice_index ps i) same in
      let within = (one (λ at. is_mark_in (slice_get flat at)) (length flat) i (omega (arith, less, ap length same))).within in
      omega (arith, within, is)

  pub entry_read : (f : ℕ → ℕ) (n k v : ℕ) (table : List ℕ) → IsTable f n table → k < n → v ≡ get_or table k v → v ≡ f k
  entry_read f n k v table is less read = get_or_read table k v (omega (arith, less, is.size)) read 0 ∙ is.entry k less

  pub number_within : (place number : ℕ) (table : List ℕ) → IsTable (mark_at flat) (length flat + 1) table → place < length flat → number ≡ get_or table place number → number < mark_count flat + 2
  number_within place number table is less read =
      let at = entry_read (mark_at flat) (length flat + 1) place number table is (omega (arith, less)) read in
      let most = mark_at-most flat place in
      omega (arith, at, most)

  -- the DO whose range ends at the mark at a place
  pub end_found : (place number head : ℕ) (numbers ends : List ℕ) → IsTable (mark_at flat) (length flat + 1) numbers → IsTable (loop_to flat) (mark_count flat + 2) ends → place < length flat → number ≡ get_or numbers place number → head ≡ get_or ends number head → head ≡ loop_to flat (mark_at flat place)
  end_found place number head numbers ends are also less read then =
      let at = entry_read (mark_at flat) (length flat + 1) place number numbers are (omega (arith, less)) read in
      entry_read (loop_to flat) (mark_count flat + 2) number head ends also (number_within place number numbers are less read) then ∙ ap (loop_to flat) at

  pub test_is : (head place : ℕ) → head ≡ loop_to flat (mark_at flat place) → nat_lt head (length flat) ≡ is_end flat (mark_at flat place)
  test_is head place is = ap (λ h. nat_lt h (length flat)) is

  -- ---- increments

  pub increments-none : (number next : ℕ) → is_end flat number ≡ false → increments flat number next ≡ None
  increments-none number next none = rw none refl

  pub increments-some : (number next : ℕ) → is_end flat number ≡ true → increments flat number next ≡ Some (increment flat (loop_to flat number) next)
  increments-some number next some = rw some refl

  pub increment-is : (d next a b e g : ℕ) → a ≡ loop_at flat d → b ≡ variable_in (slice_get flat d) → e ≡ first_of flat (d + 1) → g ≡ next → DoNext a b e g ≡ increment flat d next
  increment-is d next a b e g is-a is-b is-e is-g = rw (is-a, is-b, is-e, is-g) refl

  -- ---- how many executables there are

  option-most : {X : Type 0} (o : Option X) → length (option_to_list o) ≤ 1
  option-most None = omega arith
  option-most (Some x) = omega arith

  executables_in-most : (place : ℕ) (o : Option FlatLine) → length (executables_in flat place o) ≤ 2
  executables_in-most place None = omega arith
  executables_in-most place (Some l) =
      let kinds : List ExecKind = leading flat place l.stmt ∷ option_to_list (following flat place l.stmt) in
      let same : length (executables_in flat place (Some l)) ≡ length kinds = length-map kinds (λ (kind : ExecKind). record { line = l.line; kind = kind }) in
      omega (arith, same, option-most (following flat place l.stmt))

  pub executables_at-most : (place : ℕ) → length (executables_at flat place) ≤ 2
  executables_at-most place = executables_in-most place (slice_get flat place)
