-- The executables of the shared form of a flat program, by the places of its statements.
use Rattle.std.proofs.Common.{◌≡◌, ℕ, zero, suc, ◌+◌, ◌<◌, ◌≤◌, ⊎_elim, Bool, true, false, List, [], length, take, Some, refl, sym, ap, ◌∙◌, arith}
use Rattle.std.specs.Prelude.{slice_get, nat_lt}
use Rattle.std.specs.List.{count_by}
use Rattle.std.proofs.lemmas.Bool.{cases_lt, lt-ltb, ltb-true}
use Rattle.std.proofs.lemmas.Option.{slice_get_within}
use Rattle.f77_tree.specs.declared.programs.ExecKind.{ExecKind}
use Rattle.f77_tree.specs.declared.programs.ExecKind.TheVariants.{Assign}
use Rattle.f77_tree.specs.declared.programs.Program.{Program}
use Rattle.flat_programs.specs.declared.statements.Flat.TheVariants.{Mark}
use Rattle.flat_programs.specs.declared.statements.Flat.{Flat}
use Rattle.flat_programs.specs.declared.statements.FlatLine.{FlatLine}
use Rattle.flat_programs.specs.Executables.{beyond, executables, first_of, following, leading, marked, width}
use Rattle.flat_programs.specs.FlatForm.{IsNumber}
use Rattle.flat_programs.specs.Marks.{ends_at, is_end, is_loop, is_mark, loop_at, loop_count, loop_to, mark_at, mark_count, place_of}
use Rattle.redundancy.specs.Available.{Availability}
use Rattle.shared_forms.specs.Numbered.{name_alone, number_of}
use Rattle.shared_forms.specs.Shared.{candidate, kept_value, replaced_in, temporary}
use Rattle.shared_laws.proofs.FlatPlaces.{first_of-next, following-at, leading-at, mark-numbered, mark-of, with_line}
use Rattle.shared_laws.proofs.ListPlaces.{item_at, take_whole}
use Rattle.shared_laws.proofs.SharedStands.{all, begins, begins-next, changed, counts-begin, counts-stand, due_at, first-stands, kept-there, length-all, none-stands, same-ends, same-loop, same-mark, stands, statement-there}

module _ (q : Program) (a : Availability) (flat : List FlatLine) where
  -- the first executable of the assignments that are due before a statement
  abbrev pub entry : (place : ℕ) → ℕ
  entry place = first_of (all q a flat) (begins q a flat place)

  abbrev pub many : (place : ℕ) → ℕ
  many place = length (due_at q a flat place)

  -- an executable of the flat program, and the one of the shared form to which control comes in its stead
  pub record Leads (k j : ℕ) : Type 0 where
    pub place : ℕ
    pub old : k ≡ first_of flat place
    pub new : j ≡ entry place

  -- ---- marks and DOs

  pub mark-same : (place : ℕ) (l : FlatLine) → slice_get flat place ≡ Some l → mark_at (all q a flat) (stands q a flat place) ≡ mark_at flat place
  mark-same place l is = ap (λ n. n + 1) (counts-stand q a flat (λ (x : FlatLine). is_mark x.stmt) (λ line n. refl) (λ x. same-mark q a x.stmt) place l is)

  pub loop-same : (place : ℕ) (l : FlatLine) → slice_get flat place ≡ Some l → loop_at (all q a flat) (stands q a flat place) ≡ loop_at flat place
  loop-same place l is = counts-stand q a flat (λ (x : FlatLine). is_loop x.stmt) (λ line n. refl) (λ x. same-loop q a x.stmt) place l is

  pub loops-same : loop_count (all q a flat) ≡ loop_count flat
  loops-same =
      let t : FlatLine → Bool = λ x. is_loop x.stmt in
      ap (count_by t) (sym (take_whole (all q a flat)))
      ∙ ap (λ n. count_by t (take n (all q a flat))) (length-all q a flat)
      ∙ counts-begin q a flat t (λ line n. refl) (λ x. same-loop q a x.stmt) (length flat) (omega arith)
      ∙ ap (count_by t) (take_whole flat)

  ends-there : (number : ℕ) → loop_to flat number < length flat → loop_to (all q a flat) number ≡ stands q a flat (loop_to flat number)
  ends-there number less = first-stands q a flat (λ (x : FlatLine). ends_at number x.stmt) (λ line n. refl) (λ x. same-ends q a number x.stmt) less

  stands-within : (place : ℕ) → place < length flat → stands q a flat place < length (all q a flat)
  stands-within place less = let item = item_at flat place less in slice_get_within (all q a flat) (stands q a flat place) (changed q a item.0) (statement-there q a flat place item.0 item.1)

  not-less : (b : Bool) (m n : ℕ) → n ≤ m → nat_lt m n ≡ b → b ≡ false
  not-less true m n past is = let less = ltb-true m n is in absurd (omega (arith, less, past))
  not-less false m n past is = refl

  pub end-same : (number : ℕ) → is_end (all q a flat) number ≡ is_end flat number
  end-same number =
      ⊎_elim
      (λ (less : loop_to flat number < length flat).
      let e = ends-there number less in
      let within = stands-within (loop_to flat number) less in
      lt-ltb (loop_to (all q a flat) number) (length (all q a flat)) (omega (arith, e, within)) ∙ sym (lt-ltb (loop_to flat number) (length flat) less))
      (λ (past : length flat ≤ loop_to flat number).
      let e : loop_to (all q a flat) number ≡ length (all q a flat) = none-stands q a flat (λ (x : FlatLine). ends_at number x.stmt) (λ line n. refl) (λ x. same-ends q a number x.stmt) past in
      not-less (is_end (all q a flat) number) (loop_to (all q a flat) number) (length (all q a flat)) (omega (arith, e)) refl
      ∙ sym (not-less (is_end flat number) (loop_to flat number) (length flat) past refl))
      (cases_lt (loop_to flat number) (length flat))

  pub loop_to-same : (number : ℕ) → is_end flat number ≡ true → loop_to (all q a flat) number ≡ stands q a flat (loop_to flat number)
  loop_to-same number is = ends-there number (ltb-true (loop_to flat number) (length flat) is)

  -- ---- first executables

  pub first-front : (place j : ℕ) (l : FlatLine) → slice_get flat place ≡ Some l → j ≤ many place → first_of (all q a flat) (begins q a flat place + j) ≡ entry place + j
  first-front place zero l is few = let e : begins q a flat place + 0 ≡ begins q a flat place = omega arith in let same = ap (first_of (all q a flat)) e in omega (arith, same)
  first-front place (suc j) l is few =
      let item = item_at (due_at q a flat place) j (omega (arith, few)) in
      let next = first_of-next (all q a flat) (begins q a flat place + j) (kept_value q a (number_of a) l.line item.0) (kept-there q a flat place j item.0 l is item.1) in
      let one : width (all q a flat) (begins q a flat place + j) (kept_value q a (number_of a) l.line item.0).stmt ≡ 1 = refl in
      let e : begins q a flat place + j + 1 ≡ begins q a flat place + suc j = omega arith in
      let same = ap (first_of (all q a flat)) e in
      let rest = first-front place j l is (omega (arith, few)) in
      omega (arith, next, one, same, rest)

  pub first-statement : (place : ℕ) (l : FlatLine) → slice_get flat place ≡ Some l → first_of (all q a flat) (stands q a flat place) ≡ entry place + many place
  first-statement place l is = first-front place (many place) l is (omega arith)

  -- the statement after
  pub first-next : (place : ℕ) (l : FlatLine) → slice_get flat place ≡ Some l → first_of (all q a flat) (stands q a flat place + 1) ≡ entry (place + 1)
  first-next place l is = ap (first_of (all q a flat)) (sym (begins-next q a flat place l is))

  -- ---- places of marks

  module _ (bare : (place : ℕ) (l : FlatLine) → slice_get flat place ≡ Some l → l.stmt ≡ Mark → due_at q a flat place ≡ []) where
    mark-stands : (place : ℕ) (l : FlatLine) → slice_get flat place ≡ Some l → l.stmt ≡ Mark → stands q a flat place ≡ begins q a flat place
    mark-stands place l is mark = let none : many place ≡ 0 = ap length (bare place l is mark) in omega (arith, none)

    pub place-same : (number : ℕ) → IsNumber (mark_count flat) number → place_of (all q a flat) number ≡ begins q a flat (place_of flat number)
    place-same number is =
        let m = mark-of flat number is in
        let there = statement-there q a flat (place_of flat number) m.line m.is in
        let mark : is_mark (changed q a m.line).stmt ≡ true = ap (λ (stmt : Flat). is_mark (replaced_in q a (number_of a) stmt)) m.mark in
        mark-numbered (all q a flat) (stands q a flat (place_of flat number)) number (changed q a m.line) there mark (mark-same (place_of flat number) m.line m.is ∙ m.numbered)
        ∙ mark-stands (place_of flat number) m.line m.is m.mark

    pub marked-same : (number : ℕ) → IsNumber (mark_count flat) number → Leads (marked flat number) (marked (all q a flat) number)
    marked-same number is = record { place = place_of flat number; old = refl; new = ap (first_of (all q a flat)) (place-same number is) }

    pub beyond-same : (number : ℕ) → IsNumber (mark_count flat) number → Leads (beyond flat number) (beyond (all q a flat) number)
    beyond-same number is =
        let m = mark-of flat number is in
        let here = place-same number is ∙ sym (mark-stands (place_of flat number) m.line m.is m.mark) in
        record { place = place_of flat number + 1; old = refl; new = ap (λ n. first_of (all q a flat) (n + 1)) here ∙ first-next (place_of flat number) m.line m.is }

  -- ---- executables

  pub kept-executable : (place j n : ℕ) (l : FlatLine) → slice_get flat place ≡ Some l → slice_get (due_at q a flat place) j ≡ Some n → slice_get (executables (all q a flat)) (entry place + j) ≡ Some (with_line l.line (Assign (name_alone (temporary q a (number_of a) n)) (candidate q a (number_of a) n) (entry place + (j + 1))))
  kept-executable place j n l is at =
      let within = slice_get_within (due_at q a flat place) j n at in
      let here = first-front place j l is (omega (arith, within)) in
      let e : begins q a flat place + j + 1 ≡ begins q a flat place + (j + 1) = omega arith in
      let next : first_of (all q a flat) (begins q a flat place + j + 1) ≡ entry place + (j + 1) = ap (first_of (all q a flat)) e ∙ first-front place (j + 1) l is (omega (arith, within)) in
      ap (slice_get (executables (all q a flat))) (sym here)
      ∙ leading-at (all q a flat) (begins q a flat place + j) (kept_value q a (number_of a) l.line n) (kept-there q a flat place j n l is at)
      ∙ ap (λ m. Some (with_line l.line (Assign (name_alone (temporary q a (number_of a) n)) (candidate q a (number_of a) n) m))) next

  pub statement-executable : (place : ℕ) (l : FlatLine) → slice_get flat place ≡ Some l → slice_get (executables (all q a flat)) (entry place + many place) ≡ Some (with_line l.line (leading (all q a flat) (stands q a flat place) (replaced_in q a (number_of a) l.stmt)))
  statement-executable place l is =
      ap (slice_get (executables (all q a flat))) (sym (first-statement place l is))
      ∙ leading-at (all q a flat) (stands q a flat place) (changed q a l) (statement-there q a flat place l is)

  pub second-executable : (place : ℕ) (l : FlatLine) (kind : ExecKind) → slice_get flat place ≡ Some l → following (all q a flat) (stands q a flat place) (replaced_in q a (number_of a) l.stmt) ≡ Some kind → slice_get (executables (all q a flat)) (entry place + many place + 1) ≡ Some (with_line l.line kind)
  second-executable place l kind is follows =
      ap (λ n. slice_get (executables (all q a flat)) (n + 1)) (sym (first-statement place l is))
      ∙ following-at (all q a flat) (stands q a flat place) (changed q a l) kind (statement-there q a flat place l is) follows
