-- A program that has the executables of flat statements has as many DOs as these.
use Rattle.std.proofs.Common.{◌≡◌, ℕ, zero, suc, ◌+◌, ◌<◌, ◌≤◌, Bool, true, false, cond, List, [], ◌∷◌, length, take, refl, ap, ◌∙◌, ⊎_elim, arith, Option, Some, None}
use Rattle.std.specs.Prelude.{slice_get}
use Rattle.std.specs.List.{count_by}
use Rattle.std.proofs.lemmas.Bool.{cases_Bool, cases_lt}
use Rattle.std.proofs.lemmas.List.Sums.{sum_by-take-le}
use Rattle.list_laws.proofs.Counts.{bit, count-append}
use Rattle.f77_tree.specs.declared.programs.Exec.{Exec}
use Rattle.f77_tree.specs.declared.programs.ExecKind.{ExecKind}
use Rattle.f77_tree.specs.Loops.{Loop, AreLoops, begun, begun_in, do_start}
use Rattle.flat_programs.specs.declared.statements.Flat.{Flat}
use Rattle.flat_programs.specs.declared.statements.Flat.TheVariants.{Mark, Assignment, Output, LogicalIf, ArithmeticIf, ComputedGoTo, DoLoop, Jump, Finish}
use Rattle.flat_programs.specs.declared.statements.FlatLine.{FlatLine}
use Rattle.flat_programs.specs.ExecutablePlaces.{IsExecutableOfSome}
use Rattle.flat_programs.specs.Executables.{executables, first_of, leading, following, increment}
use Rattle.flat_programs.specs.Marks.{is_loop, loop_at, loop_count}
use Rattle.read_back.proofs.MarkPlaces.{take_next, take_all}
use Rattle.read_back.proofs.PrintedPlaces.{get_some}

-- where the executables of flat statements stand
abbrev pub StandFirst : Type 0
StandFirst = (flat : List FlatLine) (place : ℕ) (l : FlatLine) → slice_get flat place ≡ Some l → slice_get (executables flat) (first_of flat place) ≡ Some (record { line = l.line; kind = leading flat place l.stmt })

abbrev pub AreOnly : Type 0
AreOnly = (flat : List FlatLine) (k : ℕ) (exec : Exec) → slice_get (executables flat) k ≡ Some exec → IsExecutableOfSome flat k exec

module _ (flat : List FlatLine) where
  abbrev begins : FlatLine → Bool
  begins l = is_loop l.stmt

  pub loops_next : (place : ℕ) (l : FlatLine) → slice_get flat place ≡ Some l → loop_at flat (suc place) ≡ loop_at flat place + bit (is_loop l.stmt)
  loops_next place l there = grind (arith, bit (is_loop l.stmt), take_next flat place l there, count-append begins (take place flat) (l ∷ []))

  -- a DO has a number below their count
  below_count : (place : ℕ) (l : FlatLine) → slice_get flat place ≡ Some l → is_loop l.stmt ≡ true → loop_at flat place < loop_count flat
  below_count place l there is =
      let next : loop_at flat (suc place) ≡ loop_at flat place + 1 = loops_next place l there ∙ ap (λ b. loop_at flat place + bit b) is in
      let most : loop_at flat (suc place) ≤ loop_count flat = sum_by-take-le (λ (k : FlatLine). cond (is_loop k.stmt) 1 0) flat (suc place) in
      omega (arith, next, most)

  record IsBegun (place : ℕ) (stmt : Flat) (loop : Loop) : Type 0 where
    is : is_loop stmt ≡ true
    number : loop.number ≡ loop_at flat place

  begun_by : (place : ℕ) (stmt : Flat) (loop : Loop) → begun (leading flat place stmt) ≡ Some loop → IsBegun place stmt loop
  begun_by place h loop is = grind arith

  -- the executable after the first one begins none
  none_if : (ends : Bool) (head next : ℕ) (kind : ExecKind) (loop : Loop) → cond ends (Some (increment flat head next)) None ≡ Some kind → begun kind ≡ Some loop → ⊥
  none_if true head next kind loop is starts = let same : increment flat head next ≡ kind = cc in let no : None ≡ Some loop = ap begun same ∙ starts in absurd cc
  none_if false head next kind loop is starts = absurd cc

  none_after : (place : ℕ) (stmt : Flat) (kind : ExecKind) (loop : Loop) → following flat place stmt ≡ Some kind → begun kind ≡ Some loop → ⊥
  none_after place h kind loop is starts = grind (arith, none_if)

  module _ (stand : StandFirst) (only : AreOnly) (count : ℕ) (are : AreLoops (executables flat) count) where
    started : (place : ℕ) (l : FlatLine) → slice_get flat place ≡ Some l → (stmt : Flat) → l.stmt ≡ stmt → is_loop stmt ≡ true → loop_at flat place < count
    started place l there Mark same is = absurd cc
    started place l there (Assignment target value) same is = absurd cc
    started place l there (Output items) same is = absurd cc
    started place l there (LogicalIf condition target) same is = absurd cc
    started place l there (ArithmeticIf value below at above) same is = absurd cc
    started place l there (ComputedGoTo value targets) same is = absurd cc
    started place l there (DoLoop end var first last step) same is =
        are.starts (first_of flat place) _ (ap begun_in (stand flat place l there) ∙ ap (λ stmt. begun (leading flat place stmt)) same)
    started place l there (Jump target) same is = absurd cc
    started place l there Finish same is = absurd cc

    up_to : (place : ℕ) → place ≤ length flat → loop_at flat place ≤ count
    up_to zero le = let none : loop_at flat 0 ≡ 0 = refl in omega (arith, none)
    up_to (suc place) le =
        let found = get_some flat place (omega (arith, le)) in
        let next = loops_next place found.0 found.1 in
        ⊎_elim
        (λ (is : is_loop found.0.stmt ≡ true).
        let one : bit (is_loop found.0.stmt) ≡ 1 = ap bit is in
        let less = started place found.0 found.1 found.0.stmt refl is in
        omega (arith, next, one, less))
        (λ (none : is_loop found.0.stmt ≡ false).
        let nothing : bit (is_loop found.0.stmt) ≡ 0 = ap bit none in
        let before = up_to place (omega (arith, le)) in
        omega (arith, next, nothing, before))
        (cases_Bool (is_loop found.0.stmt))

    -- what begins a DO has a number below the count of the flat statements
    begun_below : (k : ℕ) (found : Option Exec) (loop : Loop) → slice_get (executables flat) k ≡ found → begun_in found ≡ Some loop → loop.number < loop_count flat
    begun_below k None loop at is = absurd cc
    begun_below k (Some exec) loop at is =
        let of = only flat k exec at in
        let l = of.of.statement in
        ⊎_elim
        (λ first.
        let by = begun_by of.place l.stmt loop (ap begun first.1 ∙ is) in
        let less = below_count of.place l of.of.there by.is in
        let same = by.number in
        omega (arith, less, same))
        (λ second. absurd (none_after of.place l.stmt exec.kind loop second.1 is))
        of.of.which

    pub loops_counted : count ≡ loop_count flat
    loops_counted =
        let all : loop_at flat (length flat) ≡ loop_count flat = ap (count_by begins) (take_all flat) in
        let least = up_to (length flat) (omega arith) in
        ⊎_elim
        (λ (lt : loop_count flat < count).
        let it = are.each (loop_count flat) lt in
        let less = begun_below (do_start (executables flat) (loop_count flat)) (slice_get (executables flat) (do_start (executables flat) (loop_count flat))) it.loop refl it.begins in
        let same = it.number in
        absurd (omega (arith, less, same)))
        (λ (le : count ≤ loop_count flat). omega (arith, le, least, all))
        (cases_lt (loop_count flat) count)
