-- The executables in the range of each DO.
use Rattle.std.proofs.Common.{◌≡◌, ℕ, zero, suc, ◌+◌, ◌-◌, ◌<◌, ◌≤◌, Bool, true, false, cond, inl, inr, List, [], ◌∷◌, length, drop, All, refl, sym, ap, subst, ◌∙◌, arith, Option, Some, None}
use Rattle.std.specs.Prelude.{slice_get, reverse}
use Rattle.std.specs.List.{position_or_len}
use Rattle.std.proofs.lemmas.Bool.{cases_eq, eq-eqb, eqb-true}
use Rattle.std.proofs.lemmas.List.{drop_all}
use Rattle.std.proofs.lemmas.Option.{slice_get_within}
use Rattle.f77_tree.specs.declared.programs.Exec.{Exec}
use Rattle.f77_tree.specs.declared.programs.NameInfo.{NameInfo}
use Rattle.f77_tree.specs.declared.statements.Labelled.{Labelled}
use Rattle.f77_tree.specs.Loops.{Loop, is_number}
use Rattle.layout_rules.specs.Source.{EndsWithEnd}
use Rattle.layout_rules.specs.Labels.{statement_of, is_executable, is_arm}
use Rattle.layout_rules.specs.Jumps.{end_after, end_of_block, is_block_if, is_end_if}
use Rattle.layout_rules.specs.Nesting.{first_unnested}
use Rattle.layout_rules.specs.Tables.{IsUsable}
use Rattle.layout_rules.specs.Executables.{own_executables, loops_above, loops_to, first_of, met, met_after, exit_after, exit_among, exit_of, increments_at}
use Rattle.control_structure.proofs.Exits.{label-of_statement, EndsAmong, ends_among, among-length, among-exit, ends-more}
use Rattle.control_structure.proofs.LabelLemmas.{position-passes, position-upto}
use Rattle.control_structure.proofs.Meeting.{met-step, end_of_block-within}
use Rattle.control_structure.proofs.OpenSpans.{AreLabelled}
use Rattle.control_laws.proofs.LoopPlaces.{first-next, first-rises}
use Rattle.control_laws.proofs.LoopSpans.{IsDo, do-in, ends-later, ends-inside}
use Rattle.control_structure.proofs.Walks.{item_at}

-- ---- where control comes to

no-less : (least : ℕ) (b : Bool) (m n : ℕ) → least ≤ m → least ≤ n → least ≤ cond b m n
no-less least true m n one other = one
no-less least false m n one other = other

pub end_after-later : (arms : Bool) (inner : ℕ) (rest : List Labelled) (place : ℕ) → place ≤ end_after arms inner rest place
end_after-later arms inner [] place = omega arith
end_after-later arms inner (s ∷ rest) place =
    let on : (n : ℕ) → place ≤ end_after arms n rest (place + 1) = λ n. omega (arith, end_after-later arms n rest (place + 1)) in
    no-less place (is_block_if s.stmt) _ _ (on (inner + 1)) (no-less place _ place _ (omega arith) (no-less place (is_end_if s.stmt) _ _ (on (inner - 1)) (on inner)))

pub end_of_block-later : (whole : List Labelled) (place : ℕ) → place < end_of_block whole place
end_of_block-later whole place = omega (arith, end_after-later false 0 (drop (place + 1) whole) (place + 1))

met-more : (whole : List Labelled) (n place : ℕ) → place + n ≡ length whole → first_of whole place ≤ met whole place
met-more whole zero place sum =
    let none : met whole place ≡ first_of whole place = ap (λ (rest : List Labelled). met_after whole rest place) (drop_all place whole (omega (arith, sum))) in
    omega (arith, none)
met-more whole (suc n) place sum =
    let here = item_at whole place (omega (arith, sum)) in
    let block = end_of_block whole place in
    let first = first_of whole place in
    let arm : first_of whole place ≤ first_of whole block = first-rises whole place block (omega (arith, end_of_block-later whole place)) (end_of_block-within whole place (omega (arith, sum))) in
    let rest : first_of whole (place + 1) ≤ met whole (place + 1) = met-more whole n (place + 1) (omega (arith, sum)) in
    let up = first-rises whole place (place + 1) (omega arith) (omega (arith, sum)) in
    subst (λ (k : ℕ). first_of whole place ≤ k) (sym (met-step whole place here.0 here.1)) (no-less first (is_arm here.0.stmt) _ _ arm (no-less first (is_executable here.0.stmt) first _ (omega arith) (omega (arith, rest, up))))

-- control falls to no statement above
pub met-later : (whole : List Labelled) (place : ℕ) → place ≤ length whole → first_of whole place ≤ met whole place
met-later whole place within = met-more whole (length whole - place) place (omega (arith, within))

-- ---- the first item that passes

position-only : {X : Type 0} (p : X → Bool) (xs : List X) (k : ℕ) (x : X) → slice_get xs k ≡ Some x → p x ≡ true → ((j : ℕ) (y : X) → slice_get xs j ≡ Some y → p y ≡ true → j ≡ k) → position_or_len p xs ≡ k
position-only p xs k x at passes only =
    let y = item_at xs (position_or_len p xs) (omega (arith, position-upto p xs k x at passes, slice_get_within xs k x at)) in
    only (position_or_len p xs) y.0 y.1 (position-passes p xs y.0 y.1)

number-of : (n : ℕ) (o : Option Loop) → is_number n o ≡ true → (loop : Loop) × (o ≡ Some loop) × (loop.number ≡ n)
number-of n None e = let h : false ≡ true = e in absurd cc
number-of n (Some loop) e = (loop, refl, eqb-true loop.number n e)

-- the executable of which f tells the DO n
pub position-number : (f : Exec → Option Loop) (execs : List Exec) (n k : ℕ) (e : Exec) (loop : Loop) → slice_get execs k ≡ Some e → f e ≡ Some loop → loop.number ≡ n → ((j : ℕ) (x : Exec) (other : Loop) → slice_get execs j ≡ Some x → f x ≡ Some other → other.number ≡ n → j ≡ k) → position_or_len (λ x. is_number n (f x)) execs ≡ k
position-number f execs n k e loop at is number only = position-only (λ x. is_number n (f x)) execs k e at (ap (is_number n) is ∙ eq-eqb loop.number n number)
    (λ j x got passes. let its = number-of n (f x) passes in only j x its.0 got its.1 its.2)

-- ---- the executables of a DO

-- a DO with the statement at which its range ends
pub record Spot (whole : List Labelled) (d label : ℕ) : Type 0 where
  pub it : IsDo whole d label
  pub terminal : Labelled
  pub stands : slice_get whole (statement_of whole label) ≡ Some terminal
  pub its : terminal.label ≡ label
  pub among : EndsAmong whole label d (loops_to whole label)
  pub later : d < statement_of whole label

-- the executable that increments it
abbrev pub next_of : (whole : List Labelled) (d label : ℕ) → Spot whole d label → ℕ
next_of whole d label spot = first_of whole (statement_of whole label) + own_executables spot.terminal.stmt + length spot.among.inner

module _ (names : List NameInfo) (checked : Bool) (whole : List Labelled) (usable : All (IsUsable whole) whole) (are : AreLabelled whole) (ended : EndsWithEnd whole) (nested : first_unnested [] whole ≡ None) where
  pub spot-of : (d label : ℕ) → IsDo whole d label → Spot whole d label
  spot-of d label it =
      let terminal = item_at whole (statement_of whole label) (ends-inside whole usable d label it) in
      record {
        it = it;
        terminal = terminal.0;
        stands = terminal.1;
        its = label-of_statement whole label terminal.0 terminal.1;
        among = ends_among whole label d (length whole) (slice_get_within whole d it.s it.stands) (do-in whole d label it);
        later = ends-later whole are ended nested d label it;
      }

-- in numbers
module _ (whole : List Labelled) (d label : ℕ) (spot : Spot whole d label) where
  -- the executables of the statement at which the range ends
  terminal-next : first_of whole (statement_of whole label + 1) ≡ first_of whole (statement_of whole label) + (own_executables spot.terminal.stmt + length (loops_to whole label))
  terminal-next =
      let next = first-next whole (statement_of whole label) spot.terminal spot.stands in
      next ∙ ap (λ (l : ℕ). first_of whole (statement_of whole label) + (own_executables spot.terminal.stmt + length (loops_to whole l))) spot.its

  pub next-before : next_of whole d label spot < first_of whole (statement_of whole label + 1)
  next-before = omega (arith, terminal-next, among-length whole label d spot.among)

  -- the DO has its DoStart
  pub start-own : first_of whole d + 1 ≤ first_of whole (d + 1)
  start-own =
      let next = first-next whole d spot.it.s spot.it.stands in
      let one : own_executables spot.it.s.stmt ≡ 1 = ap own_executables spot.it.is in
      omega (arith, next, one)

  terminal-inside : statement_of whole label + 1 ≤ length whole
  terminal-inside = omega (arith, slice_get_within whole (statement_of whole label) spot.terminal spot.stands)

  -- a statement below the DO begins later, and one below the range after it
  pub later : (p : ℕ) → d < p → p ≤ length whole → first_of whole d < first_of whole p
  later p lt within = omega (arith, start-own, first-rises whole (d + 1) p (omega (arith, lt)) within)

  pub past : (p : ℕ) → statement_of whole label < p → p ≤ length whole → next_of whole d label spot < first_of whole p
  past p lt within = omega (arith, next-before, first-rises whole (statement_of whole label + 1) p (omega (arith, lt)) within)

  pub start-before : first_of whole d < next_of whole d label spot
  start-before = omega (arith, later (statement_of whole label) spot.later (omega (arith, terminal-inside)))

  pub exit-is : exit_of whole label d ≡ exit_after whole (statement_of whole label) (next_of whole d label spot) (reverse (loops_above whole label d))
  exit-is =
      let t = statement_of whole label in
      ap (λ (o : Option Labelled). exit_among whole t (increments_at whole t o) (loops_to whole label) d) spot.stands
      ∙ among-exit whole label d spot.among t (first_of whole t + own_executables spot.terminal.stmt)

  pub exit-later : next_of whole d label spot < exit_of whole label d
  exit-later = subst (λ (k : ℕ). next_of whole d label spot < k) (sym exit-is) (by (reverse (loops_above whole label d)))
    where
      by : (outer : List ℕ) → next_of whole d label spot < exit_after whole (statement_of whole label) (next_of whole d label spot) outer
      by [] = omega (arith, next-before, met-later whole (statement_of whole label + 1) terminal-inside)
      by (x ∷ outer) = omega arith

-- of two DOs, one in the range of the other
pub next-nested : (whole : List Labelled) (c d outer inner : ℕ) (one : Spot whole c outer) (other : Spot whole d inner) → c < d → statement_of whole inner ≤ statement_of whole outer → next_of whole d inner other ≤ next_of whole c outer one
next-nested whole c d outer inner one other lt le = elim (cases_eq (statement_of whole inner) (statement_of whole outer)) as (λ _. next_of whole d inner other ≤ next_of whole c outer one) [
  | inl same ↦
      let there : slice_get whole (statement_of whole outer) ≡ Some other.terminal = ap (slice_get whole) (sym same) ∙ other.stands in
      let terminal : one.terminal ≡ other.terminal = let e : Some one.terminal ≡ Some other.terminal = sym one.stands ∙ there in cc in
      let label : outer ≡ inner = sym one.its ∙ ap (λ (t : Labelled). t.label) terminal ∙ other.its in
      let own = ap (λ (t : Labelled). own_executables t.stmt) terminal in
      let many = ap (λ (l : ℕ). length (loops_to whole l)) label in
      let above = ap (λ (l : ℕ). length (loops_above whole l d)) label in
      let first = ap (first_of whole) same in
      let fewer = ends-more whole outer c d (do-in whole c outer one.it) lt in
      omega (arith, own, many, above, first, fewer, among-length whole outer c one.among, among-length whole inner d other.among)
  | inr apart ↦ omega (arith, past whole d inner other (statement_of whole outer) (omega (arith, le, apart)) (omega (arith, slice_get_within whole (statement_of whole outer) one.terminal one.stands)))
]
