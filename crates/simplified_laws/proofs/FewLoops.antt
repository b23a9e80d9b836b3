-- The simplified form has no more DOs than the program: each is that of an executable that begins one.
use Rattle.std.proofs.Common.{◌≡◌, ℕ, zero, suc, ◌+◌, ◌<◌, ◌≤◌, ◌⊎◌, ℤ, Bool, true, false, List, [], ◌∷◌, ◌++◌, length, map, count_by, Option, Some, None, refl, sym, ap, subst, ◌∙◌, inl, inr, ⊎_elim, arith}
use Rattle.std.specs.Prelude.{if◌then◌else◌, slice_get}
use Rattle.std.proofs.lemmas.Bool.{cases_lt}
use Rattle.list_laws.proofs.Counts.{count-append, count-cons, count-map}
use Rattle.f77_tree.specs.declared.programs.ExecKind.{ExecKind}
use Rattle.f77_tree.specs.declared.programs.ExecKind.TheVariants.{Assign, Print, Pass, Test, Sign, Pick, DoStart, DoNext, End}
use Rattle.f77_tree.specs.declared.programs.Program.{Program}
use Rattle.f77_tree.specs.Loops.{Loop, begun, begun_at, do_start, AreLoops}
use Rattle.alias_classes.specs.Classes.{ClassTable}
use Rattle.alias_classes.specs.WriteLaws.{FewerLoopsFewerClasses, HaveSameWords}
use Rattle.cfg_build.specs.Parts.{line_in}
use Rattle.const_prop.specs.Table.{Knowns}
use Rattle.flat_programs.specs.declared.statements.Flat.TheVariants.{Jump}
use Rattle.flat_programs.specs.declared.statements.FlatLine.{FlatLine}
use Rattle.flat_programs.specs.Executables.{program_of}
use Rattle.flat_programs.specs.Marks.{is_loop, loop_count}
use Rattle.simplified_forms.specs.Items.{kind_at}
use Rattle.simplified_forms.specs.Simplified.{decided, left_of, mark_of, words_at}
use Rattle.simplified_laws.specs.SimplifiedClasses.{SimplifiedProgramsHaveNoMoreClasses}
use Rattle.simplified_laws.proofs.FlatItems.{all, jumps_of, left_over, mark_by, marked, own_of, part, stmts, with_line}
use Rattle.simplified_laws.proofs.ListParts.{joined, joined-more}
use Rattle.simplified_laws.proofs.LoopEnds.{begun-at}

-- ---- the DOs of one executable

-- an executable that begins a DO has one
record HasOneLoop (kind : ExecKind) (count : ℕ) : Type 0 where
  loop : Loop
  begins : begun kind ≡ Some loop
  most : count ≤ 1

abbrev HasLoops : (kind : ExecKind) (count : ℕ) → Type 0
HasLoops kind count = (count ≡ 0) ⊎ HasOneLoop kind count

loops-same : (kind : ExecKind) (m n : ℕ) → m ≡ n → HasLoops kind m → HasLoops kind n
loops-same kind m n same has = subst (HasLoops kind) same has

left-loops : (p : Program) (checked : Bool) (words : ℕ → Option ℤ) (mark : ℕ → ℕ) (kind : ExecKind) (d : Option ℕ) → HasLoops kind (count_by is_loop (left_of p checked words mark kind d))
left-loops p checked words mark (Assign target value next) d = inl refl
left-loops p checked words mark (Print items next) d = inl refl
left-loops p checked words mark (Pass next) d = inl refl
left-loops p checked words mark (Test cond a b) None = inl refl
left-loops p checked words mark (Test cond a b) (Some i) = inl refl
left-loops p checked words mark (Sign value a b c) None = inl refl
left-loops p checked words mark (Sign value a b c) (Some i) = inl refl
left-loops p checked words mark (Pick value targets other) None = inl refl
left-loops p checked words mark (Pick value targets other) (Some i) = inl refl
left-loops p checked words mark (DoStart loop_no var first last step body exit) d = inr (record { loop = record { number = loop_no; variable = var; body = body; exit = exit }; begins = refl; most = omega arith })
left-loops p checked words mark (DoNext loop_no var body exit) d = inl refl
left-loops p checked words mark End d = inl refl

jumps-loops : (xs : List ℕ) (mark : ℕ → ℕ) → count_by is_loop (map (λ s. Jump (mark s)) xs) ≡ 0
jumps-loops [] mark = refl
jumps-loops (x ∷ xs) mark = let e = count-cons is_loop (Jump (mark x)) (map (λ s. Jump (mark s)) xs) in let r = jumps-loops xs mark in omega (arith, e, r)

module _ (p : Program) (c : ClassTable) (t : Knowns) (checked : Bool) (is_item : ℕ → Bool) where
  mark-loops : (b : Bool) → count_by is_loop (mark_by p c t checked is_item b) ≡ 0
  mark-loops true = refl
  mark-loops false = refl

  stmts-loops : (k : ℕ) → count_by is_loop (own_of p c t checked is_item k) ≡ count_by is_loop (stmts p c t checked is_item k)
  stmts-loops k =
      let first = mark_by p c t checked is_item (marked p c t checked is_item k) in
      let own = own_of p c t checked is_item k in
      let both = count-append is_loop (first ++ own) (jumps_of p c t checked is_item k) in
      let one = count-append is_loop first own in
      let mark = mark-loops (marked p c t checked is_item k) in
      let none = jumps-loops (left_over p c t checked is_item k) (mark_of p t is_item) in
      omega (arith, both, one, mark, none)

  abbrev count : List FlatLine → ℕ
  count ls = count_by (λ (l : FlatLine). is_loop l.stmt) ls

  part-by : (k : ℕ) (b : Bool) → HasLoops (kind_at p k) (count (if b then map (with_line (line_in (slice_get p.execs k))) (stmts p c t checked is_item k) else []))
  part-by k true =
      loops-same (kind_at p k) (count_by is_loop (own_of p c t checked is_item k)) (count (map (with_line (line_in (slice_get p.execs k))) (stmts p c t checked is_item k)))
      (stmts-loops k ∙ sym (count-map (λ (l : FlatLine). is_loop l.stmt) (with_line (line_in (slice_get p.execs k))) (stmts p c t checked is_item k)))
      (left-loops p checked (words_at p c t checked is_item k) (mark_of p t is_item) (kind_at p k) (decided p t k))
  part-by k false = inl refl

  part-loops : (k : ℕ) → HasLoops (kind_at p k) (count (part p c t checked is_item k))
  part-loops k = part-by k (is_item k)

  -- ---- the DOs of all executables

  -- the DOs that begin before an executable have numbers below m
  abbrev StartBelow : (k m : ℕ) → Type 0
  StartBelow k m = (j : ℕ) (loop : Loop) → j < k → begun_at p.execs j ≡ Some loop → loop.number < m

  module _ (loops : AreLoops p.execs p.loops) where
    -- the number of a DO is above those of the DOs that begin before it
    start-above : (k : ℕ) (loop : Loop) → begun_at p.execs k ≡ Some loop → StartBelow k loop.number
    start-above k loop begins j earlier before starts = ⊎_elim
        (λ (less : earlier.number < loop.number). less)
        (λ (le : loop.number ≤ earlier.number).
        let here = (loops.each loop.number (loops.starts k loop begins)).one_start k loop begins refl in
        let there = (loops.each earlier.number (loops.starts j earlier starts)).one_start j earlier starts refl in
        ⊎_elim
        (λ (less : loop.number < earlier.number). let rise = loops.rising loop.number earlier.number less (loops.starts j earlier starts) in absurd (omega (arith, here, there, rise, before)))
        (λ (ge : earlier.number ≤ loop.number).
        let numbers : earlier.number ≡ loop.number = omega (arith, le, ge) in
        let same = ap (do_start p.execs) numbers in
        absurd (omega (arith, here, there, same, before)))
        (cases_lt loop.number earlier.number))
        (cases_lt earlier.number loop.number)

    loops-most : (k m : ℕ) → StartBelow k m → count (joined (part p c t checked is_item) k) ≤ m
    loops-most zero m below = omega arith
    loops-most (suc k) m below =
        let same : k + 1 ≡ suc k = omega arith in
        let e = ap (λ n. count (joined (part p c t checked is_item) n)) same in
        let more = ap count (joined-more (part p c t checked is_item) k) in
        let both = count-append (λ (l : FlatLine). is_loop l.stmt) (joined (part p c t checked is_item) k) (part p c t checked is_item k) in
        ⊎_elim
        (λ (none : count (part p c t checked is_item k) ≡ 0).
        let rest = loops-most k m (λ j loop before begins. below j loop (omega (arith, before)) begins) in
        omega (arith, e, more, both, none, rest))
        (λ (one : HasOneLoop (kind_at p k) (count (part p c t checked is_item k))).
        let begins = begun-at (slice_get p.execs k) one.loop one.begins in
        let rest = loops-most k one.loop.number (start-above k one.loop begins) in
        let least = below k one.loop (omega arith) begins in
        let most = one.most in
        omega (arith, e, more, both, most, rest, least))
        (part-loops k)

    pub few-loops : loop_count (all p c t checked is_item) ≤ p.loops
    few-loops = loops-most (length p.execs) p.loops (λ j loop before begins. loops.starts j loop begins)

pub no-more-classes : FewerLoopsFewerClasses → SimplifiedProgramsHaveNoMoreClasses
no-more-classes fewer p c t checked q well s =
    let same : program_of p (all p c t checked s.simplified.is_item) ≡ q = sym (s.is ∙ ap (program_of p) s.simplified.are) in
    let words : HaveSameWords p q = subst (HaveSameWords p) same (record { names = refl; words = refl }) in
    let loops = few-loops p c t checked s.simplified.is_item well.execs.loops_nest in
    let least : q.loops ≤ p.loops = subst (λ (x : Program). x.loops ≤ p.loops) same loops in
    record { words = words; loops = least; classes = fewer p q words least }
