-- The DOs of a program are numbered in the order of the text.
use Rattle.std.proofs.Common.{◌≡◌, ℕ, suc, ◌+◌, ◌-◌, ◌<◌, ◌≤◌, List, [], ◌∷◌, Option, Some, None, slice_get, refl, ap, sym, ◌∙◌, ⊎_elim, arith}
use Rattle.std.proofs.lemmas.Bool.{cases_lt, cases_order, cases_eq}
use Rattle.f77_tree.specs.declared.programs.Exec.{Exec}
use Rattle.f77_tree.specs.Loops.{Loop, begun, begun_at, begun_in, do_start, AreLoops}

-- the number after that of the DO that begins here, if one does
abbrev pub number_after : ℕ → Option Loop → ℕ
number_after n None = n
number_after n (Some loop) = suc n

abbrev pub IsNumbered : ℕ → Option Loop → Type 0
IsNumbered n None = Unit {0}
IsNumbered n (Some loop) = loop.number ≡ n

-- the DOs that begin at these executables have the numbers from this one on
abbrev pub AreNumbered : ℕ → List Exec → Type 0
AreNumbered n [] = Unit {0}
AreNumbered n (exec ∷ execs) = IsNumbered n (begun exec.kind) × AreNumbered (number_after n (begun exec.kind)) execs

abbrev pub number_at_end : ℕ → List Exec → ℕ
number_at_end n [] = n
number_at_end n (exec ∷ execs) = number_at_end (number_after n (begun exec.kind)) execs

-- Those that begin before the executable k are the first n.
record AreFirst (execs : List Exec) (count k n : ℕ) : Type 0 where
  most : n ≤ count
  below : (m : ℕ) → m < count → do_start execs m < k → m < n
  above : (m : ℕ) → m < n → do_start execs m < k

-- from the executable k on, these are left
abbrev IsRest : List Exec → ℕ → List Exec → Type 0
IsRest execs k rest = (i : ℕ) → slice_get execs (k + i) ≡ slice_get rest i

rest_after : (execs : List Exec) (k : ℕ) (exec : Exec) (rest : List Exec) → IsRest execs k (exec ∷ rest) → IsRest execs (suc k) rest
rest_after execs k exec rest left i = ap (slice_get execs) (omega arith) ∙ left (suc i)

some_loop : (loop : Loop) → Some loop ≡ None → ⊥
some_loop loop is = cc

begins_not : (execs : List Exec) (count k m : ℕ) → AreLoops execs count → m < count → begun_at execs k ≡ None → do_start execs m ≡ k → ⊥
begins_not execs count k m are lt none is =
    let loop = are.each m lt in
    some_loop loop.loop (sym loop.begins ∙ ap (begun_at execs) is ∙ none)

past : (a k : ℕ) → a < suc k → (a ≡ k → ⊥) → a < k
past a k lt differ = ⊎_elim (λ is. absurd (differ is)) (λ other. ⊎_elim (λ below. below) (λ above. absurd (omega (arith, lt, above))) other) (cases_order a k)

at_none : (execs : List Exec) (count k n : ℕ) → AreLoops execs count → AreFirst execs count k n → begun_at execs k ≡ None → AreFirst execs count (suc k) n
at_none execs count k n are first none = record {
  most = first.most;
  below = λ m lt early. first.below m lt (past (do_start execs m) k early (begins_not execs count k m are lt none));
  above = λ m lt. let early = first.above m lt in omega (arith, early);
}

-- the DO that begins at k
starts_here : (execs : List Exec) (count k : ℕ) (loop : Loop) → AreLoops execs count → begun_at execs k ≡ Some loop → do_start execs loop.number ≡ k
starts_here execs count k loop are is = sym ((are.each loop.number (are.starts k loop is)).one_start k loop is refl)

number_is : (execs : List Exec) (count k n : ℕ) (loop : Loop) → AreLoops execs count → AreFirst execs count k n → begun_at execs k ≡ Some loop → loop.number ≡ n
number_is execs count k n loop are first is =
    let here = starts_here execs count k loop are is in
    let known = are.starts k loop is in
    ⊎_elim (λ same. same)
    (λ other. ⊎_elim
    (λ (below : loop.number < n). let early = first.above loop.number below in absurd (omega (arith, early, here)))
    (λ (above : n < loop.number).
    let before = are.rising n loop.number above known in
    let early = first.below n (omega (arith, above, known)) (omega (arith, before, here)) in
    absurd (omega (arith, early)))
    other)
    (cases_order loop.number n)

same_start : (execs : List Exec) (count m n : ℕ) → AreLoops execs count → m < count → n < count → do_start execs m ≡ do_start execs n → m ≡ n
same_start execs count m n are low lower is =
    ⊎_elim (λ same. same)
    (λ other. ⊎_elim
    (λ (below : m < n). let r = are.rising m n below lower in absurd (omega (arith, r, is)))
    (λ (above : n < m). let r = are.rising n m above low in absurd (omega (arith, r, is)))
    other)
    (cases_order m n)

at_some : (execs : List Exec) (count k n : ℕ) (loop : Loop) → AreLoops execs count → AreFirst execs count k n → begun_at execs k ≡ Some loop → loop.number ≡ n → AreFirst execs count (suc k) (suc n)
at_some execs count k n loop are first is same =
    let known = are.starts k loop is in
    let here = starts_here execs count k loop are is in
    let at_n : do_start execs n ≡ k = ap (do_start execs) (sym same) ∙ here in
    let n_known : n < count = omega (arith, known, same) in
    record {
      most = n_known;
      below = λ m lt early. ⊎_elim
          (λ (at : do_start execs m ≡ k). let one = same_start execs count m n are lt n_known (at ∙ sym at_n) in omega (arith, one))
          (λ differ. let low = first.below m lt (past (do_start execs m) k early differ) in omega (arith, low))
          (cases_eq (do_start execs m) k);
      above = λ m lt. ⊎_elim
          (λ (at : m ≡ n). let there : do_start execs m ≡ k = ap (do_start execs) at ∙ at_n in omega (arith, there))
          (λ differ. let early = first.above m (past m n lt differ) in omega (arith, early))
          (cases_eq m n);
    }

-- all DOs have begun at the end
record AreTold (execs : List Exec) (count n : ℕ) (rest : List Exec) : Type 0 where
  numbered : AreNumbered n rest
  end : number_at_end n rest ≡ count

begins_inside : (execs : List Exec) (count k m : ℕ) → AreLoops execs count → m < count → IsRest execs k [] → do_start execs m < k
begins_inside execs count k m are lt left =
    ⊎_elim (λ early. early)
    (λ (late : k ≤ do_start execs m).
    let at : k + (do_start execs m - k) ≡ do_start execs m = omega (arith, late) in
    let none : slice_get execs (do_start execs m) ≡ None = ap (slice_get execs) (sym at) ∙ left (do_start execs m - k) in
    let loop = are.each m lt in
    absurd (some_loop loop.loop (sym loop.begins ∙ ap begun_in none)))
    (cases_lt (do_start execs m) k)

at_end : (execs : List Exec) (count k n : ℕ) → AreLoops execs count → AreFirst execs count k n → IsRest execs k [] → n ≡ count
at_end execs count k n are first left =
    let most = first.most in
    ⊎_elim
    (λ (more : n < count). let low = first.below n more (begins_inside execs count k n are more left) in absurd (omega (arith, low)))
    (λ (le : count ≤ n). omega (arith, most, le))
    (cases_lt n count)

told_by : (execs : List Exec) (count k n : ℕ) (o : Option Loop) (rest : List Exec) → AreLoops execs count → AreFirst execs count k n → begun_at execs k ≡ o → ((next : ℕ) → AreFirst execs count (suc k) next → AreTold execs count next rest) → AreTold execs count (number_after n o) rest × IsNumbered n o
told_by execs count k n None rest are first here others = (others n (at_none execs count k n are first here), tt)
told_by execs count k n (Some loop) rest are first here others =
    let same = number_is execs count k n loop are first here in
    (others (suc n) (at_some execs count k n loop are first here same), same)

told_from : (execs : List Exec) (count k n : ℕ) (rest : List Exec) → AreLoops execs count → AreFirst execs count k n → IsRest execs k rest → AreTold execs count n rest
told_from execs count k n [] are first left = record { numbered = tt; end = at_end execs count k n are first left }
told_from execs count k n (exec ∷ rest) are first left =
    let here : begun_at execs k ≡ begun exec.kind = ap begun_in (ap (slice_get execs) (omega arith) ∙ left 0) in
    let told = told_by execs count k n (begun exec.kind) rest are first here (λ next known. told_from execs count (suc k) next rest are known (rest_after execs k exec rest left)) in
    record { numbered = (told.1, told.0.numbered); end = told.0.end }

none_first : (execs : List Exec) (count : ℕ) → AreFirst execs count 0 0
none_first execs count = record { most = omega arith; below = λ m lt early. absurd (omega (arith, early)); above = λ m lt. absurd (omega (arith, lt)) }

pub loops_are_numbered : (execs : List Exec) (count : ℕ) → AreLoops execs count → AreNumbered 0 execs
loops_are_numbered execs count are = (told_from execs count 0 0 execs are (none_first execs count) (λ i. ap (slice_get execs) (omega arith))).numbered

pub loops_are_counted : (execs : List Exec) (count : ℕ) → AreLoops execs count → number_at_end 0 execs ≡ count
loops_are_counted execs count are = (told_from execs count 0 0 execs are (none_first execs count) (λ i. ap (slice_get execs) (omega arith))).end
