-- Each DO has one DoStart and one DoNext, and the ranges of DOs are nested.
use Rattle.std.proofs.Common.{◌≡◌, ℕ, suc, ◌+◌, ◌<◌, ◌≤◌, Bool, ◌⊎◌, inl, inr, ⊎_elim, List, [], length, drop, All, refl, sym, ap, subst, ◌∙◌, arith, Some, None, true, false, cond, take}
use Rattle.std.specs.Prelude.{slice_get, reverse, filter}
use Rattle.std.proofs.lemmas.Bool.{cases_lt, cases_order}
use Rattle.std.proofs.lemmas.Option.{slice_get_within, get_or_from_slice_get}
use Rattle.std.proofs.lemmas.List.{take_all}
use Rattle.std.proofs.lemmas.List.Sums.{length-filter}
use Rattle.f77_tree.specs.declared.programs.Exec.{Exec}
use Rattle.f77_tree.specs.declared.programs.NameInfo.{NameInfo}
use Rattle.f77_tree.specs.declared.statements.Labelled.{Labelled}
use Rattle.f77_tree.specs.declared.statements.Stmt.TheVariants.{Do}
use Rattle.f77_tree.specs.Declarations.{index_of}
use Rattle.f77_tree.specs.Loops.{Loop, begun, incremented, begun_in, incremented_in, begun_at, incremented_at, do_start, do_next, IsLoop, Holds, ShareNone}
use Rattle.layout_rules.specs.Source.{EndsWithEnd}
use Rattle.layout_rules.specs.Labels.{statement_of}
use Rattle.layout_rules.specs.Nesting.{first_unnested}
use Rattle.layout_rules.specs.Tables.{IsUsable}
use Rattle.layout_rules.specs.Executables.{own_executables, loops_above, loops_to, first_of, executables, do_variable, variable_of, is_do, loop_number, exit_after, exit_of}
use Rattle.control_structure.proofs.OpenSpans.{AreLabelled}
use Rattle.f77_tree.specs.declared.statements.Stmt.{Stmt}
use Rattle.control_structure.proofs.OwnExecutables.{sum-more}
use Rattle.control_structure.proofs.Walks.{item_at}
use Rattle.control_laws.proofs.LoopPlaces.{step-at, sum-rises}
use Rattle.control_laws.proofs.LoopBegins.{begun-exec, incremented-exec, start-at, start-only, next-at, next-only, loop_of, next_loop}
use Rattle.control_laws.proofs.LoopSpans.{IsDo, ends-do, opens-do, ends-nested, among-got, among-outer, among-once}
use Rattle.control_laws.proofs.LoopRanges.{position-number, Spot, next_of, spot-of, start-before, exit-is, exit-later, next-nested, later, past}

pub is_do-do : (whole : List Labelled) (d : ℕ) (s : Labelled) → slice_get whole d ≡ Some s → is_do s.stmt ≡ true → (label : ℕ) × IsDo whole d label
is_do-do whole d s here is = by s.stmt refl is
  where
    by : (stmt : Stmt) → s.stmt ≡ stmt → is_do stmt ≡ true → (label : ℕ) × IsDo whole d label
    by (Do label variable first last step) same e = (label, record { s = s; variable = variable; first = first; last = last; step = step; stands = here; is = same })
    by _ same e = let h : false ≡ true = e in absurd cc

number-next : (whole : List Labelled) (i : ℕ) (s : Labelled) → slice_get whole i ≡ Some s → loop_number whole (i + 1) ≡ loop_number whole i + cond (is_do s.stmt) 1 0
number-next whole i s here =
    let p : Labelled → Bool = λ t. is_do t.stmt in
    let more = sum-more (λ (t : Labelled). cond (is_do t.stmt) 1 0) whole i s (slice_get_within whole i s here) (sym (get_or_from_slice_get whole i s s here)) in
    omega (arith, length-filter p (take (i + 1) whole), length-filter p (take i whole), more)

bit : (b : Bool) (m n k : ℕ) → n ≡ m + cond b 1 0 → m ≤ k → k < n → (b ≡ true) × (k ≡ m)
bit true m n k is le lt = (refl, omega (arith, is, le, lt))
bit false m n k is le lt = absurd (omega (arith, is, le, lt))

pub number-rises : (whole : List Labelled) (i j : ℕ) → i ≤ j → j ≤ length whole → loop_number whole i ≤ loop_number whole j
number-rises whole i j le within =
    let p : Labelled → Bool = λ t. is_do t.stmt in
    omega (arith, length-filter p (take i whole), length-filter p (take j whole), sum-rises (λ (t : Labelled). cond (is_do t.stmt) 1 0) whole i j le)

-- a later DO has a greater number
pub number-less : (whole : List Labelled) (c d label : ℕ) → IsDo whole c label → c < d → d ≤ length whole → loop_number whole c < loop_number whole d
number-less whole c d label it lt within =
    let next : loop_number whole (c + 1) ≡ loop_number whole c + 1 = number-next whole c it.s it.stands ∙ ap (λ (t : Stmt). loop_number whole c + cond (is_do t) 1 0) it.is in
    omega (arith, next, number-rises whole (c + 1) d (omega (arith, lt)) within)

-- each DO has a number of its own
pub number-once : (whole : List Labelled) (c d outer inner : ℕ) → IsDo whole c outer → IsDo whole d inner → loop_number whole c ≡ loop_number whole d → c ≡ d
number-once whole c d outer inner one other same =
    let less : c < d → ⊥ = λ lt. omega (arith, same, number-less whole c d outer one lt (omega (arith, slice_get_within whole d other.s other.stands))) in
    let more : d < c → ⊥ = λ lt. omega (arith, same, number-less whole d c inner other lt (omega (arith, slice_get_within whole c one.s one.stands))) in
    omega (arith, less, more)

-- the DO with this number
pub record Numbered (whole : List Labelled) (n : ℕ) : Type 0 where
  pub d : ℕ
  pub label : ℕ
  pub it : IsDo whole d label
  pub number : loop_number whole d ≡ n

-- there are as many numbers as DOs
pub count-is : (whole : List Labelled) → length (filter (λ s. is_do s.stmt) whole) ≡ loop_number whole (length whole)
count-is whole = sym (ap (λ (xs : List Labelled). length (filter (λ (s : Labelled). is_do s.stmt) xs)) (take_all (length whole) whole (omega arith)))

pub numbered : (whole : List Labelled) (n : ℕ) → n < length (filter (λ s. is_do s.stmt) whole) → Numbered whole n
numbered whole n lt =
    let at = step-at (loop_number whole) (length whole) n refl (omega (arith, lt, count-is whole)) in
    let here = item_at whole at.0 at.1 in
    let is = bit (is_do here.0.stmt) (loop_number whole at.0) (loop_number whole (at.0 + 1)) n (number-next whole at.0 here.0 here.1) at.2 at.3 in
    let it = is_do-do whole at.0 here.0 here.1 is.0 in
    record { d = at.0; label = it.0; it = it.1; number = sym is.1 }

pub number-below : (whole : List Labelled) (d label : ℕ) → IsDo whole d label → loop_number whole d < length (filter (λ s. is_do s.stmt) whole)
number-below whole d label it = omega (arith, count-is whole, number-less whole d (length whole) label it (slice_get_within whole d it.s it.stands) (omega arith))

-- a DO names one label
pub label-once : (whole : List Labelled) (d a b : ℕ) → IsDo whole d a → IsDo whole d b → a ≡ b
label-once whole d a b one other =
    let same : one.s ≡ other.s = let e : Some one.s ≡ Some other.s = sym one.stands ∙ other.stands in cc in
    let e : Do a one.variable one.first one.last one.step ≡ Do b other.variable other.first other.last other.step = sym one.is ∙ (ap (λ (t : Labelled). t.stmt) same ∙ other.is) in
    cc

module _ (names : List NameInfo) (checked : Bool) (whole : List Labelled) (usable : All (IsUsable whole) whole) (are : AreLabelled whole) (ended : EndsWithEnd whole) (nested : first_unnested [] whole ≡ None) where
  abbrev execs : List Exec
  execs = executables names checked whole

  -- ---- the DoStart

  start-once : (d label : ℕ) → IsDo whole d label → (k : ℕ) (other : Loop) → begun_at execs k ≡ Some other → other.number ≡ loop_number whole d → k ≡ first_of whole d
  start-once d label it k other is number =
      let at = start-only names checked whole usable k other is in
      let one = is_do-do whole at.d at.s at.stands at.is_do in
      let same : at.d ≡ d = number-once whole at.d d one.0 label one.1 it (sym at.number ∙ number) in
      at.at ∙ ap (first_of whole) same

  start-told : (d label : ℕ) (it : IsDo whole d label) → begun_at execs (first_of whole d) ≡ Some (loop_of names whole d label it.variable)
  start-told d label it = start-at names checked whole usable d it.s label it.variable it.first it.last it.step it.stands it.is

  pub start-is : (d label : ℕ) → IsDo whole d label → do_start execs (loop_number whole d) ≡ first_of whole d
  start-is d label it =
      let loop = loop_of names whole d label it.variable in
      let at = begun-exec (slice_get execs (first_of whole d)) loop (start-told d label it) in
      position-number (λ (e : Exec). begun e.kind) execs (loop_number whole d) (first_of whole d) at.0 loop at.1 at.2 refl
      (λ j x other got begins number. start-once d label it j other (ap begun_in got ∙ begins) number)

  -- ---- the DoNext

  module _ (d label : ℕ) (spot : Spot whole d label) where
    next-told : incremented_at execs (next_of whole d label spot) ≡ Some (loop_of names whole d label spot.it.variable)
    next-told =
        let t = statement_of whole label in
        let m = length spot.among.inner in
        let next = next_of whole d label spot in
        let got : slice_get (loops_to whole spot.terminal.label) m ≡ Some d = ap (λ (l : ℕ). slice_get (loops_to whole l) m) spot.its ∙ among-got whole label d spot.among in
        let variable : variable_of (slice_get whole d) ≡ spot.it.variable = ap variable_of spot.it.stands ∙ ap do_variable spot.it.is in
        let outer : drop (suc m) (loops_to whole spot.terminal.label) ≡ reverse (loops_above whole label d) = ap (λ (l : ℕ). drop (suc m) (loops_to whole l)) spot.its ∙ among-outer whole label d spot.among in
        let exit : exit_after whole t next (drop (suc m) (loops_to whole spot.terminal.label)) ≡ exit_of whole label d = ap (exit_after whole t next) outer ∙ sym (exit-is whole d label spot) in
        let same : next_loop names whole t d next (drop (suc m) (loops_to whole spot.terminal.label)) ≡ loop_of names whole d label spot.it.variable =
        ap (λ (v : List ℕ). let l : Loop = record { number = loop_number whole d; variable = index_of names v; body = first_of whole d + 1; exit = exit_after whole t next (drop (suc m) (loops_to whole spot.terminal.label)) } in l) variable
        ∙ ap (λ (x : ℕ). let l : Loop = record { number = loop_number whole d; variable = index_of names spot.it.variable; body = first_of whole d + 1; exit = x } in l) exit in
        next-at names checked whole usable t m d spot.terminal spot.stands got ∙ ap Some same

    pub next-once : (k : ℕ) (other : Loop) → incremented_at execs k ≡ Some other → other.number ≡ loop_number whole d → k ≡ next_of whole d label spot
    next-once k other is number =
        let at = next-only names checked whole usable k other is in
        let one = ends-do whole at.s.label at.m at.d at.got in
        let same : at.d ≡ d = number-once whole at.d d at.s.label label one spot.it (sym at.number ∙ number) in
        let its : at.s.label ≡ label = label-once whole d at.s.label label (subst (λ (c : ℕ). IsDo whole c at.s.label) same one) spot.it in
        let own : statement_of whole at.s.label ≡ at.place = are.places at.place at.s at.stands (are.loops at.d at.s.label (opens-do whole at.d at.s.label one)) in
        let place : statement_of whole label ≡ at.place = ap (statement_of whole) (sym its) ∙ own in
        let there : slice_get whole at.place ≡ Some spot.terminal = ap (slice_get whole) (sym place) ∙ spot.stands in
        let terminal : at.s ≡ spot.terminal = let e : Some at.s ≡ Some spot.terminal = sym at.stands ∙ there in cc in
        let got : slice_get (loops_to whole label) at.m ≡ Some d = ap (λ (l : ℕ). slice_get (loops_to whole l) at.m) (sym its) ∙ at.got ∙ ap Some same in
        let m : at.m ≡ length spot.among.inner = among-once whole label d spot.among at.m got in
        let first : first_of whole (statement_of whole label) ≡ first_of whole at.place = ap (first_of whole) place in
        let owns : own_executables at.s.stmt ≡ own_executables spot.terminal.stmt = ap (λ (t : Labelled). own_executables t.stmt) terminal in
        at.at ∙ omega (arith, m, first, owns)

    pub next-is : do_next execs (loop_number whole d) ≡ next_of whole d label spot
    next-is =
        let loop = loop_of names whole d label spot.it.variable in
        let at = incremented-exec (slice_get execs (next_of whole d label spot)) loop next-told in
        position-number (λ (e : Exec). incremented e.kind) execs (loop_number whole d) (next_of whole d label spot) at.0 loop at.1 at.2 refl
        (λ j x other got increments number. next-once j other (ap incremented_in got ∙ increments) number)

  -- ---- a DO

  is_loop-of : (d label : ℕ) → IsDo whole d label → IsLoop execs (loop_number whole d)
  is_loop-of d label it =
      let spot = spot-of names checked whole usable are ended nested d label it in
      let start = start-is d label spot.it in
      let next = next-is d label spot in
      record {
        loop = loop_of names whole d label spot.it.variable;
        begins = ap (begun_at execs) start ∙ start-told d label spot.it;
        increments = ap (incremented_at execs) next ∙ next-told d label spot;
        number = refl;
        later = omega (arith, start, next, start-before whole d label spot);
        one_start = λ k other is number. start-once d label spot.it k other is number ∙ sym start;
        one_next = λ k other is number. next-once d label spot k other is number ∙ sym next;
        body = omega (arith, start);
        exit = λ inside. omega (arith, inside.up_to_next, next, exit-later whole d label spot);
      }

  pub is_loop : (n : ℕ) → n < length (filter (λ s. is_do s.stmt) whole) → IsLoop execs n
  is_loop n lt = let one = numbered whole n lt in subst (IsLoop execs) one.number (is_loop-of one.d one.label one.it)

  pub starts-below : (k : ℕ) (loop : Loop) → begun_at execs k ≡ Some loop → loop.number < length (filter (λ s. is_do s.stmt) whole)
  starts-below k loop is =
      let at = start-only names checked whole usable k loop is in
      let one = is_do-do whole at.d at.s at.stands at.is_do in
      omega (arith, at.number, number-below whole at.d one.0 one.1)

  pub nexts-below : (k : ℕ) (loop : Loop) → incremented_at execs k ≡ Some loop → loop.number < length (filter (λ s. is_do s.stmt) whole)
  nexts-below k loop is =
      let at = next-only names checked whole usable k loop is in
      omega (arith, at.number, number-below whole at.d at.s.label (ends-do whole at.s.label at.m at.d at.got))

  -- ---- two DOs

  -- the one with the lower number stands above
  above-by : (c d outer inner : ℕ) → IsDo whole c outer → IsDo whole d inner → loop_number whole c < loop_number whole d → c < d
  above-by c d outer inner one other less =
      let not : d ≤ c → ⊥ = λ ge. omega (arith, less, number-rises whole d c ge (omega (arith, slice_get_within whole c one.s one.stands))) in
      omega (arith, not)

  pub starts-apart : (c d outer inner : ℕ) → IsDo whole c outer → IsDo whole d inner → c < d → first_of whole c < first_of whole d
  starts-apart c d outer inner one other lt =
      later whole c outer (spot-of names checked whole usable are ended nested c outer one) d lt (omega (arith, slice_get_within whole d other.s other.stands))

  pub starts-rise : (m n : ℕ) → m < n → n < length (filter (λ s. is_do s.stmt) whole) → do_start execs m < do_start execs n
  starts-rise m n lt below =
      let one = numbered whole m (omega (arith, lt, below)) in
      let other = numbered whole n below in
      let above : one.d < other.d = above-by one.d other.d one.label other.label one.it other.it (omega (arith, one.number, other.number, lt)) in
      let first : do_start execs m ≡ first_of whole one.d = ap (do_start execs) (sym one.number) ∙ start-is one.d one.label one.it in
      let second : do_start execs n ≡ first_of whole other.d = ap (do_start execs) (sym other.number) ∙ start-is other.d other.label other.it in
      omega (arith, first, second, starts-apart one.d other.d one.label other.label one.it other.it above)

  -- of two DOs the upper one's range holds the lower one's, or they share nothing
  ordered : (c d outer inner : ℕ) → IsDo whole c outer → IsDo whole d inner → c < d → Holds execs (loop_number whole c) (loop_number whole d) ⊎ ShareNone execs (loop_number whole c) (loop_number whole d)
  ordered c d outer inner one other lt =
      let spot = spot-of names checked whole usable are ended nested c outer one in
      let within = spot-of names checked whole usable are ended nested d inner other in
      let start = start-is c outer spot.it in
      let next = next-is c outer spot in
      let its_start = start-is d inner within.it in
      let its_next = next-is d inner within in
      elim (cases_lt (statement_of whole outer) d) as (λ _. Holds execs (loop_number whole c) (loop_number whole d) ⊎ ShareNone execs (loop_number whole c) (loop_number whole d)) [
        | inl apart ↦
            let before = past whole c outer spot d apart (omega (arith, slice_get_within whole d other.s other.stands)) in
            inr (λ k a b. omega (arith, a.up_to_next, b.after_start, next, its_start, before))
        | inr le ↦
            let ends = ends-nested whole are ended nested c d outer inner one other lt le in
            let reach = next-nested whole c d outer inner spot within lt ends.1 in
            let begin = starts-apart c d outer inner one other lt in
            inl (λ k b. record { after_start = omega (arith, b.after_start, start, its_start, begin); up_to_next = omega (arith, b.up_to_next, next, its_next, reach) })
      ]

  nested-by : (c d outer inner : ℕ) → IsDo whole c outer → IsDo whole d inner → Holds execs (loop_number whole c) (loop_number whole d) ⊎ (Holds execs (loop_number whole d) (loop_number whole c) ⊎ ShareNone execs (loop_number whole c) (loop_number whole d))
  nested-by c d outer inner one other =
      let P = Holds execs (loop_number whole c) (loop_number whole d) ⊎ (Holds execs (loop_number whole d) (loop_number whole c) ⊎ ShareNone execs (loop_number whole c) (loop_number whole d)) in
      elim (cases_order c d) as (λ _. P) [
        | inl same ↦ inl (subst (λ (e : ℕ). Holds execs (loop_number whole c) (loop_number whole e)) same (λ k inside. inside))
        | inr order ↦ elim order as (λ _. P) [
          | inl lt ↦ ⊎_elim inl (λ none. inr (inr none)) (ordered c d outer inner one other lt)
          | inr gt ↦ ⊎_elim (λ holds. inr (inl holds)) (λ none. inr (inr (λ k a b. none k b a))) (ordered d c inner outer other one gt)
        ]
      ]

  pub ranges-nested : (m n : ℕ) → m < length (filter (λ s. is_do s.stmt) whole) → n < length (filter (λ s. is_do s.stmt) whole) → Holds execs m n ⊎ (Holds execs n m ⊎ ShareNone execs m n)
  ranges-nested m n below other_below =
      let one = numbered whole m below in
      let other = numbered whole n other_below in
      subst (λ (a : ℕ). Holds execs a n ⊎ (Holds execs n a ⊎ ShareNone execs a n)) one.number
      (subst (λ (b : ℕ). Holds execs (loop_number whole one.d) b ⊎ (Holds execs b (loop_number whole one.d) ⊎ ShareNone execs (loop_number whole one.d) b)) other.number
      (nested-by one.d other.d one.label other.label one.it other.it))
