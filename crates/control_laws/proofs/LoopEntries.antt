-- Nothing but its beginning leads into the range of a DO.
use Rattle.std.proofs.Common.{◌≡◌, ℕ, ◌+◌, ◌-◌, ◌<◌, ◌≤◌, Bool, true, false, nat_lt, ◌==◌, inl, inr, List, [], ◌∷◌, length, drop, All, refl, sym, ap, subst, ◌∙◌, arith, Some, None, not, ◌&&◌, nat_le, take}
use Rattle.std.specs.Prelude.{slice_get, reverse, flat_map}
use Rattle.std.proofs.lemmas.Bool.{cases_lt, cases_eq, cases_Bool, and_parts, cond_both, ltb-true, or_parts, and_from, leb-true, lt-ltb, le-leb}
use Rattle.std.proofs.lemmas.Option.{slice_get_within, get_or_from_slice_get}
use Rattle.std.specs.List.{list_any, range_with_len}
use Rattle.std.proofs.lemmas.List.{length-take-le}
use Rattle.std.proofs.lemmas.List.FromFn.{length-range_with_len, get_or-range_with_len}
use Rattle.f77_tree.specs.declared.programs.NameInfo.{NameInfo}
use Rattle.f77_tree.specs.declared.statements.Labelled.{Labelled}
use Rattle.f77_tree.specs.Loops.{do_next}
use Rattle.layout_rules.specs.Faults.{first_line}
use Rattle.layout_rules.specs.Source.{EndsWithEnd}
use Rattle.layout_rules.specs.Labels.{jumps, statement_of, is_arm}
use Rattle.layout_rules.specs.Jumps.{end_of_arm, jumps_into, Span, span_of, span_if_any, lies_in, leads_into}
use Rattle.layout_rules.specs.Nesting.{first_unnested}
use Rattle.layout_rules.specs.Tables.{begins_arm, IsUsable}
use Rattle.layout_rules.specs.Executables.{own_executables, loops_above, loops_to, first_of, met, labelled, beyond, when_false, is_else_at, executables, is_do, loop_number, exit_after, exit_of}
use Rattle.control_structure.proofs.Exits.{when_false-is}
use Rattle.control_structure.proofs.Meeting.{end_of_arm-within, statement_of-within, else-inside}
use Rattle.control_structure.proofs.OpenSpans.{AreLabelled}
use Rattle.control_structure.proofs.Walks.{item_at}
use Rattle.layout_rules.proofs.FlatParts.{list_any-flat_map, list_any-none_at}
use Rattle.control_structure.proofs.LabelLemmas.{faultless}
use Rattle.control_laws.proofs.LoopPlaces.{first-next, first-rises}
use Rattle.control_laws.proofs.LoopSpans.{IsDo, ends-nested, ends-before}
use Rattle.control_laws.proofs.LoopRanges.{Spot, next_of, end_after-later, met-later, start-own, start-before, exit-is, next-nested, later, past}
use Rattle.control_laws.proofs.LoopsHold.{label-once, next-is}
use Rattle.control_laws.proofs.LoopBlocks.{BeginsArm, begins-arm, apart-do, not-arm, ends-in_arm, falls-outside}

none-among : {X : Type 0} (q : X → Bool) (f : ℕ → List X) (n i : ℕ) → list_any q (flat_map f (range_with_len 0 n)) ≡ false → i < n → list_any q (f i) ≡ false
none-among q f n i none lt = list_any-none_at (λ p. list_any q (f p)) (range_with_len 0 n) i i (omega (arith, lt, length-range_with_len 0 n)) (omega (arith, get_or-range_with_len 0 n i i lt)) (sym (list_any-flat_map q f (range_with_len 0 n)) ∙ none)

second : (b c : Bool) → b ≡ true → (b && not c) ≡ false → c ≡ true
second true true is h = refl
second true false is h = let e : true ≡ false = h in absurd cc
second false c is h = let e : false ≡ true = is in absurd cc

module _ (whole : List Labelled) (d label : ℕ) (it : IsDo whole d label) where
  -- what isn't led into from outside
  not-into : (from to : ℕ) → leads_into whole from to ≡ false → d < to → to ≤ statement_of whole label → (d < from) × (from ≤ statement_of whole label)
  not-into from to none after upto =
      let span : Span = record { head = d; last = statement_of whole label } in
      let q : Span → Bool = λ x. lies_in x to && not (lies_in x from) in
      let one : span_if_any whole d (slice_get whole d) ≡ span ∷ [] = ap (span_if_any whole d) it.stands ∙ ap (span_of whole d) it.is in
      let here : list_any q (span ∷ []) ≡ false = ap (λ (xs : List Span). list_any q xs) (sym one) ∙ none-among q (λ p. span_if_any whole p (slice_get whole p)) (length whole) d none (slice_get_within whole d it.s it.stands) in
      let its : q span ≡ false = (or_parts (q span) false here).0 in
      let target : lies_in span to ≡ true = and_from (nat_lt d to) (nat_le to (statement_of whole label)) (lt-ltb d to after) (le-leb to (statement_of whole label) upto) in
      let parts = and_parts (nat_lt d from) (nat_le from (statement_of whole label)) (second (lies_in span to) (lies_in span from) target its) in
      (ltb-true d from parts.0, leb-true from (statement_of whole label) parts.1)

  pub jump-stays : first_line (jumps_into whole) whole ≡ None → (i m target : ℕ) (s : Labelled) → slice_get whole i ≡ Some s → slice_get (jumps s.stmt) m ≡ Some target → d < statement_of whole target → statement_of whole target ≤ statement_of whole label → (d < i) × (i ≤ statement_of whole label)
  jump-stays none i m target s here got after upto =
      let length_is : length (take i whole) ≡ i = length-take-le i whole (omega (arith, slice_get_within whole i s here)) in
      let no = faultless (jumps_into whole) [] whole none i s here in
      let one : leads_into whole (length (take i whole)) (statement_of whole target) ≡ false = list_any-none_at (λ l. leads_into whole (length (take i whole)) (statement_of whole l)) (jumps s.stmt) m target (slice_get_within (jumps s.stmt) m target got) (sym (get_or_from_slice_get (jumps s.stmt) m target target got)) no in
      not-into i (statement_of whole target) (ap (λ n. leads_into whole n (statement_of whole target)) (sym length_is) ∙ one) after upto

-- from k control comes to s, where that lies after a and not after b, only if k is a and s the one after it
abbrev pub Into : (a b k s : ℕ) → Type 0
Into a b k s = a < s → s ≤ b → (k ≡ a) × (s ≡ a + 1)

pub into-next : (a b k s : ℕ) → (a < k → k ≤ b → ⊥) → s ≡ k + 1 → Into a b k s
into-next a b k s outside is after upto = elim (cases_lt a k) as (λ _. (k ≡ a) × (s ≡ a + 1)) [
  | inl lt ↦ absurd (outside lt (omega (arith, is, upto)))
  | inr ge ↦ (omega (arith, ge, is, after), omega (arith, ge, is, after))
]

pub is-do : (whole : List Labelled) (d label i : ℕ) (s : Labelled) → IsDo whole d label → slice_get whole i ≡ Some s → is_do s.stmt ≡ false → d ≡ i → ⊥
is-do whole d label i s it here other = apart-do whole d label i s it here is_do (λ e. let h : true ≡ false = e ∙ other in absurd cc)

module _ (names : List NameInfo) (checked : Bool) (whole : List Labelled) (usable : All (IsUsable whole) whole) (are : AreLabelled whole) (ended : EndsWithEnd whole) (nested : first_unnested [] whole ≡ None) (d label : ℕ) (spot : Spot whole d label) where
  -- the executable that begins the DO
  abbrev its_start : ℕ
  its_start = first_of whole d

  -- the one that increments it
  abbrev its_next : ℕ
  its_next = next_of whole d label spot

  -- the place of the statement at which its range ends
  abbrev its_last : ℕ
  its_last = statement_of whole label

  head-inside : d < length whole
  head-inside = slice_get_within whole d spot.it.s spot.it.stands

  terminal-within : its_last < length whole
  terminal-within = slice_get_within whole its_last spot.terminal spot.stands

  -- a statement that begins in the range
  first-in : (p : ℕ) → p ≤ length whole → its_start < first_of whole p → first_of whole p ≤ its_next → (d < p) × (p ≤ its_last)
  first-in p within after upto =
      let low : p ≤ d → ⊥ = λ ge. omega (arith, after, first-rises whole p d ge (omega (arith, head-inside))) in
      let high : its_last < p → ⊥ = λ lt. omega (arith, upto, past whole d label spot p lt within) in
      (omega (arith, low), omega (arith, high))

  -- control that falls into the range is in it
  met-in : (p : ℕ) → p ≤ length whole → its_start < met whole p → met whole p ≤ its_next → (d < p) × (p ≤ its_last)
  met-in p within after upto =
      let low : p ≤ d → ⊥ = λ le. falls-outside whole are ended nested d label spot p le after upto in
      let high : its_last < p → ⊥ = λ lt. omega (arith, upto, past whole d label spot p lt within, met-later whole p within) in
      (omega (arith, low), omega (arith, high))

  -- the own executables of a statement in the range
  own-in : (i j : ℕ) (s : Labelled) → slice_get whole i ≡ Some s → j < own_executables s.stmt → d < i → i ≤ its_last → (its_start < first_of whole i + j) × (first_of whole i + j ≤ its_next)
  own-in i j s here own low high =
      let start = later whole d label spot i low (omega (arith, slice_get_within whole i s here)) in
      let reach : first_of whole i + j ≤ its_next = elim (cases_eq i its_last) as (λ _. first_of whole i + j ≤ its_next) [
        | inl same ↦
            let there : slice_get whole its_last ≡ Some s = ap (slice_get whole) (sym same) ∙ here in
            let one : s ≡ spot.terminal = let e : Some s ≡ Some spot.terminal = sym there ∙ spot.stands in cc in
            let owns = ap (λ (x : Labelled). own_executables x.stmt) one in
            omega (arith, own, owns, ap (first_of whole) same)
        | inr other ↦ omega (arith, own, first-next whole i s here, first-rises whole (i + 1) its_last (omega (arith, high, other)) (omega (arith, terminal-within)))
      ] in
      (omega (arith, start), reach)

  -- ---- from a statement's own executable outside

  module _ (i j : ℕ) (s : Labelled) (here : slice_get whole i ≡ Some s) (own : j < own_executables s.stmt) (outside : its_start < first_of whole i + j → first_of whole i + j ≤ its_next → ⊥) where
    i-inside : i < length whole
    i-inside = slice_get_within whole i s here

    away : d < i → i ≤ its_last → ⊥
    away low high = let in_range = own-in i j s here own low high in outside in_range.0 in_range.1

    pub met-into : (k : ℕ) → (d ≡ i → ⊥) → Into its_start its_next k (met whole (i + 1))
    met-into k other after upto = let at = met-in (i + 1) (omega (arith, i-inside)) after upto in absurd (away (omega (arith, at.0, other)) (omega (arith, at.1)))

    -- to the increments after it
    ends-away : (d ≡ i → ⊥) → 0 < length (loops_to whole s.label) → its_start < first_of whole i + own_executables s.stmt → first_of whole i + own_executables s.stmt ≤ its_next → ⊥
    ends-away other some after upto =
        let low : i < d → ⊥ = λ lt. omega (arith, after, first-next whole i s here, some, first-rises whole (i + 1) d (omega (arith, lt)) (omega (arith, head-inside))) in
        let high : its_last < i → ⊥ = λ lt. omega (arith, upto, past whole d label spot i lt (omega (arith, i-inside))) in
        away (omega (arith, low, other)) (omega (arith, high))

    pub after-into : (k : ℕ) → (d ≡ i → ⊥) → Into its_start its_next k (beyond whole i s)
    after-into k other =
        cond_both (nat_lt 0 (length (loops_to whole s.label))) (first_of whole i + own_executables s.stmt) (met whole (i + 1)) (Into its_start its_next k)
        (λ is after upto. absurd (ends-away other (ltb-true 0 (length (loops_to whole s.label)) is) after upto))
        (λ is. met-into k other)

    pub stop-into : (k : ℕ) → Into its_start its_next k (first_of whole (length whole - 1))
    stop-into k after upto =
        let at = first-in (length whole - 1) (omega arith) after upto in
        absurd (omega (arith, at.1, terminal-within, ends-before whole are ended nested d label spot.it))

    pub jump-into : (k m target : ℕ) → first_line (jumps_into whole) whole ≡ None → slice_get (jumps s.stmt) m ≡ Some target → Into its_start its_next k (labelled whole target)
    jump-into k m target none got after upto =
        let at = first-in (statement_of whole target) (statement_of-within whole target) after upto in
        let from = jump-stays whole d label spot.it none i m target s here got at.0 at.1 in
        absurd (away from.0 from.1)

    -- past an arm that begins here
    arm-away : (d ≡ i → ⊥) → BeginsArm whole i → d < end_of_arm whole i → end_of_arm whole i ≤ its_last → ⊥
    arm-away other begins low high =
        let later : i + 1 ≤ end_of_arm whole i = end_after-later true 0 (drop (i + 1) whole) (i + 1) in
        elim (cases_lt i d) as (λ _. ⊥) [
          | inl lt ↦ omega (arith, high, ends-in_arm whole are ended nested i d label begins spot.it lt low)
          | inr ge ↦ away (omega (arith, ge, other)) (omega (arith, later, high))
        ]

    else-away : (d ≡ i → ⊥) → BeginsArm whole i → is_else_at (slice_get whole (end_of_arm whole i)) ≡ true → its_start < met whole (end_of_arm whole i + 1) → met whole (end_of_arm whole i + 1) ≤ its_next → ⊥
    else-away other begins is after upto =
        let e = end_of_arm whole i in
        let inside : e < length whole = else-inside whole e is in
        let at = item_at whole e inside in
        let arm : is_arm at.0.stmt ≡ true = (and_parts (is_arm at.0.stmt) (own_executables at.0.stmt == 0) (sym (ap is_else_at at.1) ∙ is)).0 in
        let falls = met-in (e + 1) (omega (arith, inside)) after upto in
        arm-away other begins (omega (arith, falls.0, not-arm whole d label e at.0 spot.it at.1 arm)) (omega (arith, falls.1))

    pub false-into : (k : ℕ) → (d ≡ i → ⊥) → begins_arm s.stmt ≡ true → Into its_start its_next k (when_false whole i)
    false-into k other arm after upto =
        let e = end_of_arm whole i in
        let begins = begins-arm whole i s here arm in
        elim (cases_Bool (is_else_at (slice_get whole e))) as (λ _. (k ≡ its_start) × (when_false whole i ≡ its_start + 1)) [
          | inl is ↦
              let same = when_false-is whole i e true refl is in
              absurd (else-away other begins is (omega (arith, after, same)) (omega (arith, upto, same)))
          | inr is ↦
              let same = when_false-is whole i e false refl is in
              let at = first-in e (end_of_arm-within whole i i-inside) (omega (arith, after, same)) (omega (arith, upto, same)) in
              absurd (arm-away other begins at.0 at.1)
        ]

  -- ---- from a DO

  module _ (c its : ℕ) (one : Spot whole c its) where
    c-inside : c < length whole
    c-inside = slice_get_within whole c one.it.s one.it.stands

    lasterminal-within : statement_of whole its + 1 ≤ length whole
    lasterminal-within = omega (arith, slice_get_within whole (statement_of whole its) one.terminal one.stands)

    same-last : c ≡ d → statement_of whole its ≡ its_last
    same-last same = ap (statement_of whole) (label-once whole d its label (subst (λ (e : ℕ). IsDo whole e its) same one.it) spot.it)

    same-next : c ≡ d → next_of whole c its one ≡ its_next
    same-next same = sym (next-is names checked whole usable are ended nested c its one) ∙ (ap (λ (e : ℕ). do_next (executables names checked whole) (loop_number whole e)) same ∙ next-is names checked whole usable are ended nested d label spot)

    below : d < c → its_start < first_of whole c
    below lt = later whole d label spot c lt (omega (arith, c-inside))

    -- after its terminal statement
    exit-met : its_start < met whole (statement_of whole its + 1) → met whole (statement_of whole its + 1) ≤ its_next → (its_start < first_of whole c) × (next_of whole c its one ≤ its_next)
    exit-met after upto =
        let u = statement_of whole its in
        let falls = met-in (u + 1) lasterminal-within after upto in
        let same : c ≡ d → ⊥ = λ e. omega (arith, falls.1, same-last e) in
        let less : c < d → ⊥ = λ lt. omega (arith, falls.1, (ends-nested whole are ended nested c d its label one.it spot.it lt (omega (arith, falls.0))).1) in
        (below (omega (arith, same, less)), omega (arith, past whole c its one its_last (omega (arith, falls.1)) (omega (arith, terminal-within))))

    -- to the next increment
    exit-step : its_start < next_of whole c its one + 1 → next_of whole c its one + 1 ≤ its_next → (its_start < first_of whole c) × (next_of whole c its one ≤ its_next)
    exit-step after upto =
        let same : c ≡ d → ⊥ = λ e. omega (arith, upto, same-next e) in
        let less : c < d → ⊥ = λ lt. elim (cases_lt (statement_of whole its) d) as (λ _. ⊥) [
          | inl above ↦ omega (arith, after, past whole c its one d above (omega (arith, head-inside)))
          | inr low ↦ omega (arith, upto, next-nested whole c d its label one spot lt (ends-nested whole are ended nested c d its label one.it spot.it lt low).1)
        ] in
        (below (omega (arith, same, less)), omega (arith, upto))

    -- where it ends
    pub exit-in : (outer : List ℕ) → its_start < exit_after whole (statement_of whole its) (next_of whole c its one) outer → exit_after whole (statement_of whole its) (next_of whole c its one) outer ≤ its_next → (its_start < first_of whole c) × (next_of whole c its one ≤ its_next)
    exit-in [] after upto = exit-met after upto
    exit-in (x ∷ outer) after upto = exit-step after upto

    pub start-into : (k : ℕ) → k ≡ first_of whole c → (its_start < k → k ≤ its_next → ⊥) → Into its_start its_next k (exit_of whole its c)
    start-into k at outside after upto =
        let is = exit-is whole c its one in
        let both = exit-in (reverse (loops_above whole its c)) (omega (arith, after, is)) (omega (arith, upto, is)) in
        absurd (outside (omega (arith, both.0, at)) (omega (arith, both.1, at, start-before whole c its one)))

    pub end-into : (k : ℕ) (outer : List ℕ) → k ≡ next_of whole c its one → (its_start < k → k ≤ its_next → ⊥) → Into its_start its_next k (exit_after whole (statement_of whole its) (next_of whole c its one) outer)
    end-into k outer at outside after upto =
        let both = exit-in outer after upto in
        absurd (outside (omega (arith, both.0, at, start-before whole c its one)) (omega (arith, both.1, at)))

    -- to its body again
    pub body-into : (k : ℕ) → k ≡ next_of whole c its one → (its_start < k → k ≤ its_next → ⊥) → Into its_start its_next k (first_of whole c + 1)
    body-into k at outside after upto =
        let same : c ≡ d → ⊥ = λ e. outside (omega (arith, at, same-next e, start-before whole d label spot)) (omega (arith, at, same-next e)) in
        let less : c < d → ⊥ = λ lt. omega (arith, after, start-own whole c its one, first-rises whole (c + 1) d (omega (arith, lt)) (omega (arith, head-inside))) in
        let order : d < c = omega (arith, same, less) in
        let low : its_last < c → ⊥ = λ lt. omega (arith, upto, past whole d label spot c lt (omega (arith, c-inside))) in
        let ends = next-nested whole d c label its spot one order (ends-nested whole are ended nested d c label its spot.it one.it order (omega (arith, low))).1 in
        absurd (outside (omega (arith, at, below order, start-before whole c its one)) (omega (arith, at, ends)))
