-- The top of the stack is the innermost range or arm.
use Rattle.std.proofs.Common.{◌≡◌, ℕ, ◌+◌, ◌<◌, ◌≤◌, true, nat_lt, nat_le, List, [], ◌∷◌, inl, inr, drop, slice_get, Option, Some, None, refl, sym, ap, subst, ◌∙◌, arith, Bool, false, not, ◌&&◌, get_or, length}
use Rattle.std.proofs.lemmas.Bool.{false_from_ne_true, and_parts, and_from, ltb-true, leb-true, lt-ltb, le-leb, or_cases, or_left, not-true}
use Rattle.std.proofs.lemmas.Option.{slice_get_within, slice_get_read}
use Rattle.std.specs.List.{list_any, range_with_len}
use Rattle.std.proofs.lemmas.List.FromFn.{length-range_with_len, get_or-range_with_len}
use Rattle.f77_tree.specs.declared.statements.Labelled.{Labelled}
use Rattle.layout_rules.specs.declared.nesting.Opened.{Opened}
use Rattle.layout_rules.specs.declared.nesting.Opened.TheVariants.{Loop, Block}
use Rattle.layout_rules.specs.declared.nesting.Role.{Role}
use Rattle.layout_rules.specs.declared.nesting.Role.TheVariants.{NextArm, LastArm, EndBlock}
use Rattle.layout_rules.specs.Source.{EndsWithEnd}
use Rattle.layout_rules.specs.Roles.{role_of}
use Rattle.layout_rules.specs.Jumps.{Span, span_if_any, lies_in, spans, leads_into}
use Rattle.layout_rules.specs.Labels.{IsBorne, is_arm, is_executable, is_labelled_twice, statement_of}
use Rattle.layout_rules.proofs.FlatParts.{list_any-flat_map}
use Rattle.layout_rules.specs.Faults.{first_line}
use Rattle.control_structure.specs.declared.open_stack.Entry.{Entry}
use Rattle.control_structure.specs.Innermost.{IsSpan, IsInnermost, LiesWithin, IsInnermostHead, AreInnermost}
use Rattle.control_structure.specs.OpenStack.{entries_after, head_of}
use Rattle.control_structure.proofs.RoleLemmas.{opened_by, last_of, span_by, span_of-role}
use Rattle.control_structure.proofs.OpenSpans.{OpensAt, after_of, after_entry, AreLabelled, AreOpened, AreFalling, AreWithin, Has, Stands, AreFalling-later, held, Keeps-after}
use Rattle.control_structure.proofs.Walks.{unnested_from, AreWithin-held}
use Rattle.control_structure.proofs.LabelLemmas.{any-exists, any-from, bearer}

-- ---- spans and what statements open

pub record SpanOpens (stmts : List Labelled) (span : Span) : Type 0 where
  pub o : Opened
  pub opens : OpensAt stmts span.head o
  pub last : span.last ≡ last_of stmts span.head o

span_opens-by : (stmts : List Labelled) (span : Span) (s : Labelled) (o : Option Opened) → slice_get stmts span.head ≡ Some s → opened_by (role_of s.stmt) ≡ o → span_by stmts span.head o ≡ span ∷ [] → SpanOpens stmts span
span_opens-by stmts span s None here is h = let e : [] ≡ span ∷ [] = h in absurd cc
span_opens-by stmts span s (Some o) here is h =
    let same : record { head = span.head; last = last_of stmts span.head o } ≡ span = cc in
    record { o = o; opens = record { s = s; stands = here; opens = is }; last = sym (ap (λ (x : Span). x.last) same) }

span_opens-at : (stmts : List Labelled) (span : Span) (s : Option Labelled) → slice_get stmts span.head ≡ s → span_if_any stmts span.head s ≡ span ∷ [] → SpanOpens stmts span
span_opens-at stmts span None here h = let e : [] ≡ span ∷ [] = h in absurd cc
span_opens-at stmts span (Some s) here h = span_opens-by stmts span s (opened_by (role_of s.stmt)) here refl (sym (span_of-role stmts span.head s.stmt) ∙ h)

pub span_opens : (stmts : List Labelled) (span : Span) → IsSpan stmts span → SpanOpens stmts span
span_opens stmts span h = span_opens-at stmts span (slice_get stmts span.head) refl h

-- the span that a statement opens
abbrev pub span_at : List Labelled → ℕ → Opened → Span
span_at stmts h o = record { head = h; last = last_of stmts h o }

pub IsSpan-opened : (stmts : List Labelled) (h : ℕ) (o : Opened) → OpensAt stmts h o → IsSpan stmts (span_at stmts h o)
IsSpan-opened stmts h o at = ap (span_if_any stmts h) at.stands ∙ span_of-role stmts h at.s.stmt ∙ ap (span_by stmts h) at.opens

-- a place after the first is in a span where that reaches beyond the place
pub reaches : (stmts : List Labelled) (h : ℕ) (o : Opened) (place : ℕ) → 0 < place → place ≤ last_of stmts h o → place < after_of stmts h o
reaches stmts h (Loop terminal) place some le = omega (arith, le)
reaches stmts h (Block b) place some le = omega (arith, some, le)

reaches-back : (stmts : List Labelled) (h : ℕ) (o : Opened) (place : ℕ) → place < after_of stmts h o → place ≤ last_of stmts h o
reaches-back stmts h (Loop terminal) place lt = omega (arith, lt)
reaches-back stmts h (Block b) place lt = omega (arith, lt)

pub last_le : (stmts : List Labelled) (g h : ℕ) (o p : Opened) → after_of stmts g o ≤ after_of stmts h p → last_of stmts g o ≤ last_of stmts h p
last_le stmts g h (Loop t) (Loop u) le = omega (arith, le)
last_le stmts g h (Loop t) (Block c) le = omega (arith, le)
last_le stmts g h (Block b) (Loop u) le = omega (arith, le)
last_le stmts g h (Block b) (Block c) le = omega (arith, le)

-- ---- the stack from the top

pub record HasWithin (stmts : List Labelled) (begin : ℕ) (o : Opened) (h : ℕ) (p : Opened) : Type 0 where
  pub head : h ≤ begin
  pub beyond : after_of stmts begin o ≤ after_of stmts h p

pub has-within : (stmts : List Labelled) (place low h : ℕ) (o : Opened) (stack : List Entry) → AreFalling place stack → AreWithin stmts low stack → Has h o stack → (h < place) × (low ≤ after_of stmts h o)
has-within stmts place low h o [] falling within has = absurd has
has-within stmts place low h o (e ∷ rest) falling within has = elim has as (λ _. (h < place) × (low ≤ after_of stmts h o)) [
  | inl same ↦ (omega (arith, same.0, falling.0), let e : after_of stmts h o ≡ after_entry stmts e = ap (λ (n : ℕ). after_of stmts n o) (sym same.0) ∙ ap (after_of stmts e.begin) (sym same.1) in omega (arith, e, within.0))
  | inr below ↦ let h = has-within stmts e.begin (after_entry stmts e) h o rest falling.1 within.1 below in (omega (arith, h.0, falling.0), omega (arith, h.1, within.0))
]

pub has-top : (stmts : List Labelled) (h : ℕ) (p : Opened) (e : Entry) (rest : List Entry) → AreFalling e.begin rest → AreWithin stmts (after_entry stmts e) rest → Has h p (e ∷ rest) → HasWithin stmts e.begin e.opened h p
has-top stmts h p e rest falling within has = elim has as (λ _. HasWithin stmts e.begin e.opened h p) [
  | inl same ↦ record { head = omega (arith, same.0); beyond = let e : after_of stmts h p ≡ after_entry stmts e = ap (λ (n : ℕ). after_of stmts n p) (sym same.0) ∙ ap (after_of stmts e.begin) (sym same.1) in omega (arith, e) }
  | inr below ↦ let b = has-within stmts e.begin (after_entry stmts e) h p rest falling within below in record { head = omega (arith, b.0); beyond = b.1 }
]

-- the parts of the stack that hold a statement

AreOpened-rest : (stmts : List Labelled) (stack : List Entry) → AreOpened stmts stack → AreOpened stmts (drop 1 stack)
AreOpened-rest stmts [] h = tt
AreOpened-rest stmts (e ∷ rest) h = h.1

AreFalling-rest : (place : ℕ) (stack : List Entry) → AreFalling place stack → AreFalling place (drop 1 stack)
AreFalling-rest place [] h = tt
AreFalling-rest place (e ∷ rest) h = AreFalling-later e.begin place rest (omega (arith, h.0)) h.1

pub held-opened : (stmts : List Labelled) (role : Role) (stack : List Entry) → AreOpened stmts stack → AreOpened stmts (held role stack)
held-opened stmts NextArm stack h = AreOpened-rest stmts stack h
held-opened stmts LastArm stack h = AreOpened-rest stmts stack h
held-opened stmts EndBlock stack h = AreOpened-rest stmts stack h
held-opened stmts _ stack h = h

pub held-falling : (place : ℕ) (role : Role) (stack : List Entry) → AreFalling place stack → AreFalling place (held role stack)
held-falling place NextArm stack h = AreFalling-rest place stack h
held-falling place LastArm stack h = AreFalling-rest place stack h
held-falling place EndBlock stack h = AreFalling-rest place stack h
held-falling place _ stack h = h

-- ---- the innermost one

-- the stack holds each span that holds the place, reaches beyond the place, and falls from it
pub record Covers (stmts : List Labelled) (place : ℕ) (stack : List Entry) : Type 0 where
  pub opened : AreOpened stmts stack
  pub falling : AreFalling place stack
  pub within : AreWithin stmts (place + 1) stack
  pub covered : (h : ℕ) (o : Opened) → h < place → OpensAt stmts h o → place < after_of stmts h o → Has h o stack

covered_span : (stmts : List Labelled) (place : ℕ) (stack : List Entry) (covers : Covers stmts place stack) (span : Span) (opens : SpanOpens stmts span) → lies_in span place ≡ true → Has span.head opens.o stack
covered_span stmts place stack covers span opens holds =
    let parts = and_parts (nat_lt span.head place) (nat_le place span.last) holds in
    let lt : span.head < place = ltb-true span.head place parts.0 in
    let le : place ≤ span.last = leb-true place span.last parts.1 in
    covers.covered span.head opens.o lt opens.opens (reaches stmts span.head opens.o place (omega (arith, lt)) (omega (arith, le, opens.last)))

pub Covers-innermost : (stmts : List Labelled) (place : ℕ) (stack : List Entry) → Covers stmts place stack → IsInnermost stmts place (head_of stack)
Covers-innermost stmts place [] covers = λ span is. false_from_ne_true (lies_in span place) (λ holds. covered_span stmts place [] covers span (span_opens stmts span is) holds)
Covers-innermost stmts place (e ∷ rest) covers =
    let last : place ≤ last_of stmts e.begin e.opened = reaches-back stmts e.begin e.opened place (omega (arith, covers.within.0)) in
    record {
      span = span_at stmts e.begin e.opened;
      is = IsSpan-opened stmts e.begin e.opened covers.opened.0;
      begins = refl;
      holds = and_from (nat_lt e.begin place) (nat_le place (last_of stmts e.begin e.opened)) (lt-ltb e.begin place covers.falling.0) (le-leb place (last_of stmts e.begin e.opened) last);
      least = λ other is holds.
          let opens = span_opens stmts other is in
          let top = has-top stmts other.head opens.o e rest covers.falling.1 covers.within.1 (covered_span stmts place (e ∷ rest) covers other opens holds) in
          record { head = top.head; last = subst (λ (n : ℕ). last_of stmts e.begin e.opened ≤ n) (sym opens.last) (last_le stmts e.begin other.head e.opened opens.o top.beyond) };
    }

pub Covers-held : (stmts : List Labelled) (are : AreLabelled stmts) (ended : EndsWithEnd stmts) (i : ℕ) (s : Labelled) (stack beyond : List Entry) → slice_get stmts i ≡ Some s → Stands stmts i stack → entries_after (role_of s.stmt) i s.label stack ≡ Some beyond → unnested_from stmts (i + 1) beyond ≡ None → Covers stmts i (held (role_of s.stmt) stack)
Covers-held stmts are ended i s stack beyond here stands is nested = record {
  opened = held-opened stmts (role_of s.stmt) stack stands.opened;
  falling = held-falling i (role_of s.stmt) stack stands.falling;
  within = AreWithin-held stmts are ended i s stack beyond here (slice_get_within stmts i s here) stands is nested;
  covered = λ h o lt opens later. (Keeps-after stmts are i s here stack beyond stands is).holds h o later (stands.covered h o lt opens later);
}

-- ---- the list of all ranges and arms, and the jumps that lead into one

range_at : (n i : ℕ) → i < n → slice_get (range_with_len 0 n) i ≡ Some i
range_at n i lt = let same : 0 + i ≡ i = omega arith in slice_get_read (range_with_len 0 n) n i i (sym (length-range_with_len 0 n)) lt (sym (get_or-range_with_len 0 n i i lt ∙ same))

-- ---- all ranges and arms

pub record SpanPasses (stmts : List Labelled) (q : Span → Bool) : Type 0 where
  pub span : Span
  pub is : IsSpan stmts span
  pub passes : q span ≡ true

one_passes : (q : Span → Bool) (x : Span) → list_any q (x ∷ []) ≡ true → q x ≡ true
one_passes q x h = elim (or_cases (q x) false h) as (λ _. q x ≡ true) [ inl here ↦ here | inr e ↦ (let f : false ≡ true = e in absurd cc) ]

passes_by : (stmts : List Labelled) (q : Span → Bool) (place : ℕ) (s : Labelled) (o : Option Opened) → slice_get stmts place ≡ Some s → opened_by (role_of s.stmt) ≡ o → list_any q (span_by stmts place o) ≡ true → SpanPasses stmts q
passes_by stmts q place s None here is h = let e : false ≡ true = h in absurd cc
passes_by stmts q place s (Some o) here is h = record {
  span = record { head = place; last = last_of stmts place o };
  is = ap (span_if_any stmts place) here ∙ span_of-role stmts place s.stmt ∙ ap (span_by stmts place) is;
  passes = one_passes q (record { head = place; last = last_of stmts place o }) h;
}

passes_at : (stmts : List Labelled) (q : Span → Bool) (place : ℕ) (s : Option Labelled) → slice_get stmts place ≡ s → list_any q (span_if_any stmts place s) ≡ true → SpanPasses stmts q
passes_at stmts q place None here h = let e : false ≡ true = h in absurd cc
passes_at stmts q place (Some s) here h = passes_by stmts q place s (opened_by (role_of s.stmt)) here refl (ap (list_any q) (sym (span_of-role stmts place s.stmt)) ∙ h)

pub span_passes : (stmts : List Labelled) (q : Span → Bool) → list_any q (spans stmts) ≡ true → SpanPasses stmts q
span_passes stmts q h =
    let found = any-exists (λ place. list_any q (span_if_any stmts place (slice_get stmts place))) (range_with_len 0 (length stmts)) (sym (list_any-flat_map q (λ place. span_if_any stmts place (slice_get stmts place)) (range_with_len 0 (length stmts))) ∙ h) in
    passes_at stmts q found.item (slice_get stmts found.item) refl found.is

pub head_inside : (stmts : List Labelled) (span : Span) → IsSpan stmts span → span.head < length stmts
head_inside stmts span is = let at = (span_opens stmts span is).opens in slice_get_within stmts span.head at.s at.stands

pub passes_span : (stmts : List Labelled) (q : Span → Bool) (span : Span) → IsSpan stmts span → q span ≡ true → list_any q (spans stmts) ≡ true
passes_span stmts q span is passes =
    list_any-flat_map q (λ place. span_if_any stmts place (slice_get stmts place)) (range_with_len 0 (length stmts))
    ∙ any-from (λ place. list_any q (span_if_any stmts place (slice_get stmts place))) (range_with_len 0 (length stmts)) span.head span.head (range_at (length stmts) span.head (head_inside stmts span is)) (ap (list_any q) is ∙ or_left (q span) false passes)

-- ---- jumps

lies_in-outer : (inner outer : Span) (place : ℕ) → LiesWithin inner outer → lies_in inner place ≡ true → lies_in outer place ≡ true
lies_in-outer inner outer place within h =
    let parts = and_parts (nat_lt inner.head place) (nat_le place inner.last) h in
    let lt = ltb-true inner.head place parts.0 in
    let le = leb-true place inner.last parts.1 in
    and_from (nat_lt outer.head place) (nat_le place outer.last) (lt-ltb outer.head place (omega (arith, lt, within.head))) (le-leb place outer.last (omega (arith, le, within.last)))

-- where nothing holds the target, a jump leads into nothing
pub leads-none : (stmts : List Labelled) (from to : ℕ) → ((span : Span) → IsSpan stmts span → lies_in span to ≡ false) → leads_into stmts from to ≡ false
leads-none stmts from to none = false_from_ne_true (leads_into stmts from to) (λ h.
    let found = span_passes stmts (λ span. lies_in span to && not (lies_in span from)) h in
    let parts = and_parts (lies_in found.span to) (not (lies_in found.span from)) found.passes in
    let e : true ≡ false = sym parts.0 ∙ none found.span found.is in absurd cc)

leads_by : (stmts : List Labelled) (from to head : ℕ) (inner : IsInnermostHead stmts to head) (b : Bool) → lies_in inner.span from ≡ b → leads_into stmts from to ≡ not b
leads_by stmts from to head inner true h = false_from_ne_true (leads_into stmts from to) (λ leads.
    let found = span_passes stmts (λ span. lies_in span to && not (lies_in span from)) leads in
    let parts = and_parts (lies_in found.span to) (not (lies_in found.span from)) found.passes in
    let held = lies_in-outer inner.span found.span from (inner.least found.span found.is parts.0) h in
    let e : false ≡ true = sym (ap not held) ∙ parts.1 in absurd cc)
leads_by stmts from to head inner false h = passes_span stmts (λ span. lies_in span to && not (lies_in span from)) inner.span inner.is (and_from (lies_in inner.span to) (not (lies_in inner.span from)) inner.holds (ap not h))

-- a jump leads into a range or an arm where the innermost one that holds the target doesn't hold the jump
pub leads-innermost : (stmts : List Labelled) (from to head : ℕ) (inner : IsInnermostHead stmts to head) (held : Bool) → held ≡ lies_in inner.span from → not held ≡ leads_into stmts from to
leads-innermost stmts from to head inner held is = ap not is ∙ sym (leads_by stmts from to head inner (lies_in inner.span from) refl)

-- ---- targets

-- where a label stands that may be a target
pub record Target (stmts : List Labelled) (label : ℕ) : Type 0 where
  pub s : Labelled
  pub stands : slice_get stmts (statement_of stmts label) ≡ Some s
  pub no_arm : is_arm s.stmt ≡ false

pub target_of : (stmts : List Labelled) → first_line is_labelled_twice stmts ≡ None → (label : ℕ) → IsBorne stmts label → Target stmts label
target_of stmts once label borne =
    let found = bearer stmts once label borne.0.0 borne.1 in
    record { s = found.0; stands = found.1; no_arm = not-true (is_arm found.0.stmt) (and_parts (is_executable found.0.stmt) (not (is_arm found.0.stmt)) found.2).1 }

pub Target-inside : (stmts : List Labelled) (label : ℕ) → Target stmts label → statement_of stmts label < length stmts
Target-inside stmts label target = slice_get_within stmts (statement_of stmts label) target.s target.stands

pub Target-innermost : (stmts : List Labelled) (heads : List (Option ℕ)) (label place : ℕ) (target : Target stmts label) → AreInnermost stmts heads → place ≡ statement_of stmts label → (head : Option ℕ) → get_or heads place None ≡ head → IsInnermost stmts (statement_of stmts label) head
Target-innermost stmts heads label place target are is head e =
    subst (λ (o : Option ℕ). IsInnermost stmts (statement_of stmts label) o) (ap (λ (n : ℕ). get_or heads n None) (sym is) ∙ e) (are.innermost (statement_of stmts label) target.s target.stands target.no_arm)

pub inner_inside : (stmts : List Labelled) (place head : ℕ) → IsInnermostHead stmts place head → head < length stmts
inner_inside stmts place head inner = let lt = head_inside stmts inner.span inner.is in omega (arith, lt, inner.begins)
