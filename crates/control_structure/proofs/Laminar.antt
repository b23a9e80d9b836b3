-- Where all statements are nested right, ranges and arms lie one in the other or apart.
use Rattle.std.proofs.Common.{◌≡◌, ℕ, zero, suc, ◌+◌, ◌-◌, ◌<◌, ◌≤◌, Bool, true, false, List, [], ◌∷◌, ◌⊎◌, inl, inr, length, slice_get, Some, None, refl, sym, ap, subst, ◌∙◌, arith}
use Rattle.std.specs.List.{list_any}
use Rattle.std.proofs.lemmas.Bool.{cases_lt}
use Rattle.std.proofs.lemmas.Option.{slice_get_within}
use Rattle.f77_tree.specs.declared.statements.Labelled.{Labelled}
use Rattle.f77_tree.specs.declared.statements.Stmt.{Stmt}
use Rattle.control_structure.specs.declared.open_stack.Entry.{Entry}
use Rattle.layout_rules.specs.declared.nesting.Opened.{Opened}
use Rattle.layout_rules.specs.declared.nesting.Opened.TheVariants.{Loop, Block}
use Rattle.layout_rules.specs.declared.nesting.Role.{Role}
use Rattle.layout_rules.specs.declared.nesting.Role.TheVariants.{BeginLoop, BeginBlock, NextArm, LastArm, EndBlock}
use Rattle.layout_rules.specs.Source.{EndsWithEnd}
use Rattle.layout_rules.specs.Roles.{role_of, is_no_end}
use Rattle.layout_rules.specs.Labels.{statement_of}
use Rattle.layout_rules.specs.Nesting.{first_unnested, arm_in_place, after_role}
use Rattle.control_structure.specs.Innermost.{AreNested}
use Rattle.control_structure.specs.OpenStack.{ends_at, begun, kind}
use Rattle.control_structure.proofs.RoleLemmas.{opened_by, last_of}
use Rattle.control_structure.proofs.OpenSpans.{OpensAt, after_of, after_entry, AreLabelled, AreFalling, AreWithin, Has, Stands, held, Keeps-after, not_refused}
use Rattle.control_structure.proofs.Walks.{item_at, unnested_from, goes_on, nothing_at_end, AreWithin-nested, AreWithin-held}
use Rattle.control_structure.proofs.NestingWalk.{IsWalk-begin}
use Rattle.control_structure.proofs.InnermostSpans.{span_opens, has-within, has-top, reaches, last_le}

-- ---- the stack at each place

pub record StackAt (stmts : List Labelled) (i : ℕ) : Type 0 where
  pub stack : List Entry
  pub stands : Stands stmts i stack
  pub nested : unnested_from stmts i stack ≡ None

turned : (is_last : Bool) (i : ℕ) (p : Opened) (rest beyond : List Entry) (o : Opened) → Some (Block is_last) ≡ Some o → arm_in_place (begun i) is_last p rest ≡ Some beyond → beyond ≡ begun i o ∷ rest
turned is_last i (Block false) rest beyond o opens h = let same : Block is_last ≡ o = cc in let e : begun i (Block is_last) ∷ rest ≡ beyond = cc in sym e ∙ ap (λ (p : Opened). begun i p ∷ rest) same
turned is_last i (Block true) rest beyond o opens h = let e : None ≡ Some beyond = h in absurd cc
turned is_last i (Loop terminal) rest beyond o opens h = let e : None ≡ Some beyond = h in absurd cc

-- what is opened stands on what holds its statement
on_top : (role : Role) (i label : ℕ) (stack beyond : List Entry) (o : Opened) → opened_by role ≡ Some o → after_role kind (begun i) role label stack ≡ Some beyond → beyond ≡ begun i o ∷ held role stack
on_top (BeginLoop terminal) i label stack beyond o opens h = let same : Loop terminal ≡ o = cc in let e : begun i (Loop terminal) ∷ stack ≡ beyond = cc in sym e ∙ ap (λ (p : Opened). begun i p ∷ stack) same
on_top BeginBlock i label stack beyond o opens h = let same : Block false ≡ o = cc in let e : begun i (Block false) ∷ stack ≡ beyond = cc in sym e ∙ ap (λ (p : Opened). begun i p ∷ stack) same
on_top NextArm i label [] beyond o opens h = let e : None ≡ Some beyond = h in absurd cc
on_top NextArm i label (top ∷ rest) beyond o opens h = turned false i top.opened rest beyond o opens h
on_top LastArm i label [] beyond o opens h = let e : None ≡ Some beyond = h in absurd cc
on_top LastArm i label (top ∷ rest) beyond o opens h = turned true i top.opened rest beyond o opens h
on_top _ i label stack beyond o opens h = let e : None ≡ Some o = opens in absurd cc

-- a loop on top holds the next statement
held-loop : (role : Role) (i label h terminal : ℕ) (rest beyond : List Entry) → after_role kind (begun i) role label (begun h (Loop terminal) ∷ rest) ≡ Some beyond → held role (begun h (Loop terminal) ∷ rest) ≡ begun h (Loop terminal) ∷ rest
held-loop NextArm i label h terminal rest beyond is = let e : None ≡ Some beyond = is in absurd cc
held-loop LastArm i label h terminal rest beyond is = let e : None ≡ Some beyond = is in absurd cc
held-loop EndBlock i label h terminal rest beyond is = let e : None ≡ Some beyond = is in absurd cc
held-loop _ i label h terminal rest beyond is = refl

-- of two entries the one that begins later ends no later
pub nested_entries : (stmts : List Labelled) (place low g h : ℕ) (o p : Opened) (stack : List Entry) → AreFalling place stack → AreWithin stmts low stack → Has g o stack → Has h p stack → g < h → after_of stmts h p ≤ after_of stmts g o
nested_entries stmts place low g h o p [] falling within outer inner lt = absurd outer
nested_entries stmts place low g h o p (e ∷ rest) falling within outer inner lt = elim inner as (λ _. after_of stmts h p ≤ after_of stmts g o) [
  | inl top ↦
      let here : after_of stmts h p ≡ after_entry stmts e = ap (λ (n : ℕ). after_of stmts n p) (sym top.0) ∙ ap (after_of stmts e.begin) (sym top.1) in
      let below = (has-top stmts g o e rest falling.1 within.1 outer).beyond in omega (arith, here, below)
  | inr deeper ↦ elim outer as (λ _. after_of stmts h p ≤ after_of stmts g o) [
    | inl first ↦ absurd (omega (arith, (has-within stmts e.begin (after_entry stmts e) h p rest falling.1 within.1 deeper).0, first.0, lt))
    | inr below ↦ nested_entries stmts e.begin (after_entry stmts e) g h o p rest falling.1 within.1 below deeper lt
  ]
]

-- ---- ranges and arms

module _ (stmts : List Labelled) (are : AreLabelled stmts) (ended : EndsWithEnd stmts) (none : first_unnested [] stmts ≡ None) where
  stack_at : (i : ℕ) → i ≤ length stmts → StackAt stmts i
  stack_at zero le = record { stack = []; stands = (IsWalk-begin stmts).stands; nested = none }
  stack_at (suc i) le =
      let at = stack_at i (omega (arith, le)) in
      let s = item_at stmts i (omega (arith, le)) in
      let next = goes_on stmts i s.0 at.stack s.1 at.nested in
      let more : i + 1 ≡ suc i = omega arith in
      subst (λ (n : ℕ). StackAt stmts n) more (record { stack = next.beyond; stands = (Keeps-after stmts are i s.0 s.1 at.stack next.beyond at.stands next.is).stands; nested = next.nested })

  -- what is open after a statement that opens something: that stands on what holds the statement
  pub record OpenedAt (h : ℕ) (o : Opened) : Type 0 where
    pub rest : List Entry
    pub stands : Stands stmts (h + 1) (begun h o ∷ rest)
    pub nested : unnested_from stmts (h + 1) (begun h o ∷ rest) ≡ None
    pub holds : (g : ℕ) (p : Opened) → g < h → OpensAt stmts g p → h < after_of stmts g p → Has g p rest

  pub opened_stack : (h : ℕ) (o : Opened) → OpensAt stmts h o → OpenedAt h o
  opened_stack h o opens =
      let lt = slice_get_within stmts h opens.s opens.stands in
      let role = role_of opens.s.stmt in
      let at = stack_at h (omega (arith, lt)) in
      let next = goes_on stmts h opens.s at.stack opens.stands at.nested in
      let keeps = Keeps-after stmts are h opens.s opens.stands at.stack next.beyond at.stands next.is in
      let top = on_top role h opens.s.label at.stack next.beyond o opens.opens (not_refused (list_any (ends_at opens.s.label) at.stack) (is_no_end role) (after_role kind (begun h) role opens.s.label at.stack) next.beyond next.is) in
      record {
        rest = held role at.stack;
        stands = subst (λ (xs : List Entry). Stands stmts (h + 1) xs) top keeps.stands;
        nested = subst (λ (xs : List Entry). unnested_from stmts (h + 1) xs ≡ None) top next.nested;
        holds = λ g p less begins later. keeps.holds g p later (at.stands.covered g p less begins later);
      }

  -- END opens nothing
  pub before_end : (h : ℕ) (o : Opened) → OpensAt stmts h o → h + 1 < length stmts
  before_end h o opens =
      let last : h ≡ length stmts - 1 → ⊥ = λ place.
      let both : Some opens.s ≡ Some ended.last = sym opens.stands ∙ (ap (slice_get stmts) place ∙ ended.stands) in
      let same : opens.s ≡ ended.last = cc in
      let e : None ≡ Some o = sym (ap (λ (t : Labelled). opened_by (role_of t.stmt)) same ∙ ap (λ (t : Stmt). opened_by (role_of t)) ended.is) ∙ opens.opens in
      absurd cc in
      omega (arith, last, slice_get_within stmts h opens.s opens.stands)

  reaches_on : (h : ℕ) (o : Opened) → OpensAt stmts h o → h + 1 ≤ after_of stmts h o
  reaches_on h o opens =
      let opened = opened_stack h o opens in
      (AreWithin-nested stmts are ended (h + 1) (begun h o ∷ opened.rest) (before_end h o opens) opened.stands opened.nested).0

  pub ends_before : (h : ℕ) (o : Opened) → OpensAt stmts h o → after_of stmts h o < length stmts
  ends_before h o opens =
      let inside = before_end h o opens in
      let at = stack_at (length stmts - 1) (omega arith) in
      let next = goes_on stmts (length stmts - 1) ended.last at.stack ended.stands at.nested in
      let nothing = nothing_at_end stmts ended (length stmts - 1) ended.last at.stack next.beyond (omega (arith, inside)) ended.stands next.is in
      let beyond : length stmts ≤ after_of stmts h o → ⊥ = λ le. subst (λ (xs : List Entry). Has h o xs) nothing (at.stands.covered h o (omega (arith, inside)) opens (omega (arith, inside, le))) in
      omega (arith, beyond)

  -- a DO doesn't end its own range
  pub terminal_after : (h terminal : ℕ) → OpensAt stmts h (Loop terminal) → h < statement_of stmts terminal
  terminal_after h terminal opens =
      let opened = opened_stack h (Loop terminal) opens in
      let inside = before_end h (Loop terminal) opens in
      let s = item_at stmts (h + 1) inside in
      let stack : List Entry = begun h (Loop terminal) ∷ opened.rest in
      let next = goes_on stmts (h + 1) s.0 (begun h (Loop terminal) ∷ opened.rest) s.1 opened.nested in
      let within = AreWithin-held stmts are ended (h + 1) s.0 (begun h (Loop terminal) ∷ opened.rest) next.beyond s.1 inside opened.stands next.is next.nested in
      let all = held-loop (role_of s.0.stmt) (h + 1) s.0.label h terminal opened.rest next.beyond (not_refused (list_any (ends_at s.0.label) (begun h (Loop terminal) ∷ opened.rest)) (is_no_end (role_of s.0.stmt)) (after_role kind (begun (h + 1)) (role_of s.0.stmt) s.0.label (begun h (Loop terminal) ∷ opened.rest)) next.beyond next.is) in
      let top = (subst (λ (xs : List Entry). AreWithin stmts (h + 1 + 1) xs) all within).0 in
      omega (arith, top)

  within_or_apart : (g h : ℕ) (o p : Opened) → OpensAt stmts g o → OpensAt stmts h p → g < h → (last_of stmts h p ≤ last_of stmts g o) ⊎ (last_of stmts g o ≤ h)
  within_or_apart g h o p outer inner lt = elim (cases_lt h (last_of stmts g o)) as (λ _. (last_of stmts h p ≤ last_of stmts g o) ⊎ (last_of stmts g o ≤ h)) [
    | inr le ↦ inr le
    | inl less ↦
        let opened = opened_stack h p inner in
        let has = opened.stands.covered g o (omega (arith, lt)) outer (reaches stmts g o (h + 1) (omega arith) (omega (arith, less))) in
        let within = AreWithin-nested stmts are ended (h + 1) (begun h p ∷ opened.rest) (before_end h p inner) opened.stands opened.nested in
        inl (last_le stmts h g p o (nested_entries stmts (h + 1) (h + 1) g h o p (begun h p ∷ opened.rest) opened.stands.falling within has (inl (refl, refl)) lt))
  ]

  last_before : (h : ℕ) (o : Opened) → OpensAt stmts h o → (h ≤ last_of stmts h o) × (last_of stmts h o + 1 < length stmts)
  last_before h (Loop terminal) opens = let a = terminal_after h terminal opens in let b = ends_before h (Loop terminal) opens in (omega (arith, a), omega (arith, b))
  last_before h (Block is_last) opens = let a = reaches_on h (Block is_last) opens in let b = ends_before h (Block is_last) opens in (omega (arith, a), omega (arith, a, b))

  pub AreNested-walk : AreNested stmts
  AreNested-walk = record {
    within_or_apart = λ outer inner is_outer is_inner lt.
        let a = span_opens stmts outer is_outer in
        let b = span_opens stmts inner is_inner in
        elim (within_or_apart outer.head inner.head a.o b.o a.opens b.opens lt) as (λ _. (inner.last ≤ outer.last) ⊎ (outer.last ≤ inner.head)) [
          | inl le ↦ inl (omega (arith, le, a.last, b.last))
          | inr le ↦ inr (omega (arith, le, a.last))
        ];
    ends = λ span is.
        let a = span_opens stmts span is in
        let b = last_before span.head a.o a.opens in
        (omega (arith, b.0, a.last), omega (arith, b.1, a.last));
    terminals = λ place label s here is. terminal_after place label (record { s = s; stands = here; opens = ap opened_by is });
  }
