-- What the walk over the statements knows before each.
use Rattle.std.proofs.Common.{◌≡◌, ℕ, ◌+◌, ◌<◌, ◌≤◌, true, false, List, [], ◌∷◌, ◌++◌, inl, inr, length, drop, get_or, slice_get, Option, Some, None, refl, sym, ap, subst, ◌∙◌, arith}
use Rattle.std.specs.List.{list_any}
use Rattle.std.proofs.lemmas.Bool.{cases_eq}
use Rattle.std.proofs.lemmas.List.{drop_all, get_or_append_left, get_or_at, length_push}
use Rattle.std.proofs.lemmas.Option.{slice_get_within}
use Rattle.f77_tree.specs.declared.statements.Labelled.{Labelled}
use Rattle.control_structure.specs.declared.open_stack.Entry.{Entry}
use Rattle.layout_rules.specs.declared.nesting.Opened.{Opened}
use Rattle.layout_rules.specs.declared.nesting.Opened.TheVariants.{Loop, Block}
use Rattle.layout_rules.specs.declared.nesting.Role.{Role}
use Rattle.layout_rules.specs.declared.nesting.Role.TheVariants.{NextArm, LastArm, EndBlock}
use Rattle.layout_rules.specs.Faults.{first_line}
use Rattle.layout_rules.specs.Source.{IsSource}
use Rattle.layout_rules.specs.Labels.{is_arm, is_labelled_twice}
use Rattle.layout_rules.specs.Roles.{role_of, turns_arm}
use Rattle.layout_rules.specs.Nesting.{first_unnested, after_end_if, after_block}
use Rattle.control_structure.specs.Innermost.{IsInnermost, AreInnermost}
use Rattle.control_structure.specs.OpenStack.{ends_at, entries_after, head_of, kind}
use Rattle.layout_rules.proofs.RoleTests.{is_arm-role}
use Rattle.control_structure.proofs.OpenSpans.{Stands, held, Keeps-after, not_refused}
use Rattle.control_structure.proofs.SourceLabels.{AreLabelled-source}
use Rattle.control_structure.proofs.Walks.{unnested_from, line_or_more, unnested-step, opens}
use Rattle.control_structure.proofs.InnermostSpans.{Covers-innermost, Covers-held}

-- ---- the walk

pub record IsWalk (stmts : List Labelled) (i : ℕ) (stack : List Entry) (heads : List (Option ℕ)) : Type 0 where
  pub stands : Stands stmts i stack
  pub nested : unnested_from stmts i stack ≡ first_unnested [] stmts
  pub places : length heads ≡ i
  pub innermost : (place : ℕ) (s : Labelled) → place < i → slice_get stmts place ≡ Some s → is_arm s.stmt ≡ false → first_unnested [] stmts ≡ None → IsInnermost stmts place (get_or heads place None)

pub IsWalk-begin : (stmts : List Labelled) → IsWalk stmts 0 [] []
IsWalk-begin stmts = record {
  stands = record { opened = tt; falling = tt; stops = tt; covered = λ h o lt opens later. absurd (omega (arith, lt)) };
  nested = refl;
  places = refl;
  innermost = λ place s lt here arm none. absurd (omega (arith, lt));
}

pub IsWalk-end : (stmts : List Labelled) (i : ℕ) (stack : List Entry) (heads : List (Option ℕ)) → length stmts ≤ i → IsWalk stmts i stack heads → i ≤ length stmts → (first_unnested [] stmts ≡ None) × AreInnermost stmts heads
IsWalk-end stmts i stack heads le walk least =
    let none : first_unnested [] stmts ≡ None = sym walk.nested ∙ ap (first_unnested (opens stack)) (drop_all i stmts le) in (
      none,
      record {
        length_is = omega (arith, walk.places, le, least);
        innermost = λ place s here arm. walk.innermost place s (let lt = slice_get_within stmts place s here in omega (arith, lt, le)) here arm none;
      },
    )

pub IsWalk-fault : (stmts : List Labelled) (i : ℕ) (s : Labelled) (stack : List Entry) (heads : List (Option ℕ)) → slice_get stmts i ≡ Some s → IsWalk stmts i stack heads → entries_after (role_of s.stmt) i s.label stack ≡ None → first_unnested [] stmts ≡ Some s.line
IsWalk-fault stmts i s stack heads here walk fault = sym walk.nested ∙ unnested-step stmts i s stack here ∙ ap (line_or_more stmts s.line (i + 1)) fault

-- ---- the head of what holds a statement

ended_head : (stack beyond : List Entry) → after_end_if kind stack ≡ Some beyond → head_of beyond ≡ head_of (drop 1 stack)
ended_head [] beyond h = let e : None ≡ Some beyond = h in absurd cc
ended_head (e ∷ rest) beyond h = by e.opened h
  where
    by : (o : Opened) → after_block o rest ≡ Some beyond → head_of beyond ≡ head_of rest
    by (Loop terminal) h = let e : None ≡ Some beyond = h in absurd cc
    by (Block is_last) h = let same : rest ≡ beyond = cc in ap head_of (sym same)

pub head-ended : (role : Role) (i label : ℕ) (stack beyond : List Entry) → role ≡ EndBlock → entries_after role i label stack ≡ Some beyond → head_of beyond ≡ head_of (held role stack)
head-ended role i label stack beyond is h =
    ended_head stack beyond (not_refused (list_any (ends_at label) stack) true (after_end_if kind stack) beyond (sym (ap (λ (r : Role). entries_after r i label stack) is) ∙ h))
    ∙ ap (λ (r : Role). head_of (held r stack)) (sym is)

pub head-inside : (role : Role) (stack : List Entry) → (role ≡ EndBlock → ⊥) → turns_arm role ≡ false → head_of stack ≡ head_of (held role stack)
head-inside EndBlock stack other no_arm = absurd (other refl)
head-inside NextArm stack other no_arm = let e : true ≡ false = no_arm in absurd cc
head-inside LastArm stack other no_arm = let e : true ≡ false = no_arm in absurd cc
head-inside _ stack other no_arm = refl

-- ---- one statement more

pub IsWalk-step : (stmts : List Labelled) → IsSource stmts → first_line is_labelled_twice stmts ≡ None → (i : ℕ) (s : Labelled) (stack beyond : List Entry) (heads : List (Option ℕ)) (head : Option ℕ) → slice_get stmts i ≡ Some s → IsWalk stmts i stack heads
    → entries_after (role_of s.stmt) i s.label stack ≡ Some beyond → (turns_arm (role_of s.stmt) ≡ false → head ≡ head_of (held (role_of s.stmt) stack)) → IsWalk stmts (i + 1) beyond (heads ++ head ∷ [])
IsWalk-step stmts source once i s stack beyond heads head here walk is head_is =
    let are = AreLabelled-source stmts source once in
    let nested : unnested_from stmts (i + 1) beyond ≡ first_unnested [] stmts = sym (ap (line_or_more stmts s.line (i + 1)) is) ∙ (sym (unnested-step stmts i s stack here) ∙ walk.nested) in
    record {
      stands = (Keeps-after stmts are i s here stack beyond walk.stands is).stands;
      nested = nested;
      places = length_push heads head ∙ ap (λ (n : ℕ). n + 1) walk.places;
      innermost = λ place t lt at arm none. elim (cases_eq place i) as (λ _. IsInnermost stmts place (get_or (heads ++ head ∷ []) place None)) [
        | inl same ↦
            let there : slice_get stmts i ≡ Some t = ap (slice_get stmts) (sym same) ∙ at in
            let eq : t ≡ s = cc in
            let no_arm : turns_arm (role_of s.stmt) ≡ false = sym (is_arm-role s.stmt) ∙ (ap (λ (u : Labelled). is_arm u.stmt) (sym eq) ∙ arm) in
            let top : IsInnermost stmts i (head_of (held (role_of s.stmt) stack)) = Covers-innermost stmts i (held (role_of s.stmt) stack) (Covers-held stmts are source.ended i s stack beyond here walk.stands is (nested ∙ none)) in
            let value : get_or (heads ++ head ∷ []) i None ≡ head_of (held (role_of s.stmt) stack) = get_or_at heads head [] None i walk.places ∙ head_is no_arm in
            subst (λ (n : ℕ). IsInnermost stmts n (get_or (heads ++ head ∷ []) n None)) (sym same) (subst (λ (o : Option ℕ). IsInnermost stmts i o) (sym value) top)
        | inr other ↦
            let less : place < i = omega (arith, lt, other) in
            subst (λ (o : Option ℕ). IsInnermost stmts place o) (sym (get_or_append_left heads (head ∷ []) None place (omega (arith, less, walk.places)))) (walk.innermost place t less at arm none)
      ];
    }
