-- The walk over statements that are nested right.
use Rattle.std.proofs.Common.{◌≡◌, ℕ, zero, suc, ◌+◌, ◌-◌, ◌<◌, Bool, true, false, ◌&&◌, if◌then◌else◌, inl, inr, List, [], ◌∷◌, length, drop, slice_get, Option, Some, None, refl, sym, ap, subst, ◌∙◌, arith, ◌||◌, map}
use Rattle.std.specs.List.{list_any}
use Rattle.std.specs.Option.{option_map}
use Rattle.std.proofs.lemmas.Bool.{cases_eq}
use Rattle.f77_tree.specs.declared.statements.Labelled.{Labelled}
use Rattle.layout_rules.specs.declared.nesting.Opened.{Opened}
use Rattle.layout_rules.specs.declared.nesting.Role.{Role}
use Rattle.layout_rules.specs.declared.nesting.Role.TheVariants.{Finish, Declaration, BeginLoop, BeginBlock, NextArm, LastArm, EndBlock, Leave, Plain}
use Rattle.layout_rules.specs.Source.{EndsWithEnd}
use Rattle.layout_rules.specs.Roles.{role_of, is_no_end}
use Rattle.layout_rules.specs.Nesting.{line_or, first_unnested, if_nothing, has_loop_to, without_loops, after_ends, arm_in_place, after_arm, after_block, after_end_if, after_role, itself, open_after}
use Rattle.layout_rules.specs.declared.nesting.Opened.TheVariants.{Loop, Block}
use Rattle.control_structure.specs.declared.open_stack.Entry.{Entry}
use Rattle.control_structure.specs.OpenStack.{ends_at, entries_after, kind, begun, without_ended}
use Rattle.control_structure.proofs.Stops.{drop_here}
use Rattle.control_structure.proofs.OpenSpans.{AreLabelled, AreWithin, Stands, held, Keeps-after}

abbrev pub opens : List Entry → List Opened
opens stack = map kind stack

any-opens : (label : ℕ) (stack : List Entry) → has_loop_to itself label (opens stack) ≡ has_loop_to kind label stack
any-opens label [] = refl
any-opens label (e ∷ rest) = ap (λ b. ends_at label e || b) (any-opens label rest)

without-opens : (label : ℕ) (stack : List Entry) → without_loops itself label (opens stack) ≡ opens (without_ended label stack)
without-opens label [] = refl
without-opens label (e ∷ rest) = by (ends_at label e) (without-opens label rest)
  where
    by : (b : Bool) → without_loops itself label (opens rest) ≡ opens (without_ended label rest) → (if b then without_loops itself label (opens rest) else opens (e ∷ rest)) ≡ opens (if b then without_ended label rest else (e ∷ rest))
    by true h = h
    by false h = refl

unless : (b : Bool) (x : Option (List Opened)) (y : Option (List Entry)) → x ≡ option_map opens y → (if b then None else x) ≡ option_map opens (if b then None else y)
unless true x y h = refl
unless false x y h = h

ends : (label : ℕ) (stack : List Entry) → after_ends itself label (without_loops itself label (opens stack)) ≡ option_map opens (after_ends kind label (without_ended label stack))
ends label stack =
    ap (after_ends itself label) (without-opens label stack)
    ∙ ap (λ b. if b then None else Some (opens (without_ended label stack))) (any-opens label (without_ended label stack))
    ∙ unless (has_loop_to kind label (without_ended label stack)) (Some (opens (without_ended label stack))) (Some (without_ended label stack)) refl

new_arm : (is_last : Bool) (place : ℕ) (stack : List Entry) → after_arm itself itself is_last (opens stack) ≡ option_map opens (after_arm kind (begun place) is_last stack)
new_arm is_last place [] = refl
new_arm is_last place (e ∷ rest) = by e.opened
  where
    by : (o : Opened) → arm_in_place itself is_last o (opens rest) ≡ option_map opens (arm_in_place (begun place) is_last o rest)
    by (Block true) = refl
    by (Block false) = refl
    by (Loop terminal) = refl

end_if : (stack : List Entry) → after_end_if itself (opens stack) ≡ option_map opens (after_end_if kind stack)
end_if [] = refl
end_if (e ∷ rest) = by e.opened
  where
    by : (o : Opened) → after_block o (opens rest) ≡ option_map opens (after_block o rest)
    by (Block is_last) = refl
    by (Loop terminal) = refl

by_role : (role : Role) (place label : ℕ) (stack : List Entry) → after_role itself itself role label (opens stack) ≡ option_map opens (after_role kind (begun place) role label stack)
by_role Declaration place label stack = refl
by_role (BeginLoop terminal) place label stack = refl
by_role BeginBlock place label stack = refl
by_role NextArm place label stack = new_arm false place stack
by_role LastArm place label stack = new_arm true place stack
by_role EndBlock place label stack = end_if stack
by_role Finish place label [] = refl
by_role Finish place label (e ∷ rest) = refl
by_role Leave place label stack = ends label stack
by_role Plain place label stack = ends label stack

-- what is open after a statement
pub opens-after : (s : Labelled) (place : ℕ) (stack : List Entry) → open_after s (opens stack) ≡ option_map opens (entries_after (role_of s.stmt) place s.label stack)
opens-after s place stack =
    let role = role_of s.stmt in
    ap (λ b. if b && is_no_end role then None else after_role itself itself role s.label (opens stack)) (any-opens s.label stack)
    ∙ unless (has_loop_to kind s.label stack && is_no_end role) (after_role itself itself role s.label (opens stack)) (after_role kind (begun place) role s.label stack) (by_role role place s.label stack)

pub item_at : {X : Type 0} → (xs : List X) (i : ℕ) → i < length xs → (x : X) × (slice_get xs i ≡ Some x)
item_at [] i lt = absurd (omega (arith, lt))
item_at (x ∷ xs) zero lt = (x, refl)
item_at (x ∷ xs) (suc i) lt = item_at xs i (omega (arith, lt))

-- where these are open before the place, the statements from there on have this line as the first that isn't nested right
abbrev pub unnested_from : List Labelled → (place : ℕ) → List Entry → Option ℕ
unnested_from stmts place stack = first_unnested (opens stack) (drop place stmts)

-- the line, or what comes of what is open after the statement
abbrev pub line_or_more : List Labelled → (line next : ℕ) → Option (List Entry) → Option ℕ
line_or_more stmts line next None = Some line
line_or_more stmts line next (Some beyond) = unnested_from stmts next beyond

more : (stmts : List Labelled) (line next : ℕ) (beyond : Option (List Entry)) → line_or line (option_map opens beyond) (λ b. first_unnested b (drop next stmts)) ≡ line_or_more stmts line next beyond
more stmts line next None = refl
more stmts line next (Some beyond) = refl

pub unnested-step : (stmts : List Labelled) (i : ℕ) (s : Labelled) (stack : List Entry) → slice_get stmts i ≡ Some s → unnested_from stmts i stack ≡ line_or_more stmts s.line (i + 1) (entries_after (role_of s.stmt) i s.label stack)
unnested-step stmts i s stack h =
    ap (λ (xs : List Labelled). first_unnested (opens stack) xs) (drop_here stmts i s h)
    ∙ ap (λ (o : Option (List Opened)). line_or s.line o (λ b. first_unnested b (drop (i + 1) stmts))) (opens-after s i stack)
    ∙ more stmts s.line (i + 1) (entries_after (role_of s.stmt) i s.label stack)

-- what is open after a statement, where all are nested right from there on
pub record GoesOn (stmts : List Labelled) (i : ℕ) (s : Labelled) (stack : List Entry) : Type 0 where
  pub beyond : List Entry
  pub is : entries_after (role_of s.stmt) i s.label stack ≡ Some beyond
  pub nested : unnested_from stmts (i + 1) beyond ≡ None

pub goes_on : (stmts : List Labelled) (i : ℕ) (s : Labelled) (stack : List Entry) → slice_get stmts i ≡ Some s → unnested_from stmts i stack ≡ None → GoesOn stmts i s stack
goes_on stmts i s stack h none = by (entries_after (role_of s.stmt) i s.label stack) refl (sym (unnested-step stmts i s stack h) ∙ none)
  where
    by : (o : Option (List Entry)) → entries_after (role_of s.stmt) i s.label stack ≡ o → line_or_more stmts s.line (i + 1) o ≡ None → GoesOn stmts i s stack
    by None is h = let e : Some s.line ≡ None = h in absurd cc
    by (Some beyond) is h = record { beyond = beyond; is = is; nested = h }

-- ---- at END nothing is open

finished : (b : Bool) (stack beyond : List Entry) → (if b && true then None else if_nothing stack) ≡ Some beyond → stack ≡ []
finished true stack beyond h = let e : None ≡ Some beyond = h in absurd cc
finished false [] beyond h = refl
finished false (e ∷ rest) beyond h = let e : None ≡ Some beyond = h in absurd cc

pub nothing_at_end : (stmts : List Labelled) (ended : EndsWithEnd stmts) (i : ℕ) (s : Labelled) (stack beyond : List Entry) → i + 1 ≡ length stmts → slice_get stmts i ≡ Some s → entries_after (role_of s.stmt) i s.label stack ≡ Some beyond → stack ≡ []
nothing_at_end stmts ended i s stack beyond last here h =
    let place : i ≡ length stmts - 1 = omega (arith, last) in
    let at : slice_get stmts i ≡ Some ended.last = ap (slice_get stmts) place ∙ ended.stands in
    let same : s ≡ ended.last = cc in
    let is : role_of s.stmt ≡ Finish = ap (λ (t : Labelled). role_of t.stmt) same ∙ ap role_of ended.is in
    finished (list_any (ends_at s.label) stack) stack beyond (sym (ap (λ (r : Role). entries_after r i s.label stack) is) ∙ h)

-- ---- each entry reaches beyond the place, and no farther than the one below it

module _ (stmts : List Labelled) (are : AreLabelled stmts) (ended : EndsWithEnd stmts) where
  within-held : (i : ℕ) (s : Labelled) (stack beyond : List Entry) → slice_get stmts i ≡ Some s → Stands stmts i stack → (i + 1 < length stmts → AreWithin stmts (i + 1) beyond) → i < length stmts → entries_after (role_of s.stmt) i s.label stack ≡ Some beyond → AreWithin stmts (i + 1) (held (role_of s.stmt) stack)
  within-held i s stack beyond here stands later lt is = elim (cases_eq (i + 1) (length stmts)) as (λ _. AreWithin stmts (i + 1) (held (role_of s.stmt) stack)) [
    | inl last ↦ let none : stack ≡ [] = nothing_at_end stmts ended i s stack beyond last here is in subst (λ (xs : List Entry). AreWithin stmts (i + 1) (held (role_of s.stmt) xs)) (sym none) (none_held (role_of s.stmt) (i + 1))
    | inr other ↦ (Keeps-after stmts are i s here stack beyond stands is).within (later (omega (arith, other, lt)))
  ]
    where
      none_held : (role : Role) (place : ℕ) → AreWithin stmts place (held role [])
      none_held Finish place = tt
      none_held _ place = tt

  within : (n i : ℕ) (stack : List Entry) → i + n ≡ length stmts → i < length stmts → Stands stmts i stack → unnested_from stmts i stack ≡ None → AreWithin stmts i stack
  within zero i stack sum lt stands nested = absurd (omega (arith, sum, lt))
  within (suc n) i stack sum lt stands nested =
      let s = item_at stmts i lt in
      let next = goes_on stmts i s.0 stack s.1 nested in
      let keeps = Keeps-after stmts are i s.0 s.1 stack next.beyond stands next.is in
      keeps.before (within-held i s.0 stack next.beyond s.1 stands (λ less. within n (i + 1) next.beyond (omega (arith, sum)) less keeps.stands next.nested) lt next.is)

  pub AreWithin-nested : (i : ℕ) (stack : List Entry) → i < length stmts → Stands stmts i stack → unnested_from stmts i stack ≡ None → AreWithin stmts i stack
  AreWithin-nested i stack lt stands nested = within (length stmts - i) i stack (omega (arith, lt)) lt stands nested

  -- what holds a statement reaches beyond it
  pub AreWithin-held : (i : ℕ) (s : Labelled) (stack beyond : List Entry) → slice_get stmts i ≡ Some s → i < length stmts → Stands stmts i stack → entries_after (role_of s.stmt) i s.label stack ≡ Some beyond → unnested_from stmts (i + 1) beyond ≡ None → AreWithin stmts (i + 1) (held (role_of s.stmt) stack)
  AreWithin-held i s stack beyond here lt stands is nested =
      let keeps = Keeps-after stmts are i s here stack beyond stands is in
      within-held i s stack beyond here stands (λ less. AreWithin-nested (i + 1) beyond less keeps.stands nested) lt is
