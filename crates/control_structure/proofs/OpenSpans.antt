-- What the stack of what is open says of the ranges and arms of the statements.
use Rattle.std.proofs.Common.{◌≡◌, ℕ, ◌+◌, ◌<◌, ◌≤◌, true, false, ◌⊎◌, inl, inr, List, [], ◌∷◌, slice_get, Some, refl, sym, ap, subst, ◌∙◌, arith, Bool, ◌&&◌, if◌then◌else◌, drop, Option, None}
use Rattle.std.proofs.lemmas.Bool.{cond_both, eqb-true, cases_eq}
use Rattle.std.specs.List.{list_any}
use Rattle.f77_tree.specs.declared.statements.Labelled.{Labelled}
use Rattle.layout_rules.specs.declared.nesting.Opened.{Opened}
use Rattle.layout_rules.specs.declared.nesting.Opened.TheVariants.{Loop, Block}
use Rattle.layout_rules.specs.Roles.{role_of, is_no_end, turns_arm}
use Rattle.layout_rules.specs.Jumps.{end_of_arm}
use Rattle.layout_rules.specs.Labels.{statement_of}
use Rattle.layout_rules.specs.Nesting.{is_loop_to, after_role, arm_in_place, after_block, after_ends}
use Rattle.layout_rules.specs.declared.nesting.Role.{Role}
use Rattle.layout_rules.specs.declared.nesting.Role.TheVariants.{Declaration, BeginLoop, BeginBlock, NextArm, LastArm, EndBlock, Finish, Leave, Plain}
use Rattle.control_structure.specs.declared.open_stack.Entry.{Entry}
use Rattle.control_structure.specs.OpenStack.{ends_at, without_ended, begun, entries_after, kind}
use Rattle.control_structure.proofs.RoleLemmas.{opened_by}
use Rattle.control_structure.proofs.Stops.{stop_at, stop_by, stop_at-step, is_quiet, stop_by-quiet, stop_by-arm, stop_by-end}

-- ---- words

-- the statement at this place opens that
pub record OpensAt (stmts : List Labelled) (h : ℕ) (o : Opened) : Type 0 where
  pub s : Labelled
  pub stands : slice_get stmts h ≡ Some s
  pub opens : opened_by (role_of s.stmt) ≡ Some o

-- the place after what is opened here
abbrev pub after_of : List Labelled → ℕ → Opened → ℕ
after_of stmts h (Loop terminal) = statement_of stmts terminal + 1
after_of stmts h (Block is_last) = end_of_arm stmts h

abbrev pub after_entry : List Labelled → Entry → ℕ
after_entry stmts e = after_of stmts e.begin e.opened

-- Labels lead to their statements, and loops end at labels.
pub record AreLabelled (stmts : List Labelled) : Type 0 where
  pub places : (i : ℕ) (s : Labelled) → slice_get stmts i ≡ Some s → (s.label ≡ 0 → ⊥) → statement_of stmts s.label ≡ i
  pub loops : (h terminal : ℕ) → OpensAt stmts h (Loop terminal) → terminal ≡ 0 → ⊥

-- each entry is opened by its statement
abbrev pub AreOpened : List Labelled → List Entry → Type 0
AreOpened stmts [] = Unit {0}
AreOpened stmts (e ∷ rest) = OpensAt stmts e.begin e.opened × AreOpened stmts rest

-- the entries begin one before the other, and before the place
abbrev pub AreFalling : ℕ → List Entry → Type 0
AreFalling place [] = Unit {0}
AreFalling place (e ∷ rest) = (e.begin < place) × AreFalling e.begin rest

abbrev pub Stops : List Labelled → ℕ → (begin : ℕ) → Opened → Type 0
Stops stmts stop begin (Loop terminal) = Unit {0}
Stops stmts stop begin (Block is_last) = end_of_arm stmts begin ≡ stop

-- under a block each arm stands one block deeper
abbrev pub under : Opened → (ℕ → ℕ) → ℕ → ℕ
under (Loop terminal) stops = stops
under (Block is_last) stops = λ k. stops (k + 1)

-- the arms stop where the function says that tells of the number of blocks above
abbrev pub AllStop : List Labelled → (ℕ → ℕ) → List Entry → Type 0
AllStop stmts stops [] = Unit {0}
AllStop stmts stops (e ∷ rest) = Stops stmts (stops 0) e.begin e.opened × AllStop stmts (under e.opened stops) rest

-- an entry begins here and opens that
abbrev pub Has : ℕ → Opened → List Entry → Type 0
Has h o [] = ⊥
Has h o (e ∷ rest) = ((e.begin ≡ h) × (e.opened ≡ o)) ⊎ Has h o rest

-- each entry ends no later than the one below it, and the top no earlier than before the place
abbrev pub AreWithin : List Labelled → ℕ → List Entry → Type 0
AreWithin stmts low [] = Unit {0}
AreWithin stmts low (e ∷ rest) = (low ≤ after_entry stmts e) × AreWithin stmts (after_entry stmts e) rest

-- the stack before a place
pub record Stands (stmts : List Labelled) (i : ℕ) (stack : List Entry) : Type 0 where
  pub opened : AreOpened stmts stack
  pub falling : AreFalling i stack
  pub stops : AllStop stmts (stop_at stmts i) stack
  pub covered : (h : ℕ) (o : Opened) → h < i → OpensAt stmts h o → i < after_of stmts h o → Has h o stack

-- ---- the parts in general

pub AreFalling-later : (i j : ℕ) (stack : List Entry) → i ≤ j → AreFalling i stack → AreFalling j stack
AreFalling-later i j [] le h = tt
AreFalling-later i j (e ∷ rest) le h = (omega (arith, h.0), h.1)

pub AreWithin-earlier : (stmts : List Labelled) (i j : ℕ) (stack : List Entry) → i ≤ j → AreWithin stmts j stack → AreWithin stmts i stack
AreWithin-earlier stmts i j [] le h = tt
AreWithin-earlier stmts i j (e ∷ rest) le h = (omega (arith, h.0), h.1)

under-same : (o : Opened) (f g : ℕ → ℕ) → ((k : ℕ) → f k ≡ g k) → (k : ℕ) → under o f k ≡ under o g k
under-same (Loop terminal) f g h k = h k
under-same (Block is_last) f g h k = h (k + 1)

Stops-same : (stmts : List Labelled) (begin : ℕ) (o : Opened) (a b : ℕ) → a ≡ b → Stops stmts a begin o → Stops stmts b begin o
Stops-same stmts begin (Loop terminal) a b e h = tt
Stops-same stmts begin (Block is_last) a b e h = h ∙ e

pub AllStop-same : (stmts : List Labelled) (f g : ℕ → ℕ) (stack : List Entry) → ((k : ℕ) → f k ≡ g k) → AllStop stmts f stack → AllStop stmts g stack
AllStop-same stmts f g [] h all = tt
AllStop-same stmts f g (e ∷ rest) h all = (Stops-same stmts e.begin e.opened (f 0) (g 0) (h 0) all.0, AllStop-same stmts (under e.opened f) (under e.opened g) rest (under-same e.opened f g h) all.1)

-- ---- loops that end at a label

module _ (stmts : List Labelled) (are : AreLabelled stmts) (i : ℕ) (s : Labelled) (stands : slice_get stmts i ≡ Some s) where
  -- a loop that ends at the label of this place ends here
  ended-of : (begin : ℕ) (o : Opened) → OpensAt stmts begin o → is_loop_to s.label o ≡ true → after_of stmts begin o ≡ i + 1
  ended-of begin (Loop terminal) opens ends =
      let same : terminal ≡ s.label = eqb-true terminal s.label ends in
      ap (λ (l : ℕ). statement_of stmts l + 1) same ∙ ap (λ (p : ℕ). p + 1) (are.places i s stands (λ none. are.loops begin terminal opens (same ∙ none)))
  ended-of begin (Block is_last) opens ends = let e : false ≡ true = ends in absurd cc

  pub without-opened : (stack : List Entry) → AreOpened stmts stack → AreOpened stmts (without_ended s.label stack)
  without-opened [] h = tt
  without-opened (e ∷ rest) h = cond_both (ends_at s.label e) (without_ended s.label rest) (e ∷ rest) (λ (xs : List Entry). AreOpened stmts xs) (λ _. without-opened rest h.1) (λ _. h)

  pub without-falling : (place : ℕ) (stack : List Entry) → AreFalling place stack → AreFalling place (without_ended s.label stack)
  without-falling place [] h = tt
  without-falling place (e ∷ rest) h = cond_both (ends_at s.label e) (without_ended s.label rest) (e ∷ rest) (λ (xs : List Entry). AreFalling place xs)
      (λ _. AreFalling-later e.begin place (without_ended s.label rest) (omega (arith, h.0)) (without-falling e.begin rest h.1))
      (λ _. h)

  under-ended : (o : Opened) (stops : ℕ → ℕ) → is_loop_to s.label o ≡ true → under o stops ≡ stops
  under-ended (Loop terminal) stops ends = refl
  under-ended (Block is_last) stops ends = let e : false ≡ true = ends in absurd cc

  pub without-stops : (stops : ℕ → ℕ) (stack : List Entry) → AllStop stmts stops stack → AllStop stmts stops (without_ended s.label stack)
  without-stops stops [] h = tt
  without-stops stops (e ∷ rest) h = cond_both (ends_at s.label e) (without_ended s.label rest) (e ∷ rest) (λ (xs : List Entry). AllStop stmts stops xs)
      (λ ends. without-stops stops rest (subst (λ (f : ℕ → ℕ). AllStop stmts f rest) (under-ended e.opened stops ends) h.1))
      (λ _. h)

  pub without-has : (h : ℕ) (o : Opened) (stack : List Entry) → AreOpened stmts stack → i + 1 < after_of stmts h o → Has h o stack → Has h o (without_ended s.label stack)
  without-has h o [] opened later has = has
  without-has h o (e ∷ rest) opened later has = cond_both (ends_at s.label e) (without_ended s.label rest) (e ∷ rest) (λ (xs : List Entry). Has h o xs)
      (λ ends. elim has as (λ _. Has h o (without_ended s.label rest)) [
        | inl here ↦ let same : after_of stmts h o ≡ i + 1 = ap (λ (b : ℕ). after_of stmts b o) (sym here.0) ∙ ap (after_of stmts e.begin) (sym here.1) ∙ ended-of e.begin e.opened opened.0 ends in absurd (omega (arith, same, later))
        | inr below ↦ without-has h o rest opened.1 later below
      ])
      (λ _. has)

  pub without-within : (stack : List Entry) → AreOpened stmts stack → AreWithin stmts (i + 1) (without_ended s.label stack) → AreWithin stmts (i + 1) stack
  without-within [] opened = λ _. tt
  without-within (e ∷ rest) opened = cond_both (ends_at s.label e) (without_ended s.label rest) (e ∷ rest) (λ (xs : List Entry). AreWithin stmts (i + 1) xs → AreWithin stmts (i + 1) (e ∷ rest))
      (λ ends h. let here : after_entry stmts e ≡ i + 1 = ended-of e.begin e.opened opened.0 ends in
      (omega (arith, here), subst (λ (n : ℕ). AreWithin stmts n rest) (sym here) (without-within rest opened.1 h)))
      (λ _ h. h)

-- ---- what the stack says of ranges and arms stays so after each statement

-- the part of the stack that holds the statement itself
abbrev pub held : Role → List Entry → List Entry
held NextArm stack = drop 1 stack
held LastArm stack = drop 1 stack
held EndBlock stack = drop 1 stack
held _ stack = stack

-- what comes of a statement that isn't refused
pub not_refused : (b d : Bool) (x : Option (List Entry)) (beyond : List Entry) → (if b && d then None else x) ≡ Some beyond → x ≡ Some beyond
not_refused true true x beyond h = let e : None ≡ Some beyond = h in absurd cc
not_refused true false x beyond h = h
not_refused false d x beyond h = h

pub record Keeps (stmts : List Labelled) (i : ℕ) (role : Role) (stack beyond : List Entry) : Type 0 where
  pub stands : Stands stmts (i + 1) beyond
  -- what is after the statement tells how far that reaches which holds it, and that tells of what is first
  pub within : AreWithin stmts (i + 1) beyond → AreWithin stmts (i + 1) (held role stack)
  pub before : AreWithin stmts (i + 1) (held role stack) → AreWithin stmts i stack
  -- what reaches after the place before the statement holds it
  pub holds : (h : ℕ) (o : Opened) → i < after_of stmts h o → Has h o stack → Has h o (held role stack)

module _ (stmts : List Labelled) (are : AreLabelled stmts) (i : ℕ) (s : Labelled) (here : slice_get stmts i ≡ Some s) where
  same_statement : (t : Labelled) → slice_get stmts i ≡ Some t → t ≡ s
  same_statement t h = cc

  opened-here : (o : Opened) → OpensAt stmts i o → opened_by (role_of s.stmt) ≡ Some o
  opened-here o at = ap (λ (t : Labelled). opened_by (role_of t.stmt)) (sym (same_statement at.s at.stands)) ∙ at.opens

  opens_here : (role : Role) (o : Opened) → role_of s.stmt ≡ role → opened_by role ≡ Some o → OpensAt stmts i o
  opens_here role o is h = record { s = s; stands = here; opens = ap opened_by is ∙ h }

  stops-here : (role : Role) → role_of s.stmt ≡ role → (k : ℕ) → stop_at stmts i k ≡ stop_by role i (stop_at stmts (i + 1)) k
  stops-here role is k = stop_at-step stmts i s here k ∙ ap (λ (r : Role). stop_by r i (stop_at stmts (i + 1)) k) is

  quiet : (role : Role) → role_of s.stmt ≡ role → is_quiet role ≡ true → (k : ℕ) → stop_at stmts i k ≡ stop_at stmts (i + 1) k
  quiet role is h k = stops-here role is k ∙ stop_by-quiet role i (stop_at stmts (i + 1)) k h

  covered-step : (stack beyond : List Entry) → Stands stmts i stack → ((h : ℕ) (o : Opened) → i + 1 < after_of stmts h o → Has h o stack → Has h o beyond) → ((o : Opened) → opened_by (role_of s.stmt) ≡ Some o → Has i o beyond)
      → (h : ℕ) (o : Opened) → h < i + 1 → OpensAt stmts h o → i + 1 < after_of stmts h o → Has h o beyond
  covered-step stack beyond stands keep new h o lt opens later = elim (cases_eq h i) as (λ _. Has h o beyond) [
    | inl same ↦ subst (λ (n : ℕ). Has n o beyond) (sym same) (new o (opened-here o (subst (λ (n : ℕ). OpensAt stmts n o) same opens)))
    | inr other ↦ keep h o later (stands.covered h o (omega (arith, lt, other)) opens (omega (arith, later)))
  ]

  none_new : (role : Role) (beyond : List Entry) → role_of s.stmt ≡ role → opened_by role ≡ None → (o : Opened) → opened_by (role_of s.stmt) ≡ Some o → Has i o beyond
  none_new role beyond is none o h = let e : None ≡ Some o = sym none ∙ (ap opened_by (sym is) ∙ h) in absurd cc

  -- nothing opens or closes
  Stands-stay : (role : Role) (stack : List Entry) → role_of s.stmt ≡ role → is_quiet role ≡ true → opened_by role ≡ None → Stands stmts i stack → Stands stmts (i + 1) stack
  Stands-stay role stack is h none stands = record {
    opened = stands.opened;
    falling = AreFalling-later i (i + 1) stack (omega arith) stands.falling;
    stops = AllStop-same stmts (stop_at stmts i) (stop_at stmts (i + 1)) stack (quiet role is h) stands.stops;
    covered = covered-step stack stack stands (λ h o later has. has) (none_new role stack is none);
  }

  one_new : (role : Role) (p o : Opened) (rest : List Entry) → role_of s.stmt ≡ role → opened_by role ≡ Some p → opened_by (role_of s.stmt) ≡ Some o → Has i o (begun i p ∷ rest)
  one_new role p o rest is some h = let e : Some p ≡ Some o = sym some ∙ (ap opened_by (sym is) ∙ h) in let same : p ≡ o = cc in inl (refl, same)

  -- the arm on top stops here
  stops-top : (role : Role) (begin : ℕ) (b : Bool) (rest : List Entry) → role_of s.stmt ≡ role → stop_by role i (stop_at stmts (i + 1)) 0 ≡ i → Stands stmts i (begun begin (Block b) ∷ rest) → after_of stmts begin (Block b) ≡ i
  stops-top role begin b rest is first stands = stands.stops.0 ∙ (stops-here role is 0 ∙ first)

  keeps-below : (begin : ℕ) (b : Bool) (rest : List Entry) → after_of stmts begin (Block b) ≡ i → (h : ℕ) (o : Opened) → i < after_of stmts h o → Has h o (begun begin (Block b) ∷ rest) → Has h o rest
  keeps-below begin b rest stop h o later has = elim has as (λ _. Has h o rest) [
    | inl same ↦ let e : after_of stmts h o ≡ i = ap (λ (n : ℕ). after_of stmts n o) (sym same.0) ∙ ap (after_of stmts begin) (sym same.1) ∙ stop in absurd (omega (arith, e, later))
    | inr below ↦ below
  ]

  below-top : (begin : ℕ) (b : Bool) (rest : List Entry) → after_of stmts begin (Block b) ≡ i → AreWithin stmts (i + 1) rest → AreWithin stmts i (begun begin (Block b) ∷ rest)
  below-top begin b rest stop within = (omega (arith, stop), subst (λ (n : ℕ). AreWithin stmts n rest) (sym stop) (AreWithin-earlier stmts i (i + 1) rest (omega arith) within))

  -- ---- all roles

  Keeps-from : (role : Role) (stack x beyond : List Entry) → Some x ≡ Some beyond → Keeps stmts i role stack x → Keeps stmts i role stack beyond
  Keeps-from role stack x beyond e keeps = let same : x ≡ beyond = cc in subst (λ (y : List Entry). Keeps stmts i role stack y) same keeps

  unless : (b : Bool) (x beyond : List Entry) → (if b then None else Some x) ≡ Some beyond → Some x ≡ Some beyond
  unless true x beyond h = let e : None ≡ Some beyond = h in absurd cc
  unless false x beyond h = h

  no_stack : (beyond : List Entry) {P : Type 0} → None ≡ Some beyond → P
  no_stack beyond h = absurd cc

  arms : (role : Role) (is_last : Bool) (begin : ℕ) (o : Opened) (rest beyond : List Entry) → role_of s.stmt ≡ role → turns_arm role ≡ true → opened_by role ≡ Some (Block is_last) → stop_by role i (stop_at stmts (i + 1)) 0 ≡ i → held role (begun begin o ∷ rest) ≡ rest
      → Stands stmts i (begun begin o ∷ rest) → arm_in_place (begun i) is_last o rest ≡ Some beyond → Keeps stmts i role (begun begin o ∷ rest) beyond
  arms role is_last begin (Block false) rest beyond is turns some first below stands h =
      let stop = stops-top role begin false rest is first stands in
      Keeps-from role (begun begin (Block false) ∷ rest) (begun i (Block is_last) ∷ rest) beyond h (record {
        stands = record {
          opened = (opens_here role (Block is_last) is some, stands.opened.1);
          falling = (omega arith, AreFalling-later begin i rest (omega (arith, stands.falling.0)) stands.falling.1);
          stops = (refl, AllStop-same stmts (λ k. stop_at stmts i (k + 1)) (λ k. stop_at stmts (i + 1) (k + 1)) rest (λ k. stops-here role is (k + 1) ∙ stop_by-arm role i (stop_at stmts (i + 1)) k turns) stands.stops.1);
          covered = covered-step (begun begin (Block false) ∷ rest) (begun i (Block is_last) ∷ rest) stands (λ h o later has. inr (keeps-below begin false rest stop h o (omega (arith, later)) has)) (λ o h. one_new role (Block is_last) o rest is some h);
        };
        within = λ within. subst (λ (xs : List Entry). AreWithin stmts (i + 1) xs) (sym below) (AreWithin-earlier stmts (i + 1) (after_of stmts i (Block is_last)) rest within.0 within.1);
        before = λ within. below-top begin false rest stop (subst (λ (xs : List Entry). AreWithin stmts (i + 1) xs) below within);
        holds = λ h o later has. subst (λ (xs : List Entry). Has h o xs) (sym below) (keeps-below begin false rest stop h o later has);
      })
  arms role is_last begin (Block true) rest beyond is turns some first below stands h = no_stack beyond h
  arms role is_last begin (Loop terminal) rest beyond is turns some first below stands h = no_stack beyond h

  ends : (begin : ℕ) (o : Opened) (rest beyond : List Entry) → role_of s.stmt ≡ EndBlock → Stands stmts i (begun begin o ∷ rest) → after_block o rest ≡ Some beyond → Keeps stmts i EndBlock (begun begin o ∷ rest) beyond
  ends begin (Block b) rest beyond is stands h =
      let stop = stops-top EndBlock begin b rest is refl stands in
      Keeps-from EndBlock (begun begin (Block b) ∷ rest) rest beyond h (record {
        stands = record {
          opened = stands.opened.1;
          falling = AreFalling-later begin (i + 1) rest (omega (arith, stands.falling.0)) stands.falling.1;
          stops = AllStop-same stmts (λ k. stop_at stmts i (k + 1)) (stop_at stmts (i + 1)) rest (λ k. stops-here EndBlock is (k + 1) ∙ stop_by-end i (stop_at stmts (i + 1)) k) stands.stops.1;
          covered = covered-step (begun begin (Block b) ∷ rest) rest stands (λ h o later has. keeps-below begin b rest stop h o (omega (arith, later)) has) (none_new EndBlock rest is refl);
        };
        within = λ within. within;
        before = below-top begin b rest stop;
        holds = keeps-below begin b rest stop;
      })
  ends begin (Loop terminal) rest beyond is stands h = no_stack beyond h

  stays : (stack : List Entry) → AreWithin stmts (i + 1) stack → AreWithin stmts i stack
  stays stack within = AreWithin-earlier stmts i (i + 1) stack (omega arith) within

  begins : (role : Role) (o : Opened) (stack beyond : List Entry) → role_of s.stmt ≡ role → opened_by role ≡ Some o → held role stack ≡ stack → Stops stmts (stop_at stmts (i + 1) 0) i o → ((k : ℕ) → stop_at stmts i k ≡ under o (stop_at stmts (i + 1)) k)
      → Stands stmts i stack → Some (begun i o ∷ stack) ≡ Some beyond → Keeps stmts i role stack beyond
  begins role o stack beyond is some all first later stands h = Keeps-from role stack (begun i o ∷ stack) beyond h (record {
    stands = record {
      opened = (opens_here role o is some, stands.opened);
      falling = (omega arith, stands.falling);
      stops = (first, AllStop-same stmts (stop_at stmts i) (under o (stop_at stmts (i + 1))) stack later stands.stops);
      covered = covered-step stack (begun i o ∷ stack) stands (λ h p later has. inr has) (λ p h. one_new role o p stack is some h);
    };
    within = λ within. subst (λ (xs : List Entry). AreWithin stmts (i + 1) xs) (sym all) (AreWithin-earlier stmts (i + 1) (after_of stmts i o) stack within.0 within.1);
    before = λ within. stays stack (subst (λ (xs : List Entry). AreWithin stmts (i + 1) xs) all within);
    holds = λ h p later has. subst (λ (xs : List Entry). Has h p xs) (sym all) has;
  })

  loops_end : (role : Role) (stack beyond : List Entry) → role_of s.stmt ≡ role → is_quiet role ≡ true → opened_by role ≡ None → held role stack ≡ stack → Stands stmts i stack → after_ends kind s.label (without_ended s.label stack) ≡ Some beyond → Keeps stmts i role stack beyond
  loops_end role stack beyond is h none all stands e = Keeps-from role stack (without_ended s.label stack) beyond (unless (list_any (ends_at s.label) (without_ended s.label stack)) (without_ended s.label stack) beyond e) (record {
    stands = record {
      opened = without-opened stmts are i s here stack stands.opened;
      falling = AreFalling-later i (i + 1) (without_ended s.label stack) (omega arith) (without-falling stmts are i s here i stack stands.falling);
      stops = without-stops stmts are i s here (stop_at stmts (i + 1)) stack (AllStop-same stmts (stop_at stmts i) (stop_at stmts (i + 1)) stack (quiet role is h) stands.stops);
      covered = covered-step stack (without_ended s.label stack) stands (λ h o later has. without-has stmts are i s here h o stack stands.opened later has) (none_new role (without_ended s.label stack) is none);
    };
    within = λ within. subst (λ (xs : List Entry). AreWithin stmts (i + 1) xs) (sym all) (without-within stmts are i s here stack stands.opened within);
    before = λ within. stays stack (subst (λ (xs : List Entry). AreWithin stmts (i + 1) xs) all within);
    holds = λ h o later has. subst (λ (xs : List Entry). Has h o xs) (sym all) has;
  })

  by_role : (role : Role) (stack beyond : List Entry) → role_of s.stmt ≡ role → Stands stmts i stack → after_role kind (begun i) role s.label stack ≡ Some beyond → Keeps stmts i role stack beyond
  by_role Declaration stack beyond is stands h = Keeps-from Declaration stack stack beyond h (record { stands = Stands-stay Declaration stack is refl refl stands; within = λ within. within; before = stays stack; holds = λ h o later has. has })
  by_role (BeginLoop terminal) stack beyond is stands h = begins (BeginLoop terminal) (Loop terminal) stack beyond is refl refl tt (quiet (BeginLoop terminal) is refl) stands h
  by_role BeginBlock stack beyond is stands h = begins BeginBlock (Block false) stack beyond is refl refl refl (stops-here BeginBlock is) stands h
  by_role NextArm [] beyond is stands h = no_stack beyond h
  by_role NextArm (e ∷ rest) beyond is stands h = arms NextArm false e.begin e.opened rest beyond is refl refl refl refl stands h
  by_role LastArm [] beyond is stands h = no_stack beyond h
  by_role LastArm (e ∷ rest) beyond is stands h = arms LastArm true e.begin e.opened rest beyond is refl refl refl refl stands h
  by_role EndBlock [] beyond is stands h = no_stack beyond h
  by_role EndBlock (e ∷ rest) beyond is stands h = ends e.begin e.opened rest beyond is stands h
  by_role Finish [] beyond is stands h = Keeps-from Finish [] [] beyond h (record { stands = Stands-stay Finish [] is refl refl stands; within = λ within. within; before = stays []; holds = λ h o later has. has })
  by_role Finish (e ∷ rest) beyond is stands h = no_stack beyond h
  by_role Leave stack beyond is stands h = loops_end Leave stack beyond is refl refl refl stands h
  by_role Plain stack beyond is stands h = loops_end Plain stack beyond is refl refl refl stands h

  -- a statement that is nested right keeps all of it
  pub Keeps-after : (stack beyond : List Entry) → Stands stmts i stack → entries_after (role_of s.stmt) i s.label stack ≡ Some beyond → Keeps stmts i (role_of s.stmt) stack beyond
  Keeps-after stack beyond stands h = by_role (role_of s.stmt) stack beyond refl stands (not_refused (list_any (ends_at s.label) stack) (is_no_end (role_of s.stmt)) (after_role kind (begun i) (role_of s.stmt) s.label stack) beyond h)
