-- The walk over statements that are nested right: what is open after a statement, the loops and the blocks of IF among it.
use Rattle.std.proofs.Common.{◌≡◌, ◌≢◌, ℕ, ◌+◌, ◌<◌, Bool, true, false, ◌&&◌, ◌||◌, ◌==◌, cond, List, [], ◌∷◌, Option, Some, None, refl, sym, ap, ◌∙◌, arith, ⊎_elim}
use Rattle.std.proofs.lemmas.Bool.{cases_eq, eq-eqb, ne_eqb, or_right}
use Rattle.f77_tree.specs.declared.statements.Labelled.{Labelled}
use Rattle.f77_tree.specs.declared.statements.Stmt.{Stmt}
use Rattle.f77_tree.specs.declared.statements.Stmt.TheVariants.{BlockIf, End}
use Rattle.layout_rules.specs.Jumps.{is_block_if, is_end_if}
use Rattle.layout_rules.specs.Labels.{is_arm}
use Rattle.layout_rules.specs.Nesting.{has_loop_to, without_loops, after_ends, after_arm, after_end_if, if_nothing, after_role, stack_after, itself, open_after, line_or, first_unnested}
use Rattle.layout_rules.specs.Roles.{role_of, is_no_end, begins_block, ends_block, turns_arm}
use Rattle.layout_rules.specs.declared.nesting.Opened.{Opened}
use Rattle.layout_rules.specs.declared.nesting.Opened.TheVariants.{Loop, Block}
use Rattle.layout_rules.specs.declared.nesting.Role.{Role}
use Rattle.layout_rules.specs.declared.nesting.Role.TheVariants.{Declaration, BeginLoop, BeginBlock, NextArm, LastArm, EndBlock, Finish, Leave, Plain}
use Rattle.layout_rules.proofs.RoleTests.{is_block_if-role, is_end_if-role, is_arm-role}

-- ---- one statement more

-- where the statements from this one on are nested right, so are those after it
pub record GoesOn (s : Labelled) (rest : List Labelled) (stack : List Opened) : Type 0 where
  pub beyond : List Opened
  pub is : open_after s stack ≡ Some beyond
  pub nested : first_unnested beyond rest ≡ None

pub goes_on : (s : Labelled) (rest : List Labelled) (stack : List Opened) → first_unnested stack (s ∷ rest) ≡ None → GoesOn s rest stack
goes_on s rest stack none = by (open_after s stack) refl none
  where
    by : (o : Option (List Opened)) → open_after s stack ≡ o → line_or s.line o (λ beyond. first_unnested beyond rest) ≡ None → GoesOn s rest stack
    by None is h = let e : Some s.line ≡ None = h in absurd cc
    by (Some beyond) is h = record { beyond = beyond; is = is; nested = h }

abbrev Goes : Role → (label : ℕ) → (stack beyond : List Opened) → Type 0
Goes role label stack beyond = stack_after itself itself role label stack ≡ Some beyond

unless : (b : Bool) (x : Option (List Opened)) (beyond : List Opened) → cond b None x ≡ Some beyond → x ≡ Some beyond
unless true x beyond h = let e : None ≡ Some beyond = h in absurd cc
unless false x beyond h = h

by_role : (role : Role) (label : ℕ) (stack beyond : List Opened) → Goes role label stack beyond → after_role itself itself role label stack ≡ Some beyond
by_role role label stack beyond is = unless (has_loop_to itself label stack && is_no_end role) (after_role itself itself role label stack) beyond is

same : (stack beyond : List Opened) → Some stack ≡ Some beyond → stack ≡ beyond
same stack beyond h = cc

ended : (label : ℕ) (stack beyond : List Opened) → after_ends itself label stack ≡ Some beyond → stack ≡ beyond
ended label stack beyond is = same stack beyond (unless (has_loop_to itself label stack) (Some stack) beyond is)

-- a new arm stands in place of one that isn't the last
record IsNewArm (is_last : Bool) (stack beyond : List Opened) : Type 0 where
  rest : List Opened
  before : stack ≡ Block false ∷ rest
  after : Block is_last ∷ rest ≡ beyond

new_arm : (is_last : Bool) (stack beyond : List Opened) → after_arm itself itself is_last stack ≡ Some beyond → IsNewArm is_last stack beyond
new_arm is_last [] beyond h = let e : None ≡ Some beyond = h in absurd cc
new_arm is_last (Block true ∷ rest) beyond h = let e : None ≡ Some beyond = h in absurd cc
new_arm is_last (Loop terminal ∷ rest) beyond h = let e : None ≡ Some beyond = h in absurd cc
new_arm is_last (Block false ∷ rest) beyond h = record { rest = rest; before = refl; after = same (Block is_last ∷ rest) beyond h }

record IsEndedBlock (stack beyond : List Opened) : Type 0 where
  is_last : Bool
  before : stack ≡ Block is_last ∷ beyond

end_if : (stack beyond : List Opened) → after_end_if itself stack ≡ Some beyond → IsEndedBlock stack beyond
end_if [] beyond h = let e : None ≡ Some beyond = h in absurd cc
end_if (Loop terminal ∷ rest) beyond h = let e : None ≡ Some beyond = h in absurd cc
end_if (Block is_last ∷ rest) beyond h = record { is_last = is_last; before = ap (λ (xs : List Opened). Block is_last ∷ xs) (same rest beyond h) }

finish : (stack beyond : List Opened) → if_nothing stack ≡ Some beyond → stack ≡ beyond
finish [] beyond h = same [] beyond h
finish (top ∷ rest) beyond h = let e : None ≡ Some beyond = h in absurd cc

-- nothing is open at END
pub nothing-at-end : (s : Labelled) (stack : List Opened) → s.stmt ≡ End → first_unnested stack (s ∷ []) ≡ None → stack ≡ []
nothing-at-end s stack last none =
    let next = goes_on s [] stack none in
    let role : role_of s.stmt ≡ Finish = ap role_of last in
    empty stack next.beyond (by_role Finish s.label stack next.beyond (sym (ap (λ (r : Role). stack_after itself itself r s.label stack) role) ∙ next.is))
  where
    empty : (xs beyond : List Opened) → if_nothing xs ≡ Some beyond → xs ≡ []
    empty [] beyond h = refl
    empty (top ∷ rest) beyond h = let e : None ≡ Some beyond = h in absurd cc

-- ---- a loop

module _ (terminal : ℕ) where
  abbrev pub is_open : List Opened → Bool
  is_open stack = has_loop_to itself terminal stack

  -- loops to another label go
  others-go : (label : ℕ) → label ≢ terminal → (stack : List Opened) → is_open (without_loops itself label stack) ≡ is_open stack
  others-go label other [] = refl
  others-go label other (Block is_last ∷ stack) = refl
  others-go label other (Loop l ∷ stack) = ⊎_elim
      (λ (e : l ≡ label).
      ap (λ b. is_open (cond b (without_loops itself label stack) (Loop l ∷ stack))) (eq-eqb l label e)
      ∙ others-go label other stack
      ∙ ap (λ b. b || is_open stack) (sym (ne_eqb l terminal (λ h. other (sym e ∙ h)))))
      (λ (differ : l ≢ label). ap (λ b. is_open (cond b (without_loops itself label stack) (Loop l ∷ stack))) (ne_eqb l label differ))
      (cases_eq l label)

  kept : (role : Role) (label : ℕ) (stack beyond : List Opened) → label ≢ terminal → after_role itself itself role label stack ≡ Some beyond → is_open stack ≡ true → is_open beyond ≡ true
  kept Declaration label stack beyond other is open_now = ap is_open (sym (same stack beyond is)) ∙ open_now
  kept (BeginLoop l) label stack beyond other is open_now = ap is_open (sym (same (Loop l ∷ stack) beyond is)) ∙ or_right (l == terminal) (is_open stack) open_now
  kept BeginBlock label stack beyond other is open_now = ap is_open (sym (same (Block false ∷ stack) beyond is)) ∙ open_now
  kept NextArm label stack beyond other is open_now = let arm = new_arm false stack beyond is in ap is_open (sym arm.after) ∙ ap is_open (sym arm.before) ∙ open_now
  kept LastArm label stack beyond other is open_now = let arm = new_arm true stack beyond is in ap is_open (sym arm.after) ∙ ap is_open (sym arm.before) ∙ open_now
  kept EndBlock label stack beyond other is open_now = let block = end_if stack beyond is in ap is_open (sym block.before) ∙ open_now
  kept Finish label stack beyond other is open_now = ap is_open (sym (finish stack beyond is)) ∙ open_now
  kept Leave label stack beyond other is open_now = ap is_open (sym (ended label (without_loops itself label stack) beyond is)) ∙ others-go label other stack ∙ open_now
  kept Plain label stack beyond other is open_now = ap is_open (sym (ended label (without_loops itself label stack) beyond is)) ∙ others-go label other stack ∙ open_now

  -- it stays open at statements with other labels
  pub stays-open : (s : Labelled) (stack beyond : List Opened) → s.label ≢ terminal → open_after s stack ≡ Some beyond → is_open stack ≡ true → is_open beyond ≡ true
  stays-open s stack beyond other is = kept (role_of s.stmt) s.label stack beyond other (by_role (role_of s.stmt) s.label stack beyond is)

  -- its DO opens it
  pub loop-begins : (s : Labelled) (stack beyond : List Opened) → role_of s.stmt ≡ BeginLoop terminal → open_after s stack ≡ Some beyond → is_open beyond ≡ true
  loop-begins s stack beyond role is =
      let goes : Goes (BeginLoop terminal) s.label stack beyond = sym (ap (λ (r : Role). stack_after itself itself r s.label stack) role) ∙ is in
      ap is_open (sym (same (Loop terminal ∷ stack) beyond (by_role (BeginLoop terminal) s.label stack beyond goes))) ∙ ap (λ b. b || is_open stack) (eq-eqb terminal terminal refl)

-- ---- blocks

-- how many blocks are open
abbrev pub blocks_in : List Opened → ℕ
blocks_in [] = 0
blocks_in (Block is_last ∷ stack) = 1 + blocks_in stack
blocks_in (Loop label ∷ stack) = blocks_in stack

abbrev pub one_if : Bool → ℕ
one_if true = 1
one_if false = 0

-- no block ends where loops end
blocks-without : (label : ℕ) (stack : List Opened) → blocks_in (without_loops itself label stack) ≡ blocks_in stack
blocks-without label [] = refl
blocks-without label (Block is_last ∷ stack) = refl
blocks-without label (Loop l ∷ stack) = by (l == label) (blocks-without label stack)
  where
    by : (b : Bool) → blocks_in (without_loops itself label stack) ≡ blocks_in stack → blocks_in (cond b (without_loops itself label stack) (Loop l ∷ stack)) ≡ blocks_in stack
    by true e = e
    by false e = refl

-- the blocks after a statement, and those before it
abbrev Counts : Role → (stack beyond : List Opened) → Type 0
Counts role stack beyond = blocks_in beyond + one_if (ends_block role) ≡ blocks_in stack + one_if (begins_block role)

counted : (role : Role) (label : ℕ) (stack beyond : List Opened) → after_role itself itself role label stack ≡ Some beyond → Counts role stack beyond
counted Declaration label stack beyond is = let e = ap blocks_in (same stack beyond is) in omega (arith, e)
counted (BeginLoop l) label stack beyond is = let e = ap blocks_in (same (Loop l ∷ stack) beyond is) in omega (arith, e)
counted BeginBlock label stack beyond is = let e = ap blocks_in (same (Block false ∷ stack) beyond is) in omega (arith, e)
counted NextArm label stack beyond is = let arm = new_arm false stack beyond is in omega (arith, ap blocks_in arm.before, ap blocks_in arm.after)
counted LastArm label stack beyond is = let arm = new_arm true stack beyond is in omega (arith, ap blocks_in arm.before, ap blocks_in arm.after)
counted EndBlock label stack beyond is = let e = ap blocks_in (end_if stack beyond is).before in omega (arith, e)
counted Finish label stack beyond is = let e = ap blocks_in (finish stack beyond is) in omega (arith, e)
counted Leave label stack beyond is = let e = ap blocks_in (ended label (without_loops itself label stack) beyond is) in omega (arith, e, blocks-without label stack)
counted Plain label stack beyond is = let e = ap blocks_in (ended label (without_loops itself label stack) beyond is) in omega (arith, e, blocks-without label stack)

-- an IF opens a block, and END IF ends one
pub after-blocks : (s : Labelled) (stack beyond : List Opened) → open_after s stack ≡ Some beyond → blocks_in beyond + one_if (is_end_if s.stmt) ≡ blocks_in stack + one_if (is_block_if s.stmt)
after-blocks s stack beyond is =
    ap (λ b. blocks_in beyond + one_if b) (is_end_if-role s.stmt)
    ∙ counted (role_of s.stmt) s.label stack beyond (by_role (role_of s.stmt) s.label stack beyond is)
    ∙ ap (λ b. blocks_in stack + one_if b) (sym (is_block_if-role s.stmt))

pub begins-no_end : (stmt : Stmt) → is_block_if stmt ≡ true → is_end_if stmt ≡ false
begins-no_end (BlockIf condition) e = refl
begins-no_end _ e = let h : false ≡ true = e in absurd cc

headed : (role : Role) (label : ℕ) (stack beyond : List Opened) → (begins_block role || turns_arm role) ≡ true → after_role itself itself role label stack ≡ Some beyond → 0 < blocks_in beyond
headed BeginBlock label stack beyond heads is = let e = ap blocks_in (same (Block false ∷ stack) beyond is) in omega (arith, e)
headed NextArm label stack beyond heads is = let e = ap blocks_in (new_arm false stack beyond is).after in omega (arith, e)
headed LastArm label stack beyond heads is = let e = ap blocks_in (new_arm true stack beyond is).after in omega (arith, e)
headed _ label stack beyond heads is = let h : false ≡ true = heads in absurd cc

-- after an IF, ELSE IF or ELSE a block is open
pub heads-block : (s : Labelled) (stack beyond : List Opened) → (is_block_if s.stmt || is_arm s.stmt) ≡ true → open_after s stack ≡ Some beyond → 0 < blocks_in beyond
heads-block s stack beyond heads is =
    let by_tests = ap (λ b. b || turns_arm (role_of s.stmt)) (sym (is_block_if-role s.stmt)) ∙ ap (λ b. is_block_if s.stmt || b) (sym (is_arm-role s.stmt)) in
    headed (role_of s.stmt) s.label stack beyond (by_tests ∙ heads) (by_role (role_of s.stmt) s.label stack beyond is)
