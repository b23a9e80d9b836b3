-- Where statements are laid out, a block of IF is open at each of its arms and at its end, and none is open at END.
use Rattle.std.proofs.Common.{◌≡◌, ℕ, suc, zero, ◌+◌, ◌<◌, ◌≤◌, Bool, true, false, ◌||◌, List, [], ◌∷◌, take, Option, Some, None, Ok, refl, ap, subst, fold, arith}
use Rattle.std.specs.Prelude.{slice_get}
use Rattle.f77_tree.specs.declared.programs.Program.{Program}
use Rattle.f77_tree.specs.declared.statements.Labelled.{Labelled}
use Rattle.f77_tree.specs.declared.statements.Stmt.{Stmt}
use Rattle.f77_tree.specs.declared.statements.Stmt.TheVariants.{BlockIf, ElseIf, Else, EndIf, End}
use Rattle.f77_layout.specs.Depths.{blocks_after, blocks_open}
use Rattle.layout_rules.specs.Jumps.{is_block_if, is_end_if}
use Rattle.layout_rules.specs.Labels.{is_arm}
use Rattle.layout_rules.specs.Layout.{layout}
use Rattle.layout_rules.specs.Nesting.{open_after, line_or, first_unnested}
use Rattle.layout_rules.specs.declared.nesting.Opened.{Opened}
use Rattle.layout_rules.proofs.OpenWalks.{goes_on, nothing-at-end, blocks_in, one_if, after-blocks, heads-block}
use Rattle.f77_layout.proofs.LaidFacts.{laid-faultless}

-- ---- the walk over the statements

depth-after : (s : Labelled) (stack beyond : List Opened) → open_after s stack ≡ Some beyond → blocks_in beyond ≡ blocks_after (blocks_in stack) s.stmt
depth-after s stack beyond is = by s.stmt (after-blocks s stack beyond is)
  where
    by : (stmt : Stmt) → blocks_in beyond + one_if (is_end_if stmt) ≡ blocks_in stack + one_if (is_block_if stmt) → blocks_in beyond ≡ blocks_after (blocks_in stack) stmt
    by (BlockIf condition) e = omega (arith, e)
    by EndIf e = omega (arith, e)
    by _ e = omega (arith, e)

within-block : (s : Labelled) (stack beyond : List Opened) → open_after s stack ≡ Some beyond → (is_arm s.stmt || is_end_if s.stmt) ≡ true → 1 ≤ blocks_in stack
within-block s stack beyond is inner = by s.stmt inner (after-blocks s stack beyond is) (λ arm. heads-block s stack beyond arm is)
  where
    by : (stmt : Stmt) → (is_arm stmt || is_end_if stmt) ≡ true → blocks_in beyond + one_if (is_end_if stmt) ≡ blocks_in stack + one_if (is_block_if stmt) → ((is_block_if stmt || is_arm stmt) ≡ true → 0 < blocks_in beyond) → 1 ≤ blocks_in stack
    by (ElseIf condition) e count some = omega (arith, count, some refl)
    by Else e count some = omega (arith, count, some refl)
    by EndIf e count some = omega (arith, count)
    by _ e count some = let h : false ≡ true = e in absurd cc

closed-at : (s : Labelled) (stack beyond : List Opened) → open_after s stack ≡ Some beyond → s.stmt ≡ End → blocks_in stack ≡ 0
closed-at s stack beyond is last = ap blocks_in (nothing-at-end s stack last (ap (λ (o : Option (List Opened)). line_or s.line o (λ b. None)) is))

-- so many blocks are open at the statement
pub record IsDepthAt (depth : ℕ) (stmt : Stmt) : Type 0 where
  pub within : (is_arm stmt || is_end_if stmt) ≡ true → 1 ≤ depth
  pub closed : stmt ≡ End → depth ≡ 0

abbrev depth_from : ℕ → List Labelled → ℕ
depth_from depth above = fold (λ count s. blocks_after count s.stmt) depth above

walked : (stmts : List Labelled) (stack : List Opened) → first_unnested stack stmts ≡ None → (i : ℕ) (s : Labelled) → slice_get stmts i ≡ Some s → IsDepthAt (depth_from (blocks_in stack) (take i stmts)) s.stmt
walked [] stack none i s at = let h : None ≡ Some s = at in absurd cc
walked (t ∷ rest) stack none zero s at =
    let h : Some t ≡ Some s = at in
    let same : t ≡ s = cc in
    let next = goes_on t rest stack none in
    subst (λ (u : Labelled). IsDepthAt (blocks_in stack) u.stmt) same (record { within = within-block t stack next.beyond next.is; closed = closed-at t stack next.beyond next.is })
walked (t ∷ rest) stack none (suc i) s at =
    let next = goes_on t rest stack none in
    subst (λ (depth : ℕ). IsDepthAt (depth_from depth (take i rest)) s.stmt) (depth-after t stack next.beyond next.is) (walked rest next.beyond next.nested i s at)

-- statements that are laid out
pub depth : (stmts : List Labelled) (checked : Bool) (p : Program) → layout stmts checked ≡ Ok p → (i : ℕ) (s : Labelled) → slice_get stmts i ≡ Some s → IsDepthAt (blocks_open stmts i) s.stmt
depth stmts checked p laid = walked stmts [] (laid-faultless stmts checked p laid).nested
