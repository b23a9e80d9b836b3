-- In a unit that is a program by itself the blocks of IF end.
use Rattle.std.proofs.Common.{◌≡◌, ℕ, ◌+◌, ◌<◌, Bool, true, false, ◌||◌, List, [], ◌∷◌, ◌++◌, Some, None, refl, ◌∙◌, arith}
use Rattle.std.proofs.lemmas.Bool.{lt-ltb}
use Rattle.f77_tree.specs.declared.statements.Labelled.{Labelled}
use Rattle.f77_tree.specs.declared.statements.Stmt.{Stmt, more_of-Stmt}
use Rattle.f77_tree.specs.declared.statements.Stmt.TheVariants.{Program, Implicit, ImplicitNone, TypeOf, Dimension, Common, Equivalence, Init, Assign, Print, Take, Continue, Stop, GoTo, PickGoTo, SignIf, ThenIf', BlockIf, ElseIf, Else, EndIf, Do, Sub, CallTo, Back, End}
use Rattle.layout_rules.specs.Labels.{is_arm}
use Rattle.layout_rules.specs.Jumps.{is_block_if, is_end_if}
use Rattle.layout_rules.specs.Layout.{at_line, refusal, refusals}
use Rattle.layout_rules.specs.Nesting.{open_after, first_unnested}
use Rattle.layout_rules.specs.declared.layout_end.LayoutEnd.TheVariants.{BadNesting}
use Rattle.layout_rules.specs.declared.nesting.Opened.{Opened}
use Rattle.layout_rules.proofs.OpenWalks.{goes_on, nothing-at-end, blocks_in, one_if, after-blocks, heads-block, begins-no_end}
use Rattle.program_units.specs.Units.{is_end, stand_in, standing_in}
use Rattle.program_units.specs.OpenBlocks.{are_closed, IsEnded}
use Rattle.unit_laws.proofs.BlockRoles.{Alike}
use Rattle.unit_laws.proofs.NoAnswer.{line-none, none-at}
use Rattle.copied_control.proofs.SealedCopies.{turned, turned-alike}

-- the statement that stands in for this one
abbrev pub standing : Labelled → Labelled
standing s = record s { stmt = stand_in s.stmt }

pub stands-alike : (s : Stmt) → Alike s (stand_in s)
unfolding Rattle.f77_tree.specs.declared.statements.Stmt.TheBlock.hidden-the_row-Stmt-0 denote.Hole.Carrier.hidden
stands-alike Program = record { begins = refl; ends = refl; arm = refl; does = refl }
stands-alike (Implicit a) = record { begins = refl; ends = refl; arm = refl; does = refl }
stands-alike ImplicitNone = record { begins = refl; ends = refl; arm = refl; does = refl }
stands-alike (TypeOf a b) = record { begins = refl; ends = refl; arm = refl; does = refl }
stands-alike (Dimension a) = record { begins = refl; ends = refl; arm = refl; does = refl }
stands-alike (Common a) = record { begins = refl; ends = refl; arm = refl; does = refl }
stands-alike (Equivalence a) = record { begins = refl; ends = refl; arm = refl; does = refl }
stands-alike (Init a) = record { begins = refl; ends = refl; arm = refl; does = refl }
stands-alike (Assign a b) = record { begins = refl; ends = refl; arm = refl; does = refl }
stands-alike (Print a) = record { begins = refl; ends = refl; arm = refl; does = refl }
stands-alike (Take a) = record { begins = refl; ends = refl; arm = refl; does = refl }
stands-alike Continue = record { begins = refl; ends = refl; arm = refl; does = refl }
stands-alike Stop = record { begins = refl; ends = refl; arm = refl; does = refl }
stands-alike (GoTo a) = record { begins = refl; ends = refl; arm = refl; does = refl }
stands-alike (PickGoTo a b) = record { begins = refl; ends = refl; arm = refl; does = refl }
stands-alike (SignIf a b c d) = record { begins = refl; ends = refl; arm = refl; does = refl }
stands-alike (ThenIf' a b (more_of-Stmt c d)) = record { begins = refl; ends = refl; arm = refl; does = refl }
stands-alike (BlockIf a) = record { begins = refl; ends = refl; arm = refl; does = refl }
stands-alike (ElseIf a) = record { begins = refl; ends = refl; arm = refl; does = refl }
stands-alike Else = record { begins = refl; ends = refl; arm = refl; does = refl }
stands-alike EndIf = record { begins = refl; ends = refl; arm = refl; does = refl }
stands-alike (Do a b c d e) = record { begins = refl; ends = refl; arm = refl; does = refl }
stands-alike (Sub a b) = record { begins = refl; ends = refl; arm = refl; does = refl }
stands-alike (CallTo a b) = record { begins = refl; ends = refl; arm = refl; does = refl }
stands-alike Back = record { begins = refl; ends = refl; arm = refl; does = refl }
stands-alike End = record { begins = refl; ends = refl; arm = refl; does = refl }

-- the blocks that are open after a statement, as the search for their ends counts them
counted : (begins ends arm : Bool) (before after : ℕ) → (begins ≡ true → ends ≡ false) → after + one_if ends ≡ before + one_if begins → ((begins || arm) ≡ true → 0 < after) → (next : ℕ → Bool) → turned begins ends arm before next ≡ next after
counted h h2 arm before after alone count some next = grind (arith, lt-ltb)

follows : (s : Labelled) (stack beyond : List Opened) → open_after (standing s) stack ≡ Some beyond → (next : ℕ → Bool) → turned (is_block_if s.stmt) (is_end_if s.stmt) (is_arm s.stmt) (blocks_in stack) next ≡ next (blocks_in beyond)
follows s stack beyond is next =
    let t = stand_in s.stmt in
    turned-alike s.stmt t (stands-alike s.stmt) (blocks_in stack) next
    ∙ counted (is_block_if t) (is_end_if t) (is_arm t) (blocks_in stack) (blocks_in beyond) (begins-no_end t) (after-blocks (standing s) stack beyond is) (λ heads. heads-block (standing s) stack beyond heads is) next

pub end_is : (stmt : Stmt) → is_end stmt ≡ true → stmt ≡ End
end_is End is = refl
end_is _ is = let e : false ≡ true = is in absurd cc

walk : (front : List Labelled) (last : Labelled) → is_end last.stmt ≡ true → (stack : List Opened) → first_unnested stack (standing_in (front ++ last ∷ [])) ≡ None → are_closed (blocks_in stack) (front ++ last ∷ []) ≡ true
walk [] last ended stack none = grind (arith, end_is, blocks_in, nothing-at-end (standing last) stack)
walk (s ∷ front) last ended stack none =
    grind (arith, goes_on (standing s) (standing_in (front ++ last ∷ [])) stack none, follows s stack, walk front last ended)

pub accepted-closed : (unit : List Labelled) (checked : Bool) → refusal (standing_in unit) checked ≡ None → IsEnded unit → are_closed 0 unit ≡ true
accepted-closed unit checked accepted ended =
    grind (arith, line-none BadNesting (first_unnested [] (standing_in unit)), none-at (refusals (standing_in unit) checked) 6 (at_line BadNesting (first_unnested [] (standing_in unit))) accepted, walk ended.front ended.last ended.ended)
