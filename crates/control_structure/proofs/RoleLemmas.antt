-- What the definitions on statements are by the statement's role.
use Rattle.std.proofs.Common.{◌≡◌, ℕ, ◌-◌, true, false, List, [], ◌∷◌, Option, Some, None, refl}
use Rattle.f77_tree.specs.declared.statements.Labelled.{Labelled}
use Rattle.f77_tree.specs.declared.statements.Stmt.{Stmt}
use Rattle.f77_tree.specs.declared.statements.Stmt.TheVariants.{Else}
use Rattle.layout_rules.specs.declared.nesting.Opened.{Opened}
use Rattle.layout_rules.specs.declared.nesting.Opened.TheVariants.{Loop as OpenedLoop, Block as OpenedBlock}
use Rattle.layout_rules.specs.declared.nesting.Role.{Role}
use Rattle.layout_rules.specs.declared.nesting.Role.TheVariants.{BeginLoop, BeginBlock, NextArm, LastArm}
use Rattle.layout_rules.specs.Labels.{statement_of}
use Rattle.layout_rules.specs.Roles.{role_of}
use Rattle.layout_rules.specs.Jumps.{end_of_arm, Span, span_of}

-- what a statement opens
abbrev pub opened_by : Role → Option Opened
opened_by (BeginLoop terminal) = Some (OpenedLoop terminal)
opened_by BeginBlock = Some (OpenedBlock false)
opened_by NextArm = Some (OpenedBlock false)
opened_by LastArm = Some (OpenedBlock true)
opened_by _ = None

-- the last place of what is opened here
abbrev pub last_of : List Labelled → ℕ → Opened → ℕ
last_of stmts place (OpenedLoop terminal) = statement_of stmts terminal
last_of stmts place (OpenedBlock is_last) = end_of_arm stmts place - 1

abbrev pub span_by : List Labelled → ℕ → Option Opened → List Span
span_by stmts place None = []
span_by stmts place (Some opened) = record { head = place; last = last_of stmts place opened } ∷ []

pub span_of-role : (stmts : List Labelled) (place : ℕ) (stmt : Stmt) → span_of stmts place stmt ≡ span_by stmts place (opened_by (role_of stmt))
span_of-role stmts place Else = refl
span_of-role stmts place _ = refl
