-- The statements of the simplified form of a program are of the dialect of the program.
use Rattle.std.proofs.Common.{◌≡◌, ℕ, Bool, true, false, List, [], ◌∷◌, ◌++◌, length, map, All, Option, Some, None, refl}
use Rattle.std.specs.Prelude.{if◌then◌else◌, slice_get}
use Rattle.std.specs.List.{range_with_len}
use Rattle.std.proofs.lemmas.List.Elements.{All-append}
use Rattle.f77_tree.specs.declared.programs.Exec.{Exec}
use Rattle.f77_tree.specs.declared.programs.Program.{Program}
use Rattle.f77_tree.specs.Dialects.{ExecHasDialect, IsOfDialect}
use Rattle.f77_tree.proofs.AllLemmas.{All-get, All-nil}
use Rattle.alias_classes.specs.Classes.{ClassTable}
use Rattle.cfg_build.specs.Parts.{line_in}
use Rattle.cfg_build.specs.Passes.{kind_in}
use Rattle.const_prop.specs.Table.{Knowns}
use Rattle.flat_programs.specs.declared.statements.Flat.{Flat}
use Rattle.flat_programs.specs.declared.statements.Flat.TheVariants.{Mark, Jump}
use Rattle.flat_programs.specs.declared.statements.FlatLine.{FlatLine}
use Rattle.simplified_forms.specs.Items.{kind_at}
use Rattle.simplified_forms.specs.Simplified.{decided, flat, has_mark, last_jump, lines, mark, own, rest, statements, words_at}
use Rattle.rewritten_texts.proofs.FlatDialects.{FlatHasDialect, LineHasDialect, ExecIsOfDialect}
use Rattle.rewritten_texts.proofs.FoldedDialects.{all-flat_map, all-map, all-one, left-dialect}

-- what holds of anything
abbrev pub Anything : {X : Type 0} → X → Type 0
Anything x = Unit {0}

pub anything : {X : Type 0} (xs : List X) → All Anything xs
anything xs = λ k d less. tt

pub kind-dialect : (checked : Bool) (o : Option Exec) → ((exec : Exec) → o ≡ Some exec → ExecIsOfDialect checked exec) → ExecHasDialect checked (kind_in o)
kind-dialect checked None each = tt
kind-dialect checked (Some exec) each = each exec refl

-- what an executable is at any index
pub at-dialect : (checked : Bool) (execs : List Exec) (k : ℕ) → All (ExecIsOfDialect checked) execs → ExecHasDialect checked (kind_in (slice_get execs k))
at-dialect checked execs k all = kind-dialect checked (slice_get execs k) (λ exec at. All-get (ExecIsOfDialect checked) execs k exec all at)

module _ (checked : Bool) where
  abbrev Has : Flat → Type 0
  Has stmt = FlatHasDialect checked stmt

  mark-dialect : (b : Bool) → All Has (if b then Mark ∷ [] else [])
  mark-dialect true = all-one Has Mark tt
  mark-dialect false = All-nil Has

  if-dialect : (b : Bool) (ls : List FlatLine) → All (LineHasDialect checked) ls → All (LineHasDialect checked) (if b then ls else [])
  if-dialect true ls each = each
  if-dialect false ls each = All-nil (LineHasDialect checked)

  module _ (p : Program) (c : ClassTable) (t : Knowns) (is_item : ℕ → Bool) (all : IsOfDialect checked p) where
    abbrev number : ℕ → ℕ
    number = mark p c t checked is_item

    statements-dialect : (k : ℕ) → All Has (statements p c t checked is_item k)
    statements-dialect k =
        let kind = kind_at p k in
        let d = decided p t k in
        let marks = if has_mark p t is_item k then Mark ∷ [] else [] in
        let own_part = own p c t checked is_item k kind d in
        let jumps = last_jump is_item k (rest kind d) in
        let is = at-dialect checked p.execs k all in
        All-append Has (marks ++ own_part) (map (λ s. Jump (number s)) jumps)
        (All-append Has marks own_part (mark-dialect (has_mark p t is_item k)) (left-dialect p checked (words_at p c t checked is_item k) number kind d is))
        (all-map Anything Has (λ s. Jump (number s)) jumps (λ s h. tt) (anything jumps))

    lines-dialect : (k : ℕ) → All (LineHasDialect checked) (lines p c t checked is_item k)
    lines-dialect k =
        let placed : Flat → FlatLine = λ stmt. record { line = line_in (slice_get p.execs k); stmt = stmt } in
        if-dialect (is_item k) (map placed (statements p c t checked is_item k))
        (all-map Has (LineHasDialect checked) placed (statements p c t checked is_item k) (λ stmt has. has) (statements-dialect k))

    pub simplified-dialect : All (LineHasDialect checked) (flat p c t checked is_item)
    simplified-dialect =
        let places = range_with_len 0 (length p.execs) in
        all-flat_map Anything (LineHasDialect checked) (lines p c t checked is_item) places (λ k h. lines-dialect k) (anything places)
