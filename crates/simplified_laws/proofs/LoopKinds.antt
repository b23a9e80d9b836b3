-- What the executables of DOs jump to: the beginning of a DO to nothing, its increment to its exit alone.
use Rattle.std.proofs.Common.{◌≡◌, ℕ, Bool, true, false, [], ◌∷◌, Option, Some, None, sym, ap, ◌∙◌, inl, inr}
use Rattle.std.specs.Prelude.{if◌then◌else◌}
use Rattle.list_laws.specs.Member.{Member}
use Rattle.f77_tree.specs.declared.programs.Exec.{Exec}
use Rattle.f77_tree.specs.declared.programs.ExecKind.{ExecKind}
use Rattle.f77_tree.specs.declared.programs.ExecKind.TheVariants.{Assign, Print, Pass, Test, Sign, Pick, DoStart, DoNext, End}
use Rattle.f77_tree.specs.Loops.{Loop, begun, begun_in, incremented, incremented_in}
use Rattle.cfg_build.specs.Passes.{kind_in}
use Rattle.simplified_forms.specs.Simplified.{is_next, jumps_by}

not-both : (kind : ExecKind) (x y : Loop) → begun kind ≡ Some x → incremented kind ≡ Some y → ⊥
not-both (Assign target value next) x y first second = cc
not-both (Print items next) x y first second = cc
not-both (Pass next) x y first second = cc
not-both (Test c a b) x y first second = cc
not-both (Sign e a b c) x y first second = cc
not-both (Pick e targets other) x y first second = cc
not-both (DoStart loop_no var first last step body exit) x y begins increments = cc
not-both (DoNext loop_no var body exit) x y first second = cc
not-both End x y first second = cc

-- no executable begins a DO and increments one
pub not-both-in : (o : Option Exec) (x y : Loop) → begun_in o ≡ Some x → incremented_in o ≡ Some y → ⊥
not-both-in None x y first second = let no : None ≡ Some x = first in cc
not-both-in (Some exec) x y first second = not-both exec.kind x y first second

begun-jumps : (is_item : ℕ → Bool) (k s : ℕ) (kind : ExecKind) (d : Option ℕ) (loop : Loop) → begun kind ≡ Some loop → Member (jumps_by is_item k kind d) s → ⊥
begun-jumps is_item k s (Assign target value next) d loop is m = cc
begun-jumps is_item k s (Print items next) d loop is m = cc
begun-jumps is_item k s (Pass next) d loop is m = cc
begun-jumps is_item k s (Test c a b) d loop is m = cc
begun-jumps is_item k s (Sign e a b c) d loop is m = cc
begun-jumps is_item k s (Pick e targets other) d loop is m = cc
begun-jumps is_item k s (DoStart loop_no var first last step body exit) d loop is m = m
begun-jumps is_item k s (DoNext loop_no var body exit) d loop is m = cc
begun-jumps is_item k s End d loop is m = cc

-- the beginning of a DO
pub begun-jumps-in : (is_item : ℕ → Bool) (k s : ℕ) (o : Option Exec) (d : Option ℕ) (loop : Loop) → begun_in o ≡ Some loop → Member (jumps_by is_item k (kind_in o) d) s → ⊥
begun-jumps-in is_item k s None d loop is m = let no : None ≡ Some loop = is in cc
begun-jumps-in is_item k s (Some exec) d loop is m = begun-jumps is_item k s exec.kind d loop is m

one-if : (b : Bool) (x s : ℕ) → Member (if b then [] else x ∷ []) s → x ≡ s
one-if true x s m = absurd m
one-if false x s (inl same) = same
one-if false x s (inr m) = absurd m

incremented-jumps : (is_item : ℕ → Bool) (k s : ℕ) (kind : ExecKind) (d : Option ℕ) (loop : Loop) → incremented kind ≡ Some loop → Member (jumps_by is_item k kind d) s → loop.exit ≡ s
incremented-jumps is_item k s (Assign target value next) d loop is m = absurd cc
incremented-jumps is_item k s (Print items next) d loop is m = absurd cc
incremented-jumps is_item k s (Pass next) d loop is m = absurd cc
incremented-jumps is_item k s (Test c a b) d loop is m = absurd cc
incremented-jumps is_item k s (Sign e a b c) d loop is m = absurd cc
incremented-jumps is_item k s (Pick e targets other) d loop is m = absurd cc
incremented-jumps is_item k s (DoStart loop_no var first last step body exit) d loop is m = absurd cc
incremented-jumps is_item k s (DoNext loop_no var body exit) d loop is m =
    let same : record { number = loop_no; variable = var; body = body; exit = exit } ≡ loop = cc in
    ap (λ (x : Loop). x.exit) (sym same) ∙ one-if (is_next is_item k exit) exit s m
incremented-jumps is_item k s End d loop is m = absurd cc

-- the increment of a DO
pub incremented-jumps-in : (is_item : ℕ → Bool) (k s : ℕ) (o : Option Exec) (d : Option ℕ) (loop : Loop) → incremented_in o ≡ Some loop → Member (jumps_by is_item k (kind_in o) d) s → loop.exit ≡ s
incremented-jumps-in is_item k s None d loop is m = let no : None ≡ Some loop = is in absurd cc
incremented-jumps-in is_item k s (Some exec) d loop is m = incremented-jumps is_item k s exec.kind d loop is m
