-- What the ranks of statements say of the order of those after them.
use Rattle.std.proofs.Common.{◌≡◌, ℕ, ◌+◌, ◌<◌, ◌≤◌, Bool, false, ◌&&◌, ◌||◌, ◌==◌, List, length, take, get_or, arith}
use Rattle.std.specs.Prelude.{nat_lt}
use Rattle.std.specs.List.{list_any}
use Rattle.std.proofs.lemmas.Bool.Decides.{nat_tests}
use Rattle.std.proofs.lemmas.List.Folds.{list_any_more}
use Rattle.f77_tree.specs.declared.statements.Labelled.{Labelled}
use Rattle.layout_rules.specs.Order.{rank}

-- a statement of the rank r may not follow statements of which g is the greatest rank, a PROGRAM among them or not
abbrev pub is_late : (g : ℕ) (p : Bool) (r : ℕ) → Bool
is_late g p r = nat_lt r g || (p && r == 0) || g == 4

-- a statement of the rank r may not follow this one
abbrev pub forbids : (r : ℕ) → Labelled → Bool
forbids r a = nat_lt r (rank a.stmt) || (rank a.stmt == 0 && r == 0) || rank a.stmt == 4

-- a statement that isn't late has the greatest rank so far
pub timely : (g k : ℕ) (p : Bool) → is_late g p k ≡ false → (g ≤ k) × ((g == 4) ≡ false)
timely g k p h = grind (arith, nat_tests)

late-next : (g k r : ℕ) (p : Bool) → g ≤ k → (g == 4) ≡ false → (is_late g p r || (nat_lt r k || (k == 0 && r == 0) || k == 4)) ≡ is_late k (p || k == 0) r
late-next g k r p le not_end = grind arith

-- one more statement, which isn't late
pub late-more : (stmts : List Labelled) (i : ℕ) (s : Labelled) (g k r : ℕ) (p : Bool) → i < length stmts → s ≡ get_or stmts i s → k ≡ rank s.stmt → is_late g p k ≡ false → list_any (forbids r) (take i stmts) ≡ is_late g p r
    → list_any (forbids r) (take (i + 1) stmts) ≡ is_late k (p || k == 0) r
late-more stmts i s g k r p lt is ranked is_timely before =
    let bounds = timely g k p is_timely in
    rw (list_any_more (forbids r) stmts i s lt, ← is, before, ← ranked) (late-next g k r p bounds.0 bounds.1)
