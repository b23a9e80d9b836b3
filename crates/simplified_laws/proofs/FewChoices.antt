-- The simplified form has no more labels of computed GO TOs than the program, and few statements where they are told to be few.
use Rattle.std.proofs.Common.{◌≡◌, ℕ, suc, ◌+◌, ◌<◌, ◌≤◌, ℤ, Bool, true, false, List, [], ◌∷◌, ◌++◌, length, map, flat_map, sum_by, Option, Some, None, refl, sym, ap, ◌∙◌, ⊎_elim, arith}
use Rattle.std.specs.Prelude.{if◌then◌else◌, nat_lt, slice_get}
use Rattle.std.specs.List.{range_with_len}
use Rattle.std.proofs.lemmas.Bool.{cases_lt, false≢true}
use Rattle.std.proofs.lemmas.Bool.Decides.{Decides-ltb}
use Rattle.std.proofs.lemmas.List.{length-map}
use Rattle.std.proofs.lemmas.List.Sums.{sum_by-append, sum_by-cons, sum_by-le-sum_by}
use Rattle.f77_tree.specs.declared.programs.Exec.{Exec}
use Rattle.f77_tree.specs.declared.programs.ExecKind.{ExecKind}
use Rattle.f77_tree.specs.declared.programs.ExecKind.TheVariants.{Assign, Print, Pass, Test, Sign, Pick, DoStart, DoNext, End}
use Rattle.f77_tree.specs.declared.programs.Program.{Program}
use Rattle.f77_tree.specs.Control.{targets_of}
use Rattle.f77_tree.specs.WellFormed.{AreExecs}
use Rattle.alias_classes.specs.Classes.{ClassTable}
use Rattle.cfg_build.specs.Parts.{line_in}
use Rattle.cfg_build.specs.Passes.{kind_in}
use Rattle.const_prop.specs.Table.{Knowns}
use Rattle.flat_programs.specs.declared.statements.Flat.{Flat}
use Rattle.flat_programs.specs.declared.statements.Flat.TheVariants.{Jump, ComputedGoTo}
use Rattle.flat_programs.specs.declared.statements.FlatLine.{FlatLine}
use Rattle.flat_programs.specs.Declarations.{declared}
use Rattle.flat_programs.specs.FlatForm.{choices, HasFewStatements}
use Rattle.simplified_forms.specs.Folding.{folded}
use Rattle.simplified_forms.specs.Items.{kind_at}
use Rattle.simplified_forms.specs.Simplified.{decided, has_many_statements, left_of, mark_of, words_at}
use Rattle.simplified_laws.proofs.FlatItems.{all, jumps_of, left_over, mark_by, marked, own_of, part, stmts, with_line}

-- ---- sums

sum-joined : {X Y : Type 0} (w : Y → ℕ) (f : X → List Y) (xs : List X) → sum_by w (flat_map f xs) ≡ sum_by (λ x. sum_by w (f x)) xs
sum-joined w f [] = refl
sum-joined w f (x ∷ xs) =
    let e : sum_by w (f x ++ flat_map f xs) ≡ sum_by w (f x) + sum_by w (flat_map f xs) = sum_by-append w (f x) (flat_map f xs) in
    let h = sum_by-cons (λ y. sum_by w (f y)) x xs in
    let r = sum-joined w f xs in
    omega (arith, e, h, r)

sum-row : (g : Exec → ℕ) (h : ℕ → ℕ) (xs : List Exec) (a : ℕ) → ((i : ℕ) (x : Exec) → slice_get xs i ≡ Some x → h (a + i) ≡ g x) → sum_by h (range_with_len a (length xs)) ≡ sum_by g xs
sum-row g h [] a same = refl
sum-row g h (x ∷ xs) a same =
    let at : a ≡ a + 0 = omega arith in
    let next : (i : ℕ) → a + 1 + i ≡ a + suc i = λ i. omega arith in
    let first : h a ≡ g x = ap h at ∙ same 0 x refl in
    let rest : sum_by h (range_with_len (a + 1) (length xs)) ≡ sum_by g xs = sum-row g h xs (a + 1) (λ i y is. ap h (next i) ∙ same (suc i) y is) in
    let e : sum_by h (a ∷ range_with_len (a + 1) (length xs)) ≡ h a + sum_by h (range_with_len (a + 1) (length xs)) = sum_by-cons h a (range_with_len (a + 1) (length xs)) in
    let d = sum_by-cons g x xs in
    omega (arith, e, d, first, rest)

-- ---- labels

abbrev labels : Flat → ℕ
labels stmt = length (choices stmt)

abbrev weight : FlatLine → ℕ
weight l = labels l.stmt

sum-lines : (line : ℕ) (xs : List Flat) → sum_by weight (map (with_line line) xs) ≡ sum_by labels xs
sum-lines line [] = refl
sum-lines line (x ∷ xs) =
    let e : sum_by weight (with_line line x ∷ map (with_line line) xs) ≡ labels x + sum_by weight (map (with_line line) xs) = sum_by-cons weight (with_line line x) (map (with_line line) xs) in
    let h = sum_by-cons labels x xs in
    let r = sum-lines line xs in
    omega (arith, e, h, r)

none-least : (n m : ℕ) → n ≡ 0 → n ≤ m
none-least n m is = omega (arith, is)

jumps-labels : (mark : ℕ → ℕ) (xs : List ℕ) → sum_by labels (map (λ s. Jump (mark s)) xs) ≡ 0
jumps-labels mark [] = refl
jumps-labels mark (x ∷ xs) =
    let e : sum_by labels (Jump (mark x) ∷ map (λ s. Jump (mark s)) xs) ≡ 0 + sum_by labels (map (λ s. Jump (mark s)) xs) = sum_by-cons labels (Jump (mark x)) (map (λ s. Jump (mark s)) xs) in
    let r = jumps-labels mark xs in
    omega (arith, e, r)

module _ (p : Program) (checked : Bool) (words : ℕ → Option ℤ) (mark : ℕ → ℕ) where
  left-labels : (kind : ExecKind) (d : Option ℕ) → sum_by labels (left_of p checked words mark kind d) ≤ length (targets_of kind)
  left-labels (Assign target value next) d = none-least _ _ refl
  left-labels (Print items next) d = none-least _ _ refl
  left-labels (Pass next) d = none-least _ _ refl
  left-labels (Test cond a b) None = none-least _ _ refl
  left-labels (Test cond a b) (Some i) = none-least _ _ refl
  left-labels (Sign e a b c) None = none-least _ _ refl
  left-labels (Sign e a b c) (Some i) = none-least _ _ refl
  left-labels (Pick e targets other) None =
      let x : Flat = ComputedGoTo (folded p.names checked words e) (map mark targets) in
      let one : sum_by labels (x ∷ []) ≡ length (map mark targets) + 0 = sum_by-cons labels x [] in
      let size = length-map targets mark in
      omega (arith, one, size)
  left-labels (Pick e targets other) (Some i) = none-least _ _ refl
  left-labels (DoStart loop_no var first last step body exit) d = none-least _ _ refl
  left-labels (DoNext loop_no var body exit) d = none-least _ _ refl
  left-labels End d = none-least _ _ refl

module _ (p : Program) (c : ClassTable) (t : Knowns) (checked : Bool) (is_item : ℕ → Bool) where
  mark-labels : (b : Bool) → sum_by labels (mark_by p c t checked is_item b) ≡ 0
  mark-labels true = refl
  mark-labels false = refl

  abbrev targets : ℕ → ℕ
  targets k = length (targets_of (kind_at p k))

  stmts-labels : (k : ℕ) → sum_by labels (stmts p c t checked is_item k) ≤ targets k
  stmts-labels k =
      let first = mark_by p c t checked is_item (marked p c t checked is_item k) in
      let own = own_of p c t checked is_item k in
      let both = sum_by-append labels (first ++ own) (jumps_of p c t checked is_item k) in
      let one = sum_by-append labels first own in
      let mark = mark-labels (marked p c t checked is_item k) in
      let least = left-labels p checked (words_at p c t checked is_item k) (mark_of p t is_item) (kind_at p k) (decided p t k) in
      let none = jumps-labels (mark_of p t is_item) (left_over p c t checked is_item k) in
      omega (arith, both, one, mark, least, none)

  part-by : (k : ℕ) (b : Bool) → sum_by weight (if b then map (with_line (line_in (slice_get p.execs k))) (stmts p c t checked is_item k) else []) ≤ targets k
  part-by k true = let e = sum-lines (line_in (slice_get p.execs k)) (stmts p c t checked is_item k) in let least = stmts-labels k in omega (arith, e, least)
  part-by k false = none-least _ _ refl

  few-labels : sum_by weight (all p c t checked is_item) ≤ sum_by (λ (exec : Exec). length (targets_of exec.kind)) p.execs
  few-labels =
      let n = length p.execs in
      let joined = sum-joined weight (part p c t checked is_item) (range_with_len 0 n) in
      let least = sum_by-le-sum_by (λ k. sum_by weight (part p c t checked is_item k)) targets (range_with_len 0 n) (λ k. part-by k (is_item k)) in
      let row = sum-row (λ (exec : Exec). length (targets_of exec.kind)) targets p.execs 0
      (λ i x is. let same : 0 + i ≡ i = omega arith in ap targets same ∙ ap (λ o. length (targets_of (kind_in o))) is) in
      omega (arith, joined, least, row)

  least-of : (m n : ℕ) → nat_lt m n ≡ false → n ≤ m
  least-of m n is = ⊎_elim
      (λ (less : m < n). absurd (false≢true (sym is ∙ (Decides-ltb m n).1 less)))
      (λ (le : n ≤ m). le)
      (cases_lt m n)

  pub few-statements : AreExecs p.names p.execs p.loops → has_many_statements p (all p c t checked is_item) ≡ false → HasFewStatements (all p c t checked is_item)
  few-statements well few =
      let most = least-of 4000 (length (declared p) + length (all p c t checked is_item)) few in
      let all_labels = few-labels in
      let bound = well.target_count in
      record { statements = omega (arith, most); choices = omega (arith, all_labels, bound) }
