-- Executables that are copies of one another do the same.
use Rattle.std.proofs.Common.{◌≡◌, ℕ, zero, suc, ◌⊎◌, inl, inr, ℤ, Bool, true, false, not, ◌&&◌, List, [], ◌∷◌, flat_map, Contains, Option, Some, None, refl, sym, ap, subst, ◌∙◌}
use Rattle.std.specs.Prelude.{slice_get}
use Rattle.std.specs.List.{list_all}
use Rattle.std.proofs.lemmas.Bool.{and_parts}
use Rattle.std.proofs.lemmas.List.Elements.{Contains-append_left, Contains-append_right}
use Rattle.f77_tree.specs.declared.declarations.Kind.TheVariants.{Integer, Logical}
use Rattle.f77_tree.specs.declared.expressions.Expr.{Expr}
use Rattle.f77_tree.specs.declared.programs.ExecKind.{ExecKind}
use Rattle.f77_tree.specs.declared.programs.ExecKind.TheVariants.{DoStart, DoNext}
use Rattle.f77_tree.specs.declared.programs.NameInfo.{NameInfo}
use Rattle.f77_tree.specs.declared.statements.RawExpr.{RawExpr}
use Rattle.f77_tree.specs.declared.statements.Stmt.{Stmt}
use Rattle.f77_tree.specs.Declarations.{index_of}
use Rattle.f77_tree.specs.Execution.{Memory, Outcome, Goes, Stops, Ends, outcome}
use Rattle.f77_tree.specs.Touched.{SetsStep}
use Rattle.layout_rules.specs.Appearances.{appearing, names_in}
use Rattle.layout_rules.specs.Resolved.{resolved, resolved_step}
use Rattle.layout_rules.specs.Types.{is_array_in, is_of_kind, is_target, is_well_kinded, is_kind, is_step, kind_named}
use Rattle.program_units.specs.Copies.{Change}
use Rattle.copied_values.specs.SideBySide.{AreSideBySide, AreTied, GoAlike, HoldAlike, with_pair}
use Rattle.copied_values.proofs.CopiedSteps.{assigns, increments, picks, prints, signs, starts, takes, tests}
use Rattle.called_runs.specs.CopiedKinds.{IsCopyOf, assign_alike, end_alike, next_alike, pass_alike, pick_alike, print_alike, sign_alike, start_alike, take_alike, test_alike}

-- ---- what is asked of a statement's expressions: their names are tied, and their kinds are right

pub record IsTiedStatement (R : ℕ → ℕ → Type 0) (names others : List NameInfo) (c : Change) (s : Stmt) : Type 0 where
  pub tied : AreTied R names others c (appearing c.arrays s)
  pub kinded : is_well_kinded names s ≡ true

pub record IsTiedTest (R : ℕ → ℕ → Type 0) (names others : List NameInfo) (c : Change) (e : RawExpr) : Type 0 where
  pub tied : AreTied R names others c (names_in c.arrays e)
  pub kinded : is_of_kind names Logical e ≡ true

-- the DOs whose counts are the same after an executable: those before, and the one that it begins
abbrev pub Held : ExecKind → (L D : ℕ → ℕ → Type 0) → (ℕ → ℕ → Type 0)
Held kind L D i j = L i j ⊎ (SetsStep kind i × D i j)

module _ (R : ℕ → ℕ → Type 0) where
  hold-fewer : (L K : ℕ → ℕ → Type 0) (m n : Memory) → ((i j : ℕ) → K i j → L i j) → HoldAlike R L m n → HoldAlike R K m n
  hold-fewer L K m n fewer h = record { store = h.store; counts = λ i j k. h.counts i j (fewer i j k); steps = λ i j k. h.steps i j (fewer i j k); taken = h.taken }

  pub go-fewer : (L K N : ℕ → ℕ → Type 0) (o o' : Outcome) → ((i j : ℕ) → K i j → L i j) → GoAlike R L N o o' → GoAlike R K N o o'
  go-fewer L K N (Goes next m text) (Goes next' n text') fewer go = (go.0, go.1, hold-fewer L K m n fewer go.2)
  go-fewer L K N (Goes next m text) (Stops trap) fewer go = absurd go
  go-fewer L K N (Goes next m text) Ends fewer go = absurd go
  go-fewer L K N (Stops trap) (Goes next' n text') fewer go = absurd go
  go-fewer L K N (Stops trap) (Stops trap') fewer go = go
  go-fewer L K N (Stops trap) Ends fewer go = absurd go
  go-fewer L K N Ends (Goes next' n text') fewer go = absurd go
  go-fewer L K N Ends (Stops trap') fewer go = absurd go
  go-fewer L K N Ends Ends fewer go = go

target-of : (names : List NameInfo) (targets : List RawExpr) (k : ℕ) (t : RawExpr) → slice_get targets k ≡ Some t → list_all (is_target names) targets ≡ true → is_target names t ≡ true
target-of names [] k t is all = let e : None ≡ Some t = is in absurd cc
target-of names (x ∷ xs) zero t is all = let e : Some x ≡ Some t = is in let same : x ≡ t = cc in ap (is_target names) (sym same) ∙ (and_parts (is_target names x) (list_all (is_target names) xs) all).0
target-of names (x ∷ xs) (suc k) t is all = target-of names xs k t is (and_parts (is_target names x) (list_all (is_target names) xs) all).1

names-of : (f : RawExpr → List (List ℕ)) (targets : List RawExpr) (k : ℕ) (t : RawExpr) (x : List ℕ) → slice_get targets k ≡ Some t → Contains (f t) x → Contains (flat_map f targets) x
names-of f [] k t x is at = let e : None ≡ Some t = is in absurd cc
names-of f (y ∷ ys) zero t x is at = let e : Some y ≡ Some t = is in let same : t ≡ y = cc in Contains-append_left (f y) (flat_map f ys) x (subst (λ (z : RawExpr). Contains (f z) x) same at)
names-of f (y ∷ ys) (suc k) t x is at = Contains-append_right (f y) (flat_map f ys) x (names-of f ys k t x is at)

negated : (b : Bool) → not b ≡ true → b ≡ false
negated true h = let e : false ≡ true = h in absurd cc
negated false h = refl

module _ (R L D N : ℕ → ℕ → Type 0) (names others : List NameInfo) (c : Change) (checked : Bool) (input : List ℤ) (m n : Memory) (side : AreSideBySide R L D names others c m n) where
  abbrev Of : Stmt → Type 0
  Of = IsTiedStatement R names others c

  abbrev OfTest : RawExpr → Type 0
  OfTest = IsTiedTest R names others c

  abbrev Like : ExecKind → ExecKind → Type 0
  Like = IsCopyOf Of OfTest N D names others checked c

  -- nothing begins
  same-held : (kind : ExecKind) → ((i : ℕ) → SetsStep kind i → ⊥) → (o o' : Outcome) → GoAlike R L N o o' → GoAlike R (Held kind L D) N o o'
  same-held kind none o o' go = go-fewer R L (Held kind L D) N o o' fewer go
    where
      fewer : (i j : ℕ) → Held kind L D i j → L i j
      fewer i j (inl old) = old
      fewer i j (inr new) = absurd (none i new.0)

  begun-held : (i j variable : ℕ) (first last step : Expr) (body exit : ℕ) → D i j → (o o' : Outcome) → GoAlike R (with_pair L i j) N o o' → GoAlike R (Held (DoStart i variable first last step body exit) L D) N o o'
  begun-held i j variable first last step body exit loop o o' go = go-fewer R (with_pair L i j) (Held (DoStart i variable first last step body exit) L D) N o o' fewer go
    where
      fewer : (x y : ℕ) → Held (DoStart i variable first last step body exit) L D x y → with_pair L i j x y
      fewer x y (inl old) = inl old
      fewer x y (inr new) = inr (sym new.0, sym (side.loops_paired.there i j x y loop new.1 new.0))

  -- the DO that an executable increments is one whose counts are the same
  abbrev pub IsLive : ExecKind → Type 0
  IsLive kind = (i j variable body exit : ℕ) → kind ≡ DoNext i variable body exit → D i j → L i j

  scalar : (label : ℕ) (variable : List ℕ) (first last : RawExpr) (step : Option RawExpr) → (((not (is_array_in names variable) && is_kind Integer (Some (kind_named names variable))) && is_of_kind names Integer first) && is_of_kind names Integer last) && is_step names step ≡ true → is_array_in names variable ≡ false
  scalar label variable first last step kinded =
      let p = is_array_in names variable in
      let k = is_kind Integer (Some (kind_named names variable)) in
      let one = and_parts (((not p && k) && is_of_kind names Integer first) && is_of_kind names Integer last) (is_step names step) kinded in
      let two = and_parts ((not p && k) && is_of_kind names Integer first) (is_of_kind names Integer last) one.0 in
      let three = and_parts (not p && k) (is_of_kind names Integer first) two.0 in
      negated p (and_parts (not p) k three.0).0

  alone : (variable : List ℕ) (xs : List (List ℕ)) → AreTied R names others c (variable ∷ xs) → AreTied R names others c (variable ∷ [])
  alone variable xs tied = record { known = λ x at. tied.known x (Contains-append_left (variable ∷ []) xs x at); paired = λ x at. tied.paired x (Contains-append_left (variable ∷ []) xs x at) }

  tied-target : (targets : List RawExpr) (k : ℕ) (t : RawExpr) → slice_get targets k ≡ Some t → AreTied R names others c (flat_map (names_in c.arrays) targets) → AreTied R names others c (names_in c.arrays t)
  tied-target targets k t is tied = record { known = λ x at. tied.known x (names-of (names_in c.arrays) targets k t x is at); paired = λ x at. tied.paired x (names-of (names_in c.arrays) targets k t x is at) }

  -- what an executable does, its copy does
  pub copied-goes : (kind kind' : ExecKind) → Like kind kind' → IsLive kind → GoAlike R (Held kind L D) N (outcome names input m kind) (outcome others input n kind')
  copied-goes kind kind' (assign_alike target e next next' of nexts) live = same-held kind (λ i sets. sets) (outcome names input m kind) (outcome others input n kind') (assigns R L D N names others c checked input m n side target e next next' of.tied of.kinded nexts)
  copied-goes kind kind' (take_alike targets target k next next' of at nexts) live = same-held kind (λ i sets. sets) (outcome names input m kind) (outcome others input n kind') (takes R L D N names others c checked input m n side target next next' (tied-target targets k target at of.tied) (target-of names targets k target at of.kinded) nexts)
  copied-goes kind kind' (print_alike items next next' of nexts) live = same-held kind (λ i sets. sets) (outcome names input m kind) (outcome others input n kind') (prints R L D N names others c checked input m n side items next next' of.tied of.kinded nexts)
  copied-goes kind kind' (pass_alike next next' nexts) live = same-held kind (λ i sets. sets) (outcome names input m kind) (outcome others input n kind') (nexts, refl, side.alike)
  copied-goes kind kind' (test_alike e yes' no' yes_there no_there of first second) live = same-held kind (λ i sets. sets) (outcome names input m kind) (outcome others input n kind') (tests R L D N names others c checked input m n side e yes' no' yes_there no_there of.tied of.kinded first second)
  copied-goes kind kind' (sign_alike e a b d x y z x' y' z' of first second third) live = same-held kind (λ i sets. sets) (outcome names input m kind) (outcome others input n kind') (signs R L D N names others c checked input m n side e x y z x' y' z' of.tied of.kinded first second third)
  copied-goes kind kind' (pick_alike e labels xs ys x y of many each) live = same-held kind (λ i sets. sets) (outcome names input m kind) (outcome others input n kind') (picks R L D N names others c checked input m n side e xs ys x y of.tied of.kinded many each)
  copied-goes kind kind' (start_alike label i j variable first last step body exit body' exit' of loop in_body in_exit) live = begun-held i j (index_of names variable) (resolved names checked first) (resolved names checked last) (resolved_step names checked step) body exit loop (outcome names input m kind) (outcome others input n kind') (starts R L D N names others c checked input m n side label i j variable first last step body exit body' exit' of.tied of.kinded loop in_body in_exit)
  copied-goes kind kind' (next_alike label i j variable first last step body exit body' exit' of loop in_body in_exit) live = same-held kind (λ i sets. sets) (outcome names input m kind) (outcome others input n kind') (increments R L D N names others c checked input m n side i j variable body exit body' exit' (alone variable _ of.tied) (scalar label variable first last step of.kinded) (live i j _ body exit refl loop) in_body in_exit)
  copied-goes kind kind' end_alike live = tt
