-- A load on its lines: one after another, and all at once.
use Rattle.std.proofs.Common.{◌≡◌, ◌<◌, inl, inr, ⊎_elim, ℕ, zero, suc, ◌==◌, ◌||◌, Bool, true, false, if◌then◌else◌, List, [], ◌∷◌, length, Option, slice_get, slice_index, slice_set, refl, sym, ap, ◌∙◌, subst, arith}
use Rattle.std.specs.List.{list_any}
use Rattle.std.proofs.lemmas.Bool.{cases_eq, eq-eqb, ne_eqb}
use mathlib.Core.Path.{fun_ext}
use Rattle.list_laws.specs.Member.{Member}
use Rattle.net_board.specs.Tokens.{edge_of, joined, with_all}
use Rattle.net_board.proofs.ListPlaces.{get_set_other, index_of}
use Rattle.net_board.proofs.NodeLaws.{Distinct}
use Rattle.op_board.specs.OperationNets.{OperationNet}
use Rattle.op_board.specs.OperationTokens.{passed_by, replaced}
use Rattle.fork_board.specs.ForkTokens.{ForkTokens, Standing, is_open, read_by, standing}
use Rattle.read_forks.specs.LoadSteps.{line_read, lines_read, stood}

-- ---- one place of a list

pub edge_put_there : (edges : List (Option ℕ)) (k : ℕ) (edge : Option ℕ) → k < length edges → joined (slice_get (slice_set edges k edge) k) ≡ edge
edge_put_there [] k edge inside = absurd (omega (arith, inside))
edge_put_there (e ∷ edges) zero edge inside = refl
edge_put_there (e ∷ edges) (suc k) edge inside = edge_put_there edges k edge (omega (arith, inside))

pub number_put_there : (numbers : List ℕ) (k n : ℕ) → k < length numbers → slice_index (slice_set numbers k n) k ≡ n
number_put_there [] k n inside = absurd (omega (arith, inside))
number_put_there (m ∷ numbers) zero n inside = refl
number_put_there (m ∷ numbers) (suc k) n inside = number_put_there numbers k n (omega (arith, inside))

-- ---- where lines stand after one of them was put elsewhere

pub other_stands : (m : ForkTokens) (line j : ℕ) (s : Standing) → (line ≡ j → ⊥) → standing (stood m line s) j ≡ standing m j
other_stands m line j s differ =
    let edge : edge_of (stood m line s).operations.tokens j ≡ edge_of m.operations.tokens j = ap joined (get_set_other m.operations.tokens.lines line j s.edge differ) in
    let passed : passed_by (stood m line s).operations j ≡ passed_by m.operations j = index_of (slice_set m.operations.passed line s.passed) m.operations.passed j (get_set_other m.operations.passed line j s.passed differ) in
    let loaded : (stood m line s).loaded j ≡ m.loaded j = ap (λ b. if b then s.loaded else m.loaded j) (ne_eqb j line (λ e. differ (sym e))) in
    λ n. record { edge = edge n; passed = passed n; loaded = loaded n }

pub own_stands : (m : ForkTokens) (line : ℕ) (s : Standing) → line < length m.operations.tokens.lines → line < length m.operations.passed → standing (stood m line s) line ≡ s
own_stands m line s inside there =
    let edge : edge_of (stood m line s).operations.tokens line ≡ s.edge = edge_put_there m.operations.tokens.lines line s.edge inside in
    let passed : passed_by (stood m line s).operations line ≡ s.passed = number_put_there m.operations.passed line s.passed there in
    let loaded : (stood m line s).loaded line ≡ s.loaded = ap (λ b. if b then s.loaded else m.loaded line) (eq-eqb line line refl) in
    λ n. record { edge = edge n; passed = passed n; loaded = loaded n }

-- ---- all lines at once

abbrev pub is_in : List ℕ → (line : ℕ) → Bool
is_in lines line = list_any (λ l. l == line) lines

-- these lines stand there, and those loads of their groups have fired
abbrev pub all_stood : ForkTokens → List ℕ → (ℕ → Standing) → ForkTokens
all_stood m lines where_to = record {
  operations = record m.operations { tokens = record m.operations.tokens { lines = with_all m.operations.tokens.lines lines (λ line. (where_to line).edge) }; passed = replaced m.operations.passed lines (λ line. (where_to line).passed) };
  loaded = λ line. if is_in lines line then (where_to line).loaded else m.loaded line;
}

abbrev loaded_of : ForkTokens → ((line piece number : ℕ) → Bool) → ForkTokens
loaded_of m loaded = record m { loaded = loaded }

first_loaded : (where_to : ℕ → Standing) (old : (line piece number : ℕ) → Bool) (first : ℕ) (lines : List ℕ) (line : ℕ)
    → (if is_in lines line then (where_to line).loaded else (if line == first then (where_to first).loaded else old line)) ≡ (if is_in (first ∷ lines) line then (where_to line).loaded else old line)
first_loaded where_to old first lines line = ⊎_elim same other (cases_eq first line)
  where
    old_or : (b : Bool) → (if b then (where_to line).loaded else (where_to line).loaded) ≡ (where_to line).loaded
    old_or true = refl
    old_or false = refl

    same : first ≡ line → (if is_in lines line then (where_to line).loaded else (if line == first then (where_to first).loaded else old line)) ≡ (if is_in (first ∷ lines) line then (where_to line).loaded else old line)
    same e =
        ap (λ b. if is_in lines line then (where_to line).loaded else (if b then (where_to first).loaded else old line)) (eq-eqb line first (sym e))
        ∙ ap (λ (f : ℕ). if is_in lines line then (where_to line).loaded else (where_to f).loaded) e
        ∙ old_or (is_in lines line)
        ∙ ap (λ b. if b || is_in lines line then (where_to line).loaded else old line) (sym (eq-eqb first line e))

    other : (first ≡ line → ⊥) → (if is_in lines line then (where_to line).loaded else (if line == first then (where_to first).loaded else old line)) ≡ (if is_in (first ∷ lines) line then (where_to line).loaded else old line)
    other differ =
        ap (λ b. if is_in lines line then (where_to line).loaded else (if b then (where_to first).loaded else old line)) (ne_eqb line first (λ e. differ (sym e)))
        ∙ ap (λ b. if b || is_in lines line then (where_to line).loaded else old line) (sym (ne_eqb first line differ))

module _ (x : OperationNet) (piece i : ℕ) where
  pub read_all : (m : ForkTokens) (lines : List ℕ) (where_to : ℕ → Standing) → Distinct lines → ((j : ℕ) → Member lines j → read_by x j piece i (standing m j) ≡ where_to j) → lines_read x piece i m lines ≡ all_stood m lines where_to
  read_all m [] where_to apart same = refl
  read_all m (first ∷ lines) where_to apart same =
      ap (λ s. lines_read x piece i (stood m first s) lines) (same first (inl refl))
      ∙ read_all (stood m first (where_to first)) lines where_to apart.1 (λ j among. ap (read_by x j piece i) (other_stands m first j (where_to first) (λ e. apart.0 (subst (λ l. Member lines l) (sym e) among))) ∙ same j (inr among))
      ∙ ap (loaded_of (all_stood m (first ∷ lines) where_to)) (fun_ext (λ line. first_loaded where_to m.loaded first lines line))

  -- the line waits before the load still, after another line was read
  pub still_before : (m : ForkTokens) (line j : ℕ) → (line ≡ j → ⊥) → is_open x j piece i (standing m j) ≡ true → is_open x j piece i (standing (line_read x piece i m line) j) ≡ true
  still_before m line j differ before = ap (is_open x j piece i) (other_stands m line j (read_by x line piece i (standing m line)) differ) ∙ before
