-- What a pass does to the counts of DOs, and where the test of a DO leads.
use Rattle.std.proofs.Common.{◌≡◌, ℕ, ◌-◌, ◌<◌, ◌≤◌, ℤ, true, false, cond, nat_lt, List, length, Option, Some, None, Result, Ok, Err, slice_get, slice_index, slice_set, unwrap_or, refl, sym, ap, ◌∙◌, ⊎_elim, get_or-set_same, arith}
use Rattle.std.proofs.lemmas.Bool.{cases_lt, eqb-true, eq-eqb, false≢true}
use Rattle.std.proofs.lemmas.List.{get_or_past, set_past}
use Rattle.std.proofs.lemmas.Option.{unwrap_or-slice_get}
use Rattle.op_table.specs.declared.Trap.{Trap}
use Rattle.f77_tree.specs.declared.programs.Exec.{Exec}
use Rattle.f77_tree.specs.declared.programs.ExecKind.{ExecKind}
use Rattle.f77_tree.specs.declared.programs.ExecKind.TheVariants as exec
use Rattle.f77_tree.specs.declared.programs.NameInfo.{NameInfo}
use Rattle.f77_tree.specs.declared.programs.Program.{Program}
use Rattle.f77_tree.specs.Execution.{Memory, Outcome, Goes, Stops, Ends, outcome}
use Rattle.f77_tree.specs.Loops.{Loop, begun, begun_in, incremented, is_number}
use Rattle.f77_tree.specs.Steps.{IfGoes, KeepsRest}
use Rattle.f77_tree.specs.Touched.{SetsCount}
use Rattle.cfg_build.specs.declared.pieces.PieceKind.{PieceKind}
use Rattle.cfg_build.specs.declared.pieces.PieceKind.TheVariants as piece
use Rattle.cfg_build.specs.Passes.{Passed, Along, Traps, Done, acted, branched, choice, pass_of, kind_in, PassState, after_pass}
use Rattle.dep_routing.proofs.Circles.{loop_of}

-- the DO that a piece begins
abbrev pub begun_of : PieceKind → ExecKind → Option Loop
begun_of piece.Act kind = begun kind
begun_of _ kind = None

-- the memory after a pass, and the edge, from those before
abbrev pub memory_after : Memory → Passed → Memory
memory_after old (Along edge memory text) = memory
memory_after old (Traps trap) = old
memory_after old Done = old

abbrev pub edge_after : ℕ → Passed → ℕ
edge_after old (Along edge memory text) = edge
edge_after old (Traps trap) = old
edge_after old Done = old

pub memory_is : (x : PassState) (line : ℕ) (passed : Passed) → (after_pass x line passed).memory ≡ memory_after x.memory passed
memory_is x line (Along edge memory text) = refl
memory_is x line (Traps trap) = refl
memory_is x line Done = refl

pub edge_is : (x : PassState) (line : ℕ) (passed : Passed) → (after_pass x line passed).edge ≡ edge_after x.edge passed
edge_is x line (Along edge memory text) = refl
edge_is x line (Traps trap) = refl
edge_is x line Done = refl

-- what the law on what executables keep says
abbrev pub Keep : Type 0
Keep = (names : List NameInfo) (input : List ℤ) (m : Memory) (kind : ExecKind) → IfGoes (outcome names input m kind) (λ next new text. KeepsRest names input kind m new)

index_of_get : (xs ys : List ℕ) (k : ℕ) → slice_get xs k ≡ slice_get ys k → slice_index xs k ≡ slice_index ys k
index_of_get xs ys k same = sym (unwrap_or-slice_get xs k 0) ∙ ap (λ o. unwrap_or o 0) same ∙ unwrap_or-slice_get ys k 0

sets_own : (kind : ExecKind) (k : ℕ) → is_number k (begun kind) ≡ false → is_number k (incremented kind) ≡ false → SetsCount kind k → ⊥
sets_own (exec.Assign target value next) k a b s = s
sets_own (exec.Print items next) k a b s = s
sets_own (exec.Pass next) k a b s = s
sets_own (exec.Test c d e) k a b s = s
sets_own (exec.Sign v c d e) k a b s = s
sets_own (exec.Pick v targets other) k a b s = s
sets_own (exec.DoStart loop_no var first last step body exit) k a b s = false≢true (sym a ∙ eq-eqb loop_no k s)
sets_own (exec.DoNext loop_no var body exit) k a b s = false≢true (sym b ∙ eq-eqb loop_no k s)
sets_own exec.End k a b s = s

acted_keeps : (names : List NameInfo) (input : List ℤ) (m : Memory) (kind : ExecKind) (k next : ℕ) (o : Outcome) → (SetsCount kind k → ⊥) → IfGoes o (λ next new text. KeepsRest names input kind m new) → slice_index (memory_after m (acted next o)).counts k ≡ slice_index m.counts k
acted_keeps names input m kind k next (Goes e new text) other keeps = index_of_get new.counts m.counts k (keeps.counts k other)
acted_keeps names input m kind k next (Stops trap) other keeps = refl
acted_keeps names input m kind k next Ends other keeps = refl

branched_keeps : (m : Memory) (out : ℕ → ℕ) (k : ℕ) (r : Result ℕ Trap) → slice_index (memory_after m (branched m out r)).counts k ≡ slice_index m.counts k
branched_keeps m out k (Ok i) = refl
branched_keeps m out k (Err trap) = refl

-- a count is kept but by the beginning and the increment of its DO
pub count_kept : Keep → (p : Program) (input : List ℤ) (m : Memory) (out : ℕ → ℕ) (k : ℕ) (kind : PieceKind) (e : ExecKind) → is_number k (begun_of kind e) ≡ false → is_number k (loop_of kind e) ≡ false → slice_index (memory_after m (pass_of p input m out kind e)).counts k ≡ slice_index m.counts k
count_kept keep p input m out k piece.Start e a b = refl
count_kept keep p input m out k piece.Pass e a b = refl
count_kept keep p input m out k piece.Join e a b = refl
count_kept keep p input m out k piece.Hold e a b = refl
count_kept keep p input m out k piece.Act e a b = acted_keeps p.names input m e k (out 0) (outcome p.names input m e) (sets_own e k a b) (keep p.names input m e)
count_kept keep p input m out k piece.Branch e a b = branched_keeps m out k (choice p.names m e)
count_kept keep p input m out k piece.End e a b = refl

lowered : (xs : List ℕ) (k j : ℕ) → j ≡ k → slice_index (slice_set xs j (slice_index xs j - 1)) k ≡ slice_index xs k - 1
lowered xs k j same = ap (λ i. slice_index (slice_set xs i (slice_index xs i - 1)) k) same ∙ ⊎_elim
    (λ (l : k < length xs). get_or-set_same xs k (slice_index xs k - 1) 0 l)
    (λ (past : length xs ≤ k).
    let none : slice_index xs k ≡ 0 = get_or_past xs k 0 past in
    let less : slice_index xs k ≡ slice_index xs k - 1 = omega (arith, none) in
    ap (λ ys. slice_index ys k) (set_past xs k (slice_index xs k - 1) past) ∙ less)
    (cases_lt k (length xs))

-- an increment takes 1 from its count
pub count_lowered : (p : Program) (input : List ℤ) (m : Memory) (out : ℕ → ℕ) (k : ℕ) (kind : PieceKind) (e : ExecKind) → is_number k (loop_of kind e) ≡ true → slice_index (memory_after m (pass_of p input m out kind e)).counts k ≡ slice_index m.counts k - 1
count_lowered p input m out k piece.Act (exec.DoNext loop_no var body exit) h = lowered m.counts k loop_no (eqb-true loop_no k h)
count_lowered p input m out k piece.Act (exec.Assign target value next) h = absurd (false≢true h)
count_lowered p input m out k piece.Act (exec.Print items next) h = absurd (false≢true h)
count_lowered p input m out k piece.Act (exec.Pass next) h = absurd (false≢true h)
count_lowered p input m out k piece.Act (exec.Test c a b) h = absurd (false≢true h)
count_lowered p input m out k piece.Act (exec.Sign v a b c) h = absurd (false≢true h)
count_lowered p input m out k piece.Act (exec.Pick v targets other) h = absurd (false≢true h)
count_lowered p input m out k piece.Act (exec.DoStart loop_no var first last step body exit) h = absurd (false≢true h)
count_lowered p input m out k piece.Act exec.End h = absurd (false≢true h)
count_lowered p input m out k piece.Start e h = absurd (false≢true h)
count_lowered p input m out k piece.Pass e h = absurd (false≢true h)
count_lowered p input m out k piece.Branch e h = absurd (false≢true h)
count_lowered p input m out k piece.Join e h = absurd (false≢true h)
count_lowered p input m out k piece.Hold e h = absurd (false≢true h)
count_lowered p input m out k piece.End e h = absurd (false≢true h)

-- the test of a DO takes its first edge where the count isn't 0, else the second
pub tested_edge : (p : Program) (input : List ℤ) (m : Memory) (out : ℕ → ℕ) (old k : ℕ) (kind : PieceKind) (e : ExecKind) → kind ≡ piece.Branch → is_number k (begun e) ≡ true → edge_after old (pass_of p input m out kind e) ≡ out (cond (nat_lt 0 (slice_index m.counts k)) 0 1)
tested_edge p input m out old k kind e branch h = ap (λ x. edge_after old (pass_of p input m out x e)) branch ∙ of e h
  where
    of : (e : ExecKind) → is_number k (begun e) ≡ true → edge_after old (pass_of p input m out piece.Branch e) ≡ out (cond (nat_lt 0 (slice_index m.counts k)) 0 1)
    of (exec.DoStart loop_no var first last step body exit) h = ap (λ j. out (cond (nat_lt 0 (slice_index m.counts j)) 0 1)) (eqb-true loop_no k h)
    of (exec.DoNext loop_no var body exit) h = absurd (false≢true h)
    of (exec.Assign target value next) h = absurd (false≢true h)
    of (exec.Print items next) h = absurd (false≢true h)
    of (exec.Pass next) h = absurd (false≢true h)
    of (exec.Test c a b) h = absurd (false≢true h)
    of (exec.Sign v a b c) h = absurd (false≢true h)
    of (exec.Pick v targets other) h = absurd (false≢true h)
    of exec.End h = absurd (false≢true h)

pub begun_kind : (e : Option Exec) → begun (kind_in e) ≡ begun_in e
begun_kind None = refl
begun_kind (Some e) = refl
