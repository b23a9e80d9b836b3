-- Where the outcome of an executable goes on: what is shown of the ways in which it can.
use Rattle.std.proofs.Common.{◌≡◌, ℕ, zero, suc, ◌+◌, ◌-◌, ◌≤◌, ℤ, pos, negsuc, ◌-ℤ◌, ◌≤ℤ◌, Bool, true, false, cond, ◌&&◌, if◌then◌else◌, List, [], ◌∷◌, ◌++◌, length, Contains, None, Result, Ok, Err, slice_get, slice_index, slice_set, refl, subst, nat_lt, length-append, arith}
use Rattle.std.specs.Prelude.{int_le}
use Rattle.std.specs.Ordering.{int_eq}
use Rattle.std.proofs.lemmas.Int.{ints}
use Rattle.std.proofs.lemmas.List.Elements.{Contains-get_or}
use Rattle.op_table.specs.declared.Trap.{Trap}
use Rattle.op_table.specs.Words.{is_true}
use Rattle.op_table.specs.Operators.{picked}
use Rattle.op_table.specs.Trips.{at_least_zero, trip_count}
use Rattle.f77_tree.specs.declared.programs.ExecKind.{ExecKind}
use Rattle.f77_tree.specs.declared.programs.ExecKind.TheVariants.{Assign, Print, Pass, Test, Sign, Pick, DoStart, DoNext, End}
use Rattle.f77_tree.specs.declared.programs.NameInfo.{NameInfo}
use Rattle.f77_tree.specs.Control.{successors}
use Rattle.f77_tree.specs.Execution.{Memory, Outcome, Goes, Stops, Ends, outcome, assigned, printed, branched, do_begun, started, by_sign, by_number, words_taken}
use Rattle.f77_tree.specs.Steps.{IfGoes}
use Rattle.f77_tree.specs.Line.{line_of}
use Rattle.f77_tree.specs.Value.{value, place, place_of}

-- what holds where an outcome goes on holds of one that does
pub goes : (P : ℕ → Memory → List ℕ → Type 0) (o : Outcome) (next : ℕ) (new : Memory) (text : List ℕ) → IfGoes o P → o ≡ Goes next new text → P next new text
goes P o next new text holds is = subst (λ (o : Outcome). IfGoes o P) is holds

pub map-goes : (o : Outcome) (P Q : ℕ → Memory → List ℕ → Type 0) → ((next : ℕ) (new : Memory) (text : List ℕ) → P next new text → Q next new text) → IfGoes o P → IfGoes o Q
map-goes (Goes next new text) P Q so holds = so next new text holds
map-goes (Stops trap) P Q so holds = tt
map-goes Ends P Q so holds = tt

pub both-go : (o : Outcome) (P Q : ℕ → Memory → List ℕ → Type 0) → IfGoes o P → IfGoes o Q → IfGoes o (λ next new text. P next new text × Q next new text)
both-go (Goes next new text) P Q holds also = (holds, also)
both-go (Stops trap) P Q holds also = tt
both-go Ends P Q holds also = tt

-- ---- the ways to go on

module _ (P : ℕ → Memory → List ℕ → Type 0) (m : Memory) where
  pub assigned-goes : (next taken : ℕ) (at : Result ℕ Trap) (given : Result ℤ Trap) → ((word : ℕ) (z : ℤ) → at ≡ Ok word → given ≡ Ok z → P next (record m { store = slice_set m.store word z; taken = taken }) []) → IfGoes (assigned m next taken at given) P
  assigned-goes next taken (Err trap) given so = tt
  assigned-goes next taken (Ok word) (Err trap) so = tt
  assigned-goes next taken (Ok word) (Ok z) so = so word z refl refl

  pub printed-goes : (next : ℕ) (line : Result (List ℕ) Trap) → ((text : List ℕ) → line ≡ Ok text → P next m text) → IfGoes (printed m next line) P
  printed-goes next (Err trap) so = tt
  printed-goes next (Ok text) so = so text refl

  pub branched-goes : (next_at : ℤ → ℕ) (given : Result ℤ Trap) → ((z : ℤ) → given ≡ Ok z → P (next_at z) m []) → IfGoes (branched m next_at given) P
  branched-goes next_at (Err trap) so = tt
  branched-goes next_at (Ok z) so = so z refl

  pub begun-goes : (loop_no word body exit : ℕ) (first last step : Result ℤ Trap) → ((a b c : ℤ) → first ≡ Ok a → last ≡ Ok b → step ≡ Ok c → int_eq c (pos 0) ≡ false → IfGoes (started m loop_no word body exit a b c) P) → IfGoes (do_begun m loop_no word body exit first last step) P
  begun-goes loop_no word body exit (Err trap) last step so = tt
  begun-goes loop_no word body exit (Ok a) (Err trap) step so = tt
  begun-goes loop_no word body exit (Ok a) (Ok b) (Err trap) so = tt
  begun-goes loop_no word body exit (Ok a) (Ok b) (Ok c) so = by (int_eq c (pos 0)) refl
    where
      by : (is_zero : Bool) → int_eq c (pos 0) ≡ is_zero → IfGoes (do_begun m loop_no word body exit (Ok a) (Ok b) (Ok c)) P
      by true is = rw is tt
      by false is = rw is (so a b c refl refl refl is)

-- ---- where to

either-contained : (b : Bool) (x y : ℕ) → Contains (x ∷ y ∷ []) (if b then x else y)
either-contained true x y = (0, omega arith, refl)
either-contained false x y = (1, omega arith, refl)

one-contained : (x : ℕ) → Contains (x ∷ []) x
one-contained x = (0, omega arith, refl)

sign-contained : (neg equal pos' : ℕ) (z : ℤ) → Contains (neg ∷ equal ∷ pos' ∷ []) (by_sign neg equal pos' z)
sign-contained neg equal pos' (negsuc n) = (0, omega arith, refl)
sign-contained neg equal pos' (pos zero) = (1, omega arith, refl)
sign-contained neg equal pos' (pos (suc n)) = (2, omega arith, refl)

at_least_zero-le : (z : ℤ) (n : ℕ) → z ≤ℤ pos n → at_least_zero z ≤ n
at_least_zero-le (pos k) n le = omega (arith, ints, le)
at_least_zero-le (negsuc k) n le = omega arith

picked-le : (v : ℤ) (n : ℕ) → at_least_zero (picked v (pos n)) ≤ n
picked-le v n = by (int_le (pos 1) v) (int_le v (pos n)) refl refl
  where
    by : (low high : Bool) → int_le (pos 1) v ≡ low → int_le v (pos n) ≡ high → at_least_zero (if low && high then v -ℤ pos 1 else pos n) ≤ n
    by true true low high = at_least_zero-le (v -ℤ pos 1) n (omega (arith, ints))
    by true false low high = omega arith
    by false high low _ = omega arith

number-contained : (targets : List ℕ) (other : ℕ) (v : ℤ) → Contains (targets ++ other ∷ []) (by_number targets other (pos (length targets)) v)
number-contained targets other v =
    let le = picked-le v (length targets) in
    let all = length-append targets (other ∷ []) in
    Contains-get_or (targets ++ other ∷ []) (at_least_zero (picked v (pos (length targets)))) 0 (omega (arith, le, all))

-- an outcome that goes on goes to a successor of its executable
pub outcome-successor : (names : List NameInfo) (input : List ℤ) (m : Memory) (kind : ExecKind) → IfGoes (outcome names input m kind) (λ next new text. Contains (successors kind) next)
outcome-successor names input m (Assign target e next) = assigned-goes (λ to new text. Contains (next ∷ []) to) m next (m.taken + words_taken e) (place names m.store (slice_get input m.taken) target) (value names m.store (slice_get input m.taken) e) (λ word z at is. one-contained next)
outcome-successor names input m (Print items next) = printed-goes (λ to new text. Contains (next ∷ []) to) m next (line_of names m.store items) (λ text is. one-contained next)
outcome-successor names input m (Pass next) = one-contained next
outcome-successor names input m (Test cond if_true if_false) = branched-goes (λ to new text. Contains (if_true ∷ if_false ∷ []) to) m (λ z. if is_true z then if_true else if_false) (value names m.store None cond) (λ z is. either-contained (is_true z) if_true if_false)
outcome-successor names input m (Sign e neg equal pos') = branched-goes (λ to new text. Contains (neg ∷ equal ∷ pos' ∷ []) to) m (by_sign neg equal pos') (value names m.store None e) (λ z is. sign-contained neg equal pos' z)
outcome-successor names input m (Pick e targets other) = branched-goes (λ to new text. Contains (targets ++ other ∷ []) to) m (by_number targets other (pos (length targets))) (value names m.store None e) (λ z is. number-contained targets other z)
outcome-successor names input m (DoStart loop_no var first last step body exit) = begun-goes (λ to new text. Contains (body ∷ exit ∷ []) to) m loop_no (place_of names var) body exit (value names m.store None first) (value names m.store None last) (value names m.store None step) (λ a b c is_a is_b is_c some. either-contained (nat_lt 0 (trip_count a b c)) body exit)
outcome-successor names input m (DoNext loop_no var body exit) = either-contained (nat_lt 0 (slice_index m.counts loop_no - 1)) body exit
outcome-successor names input m End = tt
