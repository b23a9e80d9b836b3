-- A branch takes an out-edge that its known selector allows.
use Rattle.std.proofs.Common.{◌≡◌, ℕ, ℤ, pos, Bool, true, false, cond, List, [], length, Option, Some, None, Result, Ok, refl, sym, ap, ◌∙◌, ⊎_elim}
use Rattle.std.proofs.lemmas.Bool.{cases_Bool, cond-true, cond-false}
use Rattle.op_table.specs.declared.Trap.{Trap}
use Rattle.op_table.specs.Operators.{which_of_three, picked}
use Rattle.op_table.specs.Trips.{at_least_zero}
use Rattle.op_table.specs.Words.{is_true}
use Rattle.f77_tree.specs.declared.expressions.Expr.{Expr}
use Rattle.f77_tree.specs.declared.programs.ExecKind.{ExecKind}
use Rattle.f77_tree.specs.declared.programs.ExecKind.TheVariants as exec
use Rattle.f77_tree.specs.declared.programs.NameInfo.{NameInfo}
use Rattle.f77_tree.specs.declared.programs.Program.{Program}
use Rattle.f77_tree.specs.Execution.{Memory, value_in}
use Rattle.f77_tree.specs.KnownWith.{known_with, AreRight}
use Rattle.f77_tree.specs.Value.{value, word_at, and_then}
use Rattle.alias_classes.specs.Classes.{ClassTable, class_of_word}
use Rattle.alias_classes.specs.Needs.{ExprNeeds}
use Rattle.cfg_build.specs.declared.pieces.PieceKind.{PieceKind}
use Rattle.cfg_build.specs.declared.pieces.PieceKind.TheVariants.{Start, Act, Pass, Branch, Join, Hold, End}
use Rattle.cfg_build.specs.Passes.{Along, branched, choice, pass_of}
use Rattle.dep_routing.specs.Touches.{BranchNeeds, KindNeeds}
use Rattle.const_prop.specs.declared.known.Known.TheVariants.{One, Any}
use Rattle.const_prop.specs.Closed.{Allows, decided, is_switch, selected}
use Rattle.constant_laws.specs.Facts.{ValuesAreRight}
use Rattle.const_prop.specs.Known.{as_index}
use Rattle.const_prop.specs.Live.{IsKnownPlace, IsSelected, IsKnownOut}
use Rattle.const_prop.proofs.Foreseen.{known_with-more}

-- ---- what is known of the words of some classes

module _ (names : List NameInfo) (c : ClassTable) (same : c.names ≡ names) (words : ℕ → Option ℤ) (store : List ℤ) (test : ℕ → Bool) (right : ValuesAreRight) (held : (word : ℕ) (z : ℤ) → test (class_of_word c word) ≡ true → words word ≡ Some z → word_at store word ≡ z) where
  -- what is known of these
  some_words : ℕ → Option ℤ
  some_words word = cond (test (class_of_word c word)) (words word) None

  are_right : AreRight some_words store
  unfolding some_words
  are_right word z is = ⊎_elim
      (λ (yes' : test (class_of_word c word) ≡ true). held word z yes' (sym (cond-true (test (class_of_word c word)) (words word) None yes') ∙ is))
      (λ (no' : test (class_of_word c word) ≡ false). let clash : None ≡ Some z = sym (cond-false (test (class_of_word c word)) (words word) None no') ∙ is in absurd cc)
      (cases_Bool (test (class_of_word c word)))

  -- an expression that needs no other classes has the known value
  pub needed_value : (next : Option ℤ) (e : Expr) → ((word : ℕ) (z : ℤ) → ExprNeeds c e (class_of_word c word) → words word ≡ Some z → test (class_of_word c word) ≡ true) → (z : ℤ) → known_with names words e ≡ Some z → value names store next e ≡ Ok z
  unfolding some_words
  needed_value next e tested z is =
      right names some_words store next e z are_right
      (known_with-more names c same words some_words e (λ word z needs told. cond-true (test (class_of_word c word)) (words word) None (tested word z needs told) ∙ told) z is)

-- ---- branches

ok-same : (r : Result ℕ Trap) (a b : ℕ) → r ≡ Ok a → r ≡ Ok b → a ≡ b
ok-same r a b is also = cc

index_allows : (g : ℤ → ℕ) (i : ℕ) (o : Option ℤ) (r : Result ℤ Trap) → ((z : ℤ) → o ≡ Some z → r ≡ Ok z) → and_then (λ z. Ok (g z)) r ≡ Ok i → Allows (as_index g o) i
index_allows g i None r told chosen = tt
index_allows g i (Some z) r told chosen =
    let is : r ≡ Ok z = told z refl in
    ap pos (ok-same (and_then (λ z. Ok (g z)) r) (g z) i (ap (and_then (λ z. Ok (g z))) is) chosen)

pub selected_allows : (names : List NameInfo) (c : ClassTable) (words : ℕ → Option ℤ) (m : Memory) (x : ExecKind) (i : ℕ) → ((e : Expr) → ((n : ℕ) → ExprNeeds c e n → BranchNeeds c x n) → (z : ℤ) → known_with names words e ≡ Some z → value_in names m e ≡ Ok z) → choice names m x ≡ Ok i → Allows (selected names words x) i
selected_allows names c words m (exec.Test e a b) i told chosen = index_allows (λ z. cond (is_true z) 0 1) i (known_with names words e) (value_in names m e) (told e (λ n needs. needs)) chosen
selected_allows names c words m (exec.Sign e a b d) i told chosen = index_allows (λ z. at_least_zero (which_of_three z)) i (known_with names words e) (value_in names m e) (told e (λ n needs. needs)) chosen
selected_allows names c words m (exec.Pick e targets other) i told chosen = index_allows (λ z. at_least_zero (picked z (pos (length targets)))) i (known_with names words e) (value_in names m e) (told e (λ n needs. needs)) chosen
selected_allows names c words m (exec.Assign target e next) i told chosen = tt
selected_allows names c words m (exec.Print items next) i told chosen = tt
selected_allows names c words m (exec.Pass next) i told chosen = tt
selected_allows names c words m (exec.DoStart loop_no var first last step body exit) i told chosen = tt
selected_allows names c words m (exec.DoNext loop_no var body exit) i told chosen = tt
selected_allows names c words m exec.End i told chosen = tt

-- ---- known selectors

-- one known place is that of a known value
place_of_index : (place : ℤ → ℕ) (o : Option ℤ) (v : ℤ) → as_index place o ≡ One v → IsKnownPlace place o v
place_of_index place None v is = let clash : Any ≡ One v = is in absurd cc
place_of_index place (Some z) v is = let same : pos (place z) ≡ v = cc in record { value = z; is_known = refl; is = sym same }

not_any : (v : ℤ) → Any ≡ One v → ⊥
not_any v is = absurd cc

pub selected_place : (names : List NameInfo) (words : ℕ → Option ℤ) (x : ExecKind) (v : ℤ) → selected names words x ≡ One v → IsSelected names words x v
selected_place names words (exec.Test e a b) v is = place_of_index (λ z. cond (is_true z) 0 1) (known_with names words e) v is
selected_place names words (exec.Sign e a b d) v is = place_of_index (λ z. at_least_zero (which_of_three z)) (known_with names words e) v is
selected_place names words (exec.Pick e targets other) v is = place_of_index (λ z. at_least_zero (picked z (pos (length targets)))) (known_with names words e) v is
selected_place names words (exec.Assign target e next) v is = not_any v is
selected_place names words (exec.Print items next) v is = not_any v is
selected_place names words (exec.Pass next) v is = not_any v is
selected_place names words (exec.DoStart loop_no var first last step body exit) v is = not_any v is
selected_place names words (exec.DoNext loop_no var body exit) v is = not_any v is
selected_place names words exec.End v is = not_any v is

-- what is decided at a branch or a hold is known
pub decided_out : (names : List NameInfo) (words : ℕ → Option ℤ) (k : PieceKind) (x : ExecKind) (v : ℤ) → is_switch k ≡ true → decided names words k x ≡ One v → IsKnownOut names words k x v
decided_out names words Branch x v s is = selected_place names words x v is
decided_out names words Hold x v s is = let same : pos 0 ≡ v = cc in sym same
decided_out names words Start x v s is = absurd cc
decided_out names words Act x v s is = absurd cc
decided_out names words Pass x v s is = absurd cc
decided_out names words Join x v s is = absurd cc
decided_out names words End x v s is = absurd cc

place_chosen : (place : ℤ → ℕ) (o : Option ℤ) (v : ℤ) (r : Result ℤ Trap) → ((z : ℤ) → o ≡ Some z → r ≡ Ok z) → IsKnownPlace place o v → and_then (λ z. Ok (place z)) r ≡ Ok (at_least_zero v)
place_chosen place o v r told known = ap (and_then (λ z. Ok (place z))) (told known.value known.is_known) ∙ ap (λ w. Ok (at_least_zero w)) (sym known.is)

selected_chosen : (names : List NameInfo) (c : ClassTable) (words : ℕ → Option ℤ) (m : Memory) (x : ExecKind) (v : ℤ) → ((e : Expr) → ((n : ℕ) → ExprNeeds c e n → BranchNeeds c x n) → (z : ℤ) → known_with names words e ≡ Some z → value_in names m e ≡ Ok z) → IsSelected names words x v → choice names m x ≡ Ok (at_least_zero v)
selected_chosen names c words m (exec.Test e a b) v told is = place_chosen (λ z. cond (is_true z) 0 1) (known_with names words e) v (value_in names m e) (told e (λ n needs. needs)) is
selected_chosen names c words m (exec.Sign e a b d) v told is = place_chosen (λ z. at_least_zero (which_of_three z)) (known_with names words e) v (value_in names m e) (told e (λ n needs. needs)) is
selected_chosen names c words m (exec.Pick e targets other) v told is = place_chosen (λ z. at_least_zero (picked z (pos (length targets)))) (known_with names words e) v (value_in names m e) (told e (λ n needs. needs)) is
selected_chosen names c words m (exec.Assign target e next) v told is = absurd is
selected_chosen names c words m (exec.Print items next) v told is = absurd is
selected_chosen names c words m (exec.Pass next) v told is = absurd is
selected_chosen names c words m (exec.DoStart loop_no var first last step body exit) v told is = absurd is
selected_chosen names c words m (exec.DoNext loop_no var body exit) v told is = absurd is
selected_chosen names c words m exec.End v told is = absurd is

-- a piece whose out-edge is known goes along it, and does nothing else
pub known_out_goes : (p : Program) (input : List ℤ) (c : ClassTable) (words : ℕ → Option ℤ) (m : Memory) (outs : ℕ → ℕ) (k : PieceKind) (x : ExecKind) (v : ℤ) → ((e : Expr) → ((n : ℕ) → ExprNeeds c e n → KindNeeds c k x n) → (z : ℤ) → known_with p.names words e ≡ Some z → value_in p.names m e ≡ Ok z) → IsKnownOut p.names words k x v → pass_of p input m outs k x ≡ Along (outs (at_least_zero v)) m []
known_out_goes p input c words m outs Branch x v told is = ap (branched m outs) (selected_chosen p.names c words m x v told is)
known_out_goes p input c words m outs Hold x v told is = ap (λ w. Along (outs (at_least_zero w)) m []) (sym is)
known_out_goes p input c words m outs Start x v told is = absurd is
known_out_goes p input c words m outs Act x v told is = absurd is
known_out_goes p input c words m outs Pass x v told is = absurd is
known_out_goes p input c words m outs Join x v told is = absurd is
known_out_goes p input c words m outs End x v told is = absurd is
