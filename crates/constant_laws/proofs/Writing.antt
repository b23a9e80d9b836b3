-- What an executable leaves of a word.
use Rattle.std.proofs.Common.{◌≡◌, ℕ, ◌+◌, ◌<◌, ℤ, pos, Bool, true, false, ◌&&◌, cond, List, length, map, Option, Some, None, Result, Ok, refl, sym, ap, subst, ◌∙◌, inl, inr, ⊎_elim, arith}
use Rattle.std.specs.Prelude.{slice_set, is_some, unwrap_or}
use Rattle.std.proofs.lemmas.Bool.{and_parts}
use Rattle.op_table.specs.declared.Trap.{Trap}
use Rattle.f77_tree.specs.declared.expressions.Access.{Access}
use Rattle.f77_tree.specs.declared.expressions.Expr.{Expr}
use Rattle.f77_tree.specs.declared.programs.ExecKind.{ExecKind}
use Rattle.f77_tree.specs.declared.programs.ExecKind.TheVariants.{Assign, Print, Pass, Test, Sign, Pick, DoStart, DoNext, End}
use Rattle.f77_tree.specs.declared.programs.NameInfo.{NameInfo}
use Rattle.f77_tree.specs.declared.programs.Program.{Program}
use Rattle.f77_tree.specs.CanRun.{CanExecute}
use Rattle.f77_tree.specs.Execution.{Memory, outcome, next_word, words_taken, value_in}
use Rattle.f77_tree.specs.Known.{known}
use Rattle.f77_tree.specs.KnownWith.{known_word, known_with}
use Rattle.f77_tree.specs.Steps.{IfGoes, KeepsRest, Changes, IsMemoryOf}
use Rattle.f77_tree.specs.Touched.{AccessMayName, ExecMayChange}
use Rattle.f77_tree.specs.Value.{value, place, place_of, word_at, IsAccess}
use Rattle.f77_tree.proofs.Keeping.{get-set_same}
use Rattle.f77_tree.proofs.Outcomes.{goes, assigned-goes, begun-goes}
use Rattle.alias_classes.specs.Classes.{ClassTable, IsClasses, class_of_word, class_of_loop}
use Rattle.alias_classes.specs.Needs.{Hits, HitsAt, ExprNeeds, ExecNeeds}
use Rattle.const_prop.specs.declared.known.Known.{Known}
use Rattle.const_prop.specs.declared.known.Known.TheVariants.{One, Any}
use Rattle.alias_classes.specs.Writes.{ExecWritesOrCounts}
use Rattle.const_prop.specs.Closed.{written, is_sure, is_one_word}
use Rattle.const_prop.specs.Known.{AtMost, as_known}
use Rattle.const_prop.proofs.Counting.{one_word-same}
use Rattle.constant_laws.proofs.Passing.{ActedBy}

-- ---- what is at most one value

if_one : (b : Bool) (k : Known) (v : ℤ) → AtMost (cond b k Any) (One v) → (b ≡ true) × AtMost k (One v)
if_one true k v below = (refl, below)
if_one false k v below = absurd below

one-known : (o : Option ℤ) (v : ℤ) → AtMost (as_known o) (One v) → o ≡ Some v
one-known None v below = absurd below
one-known (Some z) v below = ap Some below

sure-word : (o : Option ℕ) → is_some o ≡ true → (w : ℕ) × (o ≡ Some w)
sure-word None s = let no' : false ≡ true = s in absurd cc
sure-word (Some w) s = (w, refl)

-- ---- one word is set

-- a value that is known is stored in this word
record IsSet (m : Memory) (word : ℕ) (given : Result ℤ Trap) (new : Memory) : Type 0 where
  z : ℤ
  given_is : given ≡ Ok z
  store : new.store ≡ slice_set m.store word z

ok-same : (r : Result ℤ Trap) (a b : ℤ) → r ≡ Ok a → r ≡ Ok b → a ≡ b
ok-same r a b is also = cc

set-word : (m new : Memory) (word : ℕ) (given : Result ℤ Trap) (v : ℤ) → word < length m.store → IsSet m word given new → given ≡ Ok v → word_at new.store word ≡ v
set-word m new word given v inside is told =
    let z_is : is.z ≡ v = ok-same given is.z v is.given_is told in
    ap (λ (s : List ℤ). word_at s word) is.store ∙ ap (λ (o : Option ℤ). unwrap_or o (pos 0)) (get-set_same m.store word is.z inside) ∙ z_is

-- an assignment sets the word of its target
record IsAssigned (m : Memory) (at : Result ℕ Trap) (given : Result ℤ Trap) (new : Memory) : Type 0 where
  word : ℕ
  at_is : at ≡ Ok word
  set : IsSet m word given new

module _ (p : Program) (c : ClassTable) (input : List ℤ) (classes : IsClasses p c)
    (rest : (m : Memory) (kind : ExecKind) → IfGoes (outcome p.names input m kind) (λ next new text. KeepsRest p.names input kind m new))
    (changes : (m : Memory) (kind : ExecKind) (word : ℕ) → Changes p.names input m kind word → ExecMayChange p.names kind word)
    (hits : (access : Access) (word : ℕ) → IsAccess p.names access → AccessMayName p.names access word → Hits c access (class_of_word c word)) where
  place_same : (var : ℕ) → place_of c.names var ≡ place_of p.names var
  place_same var = ap (λ (names : List NameInfo). place_of names var) classes.names

  -- the class of a word that is changed is written
  change-written : (m : Memory) (x : ExecKind) (word : ℕ) → CanExecute p x → Changes p.names input m x word → ExecWritesOrCounts c x (class_of_word c word)
  change-written m (Assign target e next) word can is = hits target word can.0 (changes m (Assign target e next) word is)
  change-written m (DoStart loop_no var first last step body exit) word can is = inl (ap (class_of_word c) (place_same var ∙ is))
  change-written m (DoNext loop_no var body exit) word can is = inl (ap (class_of_word c) (place_same var ∙ is))
  change-written m (Print items next) word can is = is
  change-written m (Pass next) word can is = is
  change-written m (Test e a b) word can is = is
  change-written m (Sign e a b d) word can is = is
  change-written m (Pick e targets other) word can is = is
  change-written m End word can is = is

  -- a word that isn't changed is kept
  pub unchanged : (m new : Memory) (x : ExecKind) (word : ℕ) → ActedBy p.names input m x new → (Changes p.names input m x word → ⊥) → word_at new.store word ≡ word_at m.store word
  unchanged m new x word acted same =
      ap (λ (o : Option ℤ). unwrap_or o (pos 0))
      ((goes (λ next new text. KeepsRest p.names input x m new) (outcome p.names input m x) acted.next new acted.text (rest m x) acted.is).store word same)

  pub unwritten : (m new : Memory) (x : ExecKind) (word : ℕ) → CanExecute p x → ActedBy p.names input m x new → (ExecWritesOrCounts c x (class_of_word c word) → ⊥) → word_at new.store word ≡ word_at m.store word
  unwritten m new x word can acted not_it = unchanged m new x word acted (λ is. not_it (change-written m x word can is))

  loop-apart : (loop_no word : ℕ) → class_of_loop c loop_no ≡ class_of_word c word → ⊥
  loop-apart loop_no word is = let most = classes.numbering.most word in omega (arith, is, most)

  module _ (m new : Memory) (size : IsMemoryOf p input m) (words : ℕ → Option ℤ) (word : ℕ) (v : ℤ) (inside : word < p.words) (one : is_one_word c (class_of_word c word) ≡ true) where
    in_store : word < length m.store
    in_store = let s = size.words in omega (arith, inside, s)

    -- the one value that is written is the word
    pub written-right : (x : ExecKind) → CanExecute p x → ActedBy p.names input m x new → ((next : Option ℤ) (e : Expr) → ((n : ℕ) → ExprNeeds c e n → ExecNeeds c x n) → (z : ℤ) → known_with p.names words e ≡ Some z → value p.names m.store next e ≡ Ok z)
        → ExecWritesOrCounts c x (class_of_word c word) → AtMost (written p.names c words x (class_of_word c word)) (One v) → word_at new.store word ≡ v
    written-right (Assign target e next) can acted told writes below =
        let parts = if_one (is_sure p.names target && is_one_word c (class_of_word c word)) (as_known (known_with p.names words e)) v below in
        let sure = sure-word (known_word p.names target.name (map known target.subs)) (and_parts (is_sure p.names target) (is_one_word c (class_of_word c word)) parts.0).0 in
        let given = told (next_word input m) e (λ n needs. inr needs) v (one-known (known_with p.names words e) v parts.1) in
        let set : IsAssigned m (place p.names m.store (next_word input m) target) (value p.names m.store (next_word input m) e) new =
        goes (λ next new text. IsAssigned m (place p.names m.store (next_word input m) target) (value p.names m.store (next_word input m) e) new) (outcome p.names input m (Assign target e next)) acted.next new acted.text
        (assigned-goes (λ next new text. IsAssigned m (place p.names m.store (next_word input m) target) (value p.names m.store (next_word input m) e) new) m next (m.taken + words_taken e) (place p.names m.store (next_word input m) target) (value p.names m.store (next_word input m) e)
        (λ word z at given. record { word = word; at_is = at; set = record { z = z; given_is = given; store = refl } }))
        acted.is in
        let by_known : (n : ℕ) → Hits c target n → class_of_word c sure.0 ≡ n = λ n h. subst (λ (o : Option ℕ). HitsAt c target.name o n) (ap (λ (names : List NameInfo). known_word names target.name (map known target.subs)) classes.names ∙ sure.1) h in
        let here = by_known (class_of_word c word) writes in
        let there = by_known (class_of_word c set.word) (hits target set.word can.0 (changes m (Assign target e next) set.word set.at_is)) in
        let same : word ≡ set.word = one_word-same c word set.word one (sym there ∙ here) in
        set-word m new word (value p.names m.store (next_word input m) e) v in_store (subst (λ w. IsSet m w (value p.names m.store (next_word input m) e) new) (sym same) set.set) given
    written-right (DoStart loop_no var first last step body exit) can acted told writes below =
        let parts = if_one (is_one_word c (class_of_word c word)) (as_known (known_with p.names words first)) v below in
        let given = told None first (λ n needs. inl (inl needs)) v (one-known (known_with p.names words first) v parts.1) in
        let set : IsSet m (place_of p.names var) (value_in p.names m first) new =
        goes (λ next new text. IsSet m (place_of p.names var) (value_in p.names m first) new) (outcome p.names input m (DoStart loop_no var first last step body exit)) acted.next new acted.text
        (begun-goes (λ next new text. IsSet m (place_of p.names var) (value_in p.names m first) new) m loop_no (place_of p.names var) body exit (value_in p.names m first) (value_in p.names m last) (value_in p.names m step)
        (λ a b d is_a is_b is_d some. record { z = a; given_is = is_a; store = refl }))
        acted.is in
        let is : class_of_word c (place_of p.names var) ≡ class_of_word c word = ⊎_elim
        (λ (h : class_of_word c (place_of c.names var) ≡ class_of_word c word). ap (class_of_word c) (sym (place_same var)) ∙ h)
        (λ (h : class_of_loop c loop_no ≡ class_of_word c word). absurd (loop-apart loop_no word h))
        writes in
        let same : word ≡ place_of p.names var = one_word-same c word (place_of p.names var) one is in
        set-word m new word (value_in p.names m first) v in_store (subst (λ w. IsSet m w (value_in p.names m first) new) (sym same) set) given
    written-right (DoNext loop_no var body exit) can acted told writes below = absurd below
    written-right (Print items next) can acted told writes below = absurd writes
    written-right (Pass next) can acted told writes below = absurd writes
    written-right (Test e a b) can acted told writes below = absurd writes
    written-right (Sign e a b d) can acted told writes below = absurd writes
    written-right (Pick e targets other) can acted told writes below = absurd writes
    written-right End can acted told writes below = absurd writes
