-- What an operation depends on, and what it changes: no more than belongs to the lines that it needs.
use Rattle.std.proofs.Common.{◌≡◌, ℕ, suc, ◌-◌, ℤ, pos, ◌+ℤ◌, Bool, true, false, if◌then◌else◌, List, [], ◌∷◌, length, Option, Some, None, Result, Ok, Err, slice_get, slice_index, slice_set, nat_lt, refl, sym, ap, ◌∙◌, subst}
use Rattle.std.specs.Prelude.{unwrap_or}
use Rattle.op_table.specs.declared.Trap.{Trap}
use Rattle.op_table.specs.Operators.{applied}
use Rattle.op_table.specs.Words.{wrapped}
use Rattle.f77_tree.specs.declared.programs.NameInfo.{NameInfo}
use Rattle.f77_tree.specs.Execution.{Memory, next_word}
use Rattle.f77_tree.specs.Value.{place_of, kind_of, read_as, word_at}
use Rattle.alias_classes.specs.Classes.{ClassTable, class_of_word, class_of_loop}
use Rattle.net_board.proofs.ListPlaces.{get_set_other, index_of, length_slice_set}
use Rattle.net_board.proofs.PassEffects.{AgreeOn, KeepsOthers}
use Rattle.op_board.specs.Operations.{Work, Load, Operate, Store, Take, Write, Begin, Advance, DecideTruth, DecideSign, DecideNumber, DecideTrips, DecideFirst}
use Rattle.op_board.specs.Effects.{Effect, gives, changes, is_place, word_at_place, read_word, loaded, stored_at, stored, begun, trips, advanced, result_given, taken_from, performed}
use Rattle.op_board.proofs.AlikeItems.{replaced_one_alike}

-- ---- words

-- the word that a load reads at the values of its operands, if there is one
abbrev pub loaded_word : List NameInfo → (name : ℕ) → List ℤ → Option ℕ
loaded_word names name [] = Some (place_of names name)
loaded_word names name (place ∷ more) = if is_place names name place then Some (word_at_place names name place) else None

-- the word that a store writes
abbrev pub stored_word : List NameInfo → (name : ℕ) → List ℤ → Option ℕ
stored_word names name [] = None
stored_word names name (z ∷ []) = Some (place_of names name)
stored_word names name (place ∷ z ∷ more) = if is_place names name place then Some (word_at_place names name place) else None

-- a word belongs to one of these lines
abbrev pub IsCovered : ClassTable → (needs : ℕ → Bool) → Option ℕ → Type 0
IsCovered c needs o = (word : ℕ) → o ≡ Some word → needs (class_of_word c word) ≡ true

-- all that the operation reads or changes at the values of its operands belongs to the lines
abbrev pub Covers : List NameInfo → ClassTable → (needs : ℕ → Bool) → Work → List ℤ → Type 0
Covers names c needs (Load name subs) args = IsCovered c needs (loaded_word names name args)
Covers names c needs (Operate op) args = Unit {0}
Covers names c needs (Store name subs) args = IsCovered c needs (stored_word names name args)
Covers names c needs Take args = needs 0 ≡ true
Covers names c needs (Write items) args = needs 0 ≡ true
Covers names c needs (Begin loop_no var) args = (needs (class_of_word c (place_of names var)) ≡ true) × (needs (class_of_loop c loop_no) ≡ true)
Covers names c needs (Advance loop_no var) args = (needs (class_of_word c (place_of names var)) ≡ true) × (needs (class_of_loop c loop_no) ≡ true)
Covers names c needs (DecideTrips loop_no) args = needs (class_of_loop c loop_no) ≡ true
Covers names c needs _ args = Unit {0}

-- two operations give one value, write one text and tell one edge, and agree then; or trap alike
abbrev pub EffectsAlike : ClassTable → (needs : ℕ → Bool) → Result Effect Trap → Result Effect Trap → Type 0
EffectsAlike c needs (Ok a) (Ok b) = (a.value ≡ b.value) × (a.text ≡ b.text) × (a.choice ≡ b.choice) × AgreeOn c needs a.memory b.memory
EffectsAlike c needs (Err trap) (Err other) = trap ≡ other
EffectsAlike c needs _ _ = ⊥

-- sizes stay, what doesn't belong to the lines stays, and nothing is written without the line of output
pub record IsEffectFramed (c : ClassTable) (needs : ℕ → Bool) (m : Memory) (effect : Effect) : Type 0 where
  pub words : length effect.memory.store ≡ length m.store
  pub counts : length effect.memory.counts ≡ length m.counts
  pub steps : length effect.memory.steps ≡ length m.steps
  pub keeps : KeepsOthers c needs m effect.memory
  pub silent : needs 0 ≡ false → effect.text ≡ []

abbrev pub IfPerformed : Result Effect Trap → (Effect → Type 0) → Type 0
IfPerformed (Ok effect) P = P effect
IfPerformed (Err trap) P = Unit {0}

module _ (names : List NameInfo) (input : List ℤ) (c : ClassTable) (needs : ℕ → Bool) where
  not_both : {P : Type 0} (n : ℕ) → needs n ≡ true → needs n ≡ false → P
  not_both n yes' no' = let e : true ≡ false = sym yes' ∙ no' in absurd cc

  -- ---- words

  same_read : (m n : Memory) (name word : ℕ) → AgreeOn c needs m n → needs (class_of_word c word) ≡ true → read_word names m.store name word ≡ read_word names n.store name word
  same_read m n name word agree needed = ap (λ o. read_as (kind_of names name) (unwrap_or o (pos 0))) (agree.store word needed)

  same_loaded : (m n : Memory) (name : ℕ) (args : List ℤ) → AgreeOn c needs m n → IsCovered c needs (loaded_word names name args) → loaded names m.store name args ≡ loaded names n.store name args
  same_loaded m n name [] agree covered = same_read m n name (place_of names name) agree (covered (place_of names name) refl)
  same_loaded m n name (place ∷ more) agree covered = by (is_place names name place) covered
    where
      by : (b : Bool) → IsCovered c needs (if b then Some (word_at_place names name place) else None) → (if b then read_word names m.store name (word_at_place names name place) else pos 0) ≡ (if b then read_word names n.store name (word_at_place names name place) else pos 0)
      by true covered = same_read m n name (word_at_place names name place) agree (covered (word_at_place names name place) refl)
      by false covered = refl

  agree_stored_at : (m n : Memory) (word : ℕ) (z : ℤ) → AgreeOn c needs m n → AgreeOn c needs (stored_at m word z) (stored_at n word z)
  agree_stored_at m n word z agree = record {
    store = λ other needed. replaced_one_alike m.store n.store word z z other (agree.store other needed) refl;
    counts = agree.counts;
    steps = agree.steps;
    taken = agree.taken;
  }

  agree_stored : (m n : Memory) (name : ℕ) (args : List ℤ) → AgreeOn c needs m n → AgreeOn c needs (stored names m name args) (stored names n name args)
  agree_stored m n name [] agree = agree
  agree_stored m n name (z ∷ []) agree = agree_stored_at m n (place_of names name) z agree
  agree_stored m n name (place ∷ z ∷ more) agree = by (is_place names name place)
    where
      by : (b : Bool) → AgreeOn c needs (if b then stored_at m (word_at_place names name place) z else m) (if b then stored_at n (word_at_place names name place) z else n)
      by true = agree_stored_at m n (word_at_place names name place) z agree
      by false = agree

  framed_same : (m : Memory) (effect : Effect) → effect.memory ≡ m → effect.text ≡ [] → IsEffectFramed c needs m effect
  framed_same m effect same none = record {
    words = ap (λ n. length n.store) same;
    counts = ap (λ n. length n.counts) same;
    steps = ap (λ n. length n.steps) same;
    keeps = record { store = λ word not_in. ap (λ n. slice_get n.store word) same; counts = λ k not_in. ap (λ n. slice_get n.counts k) same; steps = λ k not_in. ap (λ n. slice_get n.steps k) same; taken = λ not_in. ap (λ n. n.taken) same };
    silent = λ not_in. none;
  }

  framed_stored_at : (m : Memory) (word : ℕ) (z : ℤ) → needs (class_of_word c word) ≡ true → IsEffectFramed c needs m (changes (stored_at m word z))
  framed_stored_at m word z needed = record {
    words = length_slice_set m.store word z;
    counts = refl;
    steps = refl;
    keeps = record {
      store = λ other not_in. get_set_other m.store word other z (λ same. not_both (class_of_word c other) (subst (λ w. needs (class_of_word c w) ≡ true) same needed) not_in);
      counts = λ k not_in. refl;
      steps = λ k not_in. refl;
      taken = λ not_in. refl;
    };
    silent = λ not_in. refl;
  }

  framed_stored : (m : Memory) (name : ℕ) (args : List ℤ) → IsCovered c needs (stored_word names name args) → IsEffectFramed c needs m (changes (stored names m name args))
  framed_stored m name [] covered = framed_same m (changes m) refl refl
  framed_stored m name (z ∷ []) covered = framed_stored_at m (place_of names name) z (covered (place_of names name) refl)
  framed_stored m name (place ∷ z ∷ more) covered = by (is_place names name place) covered
    where
      by : (b : Bool) → IsCovered c needs (if b then Some (word_at_place names name place) else None) → IsEffectFramed c needs m (changes (if b then stored_at m (word_at_place names name place) z else m))
      by true covered = framed_stored_at m (word_at_place names name place) z (covered (word_at_place names name place) refl)
      by false covered = framed_same m (changes m) refl refl

  -- ---- DOs

  agree_begun : (m n : Memory) (loop_no var : ℕ) (args : List ℤ) → AgreeOn c needs m n → AgreeOn c needs (begun names m loop_no var args) (begun names n loop_no var args)
  agree_begun m n loop_no var [] agree = agree
  agree_begun m n loop_no var (a ∷ []) agree = agree
  agree_begun m n loop_no var (a ∷ b ∷ []) agree = agree
  agree_begun m n loop_no var (first ∷ last ∷ step ∷ more) agree = record {
    store = λ other needed. replaced_one_alike m.store n.store (place_of names var) first first other (agree.store other needed) refl;
    counts = λ k needed. replaced_one_alike m.counts n.counts loop_no (trips first last step) (trips first last step) k (agree.counts k needed) refl;
    steps = λ k needed. replaced_one_alike m.steps n.steps loop_no step step k (agree.steps k needed) refl;
    taken = agree.taken;
  }

  framed_loop : (m new : Memory) (loop_no var : ℕ) (z : ℤ) (count : ℕ) (steps : List ℤ) → needs (class_of_word c (place_of names var)) ≡ true → needs (class_of_loop c loop_no) ≡ true
      → new ≡ record { store = slice_set m.store (place_of names var) z; counts = slice_set m.counts loop_no count; steps = steps; taken = m.taken }
      → length steps ≡ length m.steps → ((k : ℕ) → (loop_no ≡ k → ⊥) → slice_get steps k ≡ slice_get m.steps k) → IsEffectFramed c needs m (changes new)
  framed_loop m new loop_no var z count steps word loop is long kept = subst (λ n. IsEffectFramed c needs m (changes n)) (sym is) (record {
    words = length_slice_set m.store (place_of names var) z;
    counts = length_slice_set m.counts loop_no count;
    steps = long;
    keeps = record {
      store = λ other not_in. get_set_other m.store (place_of names var) other z (λ same. not_both (class_of_word c other) (subst (λ w. needs (class_of_word c w) ≡ true) same word) not_in);
      counts = λ k not_in. get_set_other m.counts loop_no k count (λ same. not_both (class_of_loop c k) (subst (λ n. needs (class_of_loop c n) ≡ true) same loop) not_in);
      steps = λ k not_in. kept k (λ same. not_both (class_of_loop c k) (subst (λ n. needs (class_of_loop c n) ≡ true) same loop) not_in);
      taken = λ not_in. refl;
    };
    silent = λ not_in. refl;
  })

  framed_begun : (m : Memory) (loop_no var : ℕ) (args : List ℤ) → needs (class_of_word c (place_of names var)) ≡ true → needs (class_of_loop c loop_no) ≡ true → IsEffectFramed c needs m (changes (begun names m loop_no var args))
  framed_begun m loop_no var [] word loop = framed_same m (changes m) refl refl
  framed_begun m loop_no var (a ∷ []) word loop = framed_same m (changes m) refl refl
  framed_begun m loop_no var (a ∷ b ∷ []) word loop = framed_same m (changes m) refl refl
  framed_begun m loop_no var (first ∷ last ∷ step ∷ more) word loop =
      framed_loop m (begun names m loop_no var (first ∷ last ∷ step ∷ more)) loop_no var first (trips first last step) (slice_set m.steps loop_no step) word loop refl (length_slice_set m.steps loop_no step) (λ k other. get_set_other m.steps loop_no k step other)

  advanced_word : Option ℤ → Option ℤ → ℤ
  advanced_word word step = wrapped (unwrap_or word (pos 0) +ℤ unwrap_or step (pos 0))

  agree_advanced : (m n : Memory) (loop_no var : ℕ) → needs (class_of_word c (place_of names var)) ≡ true → needs (class_of_loop c loop_no) ≡ true → AgreeOn c needs m n → AgreeOn c needs (advanced names m loop_no var) (advanced names n loop_no var)
  unfolding advanced_word
  agree_advanced m n loop_no var word loop agree = record {
    store = λ other needed. replaced_one_alike m.store n.store (place_of names var) (wrapped (word_at m.store (place_of names var) +ℤ word_at m.steps loop_no)) (wrapped (word_at n.store (place_of names var) +ℤ word_at n.steps loop_no)) other (agree.store other needed)
        (ap (λ o. advanced_word o (slice_get m.steps loop_no)) (agree.store (place_of names var) word) ∙ ap (λ o. advanced_word (slice_get n.store (place_of names var)) o) (agree.steps loop_no loop));
    counts = λ k needed. replaced_one_alike m.counts n.counts loop_no (slice_index m.counts loop_no - 1) (slice_index n.counts loop_no - 1) k (agree.counts k needed) (ap (λ count. count - 1) (index_of m.counts n.counts loop_no (agree.counts loop_no loop)));
    steps = agree.steps;
    taken = agree.taken;
  }

  framed_advanced : (m : Memory) (loop_no var : ℕ) → needs (class_of_word c (place_of names var)) ≡ true → needs (class_of_loop c loop_no) ≡ true → IsEffectFramed c needs m (changes (advanced names m loop_no var))
  framed_advanced m loop_no var word loop =
      framed_loop m (advanced names m loop_no var) loop_no var (wrapped (word_at m.store (place_of names var) +ℤ word_at m.steps loop_no)) (slice_index m.counts loop_no - 1) m.steps word loop refl refl (λ k other. refl)

  -- ---- the data

  taken_alike : (m n : Memory) (o : Option ℤ) → AgreeOn c needs m n → EffectsAlike c needs (taken_from m o) (taken_from n o)
  taken_alike m n None agree = refl
  taken_alike m n (Some z) agree = (refl, refl, refl, record { store = agree.store; counts = agree.counts; steps = agree.steps; taken = λ needed. ap suc (agree.taken needed) })

  taken_framed : (m : Memory) (o : Option ℤ) → needs 0 ≡ true → IfPerformed (taken_from m o) (IsEffectFramed c needs m)
  taken_framed m None needed = tt
  taken_framed m (Some z) needed = record {
    words = refl;
    counts = refl;
    steps = refl;
    keeps = record { store = λ word not_in. refl; counts = λ k not_in. refl; steps = λ k not_in. refl; taken = λ not_in. not_both 0 needed not_in };
    silent = λ not_in. refl;
  }

  -- ---- operators

  given_alike : (m n : Memory) (given : Result ℤ Trap) → AgreeOn c needs m n → EffectsAlike c needs (result_given m given) (result_given n given)
  given_alike m n (Err trap) agree = refl
  given_alike m n (Ok z) agree = (refl, refl, refl, agree)

  given_framed : (m : Memory) (given : Result ℤ Trap) → IfPerformed (result_given m given) (IsEffectFramed c needs m)
  given_framed m (Err trap) = tt
  given_framed m (Ok z) = framed_same m (gives m z) refl refl

  -- ---- all operations

  pub performed_alike : (m n : Memory) (work : Work) (args : List ℤ) → Covers names c needs work args → AgreeOn c needs m n → EffectsAlike c needs (performed names input m work args) (performed names input n work args)
  performed_alike m n (Load name subs) args covers agree = (ap (λ z. Some z) (same_loaded m n name args agree covers), refl, refl, agree)
  performed_alike m n (Operate op) args covers agree = given_alike m n (applied op args) agree
  performed_alike m n (Store name subs) args covers agree = (refl, refl, refl, agree_stored m n name args agree)
  performed_alike m n Take args covers agree = subst (λ k. EffectsAlike c needs (taken_from m (next_word input m)) (taken_from n (slice_get input k))) (agree.taken covers) (taken_alike m n (next_word input m) agree)
  performed_alike m n (Write items) args covers agree = (refl, refl, refl, agree)
  performed_alike m n (Begin loop_no var) args covers agree = (refl, refl, refl, agree_begun m n loop_no var args agree)
  performed_alike m n (Advance loop_no var) args covers agree = (refl, refl, refl, agree_advanced m n loop_no var covers.0 covers.1 agree)
  performed_alike m n DecideTruth args covers agree = (refl, refl, refl, agree)
  performed_alike m n DecideSign args covers agree = (refl, refl, refl, agree)
  performed_alike m n (DecideNumber count) args covers agree = (refl, refl, refl, agree)
  performed_alike m n (DecideTrips loop_no) args covers agree = (refl, refl, ap (λ k. if nat_lt 0 k then 0 else 1) (index_of m.counts n.counts loop_no (agree.counts loop_no covers)), agree)
  performed_alike m n DecideFirst args covers agree = (refl, refl, refl, agree)

  pub performed_framed : (m : Memory) (work : Work) (args : List ℤ) → Covers names c needs work args → IfPerformed (performed names input m work args) (IsEffectFramed c needs m)
  performed_framed m (Load name subs) args covers = framed_same m (gives m (loaded names m.store name args)) refl refl
  performed_framed m (Operate op) args covers = given_framed m (applied op args)
  performed_framed m (Store name subs) args covers = framed_stored m name args covers
  performed_framed m Take args covers = taken_framed m (next_word input m) covers
  performed_framed m (Write items) args covers = record {
    words = refl;
    counts = refl;
    steps = refl;
    keeps = record { store = λ word not_in. refl; counts = λ k not_in. refl; steps = λ k not_in. refl; taken = λ not_in. refl };
    silent = λ not_in. not_both 0 covers not_in;
  }
  performed_framed m (Begin loop_no var) args covers = framed_begun m loop_no var args covers.0 covers.1
  performed_framed m (Advance loop_no var) args covers = framed_advanced m loop_no var covers.0 covers.1
  performed_framed m DecideTruth args covers = framed_same m _ refl refl
  performed_framed m DecideSign args covers = framed_same m _ refl refl
  performed_framed m (DecideNumber count) args covers = framed_same m _ refl refl
  performed_framed m (DecideTrips loop_no) args covers = framed_same m _ refl refl
  performed_framed m DecideFirst args covers = framed_same m _ refl refl
