-- Executables of a unit and of its copy do the same.
use Rattle.std.proofs.Common.{◌≡◌, ◌⊎◌, inl, inr, ℕ, zero, suc, ◌+◌, ◌-◌, ◌<◌, ◌≤◌, ℤ, pos, negsuc, ◌+ℤ◌, ◌-ℤ◌, ◌<ℤ◌, ◌≤ℤ◌, Bool, true, false, not, ◌&&◌, if◌then◌else◌, List, [], ◌∷◌, ◌++◌, length, map, flat_map, Contains, Option, Some, None, Result, Ok, Err, slice_get, slice_index, slice_set, unwrap_or, get_or-set_same, get_or-set_other, refl, sym, ap, subst, ◌∙◌, arith}
use Rattle.std.specs.Prelude.{nat_lt, int_le}
use Rattle.std.specs.List.{list_all}
use Rattle.std.specs.Option.{is_some}
use Rattle.std.specs.Ordering.{int_eq}
use Rattle.std.proofs.lemmas.Bool.{and_from, and_parts, cases_eq}
use Rattle.std.proofs.lemmas.Bool.Decides.{nat_tests}
use Rattle.std.proofs.lemmas.Int.{ints}
use Rattle.std.proofs.lemmas.List.Elements.{Contains-append_left, Contains-append_right}
use Rattle.op_table.specs.declared.Op.TheVariants.{Truth as Truth_of}
use Rattle.op_table.specs.declared.Trap.{Trap}
use Rattle.op_table.specs.declared.Trap.TheVariants.{Step as NoStep}
use Rattle.op_table.specs.Operators.{picked, which_of_three}
use Rattle.op_table.specs.Trips.{at_least_zero, trip_count}
use Rattle.op_table.specs.Words.{is_true, wrapped}
use Rattle.f77_tree.specs.declared.declarations.Dim.{Dim}
use Rattle.f77_tree.specs.declared.declarations.Kind.{Kind}
use Rattle.f77_tree.specs.declared.declarations.Kind.TheVariants.{Integer, Logical}
use Rattle.f77_tree.specs.declared.expressions.Expr.TheVariants.{Input}
use Rattle.f77_tree.specs.declared.programs.ExecKind.TheVariants.{Assign as Assigned, Print as Printed, Test, Sign, Pick, DoStart, DoNext}
use Rattle.f77_tree.specs.declared.programs.NameInfo.{NameInfo}
use Rattle.f77_tree.specs.declared.statements.RawExpr.{RawExpr}
use Rattle.f77_tree.specs.declared.statements.RawExpr.TheVariants.{Int, Truth, Named, Call', Apply'}
use Rattle.f77_tree.specs.declared.statements.RawItem.{RawItem}
use Rattle.f77_tree.specs.declared.statements.Stmt.TheVariants.{Assign, Do}
use Rattle.f77_tree.specs.Declarations.{index_of}
use Rattle.f77_tree.specs.Execution.{Memory, Stops, assigned, branched, by_number, by_sign, do_begun, do_incremented, next_word, outcome, printed, started, value_in, words_taken}
use Rattle.f77_tree.specs.Kinds.{taken_as}
use Rattle.f77_tree.specs.Line.{line_of}
use Rattle.f77_tree.specs.Value.{place, place_of, size_of, value, word_at}
use Rattle.f77_tree.proofs.ExpressionLemmas.{value-Apply}
use Rattle.f77_tree.proofs.Keeping.{get-set_other, get-set_same}
use Rattle.layout_rules.specs.Appearances.{names_in, names_in_row, names_in_item, names_if_any}
use Rattle.layout_rules.specs.Executables.{kind_or_integer}
use Rattle.layout_rules.specs.Resolved.{access_of, resolved, resolved_item, resolved_step}
use Rattle.layout_rules.specs.Types.{dims_named, is_array_in, is_item, is_kind, is_kind_of_target, is_of_kind, is_step, is_target, is_variable, is_well_kinded, kind_in, kind_named}
use Rattle.copied_values.specs.ChangedTables.{AreHeld, AreSameElement, target_name}
use Rattle.program_units.specs.Copies.{Change, changed, changed_item, changed_step}
use Rattle.copied_values.specs.SideBySide.{AreSideBySide, AreTied, GoAlike, HoldAlike, IsPairing, with_pair}
use Rattle.copied_values.proofs.ChangedValues.{array-named, kinds}
use Rattle.copied_values.proofs.CopiedLines.{lines, takes-none}
use Rattle.copied_values.proofs.CopiedValues.{kind-some, places, steps, values}

-- ---- one word of each list is set

word-set_same : (store : List ℤ) (k : ℕ) (z : ℤ) → k < length store → word_at (slice_set store k z) k ≡ z
word-set_same store k z lt = ap (λ o. unwrap_or o (pos 0)) (get-set_same store k z lt)

word-set_other : (store : List ℤ) (k word : ℕ) (z : ℤ) → (k ≡ word → ⊥) → word_at (slice_set store k z) word ≡ word_at store word
word-set_other store k word z differ = ap (λ o. unwrap_or o (pos 0)) (get-set_other store k word z differ)

module _ (P : ℕ → ℕ → Type 0) (pairing : IsPairing P) (v w : ℕ) (pair : P v w) where
  words-set : (a b : List ℤ) (z : ℤ) → v < length a → w < length b → (x y : ℕ) → P x y → (v ≡ x) ⊎ (word_at a x ≡ word_at b y) → word_at (slice_set a v z) x ≡ word_at (slice_set b w z) y
  words-set a b z here there x y paired either = by (cases_eq v x) either
    where
      same : v ≡ x → word_at (slice_set a v z) x ≡ word_at (slice_set b w z) y
      same is =
          ap (word_at (slice_set a v z)) (sym is) ∙ word-set_same a v z here ∙ sym (word-set_same b w z there) ∙ ap (word_at (slice_set b w z)) (pairing.there v w x y pair paired is)

      by : (v ≡ x) ⊎ (v ≡ x → ⊥) → (v ≡ x) ⊎ (word_at a x ≡ word_at b y) → word_at (slice_set a v z) x ≡ word_at (slice_set b w z) y
      by (inl is) other = same is
      by (inr differ) (inl is) = same is
      by (inr differ) (inr before) = word-set_other a v x z differ ∙ before ∙ sym (word-set_other b w y z (λ is. differ (pairing.back v w x y pair paired is)))

  counts-set : (a b : List ℕ) (k : ℕ) → v < length a → w < length b → (x y : ℕ) → P x y → (v ≡ x) ⊎ (slice_index a x ≡ slice_index b y) → slice_index (slice_set a v k) x ≡ slice_index (slice_set b w k) y
  counts-set a b k here there x y paired either = by (cases_eq v x) either
    where
      same : v ≡ x → slice_index (slice_set a v k) x ≡ slice_index (slice_set b w k) y
      same is =
          ap (slice_index (slice_set a v k)) (sym is) ∙ get_or-set_same a v k 0 here ∙ sym (get_or-set_same b w k 0 there) ∙ ap (slice_index (slice_set b w k)) (pairing.there v w x y pair paired is)

      by : (v ≡ x) ⊎ (v ≡ x → ⊥) → (v ≡ x) ⊎ (slice_index a x ≡ slice_index b y) → slice_index (slice_set a v k) x ≡ slice_index (slice_set b w k) y
      by (inl is) other = same is
      by (inr differ) (inl is) = same is
      by (inr differ) (inr before) = get_or-set_other a v x k 0 (λ is. differ (sym is)) ∙ before ∙ sym (get_or-set_other b w y k 0 (λ is. differ (pairing.back v w x y pair paired (sym is))))

-- ---- numbers of branches

three : (z : ℤ) → at_least_zero (which_of_three z) < 3
three (negsuc n) = omega arith
three (pos zero) = omega arith
three (pos (suc n)) = omega arith

number-at : (z : ℤ) (n : ℕ) → z ≤ℤ pos n → at_least_zero z ≤ n
number-at (pos k) n le = omega (arith, ints, le)
number-at (negsuc k) n le = omega arith

picked-within : (z : ℤ) (n : ℕ) → at_least_zero (picked z (pos n)) ≤ n
picked-within z n = by (int_le (pos 1) z) (int_le z (pos n)) refl refl
  where
    by : (p q : Bool) → int_le (pos 1) z ≡ p → int_le z (pos n) ≡ q → at_least_zero (if p && q then z -ℤ pos 1 else pos n) ≤ n
    by true true f g = number-at (z -ℤ pos 1) n (omega (arith, ints))
    by true false f g = omega arith
    by false q f g = omega arith

module _ (R L D N : ℕ → ℕ → Type 0) (names others : List NameInfo) (c : Change) (checked : Bool) (input : List ℤ) (m n : Memory) (is : AreSideBySide R L D names others c m n) where
  -- ---- names

  left : (xs ys : List (List ℕ)) → AreTied R names others c (xs ++ ys) → AreTied R names others c xs
  left xs ys tied = record { known = λ x at. tied.known x (Contains-append_left xs ys x at); paired = λ x at. tied.paired x (Contains-append_left xs ys x at) }

  right : (xs ys : List (List ℕ)) → AreTied R names others c (xs ++ ys) → AreTied R names others c ys
  right xs ys tied = record { known = λ x at. tied.known x (Contains-append_right xs ys x at); paired = λ x at. tied.paired x (Contains-append_right xs ys x at) }

  held : (xs : List (List ℕ)) → AreTied R names others c xs → AreHeld names others m.store n.store c xs
  held xs tied x at offset inside = is.alike.store (place_of names (index_of names x) + offset) (place_of others (index_of others (c.name x)) + offset) (tied.paired x at offset inside)

  value-same : (next : Option ℤ) (e : RawExpr) → AreTied R names others c (names_in c.arrays e) → is_some (kind_in names e) ≡ true → value others n.store next (resolved others checked (changed c e)) ≡ value names m.store next (resolved names checked e)
  value-same next e tied some = values names others is.words is.other_words m.store n.store c checked is.tables is.placed is.other_placed next e tied.known (held (names_in c.arrays e) tied) some

  place-same : (next : Option ℤ) (e : RawExpr) → AreTied R names others c (names_in c.arrays e) → is_target names e ≡ true → AreSameElement names others (target_name e) (c.name (target_name e)) (place names m.store next (access_of names checked e)) (place others n.store next (access_of others checked (changed c e)))
  place-same next e tied target = places names others is.words is.other_words m.store n.store c checked is.tables is.placed is.other_placed next e tied.known (held (names_in c.arrays e) tied) target

  next-same : next_word input n ≡ next_word input m
  next-same = ap (slice_get input) (sym is.alike.taken)

  -- ---- what is set

  -- the word of a variable is one that is paired
  word-paired : (x : List ℕ) (xs : List (List ℕ)) → AreTied R names others c xs → Contains xs x → (r s : ℕ) (offset : ℕ) → pos offset <ℤ size_of (dims_named names x) → r ≡ place_of names (index_of names x) + offset → s ≡ place_of others (index_of others (c.name x)) + offset → R r s
  word-paired x xs tied at r s offset inside here there = subst (λ (k : ℕ). R k s) (sym here) (subst (λ (k : ℕ). R (place_of names (index_of names x) + offset) k) (sym there) (tied.paired x at offset inside))

  -- a word is set in both stores, and data is taken
  set-alike : (v w : ℕ) → R v w → (z : ℤ) (taken taken' : ℕ) → taken ≡ taken' → HoldAlike R L (record m { store = slice_set m.store v z; taken = taken }) (record n { store = slice_set n.store w z; taken = taken' })
  set-alike v w pair z taken taken' same =
      let room = is.room.words v w pair in
      record {
        store = λ x y paired. words-set R is.words_paired v w pair m.store n.store z room.0 room.1 x y paired (inr (is.alike.store x y paired));
        counts = is.alike.counts;
        steps = is.alike.steps;
        taken = same;
      }

  assigned-alike : (x : List ℕ) (xs : List (List ℕ)) → AreTied R names others c xs → Contains xs x → (next next' taken taken' : ℕ) → N next next' → taken ≡ taken' → (r s : Result ℕ Trap) (given other : Result ℤ Trap) → AreSameElement names others x (c.name x) r s → other ≡ given
      → GoAlike R L N (assigned m next taken r given) (assigned n next' taken' s other)
  assigned-alike x xs tied at next next' taken taken' follows same (Err trap) (Err trap') given other element equal = element
  assigned-alike x xs tied at next next' taken taken' follows same (Err trap) (Ok w) given other element equal = absurd element
  assigned-alike x xs tied at next next' taken taken' follows same (Ok v) (Err trap) given other element equal = absurd element
  assigned-alike x xs tied at next next' taken taken' follows same (Ok v) (Ok w) given other element equal = subst (λ (r : Result ℤ Trap). GoAlike R L N (assigned m next taken (Ok v) given) (assigned n next' taken' (Ok w) r)) (sym equal) (by given)
    where
      by : (r : Result ℤ Trap) → GoAlike R L N (assigned m next taken (Ok v) r) (assigned n next' taken' (Ok w) r)
      by (Err trap) = refl
      by (Ok z) = (follows, refl, set-alike v w (word-paired x xs tied at v w element.offset element.inside element.here element.there) z taken taken' same)

  branched-alike : (f g : ℤ → ℕ) → ((z : ℤ) → N (f z) (g z)) → (given other : Result ℤ Trap) → other ≡ given → GoAlike R L N (branched m f given) (branched n g other)
  branched-alike f g follows given other equal = subst (λ (r : Result ℤ Trap). GoAlike R L N (branched m f given) (branched n g r)) (sym equal) (by given)
    where
      by : (r : Result ℤ Trap) → GoAlike R L N (branched m f r) (branched n g r)
      by (Err trap) = refl
      by (Ok z) = (follows z, refl, is.alike)

  -- ---- assignment, READ and PRINT

  target-in : (e : RawExpr) → is_target names e ≡ true → Contains (names_in c.arrays e) (target_name e)
  target-in (Int z) target = absurd cc
  target-in (Truth b) target = absurd cc
  target-in (Apply' op shape args) target = absurd cc
  target-in (Named name) target = (0, omega arith, refl)
  target-in (Call' name shape args) target =
      let array = (and_parts (is_array_in names name) (is_some (kind_in names (Call' name shape args))) target).0 in
      subst (λ (xs : List (List ℕ)). Contains (xs ++ names_in_row c.arrays args) name) (sym (array-named names others c is.tables name array)) (0, omega arith, refl)

  place-again : (e : RawExpr) → AreTied R names others c (names_in c.arrays e) → is_target names e ≡ true → AreSameElement names others (target_name e) (c.name (target_name e)) (place names m.store (next_word input m) (access_of names checked e)) (place others n.store (next_word input n) (access_of others checked (changed c e)))
  place-again e tied target =
      subst (λ (o : Option ℤ). AreSameElement names others (target_name e) (c.name (target_name e)) (place names m.store (next_word input m) (access_of names checked e)) (place others n.store o (access_of others checked (changed c e)))) (sym next-same)
      (place-same (next_word input m) e tied target)

  both-some : (target e : Option Kind) → is_kind_of_target target e ≡ true → (is_some target ≡ true) × (is_some e ≡ true)
  both-some None e kinded = absurd cc
  both-some (Some kind) e kinded = (refl, kind-some kind e kinded)

  pub assigns : (target e : RawExpr) (next next' : ℕ) → AreTied R names others c (names_in c.arrays target ++ names_in c.arrays e) → is_well_kinded names (Assign target e) ≡ true → N next next'
      → GoAlike R L N (outcome names input m (Assigned (access_of names checked target) (resolved names checked e) next)) (outcome others input n (Assigned (access_of others checked (changed c target)) (resolved others checked (changed c e)) next'))
  assigns target e next next' tied kinded follows =
      let parts = and_parts (is_variable names target) (is_kind_of_target (kind_in names target) (kind_in names e)) kinded in
      let some = both-some (kind_in names target) (kind_in names e) parts.1 in
      let is_one : is_target names target ≡ true = and_from (is_variable names target) (is_some (kind_in names target)) parts.0 some.0 in
      let front = left (names_in c.arrays target) (names_in c.arrays e) tied in
      let here = takes-none names checked e in
      let there = takes-none others checked (changed c e) in
      let taken = is.alike.taken in
      assigned-alike (target_name target) (names_in c.arrays target) front (target-in target is_one) next next' (m.taken + words_taken (resolved names checked e)) (n.taken + words_taken (resolved others checked (changed c e))) follows (omega (arith, here, there, taken))
      (place names m.store (next_word input m) (access_of names checked target)) (place others n.store (next_word input n) (access_of others checked (changed c target)))
      (value names m.store (next_word input m) (resolved names checked e)) (value others n.store (next_word input n) (resolved others checked (changed c e)))
      (place-again target front is_one)
      (ap (λ (o : Option ℤ). value others n.store o (resolved others checked (changed c e))) next-same ∙ value-same (next_word input m) e (right (names_in c.arrays target) (names_in c.arrays e) tied) some.1)

  taken-value : (kind : Kind) (next : Option ℤ) → value others n.store next (taken_as kind) ≡ value names m.store next (taken_as kind)
  taken-value Integer next = refl
  taken-value Logical next = value-Apply others n.store next Truth_of (Input ∷ []) ∙ sym (value-Apply names m.store next Truth_of (Input ∷ []))

  pub takes : (target : RawExpr) (next next' : ℕ) → AreTied R names others c (names_in c.arrays target) → is_target names target ≡ true → N next next'
      → GoAlike R L N (outcome names input m (Assigned (access_of names checked target) (taken_as (kind_or_integer (kind_in names target))) next)) (outcome others input n (Assigned (access_of others checked (changed c target)) (taken_as (kind_or_integer (kind_in others (changed c target)))) next'))
  takes target next next' tied is_one follows =
      let parts = and_parts (is_variable names target) (is_some (kind_in names target)) is_one in
      let kind : kind_in others (changed c target) ≡ kind_in names target = kinds names others c is.tables target tied.known parts.1 in
      let e = taken_as (kind_or_integer (kind_in names target)) in
      subst (λ (k : Option Kind). GoAlike R L N (outcome names input m (Assigned (access_of names checked target) e next)) (outcome others input n (Assigned (access_of others checked (changed c target)) (taken_as (kind_or_integer k)) next'))) (sym kind)
      (assigned-alike (target_name target) (names_in c.arrays target) tied (target-in target is_one) next next' (m.taken + words_taken e) (n.taken + words_taken e) follows (ap (λ (k : ℕ). k + words_taken e) is.alike.taken)
      (place names m.store (next_word input m) (access_of names checked target)) (place others n.store (next_word input n) (access_of others checked (changed c target)))
      (value names m.store (next_word input m) e) (value others n.store (next_word input n) e)
      (place-again target tied is_one)
      (ap (λ (o : Option ℤ). value others n.store o e) next-same ∙ taken-value (kind_or_integer (kind_in names target)) (next_word input m)))

  pub prints : (items : List RawItem) (next next' : ℕ) → AreTied R names others c (flat_map (names_in_item c.arrays) items) → list_all (is_item names) items ≡ true → N next next'
      → GoAlike R L N (outcome names input m (Printed (map (resolved_item names checked) items) next)) (outcome others input n (Printed (map (resolved_item others checked) (map (changed_item c) items)) next'))
  prints items next next' tied are follows =
      let same = lines names others is.words is.other_words m.store n.store c checked is.tables is.placed is.other_placed items tied.known (held (flat_map (names_in_item c.arrays) items) tied) are in
      subst (λ (r : Result (List ℕ) Trap). GoAlike R L N (printed m next (line_of names m.store (map (resolved_item names checked) items))) (printed n next' r)) (sym same) (by (line_of names m.store (map (resolved_item names checked) items)))
    where
      by : (r : Result (List ℕ) Trap) → GoAlike R L N (printed m next r) (printed n next' r)
      by (Err trap) = refl
      by (Ok text) = (follows, refl, is.alike)

  -- ---- branches

  pub tests : (e : RawExpr) (yes' no' yes_there no_there : ℕ) → AreTied R names others c (names_in c.arrays e) → is_of_kind names Logical e ≡ true → N yes' yes_there → N no' no_there → GoAlike R L N (outcome names input m (Test (resolved names checked e) yes' no')) (outcome others input n (Test (resolved others checked (changed c e)) yes_there no_there))
  tests e yes' no' yes_there no_there tied kinded first second =
      branched-alike (λ z. if is_true z then yes' else no') (λ z. if is_true z then yes_there else no_there) (λ z. by (is_true z)) (value_in names m (resolved names checked e)) (value_in others n (resolved others checked (changed c e))) (value-same None e tied (kind-some Logical (kind_in names e) kinded))
    where
      by : (b : Bool) → N (if b then yes' else no') (if b then yes_there else no_there)
      by true = first
      by false = second

  pub signs : (e : RawExpr) (x y z x' y' z' : ℕ) → AreTied R names others c (names_in c.arrays e) → is_of_kind names Integer e ≡ true → N x x' → N y y' → N z z' → GoAlike R L N (outcome names input m (Sign (resolved names checked e) x y z)) (outcome others input n (Sign (resolved others checked (changed c e)) x' y' z'))
  signs e x y z x' y' z' tied kinded first second third =
      branched-alike (by_sign x y z) (by_sign x' y' z') by (value_in names m (resolved names checked e)) (value_in others n (resolved others checked (changed c e))) (value-same None e tied (kind-some Integer (kind_in names e) kinded))
    where
      by : (v : ℤ) → N (by_sign x y z v) (by_sign x' y' z' v)
      by (negsuc k) = first
      by (pos zero) = second
      by (pos (suc k)) = third

  pub picks : (e : RawExpr) (xs ys : List ℕ) (x y : ℕ) → AreTied R names others c (names_in c.arrays e) → is_of_kind names Integer e ≡ true → length xs ≡ length ys → ((i : ℕ) → i ≤ length xs → N (slice_index (xs ++ x ∷ []) i) (slice_index (ys ++ y ∷ []) i))
      → GoAlike R L N (outcome names input m (Pick (resolved names checked e) xs x)) (outcome others input n (Pick (resolved others checked (changed c e)) ys y))
  picks e xs ys x y tied kinded many each =
      branched-alike (by_number xs x (pos (length xs))) (by_number ys y (pos (length ys))) by (value_in names m (resolved names checked e)) (value_in others n (resolved others checked (changed c e))) (value-same None e tied (kind-some Integer (kind_in names e) kinded))
    where
      by : (v : ℤ) → N (by_number xs x (pos (length xs)) v) (by_number ys y (pos (length ys)) v)
      by v = subst (λ (k : ℕ). N (by_number xs x (pos (length xs)) v) (by_number ys y (pos k) v)) many (each (at_least_zero (picked v (pos (length xs)))) (picked-within v (length xs)))

  -- ---- DO

  scalar-paired : (variable : List ℕ) (xs : List (List ℕ)) → AreTied R names others c xs → Contains xs variable → is_array_in names variable ≡ false → R (place_of names (index_of names variable)) (place_of others (index_of others (c.name variable)))
  scalar-paired variable xs tied at scalar =
      word-paired variable xs tied at (place_of names (index_of names variable)) (place_of others (index_of others (c.name variable))) 0 (by (dims_named names variable) scalar) (omega arith) (omega arith)
    where
      by : (dims : List Dim) → nat_lt 0 (length dims) ≡ false → pos 0 <ℤ size_of dims
      by [] no_dims = omega (arith, ints)
      by (dim ∷ dims) no_dims = absurd (none-at-all no_dims)
        where
          none-at-all : nat_lt 0 (suc (length dims)) ≡ false → ⊥
          none-at-all h = grind (arith, nat_tests)

  counted : (b : Bool) (body exit body' exit' : ℕ) → N body body' → N exit exit' → N (if b then body else exit) (if b then body' else exit')
  counted true body exit body' exit' first second = first
  counted false body exit body' exit' first second = second

  begun : (i j v w body exit body' exit' : ℕ) → D i j → R v w → N body body' → N exit exit' → (a b s : ℤ) → GoAlike R (with_pair L i j) N (started m i v body exit a b s) (started n j w body' exit' a b s)
  begun i j v w body exit body' exit' loop pair first second a b s = (
    counted (nat_lt 0 (trip_count a b s)) body exit body' exit' first second,
    refl,
    record {
      store = λ x y paired. words-set R is.words_paired v w pair m.store n.store a (is.room.words v w pair).0 (is.room.words v w pair).1 x y paired (inr (is.alike.store x y paired));
      counts = λ x y paired. counts-set D is.loops_paired i j loop m.counts n.counts (trip_count a b s) (is.room.counts i j loop).0 (is.room.counts i j loop).1 x y (of-both x y paired) (count-before x y paired);
      steps = λ x y paired. words-set D is.loops_paired i j loop m.steps n.steps s (is.room.steps i j loop).0 (is.room.steps i j loop).1 x y (of-both x y paired) (step-before x y paired);
      taken = is.alike.taken;
    },
  )
    where
      of-both : (x y : ℕ) → with_pair L i j x y → D x y
      of-both x y (inl old) = is.of_loops x y old
      of-both x y (inr new) = subst (λ (k : ℕ). D k y) (sym new.0) (subst (λ (k : ℕ). D i k) (sym new.1) loop)

      count-before : (x y : ℕ) → with_pair L i j x y → (i ≡ x) ⊎ (slice_index m.counts x ≡ slice_index n.counts y)
      count-before x y (inl old) = inr (is.alike.counts x y old)
      count-before x y (inr new) = inl (sym new.0)

      step-before : (x y : ℕ) → with_pair L i j x y → (i ≡ x) ⊎ (word_at m.steps x ≡ word_at n.steps y)
      step-before x y (inl old) = inr (is.alike.steps x y old)
      step-before x y (inr new) = inl (sym new.0)

  all-begun : (i j v w body exit body' exit' : ℕ) → D i j → R v w → N body body' → N exit exit' → (a b s : Result ℤ Trap) → GoAlike R (with_pair L i j) N (do_begun m i v body exit a b s) (do_begun n j w body' exit' a b s)
  all-begun i j v w body exit body' exit' loop pair first second (Err trap) b s = refl
  all-begun i j v w body exit body' exit' loop pair first second (Ok a) (Err trap) s = refl
  all-begun i j v w body exit body' exit' loop pair first second (Ok a) (Ok b) (Err trap) = refl
  all-begun i j v w body exit body' exit' loop pair first second (Ok a) (Ok b) (Ok s) = by (int_eq s (pos 0))
    where
      by : (t : Bool) → GoAlike R (with_pair L i j) N (if t then Stops NoStep else started m i v body exit a b s) (if t then Stops NoStep else started n j w body' exit' a b s)
      by true = refl
      by false = begun i j v w body exit body' exit' loop pair first second a b s

  pub starts : (label i j : ℕ) (variable : List ℕ) (first last : RawExpr) (step : Option RawExpr) (body exit body' exit' : ℕ) → AreTied R names others c (variable ∷ (names_in c.arrays first ++ names_in c.arrays last ++ names_if_any c.arrays step))
      → is_well_kinded names (Do label variable first last step) ≡ true → D i j → N body body' → N exit exit'
      → GoAlike R (with_pair L i j) N (outcome names input m (DoStart i (index_of names variable) (resolved names checked first) (resolved names checked last) (resolved_step names checked step) body exit))
      (outcome others input n (DoStart j (index_of others (c.name variable)) (resolved others checked (changed c first)) (resolved others checked (changed c last)) (resolved_step others checked (changed_step c step)) body' exit'))
  starts label i j variable first last step body exit body' exit' tied kinded loop in_body in_exit =
      let p = is_array_in names variable in
      let k = is_kind Integer (Some (kind_named names variable)) in
      let one = and_parts (((not p && k) && is_of_kind names Integer first) && is_of_kind names Integer last) (is_step names step) kinded in
      let two = and_parts ((not p && k) && is_of_kind names Integer first) (is_of_kind names Integer last) one.0 in
      let three = and_parts (not p && k) (is_of_kind names Integer first) two.0 in
      let four = and_parts (not p) k three.0 in
      let xs = names_in c.arrays first in
      let ys = names_in c.arrays last in
      let zs = names_if_any c.arrays step in
      let behind = right (variable ∷ []) ((xs ++ ys) ++ zs) tied in
      let both = left (xs ++ ys) zs behind in
      let at_step = right (xs ++ ys) zs behind in
      let word = scalar-paired variable (variable ∷ ((xs ++ ys) ++ zs)) tied (0, omega arith, refl) (negated p four.0) in
      let a = value-same None first (left xs ys both) (kind-some Integer (kind_in names first) three.1) in
      let b = value-same None last (right xs ys both) (kind-some Integer (kind_in names last) two.1) in
      let s = steps names others is.words is.other_words m.store n.store c checked is.tables is.placed is.other_placed None step at_step.known (held zs at_step) one.1 in
      subst (λ (r : Result ℤ Trap). GoAlike R (with_pair L i j) N (do_begun m i (place_of names (index_of names variable)) body exit (value_in names m (resolved names checked first)) (value_in names m (resolved names checked last)) (value_in names m (resolved_step names checked step)))
      (do_begun n j (place_of others (index_of others (c.name variable))) body' exit' r (value_in others n (resolved others checked (changed c last))) (value_in others n (resolved_step others checked (changed_step c step))))) (sym a)
      (subst (λ (r : Result ℤ Trap). GoAlike R (with_pair L i j) N (do_begun m i (place_of names (index_of names variable)) body exit (value_in names m (resolved names checked first)) (value_in names m (resolved names checked last)) (value_in names m (resolved_step names checked step)))
      (do_begun n j (place_of others (index_of others (c.name variable))) body' exit' (value_in names m (resolved names checked first)) r (value_in others n (resolved_step others checked (changed_step c step))))) (sym b)
      (subst (λ (r : Result ℤ Trap). GoAlike R (with_pair L i j) N (do_begun m i (place_of names (index_of names variable)) body exit (value_in names m (resolved names checked first)) (value_in names m (resolved names checked last)) (value_in names m (resolved_step names checked step)))
      (do_begun n j (place_of others (index_of others (c.name variable))) body' exit' (value_in names m (resolved names checked first)) (value_in names m (resolved names checked last)) r)) (sym s)
      (all-begun i j (place_of names (index_of names variable)) (place_of others (index_of others (c.name variable))) body exit body' exit' loop word in_body in_exit (value_in names m (resolved names checked first)) (value_in names m (resolved names checked last)) (value_in names m (resolved_step names checked step)))))
    where
      negated : (b : Bool) → not b ≡ true → b ≡ false
      negated true h = let e : false ≡ true = h in absurd cc
      negated false h = refl

  stepped : (i j v w : ℕ) → L i j → R v w → (body exit body' exit' : ℕ) → N body body' → N exit exit' → GoAlike R L N (do_incremented m i v body exit) (do_incremented n j w body' exit')
  stepped i j v w live pair body exit body' exit' first second =
      let loop = is.of_loops i j live in
      let count : slice_index m.counts i ≡ slice_index n.counts j = is.alike.counts i j live in
      let word : word_at m.store v ≡ word_at n.store w = is.alike.store v w pair in
      let step : word_at m.steps i ≡ word_at n.steps j = is.alike.steps i j live in
      let z = wrapped (word_at n.store w +ℤ word_at n.steps j) in
      let less = slice_index n.counts j - 1 in
      let sum : wrapped (word_at m.store v +ℤ word_at m.steps i) ≡ z = ap (λ x. wrapped (x +ℤ word_at m.steps i)) word ∙ ap (λ x. wrapped (word_at n.store w +ℤ x)) step in
      let counted_down : slice_index m.counts i - 1 ≡ less = ap (λ k. k - 1) count in (
        subst (λ (k : ℕ). N (if nat_lt 0 k then body else exit) (if nat_lt 0 less then body' else exit')) (sym counted_down) (counted (nat_lt 0 less) body exit body' exit' first second),
        refl,
        record {
          store = λ x y paired. ap (λ (k : ℤ). word_at (slice_set m.store v k) x) sum ∙ words-set R is.words_paired v w pair m.store n.store z (is.room.words v w pair).0 (is.room.words v w pair).1 x y paired (inr (is.alike.store x y paired));
          counts = λ x y paired. ap (λ (k : ℕ). slice_index (slice_set m.counts i k) x) counted_down ∙ counts-set D is.loops_paired i j loop m.counts n.counts less (is.room.counts i j loop).0 (is.room.counts i j loop).1 x y (is.of_loops x y paired) (inr (is.alike.counts x y paired));
          steps = is.alike.steps;
          taken = is.alike.taken;
        },
      )

  pub increments : (i j : ℕ) (variable : List ℕ) (body exit body' exit' : ℕ) → AreTied R names others c (variable ∷ []) → is_array_in names variable ≡ false → L i j → N body body' → N exit exit'
      → GoAlike R L N (outcome names input m (DoNext i (index_of names variable) body exit)) (outcome others input n (DoNext j (index_of others (c.name variable)) body' exit'))
  increments i j variable body exit body' exit' tied scalar live first second =
      stepped i j (place_of names (index_of names variable)) (place_of others (index_of others (c.name variable))) live (scalar-paired variable (variable ∷ []) tied (0, omega arith, refl) scalar) body exit body' exit' first second
