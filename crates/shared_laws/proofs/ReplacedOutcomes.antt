-- What a statement with temporaries does: the same as the statement without them, where the temporaries have the values of their
-- candidates.
use Rattle.std.proofs.Common.{◌≡◌, ℕ, zero, suc, ◌+◌, ◌-◌, ◌<◌, ℤ, pos, nat_abs, inl, inr, Bool, true, false, List, [], ◌∷◌, ◌++◌, length, map, Option, Some, None, Result, Ok, Err, refl, sym, ap, subst, ◌∙◌}
use Rattle.std.specs.Prelude.{◌+ℤ◌, flat_map, slice_get, slice_index, slice_set, nat_lt, if◌then◌else◌}
use Rattle.std.specs.Ordering.{int_eq}
use Rattle.std.proofs.lemmas.List.{length-map}
use Rattle.list_laws.specs.Member.{Member}
use Rattle.list_laws.proofs.Members.{Member-left, Member-right}
use Rattle.op_table.specs.declared.Trap.{Trap}
use Rattle.op_table.specs.declared.Trap.TheVariants.{Step as NoStep}
use Rattle.op_table.specs.Trips.{at_least_zero, trip_count}
use Rattle.op_table.specs.Operators.{picked, which_of_three}
use Rattle.op_table.specs.Words.{is_true, wrapped}
use Rattle.f77_tree.specs.declared.expressions.Access.{Access}
use Rattle.f77_tree.specs.declared.expressions.Expr.{Expr}
use Rattle.f77_tree.specs.declared.programs.ExecKind.{ExecKind}
use Rattle.f77_tree.specs.declared.programs.ExecKind.TheVariants.{Assign, DoNext, DoStart, Pass, Print}
use Rattle.f77_tree.specs.declared.programs.Item.{Item}
use Rattle.f77_tree.specs.declared.programs.Item.TheVariants.{Value, Chars}
use Rattle.f77_tree.specs.declared.programs.NameInfo.{NameInfo}
use Rattle.f77_tree.specs.declared.programs.Program.{Program}
use Rattle.f77_tree.specs.CanRun.{CanExecute}
use Rattle.f77_tree.specs.Execution.{Memory, Outcome, Goes, Stops, Ends, after_test, assigned, branched, by_number, by_sign, do_begun, do_incremented, next_word, outcome, printed, started, value_in, words_taken}
use Rattle.f77_tree.specs.Line.{item_text, line_of, line_of_texts, text_of, kind_of_expression}
use Rattle.f77_tree.specs.Value.{and_then, dims_in, place, place_in, place_of, subscripted, value, word_at, word_of}
use Rattle.flat_programs.specs.declared.statements.Flat.{Flat}
use Rattle.flat_programs.specs.declared.statements.Flat.TheVariants.{Mark, Assignment, Output, LogicalIf, ArithmeticIf, ComputedGoTo, DoLoop, Jump, Finish}
use Rattle.flat_programs.specs.declared.statements.FlatLine.{FlatLine}
use Rattle.flat_programs.specs.Executables.{beyond, first_of, following, increment, leading, marked}
use Rattle.flat_programs.specs.FlatForm.{HasNumbers, IsNumber}
use Rattle.flat_programs.specs.Marks.{is_end, loop_at, loop_to, mark_at, mark_count, variable_in}
use Rattle.redundancy.specs.Available.{Availability}
use Rattle.redundancy.specs.Computed.{expressions, in_item}
use Rattle.shared_forms.specs.Numbered.{number_of}
use Rattle.shared_forms.specs.Shared.{replaced, replaced_access, replaced_in, replaced_item, temporaries}
use Rattle.shared_laws.proofs.ListPlaces.{All-member}
use Rattle.shared_forms.proofs.TemporaryTable.{slice_get-left}

-- two outcomes with one memory and one text, after which executables follow that stand for each other; or two traps of a kind; or two
-- ends
abbrev pub SameStep : (ℕ → ℕ → Type 0) → Outcome → Outcome → Type 0
SameStep At (Goes next m text) (Goes next' m' text') = At next next' × (m ≡ m') × (text ≡ text')
SameStep At (Stops trap) (Stops trap') = trap ≡ trap'
SameStep At Ends Ends = Unit {0}
SameStep At _ _ = ⊥

-- a statement whose first executable may go on to its second one
abbrev pub IsTwofold : Flat → Type 0
IsTwofold Mark = Unit {0}
IsTwofold (LogicalIf cond target) = Unit {0}
IsTwofold _ = ⊥

module _ (At : ℕ → ℕ → Type 0) (origin : At 0 0) where
  -- ---- lists of executables that stand for each other

  abbrev AreLed : List ℕ → List ℕ → Type 0
  AreLed [] [] = Unit {0}
  AreLed (x ∷ xs) (y ∷ ys) = At x y × AreLed xs ys
  AreLed _ _ = ⊥

  led-index : (xs ys : List ℕ) (i : ℕ) → AreLed xs ys → At (slice_index xs i) (slice_index ys i)
  led-index [] [] i led = origin
  led-index [] (y ∷ ys) i led = absurd led
  led-index (x ∷ xs) [] i led = absurd led
  led-index (x ∷ xs) (y ∷ ys) zero led = led.0
  led-index (x ∷ xs) (y ∷ ys) (suc i) led = led-index xs ys i led.1

  led-map : (f g : ℕ → ℕ) (ns : List ℕ) (x y : ℕ) → ((n : ℕ) → Member ns n → At (f n) (g n)) → At x y → AreLed (map f ns ++ x ∷ []) (map g ns ++ y ∷ [])
  led-map f g [] x y each last = (last, tt)
  led-map f g (n ∷ ns) x y each last = (each n (inl refl), led-map f g ns x y (λ m among. each m (inr among)) last)

  -- ---- outcomes

  assigned-same : (m : Memory) (next next' taken : ℕ) (at : Result ℕ Trap) (given : Result ℤ Trap) → At next next' → SameStep At (assigned m next taken at given) (assigned m next' taken at given)
  assigned-same m next next' taken (Err trap) given leads = refl
  assigned-same m next next' taken (Ok word) (Err trap) leads = refl
  assigned-same m next next' taken (Ok word) (Ok z) leads = (leads, refl, refl)

  printed-same : (m : Memory) (next next' : ℕ) (line : Result (List ℕ) Trap) → At next next' → SameStep At (printed m next line) (printed m next' line)
  printed-same m next next' (Err trap) leads = refl
  printed-same m next next' (Ok line) leads = (leads, refl, refl)

  branched-same : (m : Memory) (f g : ℤ → ℕ) (given : Result ℤ Trap) → ((z : ℤ) → At (f z) (g z)) → SameStep At (branched m f given) (branched m g given)
  branched-same m f g (Err trap) leads = refl
  branched-same m f g (Ok z) leads = (leads z, refl, refl)

  either : (b : Bool) (x y x' y' : ℕ) → At x x' → At y y' → At (if b then x else y) (if b then x' else y')
  either true x y x' y' first second = first
  either false x y x' y' first second = second

  tested-same : (m : Memory) (count body exit body' exit' : ℕ) → At body body' → At exit exit' → SameStep At (after_test m count body exit) (after_test m count body' exit')
  tested-same m count body exit body' exit' first second = (either (nat_lt 0 count) body exit body' exit' first second, refl, refl)

  begun-by : (m : Memory) (b : Bool) (loop_no word body exit body' exit' : ℕ) (x y z : ℤ) → At body body' → At exit exit' → SameStep At (if b then Stops NoStep else started m loop_no word body exit x y z) (if b then Stops NoStep else started m loop_no word body' exit' x y z)
  begun-by m true loop_no word body exit body' exit' x y z first second = refl
  begun-by m false loop_no word body exit body' exit' x y z first second =
      tested-same (record m { store = slice_set m.store word x; counts = slice_set m.counts loop_no (trip_count x y z); steps = slice_set m.steps loop_no z }) (trip_count x y z) body exit body' exit' first second

  begun-same : (m : Memory) (loop_no word body exit body' exit' : ℕ) (x y z : Result ℤ Trap) → At body body' → At exit exit' → SameStep At (do_begun m loop_no word body exit x y z) (do_begun m loop_no word body' exit' x y z)
  begun-same m loop_no word body exit body' exit' (Err trap) y z first second = refl
  begun-same m loop_no word body exit body' exit' (Ok x) (Err trap) z first second = refl
  begun-same m loop_no word body exit body' exit' (Ok x) (Ok y) (Err trap) first second = refl
  begun-same m loop_no word body exit body' exit' (Ok x) (Ok y) (Ok z) first second = begun-by m (int_eq z (pos 0)) loop_no word body exit body' exit' x y z first second

-- the word of a name at the values of its subscripts, by its entry in the table
abbrev word_by : Option NameInfo → List (Result ℤ Trap) → Result ℕ Trap
word_by entry values = and_then (λ p. Ok (nat_abs p)) (subscripted (dims_in entry) (pos 1) (pos (place_in entry)) values)

module _ (q : Program) (a : Availability) (m : Memory) (input : List ℤ) where
  abbrev wide : List NameInfo
  wide = q.names ++ temporaries q a (number_of a)

  -- with temporaries each of these expressions has the value that it had
  abbrev pub KeepValues : List Expr → Type 0
  KeepValues es = (next : Option ℤ) (e : Expr) → Member es e → value wide m.store next (replaced q a (number_of a) e) ≡ value q.names m.store next e

  -- and it is of the kind that it was
  abbrev pub KeepKinds : List Expr → Type 0
  KeepKinds es = (e : Expr) → Member es e → kind_of_expression wide (replaced q a (number_of a) e) ≡ kind_of_expression q.names e

  place-longer : (name : ℕ) → name < length q.names → place_of wide name ≡ place_of q.names name
  place-longer name less = ap place_in (slice_get-left q.names (temporaries q a (number_of a)) name less)

  subscripts-same : (next : Option ℤ) (subs : List Expr) → ((e : Expr) → Member subs e → value wide m.store next (replaced q a (number_of a) e) ≡ value q.names m.store next e) → map (value wide m.store next) (map (replaced q a (number_of a)) subs) ≡ map (value q.names m.store next) subs
  subscripts-same next [] keep = refl
  subscripts-same next (e ∷ subs) keep =
      ap (λ r. r ∷ map (value wide m.store next) (map (replaced q a (number_of a)) subs)) (keep e (inl refl))
      ∙ ap (λ rs. value q.names m.store next e ∷ rs) (subscripts-same next subs (λ d among. keep d (inr among)))

  access-same : (next : Option ℤ) (access : Access) → access.name < length q.names → ((e : Expr) → Member access.subs e → value wide m.store next (replaced q a (number_of a) e) ≡ value q.names m.store next e) → place wide m.store next (replaced_access q a (number_of a) access) ≡ place q.names m.store next access
  access-same next access less keep =
      ap (word_of wide access.name) (subscripts-same next access.subs keep)
      ∙ ap (λ (o : Option NameInfo). word_by o (map (value q.names m.store next) access.subs)) (slice_get-left q.names (temporaries q a (number_of a)) access.name less)

  text-same : (e : Expr) → value wide m.store None (replaced q a (number_of a) e) ≡ value q.names m.store None e → kind_of_expression wide (replaced q a (number_of a) e) ≡ kind_of_expression q.names e → item_text wide m.store (Value (replaced q a (number_of a) e)) ≡ item_text q.names m.store (Value e)
  text-same e is kind =
      ap (λ k. and_then (λ z. Ok (text_of k z)) (value wide m.store None (replaced q a (number_of a) e))) kind
      ∙ ap (λ v. and_then (λ z. Ok (text_of (kind_of_expression q.names e) z)) v) is

  texts-same : (items : List Item) → KeepValues (flat_map in_item items) → KeepKinds (flat_map in_item items) → map (item_text wide m.store) (map (replaced_item q a (number_of a)) items) ≡ map (item_text q.names m.store) items
  texts-same [] keep kinds = refl
  texts-same (Value e ∷ items) keep kinds =
      ap (λ r. r ∷ map (item_text wide m.store) (map (replaced_item q a (number_of a)) items)) (text-same e (keep None e (inl refl)) (kinds e (inl refl)))
      ∙ ap (λ rs. item_text q.names m.store (Value e) ∷ rs) (texts-same items (λ next d among. keep next d (inr among)) (λ d among. kinds d (inr among)))
  texts-same (Chars text ∷ items) keep kinds = ap (λ rs. item_text q.names m.store (Chars text) ∷ rs) (texts-same items keep kinds)

  lines-same : (items : List Item) → KeepValues (flat_map in_item items) → KeepKinds (flat_map in_item items) → line_of wide m.store (map (replaced_item q a (number_of a)) items) ≡ line_of q.names m.store items
  lines-same items keep kinds = ap line_of_texts (texts-same items keep kinds)

  -- ---- executables

  module _ (flat all : List FlatLine) (here there : ℕ) (At : ℕ → ℕ → Type 0) (origin : At 0 0) (next-at : At (first_of flat (here + 1)) (first_of all (there + 1))) (marked-at : (number : ℕ) → IsNumber (mark_count flat) number → At (marked flat number) (marked all number)) (beyond-at : (number : ℕ) → IsNumber (mark_count flat) number → At (beyond flat number) (beyond all number)) where
    abbrev pub Same : ExecKind → ExecKind → Type 0
    Same kind kind' = SameStep At (outcome q.names input m kind) (outcome wide input m kind')

    assign-same : (target : Access) (given : Expr) (next next' : ℕ) → target.name < length q.names → KeepValues (target.subs ++ given ∷ []) → words_taken (replaced q a (number_of a) given) ≡ words_taken given → At next next' → Same (Assign target given next) (Assign (replaced_access q a (number_of a) target) (replaced q a (number_of a) given) next')
    assign-same target given next next' less keep taken leads =
        let word = next_word input m in
        let places = access-same word target less (λ e among. keep word e (Member-left target.subs (given ∷ []) e among)) in
        let values = keep word given (Member-right target.subs (given ∷ []) given (inl refl)) in
        let same : outcome wide input m (Assign (replaced_access q a (number_of a) target) (replaced q a (number_of a) given) next') ≡ outcome q.names input m (Assign target given next') =
        ap (λ n. assigned m next' (m.taken + n) (place wide m.store word (replaced_access q a (number_of a) target)) (value wide m.store word (replaced q a (number_of a) given))) taken
        ∙ ap (λ p. assigned m next' (m.taken + words_taken given) p (value wide m.store word (replaced q a (number_of a) given))) places
        ∙ ap (λ v. assigned m next' (m.taken + words_taken given) (place q.names m.store word target) v) values
        in
        subst (λ (o : Outcome). SameStep At (outcome q.names input m (Assign target given next)) o) (sym same)
        (assigned-same At origin m next next' (m.taken + words_taken given) (place q.names m.store word target) (value q.names m.store word given) leads)

    output-same : (items : List Item) (next next' : ℕ) → KeepValues (flat_map in_item items) → KeepKinds (flat_map in_item items) → At next next' → Same (Print items next) (Print (map (replaced_item q a (number_of a)) items) next')
    output-same items next next' keep kinds leads =
        subst (λ (line : Result (List ℕ) Trap). SameStep At (printed m next (line_of q.names m.store items)) (printed m next' line)) (sym (lines-same items keep kinds))
        (printed-same At origin m next next' (line_of q.names m.store items) leads)

    branch-same : (f g : ℤ → ℕ) (e : Expr) → KeepValues (e ∷ []) → ((z : ℤ) → At (f z) (g z)) → SameStep At (branched m f (value_in q.names m e)) (branched m g (value_in wide m (replaced q a (number_of a) e)))
    branch-same f g e keep leads =
        subst (λ (v : Result ℤ Trap). SameStep At (branched m f (value_in q.names m e)) (branched m g v)) (sym (keep None e (inl refl)))
        (branched-same At origin m f g (value_in q.names m e) leads)

    pick-leads : (targets : List ℕ) (v : ℤ) → ((n : ℕ) → Member targets n → IsNumber (mark_count flat) n) → At (by_number (map (marked flat) targets) (first_of flat (here + 1)) (pos (length (map (marked flat) targets))) v) (by_number (map (marked all) targets) (first_of all (there + 1)) (pos (length (map (marked all) targets))) v)
    pick-leads targets v numbers =
        let size = length-map targets (marked flat) ∙ sym (length-map targets (marked all)) in
        let led = led-map At origin (marked flat) (marked all) targets (first_of flat (here + 1)) (first_of all (there + 1)) (λ n among. marked-at n (numbers n among)) next-at in
        subst (λ n. At (by_number (map (marked flat) targets) (first_of flat (here + 1)) (pos (length (map (marked flat) targets))) v) (by_number (map (marked all) targets) (first_of all (there + 1)) (pos n) v)) size
        (led-index At origin (map (marked flat) targets ++ first_of flat (here + 1) ∷ []) (map (marked all) targets ++ first_of all (there + 1) ∷ []) (at_least_zero (picked v (pos (length (map (marked flat) targets))))) led)

    start-same : (loop_no var : ℕ) (first last step : Expr) (body exit body' exit' : ℕ) → var < length q.names → KeepValues (first ∷ last ∷ step ∷ []) → At body body' → At exit exit' → Same (DoStart loop_no var first last step body exit) (DoStart loop_no var (replaced q a (number_of a) first) (replaced q a (number_of a) last) (replaced q a (number_of a) step) body' exit')
    start-same loop_no var first last step body exit body' exit' less keep leads also =
        let x = value_in wide m (replaced q a (number_of a) first) in
        let y = value_in wide m (replaced q a (number_of a) last) in
        let z = value_in wide m (replaced q a (number_of a) step) in
        let same : outcome wide input m (DoStart loop_no var (replaced q a (number_of a) first) (replaced q a (number_of a) last) (replaced q a (number_of a) step) body' exit') ≡ outcome q.names input m (DoStart loop_no var first last step body' exit') =
        ap (λ p. do_begun m loop_no p body' exit' x y z) (place-longer var less)
        ∙ ap (λ v. do_begun m loop_no (place_of q.names var) body' exit' v y z) (keep None first (inl refl))
        ∙ ap (λ v. do_begun m loop_no (place_of q.names var) body' exit' (value_in q.names m first) v z) (keep None last (inr (inl refl)))
        ∙ ap (λ v. do_begun m loop_no (place_of q.names var) body' exit' (value_in q.names m first) (value_in q.names m last) v) (keep None step (inr (inr (inl refl))))
        in
        subst (λ (o : Outcome). SameStep At (outcome q.names input m (DoStart loop_no var first last step body exit)) o) (sym same)
        (begun-same At origin m loop_no (place_of q.names var) body exit body' exit' (value_in q.names m first) (value_in q.names m last) (value_in q.names m step) leads also)

    next-same : (loop_no var body exit body' exit' : ℕ) → var < length q.names → At body body' → At exit exit' → Same (DoNext loop_no var body exit) (DoNext loop_no var body' exit')
    next-same loop_no var body exit body' exit' less leads also =
        subst (λ p. SameStep At (do_incremented m loop_no (place_of q.names var) body exit) (do_incremented m loop_no p body' exit')) (sym (place-longer var less))
        (let count = slice_index m.counts loop_no - 1 in
        let word = place_of q.names var in
        tested-same At origin (record m { store = slice_set m.store word (wrapped (word_at m.store word +ℤ word_at m.steps loop_no)); counts = slice_set m.counts loop_no count }) count body exit body' exit' leads also)

    -- the first executable of a statement
    pub leading-same : (stmt : Flat) → CanExecute q (leading flat here stmt) → HasNumbers (mark_count flat) stmt → KeepValues (expressions (leading flat here stmt)) → KeepKinds (expressions (leading flat here stmt)) → ((target : Access) (given : Expr) → stmt ≡ Assignment target given → words_taken (replaced q a (number_of a) given) ≡ words_taken given) → loop_at all there ≡ loop_at flat here → (IsTwofold stmt → At (first_of flat here + 1) (first_of all there + 1)) → Same (leading flat here stmt) (leading all there (replaced_in q a (number_of a) stmt))
    leading-same Mark can numbers keep kinds taken loops inner = (inner tt, refl, refl)
    leading-same (Assignment target given) can numbers keep kinds taken loops inner = assign-same target given (first_of flat (here + 1)) (first_of all (there + 1)) can.0.known keep (taken target given refl) next-at
    leading-same (Output items) can numbers keep kinds taken loops inner = output-same items (first_of flat (here + 1)) (first_of all (there + 1)) keep kinds next-at
    leading-same (LogicalIf cond target) can numbers keep kinds taken loops inner =
        branch-same (λ z. if is_true z then first_of flat here + 1 else first_of flat (here + 1)) (λ z. if is_true z then first_of all there + 1 else first_of all (there + 1)) cond keep
        (λ z. either At origin (is_true z) (first_of flat here + 1) (first_of flat (here + 1)) (first_of all there + 1) (first_of all (there + 1)) (inner tt) next-at)
    leading-same (ArithmeticIf given below at above) can numbers keep kinds taken loops inner =
        let one : (n : ℕ) → Member (below ∷ at ∷ above ∷ []) n → At (marked flat n) (marked all n) = λ n among. marked-at n (All-member (IsNumber (mark_count flat)) (below ∷ at ∷ above ∷ []) n numbers.jumps among) in
        branch-same (by_sign (marked flat below) (marked flat at) (marked flat above)) (by_sign (marked all below) (marked all at) (marked all above)) given keep
        (λ z. led-index At origin (marked flat below ∷ marked flat at ∷ marked flat above ∷ []) (marked all below ∷ marked all at ∷ marked all above ∷ []) (at_least_zero (which_of_three z)) (one below (inl refl), (one at (inr (inl refl)), (one above (inr (inr (inl refl))), tt))))
    leading-same (ComputedGoTo given targets) can numbers keep kinds taken loops inner =
        branch-same (by_number (map (marked flat) targets) (first_of flat (here + 1)) (pos (length (map (marked flat) targets)))) (by_number (map (marked all) targets) (first_of all (there + 1)) (pos (length (map (marked all) targets)))) given keep
        (λ z. pick-leads targets z (λ n among. All-member (IsNumber (mark_count flat)) targets n numbers.jumps among))
    leading-same (DoLoop end var first last step) can numbers keep kinds taken loops inner =
        subst (λ n. Same (DoStart (loop_at flat here) var first last step (first_of flat (here + 1)) (beyond flat end)) (DoStart n var (replaced q a (number_of a) first) (replaced q a (number_of a) last) (replaced q a (number_of a) step) (first_of all (there + 1)) (beyond all end))) (sym loops)
        (start-same (loop_at flat here) var first last step (first_of flat (here + 1)) (beyond flat end) (first_of all (there + 1)) (beyond all end) can.0.name keep next-at (beyond-at end (All-member (IsNumber (mark_count flat)) (end ∷ []) end numbers.range_end (inl refl))))
    leading-same (Jump target) can numbers keep kinds taken loops inner = (marked-at target (All-member (IsNumber (mark_count flat)) (target ∷ []) target numbers.jumps (inl refl)), refl, refl)
    leading-same Finish can numbers keep kinds taken loops inner = tt

    -- the executable after it, if there is one
    pub record SameFollowing (kind : ExecKind) (stmt : Flat) : Type 0 where
      pub new : ExecKind
      pub follows : following all there (replaced_in q a (number_of a) stmt) ≡ Some new
      pub same : Same kind new

    end-following : (kind : ExecKind) (b : Bool) (d next d' next' : ℕ) → (if b then Some (increment flat d next) else None) ≡ Some kind → CanExecute q kind → (b ≡ true → (loop_at all d' ≡ loop_at flat d) × (variable_in (slice_get all d') ≡ variable_in (slice_get flat d)) × At (first_of flat (d + 1)) (first_of all (d' + 1))) → At next next' → (new : ExecKind) × ((if b then Some (increment all d' next') else None) ≡ Some new) × Same kind new
    end-following kind false d next d' next' is can alike leads = let e : None ≡ Some kind = is in absurd cc
    end-following kind true d next d' next' is can alike leads =
        let e : increment flat d next ≡ kind = cc in
        let r = alike refl in
        let can' : CanExecute q (increment flat d next) = subst (CanExecute q) (sym e) can in
        let both : increment all d' next' ≡ DoNext (loop_at flat d) (variable_in (slice_get flat d)) (first_of all (d' + 1)) next' =
        ap (λ n. DoNext n (variable_in (slice_get all d')) (first_of all (d' + 1)) next') r.0 ∙ ap (λ n. DoNext (loop_at flat d) n (first_of all (d' + 1)) next') r.1
        in
        (increment all d' next', refl, subst (λ (k : ExecKind). Same k (increment all d' next')) e (subst (λ (k : ExecKind). Same (increment flat d next) k) (sym both) (next-same (loop_at flat d) (variable_in (slice_get flat d)) (first_of flat (d + 1)) next (first_of all (d' + 1)) next' can'.name r.2 leads)))

    abbrev flat_loop : ℕ
    flat_loop = loop_to flat (mark_at flat here)

    abbrev all_loop : ℕ
    all_loop = loop_to all (mark_at all there)

    pub following-same : (stmt : Flat) (kind : ExecKind) → following flat here stmt ≡ Some kind → CanExecute q kind → HasNumbers (mark_count flat) stmt → is_end all (mark_at all there) ≡ is_end flat (mark_at flat here) → (is_end flat (mark_at flat here) ≡ true → (loop_at all all_loop ≡ loop_at flat flat_loop) × (variable_in (slice_get all all_loop) ≡ variable_in (slice_get flat flat_loop)) × At (first_of flat (flat_loop + 1)) (first_of all (all_loop + 1))) → SameFollowing kind stmt
    following-same Mark kind follows can numbers ends alike =
        let r = end-following kind (is_end flat (mark_at flat here)) flat_loop (first_of flat (here + 1)) all_loop (first_of all (there + 1)) follows can alike next-at in
        record { new = r.0; follows = ap (λ b. if b then Some (increment all all_loop (first_of all (there + 1))) else None) ends ∙ r.1; same = r.2 }
    following-same (LogicalIf cond target) kind follows can numbers ends alike =
        let e : Pass (marked flat target) ≡ kind = cc in
        record { new = Pass (marked all target); follows = refl; same = subst (λ (k : ExecKind). Same k (Pass (marked all target))) e (marked-at target (All-member (IsNumber (mark_count flat)) (target ∷ []) target numbers.jumps (inl refl)), refl, refl) }
    following-same (Assignment target given) kind follows can numbers ends alike = absurd cc
    following-same (Output items) kind follows can numbers ends alike = absurd cc
    following-same (ArithmeticIf given below at above) kind follows can numbers ends alike = absurd cc
    following-same (ComputedGoTo given targets) kind follows can numbers ends alike = absurd cc
    following-same (DoLoop end var first last step) kind follows can numbers ends alike = absurd cc
    following-same (Jump target) kind follows can numbers ends alike = absurd cc
    following-same Finish kind follows can numbers ends alike = absurd cc
