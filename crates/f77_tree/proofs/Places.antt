-- Where the words of names lie in a store.
use Rattle.std.proofs.Common.{◌≡◌, ℕ, zero, suc, ◌+◌, ◌*◌, ◌<◌, ◌≤◌, ℤ, pos, negsuc, ◌+ℤ◌, ◌-ℤ◌, ◌*ℤ◌, ◌≤ℤ◌, ◌<ℤ◌, nat_abs, Bool, true, false, List, [], ◌∷◌, length, map, drop, get_or, Option, Result, Ok, Err, All, refl, sym, ap, subst, ◌∙◌, add-one, drop-cons, arith, w32}
use Rattle.std.specs.Prelude.{int_lt, ◌||◌, if◌then◌else◌}
use Rattle.std.proofs.lemmas.Int.{int_wrap_fits, ints}
use Rattle.std.proofs.lemmas.List.{length-map}
use Rattle.std.proofs.Math.Nat.{mul-le-mul_left, mul-le-mul_right, mul_assoc}
use Rattle.op_table.specs.declared.Op.TheVariants.{Bound, Place}
use Rattle.op_table.specs.declared.Trap.{Trap}
use Rattle.op_table.specs.declared.Trap.TheVariants.{Subscript}
use Rattle.op_table.specs.Words.{IsWord, wrapped}
use Rattle.op_table.specs.Operators.{applied, ternary, in_a_word}
use Rattle.op_table.proofs.Laws.{applied-Place}
use Rattle.f77_tree.specs.declared.declarations.Dim.{Dim}
use Rattle.f77_tree.specs.declared.expressions.Access.{Access}
use Rattle.f77_tree.specs.declared.programs.NameInfo.{NameInfo}
use Rattle.f77_tree.specs.Value.{value, place, IsAccess, and_then, moved, subscripted, word_of, extent, size_of, dims_of, place_of, IsPlaced, ArePlaced}
use Rattle.f77_tree.specs.Places.{IsWordOf}

-- the bounds of a dimension in order
abbrev pub IsOrdered : Dim → Type 0
IsOrdered dim = dim.lo ≤ℤ dim.hi

-- ---- sizes are counts

pub nonneg : (z : ℤ) → pos 0 ≤ℤ z → z ≡ pos (nat_abs z)
nonneg (pos n) h = refl
nonneg (negsuc n) h = absurd (omega (arith, ints))

abbrev pub width_of : Dim → ℕ
width_of dim = nat_abs (extent dim)

-- a dimension has at least one subscript
pub extent-pos : (dim : Dim) → IsOrdered dim → extent dim ≡ pos (width_of dim)
extent-pos dim h = nonneg (extent dim) (omega (arith, ints))

pub extent-one : (dim : Dim) → IsOrdered dim → 1 ≤ width_of dim
extent-one dim h = let e = extent-pos dim h in omega (arith, ints)

pub All-head : {X : Type 0} (P : X → Type 0) (x : X) (xs : List X) → All P (x ∷ xs) → P x
All-head P x xs all = all 0 x (omega arith)

pub All-tail : {X : Type 0} (P : X → Type 0) (x : X) (xs : List X) → All P (x ∷ xs) → All P xs
All-tail P x xs all = λ k d lt. all (suc k) d (omega (arith, lt))

-- how many words a name of these dimensions has
abbrev pub count_of : List Dim → ℕ
count_of [] = 1
count_of (dim ∷ dims) = width_of dim * count_of dims

pub count-is : (dims : List Dim) → All IsOrdered dims → size_of dims ≡ pos (count_of dims)
count-is [] all = refl
count-is (dim ∷ dims) all =
    rw (extent-pos dim (All-head IsOrdered dim dims all), count-is dims (All-tail IsOrdered dim dims all)) refl

pub count-one : (dims : List Dim) → All IsOrdered dims → 1 ≤ count_of dims
count-one [] all = omega arith
count-one (dim ∷ dims) all =
    let e = extent-one dim (All-head IsOrdered dim dims all) in
    let c = count-one dims (All-tail IsOrdered dim dims all) in
    let m = mul-le-mul_right (count_of dims) e in
    omega (arith, c, m)

-- ---- a subscript within its bounds

pub record IsOffset (v low high d : ℤ) : Type 0 where
  pub is : d ≡ v -ℤ low
  pub above : low ≤ℤ v
  pub below : v ≤ℤ high

pub Bound-ok : (v low high d : ℤ) → (high -ℤ low) ≤ℤ pos 2147483647 → applied Bound (v ∷ low ∷ high ∷ []) ≡ Ok d → IsOffset v low high d
unfolding applied ternary
Bound-ok v low high d few e = by (int_lt v low) (int_lt high v) refl refl e
  where
    by : (p q : Bool) → int_lt v low ≡ p → int_lt high v ≡ q → in_a_word (if p || q then Err Subscript else Ok (v -ℤ low)) ≡ Ok d → IsOffset v low high d
    by true q f g h = let no : Err Subscript ≡ Ok d = h in absurd cc
    by false true f g h = let no : Err Subscript ≡ Ok d = h in absurd cc
    by false false f g h =
        let is : wrapped (v -ℤ low) ≡ d = cc in
        let above : low ≤ℤ v = omega (arith, ints) in
        let below : v ≤ℤ high = omega (arith, ints) in
        let word : IsWord (v -ℤ low) = omega (arith, ints) in
        record { is = sym is ∙ int_wrap_fits w32 (v -ℤ low) word; above = above; below = below }

-- ---- the place while subscripts are taken

-- the place p lies in the part of size words that the subscripts so far leave, of a name that begins at the word first
-- and ends before words
pub record IsAt (dims : List Dim) (first words : ℕ) (size p : ℤ) : Type 0 where
  pub part : ℕ
  pub here : ℕ
  pub size_is : size ≡ pos part
  pub here_is : p ≡ pos here
  pub some : 1 ≤ part
  pub above : first ≤ here
  pub below : here < first + part
  pub fits : first + part * count_of dims ≤ words

-- a subscript that does not trap leaves the place within a smaller part
pub moved-at : (dim : Dim) (dims : List Dim) (first words : ℕ) (size p v q : ℤ) → words ≤ 2147483647 → All IsOrdered (dim ∷ dims) → IsAt (dim ∷ dims) first words size p → moved size dim p v ≡ Ok q → IsAt dims first words (size *ℤ extent dim) q
moved-at dim dims first words size p v q few all at e = by (applied Bound (v ∷ dim.lo ∷ dim.hi ∷ [])) refl e
  where
    is_dim : IsOrdered dim
    is_dim = All-head IsOrdered dim dims all

    more : 1 ≤ count_of dims
    more = count-one dims (All-tail IsOrdered dim dims all)

    -- the part of a dimension
    part_fits : at.part * width_of dim ≤ at.part * width_of dim * count_of dims
    part_fits = let m = mul-le-mul_left (at.part * width_of dim) more in omega (arith, m)

    whole : at.part * (width_of dim * count_of dims) ≡ at.part * width_of dim * count_of dims
    whole = sym (mul_assoc at.part (width_of dim) (count_of dims))

    small : at.part * width_of dim ≤ words
    small = let f = at.fits in omega (arith, f, whole, part_fits)

    width_small : width_of dim ≤ words
    width_small = let m = mul-le-mul_right (width_of dim) at.some in omega (arith, small, m)

    step : (n : ℕ) → n < width_of dim → applied Place (p ∷ pos n ∷ size ∷ []) ≡ Ok q → IsAt dims first words (size *ℤ extent dim) q
    step n lt h =
        let m = mul-le-mul_right at.part lt in
        let below : at.here + n * at.part < first + at.part * width_of dim = omega (arith, m, at.below) in
        let word : IsWord (pos (at.here + n * at.part)) = record { sfits = omega (arith, below, small, few, at.fits, whole, part_fits) } in
        let said : applied Place (pos at.here ∷ pos n ∷ pos at.part ∷ []) ≡ Ok (pos (at.here + n * at.part)) = applied-Place (pos at.here) (pos n) (pos at.part) word in
        let is : Ok (pos (at.here + n * at.part)) ≡ Ok q = sym said ∙ sym (ap (λ x. applied Place (x ∷ pos n ∷ size ∷ [])) at.here_is ∙ ap (λ x. applied Place (pos at.here ∷ pos n ∷ x ∷ [])) at.size_is) ∙ h in
        record {
          part = at.part * width_of dim;
          here = at.here + n * at.part;
          size_is = ap (λ x. x *ℤ extent dim) at.size_is ∙ ap (λ x. pos at.part *ℤ x) (extent-pos dim is_dim);
          here_is = let same : pos (at.here + n * at.part) ≡ q = cc in sym same;
          some = let m = mul-le-mul_left at.part (extent-one dim is_dim) in let s = at.some in omega (arith, m, s);
          above = let a = at.above in omega (arith, a);
          below = below;
          fits = let f = at.fits in omega (arith, f, whole);
        }

    by : (r : Result ℤ Trap) → applied Bound (v ∷ dim.lo ∷ dim.hi ∷ []) ≡ r → and_then (λ d. applied Place (p ∷ d ∷ size ∷ [])) r ≡ Ok q → IsAt dims first words (size *ℤ extent dim) q
    by (Err trap) f h = let no : Err trap ≡ Ok q = h in absurd cc
    by (Ok d) f h =
        let ex = extent-pos dim is_dim in
        let within = Bound-ok v dim.lo dim.hi d (omega (arith, ints, ex, width_small, few)) f in
        let d_is : d ≡ pos (nat_abs d) = nonneg d (let i = within.is in let a = within.above in omega (arith, ints, i, a)) in
        let lt : nat_abs d < width_of dim = let i = within.is in let b = within.below in omega (arith, ints, ex, d_is, i, b) in
        step (nat_abs d) lt (ap (λ x. applied Place (p ∷ x ∷ size ∷ [])) (sym d_is) ∙ h)

-- a name whose words lie in a store
pub record HasWords (names : List NameInfo) (k words : ℕ) : Type 0 where
  pub bounds : All IsOrdered (dims_of names k)
  pub inside : (pos (place_of names k) +ℤ size_of (dims_of names k)) ≤ℤ pos words

has_words : (names : List NameInfo) (k words : ℕ) → All (IsPlaced words) names → k < length names → HasWords names k words
has_words [] k words all lt = absurd (omega (arith, lt))
has_words (info ∷ names) zero words all lt =
    let placed = All-head (IsPlaced words) info names all in
    record { bounds = placed.bounds; inside = placed.inside }
has_words (info ∷ names) (suc k) words all lt =
    let rest = has_words names k words (All-tail (IsPlaced words) info names all) (omega (arith, lt)) in
    record { bounds = rest.bounds; inside = rest.inside }

-- where the words of a name end, as a count
abbrev pub count_end : List NameInfo → ℕ → ℕ
count_end names k = place_of names k + count_of (dims_of names k)

pub record IsTaken (names : List NameInfo) (k words : ℕ) : Type 0 where
  pub bounds : All IsOrdered (dims_of names k)
  pub few : count_end names k ≤ 2147483647
  pub inside : count_end names k ≤ words
  pub start : IsAt (dims_of names k) (place_of names k) (count_end names k) (pos 1) (pos (place_of names k))

pub name-taken : (names : List NameInfo) (k words : ℕ) → ArePlaced names words → k < length names → IsTaken names k words
name-taken names k words placed lt =
    let has = has_words names k words placed.each lt in
    let is = count-is (dims_of names k) has.bounds in
    let fits = has.inside in
    let inside : count_end names k ≤ words = omega (arith, ints, is, fits) in
    let few : count_end names k ≤ 2147483647 = let f = placed.few in omega (arith, inside, f) in
    record {
      bounds = has.bounds;
      few = few;
      inside = inside;
      start = record { part = 1; here = place_of names k; size_is = refl; here_is = refl; some = omega arith; above = omega arith; below = omega arith; fits = omega arith };
    }

-- a word between the first one of a name and the end of its words
record IsBetween (names : List NameInfo) (k w : ℕ) : Type 0 where
  pub above : place_of names k ≤ w
  pub below : w < count_end names k

at-end : (names : List NameInfo) (k words : ℕ) (size p : ℤ) → words ≡ count_end names k → IsAt [] (place_of names k) words size p → IsBetween names k (nat_abs p)
at-end names k words size p e at =
    let is : nat_abs p ≡ at.here = ap nat_abs at.here_is in
    let above = at.above in
    let below = at.below in
    let fits = at.fits in
    record { above = omega (arith, is, above); below = omega (arith, is, below, fits, e) }

-- what the subscripts leave, where none traps
subscripted-at : (names : List NameInfo) (k : ℕ) (dims : List Dim) (size p q : ℤ) (values : List (Result ℤ Trap)) → count_end names k ≤ 2147483647 → All IsOrdered dims → length values ≡ length dims → IsAt dims (place_of names k) (count_end names k) size p → subscripted dims size p values ≡ Ok q → IsBetween names k (nat_abs q)
subscripted-at names k [] size p q [] few all len at e =
    let is : p ≡ q = cc in
    subst (λ x. IsBetween names k (nat_abs x)) is (at-end names k (count_end names k) size p refl at)
subscripted-at names k (dim ∷ dims) size p q [] few all len at e = absurd (omega (arith, len))
subscripted-at names k [] size p q (v ∷ values) few all len at e = absurd (omega (arith, len))
subscripted-at names k (dim ∷ dims) size p q (v ∷ values) few all len at e =
    by v refl (λ y there h. subscripted-at names k dims (size *ℤ extent dim) y q values few (All-tail IsOrdered dim dims all) (omega (arith, len)) there h)
  where
    so : (r : Result ℤ Trap) → v ≡ r → and_then (λ y. subscripted dims (size *ℤ extent dim) y values) (and_then (moved size dim p) r) ≡ Ok q
    so r f = sym (ap (λ s. and_then (λ y. subscripted dims (size *ℤ extent dim) y values) (and_then (moved size dim p) s)) f) ∙ e

    on : (x : ℤ) (r : Result ℤ Trap) → ((y : ℤ) → IsAt dims (place_of names k) (count_end names k) (size *ℤ extent dim) y → subscripted dims (size *ℤ extent dim) y values ≡ Ok q → IsBetween names k (nat_abs q)) → moved size dim p x ≡ r → and_then (λ y. subscripted dims (size *ℤ extent dim) y values) r ≡ Ok q → IsBetween names k (nat_abs q)
    on x (Err trap) rest g h = let no : Err trap ≡ Ok q = h in absurd cc
    on x (Ok y) rest g h = rest y (moved-at dim dims (place_of names k) (count_end names k) size p x y few all at g) h

    by : (r : Result ℤ Trap) → v ≡ r → ((y : ℤ) → IsAt dims (place_of names k) (count_end names k) (size *ℤ extent dim) y → subscripted dims (size *ℤ extent dim) y values ≡ Ok q → IsBetween names k (nat_abs q)) → IsBetween names k (nat_abs q)
    by (Err trap) f rest = let no : Err trap ≡ Ok q = so (Err trap) f in absurd cc
    by (Ok x) f rest = on x (moved size dim p x) rest refl (so (Ok x) f)

word-of : (names : List NameInfo) (k w : ℕ) → k < length names → All IsOrdered (dims_of names k) → IsBetween names k w → IsWordOf names k w
word-of names k w known bounds between =
    let is = count-is (dims_of names k) bounds in
    let below = between.below in
    record { known = known; begins = between.above; ends = omega (arith, ints, is, below) }

-- an access that does not trap names a word of its name
pub word-in : (names : List NameInfo) (k words w : ℕ) (values : List (Result ℤ Trap)) → ArePlaced names words → k < length names → length values ≡ length (dims_of names k) → word_of names k values ≡ Ok w → IsWordOf names k w
word-in names k words w values placed lt len e = by (subscripted (dims_of names k) (pos 1) (pos (place_of names k)) values) refl e
  where
    by : (r : Result ℤ Trap) → subscripted (dims_of names k) (pos 1) (pos (place_of names k)) values ≡ r → and_then (λ p. Ok (nat_abs p)) r ≡ Ok w → IsWordOf names k w
    by (Err trap) f h = let no : Err trap ≡ Ok w = h in absurd cc
    by (Ok q) f h =
        let is : nat_abs q ≡ w = cc in
        let taken = name-taken names k words placed lt in
        subst (IsWordOf names k) is (word-of names k (nat_abs q) lt taken.bounds (subscripted-at names k (dims_of names k) (pos 1) (pos (place_of names k)) q values taken.few taken.bounds len taken.start f))

-- the same, said of an access
pub place-in : (names : List NameInfo) (store : List ℤ) (next : Option ℤ) (access : Access) (words w : ℕ) → ArePlaced names words → IsAccess names access → place names store next access ≡ Ok w → IsWordOf names access.name w
place-in names store next access words w placed is e =
    word-in names access.name words w (map (value names store next) access.subs) placed is.known (length-map access.subs (value names store next) ∙ is.as_many) e

-- the words of the names lie in the store
pub place-inside : (names : List NameInfo) (store : List ℤ) (next : Option ℤ) (access : Access) (w : ℕ) → ArePlaced names (length store) → IsAccess names access → place names store next access ≡ Ok w → w < length store
place-inside names store next access w placed is e =
    let below = (place-in names store next access (length store) w placed is e).ends in
    let inside = (has_words names access.name (length store) placed.each is.known).inside in
    omega (arith, ints, below, inside)

-- ---- one subscript more

pub subscripted-next : {X : Type 0} (f : X → Result ℤ Trap) (dims : List Dim) (subs : List X) (k : ℕ) (dim : Dim) (sub : X) (size p v q : ℤ) → k < length dims → dim ≡ get_or dims k dim → k < length subs → sub ≡ get_or subs k sub → f sub ≡ Ok v → moved size dim p v ≡ Ok q → subscripted (drop k dims) size p (map f (drop k subs)) ≡ subscripted (drop (k + 1) dims) (size *ℤ extent dim) q (map f (drop (k + 1) subs))
subscripted-next f dims subs k dim sub size p v q lt_dim at_dim lt_sub at_sub was is =
    rw (add-one, drop-cons dims k dim, drop-cons subs k sub, ← at_dim, ← at_sub, was, is) refl

-- the next subscript traps
pub subscripted-trap : {X : Type 0} (f : X → Result ℤ Trap) (dims : List Dim) (subs : List X) (k : ℕ) (dim : Dim) (sub : X) (size p : ℤ) (trap : Trap) → k < length dims → dim ≡ get_or dims k dim → k < length subs → sub ≡ get_or subs k sub → f sub ≡ Err trap → subscripted (drop k dims) size p (map f (drop k subs)) ≡ Err trap
subscripted-trap f dims subs k dim sub size p trap lt_dim at_dim lt_sub at_sub was =
    rw (drop-cons dims k dim, drop-cons subs k sub, ← at_dim, ← at_sub, was) refl

-- the next subscript lies outside its bounds
pub subscripted-outside : {X : Type 0} (f : X → Result ℤ Trap) (dims : List Dim) (subs : List X) (k : ℕ) (dim : Dim) (sub : X) (size p v : ℤ) (trap : Trap) → k < length dims → dim ≡ get_or dims k dim → k < length subs → sub ≡ get_or subs k sub → f sub ≡ Ok v → moved size dim p v ≡ Err trap → subscripted (drop k dims) size p (map f (drop k subs)) ≡ Err trap
subscripted-outside f dims subs k dim sub size p v trap lt_dim at_dim lt_sub at_sub was is =
    rw (drop-cons dims k dim, drop-cons subs k sub, ← at_dim, ← at_sub, was, is) refl

-- ---- the code's numbers are words

pub record AreWords (size p : ℤ) : Type 0 where
  pub size_word : IsWord size
  pub place_word : IsWord p

pub at-words : (dims : List Dim) (first words : ℕ) (size p : ℤ) → words ≤ 2147483647 → All IsOrdered dims → IsAt dims first words size p → AreWords size p
at-words dims first words size p few all at =
    let more = count-one dims all in
    let m = mul-le-mul_left at.part more in
    let fits = at.fits in
    let below = at.below in
    record {
      size_word = subst IsWord (sym at.size_is) (record { sfits = omega (arith, m, fits, few) });
      place_word = subst IsWord (sym at.here_is) (record { sfits = omega (arith, m, fits, few, below) });
    }

-- a dimension that is still to come
pub record HasNext (dims : List Dim) (k : ℕ) (dim : Dim) (first words : ℕ) (size p : ℤ) : Type 0 where
  pub is_dim : IsOrdered dim
  pub few : extent dim <ℤ pos 2147483648
  pub rest : All IsOrdered (drop (k + 1) dims)
  pub goes_on : (v q : ℤ) → moved size dim p v ≡ Ok q → IsAt (drop (k + 1) dims) first words (size *ℤ extent dim) q

next-dim : (dims : List Dim) (k : ℕ) (dim : Dim) (more : List Dim) (first words : ℕ) (size p : ℤ) → more ≡ drop (k + 1) dims → words ≤ 2147483647 → All IsOrdered (dim ∷ more) → IsAt (dim ∷ more) first words size p → HasNext dims k dim first words size p
next-dim dims k dim more first words size p e few all at =
    let is_dim = All-head IsOrdered dim more all in
    let width = extent-pos dim is_dim in
    let one = count-one more (All-tail IsOrdered dim more all) in
    let m = mul-le-mul_left (width_of dim) one in
    let n = mul-le-mul_right (width_of dim * count_of more) at.some in
    let fits = at.fits in
    let small : width_of dim ≤ 2147483647 = omega (arith, m, n, fits, few) in
    record {
      is_dim = is_dim;
      few = omega (arith, ints, width, small);
      rest = subst (All IsOrdered) e (All-tail IsOrdered dim more all);
      goes_on = λ v q h. subst (λ ds. IsAt ds first words (size *ℤ extent dim) q) e (moved-at dim more first words size p v q few all at h);
    }

pub has_next : (dims : List Dim) (k : ℕ) (dim : Dim) (first words : ℕ) (size p : ℤ) → k < length dims → dim ≡ get_or dims k dim → words ≤ 2147483647 → All IsOrdered (drop k dims) → IsAt (drop k dims) first words size p → HasNext dims k dim first words size p
has_next dims k dim first words size p lt is few all at =
    let cons : drop k dims ≡ dim ∷ drop (suc k) dims = rw (drop-cons dims k dim, ← is) refl in
    next-dim dims k dim (drop (suc k) dims) first words size p (ap (λ n. drop n dims) (sym (add-one k))) few (subst (All IsOrdered) cons all) (subst (λ ds. IsAt ds first words size p) cons at)
