-- The statements of the simplified form, each with its item; and what is needed of items for these statements to make a flat program.
use Rattle.std.proofs.Common.{◌≡◌, ℕ, zero, suc, ◌+◌, ◌<◌, ◌≤◌, ◌⊎◌, Bool, true, false, ◌&&◌, ◌==◌, ◌||◌, List, [], ◌∷◌, ◌++◌, length, map, Option, Some, None, refl, sym, ap, ◌∙◌, inl, inr, ⊎_elim, arith}
use Rattle.std.specs.Prelude.{if◌then◌else◌, slice_get}
use Rattle.std.specs.List.{list_any, range_with_len}
use Rattle.std.proofs.lemmas.Bool.{cases_Bool, eq-eqb, or_right}
use Rattle.std.proofs.lemmas.List.{length-append, length-map}
use Rattle.list_laws.specs.Member.{Member}
use Rattle.list_laws.proofs.Members.{Member-range, list_any_member}
use Rattle.f77_tree.specs.declared.programs.Program.{Program}
use Rattle.f77_tree.specs.Control.{LeadsTo}
use Rattle.f77_tree.specs.Loops.{do_start, do_next}
use Rattle.alias_classes.specs.Classes.{ClassTable}
use Rattle.cfg_build.specs.Parts.{line_in}
use Rattle.const_prop.specs.Table.{Knowns}
use Rattle.flat_programs.specs.declared.statements.Flat.{Flat}
use Rattle.flat_programs.specs.declared.statements.Flat.TheVariants.{Mark, Jump}
use Rattle.flat_programs.specs.declared.statements.FlatLine.{FlatLine}
use Rattle.simplified_laws.specs.ItemPlaces.{begins_at}
use Rattle.simplified_forms.specs.Items.{kind_at}
use Rattle.simplified_forms.specs.Simplified.{decided, flat, has_mark, is_increment, is_jumped_to, is_next, jumps, last_jump, left_of, lines, mark_of, rest, statements, words_at}
use Rattle.simplified_laws.proofs.ListParts.{IsAfter, from-part, get-within, parted}

-- Executables that are kept: END; what a kept one jumps to, which is one of its successors; and the beginning and the increment of a
-- DO together.
pub record AreClosedItems (p : Program) (t : Knowns) (is_item : ℕ → Bool) : Type 0 where
  pub within : (k : ℕ) → is_item k ≡ true → k < length p.execs
  pub last : (k : ℕ) → suc k ≡ length p.execs → is_item k ≡ true
  pub leads : (k s : ℕ) → 0 < s → Member (jumps p t is_item k) s → LeadsTo p.execs k s
  pub jumps : (k s : ℕ) → is_item k ≡ true → Member (jumps p t is_item k) s → is_item s ≡ true
  pub dos : (n : ℕ) → n < p.loops → is_item (do_start p.execs n) ≡ true → is_item (do_next p.execs n) ≡ true
  pub starts : (n : ℕ) → n < p.loops → is_item (do_next p.execs n) ≡ true → is_item (do_start p.execs n) ≡ true

both-true : (a b : Bool) → a ≡ true → b ≡ true → (a && b) ≡ true
both-true true b first second = second
both-true false b first second = first

left-true : (a b : Bool) → (a && b) ≡ true → a ≡ true
left-true true b is = refl
left-true false b is = is

-- ---- statements with their line

abbrev pub with_line : (line : ℕ) → Flat → FlatLine
with_line line stmt = record { line = line; stmt = stmt }

stmt-of : (line : ℕ) (xs : List Flat) (i : ℕ) (l : FlatLine) → slice_get (map (with_line line) xs) i ≡ Some l → slice_get xs i ≡ Some l.stmt
stmt-of line [] i l is = let no : None ≡ Some l = is in absurd cc
stmt-of line (x ∷ xs) zero l is = let same : with_line line x ≡ l = cc in ap (λ (y : FlatLine). Some y.stmt) same
stmt-of line (x ∷ xs) (suc i) l is = stmt-of line xs i l is

pub line-of : (line : ℕ) (xs : List Flat) (i : ℕ) (x : Flat) → slice_get xs i ≡ Some x → slice_get (map (with_line line) xs) i ≡ Some (with_line line x)
line-of line [] i x is = let no : None ≡ Some x = is in absurd cc
line-of line (y ∷ ys) zero x is = let same : y ≡ x = cc in ap (λ z. Some (with_line line z)) same
line-of line (y ∷ ys) (suc i) x is = line-of line ys i x is

-- one jump at most
record IsOneJump (mark : ℕ → ℕ) (xs : List ℕ) (i : ℕ) (stmt : Flat) : Type 0 where
  target : ℕ
  one : xs ≡ target ∷ []
  first : i ≡ 0
  is : stmt ≡ Jump (mark target)

one-jump : (mark : ℕ → ℕ) (xs : List ℕ) (i : ℕ) (stmt : Flat) → length xs ≤ 1 → slice_get (map (λ s. Jump (mark s)) xs) i ≡ Some stmt → IsOneJump mark xs i stmt
one-jump mark [] i stmt few is = let no : None ≡ Some stmt = is in absurd cc
one-jump mark (x ∷ []) zero stmt few is = let same : Jump (mark x) ≡ stmt = cc in record { target = x; one = refl; first = refl; is = sym same }
one-jump mark (x ∷ []) (suc i) stmt few is = let no : None ≡ Some stmt = is in absurd cc
one-jump mark (x ∷ y ∷ ys) i stmt few is = absurd (omega (arith, few))

module _ (p : Program) (c : ClassTable) (t : Knowns) (checked : Bool) (is_item : ℕ → Bool) where
  abbrev pub part : ℕ → List FlatLine
  part = lines p c t checked is_item

  abbrev pub begins : ℕ → ℕ
  begins = begins_at p c t checked is_item

  abbrev pub all : List FlatLine
  all = flat p c t checked is_item

  abbrev pub marked : ℕ → Bool
  marked = has_mark p t is_item

  abbrev pub number : ℕ → ℕ
  number = mark_of p t is_item

  -- ---- the statements of one executable: its mark, its own, and its jump

  abbrev pub mark_by : Bool → List Flat
  mark_by b = if b then Mark ∷ [] else []

  abbrev pub own_of : (k : ℕ) → List Flat
  own_of k = left_of p checked (words_at p c t checked is_item k) number (kind_at p k) (decided p t k)

  abbrev pub left_over : (k : ℕ) → List ℕ
  left_over k = last_jump is_item k (rest (kind_at p k) (decided p t k))

  abbrev pub jumps_of : (k : ℕ) → List Flat
  jumps_of k = map (λ s. Jump (number s)) (left_over k)

  abbrev pub stmts : (k : ℕ) → List Flat
  stmts k = statements p c t checked is_item k

  abbrev lines_if : (k : ℕ) → Bool → List FlatLine
  lines_if k b = if b then map (with_line (line_in (slice_get p.execs k))) (stmts k) else []

  pub stmts-size : (k : ℕ) → length (stmts k) ≡ length (mark_by (marked k)) + length (own_of k) + length (jumps_of k)
  stmts-size k =
      let both = length-append (mark_by (marked k) ++ own_of k) (jumps_of k) in
      let one = length-append (mark_by (marked k)) (own_of k) in
      omega (arith, both, one)

  pub part-size : (k : ℕ) → is_item k ≡ true → length (part k) ≡ length (stmts k)
  part-size k item = ap (λ b. length (lines_if k b)) item ∙ length-map (stmts k) (with_line (line_in (slice_get p.execs k)))

  -- a statement of an item, and its line
  pub part-at : (k i : ℕ) (stmt : Flat) → is_item k ≡ true → slice_get (stmts k) i ≡ Some stmt → slice_get (part k) i ≡ Some (with_line (line_in (slice_get p.execs k)) stmt)
  part-at k i stmt item is = ap (λ b. slice_get (lines_if k b) i) item ∙ line-of (line_in (slice_get p.execs k)) (stmts k) i stmt is

  part-item : (k i : ℕ) (l : FlatLine) → slice_get (part k) i ≡ Some l → is_item k ≡ true
  part-item k i l is = ⊎_elim
      (λ (item : is_item k ≡ true). item)
      (λ (none : is_item k ≡ false). let no : None ≡ Some l = ap (λ b. slice_get (lines_if k b) i) (sym none) ∙ is in absurd cc)
      (cases_Bool (is_item k))

  part-stmt : (k i : ℕ) (l : FlatLine) → is_item k ≡ true → slice_get (part k) i ≡ Some l → slice_get (stmts k) i ≡ Some l.stmt
  part-stmt k i l item is = stmt-of (line_in (slice_get p.execs k)) (stmts k) i l (ap (λ b. slice_get (lines_if k b) i) (sym item) ∙ is)

  -- ---- where a statement comes from

  pub record IsOf (place : ℕ) (stmt : Flat) : Type 0 where
    pub exec : ℕ
    pub within : exec < length p.execs
    pub item : is_item exec ≡ true
    pub index : ℕ
    pub is : slice_get (stmts exec) index ≡ Some stmt
    pub some : index < length (part exec)
    pub stands : place ≡ begins exec + index

  pub origin : (place : ℕ) (l : FlatLine) → slice_get all place ≡ Some l → IsOf place l.stmt
  origin place l is =
      let r = from-part part (length p.execs) place l is in
      let item = part-item r.part r.index l r.is in
      record {
        exec = r.part;
        within = r.within;
        item = item;
        index = r.index;
        is = part-stmt r.part r.index l item r.is;
        some = get-within (part r.part) r.index l r.is;
        stands = r.stands;
      }

  -- ---- which of the statements of its item it is

  pub record IsItsMark (k i : ℕ) (stmt : Flat) : Type 0 where
    pub has : marked k ≡ true
    pub first : i ≡ 0
    pub is : stmt ≡ Mark

  pub record IsItsOwn (k i : ℕ) (stmt : Flat) : Type 0 where
    pub index : ℕ
    pub is : slice_get (own_of k) index ≡ Some stmt
    pub stands : i ≡ length (mark_by (marked k)) + index

  pub record IsItsJump (k i : ℕ) (stmt : Flat) : Type 0 where
    pub target : ℕ
    pub left : left_over k ≡ target ∷ []
    pub is : stmt ≡ Jump (number target)
    pub stands : i + 1 ≡ length (stmts k)

  its-mark : (k i : ℕ) (stmt : Flat) (b : Bool) → marked k ≡ b → slice_get (mark_by b) i ≡ Some stmt → IsItsMark k i stmt
  its-mark k zero stmt true has is = let same : Mark ≡ stmt = cc in record { has = has; first = refl; is = sym same }
  its-mark k (suc i) stmt true has is = let no : None ≡ Some stmt = is in absurd cc
  its-mark k i stmt false has is = let no : None ≡ Some stmt = is in absurd cc

  short-if : (b : Bool) (s : ℕ) → length (if b then [] else s ∷ []) ≤ 1
  short-if true s = omega arith
  short-if false s = omega arith

  pub few-left : (k : ℕ) (o : Option ℕ) → length (last_jump is_item k o) ≤ 1
  few-left k None = omega arith
  few-left k (Some s) = short-if (is_next is_item k s) s

  its-jump : (k i : ℕ) (stmt : Flat) → IsAfter (mark_by (marked k) ++ own_of k) (jumps_of k) i stmt → IsItsJump k i stmt
  its-jump k i stmt a =
      let j = one-jump number (left_over k) a.index stmt (few-left k (rest (kind_at p k) (decided p t k))) a.is in
      let size = length-append (mark_by (marked k) ++ own_of k) (jumps_of k) in
      let one : length (jumps_of k) ≡ 1 = ap (λ (xs : List ℕ). length (map (λ s. Jump (number s)) xs)) j.one in
      let stands = a.stands in
      let first = j.first in
      record { target = j.target; left = j.one; is = j.is; stands = omega (arith, size, one, stands, first) }

  pub which : (k i : ℕ) (stmt : Flat) → slice_get (stmts k) i ≡ Some stmt → IsItsMark k i stmt ⊎ (IsItsOwn k i stmt ⊎ IsItsJump k i stmt)
  which k i stmt is = ⊎_elim
      (λ (front : slice_get (mark_by (marked k) ++ own_of k) i ≡ Some stmt). ⊎_elim
      (λ (first : slice_get (mark_by (marked k)) i ≡ Some stmt). inl (its-mark k i stmt (marked k) refl first))
      (λ (own : IsAfter (mark_by (marked k)) (own_of k) i stmt). inr (inl (record { index = own.index; is = own.is; stands = own.stands })))
      (parted (mark_by (marked k)) (own_of k) i stmt front))
      (λ (back : IsAfter (mark_by (marked k) ++ own_of k) (jumps_of k) i stmt). inr (inr (its-jump k i stmt back)))
      (parted (mark_by (marked k) ++ own_of k) (jumps_of k) i stmt is)

  -- ---- marks

  pub marked-item : (k : ℕ) → marked k ≡ true → is_item k ≡ true
  marked-item k has = left-true (is_item k) _ has

  pub marked-some : (k : ℕ) → marked k ≡ true → 0 < length (part k)
  marked-some k has =
      let size = part-size k (marked-item k has) in
      let sum = stmts-size k in
      let one : length (mark_by (marked k)) ≡ 1 = ap (λ b. length (mark_by b)) has in
      omega (arith, size, sum, one)

  -- what an item jumps to has a mark
  pub jumped-mark : AreClosedItems p t is_item → (k s : ℕ) → is_item k ≡ true → Member (jumps p t is_item k) s → marked s ≡ true
  jumped-mark closed k s item m =
      let below = closed.within k item in
      let here = both-true (is_item k) (list_any (λ x. x == s) (jumps p t is_item k)) item (list_any_member (λ x. x == s) (jumps p t is_item k) s m (eq-eqb s s refl)) in
      let jumped : is_jumped_to p t is_item s ≡ true =
      list_any_member (λ j. is_item j && list_any (λ x. x == s) (jumps p t is_item j)) (range_with_len 0 (length p.execs)) k (Member-range 0 (length p.execs) k (omega arith) (omega (arith, below))) here in
      both-true (is_item s) _ (closed.jumps k s item m) (or_right (is_increment (kind_at p s)) (is_jumped_to p t is_item s) jumped)

  -- so has an increment
  pub increment-mark : (k : ℕ) → is_item k ≡ true → is_increment (kind_at p k) ≡ true → marked k ≡ true
  increment-mark k item is = both-true (is_item k) _ item (ap (λ b. b || is_jumped_to p t is_item k) is)
