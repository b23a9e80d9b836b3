-- Where the statements of an item stand in the simplified form, and where the item after it begins.
use Rattle.std.proofs.Common.{◌≡◌, ℕ, zero, suc, ◌+◌, ◌-◌, ◌<◌, ◌≤◌, Bool, true, false, ◌&&◌, List, [], ◌∷◌, ◌++◌, length, map, Some, refl, sym, ap, ◌∙◌, ⊎_elim, arith}
use Rattle.std.specs.Prelude.{if◌then◌else◌, slice_get}
use Rattle.std.proofs.lemmas.Bool.{cases_Bool, cases_lt, eqb-true}
use Rattle.std.proofs.lemmas.List.{length-append, length-map}
use Rattle.f77_tree.specs.declared.programs.Program.{Program}
use Rattle.alias_classes.specs.Classes.{ClassTable}
use Rattle.cfg_build.specs.Parts.{line_in}
use Rattle.const_prop.specs.Table.{Knowns}
use Rattle.flat_programs.specs.declared.statements.Flat.{Flat}
use Rattle.flat_programs.specs.declared.statements.Flat.TheVariants.{Mark, Jump}
use Rattle.flat_programs.specs.declared.statements.FlatLine.{FlatLine}
use Rattle.simplified_laws.specs.InStep.{after_mark}
use Rattle.simplified_forms.specs.Simplified.{is_next, items_before}
use Rattle.simplified_laws.proofs.FlatItems.{all, begins, jumps_of, left_over, mark_by, marked, number, own_of, part, part-at, part-size, stmts, stmts-size, with_line}
use Rattle.simplified_laws.proofs.ItemPlaces.{statements-stand}
use Rattle.simplified_laws.proofs.ItemsBefore.{before-item, before-none, before-rises}
use Rattle.simplified_laws.proofs.ListParts.{after-left, get-middle, get-within}

-- ---- lists

pub left-true : (a b : Bool) → (a && b) ≡ true → a ≡ true
left-true true b is = refl
left-true false b is = is

right-true : (a b : Bool) → (a && b) ≡ true → b ≡ true
right-true true b is = is
right-true false b is = absurd cc

jump-last : (xs : List Flat) (j : Flat) → slice_get (xs ++ j ∷ []) (length xs) ≡ Some j
jump-last xs j = let none : length xs ≡ length xs + 0 = omega arith in ap (slice_get (xs ++ j ∷ [])) none ∙ after-left xs (j ∷ []) 0

module _ (p : Program) (c : ClassTable) (t : Knowns) (checked : Bool) (is_item : ℕ → Bool) where
  abbrev pub item_line : (k : ℕ) → Flat → FlatLine
  item_line k stmt = with_line (line_in (slice_get p.execs k)) stmt

  -- the place at which the jump of an item stands, if it has one
  abbrev pub jump_place : (k : ℕ) → ℕ
  jump_place k = after_mark p c t checked is_item k + length (own_of p c t checked is_item k)

  mark-size : (b : Bool) → length (mark_by p c t checked is_item b) ≡ (if b then 1 else 0)
  mark-size true = refl
  mark-size false = refl

  -- ---- the statements of an item

  line-at : (k i : ℕ) (stmt : Flat) → k < length p.execs → is_item k ≡ true → slice_get (stmts p c t checked is_item k) i ≡ Some stmt → slice_get (all p c t checked is_item) (begins p c t checked is_item k + i) ≡ Some (item_line k stmt)
  line-at k i stmt within item is =
      let here = part-at p c t checked is_item k i stmt item is in
      (statements-stand p c t checked is_item k within).each i (get-within (part p c t checked is_item k) i (item_line k stmt) here) ∙ here

  pub mark-at : (k : ℕ) → k < length p.execs → is_item k ≡ true → marked p c t checked is_item k ≡ true → slice_get (all p c t checked is_item) (begins p c t checked is_item k) ≡ Some (item_line k Mark)
  mark-at k within item has =
      let place : begins p c t checked is_item k ≡ begins p c t checked is_item k + 0 = omega arith in
      let first : slice_get (stmts p c t checked is_item k) 0 ≡ Some Mark = ap (λ b. slice_get ((mark_by p c t checked is_item b ++ own_of p c t checked is_item k) ++ jumps_of p c t checked is_item k) 0) has in
      ap (slice_get (all p c t checked is_item)) place ∙ line-at k 0 Mark within item first

  pub own-at : (k : ℕ) (s : Flat) → k < length p.execs → is_item k ≡ true → own_of p c t checked is_item k ≡ s ∷ [] → slice_get (all p c t checked is_item) (after_mark p c t checked is_item k) ≡ Some (item_line k s)
  own-at k s within item is =
      let front = mark_by p c t checked is_item (marked p c t checked is_item k) in
      let size = mark-size (marked p c t checked is_item k) in
      let there : slice_get (stmts p c t checked is_item k) (length front) ≡ Some s =
      ap (λ (own : List Flat). slice_get ((front ++ own) ++ jumps_of p c t checked is_item k) (length front)) is ∙ get-middle front s (jumps_of p c t checked is_item k) in
      ap (λ n. slice_get (all p c t checked is_item) (begins p c t checked is_item k + n)) (sym size) ∙ line-at k (length front) s within item there

  pub jump-at : (k s : ℕ) → k < length p.execs → is_item k ≡ true → left_over p c t checked is_item k ≡ s ∷ [] → slice_get (all p c t checked is_item) (jump_place k) ≡ Some (item_line k (Jump (number p c t checked is_item s)))
  jump-at k s within item is =
      let front = mark_by p c t checked is_item (marked p c t checked is_item k) in
      let own = own_of p c t checked is_item k in
      let j : Flat = Jump (number p c t checked is_item s) in
      let size = mark-size (marked p c t checked is_item k) in
      let both = length-append front own in
      let place : jump_place k ≡ begins p c t checked is_item k + length (front ++ own) = omega (arith, size, both) in
      let there : slice_get (stmts p c t checked is_item k) (length (front ++ own)) ≡ Some j =
      ap (λ (xs : List ℕ). slice_get ((front ++ own) ++ map (λ x. Jump (number p c t checked is_item x)) xs) (length (front ++ own))) is ∙ jump-last (front ++ own) j in
      ap (slice_get (all p c t checked is_item)) place ∙ line-at k (length (front ++ own)) j within item there

  -- ---- the next executable

  pub begins-next : (k : ℕ) → k < length p.execs → is_item k ≡ true → begins p c t checked is_item (k + 1) ≡ jump_place k + length (left_over p c t checked is_item k)
  begins-next k within item =
      let next = (statements-stand p c t checked is_item k within).next in
      let size = part-size p c t checked is_item k item in
      let sum = stmts-size p c t checked is_item k in
      let some = length-map (left_over p c t checked is_item k) (λ s. Jump (number p c t checked is_item s)) in
      let first = mark-size (marked p c t checked is_item k) in
      omega (arith, next, size, sum, some, first)

  begins-none : (k : ℕ) → k < length p.execs → is_item k ≡ false → begins p c t checked is_item (k + 1) ≡ begins p c t checked is_item k
  begins-none k within none =
      let next = (statements-stand p c t checked is_item k within).next in
      let size : length (part p c t checked is_item k) ≡ 0 = ap (λ b. length (if b then map (item_line k) (stmts p c t checked is_item k) else [])) none in
      omega (arith, next, size)

  -- where no item stands between, nothing stands between
  no-items : (a d : ℕ) → a + d ≤ length p.execs → items_before is_item (a + d) ≡ items_before is_item a → begins p c t checked is_item (a + d) ≡ begins p c t checked is_item a
  no-items a zero within same = let e : a + 0 ≡ a = omega arith in ap (begins p c t checked is_item) e
  no-items a (suc d) within same =
      let e : a + suc d ≡ (a + d) + 1 = omega arith in
      let at = ap (items_before is_item) e in
      let rises = before-rises is_item a d in
      ⊎_elim
      (λ (item : is_item (a + d) ≡ true). let more = before-item is_item (a + d) item in absurd (omega (arith, at, more, rises, same)))
      (λ (none : is_item (a + d) ≡ false).
      let on = before-none is_item (a + d) none in
      ap (begins p c t checked is_item) e ∙ begins-none (a + d) (omega (arith, within)) none ∙ no-items a d (omega (arith, within)) (omega (arith, at, on, same)))
      (cases_Bool (is_item (a + d)))

  -- the item after an item
  pub record IsAfterIt (k s : ℕ) : Type 0 where
    pub later : k < s
    pub begins_there : begins p c t checked is_item s ≡ begins p c t checked is_item (k + 1)

  pub next-item : (k s : ℕ) → s < length p.execs → is_item k ≡ true → is_next is_item k s ≡ true → IsAfterIt k s
  next-item k s within item is =
      let same : items_before is_item s ≡ items_before is_item k + 1 = eqb-true (items_before is_item s) (items_before is_item k + 1) (right-true (is_item s) _ is) in
      let next = before-item is_item k item in
      let later : k < s = ⊎_elim
      (λ (less : k < s). less)
      (λ (le : s ≤ k).
      let e : s + (k - s) ≡ k = omega (arith, le) in
      let rises = before-rises is_item s (k - s) in
      let there = ap (items_before is_item) e in
      absurd (omega (arith, rises, there, same)))
      (cases_lt k s)
      in
      let d = s - (k + 1) in
      let e : (k + 1) + d ≡ s = omega (arith, later) in
      record {
        later = later;
        begins_there = ap (begins p c t checked is_item) (sym e) ∙ no-items (k + 1) d (omega (arith, e, within)) (ap (items_before is_item) e ∙ same ∙ sym next);
      }
