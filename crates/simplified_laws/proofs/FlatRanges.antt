-- The ranges of DOs in the simplified form are those of the program, cut down to what is kept.
use Rattle.std.proofs.Common.{◌≡◌, ℕ, suc, ◌+◌, ◌<◌, ◌≤◌, ◌⊎◌, Bool, List, [], ◌∷◌, length, map, Contains, Some, refl, sym, ap, subst, ◌∙◌, inl, inr, ⊎_elim, arith}
use Rattle.std.specs.Prelude.{slice_get}
use Rattle.std.proofs.lemmas.Bool.{cases_lt}
use Rattle.list_laws.specs.Member.{Member}
use Rattle.list_laws.proofs.Members.{IsImage, Member-from_Contains, Member-left, Member-mapped, Member-right}
use Rattle.f77_tree.specs.declared.programs.Program.{Program}
use Rattle.f77_tree.specs.Loops.{Loop, begun_in, do_start, do_next, incremented_in, AreLoops, Holds, InRange, IsLoop, ShareNone}
use Rattle.alias_classes.specs.Classes.{ClassTable}
use Rattle.const_prop.specs.Table.{Knowns}
use Rattle.flat_programs.specs.declared.statements.Flat.{Flat}
use Rattle.flat_programs.specs.declared.statements.Flat.TheVariants.{Mark, Jump}
use Rattle.flat_programs.specs.declared.statements.FlatLine.{FlatLine}
use Rattle.flat_programs.specs.FlatForm.{jumps as jump_numbers, range_end, IsSpan, LiesIn}
use Rattle.flat_programs.specs.Marks.{place_of}
use Rattle.simplified_forms.specs.Items.{kind_at}
use Rattle.simplified_forms.specs.Simplified.{decided, jumps, last_jump, mark_of, own_jumps, words_at}
use Rattle.simplified_laws.proofs.FlatItems.{AreClosedItems, IsItsJump, IsItsMark, IsItsOwn, IsOf, all, begins, jumped-mark, jumps_of, left_over, mark_by, marked, marked-some, number, origin, part, part-size, stmts-size, which}
use Rattle.simplified_laws.proofs.ItemPlaces.{marks-stand}
use Rattle.simplified_laws.proofs.ListParts.{one-part, part-before, size-up}
use Rattle.simplified_laws.proofs.LoopEnds.{begun-left, end-of}
use Rattle.simplified_laws.proofs.LoopKinds.{begun-jumps-in, incremented-jumps-in, not-both-in}
use Rattle.simplified_laws.proofs.OwnStatements.{IsDoOf, own-is}

module _ (p : Program) (c : ClassTable) (t : Knowns) (checked : Bool) (is_item : ℕ → Bool) (closed : AreClosedItems p t is_item) (loops : AreLoops p.execs p.loops) where
  abbrev text : List FlatLine
  text = all p c t checked is_item

  abbrev at : ℕ → ℕ
  at k = begins p c t checked is_item k

  abbrev size : ℕ → ℕ
  size k = length (part p c t checked is_item k)

  abbrev start : ℕ → ℕ
  start n = do_start p.execs n

  abbrev next : ℕ → ℕ
  next n = do_next p.execs n

  before : (a b : ℕ) → a < b → at a + size a ≤ at b
  before a b less = part-before (part p c t checked is_item) a b less

  up : (a b : ℕ) → a ≤ b → at a ≤ at b
  up a b le = size-up (part p c t checked is_item) a b le

  -- ---- the DO of a span

  pub record IsRange (head last : ℕ) : Type 0 where
    pub n : ℕ
    pub few : n < p.loops
    pub index : ℕ
    pub stands : head ≡ at (start n) + index
    pub alone : index + 1 ≡ size (start n)
    pub end : last ≡ at (next n)
    pub some : 0 < size (next n)

  range-by : (head last : ℕ) → (s : IsSpan text head last) → (o : IsOf p c t checked is_item head s.here.stmt) → (own : IsItsOwn p c t checked is_item o.exec o.index s.here.stmt) → IsDoOf p checked (words_at p c t checked is_item o.exec) (mark_of p t is_item) (kind_at p o.exec) s.here.stmt → length (mark_by p c t checked is_item (marked p c t checked is_item o.exec)) + 1 ≡ size o.exec → own.index ≡ 0 → IsRange head last
  range-by head last s o own begun_do whole first =
      let e = end-of p c t checked is_item closed loops o.exec begun_do.loop o.item begun_do.begins in
      let n = begun_do.loop.number in
      let lists : s.end ∷ [] ≡ number p c t checked is_item (next n) ∷ [] = sym s.ends ∙ begun_do.end in
      let same : s.end ≡ number p c t checked is_item (next n) = cc in
      let places = s.place ∙ ap (place_of text) same ∙ marks-stand p c t checked is_item (next n) (closed.within (next n) e.item) e.has in
      let starts = ap at e.start in
      let sizes = ap size e.start in
      let stands = o.stands in
      let inside = own.stands in
      record {
        n = n;
        few = e.few;
        index = o.index;
        stands = omega (arith, stands, starts);
        alone = omega (arith, inside, first, whole, sizes);
        end = places;
        some = marked-some p c t checked is_item (next n) e.has;
      }

  pub range-of : (head last : ℕ) → IsSpan text head last → IsRange head last
  range-of head last s =
      let o = origin p c t checked is_item head s.here s.is in
      let k = o.exec in
      ⊎_elim
      (λ (m : IsItsMark p c t checked is_item k o.index s.here.stmt). let no : [] ≡ s.end ∷ [] = sym (ap range_end m.is) ∙ s.ends in absurd cc)
      (⊎_elim
      (λ (own : IsItsOwn p c t checked is_item k o.index s.here.stmt).
      let only = own-is p checked (words_at p c t checked is_item k) (mark_of p t is_item) (kind_at p k) (decided p t k) own.index s.here.stmt own.is in
      ⊎_elim
      (λ (none : range_end s.here.stmt ≡ []). let no : [] ≡ s.end ∷ [] = sym none ∙ s.ends in absurd cc)
      (λ (begun_do : IsDoOf p checked (words_at p c t checked is_item k) (mark_of p t is_item) (kind_at p k) s.here.stmt).
      let left : left_over p c t checked is_item k ≡ [] = ap (last_jump is_item k) (begun-left p c t checked is_item k begun_do.loop (decided p t k) begun_do.begins) in
      let none : length (jumps_of p c t checked is_item k) ≡ 0 = ap (λ (xs : List ℕ). length (map (λ s. Jump (number p c t checked is_item s)) xs)) left in
      let sum = stmts-size p c t checked is_item k in
      let whole = part-size p c t checked is_item k o.item in
      let one = only.one in
      range-by head last s o own begun_do (omega (arith, none, sum, whole, one)) only.first)
      only.own.ends)
      (λ (jump : IsItsJump p c t checked is_item k o.index s.here.stmt). let no : [] ≡ s.end ∷ [] = sym (ap range_end jump.is) ∙ s.ends in absurd cc))
      (which p c t checked is_item k o.index s.here.stmt o.is)

  -- ---- of one span, and of two

  pub range-later : (head last : ℕ) → IsSpan text head last → head < last
  range-later head last s =
      let r = range-of head last s in
      let less = before (start r.n) (next r.n) (loops.each r.n r.few).later in
      let stands = r.stands in
      let alone = r.alone in
      let end = r.end in
      omega (arith, less, stands, alone, end)

  same-start : (head last other end : ℕ) (r : IsRange head last) (s : IsRange other end) → start r.n ≡ start s.n → head ≡ other
  same-start head last other end r s same =
      let places = ap at same in
      let sizes = ap size same in
      let a = r.stands in
      let b = s.stands in
      let x = r.alone in
      let y = s.alone in
      omega (arith, places, sizes, a, b, x, y)

  same-next : (head last other end : ℕ) (r : IsRange head last) (s : IsRange other end) → next r.n ≡ next s.n → start r.n ≡ start s.n
  same-next head last other end r s same =
      let x = loops.each r.n r.few in
      let y = loops.each s.n s.few in
      let both : Some x.loop ≡ Some y.loop = sym x.increments ∙ ap (λ k. incremented_in (slice_get p.execs k)) same ∙ y.increments in
      let one : x.loop ≡ y.loop = cc in
      ap start (sym x.number ∙ ap (λ (l : Loop). l.number) one ∙ y.number)

  pub range-alone : (head other last : ℕ) → IsSpan text head last → IsSpan text other last → head ≡ other
  range-alone head other last first second =
      let r = range-of head last first in
      let s = range-of other last second in
      let a = r.end in
      let b = s.end in
      same-start head last other last r s (same-next head last other last r s (one-part (part p c t checked is_item) (next r.n) (next s.n) 0 0 r.some s.some (omega (arith, a, b))))

  start-before : (head last other end : ℕ) (r : IsRange head last) (s : IsRange other end) → head < other → start r.n < start s.n
  start-before head last other end r s less = ⊎_elim
      (λ (lower : start s.n < start r.n).
      let first = before (start s.n) (start r.n) lower in
      let a = r.stands in
      let b = s.stands in
      let y = s.alone in
      absurd (omega (arith, first, a, b, y, less)))
      (λ (le : start r.n ≤ start s.n). ⊎_elim
      (λ (lower : start r.n < start s.n). lower)
      (λ (ge : start s.n ≤ start r.n).
      let same : start r.n ≡ start s.n = omega (arith, le, ge) in
      let heads = same-start head last other end r s same in
      absurd (omega (arith, heads, less)))
      (cases_lt (start r.n) (start s.n)))
      (cases_lt (start s.n) (start r.n))

  nested-by : (head last other end : ℕ) (r : IsRange head last) (s : IsRange other end) → start r.n < start s.n → Holds p.execs r.n s.n ⊎ (Holds p.execs s.n r.n ⊎ ShareNone p.execs r.n s.n) → (end < last) ⊎ (last < other)
  nested-by head last other end r s starts (inl holds) =
      let x = loops.each r.n r.few in
      let y = loops.each s.n s.few in
      let later = y.later in
      let inside : InRange p.execs r.n (next s.n) = holds (next s.n) (record { after_start = later; up_to_next = omega arith }) in
      let most = inside.up_to_next in
      ⊎_elim
      (λ (less : next s.n < next r.n).
      let first = before (next s.n) (next r.n) less in
      let some = s.some in
      let a = r.end in
      let b = s.end in
      inl (omega (arith, first, some, a, b)))
      (λ (ge : next r.n ≤ next s.n).
      let same : next r.n ≡ next s.n = omega (arith, ge, most) in
      let equal = same-next head last other end r s same in
      absurd (omega (arith, equal, starts)))
      (cases_lt (next s.n) (next r.n))
  nested-by head last other end r s starts (inr (inl holds)) =
      let later = (loops.each r.n r.few).later in
      let inside : InRange p.execs s.n (suc (start r.n)) = holds (suc (start r.n)) (record { after_start = omega arith; up_to_next = omega (arith, later) }) in
      let after = inside.after_start in
      absurd (omega (arith, after, starts))
  nested-by head last other end r s starts (inr (inr none)) =
      let x = loops.each r.n r.few in
      let y = loops.each s.n s.few in
      ⊎_elim
      (λ (less : start s.n < next r.n).
      let later = y.later in
      absurd (none (suc (start s.n)) (record { after_start = omega (arith, starts); up_to_next = omega (arith, less) }) (record { after_start = omega arith; up_to_next = omega (arith, later) })))
      (λ (le : next r.n ≤ start s.n). ⊎_elim
      (λ (less : next r.n < start s.n).
      let first = before (next r.n) (start s.n) less in
      let some = r.some in
      let a = r.end in
      let b = s.stands in
      inr (omega (arith, first, some, a, b)))
      (λ (ge : start s.n ≤ next r.n).
      let same : next r.n ≡ start s.n = omega (arith, le, ge) in
      absurd (not-both-in (slice_get p.execs (start s.n)) y.loop x.loop y.begins (ap (λ k. incremented_in (slice_get p.execs k)) (sym same) ∙ x.increments)))
      (cases_lt (next r.n) (start s.n)))
      (cases_lt (start s.n) (next r.n))

  pub ranges-nest : (head last other end : ℕ) → IsSpan text head last → IsSpan text other end → head < other → (end < last) ⊎ (last < other)
  ranges-nest head last other end first second less =
      let r = range-of head last first in
      let s = range-of other end second in
      nested-by head last other end r s (start-before head last other end r s less) (loops.nested r.n s.n r.few s.few)

  -- ---- what jumps into a range stands in it

  record IsJumpTo (k m : ℕ) : Type 0 where
    target : ℕ
    among : Member (jumps p t is_item k) target
    is : number p c t checked is_item target ≡ m

  jump-to : (k i m : ℕ) (stmt : Flat) → IsItsMark p c t checked is_item k i stmt ⊎ (IsItsOwn p c t checked is_item k i stmt ⊎ IsItsJump p c t checked is_item k i stmt) → Member (jump_numbers stmt) m → IsJumpTo k m
  jump-to k i m stmt (inl its) has = let no : Member (jump_numbers Mark) m = subst (λ (x : Flat). Member (jump_numbers x) m) its.is has in absurd no
  jump-to k i m stmt (inr (inl its)) has =
      let only = own-is p checked (words_at p c t checked is_item k) (mark_of p t is_item) (kind_at p k) (decided p t k) its.index stmt its.is in
      let image : IsImage (mark_of p t is_item) (own_jumps (kind_at p k) (decided p t k)) m =
      Member-mapped (mark_of p t is_item) (own_jumps (kind_at p k) (decided p t k)) m (subst (λ (xs : List ℕ). Member xs m) only.own.jumps has) in
      record { target = image.origin; among = Member-left (own_jumps (kind_at p k) (decided p t k)) (left_over p c t checked is_item k) image.origin image.among; is = image.is }
  jump-to k i m stmt (inr (inr its)) has =
      let one : Member (number p c t checked is_item its.target ∷ []) m = subst (λ (x : Flat). Member (jump_numbers x) m) its.is has in
      let among : Member (left_over p c t checked is_item k) its.target = subst (λ (xs : List ℕ). Member xs its.target) (sym its.left) (inl refl) in
      record { target = its.target; among = Member-right (own_jumps (kind_at p k) (decided p t k)) (left_over p c t checked is_item k) its.target among; is = alone (number p c t checked is_item its.target) m one }
    where
      alone : (x m : ℕ) → Member (x ∷ []) m → x ≡ m
      alone x m (inl same) = same
      alone x m (inr none) = absurd none

  -- the item that jumps into the range of a DO is in it, and isn't its increment
  jumps-from : (n k s : ℕ) → n < p.loops → IsLoop p.execs n → Member (jumps p t is_item k) s → InRange p.execs n s → (start n < k) × (k < next n)
  jumps-from n k s few x m inside = ⊎_elim
      (λ (after : start n < k). ⊎_elim
      (λ (less : k < next n). (after, less))
      (λ (ge : next n ≤ k). ⊎_elim
      (λ (past : next n < k). absurd (enters (λ (r : InRange p.execs n k). let most = r.up_to_next in omega (arith, most, past))))
      (λ (le : k ≤ next n).
      let same : next n ≡ k = omega (arith, ge, le) in
      let exit = incremented-jumps-in is_item k s (slice_get p.execs k) (decided p t k) x.loop (ap (λ j. incremented_in (slice_get p.execs j)) (sym same) ∙ x.increments) m in
      absurd (x.exit (subst (InRange p.execs n) (sym exit) inside)))
      (cases_lt (next n) k))
      (cases_lt k (next n)))
      (λ (le : k ≤ start n). absurd (enters (λ (r : InRange p.execs n k). let after = r.after_start in omega (arith, after, le))))
      (cases_lt (start n) k)
    where
      enters : (InRange p.execs n k → ⊥) → ⊥
      enters outside =
          let e = loops.entered n few k s outside (closed.leads k s (let after = inside.after_start in omega (arith, after)) m) inside in
          begun-jumps-in is_item k s (slice_get p.execs k) (decided p t k) x.loop (ap (λ j. begun_in (slice_get p.execs j)) e.0 ∙ x.begins) m

  pub range-kept_out : (head last place m : ℕ) (l : FlatLine) → IsSpan text head last → slice_get text place ≡ Some l → Contains (jump_numbers l.stmt) m → LiesIn head last (place_of text m) → LiesIn head last place
  range-kept_out head last place m l span is has inside =
      let r = range-of head last span in
      let o = origin p c t checked is_item place l is in
      let j = jump-to o.exec o.index m l.stmt (which p c t checked is_item o.exec o.index l.stmt o.is) (Member-from_Contains (jump_numbers l.stmt) m has) in
      let s = j.target in
      let mark = jumped-mark p c t checked is_item closed o.exec s o.item j.among in
      let there = ap (place_of text) (sym j.is) ∙ marks-stand p c t checked is_item s (closed.within s (closed.jumps o.exec s o.item j.among)) mark in
      let after = inside.after in
      let most = inside.up_to in
      let a = r.stands in
      let x = r.alone in
      let b = r.end in
      let some = r.some in
      let lower : start r.n < s = ⊎_elim
      (λ (less : start r.n < s). less)
      (λ (le : s ≤ start r.n). let rise = up s (start r.n) le in absurd (omega (arith, rise, there, after, a)))
      (cases_lt (start r.n) s) in
      let upper : s ≤ next r.n = ⊎_elim
      (λ (less : next r.n < s). let first = before (next r.n) s less in absurd (omega (arith, first, there, most, b, some)))
      (λ (le : s ≤ next r.n). le)
      (cases_lt (next r.n) s) in
      let k = jumps-from r.n o.exec s r.few (loops.each r.n r.few) j.among (record { after_start = lower; up_to_next = upper }) in
      let low = before (start r.n) o.exec k.0 in
      let high = before o.exec (next r.n) k.1 in
      let stands = o.stands in
      let within = o.some in
      record { after = omega (arith, low, a, x, stands); up_to = omega (arith, high, stands, within, b) }
