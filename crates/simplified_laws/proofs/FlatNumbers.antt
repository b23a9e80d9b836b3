-- The numbers in the statements of the simplified form are those of marks.
use Rattle.std.proofs.Common.{◌≡◌, ℕ, ◌+◌, ◌-◌, ◌<◌, Bool, true, List, [], ◌∷◌, length, map, All, Some, refl, sym, ap, subst, inl, inr, ⊎_elim, arith}
use Rattle.std.specs.Prelude.{slice_get}
use Rattle.list_laws.specs.Member.{Member}
use Rattle.list_laws.proofs.Counts.{bit_true}
use Rattle.list_laws.proofs.Members.{Member-left, Member-right}
use Rattle.f77_tree.specs.declared.programs.Program.{Program}
use Rattle.f77_tree.specs.Loops.{do_next, AreLoops}
use Rattle.f77_tree.proofs.AllLemmas.{All-nil, All-cons}
use Rattle.alias_classes.specs.Classes.{ClassTable}
use Rattle.const_prop.specs.Table.{Knowns}
use Rattle.flat_programs.specs.declared.statements.Flat.{Flat}
use Rattle.flat_programs.specs.declared.statements.Flat.TheVariants.{Mark}
use Rattle.flat_programs.specs.declared.statements.FlatLine.{FlatLine}
use Rattle.flat_programs.specs.FlatForm.{range_end, AreNumbered, HasNumbers, IsNumber}
use Rattle.flat_programs.specs.Marks.{mark_count}
use Rattle.simplified_forms.specs.Items.{kind_at}
use Rattle.simplified_forms.specs.Simplified.{decided, has_mark, items_before, jumps, mark_of, own_jumps, words_at}
use Rattle.simplified_laws.proofs.FlatItems.{AreClosedItems, IsItsJump, IsItsMark, IsItsOwn, all, jumped-mark, left_over, marked, number, origin, which}
use Rattle.simplified_laws.proofs.ItemPlaces.{marks-before}
use Rattle.simplified_laws.proofs.ItemsBefore.{before-rises}
use Rattle.simplified_laws.proofs.ListParts.{all-at}
use Rattle.simplified_laws.proofs.LoopEnds.{IsEndOf, end-of}
use Rattle.simplified_laws.proofs.OwnStatements.{IsDoOf, own-is}
use Rattle.simplified_forms.proofs.RangeCounts.{count-range-more}

module _ (p : Program) (c : ClassTable) (t : Knowns) (checked : Bool) (is_item : ℕ → Bool) where
  -- ---- the number of the mark of an executable is that of a mark

  marks-all : mark_count (all p c t checked is_item) ≡ items_before (has_mark p t is_item) (length p.execs)
  marks-all = marks-before p c t checked is_item (length p.execs)

  pub mark-number : (k : ℕ) → k < length p.execs → marked p c t checked is_item k ≡ true → IsNumber (mark_count (all p c t checked is_item)) (number p c t checked is_item k)
  mark-number k below has =
      let more = count-range-more (has_mark p t is_item) k in
      let one = bit_true (has_mark p t is_item k) has in
      let same : k + 1 + (length p.execs - (k + 1)) ≡ length p.execs = omega (arith, below) in
      let e = ap (items_before (has_mark p t is_item)) same in
      let rise = before-rises (has_mark p t is_item) (k + 1) (length p.execs - (k + 1)) in
      let whole = marks-all in
      record { least = omega (arith, more, one); most = omega (arith, e, rise, whole) }

  -- ---- each statement

  module _ (closed : AreClosedItems p t is_item) (loops : AreLoops p.execs p.loops) where
    abbrev IsOne : ℕ → Type 0
    IsOne m = IsNumber (mark_count (all p c t checked is_item)) m

    target-number : (k s : ℕ) → is_item k ≡ true → Member (jumps p t is_item k) s → IsOne (number p c t checked is_item s)
    target-number k s item m = mark-number s (closed.within s (closed.jumps k s item m)) (jumped-mark p c t checked is_item closed k s item m)

    each-target : (k : ℕ) (xs : List ℕ) → is_item k ≡ true → ((s : ℕ) → Member xs s → Member (jumps p t is_item k) s) → All IsOne (map (number p c t checked is_item) xs)
    each-target k [] item among = All-nil IsOne
    each-target k (x ∷ xs) item among = All-cons IsOne (number p c t checked is_item x) (map (number p c t checked is_item) xs) (target-number k x item (among x (inl refl))) (each-target k xs item (λ s m. among s (inr m)))

    abbrev Numbered : Flat → Type 0
    Numbered stmt = HasNumbers (mark_count (all p c t checked is_item)) stmt

    of-mark : (stmt : Flat) → stmt ≡ Mark → Numbered stmt
    of-mark stmt is = subst Numbered (sym is) (record { jumps = All-nil IsOne; range_end = All-nil IsOne })

    of-jump : (k i : ℕ) (stmt : Flat) → is_item k ≡ true → IsItsJump p c t checked is_item k i stmt → Numbered stmt
    of-jump k i stmt item j =
        let among : Member (left_over p c t checked is_item k) j.target = subst (λ (xs : List ℕ). Member xs j.target) (sym j.left) (inl refl) in
        let one = target-number k j.target item (Member-right (own_jumps (kind_at p k) (decided p t k)) (left_over p c t checked is_item k) j.target among) in
        subst Numbered (sym j.is) (record { jumps = All-cons IsOne (number p c t checked is_item j.target) [] one (All-nil IsOne); range_end = All-nil IsOne })

    of-own : (k i : ℕ) (stmt : Flat) → is_item k ≡ true → IsItsOwn p c t checked is_item k i stmt → Numbered stmt
    of-own k i stmt item o =
        let own = (own-is p checked (words_at p c t checked is_item k) (mark_of p t is_item) (kind_at p k) (decided p t k) o.index stmt o.is).own in
        record {
          jumps = subst (All IsOne) (sym own.jumps) (each-target k (own_jumps (kind_at p k) (decided p t k)) item (λ s m. Member-left (own_jumps (kind_at p k) (decided p t k)) (left_over p c t checked is_item k) s m));
          range_end = ⊎_elim
              (λ (none : range_end stmt ≡ []). subst (All IsOne) (sym none) (All-nil IsOne))
              (λ (begun_do : IsDoOf p checked (words_at p c t checked is_item k) (mark_of p t is_item) (kind_at p k) stmt).
              let e : IsEndOf p c t checked is_item k begun_do.loop = end-of p c t checked is_item closed loops k begun_do.loop item begun_do.begins in
              let one = mark-number (do_next p.execs begun_do.loop.number) (closed.within (do_next p.execs begun_do.loop.number) e.item) e.has in
              subst (All IsOne) (sym begun_do.end) (All-cons IsOne (number p c t checked is_item (do_next p.execs begun_do.loop.number)) [] one (All-nil IsOne)))
              own.ends;
        }

    pub numbered-at : (place : ℕ) (l : FlatLine) → slice_get (all p c t checked is_item) place ≡ Some l → Numbered l.stmt
    numbered-at place l is =
        let o = origin p c t checked is_item place l is in
        ⊎_elim
        (λ (m : IsItsMark p c t checked is_item o.exec o.index l.stmt). of-mark l.stmt m.is)
        (⊎_elim
        (λ (own : IsItsOwn p c t checked is_item o.exec o.index l.stmt). of-own o.exec o.index l.stmt o.item own)
        (λ (jump : IsItsJump p c t checked is_item o.exec o.index l.stmt). of-jump o.exec o.index l.stmt o.item jump))
        (which p c t checked is_item o.exec o.index l.stmt o.is)

    pub are-numbered : AreNumbered (all p c t checked is_item)
    are-numbered = all-at (λ (l : FlatLine). Numbered l.stmt) (all p c t checked is_item) numbered-at
