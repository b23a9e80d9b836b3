-- Statements in front of which assignments are put: they lead to where they led.
use Rattle.std.proofs.Common.{◌≡◌, ℕ, zero, suc, ◌-◌, ◌<◌, ◌≤◌, ◌⊎◌, All, Contains, List, [], ◌∷◌, length, get_or, Some, refl, sym, ap, subst, ◌∙◌, inl, inr, ⊎_elim, arith}
use Rattle.std.specs.Prelude.{slice_get}
use Rattle.std.proofs.lemmas.Bool.{cases_eq, cases_lt}
use Rattle.std.proofs.lemmas.List.Elements.{All-head, All-nil}
use Rattle.std.proofs.lemmas.Option.{slice_get_within, slice_get-get_or}
use Rattle.f77_tree.specs.declared.expressions.Access.{Access}
use Rattle.f77_tree.specs.declared.expressions.Expr.{Expr}
use Rattle.flat_programs.specs.declared.statements.Flat.{Flat}
use Rattle.flat_programs.specs.declared.statements.Flat.TheVariants.{Mark, Assignment, Jump, Finish}
use Rattle.flat_programs.specs.declared.statements.FlatLine.{FlatLine}
use Rattle.flat_programs.specs.Marks.{is_mark, mark_count, place_of}
use Rattle.flat_programs.specs.FlatForm.{jumps, range_end, HasNumbers, IsFlat, IsNumber, IsSpan, LiesIn}
use Rattle.shared_forms.proofs.ProperCandidates.{all-at}

-- an assignment
pub record IsAssigned (stmt : Flat) : Type 0 where
  pub target : Access
  pub value : Expr
  pub is : stmt ≡ Assignment target value

-- statements keep what control is led by
pub record KeepsControl (f : Flat → Flat) : Type 0 where
  pub mark : (stmt : Flat) → is_mark (f stmt) ≡ is_mark stmt
  pub jumps : (stmt : Flat) → jumps (f stmt) ≡ jumps stmt
  pub range_end : (stmt : Flat) → range_end (f stmt) ≡ range_end stmt
  pub finish : (stmt : Flat) → f stmt ≡ Finish → stmt ≡ Finish
  pub finished : f Finish ≡ Finish
  pub moves : (stmt : Flat) (number : ℕ) → f stmt ≡ Jump number → stmt ≡ Jump number

-- the line that a statement becomes
abbrev pub image : (Flat → Flat) → FlatLine → FlatLine
image f l = record { line = l.line; stmt = f l.stmt }

-- a place of the new list has the statement of an old one
pub record IsImage (f : Flat → Flat) (old : List FlatLine) (at : ℕ → ℕ) (place : ℕ) (m : FlatLine) : Type 0 where
  pub from : ℕ
  pub l : FlatLine
  pub there : slice_get old from ≡ Some l
  pub stands : at from ≡ place
  pub stmt : m.stmt ≡ f l.stmt

-- the statement at each place of the old list stands in the new one at a place that is told, and beside those there are assignments alone
pub record IsSpread (f : Flat → Flat) (old new : List FlatLine) (at : ℕ → ℕ) : Type 0 where
  pub there : (i : ℕ) (l : FlatLine) → slice_get old i ≡ Some l → slice_get new (at i) ≡ Some (image f l)
  pub rises : (i j : ℕ) → i < j → j < length old → at i < at j
  pub last : (i : ℕ) → suc i ≡ length old → suc (at i) ≡ length new
  pub origin : (place : ℕ) (m : FlatLine) → slice_get new place ≡ Some m → IsAssigned m.stmt ⊎ IsImage f old at place m
  pub within : (number : ℕ) → IsNumber (mark_count old) number → place_of old number < length old
  pub marks : (number : ℕ) → IsNumber (mark_count old) number → place_of new number ≡ at (place_of old number)
  pub count : mark_count new ≡ mark_count old

some-same : {X : Type 0} (x y : X) → Some x ≡ Some y → x ≡ y
some-same x y is = cc

-- what holds of each element at an index holds of all
pub All-items : {X : Type 0} (P : X → Type 0) (xs : List X) → ((k : ℕ) (x : X) → slice_get xs k ≡ Some x → P x) → All P xs
All-items P [] each k d less = absurd (omega (arith, less))
All-items P (x ∷ xs) each zero d less = each zero x refl
All-items P (x ∷ xs) each (suc k) d less = All-items P xs (λ j y at. each (suc j) y at) k d (omega (arith, less))

no-finish : (stmt : Flat) → IsAssigned stmt → stmt ≡ Finish → ⊥
no-finish stmt given is = let e : Assignment given.target given.value ≡ Finish = sym given.is ∙ is in absurd cc

no-jump : (stmt : Flat) (number : ℕ) → IsAssigned stmt → stmt ≡ Jump number → ⊥
no-jump stmt number given is = let e : Assignment given.target given.value ≡ Jump number = sym given.is ∙ is in absurd cc

no-end : (stmt : Flat) (end : ℕ) → IsAssigned stmt → range_end stmt ≡ end ∷ [] → ⊥
no-end stmt end given is = let e : [] ≡ end ∷ [] = sym (ap range_end given.is) ∙ is in absurd cc

jumps-none : (stmt : Flat) → IsAssigned stmt → [] ≡ jumps stmt
jumps-none stmt given = sym (ap jumps given.is)

not-among : (xs : List ℕ) (n : ℕ) → [] ≡ xs → Contains xs n → ⊥
not-among xs n none among = let less = among.1 in let e = ap length none in omega (arith, less, e)

module _ (f : Flat → Flat) (old new : List FlatLine) (at : ℕ → ℕ) (keeps : KeepsControl f) (spread : IsSpread f old new at) (flat : IsFlat old) where
  one : (i j : ℕ) → i < length old → j < length old → at i ≡ at j → i ≡ j
  one i j below_i below_j same = ⊎_elim
      (λ (is : i ≡ j). is)
      (λ other. ⊎_elim
      (λ (less : i < j). let up = spread.rises i j less below_j in absurd (omega (arith, up, same)))
      (λ (most : j ≤ i). let up = spread.rises j i (omega (arith, most, other)) below_i in absurd (omega (arith, up, same)))
      (cases_lt i j))
      (cases_eq i j)

  -- the order of places is that of their images
  less-back : (i j : ℕ) → i < length old → j < length old → at i < at j → i < j
  less-back i j below_i below_j less = ⊎_elim
      (λ (is : i < j). is)
      (λ (most : j ≤ i). ⊎_elim
      (λ (same : j ≡ i). let e = ap at same in absurd (omega (arith, e, less)))
      (λ other. let up = spread.rises j i (omega (arith, most, other)) below_i in absurd (omega (arith, up, less)))
      (cases_eq j i))
      (cases_lt i j)

  up_to : (i j : ℕ) → i ≤ j → j < length old → at i ≤ at j
  up_to i j most below = ⊎_elim
      (λ (same : i ≡ j). let e = ap at same in omega (arith, e))
      (λ other. let up = spread.rises i j (omega (arith, most, other)) below in omega (arith, up))
      (cases_eq i j)

  up_to-back : (i j : ℕ) → i < length old → j < length old → at i ≤ at j → i ≤ j
  up_to-back i j below_i below_j most = ⊎_elim
      (λ (less : j < i). let up = spread.rises j i less below_i in absurd (omega (arith, up, most)))
      (λ (is : i ≤ j). is)
      (cases_lt j i)

  numbers-of : (i : ℕ) (l : FlatLine) → slice_get old i ≡ Some l → HasNumbers (mark_count old) l.stmt
  numbers-of i l is = all-at (λ (l : FlatLine). HasNumbers (mark_count old) l.stmt) old i l flat.numbered is

  -- ---- numbers

  numbers-kept : (stmt : Flat) → HasNumbers (mark_count old) stmt → HasNumbers (mark_count new) (f stmt)
  numbers-kept stmt is = record {
    jumps = subst (λ n. All (IsNumber n) (jumps (f stmt))) (sym spread.count) (subst (λ (xs : List ℕ). All (IsNumber (mark_count old)) xs) (sym (keeps.jumps stmt)) is.jumps);
    range_end = subst (λ n. All (IsNumber n) (range_end (f stmt))) (sym spread.count) (subst (λ (xs : List ℕ). All (IsNumber (mark_count old)) xs) (sym (keeps.range_end stmt)) is.range_end);
  }

  numbers-assigned : (stmt : Flat) → IsAssigned stmt → HasNumbers (mark_count new) stmt
  numbers-assigned stmt given = subst (HasNumbers (mark_count new)) (sym given.is) (record { jumps = All-nil (IsNumber (mark_count new)); range_end = All-nil (IsNumber (mark_count new)) })

  numbered-at : (place : ℕ) (m : FlatLine) → slice_get new place ≡ Some m → HasNumbers (mark_count new) m.stmt
  numbered-at place m is = ⊎_elim
      (λ (given : IsAssigned m.stmt). numbers-assigned m.stmt given)
      (λ (o : IsImage f old at place m). subst (HasNumbers (mark_count new)) (sym o.stmt) (numbers-kept o.l.stmt (numbers-of o.from o.l o.there)))
      (spread.origin place m is)

  -- ---- the end

  ended-only : (place : ℕ) (m : FlatLine) → slice_get new place ≡ Some m → m.stmt ≡ Finish → suc place ≡ length new
  ended-only place m is finish = ⊎_elim
      (λ (given : IsAssigned m.stmt). absurd (no-finish m.stmt given finish))
      (λ (o : IsImage f old at place m).
      let ends : suc o.from ≡ length old = (flat.ended o.from o.l o.there).0 (keeps.finish o.l.stmt (sym o.stmt ∙ finish)) in
      ap suc (sym o.stands) ∙ spread.last o.from ends)
      (spread.origin place m is)

  ended-there : (place : ℕ) (m : FlatLine) → slice_get new place ≡ Some m → suc place ≡ length new → m.stmt ≡ Finish
  ended-there place m is ends =
      let i = length old - 1 in
      let mark : FlatLine = record { line = 0; stmt = Mark } in
      let some = flat.some in
      let last : suc i ≡ length old = omega (arith, some) in
      let found = slice_get-get_or old i mark (omega (arith, some)) in
      let reach = spread.last i last in
      let same : at i ≡ place = omega (arith, reach, ends) in
      let l = get_or old i mark in
      let finish : l.stmt ≡ Finish = (flat.ended i l found).1 last in
      let both : Some (image f l) ≡ Some m = sym (spread.there i l found) ∙ ap (slice_get new) same ∙ is in
      ap (λ (x : FlatLine). x.stmt) (sym (some-same (image f l) m both)) ∙ ap f finish ∙ keeps.finished

  -- ---- ranges

  -- the range in the old list
  record IsOldSpan (head last : ℕ) : Type 0 where
    first : ℕ
    end : ℕ
    first_below : first < length old
    end_below : end < length old
    head_is : at first ≡ head
    last_is : at end ≡ last
    span : IsSpan old first end

  span-back : (head last : ℕ) → IsSpan new head last → IsOldSpan head last
  span-back head last span = ⊎_elim
      (λ (given : IsAssigned span.here.stmt). absurd (no-end span.here.stmt span.end given span.ends))
      (λ (o : IsImage f old at head span.here).
      let ends : range_end o.l.stmt ≡ span.end ∷ [] = sym (keeps.range_end o.l.stmt) ∙ ap range_end (sym o.stmt) ∙ span.ends in
      let number : IsNumber (mark_count old) span.end = All-head (IsNumber (mark_count old)) span.end [] (subst (λ (xs : List ℕ). All (IsNumber (mark_count old)) xs) ends (numbers-of o.from o.l o.there).range_end) in
      record {
        first = o.from;
        end = place_of old span.end;
        first_below = slice_get_within old o.from o.l o.there;
        end_below = spread.within span.end number;
        head_is = o.stands;
        last_is = sym (spread.marks span.end number) ∙ sym span.place;
        span = record { here = o.l; is = o.there; end = span.end; ends = ends; place = refl };
      })
      (spread.origin head span.here span.is)

  later : (head last : ℕ) → IsSpan new head last → head < last
  later head last span =
      let o = span-back head last span in
      let up = spread.rises o.first o.end (flat.later o.first o.end o.span) o.end_below in
      let h = o.head_is in
      let e = o.last_is in
      omega (arith, up, h, e)

  one_range : (head other last : ℕ) → IsSpan new head last → IsSpan new other last → head ≡ other
  one_range head other last span more =
      let o = span-back head last span in
      let r = span-back other last more in
      let same : r.end ≡ o.end = one r.end o.end r.end_below o.end_below (r.last_is ∙ sym o.last_is) in
      sym o.head_is ∙ ap at (flat.one_range o.first r.first o.end o.span (subst (IsSpan old r.first) same r.span)) ∙ r.head_is

  nested : (head last other end : ℕ) → IsSpan new head last → IsSpan new other end → head < other → (end < last) ⊎ (last < other)
  nested head last other end span more less =
      let o = span-back head last span in
      let r = span-back other end more in
      let oh = o.head_is in
      let ol = o.last_is in
      let rh = r.head_is in
      let rl = r.last_is in
      ⊎_elim
      (λ (in_it : r.end < o.end). let up = spread.rises r.end o.end in_it o.end_below in inl (omega (arith, up, ol, rl)))
      (λ (after : o.end < r.first). let up = spread.rises o.end r.first after r.first_below in inr (omega (arith, up, ol, rh)))
      (flat.nested o.first o.end r.first r.end o.span r.span (less-back o.first r.first o.first_below r.first_below (omega (arith, oh, rh, less))))

  kept_out-from : (head last place number : ℕ) (m : FlatLine) → IsSpan new head last → IsImage f old at place m → Contains (jumps m.stmt) number → LiesIn head last (place_of new number) → LiesIn head last place
  kept_out-from head last place number m span i among lies =
      let o = span-back head last span in
      let oh = o.head_is in
      let ol = o.last_is in
      let ip = i.stands in
      let after = lies.after in
      let most = lies.up_to in
      let below = slice_get_within old i.from i.l i.there in
      let among_old : Contains (jumps i.l.stmt) number = subst (λ (xs : List ℕ). Contains xs number) (ap jumps i.stmt ∙ keeps.jumps i.l.stmt) among in
      let is : IsNumber (mark_count old) number = subst (IsNumber (mark_count old)) among_old.2 ((numbers-of i.from i.l i.there).jumps among_old.0 number among_old.1) in
      let to = place_of old number in
      let to_below = spread.within number is in
      let leads = spread.marks number is in
      let lies_old : LiesIn o.first o.end to = record {
        after = less-back o.first to o.first_below to_below (omega (arith, oh, leads, after));
        up_to = up_to-back to o.end to_below o.end_below (omega (arith, ol, leads, most));
      } in
      let r = flat.kept_out o.first o.end i.from number i.l o.span i.there among_old lies_old in
      let low = spread.rises o.first i.from r.after below in
      let high = up_to i.from o.end r.up_to o.end_below in
      record { after = omega (arith, low, oh, ip); up_to = omega (arith, high, ol, ip) }

  kept_out : (head last place number : ℕ) (m : FlatLine) → IsSpan new head last → slice_get new place ≡ Some m → Contains (jumps m.stmt) number → LiesIn head last (place_of new number) → LiesIn head last place
  kept_out head last place number m span is among lies = ⊎_elim
      (λ (given : IsAssigned m.stmt). absurd (not-among (jumps m.stmt) number (jumps-none m.stmt given) among))
      (λ (o : IsImage f old at place m). kept_out-from head last place number m span o among lies)
      (spread.origin place m is)

  -- ---- jumps to the next statement

  -- images that stand one after another are those of places that do
  next-back : (i j : ℕ) → i < length old → j < length old → at j ≡ suc (at i) → j ≡ suc i
  next-back i j below_i below_j next =
      let less : i < j = less-back i j below_i below_j (omega (arith, next)) in
      ⊎_elim
      (λ (is : j ≡ suc i). is)
      (λ other.
      let a = spread.rises i (suc i) (omega arith) (omega (arith, less, below_j)) in
      let b = spread.rises (suc i) j (omega (arith, less, other)) below_j in
      absurd (omega (arith, a, b, next)))
      (cases_eq j (suc i))

  moves-from : (place number : ℕ) (m : FlatLine) → IsImage f old at place m → m.stmt ≡ Jump number → place_of new number ≡ suc place → ⊥
  moves-from place number m o is next =
      let jump : o.l.stmt ≡ Jump number = keeps.moves o.l.stmt number (sym o.stmt ∙ is) in
      let leads : jumps o.l.stmt ≡ number ∷ [] = ap jumps jump in
      let is_number : IsNumber (mark_count old) number = All-head (IsNumber (mark_count old)) number [] (subst (λ (xs : List ℕ). All (IsNumber (mark_count old)) xs) leads (numbers-of o.from o.l o.there).jumps) in
      let to : at (place_of old number) ≡ suc (at o.from) = sym (spread.marks number is_number) ∙ next ∙ ap suc (sym o.stands) in
      flat.moves o.from number o.l o.there jump (next-back o.from (place_of old number) (slice_get_within old o.from o.l o.there) (spread.within number is_number) to)

  moves : (place number : ℕ) (m : FlatLine) → slice_get new place ≡ Some m → m.stmt ≡ Jump number → place_of new number ≡ suc place → ⊥
  moves place number m is jump next = ⊎_elim
      (λ (given : IsAssigned m.stmt). no-jump m.stmt number given jump)
      (λ (o : IsImage f old at place m). moves-from place number m o jump next)
      (spread.origin place m is)

  -- ---- all

  some-left : 0 < length new
  some-left =
      let first = flat.some in
      let mark : FlatLine = record { line = 0; stmt = Mark } in
      let within = slice_get_within new (at 0) _ (spread.there 0 _ (slice_get-get_or old 0 mark first)) in
      omega (arith, within)

  -- the new statements are a flat program
  pub spread-flat : IsFlat new
  spread-flat = record {
    some = some-left;
    ended = λ place m is. (ended-only place m is, ended-there place m is);
    numbered = All-items (λ (m : FlatLine). HasNumbers (mark_count new) m.stmt) new numbered-at;
    later = later;
    one_range = one_range;
    nested = nested;
    kept_out = kept_out;
    moves = moves;
  }
