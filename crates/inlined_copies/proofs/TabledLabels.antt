-- The table of a unit's labels, statement by statement.
use Rattle.std.proofs.Common.{◌≡◌, ℕ, zero, suc, ◌+◌, ◌<◌, ◌≤◌, ◌==◌, Bool, true, false, not, cond, if◌then◌else◌, min, nat_eq, nat_lt, List, [], ◌∷◌, ◌++◌, length, take, get_or, Option, Some, None, option_map, ⊎_elim, refl, sym, ap, subst, ◌∙◌, arith}
use Rattle.std.specs.List.{slice_get}
use Rattle.std.proofs.lemmas.Bool.{cases_Bool, ltb-true, ltb-false, lt-ltb, ne_eqb, eq-eqb}
use Rattle.std.proofs.lemmas.List.{take_more, take_all, take-append-le, length_push}
use Rattle.std.proofs.lemmas.List.Folds.{position_or_len_push}
use Rattle.std.proofs.lemmas.List.Sums.{prefix_len-le-length, sum_by-append, sum_by-cons}
use Rattle.std.proofs.lemmas.Option.{slice_get_past}
use Rattle.f77_tree.specs.declared.statements.Labelled.{Labelled}
use Rattle.layout_rules.specs.Faults.{answer_or}
use Rattle.layout_rules.specs.Labels.{statement_of}
use Rattle.inlined_copies.specs.declared.unit_table.NewLabel.{NewLabel}
use Rattle.program_units.specs.Units.{call_in}
use Rattle.program_units.specs.Widths.{labels}
use Rattle.program_units.specs.Copies.{call_at}
use Rattle.inlined_copies.specs.Changes.{first_or, last_or}
use Rattle.inlined_copies.specs.LabelCounts.{count_at, labels_of}
use Rattle.inlined_copies.specs.LabelTables.{number_in}
use Rattle.inlined_copies.specs.UnitTables.{labels_behind}
use Rattle.inlined_copies.proofs.Capped.{min-sum}

slice-front : {X : Type 0} (xs ys : List X) (i : ℕ) → i < length xs → slice_get (xs ++ ys) i ≡ slice_get xs i
slice-front [] ys i inside = absurd (omega (arith, inside))
slice-front (x ∷ xs) ys zero inside = refl
slice-front (x ∷ xs) ys (suc i) inside = slice-front xs ys i (omega (arith, inside))

slice-last : {X : Type 0} (xs : List X) (y : X) → slice_get (xs ++ y ∷ []) (length xs) ≡ Some y
slice-last [] y = refl
slice-last (x ∷ xs) y = slice-last xs y

module _ (us : List (List Labelled)) (limit : ℕ) (counts : List ℕ) (k : ℕ) where
  abbrev number : List Labelled → ℕ → ℕ
  number = number_in us limit counts k

  abbrev behind : List Labelled → ℕ → ℕ
  behind stmts place = labels_behind us counts (call_at (slice_get stmts place))

  -- what is told of a label once these statements were met
  pub record Told (stmts : List Labelled) (l : ℕ) (found : Option NewLabel) : Type 0 where
    pub first : option_map (λ (n : NewLabel). n.first) found ≡ (if nat_lt (statement_of stmts l) (length stmts) then Some (number stmts (statement_of stmts l)) else None)
    pub last : option_map (λ (n : NewLabel). n.last) found ≡ (if nat_lt (statement_of stmts l) (length stmts) then Some (number stmts (statement_of stmts l) + behind stmts (statement_of stmts l)) else None)

  inside-if : (stmts : List Labelled) (l : ℕ) (n : NewLabel) → Told stmts l (Some n) → (statement_of stmts l) < length stmts
  inside-if stmts l n told = ⊎_elim
      (λ (h : nat_lt (statement_of stmts l) (length stmts) ≡ true). ltb-true (statement_of stmts l) (length stmts) h)
      (λ (h : nat_lt (statement_of stmts l) (length stmts) ≡ false). let e : Some n.first ≡ None = told.first ∙ ap (λ (b : Bool). if b then Some (number stmts (statement_of stmts l)) else None) h in absurd cc)
      (cases_Bool (nat_lt (statement_of stmts l) (length stmts)))

  past-if : (stmts : List Labelled) (l : ℕ) → Told stmts l None → (statement_of stmts l) ≡ length stmts
  past-if stmts l told = ⊎_elim
      (λ (h : nat_lt (statement_of stmts l) (length stmts) ≡ true). let e : None ≡ Some (number stmts (statement_of stmts l)) = told.first ∙ ap (λ (b : Bool). if b then Some (number stmts (statement_of stmts l)) else None) h in absurd cc)
      (λ (h : nat_lt (statement_of stmts l) (length stmts) ≡ false). let past = ltb-false (statement_of stmts l) (length stmts) h in let m = prefix_len-le-length (λ (x : Labelled). not (x.label == l)) stmts in omega (arith, past, m))
      (cases_Bool (nat_lt (statement_of stmts l) (length stmts)))

  -- ---- one statement more

  module _ (stmts : List Labelled) (s : Labelled) (l : ℕ) where
    abbrev more : List Labelled
    more = stmts ++ s ∷ []

    abbrev place : ℕ
    place = statement_of stmts l

    as_many : length more ≡ length stmts + 1
    as_many = length_push stmts s

    next : statement_of more l ≡ cond (nat_eq place (length stmts)) (length stmts + cond (s.label == l) 0 1) place
    next = position_or_len_push (λ (x : Labelled). x.label == l) stmts s

    number-front : (p : ℕ) → p ≤ length stmts → number more p ≡ number stmts p
    number-front p inside = ap (λ (xs : List Labelled). min (labels_of us counts k xs) limit + 1) (take-append-le p stmts (s ∷ []) inside)

    -- it was told before
    kept : place < length stmts → (n : NewLabel) (other : Option NewLabel) → Told stmts l (Some n) → Told more l (answer_or (Some n) other)
    kept inside n other told =
        let apart : nat_eq place (length stmts) ≡ false = ne_eqb place (length stmts) (λ (e : place ≡ length stmts). omega (arith, e, inside)) in
        let same : statement_of more l ≡ place = next ∙ ap (λ (b : Bool). cond b (length stmts + cond (s.label == l) 0 1) place) apart in
        let before : nat_lt place (length stmts) ≡ true = lt-ltb place (length stmts) inside in
        let now : nat_lt place (length more) ≡ true = lt-ltb place (length more) (let e = as_many in omega (arith, e, inside)) in
        let numbered : number more place ≡ number stmts place = number-front place (omega (arith, inside)) in
        record {
          first = told.first ∙ ap (λ (b : Bool). if b then Some (number stmts place) else None) before
              ∙ sym (ap (λ (p : ℕ). if nat_lt p (length more) then Some (number more p) else None) same
              ∙ ap (λ (b : Bool). if b then Some (number more place) else None) now ∙ ap Some numbered);
          last = told.last ∙ ap (λ (b : Bool). if b then Some (number stmts place + behind stmts place) else None) before
              ∙ sym (ap (λ (p : ℕ). if nat_lt p (length more) then Some (number more p + behind more p) else None) same
              ∙ ap (λ (b : Bool). if b then Some (number more place + behind more place) else None) now
              ∙ ap (λ (n : ℕ). Some (n + behind more place)) numbered
              ∙ ap (λ (o : Option Labelled). Some (number stmts place + labels_behind us counts (call_at o))) (slice-front stmts (s ∷ []) place inside));
        }

    -- this statement has the label, and none before it
    found-here : place ≡ length stmts → nat_eq s.label l ≡ true → (n : NewLabel) → n.first ≡ number stmts (length stmts) → n.last ≡ n.first + labels_behind us counts (call_in s.stmt) → Told more l (Some n)
    found-here none is n first last =
        let at_end : nat_eq place (length stmts) ≡ true = eq-eqb place (length stmts) none in
        let zeroth : length stmts + 0 ≡ length stmts = omega arith in
        let same : statement_of more l ≡ length stmts = next ∙ ap (λ (b : Bool). cond b (length stmts + cond (s.label == l) 0 1) place) at_end ∙ ap (λ (b : Bool). length stmts + cond b 0 1) is ∙ zeroth in
        let now : nat_lt (length stmts) (length more) ≡ true = lt-ltb (length stmts) (length more) (let e = as_many in omega (arith, e)) in
        let numbered : number more (length stmts) ≡ number stmts (length stmts) = number-front (length stmts) (omega arith) in
        record {
          first = ap Some first
              ∙ sym (ap (λ (p : ℕ). if nat_lt p (length more) then Some (number more p) else None) same
              ∙ ap (λ (b : Bool). if b then Some (number more (length stmts)) else None) now ∙ ap Some numbered);
          last = ap Some (last ∙ ap (λ (x : ℕ). x + labels_behind us counts (call_in s.stmt)) first)
              ∙ sym (ap (λ (p : ℕ). if nat_lt p (length more) then Some (number more p + behind more p) else None) same
              ∙ ap (λ (b : Bool). if b then Some (number more (length stmts) + behind more (length stmts)) else None) now
              ∙ ap (λ (x : ℕ). Some (x + behind more (length stmts))) numbered
              ∙ ap (λ (o : Option Labelled). Some (number stmts (length stmts) + labels_behind us counts (call_at o))) (slice-last stmts s));
        }

    -- no statement has it yet
    not-yet : place ≡ length stmts → nat_eq s.label l ≡ false → Told more l None
    not-yet none is =
        let at_end : nat_eq place (length stmts) ≡ true = eq-eqb place (length stmts) none in
        let same : statement_of more l ≡ length stmts + 1 = next ∙ ap (λ (b : Bool). cond b (length stmts + cond (s.label == l) 0 1) place) at_end ∙ ap (λ (b : Bool). length stmts + cond b 0 1) is in
        let past : nat_lt (statement_of more l) (length more) ≡ false = ap (λ (p : ℕ). nat_lt p (length more)) same ∙ ap (nat_lt (length stmts + 1)) as_many ∙ not_below (length stmts + 1) in
        record {
          first = sym (ap (λ (b : Bool). if b then Some (number more (statement_of more l)) else None) past);
          last = sym (ap (λ (b : Bool). if b then Some (number more (statement_of more l) + behind more (statement_of more l)) else None) past);
        }
      where
        not_below : (n : ℕ) → nat_lt n n ≡ false
        not_below n = ⊎_elim (λ (h : nat_lt n n ≡ true). let e = ltb-true n n h in absurd (omega (arith, e))) (λ (h : nat_lt n n ≡ false). h) (cases_Bool (nat_lt n n))

    pub told-next : (found : Option NewLabel) → Told stmts l found → (n : NewLabel) → n.first ≡ number stmts (length stmts) → n.last ≡ n.first + labels_behind us counts (call_in s.stmt) → Told more l (answer_or found (if nat_eq s.label l then Some n else None))
    told-next (Some old) told n first last = kept (inside-if stmts l old told) old (if nat_eq s.label l then Some n else None) told
    told-next None told n first last = ⊎_elim
        (λ (is : nat_eq s.label l ≡ true). subst (λ (b : Bool). Told more l (if b then Some n else None)) (sym is) (found-here (past-if stmts l told) is n first last))
        (λ (is : nat_eq s.label l ≡ false). subst (λ (b : Bool). Told more l (if b then Some n else None)) (sym is) (not-yet (past-if stmts l told) is))
        (cases_Bool (nat_eq s.label l))

  -- ---- the loop

  taken : (stmts : List Labelled) (i : ℕ) (s : Labelled) → i < length stmts → s ≡ get_or stmts i s → take (i + 1) stmts ≡ take i stmts ++ s ∷ []
  taken stmts i s inside is = take_more stmts i s inside ∙ ap (λ (x : Labelled). take i stmts ++ x ∷ []) (sym is)

  number-whole : (stmts : List Labelled) → number stmts (length stmts) ≡ min (labels_of us counts k stmts) limit + 1
  number-whole stmts = ap (λ (xs : List Labelled). min (labels_of us counts k xs) limit + 1) (take_all (length stmts) stmts (omega arith))

  pub told-more : (stmts : List Labelled) (i : ℕ) (s : Labelled) (before : ℕ) (l : ℕ) (found : Option NewLabel) (n : NewLabel) → i < length stmts → s ≡ get_or stmts i s → before ≡ min (labels_of us counts k (take i stmts)) limit → Told (take i stmts) l found
      → n.first ≡ before + 1 → n.last ≡ n.first + labels_behind us counts (call_in s.stmt) → Told (take (i + 1) stmts) l (answer_or found (if nat_eq s.label l then Some n else None))
  told-more stmts i s before l found n inside is count told first last =
      subst (λ (xs : List Labelled). Told xs l (answer_or found (if nat_eq s.label l then Some n else None))) (sym (taken stmts i s inside is))
      (told-next (take i stmts) s l found told n (first ∙ ap (λ (x : ℕ). x + 1) count ∙ sym (number-whole (take i stmts))) last)

  pub before-more : (stmts : List Labelled) (i : ℕ) (s : Labelled) (before : ℕ) → i < length stmts → s ≡ get_or stmts i s → before ≡ min (labels_of us counts k (take i stmts)) limit
      → min (before + labels (count_at counts) us k s) limit ≡ min (labels_of us counts k (take (i + 1) stmts)) limit
  before-more stmts i s before inside is count =
      let here = labels (count_at counts) us k s in
      let sum : labels_of us counts k (take (i + 1) stmts) ≡ labels_of us counts k (take i stmts) + here =
      ap (labels_of us counts k) (taken stmts i s inside is) ∙ sum_by-append (labels (count_at counts) us k) (take i stmts) (s ∷ [])
      ∙ (let e = sum_by-cons (labels (count_at counts) us k) s [] in let one : labels_of us counts k (s ∷ []) ≡ here = omega (arith, e) in ap (λ (x : ℕ). labels_of us counts k (take i stmts) + x) one) in
      ap (λ (x : ℕ). min (x + here) limit) count
      ∙ min-sum (labels_of us counts k (take i stmts)) here limit
      ∙ ap (λ (x : ℕ). min x limit) (sym sum)

  -- ---- the end

  module _ (stmts : List Labelled) (l : ℕ) (last_behind : ℕ) (is_behind : last_behind ≡ number stmts (length stmts)) where
    none-first : (p : ℕ) → p ≡ length stmts → last_behind ≡ number stmts p
    none-first p e = is_behind ∙ ap (number stmts) (sym e)

    none-last : (p : ℕ) → p ≡ length stmts → last_behind ≡ number stmts p + behind stmts p
    none-last p e =
        let past : slice_get stmts p ≡ None = slice_get_past stmts p (omega (arith, e)) in
        let zeroth : number stmts p ≡ number stmts p + 0 = omega arith in
        none-first p e ∙ zeroth ∙ ap (λ (o : Option Labelled). number stmts p + labels_behind us counts (call_at o)) (sym past)

    some-of : {A : Type 0} (x y : A) → Some x ≡ Some y → x ≡ y
    some-of x y e = cc

    pub told-first : (found : Option NewLabel) → Told stmts l found → first_or last_behind found ≡ number stmts (statement_of stmts l)
    told-first None told = none-first (statement_of stmts l) (past-if stmts l told)
    told-first (Some n) told = some-of n.first (number stmts (statement_of stmts l)) (told.first ∙ ap (λ (b : Bool). if b then Some (number stmts (statement_of stmts l)) else None) (lt-ltb (statement_of stmts l) (length stmts) (inside-if stmts l n told)))

    pub told-last : (found : Option NewLabel) → Told stmts l found → last_or last_behind found ≡ number stmts (statement_of stmts l) + behind stmts (statement_of stmts l)
    told-last None told = none-last (statement_of stmts l) (past-if stmts l told)
    told-last (Some n) told = some-of n.last (number stmts (statement_of stmts l) + behind stmts (statement_of stmts l)) (told.last ∙ ap (λ (b : Bool). if b then Some (number stmts (statement_of stmts l) + behind stmts (statement_of stmts l)) else None) (lt-ltb (statement_of stmts l) (length stmts) (inside-if stmts l n told)))
