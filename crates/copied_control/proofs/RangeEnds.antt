-- In a unit that is a program by itself each DO ends at a statement that its copies have.
use Rattle.std.proofs.Common.{◌≡◌, ℕ, zero, suc, ◌+◌, ◌<◌, ◌≤◌, ⊎_elim, Bool, true, false, not, ◌&&◌, ◌||◌, ◌==◌, cond, List, [], ◌∷◌, ◌++◌, length, take, Some, None, refl, sym, ap, subst, ◌∙◌, arith}
use Rattle.std.specs.List.{slice_get, list_any}
use Rattle.std.proofs.lemmas.Bool.{and_parts, and_from, or_right, or_cases, eqb-true, eq-eqb, ne_eqb, not_from_false, cases_order}
use Rattle.std.proofs.lemmas.List.{append_assoc, append-nil}
use Rattle.std.proofs.lemmas.Option.{slice_get_within}
use Rattle.f77_tree.specs.declared.statements.Labelled.{Labelled}
use Rattle.f77_tree.specs.declared.statements.Stmt.{Stmt}
use Rattle.f77_tree.specs.declared.statements.Stmt.TheVariants.{Do, End}
use Rattle.layout_rules.specs.Executables.{is_do_to}
use Rattle.layout_rules.specs.Faults.{first_after}
use Rattle.layout_rules.specs.Labels.{bears, is_arm, is_executable, is_labelled_twice, lacks_label, statement_of, used}
use Rattle.layout_rules.specs.Layout.{at_line, refusal, refusals}
use Rattle.layout_rules.specs.Nesting.{first_unnested}
use Rattle.layout_rules.specs.Roles.{role_of}
use Rattle.layout_rules.specs.declared.nesting.Opened.{Opened}
use Rattle.layout_rules.specs.declared.nesting.Role.TheVariants.{BeginLoop}
use Rattle.layout_rules.proofs.OpenWalks.{goes_on, nothing-at-end, is_open, stays-open, loop-begins}
use Rattle.layout_rules.specs.declared.layout_end.LayoutEnd.TheVariants.{LabelTwice, LabelMissing, BadNesting}
use Rattle.program_units.specs.Units.{is_end, stand_in, standing_in, unit_at}
use Rattle.program_units.specs.Widths.{is_kept}
use Rattle.program_units.specs.CopiedLoops.{HasEndOf}
use Rattle.program_units.specs.OpenBlocks.{IsEnded}
use Rattle.copied_control.proofs.ClosedUnits.{standing, stands-alike, end_is}
use Rattle.unit_laws.proofs.NoAnswer.{line-none, none-at}
use Rattle.unit_laws.proofs.Kept.{kept-by}
use Rattle.copied_control.proofs.MappedLandings.{last-is}

-- ---- what first faults tell

pub fault_none : (fault : List Labelled → Labelled → Bool) (above stmts : List Labelled) → first_after fault above stmts ≡ None → (i : ℕ) (s : Labelled) → slice_get stmts i ≡ Some s → fault (above ++ take i stmts) s ≡ false
fault_none fault above [] none i s is = let e : None ≡ Some s = is in absurd cc
fault_none fault above (x ∷ rest) none i s is = grind (arith, fault_none fault (above ++ x ∷ []) rest, append-nil above, append_assoc above (x ∷ []))

pub standing-at : (unit : List Labelled) (i : ℕ) (s : Labelled) → slice_get unit i ≡ Some s → slice_get (standing_in unit) i ≡ Some (standing s)
standing-at [] i s is = let e : None ≡ Some s = is in absurd cc
standing-at (x ∷ unit) zero s is = let e : Some x ≡ Some s = is in let same : x ≡ s = cc in ap (λ (y : Labelled). Some (standing y)) same
standing-at (x ∷ unit) (suc i) s is = standing-at unit i s is

-- ---- the statement that bears a label

pub record Bearer (unit : List Labelled) (label : ℕ) : Type 0 where
  pub place : ℕ
  pub statement : Labelled
  pub stands : slice_get unit place ≡ Some statement
  pub bears_it : bears label (standing statement) ≡ true

bearer : (unit : List Labelled) (label : ℕ) → list_any (bears label) (standing_in unit) ≡ true → Bearer unit label
bearer [] label is = let e : false ≡ true = is in absurd cc
bearer (x ∷ unit) label is = ⊎_elim
    (λ (h : bears label (standing x) ≡ true). record { place = 0; statement = x; stands = refl; bears_it = h })
    (λ (h : list_any (bears label) (standing_in unit) ≡ true). let more = bearer unit label h in record { place = suc more.place; statement = more.statement; stands = more.stands; bears_it = more.bears_it })
    (or_cases (bears label (standing x)) (list_any (bears label) (standing_in unit)) is)

pub record IsFirst (unit : List Labelled) (label j : ℕ) : Type 0 where
  pub statement : Labelled
  pub stands : slice_get unit (statement_of unit label) ≡ Some statement
  pub has : statement.label ≡ label
  pub before : statement_of unit label ≤ j

pub first-of : (unit : List Labelled) (label j : ℕ) (s : Labelled) → slice_get unit j ≡ Some s → s.label ≡ label → IsFirst unit label j
first-of [] label j s is has = let e : None ≡ Some s = is in absurd cc
first-of (x ∷ unit) label j s is has = by_test (x.label == label) refl j is (λ i there. first-of unit label i s there has)
  where
    by_test : (b : Bool) → (x.label == label) ≡ b → (j : ℕ) → slice_get (x ∷ unit) j ≡ Some s → ((i : ℕ) → slice_get unit i ≡ Some s → IsFirst unit label i) → IsFirst (x ∷ unit) label j
    by_test true mine j there later =
        let here : statement_of (x ∷ unit) label ≡ 0 = ap (λ (b : Bool). cond (not b) (1 + statement_of unit label) 0) mine in
        record { statement = x; stands = ap (λ (n : ℕ). slice_get (x ∷ unit) n) here; has = eqb-true x.label label mine; before = omega (arith, here) }
    by_test false other zero there later =
        let e : Some x ≡ Some s = there in
        let same : x.label ≡ s.label = cc in
        let both : true ≡ false = sym (eq-eqb x.label label (same ∙ has)) ∙ other in
        absurd cc
    by_test false other (suc j) there later =
        let more = later j there in
        let next : statement_of (x ∷ unit) label ≡ suc (statement_of unit label) = ap (λ (b : Bool). cond (not b) (1 + statement_of unit label) 0) other ∙ (let e : 1 + statement_of unit label ≡ suc (statement_of unit label) = omega arith in e) in
        let least = more.before in
        record { statement = more.statement; stands = ap (λ (n : ℕ). slice_get (x ∷ unit) n) next ∙ more.stands; has = more.has; before = omega (arith, next, least) }

any-at : (q : Labelled → Bool) (xs : List Labelled) (i n : ℕ) (a : Labelled) → i < n → slice_get xs i ≡ Some a → q a ≡ true → list_any q (take n xs) ≡ true
any-at q xs i zero a below is passes = absurd (omega (arith, below))
any-at q [] i (suc n) a below is passes = let e : None ≡ Some a = is in absurd cc
any-at q (x ∷ xs) zero (suc n) a below is passes = cc
any-at q (x ∷ xs) (suc i) (suc n) a below is passes = or_right (q x) (list_any q (take n xs)) (any-at q xs i n a (omega (arith, below)) is passes)

-- one statement alone has a label
pub alone : (unit : List Labelled) → first_after is_labelled_twice [] (standing_in unit) ≡ None → (i j label : ℕ) (a b : Labelled) → 0 < label → slice_get unit i ≡ Some a → slice_get unit j ≡ Some b → a.label ≡ label → b.label ≡ label → i < j → ⊥
alone unit none i j label a b some at_i at_j one two below =
    let unlike : is_labelled_twice ([] ++ take j (standing_in unit)) (standing b) ≡ false = fault_none is_labelled_twice [] (standing_in unit) none j (standing b) (standing-at unit j b at_j) in
    let has : is_labelled_twice (take j (standing_in unit)) (standing b) ≡ true = and_from (not (b.label == 0)) (list_any (λ x. x.label == b.label) (take j (standing_in unit))) (not_from_false (b.label == 0) (ne_eqb b.label 0 (λ (e : b.label ≡ 0). omega (arith, e, two, some)))) (any-at (λ x. x.label == b.label) (standing_in unit) i j (standing a) below (standing-at unit i a at_i) (eq-eqb a.label b.label (one ∙ sym two))) in
    let both : true ≡ false = sym has ∙ unlike in
    cc

-- ---- a DO that is open stays open until its end

held-on : (label : ℕ) (last : Labelled) → is_end last.stmt ≡ true → (front : List Labelled) → ((i : ℕ) (s : Labelled) → slice_get front i ≡ Some s → s.label ≡ label → ⊥) → (stack : List Opened) → is_open label stack ≡ true → first_unnested stack (standing_in (front ++ last ∷ [])) ≡ None → ⊥
held-on label last ended [] others stack held none =
    grind (arith, is_open label, nothing-at-end (standing last) stack, standing last, end_is last.stmt ended)
held-on label last ended (s ∷ front) others stack held none =
    let next = goes_on (standing s) (standing_in (front ++ last ∷ [])) stack none in
    held-on label last ended front (λ i t is. others (suc i) t is) next.beyond (stays-open label (standing s) stack next.beyond (others 0 s refl) next.is held) next.nested

do-role : (label : ℕ) (stmt : Stmt) → is_do_to label stmt ≡ true → role_of (stand_in stmt) ≡ BeginLoop label
do-role label (Do a b c d e) does = ap BeginLoop (eqb-true a label does)
do-role label _ does = let e : false ≡ true = does in absurd cc

no-end : (label : ℕ) (last : Labelled) → is_end last.stmt ≡ true → (front : List Labelled) → ((i : ℕ) (s : Labelled) → slice_get front i ≡ Some s → s.label ≡ label → ⊥) → (stack : List Opened) (i : ℕ) (s : Labelled) → slice_get front i ≡ Some s → is_do_to label s.stmt ≡ true → first_unnested stack (standing_in (front ++ last ∷ [])) ≡ None → ⊥
no-end label last ended [] others stack i s is does none = let e : None ≡ Some s = is in cc
no-end label last ended (x ∷ front) others stack zero s is does none =
    let e : Some x ≡ Some s = is in
    let same : x ≡ s = cc in
    let next = goes_on (standing x) (standing_in (front ++ last ∷ [])) stack none in
    let role = do-role label x.stmt (subst (λ (y : Labelled). is_do_to label y.stmt ≡ true) (sym same) does) in
    held-on label last ended front (λ i t there. others (suc i) t there) next.beyond (loop-begins label (standing x) stack next.beyond role next.is) next.nested
no-end label last ended (x ∷ front) others stack (suc i) s is does none =
    let next = goes_on (standing x) (standing_in (front ++ last ∷ [])) stack none in
    no-end label last ended front (λ k t there. others (suc k) t there) next.beyond i s is does next.nested

-- ---- units

lone-used : (label : ℕ) (s : Stmt) → is_do_to label s ≡ true → used (stand_in s) ≡ label ∷ []
lone-used label (Do a b c d e) is = ap (λ (n : ℕ). n ∷ []) (eqb-true a label is)
lone-used label _ is = let e : false ≡ true = is in absurd cc

do-no-end : (label : ℕ) (s : Stmt) → is_do_to label s ≡ true → is_end s ≡ false
do-no-end label End is = let e : false ≡ true = is in absurd cc
do-no-end label _ is = refl

pub front-at : (front : List Labelled) (last s : Labelled) (i : ℕ) → slice_get (front ++ last ∷ []) i ≡ Some s → i < length front → slice_get front i ≡ Some s
front-at [] last s i is below = absurd (omega (arith, below))
front-at (x ∷ front) last s zero is below = is
front-at (x ∷ front) last s (suc i) is below = front-at front last s i is (omega (arith, below))

pub whole-at : (front : List Labelled) (last s : Labelled) (i : ℕ) → slice_get front i ≡ Some s → slice_get (front ++ last ∷ []) i ≡ Some s
whole-at [] last s i is = let e : None ≡ Some s = is in absurd cc
whole-at (x ∷ front) last s zero is = is
whole-at (x ∷ front) last s (suc i) is = whole-at front last s i is

pub last-at : (front : List Labelled) (last : Labelled) → slice_get (front ++ last ∷ []) (length front) ≡ Some last
last-at [] last = refl
last-at (x ∷ front) last = last-at front last

pub inside-is : (front : List Labelled) (last s : Labelled) (i : ℕ) → slice_get (front ++ last ∷ []) i ≡ Some s → i ≤ length front
inside-is [] last s zero is = omega arith
inside-is [] last s (suc i) is = let e : None ≡ Some s = is in absurd cc
inside-is (x ∷ front) last s zero is = omega arith
inside-is (x ∷ front) last s (suc i) is = let e = inside-is front last s i is in omega (arith, e)

front-inside : (front : List Labelled) (i : ℕ) (s : Labelled) → slice_get front i ≡ Some s → i < length front
front-inside front i s is = slice_get_within front i s is

module _ (us : List (List Labelled)) (checked : Bool) (k : ℕ) (accepted : refusal (standing_in (unit_at us k)) checked ≡ None) (ended : IsEnded (unit_at us k)) where
  abbrev unit : List Labelled
  unit = unit_at us k

  abbrev stood : List Labelled
  stood = standing_in unit

  pub missing-none : first_after (lacks_label stood) [] stood ≡ None
  missing-none = line-none LabelMissing (first_after (lacks_label stood) [] stood) (none-at (refusals stood checked) 5 (at_line LabelMissing (first_after (lacks_label stood) [] stood)) accepted refl)

  pub twice-none : first_after is_labelled_twice [] stood ≡ None
  twice-none = line-none LabelTwice (first_after is_labelled_twice [] stood) (none-at (refusals stood checked) 4 (at_line LabelTwice (first_after is_labelled_twice [] stood)) accepted refl)

  pub nested : first_unnested [] stood ≡ None
  nested = line-none BadNesting (first_unnested [] stood) (none-at (refusals stood checked) 6 (at_line BadNesting (first_unnested [] stood)) accepted refl)

  pub borne : (place label : ℕ) (s : Labelled) → slice_get unit place ≡ Some s → is_do_to label s.stmt ≡ true → Bearer unit label
  borne place label s is does =
      let borne_once : lacks_label stood ([] ++ take place stood) (standing s) ≡ false = fault_none (lacks_label stood) [] stood missing-none place (standing s) (standing-at unit place s is) in
      let one : (not (list_any (bears label) stood) || false) ≡ false = ap (λ (ls : List ℕ). list_any (λ l. not (list_any (bears l) stood)) ls) (sym (lone-used label s.stmt does)) ∙ borne_once in
      bearer unit label (by_test (list_any (bears label) stood) one)
    where
      by_test : (b : Bool) → (not b || false) ≡ false → b ≡ true
      by_test true is = refl
      by_test false is = let e : true ≡ false = is in absurd cc

  -- the statement isn't END
  pub not-end : (place j label : ℕ) (s t : Labelled) → 0 < label → slice_get unit place ≡ Some s → is_do_to label s.stmt ≡ true → slice_get unit j ≡ Some t → t.label ≡ label → is_end t.stmt ≡ true → ⊥
  not-end place j label s t some is does there has is_last =
      let at_j : slice_get (ended.front ++ ended.last ∷ []) j ≡ Some t = ap (λ (u : List Labelled). slice_get u j) (sym ended.is) ∙ there in
      let at_place : slice_get (ended.front ++ ended.last ∷ []) place ≡ Some s = ap (λ (u : List Labelled). slice_get u place) (sym ended.is) ∙ is in
      let j_is : j ≡ length ended.front = last-is ended.front ended.last t j ended.none at_j is_last in
      let last_is : Some ended.last ≡ Some t = sym (last-at ended.front ended.last) ∙ ap (λ (n : ℕ). slice_get (ended.front ++ ended.last ∷ []) n) (sym j_is) ∙ at_j in
      let same : ended.last ≡ t = cc in
      let most = inside-is ended.front ended.last s place at_place in
      let differ : place ≡ j → ⊥ = λ (e : place ≡ j).
      let found : Some s ≡ Some t = sym is ∙ ap (λ (n : ℕ). slice_get unit n) e ∙ there in
      let one : s ≡ t = cc in
      let both : true ≡ false = sym (subst (λ (x : Labelled). is_end x.stmt ≡ true) (sym one) is_last) ∙ do-no-end label s.stmt does in
      cc in
      let below : place < length ended.front = ⊎_elim (λ (e : place ≡ j). absurd (differ e)) (λ o. ⊎_elim (λ (l : place < j). omega (arith, l, j_is)) (λ (g : j < place). absurd (omega (arith, g, j_is, most))) o) (cases_order place j) in
      let others : (i : ℕ) (x : Labelled) → slice_get ended.front i ≡ Some x → x.label ≡ label → ⊥ = λ i x at_i mine.
      let in_unit : slice_get unit i ≡ Some x = ap (λ (u : List Labelled). slice_get u i) ended.is ∙ whole-at ended.front ended.last x i at_i in
      alone unit twice-none i j label x t some in_unit there mine has (let within = front-inside ended.front i x at_i in omega (arith, within, j_is)) in
      no-end label ended.last ended.ended ended.front others [] place s (front-at ended.front ended.last s place at_place below) does (subst (λ (u : List Labelled). first_unnested [] (standing_in u) ≡ None) ended.is nested)

  pub has-end : ((place label : ℕ) (s : Labelled) → slice_get unit place ≡ Some s → is_do_to label s.stmt ≡ true → 0 < label) → (place label : ℕ) (s : Labelled) → slice_get unit place ≡ Some s → is_do_to label s.stmt ≡ true → HasEndOf us k label
  has-end positive place label s is does =
      let some = positive place label s is does in
      let who = borne place label s is does in
      let parts = and_parts ((who.statement.label == label) && is_executable (stand_in who.statement.stmt)) (not (is_arm (stand_in who.statement.stmt))) who.bears_it in
      let both = and_parts (who.statement.label == label) (is_executable (stand_in who.statement.stmt)) parts.0 in
      let has : who.statement.label ≡ label = eqb-true who.statement.label label both.0 in
      let start = first-of unit label who.place who.statement who.stands has in
      let least = start.before in
      let there : statement_of unit label ≡ who.place = ⊎_elim (λ (e : statement_of unit label ≡ who.place). e) (λ o. ⊎_elim
      (λ (below : statement_of unit label < who.place). absurd (alone unit twice-none (statement_of unit label) who.place label start.statement who.statement some start.stands who.stands start.has has below))
      (λ (above : who.place < statement_of unit label). absurd (omega (arith, above, least))) o) (cases_order (statement_of unit label) who.place) in
      let no_end : is_end who.statement.stmt ≡ false = by_test (is_end who.statement.stmt) refl (λ is_last. not-end place who.place label s who.statement some is does who.stands has is_last) in
      let does_it : is_executable who.statement.stmt ≡ true = (stands-alike who.statement.stmt).does ∙ both.1 in
      record { last = who.statement; is = record { stands = ap (λ (n : ℕ). slice_get unit n) there ∙ who.stands; bears = has; some = some; kept = keeps k who.statement.stmt no_end does_it } }
    where
      by_test : (b : Bool) {c : Bool} → c ≡ b → (c ≡ true → ⊥) → c ≡ false
      by_test true same never = absurd (never same)
      by_test false same never = same

      keeps : (k : ℕ) (t : Stmt) → is_end t ≡ false → is_executable t ≡ true → is_kept k t ≡ true
      keeps zero t no_end does = refl
      keeps (suc k) t no_end does = kept-by (suc k) t (ne_eqb (suc k) 0 (λ (e : suc k ≡ 0). omega (arith, e))) ∙ and_from (not (is_end t)) (is_executable t) (not_from_false (is_end t) no_end) does
