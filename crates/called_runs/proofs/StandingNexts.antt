-- Where control goes on after a statement of a unit, it goes on in the list after what stands for it.
use Rattle.std.proofs.Common.{◌≡◌, ℕ, zero, suc, ◌+◌, ◌<◌, ◌≤◌, ⊎_elim, Bool, true, false, ◌&&◌, ◌||◌, ◌==◌, nat_lt, List, [], ◌∷◌, ◌++◌, length, map, Option, Some, None, if◌then◌else◌, refl, sym, ap, subst, ◌∙◌, arith, length-append}
use Rattle.std.specs.List.{slice_get}
use Rattle.std.proofs.lemmas.Bool.{cases_lt, ltb-true}
use Rattle.std.proofs.lemmas.List.{length-map}
use Rattle.std.proofs.lemmas.Option.{slice_get_within}
use Rattle.f77_tree.specs.declared.statements.Labelled.{Labelled}
use Rattle.f77_tree.specs.declared.statements.Stmt.{Stmt}
use Rattle.f77_tree.specs.declared.statements.Stmt.TheVariants.{ElseIf, Else, EndIf}
use Rattle.layout_rules.specs.Executables.{beyond, first_of, is_else_at, loops_to, met, own_executables, when_false}
use Rattle.layout_rules.specs.Jumps.{end_of_arm, is_block_if, is_end_if}
use Rattle.layout_rules.specs.Labels.{is_arm}
use Rattle.program_units.specs.Units.{Call, call_in, is_end, standing_in, unit_at}
use Rattle.program_units.specs.Widths.{is_kept}
use Rattle.program_units.specs.Copies.{Context, changes, changed_stmt}
use Rattle.program_units.specs.ListedCopies.{piece_at}
use Rattle.copied_control.specs.Landings.{landing}
use Rattle.unit_laws.proofs.BlockRoles.{changed-alike}
use Rattle.copied_control.proofs.MappedArms.{arms-mapped}
use Rattle.copied_control.proofs.MappedLandings.{lands-next, met-is}
use Rattle.copied_control.proofs.WhichPieces.{IsPlain, plain-piece}
use Rattle.called_runs.specs.CopiedPositions.{Stands, at_increment, last_place, own_of_last, standing, copy_of}
use Rattle.called_runs.proofs.ControlRoles.{own-changed, stand-role}
use Rattle.called_runs.proofs.CopiedEnds.{plain-loops}
use Rattle.called_runs.proofs.Grounds.{AreLaid, IsCopied}
use Rattle.called_runs.proofs.StandingLists.{standing-arm, standing-else, standing-first, standing-loops, standing-met}
use Rattle.called_runs.proofs.StandingPlaces.{copy-at, stands-here, stands-met}

-- control goes to the increment of a DO that ends there, or on
abbrev pub gone_on : (ends own first further : ℕ) → ℕ
gone_on ends own first further = if nat_lt 0 ends then first + own else further

module _ (us : List (List Labelled)) (list : List Labelled) (laid : AreLaid us list) (c : Context) (at : ℕ → ℕ) (held : IsCopied us list c at) where
  abbrev unit : List Labelled
  unit = unit_at us c.unit

  abbrev Comes : ℕ → ℕ → Type 0
  Comes position r = Stands us list c at position r

  pub standing-beyond : (place : ℕ) (s : Labelled) → beyond (standing_in unit) place (standing s) ≡ beyond unit place s
  standing-beyond place s =
      ap (λ (xs : List ℕ). gone_on (length xs) (own_executables (standing s).stmt) (first_of (standing_in unit) place) (met (standing_in unit) (place + 1))) (standing-loops unit s.label)
      ∙ ap (λ (n : ℕ). gone_on (length (loops_to unit s.label)) n (first_of (standing_in unit) place) (met (standing_in unit) (place + 1))) (stand-role s.stmt).own
      ∙ ap (λ (n : ℕ). gone_on (length (loops_to unit s.label)) (own_executables s.stmt) n (met (standing_in unit) (place + 1))) (standing-first unit place)
      ∙ ap (λ (n : ℕ). gone_on (length (loops_to unit s.label)) (own_executables s.stmt) (first_of unit place) n) (standing-met unit (place + 1))

  -- only END is last
  pub not-last : (place : ℕ) (s : Labelled) → slice_get unit place ≡ Some s → is_end s.stmt ≡ false → place + 1 < length unit
  not-last place s is no_end =
      let e = held.ended in
      let long : length unit ≡ length e.front + 1 = ap length e.is ∙ length-append e.front (e.last ∷ []) in
      let inside = slice_get_within unit place s is in
      ⊎_elim
      (λ (below : place < length e.front). omega (arith, below, long))
      (λ (above : length e.front ≤ place).
      let there : place ≡ length e.front = omega (arith, above, inside, long) in
      let found : Some e.last ≡ Some s = sym (last-at e.front) ∙ ap (λ (n : ℕ). slice_get (e.front ++ e.last ∷ []) n) (sym there) ∙ ap (λ (u : List Labelled). slice_get u place) (sym e.is) ∙ is in
      let same : e.last ≡ s = cc in
      let both : true ≡ false = sym e.ended ∙ ap (λ (x : Labelled). is_end x.stmt) same ∙ no_end in
      absurd cc)
      (cases_lt place (length e.front))
    where
      last-at : (front : List Labelled) → slice_get (front ++ held.ended.last ∷ []) (length front) ≡ Some held.ended.last
      last-at [] = refl
      last-at (x ∷ front) = last-at front

  behind-is : (place : ℕ) (s : Labelled) → 0 < length (piece_at us c place s) → last_place us c at place s + 1 ≡ at place + length (piece_at us c place s)
  behind-is place s some = omega (arith, some)

  pub plain-last : (place : ℕ) (s : Labelled) → IsPlain us c place s → last_place us c at place s ≡ at place
  plain-last place s plain = let one : length (piece_at us c place s) ≡ 1 = ap length (plain-piece us c place s plain) in omega (arith, one)

  pub plain-some : (place : ℕ) (s : Labelled) → IsPlain us c place s → 0 < length (piece_at us c place s)
  plain-some place s plain = let one : length (piece_at us c place s) ≡ 1 = ap length (plain-piece us c place s plain) in omega (arith, one)

  -- ---- behind a statement

  pub stands-behind : (place : ℕ) (s : Labelled) → slice_get unit place ≡ Some s → is_end s.stmt ≡ false → 0 < length (piece_at us c place s) → Comes (met unit (place + 1)) (met list (last_place us c at place s + 1))
  stands-behind place s is no_end some =
      let lands : landing list (at place + length (piece_at us c place s)) ≡ landing list (at (place + 1)) = lands-next us laid.closed list c at held.stands held.ended place s is in
      let there : met list (last_place us c at place s + 1) ≡ met list (at (place + 1)) =
      ap (λ (n : ℕ). met list n) (behind-is place s some)
      ∙ met-is list (at place + length (piece_at us c place s))
      ∙ ap (λ (n : ℕ). first_of list n) lands
      ∙ sym (met-is list (at (place + 1)))
      in subst (λ (n : ℕ). Comes (met unit (place + 1)) n) (sym there) (stands-met us list laid c at held (place + 1) (not-last place s is no_end))

  pub stands-beyond : (place : ℕ) (s : Labelled) (label own : ℕ) → slice_get unit place ≡ Some s → is_kept c.unit s.stmt ≡ true → is_end s.stmt ≡ false → 0 < length (piece_at us c place s)
      → loops_to list label ≡ map at (loops_to unit s.label) → own ≡ own_of_last (own_executables s.stmt) (call_in s.stmt)
      → Comes (beyond unit place s) (gone_on (length (loops_to list label)) own (first_of list (last_place us c at place s)) (met list (last_place us c at place s + 1)))
  stands-beyond place s label own is kept no_end some loops own_is =
      let long : length (loops_to list label) ≡ length (loops_to unit s.label) = ap (λ (xs : List ℕ). length xs) loops ∙ length-map (loops_to unit s.label) at in
      subst (λ (n : ℕ). Comes (beyond unit place s) (gone_on n own (first_of list (last_place us c at place s)) (met list (last_place us c at place s + 1)))) (sym long) (by_test (nat_lt 0 (length (loops_to unit s.label))) refl)
    where
      by_test : (b : Bool) → nat_lt 0 (length (loops_to unit s.label)) ≡ b → Comes (if b then first_of unit place + own_executables s.stmt else met unit (place + 1)) (if b then first_of list (last_place us c at place s) + own else met list (last_place us c at place s + 1))
      by_test true has = at_increment place 0 s is kept (ltb-true 0 (length (loops_to unit s.label)) has) (omega arith) (omega (arith, own_is))
      by_test false none = stands-behind place s is no_end some

  pub plain-beyond : (place : ℕ) (s : Labelled) → slice_get unit place ≡ Some s → IsPlain us c place s → is_end s.stmt ≡ false → Comes (beyond (standing_in unit) place (standing s)) (beyond list (at place) (copy_of us c place s))
  plain-beyond place s is plain no_end =
      let own : own_executables (changed_stmt (changes us c) s.stmt) ≡ own_of_last (own_executables s.stmt) (call_in s.stmt) = own-changed (changes us c) s.stmt ∙ ap (λ (o : Option Call). own_of_last (own_executables s.stmt) o) (sym plain.none) in
      let stands = stands-beyond place s (copy_of us c place s).label (own_executables (changed_stmt (changes us c) s.stmt)) is plain.kept no_end (plain-some place s plain) (plain-loops us list laid c at held place s is plain.kept plain.none) own in
      subst (λ (n : ℕ). Comes n (beyond list (at place) (copy_of us c place s))) (sym (standing-beyond place s))
      (subst (λ (n : ℕ). Comes (beyond unit place s) (gone_on (length (loops_to list (copy_of us c place s).label)) (own_executables (changed_stmt (changes us c) s.stmt)) (first_of list n) (met list (n + 1)))) (plain-last place s plain) stands)

  -- ---- arms

  stop-kept : (k : ℕ) (s : Stmt) → (is_end_if s || (true && is_arm s)) ≡ true → is_kept k s ≡ true
  stop-kept zero s stops = refl
  stop-kept (suc k) EndIf stops = refl
  stop-kept (suc k) (ElseIf a) stops = refl
  stop-kept (suc k) Else stops = refl
  stop-kept (suc k) _ stops = let e : false ≡ true = stops in absurd cc

  stop-no-call : (s : Stmt) → (is_end_if s || (true && is_arm s)) ≡ true → call_in s ≡ None
  stop-no-call EndIf stops = refl
  stop-no-call (ElseIf a) stops = refl
  stop-no-call Else stops = refl
  stop-no-call _ stops = let e : false ≡ true = stops in absurd cc

  stop-no-end : (s : Stmt) → (is_end_if s || (true && is_arm s)) ≡ true → is_end s ≡ false
  stop-no-end EndIf stops = refl
  stop-no-end (ElseIf a) stops = refl
  stop-no-end Else stops = refl
  stop-no-end _ stops = let e : false ≡ true = stops in absurd cc

  same-else : (s : Stmt) → (is_arm (changed_stmt (changes us c) s) && (own_executables (changed_stmt (changes us c) s) == 0)) ≡ (is_arm s && (own_executables s == 0))
  same-else s =
      ap (λ (b : Bool). b && (own_executables (changed_stmt (changes us c) s) == 0)) (changed-alike (changes us c) s).arm
      ∙ ap (λ (n : ℕ). is_arm s && (n == 0)) (own-changed (changes us c) s)

  abbrev false_by : List Labelled → ℕ → Bool → ℕ
  false_by stmts end b = if b then met stmts (end + 1) else first_of stmts end

  standing-false : (place : ℕ) → when_false (standing_in unit) place ≡ when_false unit place
  standing-false place =
      ap (λ (n : ℕ). false_by (standing_in unit) n (is_else_at (slice_get (standing_in unit) n))) (standing-arm unit place)
      ∙ ap (λ (b : Bool). false_by (standing_in unit) (end_of_arm unit place) b) (standing-else unit (end_of_arm unit place))
      ∙ ap (λ (n : ℕ). if is_else_at (slice_get unit (end_of_arm unit place)) then n else first_of (standing_in unit) (end_of_arm unit place)) (standing-met unit (end_of_arm unit place + 1))
      ∙ ap (λ (n : ℕ). if is_else_at (slice_get unit (end_of_arm unit place)) then met unit (end_of_arm unit place + 1) else n) (standing-first unit (end_of_arm unit place))

  pub stands-false : (place : ℕ) (s : Labelled) → slice_get unit place ≡ Some s → (is_block_if s.stmt || is_arm s.stmt) ≡ true → Comes (when_false (standing_in unit) place) (when_false list (at place))
  stands-false place s is opens =
      let stop = held.stops true place s is opens in
      let end = end_of_arm unit place in
      let plain : IsPlain us c end stop.s = record { kept = stop-kept c.unit stop.s.stmt stop.ends; none = stop-no-call stop.s.stmt stop.ends } in
      let copy = copy_of us c end stop.s in
      let mapped : end_of_arm list (at place) ≡ at end = arms-mapped us laid.closed list c at held.stands place s is opens in
      let here : is_else_at (slice_get unit end) ≡ (is_arm stop.s.stmt && (own_executables stop.s.stmt == 0)) = ap (λ (o : Option Labelled). is_else_at o) stop.is in
      let there : is_else_at (slice_get list (at end)) ≡ is_else_at (slice_get unit end) = ap (λ (o : Option Labelled). is_else_at o) (copy-at us list laid c at held end stop.s stop.is plain) ∙ same-else stop.s.stmt ∙ sym here in
      let list_is : when_false list (at place) ≡ false_by list (at end) (is_else_at (slice_get unit end)) = ap (λ (n : ℕ). false_by list n (is_else_at (slice_get list n))) mapped ∙ ap (λ (b : Bool). false_by list (at end) b) there in
      let behind : Comes (met unit (end + 1)) (met list (at end + 1)) = subst (λ (n : ℕ). Comes (met unit (end + 1)) (met list (n + 1))) (plain-last end stop.s plain) (stands-behind end stop.s stop.is (stop-no-end stop.s.stmt stop.ends) (plain-some end stop.s plain)) in
      let at_it : Comes (first_of unit end) (first_of list (at end)) = stands-here us list laid c at held end (slice_get_within unit end stop.s stop.is) in
      subst (λ (n : ℕ). Comes n (when_false list (at place))) (sym (standing-false place))
      (subst (λ (n : ℕ). Comes (when_false unit place) n) (sym list_is) (by_test (is_else_at (slice_get unit end)) behind at_it))
    where
      by_test : (b : Bool) → Comes (met unit (end_of_arm unit place + 1)) (met list (at (end_of_arm unit place) + 1)) → Comes (first_of unit (end_of_arm unit place)) (first_of list (at (end_of_arm unit place)))
          → Comes (false_by unit (end_of_arm unit place) b) (false_by list (at (end_of_arm unit place)) b)
      by_test true behind at_it = behind
      by_test false behind at_it = at_it
