-- Where control comes to a statement of a unit, it comes in the list to what stands for the statement.
use Rattle.std.proofs.Common.{◌≡◌, ℕ, zero, suc, ◌+◌, ◌<◌, Bool, true, false, ◌||◌, List, [], ◌∷◌, ◌++◌, length, drop, Some, if◌then◌else◌, refl, sym, ap, subst, ◌∙◌, arith, length-append}
use Rattle.std.specs.List.{slice_get, list_any}
use Rattle.std.proofs.lemmas.Bool.{or_left, or_right}
use Rattle.std.proofs.lemmas.List.{drop-append-le, length-map}
use Rattle.std.proofs.lemmas.List.Folds.{list_any-append}
use Rattle.std.proofs.lemmas.Option.{slice_get_within}
use Rattle.f77_tree.specs.declared.statements.Labelled.{Labelled}
use Rattle.f77_tree.specs.declared.statements.Stmt.{Stmt}
use Rattle.f77_tree.specs.declared.statements.Stmt.TheVariants.{End}
use Rattle.f77_tree.proofs.AllLemmas.{All-get}
use Rattle.layout_rules.specs.Executables.{first_of, loops_to, met, own_executables}
use Rattle.layout_rules.specs.Jumps.{end_of_block, is_block_if}
use Rattle.layout_rules.specs.Labels.{is_arm, is_executable}
use Rattle.layout_rules.specs.StatementTrees.{IsTree}
use Rattle.program_units.specs.Units.{is_end, stand_in, standing_in, unit_at}
use Rattle.program_units.specs.Widths.{is_kept}
use Rattle.program_units.specs.Copies.{Context, changes}
use Rattle.program_units.specs.ListedCopies.{piece_at}
use Rattle.program_units.specs.OpenBlocks.{IsEnded}
use Rattle.copied_control.specs.Landings.{landing, landing_after}
use Rattle.unit_laws.proofs.BlockRoles.{unkept_is_end}
use Rattle.unit_laws.proofs.Having.{alike, got}
use Rattle.copied_control.proofs.MappedArms.{first_here, rest_here}
use Rattle.copied_control.proofs.MappedLandings.{landings-mapped, met-is}
use Rattle.copied_control.proofs.WhichPieces.{IsPlain, Which, left_out, calling, single, which, nothing_stands, plain-piece}
use Rattle.called_runs.specs.CopiedPositions.{Stands, at_copy, at_call, at_end, standing, copy_of}
use Rattle.called_runs.proofs.ControlRoles.{own-changed, stand-role}
use Rattle.called_runs.proofs.CopiedEnds.{plain-loops}
use Rattle.called_runs.proofs.Grounds.{AreLaid, IsCopied}
use Rattle.called_runs.proofs.ListedExecutables.{arm-ends, declared-ends, declared-first, first-next, own-none, own-some}
use Rattle.called_runs.proofs.StandingLists.{standing-at, standing-loops}

-- ---- END

-- END is among these
pub HasEnd : List Labelled → Type 0
HasEnd xs = list_any (λ s. is_end s.stmt) xs ≡ true

pub none-has : HasEnd [] → ⊥
unfolding HasEnd
none-has has = let e : false ≡ true = has in cc

end-own : (s : Stmt) → is_end s ≡ true → own_executables s ≡ 1
end-own End ended = refl
end-own _ ended = let e : false ≡ true = ended in absurd cc

pub end-later : (s : Labelled) (rest : List Labelled) → own_executables s.stmt ≡ 0 → HasEnd (s ∷ rest) → HasEnd rest
unfolding HasEnd
end-later s rest none has = by_test (is_end s.stmt) refl has
  where
    by_test : (b : Bool) → is_end s.stmt ≡ b → (b || list_any (λ t. is_end t.stmt) rest) ≡ true → list_any (λ t. is_end t.stmt) rest ≡ true
    by_test true is any = let own = end-own s.stmt is in absurd (omega (arith, own, none))
    by_test false is any = any

pub end-from : (unit : List Labelled) (place : ℕ) → IsEnded unit → place < length unit → HasEnd (drop place unit)
unfolding HasEnd
end-from unit place ended inside =
    let long : length unit ≡ length ended.front + 1 = ap length ended.is ∙ length-append ended.front (ended.last ∷ []) in
    let e : drop place unit ≡ drop place ended.front ++ ended.last ∷ [] = ap (λ (u : List Labelled). drop place u) ended.is ∙ drop-append-le place ended.front (ended.last ∷ []) (omega (arith, long, inside)) in
    ap (λ (xs : List Labelled). list_any (λ t. is_end t.stmt) xs) e
    ∙ list_any-append (λ t. is_end t.stmt) (drop place ended.front) (ended.last ∷ [])
    ∙ or_right (list_any (λ t. is_end t.stmt) (drop place ended.front)) (is_end ended.last.stmt || false) (or_left (is_end ended.last.stmt) false ended.ended)

module _ (us : List (List Labelled)) (list : List Labelled) (laid : AreLaid us list) (c : Context) (at : ℕ → ℕ) (held : IsCopied us list c at) where
  abbrev unit : List Labelled
  unit = unit_at us c.unit

  -- ---- statements without executables

  pub unless-own : (place : ℕ) (s : Labelled) → slice_get unit place ≡ Some s → own_executables s.stmt ≡ 0 → loops_to unit s.label ≡ []
  unless-own place s is none = sym (standing-loops unit s.label) ∙ by_tests (is_executable s.stmt) refl (is_arm s.stmt) refl
    where
      there : slice_get (standing_in unit) place ≡ Some (standing s)
      there = standing-at unit place s is

      by_tests : (does : Bool) → is_executable s.stmt ≡ does → (arm : Bool) → is_arm s.stmt ≡ arm → loops_to (standing_in unit) s.label ≡ []
      by_tests false does arm arm_is = declared-ends (standing_in unit) held.execs held.leads place (standing s) there ((stand-role s.stmt).does ∙ does)
      by_tests true does true arm = arm-ends (standing_in unit) held.execs held.leads place (standing s) there ((stand-role s.stmt).arm ∙ arm)
      by_tests true does false arm =
          let tree : IsTree (stand_in s.stmt) = All-get (λ (t : Labelled). IsTree t.stmt) (standing_in unit) place (standing s) held.source.trees there in
          let some = own-some (stand_in s.stmt) tree.takes ((stand-role s.stmt).does ∙ does) ((stand-role s.stmt).arm ∙ arm) in
          let own = (stand-role s.stmt).own in
          absurd (omega (arith, some, own, none))

  pub unit-next : (place : ℕ) (s : Labelled) → slice_get unit place ≡ Some s → own_executables s.stmt ≡ 0 → first_of unit (place + 1) ≡ first_of unit place
  unit-next place s is none =
      let next = first-next unit place s is in
      let no_loops : length (loops_to unit s.label) ≡ 0 = ap (λ (xs : List ℕ). length xs) (unless-own place s is none) in
      omega (arith, next, none, no_loops)

  -- ---- what stands for a statement

  pub copy-at : (place : ℕ) (s : Labelled) → slice_get unit place ≡ Some s → IsPlain us c place s → slice_get list (at place) ≡ Some (copy_of us c place s)
  copy-at place s is plain =
      let has = alike list (piece_at us c place s) (copy_of us c place s ∷ []) (at place) (plain-piece us c place s plain) (held.stands.pieces place s is) in
      ap (λ (n : ℕ). slice_get list n) (let e : at place ≡ at place + 0 = omega arith in e) ∙ got list (copy_of us c place s ∷ []) (at place) 0 (copy_of us c place s) has refl

  -- declarations that stand between have no executables
  pub over-declared : (place : ℕ) (s : Labelled) → slice_get unit place ≡ Some s → first_of list (at (place + 1)) ≡ first_of list (at place + length (piece_at us c place s))
  over-declared place s is =
      let next = held.stands.next place s is in
      ap (λ (n : ℕ). first_of list n) next.behind ∙ declared-first list laid.execs laid.leads next.between (at place + length (piece_at us c place s)) next.stand next.declared

  pub plain-next : (place : ℕ) (s : Labelled) → slice_get unit place ≡ Some s → IsPlain us c place s → first_of list (at (place + 1)) ≡ first_of list (at place) + (own_executables s.stmt + length (loops_to unit s.label))
  plain-next place s is plain =
      let one : length (piece_at us c place s) ≡ 1 = ap length (plain-piece us c place s plain) in
      let more = first-next list (at place) (copy_of us c place s) (copy-at place s is plain) in
      let own = own-changed (changes us c) s.stmt in
      let loops : length (loops_to list (copy_of us c place s).label) ≡ length (loops_to unit s.label) = ap (λ (xs : List ℕ). length xs) (plain-loops us list laid c at held place s is plain.kept plain.none) ∙ length-map (loops_to unit s.label) at in
      over-declared place s is ∙ ap (λ (n : ℕ). first_of list (at place + n)) one ∙ (let e : first_of list (at place + 1) ≡ first_of list (at place) + (own_executables s.stmt + length (loops_to unit s.label)) = omega (arith, more, own, loops) in e)

  pub left-next : (place : ℕ) (s : Labelled) → slice_get unit place ≡ Some s → is_kept c.unit s.stmt ≡ false → first_of list (at (place + 1)) ≡ first_of list (at place)
  left-next place s is none =
      over-declared place s is
      ∙ ap (λ (xs : List Labelled). first_of list (at place + length xs)) (nothing_stands us c place s none)
      ∙ ap (λ (n : ℕ). first_of list n) (let e : at place + 0 ≡ at place = omega arith in e)

  -- ---- at a statement

  abbrev Here : ℕ → Type 0
  Here place = Stands us list c at (first_of unit place) (first_of list (at place))

  further : (place : ℕ) → first_of unit (place + 1) ≡ first_of unit place → first_of list (at (place + 1)) ≡ first_of list (at place) → Here (place + 1) → Here place
  further place mine there stands = subst (λ (n : ℕ). Stands us list c at n (first_of list (at place))) mine (subst (λ (n : ℕ). Stands us list c at (first_of unit (place + 1)) n) there stands)

  from-here : (xs : List Labelled) (place : ℕ) → drop place unit ≡ xs → HasEnd xs → Here place
  from-here [] place is has = absurd (none-has has)
  from-here (s ∷ rest) place is has = by_which (which us c place s) (λ none. from-here rest (place + 1) (rest_here unit place s rest is) (end-later s rest none has))
    where
      here : slice_get unit place ≡ Some s
      here = first_here unit place s rest is

      by_own : IsPlain us c place s → (n : ℕ) → own_executables s.stmt ≡ n → (own_executables s.stmt ≡ 0 → Here (place + 1)) → Here place
      by_own plain (suc n) own later = at_copy place 0 s here plain.kept plain.none (omega (arith, own)) (omega arith) (omega arith)
      by_own plain zero own later =
          let next = plain-next place s here plain in
          let no_loops : length (loops_to unit s.label) ≡ 0 = ap (λ (xs : List ℕ). length xs) (unless-own place s here own) in
          further place (unit-next place s here own) (omega (arith, next, own, no_loops)) (later own)

      by_use : is_kept c.unit s.stmt ≡ false → (does : Bool) → is_executable s.stmt ≡ does → (own_executables s.stmt ≡ 0 → Here (place + 1)) → Here place
      by_use none true does later = at_end place s here none (unkept_is_end c.unit s.stmt none does) refl refl
      by_use none false does later = let own = own-none s.stmt does in further place (unit-next place s here own) (left-next place s here none) (later own)

      by_which : Which us c place s → (own_executables s.stmt ≡ 0 → Here (place + 1)) → Here place
      by_which (calling call calls) later = at_call place s call here calls refl refl
      by_which (single plain) later = by_own plain (own_executables s.stmt) refl later
      by_which (left_out none) later = by_use none (is_executable s.stmt) refl later

  pub stands-here : (place : ℕ) → place < length unit → Stands us list c at (first_of unit place) (first_of list (at place))
  stands-here place inside = from-here (drop place unit) place refl (end-from unit place held.ended inside)

  -- ---- where control falls

  lands-inside : (xs : List Labelled) (place : ℕ) → drop place unit ≡ xs → HasEnd xs → landing_after unit xs place < length unit
  lands-inside [] place is has = absurd (none-has has)
  lands-inside (s ∷ rest) place is has = by_tests (is_arm s.stmt) refl (is_executable s.stmt) refl (λ none. lands-inside rest (place + 1) (rest_here unit place s rest is) (end-later s rest none has))
    where
      here : slice_get unit place ≡ Some s
      here = first_here unit place s rest is

      by_tests : (arm : Bool) → is_arm s.stmt ≡ arm → (does : Bool) → is_executable s.stmt ≡ does → (own_executables s.stmt ≡ 0 → landing_after unit rest (place + 1) < length unit)
          → (if arm then end_of_block unit place else if does then place else landing_after unit rest (place + 1)) < length unit
      by_tests true arm does does_is later = let stop = held.stops false place s here (or_right (is_block_if s.stmt) (is_arm s.stmt) arm) in slice_get_within unit (end_of_block unit place) stop.s stop.is
      by_tests false arm true does later = slice_get_within unit place s here
      by_tests false arm false does later = later (own-none s.stmt does)

  pub stands-met : (place : ℕ) → place < length unit → Stands us list c at (met unit place) (met list (at place))
  stands-met place inside =
      let mine : met unit place ≡ first_of unit (landing unit place) = met-is unit place in
      let there : met list (at place) ≡ first_of list (at (landing unit place)) = met-is list (at place) ∙ ap (λ (n : ℕ). first_of list n) (landings-mapped us laid.closed list c at held.stands held.ended place inside) in
      let stands = stands-here (landing unit place) (lands-inside (drop place unit) place refl (end-from unit place held.ended inside)) in
      subst (λ (n : ℕ). Stands us list c at n (met list (at place))) (sym mine) (subst (λ (n : ℕ). Stands us list c at (first_of unit (landing unit place)) n) (sym there) stands)
