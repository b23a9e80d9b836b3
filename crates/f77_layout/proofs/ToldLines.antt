-- Where lines rise and statements stand in order, the lines that are told are those of the first statements with faults.
use Rattle.std.proofs.Common.{◌≡◌, ℕ, suc, ◌<◌, Bool, true, false, not, ◌&&◌, ◌||◌, cond, List, [], ◌∷◌, ◌++◌, Option, Some, None, refl, sym, ap, ◌∙◌, arith}
use Rattle.std.specs.Prelude.{nat_lt, slice_get, flat_map, bytes_eq}
use Rattle.std.specs.List.{list_any}
use Rattle.std.proofs.lemmas.Bool.{true≢false, or_left, or_right, le-ltb}
use Rattle.std.proofs.lemmas.Bool.Decides.{nat_tests}
use Rattle.std.proofs.lemmas.List.Folds.{list_any-append}
use Rattle.f77_tree.specs.declared.programs.NameInfo.{NameInfo}
use Rattle.f77_tree.specs.declared.statements.Labelled.{Labelled}
use Rattle.f77_tree.specs.declared.statements.Stmt.{Stmt}
use Rattle.f77_tree.specs.declared.statements.Stmt.TheVariants.{TypeOf, Dimension, Common, Equivalence}
use Rattle.layout_rules.specs.Counts.{asks_too_much, is_too_great}
use Rattle.layout_rules.specs.Declarations.{declarators}
use Rattle.layout_rules.specs.Faults.{answer_or, first_after, first_line, has_repeat}
use Rattle.layout_rules.specs.LowestLines.{lower_line, lower_or, lowest_line, LinesRise, lowest_after}
use Rattle.layout_rules.specs.Order.{is_out_of_order, rank}
use Rattle.layout_rules.specs.StorageFaults.{are_wrong_dims, common_names, dimensioned, is_data, is_member, has_wrong_places, has_wrong_storage, members_of}
use Rattle.layout_rules.specs.StorageLines.{declares_wrongly, initializes_wrongly, storage_line}
use Rattle.storage_checks.proofs.FaultLines.{by-test, and-from, either, none-either, declared_or_placed, same-first, first-great}
use Rattle.layout_rules.proofs.StorageLines.{Fault, after_clear, after_next, comes_late, data_late, late_rank, no_places_after, still_late}

rise-rest : (s : Labelled) (rest : List Labelled) → LinesRise (s ∷ rest) → LinesRise rest
rise-rest s rest rise = λ j k a b here there lt. rise (suc j) (suc k) a b here there (omega (arith, lt))

rise-below : (s : Labelled) (rest : List Labelled) → LinesRise (s ∷ rest) → (k : ℕ) (b : Labelled) → slice_get rest k ≡ Some b → s.line < b.line
rise-below s rest rise k b at = rise 0 (suc k) s b refl at (omega arith)

module _ (fault : List Labelled → Labelled → Bool) where
  -- no line with a fault is lower, where all are greater
  pub not-lower : (n : ℕ) (above stmts : List Labelled) → ((k : ℕ) (b : Labelled) → slice_get stmts k ≡ Some b → n < b.line) → lower_or n (first_after fault above stmts) ≡ n
  not-lower n above [] greater = refl
  not-lower n above (t ∷ rest) greater = by (fault above t) (not-lower n (above ++ t ∷ []) rest (λ k b at. greater (suc k) b at))
    where
      by : (b : Bool) → lower_or n (first_after fault (above ++ t ∷ []) rest) ≡ n → lower_or n (cond b (Some t.line) (first_after fault (above ++ t ∷ []) rest)) ≡ n
      by true later = let here : n < t.line = greater 0 t refl in ap (λ c. cond c t.line n) (le-ltb t.line n (omega (arith, here)))
      by false later = later

  lowest-after : (above stmts : List Labelled) → LinesRise stmts → lowest_after fault above stmts ≡ first_after fault above stmts
  lowest-after above [] rise = refl
  lowest-after above (s ∷ rest) rise = by (fault above s) (lowest-after (above ++ s ∷ []) rest (rise-rest s rest rise))
    where
      by : (b : Bool) → lowest_after fault (above ++ s ∷ []) rest ≡ first_after fault (above ++ s ∷ []) rest → cond b (Some (lower_or s.line (lowest_after fault (above ++ s ∷ []) rest))) (lowest_after fault (above ++ s ∷ []) rest) ≡ cond b (Some s.line) (first_after fault (above ++ s ∷ []) rest)
      by true later =
          ap (λ (o : Option ℕ). Some (lower_or s.line o)) later
          ∙ ap Some (not-lower s.line (above ++ s ∷ []) rest (rise-below s rest rise))
      by false later = later

  pub lowest-first : (stmts : List Labelled) → LinesRise stmts → lowest_line fault stmts ≡ first_line fault stmts
  lowest-first stmts rise = lowest-after [] stmts rise

-- ---- the lower of two first lines

-- a line that is lower with none of them is the lower one
lower-than : (line : ℕ) (o : Option ℕ) → lower_or line o ≡ line → lower_line o (Some line) ≡ Some line
lower-than line None is = refl
lower-than line (Some n) is = ap Some (grind (arith, nat_tests))

lower-step : (b c : Bool) (line : ℕ) (first other both : Option ℕ) → lower_or line first ≡ line → lower_or line other ≡ line → lower_line first other ≡ both → lower_line (cond b (Some line) first) (cond c (Some line) other) ≡ cond (b || c) (Some line) both
lower-step true true line first other both below_first below_other later = ap Some (grind (arith, nat_tests))
lower-step true false line first other both below_first below_other later = ap Some below_other
lower-step false true line first other both below_first below_other later = lower-than line first below_first
lower-step false false line first other both below_first below_other later = later

first-lower : (f g : Fault) (above stmts : List Labelled) → LinesRise stmts → lower_line (first_after f above stmts) (first_after g above stmts) ≡ first_after (either f g) above stmts
first-lower f g above [] rise = refl
first-lower f g above (s ∷ rest) rise =
    let next = above ++ s ∷ [] in
    lower-step (f above s) (g above s) s.line _ _ _ (not-lower f s.line next rest (rise-below s rest rise)) (not-lower g s.line next rest (rise-below s rest rise)) (first-lower f g next rest (rise-rest s rest rise))

-- ---- DATA stands below what else declares

late-declares : (names : List NameInfo) (above : List Labelled) (s : Labelled) → nat_lt (rank s.stmt) 3 ≡ false → declares_wrongly names above s ≡ false
late-declares names above s late = by s.stmt late
  where
    by : (stmt : Stmt) → nat_lt (rank stmt) 3 ≡ false
        → (has_repeat bytes_eq (flat_map (λ a. dimensioned a.stmt) above) (dimensioned stmt) || list_any (λ decl. are_wrong_dims decl.dims) (declarators stmt) || has_repeat bytes_eq (flat_map (λ a. common_names a.stmt) above) (common_names stmt) || (not (is_data stmt) && list_any (λ member. not (is_member names member)) (members_of stmt))) ≡ false
    by (TypeOf kind decls) late = absurd (true≢false late)
    by (Dimension decls) late = absurd (true≢false late)
    by (Common parts) late = absurd (true≢false late)
    by (Equivalence groups) late = absurd (true≢false late)
    by _ late = refl

no-declared-after : (names : List NameInfo) (above rest : List Labelled) → list_any comes_late above ≡ true → first_after is_out_of_order above rest ≡ None → first_after (declares_wrongly names) above rest ≡ None
no-declared-after names above [] some ordered = refl
no-declared-after names above (s ∷ rest) some ordered =
    let clear = after_clear is_out_of_order above rest s ordered in
    after_next (declares_wrongly names) above rest s (late-declares names above s (late_rank above s some clear))
    ∙ no-declared-after names (above ++ s ∷ []) rest (still_late above s some) (sym (after_next is_out_of_order above rest s clear) ∙ ordered)

behind-step : (b c : Bool) (line : ℕ) (first other both : Option ℕ) → (c ≡ true → first ≡ None) → answer_or first other ≡ both → answer_or (cond b (Some line) first) (cond c (Some line) other) ≡ cond (b || c) (Some line) both
behind-step true c line first other both nothing later = refl
behind-step false true line first other both nothing later = ap (λ o. answer_or o (Some line)) (nothing refl)
behind-step false false line first other both nothing later = later

module _ (names placed : List NameInfo) (whole : List Labelled) where
  is-data : (above : List Labelled) (s : Labelled) → initializes_wrongly names placed above s ≡ true → is_data s.stmt ≡ true
  is-data above s is = by-test (is_data s.stmt) (λ e. e) (λ e. absurd (true≢false (sym is ∙ and-from (is_data s.stmt) _ (λ t. absurd (true≢false (sym t ∙ e))))))

  data-behind : (above stmts : List Labelled) → first_after is_out_of_order above stmts ≡ None → answer_or (first_after (declared_or_placed names placed whole) above stmts) (first_after (initializes_wrongly names placed) above stmts) ≡ first_after (either (declared_or_placed names placed whole) (initializes_wrongly names placed)) above stmts
  data-behind above [] ordered = refl
  data-behind above (s ∷ rest) ordered =
      let clear = after_clear is_out_of_order above rest s ordered in
      let next = above ++ s ∷ [] in
      let ordered_rest = sym (after_next is_out_of_order above rest s clear) ∙ ordered in
      behind-step (declared_or_placed names placed whole above s) (initializes_wrongly names placed above s) s.line _ _ _
      (λ given.
      let late : list_any comes_late next ≡ true = list_any-append comes_late above (s ∷ []) ∙ or_right (list_any comes_late above) (list_any comes_late (s ∷ [])) (or_left (comes_late s) false (data_late s.stmt (is-data above s given))) in
      none-either (declares_wrongly names) (has_wrong_places names whole) next rest (no-declared-after names next rest late ordered_rest) (no_places_after names whole next rest late ordered_rest))
      (data-behind next rest ordered_rest)

pub storage-first : (names placed : List NameInfo) (stmts : List Labelled) → LinesRise stmts → first_line is_out_of_order stmts ≡ None → storage_line names placed stmts ≡ first_line (has_wrong_storage names placed stmts) stmts
storage-first names placed stmts rise ordered =
    ap (λ o. answer_or o (lowest_line (initializes_wrongly names placed) stmts)) (first-lower (declares_wrongly names) (has_wrong_places names stmts) [] stmts rise)
    ∙ ap (λ o. answer_or (first_line (declared_or_placed names placed stmts) stmts) o) (lowest-first (initializes_wrongly names placed) stmts rise)
    ∙ data-behind names placed stmts [] stmts ordered
    ∙ sym (same-first names placed stmts [] stmts refl)

pub counts-first : (names : List NameInfo) (checked : Bool) (stmts : List Labelled) → LinesRise stmts → lowest_line (is_too_great names checked stmts) stmts ≡ first_line (asks_too_much names checked stmts) stmts
counts-first names checked stmts rise = lowest-first (is_too_great names checked stmts) stmts rise ∙ first-great names checked stmts
