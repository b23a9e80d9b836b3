-- No line of storage or of counts is told exactly where no statement has such a fault.
use Rattle.std.proofs.Common.{◌≡◌, ℕ, ◌+◌, ◌≤◌, Bool, true, false, not, ◌&&◌, ◌||◌, cond, List, [], ◌∷◌, ◌++◌, length, All, Option, Some, None, refl, sym, ap, subst, ◌∙◌, arith}
use Rattle.std.specs.Prelude.{flat_map, nat_lt, sum_by}
use Rattle.std.proofs.lemmas.Bool.{true≢false, or_from, or_parts, le-leb, ltb-false}
use Rattle.std.proofs.lemmas.List.Concat.{flat_map-append}
use Rattle.std.proofs.lemmas.List.Sums.{sum_by-append}
use Rattle.f77_tree.specs.declared.declarations.InitPart.{InitPart}
use Rattle.f77_tree.specs.declared.programs.NameInfo.{NameInfo}
use Rattle.f77_tree.specs.declared.statements.Labelled.{Labelled}
use Rattle.f77_tree.specs.declared.statements.Stmt.{Stmt}
use Rattle.f77_tree.specs.declared.statements.Stmt.TheVariants.{Init}
use Rattle.f77_tree.specs.InitialWords.{part_words}
use Rattle.f77_tree.specs.Operations.{statement_operations}
use Rattle.layout_rules.specs.Counts.{asks_too_much, is_too_great, items_taken, labels_picked}
use Rattle.layout_rules.specs.Declarations.{all_inits, inits_of}
use Rattle.layout_rules.specs.Executables.{executables_at}
use Rattle.layout_rules.specs.Faults.{answer_or, first_after, first_line}
use Rattle.layout_rules.specs.Layout.{names_of}
use Rattle.layout_rules.specs.LowestLines.{lower_line, lower_or, lowest_line}
use Rattle.layout_rules.specs.PlacedNames.{HasRightDims}
use Rattle.layout_rules.specs.StorageFaults.{is_data, has_dims_twice, has_wrong_data, has_wrong_declaration, has_wrong_dims, has_wrong_member, has_wrong_part, has_wrong_places, has_wrong_storage, is_common_twice}
use Rattle.layout_rules.specs.StorageLines.{declares_wrongly, given_by, groups_wrongly, initializes_wrongly, storage_line}
use Rattle.layout_rules.proofs.LowestWalk.{first-none, lowest-none}
use Rattle.layout_rules.proofs.StorageLines.{Fault, after_clear, after_here, after_next, right_sizes, declared_right, none-any, right_statement}
use Rattle.std.proofs.lemmas.Grind.{elements}

-- ---- DATA

no-inits : (stmt : Stmt) → is_data stmt ≡ false → inits_of stmt ≡ []
no-inits (Init parts) is = absurd (true≢false is)
no-inits _ is = refl

pub and-from : (a b : Bool) → (a ≡ true → b ≡ false) → (a && b) ≡ false
and-from true b h = h refl
and-from false b h = refl

pub by-test : {P : Type 0} (b : Bool) → (b ≡ true → P) → (b ≡ false → P) → P
by-test true on_true on_false = on_true refl
by-test false on_true on_false = on_false refl

-- ---- one fault or another

abbrev pub either : Fault → Fault → Fault
either f g above s = f above s || g above s

pub none-either : (f g : Fault) (above stmts : List Labelled) → first_after f above stmts ≡ None → first_after g above stmts ≡ None → first_after (either f g) above stmts ≡ None
none-either f g above [] no_f no_g = refl
none-either f g above (s ∷ rest) no_f no_g = grind (arith, after_clear f above rest s no_f, after_clear g above rest s no_g, after_next (either f g) above rest s, or_from (f above s) (g above s), none-either f g (above ++ s ∷ []) rest, after_next f above rest s, after_next g above rest s)

either-none : (f g : Fault) (above stmts : List Labelled) → first_after (either f g) above stmts ≡ None → (first_after f above stmts ≡ None) × (first_after g above stmts ≡ None)
either-none f g above [] none = (refl, refl)
either-none f g above (s ∷ rest) none = grind (arith, after_clear (either f g) above rest s none, or_parts (f above s) (g above s), either-none f g (above ++ s ∷ []) rest, after_next (either f g) above rest s, after_next f above rest s, after_next g above rest s)

module _ (names placed : List NameInfo) (whole : List Labelled) where
  -- what DATA with right items gives is all that it has
  gives-all : (s : Labelled) → has_wrong_member names s ≡ false → given_by names s ≡ inits_of s.stmt
  gives-all s right = ap (λ b. cond b [] (inits_of s.stmt)) right

  given-push : (above : List Labelled) (s : Labelled) → flat_map (given_by names) above ≡ all_inits above → given_by names s ≡ inits_of s.stmt → flat_map (given_by names) (above ++ s ∷ []) ≡ all_inits (above ++ s ∷ [])
  given-push above s same one = grind (arith, elements, flat_map-append, given_by, all_inits, inits_of)

  -- ---- one statement

  abbrev values_wrong : List Labelled → Labelled → Bool
  values_wrong above s = has_wrong_part placed (flat_map (part_words placed) (flat_map (given_by names) above)) (inits_of s.stmt)

  same-values : (above : List Labelled) (s : Labelled) → flat_map (given_by names) above ≡ all_inits above → values_wrong above s ≡ has_wrong_data placed above s
  same-values above s same = ap (λ (xs : List InitPart). has_wrong_part placed (flat_map (part_words placed) xs) (inits_of s.stmt)) same

  abbrev pub declared_or_placed : Fault
  declared_or_placed = either (declares_wrongly names) (has_wrong_places names whole)

  agree : (f m p v d : Bool) → (d ≡ false → v ≡ false) → (f || m || p || v) ≡ (f || (not d && m) || p || (d && (m || v)))
  agree f m p v d none = grind (arith, none)

  -- a statement has a fault of storage exactly where one of the three kinds is told of it
  same-fault : (above : List Labelled) (s : Labelled) → flat_map (given_by names) above ≡ all_inits above → has_wrong_storage names placed whole above s ≡ either declared_or_placed (initializes_wrongly names placed) above s
  same-fault above s same = grind (arith, elements, has_wrong_declaration, has_wrong_places, same-values, agree, has_dims_twice, has_wrong_dims, is_common_twice, has_wrong_member, is_data, has_wrong_part, flat_map, part_words, given_by, no-inits)

  pub same-first : (above stmts : List Labelled) → flat_map (given_by names) above ≡ all_inits above → first_after (has_wrong_storage names placed whole) above stmts ≡ first_after (either declared_or_placed (initializes_wrongly names placed)) above stmts
  same-first above [] same = refl
  same-first above (s ∷ rest) same =
      let fault = same-fault above s same in
      let all = either declared_or_placed (initializes_wrongly names placed) in
      by-test (has_wrong_storage names placed whole above s)
      (λ is. after_here (has_wrong_storage names placed whole) above rest s is ∙ sym (after_here all above rest s (sym fault ∙ is)))
      (λ is.
      after_next (has_wrong_storage names placed whole) above rest s is
      ∙ same-first (above ++ s ∷ []) rest (given-push above s same (gives-all s (right_statement names placed whole above s is).members))
      ∙ sym (after_next all above rest s (sym fault ∙ is)))

-- ---- the line of storage

no-lower : (a b : Option ℕ) → lower_line a b ≡ None → (a ≡ None) × (b ≡ None)
no-lower None b none = (refl, none)
no-lower (Some line) b none = let e : Some (lower_or line b) ≡ None = none in absurd cc

no-answer : (a b : Option ℕ) → answer_or a b ≡ None → (a ≡ None) × (b ≡ None)
no-answer None b none = (refl, none)
no-answer (Some line) b none = let e : Some line ≡ None = none in absurd cc

module _ (names placed : List NameInfo) (stmts : List Labelled) where
  pub no-storage-fault : storage_line names placed stmts ≡ None → first_line (has_wrong_storage names placed stmts) stmts ≡ None
  no-storage-fault none = grind (arith, elements, no-answer, lower_line, first_line, declares_wrongly, has_wrong_places, lowest_line, initializes_wrongly, no-lower, same-first, none-either, lowest-none)

  pub storage-without : first_line (has_wrong_storage names placed stmts) stmts ≡ None → storage_line names placed stmts ≡ None
  storage-without none = grind (arith, elements, either-none, initializes_wrongly, same-first, declares_wrongly, has_wrong_places, answer_or, lower_line, first_line, lowest_line, first-none)

-- dimensions are right where no declaration is wrong
pub sizes-right : (names : List NameInfo) (stmts : List Labelled) → first_line (declares_wrongly names) stmts ≡ None → All HasRightDims (names_of stmts)
sizes-right names stmts none = right_sizes stmts (none-any (declares_wrongly names) has_wrong_dims (λ above s clear. (declared_right above s (groups_wrongly names s) clear).1) [] stmts none)

-- ---- counts

module _ (names : List NameInfo) (checked : Bool) (whole : List Labelled) where
  abbrev operations_great : List Labelled → Labelled → Bool
  operations_great above s = nat_lt 500 (statement_operations (executables_at names checked whole (length above) s))

  abbrev labels_great : List Labelled → Labelled → Bool
  labels_great above s = nat_lt 4000 (sum_by (λ a. labels_picked a.stmt) above + labels_picked s.stmt)

  abbrev items_above : List Labelled → ℕ
  items_above above = sum_by (λ a. items_taken a.stmt) above

  items-push : (above : List Labelled) (s : Labelled) → items_above (above ++ s ∷ []) ≡ items_above above + items_taken s.stmt
  items-push above s = let more = sum_by-append (λ (a : Labelled). items_taken a.stmt) above (s ∷ []) in omega (arith, more)

  -- up to the first fault no items are too many above
  same-great : (above : List Labelled) (s : Labelled) → items_above above ≤ 4000 → is_too_great names checked whole above s ≡ asks_too_much names checked whole above s
  same-great above s few = ap (λ b. (operations_great above s || labels_great above s) || (b && nat_lt 4000 (items_above above + items_taken s.stmt))) (le-leb (items_above above) 4000 few)

  first-after : (above stmts : List Labelled) → items_above above ≤ 4000 → first_after (is_too_great names checked whole) above stmts ≡ first_after (asks_too_much names checked whole) above stmts
  first-after above [] few = refl
  first-after above (s ∷ rest) few =
      by-test (asks_too_much names checked whole above s)
      (λ is. after_here (is_too_great names checked whole) above rest s (same-great above s few ∙ is) ∙ sym (after_here (asks_too_much names checked whole) above rest s is))
      (λ is.
      let items = (or_parts (operations_great above s || labels_great above s) (nat_lt 4000 (items_above above + items_taken s.stmt)) is).1 in
      let below : items_above above + items_taken s.stmt ≤ 4000 = ltb-false 4000 (items_above above + items_taken s.stmt) items in
      after_next (is_too_great names checked whole) above rest s (same-great above s few ∙ is)
      ∙ first-after (above ++ s ∷ []) rest (subst (λ n. n ≤ 4000) (sym (items-push above s)) below)
      ∙ sym (after_next (asks_too_much names checked whole) above rest s is))

module _ (names : List NameInfo) (checked : Bool) (stmts : List Labelled) where
  -- the first statement with which something is too great
  pub first-great : first_line (is_too_great names checked stmts) stmts ≡ first_line (asks_too_much names checked stmts) stmts
  first-great = first-after names checked stmts [] stmts (omega arith)

  pub none-too-great : lowest_line (is_too_great names checked stmts) stmts ≡ None → first_line (asks_too_much names checked stmts) stmts ≡ None
  none-too-great none = sym first-great ∙ lowest-none (is_too_great names checked stmts) [] stmts none
