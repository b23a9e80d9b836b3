-- The statements that items become.
use Rattle.std.proofs.Common.{◌≡◌, ℕ, ◌+◌, ◌<◌, ◌≤◌, ℤ, Bool, true, false, ◌==◌, List, [], ◌∷◌, ◌++◌, length, get_or, map, flat_map, Option, Some, None, refl, sym, ap, subst, ◌∙◌, arith, append_assoc, append-nil}
use Rattle.std.specs.Prelude.{if◌then◌else◌, slice_get}
use Rattle.std.specs.List.{range_with_len}
use Rattle.std.proofs.lemmas.Bool.{eq-eqb}
use Rattle.std.proofs.lemmas.List.{length-append, length-map, map-append}
use Rattle.std.proofs.lemmas.List.Folds.{list_any_at}
use Rattle.std.proofs.lemmas.List.FromFn.{get_or-range_with_len, length-range_with_len}
use Rattle.std.proofs.lemmas.Grind.{flat_map-append}
use Rattle.list_laws.proofs.KeyPlaces.{found}
use Rattle.list_laws.proofs.Ranges.{range_more}
use Rattle.closed_walks.specs.Graph.{edge_count, to}
use Rattle.f77_tree.specs.declared.programs.Exec.{Exec}
use Rattle.f77_tree.specs.declared.programs.ExecKind.{ExecKind}
use Rattle.f77_tree.specs.declared.programs.ExecKind.TheVariants.{Assign, Print, Pass, Test, Sign, Pick, DoStart, DoNext, End}
use Rattle.f77_tree.specs.declared.programs.Program.{Program}
use Rattle.alias_classes.specs.Classes.{ClassTable}
use Rattle.cfg_build.specs.Flow.{flow}
use Rattle.cfg_build.specs.Parts.{line_in}
use Rattle.cfg_build.specs.Passes.{kind_in}
use Rattle.const_prop.specs.Closed.{words_on}
use Rattle.const_prop.specs.Table.{Knowns}
use Rattle.flat_programs.specs.declared.statements.Flat.{Flat}
use Rattle.flat_programs.specs.declared.statements.Flat.TheVariants.{Mark, Jump}
use Rattle.flat_programs.specs.declared.statements.FlatLine.{FlatLine}
use Rattle.simplified_forms.specs.Items.{kind_at, own_piece, own_edge, IsEnteredPiece, IsKeptKind, IsItem}
use Rattle.simplified_forms.specs.Plans.{IsFoldedAt}
use Rattle.simplified_forms.specs.Simplified.{decided, has_mark, mark_of, last_jump, left_of, lines, rest}
use Rattle.simplified_forms.specs.StatementCounts.{left_count}

-- ---- how many there are

module _ (p : Program) (checked : Bool) (words : ℕ → Option ℤ) (mark : ℕ → ℕ) where
  left_of-most : (kind : ExecKind) (d : Option ℕ) → length (left_of p checked words mark kind d) ≤ 1
  left_of-most (Assign target value next) d = omega arith
  left_of-most (Print items next) d = omega arith
  left_of-most (Pass next) d = omega arith
  left_of-most (Test c if_true if_false) None = omega arith
  left_of-most (Test c if_true if_false) (Some i) = omega arith
  left_of-most (Sign value below at above) None = omega arith
  left_of-most (Sign value below at above) (Some i) = omega arith
  left_of-most (Pick value targets other) None = omega arith
  left_of-most (Pick value targets other) (Some i) = omega arith
  left_of-most (DoStart loop_no var first last step body exit) d = omega arith
  left_of-most (DoNext loop_no var body exit) d = omega arith
  left_of-most End d = omega arith

  left_of-count : (kind : ExecKind) (d : Option ℕ) → length (left_of p checked words mark kind d) ≡ left_count kind d
  left_of-count (Assign target value next) d = refl
  left_of-count (Print items next) d = refl
  left_of-count (Pass next) d = refl
  left_of-count (Test c if_true if_false) None = refl
  left_of-count (Test c if_true if_false) (Some i) = refl
  left_of-count (Sign value below at above) None = refl
  left_of-count (Sign value below at above) (Some i) = refl
  left_of-count (Pick value targets other) None = refl
  left_of-count (Pick value targets other) (Some i) = refl
  left_of-count (DoStart loop_no var first last step body exit) d = refl
  left_of-count (DoNext loop_no var body exit) d = refl
  left_of-count End d = refl

either-most : {X : Type 0} (b : Bool) (x : X) → length (if b then x ∷ [] else []) ≤ 1
either-most true x = omega arith
either-most false x = omega arith

neither-most : {X : Type 0} (b : Bool) (x : X) → length (if b then [] else x ∷ []) ≤ 1
neither-most true x = omega arith
neither-most false x = omega arith

last_jump-most : (is_item : ℕ → Bool) (k : ℕ) (o : Option ℕ) → length (last_jump is_item k o) ≤ 1
last_jump-most is_item k None = omega arith
last_jump-most is_item k (Some s) = neither-most _ s

if-most : {X : Type 0} (b : Bool) (xs : List X) (n : ℕ) → length xs ≤ n → length (if b then xs else []) ≤ n
if-most true xs n most = most
if-most false xs n most = omega arith

-- ---- one after another

abbrev at : (line : ℕ) → Flat → FlatLine
at line stmt = record { line = line; stmt = stmt }

joined : (old : List FlatLine) (line : ℕ) (m o j : List Flat) → ((old ++ map (at line) m) ++ map (at line) o) ++ map (at line) j ≡ old ++ map (at line) (m ++ o ++ j)
joined old line m o j =
    ap (λ (xs : List FlatLine). xs ++ map (at line) j) (append_assoc old (map (at line) m) (map (at line) o))
    ∙ append_assoc old (map (at line) m ++ map (at line) o) (map (at line) j)
    ∙ ap (λ (xs : List FlatLine). old ++ (xs ++ map (at line) j)) (sym (map-append (at line) m o))
    ∙ ap (λ (xs : List FlatLine). old ++ xs) (sym (map-append (at line) (m ++ o) j))

module _ (p : Program) (c : ClassTable) (t : Knowns) (checked : Bool) (is_item : ℕ → Bool) (k : ℕ) where
  abbrev stmts : (edge : ℕ) → ExecKind → Option ℕ → List Flat
  stmts edge kind d = (if has_mark p t is_item k then Mark ∷ [] else []) ++ left_of p checked (words_on c t edge) (mark_of p t is_item) kind d ++ map (λ s. Jump (mark_of p t is_item s)) (last_jump is_item k (rest kind d))

  stmts-most : (edge : ℕ) (kind : ExecKind) (d : Option ℕ) → length (stmts edge kind d) ≤ 3
  stmts-most edge kind d =
      let m : List Flat = if has_mark p t is_item k then Mark ∷ [] else [] in
      let o = left_of p checked (words_on c t edge) (mark_of p t is_item) kind d in
      let js = last_jump is_item k (rest kind d) in
      let first = length-append m o in
      let second = length-append (m ++ o) (map (λ s. Jump (mark_of p t is_item s)) js) in
      let third = length-map js (λ (s : ℕ). Jump (mark_of p t is_item s)) in
      let a = either-most (has_mark p t is_item k) Mark in
      let b = left_of-most p checked (words_on c t edge) (mark_of p t is_item) kind d in
      let e = last_jump-most is_item k (rest kind d) in
      omega (arith, first, second, third, a, b, e)

  pub lines-most : length (lines p c t checked is_item k) ≤ 3
  lines-most =
      let all = stmts (own_edge p k) (kind_at p k) (decided p t k) in
      let most = stmts-most (own_edge p k) (kind_at p k) (decided p t k) in
      let same = length-map all (at (line_in (slice_get p.execs k))) in
      if-most (is_item k) (map (at (line_in (slice_get p.execs k))) all) 3 (omega (arith, most, same))

  lines-are : (exec : Exec) (edge : ℕ) (d : Option ℕ) → is_item k ≡ true → slice_get p.execs k ≡ Some exec → edge ≡ own_edge p k → d ≡ decided p t k → map (at exec.line) (stmts edge exec.kind d) ≡ lines p c t checked is_item k
  lines-are exec edge d item found edge_is d_is =
      ap (λ e. map (at exec.line) (stmts e exec.kind d)) edge_is
      ∙ ap (λ x. map (at exec.line) (stmts (own_edge p k) exec.kind x)) d_is
      ∙ ap (λ kind. map (at exec.line) (stmts (own_edge p k) kind (decided p t k))) (sym (ap kind_in found))
      ∙ ap (λ o. map (at (line_in o)) (stmts (own_edge p k) (kind_at p k) (decided p t k))) (sym found)
      ∙ ap (λ b. if b then map (at (line_in (slice_get p.execs k))) (stmts (own_edge p k) (kind_at p k) (decided p t k)) else []) (sym item)

  -- the statements of an item, one after another
  pub lines-item : (exec : Exec) (edge : ℕ) (d : Option ℕ) (old : List FlatLine) (m o j : List Flat) → is_item k ≡ true → slice_get p.execs k ≡ Some exec → edge ≡ own_edge p k → d ≡ decided p t k
      → m ≡ (if has_mark p t is_item k then Mark ∷ [] else []) → o ≡ left_of p checked (words_on c t edge) (mark_of p t is_item) exec.kind d → j ≡ map (λ s. Jump (mark_of p t is_item s)) (last_jump is_item k (rest exec.kind d))
      → ((old ++ map (at exec.line) m) ++ map (at exec.line) o) ++ map (at exec.line) j ≡ old ++ lines p c t checked is_item k
  lines-item exec edge d old m o j item found edge_is d_is m_is o_is j_is =
      joined old exec.line m o j
      ∙ ap (λ (xs : List Flat). old ++ map (at exec.line) (xs ++ o ++ j)) m_is
      ∙ ap (λ (xs : List Flat). old ++ map (at exec.line) ((if has_mark p t is_item k then Mark ∷ [] else []) ++ xs ++ j)) o_is
      ∙ ap (λ (xs : List Flat). old ++ map (at exec.line) ((if has_mark p t is_item k then Mark ∷ [] else []) ++ left_of p checked (words_on c t edge) (mark_of p t is_item) exec.kind d ++ xs)) j_is
      ∙ ap (λ (xs : List FlatLine). old ++ xs) (lines-are exec edge d item found edge_is d_is)

  -- how many statements an item becomes
  pub lines-count : (exec : Exec) (d : Option ℕ) (m j : List Flat) (own : ℕ) → is_item k ≡ true → slice_get p.execs k ≡ Some exec → d ≡ decided p t k
      → m ≡ (if has_mark p t is_item k then Mark ∷ [] else []) → own ≡ left_count exec.kind d → j ≡ map (λ s. Jump (mark_of p t is_item s)) (last_jump is_item k (rest exec.kind d))
      → length m + own + length j ≡ length (lines p c t checked is_item k)
  lines-count exec d m j own item found d_is m_is own_is j_is =
      let edge = own_edge p k in
      let marks : List Flat = if has_mark p t is_item k then Mark ∷ [] else [] in
      let o = left_of p checked (words_on c t edge) (mark_of p t is_item) exec.kind d in
      let js = map (λ s. Jump (mark_of p t is_item s)) (last_jump is_item k (rest exec.kind d)) in
      let first = length-append marks o in
      let second = length-append (marks ++ o) js in
      let third = length-map (stmts edge exec.kind d) (at exec.line) in
      let left = left_of-count p checked (words_on c t edge) (mark_of p t is_item) exec.kind d in
      let same = ap (λ (xs : List FlatLine). length xs) (lines-are exec edge d item found refl d_is) in
      let m_same = ap (λ (xs : List Flat). length xs) m_is in
      let j_same = ap (λ (xs : List Flat). length xs) j_is in
      omega (arith, first, second, third, left, same, m_same, j_same, own_is)

-- the statements of one executable more
pub lines-more : (f : ℕ → List FlatLine) (k : ℕ) → flat_map f (range_with_len 0 (k + 1)) ≡ flat_map f (range_with_len 0 k) ++ f k
lines-more f k = ap (flat_map f) (range_more k) ∙ flat_map-append f (range_with_len 0 k) (k ∷ []) ∙ ap (λ (xs : List FlatLine). flat_map f (range_with_len 0 k) ++ xs) (append-nil (f k))

-- ---- the edges to items

module _ (p : Program) (t : Knowns) (k : ℕ) where
  entered-edge : IsEnteredPiece p t (own_piece p k) → own_edge p k < edge_count (flow p.execs).graph
  entered-edge by =
      let g = (flow p.execs).graph in
      let n = edge_count g in
      let test : ℕ → Bool = λ e. to g e == own_piece p k in
      let size = length-range_with_len 0 n in
      let read : get_or (range_with_len 0 n) by.edge 0 ≡ by.edge = get_or-range_with_len 0 n by.edge 0 by.live.edge ∙ omega arith in
      let passes : test (get_or (range_with_len 0 n) by.edge 0) ≡ true = ap test read ∙ eq-eqb (to g by.edge) (own_piece p k) by.ends in
      let any = list_any_at test (range_with_len 0 n) by.edge 0 (omega (arith, by.live.edge, size)) passes in
      let within = (found (λ (x : ℕ) e. test e) 0 0 (range_with_len 0 n) any).within in
      omega (arith, within, size)

  kept-edge : (kind : ExecKind) → IsKeptKind p t k kind → IsFoldedAt (own_edge p k) (edge_count (flow p.execs).graph) kind
  kept-edge (Assign target value next) kept = entered-edge kept
  kept-edge (Print items next) kept = entered-edge kept
  kept-edge (Pass next) kept = entered-edge kept
  kept-edge (Test c if_true if_false) kept = entered-edge kept
  kept-edge (Sign value below at above) kept = entered-edge kept
  kept-edge (Pick value targets other) kept = entered-edge kept
  kept-edge (DoStart loop_no var first last step body exit) kept = entered-edge kept
  kept-edge (DoNext loop_no var body exit) kept = tt
  kept-edge End kept = tt

  -- an item that has expressions has an edge
  pub item-edge : (exec : Exec) (edge edges : ℕ) → IsItem p t k → slice_get p.execs k ≡ Some exec → edge ≡ own_edge p k → edges ≡ edge_count (flow p.execs).graph → IsFoldedAt edge edges exec.kind
  item-edge exec edge edges item found edge_is edges_are =
      let same : Some item.exec ≡ Some exec = sym item.found ∙ found in
      let one : item.exec ≡ exec = cc in
      let kept : IsKeptKind p t k exec.kind = subst (λ (x : Exec). IsKeptKind p t k x.kind) one item.kept in
      subst (λ e. IsFoldedAt e edges exec.kind) (sym edge_is) (subst (λ n. IsFoldedAt (own_edge p k) n exec.kind) (sym edges_are) (kept-edge exec.kind kept))
