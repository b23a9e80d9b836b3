-- Tables of constants that tell the same have one simplified form.
use Rattle.std.proofs.Common.{◌≡◌, ℕ, ◌+◌, ◌<◌, ◌==◌, ℤ, Bool, true, false, List, [], ◌∷◌, ◌++◌, length, map, flat_map, count_by, Option, refl, sym, ap, subst, ◌∙◌, arith}
use Rattle.std.specs.Prelude.{◌&&◌, ◌||◌, if◌then◌else◌, slice_get}
use Rattle.std.specs.List.{list_any, range_with_len}
use Rattle.std.specs.Option.{option_map}
use mathlib.Core.Path.{fun_ext}
use Rattle.std.proofs.lemmas.Bool.{eq-eqb}
use Rattle.std.proofs.lemmas.List.FromFn.{length-range_with_len}
use Rattle.list_laws.proofs.KeyPlaces.{found}
use Rattle.list_laws.proofs.Members.{list_any_member, Member-range}
use Rattle.op_table.specs.Trips.{at_least_zero}
use Rattle.closed_walks.specs.Graph.{Graph, IsGraph, edge_count, to}
use Rattle.f77_tree.specs.declared.programs.ExecKind.{ExecKind}
use Rattle.f77_tree.specs.declared.programs.ExecKind.TheVariants.{Assign, Print, Pass, Test, Sign, Pick, DoStart, DoNext, End}
use Rattle.f77_tree.specs.declared.programs.Program.{Program}
use Rattle.alias_classes.specs.Classes.{ClassTable, IsClasses, class_count, class_of_word}
use Rattle.cfg_build.specs.Flow.{flow}
use Rattle.cfg_build.specs.Parts.{line_in}
use Rattle.cfg_build.specs.Passes.{kind_in}
use Rattle.const_prop.specs.Closed.{words_on}
use Rattle.const_prop.specs.Known.{one_of}
use Rattle.const_prop.specs.Table.{Knowns, AreSameKnowns}
use Rattle.flat_programs.specs.declared.statements.Flat.{Flat}
use Rattle.flat_programs.specs.declared.statements.Flat.TheVariants.{Mark, Jump}
use Rattle.flat_programs.specs.declared.statements.FlatLine.{FlatLine}
use Rattle.simplified_forms.specs.Items.{kind_at, own_piece, own_edge, IsEntered, IsItem, IsKeptKind}
use Rattle.simplified_forms.specs.Simplified.{decided, flat, has_mark, is_increment, is_jumped_to, jumps, last_jump, left_of, lines, mark, own_jumps, rest, statements, words_at}

-- what matters of executables that a table tells something of: nothing is asked of an increment, or of END
abbrev Unless : ExecKind → Type 0 → Type 0
Unless (DoNext loop_no var body exit) X = Unit {0}
Unless End X = Unit {0}
Unless kind X = X

unless : (X Y : Type 0) → (X → Y) → (kind : ExecKind) → Unless kind X → Unless kind Y
unless X Y f (Assign target value next) x = f x
unless X Y f (Print items next) x = f x
unless X Y f (Pass next) x = f x
unless X Y f (Test cond if_true if_false) x = f x
unless X Y f (Sign value below at above) x = f x
unless X Y f (Pick value targets other) x = f x
unless X Y f (DoStart loop_no var first last step body exit) x = f x
unless X Y f (DoNext loop_no var body exit) x = tt
unless X Y f End x = tt

rest_same : (kind : ExecKind) (d e : Option ℕ) → Unless kind (d ≡ e) → rest kind d ≡ rest kind e
rest_same (Assign target value next) d e same = ap (rest (Assign target value next)) same
rest_same (Print items next) d e same = ap (rest (Print items next)) same
rest_same (Pass next) d e same = ap (rest (Pass next)) same
rest_same (Test cond if_true if_false) d e same = ap (rest (Test cond if_true if_false)) same
rest_same (Sign value below at above) d e same = ap (rest (Sign value below at above)) same
rest_same (Pick value targets other) d e same = ap (rest (Pick value targets other)) same
rest_same (DoStart loop_no var first last step body exit) d e same = ap (rest (DoStart loop_no var first last step body exit)) same
rest_same (DoNext loop_no var body exit) d e same = refl
rest_same End d e same = refl

own_same : (kind : ExecKind) (d e : Option ℕ) → Unless kind (d ≡ e) → own_jumps kind d ≡ own_jumps kind e
own_same (Assign target value next) d e same = ap (own_jumps (Assign target value next)) same
own_same (Print items next) d e same = ap (own_jumps (Print items next)) same
own_same (Pass next) d e same = ap (own_jumps (Pass next)) same
own_same (Test cond if_true if_false) d e same = ap (own_jumps (Test cond if_true if_false)) same
own_same (Sign value below at above) d e same = ap (own_jumps (Sign value below at above)) same
own_same (Pick value targets other) d e same = ap (own_jumps (Pick value targets other)) same
own_same (DoStart loop_no var first last step body exit) d e same = ap (own_jumps (DoStart loop_no var first last step body exit)) same
own_same (DoNext loop_no var body exit) d e same = refl
own_same End d e same = refl

-- what two tables tell of an executable
record TellSame (w v : ℕ → Option ℤ) (d e : Option ℕ) : Type 0 where
  words : w ≡ v
  decided : d ≡ e

module _ (p : Program) (checked : Bool) (m : ℕ → ℕ) where
  left_both : (kind : ExecKind) (w v : ℕ → Option ℤ) (d e : Option ℕ) → TellSame w v d e → left_of p checked w m kind d ≡ left_of p checked v m kind e
  left_both kind w v d e same = ap (λ (x : ℕ → Option ℤ). left_of p checked x m kind d) same.words ∙ ap (left_of p checked v m kind) same.decided

  left_same : (kind : ExecKind) (w v : ℕ → Option ℤ) (d e : Option ℕ) → Unless kind (TellSame w v d e) → left_of p checked w m kind d ≡ left_of p checked v m kind e
  left_same (Assign target value next) w v d e same = left_both (Assign target value next) w v d e same
  left_same (Print items next) w v d e same = left_both (Print items next) w v d e same
  left_same (Pass next) w v d e same = left_both (Pass next) w v d e same
  left_same (Test cond if_true if_false) w v d e same = left_both (Test cond if_true if_false) w v d e same
  left_same (Sign value below at above) w v d e same = left_both (Sign value below at above) w v d e same
  left_same (Pick value targets other) w v d e same = left_both (Pick value targets other) w v d e same
  left_same (DoStart loop_no var first last step body exit) w v d e same = left_both (DoStart loop_no var first last step body exit) w v d e same
  left_same (DoNext loop_no var body exit) w v d e same = refl
  left_same End w v d e same = refl

pub and_same : (b x y : Bool) → (b ≡ true → x ≡ y) → (b && x) ≡ (b && y)
and_same true x y same = same refl
and_same false x y same = refl

if_same : {X : Type 0} (b : Bool) (x y z : X) → (b ≡ true → x ≡ y) → (if b then x else z) ≡ (if b then y else z)
if_same true x y z same = same refl
if_same false x y z same = refl

module _ (p : Program) (c : ClassTable) (t u : Knowns) (checked : Bool) (is_item : ℕ → Bool) (sound : IsGraph (flow p.execs).graph) (classes : IsClasses p c) (alike : AreSameKnowns (class_count c + 1) (edge_count (flow p.execs).graph) (flow p.execs).graph.nodes t u) (items : (k : ℕ) → is_item k ≡ true → IsItem p t k) where
  abbrev g : Graph
  g = (flow p.execs).graph

  -- ---- what the tables tell at items

  decided_same : (k : ℕ) → IsEntered p t k → decided p t k ≡ decided p u k
  decided_same k by =
      let less : own_piece p k < g.nodes = subst (λ n. n < g.nodes) by.ends (sound.ends by.edge by.live.edge) in
      ap (λ d. option_map at_least_zero (one_of d)) (alike.decision (own_piece p k) less)

  edge_exists : (k : ℕ) → IsEntered p t k → own_edge p k < edge_count g
  edge_exists k by =
      let eq : ℕ → ℕ → Bool = λ piece e. to g e == piece in
      let all = range_with_len 0 (edge_count g) in
      let any : list_any (eq (own_piece p k)) all ≡ true = list_any_member (eq (own_piece p k)) all by.edge (Member-range 0 (edge_count g) by.edge (omega arith) (let less = by.live.edge in omega (arith, less))) (eq-eqb (to g by.edge) (own_piece p k) by.ends) in
      let within = (found eq 0 (own_piece p k) all any).within in
      let size = length-range_with_len 0 (edge_count g) in
      omega (arith, within, size)

  words_same : (k : ℕ) → IsEntered p t k → words_on c t (own_edge p k) ≡ words_on c u (own_edge p k)
  words_same k by = fun_ext (λ word.
      let most : class_of_word c word < class_count c + 1 = (let at = classes.numbering.most word in omega (arith, at)) in
      ap one_of (alike.value (class_of_word c word) (own_edge p k) most (edge_exists k by)))

  kept_entered : (k : ℕ) (kind : ExecKind) → IsKeptKind p t k kind → Unless kind (IsEntered p t k)
  kept_entered k (Assign target value next) kept = kept
  kept_entered k (Print items next) kept = kept
  kept_entered k (Pass next) kept = kept
  kept_entered k (Test cond if_true if_false) kept = kept
  kept_entered k (Sign value below at above) kept = kept
  kept_entered k (Pick value targets other) kept = kept
  kept_entered k (DoStart loop_no var first last step body exit) kept = kept
  kept_entered k (DoNext loop_no var body exit) kept = tt
  kept_entered k End kept = tt

  item_entered : (k : ℕ) → is_item k ≡ true → Unless (kind_at p k) (IsEntered p t k)
  item_entered k is =
      let item = items k is in
      subst (λ kind. Unless kind (IsEntered p t k)) (sym (ap kind_in item.found)) (kept_entered k item.exec.kind item.kept)

  item_decided : (k : ℕ) → is_item k ≡ true → Unless (kind_at p k) (decided p t k ≡ decided p u k)
  item_decided k is = unless (IsEntered p t k) (decided p t k ≡ decided p u k) (decided_same k) (kind_at p k) (item_entered k is)

  item_told : (k : ℕ) → is_item k ≡ true → Unless (kind_at p k) (TellSame (words_at p c t checked is_item k) (words_at p c u checked is_item k) (decided p t k) (decided p u k))
  item_told k is = unless (IsEntered p t k) (TellSame (words_at p c t checked is_item k) (words_at p c u checked is_item k) (decided p t k) (decided p u k)) (λ by. record { words = words_same k by; decided = decided_same k by }) (kind_at p k) (item_entered k is)

  -- ---- jumps and marks

  last_same : (k : ℕ) → is_item k ≡ true → last_jump is_item k (rest (kind_at p k) (decided p t k)) ≡ last_jump is_item k (rest (kind_at p k) (decided p u k))
  last_same k is = ap (last_jump is_item k) (rest_same (kind_at p k) (decided p t k) (decided p u k) (item_decided k is))

  jumps_same : (k : ℕ) → is_item k ≡ true → jumps p t is_item k ≡ jumps p u is_item k
  jumps_same k is =
      ap (λ (xs : List ℕ). xs ++ last_jump is_item k (rest (kind_at p k) (decided p t k))) (own_same (kind_at p k) (decided p t k) (decided p u k) (item_decided k is))
      ∙ ap (λ (xs : List ℕ). own_jumps (kind_at p k) (decided p u k) ++ xs) (last_same k is)

  jumped_same : (k : ℕ) → is_jumped_to p t is_item k ≡ is_jumped_to p u is_item k
  jumped_same k = ap (λ (f : ℕ → Bool). list_any f (range_with_len 0 (length p.execs)))
      (fun_ext (λ j. and_same (is_item j) (list_any (λ s. s == k) (jumps p t is_item j)) (list_any (λ s. s == k) (jumps p u is_item j)) (λ is. ap (list_any (λ s. s == k)) (jumps_same j is))))

  mark_same : has_mark p t is_item ≡ has_mark p u is_item
  mark_same = fun_ext (λ k. ap (λ b. is_item k && (is_increment (kind_at p k) || b)) (jumped_same k))

  marks_same : mark p c t checked is_item ≡ mark p c u checked is_item
  marks_same = fun_ext (λ k. ap (λ (f : ℕ → Bool). count_by f (range_with_len 0 (k + 1))) mark_same)

  -- ---- statements

  abbrev joined : Bool → List Flat → (ℕ → ℕ) → List ℕ → List Flat
  joined b own m targets = (if b then Mark ∷ [] else []) ++ own ++ map (λ s. Jump (m s)) targets

  abbrev own_of : Knowns → (ℕ → ℕ) → ℕ → List Flat
  own_of x m k = left_of p checked (words_at p c x checked is_item k) m (kind_at p k) (decided p x k)

  abbrev last_of : Knowns → ℕ → List ℕ
  last_of x k = last_jump is_item k (rest (kind_at p k) (decided p x k))

  statements_same : (k : ℕ) → is_item k ≡ true → statements p c t checked is_item k ≡ statements p c u checked is_item k
  statements_same k is =
      let m = mark p c t checked is_item in
      let n = mark p c u checked is_item in
      ap (λ (f : ℕ → Bool). joined (f k) (own_of t m k) m (last_of t k)) mark_same
      ∙ ap (λ (x : ℕ → ℕ). joined (has_mark p u is_item k) (own_of t x k) x (last_of t k)) marks_same
      ∙ ap (λ (xs : List Flat). joined (has_mark p u is_item k) xs n (last_of t k)) (left_same p checked n (kind_at p k) (words_at p c t checked is_item k) (words_at p c u checked is_item k) (decided p t k) (decided p u k) (item_told k is))
      ∙ ap (λ (xs : List ℕ). joined (has_mark p u is_item k) (own_of u n k) n xs) (last_same k is)

  lines_same : (k : ℕ) → lines p c t checked is_item k ≡ lines p c u checked is_item k
  lines_same k =
      let at : List Flat → List FlatLine = map (λ stmt. record { line = line_in (slice_get p.execs k); stmt = stmt }) in
      if_same (is_item k) (at (statements p c t checked is_item k)) (at (statements p c u checked is_item k)) [] (λ is. ap at (statements_same k is))

  pub flat_same : flat p c t checked is_item ≡ flat p c u checked is_item
  flat_same = ap (λ (f : ℕ → List FlatLine). flat_map f (range_with_len 0 (length p.execs))) (fun_ext lines_same)
