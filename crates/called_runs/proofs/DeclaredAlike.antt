-- In copies names are declared as what they stand for.
use Rattle.std.proofs.Common.{◌≡◌, ℕ, zero, suc, ◌+◌, Bool, true, false, not, cond, List, [], ◌∷◌, map, filter, Option, Some, None, option_map, if◌then◌else◌, ⊎_elim, refl, sym, ap, subst, ◌∙◌, arith}
use Rattle.std.specs.Prelude.{bytes_eq}
use Rattle.std.specs.List.{list_any, position_or_len, slice_get}
use Rattle.std.specs.Ordering.{int_eq}
use Rattle.std.proofs.lemmas.Bool.{and_parts, cases_Bool}
use Rattle.std.proofs.lemmas.Bool.Decides.{Decides-int_eq}
use Rattle.std.proofs.lemmas.Option.{slice_get-map}
use Rattle.std.proofs.lemmas.Slice.Eq.{bytes_eq-Decides}
use Rattle.f77_tree.specs.declared.declarations.CommonPart.{CommonPart}
use Rattle.f77_tree.specs.declared.declarations.Dim.{Dim}
use Rattle.f77_tree.specs.declared.declarations.Kind.{Kind}
use Rattle.f77_tree.specs.declared.statements.Labelled.{Labelled}
use Rattle.layout_rules.specs.Declarations.{all_commons, dims_of, kind_of}
use Rattle.layout_rules.specs.Faults.{answer_or, first_answer, first_line}
use Rattle.program_units.specs.declared.sub_end.SubEnd.TheVariants.{BadBlock, BadCall}
use Rattle.program_units.specs.Contexts.{IsReached, called, main}
use Rattle.program_units.specs.Copies.{Context}
use Rattle.called_runs.specs.DeclaredNames.{AreDeclaredAlike, IsDeclaredAs}
use Rattle.program_units.specs.declared.entity.Entity.{Entity}
use Rattle.program_units.specs.declared.entity.Entity.TheVariants.{InBlock}
use Rattle.program_units.specs.Entities.{block_list, entity_at, entity_of, entity_or, found_in, stands_for}
use Rattle.program_units.specs.Expansion.{declared_in}
use Rattle.program_units.specs.Names.{has_block}
use Rattle.program_units.specs.Refusals.{are_alike, are_same_dims, bad_block, calls_wrongly, end_at, first_unit, first_with, has_bad_call, has_wrong_dummy, is_alike, is_mismatched_part, is_same_dim, is_same_kind, unit_below, unit_refusal, unit_refusals}
use Rattle.program_units.specs.Units.{Call, call_in, dummies_of, unit_at, unit_of, unit_or_none, units}
use Rattle.unit_laws.proofs.AcceptedTables.{not-not, or-parts}
use Rattle.unit_laws.proofs.NoAnswer.{each-none, no-end, no-line, none-at}
use Rattle.unit_laws.proofs.StoredOwn.{all-right}
use Rattle.copied_values.proofs.ChangedValues.{kinds-same}
use Rattle.unit_laws.proofs.MainNames.{Tells, found-at, in-first, later, named}

-- ---- names that are alike

kinds-alike : (a b : Option Kind) → is_same_kind a b ≡ true → a ≡ b
kinds-alike None b is = let e : false ≡ true = is in absurd cc
kinds-alike (Some kind) b is = sym (kinds-same kind b is)

dims-alike : (as_here as_there : List Dim) → are_same_dims as_here as_there ≡ true → as_here ≡ as_there
dims-alike [] [] is = refl
dims-alike [] (b ∷ bs) is = let e : false ≡ true = is in absurd cc
dims-alike (a ∷ as_here) [] is = let e : false ≡ true = is in absurd cc
dims-alike (a ∷ as_here) (b ∷ bs) is =
    let both = and_parts (is_same_dim a b) (are_same_dims as_here bs) is in
    let ends = and_parts (int_eq a.lo b.lo) (int_eq a.hi b.hi) both.0 in
    let low = (Decides-int_eq a.lo b.lo).0 ends.0 in
    let high = (Decides-int_eq a.hi b.hi).0 ends.1 in
    let same : a ≡ b = ap (λ z. record a { lo = z }) low ∙ ap (λ z. record b { hi = z }) high in
    ap (λ (d : Dim). d ∷ as_here) same ∙ ap (λ (ds : List Dim). b ∷ ds) (dims-alike as_here bs both.1)

alike-are : (u v : List Labelled) (x y : List ℕ) → is_alike u v x y ≡ true → AreDeclaredAlike u v x y
alike-are u v x y is =
    let both = and_parts (is_same_kind (kind_of u x) (kind_of v y)) (are_same_dims (dims_of u x) (dims_of v y)) is in
    record { kinds = kinds-alike (kind_of u x) (kind_of v y) both.0; dims = dims-alike (dims_of u x) (dims_of v y) both.1 }

-- what stands beside a name
pub record Beside (u v : List Labelled) (ys : List (List ℕ)) (i : ℕ) (x : List ℕ) : Type 0 where
  pub name : List ℕ
  pub there : slice_get ys i ≡ Some name
  pub alike : AreDeclaredAlike u v x name

pub beside : (u v : List Labelled) (xs ys : List (List ℕ)) (i : ℕ) (x : List ℕ) → are_alike u v xs ys ≡ true → slice_get xs i ≡ Some x → Beside u v ys i x
beside u v [] ys i x are there = let e : None ≡ Some x = there in absurd cc
beside u v (z ∷ xs) [] i x are there = let e : false ≡ true = are in absurd cc
beside u v (z ∷ xs) (y ∷ ys) zero x are there =
    let e : Some z ≡ Some x = there in
    let same : z ≡ x = cc in
    let both = and_parts (is_alike u v z y) (are_alike u v xs ys) are in
    record { name = y; there = refl; alike = subst (λ (n : List ℕ). AreDeclaredAlike u v n y) same (alike-are u v z y both.0) }
beside u v (z ∷ xs) (y ∷ ys) (suc i) x are there =
    let more = beside u v xs ys i x (and_parts (is_alike u v z y) (are_alike u v xs ys) are).1 there in
    record { name = more.name; there = more.there; alike = more.alike }

-- ---- names of blocks

module _ (us : List (List Labelled)) where
  first-declares : (block : Option (List ℕ)) (place : ℕ) (name : List ℕ) → slice_get (block_list (first_with us block) block) place ≡ Some name → declared_in us (InBlock block place) ≡ (first_with us block, name)
  first-declares block place name there = by (filter (λ u. has_block u block) us) refl
    where
      by : (found : List (List Labelled)) → filter (λ u. has_block u block) us ≡ found → declared_in us (InBlock block place) ≡ (first_with us block, name)
      by [] is =
          let none : slice_get (block_list (first_with us block) block) place ≡ None = ap (λ (vs : List (List Labelled)). slice_get (block_list (first_unit vs) block) place) is in
          let e : None ≡ Some name = sym none ∙ there in
          absurd cc
      by (u ∷ rest) is =
          let first : slice_get (block_list u block) place ≡ Some name = sym (ap (λ (vs : List (List Labelled)). slice_get (block_list (first_unit vs) block) place) is) ∙ there in
          rw (is, first) refl

  module _ (k : ℕ) (x : List ℕ) where
    abbrev unit : List Labelled
    unit = unit_at us k

    in-block : (part : CommonPart) → is_mismatched_part us unit part ≡ false → Tells (all_commons unit) x part.block → IsDeclaredAs us unit x (InBlock part.block (position_or_len (bytes_eq x) (block_list unit part.block)))
    in-block part even told =
        let place = position_or_len (bytes_eq x) (block_list unit part.block) in
        let first = first_with us part.block in
        let other = beside unit first (block_list unit part.block) (block_list first part.block) place x
        (not-not (are_alike unit first (block_list unit part.block) (block_list first part.block)) even) (found-at x (block_list unit part.block) told.among)
        in
        subst (λ (d : List Labelled × List ℕ). AreDeclaredAlike unit d.0 x d.1) (sym (first-declares part.block place other.name other.there)) other.alike

    by-parts : (parts : List CommonPart) → list_any (is_mismatched_part us unit) parts ≡ false → ((block : Option (List ℕ)) → Tells parts x block → Tells (all_commons unit) x block) → IsDeclaredAs us unit x (entity_or k x (first_answer (found_in unit x) parts))
    by-parts [] even whole = record { kinds = refl; dims = refl }
    by-parts (part ∷ parts) even whole =
        let both = or-parts (is_mismatched_part us unit part) (list_any (is_mismatched_part us unit) parts) even in
        let place = position_or_len (bytes_eq x) (block_list unit part.block) in
        let told : Bool → Entity = λ b. entity_or k x (answer_or (if b then Some (InBlock part.block place) else None) (first_answer (found_in unit x) parts)) in
        ⊎_elim
        (λ (is : list_any (named x) part.decls ≡ true). subst (IsDeclaredAs us unit x) (sym (ap told is)) (in-block part both.0 (whole part.block (in-first x part parts is))))
        (λ (is : list_any (named x) part.decls ≡ false). subst (IsDeclaredAs us unit x) (sym (ap told is)) (by-parts parts both.1 (λ block more. whole block (later x part parts block more))))
        (cases_Bool (list_any (named x) part.decls))

    pub own-declared : list_any (is_mismatched_part us unit) (all_commons unit) ≡ false → IsDeclaredAs us unit x (entity_of us k x)
    own-declared even = by-parts (all_commons unit) even (λ block told. told)

-- ---- an accepted text

module _ (stmts : List Labelled) (checked : Bool) (accepted : unit_refusal stmts checked ≡ None) where
  abbrev all : List (List Labelled)
  all = units stmts

  calls-none : first_line (has_bad_call all) stmts ≡ None
  calls-none = no-end BadCall (first_line (has_bad_call all) stmts) (none-at (unit_refusals stmts all checked) 4 (end_at BadCall (first_line (has_bad_call all) stmts)) accepted refl)

  pub calls-right : (k place : ℕ) (s : Labelled) → slice_get (unit_at all k) place ≡ Some s → calls_wrongly all k (call_in s.stmt) ≡ false
  calls-right k place s there =
      let sum : 0 + k ≡ k = omega arith in
      subst (λ (n : ℕ). calls_wrongly all n (call_in s.stmt) ≡ false) sum
      (all-right (λ n t. calls_wrongly all n (call_in t.stmt)) (has_bad_call all) (λ above t right. (or-parts (calls_wrongly all (unit_below above) (call_in t.stmt)) (has_wrong_dummy (unit_at all (unit_below above)) t.stmt) right).0) [] stmts calls-none k place s there)

  pub dummies-right : (k place : ℕ) (s : Labelled) → slice_get (unit_at all k) place ≡ Some s → has_wrong_dummy (unit_at all k) s.stmt ≡ false
  dummies-right k place s there =
      let sum : 0 + k ≡ k = omega arith in
      subst (λ (n : ℕ). has_wrong_dummy (unit_at all n) s.stmt ≡ false) sum
      (all-right (λ n t. has_wrong_dummy (unit_at all n) t.stmt) (has_bad_call all) (λ above t right. (or-parts (calls_wrongly all (unit_below above) (call_in t.stmt)) (has_wrong_dummy (unit_at all (unit_below above)) t.stmt) right).1) [] stmts calls-none k place s there)

  pub blocks-even : (k : ℕ) → list_any (is_mismatched_part all (unit_at all k)) (all_commons (unit_at all k)) ≡ false
  blocks-even k = by (slice_get all k) refl
    where
      none : first_answer (bad_block all) all ≡ None
      none = no-end BadBlock (first_answer (bad_block all) all) (none-at (unit_refusals stmts all checked) 5 (end_at BadBlock (first_answer (bad_block all) all)) accepted refl)

      by : (o : Option (List Labelled)) → slice_get all k ≡ o → list_any (is_mismatched_part all (unit_or_none o)) (all_commons (unit_or_none o)) ≡ false
      by None is = refl
      by (Some u) is = no-line (list_any (is_mismatched_part all u) (all_commons u)) u (each-none (bad_block all) all none k u is)

  position-passes : (p : List ℕ → Bool) (xs : List (List ℕ)) (x : List ℕ) → slice_get xs (position_or_len p xs) ≡ Some x → p x ≡ true
  position-passes p [] x there = let e : None ≡ Some x = there in absurd cc
  position-passes p (y ∷ ys) x there = by (p y) refl there (position-passes p ys x)
    where
      by : (b : Bool) → p y ≡ b → slice_get (y ∷ ys) (cond (not b) (1 + position_or_len p ys) 0) ≡ Some x → (slice_get ys (position_or_len p ys) ≡ Some x → p x ≡ true) → p x ≡ true
      by true is at more =
          let e : Some y ≡ Some x = at in
          let same : y ≡ x = cc in
          ap p (sym same) ∙ is
      by false is at more =
          let next : 1 + position_or_len p ys ≡ suc (position_or_len p ys) = omega arith in
          more (sym (ap (slice_get (y ∷ ys)) next) ∙ at)

  -- what the names of a unit stand for was declared as they are
  abbrev AreDeclared : (k : ℕ) → List Entity → Type 0
  AreDeclared k arguments = (x : List ℕ) → IsDeclaredAs all (unit_at all k) x (stands_for all k arguments x)

  module _ (k : ℕ) (arguments : List Entity) (declared : AreDeclared k arguments) (call : Call) (right : calls_wrongly all k (Some call) ≡ false) (x : List ℕ) where
    abbrev callee : List Labelled
    callee = unit_at all (unit_of all call.name)

    abbrev place : ℕ
    place = position_or_len (bytes_eq x) (dummies_of callee)

    by-argument : (o : Option (List ℕ)) → slice_get call.arguments place ≡ o → IsDeclaredAs all callee x (entity_at (entity_of all (unit_of all call.name) x) (option_map (stands_for all k arguments) o))
    by-argument None is = own-declared all (unit_of all call.name) x (blocks-even (unit_of all call.name))
    by-argument (Some a) is =
        let dummy = beside (unit_at all k) callee call.arguments (dummies_of callee) place a (not-not (are_alike (unit_at all k) callee call.arguments (dummies_of callee)) right) is in
        let same : x ≡ dummy.name = (bytes_eq-Decides x dummy.name).0 (position-passes (bytes_eq x) (dummies_of callee) dummy.name dummy.there) in
        let outer = declared a in
        record {
          kinds = ap (kind_of callee) same ∙ sym dummy.alike.kinds ∙ outer.kinds;
          dims = ap (dims_of callee) same ∙ sym dummy.alike.dims ∙ outer.dims;
        }

    passed : IsDeclaredAs all callee x (stands_for all (unit_of all call.name) (map (stands_for all k arguments) call.arguments) x)
    passed =
        subst (λ (o : Option Entity). IsDeclaredAs all callee x (entity_at (entity_of all (unit_of all call.name) x) o)) (sym (slice_get-map (stands_for all k arguments) call.arguments place)) (by-argument (slice_get call.arguments place) refl)

  pub reached-declared : (c : Context) (at : ℕ → ℕ) → IsReached all c at → AreDeclared c.unit c.arguments
  reached-declared _ _ main = λ x. own-declared all 0 x (blocks-even 0)
  reached-declared _ _ (called {c} {at} place s call reached is calls) =
      λ x. passed c.unit c.arguments (reached-declared c at reached) call (sym (ap (calls_wrongly all c.unit) calls) ∙ calls-right c.unit place s is) x
