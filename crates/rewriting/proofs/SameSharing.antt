-- Tables of available expressions that tell the same share the same candidates, and put the same assignments in front of statements.
use Rattle.std.proofs.Common.{◌≡◌, ℕ, ◌<◌, ◌≤◌, ◌==◌, Bool, true, cond, List, [], ◌∷◌, length, filter, Option, Some, None, refl, sym, ap, subst, ◌∙◌, inl, inr, ⊎_elim, arith}
use Rattle.std.specs.Prelude.{not, ◌&&◌, fold, option_to_list, slice_get}
use Rattle.std.specs.List.{list_any, range_with_len}
use mathlib.Core.Path.{fun_ext}
use Rattle.std.proofs.lemmas.Bool.{cases_lt, eqb-true}
use Rattle.std.proofs.lemmas.Option.{slice_get_past, slice_get_within}
use Rattle.list_laws.specs.Member.{Member}
use Rattle.list_laws.proofs.Members.{member_of_list_any, Member-flat_mapped}
use Rattle.f77_tree.specs.declared.expressions.Expr.{Expr}
use Rattle.f77_tree.specs.declared.programs.Program.{Program}
use Rattle.cfg_build.specs.Flow.{flow, piece_at, piece_in}
use Rattle.redundancy.specs.Available.{Availability, AreSameAvailability}
use Rattle.redundancy.specs.Computed.{computed_by}
use Rattle.simplified_forms.specs.Items.{own_piece}
use Rattle.shared_forms.specs.Shared.{computed, due, is_available, is_one_of, is_shared, once, AreNumbers}
use Rattle.rewriting.proofs.SameStatements.{and_same}

-- ---- numbers

same_told : (o u : Option ℕ) → ((k : ℕ) → o ≡ Some k → u ≡ Some k) → ((k : ℕ) → u ≡ Some k → o ≡ Some k) → o ≡ u
same_told None None there back = refl
same_told None (Some k) there back = back k refl
same_told (Some k) u there back = sym (there k refl)

pub same_numbers : (a b : Availability) (number other : Expr → Option ℕ) → a.candidates ≡ b.candidates → AreNumbers a number → AreNumbers b other → number ≡ other
same_numbers a b number other same are too = fun_ext (λ e. same_told (number e) (other e)
    (λ k is. (too e k).1 (sym (ap (λ (es : List Expr). slice_get es k) same) ∙ (are e k).0 is))
    (λ k is. (are e k).1 (ap (λ (es : List Expr). slice_get es k) same ∙ (too e k).0 is)))

-- ---- what is computed

told_one : (o : Option ℕ) (n : ℕ) → Member (option_to_list o) n → o ≡ Some n
told_one None n m = absurd m
told_one (Some k) n (inl same) = ap Some same
told_one (Some k) n (inr m) = absurd m

filter_same : (f h : ℕ → Bool) (xs : List ℕ) → ((x : ℕ) → Member xs x → f x ≡ h x) → filter f xs ≡ filter h xs
filter_same f h [] same = refl
filter_same f h (x ∷ xs) same =
    ap (λ b. cond b (x ∷ filter f xs) (filter f xs)) (same x (inl refl))
    ∙ ap (λ (ys : List ℕ). cond (h x) (x ∷ ys) ys) (filter_same f h xs (λ y m. same y (inr m)))

module _ (q : Program) (a b : Availability) (number : Expr → Option ℕ) (count : length (flow q.execs).pieces ≡ (flow q.execs).graph.nodes) (numbers : AreNumbers a number) (alike : AreSameAvailability (flow q.execs) a b) where
  -- an executable computes the candidate, so that there are both
  record IsComputedAt (k n : ℕ) : Type 0 where
    within : n < length a.candidates
    piece : own_piece q k < (flow q.execs).graph.nodes

  no_piece : (k : ℕ) (e : Expr) → length (flow q.execs).pieces ≤ own_piece q k → Member (computed_by q.execs (piece_at (flow q.execs).pieces (own_piece q k))) e → ⊥
  no_piece k e past m =
      let none = slice_get_past (flow q.execs).pieces (own_piece q k) past in
      let no : Member (computed_by q.execs (piece_in None)) e = subst (λ piece. Member (computed_by q.execs (piece_in piece)) e) none m in
      no

  computed_at : (k n : ℕ) → Member (computed q a number k) n → IsComputedAt k n
  computed_at k n m =
      let from = Member-flat_mapped (λ e. option_to_list (number e)) (computed_by q.execs (piece_at (flow q.execs).pieces (own_piece q k))) n m in
      let e = from.origin in
      let is : number e ≡ Some n = told_one (number e) n from.has in
      record {
        within = slice_get_within a.candidates n e ((numbers e n).0 is);
        piece = ⊎_elim
            (λ (less : own_piece q k < length (flow q.execs).pieces). omega (arith, less, count))
            (λ (past : length (flow q.execs).pieces ≤ own_piece q k). absurd (no_piece k e past from.among))
            (cases_lt (own_piece q k) (length (flow q.execs).pieces));
      }

  available_same : (k n : ℕ) → Member (computed q a number k) n → is_available q a number k n ≡ is_available q b number k n
  available_same k n m = let at = computed_at k n m in alike.available n (own_piece q k) at.within at.piece

  is_member : (xs : List ℕ) (n : ℕ) → is_one_of xs n ≡ true → Member xs n
  is_member xs n any = let one = member_of_list_any (λ m. m == n) xs any in subst (Member xs) (eqb-true one.one n one.passes) one.among

  -- ---- what is shared, and what is due

  pub shared_same : is_shared q a number ≡ is_shared q b number
  shared_same = fun_ext (λ n. ap (λ (f : ℕ → Bool). list_any f (range_with_len 0 (length q.execs)))
      (fun_ext (λ k. and_same (is_one_of (computed q a number k) n) (is_available q a number k n) (is_available q b number k n) (λ any. available_same k n (is_member (computed q a number k) n any)))))

  pub due_same : due q a number ≡ due q b number
  due_same = fun_ext (λ k. ap (λ (ns : List ℕ). fold (once q b number) [] ns)
      (ap (λ (f : ℕ → Bool). filter (λ n. f n && not (is_available q a number k n)) (computed q a number k)) shared_same
      ∙ filter_same (λ n. is_shared q b number n && not (is_available q a number k n)) (λ n. is_shared q b number n && not (is_available q b number k n)) (computed q a number k)
      (λ n m. ap (λ x. is_shared q b number n && not x) (available_same k n m))))
