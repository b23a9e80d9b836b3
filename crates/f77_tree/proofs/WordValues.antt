-- The store and the steps of a run hold words, and values are words.
use Rattle.std.proofs.Common.{◌≡◌, ℕ, ◌+◌, ℤ, pos, negsuc, ◌+ℤ◌, ◌≤ℤ◌, Bool, true, false, List, [], ◌∷◌, length, replicate, flat_map, All, Option, Some, None, Result, Ok, Err, slice_get, zip, find, ◌==◌, ◌⊎◌, inl, inr, refl, sym, ap, subst, ◌∙◌, w32, arith}
use Rattle.std.proofs.lemmas.Int.{ints, SFits-int_wrap}
use Rattle.std.proofs.lemmas.List.Elements.{All-append, All-replicate, All-set}
use Rattle.std.proofs.lemmas.Option.{get_or_from_slice_get}
use Rattle.op_table.specs.declared.Op.{Op}
use Rattle.op_table.specs.declared.Op.TheVariants.{Truth as Truth_of}
use Rattle.op_table.specs.declared.Trap.{Trap}
use Rattle.op_table.specs.Words.{IsWord, truth, wrapped}
use Rattle.op_table.specs.Operators.{applied}
use Rattle.op_table.proofs.Laws.{applied-word}
use Rattle.f77_tree.specs.declared.declarations.InitPart.{InitPart}
use Rattle.f77_tree.specs.declared.declarations.InitValue.{InitValue}
use Rattle.f77_tree.specs.declared.declarations.Kind.{Kind}
use Rattle.f77_tree.specs.declared.declarations.Kind.TheVariants.{Integer, Logical}
use Rattle.f77_tree.specs.declared.declarations.Lit.{Lit}
use Rattle.f77_tree.specs.declared.declarations.Lit.TheVariants.{Int, Truth as TruthLit}
use Rattle.f77_tree.specs.declared.expressions.Access.{Access}
use Rattle.f77_tree.specs.declared.expressions.Expr.{Expr, Const, Truth as IsTruth, Input, Read', Apply'}
use Rattle.f77_tree.specs.declared.programs.Exec.{Exec}
use Rattle.f77_tree.specs.declared.programs.ExecKind.{ExecKind}
use Rattle.f77_tree.specs.declared.programs.ExecKind.TheVariants.{Assign, Print, Pass, Test, Sign, Pick, DoStart, DoNext, End}
use Rattle.f77_tree.specs.declared.programs.NameInfo.{NameInfo}
use Rattle.f77_tree.specs.declared.programs.Program.{Program}
use Rattle.f77_tree.specs.Execution.{Memory, outcome, words_taken, by_sign, by_number}
use Rattle.f77_tree.specs.InitialWords.{IsLit, lit_word, IsInitValue, IsInitPart, constants, given_constants, given_words, given, word_of_pair, initial_word}
use Rattle.f77_tree.specs.Kinds.{IsProper, IsOfKind, IsAssignment, taken_as}
use Rattle.f77_tree.specs.Line.{line_of}
use Rattle.f77_tree.specs.Run.{source}
use Rattle.f77_tree.specs.Steps.{IfGoes, HoldsWords}
use Rattle.f77_tree.specs.Value.{value, row_values, all_values, and_then, place, place_of, read_of, read_as, kind_of, word_of, word_at}
use Rattle.f77_tree.specs.WellFormed.{IsWellFormed, IsExecutable}
use Rattle.f77_tree.proofs.AllLemmas.{All-nil, All-first, All-rest, All-get}
use Rattle.f77_tree.proofs.Outcomes.{assigned-goes, printed-goes, branched-goes, begun-goes}
use Rattle.f77_tree.proofs.RunInvariants.{source-keeps}
use Rattle.f77_tree.proofs.Safety.{truth-word, read-word, zero-word, word_at-word}

-- ---- values

-- what is read is a word
read-is_word : (names : List NameInfo) (store : List ℤ) (name : ℕ) (at : Result ℕ Trap) (z : ℤ) → All IsWord store → read_of names store name at ≡ Ok z → IsWord z
read-is_word names store name (Err trap) z words e = let no : Err trap ≡ Ok z = e in absurd cc
read-is_word names store name (Ok word) z words e =
    let is : read_as (kind_of names name) (word_at store word) ≡ z = cc in
    subst IsWord is (read-word (kind_of names name) (word_at store word) (word_at-word store word words))

-- an operator's value is a word
operator-is_word : (op : Op) (args : Result (List ℤ) Trap) (z : ℤ) → and_then (applied op) args ≡ Ok z → IsWord z
operator-is_word op (Err trap) z e = let no : Err trap ≡ Ok z = e in absurd cc
operator-is_word op (Ok args) z e = applied-word op args z e

module _ (names : List NameInfo) (store : List ℤ) (next : Option ℤ) (words : All IsWord store) where
  -- the value of an expression of the program over a store of words is a word
  pub value-is_word : (e : Expr) (z : ℤ) → IsProper names e → value names store next e ≡ Ok z → IsWord z
  value-is_word (Const c) z proper e =
      let is : c ≡ z = cc in
      let least : pos 0 ≤ℤ c = proper.least in
      let most : c ≤ℤ pos 2147483647 = proper.most in
      let word : IsWord c = omega (arith, ints, least, most) in
      subst IsWord is word
  value-is_word (IsTruth b) z proper e = let is : truth b ≡ z = cc in subst IsWord is (truth-word b)
  value-is_word Input z proper e = absurd proper
  value-is_word (Read' name shape subs) z proper e = read-is_word names store name (word_of names name (row_values names store next subs)) z words e
  value-is_word (Apply' op shape args) z proper e = operator-is_word op (all_values (row_values names store next args)) z e

  -- the value that READ assigns is a word where the next word of the data is one
  taken-is_word : (kind : Kind) (z : ℤ) → ((d : ℤ) → next ≡ Some d → IsWord d) → value names store next (taken_as kind) ≡ Ok z → IsWord z
  taken-is_word Integer z fed e = by next refl e
    where
      by : (o : Option ℤ) → next ≡ o → value names store o Input ≡ Ok z → IsWord z
      by None f h = let no : value names store None Input ≡ Ok z = h in absurd cc
      by (Some d) f h = let is : d ≡ z = cc in subst IsWord is (fed d f)
  taken-is_word Logical z fed e = operator-is_word Truth_of _ z e

  assigned-is_word : (target : Access) (e : Expr) (z : ℤ) → ((d : ℤ) → next ≡ Some d → IsWord d) → IsAssignment names target e → value names store next e ≡ Ok z → IsWord z
  assigned-is_word target e z fed is given = by is.of_kind
    where
      by : IsOfKind names (kind_of names target.name) e ⊎ (e ≡ taken_as (kind_of names target.name)) → IsWord z
      by (inl of_kind) = value-is_word e z of_kind.proper given
      by (inr taken) = taken-is_word (kind_of names target.name) z fed (ap (value names store next) (sym taken) ∙ given)

-- ---- executables

wrapped-word : (z : ℤ) → IsWord (wrapped z)
wrapped-word z = SFits-int_wrap w32 z

data-word : (input : List ℤ) (taken : ℕ) → All IsWord input → (d : ℤ) → slice_get input taken ≡ Some d → IsWord d
data-word input taken words d at = All-get IsWord input taken d words at

-- an executable of the program leaves words in the store and the steps
pub goes-words : (names : List NameInfo) (input : List ℤ) (m : Memory) (kind : ExecKind) → All IsWord input → IsExecutable names kind → HoldsWords m → IfGoes (outcome names input m kind) (λ next new text. HoldsWords new)
goes-words names input m (Assign target e next) fed is words =
    let word = slice_get input m.taken in
    assigned-goes (λ to new text. HoldsWords new) m next (m.taken + words_taken e) (place names m.store word target) (value names m.store word e)
    (λ k z at given. record {
      store = All-set IsWord m.store k z (assigned-is_word names m.store word words.store target e z (data-word input m.taken fed) is given) words.store;
      steps = words.steps;
    })
goes-words names input m (Print items next) fed is words = printed-goes (λ to new text. HoldsWords new) m next (line_of names m.store items) (λ text line. words)
goes-words names input m (Pass next) fed is words = words
goes-words names input m (Test cond if_true if_false) fed is words = branched-goes (λ to new text. HoldsWords new) m _ (value names m.store None cond) (λ z given. words)
goes-words names input m (Sign e neg equal pos') fed is words = branched-goes (λ to new text. HoldsWords new) m (by_sign neg equal pos') (value names m.store None e) (λ z given. words)
goes-words names input m (Pick e targets other) fed is words = branched-goes (λ to new text. HoldsWords new) m (by_number targets other (pos (length targets))) (value names m.store None e) (λ z given. words)
goes-words names input m (DoStart loop_no var first last step body exit) fed is words =
    begun-goes (λ to new text. HoldsWords new) m loop_no (place_of names var) body exit (value names m.store None first) (value names m.store None last) (value names m.store None step)
    (λ a b c is_a is_b is_c some. record {
      store = All-set IsWord m.store (place_of names var) a (value-is_word names m.store None words.store first a (is.integers 0 first (omega arith)).proper is_a) words.store;
      steps = All-set IsWord m.steps loop_no c (value-is_word names m.store None words.store step c (is.integers 2 first (omega arith)).proper is_c) words.steps;
    })
goes-words names input m (DoNext loop_no var body exit) fed is words = record {
  store = All-set IsWord m.store (place_of names var) _ (wrapped-word (word_at m.store (place_of names var) +ℤ word_at m.steps loop_no)) words.store;
  steps = words.steps;
}
goes-words names input m End fed is words = tt

-- ---- runs

lit-word : (lit : Lit) → IsLit lit → IsWord (lit_word lit)
lit-word (Int (pos n)) is = omega (arith, ints, is)
lit-word (Int (negsuc n)) is = omega (arith, ints, is)
lit-word (TruthLit b) is = truth-word b

All-flat_map : {X Y : Type 0} (P : X → Type 0) (Q : Y → Type 0) (f : X → List Y) → ((x : X) → P x → All Q (f x)) → (xs : List X) → All P xs → All Q (flat_map f xs)
All-flat_map P Q f each [] all = All-nil Q
All-flat_map P Q f each (x ∷ xs) all = All-append Q (f x) (flat_map f xs) (each x (All-first P x xs all)) (All-flat_map P Q f each xs (All-rest P x xs all))

constants-lits : (names : List NameInfo) (part : InitPart) → IsInitPart names part → All IsLit (constants part)
constants-lits names part is = All-flat_map IsInitValue IsLit (λ (v : InitValue). replicate v.times v.value) (λ v written. All-replicate IsLit v.times v.value written.constant) part.values is.written

found-word : (word : ℕ) (words : List ℕ) (lits : List Lit) → All IsLit lits → IsWord (word_of_pair (find (λ pair. pair.0 == word) (zip words lits)))
found-word word [] lits are = zero-word
found-word word (w ∷ words) [] are = zero-word
found-word word (w ∷ words) (lit ∷ lits) are = by (w == word) refl (found-word word words lits (All-rest IsLit lit lits are))
  where
    by : (b : Bool) → (w == word) ≡ b → IsWord (word_of_pair (find (λ pair. pair.0 == word) (zip words lits))) → IsWord (word_of_pair (find (λ pair. pair.0 == word) (zip (w ∷ words) (lit ∷ lits))))
    by true is more = rw is (lit-word lit (All-first IsLit lit lits are))
    by false is more = rw is more

-- the initial words of a well-formed program are words
pub well_formed-words : (p : Program) → IsWellFormed p → All IsWord p.initial
well_formed-words p is k d lt =
    let lits = All-flat_map (IsInitPart p.names) IsLit constants (constants-lits p.names) p.inits is.declarations.init in
    subst IsWord (sym (get_or_from_slice_get p.initial k (initial_word p.names p.inits k) d (is.initial k lt))) (found-word k (given_words p.names p.inits) (given_constants p.inits) lits)

-- in each state of a run of a well-formed program over data of words, the store and the steps hold words
pub source-words : (p : Program) (input : List ℤ) (n : ℕ) → IsWellFormed p → All IsWord input → HoldsWords (source p input n).memory
source-words p input n is fed =
    source-keeps p input (λ k m. HoldsWords m)
    (λ k exec m at words. goes-words p.names input m exec.kind fed (All-get (λ (e : Exec). IsExecutable p.names e.kind) p.execs k exec is.execs.each at) words)
    (record { store = well_formed-words p is; steps = All-replicate IsWord p.loops (pos 0) zero-word }) n
