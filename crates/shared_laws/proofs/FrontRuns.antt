-- The assignments that are due before a statement: run one after another, they give temporaries the values of their candidates, and
-- leave the rest.
use Rattle.std.proofs.Common.{◌≡◌, ℕ, zero, suc, ◌+◌, ◌<◌, ◌≤◌, ℤ, pos, ◌⊎◌, inl, inr, ⊎_elim, List, [], length, Option, Some, Ok, refl, sym, ap, subst, ◌∙◌, arith, append-nil, length-set}
use Rattle.std.specs.Prelude.{count_by, slice_get, slice_set, unwrap_or}
use Rattle.std.specs.List.{range_with_len}
use Rattle.std.proofs.lemmas.Bool.{cases_eq}
use Rattle.std.proofs.lemmas.Option.{slice_get_within}
use Rattle.f77_tree.specs.declared.programs.Exec.{Exec}
use Rattle.f77_tree.specs.declared.programs.ExecKind.TheVariants.{Assign}
use Rattle.f77_tree.specs.declared.programs.Program.{Program}
use Rattle.f77_tree.specs.Execution.{Memory, Goes, assigned, next_word, outcome, words_taken}
use Rattle.f77_tree.specs.Run.{Running, State, after, source, step}
use Rattle.f77_tree.specs.Value.{place_in, value, word_at}
use Rattle.f77_tree.proofs.Keeping.{get-set_other, get-set_same}
use Rattle.f77_tree.proofs.RunLaws.{step-running}
use Rattle.flat_programs.specs.declared.statements.FlatLine.{FlatLine}
use Rattle.redundancy.specs.Available.{Availability}
use Rattle.shared_forms.specs.Numbered.{name_alone, number_of, IsSharedNumber}
use Rattle.shared_forms.specs.Shared.{candidate, is_shared, shared, shared_program, temporary}
use Rattle.shared_laws.specs.SharedRuns.{temporary_word}
use Rattle.shared_laws.proofs.SharedExecutables.{entry, kept-executable, many}
use Rattle.shared_forms.proofs.SharedLineLemmas.{due-shared}
use Rattle.shared_laws.proofs.SharedStands.{due_at}
use Rattle.shared_laws.proofs.ListPlaces.{item_at}
use Rattle.shared_forms.proofs.ProperCandidates.{all-at}
use Rattle.shared_forms.proofs.TemporaryTable.{entry_of, place-passed}

-- ---- the words of temporaries

module _ (q : Program) (a : Availability) where
  abbrev rank : (n : ℕ) → ℕ
  rank n = count_by (is_shared q a (number_of a)) (range_with_len 0 n)

  pub temporary-word : (n : ℕ) → IsSharedNumber q a n → temporary_word q a (number_of a) n ≡ q.words + rank n
  temporary-word n is = ap place_in (entry_of q a n is)

  ranked : (n : ℕ) → IsSharedNumber q a n → slice_get (shared q a (number_of a)) (rank n) ≡ Some n
  ranked n is = place-passed (is_shared q a (number_of a)) n (length a.candidates) is.within is.shared

  pub word-within : (n : ℕ) → IsSharedNumber q a n → temporary_word q a (number_of a) n < q.words + length (shared q a (number_of a))
  word-within n is = let e = temporary-word n is in let less = slice_get_within (shared q a (number_of a)) (rank n) n (ranked n is) in omega (arith, e, less)

  pub word-past : (n : ℕ) → IsSharedNumber q a n → q.words ≤ temporary_word q a (number_of a) n
  word-past n is = let e = temporary-word n is in omega (arith, e)

  pub words-apart : (m n : ℕ) → IsSharedNumber q a m → IsSharedNumber q a n → temporary_word q a (number_of a) m ≡ temporary_word q a (number_of a) n → m ≡ n
  words-apart m n is also same =
      let e = temporary-word m is in
      let d = temporary-word n also in
      let ranks : rank m ≡ rank n = omega (arith, e, d, same) in
      let both : Some m ≡ Some n = sym (ranked m is) ∙ ap (slice_get (shared q a (number_of a))) ranks ∙ ranked n also in
      cc

-- ---- a word that is stored

pub word-other : (store : List ℤ) (k j : ℕ) (z : ℤ) → (k ≡ j → ⊥) → word_at (slice_set store k z) j ≡ word_at store j
word-other store k j z apart = ap (λ (o : Option ℤ). unwrap_or o (pos 0)) (get-set_other store k j z apart)

pub word-same : (store : List ℤ) (k : ℕ) (z : ℤ) → k < length store → word_at (slice_set store k z) k ≡ z
word-same store k z less = ap (λ (o : Option ℤ). unwrap_or o (pos 0)) (get-set_same store k z less)

-- ---- the run

module _ (q : Program) (a : Availability) (flat : List FlatLine) (input : List ℤ) where
  abbrev pub s : Program
  s = shared_program q a (number_of a) flat

  abbrev tword : (n : ℕ) → ℕ
  tword n = temporary_word q a (number_of a) n

  -- the temporary was right before, or one of the first assignments is to it
  pub record IsGiven (place j : ℕ) (n : ℕ) : Type 0 where
    pub index : ℕ
    pub less : index < j
    pub at : slice_get (due_at q a flat place) index ≡ Some n

  module _ (place : ℕ) (l : FlatLine) (found : slice_get flat place ≡ Some l) (y0 : State) (val : ℕ → ℤ)
      (valued : (n : ℕ) (store : List ℤ) (next : Option ℤ) → IsSharedNumber q a n → ((word : ℕ) → word < q.words → word_at store word ≡ word_at y0.memory.store word) → value s.names store next (candidate q a (number_of a) n) ≡ Ok (val n))
      (dry : (n : ℕ) → IsSharedNumber q a n → words_taken (candidate q a (number_of a) n) ≡ 0) where
    -- after the first assignments
    pub record IsFront (j : ℕ) (y : State) : Type 0 where
      pub position : y.position ≡ entry q a flat place + j
      pub mark : y.mark ≡ Running
      pub out : y.out ≡ y0.out
      pub counts : y.memory.counts ≡ y0.memory.counts
      pub steps : y.memory.steps ≡ y0.memory.steps
      pub taken : y.memory.taken ≡ y0.memory.taken
      pub size : length y.memory.store ≡ s.words
      pub words : (word : ℕ) → word < q.words → word_at y.memory.store word ≡ word_at y0.memory.store word
      pub holds : (n : ℕ) → IsSharedNumber q a n → (word_at y0.memory.store (tword n) ≡ val n) ⊎ IsGiven place j n → word_at y.memory.store (tword n) ≡ val n

    abbrev kept_memory : State → (n : ℕ) → Memory
    kept_memory y n = record { store = slice_set y.memory.store (tword n) (val n); counts = y.memory.counts; steps = y.memory.steps; taken = y.memory.taken + words_taken (candidate q a (number_of a) n) }

    assigns : (y : State) (n next : ℕ) → IsSharedNumber q a n → ((word : ℕ) → word < q.words → word_at y.memory.store word ≡ word_at y0.memory.store word) → outcome s.names input y.memory (Assign (name_alone (temporary q a (number_of a) n)) (candidate q a (number_of a) n) next) ≡ Goes next (kept_memory y n) []
    assigns y n next is words =
        let m = y.memory in
        let e = candidate q a (number_of a) n in
        ap (λ v. assigned m next (m.taken + words_taken e) (Ok (tword n)) v) (valued n m.store (next_word input m) is words)

    front-step : (j n : ℕ) (y : State) → IsFront j y → slice_get (due_at q a flat place) j ≡ Some n → IsFront (j + 1) (step s input y)
    front-step j n y front at =
        let is : IsSharedNumber q a n = all-at (IsSharedNumber q a) (due_at q a flat place) j n (due-shared q a _) at in
        let exec : Exec = record { line = l.line; kind = Assign (name_alone (temporary q a (number_of a) n)) (candidate q a (number_of a) n) (entry q a flat place + (j + 1)) } in
        let there : slice_get s.execs y.position ≡ Some exec = ap (slice_get s.execs) front.position ∙ kept-executable q a flat place j n l found at in
        let next : step s input y ≡ after y l.line (Goes (entry q a flat place + (j + 1)) (kept_memory y n) []) = step-running s input y exec front.mark there ∙ ap (after y l.line) (assigns y n (entry q a flat place + (j + 1)) is front.words) in
        let within = word-within q a n is in
        let past = word-past q a n is in
        let none = dry n is in
        let size = front.size in
        subst (λ (x : State). IsFront (j + 1) x) (sym next)
        (record {
          position = refl;
          mark = front.mark;
          out = append-nil y.out ∙ front.out;
          counts = front.counts;
          steps = front.steps;
          taken = let t = front.taken in omega (arith, t, none);
          size = length-set y.memory.store (tword n) (val n) ∙ front.size;
          words = λ word less. word-other y.memory.store (tword n) word (val n) (λ same. omega (arith, same, past, less)) ∙ front.words word less;
          holds = λ k also given.
              ⊎_elim
              (λ (same : k ≡ n). subst (λ i. word_at (slice_set y.memory.store (tword n) (val n)) (tword i) ≡ val i) (sym same) (word-same y.memory.store (tword n) (val n) (omega (arith, within, size))))
              (λ apart.
              word-other y.memory.store (tword n) (tword k) (val n) (λ same. apart (sym (words-apart q a n k is also same)))
              ∙ front.holds k also (⊎_elim
              (λ (before : word_at y0.memory.store (tword k) ≡ val k). inl before)
              (λ (g : IsGiven place (j + 1) k). inr (record { index = g.index; less = earlier g.index k g.less g.at apart; at = g.at }))
              given))
              (cases_eq k n);
        })
      where
        earlier : (i k : ℕ) → i < j + 1 → slice_get (due_at q a flat place) i ≡ Some k → (k ≡ n → ⊥) → i < j
        earlier i k less there apart =
            ⊎_elim
            (λ (same : i ≡ j). let both : Some k ≡ Some n = sym there ∙ ap (slice_get (due_at q a flat place)) same ∙ at in let e : k ≡ n = cc in absurd (apart e))
            (λ other. omega (arith, less, other))
            (cases_eq i j)

    -- after some steps the first assignments are made
    pub record IsFrontRun (u j : ℕ) : Type 0 where
      pub steps : ℕ
      pub count : steps ≡ u + j
      pub front : IsFront j (source s input steps)

    pub front-run : (u j : ℕ) → source s input u ≡ y0 → y0.position ≡ entry q a flat place → y0.mark ≡ Running → length y0.memory.store ≡ s.words → j ≤ many q a flat place → IsFrontRun u j
    front-run u zero begins position mark size few =
        record {
          steps = u;
          count = omega arith;
          front = subst (λ (y : State). IsFront 0 y) (sym begins) (record {
            position = position ∙ omega arith;
            mark = mark;
            out = refl;
            counts = refl;
            steps = refl;
            taken = refl;
            size = size;
            words = λ word less. refl;
            holds = λ n is given. ⊎_elim (λ (before : word_at y0.memory.store (tword n) ≡ val n). before) (λ (g : IsGiven place 0 n). let less = g.less in absurd (omega (arith, less))) given;
          });
        }
    front-run u (suc j) begins position mark size few =
        let r = front-run u j begins position mark size (omega (arith, few)) in
        let item = item_at (due_at q a flat place) j (omega (arith, few)) in
        let e : j + 1 ≡ suc j = omega arith in
        record {
          steps = suc r.steps;
          count = let c = r.count in omega (arith, c);
          front = subst (λ i. IsFront i (source s input (suc r.steps))) e (front-step j item.0 (source s input r.steps) r.front item.1);
        }
