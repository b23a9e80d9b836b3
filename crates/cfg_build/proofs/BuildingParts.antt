-- The parts of a program, executable by executable.
use Rattle.std.proofs.Common.{◌≡◌, ℕ, ◌+◌, ◌<◌, true, false, List, [], ◌∷◌, ◌++◌, length, get_or, set, slice_index, Option, Some, None, ap, sym, ◌∙◌, refl, arith, ⊎_elim, cond}
use Rattle.std.proofs.lemmas.List.{append-nil, get_or-set_same, get_or-set_other}
use Rattle.std.proofs.lemmas.List.Concat.{flat_map-append}
use Rattle.std.proofs.lemmas.Bool.{cases_eq}
use Rattle.std.proofs.lemmas.Option.{slice_get_past, same_Some}
use Rattle.std.specs.List.{flat_map, range_with_len, slice_get}
use Rattle.std.specs.Option.{option_map}
use Rattle.f77_tree.specs.declared.programs.Exec.{Exec}
use Rattle.f77_tree.specs.declared.programs.ExecKind.TheVariants.{DoNext}
use Rattle.f77_tree.specs.Loops.{Loop, AreLoops, IsLoop, begun, begun_in, begun_at, incremented, incremented_in, do_start}
use Rattle.cfg_build.specs.Control.{is_reached}
use Rattle.cfg_build.specs.Parts.{parts_in, reached_parts}
use Rattle.list_laws.proofs.Ranges.{range_more}

pub flat_map-range_more : {X : Type 0} (f : ℕ → List X) (k : ℕ) → flat_map f (range_with_len 0 (k + 1)) ≡ flat_map f (range_with_len 0 k) ++ f k
flat_map-range_more f k = grind (arith, range_more k, flat_map-append f (range_with_len 0 k) (k ∷ []), append-nil (f k))

-- the parts of an executable that is reached, and of one that isn't
pub reached_parts-yes : (execs : List Exec) (k : ℕ) → is_reached execs k ≡ true → reached_parts execs k ≡ parts_in execs k (slice_get execs k)
reached_parts-yes execs k is = ap (λ b. cond b (parts_in execs k (slice_get execs k)) []) is

pub reached_parts-no : (execs : List Exec) (k : ℕ) → is_reached execs k ≡ false → reached_parts execs k ≡ []
reached_parts-no execs k is = ap (λ b. cond b (parts_in execs k (slice_get execs k)) []) is

-- ---- DO loops

-- the DO that has a number
record Numbered (o : Option Loop) (n : ℕ) : Type 0 where
  pub loop : Loop
  pub is : o ≡ Some loop
  pub number : loop.number ≡ n

numbered : (o : Option Loop) (n : ℕ) → option_map (λ (loop : Loop). loop.number) o ≡ Some n → Numbered o n
numbered None n is = cc
numbered (Some loop) n is = record { loop = loop; is = refl; number = cc }

none_numbered : (o : Option Loop) → option_map (λ (loop : Loop). loop.number) o ≡ None → o ≡ None
none_numbered None is = refl
none_numbered (Some loop) is = cc

pub begun_exists : (execs : List Exec) (k : ℕ) (loop : Loop) → begun_at execs k ≡ Some loop → k < length execs
begun_exists execs k loop is = grind (arith, slice_get_past)

module _ (execs : List Exec) (loops : ℕ) (are : AreLoops execs loops) where
  pub begun_number : (k n : ℕ) (exec : Exec) → slice_get execs k ≡ Some exec → option_map (λ (loop : Loop). loop.number) (begun exec.kind) ≡ Some n → n < loops
  begun_number k n exec at number =
      let x : Numbered (begun exec.kind) n = numbered (begun exec.kind) n number in
      let is : begun_at execs k ≡ Some x.loop = ap begun_in at ∙ x.is in
      omega (arith, are.starts k x.loop is, x.number)

  pub start_exists : (n : ℕ) → n < loops → do_start execs n < length execs
  start_exists n below = let l : IsLoop execs n = are.each n below in begun_exists execs (do_start execs n) l.loop l.begins

  abbrev pub Known : List ℕ → ℕ → Type 0
  Known starts k = (n : ℕ) → n < loops → do_start execs n < k → slice_index starts n ≡ do_start execs n

  -- an executable that begins a DO
  pub Known-begun : (starts : List ℕ) (k n : ℕ) (exec : Exec) → length starts ≡ loops → slice_get execs k ≡ Some exec → option_map (λ (loop : Loop). loop.number) (begun exec.kind) ≡ Some n → Known starts k → Known (set starts n k) (k + 1)
  Known-begun starts k n exec count at number known m below start =
      let x : Numbered (begun exec.kind) n = numbered (begun exec.kind) n number in
      let is : begun_at execs k ≡ Some x.loop = ap begun_in at ∙ x.is in
      let l : IsLoop execs m = are.each m below in
      ⊎_elim
      (λ (same : m ≡ n).
      let here : m < length starts = omega (arith, below, count) in
      ap (λ i. get_or (set starts n k) i 0) same ∙ get_or-set_same starts n k 0 (omega (arith, here, same)) ∙ l.one_start k x.loop is (x.number ∙ sym same))
      (λ (other : m ≡ n → ⊥).
      let apart : do_start execs m ≡ k → ⊥ = λ same.
      let e : Some l.loop ≡ Some x.loop = sym l.begins ∙ ap (begun_at execs) same ∙ is in
      other (sym l.number ∙ ap (λ (loop : Loop). loop.number) (same_Some l.loop x.loop e) ∙ x.number) in
      get_or-set_other starts n m k 0 other ∙ known m below (omega (arith, start, apart)))
      (cases_eq m n)

  -- an executable that begins none
  pub Known-other : (starts : List ℕ) (k : ℕ) (exec : Exec) → slice_get execs k ≡ Some exec → option_map (λ (loop : Loop). loop.number) (begun exec.kind) ≡ None → Known starts k → Known starts (k + 1)
  Known-other starts k exec at none known m below start =
      let l : IsLoop execs m = are.each m below in
      let is : begun_at execs k ≡ None = ap begun_in at ∙ none_numbered (begun exec.kind) none in
      let apart : do_start execs m ≡ k → ⊥ = λ same.
      let e : Some l.loop ≡ None = sym l.begins ∙ ap (begun_at execs) same ∙ is in
      absurd cc in
      known m below (omega (arith, start, apart))

  -- the DO that an executable increments
  pub next_number : (k n var body exit : ℕ) (exec : Exec) → slice_get execs k ≡ Some exec → exec.kind ≡ DoNext n var body exit → n < loops
  next_number k n var body exit exec at is = are.nexts k (record { number = n; variable = var; body = body; exit = exit }) (ap incremented_in at ∙ ap incremented is)
