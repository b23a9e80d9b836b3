-- A text of lines that is written line after line.
use Rattle.std.proofs.Common.{◌≡◌, ℕ, zero, suc, ◌+◌, ◌-◌, ◌<◌, ◌≤◌, List, [], ◌∷◌, ◌++◌, Option, Result, Ok, Err, OnOk, OnErr, length, take, sym, ap, subst, ◌∙◌, append_assoc, append-nil, arith}
use Rattle.std.proofs.Common.{max}
use Rattle.std.proofs.Math.Seq.{take-suc}
use Rattle.std.specs.Prelude.{flat_map, slice_index}
use Rattle.closed_walks.specs.Numbering.{fresh}
use Rattle.std.specs.List.{range_with_len}
use Rattle.df_io.specs.TextBuffer.{IsWrittenBut}
use Rattle.df_io.specs.Write.{AppendsPrefix}
use Rattle.df_io.proofs.Prefixes.{AppendsPrefix-longer}
use Rattle.df_io.proofs.LongTexts.{one_more_piece, fault_at_piece}

-- so many lines, from a number on
abbrev pub lines : (ℕ → List ℕ) → (first count : ℕ) → List ℕ
lines line first count = flat_map line (range_with_len first count)

-- one line more stands after the others
lines_more : (line : ℕ → List ℕ) (first n : ℕ) → lines line first (suc n) ≡ lines line first n ++ line (first + n)
lines_more line first zero =
    let here : first ≡ first + 0 = omega arith in
    append-nil (line first) ∙ ap line here
lines_more line first (suc n) =
    let there : first + 1 + n ≡ first + suc n = omega arith in
    ap (λ rest. line first ++ rest) (lines_more line (first + 1) n ∙ ap (λ k. lines line (first + 1) n ++ line k) there)
    ∙ sym (append_assoc (line first) (lines line (first + 1) n) (line (first + suc n)))

-- what stands after the first lines
lines_after : (line : ℕ → List ℕ) (first n more : ℕ) → (rest : List ℕ) × (lines line first (n + more) ≡ lines line first n ++ rest)
lines_after line first n zero =
    let same : n + 0 ≡ n = omega arith in
    ([], ap (lines line first) same ∙ sym (append-nil (lines line first n)))
lines_after line first n (suc more) =
    let before = lines_after line first n more in
    let next = line (first + (n + more)) in
    let same : n + suc more ≡ suc (n + more) = omega arith in
    (before.0 ++ next, ap (lines line first) same ∙ lines_more line first (n + more) ∙ ap (λ prefix. prefix ++ next) before.1 ∙ append_assoc (lines line first n) before.0 next)

-- After what a buffer held at first some lines were appended, and no count of faults fell.
pub record IsTelling (first held : List ℕ) (old new : Option (List ℕ)) (faults_old faults_new : ℕ) (text : List ℕ) : Type 0 where
  pub written : IsWrittenBut held old new (first ++ text)
  pub later : faults_old ≤ faults_new

-- one line more
pub line_told : (line : ℕ → List ℕ) (from k : ℕ) (first held left bytes : List ℕ) (a b c : Option (List ℕ)) → bytes ≡ line (from + k) → IsWrittenBut held a b (first ++ lines line from k) → IsWrittenBut left b c (held ++ bytes) → IsWrittenBut left a c (first ++ lines line from (k + 1))
line_told line from k first held left bytes a b c is before now =
    let next : k + 1 ≡ suc k = omega arith in
    let all : (first ++ lines line from k) ++ bytes ≡ first ++ lines line from (k + 1) =
    append_assoc first (lines line from k) bytes
    ∙ ap (λ end. first ++ (lines line from k ++ end)) is
    ∙ ap (λ end. first ++ end) (sym (lines_more line from k))
    ∙ ap (λ n. first ++ lines line from n) (sym next) in
    subst (IsWrittenBut left a c) all (one_more_piece a b c held (first ++ lines line from k) bytes left before now)

-- a fault at a line, which others were to follow
pub fault_at_line : (line : ℕ → List ℕ) (from k count : ℕ) (first held bytes : List ℕ) (a b c : Option (List ℕ)) → k < count → bytes ≡ line (from + k) → IsWrittenBut held a b (first ++ lines line from k) → AppendsPrefix b c (held ++ bytes) → AppendsPrefix a c (first ++ lines line from count)
fault_at_line line from k count first held bytes a b c within is before prefix =
    let more = count - suc k in
    let rest = lines_after line from (suc k) more in
    let whole : suc k + more ≡ count = omega (arith, within) in
    let text = first ++ lines line from k in
    let all : (text ++ bytes) ++ rest.0 ≡ first ++ lines line from count =
    append_assoc text bytes rest.0
    ∙ append_assoc first (lines line from k) (bytes ++ rest.0)
    ∙ ap (λ end. first ++ end) (sym (append_assoc (lines line from k) bytes rest.0)
    ∙ ap (λ end. (lines line from k ++ end) ++ rest.0) is
    ∙ ap (λ prefix. prefix ++ rest.0) (sym (lines_more line from k))
    ∙ sym rest.1
    ∙ ap (lines line from) whole) in
    subst (AppendsPrefix a c) all (AppendsPrefix-longer a c (text ++ bytes) rest.0 (fault_at_piece a b c held text bytes before prefix))

-- what holds where an error is told
pub on_error : {A E P : Type 0} (result : Result A E) → P → OnErr result P
on_error (Ok x) holds = tt
on_error (Err error) holds = holds

-- what follows of what holds then, and of what holds without an error
pub then_on_error : {A E P Q : Type 0} (result : Result A E) → (P → Q) → OnErr result P → OnErr result Q
then_on_error (Ok x) next holds = tt
then_on_error (Err error) next holds = next holds

pub then_on_ok : {A E P Q : Type 0} (result : Result A E) → (P → Q) → OnOk result P → OnOk result Q
then_on_ok (Ok x) next holds = next holds
then_on_ok (Err error) next holds = tt

-- the least number above those of a list, one more after it
fresh_more : (xs : List ℕ) (x : ℕ) → fresh (xs ++ x ∷ []) ≡ max (fresh xs) (x + 1)
fresh_more [] x = omega arith
fresh_more (y ∷ xs) x = let rest = fresh_more xs x in omega (arith, rest)

pub fresh_next : (xs : List ℕ) (k count : ℕ) → k < length xs → count ≡ fresh (take k xs) → fresh (take (k + 1) xs) ≡ max count (slice_index xs k + 1)
fresh_next xs k count within is =
    let next : k + 1 ≡ suc k = omega arith in
    ap (λ n. fresh (take n xs)) next ∙ ap fresh (take-suc xs k 0 within) ∙ fresh_more (take k xs) (slice_index xs k) ∙ ap (λ n. max n (slice_index xs k + 1)) (sym is)
