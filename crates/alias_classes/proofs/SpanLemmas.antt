-- Spans as far as they have come.
use Rattle.std.proofs.Common.{◌≡◌, ◌≢◌, ℕ, ◌+◌, ◌-◌, length-append, ◌<◌, ◌≤◌, pos, List, [], ◌∷◌, ◌++◌, length, get_or, ⊎_elim, ap, sym, ◌∙◌, subst, arith}
use Rattle.std.proofs.lemmas.Bool.{cases_eq, cases_lt}
use Rattle.std.proofs.lemmas.List.{get_or_append_left, get_or_push, get_or_read}
use Rattle.std.proofs.lemmas.Int.{ints}
use Rattle.std.specs.Prelude.{Option, Some, slice_get, ◌+ℤ◌}
use Rattle.f77_tree.specs.declared.programs.NameInfo.{NameInfo}
use Rattle.f77_tree.specs.Places.{end_of}
use Rattle.f77_tree.specs.Value.{place_of, place_in, dims_in, size_of}
use Rattle.alias_classes.specs.Spans.{Holds, AreReaches, IsLastBegin, AreLastBegins}

-- the spans of the names below n
pub record SpansSoFar (names : List NameInfo) (n : ℕ) (begins ends : List ℕ) : Type 0 where
  pub begin_count : length begins ≡ n
  pub end_count : length ends ≡ n
  pub begin : (k : ℕ) → k < n → get_or begins k 0 ≡ place_of names k
  pub end : (k : ℕ) → k < n → pos (get_or ends k 0) ≡ end_of names k

-- the reaches of the spans below n
pub record ReachSoFar (words : ℕ) (begins ends : List ℕ) (n : ℕ) (reaches : List ℕ) : Type 0 where
  pub each : length reaches ≡ words
  pub far : (k : ℕ) → k < n → get_or ends k 0 ≤ get_or reaches (get_or begins k 0) 0
  pub own : (p : ℕ) → 0 < get_or reaches p 0 → (k : ℕ) × (k < n) × (get_or begins k 0 ≡ p) × (get_or ends k 0 ≡ get_or reaches p 0)

pub record NextPlace (begins ends : List ℕ) (word next further : ℕ) : Type 0 where
  pub smaller : further < next
  pub most : (k : ℕ) → Holds begins ends k word → get_or begins k 0 < further

-- where the spans that begin at a place all end before the word, the word before that place tells of it
pub next-place : (words : ℕ) (begins ends reaches last : List ℕ) (word next : ℕ) → AreReaches words begins ends reaches → AreLastBegins word begins ends last → 0 < next → next ≤ word + 1 → get_or reaches (next - 1) 0 ≤ word → ((k : ℕ) → Holds begins ends k word → get_or begins k 0 < next) → NextPlace begins ends word next (get_or last (next - 1) 0)
next-place words begins ends reaches last word next reach lasts some within short most = ⊎_elim
    (λ (first : next ≡ 1).
    let zero_place : next - 1 ≡ 0 = omega (arith, first) in
    let none : get_or last (next - 1) 0 ≡ 0 = ap (λ x. get_or last x 0) zero_place ∙ lasts.none in
    record {
      smaller = omega (arith, none, some);
      most = λ k holds.
          let below = most k holds in
          let far = reach.far k holds.known in
          let ends_after = holds.below in
          let at : get_or begins k 0 ≡ next - 1 = omega (arith, below, first) in
          let same = ap (λ x. get_or reaches x 0) at in
          absurd (omega (arith, far, same, short, ends_after));
    })
    (λ (other : next ≢ 1).
    let at : next - 2 + 1 ≡ next - 1 = omega (arith, some, other) in
    let here : IsLastBegin begins ends (next - 2) (get_or last (next - 1) 0) = subst (λ x. IsLastBegin begins ends (next - 2) (get_or last x 0)) at (lasts.own (next - 2) (omega (arith, within, some, other))) in
    record {
      smaller = ⊎_elim
          (λ (h : get_or last (next - 1) 0 ≡ 0). omega (arith, h, some))
          (λ (h : get_or last (next - 1) 0 ≢ 0).
          let found = here.own (omega (arith, h)) in
          let holds = found.1 in
          let begin = holds.from in
          let is = found.2 in
          omega (arith, begin, is, some, other))
          (cases_eq (get_or last (next - 1) 0) 0);
      most = λ k holds.
          let below = most k holds in
          let far = reach.far k holds.known in
          let ends_after = holds.below in
          let apart : get_or begins k 0 ≢ next - 1 = λ at_it. let same = ap (λ x. get_or reaches x 0) at_it in absurd (omega (arith, far, same, short, ends_after)) in
          here.most k (record { known = holds.known; from = omega (arith, below, apart, some, other); below = omega (arith, ends_after, within, some, other) });
    })
    (cases_eq next 1)

-- one word more
pub last-push : (word q : ℕ) (begins ends last : List ℕ) → AreLastBegins word begins ends last → IsLastBegin begins ends word q → AreLastBegins (word + 1) begins ends (last ++ q ∷ [])
last-push word q begins ends last lasts here = record {
  each = omega (arith, length-append last (q ∷ []), lasts.each);
  none = get_or_append_left last (q ∷ []) 0 0 (omega (arith, lasts.each)) ∙ lasts.none;
  own = λ w h. ⊎_elim
      (λ (l : w < word). rw (get_or_append_left last (q ∷ []) 0 (w + 1) (omega (arith, lasts.each, l))) (lasts.own w l))
      (λ (m : word ≤ w).
      let same : w ≡ word = omega (arith, m, h) in
      let value : get_or (last ++ q ∷ []) (w + 1) 0 ≡ q = get_or_push last q 0 (w + 1) (omega (arith, lasts.each, same)) in
      rw (value, same) here)
      (cases_lt w word);
}

-- ---- spans of names

pub span-end : (names : List NameInfo) (k : ℕ) (info : NameInfo) (size : ℕ) → slice_get names k ≡ Some info → pos size ≡ size_of info.dims → pos (info.place + size) ≡ end_of names k
span-end names k info size at is =
    let sum : pos (info.place + size) ≡ pos info.place +ℤ size_of info.dims = omega (arith, ints, is) in
    sum ∙ sym (ap (λ (o : Option NameInfo). pos (place_in o) +ℤ size_of (dims_in o)) at)

-- one name more
pub spans-push : (names : List NameInfo) (n : ℕ) (begins ends : List ℕ) (info : NameInfo) (size : ℕ) → SpansSoFar names n begins ends → slice_get names n ≡ Some info → pos size ≡ size_of info.dims → SpansSoFar names (n + 1) (begins ++ info.place ∷ []) (ends ++ (info.place + size) ∷ [])
spans-push names n begins ends info size so_far at is = record {
  begin_count = omega (arith, length-append begins (info.place ∷ []), so_far.begin_count);
  end_count = omega (arith, length-append ends ((info.place + size) ∷ []), so_far.end_count);
  begin = λ k h. ⊎_elim
      (λ (l : k < n). get_or_append_left begins (info.place ∷ []) 0 k (omega (arith, so_far.begin_count, l)) ∙ so_far.begin k l)
      (λ (m : n ≤ k).
      let same : k ≡ n = omega (arith, m, h) in
      get_or_push begins info.place 0 k (omega (arith, so_far.begin_count, same)) ∙ sym (ap (place_of names) same ∙ ap place_in at))
      (cases_lt k n);
  end = λ k h. ⊎_elim
      (λ (l : k < n). ap pos (get_or_append_left ends ((info.place + size) ∷ []) 0 k (omega (arith, so_far.end_count, l))) ∙ so_far.end k l)
      (λ (m : n ≤ k).
      let same : k ≡ n = omega (arith, m, h) in
      ap pos (get_or_push ends (info.place + size) 0 k (omega (arith, so_far.end_count, same))) ∙ span-end names n info size at is ∙ sym (ap (end_of names) same))
      (cases_lt k n);
}

-- the same, as the two places are read
pub read-next-place : (begins ends reaches last : List ℕ) (word next reach further : ℕ) → AreReaches (length reaches) begins ends reaches → AreLastBegins word begins ends last → word < length reaches → 0 < next → next ≤ word + 1 → ((k : ℕ) → Holds begins ends k word → get_or begins k 0 < next) → reach ≡ get_or reaches (next - 1) reach → reach ≤ word → further ≡ get_or last (next - 1) further → NextPlace begins ends word next further
read-next-place begins ends reaches last word next reach further are lasts inside some within most is_reach short is_further =
    let in_reaches : next - 1 < length reaches = omega (arith, within, some, inside) in
    let in_last : next - 1 < length last = omega (arith, within, some, lasts.each) in
    let at_reach = get_or_read reaches (next - 1) reach in_reaches is_reach 0 in
    let at_last = get_or_read last (next - 1) further in_last is_further 0 in
    let is_short : get_or reaches (next - 1) 0 ≤ word = omega (arith, at_reach, short) in
    subst (λ x. NextPlace begins ends word next x) (sym at_last) (next-place (length reaches) begins ends reaches last word next are lasts some within is_short most)
