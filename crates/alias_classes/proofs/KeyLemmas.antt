-- The last begin and the first end of the names that cover a word tell which ones do.
use Rattle.std.proofs.Common.{◌≡◌, ◌≢◌, ℕ, ◌+◌, ◌-◌, ◌<◌, ◌≤◌, List, length, get_or, ⊎_elim, ap, sym, ◌∙◌, subst, arith}
use Rattle.std.specs.Prelude.{◌↔◌}
use Rattle.std.proofs.lemmas.Bool.{cases_eq}
use Rattle.alias_classes.specs.Classes.{SameNames}
use Rattle.alias_classes.specs.Spans.{AreSpans, Holds, IsLastBegin, AreLastBegins, AreFromEnd}
use Rattle.alias_classes.specs.Walk.{key_of}

-- where the same spans hold two words, the same one begins last
last-at-most : (begins ends : List ℕ) (v w q r : ℕ) → IsLastBegin begins ends v q → IsLastBegin begins ends w r → ((k : ℕ) → Holds begins ends k v → Holds begins ends k w) → q ≤ r
last-at-most begins ends v w q r last other over = ⊎_elim
    (λ (h : q ≡ 0). omega (arith, h))
    (λ (h : q ≢ 0).
    let found = last.own (omega (arith, h)) in
    let below = other.most found.0 (over found.0 found.1) in
    let is = found.2 in
    omega (arith, below, is))
    (cases_eq q 0)

last-begin-same : (begins ends : List ℕ) (v w q r : ℕ) → IsLastBegin begins ends v q → IsLastBegin begins ends w r → ((k : ℕ) → Holds begins ends k v ↔ Holds begins ends k w) → q ≡ r
last-begin-same begins ends v w q r last other same =
    let up = last-at-most begins ends v w q r last other (λ k. (same k).0) in
    let down = last-at-most begins ends w v r q other last (λ k. (same k).1) in
    omega (arith, up, down)

-- where a span that begins last holds w, and another one that holds v doesn't begin later, that one begins before w
begins-before : (begins ends : List ℕ) (v w q k : ℕ) → IsLastBegin begins ends v q → IsLastBegin begins ends w q → Holds begins ends k v → get_or begins k 0 ≤ w
begins-before begins ends v w q k last other holds =
    let below = last.most k holds in
    let found = other.own (omega (arith, below)) in
    let is = found.2 in
    let holds_it = found.1 in
    let from = holds_it.from in
    omega (arith, below, is, from)

module _ (words : ℕ) (begins ends back_begins back_ends forth back : List ℕ) (spans : AreSpans words begins ends) (mirrored : AreFromEnd words ends back_begins) (mirrored_ends : AreFromEnd words begins back_ends) (lasts : AreLastBegins words begins ends forth) (firsts : AreLastBegins words back_begins back_ends back) where
  as_many : length back_begins ≡ length begins
  as_many = mirrored.as_many ∙ spans.as_many

  mirror : (k w : ℕ) → w < words → Holds begins ends k w → Holds back_begins back_ends k (words - 1 - w)
  mirror k w inside holds =
      let known = holds.known in
      let from = holds.from in
      let below = holds.below in
      let many = as_many in
      let end = mirrored.own k (omega (arith, known, spans.as_many)) in
      let begin = mirrored_ends.own k known in
      record { known = omega (arith, known, many); from = omega (arith, inside, below, end); below = omega (arith, inside, from, begin) }

  mirror-back : (k w : ℕ) → w < words → Holds back_begins back_ends k (words - 1 - w) → Holds begins ends k w
  mirror-back k w inside holds =
      let many = as_many in
      let known_back = holds.known in
      let known : k < length begins = omega (arith, known_back, many) in
      let from = holds.from in
      let below = holds.below in
      let end = mirrored.own k (omega (arith, known, spans.as_many)) in
      let begin = mirrored_ends.own k known in
      record { known = known; from = omega (arith, inside, below, begin); below = omega (arith, inside, from, end) }

  first-end : (w : ℕ) → w < words → IsLastBegin back_begins back_ends (words - 1 - w) (get_or back (words - w) 0)
  first-end w inside =
      let at : words - 1 - w + 1 ≡ words - w = omega (arith, inside) in
      subst (λ x. IsLastBegin back_begins back_ends (words - 1 - w) (get_or back x 0)) at (firsts.own (words - 1 - w) (omega (arith, inside)))

  key-over : (v w k : ℕ) → v < words → w < words → get_or forth (v + 1) 0 ≡ get_or forth (w + 1) 0 → get_or back (words - v) 0 ≡ get_or back (words - w) 0 → Holds begins ends k v → Holds begins ends k w
  key-over v w k v_in w_in begin end holds =
      let from : get_or begins k 0 ≤ w = begins-before begins ends v w (get_or forth (w + 1) 0) k (subst (λ q. IsLastBegin begins ends v q) begin (lasts.own v v_in)) (lasts.own w w_in) holds in
      let to : get_or back_begins k 0 ≤ words - 1 - w = begins-before back_begins back_ends (words - 1 - v) (words - 1 - w) (get_or back (words - w) 0) k (subst (λ q. IsLastBegin back_begins back_ends (words - 1 - v) q) end (first-end v v_in)) (first-end w w_in) (mirror k v v_in holds) in
      let known = holds.known in
      let place = mirrored.own k (omega (arith, known, spans.as_many)) in
      record { known = known; from = from; below = omega (arith, to, place, w_in) }

  -- two words have the same key exactly where the same spans hold them
  pub key-names : (v w : ℕ) → v < words → w < words → key_of words forth back v ≡ key_of words forth back w → SameNames (Holds begins ends) v w
  key-names v w v_in w_in same =
      let begin : get_or forth (v + 1) 0 ≡ get_or forth (w + 1) 0 = ap (λ (p : ℕ × ℕ). p.0) same in
      let end : get_or back (words - v) 0 ≡ get_or back (words - w) 0 = ap (λ (p : ℕ × ℕ). p.1) same in
      λ k. (λ holds. key-over v w k v_in w_in begin end holds, λ holds. key-over w v k w_in v_in (sym begin) (sym end) holds)

  pub names-key : (v w : ℕ) → v < words → w < words → SameNames (Holds begins ends) v w → key_of words forth back v ≡ key_of words forth back w
  names-key v w v_in w_in same =
      let begin = last-begin-same begins ends v w (get_or forth (v + 1) 0) (get_or forth (w + 1) 0) (lasts.own v v_in) (lasts.own w w_in) same in
      let end = last-begin-same back_begins back_ends (words - 1 - v) (words - 1 - w) (get_or back (words - v) 0) (get_or back (words - w) 0) (first-end v v_in) (first-end w w_in) (λ k. (λ holds. mirror k w w_in ((same k).0 (mirror-back k v v_in holds)), λ holds. mirror k v v_in ((same k).1 (mirror-back k w w_in holds)))) in
      λ i. (begin i, end i)
