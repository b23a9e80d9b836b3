-- From spans to the words of names.
use Rattle.std.proofs.Common.{◌≡◌, ℕ, suc, ◌<◌, ◌≤◌, pos, ◌+ℤ◌, ◌<ℤ◌, ◌≤ℤ◌, true, List, length, get_or, Option, Some, inl, inr, ⊎_elim, refl, ap, sym, ◌∙◌, subst, arith}
use Rattle.std.specs.Prelude.{slice_get}
use Rattle.std.proofs.lemmas.Int.{ints}
use Rattle.std.proofs.lemmas.Option.{slice_get-get_or, slice_get_cases}
use Rattle.class_set.specs.declared.ClassSet.{ClassSet}
use Rattle.class_set.specs.ClassSet.{holds}
use Rattle.f77_tree.specs.declared.programs.NameInfo.{NameInfo}
use Rattle.f77_tree.specs.declared.programs.Program.{Program}
use Rattle.f77_tree.specs.Declarations.{IsNameInfo}
use Rattle.f77_tree.specs.Places.{IsWordOf, end_of}
use Rattle.f77_tree.specs.Value.{place_in, dims_in, place_of, size_of, ArePlaced}
use Rattle.f77_tree.specs.WellFormed.{IsWellFormed}
use Rattle.alias_classes.specs.Classes.{IsMet, IsNextNumber, IsNumbering, IsClasses}
use Rattle.alias_classes.specs.Kept.{table_of, IsSetOfName}
use Rattle.alias_classes.specs.Runs.{IsSetOf}
use Rattle.alias_classes.specs.Spans.{AreSpansOf, AreSpans, Holds}
use Rattle.alias_classes.proofs.SizeLemmas.{counts}

-- ---- well-formed programs

end-at : (names : List NameInfo) (k : ℕ) (info : NameInfo) → slice_get names k ≡ Some info → end_of names k ≡ pos info.place +ℤ size_of info.dims
end-at names k info at = ap (λ (o : Option NameInfo). pos (place_in o) +ℤ size_of (dims_in o)) at

pub well-placed : (p : Program) → IsWellFormed p → ArePlaced p.names p.words
well-placed p is = record {
  each = λ k d lt.
      let info = get_or p.names k d in
      let at : slice_get p.names k ≡ Some info = slice_get-get_or p.names k d lt in
      let fits = is.declarations.table k d lt in
      record {
        bounds = λ j e within. (fits.dimensions.bounds j e within).order;
        inside = subst (λ z. z ≤ℤ pos p.words) (end-at p.names k info at) (is.places.within k lt);
      };
  few = let few = is.word_count in omega (arith, few);
}

-- a name has a word
pub some-word : (p : Program) → IsWellFormed p → (k : ℕ) → k < length p.names → pos (place_of p.names k) <ℤ end_of p.names k
some-word p is k lt = ⊎_elim
    (λ (found : (info : NameInfo) × (k < length p.names) × (slice_get p.names k ≡ Some info) × (get_or p.names k info ≡ info)).
    let info = found.0 in
    let fits : IsNameInfo info = subst IsNameInfo found.3 (is.declarations.table k info lt) in
    let size = counts info.dims fits.dimensions.bounds in
    let is_size = size.0 in
    let some = size.1 in
    let end = end-at p.names k info found.2 in
    let place : place_of p.names k ≡ info.place = ap place_in found.2 in
    omega (arith, ints, is_size, some, end, place))
    (λ (past : (length p.names ≤ k) × (slice_get p.names k ≡ _)). let end = past.0 in absurd (omega (arith, lt, end)))
    (slice_get_cases p.names k).1

module _ (p : Program) (is : IsWellFormed p) (begins ends : List ℕ) (spans : AreSpansOf p.names begins ends) where
  pub are-spans : AreSpans p.words begins ends
  are-spans = record {
    as_many = spans.end_count ∙ sym spans.begin_count;
    some = λ k lt.
        let known : k < length p.names = omega (arith, lt, spans.begin_count) in
        let begin = spans.begin k known in
        let end = spans.end k known in
        let some = some-word p is k known in
        omega (arith, ints, begin, end, some);
    inside = λ k lt.
        let known : k < length p.names = omega (arith, lt, spans.begin_count) in
        let end = spans.end k known in
        let inside = is.places.within k known in
        omega (arith, ints, end, inside);
  }

  span-word : (k w : ℕ) → Holds begins ends k w → IsWordOf p.names k w
  span-word k w holds =
      let lt = holds.known in
      let known : k < length p.names = omega (arith, lt, spans.begin_count) in
      let begin = spans.begin k known in
      let end = spans.end k known in
      let from = holds.from in
      let below = holds.below in
      record { known = known; begins = omega (arith, begin, from); ends = omega (arith, ints, end, below) }

  word-span : (k w : ℕ) → IsWordOf p.names k w → Holds begins ends k w
  word-span k w has =
      let known = has.known in
      let begin = spans.begin k known in
      let end = spans.end k known in
      let from = has.begins in
      let below = has.ends in
      record { known = omega (arith, known, spans.begin_count); from = omega (arith, begin, from); below = omega (arith, ints, end, below) }

-- ---- one relation for another

module _ (R S : ℕ → ℕ → Type 0) (over : (k w : ℕ) → R k w → S k w) (back : (k w : ℕ) → S k w → R k w) (numbers : List ℕ) where
  met-over : (k w v : ℕ) → IsMet R k w v → IsMet S k w v
  met-over k w v met = record { name = met.name; has = over met.name v met.has; before = met.before }

  met-back : (k w v : ℕ) → IsMet S k w v → IsMet R k w v
  met-back k w v met = record { name = met.name; has = back met.name v met.has; before = met.before }

  next-over : (k w n : ℕ) → IsNextNumber R numbers k w n → IsNextNumber S numbers k w n
  next-over k w n next = record {
    above = λ v met. next.above v (met-back k w v met);
    least = ⊎_elim
        (λ start. inl start)
        (λ (last : (v : ℕ) × IsMet R k w v × (suc (get_or numbers v 0) ≡ n)). inr (last.0, met-over k w last.0 last.1, last.2))
        next.least;
  }

  pub numbering-over : (words count : ℕ) → IsNumbering R words numbers count → IsNumbering S words numbers count
  numbering-over words count n = record {
    each = n.each;
    same = λ v w v_in w_in.
        let both = n.same v w v_in w_in in (
          λ equal k. (λ has. over k w ((both.0 equal k).0 (back k v has)), λ has. over k v ((both.0 equal k).1 (back k w has))),
          λ names. both.1 (λ k. (λ has. back k w ((names k).0 (over k v has)), λ has. back k v ((names k).1 (over k w has)))),
        );
    first = λ k w has new. next-over k w (get_or numbers w 0) (n.first k w (back k w has) (λ v met. new v (met-over k w v met)));
    bare = λ w none. n.bare w (λ k has. none k (over k w has));
    some = λ k w has. n.some k w (back k w has);
    most = n.most;
    reached = n.reached;
  }

-- ---- the classes of a program

module _ (p : Program) (is : IsWellFormed p) (begins ends numbers : List ℕ) (count : ℕ) (spans : AreSpansOf p.names begins ends) where
  pub are-classes : IsNumbering (Holds begins ends) p.words numbers count → IsClasses p (table_of p numbers count)
  are-classes numbering = record {
    names = refl;
    numbering = numbering-over (Holds begins ends) (IsWordOf p.names) (span-word p is begins ends spans) (word-span p is begins ends spans) numbers p.words count numbering;
    loops = refl;
  }

  pub set-of-name : {W : ℕ} (k : ℕ) (set : ClassSet W) → k < length p.names → IsSetOf numbers (get_or begins k 0) (get_or ends k 0) set → IsSetOfName (table_of p numbers count) k set
  set-of-name k set known of = record {
    sound = λ n member.
        let found = of.sound n member in
        record { word = found.0; has = span-word p is begins ends spans k found.0 (record { known = omega (arith, known, spans.begin_count); from = found.1; below = found.2 }); is = found.3 };
    whole = λ n has.
        let holds_it = word-span p is begins ends spans k has.word has.has in
        subst (λ m. holds set m ≡ true) has.is (of.whole has.word holds_it.from holds_it.below);
  }
