-- The walk goes on.
use Rattle.std.proofs.Common.{◌≡◌, ◌≢◌, ℕ, suc, Bool, true, false, ◌+◌, ◌-◌, ◌<◌, ◌≤◌, ◌⊎◌, List, [], ◌∷◌, ◌++◌, length, get_or, set, inl, inr, ⊎_elim, refl, ap, sym, ◌∙◌, subst, arith, length-append, get_or-set_same, get_or-set_other}
use Rattle.std.specs.List.{list_any, position_or_len}
use Rattle.std.proofs.lemmas.Bool.{cases_order, cases_eq, cases_lt}
use Rattle.std.proofs.lemmas.List.{get_or_append_left, get_or_push}
use Rattle.std.proofs.Math.ListN.{length-set}
use Rattle.indexmap.specs.IndexSet.{insert_key}
use Rattle.alias_classes.specs.Classes.{IsMet, IsNextNumber, SameNames, IsNumbering}
use Rattle.alias_classes.specs.Walk.{no_key, same_keys, IsMarked, IsKeyed, Before, IsNew, IsWalked}
use Rattle.alias_classes.proofs.KeyPlaces.{same_keys-equal, same_keys-itself}
use Rattle.list_laws.proofs.KeyPlaces.{found, absent}

module _ (covers : ℕ → ℕ → Type 0) (key : ℕ → ℕ × ℕ) where
  earlier-met : (j x k w v : ℕ) → Before covers key j x k w → IsMet covers j x v → IsMet covers k w v
  earlier-met j x k w v before met = record {
    name = met.name;
    has = met.has;
    before = ⊎_elim
        (λ (first : met.name < j). ⊎_elim
        (λ (l : j < k). inl (omega (arith, first, l)))
        (λ (here : (j ≡ k) × (x < w)). let same = here.0 in inl (omega (arith, first, same)))
        before)
        (λ (at : (met.name ≡ j) × (v < x)). ⊎_elim
        (λ (l : j < k). let same = at.0 in inl (omega (arith, same, l)))
        (λ (here : (j ≡ k) × (x < w)). let less = at.1 in let more = here.1 in inr (at.0 ∙ here.0, omega (arith, less, more)))
        before)
        met.before;
  }

  -- the walk moves over words that have numbers, or that the name doesn't cover
  pub walked-move : (k w k' w' : ℕ) (numbers : List ℕ) (keys : List (ℕ × ℕ)) → IsWalked covers key k w numbers keys → ((v : ℕ) → IsMet covers k w v → IsMet covers k' w' v) → ((v : ℕ) → IsMet covers k' w' v → 1 ≤ get_or numbers v 0) → ((j x : ℕ) → covers j x → Before covers key j x k' w' → Before covers key j x k w ⊎ IsMet covers j x x) → IsWalked covers key k' w' numbers keys
  walked-move k w k' w' numbers keys walked further met come = record {
    met = met;
    own = λ v some. further v (walked.own v some);
    table = walked.table;
    first = λ j x has before new. ⊎_elim
        (λ earlier. walked.first j x has earlier new)
        (λ again. absurd (new x again refl))
        (come j x has before);
  }

  module _ (k w n : ℕ) (numbers : List ℕ) (keys more : List (ℕ × ℕ)) (walked : IsWalked covers key k w numbers keys) (has : covers k w) (inside : w < length numbers) (blank : get_or numbers w 0 ≡ 0) (some : 1 ≤ n) where
    abbrev new : List ℕ
    new = set numbers w n

    here : get_or new w 0 ≡ n
    here = get_or-set_same numbers w n 0 inside

    other : (v : ℕ) → v ≢ w → get_or new v 0 ≡ get_or numbers v 0
    other v differ = get_or-set_other numbers w v n 0 differ

    numbered-other : (v : ℕ) → 1 ≤ get_or numbers v 0 → v ≢ w
    numbered-other v is same = absurd (omega (arith, is, blank, ap (λ x. get_or numbers x 0) same))

    still : (v : ℕ) → 1 ≤ get_or numbers v 0 → get_or new v 0 ≡ get_or numbers v 0
    still v is = other v (numbered-other v is)

    meet-here : IsMet covers k (suc w) w
    meet-here = record { name = k; has = has; before = inr (refl, omega arith) }

    longer : (v : ℕ) → IsMet covers k w v → IsMet covers k (suc w) v
    longer v met = record { name = met.name; has = met.has; before = ⊎_elim (λ l. inl l) (λ (h : (met.name ≡ k) × (v < w)). let less = h.1 in inr (h.0, omega (arith, less))) met.before }

    shorter : (v : ℕ) → v ≢ w → IsMet covers k (suc w) v → IsMet covers k w v
    shorter v differ met = record { name = met.name; has = met.has; before = ⊎_elim (λ l. inl l) (λ (h : (met.name ≡ k) × (v < suc w)). let less = h.1 in inr (h.0, omega (arith, less, differ))) met.before }

    next-kept : (j x : ℕ) → Before covers key j x k w → 1 ≤ get_or numbers x 0 → IsNextNumber covers numbers j x (get_or numbers x 0) → IsNextNumber covers new j x (get_or new x 0)
    next-kept j x before is next = rw (still x is) (record {
      above = λ v met. let same = still v (walked.met v (earlier-met j x k w v before met)) in let below = next.above v met in omega (arith, same, below);
      least = ⊎_elim
          (λ start. inl start)
          (λ (last : (v : ℕ) × IsMet covers j x v × (suc (get_or numbers v 0) ≡ get_or numbers x 0)). inr (last.0, last.1, ap suc (still last.0 (walked.met last.0 (earlier-met j x k w last.0 before last.1))) ∙ last.2))
          next.least;
    })

    walked-set : IsKeyed covers key new more → (IsNew covers key new k w → IsNextNumber covers new k w (get_or new w 0)) → IsWalked covers key k (suc w) new more
    walked-set table first = record {
      met = λ v met. ⊎_elim
          (λ (same : v ≡ w). rw (same, here) some)
          (λ (differ : v ≢ w). let is = walked.met v (shorter v differ met) in rw (other v differ) is)
          (cases_eq v w);
      own = λ v is. ⊎_elim
          (λ (same : v ≡ w). subst (λ x. IsMet covers k (suc w) x) (sym same) meet-here)
          (λ (differ : v ≢ w). longer v (walked.own v (rw (other v differ) at is)))
          (cases_eq v w);
      table = table;
      first = λ j x is_word before is_new. ⊎_elim
          (λ (same_place : (j ≡ k) × (x ≡ w)).
          let at_name = same_place.0 in
          let at_word = same_place.1 in
          let moved : IsNew covers key new k w = subst (λ y. IsNew covers key new k y) at_word (subst (λ i. IsNew covers key new i x) at_name is_new) in
          subst (λ i. IsNextNumber covers new i x (get_or new x 0)) (sym at_name) (subst (λ y. IsNextNumber covers new k y (get_or new y 0)) (sym at_word) (first moved)))
          (λ (earlier : Before covers key j x k w).
          let met : IsMet covers k w x = record { name = j; has = is_word; before = earlier } in
          let is = walked.met x met in
          let old_new : IsNew covers key numbers j x = λ v met_it same. is_new v met_it (still v (walked.met v (earlier-met j x k w v earlier met_it)) ∙ same ∙ sym (still x is)) in
          next-kept j x earlier is (walked.first j x is_word earlier old_new))
          (split j x before);
    }
      where
        split : (j x : ℕ) → Before covers key j x k (suc w) → ((j ≡ k) × (x ≡ w)) ⊎ Before covers key j x k w
        split j x (inl l) = inr (inl l)
        split j x (inr at) = ⊎_elim
            (λ (same : x ≡ w). inl (at.0, same))
            (λ (differ : x ≢ w). let less = at.1 in inr (inr (at.0, omega (arith, less, differ))))
            (cases_eq x w)

    numbers-up-to : (m : ℕ) → ((v : ℕ) → get_or numbers v 0 ≤ m) → n ≤ m → (v : ℕ) → get_or new v 0 ≤ m
    numbers-up-to m all last v = ⊎_elim
        (λ (same : v ≡ w). rw (same, here) last)
        (λ (differ : v ≢ w). rw (other v differ) (all v))
        (cases_eq v w)

    old-reached : (m : ℕ) → 1 ≤ m → m ≤ length keys → (v : ℕ) × (get_or new v 0 ≡ m)
    old-reached m from to =
        let found = walked.table.reached m from to in
        let is = found.1 in
        (found.0, still found.0 (omega (arith, is, from)) ∙ found.1)

  -- a word whose key is there
  walked-old : (k w i : ℕ) (numbers : List ℕ) (keys : List (ℕ × ℕ)) → IsWalked covers key k w numbers keys → covers k w → w < length numbers → get_or numbers w 0 ≡ 0 → i < length keys → get_or keys i no_key ≡ key w → IsWalked covers key k (suc w) (set numbers w (i + 1)) keys
  walked-old k w i numbers keys walked has inside blank known is =
      let n_some : 1 ≤ i + 1 = omega arith in
      walked-set k w (i + 1) numbers keys keys walked has inside blank n_some
      (record {
        within = numbers-up-to k w (i + 1) numbers keys keys walked has inside blank n_some (length keys) walked.table.within (omega (arith, known));
        keyed = λ v some. ⊎_elim
            (λ (same : v ≡ w).
            let n : get_or (set numbers w (i + 1)) v 0 - 1 ≡ i = rw (same, get_or-set_same numbers w (i + 1) 0 inside) (omega arith) in
            rw n (is ∙ ap key (sym same)))
            (λ (differ : v ≢ w).
            let n = get_or-set_other numbers w v (i + 1) 0 differ in
            rw n (walked.table.keyed v (rw n at some)))
            (cases_eq v w);
        apart = walked.table.apart;
        reached = old-reached k w (i + 1) numbers keys keys walked has inside blank n_some;
      })
      (λ is_new.
      let found = walked.table.reached (i + 1) n_some (omega (arith, known)) in
      let same = found.1 in
      let met = walked.own found.0 (omega (arith, same)) in
      absurd (is_new found.0 met (still k w (i + 1) numbers keys keys walked has inside blank n_some found.0 (omega (arith, same)) ∙ found.1 ∙ sym (here k w (i + 1) numbers keys keys walked has inside blank n_some))))

  -- a word of a new key
  walked-new : (k w : ℕ) (numbers : List ℕ) (keys : List (ℕ × ℕ)) → IsWalked covers key k w numbers keys → covers k w → w < length numbers → get_or numbers w 0 ≡ 0 → ((i : ℕ) → i < length keys → get_or keys i no_key ≢ key w) → IsWalked covers key k (suc w) (set numbers w (length keys + 1)) (keys ++ key w ∷ [])
  walked-new k w numbers keys walked has inside blank none =
      let n = length keys + 1 in
      let more = keys ++ key w ∷ [] in
      let n_some : 1 ≤ n = omega arith in
      let count : length more ≡ n = omega (arith, length-append keys (key w ∷ [])) in
      let at_end : get_or more (length keys) no_key ≡ key w = get_or_push keys (key w) no_key (length keys) refl in
      let at_prefix : (i : ℕ) → i < length keys → get_or more i no_key ≡ get_or keys i no_key = λ i h. get_or_append_left keys (key w ∷ []) no_key i h in
      walked-set k w n numbers keys more walked has inside blank n_some
      (record {
        within = numbers-up-to k w n numbers keys more walked has inside blank n_some (length more) (λ v. let few = walked.table.within v in omega (arith, few, count)) (omega (arith, count));
        keyed = λ v some. ⊎_elim
            (λ (same : v ≡ w).
            let place : get_or (set numbers w n) v 0 - 1 ≡ length keys = rw (same, get_or-set_same numbers w n 0 inside) (omega arith) in
            rw place (at_end ∙ ap key (sym same)))
            (λ (differ : v ≢ w).
            let kept = get_or-set_other numbers w v n 0 differ in
            let is : 1 ≤ get_or numbers v 0 = rw kept at some in
            let few = walked.table.within v in
            rw kept (at_prefix (get_or numbers v 0 - 1) (omega (arith, is, few)) ∙ walked.table.keyed v is))
            (cases_eq v w);
        apart = λ i j less below same. ⊎_elim
            (λ (l : j < length keys). walked.table.apart i j less l (sym (at_prefix i (omega (arith, less, l))) ∙ same ∙ at_prefix j l))
            (λ (m : length keys ≤ j).
            let last : j ≡ length keys = omega (arith, m, below, count) in
            let prefix : i < length keys = omega (arith, less, last) in
            none i prefix (sym (at_prefix i prefix) ∙ same ∙ ap (λ x. get_or more x no_key) last ∙ at_end))
            (cases_lt j (length keys));
        reached = λ m from to. ⊎_elim
            (λ (old : m < n). old-reached k w n numbers keys more walked has inside blank n_some m from (omega (arith, old)))
            (λ (last : n ≤ m). (w, here k w n numbers keys more walked has inside blank n_some ∙ (let is : n ≡ m = omega (arith, last, to, count) in is)))
            (cases_lt m n);
      })
      (λ is_new.
      let is_n = here k w n numbers keys more walked has inside blank n_some in
      let kept = still k w n numbers keys more walked has inside blank n_some in
      rw is_n (record {
        above = λ v met. let same = kept v (walked.met v met) in let few = walked.table.within v in omega (arith, same, few);
        least = ⊎_elim
            (λ (start : length keys ≡ 0). inl (omega (arith, start)))
            (λ (later : length keys ≢ 0).
            let last = walked.table.reached (length keys) (omega (arith, later)) (omega arith) in
            let is = last.1 in
            let some : 1 ≤ get_or numbers last.0 0 = omega (arith, is, later) in
            inr (last.0, walked.own last.0 some, (let same = kept last.0 some in let sum : suc (get_or (set numbers w n) last.0 0) ≡ n = omega (arith, same, is) in sum)))
            (cases_eq (length keys) 0);
      }))

  -- the walk meets a word
  pub walked-marked : (k w : ℕ) (numbers new : List ℕ) (keys more : List (ℕ × ℕ)) → IsWalked covers key k w numbers keys → covers k w → w < length numbers → IsMarked w (key w) numbers keys new more → IsWalked covers key k (suc w) new more
  walked-marked k w numbers new keys more walked has inside marked = ⊎_elim
      (λ (blank : get_or numbers w 0 ≡ 0). rw ((marked.blank blank).0, (marked.blank blank).1) (by blank (list_any (same_keys (key w)) keys) refl))
      (λ (is_old : get_or numbers w 0 ≢ 0).
      let is : 1 ≤ get_or numbers w 0 = omega (arith, is_old) in
      rw ((marked.kept is_old).0, (marked.kept is_old).1)
      (walked-move k w k (suc w) numbers keys walked
      (λ v met. record { name = met.name; has = met.has; before = ⊎_elim (λ l. inl l) (λ (h : (met.name ≡ k) × (v < w)). let less = h.1 in inr (h.0, omega (arith, less))) met.before })
      (λ v met. ⊎_elim
      (λ (same : v ≡ w). rw same is)
      (λ (differ : v ≢ w). walked.met v (record { name = met.name; has = met.has; before = ⊎_elim (λ l. inl l) (λ (h : (met.name ≡ k) × (v < suc w)). let less = h.1 in inr (h.0, omega (arith, less, differ))) met.before }))
      (cases_eq v w))
      (λ j x has_it before. again j x is before)))
      (cases_eq (get_or numbers w 0) 0)
    where
      by : get_or numbers w 0 ≡ 0 → (b : Bool) → list_any (same_keys (key w)) keys ≡ b → IsWalked covers key k (suc w) (set numbers w (position_or_len (same_keys (key w)) keys + 1)) (insert_key same_keys keys (key w))
      by blank true p =
          let f = found same_keys no_key (key w) keys p in
          rw p (walked-old k w (position_or_len (same_keys (key w)) keys) numbers keys walked has inside blank f.within (sym (same_keys-equal (key w) (get_or keys (position_or_len (same_keys (key w)) keys) no_key) f.equal)))
      by blank false p =
          let a = absent same_keys no_key (key w) keys p in
          rw (p, a.last)
          (walked-new k w numbers keys walked has inside blank (λ j h equal.
          let found_it : same_keys (key w) (get_or keys j no_key) ≡ true = rw equal (same_keys-itself (key w)) in
          let both : true ≡ false = sym found_it ∙ a.others j h in
          absurd cc))

      earlier-self : 1 ≤ get_or numbers w 0 → IsMet covers k w w → IsMet covers k w w
      earlier-self is met = met

      again : (j x : ℕ) → 1 ≤ get_or numbers w 0 → Before covers key j x k (suc w) → Before covers key j x k w ⊎ IsMet covers j x x
      again j x is (inl l) = inl (inl l)
      again j x is (inr at) = ⊎_elim
          (λ (same : x ≡ w). inr (subst (λ i. IsMet covers i x x) (sym at.0) (subst (λ y. IsMet covers k y y) (sym same) (walked.own w is))))
          (λ (differ : x ≢ w). let less = at.1 in inl (inr (at.0, omega (arith, less, differ))))
          (cases_eq x w)

  -- over words that have numbers
  pub walked-over : (k w w' : ℕ) (numbers : List ℕ) (keys : List (ℕ × ℕ)) → IsWalked covers key k w numbers keys → w ≤ w' → ((v : ℕ) → w ≤ v → v < w' → 1 ≤ get_or numbers v 0) → IsWalked covers key k w' numbers keys
  walked-over k w w' numbers keys walked later all = walked-move k w k w' numbers keys walked
      (λ v met. record { name = met.name; has = met.has; before = ⊎_elim (λ l. inl l) (λ (h : (met.name ≡ k) × (v < w)). let less = h.1 in inr (h.0, omega (arith, less, later))) met.before })
      (λ v met. ⊎_elim
      (λ (l : met.name < k). walked.met v (record { name = met.name; has = met.has; before = inl l }))
      (λ (h : (met.name ≡ k) × (v < w')). ⊎_elim
      (λ (l : v < w). walked.met v (record { name = met.name; has = met.has; before = inr (h.0, l) }))
      (λ (m : w ≤ v). all v m h.1)
      (cases_lt v w))
      met.before)
      (λ j x has before. come j x before)
    where
      own-before : (j x : ℕ) → j ≡ k → w ≤ x → IsMet covers k w x → IsMet covers j x x
      own-before j x same from met = record {
        name = met.name;
        has = met.has;
        before = ⊎_elim
            (λ (l : met.name < k). inl (omega (arith, l, same)))
            (λ (h : (met.name ≡ k) × (x < w)). let less = h.1 in absurd (omega (arith, less, from)))
            met.before;
      }

      come : (j x : ℕ) → Before covers key j x k w' → Before covers key j x k w ⊎ IsMet covers j x x
      come j x (inl l) = inl (inl l)
      come j x (inr at) = ⊎_elim
          (λ (l : x < w). inl (inr (at.0, l)))
          (λ (m : w ≤ x). inr (own-before j x at.0 m (walked.own x (all x m at.1))))
          (cases_lt x w)

  -- past the last word of a name
  pub walked-past : (k w : ℕ) (numbers : List ℕ) (keys : List (ℕ × ℕ)) → IsWalked covers key k w numbers keys → ((x : ℕ) → covers k x → x < w) → IsWalked covers key (k + 1) 0 numbers keys
  walked-past k w numbers keys walked past = walked-move k w (k + 1) 0 numbers keys walked
      (λ v met. record { name = met.name; has = met.has; before = ⊎_elim (λ (l : met.name < k). inl (omega (arith, l))) (λ (h : (met.name ≡ k) × (v < w)). let same = h.0 in inl (omega (arith, same))) met.before })
      (λ v met. walked.met v (record { name = met.name; has = met.has; before = before met.name v met.has met.before }))
      (λ j x has come. inl (before j x has come))
    where
      at-last : (j x : ℕ) → covers j x → j < k + 1 → Before covers key j x k w
      at-last j x has l = ⊎_elim
          (λ (h : j < k). inl h)
          (λ (h : k ≤ j). let same : j ≡ k = omega (arith, h, l) in inr (same, past x (subst (λ i. covers i x) same has)))
          (cases_lt j k)

      before : (j x : ℕ) → covers j x → Before covers key j x (k + 1) 0 → Before covers key j x k w
      before j x has (inl l) = at-last j x has l
      before j x has (inr at) = let less = at.1 in absurd (omega (arith, less))

  -- the walk meets a word, and goes over those that have numbers
  pub walked-step : (k w w' : ℕ) (numbers new : List ℕ) (keys more : List (ℕ × ℕ)) → IsWalked covers key k w numbers keys → covers k w → w < length numbers → IsMarked w (key w) numbers keys new more → w < w' → ((v : ℕ) → w < v → v < w' → 1 ≤ get_or new v 0) → IsWalked covers key k w' new more
  walked-step k w w' numbers new keys more walked has inside marked later all = walked-over k (suc w) w' new more (walked-marked k w numbers new keys more walked has inside marked) later (λ v from to. all v from to)

  -- the whole walk numbers the classes, where keys tell the names that cover words
  module _ (words count : ℕ) (numbers : List ℕ) (keys : List (ℕ × ℕ)) (walked : IsWalked covers key count 0 numbers keys) (each : length numbers ≡ words) (names_below : (k w : ℕ) → covers k w → k < count) (key-names : (v w : ℕ) → v < words → w < words → key v ≡ key w → SameNames covers v w) (names-key : (v w : ℕ) → v < words → w < words → SameNames covers v w → key v ≡ key w) where
    covered-some : (k w : ℕ) → covers k w → 1 ≤ get_or numbers w 0
    covered-some k w has = walked.met w (record { name = k; has = has; before = inl (names_below k w has) })

    number-names : (v w : ℕ) → v < words → w < words → get_or numbers v 0 ≡ get_or numbers w 0 → SameNames covers v w
    number-names v w v_in w_in same = ⊎_elim
        (λ (none : get_or numbers v 0 ≡ 0). λ k. (λ has. absurd (let some = covered-some k v has in omega (arith, some, none)), λ has. absurd (let some = covered-some k w has in omega (arith, some, none, same))))
        (λ (is : get_or numbers v 0 ≢ 0).
        let v_some : 1 ≤ get_or numbers v 0 = omega (arith, is) in
        let w_some : 1 ≤ get_or numbers w 0 = omega (arith, is, same) in
        key-names v w v_in w_in (sym (walked.table.keyed v v_some) ∙ ap (λ n. get_or keys (n - 1) no_key) same ∙ walked.table.keyed w w_some))
        (cases_eq (get_or numbers v 0) 0)

    some-names : (v w : ℕ) → SameNames covers v w → 1 ≤ get_or numbers v 0 → 1 ≤ get_or numbers w 0
    some-names v w same some = let met = walked.own v some in covered-some met.name w ((same met.name).0 met.has)

    back : (v w : ℕ) → SameNames covers v w → SameNames covers w v
    back v w same k = ((same k).1, (same k).0)

    names-number : (v w : ℕ) → v < words → w < words → SameNames covers v w → get_or numbers v 0 ≡ get_or numbers w 0
    names-number v w v_in w_in same = ⊎_elim
        (λ (none : get_or numbers v 0 ≡ 0). ⊎_elim
        (λ (no : get_or numbers w 0 ≡ 0). none ∙ sym no)
        (λ (is : get_or numbers w 0 ≢ 0). let some = some-names w v (back v w same) (omega (arith, is)) in absurd (omega (arith, some, none)))
        (cases_eq (get_or numbers w 0) 0))
        (λ (is : get_or numbers v 0 ≢ 0).
        let v_some : 1 ≤ get_or numbers v 0 = omega (arith, is) in
        let w_some : 1 ≤ get_or numbers w 0 = some-names v w same v_some in
        let v_few = walked.table.within v in
        let w_few = walked.table.within w in
        let both : get_or keys (get_or numbers v 0 - 1) no_key ≡ get_or keys (get_or numbers w 0 - 1) no_key = walked.table.keyed v v_some ∙ names-key v w v_in w_in same ∙ sym (walked.table.keyed w w_some) in
        ⊎_elim
        (λ (equal : get_or numbers v 0 ≡ get_or numbers w 0). equal)
        (⊎_elim
        (λ (less : get_or numbers v 0 < get_or numbers w 0). absurd (walked.table.apart (get_or numbers v 0 - 1) (get_or numbers w 0 - 1) (omega (arith, less, v_some)) (omega (arith, w_few, w_some)) both))
        (λ (more : get_or numbers w 0 < get_or numbers v 0). absurd (walked.table.apart (get_or numbers w 0 - 1) (get_or numbers v 0 - 1) (omega (arith, more, w_some)) (omega (arith, v_few, v_some)) (sym both))))
        (cases_order (get_or numbers v 0) (get_or numbers w 0)))
        (cases_eq (get_or numbers v 0) 0)

    pub walked-numbering : IsNumbering covers words numbers (length keys)
    walked-numbering = record {
      each = each;
      same = λ v w v_in w_in. (number-names v w v_in w_in, names-number v w v_in w_in);
      first = λ k w has new. walked.first k w has (inl (names_below k w has)) new;
      bare = λ w none. ⊎_elim
          (λ (h : get_or numbers w 0 ≡ 0). h)
          (λ (h : get_or numbers w 0 ≢ 0). let met = walked.own w (omega (arith, h)) in absurd (none met.name met.has))
          (cases_eq (get_or numbers w 0) 0);
      some = covered-some;
      most = walked.table.within;
      reached = ⊎_elim
          (λ (h : length keys ≡ 0). inl h)
          (λ (h : length keys ≢ 0). inr (walked.table.reached (length keys) (omega (arith, h)) (omega arith)))
          (cases_eq (length keys) 0);
    }

pub marked-length : (word : ℕ) (key : ℕ × ℕ) (numbers marks : List ℕ) (keys all : List (ℕ × ℕ)) → IsMarked word key numbers keys marks all → length marks ≡ length numbers
marked-length word key numbers marks keys all marked = ⊎_elim
    (λ (blank : get_or numbers word 0 ≡ 0). ap length (marked.blank blank).0 ∙ length-set numbers word (position_or_len (same_keys key) keys + 1))
    (λ (old : get_or numbers word 0 ≢ 0). ap length (marked.kept old).0)
    (cases_eq (get_or numbers word 0) 0)
