-- A text that is written item by item.
use Rattle.std.proofs.Common.{◌≡◌, ℕ, zero, suc, ◌+◌, ◌-◌, ◌<◌, ◌≤◌, ℤ, pos, nat_abs, List, [], ◌∷◌, ◌++◌, Option, length, get_or, take, drop, sym, ap, subst, ◌∙◌, append_assoc, append-nil, take-append-drop, arith, refl}
use Rattle.std.proofs.Math.Seq.{take-suc}
use Rattle.std.proofs.KnownBytes.{Appends-trans}
use Rattle.std.proofs.lemmas.Grind.{flat_map-append}
use Rattle.std.proofs.lemmas.List.{take_all}
use Rattle.std.specs.Io.KnownBytes.{Appends}
use Rattle.std.specs.Prelude.{flat_map}
use Rattle.df_io.specs.Write.{AppendsPrefix}
use Rattle.df_io.proofs.Prefixes.{AppendsPrefix-after, AppendsPrefix-longer}
use Rattle.f77_tree.specs.declared.declarations.Kind.{Kind}
use Rattle.f77_tree.specs.declared.programs.NameInfo.{NameInfo}
use Rattle.f77_tree.specs.InitialWords.{words_from}
use Rattle.f77_tree.specs.Value.{size_of, word_at}
use Rattle.game_jobs.specs.StoreText.{name_line, store_text, word_text}
use Rattle.graph_texts.specs.NameWords.{words_of}

module _ {X : Type 0} (f : X → List ℕ) (xs : List X) (k : ℕ) (d : X) where
  -- what stands for the next item comes after the others
  items_more : k < length xs → flat_map f (take (k + 1) xs) ≡ flat_map f (take k xs) ++ f (get_or xs k d)
  items_more within =
      let next : k + 1 ≡ suc k = omega arith in
      let item = get_or xs k d in
      ap (λ n. flat_map f (take n xs)) next ∙ ap (flat_map f) (take-suc xs k d within) ∙ flat_map-append f (take k xs) (item ∷ []) ∙ ap (λ end. flat_map f (take k xs) ++ end) (append-nil (f item))

  -- the first items, the next one, and the others
  items_split : k < length xs → flat_map f xs ≡ (flat_map f (take k xs) ++ f (get_or xs k d)) ++ flat_map f (drop (k + 1) xs)
  items_split within =
      ap (flat_map f) (sym (take-append-drop (k + 1) xs)) ∙ flat_map-append f (take (k + 1) xs) (drop (k + 1) xs) ∙ ap (λ front. front ++ flat_map f (drop (k + 1) xs)) (items_more within)

  -- one item more
  pub item_told : (head bytes : List ℕ) (a b c : Option (List ℕ)) → k < length xs → bytes ≡ f (get_or xs k d) → Appends a b (head ++ flat_map f (take k xs)) → Appends b c bytes → Appends a c (head ++ flat_map f (take (k + 1) xs))
  item_told head bytes a b c within is before now =
      let all : (head ++ flat_map f (take k xs)) ++ bytes ≡ head ++ flat_map f (take (k + 1) xs) =
      append_assoc head (flat_map f (take k xs)) bytes ∙ ap (λ end. head ++ (flat_map f (take k xs) ++ end)) is ∙ ap (λ end. head ++ end) (sym (items_more within)) in
      subst (Appends a c) all (Appends-trans a b c (head ++ flat_map f (take k xs)) bytes before now)

  -- a fault at an item, which others and more were to follow
  pub fault_at_item : (head bytes rest : List ℕ) (a b c : Option (List ℕ)) → k < length xs → bytes ≡ f (get_or xs k d) → Appends a b (head ++ flat_map f (take k xs)) → AppendsPrefix b c bytes → AppendsPrefix a c (head ++ (flat_map f xs ++ rest))
  fault_at_item head bytes rest a b c within is before prefix =
      let front = flat_map f (take k xs) in
      let others = flat_map f (drop (k + 1) xs) in
      let all : ((head ++ front) ++ bytes) ++ (others ++ rest) ≡ head ++ (flat_map f xs ++ rest) =
      ap (λ prefix. prefix ++ (others ++ rest)) (append_assoc head front bytes ∙ ap (λ end. head ++ (front ++ end)) is)
      ∙ append_assoc head (front ++ f (get_or xs k d)) (others ++ rest)
      ∙ ap (λ end. head ++ end) (sym (append_assoc (front ++ f (get_or xs k d)) others rest) ∙ ap (λ whole. whole ++ rest) (sym (items_split within))) in
      subst (AppendsPrefix a c) all (AppendsPrefix-longer a c ((head ++ front) ++ bytes) (others ++ rest) (AppendsPrefix-after a b c (head ++ front) bytes before prefix))

-- ---- words

length-words : (first n : ℕ) → length (words_from first n) ≡ n
length-words first zero = refl
length-words first (suc n) = ap suc (length-words (suc first) n)

-- the word at an index
word_number : (first n k d : ℕ) → k < n → get_or (words_from first n) k d ≡ first + k
word_number first zero k d within = absurd (omega (arith, within))
word_number first (suc n) zero d within = omega arith
word_number first (suc n) (suc k) d within =
    let more : suc first + k ≡ first + suc k = omega arith in
    word_number (suc first) n k d (omega (arith, within)) ∙ more

-- a word as it stands in the line of its name
abbrev pub word_part : List ℤ → Kind → ℕ → List ℕ
word_part store kind word = 32 ∷ word_text kind (word_at store word)

-- the name with its words that are numbered below this
abbrev pub words_below : List ℤ → NameInfo → (at : ℕ) → List ℕ
words_below store info at = info.name ++ flat_map (word_part store info.kind) (take (at - info.place) (words_of info))

-- a fault at the name itself
pub fault_at_head : (store : List ℤ) (info : NameInfo) (bytes : List ℕ) (a b : Option (List ℕ)) → bytes ≡ info.name → AppendsPrefix a b bytes → AppendsPrefix a b (name_line store info)
fault_at_head store info bytes a b is prefix =
    let words = flat_map (word_part store info.kind) (words_of info) in
    AppendsPrefix-longer a b (info.name ++ words) (10 ∷ []) (AppendsPrefix-longer a b info.name words (subst (AppendsPrefix a b) is prefix))

module _ (store : List ℤ) (info : NameInfo) (size : ℕ) (is_size : pos size ≡ size_of info.dims) where
  count : length (words_of info) ≡ size
  count = length-words info.place (nat_abs (size_of info.dims)) ∙ sym (ap nat_abs is_size)

  module _ (at : ℕ) (from : info.place ≤ at) (below : at < info.place + size) where
    within : at - info.place < length (words_of info)
    within = let all = count in omega (arith, all, from, below)

    here : get_or (words_of info) (at - info.place) 0 ≡ at
    here =
        let inside : at - info.place < nat_abs (size_of info.dims) = let all = ap nat_abs is_size in omega (arith, all, from, below) in
        let same : info.place + (at - info.place) ≡ at = omega (arith, from) in
        word_number info.place (nat_abs (size_of info.dims)) (at - info.place) 0 inside ∙ same

    -- one word more
    pub word_told : (bytes : List ℕ) (a b c : Option (List ℕ)) → bytes ≡ word_part store info.kind at → Appends a b (words_below store info at) → Appends b c bytes → Appends a c (words_below store info (at + 1))
    word_told bytes a b c is before now =
        let next : at - info.place + 1 ≡ at + 1 - info.place = omega (arith, from) in
        subst (λ n. Appends a c (info.name ++ flat_map (word_part store info.kind) (take n (words_of info)))) next
        (item_told (word_part store info.kind) (words_of info) (at - info.place) 0 info.name bytes a b c within (is ∙ ap (word_part store info.kind) (sym here)) before now)

    -- a fault at a word
    pub fault_at_word : (bytes : List ℕ) (a b c : Option (List ℕ)) → bytes ≡ word_part store info.kind at → Appends a b (words_below store info at) → AppendsPrefix b c bytes → AppendsPrefix a c (name_line store info)
    fault_at_word bytes a b c is before prefix =
        subst (AppendsPrefix a c) (sym (append_assoc info.name (flat_map (word_part store info.kind) (words_of info)) (10 ∷ [])))
        (fault_at_item (word_part store info.kind) (words_of info) (at - info.place) 0 info.name bytes (10 ∷ []) a b c within (is ∙ ap (word_part store info.kind) (sym here)) before prefix)

  module _ (at : ℕ) (end : info.place + size ≤ at) where
    all_words : words_below store info at ++ 10 ∷ [] ≡ name_line store info
    all_words =
        let most : length (words_of info) ≤ at - info.place = let all = count in omega (arith, all, end) in
        ap (λ words. (info.name ++ flat_map (word_part store info.kind) words) ++ 10 ∷ []) (take_all (at - info.place) (words_of info) most)

    -- the line feed after all words
    pub name_told : (a b c : Option (List ℕ)) → Appends a b (words_below store info at) → Appends b c (10 ∷ []) → Appends a c (name_line store info)
    name_told a b c before now = subst (Appends a c) all_words (Appends-trans a b c (words_below store info at) (10 ∷ []) before now)

    -- a fault at the line feed
    pub fault_after_words : (a b c : Option (List ℕ)) → Appends a b (words_below store info at) → AppendsPrefix b c (10 ∷ []) → AppendsPrefix a c (name_line store info)
    fault_after_words a b c before prefix = subst (AppendsPrefix a c) all_words (AppendsPrefix-after a b c (words_below store info at) (10 ∷ []) before prefix)

-- ---- names

module _ (store : List ℤ) (names : List NameInfo) (d : NameInfo) (a b c : Option (List ℕ)) where
  -- one name more
  pub line_told : (k : ℕ) → k < length names → Appends a b (flat_map (name_line store) (take k names)) → Appends b c (name_line store (get_or names k d)) → Appends a c (flat_map (name_line store) (take (k + 1) names))
  line_told k within before now = item_told (name_line store) names k d [] (name_line store (get_or names k d)) a b c within refl before now

  -- a fault at a name
  pub fault_at_line : (k : ℕ) (rest : List ℕ) → k < length names → Appends a b (flat_map (name_line store) (take k names)) → AppendsPrefix b c (name_line store (get_or names k d)) → AppendsPrefix a c (store_text names store ++ rest)
  fault_at_line k rest within before prefix = fault_at_item (name_line store) names k d [] (name_line store (get_or names k d)) rest a b c within refl before prefix

module _ (store : List ℤ) (names : List NameInfo) (k : ℕ) (end : length names ≤ k) (a b c : Option (List ℕ)) (before : Appends a b (flat_map (name_line store) (take k names))) where
  all_names : Appends a b (store_text names store)
  all_names = subst (Appends a b) (ap (flat_map (name_line store)) (take_all k names end)) before

  -- a line after all names
  pub store_told : (line : List ℕ) → Appends b c line → Appends a c (store_text names store ++ line)
  store_told line now = Appends-trans a b c (store_text names store) line all_names now

  -- a fault at that line
  pub fault_after_names : (line : List ℕ) → AppendsPrefix b c line → AppendsPrefix a c (store_text names store ++ line)
  fault_after_names line prefix = AppendsPrefix-after a b c (store_text names store) line all_names prefix
