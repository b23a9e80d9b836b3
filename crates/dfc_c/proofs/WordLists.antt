-- Words between blanks, as a loop over a text goes.
use Rattle.std.proofs.Common.{◌≡◌, ℕ, ◌+◌, ◌<◌, false, eqb, List, [], ◌∷◌, ◌++◌, length, drop, get_or, All, map, sym, ap, subst, ◌∙◌, append_assoc, arith}
use Rattle.std.proofs.lemmas.List.{at_drop_more, map-append}
use Rattle.std.proofs.lemmas.List.Elements.{All-head, All-tail}
use Rattle.std.specs.Str.{IsUtf8}
use Rattle.dfc_c.specs.Words.{words_after}

-- the words so far, the one that has begun, and those that are still to come
abbrev pub with_rest : (words : List (List ℕ)) (begun text : List ℕ) → List (List ℕ)
with_rest words begun text = words ++ words_after begun text

-- what is read so far, before this place of a text and at it
pub at_place : (words : List (List ℕ)) (begun text : List ℕ) (i c : ℕ) (whole : List (List ℕ)) → i < length text → get_or text i 0 ≡ c → with_rest words begun (drop i text) ≡ whole → with_rest words begun (c ∷ drop (i + 1) text) ≡ whole
at_place words begun text i c whole more same so_far =
    ap (λ x. with_rest words begun (x ∷ drop (i + 1) text)) (sym same) ∙ sym (at_drop_more (with_rest words begun) text i 0 more) ∙ so_far

-- a word that ends at a blank
pub words_blank : (words : List (List ℕ)) (begun text : List ℕ) (whole : List (List ℕ)) → with_rest words begun (32 ∷ text) ≡ whole → with_rest (words ++ begun ∷ []) [] text ≡ whole
unfolding words_after
words_blank words begun text whole so_far = append_assoc words (begun ∷ []) (words_after [] text) ∙ so_far

at_other : (begun : List ℕ) (c : ℕ) (text : List ℕ) → eqb c 32 ≡ false → words_after begun (c ∷ text) ≡ words_after (begun ++ c ∷ []) text
unfolding words_after
at_other begun c text other = grind (arith, other)

-- a word that goes on
pub words_other : (words : List (List ℕ)) (begun : List ℕ) (c : ℕ) (text : List ℕ) (whole : List (List ℕ)) → eqb c 32 ≡ false → with_rest words begun (c ∷ text) ≡ whole → with_rest words (begun ++ c ∷ []) text ≡ whole
words_other words begun c text whole other so_far = ap (λ l. words ++ l) (sym (at_other begun c text other)) ∙ so_far

-- the word at the end of the text
pub words_end : (words : List (List ℕ)) (begun : List ℕ) (whole : List (List ℕ)) → with_rest words begun [] ≡ whole → words ++ begun ∷ [] ≡ whole
unfolding words_after
words_end words begun whole so_far = so_far

holds_at : (words : List (List ℕ)) (word : List ℕ) (others : List (List ℕ)) → All IsUtf8 (words ++ word ∷ others) → IsUtf8 word
holds_at [] word others all = All-head IsUtf8 word others all
holds_at (w ∷ words) word others all = holds_at words word others (All-tail IsUtf8 w (words ++ word ∷ others) all)

-- where all words are UTF-8, so is each that ends
pub utf8_at_blank : (words : List (List ℕ)) (begun text : List ℕ) (whole : List (List ℕ)) → with_rest words begun (32 ∷ text) ≡ whole → All IsUtf8 whole → IsUtf8 begun
unfolding words_after
utf8_at_blank words begun text whole so_far all = holds_at words begun (words_after [] text) (subst (All IsUtf8) (sym so_far) all)

pub utf8_at_end : (words : List (List ℕ)) (begun : List ℕ) (whole : List (List ℕ)) → with_rest words begun [] ≡ whole → All IsUtf8 whole → IsUtf8 begun
unfolding words_after
utf8_at_end words begun whole so_far all = holds_at words begun [] (subst (All IsUtf8) (sym so_far) all)

-- the bytes of words, and of one more
pub one_more_word : {X : Type 0} (bytes : X → List ℕ) (words : List X) (word : X) (text : List ℕ) → bytes word ≡ text → map bytes (words ++ word ∷ []) ≡ map bytes words ++ text ∷ []
one_more_word bytes words word text same = map-append bytes words (word ∷ []) ∙ ap (λ t. map bytes words ++ t ∷ []) same
