-- Texts of lists and numbers.
use Rattle.std.proofs.Common.{◌≡◌, ℕ, zero, suc, ◌+◌, Bool, cond, List, [], ◌∷◌, ◌++◌, length, map, take, refl, sym, ap, ◌∙◌, append_assoc, append-nil, Some, drop}
use Rattle.std.specs.Prelude.{slice_get, codes, Option}
use Rattle.std.proofs.lemmas.List.{map-append}
use Rattle.std.proofs.Math.Dec.{eqb-suc-zero}
use Rattle.f77_tree.specs.declared.declarations.CommonPart.{CommonPart}
use Rattle.f77_tree.specs.declared.declarations.Decl.{Decl}
use Rattle.f77_tree.specs.StatementGrammar.{with_commas, after_commas, bracketed_list, in_brackets, block_text, decl_text}
use Rattle.flat_programs.specs.Declarations.{block_decls, block_statement, name_alone, written_block}
use Rattle.flat_programs.specs.Typeset.{blank, comma_at, typeset}
use Rattle.flat_programs.proofs.MarkLemmas.{take_next}

-- ---- lists with commas

with_commas-more : (text : List ℕ) (texts : List (List ℕ)) → with_commas (text ∷ texts) ≡ text ++ after_commas texts
with_commas-more text [] = sym (append-nil text)
with_commas-more text (next ∷ more) =
    ap (λ rest. text ++ codes "," ++ rest) (with_commas-more next more)
    ∙ append_assoc text (codes ",") (next ++ after_commas more)
    ∙ ap (λ rest. text ++ rest) (sym (append_assoc (codes ",") next (after_commas more)))

pub after_commas-append : (texts more : List (List ℕ)) → after_commas (texts ++ more) ≡ after_commas texts ++ after_commas more
after_commas-append [] more = refl
after_commas-append (text ∷ texts) more =
    ap (λ rest. (codes "," ++ text) ++ rest) (after_commas-append texts more) ∙ sym (append_assoc (codes "," ++ text) (after_commas texts) (after_commas more))

comma_at-suc : (n : ℕ) → comma_at (suc n) ≡ codes ","
comma_at-suc n = ap (λ (b : Bool). cond b [] (codes ",")) (eqb-suc-zero n)

with_commas-push : (texts : List (List ℕ)) (text : List ℕ) → with_commas (texts ++ text ∷ []) ≡ with_commas texts ++ comma_at (length texts) ++ text
with_commas-push [] text = refl
with_commas-push (first ∷ texts) text =
    let one : after_commas (text ∷ []) ≡ codes "," ++ text = append-nil (codes "," ++ text) in
    with_commas-more first (texts ++ text ∷ [])
    ∙ ap (λ rest. first ++ rest) (after_commas-append texts (text ∷ []) ∙ ap (λ rest. after_commas texts ++ rest) one)
    ∙ sym (append_assoc first (after_commas texts) (codes "," ++ text))
    ∙ sym (append_assoc (first ++ after_commas texts) (codes ",") text)
    ∙ ap (λ begun. begun ++ codes "," ++ text) (sym (with_commas-more first texts))
    ∙ ap (λ comma. with_commas (first ∷ texts) ++ comma ++ text) (sym (comma_at-suc (length texts)))

length-taken : {X : Type 0} (xs : List X) (k : ℕ) (x : X) → slice_get xs k ≡ Some x → length (take k xs) ≡ k
length-taken [] k x is = absurd cc
length-taken (y ∷ ys) zero x is = refl
length-taken (y ∷ ys) (suc k) x is = ap suc (length-taken ys k x is)

length-mapped : {X Y : Type 0} (f : X → Y) (xs : List X) → length (map f xs) ≡ length xs
length-mapped f [] = refl
length-mapped f (x ∷ xs) = ap suc (length-mapped f xs)

pub map_twice : {X Y Z : Type 0} (f : Y → Z) (g : X → Y) (xs : List X) → map f (map g xs) ≡ map (λ x. f (g x)) xs
map_twice f g [] = refl
map_twice f g (x ∷ xs) = ap (λ zs. f (g x) ∷ zs) (map_twice f g xs)

-- one item more
pub listed_next : {X : Type 0} (f : X → List ℕ) (xs : List X) (k : ℕ) (x : X) (begun old mid new : List ℕ) → slice_get xs k ≡ Some x → old ≡ begun ++ with_commas (map f (take k xs)) → mid ≡ old ++ comma_at k → new ≡ mid ++ f x → new ≡ begun ++ with_commas (map f (take (k + 1) xs))
listed_next f xs k x begun old mid new at is comma item =
    let texts = map f (take k xs) in
    let size : length texts ≡ k = length-mapped f (take k xs) ∙ length-taken xs k x at in
    let more : map f (take (k + 1) xs) ≡ texts ++ f x ∷ [] = ap (map f) (take_next xs k x at) ∙ map-append f (take k xs) (x ∷ []) in
    let text : with_commas (map f (take (k + 1) xs)) ≡ with_commas texts ++ comma_at k ++ f x = ap with_commas more ∙ with_commas-push texts (f x) ∙ ap (λ n. with_commas texts ++ comma_at n ++ f x) size in
    item ∙ ap (λ t. t ++ f x) (comma ∙ ap (λ t. t ++ comma_at k) is)
    ∙ ap (λ t. t ++ f x) (append_assoc begun (with_commas texts) (comma_at k))
    ∙ append_assoc begun (with_commas texts ++ comma_at k) (f x)
    ∙ ap (λ t. begun ++ t) (sym text)

pub listed_next_twice : {X Y : Type 0} (f : Y → List ℕ) (g : X → Y) (xs : List X) (k : ℕ) (x : X) (begun old mid new : List ℕ) → slice_get xs k ≡ Some x → old ≡ begun ++ with_commas (map f (map g (take k xs))) → mid ≡ old ++ comma_at k → new ≡ mid ++ f (g x) → new ≡ begun ++ with_commas (map f (map g (take (k + 1) xs)))
listed_next_twice f g xs k x begun old mid new at is comma item =
    listed_next (λ y. f (g y)) xs k x begun old mid new at (is ∙ ap (λ ts. begun ++ with_commas ts) (map_twice f g (take k xs))) comma item
    ∙ ap (λ ts. begun ++ with_commas ts) (sym (map_twice f g (take (k + 1) xs)))

-- without the first comma
pub drop_comma : (texts : List (List ℕ)) → drop 1 (after_commas texts) ≡ with_commas texts
drop_comma [] = refl
drop_comma (text ∷ texts) = sym (with_commas-more text texts)

pub bracketed-some : {X Y : Type 0} (f : Y → List ℕ) (g : X → Y) (xs : List X) → (xs ≡ [] → ⊥) → bracketed_list (map f (map g xs)) ≡ in_brackets (with_commas (map f (map g xs)))
bracketed-some f g [] some = absurd (some refl)
bracketed-some f g (x ∷ xs) some = refl

-- three texts, one after another
pub three_texts : (old a b c first second new whole : List ℕ) → first ≡ old ++ a → second ≡ first ++ b → new ≡ second ++ c → whole ≡ a ++ b ++ c → new ≡ old ++ whole
three_texts old a b c first second new whole is-first is-second is-new is =
    is-new ∙ ap (λ t. t ++ c) (is-second ∙ ap (λ t. t ++ b) is-first)
    ∙ ap (λ t. t ++ c) (append_assoc old a b) ∙ append_assoc old (a ++ b) c ∙ ap (λ t. old ++ t) (sym is)

-- ---- names of a block

-- one name more
pub names_next : (decls : List Decl) (k : ℕ) (decl : Decl) (begun old mid new : List ℕ) → slice_get decls k ≡ Some decl → old ≡ begun ++ after_commas (map decl_text (map name_alone (take k decls))) → mid ≡ old ++ codes "," → new ≡ mid ++ decl.name → new ≡ begun ++ after_commas (map decl_text (map name_alone (take (k + 1) decls)))
names_next decls k decl begun old mid new at is comma name =
    let f : Decl → List ℕ = λ d. decl_text (name_alone d) in
    let before = map f (take k decls) in
    let more : map f (take (k + 1) decls) ≡ before ++ f decl ∷ [] = ap (map f) (take_next decls k decl at) ∙ map-append f (take k decls) (decl ∷ []) in
    let alone : f decl ≡ decl.name = append-nil decl.name in
    let one : after_commas (f decl ∷ []) ≡ codes "," ++ decl.name = append-nil (codes "," ++ f decl) ∙ ap (λ t. codes "," ++ t) alone in
    let text : after_commas (map f (take (k + 1) decls)) ≡ after_commas before ++ (codes "," ++ decl.name) = ap after_commas more ∙ after_commas-append before (f decl ∷ []) ∙ ap (λ t. after_commas before ++ t) one in
    let both = map_twice decl_text name_alone (take (k + 1) decls) in
    let first = map_twice decl_text name_alone (take k decls) in
    name ∙ ap (λ t. t ++ decl.name) (comma ∙ ap (λ t. t ++ codes ",") (is ∙ ap (λ ts. begun ++ after_commas ts) first))
    ∙ append_assoc (begun ++ after_commas before) (codes ",") decl.name
    ∙ append_assoc begun (after_commas before) (codes "," ++ decl.name)
    ∙ ap (λ t. begun ++ t) (sym text)
    ∙ ap (λ ts. begun ++ after_commas ts) (sym both)

-- ---- whole statements

pub common_text : (parts : List CommonPart) (block : Option (List ℕ)) → typeset (block_statement parts block) ≡ codes "COMMON " ++ block_text (written_block block) ++ blank ++ drop 1 (after_commas (map decl_text (block_decls parts block)))
common_text parts block =
    let names = with_commas (map decl_text (block_decls parts block)) in
    ap (λ t. codes "COMMON " ++ t) (append-nil (block_text (written_block block) ++ blank ++ names))
    ∙ sym (append_assoc (codes "COMMON ") (block_text (written_block block) ++ blank) names)
    ∙ ap (λ t. t ++ names) (sym (append_assoc (codes "COMMON ") (block_text (written_block block)) blank))
    ∙ ap (λ t. codes "COMMON " ++ block_text (written_block block) ++ blank ++ t) (sym (drop_comma (map decl_text (block_decls parts block))))

-- four texts, one after another
pub four_texts : (old a b c d first second third new whole : List ℕ) → first ≡ old ++ a → second ≡ first ++ b → third ≡ second ++ c → new ≡ third ++ d → whole ≡ a ++ b ++ c ++ d → new ≡ old ++ whole
four_texts old a b c d first second third new whole is-first is-second is-third is-new is =
    three_texts old (a ++ b) c d second third new whole (is-second ∙ ap (λ t. t ++ b) is-first ∙ append_assoc old a b) is-third is-new is
