-- The lists that cells and ends keep, from the sequences that they link.
use Rattle.std.proofs.Common.{◌≡◌, ℕ, ◌*◌, ◌<◌, ◌^◌, List, [], length, get_or, slice_index_or, IsSome, Option, None, sym, ap, subst, ◌∙◌}
use Rattle.std.proofs.lemmas.List.{ext_get_or, get_or-map, length-map}
use Rattle.brackets.specs.Brackets.{AreApart, list_at}
use Rattle.brackets.specs.Kept.{AreKept, IsKept, above, below, brackets_of, lists_of, no_ends}
use Rattle.brackets.specs.Links.{read}
use Rattle.brackets.specs.declared.lists.Cell.{Cell}
use Rattle.brackets.specs.declared.lists.Ends.{Ends}
use Rattle.brackets.proofs.ChainLemmas.{read_chain}

-- what is read of a list that is kept
pub reads : (cells : List (Option Cell)) (ends : Ends) (xs : List ℕ) → IsKept cells ends xs → brackets_of cells ends ≡ xs
reads cells ends xs kept =
    ap (λ n. read (below cells) n ends.top) kept.size
    ∙ ap (λ cell. read (below cells) (length xs) cell) kept.top
    ∙ read_chain (above cells) (below cells) None xs None kept.chain

-- cells and ends that link these sequences
pub record Link (cells : List (Option Cell)) (lists : List Ends) (sequences : List (List ℕ)) : Type 0 where
  pub same_length : length sequences ≡ length lists
  pub few : length lists < 2 ^ 31
  pub has_cell : (x : ℕ) → x < 2 * length lists → IsSome (slice_index_or cells x None)
  pub kept : (l : ℕ) → l < length lists → IsKept cells (get_or lists l no_ends) (list_at sequences l)

module _ (cells : List (Option Cell)) (lists : List Ends) (sequences : List (List ℕ)) (link : Link cells lists sequences) where
  pub list_read : (l : ℕ) → l < length lists → list_at (lists_of cells lists) l ≡ list_at sequences l
  list_read l lt = get_or-map (brackets_of cells) lists l no_ends [] lt ∙ reads cells (get_or lists l no_ends) (list_at sequences l) (link.kept l lt)

  pub lists_are : lists_of cells lists ≡ sequences
  lists_are = ext_get_or [] (lists_of cells lists) sequences (length-map lists (brackets_of cells) ∙ sym link.same_length)
      (λ l lt. list_read l (subst (λ n. l < n) (length-map lists (brackets_of cells)) lt))

  pub are_kept : AreApart sequences → AreKept cells lists
  are_kept apart = record {
    few = link.few;
    has_cell = link.has_cell;
    kept = λ l lt. subst (IsKept cells (get_or lists l no_ends)) (sym (reads cells (get_or lists l no_ends) (list_at sequences l) (link.kept l lt))) (link.kept l lt);
    apart = subst AreApart (sym lists_are) apart;
  }

-- what is kept links the lists that are seen
pub links : (cells : List (Option Cell)) (lists : List Ends) → AreKept cells lists → Link cells lists (lists_of cells lists)
links cells lists are = record {
  same_length = length-map lists (brackets_of cells);
  few = are.few;
  has_cell = are.has_cell;
  kept = λ l lt. subst (IsKept cells (get_or lists l no_ends)) (sym (get_or-map (brackets_of cells) lists l no_ends [] lt)) (are.kept l lt);
}
