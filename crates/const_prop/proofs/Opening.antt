-- The opening of a table.
use Rattle.std.proofs.Common.{◌≡◌, ◌⊎◌, ◌<◌, ◌≤◌, ◌+◌, ℕ, Bool, true, false, List, get_or, replicate, sym, ap, subst, ◌∙◌, inl, inr, ⊎_elim, arith}
use Rattle.std.proofs.lemmas.Bool.{cases_lt}
use Rattle.std.proofs.lemmas.List.{get_or-replicate, get_or_past, length-replicate}
use Rattle.f77_tree.specs.declared.programs.Program.{Program}
use Rattle.f77_tree.specs.Value.{word_at}
use Rattle.alias_classes.specs.Classes.{ClassTable, class_of_word}
use Rattle.cfg_build.specs.Joined.{FlowGraph}
use Rattle.dep_routing.specs.Routing.{Routing, next_at}
use Rattle.const_prop.specs.declared.known.Known.{Known}
use Rattle.const_prop.specs.declared.known.Known.TheVariants.{Nothing, One, Any}
use Rattle.const_prop.specs.declared.work.Work.{Work}
use Rattle.const_prop.specs.Known.{AtMost, IsNotOne}
use Rattle.const_prop.specs.Table.{Knowns}
use Rattle.const_prop.specs.Closed.{is_one_word, led_to}
use Rattle.const_prop.specs.Work.{so_far, IsBlank, IsSettlingFrom, no_line, no_piece}

nothing : (n k : ℕ) → get_or (replicate n Nothing) k Nothing ≡ Nothing
nothing n k = ⊎_elim
    (λ (l : k < n). get_or-replicate n k Nothing Nothing l)
    (λ (past : n ≤ k). get_or_past (replicate n Nothing) k Nothing (let size = length-replicate {A = Known} n Nothing in omega (arith, size, past)))
    (cases_lt k n)

module _ {W : ℕ} (p : Program) (f : FlowGraph) (c : ClassTable) (touches : ℕ → ℕ → Bool) (r : Routing) where
  abbrev at : Work W → Knowns
  at w = so_far w

  pub blank-settling : (w : Work W) → IsBlank f r w → IsSettlingFrom p f c touches r 0 0 no_line no_piece w
  blank-settling w b =
      let decision : (k : ℕ) → (at w).decision k ≡ Nothing = λ k. ap (λ (xs : List Known). get_or xs k Nothing) b.decisions ∙ nothing f.graph.nodes k in
      record {
        sized = b.sized;
        found = record {
          words = λ line e l k several. subst IsNotOne (sym (b.values line e)) tt;
          below = λ s closed. record { value = λ line e l k. subst (λ (x : Known). AtMost x (s.value line e)) (sym (b.values line e)) tt; decision = λ k l. subst (λ (x : Known). AtMost x (s.decision k)) (sym (decision k)) tt };
        };
        opened = record { initial = λ word l m one. absurd (omega (arith, m)); others = λ line l m one. absurd (omega (arith, m)) };
        lines = λ line e l k t. inr (inr (λ i way kind wire. subst (λ (x : Known). AtMost x ((at w).value line (led_to f r e line i))) (sym (b.values line e)) tt));
        pieces = λ e k. inr (inl (b.waits e k));
        waits = λ line e h. let clash : true ≡ false = sym h ∙ b.pending line e in absurd cc;
      }

  -- one line more is opened, or needs no opening
  pub others-more : (words line : ℕ) (w : Work W) → (is_one_word c line ≡ true) ⊎ AtMost Any ((at w).value line (next_at r line 1)) → IsSettlingFrom p f c touches r words line no_line no_piece w → IsSettlingFrom p f c touches r words (line + 1) no_line no_piece w
  others-more words line w here s = record {
    sized = s.sized;
    found = s.found;
    opened = record {
      initial = s.opened.initial;
      others = λ k l m several. ⊎_elim
          (λ (low : k < line). s.opened.others k l low several)
          (λ (high : line ≤ k).
          let is : k ≡ line = omega arith in
          ⊎_elim
          (λ (one : is_one_word c line ≡ true). let clash : true ≡ false = sym one ∙ ap (is_one_word c) (sym is) ∙ several in absurd cc)
          (λ (done : AtMost Any ((at w).value line (next_at r line 1))). subst (λ (n : ℕ). AtMost Any ((at w).value n (next_at r n 1))) (sym is) done)
          here)
          (cases_lt k line);
    };
    lines = s.lines;
    pieces = s.pieces;
    waits = s.waits;
  }

  pub words-more : (word lines : ℕ) (w : Work W) → (is_one_word c (class_of_word c word) ≡ false) ⊎ AtMost (One (word_at p.initial word)) ((at w).value (class_of_word c word) (next_at r (class_of_word c word) 1)) → IsSettlingFrom p f c touches r word lines no_line no_piece w → IsSettlingFrom p f c touches r (word + 1) lines no_line no_piece w
  words-more word lines w here s = record {
    sized = s.sized;
    found = s.found;
    opened = record {
      initial = λ k l m one. ⊎_elim
          (λ (low : k < word). s.opened.initial k l low one)
          (λ (high : word ≤ k).
          let is : k ≡ word = omega arith in
          ⊎_elim
          (λ (several : is_one_word c (class_of_word c word) ≡ false). let clash : true ≡ false = sym one ∙ ap (λ (n : ℕ). is_one_word c (class_of_word c n)) is ∙ several in absurd cc)
          (λ (done : AtMost (One (word_at p.initial word)) ((at w).value (class_of_word c word) (next_at r (class_of_word c word) 1))). subst (λ (n : ℕ). AtMost (One (word_at p.initial n)) ((at w).value (class_of_word c n) (next_at r (class_of_word c n) 1))) (sym is) done)
          here)
          (cases_lt k word);
      others = s.opened.others;
    };
    lines = s.lines;
    pieces = s.pieces;
    waits = s.waits;
  }
