-- From which place on a text tells the lines of a layout.
use Rattle.std.proofs.Common.{◌≡◌, ℕ, zero, suc, ◌+◌, ◌<◌, List, [], ◌∷◌, ◌++◌, length, sym, ap, ◌∙◌}
use Rattle.std.proofs.Common.{arith, append_assoc, drop, drop_of_length-le, subst, add-one, get_or}
use Rattle.std.proofs.Math.Seq.{drop-cons}
use Rattle.std.specs.List.{concat}
use Rattle.reply_lines.specs.Tails.{BeginsLine, Tail}
use Rattle.tree_state.specs.Views.{TreeView}
use Rattle.certifier.specs.Blocks.{Carried, IsLaidOut, Layout, LayoutLine, layout_size}
use Rattle.certifier.proofs.Places.{front_line}

module _ (names : List (List ℕ)) (tree : TreeView) (layout : Layout) where
  abbrev Line : ℕ → Carried → List ℕ → Carried → Type 0
  Line = LayoutLine names tree layout

  -- The text tells all lines from a place on, with what is carried to it.
  pub record At (place : ℕ) (carry : Carried) (text : List ℕ) : Type 0 where
    pub left : ℕ
    pub all : place + left ≡ layout_size tree.net layout
    pub tail : Tail Carried Line left place carry text

  split_line : (place left : ℕ) (carry : Carried) (text : List ℕ) → place + left ≡ layout_size tree.net layout
      → place < layout_size tree.net layout → Tail Carried Line left place carry text
      → BeginsLine Carried Line place carry text (At (place + 1))
  split_line place zero carry text all low t = absurd (omega arith)
  split_line place (suc left) carry text all low t = record {
    line = t.line;
    rest = t.rest;
    carry2 = t.carry2;
    is = t.is;
    joins = t.joins;
    on = record { left = left; all = omega arith; tail = t.on };
  }

  -- While a line is left, the text begins with one.
  pub begins : (place : ℕ) (carry : Carried) (text : List ℕ) → place < layout_size tree.net layout
      → At place carry text → BeginsLine Carried Line place carry text (At (place + 1))
  begins place carry text low at = split_line place at.left carry text at.all low at.tail

  -- A text that is laid out begins at the first place.
  pub at_first : {text : List ℕ} (is : IsLaidOut names tree layout text) → At 0 is.carry text
  at_first is = record { left = layout_size tree.net layout; all = omega arith; tail = is.is }

  -- Behind the lines in front, which are known, the text tells the others.
  pub record FromFront (place : ℕ) (text : List ℕ) : Type 0 where
    pub rest : List ℕ
    pub carry : Carried
    pub text_is : text ≡ concat (drop place layout.front) ++ rest
    pub at : At (length layout.front) carry rest

  pub from_front : (n place : ℕ) (carry : Carried) (text : List ℕ) → place + n ≡ length layout.front
      → At place carry text → FromFront place text
  from_front zero place carry text all at =
      let here : place ≡ length layout.front = omega arith in
      record {
        rest = text;
        carry = carry;
        text_is = sym (ap (λ lines. concat lines ++ text) (drop_of_length-le layout.front (omega arith)));
        at = subst (λ p. At p carry text) here at;
      }
  from_front (suc n) place carry text all at =
      let low : place < length layout.front = omega arith in
      let first = begins place carry text (omega arith) at in
      let known = front_line low first.is in
      let behind = from_front n (place + 1) first.carry2 first.rest (omega arith) first.on in
      let line = get_or layout.front place [] in
      let lines : drop place layout.front ≡ line ∷ drop (place + 1) layout.front =
      drop-cons layout.front place [] low
      ∙ ap (λ p. line ∷ drop p layout.front) (sym (add-one place)) in
      let later = concat (drop (place + 1) layout.front) in
      record {
        rest = behind.rest;
        carry = behind.carry;
        text_is = first.joins ∙ ap (λ l. l ++ first.rest) known.at ∙ ap (λ t. line ++ t) behind.text_is
            ∙ sym (append_assoc line later behind.rest)
            ∙ ap (λ ls. concat ls ++ behind.rest) (sym lines);
        at = behind.at;
      }
