-- A reply that tells a certificate is accepted with its first line.
use Rattle.std.proofs.Common.{◌≡◌, ℕ, zero, suc, ◌+◌, List, [], ◌∷◌, ◌++◌, Bool, true, false, length, refl}
use Rattle.std.proofs.Common.{ap, ◌∙◌, arith, append_assoc, add-one, inl, inr}
use Rattle.std.proofs.lemmas.Bool.{le-ltb}
use Rattle.text_forms.specs.declared.lines.TheConstants.{MOST_LINE_BYTES}
use Rattle.text_forms.specs.Words.{is_passed, line_words}
use Rattle.text_forms.proofs.Written.{IsLineOf}
use Rattle.reply_lines.specs.Tails.{Tail}
use Rattle.tree_state.specs.Views.{TreeView}
use Rattle.certifier.specs.Accepting.{IsHead, ReplyIsAccepted}
use Rattle.certifier.specs.Blocks.{Carried, Layout, LayoutLine, certificate_layout, headed}
use Rattle.certifier.specs.Certificates.{GoesOn, Title, take_line}
use Rattle.certifier.proofs.Places.{front_line}
use Rattle.certifier.proofs.Reread.{accepted_behind}
use Rattle.certifier.proofs.RereadLines.{read, read-on}
use Rattle.certifier.proofs.Spots.{At, at_first, begins}

-- Behind a line that was set in front stand the lines of before.
behind_head : (names : List (List ℕ)) (tree : TreeView) (layout : Layout) (head line : List ℕ) (place : ℕ)
    → (carry carry2 : Carried) → LayoutLine names tree (headed head layout) (place + 1) carry line carry2
    → LayoutLine names tree layout place carry line carry2
behind_head names tree layout head line place carry carry2 (inl front) =
    let low = front.within in
    inl record {
      within = omega arith;
      known = record { at = rw (add-one place) at front.known.at; kept = front.known.kept };
    }
behind_head names tree layout head line place carry carry2 (inr (inl block)) =
    let at = block.place_is in
    inr (inl record {
      block = block.block;
      k = block.k;
      within = block.within;
      of_block = block.of_block;
      place_is = omega arith;
      told = block.told;
    })
behind_head names tree layout head line place carry carry2 (inr (inr back)) =
    let at = back.place_is in
    inr (inr record { j = back.j; within = back.within; place_is = omega arith; known = back.known })

-- The lines behind one that was set in front are the lines of before, from the first on.
tail_behind_head : (names : List (List ℕ)) (tree : TreeView) (layout : Layout) (head : List ℕ) (left place : ℕ)
    → (carry : Carried) (text : List ℕ)
    → Tail Carried (LayoutLine names tree (headed head layout)) left (place + 1) carry text
    → Tail Carried (LayoutLine names tree layout) left place carry text
tail_behind_head names tree layout head zero place carry text t = t
tail_behind_head names tree layout head (suc left) place carry text t = record {
  line = t.line;
  rest = t.rest;
  carry2 = t.carry2;
  is = behind_head names tree layout head t.line place carry t.carry2 t.is;
  joins = t.joins;
  on = tail_behind_head names tree layout head left (place + 1) t.carry2 t.rest t.on;
}

-- A text behind a line.
record IsBehind (names : List (List ℕ)) (tree : TreeView) (layout : Layout) (head text : List ℕ) : Type 0 where
  pub rest : List ℕ
  pub carry : Carried
  pub text_is : text ≡ head ++ rest
  pub at : At names tree layout 0 carry rest

-- A text with a line set in front is that line, and behind it the text of before.
head_and_text : (names : List (List ℕ)) (tree : TreeView) (layout : Layout) (head : List ℕ) (carry : Carried)
    → (text : List ℕ) → At names tree (headed head layout) 0 carry text → IsBehind names tree layout head text
head_and_text names tree layout head carry text at =
    let first = begins names tree (headed head layout) 0 carry text (omega arith) at in
    let known = front_line {layout = headed head layout} (omega arith) first.is in
    let behind = first.on in
    let size = behind.all in
    record {
      rest = first.rest;
      carry = first.carry2;
      text_is = first.joins ∙ ap (λ l. l ++ first.rest) known.at;
      at = record {
        left = behind.left;
        all = omega arith;
        tail = tail_behind_head names tree layout head behind.left 0 first.carry2 first.rest behind.tail;
      };
    }

-- The first line of a reply is passed over.
skipped : (head : List ℕ) → IsHead head → take_line 1 Title head ≡ GoesOn Title
skipped head is = of_kind (is_passed head) refl
  where
    of_kind : (passed : Bool) → is_passed head ≡ passed → take_line 1 Title head ≡ GoesOn Title
    of_kind true at = rw at refl
    of_kind false at = rw (at, is.reply, le-ltb MOST_LINE_BYTES (length head) is.short) refl

-- A reply that tells a certificate is accepted, whatever stands behind it.
pub reply_is_accepted : ReplyIsAccepted
reply_is_accepted sheet tree head text more ended is_head is same holds laid =
    let layout = certificate_layout sheet in
    let line = head ++ 10 ∷ [] in
    let behind = head_and_text sheet.names tree layout line laid.carry text
    (at_first sheet.names tree (headed line layout) laid) in
    let words : IsLineOf (line_words head) head =
    record { parts = refl; short = is_head.short; clean = is_head.clean } in
    let text_is : text ++ more ≡ head ++ 10 ∷ (behind.rest ++ more) =
    ap (λ t. t ++ more) behind.text_is ∙ append_assoc line behind.rest more
    ∙ append_assoc head (10 ∷ []) (behind.rest ++ more) in
    rw (ap (read ended 0 Title) text_is
    ∙ read-on ended 0 Title Title head (behind.rest ++ more) words (skipped head is_head))
    (accepted_behind 1 sheet tree behind.rest more ended is same holds (behind.carry, behind.at))
