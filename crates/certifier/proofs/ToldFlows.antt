-- What WITNESS tells are flows.
use Rattle.std.proofs.Common.{◌≡◌, ℕ, suc, ◌+◌, ◌*◌, ◌<◌, List, [], ◌∷◌, ◌++◌, length, map, codes, refl, sym, ap}
use Rattle.std.proofs.Common.{◌∙◌, arith, append_assoc, length-append, subst, add-one, get_or}
use Rattle.std.proofs.Math.Seq.{get_or-append_seam}
use Rattle.std.proofs.lemmas.List.{append-nil}
use Rattle.std.specs.List.{concat}
use Rattle.std.specs.Prelude.{ℤ, pos, slice_index, slice_index_or}
use Rattle.reply_lines.specs.Tails.{BeginsLine}
use Rattle.tree_state.specs.Views.{TreeView}
use Rattle.certifier.specs.Accepting.{TellsFlows, WitnessTellsFlows}
use Rattle.certifier.specs.Blocks.{BlockLine, Carried, LayoutLine, block_place, block_size}
use Rattle.certifier.specs.Blocks.{edge_text, on_text, witness_layout}
use Rattle.certifier.proofs.Places.{before_back, block_line, next_block}
use Rattle.certifier.proofs.RereadBlocks.{flow_length}
use Rattle.certifier.proofs.Spots.{At, at_first, begins}

module _ (names : List (List ℕ)) (tree : TreeView) (children : List ℕ) where
  abbrev place_in : ℕ → ℕ → ℕ
  place_in = block_place tree.net (witness_layout children)

  abbrev AtPlace : ℕ → Carried → List ℕ → Type 0
  AtPlace = At names tree (witness_layout children)

  -- The line of a place of a block begins a text.
  block_begins : (b k : ℕ) (place : ℕ) (carry : Carried) (text : List ℕ) → b < length children
      → k < block_size tree.net → place ≡ place_in b k → AtPlace place carry text
      → BeginsLine Carried (λ _. BlockLine (codes "flow") names tree (slice_index children b) k) place carry text
      (AtPlace (place + 1))
  block_begins b k place carry text within low here at =
      let before = before_back tree.net (witness_layout children) b k within low in
      let first = begins names tree (witness_layout children) place carry text (omega arith) at in
      record {
        line = first.line;
        rest = first.rest;
        carry2 = first.carry2;
        is = block_line {layout = witness_layout children} b k within low
            (subst (λ p. LayoutLine names tree (witness_layout children) p carry first.line first.carry2) here
            first.is);
        joins = first.joins;
        on = first.on;
      }

  -- What is told of a flow behind some of its values, and then the next block.
  record TellsRest (b : ℕ) (behind : List ℤ) (text : List ℕ) : Type 0 where
    pub rest : List ℕ
    pub carry : Carried
    pub text_is : text ≡ concat (map on_text behind) ++ rest
    pub at : AtPlace (place_in (suc b) 0) carry rest

  tells_rest : (b : ℕ) (front behind : List ℤ) (place : ℕ) (carry : Carried) (text : List ℕ) → b < length children
      → carry.flow ≡ front ++ behind → length front + length behind ≡ length tree.net.links
      → place ≡ place_in b (suc (length front)) → AtPlace place carry text → TellsRest b behind text
  tells_rest b front [] place carry text within split all here at =
      let whole : length front ≡ length tree.net.links = omega arith in
      let next : place ≡ place_in (suc b) 0 =
      here ∙ ap (λ n. place_in b n) (ap (λ n. suc n) whole ∙ sym (add-one (length tree.net.links)))
      ∙ next_block tree.net (witness_layout children) b in
      record { rest = text; carry = carry; text_is = refl; at = subst (λ p. AtPlace p carry text) next at }
  tells_rest b front (x ∷ behind) place carry text within split all here at =
      let inside : suc (length front) < block_size tree.net = omega arith in
      let first = block_begins b (suc (length front)) place carry text within inside here at in
      let value : slice_index_or carry.flow (length front) (pos 0) ≡ x =
      ap (λ f. get_or f (length front) (pos 0)) split ∙ get_or-append_seam front x behind (pos 0) in
      let line : first.line ≡ on_text x = first.is.0 ∙ ap on_text value in
      let size : length (front ++ x ∷ []) ≡ suc (length front) =
      length-append front (x ∷ []) ∙ add-one (length front) in
      let follows : AtPlace (place + 1) carry first.rest =
      subst (λ c. AtPlace (place + 1) c first.rest) first.is.1 first.on in
      let later = tells_rest b (front ++ x ∷ []) behind (place + 1) carry first.rest within
      (split ∙ sym (append_assoc front (x ∷ []) behind)) (omega (arith, size)) (omega (arith, here, size))
      follows in
      record {
        rest = later.rest;
        carry = later.carry;
        text_is = first.joins ∙ ap (λ l. l ++ first.rest) line ∙ ap (λ t. on_text x ++ t) later.text_is
            ∙ sym (append_assoc (on_text x) (concat (map on_text behind)) later.rest);
        at = later.at;
      }

  -- The blocks of these routers, which stand behind others, tell flows.
  flows_from : (front behind : List ℕ) (place : ℕ) (carry : Carried) (text : List ℕ) → children ≡ front ++ behind
      → place ≡ place_in (length front) 0 → AtPlace place carry text
      → TellsFlows names tree behind text
  flows_from front [] place carry text split here at =
      let all : length children ≡ length front = ap (λ cs. length cs) (split ∙ append-nil front) in
      let size = at.all in
      let none : at.left ≡ 0 = omega (arith, here, ap (λ n. n * block_size tree.net) all) in
      record { flows = []; are = tt; text_is = rw none at at.tail }
  flows_from front (child ∷ behind) place carry text split here at =
      let b = length front in
      let count : length children ≡ length front + length (child ∷ behind) =
      ap (λ cs. length cs) split ∙ length-append front (child ∷ behind) in
      let within : b < length children = omega arith in
      let child_is : slice_index children b ≡ child =
      ap (λ cs. slice_index cs b) split ∙ get_or-append_seam front child behind 0 in
      let first = block_begins b 0 place carry text within (omega arith) here at in
      let is : BlockLine (codes "flow") names tree child 0 carry first.line first.carry2 =
      rw child_is at first.is in
      let flow = first.carry2.flow in
      let size = flow_length tree.net.links flow is.1.flow.within in
      let values = tells_rest b [] flow (place + 1) first.carry2 first.rest within refl (omega arith)
      (omega (arith, here)) first.on in
      let more : length (front ++ child ∷ []) ≡ suc b = length-append front (child ∷ []) ∙ add-one b in
      let later = flows_from (front ++ child ∷ []) behind (place_in (suc b) 0) values.carry values.rest
      (split ∙ sym (append_assoc front (child ∷ []) behind)) (ap (λ n. place_in n 0) (sym more)) values.at in
      let told = concat (map on_text flow) in
      record {
        flows = flow ∷ later.flows;
        are = (is.1.flow, later.are);
        text_is = first.joins ∙ ap (λ l. l ++ first.rest) is.0
            ∙ ap (λ t. edge_text (codes "flow") names tree child ++ t)
            (values.text_is ∙ ap (λ t. told ++ t) later.text_is);
      }

-- What a witness tells are flows.
pub told_flows : WitnessTellsFlows
told_flows names tree children text laid =
    flows_from names tree children [] children 0 laid.carry text refl (omega arith)
    (at_first names tree (witness_layout children) laid)
