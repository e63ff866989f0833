use Rattle.std.proofs.Common.{◌≡◌, ℕ, ◌<◌, ◌==◌, ◌+◌, ◌*◌, subst, ◌∙◌, refl, arith}
use Rattle.std.specs.Int.{bit_at}
use Rattle.cut_model.specs.Cuts.{set_of}
use Rattle.tree_state.proofs.Words.{word_more, empty_more}
use Rattle.tree_state.proofs.tables.move_children.Goals as goal
use Rattle.tree_state.proofs.tables.move_children.Goals.{then-word-ne0, else-word-ne0}

pub loop-place-init : goal.loop-place-init
loop-place-init c = record { moved = λ k low within. absurd (omega arith); rest = λ k high. refl }

pub loop-place-preserved : goal.loop-place-preserved
loop-place-preserved c = elim c.if-word-ne0.branch [
  | then-word-ne0 w ↦
      rw w.up-is (word_more _ c.loop-place.place c.loop-place.up w.move_in_word.new.up c.loop-place.invariant (record {
        word = c.word-word.result;
        bits = c.word-word.ensures;
        len = w.move_in_word.auto.up ∙ c.loop-place.auto.up;
        step = w.move_in_word.ensures;
      }))
  | else-word-ne0 w ↦
      let bits : (i : ℕ) → i < 64 → (bit_at 0 i == 1) ≡ set_of c.args.side.now (64 * c.loop-place.place + i) =
      subst (λ (word : ℕ). (i : ℕ) → i < 64 →
      (bit_at word i == 1) ≡ set_of c.args.side.now (64 * c.loop-place.place + i))
      w.if-word-ne0.false c.word-word.ensures in
      rw w.up-is (empty_more _ c.loop-place.place c.loop-place.up c.loop-place.invariant bits)
]

pub returns : goal.returns
returns c = λ i within. c.loop-place.invariant.moved i (omega arith) (omega arith)
