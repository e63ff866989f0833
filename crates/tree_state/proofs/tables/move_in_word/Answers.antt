use Rattle.std.proofs.Common.{inl, inr, sym, ◌∙◌, slice_index, refl, arith}
use Rattle.std.proofs.lemmas.Bool.{cases_lt}
use Rattle.tree_state.proofs.Words.{moved_by-outside, moved_more}
use Rattle.tree_state.proofs.tables.move_in_word.Goals as goal

pub loop-i-init : goal.loop-i-init
loop-i-init c = record {
  moved = λ k low. sym (moved_by-outside c.args.place c.args.word c.args.s c.args.t (slice_index c.args.up.now) k
      (λ e. omega arith));
  rest = λ k high. refl;
}

pub loop-i-preserved : goal.loop-i-preserved
loop-i-preserved c =
    moved_more _ c.loop-i.i c.moved.result c.loop-i.up c.loop-i.invariant (omega arith) (omega arith) c.moved.ensures

pub returns : goal.returns
returns c = λ i within. elim (cases_lt i c.loop-i.i) [
  | inl low ↦ c.loop-i.invariant.moved i low
  | inr high ↦ c.loop-i.invariant.rest i high
      ∙ sym (moved_by-outside c.args.place c.args.word c.args.s c.args.t (slice_index c.args.up.now) i
      (λ e. omega arith))
]
