use Rattle.std.proofs.Common.{◌≡◌, ◌-◌, ◌∙◌, sym, zero, length, arith}
use Rattle.std.specs.Prelude.{◌==◌, slice_index}
use Rattle.std.proofs.lemmas.Bool.{eq-eqb, ne_eqb}
use Rattle.tree_state.proofs.Forest.{some_up-zero}
use Rattle.certifier.proofs.Climbs.{some_up-rest}
use Rattle.certifier.proofs.ways.comes_to.Goals as goal

pub returns-then-above-root : goal.returns-then-above-root
returns-then-above-root c =
    let rest = some_up-rest (λ j. j == c.args.root) (slice_index c.args.up.now) (length c.args.up.now) c.loop.counter
    c.loop.above (omega (arith, c.loop-test.true, c.loop.auto.counter-end)) in
    sym (rw (eq-eqb c.loop.above c.args.root (omega (arith, c.if-above-root.true))) at rest)
    ∙ c.loop.invariant.alike

pub loop-preserved : goal.loop-preserved
loop-preserved c =
    let rest = some_up-rest (λ j. j == c.args.root) (slice_index c.args.up.now) (length c.args.up.now) c.loop.counter
    c.loop.above (omega (arith, c.loop-test.true, c.loop.auto.counter-end)) in
    record {
      within = c.requires.routers.within c.loop.above c.loop.invariant.within;
      steps = omega (arith, c.loop-test.true, c.loop.auto.counter-end);
      alike =
          sym (rw (ne_eqb c.loop.above c.args.root (λ e. omega (arith, e, c.if-above-root.false))) at rest)
          ∙ c.loop.invariant.alike;
    }

pub returns : goal.returns
returns c =
    let none : length c.args.up.now - c.loop.counter ≡ zero
    = omega (arith, c.loop-test.false, c.loop.auto.counter-end) in
    sym (some_up-zero (λ j. j == c.args.root) (slice_index c.args.up.now) c.loop.above)
    ∙ rw none at c.loop.invariant.alike
