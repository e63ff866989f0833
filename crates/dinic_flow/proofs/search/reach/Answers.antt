-- A head over an open arc is the next router, and there is room for it.
use Rattle.std.proofs.Common.{◌≡◌, ℕ, ◌<◌, Bool, false, sym, ◌∙◌, arith, inl, inr}
use Rattle.std.specs.Prelude.{◌↔◌, IsTrue}
use Rattle.std.proofs.lemmas.Bool.{cases_eq, false≢true}
use Rattle.residual_graph.specs.Arcs.{tail_of, turned}
use Rattle.dinic_flow.specs.Levels.{IsOpen}
use Rattle.dinic_flow.specs.Balls.{search_of, reached_of}
use Rattle.dinic_flow.proofs.Walks.{open-left}
use Rattle.dinic_flow.proofs.Entering.{known-few, labelled-grown, grows-one}
use Rattle.dinic_flow.proofs.Rounds.{place-leads, place-next}
use Rattle.dinic_flow.proofs.search.reach.Goals as goal

-- What doesn't have a label has the label 0.
bare : (has : Bool) (label : ℕ) → (IsTrue has ↔ (0 < label)) → has ≡ false → label ≡ 0
bare has label is not = elim (cases_eq label 0) [
  | inl none ↦ none
  | inr some ↦ absurd (false≢true (sym not ∙ is.1 (omega (arith, some))))
]

pub offset_bounds-queue-known : goal.offset_bounds-queue-known
offset_bounds-queue-known g c =
    let few =
    known-few c.requires.labelled c.args.place.head c.requires.place.below
    (bare c.has.result _ c.has.ensures c.if-has.false) in
    omega (arith, few, c.requires.limit)

pub bounds-queue-known : goal.bounds-queue-known
bounds-queue-known g c =
    let few =
    known-few c.requires.labelled c.args.place.head c.requires.place.below
    (bare c.has.result _ c.has.ensures c.if-has.false) in
    omega (arith, few, c.requires.queue)

pub overflow_add-result : goal.overflow_add-result
overflow_add-result g c =
    let few =
    known-few c.requires.labelled c.args.place.head c.requires.place.below
    (bare c.has.result _ c.has.ensures c.if-has.false) in
    omega (arith, few, c.requires.limit)

pub returns-clause-labelled : goal.returns-clause-labelled
returns-clause-labelled g c =
    let graph = c.args.graph.now in
    let none = bare c.has.result _ c.has.ensures c.if-has.false in
    let is_open : IsOpen graph c.args.threshold (turned c.args.back c.args.place.arc) =
    open-left c.args.threshold c.left_along.result _ c.left_along.ensures.value
    (omega (arith, c.if-left_along-threshold.false)) in
    let few = known-few c.requires.labelled c.args.place.head c.requires.place.below none in
    rw c.set.ensures (labelled-grown (search_of graph c.args.threshold) c.args.back
    (reached_of c.args.label.now c.args.queue.now c.args.known) c.requires.labelled
    (tail_of graph.net c.args.place.arc) c.args.place.head c.args.next
    (place-next (search_of graph c.args.threshold) c.args.back c.args.label.now c.args.place c.args.next
    c.requires.place
    is_open c.requires.label c.requires.tail c.requires.level none)
    (omega (arith, few, c.requires.queue)))

pub returns-clause-grows : goal.returns-clause-grows
returns-clause-grows g c =
    let graph = c.args.graph.now in
    let none = bare c.has.result _ c.has.ensures c.if-has.false in
    let is_open : IsOpen graph c.args.threshold (turned c.args.back c.args.place.arc) =
    open-left c.args.threshold c.left_along.result _ c.left_along.ensures.value
    (omega (arith, c.if-left_along-threshold.false)) in
    let few = known-few c.requires.labelled c.args.place.head c.requires.place.below none in
    rw c.set.ensures (grows-one (search_of graph c.args.threshold) c.args.back
    (reached_of c.args.label.now c.args.queue.now c.args.known) c.requires.labelled
    (tail_of graph.net c.args.place.arc) c.args.place.head c.args.next
    (place-next (search_of graph c.args.threshold) c.args.back c.args.label.now c.args.place c.args.next
    c.requires.place
    is_open c.requires.label c.requires.tail c.requires.level none)
    (omega (arith, few, c.requires.queue)))

pub returns-then-has-2-clause-crosses : goal.returns-then-has-2-clause-crosses
returns-then-has-2-clause-crosses g c = λ _.
    let graph = c.args.graph.now in
    let is_open : IsOpen graph c.args.threshold (turned c.args.back c.args.place.arc) =
    open-left c.args.threshold c.left_along.result _ c.left_along.ensures.value
    (omega (arith, c.if-left_along-threshold.false)) in
    record {
      to = c.args.place.head;
      leads = place-leads (search_of graph c.args.threshold) c.args.back c.args.place c.requires.place is_open;
      marked = c.has-2.ensures.0 c.if-has-2.true;
    }
