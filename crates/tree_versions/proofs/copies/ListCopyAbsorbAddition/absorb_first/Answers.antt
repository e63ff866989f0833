use Rattle.std.proofs.Common.{◌≡◌, ◌+◌, ◌-◌, ◌++◌, ◌∷◌, ◌∙◌, List, [], Some, ap, arith, length, rules, slice_get}
use Rattle.std.specs.Arc.{arc_value}
use Rattle.tree_versions.proofs.Fronts.{Grows-one}
use Rattle.tree_versions.proofs.Views.{views-push}
use Rattle.tree_versions.proofs.copies.ListCopyAbsorbAddition.absorb_first.Goals as goal
use Rattle.tree_versions.specs.Records.{RecordView}
use Rattle.tree_versions.specs.Solo.{views_of}

pub invariant_of-self : goal.invariant_of-self
invariant_of-self g c =
    let old : List RecordView = c.self.inside.front in
    let new : List RecordView = c.operation.inside.front in
    let log : List RecordView = c.longer-begins.result in
    let added : RecordView = arc_value c.in-Some.added in
    let size : length new ≡ length old + 1 = omega (arith, c.len.ensures.count, c.len-2.ensures.count) in
    let at : length new - 1 ≡ length old = omega arith in
    let last : slice_get new (length old) ≡ Some added = rw at at (rw c.in-Some.is at c.operation.invariant) in
    let grown : new ≡ old ++ added ∷ [] =
    Grows-one old new log added c.longer-begins.ensures.this c.longer-begins.ensures.that size last in
    let pushed = ap views_of c.push_reserved.ensures.items
    ∙ views-push c.self.inside.records.items c.in_ok-added.added in
    let kept = c.self.invariant.0 in
    let again = c.again.ensures in
    let same : arc_value c.in_ok-added.added ≡ added = search rules in
    (cc, search rules)
