use Rattle.std.proofs.Common.{◌≤◌, List, ap, arith, length, subst}
use Rattle.tree_versions.proofs.Fronts.{prefix_shorter}
use Rattle.tree_versions.proofs.front.Front.longer.Goals as goal
use Rattle.tree_versions.specs.Records.{RecordView}
use mathlib.Core.List.{IsPrefix}

pub returns-then-self-other-clause-this : goal.returns-then-self-other-clause-this
returns-then-self-other-clause-this g c =
    let mine : List RecordView = c.self.inside.seen.log in
    let both : List RecordView = c.learn.new.self.log in
    let this : IsPrefix mine both =
    subst (λ (l : List RecordView). IsPrefix l both) (ap (λ s. s.log) c.again-both.ensures) c.learn.ensures.2 in
    let less : length mine ≤ length c.other.inside.seen.log =
    omega (arith, c.self.invariant.0, c.other.invariant.0) in
    rw (c.again.ensures, ← c.self.view_is, ← c.other.view_is) (prefix_shorter mine _ both this c.learn.ensures.3 less)

pub returns-clause-that : goal.returns-clause-that
returns-clause-that g c =
    let mine : List RecordView = c.self.inside.seen.log in
    let both : List RecordView = c.learn.new.self.log in
    let this : IsPrefix mine both =
    subst (λ (l : List RecordView). IsPrefix l both) (ap (λ s. s.log) c.again-both.ensures) c.learn.ensures.2 in
    let less : length c.other.inside.seen.log ≤ length mine =
    omega (arith, c.self.invariant.0, c.other.invariant.0) in
    rw (c.again-else-self-other.ensures, ← c.self.view_is, ← c.other.view_is)
    (prefix_shorter c.other.inside.seen.log mine both c.learn.ensures.3 this less)
