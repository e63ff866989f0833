use Rattle.std.proofs.Common.{◌++◌, take, drop, length, ap, ◌∙◌, refl, arith}
use Rattle.residual_graph.specs.Fills.{HasCaps}
use Rattle.residual_graph.specs.Touched.{Touches}
use Rattle.residual_graph.proofs.Reading.{sound_of}
use Rattle.residual_graph.proofs.Stored.{undone_view, undone_stored, written}
use Rattle.residual_graph.proofs.residual.Residual.undo.Goals as goal

-- what is left is the whole capacity of each link
restored : (c : goal.After-clear) → HasCaps (take c.self.inside.links c.self.inside.kept.items)
    (take c.self.inside.left.len (c.restore.new.left ++ drop (length c.restore.new.left) c.self.inside.left.items))
restored c =
    let same = written c.self.inside.left.len c.restore.new.left
    (drop (length c.restore.new.left) c.self.inside.left.items)
    (omega (arith, c.restore.auto.left, c.deref_mut.ensures.len)) in
    rw (same, ← c.deref.ensures.value) c.restore.ensures

pub returns-clause-value : goal.returns-clause-value
returns-clause-value c =
    undone_view _ _ c.clear.new.self c.args.self.now c.self.view_is (restored c)

pub invariant_of-self : goal.invariant_of-self
invariant_of-self c =
    let same = written c.self.inside.left.len c.restore.new.left
    (drop (length c.restore.new.left) c.self.inside.left.items)
    (omega (arith, c.restore.auto.left, c.deref_mut.ensures.len)) in
    undone_stored c.self.invariant _ c.clear.new.self
    (ap length same ∙ c.restore.auto.left ∙ ap length c.deref_mut.ensures.value)
    (restored c) (ap (λ (t : Touches). t.links) c.clear.ensures)

pub returns-clause-sound : goal.returns-clause-sound
returns-clause-sound c = sound_of (invariant_of-self c) _ refl
