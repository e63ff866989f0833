use Rattle.std.proofs.Common.{◌∙◌, bytes_eq}
use Rattle.std.proofs.lemmas.Bool.{eq-eqb, ne_eqb}
use Rattle.network_text.proofs.SameNames.{names_equal}
use Rattle.network_text.proofs.name.NamePartialEq.eq.Goals as goal

pub returns-then-self-other : goal.returns-then-self-other
returns-then-self-other c =
    let same = names_equal _ _ _ _ c.self.invariant c.other.invariant in
    c.eq.ensures ∙ rw (eq-eqb _ _ c.if-self-other.true) at same
    ∙ (λ i. bytes_eq (c.self.view_is i) (c.other.view_is i))

pub returns-else-self-other : goal.returns-else-self-other
returns-else-self-other c =
    let same = names_equal _ _ _ _ c.self.invariant c.other.invariant in
    let differ = ne_eqb _ _ c.if-self-other.false in
    differ ∙ rw differ at same ∙ (λ i. bytes_eq (c.self.view_is i) (c.other.view_is i))
