use Rattle.std.proofs.Common.{ap, sym, ◌∙◌, arith, rules}
use Rattle.wires.proofs.Fronts.{rest_is, front_copied}
use Rattle.wires.specs.LazyMemory.{LazyState}
use Rattle.wires.proofs.memory_lazy_peer.MemoryLazyPeerLazyPeer.read_now.Goals as goal

pub returns-clause-tells : goal.returns-clause-tells
returns-clause-tells c =
    let bytes = c.self.inside.bytes.items in
    let at = c.self.inside.at in
    let copied = c.copy_front-count in
    let rest = rest_is c.deref-3.result.now bytes at c.deref-3.ensures.value in
    let gone = ap (λ (p : LazyState). p.left) (sym c.self.view_is)
    ∙ front_copied bytes _ _ at copied.result rest copied.ensures.front in record {
      bytes = (record { fits = omega (arith, copied.ensures.count); some = search rules }, gone);
      met = search rules;
      stays = search rules;
      written = search rules;
    }
