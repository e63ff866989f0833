use Rattle.std.proofs.Common.{◌<◌, ◌∙◌, ap, sym, arith}
use Rattle.wires.proofs.Fronts.{rest_is, front_copied, end_copied}
use Rattle.wires.specs.Memory.{Supply}
use Rattle.wires.proofs.memory.MemorySourceSource.read.Goals as goal

pub returns-clause-bytes : goal.returns-clause-bytes
returns-clause-bytes c =
    let bytes = c.self.inside.bytes.items in
    let at = c.self.inside.at in
    let copied = c.copy_front-count in
    let rest = rest_is c.deref-2.result.now bytes at c.deref-2.ensures.value in
    let some : 0 < c.self.inside.piece = omega arith in (
      ap (λ (s : Supply). s.left) (sym c.self.view_is)
          ∙ front_copied bytes _ _ at copied.result rest copied.ensures.front,
      end_copied bytes _ at copied.result _ _ rest copied.ensures.count some,
    )
