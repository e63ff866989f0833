use Rattle.std.proofs.Common.{◌∙◌, ap, sym}
use Rattle.wires.proofs.Fronts.{rest_is, front_copied, rest_copied}
use Rattle.wires.specs.Memory.{Sure}
use Rattle.wires.proofs.sure.SureSourceSource.read.Goals as goal

pub returns-clause-bytes : goal.returns-clause-bytes
returns-clause-bytes c =
    let bytes = c.self.inside.bytes.items in
    let at = c.self.inside.at in
    let copied = c.copy_front-count in
    let rest = rest_is c.deref.result.now bytes at c.deref.ensures.value in (
      ap (λ (s : Sure). s.left) (sym c.self.view_is)
          ∙ front_copied bytes _ _ at copied.result rest copied.ensures.front,
      rest_copied bytes _ at copied.result _ rest copied.ensures.count,
    )
