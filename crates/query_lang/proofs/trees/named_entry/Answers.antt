use Rattle.std.proofs.Common.{ap, arith, subst, sym}
use Rattle.cut_model.specs.Net.{Net, IsInLimits}
use Rattle.query_lang.proofs.Entries.{entry_within}
use Rattle.query_lang.proofs.trees.named_entry.Goals as goal

pub returns : goal.returns
returns c =
    let tree = c.args.subject.now.finished.now.tree in
    let sheet = c.net-2.ensures.sheet in
    let limits = subst IsInLimits (sym c.args.subject.now.same) sheet.limits in
    let entry = c.entry.result.now in
    let within = entry_within tree.net limits tree.history c.net.ensures.complete c.args.place entry c.entry.ensures in
    let routers = ap (λ (net : Net). net.routers) c.args.subject.now.same in
    record {
      value = c.entry.ensures;
      router = omega (arith, within.router, sheet.numbered, routers);
      neighbour = omega (arith, within.neighbour, sheet.numbered, routers);
    }
