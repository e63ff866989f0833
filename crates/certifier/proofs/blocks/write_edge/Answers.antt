use Rattle.std.proofs.Common.{◌∙◌, ap, arith, subst, sym}
use Rattle.cut_model.specs.Net.{Net}
use Rattle.tree_state.specs.Views.{up_of, width_of}
use Rattle.certifier.specs.Lines.{IsLowerEnd}
use Rattle.certifier.proofs.BlockLines.{carries_made}
use Rattle.certifier.proofs.Lengths.{length-words_text}
use Rattle.certifier.proofs.blocks.write_edge.Goals as goal

pub write_words-requires-clause-child : goal.write_words-requires-clause-child
write_words-requires-clause-child g c = omega (arith, c.requires.child.within, c.net.ensures.sheet.numbered)

pub write_words-requires-clause-up : goal.write_words-requires-clause-up
write_words-requires-clause-up g c =
    let same = ap (λ (net : Net). net.routers) c.requires.same in
    omega (arith, c.up-up.ensures.within, same, c.net.ensures.sheet.numbered)

pub returns-clause-carried : goal.returns-clause-carried
returns-clause-carried g c =
    let tree = c.args.finished.now.tree in
    let child = c.args.child in
    let net = c.deref-2.ensures ∙ c.net-2.ensures.value in
    let lower = subst (λ (n : Net). IsLowerEnd n child) (sym c.requires.same) c.requires.child in
    carries_made tree child c.put_flow.new.self c.net-2.ensures.tree lower (c.put_flow.ensures.net ∙ net)
    (λ X k least. rw (net, c.up-up.ensures.value) at c.put_flow.ensures.flow X k least)

pub returns-clause-short : goal.returns-clause-short
returns-clause-short g c =
    let tree = c.args.finished.now.tree in
    let child = c.args.child in
    let short = length-words_text c.args.word.now c.args.sheet.now.names child (up_of tree child) (width_of tree child)
    c.requires.word c.net.ensures.sheet.named (omega (arith, c.width.ensures.value, c.width.ensures.most)) in
    omega (arith, short)
