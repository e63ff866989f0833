use Rattle.std.proofs.Common.{rules, ◌≡◌, ℕ, ◌<◌, List, Bool, [], ◌∷◌, ◌++◌}
use Rattle.std.proofs.Common.{set, replicate, false, true, ap, subst, ◌∙◌}
use Rattle.cut_model.specs.Net.{Net}
use Rattle.cut_model.specs.Terminals.{root_of}
use Rattle.path_minimum.proofs.Drafting.{drafted-root}
use Rattle.path_minimum.proofs.walk.Draft.begin.Goals as goal

pub returns : goal.returns
returns c =
    let tree = c.args.finished.now.tree in
    let root = root_of tree.net in
    let top : c.root-root.result ≡ root = c.root-root.ensures.value in
    let routers : c.routers-routers.result ≡ tree.net.routers =
    c.routers-routers.ensures.value ∙ ap (λ (net : Net). net.routers) (c.deref.ensures ∙ c.net.ensures.value) in
    let order : c.push_reserved.new.self.items ≡ root ∷ [] =
    c.push_reserved.ensures.items
    ∙ ap (λ (xs : List ℕ). xs ++ c.root-root.result ∷ []) c.in_ok-order.ensures.items
    ∙ ap (λ (r : ℕ). r ∷ []) top in
    let placed : c.put.new.self ≡ set (replicate tree.net.routers false) root true =
    c.put.ensures ∙ ap (λ (xs : List Bool). set xs c.root-root.result true) c.empty-placed.ensures
    ∙ ap (λ (n : ℕ). set (replicate n false) c.root-root.result true) routers
    ∙ ap (λ (r : ℕ). set (replicate tree.net.routers false) r true) top in
    let hints : c.in_ok-vec.field-0.items ≡ replicate tree.net.routers 0 =
    search rules ∙ ap (λ (n : ℕ). replicate n 0) routers in
    rw (order, placed, hints)
    (drafted-root tree c.net.ensures.tree (subst (λ (r : ℕ). r < tree.net.routers) top c.root-root.ensures.within))
