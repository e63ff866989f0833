-- Whether what is kept of a tree is whole tells whether a router still has no edge.
use Rattle.std.proofs.Common.{◌≡◌, ◌+◌, ℕ, Bool, true, false, not, length, map, sym, ◌∙◌, ap}
use Rattle.std.proofs.lemmas.List.{length-map}
use Rattle.std.specs.Prelude.{nat_lt}
use Rattle.certifier.specs.Kept.{IsKept, KeptTree, is_whole_tree, kept_edge, kept_of}
use Rattle.certifier.specs.Trees.{Told}

-- what a truth value is, by what it is turned
turned : (b whole : Bool) → not b ≡ whole → b ≡ not whole
turned true whole e = ap not e
turned false whole e = ap not e

-- a router has no edge where the tree isn't whole
pub left-told : (told : Told) (kept : KeptTree) (whole : Bool) → IsKept told kept → whole ≡ is_whole_tree kept
    → nat_lt (length told.edges + 1) told.sheet.net.routers ≡ not whole
left-told told kept whole is e =
    ap (λ (k : ℕ). nat_lt (k + 1) told.sheet.net.routers) (sym (length-map told.edges kept_edge))
    ∙ turned (nat_lt (length (map kept_edge told.edges) + 1) told.sheet.net.routers) whole
    (sym (e ∙ ap is_whole_tree is))
