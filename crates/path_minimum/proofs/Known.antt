-- Which depths are known while they are noted.
use Rattle.std.proofs.Common.{◌≡◌, inl, inr, suc, ℕ, ◌<◌, true, false, Bool, List, length, slice_index}
use Rattle.std.proofs.Common.{◌∙◌, sym, ap, arith}
use Rattle.std.specs.Prelude.{replicate}
use Rattle.std.proofs.Math.ListN.{set}
use Rattle.std.proofs.lemmas.List.{length-set, get_or-set_same, get_or-set_other, length-replicate, get_or-replicate}
use Rattle.std.proofs.lemmas.Bool.{cases_eq, false≢true}
use Rattle.cut_model.specs.Cuts.{set_of}
use Rattle.cut_model.specs.Terminals.{root_of}
use Rattle.tree_state.specs.Views.{TreeView, up_of, HoldsCutTree}
use Rattle.tree_state.proofs.Decided.{put_in, put_stays}
use Rattle.path_minimum.specs.Depths.{depth_of}
use Rattle.path_minimum.specs.Walks.{AreKnown}
use Rattle.path_minimum.proofs.Depths.{depth_of-root, depth_of-suc}

-- one more router is known, with its depth
pub known-more : (tree : TreeView) (known : List Bool) (depths : List ℕ) (at depth : ℕ) → at < tree.net.routers
    → depth ≡ depth_of tree at → AreKnown tree known depths
    → AreKnown tree (set known at true) (set depths at depth)
known-more tree known depths at depth low is before = record {
  marks = length-set known at true ∙ before.marks;
  places = length-set depths at depth ∙ before.places;
  root = put_stays known at (root_of tree.net) (omega (arith, before.marks)) before.root;
  depth_is = λ c within inside. elim (cases_eq c at) [
    | inl here ↦ ap (slice_index (set depths at depth)) here
        ∙ get_or-set_same depths at depth 0 (omega (arith, before.places))
        ∙ is
        ∙ ap (depth_of tree) (sym here)
    | inr other ↦ get_or-set_other depths at c depth 0 other
        ∙ before.depth_is c within (sym (get_or-set_other known at c true false other) ∙ inside)
  ];
}

-- at first the root alone is known
pub known-root : (tree : TreeView) (depths : List ℕ) → HoldsCutTree tree → root_of tree.net < tree.net.routers
    → length depths ≡ tree.net.routers
    → AreKnown tree (set (replicate tree.net.routers false) (root_of tree.net) true) (set depths (root_of tree.net) 0)
known-root tree depths holds low places = record {
  marks = length-set none root true ∙ length-replicate tree.net.routers false;
  places = length-set depths root 0 ∙ places;
  root = put_in none root (omega (arith, length-replicate tree.net.routers false));
  depth_is = λ c within inside. elim (cases_eq c root) [
    | inl here ↦ ap (slice_index (set depths root 0)) here
        ∙ get_or-set_same depths root 0 0 (omega (arith, places))
        ∙ sym (ap (depth_of tree) here ∙ depth_of-root tree holds)
    | inr other ↦ absurd (false≢true (sym (get_or-set_other none root c true false other
        ∙ get_or-replicate tree.net.routers c false false within) ∙ inside))
  ];
}
  where
    root : ℕ
    root = root_of tree.net

    none : List Bool
    none = replicate tree.net.routers false

-- a router that isn't known is one deeper than the router above it, as the root is known
pub depth-unknown : (tree : TreeView) (known : List Bool) (depths : List ℕ) (at : ℕ) → HoldsCutTree tree
    → AreKnown tree known depths → at < tree.net.routers → set_of known at ≡ false
    → depth_of tree at ≡ suc (depth_of tree (up_of tree at))
depth-unknown tree known depths at holds before low unknown =
    depth_of-suc tree holds at low (λ e. false≢true (sym unknown ∙ (ap (set_of known) e ∙ before.root)))
