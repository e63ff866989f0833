-- Two ways up, the second turned round, are a path in its order.
use Rattle.std.proofs.Common.{◌≡◌, inl, inr, ℕ, ◌+◌, ◌<◌, true, List, ◌++◌, length, map, reverse, take, drop}
use Rattle.std.proofs.Common.{sym, subst, arith, refl}
use Rattle.std.specs.Prelude.{◌==◌, Contains, All}
use Rattle.std.specs.List.Sorted.{IsStrictlyIncreasing}
use Rattle.std.proofs.lemmas.Bool.{eq-eqb, eqb-true}
use Rattle.std.proofs.lemmas.List.{reverse-reverse, length-append, length-reverse, take_at, drop_at}
use Rattle.std.proofs.lemmas.List.Elements.{Contains-append_cases, All-contains_itself, All-weaker}
use Rattle.std.proofs.lemmas.List.Folds.{list_any_at}
use Rattle.std.proofs.lemmas.List.Sorted.{Contains-permutation, IsPermutation-reverse}
use Rattle.std.proofs.lemmas.Map.Views.{Contains-from_any}
use Rattle.cut_model.specs.Net.{Net}
use Rattle.cut_model.specs.Terminals.{IsTerminal}
use Rattle.cut_model.proofs.Terminals.{terminal-lt}
use Rattle.tree_state.specs.Views.{TreeView, up_of, HoldsCutTree}
use Rattle.tree_state.proofs.Trees.{Tree}
use Rattle.path_minimum.specs.Depths.{depth_of}
use Rattle.path_minimum.specs.Paths.{size_below, IsOnPathAbove, IsOrderedPath}
use Rattle.path_minimum.specs.Walks.{way_between, IsMeeting}
use Rattle.path_minimum.proofs.Depths.{tree_in, depth_of-lt}
use Rattle.path_minimum.proofs.PathSteps.{on_path-turned}
use Rattle.path_minimum.proofs.Ways.{among, way, way-on_path, on_path-way, meeting-turned, meeting-above}
use Rattle.path_minimum.proofs.Ways.{length-way_between}
use Rattle.path_minimum.proofs.SizesBelow.{way-rises, meeting-short}

-- ---- members

-- what is contained is a member
pub among-contained : (xs : List ℕ) (c : ℕ) → Contains xs c → among xs c ≡ true
among-contained xs c found = list_any_at (λ j. j == c) xs found.0 c found.1 (eq-eqb _ c found.2)

-- and a member is contained
pub contains-among : (xs : List ℕ) (c : ℕ) → among xs c ≡ true → Contains xs c
contains-among xs c inside = Contains-from_any {eq = λ x y. y == x} (λ x y h. sym (eqb-true y x h)) c xs inside

-- a list turned round has the same numbers
pub contains-turned : (xs : List ℕ) (c : ℕ) → Contains xs c → Contains (reverse xs) c
contains-turned xs c found = Contains-permutation xs (reverse xs) c (IsPermutation-reverse xs) found

-- so what it has is in the list
pub contains-turned_back : (xs : List ℕ) (c : ℕ) → Contains (reverse xs) c → Contains xs c
contains-turned_back xs c found =
    subst (λ (ys : List ℕ). Contains ys c) (reverse-reverse xs) (contains-turned (reverse xs) c found)

-- ---- the path

-- in a tree whose routers hang from terminals
ordered : (net : Net) (t : Tree net) → ((i : ℕ) → i < net.routers → IsTerminal net (t.up i)) → (a b m : ℕ)
    → IsTerminal net a → IsTerminal net b → IsMeeting net t.up a b m
    → IsOrderedPath net t.up a b (way net t a m ++ reverse (way net t b m))
ordered net t ups a b m a_is b_is meeting = record {
  front = way net t a m;
  behind = reverse (way net t b m);
  joins = refl;
  front_is = λ c. (
    λ found. way-on_path net t a b m c a_is meeting (among-contained (way net t a m) c found),
    λ on_path. contains-among (way net t a m) c (on_path-way net t a b m c a_is meeting on_path),
  );
  behind_is = λ c. (
    λ found. turned b a c (way-on_path net t b a m c b_is meeting_back
        (among-contained (way net t b m) c (contains-turned_back (way net t b m) c found))),
    λ on_path. contains-turned (way net t b m) c (contains-among (way net t b m) c
        (on_path-way net t b a m c b_is meeting_back (turned a b c on_path))),
  );
  front_grows = way-rises net t ups m (t.depth a) a a_is (omega arith) (meeting-above net t a b m meeting);
  behind_falls = subst (λ (ws : List ℕ). IsStrictlyIncreasing (map (size_below net.routers t.up) ws))
      (sym (reverse-reverse (way net t b m)))
      (way-rises net t ups m (t.depth b) b b_is (omega arith) (meeting-above net t b a m meeting_back));
}
  where
    meeting_back : IsMeeting net t.up b a m
    meeting_back = meeting-turned net t.up a b m meeting

    turned : (x y c : ℕ) → IsOnPathAbove net t.up x y b c → IsOnPathAbove net t.up y x b c
    turned x y c on_path = record {
      on_path = on_path-turned net t x y c on_path.on_path;
      holds = on_path.holds;
    }

-- in a cut tree
pub path-ordered : (tree : TreeView) → HoldsCutTree tree → (a b m : ℕ) → IsTerminal tree.net a
    → IsTerminal tree.net b → IsMeeting tree.net (up_of tree) a b m
    → IsOrderedPath tree.net (up_of tree) a b (way_between tree a m ++ reverse (way_between tree b m))
unfolding way_between way
path-ordered tree holds a b m a_is b_is meeting =
    ordered tree.net (tree_in tree holds) holds.up_is a b m a_is b_is meeting

-- ---- how long it is, and what is on it

-- the two ways are shorter together than there are routers
pub ways-short : (tree : TreeView) → HoldsCutTree tree → (a b m : ℕ) → IsMeeting tree.net (up_of tree) a b m
    → depth_of tree a + depth_of tree b < tree.net.routers + depth_of tree m
ways-short tree holds a b m meeting = meeting-short tree.net (tree_in tree holds) a b m meeting

-- so is the path
pub length-path : (tree : TreeView) → HoldsCutTree tree → (a b m : ℕ) → IsMeeting tree.net (up_of tree) a b m
    → length (way_between tree a m ++ reverse (way_between tree b m)) < tree.net.routers
length-path tree holds a b m meeting = omega (
  arith,
  length-append (way_between tree a m) (reverse (way_between tree b m)),
  length-reverse (way_between tree b m),
  length-way_between tree a m,
  length-way_between tree b m,
  ways-short tree holds a b m meeting,
  depth_of-lt tree holds m,
)

-- the routers of a path are routers of the network
pub path-within : (net : Net) (up : ℕ → ℕ) (a b : ℕ) (children : List ℕ) → IsOrderedPath net up a b children
    → All (λ c. c < net.routers) children
path-within net up a b children path =
    subst (All (λ (c : ℕ). c < net.routers)) (sym path.joins)
    (All-weaker (Contains (path.front ++ path.behind)) (λ c. c < net.routers) within (path.front ++ path.behind)
    (All-contains_itself (path.front ++ path.behind)))
  where
    within : (c : ℕ) → Contains (path.front ++ path.behind) c → c < net.routers
    within c found = elim (Contains-append_cases path.front path.behind c found) [
      | inl before ↦ terminal-lt net c ((path.front_is c).0 before).on_path.terminal
      | inr after ↦ terminal-lt net c ((path.behind_is c).0 after).on_path.terminal
    ]

-- two ways, of which what stands behind the first is turned round, are the first and the second turned round
pub turned-behind : (way back : List ℕ)
    → take (length way) (way ++ back) ++ reverse (drop (length way) (way ++ back)) ≡ way ++ reverse back
turned-behind way back =
    rw (take_at way back (length way) refl, drop_at way back (length way) refl) refl
