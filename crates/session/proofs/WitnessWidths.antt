-- No edge that a witness tells is less wide than the least cut of its two routers.
use Rattle.std.proofs.Common.{ℕ, ◌⊎◌, List, inl, inr, subst}
use Rattle.std.proofs.lemmas.List.Elements.{Contains-append_cases}
use Rattle.std.specs.Prelude.{Contains}
use Rattle.cut_model.specs.Net.{Net}
use Rattle.path_minimum.specs.Paths.{IsOrderedPath}
use Rattle.session.specs.Laws.{WitnessIsNoLessThanCut}
use Rattle.tree_state.specs.Paths.{IsOnPath}
use Rattle.tree_state.specs.Tables.{Table}

-- each edge of a path is on it
path_on : (net : Net) (up : Table) (a b : ℕ) (children : List ℕ) → IsOrderedPath net up a b children → (c : ℕ)
    → Contains children c → IsOnPath net up a b c
path_on net up a b children path c has =
    of_part (Contains-append_cases path.front path.behind c (subst (λ (cs : List ℕ). Contains cs c) path.joins has))
  where
    of_part : Contains path.front c ⊎ Contains path.behind c → IsOnPath net up a b c
    of_part (inl front) = ((path.front_is c).0 front).on_path
    of_part (inr behind) = ((path.behind_is c).0 behind).on_path

-- so none is less wide than the least one, whose width CUT tells
pub witness_is_no_less : WitnessIsNoLessThanCut
witness_is_no_less seen version a b witness cut shown least = record {
  children = shown.children;
  path = shown.path;
  told = shown.told;
  value = _;
  side = least.side;
  cut_told = least.text_is;
  no_less = λ c has. least.least_edge.least c (path_on _ _ a b shown.children shown.path c has);
}
