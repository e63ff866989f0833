-- The edges that are laid out of a record lead up from routers below the root.
use Rattle.std.proofs.Common.{◌≡◌, ℕ, ◌-◌, ◌<◌, All, Bool, true, List, length, sym, ◌∙◌, ap, arith, subst}
use Rattle.std.proofs.Common.{inl, inr}
use Rattle.std.proofs.Common.{◌⊎◌, Some}
use Rattle.std.proofs.lemmas.Bool.{false≢true}
use Rattle.std.proofs.lemmas.List.Elements.{All-from_get_or, Contains-append_cases, Contains-get_or}
use Rattle.std.specs.Prelude.{Contains, slice_index_or}
use Rattle.certifier.proofs.Fronts.{length-routers_but, router_but-lower, routers_but-at}
use Rattle.certifier.specs.Blocks.{Layout, routers_but}
use Rattle.certifier.specs.Lines.{IsLowerEnd}
use Rattle.cut_model.proofs.Terminals.{terminal-lt}
use Rattle.cut_model.specs.Cuts.{differ}
use Rattle.cut_model.specs.Net.{Net}
use Rattle.cut_model.specs.Terminals.{IsTerminal, root_of}
use Rattle.path_minimum.specs.Paths.{IsOrderedPath}
use Rattle.query_lang.specs.Requests.{IsOf}
use Rattle.query_lang.specs.declared.request.Request.{Request}
use Rattle.query_lang.specs.declared.request.Request.TheVariants.{Bye, Certificate, Cut, Load, Net as NetAsked}
use Rattle.query_lang.specs.declared.request.Request.TheVariants.{Nothing, Path}
use Rattle.query_lang.specs.declared.request.Request.TheVariants.{Run, Tree, Weakest, Witness}
use Rattle.session.specs.Reporting.{IsSound, LaysOut, LaysReport}
use Rattle.tree_state.proofs.Climbing.{meets_root_from}
use Rattle.tree_state.proofs.Trees.{hung_of}
use Rattle.tree_state.specs.Paths.{IsOnPath}
use Rattle.tree_state.specs.Tables.{below}
use Rattle.tree_state.specs.Views.{HoldsCutTree, TreeView, up_of, width_of}
use Rattle.tree_versions.specs.Records.{RecordView, tree_of}

module _ (tree : TreeView) (cuts : HoldsCutTree tree) where
  -- each router is below the root
  below_root : (r : ℕ) → r < tree.net.routers → below tree.net.routers (up_of tree) (root_of tree.net) r ≡ true
  below_root r low =
      meets_root_from tree.net (root_of tree.net) (up_of tree)
      (hung_of tree.net (root_of tree.net) (up_of tree) (width_of tree) cuts) r low (cuts.up_is r low)

  -- so the root is on no path
  on_path_lower : (a b c : ℕ) → IsTerminal tree.net a → IsTerminal tree.net b → IsOnPath tree.net (up_of tree) a b c
      → IsLowerEnd tree.net c
  on_path_lower a b c a_is b_is on = record {
    within = terminal-lt tree.net c on.terminal;
    not_root = λ e.
        let n = tree.net.routers in
        let none : differ true true ≡ true =
        ap (λ (x : Bool). differ x true) (sym (below_root a (terminal-lt tree.net a a_is)))
        ∙ ap (differ (below n (up_of tree) (root_of tree.net) a)) (sym (below_root b (terminal-lt tree.net b b_is)))
        ∙ subst (λ (r : ℕ). differ (below n (up_of tree) r a) (below n (up_of tree) r b) ≡ true) e on.parting in
        false≢true none;
  }

  -- and each edge of a path has a lower end
  pub path_lower : (a b : ℕ) (children : List ℕ) → IsTerminal tree.net a → IsTerminal tree.net b
      → IsOrderedPath tree.net (up_of tree) a b children → All (IsLowerEnd tree.net) children
  path_lower a b children a_is b_is path = λ k d low. of_part (slice_index_or children k d)
      (Contains-append_cases path.front path.behind (slice_index_or children k d)
      (subst (λ (cs : List ℕ). Contains cs (slice_index_or children k d)) path.joins
      (Contains-get_or children k d low)))
    where
      of_part : (c : ℕ) → Contains path.front c ⊎ Contains path.behind c → IsLowerEnd tree.net c
      of_part c (inl front) = on_path_lower a b c a_is b_is ((path.front_is c).0 front).on_path
      of_part c (inr behind) = on_path_lower a b c a_is b_is ((path.behind_is c).0 behind).on_path

-- So has each edge of a certificate,
certificate_lower : (net : Net) → All (IsLowerEnd net) (routers_but (root_of net) net.routers)
certificate_lower net = All-from_get_or (IsLowerEnd net) (routers_but (root_of net) net.routers) 0
    (λ k low. let within : k < net.routers - 1 = omega (arith, low, length-routers_but (root_of net) net.routers) in
    subst (IsLowerEnd net) (sym (routers_but-at (root_of net) net.routers k within)) (router_but-lower net k within))

-- and where no edge is told, each of these.
report_lower : (seen : RecordView) (version : ℕ) (request : Request) (layout : Layout)
    → LaysReport seen version request layout → All (IsLowerEnd seen.sheet.net) layout.children
report_lower seen version request layout p = λ k d low.
    absurd (let none = ap (λ (l : Layout). length l.children) p.is in omega (arith, none, low))

-- So each edge that is laid out has a lower end.
pub lays_lower : (seen : RecordView) → IsSound seen → (version : ℕ) (request : Request) (layout : Layout)
    → IsOf (Some seen.sheet) request → LaysOut seen version request layout
    → All (IsLowerEnd seen.sheet.net) layout.children
lays_lower seen sound version (Witness a b) layout of p =
    subst (λ (l : Layout). All (IsLowerEnd seen.sheet.net) l.children) (sym p.is)
    (path_lower (tree_of seen) sound.cuts a b p.children of.1 of.2 p.path)
lays_lower seen sound version Certificate layout of p =
    subst (λ (l : Layout). All (IsLowerEnd seen.sheet.net) l.children) (sym p) (certificate_lower seen.sheet.net)
lays_lower seen sound version (Cut a b) layout of p = report_lower seen version (Cut a b) layout p
lays_lower seen sound version (Path a b) layout of p = report_lower seen version (Path a b) layout p
lays_lower seen sound version Tree layout of p = report_lower seen version Tree layout p
lays_lower seen sound version Run layout of p = report_lower seen version Run layout p
lays_lower seen sound version NetAsked layout of p = report_lower seen version NetAsked layout p
lays_lower seen sound version Weakest layout of p = report_lower seen version Weakest layout p
lays_lower seen sound version Nothing layout of p = report_lower seen version Nothing layout p
lays_lower seen sound version Load layout of p = report_lower seen version Load layout p
lays_lower seen sound version Bye layout of p = report_lower seen version Bye layout p
