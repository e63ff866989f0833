-- The blocks of a written certificate are taken one after the other, and its tree is accepted.
use Rattle.std.proofs.Common.{◌≡◌, ℕ, zero, suc, ◌+◌, ◌-◌, ◌*◌, ◌≤◌, ◌<◌, List, [], ◌∷◌, ◌++◌, Bool, length}
use Rattle.std.proofs.Common.{codes, refl, sym, ap, ◌∙◌, arith, append_assoc, length-append, get_or, add-one, subst}
use Rattle.std.proofs.Math.Seq.{get_or-append_seam}
use Rattle.std.proofs.lemmas.Bool.{lt-ltb}
use Rattle.std.proofs.lemmas.List.{append-nil}
use Rattle.std.proofs.lemmas.List.FromFn.{get_or-map-range_with_len, length-map-range_with_len}
use Rattle.std.specs.Prelude.{ℤ, pos, nat_abs, slice_index, slice_index_or}
use Rattle.cut_model.specs.Flow.{IsFlow, IsWithinCaps}
use Rattle.cut_model.specs.Net.{IsLink, Net}
use Rattle.cut_model.specs.Terminals.{root_of}
use Rattle.cut_model.specs.declared.network.Link.{Link}
use Rattle.cut_model.specs.declared.network.TheConstants.{MOST_CAPACITY}
use Rattle.cut_model.proofs.Terminals.{root-lt}
use Rattle.network_text.specs.Sheets.{SheetView}
use Rattle.reply_lines.specs.Tails.{KnownLine}
use Rattle.tree_state.specs.Tables.{Table}
use Rattle.tree_state.specs.Views.{TreeView, up_of, width_of}
use Rattle.tree_state.specs.declared.entry.Entry.{Entry}
use Rattle.certifier.specs.Accepting.{AcceptsTree}
use Rattle.certifier.specs.Blocks.{BlockLine, Carried, CarriesFlow, LayoutLine, back_place, block_place, block_size}
use Rattle.certifier.specs.Blocks.{certificate_layout, edge_text, layout_size, on_text, router_but}
use Rattle.certifier.specs.Certificates.{Between, Verdict, Within, link_at, take_flow, verdict_by}
use Rattle.certifier.specs.Trees.{Edge}
use Rattle.certifier.proofs.Places.{back_line, before_back, block_line, next_block}
use Rattle.certifier.proofs.RereadEdges.{IsChild, Shows, child_is, edge_at, edge_front, edge_line, on_front, on_line}
use Rattle.certifier.proofs.RereadEdges.{router_but-low, router_but-other, take-edge, take-value, take-whole, told_by}
use Rattle.certifier.proofs.RereadLines.{read, read-line}
use Rattle.certifier.proofs.Spots.{At as AtSpot, begins}
use Rattle.certifier.proofs.RereadTree.{AreEdges, HasAll, IsEdge, edges_more, read-done}

-- ---- flows and lines

-- A flow has a value for each link,
pub flow_length : (links : List Link) (flow : List ℤ) → IsWithinCaps links flow → length flow ≡ length links
flow_length [] [] within = refl
flow_length [] (x ∷ flow) within = absurd within
flow_length (link ∷ links) [] within = absurd within
flow_length (link ∷ links) (x ∷ flow) within = ap (λ n. suc n) (flow_length links flow within.1)

-- which the link takes.
flow_fits : (links : List Link) (flow : List ℤ) (i : ℕ) (d : Link) → IsWithinCaps links flow → i < length links
    → nat_abs (get_or flow i (pos 0)) ≤ (get_or links i d).cap
flow_fits [] flow i d within low = absurd (omega arith)
flow_fits (link ∷ links) [] i d within low = absurd within
flow_fits (link ∷ links) (x ∷ flow) zero d within low = within.0
flow_fits (link ∷ links) (x ∷ flow) (suc i) d within low = flow_fits links flow i d within.1 (omega arith)

-- What is written of an edge is its line.
edge_text-front : (names : List (List ℕ)) (tree : TreeView) (c : ℕ)
    → edge_text (codes "edge") names tree c ≡ edge_front names (up_of tree) (width_of tree) c ++ 10 ∷ []
edge_text-front names tree c = simp append_assoc

-- A line stands before what follows it.
written_line : (text line rest more front : List ℕ) → text ≡ line ++ rest → line ≡ front ++ 10 ∷ []
    → text ++ more ≡ front ++ 10 ∷ (rest ++ more)
written_line text line rest more front joins is =
    let flat : ((front ++ 10 ∷ []) ++ rest) ++ more ≡ front ++ 10 ∷ (rest ++ more) = simp append_assoc in
    ap (λ t. t ++ more) (joins ∙ ap (λ l. l ++ rest) is) ∙ flat

-- ---- what is given

-- The tree of a history over the network of a sheet.
abbrev pub tree_on : SheetView → List Entry → TreeView
tree_on sheet history = record { net = sheet.net; history = history }

-- A cut tree of the network of a sheet, whether the input ends behind the text, and what stands there.
pub record Given : Type 0 where
  pub sheet : SheetView
  pub history : List Entry
  pub shows : Shows sheet (up_of (tree_on sheet history)) (width_of (tree_on sheet history))
  pub ended : Bool
  pub more : List ℕ

module _ (g : Given) where
  abbrev net : Net
  net = g.sheet.net

  abbrev tree : TreeView
  tree = tree_on g.sheet g.history

  abbrev up : Table
  up = up_of tree

  abbrev width : Table
  width = width_of tree

  abbrev Line : ℕ → Carried → List ℕ → Carried → Type 0
  Line = LayoutLine g.sheet.names tree (certificate_layout g.sheet)

  abbrev place_in : ℕ → ℕ → ℕ
  place_in = block_place net (certificate_layout g.sheet)

  abbrev Accepted : Verdict → Type 0
  Accepted = AcceptsTree g.sheet up width

  -- The text tells the lines of the certificate from a place on.
  abbrev At : ℕ → Carried → List ℕ → Type 0
  At = AtSpot g.sheet.names tree (certificate_layout g.sheet)

  some : root_of net < net.routers
  some = root-lt net g.shows.is.limits

  -- There is a block for each router but the root,
  children-length : length (certificate_layout g.sheet).children ≡ net.routers - 1
  children-length = length-map-range_with_len (router_but (root_of net)) 0 (net.routers - 1)

  -- in number order.
  child_at : (b : ℕ) → b + 1 < net.routers
      → slice_index (certificate_layout g.sheet).children b ≡ router_but (root_of net) b
  child_at b within =
      get_or-map-range_with_len (router_but (root_of net)) 0 (net.routers - 1) b b 0 (omega arith) (omega arith)

  -- That router has an edge.
  child_known : (b : ℕ) → b + 1 < net.routers → IsChild g.sheet up width (router_but (root_of net) b)
  child_known b within =
      child_is g.shows (router_but (root_of net) b) (router_but-low (root_of net) b net.routers some within)
      (router_but-other (root_of net) b)

  -- ---- what may stand where

  -- So many blocks are left, and with what was told before the tree is accepted.
  abbrev pub Rest : ℕ → Type 0
  Rest q = (edges : List Edge) (seen place : ℕ) (carry : Carried) (text : List ℕ)
      → AreEdges (root_of net) up width edges → length edges + q + 1 ≡ net.routers → 0 < seen
      → place ≡ place_in (length edges) 0 → At place carry text
      → Accepted (read g.ended seen (Between (told_by g.sheet edges)) (text ++ g.more))

  -- The values of an edge's flow up to here, and those behind.
  pub record AtValue (edges : List Edge) (edge : Edge) (behind : List ℤ) (carry : Carried) : Type 0 where
    pub are : AreEdges (root_of net) up width edges
    pub few : length edges + 1 < net.routers
    pub is : IsEdge up width edge
    pub next : edge.child ≡ router_but (root_of net) (length edges)
    pub carries : CarriesFlow tree edge.child carry
    pub split : carry.flow ≡ edge.flow ++ behind

  -- The line of the next value leads on.
  value_taken : (edges : List Edge) (edge : Edge) (x : ℤ) (behind : List ℤ) (carry : Carried)
      → AtValue edges edge (x ∷ behind) carry
      → (length edge.flow < length net.links) × (nat_abs x ≤ (link_at net (length edge.flow)).cap)
      × (nat_abs x ≤ MOST_CAPACITY) × (slice_index_or carry.flow (length edge.flow) (pos 0) ≡ x)
  value_taken edges edge x behind carry at =
      let within = at.carries.flow.within in
      let sizes = flow_length net.links carry.flow within in
      let all : length carry.flow ≡ length edge.flow + length (x ∷ behind) =
      ap (λ f. length f) at.split ∙ length-append edge.flow (x ∷ behind) in
      let low : length edge.flow < length net.links = omega arith in
      let value : get_or carry.flow (length edge.flow) (pos 0) ≡ x =
      ap (λ f. get_or f (length edge.flow) (pos 0)) at.split ∙ get_or-append_seam edge.flow x behind (pos 0) in
      let nothing : Link = record { a = 0; b = 0; cap = 0 } in
      let fits : nat_abs x ≤ (link_at net (length edge.flow)).cap =
      rw value at (flow_fits net.links carry.flow (length edge.flow) nothing within low) in
      let link : IsLink net.routers (link_at net (length edge.flow)) =
      g.shows.is.limits.within (length edge.flow) nothing low in
      let most = link.cap in (low, fits, omega arith, value)

  -- A flow is whole, and the next block begins.
  flow_whole : (q : ℕ) (edges : List Edge) (edge : Edge) (carry : Carried) (seen place : ℕ) (text : List ℕ) → Rest q
      → length edges + suc q + 1 ≡ net.routers → 0 < seen → AtValue edges edge [] carry
      → place ≡ place_in (length edges) (suc (length edge.flow)) → At place carry text
      → Accepted (verdict_by (take_flow (told_by g.sheet edges) edge) seen
      (λ stage. read g.ended seen stage (text ++ g.more)))
  flow_whole q edges edge carry seen place text next all later value at_place at =
      let flow_is : edge.flow ≡ carry.flow = sym (value.split ∙ append-nil edge.flow) in
      let whole : length edge.flow ≡ length net.links =
      ap (λ f. length f) flow_is ∙ flow_length net.links carry.flow value.carries.flow.within in
      let flow : IsFlow net edge.child edge.up edge.flow edge.width =
      rw (value.is.up_is, value.is.width_is, flow_is) value.carries.flow in
      let more : length (edges ++ edge ∷ []) ≡ suc (length edges) =
      length-append edges (edge ∷ []) ∙ add-one (length edges) in
      let here : place ≡ place_in (length (edges ++ edge ∷ [])) 0 =
      at_place ∙ ap (λ n. place_in (length edges) n) (ap (λ n. suc n) whole ∙ sym (add-one (length net.links)))
      ∙ next_block net (certificate_layout g.sheet) (length edges) ∙ ap (λ b. place_in b 0) (sym more) in
      rw (take-whole (told_by g.sheet edges) edge flow whole)
      (next (edges ++ edge ∷ []) seen place carry text (edges_more edge value.are value.is value.next)
      (omega (arith, more)) later here at)

  -- The values of a flow are taken one after the other, and then the next block begins.
  values : (q : ℕ) (edges : List Edge) (edge : Edge) (behind : List ℤ) (carry : Carried) (seen place : ℕ)
      → (text : List ℕ) → Rest q → length edges + suc q + 1 ≡ net.routers → 0 < seen → AtValue edges edge behind carry
      → place ≡ place_in (length edges) (suc (length edge.flow)) → At place carry text
      → Accepted (verdict_by (take_flow (told_by g.sheet edges) edge) seen
      (λ stage. read g.ended seen stage (text ++ g.more)))
  values q edges edge [] carry seen place text next all later value at_place at =
      flow_whole q edges edge carry seen place text next all later value at_place at
  values q edges edge (x ∷ behind) carry seen place text next all later value at_place at =
      let taken = value_taken edges edge x behind carry value in
      let told = told_by g.sheet edges in
      let longer : Edge = record edge { flow = edge.flow ++ x ∷ [] } in
      let size : length (edge.flow ++ x ∷ []) ≡ suc (length edge.flow) =
      length-append edge.flow (x ∷ []) ∙ add-one (length edge.flow) in
      let within : length edges < length (certificate_layout g.sheet).children =
      omega (arith, children-length, value.few) in
      let inside : suc (length edge.flow) < block_size net = let low = taken.0 in omega arith in
      let low : place < layout_size net (certificate_layout g.sheet) =
      omega (
        arith,
        at_place,
        before_back net (certificate_layout g.sheet) (length edges) (suc (length edge.flow)) within inside,
      ) in
      let first = begins g.sheet.names tree (certificate_layout g.sheet) place carry text low at in
      let is : BlockLine (codes "edge") g.sheet.names tree
      (slice_index (certificate_layout g.sheet).children (length edges)) (suc (length edge.flow)) carry first.line
      first.carry2 =
      block_line (length edges) (suc (length edge.flow)) within inside
      (subst (λ p. Line p carry first.line first.carry2) at_place first.is) in
      let line : first.line ≡ on_front x ++ 10 ∷ [] = is.0 ∙ ap on_text taken.3 in
      let after : AtValue edges longer behind carry = record {
        are = value.are;
        few = value.few;
        is = record { up_is = value.is.up_is; width_is = value.is.width_is };
        next = value.next;
        carries = value.carries;
        split = value.split ∙ sym (append_assoc edge.flow (x ∷ []) behind);
      } in
      let here : place + 1 ≡ place_in (length edges) (suc (length longer.flow)) = omega (arith, at_place, size) in
      let follows : At (place + 1) carry first.rest =
      subst (λ c. At (place + 1) c first.rest) is.1 first.on in
      let text_is = written_line text first.line first.rest g.more (on_front x) first.joins line in
      rw (lt-ltb (length edge.flow) (length net.links) taken.0)
      (rw (ap (read g.ended seen (Within told edge)) text_is
      ∙ read-line g.ended seen (Within told edge) (on_front x) (first.rest ++ g.more) (on_line x taken.2)
      ∙ ap (λ t. verdict_by t (seen + 1) (λ stage. read g.ended (seen + 1) stage (first.rest ++ g.more)))
      (take-value (seen + 1) told edge x (λ e. omega arith) taken.1 taken.2))
      (values q edges longer behind carry (seen + 1) (place + 1) first.rest next all (omega arith) after here follows))

  -- Behind the last block the last line is read.
  no_block : (edges : List Edge) (seen place : ℕ) (carry : Carried) (text : List ℕ)
      → AreEdges (root_of net) up width edges → length edges + 0 + 1 ≡ net.routers → 0 < seen
      → place ≡ place_in (length edges) 0 → At place carry text
      → Accepted (read g.ended seen (Between (told_by g.sheet edges)) (text ++ g.more))
  no_block edges seen place carry text are all later at_place at =
      let count : length (certificate_layout g.sheet).children ≡ length edges = omega (arith, children-length) in
      let behind : place ≡ back_place net (certificate_layout g.sheet) + 0 =
      omega (arith, at_place, ap (λ n. n * block_size net) count) in
      let first = begins g.sheet.names tree (certificate_layout g.sheet) place carry text (omega arith) at in
      let known : KnownLine Carried (certificate_layout g.sheet).back 0 carry first.line first.carry2 =
      back_line 0 (omega arith) (subst (λ p. Line p carry first.line first.carry2) behind first.is) in
      let text_is = written_line text first.line first.rest g.more (codes "DONE") first.joins known.at in
      let has : HasAll g.sheet up width edges = record { shows = g.shows; are = are; all = omega arith } in
      rw (ap (read g.ended seen (Between (told_by g.sheet edges))) text_is)
      (read-done has g.ended seen (first.rest ++ g.more) later)

  -- The first line of a block is taken, and then its values.
  block : (q : ℕ) (edges : List Edge) (seen place : ℕ) (carry : Carried) (text : List ℕ) → Rest q
      → AreEdges (root_of net) up width edges → length edges + suc q + 1 ≡ net.routers → 0 < seen
      → place ≡ place_in (length edges) 0 → At place carry text
      → Accepted (read g.ended seen (Between (told_by g.sheet edges)) (text ++ g.more))
  block q edges seen place carry text next are all later at_place at =
      let b = length edges in
      let few : b + 1 < net.routers = omega arith in
      let told = told_by g.sheet edges in
      let child = router_but (root_of net) b in
      let known = child_known b few in
      let within : b < length (certificate_layout g.sheet).children = omega (arith, children-length) in
      let low : place < layout_size net (certificate_layout g.sheet) =
      omega (arith, at_place, before_back net (certificate_layout g.sheet) b 0 within (omega arith)) in
      let first = begins g.sheet.names tree (certificate_layout g.sheet) place carry text low at in
      let told_line : BlockLine (codes "edge") g.sheet.names tree
      (slice_index (certificate_layout g.sheet).children b) 0 carry first.line first.carry2 =
      block_line b 0 within (omega arith) (subst (λ p. Line p carry first.line first.carry2) at_place first.is) in
      let is : (first.line ≡ edge_text (codes "edge") g.sheet.names tree child) × CarriesFlow tree child first.carry2 =
      rw (child_at b few) at told_line in
      let line = is.0 ∙ edge_text-front g.sheet.names tree child in
      let edge = edge_at (seen + 1) up width child [] in
      let start : AtValue edges edge first.carry2.flow first.carry2 = record {
        are = are;
        few = few;
        is = record { up_is = refl; width_is = refl };
        next = refl;
        carries = is.1;
        split = refl;
      } in
      let here : place + 1 ≡ place_in b (suc (length edge.flow)) = omega (arith, at_place) in
      let front = edge_front g.sheet.names up width child in
      let text_is = written_line text first.line first.rest g.more front first.joins line in
      rw (ap (read g.ended seen (Between told)) text_is
      ∙ read-line g.ended seen (Between told) front (first.rest ++ g.more) (edge_line g.shows.is known)
      ∙ ap (λ t. verdict_by t (seen + 1) (λ stage. read g.ended (seen + 1) stage (first.rest ++ g.more)))
      (take-edge (seen + 1) edges g.shows.is known (λ e. omega arith) few refl))
      (values q edges edge first.carry2.flow first.carry2 (seen + 1) (place + 1) first.rest next all
      (omega arith) start here first.on)

  -- All blocks are taken, and then the last line.
  pub read-blocks : (q : ℕ) → Rest q
  read-blocks zero edges seen place carry text are all later at_place at =
      no_block edges seen place carry text are all later at_place at
  read-blocks (suc q) edges seen place carry text are all later at_place at =
      block q edges seen place carry text (read-blocks q) are all later at_place at
