-- Flows, and the sets of routers that they fill.
use Rattle.std.specs.Prelude.{◌≡◌, ◌≢◌, ◌⊎◌, ◌<ℤ◌, neg_ℤ, ℕ, ◌<◌, ◌≤◌, ℤ}
use Rattle.std.specs.Prelude.{pos, ◌+ℤ◌, ◌-ℤ◌, nat_abs, ◌==◌, true, List, [], ◌∷◌, if◌then◌else◌}
use Rattle.cut_model.specs.declared.network.Link.{Link}
use Rattle.cut_model.specs.Net.{Net}
use Rattle.cut_model.specs.Cuts.{RouterSet, across}

-- What router r sends into a link that carries x from its end a to its end b.
abbrev pub sends : ℕ → Link → ℤ → ℤ
sends r link x = (if link.a == r then x else pos 0) -ℤ (if link.b == r then x else pos 0)

-- What router r sends out over all links together, less what it takes in.
abbrev pub out : ℕ → List Link → List ℤ → ℤ
out r [] flow = pos 0
out r (link ∷ links) [] = pos 0
out r (link ∷ links) (x ∷ flow) = sends r link x +ℤ out r links flow

-- Each link has one flow, which is at most its capacity in either direction.
abbrev pub IsWithinCaps : List Link → List ℤ → Type 0
IsWithinCaps [] [] = Unit {0}
IsWithinCaps [] (x ∷ flow) = ⊥
IsWithinCaps (link ∷ links) [] = ⊥
IsWithinCaps (link ∷ links) (x ∷ flow) = (nat_abs x ≤ link.cap) × IsWithinCaps links flow

-- A flow of k from s to t: within the capacities, kept at every other router, and k out of s.
pub record IsFlow (net : Net) (s t : ℕ) (flow : List ℤ) (k : ℕ) : Type 0 where
  pub differ_ends : s ≢ t
  pub within : IsWithinCaps net.links flow
  pub kept : (r : ℕ) → r < net.routers → r ≢ s → r ≢ t → out r net.links flow ≡ pos 0
  pub sent : out s net.links flow ≡ pos k

-- What a link that carries x takes out of a set: x where its end a alone is in, -x where its end b alone is.
abbrev pub carried : RouterSet → Link → ℤ → ℤ
carried X link x = (if X link.a then x else pos 0) -ℤ (if X link.b then x else pos 0)

-- Each link that leaves the set carries its whole capacity out of it.
abbrev pub IsFull : RouterSet → List Link → List ℤ → Type 0
IsFull X [] flow = Unit {0}
IsFull X (link ∷ links) [] = ⊥
IsFull X (link ∷ links) (x ∷ flow) = (carried X link x ≡ pos (across X link)) × IsFull X links flow

-- One link, which carries x, could carry more from u to v.
abbrev pub LinkLeads : Link → ℤ → ℕ → ℕ → Type 0
LinkLeads link x u v =
    ((link.a ≡ u) × (link.b ≡ v) × (x <ℤ pos link.cap)) ⊎ ((link.b ≡ u) × (link.a ≡ v) × (neg_ℤ x <ℤ pos link.cap))

-- Some link could carry more from u to v.
abbrev pub Leads : List Link → List ℤ → ℕ → ℕ → Type 0
Leads [] flow u v = ⊥
Leads (link ∷ links) [] u v = ⊥
Leads (link ∷ links) (x ∷ flow) u v = LinkLeads link x u v ⊎ Leads links flow u v

-- No link could carry more out of the set.
abbrev pub IsClosed : RouterSet → List Link → List ℤ → Type 0
IsClosed X links flow = (u v : ℕ) → X u ≡ true → Leads links flow u v → X v ≡ true

-- A chain of links that could carry more leads from s to a router.
pub data Reaches (links : List Link) (flow : List ℤ) (s : ℕ) : ℕ → Type 0 where
  here : Reaches links flow s s
  on : {u v : ℕ} → Reaches links flow s u → Leads links flow u v → Reaches links flow s v
