-- What lines of a certificate have told so far is sound: its network is a sheet, its edges are above the routers but
-- the root in number order, and with each comes a flow of its width.
use Rattle.std.proofs.Common.{◌≡◌, ◌≢◌, inl, inr, ℕ, ◌+◌, ◌<◌, ◌≤◌, Bool, true, false}
use Rattle.std.proofs.Common.{List, [], ◌∷◌, ◌++◌, Option, Some, None, Result, Ok, Err, length, map}
use Rattle.std.proofs.Common.{sym, ◌∙◌, ap, subst, refl, arith}
use Rattle.std.specs.Ordering.{int_eq}
use Rattle.std.specs.Prelude.{◌==◌, nat_lt, nat_abs, slice_index_or, ℤ, pos}
use Rattle.std.specs.Str.{bytes_eq}
use Rattle.std.proofs.lemmas.Bool.{cases_Bool, eqb-true, eqb-false, ne_eqb, ltb-true, ltb-false}
use Rattle.std.proofs.lemmas.Bool.Decides.{Decides-int_eq}
use Rattle.std.proofs.lemmas.List.{length-map, map-append}
use Rattle.std.proofs.lemmas.List.Quantifiers.{position-Some}
use Rattle.text_forms.specs.Lines.{fronts_of}
use Rattle.text_forms.specs.Numbers.{number_in}
use Rattle.cut_model.specs.Flow.{IsFlow, IsWithinCaps, out}
use Rattle.cut_model.specs.Net.{Net}
use Rattle.cut_model.specs.declared.network.Link.{Link}
use Rattle.network_text.specs.Sheets.{IsSheet, SheetView, number_of}
use Rattle.network_text.specs.Texts.{Draft, with_line}
use Rattle.network_text.specs.declared.fault.TextKind.{TextKind}
use Rattle.text_forms.specs.Words.{is_end}
use Rattle.certifier.specs.Blocks.{router_but}
use Rattle.certifier.specs.Certificates.{Stage, Title, Network, Root, Between, Within, Taken, GoesOn, Ends, Faulty}
use Rattle.certifier.specs.Certificates.{Verdict, Undecided, Refused, Accepted, costs_verdict, link_at, next_child}
use Rattle.certifier.specs.Certificates.{or_faulty, take_between, take_counted, take_done, take_drafted, take_edge}
use Rattle.certifier.specs.Certificates.{take_end, take_flow, take_line, take_network, take_on}
use Rattle.certifier.specs.Certificates.{take_root, take_routers}
use Rattle.certifier.specs.Certificates.{take_title, take_value, take_whole, tree_verdict, verdict_by}
use Rattle.certifier.specs.Certificates.{verdict_from, verdict_on}
use Rattle.certifier.specs.Forms.{edge_words, is_done, is_skipped, is_title, on_word, root_word, short_words}
use Rattle.certifier.specs.Forms.{signed_in}
use Rattle.certifier.specs.Kept.{AreNextFrom}
use Rattle.certifier.specs.Trees.{Edge, Told, all_end_at_root, costs_width, keeps_some, leaks, sends_width}
use Rattle.certifier.proofs.Keeping.{next_more}
use Rattle.certifier.proofs.Ranges.{each_fails_from}
use Rattle.certifier.proofs.SoundDrafts.{IsSoundDraft, no_draft-sound, sheet_from-sound, with_line-sound}

-- ---- what is sound

-- The lower ends of edges.
abbrev pub told_children : List Edge → List ℕ
told_children edges = map (λ edge. edge.child) edges

-- The flow of an edge is one from its lower end to the router above, as great as the edge is wide.
pub record IsSoundEdge (net : Net) (edge : Edge) : Type 0 where
  pub up_is : edge.up < net.routers
  pub flow : IsFlow net edge.child edge.up edge.flow edge.width

-- Each edge has its flow.
abbrev pub AreSoundEdges : Net → List Edge → Type 0
AreSoundEdges net [] = Unit {0}
AreSoundEdges net (edge ∷ edges) = IsSoundEdge net edge × AreSoundEdges net edges

-- A sheet, a root, and edges above the other routers, in number order, each with its flow.
pub record IsSoundTold (told : Told) : Type 0 where
  pub sheet : IsSheet told.sheet.names told.sheet.net
  pub root_is : told.root < told.sheet.net.routers
  pub children : AreNextFrom told.root 0 (told_children told.edges)
  pub edges : AreSoundEdges told.sheet.net told.edges

-- The values of the first links are within the capacities.
abbrev pub KeepsCaps : List Link → List ℤ → Type 0
KeepsCaps [] [] = Unit {0}
KeepsCaps (link ∷ links) [] = Unit {0}
KeepsCaps [] (x ∷ flow) = ⊥
KeepsCaps (link ∷ links) (x ∷ flow) = (nat_abs x ≤ link.cap) × KeepsCaps links flow

-- An edge above the next router, as far as its flow has come.
pub record IsSoundSoFar (told : Told) (edge : Edge) : Type 0 where
  pub child_is : edge.child ≡ next_child told
  pub up_is : edge.up < told.sheet.net.routers
  pub other : edge.up ≢ edge.child
  pub caps : KeepsCaps told.sheet.net.links edge.flow

-- What the lines so far have told.
abbrev pub IsSoundStage : Stage → Type 0
IsSoundStage Title = Unit {0}
IsSoundStage (Network draft) = IsSoundDraft draft
IsSoundStage (Root sheet) = IsSheet sheet.names sheet.net
IsSoundStage (Between told) = IsSoundTold told
IsSoundStage (Within told edge) =
    IsSoundTold told × IsSoundSoFar told edge × (length edge.flow < length told.sheet.net.links)

-- What a line does: at the last one, each router but the root has its edge.
abbrev pub IsSoundTaken : Taken → Type 0
IsSoundTaken (GoesOn stage) = IsSoundStage stage
IsSoundTaken (Ends told) = IsSoundTold told × (told.sheet.net.routers ≤ length told.edges + 1)
IsSoundTaken (Faulty fault) = Unit {0}

-- ---- flows

-- within the capacities with one value more
caps-more : (links : List Link) (flow : List ℤ) (value : ℤ) (d : Link) → KeepsCaps links flow
    → length flow < length links → nat_abs value ≤ (slice_index_or links (length flow) d).cap
    → KeepsCaps links (flow ++ value ∷ [])
caps-more [] flow value d caps low fits = absurd (omega arith)
caps-more (link ∷ []) [] value d caps low fits = (fits, tt)
caps-more (link ∷ next ∷ links) [] value d caps low fits = (fits, tt)
caps-more (link ∷ links) (x ∷ flow) value d caps low fits =
    (caps.0, caps-more links flow value d caps.1 (omega arith) fits)

-- and with all values
caps-whole : (links : List Link) (flow : List ℤ) → KeepsCaps links flow → length links ≤ length flow
    → IsWithinCaps links flow
caps-whole [] [] caps all = tt
caps-whole [] (x ∷ flow) caps all = absurd caps
caps-whole (link ∷ links) [] caps all = absurd (omega arith)
caps-whole (link ∷ links) (x ∷ flow) caps all = (caps.0, caps-whole links flow caps.1 (omega arith))

-- kept at each router that is no end
kept_at : (net : Net) (edge : Edge) (r : ℕ) → keeps_some net edge r ≡ false → r ≢ edge.child → r ≢ edge.up
    → out r net.links edge.flow ≡ pos 0
kept_at net edge r none no_child no_up = elim (cases_Bool (int_eq (out r net.links edge.flow) (pos 0))) [
  | inl same ↦ (Decides-int_eq (out r net.links edge.flow) (pos 0)).0 same
  | inr differs ↦ absurd (
      let some = rw (ne_eqb r edge.child no_child, ne_eqb r edge.up no_up, differs) at none in cc)
]

-- the edge with its whole flow
sound_edge : (told : Told) (edge : Edge) → IsSoundSoFar told edge
    → length told.sheet.net.links ≤ length edge.flow → leaks told.sheet.net edge ≡ false
    → sends_width told.sheet.net edge ≡ true → IsSoundEdge told.sheet.net edge
sound_edge told edge so_far all tight sends = record {
  up_is = so_far.up_is;
  flow = record {
    differ_ends = λ e. so_far.other (sym e);
    within = caps-whole told.sheet.net.links edge.flow so_far.caps all;
    kept = λ r low no_child no_up. kept_at told.sheet.net edge r
        (each_fails_from (keeps_some told.sheet.net edge) 0 told.sheet.net.routers tight r (omega arith) (omega arith))
        no_child no_up;
    sent = (Decides-int_eq (out edge.child told.sheet.net.links edge.flow) (pos edge.width)).0 sends;
  };
}

-- one edge more
edges-more : (net : Net) (edges : List Edge) (edge : Edge) → AreSoundEdges net edges → IsSoundEdge net edge
    → AreSoundEdges net (edges ++ edge ∷ [])
edges-more net [] edge sound one = (one, tt)
edges-more net (first ∷ edges) edge sound one = (sound.0, edges-more net edges edge sound.1 one)

-- so what was told is sound with it
told-more : (told : Told) (edge : Edge) → IsSoundTold told → edge.child ≡ next_child told
    → IsSoundEdge told.sheet.net edge → IsSoundTold (record told { edges = told.edges ++ edge ∷ [] })
told-more told edge sound is one = record {
  sheet = sound.sheet;
  root_is = sound.root_is;
  children = rw (map-append (λ (e : Edge). e.child) told.edges (edge ∷ []))
      (next_more told.root 0 (told_children told.edges) edge.child sound.children
      (is ∙ ap (router_but told.root) (omega (arith, length-map told.edges (λ (e : Edge). e.child)))));
  edges = edges-more told.sheet.net told.edges edge sound.edges one;
}

-- ---- what a line does

-- where something was told
or_faulty-sound : {A : Type 0} → (number line : ℕ) (told : Option A) (on : A → Taken)
    → ((a : A) → told ≡ Some a → IsSoundTaken (on a)) → IsSoundTaken (or_faulty number line told on)
or_faulty-sound number line None on each = tt
or_faulty-sound number line (Some a) on each = each a refl

-- a whole flow
whole-sound : (told : Told) (edge : Edge) → IsSoundTold told → IsSoundSoFar told edge
    → length told.sheet.net.links ≤ length edge.flow → IsSoundTaken (take_whole told edge)
whole-sound told edge sound so_far all = elim (cases_Bool (leaks told.sheet.net edge)) [
  | inl leaking ↦ rw leaking tt
  | inr tight ↦ elim (cases_Bool (sends_width told.sheet.net edge)) [
    | inr other ↦ rw (tight, other) tt
    | inl sends ↦ rw (tight, sends)
        (told-more told edge sound so_far.child_is (sound_edge told edge so_far all tight sends))
  ]
]

-- a flow as far as it has come
flow-sound : (told : Told) (edge : Edge) → IsSoundTold told → IsSoundSoFar told edge
    → IsSoundTaken (take_flow told edge)
flow-sound told edge sound so_far = elim (cases_Bool (nat_lt (length edge.flow) (length told.sheet.net.links))) [
  | inl more ↦ rw more (sound, so_far, ltb-true (length edge.flow) (length told.sheet.net.links) more)
  | inr whole ↦ rw whole
      (whole-sound told edge sound so_far (ltb-false (length edge.flow) (length told.sheet.net.links) whole))
]

-- no value yet
caps-none : (links : List Link) → KeepsCaps links []
caps-none [] = tt
caps-none (link ∷ links) = tt

-- two routers
routers-sound : (number : ℕ) (told : Told) (width : List ℕ) (child up : ℕ) → IsSoundTold told
    → up < told.sheet.net.routers → IsSoundTaken (take_routers number told width child up)
routers-sound number told width child up sound up_low = elim (cases_Bool (child == next_child told)) [
  | inr another ↦ rw another tt
  | inl is ↦ elim (cases_Bool (up == child)) [
    | inl same ↦ rw (is, same) tt
    | inr other ↦ rw (is, other) (or_faulty-sound 34 number (number_in width) (λ w. take_flow told
        (record { line = number; child = child; up = up; width = w; flow = [] }))
        (λ w found. flow-sound told (record { line = number; child = child; up = up; width = w; flow = [] }) sound
        (record {
          child_is = eqb-true child (next_child told) is;
          up_is = up_low;
          other = eqb-false up child other;
          caps = caps-none told.sheet.net.links;
        })))
  ]
]

-- a router that is named is one of the network
numbered_low : (sheet : SheetView) (name : List ℕ) (r : ℕ) → IsSheet sheet.names sheet.net
    → number_of sheet.names name ≡ Some r → r < sheet.net.routers
numbered_low sheet name r is found =
    omega (arith, is.numbered, (position-Some (bytes_eq name) sheet.names r [] found).0)

-- an edge
edge-sound : (number : ℕ) (told : Told) (line : List ℕ) → IsSoundTold told → IsSoundTaken (take_edge number told line)
edge-sound number told line sound =
    or_faulty-sound 30 number (edge_words (short_words line))
    (λ words. or_faulty 32 number (number_of told.sheet.names words.child) (λ child.
    or_faulty 32 number (number_of told.sheet.names words.up) (λ up.
    take_routers number told words.width child up)))
    (λ words told_words. or_faulty-sound 32 number (number_of told.sheet.names words.child)
    (λ child. or_faulty 32 number (number_of told.sheet.names words.up) (λ up.
    take_routers number told words.width child up))
    (λ child child_is. or_faulty-sound 32 number (number_of told.sheet.names words.up)
    (λ up. take_routers number told words.width child up)
    (λ up up_is. routers-sound number told words.width child up sound
    (numbered_low told.sheet words.up up sound.sheet up_is))))

-- the last line
done-sound : (number : ℕ) (told : Told) (line : List ℕ) → IsSoundTold told
    → told.sheet.net.routers ≤ length told.edges + 1 → IsSoundTaken (take_done number told line)
done-sound number told line sound whole = elim (cases_Bool (is_done line)) [
  | inl done ↦ rw done (sound, whole)
  | inr other ↦ rw other tt
]

-- an edge or the last line
between-sound : (number : ℕ) (told : Told) (line : List ℕ) → IsSoundTold told
    → IsSoundTaken (take_between number told line)
between-sound number told line sound =
    elim (cases_Bool (nat_lt (length told.edges + 1) told.sheet.net.routers)) [
      | inl more ↦ rw more (edge-sound number told line sound)
      | inr whole ↦ rw whole (done-sound number told line sound
          (ltb-false (length told.edges + 1) told.sheet.net.routers whole))
    ]

-- a value
value-sound : (number : ℕ) (told : Told) (edge : Edge) (value : ℤ) → IsSoundTold told → IsSoundSoFar told edge
    → length edge.flow < length told.sheet.net.links → IsSoundTaken (take_value number told edge value)
value-sound number told edge value sound so_far more =
    elim (cases_Bool (nat_lt (link_at told.sheet.net (length edge.flow)).cap (nat_abs value))) [
      | inl over ↦ rw over tt
      | inr fits ↦ rw fits (flow-sound told (record edge { flow = edge.flow ++ value ∷ [] }) sound (record {
        child_is = so_far.child_is;
        up_is = so_far.up_is;
        other = so_far.other;
        caps = caps-more told.sheet.net.links edge.flow value (record { a = 0; b = 0; cap = 0 }) so_far.caps more
            (ltb-false (link_at told.sheet.net (length edge.flow)).cap (nat_abs value) fits);
      }))
    ]

-- a line with one
on-sound : (number : ℕ) (told : Told) (edge : Edge) (line : List ℕ) → IsSoundTold told → IsSoundSoFar told edge
    → length edge.flow < length told.sheet.net.links → IsSoundTaken (take_on number told edge line)
on-sound number told edge line sound so_far more =
    or_faulty-sound 30 number (on_word (short_words line))
    (λ word. or_faulty 34 number (signed_in word) (λ value. take_value number told edge value))
    (λ word told_word. or_faulty-sound 34 number (signed_in word) (λ value. take_value number told edge value)
    (λ value told_value. value-sound number told edge value sound so_far more))

-- the title
title-sound : (number : ℕ) (line : List ℕ) → IsSoundTaken (take_title number line)
title-sound number line = elim (cases_Bool (is_title line)) [
  | inl title ↦ rw title no_draft-sound
  | inr other ↦ rw other tt
]

-- a line of the network
drafted-sound : (number : ℕ) (result : Result Draft TextKind)
    → ((draft : Draft) → result ≡ Ok draft → IsSoundDraft draft) → IsSoundTaken (take_drafted number result)
drafted-sound number (Ok draft) each = each draft refl
drafted-sound number (Err kind) each = tt

-- its last line
end-sound : (number : ℕ) (draft : Draft) → IsSoundDraft draft → IsSoundTaken (take_end number draft)
end-sound number draft sound = elim (cases_Bool (length draft.names == 0)) [
  | inl none ↦ rw none tt
  | inr some ↦ rw some (sheet_from-sound draft sound some)
]

-- any of its lines
network-sound : (number : ℕ) (draft : Draft) (line : List ℕ) → IsSoundDraft draft
    → IsSoundTaken (take_network number draft line)
network-sound number draft line sound = elim (cases_Bool (is_end line)) [
  | inl ended ↦ rw ended (end-sound number draft sound)
  | inr other ↦ rw other
      (drafted-sound number (with_line draft line) (λ new is. with_line-sound draft new line is sound))
]

-- the root
root-sound : (number : ℕ) (sheet : SheetView) (line : List ℕ) → IsSheet sheet.names sheet.net
    → IsSoundTaken (take_root number sheet line)
root-sound number sheet line is =
    or_faulty-sound 30 number (root_word (short_words line))
    (λ name. or_faulty 32 number (number_of sheet.names name) (λ root.
    GoesOn (Between (record { sheet = sheet; root = root; edges = [] }))))
    (λ name told_name. or_faulty-sound 32 number (number_of sheet.names name)
    (λ root. GoesOn (Between (record { sheet = sheet; root = root; edges = [] })))
    (λ root found. record {
      sheet = is;
      root_is = numbered_low sheet name root is found;
      children = tt;
      edges = tt;
    }))

-- any line that counts
counted-sound : (number : ℕ) (stage : Stage) (line : List ℕ) → IsSoundStage stage
    → IsSoundTaken (take_counted number stage line)
counted-sound number Title line sound = title-sound number line
counted-sound number (Network draft) line sound = network-sound number draft line sound
counted-sound number (Root sheet) line sound = root-sound number sheet line sound
counted-sound number (Between told) line sound = between-sound number told line sound
counted-sound number (Within told edge) line sound = on-sound number told edge line sound.0 sound.1 sound.2

-- any line
pub line-sound : (number : ℕ) (stage : Stage) (line : List ℕ) → IsSoundStage stage
    → IsSoundTaken (take_line number stage line)
line-sound number stage line sound = elim (cases_Bool (is_skipped number line)) [
  | inl skipped ↦ rw skipped sound
  | inr counts ↦ rw counts (counted-sound number stage line sound)
]

-- ---- the verdict

-- What is below each of these edges costs as much as the edge is wide.
abbrev pub AreRight : Told → List Edge → Type 0
AreRight told [] = Unit {0}
AreRight told (edge ∷ edges) = (costs_width told edge ≡ true) × AreRight told edges

-- What is accepted.
pub record IsAccepted (told : Told) : Type 0 where
  pub sound : IsSoundTold told
  pub whole : told.sheet.net.routers ≤ length told.edges + 1
  pub ends : all_end_at_root told ≡ true
  pub right : AreRight told told.edges

-- A verdict that accepts nothing else.
abbrev pub IsSoundVerdict : Verdict → Type 0
IsSoundVerdict Undecided = Unit {0}
IsSoundVerdict (Refused fault) = Unit {0}
IsSoundVerdict (Accepted told) = IsAccepted told

-- by the costs of edges
costs-sound : (told : Told) (edges : List Edge) → (AreRight told edges → IsAccepted told)
    → IsSoundVerdict (costs_verdict told edges)
costs-sound told [] accepted = accepted tt
costs-sound told (edge ∷ edges) accepted = elim (cases_Bool (costs_width told edge)) [
  | inl right ↦ rw right (costs-sound told edges (λ rest. accepted (right, rest)))
  | inr wrong ↦ rw wrong tt
]

-- on what was told up to the last line
tree-sound : (number : ℕ) (told : Told) → IsSoundTold told → told.sheet.net.routers ≤ length told.edges + 1
    → IsSoundVerdict (tree_verdict number told)
tree-sound number told sound whole = elim (cases_Bool (all_end_at_root told)) [
  | inl ends ↦ rw ends (costs-sound told told.edges (λ right. record {
    sound = sound;
    whole = whole;
    ends = ends;
    right = right;
  }))
  | inr other ↦ rw other tt
]

-- by what a line does
by-sound : (taken : Taken) (number : ℕ) (on : Stage → Verdict) → IsSoundTaken taken
    → ((stage : Stage) → IsSoundStage stage → IsSoundVerdict (on stage)) → IsSoundVerdict (verdict_by taken number on)
by-sound (GoesOn stage) number on sound each = each stage sound
by-sound (Ends told) number on sound each = tree-sound number told sound.0 sound.1
by-sound (Faulty fault) number on sound each = tt

-- on lines
from-sound : (ended : Bool) (seen : ℕ) (stage : Stage) (lines : List (List ℕ)) → IsSoundStage stage
    → IsSoundVerdict (verdict_from ended seen stage lines)
from-sound true seen stage [] sound = tt
from-sound false seen stage [] sound = tt
from-sound ended seen stage (line ∷ lines) sound =
    by-sound (take_line (seen + 1) stage line) (seen + 1) (λ after. verdict_from ended (seen + 1) after lines)
    (line-sound (seen + 1) stage line sound)
    (λ after after_sound. from-sound ended (seen + 1) after lines after_sound)

-- so what is accepted is so
pub accepted_told : (ended : Bool) (bytes : List ℕ) (told : Told) → verdict_on ended bytes ≡ Accepted told
    → IsAccepted told
accepted_told ended bytes told is =
    subst (λ (v : Verdict). IsSoundVerdict v) is (from-sound ended 0 Title (fronts_of ended bytes) tt)
