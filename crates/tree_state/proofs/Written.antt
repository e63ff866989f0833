-- The lists that the writes of a commit leave.
use Rattle.std.proofs.Common.{◌≡◌, inl, inr, ℕ, ◌<◌, true, false, List, length, set, refl, arith}
use Rattle.std.proofs.Common.{get_or-set_same, get_or-set_other}
use Rattle.std.proofs.Math.ListN.{length-set}
use Rattle.std.proofs.lemmas.Bool.{cases_Bool, cases_eq, eq-eqb, ne_eqb}
use Rattle.std.proofs.lemmas.Bool.Decides.{eqb_tells}
use Rattle.std.specs.Prelude.{◌==◌, slice_index, if◌then◌else◌}
use Rattle.cut_model.specs.Cuts.{set_of}
use Rattle.cut_model.specs.Held.{CutView, IsHeldCut}
use Rattle.tree_state.specs.Tables.{swaps, moved_to, up_after, width_after}
use Rattle.tree_state.proofs.Words.{Move}

-- what a list has that was written at one place
read : (xs : List ℕ) (s v i : ℕ) → s < length xs
    → slice_index (set xs s v) i ≡ (if i == s then v else slice_index xs i)
read xs s v i within = elim (cases_eq i s) [
  | inl e ↦ rw (e, eq-eqb s s refl) (get_or-set_same xs s v 0 within)
  | inr ne ↦ rw (ne_eqb i s ne) (get_or-set_other xs s i v 0 ne)
]

-- What a commit starts from: s and t are places of the table, s is in X and t is not, and the routers of X that hung
-- from t hang from s already.
pub record IsMoved (m : Move) (now : List ℕ) : Type 0 where
  pub len : length now ≡ length m.before
  pub moved : (i : ℕ) → i < length now → slice_index now i ≡ moved_to m.s (slice_index m.before) m.t m.X i
  pub holds : m.X m.s ≡ true
  pub lacks : m.X m.t ≡ false
  pub s_in : m.s < length m.before
  pub t_in : m.t < length m.before

-- the writes of a swap
pub up_swapped : (root : ℕ) (m : Move) (now : List ℕ) → IsMoved m now
    → swaps root (slice_index m.before) m.t m.X ≡ true → (i : ℕ) → i < length now
    → slice_index (set (set now m.s (slice_index m.before m.t)) m.t m.s) i
    ≡ up_after root (slice_index m.before) m.s m.t m.X i
unfolding up_after
up_swapped root m now is swap i within =
    rw (
      read (set now m.s (slice_index m.before m.t)) m.t m.s i
          (omega (arith, length-set now m.s (slice_index m.before m.t), is.t_in, is.len)),
      read now m.s (slice_index m.before m.t) i (omega (arith, is.s_in, is.len)),
      is.moved i within,
      swap,
    )
    (let holds : m.X m.s ≡ true = is.holds in let lacks : m.X m.t ≡ false = is.lacks in
    grind (arith, eqb_tells i m.s, eqb_tells i m.t, cases_Bool (m.X i), cases_Bool (slice_index m.before i == m.t)))

-- and of none
pub up_plain : (root : ℕ) (m : Move) (now : List ℕ) → IsMoved m now
    → swaps root (slice_index m.before) m.t m.X ≡ false → (i : ℕ) → i < length now
    → slice_index (set now m.s m.t) i ≡ up_after root (slice_index m.before) m.s m.t m.X i
unfolding up_after
up_plain root m now is plain i within =
    rw (read now m.s m.t i (omega (arith, is.s_in, is.len)), is.moved i within, plain)
    (grind (
      arith,
      eqb_tells i m.s,
      cases_Bool (i == m.t),
      cases_Bool (m.X i),
      cases_Bool (slice_index m.before i == m.t),
    ))

-- the widths of a swap
pub width_swapped : (root : ℕ) (m : Move) (now width : List ℕ) (k : ℕ) → IsMoved m now
    → length width ≡ length m.before → swaps root (slice_index m.before) m.t m.X ≡ true → (i : ℕ)
    → slice_index (set (set width m.s (slice_index width m.t)) m.t k) i
    ≡ width_after root (slice_index m.before) (slice_index width) m.s m.t k m.X i
unfolding width_after
width_swapped root m now width k is size swap i =
    rw (
      read (set width m.s (slice_index width m.t)) m.t k i
          (omega (arith, length-set width m.s (slice_index width m.t), is.t_in, size)),
      read width m.s (slice_index width m.t) i (omega (arith, is.s_in, size)),
      swap,
    )
    (let holds : m.X m.s ≡ true = is.holds in let lacks : m.X m.t ≡ false = is.lacks in
    grind (arith, eqb_tells i m.s, eqb_tells i m.t, cases_Bool (m.X i)))

-- and of none
pub width_plain : (root : ℕ) (m : Move) (width : List ℕ) (k : ℕ) → m.s < length width
    → swaps root (slice_index m.before) m.t m.X ≡ false → (i : ℕ)
    → slice_index (set width m.s k) i ≡ width_after root (slice_index m.before) (slice_index width) m.s m.t k m.X i
unfolding width_after
width_plain root m width k s_in plain i =
    rw (read width m.s k i s_in, plain) (grind (arith, eqb_tells i m.s, cases_Bool (i == m.t)))

-- What the commit of a held cut moves.
abbrev pub move_of : CutView → List ℕ → Move
move_of cut before = record { s = cut.router; t = cut.neighbour; X = set_of cut.side; before = before }

-- the routers of a held cut are moved
pub moved_by_cut : (cut : CutView) (before now : List ℕ) → IsHeldCut cut → length before ≡ cut.net.routers
    → length now ≡ length before
    → ((i : ℕ) → i < length now
    → slice_index now i ≡ moved_to cut.router (slice_index before) cut.neighbour (set_of cut.side) i)
    → IsMoved (move_of cut before) now
moved_by_cut cut before now held size len moved = record {
  len = len;
  moved = moved;
  holds = held.least.holds;
  lacks = held.least.lacks;
  s_in = omega (arith, size, held.router_in);
  t_in = omega (arith, size, held.neighbour_in);
}
