-- Lines behind one more, and lines that are known.
use Rattle.std.proofs.Common.{◌≡◌, ℕ, zero, suc, ◌+◌, ◌≤◌, List, [], ◌∷◌, ◌++◌, length, refl, sym, ap, ◌∙◌}
use Rattle.std.proofs.Common.{add-one, arith, inl, inr}
use Rattle.std.specs.Prelude.{slice_index_or}
use Rattle.certifier.specs.Blocks.{Carried, Fits, Layout, headed}
use Rattle.reply_lines.specs.Tails.{KnownLine, Leads, Spot, Tail}
use Rattle.session.specs.Reporting.{LineIn, known_layout}
use Rattle.tree_state.specs.Views.{TreeView}
use Rattle.tree_versions.specs.Records.{RecordView, tree_of}

-- What stands behind the first of some lines.
index_behind : (head : List ℕ) (lines : List (List ℕ)) (place : ℕ)
    → slice_index_or (head ∷ lines) (place + 1) [] ≡ slice_index_or lines place []
index_behind head lines place = ap (λ (n : ℕ). slice_index_or (head ∷ lines) n []) (add-one place)

-- The spot one place behind another.
abbrev pub behind : Spot Carried → Spot Carried
behind a = record a { place = a.place + 1 }

-- That spot, to which something is carried.
abbrev pub carrying : Carried → Spot (Unit {0}) → Spot Carried
carrying carry a = record { left = a.left; place = a.place; carry = carry }

module _ (seen : RecordView) (head : List ℕ) (layout : Layout) where
  -- The first line is the one in front.
  pub head_line : (carry : Carried) → LineIn seen (headed head layout) 0 carry head carry
  head_line carry = inl record { within = omega arith; known = record { at = refl; kept = refl } }

  -- The others are those that were there,
  line_behind : (place : ℕ) (carry : Carried) (line : List ℕ) (carry2 : Carried)
      → LineIn seen layout place carry line carry2
      → LineIn seen (headed head layout) (place + 1) carry line carry2
  line_behind place carry line carry2 (inl front) = inl record {
    within = omega (arith, front.within);
    known = record { at = front.known.at ∙ sym (index_behind head layout.front place); kept = front.known.kept };
  }
  line_behind place carry line carry2 (inr (inl at)) = inr (inl record {
    block = at.block;
    k = at.k;
    within = at.within;
    of_block = at.of_block;
    place_is = omega (arith, at.place_is);
    told = at.told;
  })
  line_behind place carry line carry2 (inr (inr back)) = inr (inr record {
    j = back.j;
    within = back.within;
    place_is = omega (arith, back.place_is);
    known = back.known;
  })

  -- and no more.
  line_inside : (place : ℕ) (carry : Carried) (line : List ℕ) (carry2 : Carried)
      → LineIn seen (headed head layout) (place + 1) carry line carry2
      → LineIn seen layout place carry line carry2
  line_inside place carry line carry2 (inl front) = inl record {
    within = omega (arith, front.within);
    known = record { at = front.known.at ∙ index_behind head layout.front place; kept = front.known.kept };
  }
  line_inside place carry line carry2 (inr (inl at)) = inr (inl record {
    block = at.block;
    k = at.k;
    within = at.within;
    of_block = at.of_block;
    place_is = omega (arith, at.place_is);
    told = at.told;
  })
  line_inside place carry line carry2 (inr (inr back)) = inr (inr record {
    j = back.j;
    within = back.within;
    place_is = omega (arith, back.place_is);
    known = back.known;
  })

  -- So what follows is the same,
  tail_behind : (left place : ℕ) (carry : Carried) (text : List ℕ)
      → Tail Carried (LineIn seen layout) left place carry text
      → Tail Carried (LineIn seen (headed head layout)) left (place + 1) carry text
  tail_behind zero place carry text t = t
  tail_behind (suc left) place carry text t = record {
    line = t.line;
    rest = t.rest;
    carry2 = t.carry2;
    is = line_behind place carry t.line t.carry2 t.is;
    joins = t.joins;
    on = tail_behind left (place + 1) t.carry2 t.rest t.on;
  }

  tail_inside : (left place : ℕ) (carry : Carried) (text : List ℕ)
      → Tail Carried (LineIn seen (headed head layout)) left (place + 1) carry text
      → Tail Carried (LineIn seen layout) left place carry text
  tail_inside zero place carry text t = t
  tail_inside (suc left) place carry text t = record {
    line = t.line;
    rest = t.rest;
    carry2 = t.carry2;
    is = line_inside place carry t.line t.carry2 t.is;
    joins = t.joins;
    on = tail_inside left (place + 1) t.carry2 t.rest t.on;
  }

  -- and a text leads on behind the first line as it does without it.
  pub leads_behind : (a b : Spot Carried) (text : List ℕ) → Leads Carried (LineIn seen layout) a text b
      → Leads Carried (LineIn seen (headed head layout)) (behind a) text (behind b)
  leads_behind a b text leads rest on =
      tail_behind a.left a.place a.carry (text ++ rest) (leads rest (tail_inside b.left b.place b.carry rest on))

  -- The same has to be carried to a place,
  pub fits_behind_head : (place : ℕ) (carry : Carried) → Fits (tree_of seen) layout place carry
      → Fits (tree_of seen) (headed head layout) (place + 1) carry
  fits_behind_head place carry fits block link within of_link is = fits block link within of_link (omega (arith, is))

  pub fits_inside : (place : ℕ) (carry : Carried) → Fits (tree_of seen) (headed head layout) (place + 1) carry
      → Fits (tree_of seen) layout place carry
  fits_inside place carry fits block link within of_link is = fits block link within of_link (omega (arith, is))

-- and to the first one nothing.
pub fits_first : (tree : TreeView) (layout : Layout) (carry : Carried) → Fits tree layout 0 carry
fits_first tree layout carry block link within of_link is = absurd (omega (arith, is))

-- Nor has anything to be carried where all lines are known.
pub fits_known : (tree : TreeView) (lines : List (List ℕ)) (place : ℕ) (carry : Carried)
    → Fits tree (known_layout lines) place carry
fits_known tree lines place carry block link within of_link is = absurd (omega (arith, within))

module _ (seen : RecordView) (lines : List (List ℕ)) where
  -- Lines that are known are laid out,
  tail_known : (left place : ℕ) (carry : Carried) (text : List ℕ) → place + left ≤ length lines
      → Tail (Unit {0}) (KnownLine (Unit {0}) lines) left place tt text
      → Tail Carried (LineIn seen (known_layout lines)) left place carry text
  tail_known zero place carry text low t = t
  tail_known (suc left) place carry text low t = record {
    line = t.line;
    rest = t.rest;
    carry2 = carry;
    is = inl record { within = omega (arith, low); known = record { at = t.is.at; kept = refl } };
    joins = t.joins;
    on = tail_known left (place + 1) carry t.rest (omega (arith, low)) t.on;
  }

  line_known : (place : ℕ) (carry : Carried) (line : List ℕ) (carry2 : Carried)
      → LineIn seen (known_layout lines) place carry line carry2 → line ≡ slice_index_or lines place []
  line_known place carry line carry2 (inl front) = front.known.at
  line_known place carry line carry2 (inr (inl at)) = absurd (omega (arith, at.within))
  line_known place carry line carry2 (inr (inr back)) = absurd (omega (arith, back.within))

  -- and no others.
  pub known_tail_of : (left place : ℕ) (carry : Carried) (text : List ℕ)
      → Tail Carried (LineIn seen (known_layout lines)) left place carry text
      → Tail (Unit {0}) (KnownLine (Unit {0}) lines) left place tt text
  known_tail_of zero place carry text t = t
  known_tail_of (suc left) place carry text t = record {
    line = t.line;
    rest = t.rest;
    carry2 = tt;
    is = record { at = line_known place carry t.line t.carry2 t.is; kept = refl };
    joins = t.joins;
    on = known_tail_of left (place + 1) t.carry2 t.rest t.on;
  }

  -- So a text leads on in the one as in the other.
  pub leads_known : (a b : Spot (Unit {0})) (carry : Carried) (text : List ℕ) → a.place + a.left ≤ length lines
      → Leads (Unit {0}) (KnownLine (Unit {0}) lines) a text b
      → Leads Carried (LineIn seen (known_layout lines)) (carrying carry a) text (carrying carry b)
  leads_known a b carry text low leads rest on =
      tail_known a.left a.place carry (text ++ rest) low (leads rest (known_tail_of b.left b.place carry rest on))
