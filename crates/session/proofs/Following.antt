-- What is laid out of a record can be told from each place on: each edge has a flow of its width.
use Rattle.std.proofs.Common.{◌≡◌, ℕ, zero, suc, ◌+◌, ◌-◌, ◌/◌, ◌%◌, ◌<◌, ◌≤◌, All, List, [], ◌++◌, length}
use Rattle.std.proofs.Common.{refl}
use Rattle.std.proofs.Common.{arith, inl, inr, ◌⊎◌, sym, ◌∙◌, ap}
use Rattle.std.proofs.lemmas.Bool.{cases_lt}
use Rattle.std.proofs.lemmas.Nat.{div-add-mod'}
use Rattle.std.proofs.Math.Nat.{mod-lt}
use Rattle.std.specs.Prelude.{pos, slice_index, slice_index_or}
use Rattle.certifier.proofs.Fitting.{block_within, fits_behind, fits_in_block, fits_in_front}
use Rattle.certifier.specs.Blocks.{Carried, CarriesFlow, Fits, Layout, back_place, block_place, block_size, edge_text}
use Rattle.certifier.specs.Blocks.{on_text}
use Rattle.certifier.specs.Lines.{IsLowerEnd}
use Rattle.cut_model.proofs.Terminals.{all_terminals}
use Rattle.reply_lines.specs.Tails.{Tail}
use Rattle.session.proofs.SomeFlow.{some_flow}
use Rattle.session.specs.Reporting.{IsSound, LineIn, size_in}
use Rattle.tree_state.specs.Tables.{below}
use Rattle.tree_state.specs.Views.{up_of, width_of}
use Rattle.tree_versions.specs.Records.{RecordView, tree_of}

-- A line that may stand at a place, behind which what has to be carried is.
record NextLine (seen : RecordView) (layout : Layout) (place : ℕ) (carry : Carried) : Type 0 where
  line : List ℕ
  carry2 : Carried
  is : LineIn seen layout place carry line carry2
  fits : Fits (tree_of seen) layout (place + 1) carry2

-- A place among blocks is in one of them.
record IsPlaced (seen : RecordView) (layout : Layout) (place : ℕ) : Type 0 where
  block : ℕ
  k : ℕ
  within : block < length layout.children
  of_block : k < block_size seen.sheet.net
  is : place ≡ block_place seen.sheet.net layout block k

placed : (seen : RecordView) (layout : Layout) (place : ℕ) → length layout.front ≤ place
    → place < back_place seen.sheet.net layout → IsPlaced seen layout place
placed seen layout place behind low =
    let size = block_size seen.sheet.net in
    let at = place - length layout.front in
    let sum = div-add-mod' at size in record {
      block = at / size;
      k = at % size;
      within = block_within size (at / size) (at % size) (length layout.children) at (sym sum)
          (omega (arith, behind, low));
      of_block = mod-lt at (omega arith);
      is = omega (arith, sum, behind);
    }

-- What is laid out of a record can be told: the record is sound, and each edge has a lower end.
pub record IsTellable (seen : RecordView) (layout : Layout) : Type 0 where
  pub sound : IsSound seen
  pub lower : All (IsLowerEnd seen.sheet.net) layout.children

module _ (seen : RecordView) (layout : Layout) (can : IsTellable seen layout) where
  -- An edge has a flow of its width,
  carried_for : (child : ℕ) → IsLowerEnd seen.sheet.net child
      → (carry : Carried) × CarriesFlow (tree_of seen) child carry
  carried_for child end =
      let net = seen.sheet.net in
      let up = up_of (tree_of seen) in
      let flow = some_flow net can.sound.limits child (up child) end.within (below net.routers up child)
      (width_of (tree_of seen) child)
      (can.sound.cuts.cuts child (all_terminals net child end.within) end.not_root) in
      (record { net = net; flow = flow.0 }, record { net = refl; flow = flow.1 })

  -- so each line of a block can follow,
  next_in_block : (place : ℕ) (carry : Carried) (p : IsPlaced seen layout place)
      → Fits (tree_of seen) layout place carry → NextLine seen layout place carry
  next_in_block place carry p fits = of_k p.k refl
    where
      of_k : (k : ℕ) → p.k ≡ k → NextLine seen layout place carry
      of_k zero e =
          let child = slice_index layout.children p.block in
          let flow = carried_for child (can.lower p.block 0 p.within) in
          let is = p.is ∙ ap (λ (k : ℕ). block_place seen.sheet.net layout p.block k) e in record {
            line = edge_text layout.word seen.sheet.names (tree_of seen) child;
            carry2 = flow.0;
            is = inr (inl record {
              block = p.block;
              k = 0;
              within = p.within;
              of_block = omega arith;
              place_is = is;
              told = (refl, flow.1);
            });
            fits = fits_in_block (tree_of seen) layout place flow.0 p.block 0 is (omega arith) flow.1;
          }
      of_k (suc link) e =
          let is = p.is ∙ ap (λ (k : ℕ). block_place seen.sheet.net layout p.block k) e in
          let of_block : suc link < block_size seen.sheet.net = omega (arith, p.of_block, e) in record {
            line = on_text (slice_index_or carry.flow link (pos 0));
            carry2 = carry;
            is = inr (inl record {
              block = p.block;
              k = suc link;
              within = p.within;
              of_block = of_block;
              place_is = is;
              told = (refl, refl);
            });
            fits = fits_in_block (tree_of seen) layout place carry p.block (suc link) is of_block
                (fits p.block link p.within of_block is);
          }

  -- and so can each line.
  next_line : (place : ℕ) (carry : Carried) → place < size_in seen layout → Fits (tree_of seen) layout place carry
      → NextLine seen layout place carry
  next_line place carry low fits =
      of_front (cases_lt place (length layout.front)) (cases_lt place (back_place seen.sheet.net layout))
    where
      of_front : (place < length layout.front) ⊎ (length layout.front ≤ place)
          → (place < back_place seen.sheet.net layout) ⊎ (back_place seen.sheet.net layout ≤ place)
          → NextLine seen layout place carry
      of_front (inl front) any = record {
        line = slice_index_or layout.front place [];
        carry2 = carry;
        is = inl record { within = front; known = record { at = refl; kept = refl } };
        fits = fits_in_front (tree_of seen) layout place carry front;
      }
      of_front (inr behind) (inl in_block) =
          next_in_block place carry (placed seen layout place behind in_block) fits
      of_front (inr behind) (inr back) =
          let j = place - back_place seen.sheet.net layout in record {
            line = slice_index_or layout.back j [];
            carry2 = carry;
            is = inr (inr record {
              j = j;
              within = omega (arith, back, low);
              place_is = omega (arith, back);
              known = record { at = refl; kept = refl };
            });
            fits = fits_behind (tree_of seen) layout place carry back;
          }

  -- So a text follows from each place on to which what has to be carried is.
  pub some_text : (left place : ℕ) (carry : Carried) → place + left ≡ size_in seen layout
      → Fits (tree_of seen) layout place carry
      → (text : List ℕ) × Tail Carried (LineIn seen layout) left place carry text
  some_text zero place carry all fits = ([], refl)
  some_text (suc left) place carry all fits =
      let next = next_line place carry (omega (arith, all)) fits in
      let on = some_text left (place + 1) next.carry2 (omega (arith, all)) next.fits in (
        next.line ++ on.0,
        record {
          line = next.line;
          rest = on.0;
          carry2 = next.carry2;
          is = next.is;
          joins = refl;
          on = on.1;
        },
      )
