-- Lines of a layout that were put.
use Rattle.std.proofs.Common.{◌≡◌, ℕ, ◌+◌, ◌-◌, ◌<◌, ◌≤◌, List, [], ◌++◌, length, refl, subst, arith, inl, inr}
use Rattle.std.proofs.Common.{Bool, Result, Ok, Err}
use Rattle.std.proofs.lemmas.List.{append-nil}
use Rattle.std.specs.Prelude.{OnOk, slice_index, slice_index_or}
use Rattle.std.specs.Result.{IsErr}
use Rattle.reply_lines.proofs.Tailing.{Leads-none, Leads-trans}
use Rattle.reply_lines.specs.Puts.{PutsLine, PutsLines, PutsTo}
use Rattle.reply_lines.specs.Tails.{Spot, Tail}
use Rattle.reply_lines.specs.declared.run.TheConstants.{MOST_REPLY_LINE_BYTES}
use Rattle.tree_state.specs.Views.{TreeView}
use Rattle.wires.proofs.Puts.{puts_failed, puts_none, puts_same, puts_then}
use Rattle.wires.specs.Puts.{Puts}
use Rattle.wires.specs.declared.sinks.Sink.{Ghosts}
use Rattle.certifier.specs.Blocks.{BlockLine, Carried, Layout, LayoutLine, back_place, block_place, block_size}
use Rattle.certifier.specs.Blocks.{layout_size}
use Rattle.certifier.specs.Lines.{LinesTold, PutsLaidAt, PutsLaidOut}

module _ {S E : Type 0} {g : Ghosts S} {old new : S} {result : Result (Unit {0}) E} (names : List (List ℕ))
    (tree : TreeView) (layout : Layout) where
  -- A line of a block is that of its place,
  pub puts_in_block : (b k place : ℕ) (carry carry2 : Carried) → b < length layout.children → k < block_size tree.net
      → place ≡ block_place tree.net layout b k
      → PutsLine g old new result (BlockLine layout.word names tree (slice_index layout.children b)) k carry carry2
      → PutsLine g old new result (LayoutLine names tree layout) place carry carry2
  puts_in_block b k place carry carry2 within of_block is put = record {
    line = put.line;
    is = inr (inl record { block = b; k = k; within = within; of_block = of_block; place_is = is; told = put.is });
    short = put.short;
    puts = put.puts;
  }

  -- and so is a known one in front
  pub puts_in_front : (place : ℕ) (carry : Carried) → place < length layout.front
      → length (slice_index_or layout.front place []) ≤ MOST_REPLY_LINE_BYTES
      → Puts g old new result (slice_index_or layout.front place [])
      → PutsLine g old new result (LayoutLine names tree layout) place carry carry
  puts_in_front place carry within short puts = record {
    line = slice_index_or layout.front place [];
    is = inl record { within = within; known = record { at = refl; kept = refl } };
    short = short;
    puts = puts;
  }

  -- or behind all blocks.
  pub puts_in_back : (place j : ℕ) (carry : Carried) → j < length layout.back → place ≡ back_place tree.net layout + j
      → length (slice_index_or layout.back j []) ≤ MOST_REPLY_LINE_BYTES
      → Puts g old new result (slice_index_or layout.back j [])
      → PutsLine g old new result (LayoutLine names tree layout) place carry carry
  puts_in_back place j carry within is short puts = record {
    line = slice_index_or layout.back j [];
    is = inr (inr record { j = j; within = within; place_is = is; known = record { at = refl; kept = refl } });
    short = short;
    puts = puts;
  }

-- Where no put failed, all lines that were put are all lines of the layout.
pub puts_laid_out : {S E : Type 0} {g : Ghosts S} {old new : S} (result : Result (Unit {0}) E) (names : List (List ℕ))
    (tree : TreeView) (layout : Layout) (first : Carried)
    → PutsLines g old new result (LayoutLine names tree layout) (layout_size tree.net layout) first
    → PutsLaidOut g old new result names tree layout
puts_laid_out (Err e) names tree layout first put = record { first = first; lines = put; all = tt }
puts_laid_out (Ok u) names tree layout first put =
    let Line = LayoutLine names tree layout in
    let n = layout_size tree.net layout in
    let done : Tail Carried Line put.last.left put.last.place put.last.carry [] = rw put.all refl in
    let whole : Tail Carried Line (n - 0) 0 first (put.puts.text ++ []) = put.puts.leads [] done in
    let all : n - 0 ≡ n = omega arith in record {
      first = first;
      lines = put;
      all = record {
        carry = first;
        is = subst (λ (left : ℕ). Tail Carried Line left 0 first put.puts.text) all
            (subst (Tail Carried Line (n - 0) 0 first) (append-nil put.puts.text) whole);
      };
    }

-- A line of a place failed.
pub puts_there_failed : {S D E : Type 0} {g : Ghosts S} {old new : S} {d : D} (result : Result Bool E) → IsErr result
    → (told : LinesTold) (place : ℕ) (carry carry2 : Carried) → place < layout_size told.tree.net told.layout
    → PutsLine {E = D} g old new (Err d) (LayoutLine told.sheet.names told.tree told.layout) place carry carry2
    → PutsLaidAt g old new result told place carry carry2
puts_there_failed (Ok there) failed told place carry carry2 within put = absurd (cc)
puts_there_failed (Err e) failed told place carry carry2 within put = record {
  within = within;
  puts = record {
    line = put.line;
    is = put.is;
    short = put.short;
    puts = puts_same (append-nil put.line) (puts_failed put.line [] (Err e) refl put.puts);
  };
}

-- Of an error nothing is asked that is asked of success.
pub none_asked : {T E : Type 0} (P : Type 0) (result : Result T E) → IsErr result → OnOk result P
none_asked P (Ok there) failed = absurd (cc)
none_asked P (Err e) failed = tt

-- One text that was put leads on behind another.
pub puts_joined : {S C D E : Type 0} {g : Ghosts S} {old mid new : S} {u : Unit {0}} {result : Result (Unit {0}) E}
    (Line : ℕ → C → List ℕ → C → Type 0) (a b c : Spot C) → PutsTo {E = D} g old mid (Ok u) Line a b
    → PutsTo g mid new result Line b c → PutsTo g old new result Line a c
puts_joined {C = C} Line a b c first second = record {
  text = first.text ++ second.text;
  leads = Leads-trans C Line a b c first.text second.text first.leads second.leads;
  puts = puts_then first.text second.text first.puts second.puts;
}

-- Nothing that is put leads nowhere.
pub puts_nowhere : {S C E : Type 0} (g : Ghosts S) (sink : S) (Line : ℕ → C → List ℕ → C → Type 0) (a : Spot C)
    → PutsTo {E = E} g sink sink (Ok tt) Line a a
puts_nowhere {C = C} g sink Line a = record { text = []; leads = Leads-none C Line a; puts = puts_none g sink }

-- A text that failed to be put did so whatever error is told.
pub puts_to_failed : {S C D E : Type 0} {g : Ghosts S} {old new : S} {d : D} (Line : ℕ → C → List ℕ → C → Type 0)
    (a b : Spot C) (result : Result (Unit {0}) E) → IsErr result → PutsTo {E = D} g old new (Err d) Line a b
    → PutsTo g old new result Line a b
puts_to_failed Line a b result failed put = record {
  text = put.text;
  leads = put.leads;
  puts = puts_same (append-nil put.text) (puts_failed put.text [] result failed put.puts);
}
