-- The definition of a session's answers on small sessions.
use Rattle.std.proofs.Common.{◌≡◌, ℕ, zero, suc, ◌<◌, List, [], ◌∷◌, Ok, Err, true, false, refl, ap, inl, codes, arith}
use Rattle.std.specs.Fmt.{digits}
use Rattle.cut_model.specs.Cuts.{IsLeastCut, set_of, cut_value}
use Rattle.cut_model.specs.Net.{Net}
use Rattle.cut_model.specs.Terminals.{is_terminal, number_in, root_of}
use Rattle.cut_model.proofs.Terminals.{terminal-lt}
use Rattle.network_text.specs.Sheets.{SheetView}
use Rattle.network_text.specs.Texts.{verdict_of}
use Rattle.network_text.specs.declared.fault.TextKind.TheVariants.{UnknownWord, NoTerminal, EndedEarly}
use Rattle.session.specs.Answers.{Alone, Answers, IsTold}
use Rattle.query_lang.specs.Replies.{loaded_text, bye_text, refused_text, cut_text}
use Rattle.query_lang.specs.Reports.{IsCutReport}
use Rattle.query_lang.specs.Trees.{tree_text}
use Rattle.text_forms.specs.Items.{Item, Ask, Load, Bye, items_of}
use Rattle.tree_state.specs.Views.{TreeView, up_of, width_of}
use Rattle.tree_state.specs.History.{tables}
use Rattle.tree_state.specs.Paths.{IsLeastEdge, IsOnPath, side_for}
use Rattle.tree_state.specs.Tables.{some_up, up_after, width_after}
use Rattle.tree_versions.specs.Records.{RecordView, tree_of}

-- two routers and a link of 5
abbrev pair : Net
pair = record { routers = 2; links = record { a = 0; b = 1; cap = 5 } ∷ [] }

abbrev sheet : SheetView
sheet = record { names = codes "a" ∷ codes "b" ∷ []; net = pair }

-- the text `link a b 5` has this sheet
verdict : verdict_of (codes "link a b 5" ∷ []) true ≡ Ok sheet
verdict = refl

-- a text without its END has none, and neither has one with a line of another form, or without a router
unfinished : verdict_of (codes "link a b 5" ∷ []) false ≡ Err (record { kind = EndedEarly; line = 2 })
unfinished = refl

faulty : verdict_of (codes "link a b 5" ∷ codes "routers c" ∷ []) true ≡ Err (record { kind = UnknownWord; line = 2 })
faulty = refl

no_router : verdict_of (codes "# nothing" ∷ []) true ≡ Err (record { kind = NoTerminal; line = 2 })
no_router = refl

-- the side of the first router alone is a least cut, and its value is that of the link
least : IsLeastCut pair 0 1 (set_of (true ∷ false ∷ [])) 5
unfolding cut_value
least = record { holds = refl; lacks = refl; value = refl; least = λ Y holds lacks. rw (holds, lacks) (omega arith) }

items : List Item
items = Load (codes "link a b 5" ∷ []) true ∷ Ask (codes "CUT a b") ∷ Ask (codes "TREE") ∷ Ask (codes "CUT a a")
    ∷ Load [] true ∷ Bye ∷ []

-- the items of a small session
items_are : items_of true
    (codes "LOAD\nlink a b 5\nEND\n# note\nCUT a b\nTREE\nCUT a a\nLOAD\nEND\nBYE\nCUT a b\n") ≡ items
unfolding items
items_are = refl

-- the record that it publishes
abbrev made : RecordView
made = record {
  sheet = sheet;
  history = record { router = 1; neighbour = 0; value = 5; side = false ∷ true ∷ [] } ∷
      [];
}

-- its tree: the second router hangs from the first one by an edge of 5
abbrev tree : TreeView
tree = tree_of made

-- the path of the two has that one edge
only_edge : (e : ℕ) → IsOnPath pair (up_of tree) 0 1 e → e ≡ 1
unfolding tables up_after root_of some_up
only_edge zero on_path = absurd (let p : false ≡ true = on_path.parting in cc)
only_edge (suc zero) on_path = refl
only_edge (suc (suc e)) on_path = absurd (omega (arith, terminal-lt pair (suc (suc e)) on_path.terminal))

-- so it is the least
least_edge : IsLeastEdge pair (up_of tree) (width_of tree) 0 1 1
unfolding is_terminal tables up_after root_of some_up
least_edge = record {
  on_path = record { terminal = refl; parting = refl };
  least = λ e on_path. omega (arith, ap (width_of tree) (only_edge e on_path));
  first = λ e on_path same. omega (arith, only_edge e on_path);
}

-- and its side that holds the first router is that router alone
side_shown : (r : ℕ) → r < 2 → set_of (true ∷ false ∷ []) r ≡ side_for 2 (up_of tree) 0 1 r
unfolding tables up_after root_of some_up
side_shown zero low = refl
side_shown (suc zero) low = refl
side_shown (suc (suc r)) low = absurd (omega arith)

-- the reply to a CUT of the two
cut_reply : IsCutReport 1 sheet tree 0 1 (codes "@1 CUT 5 side a\n")
unfolding cut_text tables up_after width_after root_of digits
cut_reply = record {
  child = 1;
  least_edge = least_edge;
  side = true ∷ false ∷ [];
  side_is = record { size = refl; shows = side_shown };
  least = least;
  text_is = refl;
}

-- a reply by version 1 that publishes nothing
by_first : (P : Type 0) → P → IsTold true (made ∷ []) 1 1 0 P
by_first P told = record {
  keeps = record { later = omega arith; there = omega arith; same = λ only. refl };
  told = told;
  counted = refl;
}

-- and the text that answers them
answered : Alone (made ∷ []) 0 items
    (codes "@1 LOADED routers 2 links 1\n@1 CUT 5 side a\n@1 TREE 1\nb a 5\n@1 NO 5\n@1 NO 18 line 1\n@1 BYE\n")
unfolding items loaded_text bye_text refused_text cut_text tree_text tables up_after width_after is_terminal root_of
    number_in digits
answered = record {
  loads = 1;
  answers = record {
    reply = codes "@1 LOADED routers 2 links 1\n";
    rest = codes "@1 CUT 5 side a\n@1 TREE 1\nb a 5\n@1 NO 5\n@1 NO 18 line 1\n@1 BYE\n";
    next = 1;
    loaded = 1;
    others = 0;
    step = inl (record {
      later = omega arith;
      made = made;
      place = refl;
      shows = refl;
      there = omega arith;
      text = refl;
      same = λ only. refl;
      counted = refl;
    });
    joins = refl;
    sum = refl;
    on = record {
      reply = codes "@1 CUT 5 side a\n";
      rest = codes "@1 TREE 1\nb a 5\n@1 NO 5\n@1 NO 18 line 1\n@1 BYE\n";
      next = 1;
      loaded = 0;
      others = 0;
      step = by_first _ cut_reply;
      joins = refl;
      sum = refl;
      on = record {
        reply = codes "@1 TREE 1\nb a 5\n";
        rest = codes "@1 NO 5\n@1 NO 18 line 1\n@1 BYE\n";
        next = 1;
        loaded = 0;
        others = 0;
        step = by_first _ refl;
        joins = refl;
        sum = refl;
        on = record {
          reply = codes "@1 NO 5\n";
          rest = codes "@1 NO 18 line 1\n@1 BYE\n";
          next = 1;
          loaded = 0;
          others = 0;
          step = by_first _ refl;
          joins = refl;
          sum = refl;
          on = record {
            reply = codes "@1 NO 18 line 1\n";
            rest = codes "@1 BYE\n";
            next = 1;
            loaded = 0;
            others = 0;
            step = by_first _ (inl refl);
            joins = refl;
            sum = refl;
            on = record {
              reply = codes "@1 BYE\n";
              rest = [];
              next = 1;
              loaded = 0;
              others = 0;
              step = by_first _ refl;
              joins = refl;
              sum = refl;
              on = (refl, refl, refl);
            };
          };
        };
      };
    };
  };
}

-- where others publish, a session that saw one record may answer from a later one
later : Answers false (made ∷ made ∷ made ∷ []) 1 (Bye ∷ []) (codes "@3 BYE\n") 3 0
unfolding bye_text digits
later = record {
  reply = codes "@3 BYE\n";
  rest = [];
  next = 3;
  loaded = 0;
  others = 0;
  step = record {
    keeps = record { later = omega arith; there = omega arith; same = λ only. absurd (cc) };
    told = refl;
    counted = refl;
  };
  joins = refl;
  sum = refl;
  on = (refl, refl, refl);
}
