-- Stretches of work join, and their kinds.
use Rattle.std.proofs.Common.{◌≡◌, ℕ, ◌+◌, ◌≤◌, List, [], ◌∷◌, ◌++◌, Bool, true, false, length, refl, sym, ap, ◌∙◌}
use Rattle.std.proofs.Common.{◌⊎◌, append_assoc, inl, inr, subst, arith, length-append, take, drop, take-append-drop}
use Rattle.std.proofs.KnownBytes.{Appends-trans, Appends-nil, Consumes-trans, Consumes-nil}
use Rattle.std.proofs.lemmas.List.{append-nil}
use Rattle.std.specs.Io.KnownBytes.{Appends, Consumes}
use Rattle.reply_lines.specs.Tails.{Leads, Tail}
use Rattle.session.proofs.Answering.{Gives-join, Gives-still, Grows-trans, grows_none}
use Rattle.session.specs.Modes.{Gives}
use Rattle.session.specs.Points.{IsIdle, MayCome, Owed, Parts, Point, Rest, Stretch, Work, items_after}
use Rattle.text_forms.specs.Items.{Item, Ask, Load, Bye, NoBye}
use Rattle.tree_versions.specs.Records.{RecordView, Grows}
use Rattle.tree_versions.specs.declared.shelf.TheConstants.{MOST_RECORDS}
use Rattle.wires.specs.Lazy.{Wire}

-- what comes behind bytes, seen from before them
comes_before : (b c met : Bool) (bytes more : List ℕ) → (b ≡ true → (c ≡ true) × (bytes ≡ [])) → MayCome c met more
    → MayCome b met (bytes ++ more)
comes_before false c met bytes more ended comes = tt
comes_before true true met bytes more ended comes = (comes.0, let none = (ended refl).1 in simp (none, comes.1))
comes_before true false met bytes more ended comes = absurd (let e = (ended refl).0 in cc)

-- what isn't over now wasn't over before
open_before : (b c : Bool) → (b ≡ true → c ≡ true) → c ≡ false → b ≡ false
open_before false c over e = refl
open_before true c over e = absurd (let o = over refl in cc)

-- two stretches of items without a BYE
pub NoBye-append : (xs ys : List Item) → NoBye xs → NoBye ys → NoBye (xs ++ ys)
NoBye-append [] ys p q = q
NoBye-append (Ask line ∷ xs) ys p q = NoBye-append xs ys p q
NoBye-append (Load text whole ∷ xs) ys p q = NoBye-append xs ys p q
NoBye-append (Bye ∷ xs) ys p q = absurd p

-- What came and was parted off: bytes, whether the end was met then, and items.
pub record Came : Type 0 where
  pub bytes : List ℕ
  pub ended : Bool
  pub items : List Item

-- items that were parted off, and then others
pub Parts-join : (a b c : Rest) (x y : Came) → (x.ended ≡ true → (y.ended ≡ true) × (y.bytes ≡ []))
    → Parts a b x.ended x.bytes x.items → Parts b c y.ended y.bytes y.items
    → Parts a c y.ended (x.bytes ++ y.bytes) (x.items ++ y.items)
Parts-join a b c x y ends p q = record {
  count = omega (arith, p.count, q.count, length-append x.bytes y.bytes);
  are = λ at more comes.
      ap (items_after a at) (append_assoc x.bytes y.bytes more)
      ∙ p.are at (y.bytes ++ more) (comes_before x.ended y.ended at y.bytes more ends comes)
      ∙ ap (λ ks. x.items ++ ks) (q.are at more comes)
      ∙ sym (append_assoc x.items y.items (items_after c at more));
  over = λ e. let m = p.over e in let n = q.over m.0 in (n.0, ap (λ ks. ks ++ y.items) m.1 ∙ n.1);
  bye = λ e. of_case (q.bye e);
  quiet = λ e. NoBye-append x.items y.items (p.quiet (open_before b.over c.over (λ o. (q.over o).0) e)) (q.quiet e);
}
  where
    of_first : b.over ≡ true → (a.over ≡ true) ⊎ ((front : List Item) × (x.items ≡ front ++ Bye ∷ []))
        → (a.over ≡ true) ⊎ ((front : List Item) × (x.items ++ y.items ≡ front ++ Bye ∷ []))
    of_first o (inl e) = inl e
    of_first o (inr f) = inr (f.0, ap (λ ks. x.items ++ ks) (q.over o).1 ∙ append-nil x.items ∙ f.1)

    of_case : (b.over ≡ true) ⊎ ((front : List Item) × (y.items ≡ front ++ Bye ∷ []))
        → (a.over ≡ true) ⊎ ((front : List Item) × (x.items ++ y.items ≡ front ++ Bye ∷ []))
    of_case (inl o) = of_first o (p.bye o)
    of_case (inr f) = inr (x.items ++ f.0, ap (λ ks. x.items ++ ks) f.1 ∙ sym (append_assoc x.items f.0 (Bye ∷ [])))

-- nothing came, and nothing was parted off
pub Parts-none : (a : Rest) (ended : Bool) → Parts a a ended [] []
Parts-none a ended = record {
  count = omega arith;
  are = λ met more comes. refl;
  over = λ e. (e, refl);
  bye = λ e. inl e;
  quiet = λ e. tt;
}

module _ {R C : Type 0} (Line : List RecordView → R → ℕ → C → List ℕ → C → Type 0) (alone : Bool) where
  -- two stretches, one after the other
  unfoldable pub Stretch-join : (a b c : Point R C) (xs ys : List Item) → Stretch Line alone a b xs
      → Stretch Line alone b c ys → Stretch Line alone a c (xs ++ ys)
  Stretch-join a b c xs ys p q = record {
    bytes = p.bytes ++ q.bytes;
    written = p.written ++ q.written;
    grows = Grows-trans a.shelf.seen b.shelf.seen c.shelf.seen p.grows q.grows;
    gone = Consumes-trans a.wire.left b.wire.left c.wire.left p.bytes q.bytes p.gone q.gone;
    wrote = Appends-trans a.wire.written b.wire.written c.wire.written p.written q.written p.wrote q.wrote;
    ended = λ met. let m = p.ended met in let n = q.ended m.0 in (n.0, simp (m.1, n.1));
    parts = Parts-join a.rest b.rest c.rest (record { bytes = p.bytes; ended = b.wire.ended; items = xs })
        (record { bytes = q.bytes; ended = c.wire.ended; items = ys }) q.ended p.parts q.parts;
    owes = λ now owed. let o = q.owes now owed in let n = p.owes o.before o.owed in record {
      before = n.before;
      text = n.text ++ o.text;
      owed = n.owed;
      joins = append_assoc p.written q.written now ∙ ap (λ t. p.written ++ t) o.joins
          ∙ sym (append_assoc p.written o.before o.text) ∙ ap (λ t. t ++ o.text) n.joins
          ∙ append_assoc n.before n.text o.text;
      gives = Gives-join alone a.shelf b.shelf c.shelf xs ys n.text o.text n.gives o.gives;
    };
  }

  -- a stretch goes on without an item
  pub Stretch-on : (a b c : Point R C) (xs : List Item) → Stretch Line alone a b xs → Stretch Line alone b c []
      → Stretch Line alone a c xs
  Stretch-on a b c xs p q = subst (Stretch Line alone a c) (append-nil xs) (Stretch-join a b c xs [] p q)

  -- Nothing was taken, and what is owed now was owed before, behind what was written.
  pub record Works (a : Point R C) (wire : Wire) (work : Work R C) : Type 0 where
    pub written : List ℕ
    pub left : wire.left ≡ a.wire.left
    pub ended : wire.ended ≡ a.wire.ended
    pub wrote : Appends a.wire.written wire.written written
    pub owed : (now : List ℕ) → Owed Line a.shelf.seen work now → Owed Line a.shelf.seen a.work (written ++ now)

  module _ (a : Point R C) (few : length a.shelf.seen ≤ MOST_RECORDS) where
    -- work on a reply alone
    pub worked : (wire : Wire) (work : Work R C) → Works a wire work
        → Stretch Line alone a (record a { wire = wire; work = work }) []
    worked wire work w = record {
      bytes = [];
      written = w.written;
      grows = grows_none a.shelf.seen;
      gone = rw w.left (Consumes-nil a.wire.left);
      wrote = w.wrote;
      ended = λ met. (w.ended ∙ met, refl);
      parts = Parts-none a.rest wire.ended;
      owes = λ now is. record {
        before = w.written ++ now;
        text = [];
        owed = w.owed now is;
        joins = sym (append-nil (w.written ++ now));
        gives = Gives-still alone a.shelf few;
      };
    }

    -- nothing was done
    pub Stretch-none : Stretch Line alone a a []
    Stretch-none = worked a.wire a.work (record {
      written = [];
      left = refl;
      ended = refl;
      wrote = Appends-nil a.wire.written;
      owed = λ now is. is;
    })

    -- the peer took some bytes of the run
    pub put : (wire : Wire) (count : ℕ) → wire.left ≡ a.wire.left → wire.ended ≡ a.wire.ended
        → Appends a.wire.written wire.written (take count a.work.run)
        → Stretch Line alone a
        (record a { wire = wire; work = record a.work { run = drop count a.work.run } }) []
    put wire count left ended wrote = worked wire (record a.work { run = drop count a.work.run }) (record {
      written = take count a.work.run;
      left = left;
      ended = ended;
      wrote = wrote;
      owed = λ now is. record {
        tail = is.tail;
        is = is.is;
        joins = ap (λ t. take count a.work.run ++ t) is.joins
            ∙ sym (append_assoc (take count a.work.run) (drop count a.work.run) is.tail)
            ∙ ap (λ t. t ++ is.tail) (take-append-drop count a.work.run);
      };
    })

    -- the empty run was filled with the next lines
    pub filled : (work : Work R C) → a.work.run ≡ [] → work.reply ≡ a.work.reply
        → Leads C (Line a.shelf.seen a.work.reply) a.work.at work.run work.at
        → Stretch Line alone a (record a { work = work }) []
    filled work none same leads = worked a.wire work (record {
      written = [];
      left = refl;
      ended = refl;
      wrote = Appends-nil a.wire.written;
      owed = λ now is. record {
        tail = work.run ++ is.tail;
        is = leads is.tail (subst (λ (r : R). Tail C (Line a.shelf.seen r) work.at.left work.at.place work.at.carry
            is.tail) same is.is);
        joins = is.joins ∙ ap (λ t. t ++ (work.run ++ is.tail)) (sym none);
      };
    })

    -- bytes were read, or the end was met, and nothing else was done
    pub read : (wire : Wire) (bytes : List ℕ) → Consumes a.wire.left wire.left bytes
        → wire.written ≡ a.wire.written → (a.wire.ended ≡ true → (wire.ended ≡ true) × (bytes ≡ []))
        → Stretch Line alone a (record a {
          wire = wire;
          rest = record a.rest { taken = a.rest.taken + length bytes; bytes = a.rest.bytes ++ bytes };
        }) []
    read wire bytes gone wrote ended = record {
      bytes = bytes;
      written = [];
      grows = grows_none a.shelf.seen;
      gone = gone;
      wrote = rw wrote (Appends-nil a.wire.written);
      ended = ended;
      parts = record {
        count = refl;
        are = λ met more comes. rw (append_assoc a.rest.bytes bytes more);
        over = λ e. (e, refl);
        bye = λ e. inl e;
        quiet = λ e. tt;
      };
      owes = λ now is. record {
        before = now;
        text = [];
        owed = is;
        joins = sym (append-nil now);
        gives = Gives-still alone a.shelf few;
      };
    }

    -- no byte came, and nothing else was done
    pub waited : (wire : Wire) → Consumes a.wire.left wire.left [] → wire.written ≡ a.wire.written
        → (a.wire.ended ≡ true → wire.ended ≡ true) → Stretch Line alone a (record a { wire = wire }) []
    waited wire gone wrote ended = record {
      bytes = [];
      written = [];
      grows = grows_none a.shelf.seen;
      gone = gone;
      wrote = rw wrote (Appends-nil a.wire.written);
      ended = λ met. (ended met, refl);
      parts = Parts-none a.rest wire.ended;
      owes = λ now is. record {
        before = now;
        text = [];
        owed = is;
        joins = sym (append-nil now);
        gives = Gives-still alone a.shelf few;
      };
    }

  -- items were parted off where nothing was owed, and each text that is owed then answers them
  pub begun : (a b : Point R C) (items : List Item) → IsIdle a.work → b.wire ≡ a.wire
      → Grows a.shelf.seen b.shelf.seen → Parts a.rest b.rest b.wire.ended [] items
      → ((text : List ℕ) → Owed Line b.shelf.seen b.work text → Gives alone a.shelf items text b.shelf)
      → Stretch Line alone a b items
  begun a b items idle wire grows parts gives = record {
    bytes = [];
    written = [];
    grows = grows;
    gone = rw wire (Consumes-nil a.wire.left);
    wrote = rw wire (Appends-nil a.wire.written);
    ended = λ met. (rw wire met, refl);
    parts = parts;
    owes = λ now is. record {
      before = [];
      text = now;
      owed = record { tail = []; is = rw idle.left refl; joins = rw idle.run refl };
      joins = refl;
      gives = gives now is;
    };
  }
