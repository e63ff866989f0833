-- From the work of turns to what is said of a session's end.
use Rattle.std.proofs.Common.{◌≡◌, ℕ, ◌≤◌, List, [], ◌++◌, Bool, true, false, length, refl, sym, ap, ◌∙◌}
use Rattle.std.proofs.Common.{◌⊎◌, arith, inl, inr, subst, take}
use Rattle.std.specs.Io.KnownBytes.{Appends}
use Rattle.std.proofs.Math.Seq.{take-append_seam}
use Rattle.std.proofs.lemmas.List.{append-nil}
use Rattle.line_reader.specs.declared.reader.TheConstants.{MOST_BYTES}
use Rattle.reply_lines.specs.Tails.{Tail}
use Rattle.session.proofs.Answering.{Answers-grow, IsServed-on, reached_last, serves_none}
use Rattle.session.proofs.Stretching.{Stretch-join, Stretch-none, Stretch-on}
use Rattle.session.specs.Goings.{Going, IsFresh}
use Rattle.session.specs.Modes.{IsServed}
use Rattle.session.specs.Points.{IsIdle, MayCome, Owed, Parts, Point, Rest, Stretch, items_after}
use Rattle.session.specs.Sessions.{Breaks, EndsServed, Moment}
use Rattle.text_forms.specs.Items.{Item, items_of}
use Rattle.tree_versions.specs.Records.{RecordView}
use Rattle.tree_versions.specs.declared.shelf.TheConstants.{MOST_RECORDS}

-- nothing may come behind any bytes
none_comes : (ended : Bool) → MayCome ended ended []
none_comes false = tt
none_comes true = (refl, refl)

-- the moment of a point
abbrev pub moment_of : {R C : Type 0} → Point R C → Moment
moment_of p = record { shelf = p.shelf; wire = p.wire }

module _ {R C : Type 0} (Line : List RecordView → R → ℕ → C → List ℕ → C → Type 0) (alone : Bool) where
  -- where no reply is in work, nothing is owed
  pub idle_owes : (a : Point R C) (text : List ℕ) → IsIdle a.work → Owed Line a.shelf.seen a.work text → text ≡ []
  idle_owes a text idle owed =
      let tail = subst (λ (n : ℕ). Tail C (Line a.shelf.seen a.work.reply) n a.work.at.place a.work.at.carry owed.tail)
      idle.left owed.is in
      owed.joins ∙ ap (λ t. t ++ owed.tail) idle.run ∙ tail

  -- and nothing is
  pub idle_owed : (a : Point R C) → IsIdle a.work → Owed Line a.shelf.seen a.work []
  idle_owed a idle = record { tail = []; is = rw idle.left refl; joins = rw idle.run refl }

  -- nothing was done yet
  pub goes_none : (a : Point R C) → length a.shelf.seen ≤ MOST_RECORDS → Going Line alone a a
  goes_none a few = record {
    mid = a;
    earlier = [];
    last = [];
    begun = inr (refl, refl);
    first = Stretch-none Line alone a few;
    second = Stretch-none Line alone a few;
    one = omega arith;
  }

  -- the work goes on without an item
  pub goes_on : (a b c : Point R C) → Going Line alone a b → Stretch Line alone b c [] → Going Line alone a c
  goes_on a b c g s = record {
    mid = g.mid;
    earlier = g.earlier;
    last = g.last;
    begun = g.begun;
    first = g.first;
    second = Stretch-on Line alone g.mid b c g.last g.second s;
    one = g.one;
  }

  -- the whole work is one stretch
  pub going_whole : (a b : Point R C) (g : Going Line alone a b) → Stretch Line alone a b (g.earlier ++ g.last)
  going_whole a b g = Stretch-join Line alone a g.mid b g.earlier g.last g.first g.second

  -- the work goes on with one item where nothing is owed
  pub goes_anew : (a b c : Point R C) (xs : List Item) → Going Line alone a b → IsIdle b.work → length xs ≤ 1
      → Stretch Line alone b c xs → Going Line alone a c
  goes_anew a b c xs g idle one s = record {
    mid = b;
    earlier = g.earlier ++ g.last;
    last = xs;
    begun = inl idle;
    first = going_whole a b g;
    second = s;
    one = one;
  }

  -- the work of two turns, one after the other, is that of one
  pub Going-join : (a b c : Point R C) → Going Line alone a b → Going Line alone b c → Going Line alone a c
  Going-join a b c g h = of_case h.begun
    where
      of_case : IsIdle h.mid.work ⊎ ((h.earlier ≡ []) × (h.last ≡ [])) → Going Line alone a c
      of_case (inl idle) = record {
        mid = h.mid;
        earlier = (g.earlier ++ g.last) ++ h.earlier;
        last = h.last;
        begun = inl idle;
        first = Stretch-join Line alone a b h.mid (g.earlier ++ g.last) h.earlier (going_whole a b g) h.first;
        second = h.second;
        one = h.one;
      }
      of_case (inr none) = goes_on a b c g (subst (Stretch Line alone b c)
          (ap (λ is. is ++ h.last) none.0 ∙ none.1) (going_whole b c h))

  -- work from where nothing was owed has such a point
  going_idle : (a b : Point R C) → length a.shelf.seen ≤ MOST_RECORDS → IsIdle a.work → (g : Going Line alone a b)
      → (h : Going Line alone a b) × IsIdle h.mid.work
  going_idle a b few idle g = of_case g.begun
    where
      of_case : IsIdle g.mid.work ⊎ ((g.earlier ≡ []) × (g.last ≡ [])) → (h : Going Line alone a b) × IsIdle h.mid.work
      of_case (inl at) = (g, at)
      of_case (inr none) = (
        record {
          mid = a;
          earlier = [];
          last = [];
          begun = inl idle;
          first = Stretch-none Line alone a few;
          second = subst (Stretch Line alone a b) (ap (λ is. is ++ g.last) none.0 ∙ none.1) (going_whole a b g);
          one = omega arith;
        },
        idle,
      )

  -- the items that were parted off from a fresh start are all whole items of the bytes that were taken, where none is
  -- left
  fresh_items : (a b : Point R C) (xs : List Item) (s : Stretch Line alone a b xs) → IsFresh a
      → xs ++ items_after b.rest b.wire.ended [] ≡ items_of b.wire.ended s.bytes
  fresh_items a b xs s fresh =
      sym (s.parts.are b.wire.ended [] (none_comes b.wire.ended))
      ∙ ap (λ (r : Rest). items_after r b.wire.ended (s.bytes ++ [])) fresh.rest
      ∙ ap (items_of b.wire.ended) (append-nil s.bytes)

  -- from a fresh start no more bytes were taken than were counted
  fresh_count : (a b : Point R C) (xs : List Item) (s : Stretch Line alone a b xs) → IsFresh a
      → length s.bytes ≡ b.rest.taken
  fresh_count a b xs s fresh = omega (arith, s.parts.count, ap (λ (r : Rest). r.taken) fresh.rest)

  module _ (a b : Point R C) (fresh : IsFresh a) (idle : IsIdle b.work)
      (none : items_after b.rest b.wire.ended [] ≡ []) where
    -- the items that were parted off are all
    all_items : (xs : List Item) (s : Stretch Line alone a b xs) → xs ≡ items_of b.wire.ended s.bytes
    all_items xs s = sym (append-nil xs) ∙ ap (λ is. xs ++ is) (sym none) ∙ fresh_items a b xs s fresh

    -- a stretch from a fresh start to where nothing is owed and no item is left serves all items
    serves : (xs : List Item) (s : Stretch Line alone a b xs)
        → IsServed alone a.shelf b.shelf (items_of b.wire.ended s.bytes) s.written
    serves xs s =
        let o = s.owes [] (idle_owed b idle) in
        let text : o.text ≡ s.written =
        sym (ap (λ t. t ++ o.text) (idle_owes a o.before fresh.idle o.owed)) ∙ sym o.joins ∙ append-nil s.written in
        let served = IsServed-on alone a.shelf a.shelf b.shelf [] xs [] o.text (serves_none alone a.shelf) o.gives in
        subst (λ (is : List Item). IsServed alone a.shelf b.shelf is s.written) (all_items xs s)
        (subst (λ (t : List ℕ). IsServed alone a.shelf b.shelf xs t) text served)

    -- so a session ends that took no more than it may
    pub ends : (P : List ℕ → List Item → Type 0) → Going Line alone a b → b.rest.taken ≤ MOST_BYTES
        → ((bytes : List ℕ) (items : List Item) → length bytes ≡ b.rest.taken
        → Parts a.rest b.rest b.wire.ended bytes items → P bytes items)
        → EndsServed P alone (moment_of a) (moment_of b)
    ends P g most why =
        let xs = g.earlier ++ g.last in
        let s = going_whole a b g in
        let count = fresh_count a b xs s fresh in record {
          bytes = s.bytes;
          text = s.written;
          served = serves xs s;
          gone = s.gone;
          wrote = s.wrote;
          why = subst (P s.bytes) (all_items xs s) (why s.bytes xs count s.parts);
          most = omega (arith, count, most);
        }

  -- a session from a fresh start breaks in the reply to its last item, where something may be owed
  pub breaks : (a b : Point R C) (now : List ℕ) → length a.shelf.seen ≤ MOST_RECORDS → IsFresh a → Going Line alone a b
      → Owed Line b.shelf.seen b.work now → b.rest.taken ≤ MOST_BYTES → Breaks alone (moment_of a) (moment_of b)
  unfolding Stretch-join
  breaks a b now few fresh going owed most =
      let at = going_idle a b few fresh.idle going in
      let g = at.0 in
      let p = g.first in
      let q = g.second in
      let n = q.owes now owed in
      let m = p.owes [] (idle_owed g.mid at.1) in
      let early : m.text ≡ p.written =
      sym (ap (λ t. t ++ m.text) (idle_owes a m.before fresh.idle m.owed)) ∙ sym m.joins ∙ append-nil p.written in
      let late : q.written ++ now ≡ n.text =
      n.joins ∙ ap (λ t. t ++ n.text) (idle_owes g.mid n.before at.1 n.owed) in
      let x = m.gives.leads.on (length a.shelf.seen) (reached_last alone a.shelf.seen) in
      let y = n.gives.leads.on x.last x.reached in
      let front : q.written ≡ take (length q.written) n.text =
      sym (take-append_seam q.written now) ∙ ap (take (length q.written)) late in
      let whole = Stretch-join Line alone a g.mid b g.earlier g.last p q in
      record {
        bytes = whole.bytes;
        earlier = g.earlier;
        last = g.last;
        behind = items_after b.rest b.wire.ended [];
        text = m.text;
        reply = n.text;
        seen = x.last;
        final = y.last;
        loads = m.gives.loads;
        loaded = n.gives.loads;
        count = length q.written;
        whole = sym (fresh_items a b (g.earlier ++ g.last) whole fresh);
        one = g.one;
        grows = whole.grows;
        before = Answers-grow alone g.mid.shelf.seen b.shelf.seen (length a.shelf.seen) g.earlier m.text x.last
            m.gives.loads q.grows n.gives.leads.few x.fact;
        answers = y.fact;
        reached = y.reached;
        counted = omega (arith, m.gives.counted, n.gives.counted);
        gone = whole.gone;
        wrote = subst (λ (t : List ℕ). Appends a.wire.written b.wire.written t)
            (ap (λ t. t ++ q.written) (sym early) ∙ ap (λ t. m.text ++ t) front) whole.wrote;
        most = omega (arith, fresh_count a b (g.earlier ++ g.last) whole fresh, most);
      }
