-- Doors that several desks serve, put together.
use Rattle.std.proofs.Common.{◌≡◌, ℕ, zero, suc, ◌+◌, ◌<◌, ◌≤◌, min, List, [], ◌∷◌, ◌++◌, Bool, true, false, ◌||◌}
use Rattle.std.proofs.Common.{All, ◌⊎◌, inl, inr, drop, get_or, length, map, sum_by, take}
use Rattle.std.proofs.Common.{refl, sym, ap, ◌∙◌, arith, subst, append_assoc, length-append}
use Rattle.std.proofs.Math.Bool.{or_assoc}
use Rattle.std.proofs.Math.Seq.{drop-append_seam, take-append_seam}
use Rattle.std.proofs.lemmas.Bool.{cases_lt, false≢true}
use Rattle.std.proofs.lemmas.List.{append-nil, drop-map, drop_all, length-drop, length-map, map-append, take_all}
use Rattle.std.proofs.lemmas.List.Sums.{sum_by-append, sum_by-cons}
use Rattle.std.proofs.lemmas.Simd.{map-map}
use Rattle.desks.specs.Boards.{DoorsServed}
use Rattle.desks.specs.Desks.{AreFronts, DeskView, Queue, ServeDoors, ServesFirst, ServesFront, Works}
use Rattle.desks.specs.Desks.{all_of, all_published, seen_round}
use Rattle.desks.specs.Doors.{AnyRose, AreServed, DoorView, IsServed, Round, ServesDoor, Station}
use Rattle.desks.specs.Doors.{both, end_of, nothing, station}
use Rattle.desks.specs.declared.doors.DoorEnd.{DoorEnd}
use Rattle.desks.specs.declared.seating.DoorsEnd.{DoorsEnd}
use Rattle.desks.proofs.Visiting.{visits-grow}
use Rattle.session.specs.Shelved.{Shelved}
use Rattle.session.proofs.Answering.{Grows-trans, grows_none}
use Rattle.tree_versions.specs.Boards.{IsFrontOf, SeatView}
use Rattle.tree_versions.specs.Records.{Grows, RecordView}
use Rattle.tree_versions.specs.declared.shelf.TheConstants.{MOST_RECORDS}
use Rattle.wires.specs.Causes.{CountsOne, Rose}

-- ---- ends of doors

-- ends of the same numbers are the same
same_end : (one other : DoorsEnd) → one.clients ≡ other.clients → one.failed ≡ other.failed → one ≡ other
same_end one other clients failed =
    ap (λ (n : ℕ). (let end : DoorsEnd = record { clients = n; failed = one.failed } in end)) clients
    ∙ ap (λ (b : Bool). (let end : DoorsEnd = record { clients = other.clients; failed = b } in end)) failed

-- or is put before nothing
or-none : (b : Bool) → (b || false) ≡ b
or-none true = refl
or-none false = refl

-- no door more
both-none : (one : DoorsEnd) → both one nothing ≡ one
both-none one = same_end (both one nothing) one (omega arith) (or-none one.failed)

-- no door before
none-both : (one : DoorsEnd) → both nothing one ≡ one
none-both one = same_end (both nothing one) one (omega arith) refl

-- three together
both-assoc : (one two three : DoorsEnd) → both (both one two) three ≡ both one (both two three)
both-assoc one two three =
    same_end (both (both one two) three) (both one (both two three)) (omega arith)
    (or_assoc one.failed two.failed three.failed)

-- several and one more
pub all-last : {X : Type 0} (end_at : X → DoorEnd) (xs : List X) (x : X)
    → both (all_of end_at xs) (end_of (end_at x)) ≡ all_of end_at (xs ++ x ∷ [])
all-last end_at [] x = none-both (end_of (end_at x)) ∙ sym (both-none (end_of (end_at x)))
all-last end_at (y ∷ xs) x =
    both-assoc (end_of (end_at y)) (all_of end_at xs) (end_of (end_at x))
    ∙ ap (both (end_of (end_at y))) (all-last end_at xs x)

-- ---- doors one after another

-- a door stays served while the list grows
pub is_served-grow : (records all : List RecordView) → Grows records all → length all ≤ MOST_RECORDS
    → (quota : ℕ) (old new : DoorView) (end : DoorsEnd) (loads : ℕ) → IsServed records quota old new end loads
    → IsServed all quota old new end loads
is_served-grow records all grows few quota old new end loads is = record {
  visits = is.visits;
  told = is.told;
  last = is.last;
  answered = visits-grow records all grows few 0 is.visits is.last loads is.answered;
  counted = is.counted;
  few = is.few;
  through = is.through;
  shut = is.shut;
  stays = is.stays;
  cause = is.cause;
  nobody = is.nobody;
}

-- one round, and then another
abbrev pub then_round : {D : Type 0} → Round D → Round D → Round D
then_round one other =
    record { olds = one.olds ++ other.olds; news = one.news ++ other.news; end = both one.end other.end }

-- some doors, and then some more
served-append : (records : List RecordView) (quota : ℕ) (olds news : List DoorView) (end : DoorsEnd) (loads : ℕ)
    (next : Round DoorView) (more : ℕ) → AreServed records quota olds news end loads
    → AreServed records quota next.olds next.news next.end more
    → AreServed records quota (olds ++ next.olds) (news ++ next.news) (both end next.end) (loads + more)
served-append records quota [] [] end loads next more are rest =
    subst (λ (e : DoorsEnd). AreServed records quota next.olds next.news e (loads + more))
    (sym (ap (λ (e : DoorsEnd). both e next.end) are.0 ∙ none-both next.end))
    (subst (λ (n : ℕ). AreServed records quota next.olds next.news next.end n) (omega (arith, are.1)) rest)
served-append records quota [] (new ∷ news) end loads next more are rest = absurd are
served-append records quota (old ∷ olds) [] end loads next more are rest = absurd are
served-append records quota (old ∷ olds) (new ∷ news) end loads next more are rest = record {
  own = are.own;
  others = both are.others next.end;
  loaded = are.loaded;
  more = are.more + more;
  served = are.served;
  sum = ap (λ (e : DoorsEnd). both e next.end) are.sum ∙ both-assoc are.own are.others next.end;
  all_loads = omega (arith, are.all_loads);
  on = served-append records quota olds news are.others are.more next more are.on rest;
}

-- one door alone
abbrev pub one_door : DoorView → DoorView → DoorEnd → Round DoorView
one_door old new end = record { olds = old ∷ []; news = new ∷ []; end = end_of end }

-- one door that a desk served is served over the whole list
served-one : (records : List RecordView) → length records ≤ MOST_RECORDS → (quota : ℕ) (start now : Station)
    (end : DoorEnd) → (one : ServesDoor quota start now end) → Grows now.shelf.seen records
    → AreServed records quota (start.door ∷ []) (now.door ∷ []) (end_of end) one.loads
served-one records few quota start now end one grows = record {
  own = end_of end;
  others = nothing;
  loaded = one.loads;
  more = 0;
  served = is_served-grow now.shelf.seen records grows few quota start.door now.door (end_of end) one.loads one.served;
  sum = sym (both-none (end_of end));
  all_loads = omega arith;
  on = (refl, refl);
}

-- ---- doors that failed

-- where a fault is counted, the count rose
failed-rose : (before now : ℕ) (failed : Bool) → CountsOne before now failed → failed ≡ true → Rose before now
failed-rose before now true counts is = omega (arith, counts.failed)
failed-rose before now false counts is = absurd (false≢true is)

-- or of the first and the others
one-rose : (one other : Bool) {P Q : Type 0} → (one ≡ true → P) → (other ≡ true → Q) → (one || other) ≡ true → P ⊎ Q
one-rose true other first rest is = inl (first refl)
one-rose false other first rest is = inr (rest is)

-- where doors together failed, one of them did
rose-any : (records : List RecordView) (quota : ℕ) (olds news : List DoorView) (end : DoorsEnd) (loads : ℕ)
    → AreServed records quota olds news end loads → end.failed ≡ true → AnyRose olds news
rose-any records quota [] [] end loads are failed =
    false≢true (sym (ap (λ (e : DoorsEnd). e.failed) are.0) ∙ failed)
rose-any records quota [] (new ∷ news) end loads are failed = absurd are
rose-any records quota (old ∷ olds) [] end loads are failed = absurd are
rose-any records quota (old ∷ olds) (new ∷ news) end loads are failed =
    one-rose are.own.failed are.others.failed (failed-rose old.faults new.faults are.own.failed are.served.cause)
    (rose-any records quota olds news are.others are.more are.on)
    (sym (ap (λ (e : DoorsEnd). e.failed) are.sum) ∙ failed)

-- one of the first doors is one of all
rose-first : (count : ℕ) (olds news : List DoorView) → AnyRose (take count olds) (take count news)
    → AnyRose olds news
rose-first zero olds news rose = absurd rose
rose-first (suc count) [] [] rose = absurd rose
rose-first (suc count) [] (new ∷ news) rose = absurd rose
rose-first (suc count) (old ∷ olds) [] rose = absurd rose
rose-first (suc count) (old ∷ olds) (new ∷ news) (inl rose) = inl rose
rose-first (suc count) (old ∷ olds) (new ∷ news) (inr rose) = inr (rose-first count olds news rose)

-- where doors that were served failed, one of them did
pub served-rose : (quota count : ℕ) (records : List RecordView) (round : Round DoorView)
    → DoorsServed quota count records round → round.end.failed ≡ true → AnyRose round.olds round.news
served-rose quota count records round done failed =
    rose-first count round.olds round.news
    (rose-any records quota (take count round.olds) (take count round.news) round.end (length records) done.served
    failed)

-- ---- desks side by side

-- what desks of these views did together
abbrev pub round_of : {X : Type 0} → (X → DeskView) → List X → List X → Round DoorView
round_of view olds news = record {
  olds = map (λ x. (view x).at.door) olds;
  news = map (λ x. (view x).at.door) news;
  end = all_of (λ x. (view x).end) news;
}

-- desks that each served a door served all these doors
desks-serve : {X : Type 0} (view : X → DeskView) (quota : ℕ) (olds news : List X) → length news ≡ length olds
    → ((i : ℕ) (d : X) → i < length olds → Works quota (view (get_or olds i d)) (view (get_or news i d)))
    → ServeDoors quota (map (λ x. (view x).at.shelf) olds) (map (λ x. (view x).at.shelf) news)
    (round_of view olds news)
desks-serve view quota [] [] size each = record {
  loads = 0;
  counted = refl;
  served = λ records fronts few. (refl, refl);
}
desks-serve view quota [] (new ∷ news) size each = absurd (omega (arith, size))
desks-serve view quota (old ∷ olds) [] size each = absurd (omega (arith, size))
desks-serve view quota (old ∷ olds) (new ∷ news) size each =
    let one = each 0 old (omega arith) in
    let others = desks-serve view quota olds news (omega (arith, size))
    (λ i d low. each (suc i) d (omega (arith, low))) in
    record {
      loads = one.loads + others.loads;
      counted = omega (arith, one.counted, others.counted);
      served = λ records fronts few. record {
        own = end_of (view new).end;
        others = all_of (λ x. (view x).end) news;
        loaded = one.loads;
        more = others.loads;
        served = is_served-grow (view new).at.shelf.seen records fronts.0 few quota (view old).at.door
            (view new).at.door (end_of (view new).end) one.loads one.served;
        sum = refl;
        all_loads = refl;
        on = others.served records fronts.1 few;
      };
    }

-- ---- one shelf more

-- what grew of one shelf among others
fronts-before : (records : List RecordView) (others : List Shelved) (start now : Shelved)
    → Grows start.seen now.seen → AreFronts records (others ++ now ∷ []) → AreFronts records (others ++ start ∷ [])
fronts-before records [] start now grows fronts =
    (Grows-trans start.seen now.seen records grows fronts.0, fronts.1)
fronts-before records (one ∷ others) start now grows fronts =
    (fronts.0, fronts-before records others start now grows fronts.1)

-- the last one of shelves has seen a front
fronts-last : (records : List RecordView) (others : List Shelved) (last : Shelved)
    → AreFronts records (others ++ last ∷ []) → Grows last.seen records
fronts-last records [] last fronts = fronts.0
fronts-last records (one ∷ others) last fronts = fronts-last records others last fronts.1

-- what was published through shelves and one more
published-last : (others : List Shelved) (last : Shelved)
    → all_published (others ++ last ∷ []) ≡ all_published others + last.published
published-last [] last = omega arith
published-last (one ∷ others) last = omega (arith, published-last others last)

-- ---- doors by one shelf behind those of several

-- what is served over one of several shelves afterwards
serve-both : {quota : ℕ} {starts : List Shelved} (front : List Shelved) (mid now : Shelved) (one next : Round DoorView)
    → Grows mid.seen now.seen → ServeDoors quota starts (front ++ mid ∷ []) one
    → ServeDoors quota (mid ∷ []) (now ∷ []) next
    → ServeDoors quota starts (front ++ now ∷ []) (then_round one next)
serve-both {quota = quota} front mid now one next grows first second = record {
  loads = first.loads + second.loads;
  counted = omega (
    arith,
    first.counted,
    second.counted,
    published-last front mid,
    published-last front now,
  );
  served = λ records fronts few. served-append records quota one.olds one.news one.end first.loads next second.loads
      (first.served records (fronts-before records front mid now grows fronts) few)
      (second.served records (fronts-last records front now fronts, tt) few);
}

-- one door more over one shelf
serve-more : {quota : ℕ} {start : Shelved} (mid now : Station) (round : Round DoorView) (end : DoorEnd)
    → ServeDoors quota (start ∷ []) (mid.shelf ∷ []) round → ServesDoor quota mid now end
    → ServeDoors quota (start ∷ []) (now.shelf ∷ []) (then_round round (one_door mid.door now.door end))
serve-more {quota = quota} mid now round end before door =
    serve-both [] mid.shelf now.shelf round (one_door mid.door now.door end) door.grows before (record {
      loads = door.loads;
      counted = omega (arith, door.counted);
      served = λ records fronts few. served-one records few quota mid now end door fronts.0;
    })

-- of the doors that wait none was taken
pub front-none : {D : Type 0} (view : D → DoorView) (quota : ℕ) (shelf : Shelved) (queue : Queue D)
    → ServesFront view quota 0 shelf shelf queue queue nothing
front-none view quota shelf queue = record {
  olds = [];
  news = [];
  count_is = refl;
  news_are = refl;
  taken = refl;
  given = sym (append-nil queue.doors);
  grows = grows_none shelf.seen;
  served = record {
    loads = 0;
    counted = omega arith;
    served = λ records fronts few. (refl, refl);
  };
}

-- A door's turn: it comes first among those that wait, is served over a shelf, and is put behind others.
pub record Turn (D : Type 0) : Type 0 where
  pub mid : Shelved
  pub now : Shelved
  pub door : D
  pub left : D
  pub rest : List D
  pub doors : List D
  pub end : DoorEnd

-- some doors had their turn, and then one more
pub front-more : {D : Type 0} (view : D → DoorView) {quota count : ℕ} {start : Shelved} {first : Queue D}
    {end : DoorsEnd} (turn : Turn D)
    → ServesFront view quota count start turn.mid first
    (record { waiting = turn.door ∷ turn.rest; doors = turn.doors }) end
    → ServesDoor quota (station turn.mid (view turn.door)) (station turn.now (view turn.left)) turn.end
    → ServesFront view quota (count + 1) start turn.now first
    (record { waiting = turn.rest; doors = turn.doors ++ turn.left ∷ [] }) (both end (end_of turn.end))
front-more {D = D} view {quota = quota} {start = start} {first = first} {end = end} turn before one = record {
  olds = before.olds ++ turn.door ∷ [];
  news = before.news ++ turn.left ∷ [];
  count_is = omega (arith, before.count_is, length-append before.olds (turn.door ∷ []));
  news_are = omega (arith, before.news_are, length-append before.news (turn.left ∷ []));
  taken = before.taken ∙ sym (append_assoc before.olds (turn.door ∷ []) turn.rest);
  given = ap (λ doors. doors ++ turn.left ∷ []) before.given
      ∙ append_assoc first.doors before.news (turn.left ∷ []);
  grows = Grows-trans start.seen turn.mid.seen turn.now.seen before.grows one.grows;
  served = subst (λ (doors : List DoorView). ServeDoors quota (start ∷ []) (turn.now ∷ [])
      (record { olds = doors; news = map view (before.news ++ turn.left ∷ []); end = sum }))
      (sym (map-append view before.olds (turn.door ∷ [])))
      (subst (λ (doors : List DoorView). ServeDoors quota (start ∷ []) (turn.now ∷ [])
      (record { olds = map view before.olds ++ view turn.door ∷ []; news = doors; end = sum }))
      (sym (map-append view before.news (turn.left ∷ [])))
      (serve-more (station turn.mid (view turn.door)) (station turn.now (view turn.left))
      (seen_round view (record { olds = before.olds; news = before.news; end = end })) turn.end before.served one));
}
  where
    sum : DoorsEnd
    sum = both end (end_of turn.end)

-- ---- what holds of each door

-- what holds of the doors of desks, and of more behind them, holds of each desk's door
pub all-front : {X D : Type 0} (P : D → Type 0) (door_of : X → D) (desks : List X) (rest : List D)
    → All P (map door_of desks ++ rest) → (k : ℕ) (d : X) → k < length desks → P (door_of (get_or desks k d))
all-front P door_of [] rest all k d low = absurd (omega (arith, low))
all-front P door_of (desk ∷ desks) rest all zero d low = all 0 (door_of desk) (omega arith)
all-front P door_of (desk ∷ desks) rest all (suc k) d low =
    all-front P door_of desks rest (λ i e less. all (suc i) e (omega (arith, less))) k d (omega (arith, low))

-- and of each of the doors behind them
pub all-back : {X D : Type 0} (P : D → Type 0) (door_of : X → D) (desks : List X) (rest : List D)
    → All P (map door_of desks ++ rest) → All P rest
all-back P door_of [] rest all k d low = all k d low
all-back P door_of (desk ∷ desks) rest all k d low =
    all-back P door_of desks rest (λ i e less. all (suc i) e (omega (arith, less))) k d low

-- ---- the first of all doors

-- the front of a list that is as long as is told
take-front : {X : Type 0} (xs ys : List X) (n : ℕ) → length xs ≡ n → take n (xs ++ ys) ≡ xs
take-front xs ys n size = subst (λ m. take m (xs ++ ys) ≡ xs) size (take-append_seam xs ys)

-- and what is behind it
drop-front : {X : Type 0} (xs ys : List X) (n : ℕ) → length xs ≡ n → drop n (xs ++ ys) ≡ ys
drop-front xs ys n size = subst (λ m. drop m (xs ++ ys) ≡ ys) size (drop-append_seam xs ys)

-- what is seen of the front of a list
map-front : {X Y : Type 0} (f : X → Y) (xs front rest : List X) (n : ℕ) → xs ≡ front ++ rest → length front ≡ n
    → take n (map f xs) ≡ map f front
map-front f xs front rest n are size =
    ap (λ ys. take n (map f ys)) are ∙ ap (take n) (map-append f front rest)
    ∙ take-front (map f front) (map f rest) n (length-map front f ∙ size)

-- Desks that hold a kit at a door, and what is seen of these.
pub record Sight (X K D : Type 0) : Type 0 where
  pub kit_of : X → K
  pub door_of : X → D
  pub end_at : X → DoorEnd
  pub shelf_in : K → Shelved
  pub see : D → DoorView

-- what a desk shows
abbrev pub seen_of : {X K D : Type 0} → Sight X K D → X → DeskView
seen_of sight x = record {
  at = record { shelf = sight.shelf_in (sight.kit_of x); door = sight.see (sight.door_of x) };
  end = sight.end_at x;
}

-- What was there before the first doors were served, and behind it: the kits, of which the last one served more doors
-- than one, the doors, and the desks.
pub record FirstDoors (X K D : Type 0) : Type 0 where
  pub kits : List K
  pub front : List K
  pub before : K
  pub last : K
  pub taken : List D
  pub left : List D
  pub olds : List X
  pub news : List X
  pub after : Queue D
  pub end : DoorsEnd

-- Kits were taken to the first of some doors, each desk served its door, and all left. The last kit served some doors
-- more, and the other doors still wait.
pub record AllServed {X K D : Type 0} (sight : Sight X K D) (quota count : ℕ) (first : FirstDoors X K D) : Type 0 where
  pub rest : ℕ
  pub seated : first.taken ≡ map sight.door_of first.olds ++ first.left
  pub kits_are : map sight.kit_of first.olds ≡ first.kits
  pub size : length first.news ≡ length first.olds
  pub each : (i : ℕ) (d : X) → i < length first.olds
      → Works quota (seen_of sight (get_or first.olds i d)) (seen_of sight (get_or first.news i d))
  pub popped : map sight.kit_of first.news ≡ first.front ++ first.before ∷ []
  pub over : ServesFront sight.see quota rest (sight.shelf_in first.before) (sight.shelf_in first.last)
      (record { waiting = first.left; doors = map sight.door_of first.news }) first.after first.end
  pub fit : length first.kits + rest ≡ count

-- all the doors, and how they ended
abbrev pub whole_round : {X K D : Type 0} → Sight X K D → FirstDoors X K D → Round D
whole_round sight first = record {
  olds = first.taken;
  news = first.after.doors ++ first.after.waiting;
  end = both (all_of sight.end_at first.news) first.end;
}

-- the first doors were served then, and the others are as they were
pub first-served : {X K D : Type 0} (sight : Sight X K D) (quota count : ℕ) (first : FirstDoors X K D)
    → AllServed sight quota count first
    → ServesFirst sight.see quota count (map sight.shelf_in first.kits)
    (map sight.shelf_in (first.front ++ first.last ∷ [])) (whole_round sight first)
first-served {X = X} {D = D} sight quota count first all = record {
  served = subst (λ (doors : List DoorView). ServeDoors quota starts nows
      (record { olds = doors; news = take count (map sight.see news); end = sum }))
      (sym (map-front sight.see first.taken old_doors behind count olds_are old_size
      ∙ seen_both first.olds all.over.olds))
      (subst (λ (doors : List DoorView). ServeDoors quota starts nows
      (record { olds = seen_doors first.olds all.over.olds; news = doors; end = sum }))
      (sym (map-front sight.see news new_doors behind count news_are new_size
      ∙ seen_both first.news all.over.news))
      (subst (λ (shelves : List Shelved). ServeDoors quota starts shelves (then_round at_desks over))
      (sym (map-append sight.shelf_in first.front (first.last ∷ [])))
      (serve-both (map sight.shelf_in first.front) (sight.shelf_in first.before) (sight.shelf_in first.last)
      at_desks over all.over.grows desks all.over.served)));
  others = ap (drop count) news_are ∙ drop-front new_doors behind count new_size
      ∙ sym (ap (drop count) olds_are ∙ drop-front old_doors behind count old_size);
}
  where
    starts : List Shelved
    starts = map sight.shelf_in first.kits

    nows : List Shelved
    nows = map sight.shelf_in (first.front ++ first.last ∷ [])

    sum : DoorsEnd
    sum = both (all_of sight.end_at first.news) first.end

    news : List D
    news = first.after.doors ++ first.after.waiting

    behind : List D
    behind = first.after.waiting

    old_doors : List D
    old_doors = map sight.door_of first.olds ++ all.over.olds

    new_doors : List D
    new_doors = map sight.door_of first.news ++ all.over.news

    at_desks : Round DoorView
    at_desks = round_of (seen_of sight) first.olds first.news

    over : Round DoorView
    over = seen_round sight.see (record { olds = all.over.olds; news = all.over.news; end = first.end })

    seen_doors : List X → List D → List DoorView
    seen_doors desks doors = map (λ x. sight.see (sight.door_of x)) desks ++ map sight.see doors

    seen_both : (desks : List X) (doors : List D)
        → map sight.see (map sight.door_of desks ++ doors) ≡ seen_doors desks doors
    seen_both desks doors = map-append sight.see (map sight.door_of desks) doors
        ∙ ap (λ views. views ++ map sight.see doors) (map-map sight.see sight.door_of desks)

    olds_are : first.taken ≡ old_doors ++ behind
    olds_are = all.seated ∙ ap (λ doors. map sight.door_of first.olds ++ doors) all.over.taken
        ∙ sym (append_assoc (map sight.door_of first.olds) all.over.olds behind)

    news_are : news ≡ new_doors ++ behind
    news_are = ap (λ doors. doors ++ behind) all.over.given

    kit_count : length first.olds ≡ length first.kits
    kit_count = sym (length-map first.olds sight.kit_of) ∙ ap length all.kits_are

    old_size : length old_doors ≡ count
    old_size = omega (
      arith,
      length-append (map sight.door_of first.olds) all.over.olds,
      length-map first.olds sight.door_of,
      all.over.count_is,
      kit_count,
      all.fit,
    )

    new_size : length new_doors ≡ count
    new_size = omega (
      arith,
      length-append (map sight.door_of first.news) all.over.news,
      length-map first.news sight.door_of,
      all.over.news_are,
      all.size,
      kit_count,
      all.fit,
    )

    desks : ServeDoors quota starts (map sight.shelf_in first.front ++ sight.shelf_in first.before ∷ [])
        (round_of (seen_of sight) first.olds first.news)
    desks =
        subst (λ (shelves : List Shelved). ServeDoors quota shelves
        (map sight.shelf_in first.front ++ sight.shelf_in first.before ∷ [])
        (round_of (seen_of sight) first.olds first.news))
        (sym (map-map sight.shelf_in sight.kit_of first.olds) ∙ ap (map sight.shelf_in) all.kits_are)
        (subst (λ (shelves : List Shelved). ServeDoors quota
        (map (λ x. sight.shelf_in (sight.kit_of x)) first.olds) shelves
        (round_of (seen_of sight) first.olds first.news))
        (sym (map-map sight.shelf_in sight.kit_of first.news) ∙ ap (map sight.shelf_in) all.popped
        ∙ map-append sight.shelf_in first.front (first.before ∷ []))
        (desks-serve (seen_of sight) quota first.olds first.news all.size all.each))

-- ---- seats of a board

-- what each has seen is a front, told one after another
fronts-each : {X : Type 0} (shelf_in : X → Shelved) (records : List RecordView) (xs : List X)
    → ((k : ℕ) (d : X) → k < length xs → Grows (shelf_in (get_or xs k d)).seen records)
    → AreFronts records (map shelf_in xs)
fronts-each shelf_in records [] each = tt
fronts-each shelf_in records (x ∷ xs) each =
    (each 0 x (omega arith), fronts-each shelf_in records xs (λ k d low. each (suc k) d (omega (arith, low))))

-- what was published through all is the sum of what was published through each
published-sum : {X : Type 0} (shelf_in : X → Shelved) (xs : List X)
    → all_published (map shelf_in xs) ≡ sum_by (λ x. (shelf_in x).published) xs
published-sum shelf_in [] = refl
published-sum shelf_in (x ∷ xs) =
    omega (arith, published-sum shelf_in xs, sum_by-cons (λ y. (shelf_in y).published) x xs)

-- a sum with one more
pub sum-last : {X : Type 0} (f : X → ℕ) (xs : List X) (x : X) (ys : List X) → ys ≡ xs ++ x ∷ []
    → sum_by f ys ≡ sum_by f xs + f x
sum-last f xs x ys more = omega (arith, ap (sum_by f) more, sum_by-append f xs (x ∷ []))

-- what a seat shows as a shelf
abbrev pub shelf_of : SeatView → Shelved
shelf_of seat = record { seen = seat.seen; published = seat.own }

-- Desks with seats of one board served doors, from new seats on, and the board was closed with this list.
pub record HasClosed {K D : Type 0} (seat_of : K → SeatView) (view : D → DoorView) (quota count : ℕ)
    (records : List RecordView) (round : Round D) : Type 0 where
  pub before : List K
  pub after : List K
  pub first : ServesFirst view quota count (map (λ kit. shelf_of (seat_of kit)) before)
      (map (λ kit. shelf_of (seat_of kit)) after) round
  pub fresh : sum_by (λ kit. (seat_of kit).own) before ≡ 0
  pub fronts : All (λ seat. IsFrontOf records seat.seen) (map seat_of after)
  pub own : sum_by (λ (seat : SeatView). seat.own) (map seat_of after) ≡ length records
  pub few : length records ≤ MOST_RECORDS

-- the doors were served over that list, and the networks that were loaded are as many as it has
pub closed-served : {K D : Type 0} (seat_of : K → SeatView) (view : D → DoorView) (quota count : ℕ)
    (records : List RecordView) (round : Round D) → HasClosed seat_of view quota count records round
    → DoorsServed quota count records (seen_round view round)
closed-served seat_of view quota count records round closed = record {
  served = subst (λ (n : ℕ). AreServed records quota (take count (map view round.olds))
      (take count (map view round.news)) round.end n)
      loads (closed.first.served.served records fronts closed.few);
  others = drop-map view count round.news ∙ ap (map view) closed.first.others ∙ sym (drop-map view count round.olds);
}
  where
    shelves : map shelf_of (map seat_of closed.after) ≡ map (λ kit. shelf_of (seat_of kit)) closed.after
    shelves = map-map shelf_of seat_of closed.after

    fronts : AreFronts records (map (λ kit. shelf_of (seat_of kit)) closed.after)
    fronts = subst (AreFronts records) shelves
        (fronts-each shelf_of records (map seat_of closed.after) (λ k d low. (closed.fronts k d low).grows))

    loads : closed.first.served.loads ≡ length records
    loads = omega (
      arith,
      closed.first.served.counted,
      published-sum (λ kit. shelf_of (seat_of kit)) closed.before,
      closed.fresh,
      ap all_published shelves,
      published-sum shelf_of (map seat_of closed.after),
      closed.own,
    )

-- ---- as many doors as there are, or as there are desks

-- where there are no more doors than desks, those behind the first are none
pub others-all : {D : Type 0} (desks count : ℕ) (olds news : List D) → count ≡ min (length olds) desks
    → drop count news ≡ drop count olds → drop desks news ≡ drop desks olds
others-all desks count olds news least others = elim (cases_lt (length olds) desks) [
  | inr many ↦ subst (λ n. drop n news ≡ drop n olds) (omega (arith, least, many)) others
  | inl fewer ↦ (
      let size : count ≡ length olds = omega (arith, least, fewer) in
      let none : drop count news ≡ [] = others ∙ drop_all count olds (omega (arith, size)) in
      let short : length news ≤ count = omega (arith, ap length none, length-drop count news) in
      drop_all desks news (omega (arith, short, size, fewer)) ∙ sym (drop_all desks olds (omega (arith, fewer)))
      )
]

-- and the first are all
pub doors-all : (quota desks count : ℕ) (records : List RecordView) (round : Round DoorView)
    → count ≡ min (length round.olds) desks → DoorsServed quota count records round
    → DoorsServed quota desks records round
doors-all quota desks count records round least done = elim (cases_lt (length round.olds) desks) [
  | inr many ↦ subst (λ n. DoorsServed quota n records round) (omega (arith, least, many)) done
  | inl fewer ↦ fewest fewer
]
  where
    fewest : length round.olds < desks → DoorsServed quota desks records round
    fewest fewer =
        let size : count ≡ length round.olds = omega (arith, least, fewer) in
        let none : drop count round.news ≡ [] = done.others ∙ drop_all count round.olds (omega (arith, size)) in
        let short : length round.news ≤ count = omega (arith, ap length none, length-drop count round.news) in
        record {
          served = subst (λ (doors : List DoorView). AreServed records quota doors (take desks round.news) round.end
              (length records))
              (take_all count round.olds (omega (arith, size)) ∙ sym (take_all desks round.olds (omega (arith, fewer))))
              (subst (λ (doors : List DoorView). AreServed records quota (take count round.olds) doors round.end
              (length records))
              (take_all count round.news short ∙ sym (take_all desks round.news (omega (arith, short, size, fewer))))
              done.served);
          others = others-all desks count round.olds round.news least done.others;
        }
