-- Doors that are served, client by client and door by door.
use Rattle.std.proofs.Common.{◌≡◌, ◌⊎◌, ℕ, ◌+◌, ◌≤◌, List, [], ◌∷◌, ◌++◌, true, false, map, None, Some}
use Rattle.std.proofs.Common.{refl, sym, ap, ◌∙◌, arith, append_assoc, length-append}
use Rattle.std.proofs.lemmas.Bool.{false≢true}
use Rattle.std.proofs.lemmas.List.{append-nil, map-append}
use Rattle.std.specs.Option.{option_map}
use Rattle.std.specs.declared.option.Option.{Option}
use Rattle.desks.specs.Doors.{DoorView, HasServed, ServesClient, ServesDoor, Station, station}
use Rattle.desks.specs.Visits.{Visit}
use Rattle.desks.specs.declared.doors.DoorEnd.{DoorEnd}
use Rattle.desks.proofs.Visiting.{visits-grow, visits-more}
use Rattle.session.proofs.Answering.{Grows-trans, grows_none}
use Rattle.wires.specs.Causes.{CountsOne}
use Rattle.wires.specs.Doors.{AddsServed, Beginning, IsOut}

-- ---- what a door tells

-- the visits before some more
abbrev pub with_more : List Visit → List Visit → List Visit
with_more more before = before ++ more

-- a client that comes back is one visit more
pub told-back : {C : Type 0} (view : Beginning × C → Visit) (out : Option (Option Beginning)) (client : C)
    (begin : Beginning) (old new : Option (List (Beginning × C))) → IsOut out begin → AddsServed out client old new
    → option_map (map view) new ≡ option_map (with_more (view (begin, client) ∷ [])) (option_map (map view) old)
told-back view out client begin None new is_out adds = rw adds refl
told-back view out client begin (Some served) new is_out adds =
    let told : adds.0 ≡ begin = rw adds.1 at is_out in
    rw (adds.2, told) (ap Some (map-append view served ((begin, client) ∷ [])))

-- no visit more
pub told-none : (visits : Option (List Visit)) → visits ≡ option_map (with_more []) visits
told-none None = refl
told-none (Some visits) = ap Some (sym (append-nil visits))

-- some visits more, and then some more
pub told-more : (one other : List Visit) (visits : Option (List Visit))
    → option_map (with_more other) (option_map (with_more one) visits) ≡ option_map (with_more (one ++ other)) visits
told-more one other None = refl
told-more one other (Some visits) = ap Some (append_assoc visits one other)

-- ---- the clients of a door

-- at first none was served
pub served-none : (start : Station) → HasServed 0 start start
served-none start = record {
  visits = [];
  count_is = refl;
  last = 0;
  loads = 0;
  answered = (refl, refl);
  told = told-none start.door.visits;
  shut = λ ended. refl;
  stays = λ ended. ended;
  reached = omega arith;
  grows = grows_none start.shelf.seen;
  counted = omega arith;
  faults = refl;
}

-- Nothing is told of a further visit or of a fault, and a door that has ended stays so.
pub record IsQuiet (old new : DoorView) : Type 0 where
  pub told : new.visits ≡ old.visits
  pub faults : new.faults ≡ old.faults
  pub stays : old.ended ≡ true → new.ended ≡ true

-- A client comes through a door that hasn't ended.
pub record GivesClient (old new : DoorView) : Type 0 where
  pub quiet : IsQuiet old new
  pub open_still : old.ended ≡ false

-- clients were served, a further one came, and it was served, too
pub served-more : (count : ℕ) (start mid now : Station) (given : DoorView) (begin : Beginning)
    → (before : HasServed count start mid) → GivesClient mid.door given
    → ServesClient before.last begin (station mid.shelf given) now → HasServed (count + 1) start now
served-more count start mid now given begin before gives client = record {
  visits = before.visits ++ visit ∷ [];
  count_is = omega (arith, before.count_is, length-append before.visits (visit ∷ []));
  last = client.last;
  loads = before.loads + client.loads;
  answered = visits-more now.shelf.seen 0 before.visits before.last client.last before.loads client.loads visit
      (visits-grow mid.shelf.seen now.shelf.seen client.grows client.few 0 before.visits before.last before.loads
      before.answered)
      client.answered;
  told = client.told
      ∙ ap (option_map (with_more (visit ∷ []))) (gives.quiet.told ∙ before.told)
      ∙ told-more before.visits (visit ∷ []) start.door.visits;
  shut = λ ended. absurd (was_open ended);
  stays = λ ended. absurd (was_open ended);
  reached = client.reached;
  grows = Grows-trans start.shelf.seen mid.shelf.seen now.shelf.seen before.grows client.grows;
  counted = omega (arith, before.counted, client.counted);
  faults = client.faults ∙ gives.quiet.faults ∙ before.faults;
}
  where
    visit : Visit
    visit = record { begin = begin; back = client.back }

    was_open : start.door.ended ≡ true → ⊥
    was_open ended = false≢true (sym gives.open_still ∙ before.stays ended)

-- No client comes through a door any more, since so many came, none is left, or it failed.
pub record IsThrough (quota : ℕ) (start : DoorView) (end : DoorEnd) (old new : DoorView) : Type 0 where
  pub told : new.visits ≡ old.visits
  pub stays : old.ended ≡ true → new.ended ≡ true
  pub few : end.clients ≤ quota
  pub through : end.failed ≡ false → (end.clients ≡ quota) ⊎ (new.ended ≡ true)
  pub cause : CountsOne start.faults new.faults end.failed
  pub nobody : new.out ≡ None

-- it was served then
pub served-door : (quota : ℕ) (end : DoorEnd) (start mid : Station) (now : DoorView)
    → HasServed end.clients start mid → IsThrough quota start.door end mid.door now
    → ServesDoor quota start (station mid.shelf now) end
served-door quota end start mid now before through = record {
  loads = before.loads;
  served = record {
    visits = before.visits;
    told = through.told ∙ before.told;
    last = before.last;
    answered = before.answered;
    counted = sym before.count_is;
    few = through.few;
    through = through.through;
    shut = before.shut;
    stays = λ ended. through.stays (before.stays ended);
    cause = through.cause;
    nobody = through.nobody;
  };
  grows = before.grows;
  counted = before.counted;
}
