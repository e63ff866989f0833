-- What a reply that was found anew does to the work.
use Rattle.std.proofs.Common.{◌≡◌, ℕ, ◌<◌, ◌≤◌, List, ◌++◌, sym, ap, ◌∙◌, arith, subst, Some}
use Rattle.std.proofs.Common.{Ok}
use Rattle.certifier.specs.Blocks.{Carried, Fits, Layout}
use Rattle.query_lang.specs.Requests.{IsOf}
use Rattle.reply_lines.specs.Tails.{Leads, Spot, Tail}
use Rattle.session.proofs.Laying.{lays_once}
use Rattle.session.proofs.Reporting.{IsLaid, report_leads, report_tail, same_record}
use Rattle.session.specs.Answers.{RepliesTo}
use Rattle.session.specs.Points.{Owed, Work}
use Rattle.session.specs.Reporting.{Fills, IsHeld, IsReporting, IsSound, IsWithin, LaysOut, ReportLine}
use Rattle.session.specs.Reporting.{Reported}
use Rattle.session.specs.Reporting.{Tells, size_in}
use Rattle.session.specs.declared.desk.Asked.{Asked}
use Rattle.tree_versions.specs.Records.{RecordView, record_at, tree_of}

-- The record of a reply in work was found again.
pub record IsFoundAgain (records : List RecordView) (old : Work Asked Carried) (made : RecordView) : Type 0 where
  pub held : IsReporting records old
  pub there : Some made ≡ record_at records old.reply.version

module _ {records : List RecordView} {old : Work Asked Carried} {made : RecordView}
    (found : IsFoundAgain records old made) where
  -- It is the one that was held.
  same_made : found.held.seen ≡ made
  same_made =
      same_record (record_at records old.reply.version) found.held.seen made found.held.there (sym found.there)

  -- So what is laid out has the spot to which the work has come,
  spot_within : (layout : Layout) → LaysOut made old.reply.version old.reply.request layout
      → IsWithin made layout old.at
  spot_within layout lays =
      let held = found.held in
      let lays2 = subst (λ (r : RecordView). LaysOut r old.reply.version old.reply.request held.layout) same_made
      held.lays in
      let one = lays_once made old.reply.version old.reply.request held.layout layout lays2 lays in
      let within : IsWithin held.seen held.layout old.at = record { places = held.places; fits = held.fits } in
      subst (λ (l : Layout). IsWithin made l old.at) one
      (subst (λ (r : RecordView). IsWithin r held.layout old.at) same_made within)

  -- its place is within that
  pub place_within : (layout : Layout) → LaysOut made old.reply.version old.reply.request layout
      → old.at.place ≤ size_in made layout
  place_within layout lays = omega (arith, (spot_within layout lays).places)

  -- and what has to be carried there is.
  pub place_fits : (layout : Layout) → LaysOut made old.reply.version old.reply.request layout
      → Fits (tree_of made) layout old.at.place old.at.carry
  place_fits layout lays = (spot_within layout lays).fits

  module _ (new : Work Asked Carried) (tells : Tells made old.reply old.at.place old.at.carry new.run new.at) where
    -- what the run does
    filled_by : Fills made tells.layout old.at new.run new.at
    filled_by = tells.fills old.at.left (spot_within tells.layout tells.lays).places

    -- the run leads on in the reply
    pub fills_leads : Leads Carried (ReportLine records old.reply) old.at new.run new.at
    fills_leads =
        let laid : IsLaid records old.reply =
        record { seen = made; there = sym found.there; layout = tells.layout; lays = tells.lays } in
        report_leads records old.reply laid old.at new.at new.run filled_by.leads

    -- and fewer lines are left
    pub fills_fewer : 0 < old.at.left → new.at.left < old.at.left
    fills_fewer more = filled_by.fewer more

    -- of the same reply
    pub fills_held : IsSound made → new.reply ≡ old.reply → IsReporting records new
    fills_held sound same = record {
      seen = made;
      there = ap (λ (a : Asked). record_at records a.version) same ∙ sym found.there;
      sound = sound;
      of = subst (λ (a : Asked). IsOf (Some made.sheet) a.request) (sym same)
          (subst (λ (r : RecordView). IsOf (Some r.sheet) old.reply.request) same_made found.held.of);
      layout = tells.layout;
      lays = subst (λ (a : Asked). LaysOut made a.version a.request tells.layout) (sym same) tells.lays;
      places = filled_by.within.places;
      fits = filled_by.within.fits;
    }

module _ (records : List RecordView) (asked : Asked) (work : Work Asked Carried)
    (begun : Reported (record_at records asked.version) asked work) where
  -- what the first run does
  first_fills : Fills begun.made begun.tells.layout
      (record { left = size_in begun.made begun.tells.layout; place = 0; carry = begun.carry }) work.run work.at
  first_fills = begun.tells.fills (size_in begun.made begun.tells.layout) (omega arith)

  -- all that a reply which was begun owes is that reply
  pub begun_tells : (text : List ℕ) → Owed ReportLine records work text
      → RepliesTo (record_at records asked.version) asked.version (Ok asked.request) text
  begun_tells text owed =
      let laid : IsLaid records asked =
      record { seen = begun.made; there = begun.is; layout = begun.tells.layout; lays = begun.tells.lays } in
      let all = size_in begun.made begun.tells.layout in
      let start : Spot Carried = record { left = all; place = 0; carry = begun.carry } in
      let tail = subst
      (λ (a : Asked). Tail Carried (ReportLine records a) work.at.left work.at.place work.at.carry owed.tail)
      begun.same owed.is in
      let whole : Tail Carried (ReportLine records asked) all 0 begun.carry (work.run ++ owed.tail) =
      report_leads records asked laid start work.at work.run first_fills.leads owed.tail tail in
      subst (RepliesTo (record_at records asked.version) asked.version (Ok asked.request)) (sym owed.joins)
      (report_tail records asked laid begun.carry (work.run ++ owed.tail) whole)

  -- and its record is held
  pub begun_held : IsHeld records work
  begun_held some = record {
    seen = begun.made;
    there = ap (λ (a : Asked). record_at records a.version) begun.same ∙ begun.is;
    sound = begun.sound;
    of = subst (λ (a : Asked). IsOf (Some begun.made.sheet) a.request) (sym begun.same) begun.of;
    layout = begun.tells.layout;
    lays = subst (λ (a : Asked). LaysOut begun.made a.version a.request begun.tells.layout) (sym begun.same)
        begun.tells.lays;
    places = first_fills.within.places;
    fits = first_fills.within.fits;
  }
