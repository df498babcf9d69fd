-- Where a line found the log full, too few bytes were left behind a front of the order; where it
-- found the log at a segment's start, such a front ends there.
use Rattle.std.proofs.Common.{◌≡◌, ℕ, ◌<◌, ◌≤◌, All, List, [], ◌∷◌, ◌++◌, length, length-append, take, sym, ap, ◌∙◌, subst, arith}
use Rattle.std.proofs.Math.Seq.{take-append_seam}
use Rattle.std.proofs.lemmas.List.Elements.{All-head}
use Rattle.byte_position.specs.Position.{end_address_of, first_position}
use Rattle.wal_types.specs.declared.record.Record.{Record}
use Rattle.wal_page.specs.LogPlace.{IsPlace}
use Rattle.wal_page.specs.Order.{Entry, FollowsFrom, room_at}
use Rattle.wal_page.proofs.OrderLaws.{FollowsFrom-parts}
use Rattle.machine_state.specs.Views.{AtSegmentStart, LogFull, Stop, StopCause}
use Rattle.machine_state.specs.Words.{GoesOnAtPlace, Opening, log_limit, order_end}
use Rattle.machine_state.specs.Ordered.{entries_under, FrontEndsAt}
use Rattle.run_laws.specs.Told.{Logged, MayBeFull, MayStay, front_end}
use Rattle.run_laws.proofs.AllLaws.{parts_all}
use Rattle.machine_state.specs.PassLogs.{PassLog, log_with_stop}
use Rattle.run_laws.specs.Played.{AddsFull, AddsStay, behind_last_own}
use Rattle.run_laws.specs.Ended.{logged_at_end}
use Rattle.run_laws.proofs.OwnEnds.{StartsBelow, ends_within, own_starts_below}

module _ (opening : Opening) (placed : IsPlace (opening.setup).seg_size opening.place)
    (order : List Entry) (last pass : ℕ) (follows : GoesOnAtPlace opening order)
    (all : List Entry) where
  abbrev pub size : ℕ
  size = (opening.setup).seg_size

  abbrev pub limit : ℕ
  limit = log_limit opening.setup

  abbrev pub logged : Logged
  logged = logged_at_end opening order last

  abbrev position : ℕ
  position = (opening.place).position

  -- an entry of the pass starts below where these of it end
  abbrev IsBelow : List Entry → Entry → Type 0
  IsBelow own e = StartsBelow pass
      (behind_last_own size (first_position size) own) e

  -- so many first entries of the order end at a byte position, and have these entries of the pass
  record FrontHas (at : ℕ) (own : List Entry) : Type 0 where
    count : ℕ
    within : count ≤ length order
    earlier : behind_last_own size (first_position size) own ≤ front_end logged count
    no_later : All (IsBelow own) (take count order)
    ends : front_end logged count ≡ at

  front_has : (at : ℕ) (own begun back : List Entry) → order ≡ begun ++ back
      → at ≡ order_end opening begun → entries_under pass begun ≡ own → FrontHas at own
  front_has at own begun back are end mine =
      let first = first_position size in
      let same : take (length begun) order ≡ begun =
      ap (take (length begun)) are ∙ take-append_seam begun back in
      let ends : front_end logged (length begun) ≡ at = ap (order_end opening) same ∙ sym end in
      let chain = (FollowsFrom-parts size position begun back
      (subst (FollowsFrom size position) are follows)).0 in
      let own_within = subst (λ (es : List Entry).
      behind_last_own size first es ≤ order_end opening begun) mine
      (ends_within size pass position first begun chain placed.from) in
      let own_below = subst (λ (es : List Entry). All (IsBelow es) begun) mine
      (own_starts_below size pass position first begun chain placed.from) in
      record {
        count = length begun;
        within = omega (arith, ap length are, length-append begun back);
        earlier = omega (arith, ends, end, own_within);
        no_later = subst (All (IsBelow own)) (sym same) own_below;
        ends = ends;
      }

  -- where a pass stopped, such a front ends
  stopped : (stop : StopCause) (at : ℕ) (before after : PassLog)
      → after ≡ log_with_stop stop at before
      → All (FrontEndsAt opening pass order all) after.stops
      → take (length before.entries) all ≡ before.entries → FrontHas at before.entries
  stopped stop at before after log_is ends own =
      let here : Stop =
      record { cause = stop; position = at; entries = length before.entries } in
      let Ends = FrontEndsAt opening pass order all in
      let all_ends = subst (All Ends) (ap (λ (l : PassLog). l.stops) log_is) ends in
      let end : FrontEndsAt opening pass order all here =
      All-head Ends here [] (parts_all Ends before.stops (here ∷ []) all_ends).1 in
      front_has at before.entries end.front end.back end.are end.end (end.own ∙ own)

  pub full_cause : (value : Record) (free : ℕ) (before after : PassLog)
      → AddsFull size limit pass value free before after
      → All (FrontEndsAt opening pass order all) after.stops
      → take (length before.entries) all ≡ before.entries
      → MayBeFull logged pass
      (behind_last_own size (first_position size) before.entries) value free
  full_cause value free before after full ends own =
      let f = stopped LogFull full.at before after full.log_is ends own in
      record {
        front = f.count;
        within = f.within;
        earlier = f.earlier;
        no_later = f.no_later;
        left = omega (arith, f.ends, full.free_is);
        short = subst (λ (p : ℕ). free < room_at size p value) (sym f.ends) full.short;
      }

  pub stay_cause : (end : ℕ) (before after : PassLog)
      → AddsStay size limit pass end before after
      → All (FrontEndsAt opening pass order all) after.stops
      → take (length before.entries) all ≡ before.entries
      → MayStay logged pass
      (behind_last_own size (first_position size) before.entries) end
  stay_cause end before after stay ends own =
      let f = stopped AtSegmentStart stay.at before after stay.log_is ends own in
      record {
        front = f.count;
        within = f.within;
        earlier = f.earlier;
        no_later = f.no_later;
        end_is = stay.end_is ∙ ap (end_address_of size) (sym f.ends);
        at_start = stay.starts;
      }
