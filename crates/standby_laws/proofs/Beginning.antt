-- Disks with which a standby's history may begin.
use Rattle.std.proofs.Common.{◌≡◌, ℕ, ◌<◌, length, List, Option, Some, IfSome, sym, subst, arith}
use Rattle.byte_position.specs.Geometry.{pages_of}
use Rattle.segment_disk.specs.Assured.{SegmentAssures}
use Rattle.segment_disk.specs.Tape.{Segment, Tape, page_as_read}
use Rattle.flush_core.specs.Pages.{HoldsNothing}
use Rattle.flush_core.specs.Settled.{IsAmong}
use Rattle.flush_core.specs.SettledLog.{IsZeroOrLogWord}
use Rattle.wal_page.specs.Order.{Entry}
use Rattle.wal_reader.specs.declared.found.FoundRecord.{FoundRecord}
use Rattle.wal_stream.specs.FollowedLog.{IsLogOrder}
use Rattle.reopened_log_laws.specs.WasLeft.{WasLeft}
use Rattle.standby_laws.specs.History.{MayFollow}
use Rattle.standby_laws.proofs.Turns.{few_are_low}

pub left_may_be_followed : (size sysid : ℕ) (t : Tape) (found : List FoundRecord)
    → (left : WasLeft size sysid t found) → MayFollow size sysid left.order t
left_may_be_followed size sysid t found left =
    let may = left.has_found.may in
    record {
      order = record {
        valid = may.valid;
        known = may.known;
        narrow = may.narrow;
        chained = may.chained;
        bounded = may.bounded;
      };
      count = left.count;
      lawful = may.lawful;
      only = left.only;
      whole = left.whole;
      low = left.low;
    }

pub empty_may_follow : (size sysid : ℕ) (es : List Entry) (t : Tape) → IsLogOrder size sysid es
    → HoldsNothing (Some t) → MayFollow size sysid es t
empty_may_follow size sysid es t order empty = record {
  order = order;
  count = 0;
  lawful = λ segment. subst (SegmentAssures size (IsAmong 0) (IsZeroOrLogWord size sysid es) segment)
      (sym (empty segment)) (λ among. omega (arith, among.0, among.1));
  only = λ segment _. empty segment;
  whole = λ segment. subst (λ (o : Option Segment). IfSome o (λ s. (s.pages ≡ pages_of size)
      × ((page : ℕ) → page < s.pages → length (page_as_read s page) ≡ 8192)))
      (sym (empty segment)) tt;
  low = omega (arith, few_are_low size 0 order.valid (omega arith));
}
