-- A record that was copied whole ends at a word, as each of an order; and where a session's last
-- record ends its pass has seen once and for all.
use Rattle.std.specs.Prelude.{IfSome, Option, Some, None}
use Rattle.std.proofs.Common.{◌≡◌, ℕ, ◌%◌, ◌≤◌, Contains, List, [], ◌∷◌, zero, suc, sym, ap, ◌∙◌, subst, arith}
use Rattle.std.proofs.Math.Logic.{∥∥₁_elim}
use Rattle.std.specs.Coded.{Coded-set, coded_bool, coded_ℕ}
use Rattle.byte_position.specs.Geometry.{IsSegmentSize}
use Rattle.byte_position.proofs.EndAddresses.{end_address_of-mono}
use Rattle.byte_position.proofs.Words.{end_address_of-mod_word}
use Rattle.wal_types.specs.declared.lsn.Lsn.{Lsn}
use Rattle.wal_page.specs.Order.{Entry, FollowsFrom, finish_of, position_behind}
use Rattle.wal_page.proofs.PaddingLaws.{room_at-whole}
use Rattle.machine_state.specs.declared.setup.Setup.{Setup}
use Rattle.machine_state.specs.Views.{View}
use Rattle.machine_state.specs.Words.{Opening, end_form}
use Rattle.wal_rule.specs.declared.pass.Pass.{Pass}
use Rattle.wal_rule.specs.Passes.{view_of_pass}
use Rattle.wal_rule.specs.Stepping.{Stands}
use Rattle.wal_log.specs.declared.wal.Wal.{Wal}
use Rattle.wal_log.specs.Logs.{IsPassOfLog, setup_of_log}
use Rattle.wal_log.specs.Whole.{CopiesWhole, StandsWhole}
use Rattle.embedded_log.specs.Sessions.{HasSeenEnd}

-- ---- entries end at words

behind_whole : (size : ℕ) → IsSegmentSize size → (e : Entry) → e.start % 8 ≡ 0
    → position_behind size e % 8 ≡ 0
behind_whole size valid e whole =
    let room = room_at-whole size valid e.start e.value whole in omega (arith, whole, room)

starts_whole : (size position : ℕ) (es : List Entry) → IsSegmentSize size → position % 8 ≡ 0
    → FollowsFrom size position es → (e : Entry) → Contains es e → e.start % 8 ≡ 0
starts_whole size position [] valid whole follows e (k, low, is) = absurd (omega (arith, low))
starts_whole size position (x ∷ xs) valid whole follows e (zero, low, is) =
    let same = ap (λ (y : Entry). y.start) is in omega (arith, same, follows.0, whole)
starts_whole size position (x ∷ xs) valid whole follows e (suc k, low, is) =
    starts_whole size (position_behind size x) xs valid
    (behind_whole size valid x (omega (arith, follows.0, whole))) follows.2 e
    (k, omega (arith, low), is)

stands_whole : (v : View) (e : Entry) → StandsWhole v e
    → finish_of ((v.opening).setup).seg_size e % 8 ≡ 0
stands_whole v e stands =
    let sound = (stands.stands).sound in
    let size : ℕ = ((v.opening).setup).seg_size in
    let valid = (sound.setup_is).size in
    let start = starts_whole size ((v.opening).place).position sound.order valid
    ((sound.reserved).placed).whole (sound.reserved).chained e stands.in_order in
    end_address_of-mod_word size valid (position_behind size e) (behind_whole size valid e start)

pub copied_ends_whole : (setup : Setup) (old new : View) (e : Entry) → (new.opening).setup ≡ setup
    → CopiesWhole old new e → finish_of setup.seg_size e % 8 ≡ 0
copied_ends_whole setup old new e own copied =
    let same : ((copied.view).opening).setup ≡ setup =
    ap (λ (o : Opening). o.setup) (sym (copied.until).opening) ∙ own in
    subst (λ (s : Setup). finish_of s.seg_size e % 8 ≡ 0) same
    (∥∥₁_elim copied.whole (Coded-set coded_ℕ _ _) (stands_whole copied.view e))

-- ---- what the pass has seen it has seen

seen_still : (setup : Setup) (end m n : ℕ) → m ≤ n → HasSeenEnd setup end m
    → HasSeenEnd setup end n
seen_still setup end m n rises has = record {
  at = has.at;
  end_is = has.end_is;
  whole = has.whole;
  below = (let low = has.below in omega (arith, low, rises));
}

pub appended_still : (appended : Option Lsn) (setup : Setup) (m n : ℕ) → m ≤ n
    → IfSome appended (λ end. HasSeenEnd setup end.0 m)
    → IfSome appended (λ end. HasSeenEnd setup end.0 n)
appended_still None setup m n rises has = has
appended_still (Some end) setup m n rises has = seen_still setup end.0 m n rises has

-- .. so it may be told as reserved
pub end_is_reserved : {D : Type 0} (wal : Wal D) (pass : Pass) → IsPassOfLog wal pass → (end : ℕ)
    → HasSeenEnd (setup_of_log wal) end ((view_of_pass pass).reserving).seen
    → end ≤ end_form (setup_of_log wal) ((view_of_pass pass).reserving).seen
end_is_reserved wal pass is_pass end has =
    let v = view_of_pass pass in
    let own : (v.opening).setup ≡ setup_of_log wal =
    ap (λ (o : Opening). o.setup) (is_pass.of_log).own in
    let valid : IsSegmentSize (setup_of_log wal).seg_size =
    subst (λ (s : Setup). IsSegmentSize s.seg_size) own
    (∥∥₁_elim (is_pass.of_log).stands (Coded-set coded_bool _ _)
    (λ (s : Stands v). ((s.sound).setup_is).size)) in
    let low = end_address_of-mono (setup_of_log wal).seg_size valid has.at (v.reserving).seen
    has.below in
    omega (arith, has.end_is, low)
