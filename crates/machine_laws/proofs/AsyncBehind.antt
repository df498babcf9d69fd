-- Up to where commits are answered, behind a step of any kind and where passes come and go: the
-- async word is only raised, to what is reserved at most, and no pass counts on more.
use Rattle.std.proofs.Common.{◌≡◌, ◌≢◌, ℕ, ◌+◌, ◌/◌, ◌%◌, ◌<◌, ◌≤◌, cond, eqb, true, max, List, [], ◌∷◌, ◌++◌, map, slice_index, refl, ap, ◌∙◌, subst, arith}
use Rattle.std.proofs.Math.Nat.{mod-lt}
use mathlib.Core.Option.{Option, none, some}
use Rattle.segment_disk.specs.Tape.{DiskState}
use Rattle.byte_position.proofs.EndAddresses.{end_address_of-mono}
use Rattle.wal_page.specs.Order.{Entry}
use Rattle.wal_page.proofs.OrderLaws.{rooms_of_push}
use Rattle.machine_state.specs.declared.setup.Setup.{Setup}
use Rattle.machine_state.specs.Words.{async_number, async_word, end_form, mapping_turn_number, write_turn_number, ends_number, lock_number, order_end}
use Rattle.machine_state.specs.Views.{HasAt, Taken, Plain, Hold, Idle, Turned, Out, Locked, View, reserving_of, async_met_of}
use Rattle.machine_state.specs.Async.{AsyncHolds}
use Rattle.machine_state.specs.Moves.{entry_reserved, with_hold, with_place, with_stage, with_working}
use Rattle.machine_state.specs.Steps.{StepKind, MayStep, place_at, ring_place, page_mapped, words_zeroed, word_of_step, view_behind, with_slot, with_call_on, load_position, take_write_turn, slot_out, slot_in, release_write_turn, lock_position, load_prev, store_prev, store_position, give_position_back, stay, load_lock, take_lock, advance, release, load_buffer_end, store_ring_word, load_ring_word, load_written, load_flushed, load_moment, load_down, store_written, store_moment, store_flushed, set_down, load_async, raise_async, take_mapping_turn, load_initialised_end, clear_end, zero_ring_word, publish_end, publish_initialised_end, release_mapping_turn, create, write, sync}
use Rattle.machine_state.specs.Sound.{IsSound}
use Rattle.machine_state.proofs.Lists.{one_set, part_at, view_from}
use Rattle.machine_state.proofs.WordLists.{word_again, word_else, word_set}
use Rattle.machine_laws.specs.LocksBehind.{order_behind}
use Rattle.machine_laws.proofs.Frames.{Moved, moved, later, views_later, same_either}
use Rattle.machine_laws.proofs.LocksKept.{met_cases}
use Rattle.machine_laws.proofs.PositionsBehind.{lock_low}

-- what is said of one view
abbrev pub CountsOn : ℕ → View → Type 0
CountsOn async v = (v.async_met ≤ async) × (v.async_met % 8 ≡ 0)

-- and so of all
pub each_counts_on : (async : ℕ) (views : List View)
    → ((j : ℕ) (u : View) → HasAt views j u → CountsOn async u)
    → (id n : ℕ) → HasAt (map async_met_of views) id n → (n ≤ async) × (n % 8 ≡ 0)
each_counts_on async views each id n at =
    let found = view_from async_met_of views id n at in
    let is = each id found.0 found.1 in
    subst (λ (m : ℕ). (m ≤ async) × (m % 8 ≡ 0)) found.2 is

pub joins_async : (async : ℕ) (v w : View) → CountsOn async v → CountsOn async w
    → (max v.async_met w.async_met ≤ async) × (max v.async_met w.async_met % 8 ≡ 0)
joins_async async v w one other = (omega (arith, one.0, other.0), omega (arith, one.1, other.1))

module _ {first : DiskState} (words : List ℕ) (home : Option Plain) (views : List View) (id : ℕ) (v : View)
    (k : IsSound first v.opening words home views) (here : HasAt views id v) where
  abbrev setup : Setup
  setup = (v.opening).setup

  abbrev size : ℕ
  size = setup.seg_size

  abbrev async : ℕ
  async = async_word setup words

  abbrev end : ℕ
  end = end_form setup (order_end v.opening k.order)

  abbrev behind : StepKind → View
  behind e = view_behind v e (slice_index words (word_of_step v e)) home

  pub counts_on : (j : ℕ) (u : View) → HasAt views j u → CountsOn async u
  counts_on j u at = (k.async).met j u.async_met (part_at async_met_of views j u at)

  module _ (live : (v.reserving).live ≡ true) (e : StepKind) where
    abbrev s : Moved
    s = moved words home views id v k here e

    abbrev pub HasAsync : List Entry → Type 0
    HasAsync es = AsyncHolds (async_word setup (later s)) (end_form setup (order_end v.opening es))
        (map async_met_of (views_later s))

    -- the word is this now, which is no less, and the view counts on no more
    raised : (es : List Entry) (n : ℕ) → async_word setup (later s) ≡ n → async ≤ n
        → n ≤ end_form setup (order_end v.opening es) → n % 8 ≡ 0 → CountsOn n (behind e)
        → HasAsync es
    raised es n is up within aligned own = record {
      reserved = omega (arith, is, within);
      aligned = ap (λ m. m % 8) is ∙ aligned;
      met = each_counts_on (async_word setup (later s)) (views_later s)
          (one_set (λ j u. CountsOn (async_word setup (later s)) u) views id (behind e)
          (λ j u apart at. let was = counts_on j u at in (omega (arith, is, was.0), was.1))
          (omega (arith, is, own.0), own.1));
    }

    -- another word is stored
    elsewhere : (es : List Entry) → end ≤ end_form setup (order_end v.opening es)
        → async_number setup ≢ s.i → (behind e).async_met ≡ v.async_met → HasAsync es
    elsewhere es up apart same =
        let reserved = (k.async).reserved in
        let own = counts_on id v here in
        raised es async (word_else words s.i s.n (async_number setup) apart) (omega arith)
        (omega arith) (k.async).aligned
        (omega (arith, same, own.0), ap (λ m. m % 8) same ∙ own.1)

    -- no word is
    by_load : later s ≡ words → (behind e).async_met ≡ v.async_met → HasAsync k.order
    by_load is same =
        let reserved = (k.async).reserved in
        let own = counts_on id v here in
        raised k.order async (ap (async_word setup) is) (omega arith)
        (omega arith) (k.async).aligned
        (omega (arith, same, own.0), ap (λ m. m % 8) same ∙ own.1)

  module _ (live : (v.reserving).live ≡ true) where
    stays : (e : StepKind) → async_number setup ≢ word_of_step v e
        → (behind e).async_met ≡ v.async_met → HasAsync live e k.order
    stays e apart same = elsewhere live e k.order (omega arith) apart same

    some_page : 0 < setup.ring_pages
    some_page = let low = (k.setup_is).ring_low in omega arith

    -- the ring's words and the buffers' ends stand before the last word
    ring_apart : (n : ℕ) → async_number setup ≢ ends_number + setup.ring_pages + ring_place setup n
    ring_apart n is =
        let page : n / 1024 % setup.ring_pages < setup.ring_pages = mod-lt (n / 1024) some_page in
        let word : n % 1024 < 1024 = mod-lt n (omega arith) in
        omega arith

    end_apart : (at : ℕ) → async_number setup ≢ ends_number + at / 8192 % setup.ring_pages
    end_apart at is =
        let low : at / 8192 % setup.ring_pages < setup.ring_pages
        = mod-lt (at / 8192) some_page in omega arith

    zeroed_apart : MayStep v zero_ring_word → async_number setup ≢ word_of_step v zero_ring_word
    zeroed_apart may is =
        let at = page_mapped (v.mapping).stage in
        let low : at / 8192 % setup.ring_pages < setup.ring_pages
        = mod-lt (at / 8192) some_page in
        let count = ap words_zeroed may.2 in
        let below = may.3 in
        omega arith

    slot_same : (home : Option Plain) → (with_slot v home).async_met ≡ v.async_met
    slot_same none = refl
    slot_same (some writer) = refl

    call_same : (f : Plain → Plain) (hold : Hold) → (with_call_on v f hold).async_met ≡ v.async_met
    call_same f Idle = refl
    call_same f Turned = refl
    call_same f (Out l) = refl

    -- what is reserved grows by an entry
    reserved_more : (e : Entry) → end ≤ end_form setup (order_end v.opening (k.order ++ e ∷ []))
    reserved_more e =
        let rooms = rooms_of_push size k.order e in
        end_address_of-mono size (k.setup_is).size (order_end v.opening k.order)
        (order_end v.opening (k.order ++ e ∷ [])) (omega (arith, rooms))

    -- the view has seen no more reserved than is
    seen_reserved : end_form setup (v.reserving).seen ≤ end
    seen_reserved = end_address_of-mono size (k.setup_is).size (v.reserving).seen (order_end v.opening k.order)
        ((k.reserved).views id v.reserving (part_at reserving_of views id v here) live).seen

    loaded : HasAsync live load_async k.order
    loaded =
        let own = counts_on id v here in
        let aligned = (k.async).aligned in
        raised live load_async k.order async (ap (async_word setup)
        (word_again words (async_number setup)))
        (omega arith) (k.async).reserved aligned
        (omega (arith, own.0), omega (arith, own.1, aligned))

    exchanged_to : (expected upto : ℕ) → MayStep v (raise_async expected upto)
        → HasAsync live (raise_async expected upto) k.order
    exchanged_to expected upto may =
        let own = counts_on id v here in
        let aligned = (k.async).aligned in
        let reserved = (k.async).reserved in
        let seen = seen_reserved in
        let stored : async_word setup (later (s live (raise_async expected upto)))
        ≡ cond (eqb async expected) upto async
        = word_set words (async_number setup) (cond (eqb async expected) upto async)
        (omega (arith, k.wide)) in
        met_cases (λ b. (n : ℕ) → n ≡ cond b upto async
        → async_word setup (later (s live (raise_async expected upto))) ≡ n
        → max v.async_met n ≡ (behind (raise_async expected upto)).async_met
        → HasAsync live (raise_async expected upto) k.order) async expected
        (λ hit n is now view. raised live (raise_async expected upto) k.order n now
        (omega (arith, is, hit, may.0)) (omega (arith, is, may.1, seen))
        (ap (λ m. m % 8) is ∙ may.2)
        (omega (arith, view, is, own.0, hit, may.0), omega (arith, view, is, own.1, may.2)))
        (λ miss n is now view. raised live (raise_async expected upto) k.order n now
        (omega (arith, is)) (omega (arith, is, reserved))
        (ap (λ m. m % 8) is ∙ aligned)
        (omega (arith, view, is, own.0), omega (arith, view, is, own.1, aligned)))
        (cond (eqb async expected) upto async) refl stored refl

    pub async_behind : (e : StepKind) → MayStep v e → HasAsync live e (order_behind v e k.order)
    async_behind load_position may = stays load_position (λ e. omega arith) refl
    async_behind take_write_turn may = stays take_write_turn (λ e. omega arith)
        (same_either async_met_of (eqb (slice_index words write_turn_number) 0) (with_hold Turned v) v refl)
    async_behind slot_out may = stays slot_out (λ e. omega arith) (slot_same home)
    async_behind slot_in may = stays slot_in (λ e. omega arith) refl
    async_behind release_write_turn may = stays release_write_turn (λ e. omega arith) refl
    async_behind (lock_position expected) may = stays (lock_position expected) (λ e. omega arith)
        (same_either async_met_of (eqb (slice_index words 0) expected)
        (with_place (Locked expected) v) v refl)
    async_behind load_prev may = stays load_prev (λ e. omega arith) (rw may.1 refl)
    async_behind store_prev may = stays store_prev (λ e. omega arith) (rw may.2 refl)
    async_behind (store_position locks value) may =
        elsewhere live (store_position locks value)
        (order_behind v (store_position locks value) k.order)
        (reserved_more
        (entry_reserved (v.reserving).number (place_at v (v.reserving).place) value))
        (λ e. omega arith) (rw may.2 refl)
    async_behind (give_position_back value) may =
        stays (give_position_back value) (λ e. omega arith) (rw may.1 refl)
    async_behind stay may = stays stay (λ e. omega arith) (rw may.1 refl)
    async_behind (load_lock lock limit) may = by_load live (load_lock lock limit)
        (word_again words (lock_number lock)) refl
    async_behind (take_lock lock) may = stays (take_lock lock) (λ e. omega (arith, may))
        (same_either async_met_of (eqb (slice_index words (lock_number lock)) 0)
        (with_working ((v.working).locks ++ lock ∷ []) (v.working).flight v) v refl)
    async_behind (advance lock upto) may = stays (advance lock upto)
        (λ e. omega (arith, lock_low words home views id v k here live lock may.0)) refl
    async_behind (release lock) may = stays (release lock)
        (λ e. omega (arith, lock_low words home views id v k here live lock may.0)) refl
    async_behind (load_buffer_end buffer) may = by_load live (load_buffer_end buffer)
        (word_again words (ends_number + buffer)) refl
    async_behind store_ring_word may = stays store_ring_word (ring_apart _) refl
    async_behind (load_ring_word n) may = by_load live (load_ring_word n)
        (word_again words (ends_number + setup.ring_pages + ring_place setup n)) refl
    async_behind load_written may = stays load_written (λ e. omega arith) refl
    async_behind load_flushed may = stays load_flushed (λ e. omega arith) refl
    async_behind load_moment may = stays load_moment (λ e. omega arith) refl
    async_behind load_down may = stays load_down (λ e. omega arith) refl
    async_behind store_written may = stays store_written (λ e. omega arith) refl
    async_behind store_moment may = stays store_moment (λ e. omega arith) refl
    async_behind store_flushed may = stays store_flushed (λ e. omega arith) refl
    async_behind set_down may = stays set_down (λ e. omega arith) refl
    async_behind load_async may = loaded
    async_behind (raise_async expected upto) may = exchanged_to expected upto may
    async_behind take_mapping_turn may = stays take_mapping_turn (λ e. omega arith)
        (same_either async_met_of (eqb (slice_index words mapping_turn_number) 0) (with_stage Taken v) v refl)
    async_behind load_initialised_end may = stays load_initialised_end (λ e. omega arith) refl
    async_behind clear_end may = stays clear_end (end_apart _) refl
    async_behind zero_ring_word may = stays zero_ring_word (zeroed_apart may) refl
    async_behind publish_end may = stays publish_end (end_apart _) refl
    async_behind publish_initialised_end may =
        stays publish_initialised_end (λ e. omega arith) refl
    async_behind release_mapping_turn may = stays release_mapping_turn (λ e. omega arith) refl
    async_behind (create segment outcome) may =
        stays (create segment outcome) (λ e. omega arith) (call_same _ (v.writing).hold)
    async_behind (write segment page upto bytes outcome) may =
        stays (write segment page upto bytes outcome) (λ e. omega arith)
        (call_same _ (v.writing).hold)
    async_behind (sync segment outcome) may =
        stays (sync segment outcome) (λ e. omega arith) (call_same _ (v.writing).hold)
