-- Laws of where the next record stands in the page that is held.
use Rattle.std.proofs.Common.{◌≡◌, ◌↔◌, ℕ, ◌+◌, ◌-◌, ◌*◌, ◌/◌, ◌%◌, ◌^◌, ◌<◌, ◌≤◌, Bool, true, false, ◌&&◌, not, cond, nat_lt, List, [], ◌∷◌, ◌++◌, Option, Some, None, option_map, inl, inr, refl, sym, ap, subst, ◌∙◌, if◌then◌else◌, ◌==◌, arith}
use Rattle.std.specs.Prelude.{is_none, IfSome, IsTrue}
use Rattle.std.specs.Int.{w16, w64}
use Rattle.std.proofs.lemmas.Bool.{cases_Bool, ltb-true, ne_eqb}
use Rattle.byte_position.specs.Position.{address_of, position_of}
use Rattle.byte_position.proofs.HeaderSizes.{header_size_bounds}
use Rattle.byte_position.proofs.Pages.{position_by_page, position_of-next_page}
use Rattle.wal_spelling.specs.Numbers.{number_at}
use Rattle.wal_page.specs.declared.checks.PageErr.{PageErr}
use Rattle.wal_page.specs.declared.checks.PageErr.TheVariants.{Magic, Flags, NoLong, LongInside, Address, Timeline}
use Rattle.wal_page.specs.Page.{first_fault, header_size, info_of, is_continued, is_first_page, is_long, long_header_rows, page_rows, timeline_of}
use Rattle.wal_reader.specs.declared.buffers.Buffers.{Buffers}
use Rattle.wal_reader.specs.declared.found.Answer.{Answer}
use Rattle.wal_reader.specs.declared.found.DamageKind.TheVariants as kinds
use Rattle.wal_reader.specs.declared.page_cache.PageCache.{PageCache}
use Rattle.wal_reader.specs.declared.page_cursor.PageCursor.{PageCursor}
use Rattle.wal_reader.specs.declared.record_place.RecordPlace.{RecordPlace}
use Rattle.wal_reader.specs.declared.standing.Standing.TheVariants.{At}
use Rattle.wal_reader.specs.Decodes.{damaged, ended, is_at_end, is_zero_word, opening_fault, opens_page, page_answers}
use Rattle.wal_reader.specs.PageCursor.{HasGathered, HasPassed, IsOn}
use Rattle.wal_reader.specs.Ready.{IsReady, IsReadyAt, IsReadyIn}
use Rattle.wal_reader.specs.RecordPlace.{IsOutOfReach}
use Rattle.wal_reader.proofs.GatherLaws.{address_from}
use Rattle.wal_reader.proofs.RecordStages.{opening_passes}
use Rattle.wal_reader.proofs.RowLaws.{first_of, first_fault-append, first_fault-map}

pub none_is : {K : Type 0} (o : Option K) → is_none o ≡ true → o ≡ None
none_is None e = refl
none_is (Some k) e = absurd (cc)

none_of_map : {K L : Type 0} (f : K → L) (o : Option K) → option_map f o ≡ None → o ≡ None
none_of_map f None e = refl
none_of_map f (Some k) e = absurd (cc)

none_of_first : {K : Type 0} (first other : Option K) → first_of first other ≡ None → first ≡ None
none_of_first None other e = refl
none_of_first (Some k) other e = absurd (cc)

-- ---- a page that passed passes again behind itself

not_less : (n : ℕ) → nat_lt n n ≡ false
not_less n = elim (cases_Bool (nat_lt n n)) [
  | inl less ↦ absurd (omega (arith, ltb-true n n less))
  | inr none ↦ none
]

-- where no check fails none does without the last
without_last : {K : Type 0} (rows : List (Bool × K)) (row : Bool × K) (last : Bool) (k : K) → first_fault (rows ++ row ∷ (last, k) ∷ []) ≡ None → first_fault (rows ++ row ∷ (false, k) ∷ []) ≡ None
without_last [] row last k none =
    (elim row.0 as (λ t. cond t (Some row.1) (cond last (Some k) None) ≡ None → cond t (Some row.1) None ≡ None) [ true ↦ λ e. e | false ↦ λ e. refl ]) none
without_last (first ∷ rows) row last k none =
    (elim first.0 as (λ t. cond t (Some first.1) (first_fault (rows ++ row ∷ (last, k) ∷ [])) ≡ None → cond t (Some first.1) (first_fault (rows ++ row ∷ (false, k) ∷ [])) ≡ None) [ true ↦ λ e. e | false ↦ λ e. without_last rows row last k e ]) none

-- the checks before that of the address
abbrev front_rows : ℕ → ℕ → List ℕ → List (Bool × PageErr)
front_rows size page bytes =
    (not (number_at w16 bytes 0 == 0xD113), Magic (number_at w16 bytes 0))
    ∷ (nat_lt 15 (info_of bytes), Flags (info_of bytes))
    ∷ (is_first_page size page && not (is_long bytes), NoLong)
    ∷ (not (is_first_page size page) && is_long bytes, LongInside)
    ∷ (if is_long bytes then long_header_rows size bytes else [])

pub passes_again : (size page timeline : ℕ) (bytes : List ℕ) → first_fault (page_answers size page bytes timeline) ≡ None → first_fault (page_answers size page bytes (timeline_of bytes)) ≡ None
passes_again size page timeline bytes none =
    let told : PageErr → Answer = λ fault. damaged (page * 8192) (kinds.Page fault) in
    let before : first_fault (page_rows size page bytes timeline) ≡ None = none_of_map told (first_fault (page_rows size page bytes timeline)) (sym (first_fault-map told (page_rows size page bytes timeline)) ∙ none) in
    let address : Bool × PageErr = (not (number_at w64 bytes 8 == page * 8192), Address (record { 0 = number_at w64 bytes 8 })) in
    let again : first_fault (page_rows size page bytes (timeline_of bytes)) ≡ None =
    subst (λ (b : Bool). first_fault (front_rows size page bytes ++ address ∷ (b, Timeline (timeline_of bytes)) ∷ []) ≡ None) (sym (not_less (timeline_of bytes))) (without_last (front_rows size page bytes) address (nat_lt (timeline_of bytes) timeline) (Timeline (timeline_of bytes)) before) in
    first_fault-map told (page_rows size page bytes (timeline_of bytes)) ∙ ap (option_map told) again

page_passes : (size : ℕ) (at : RecordPlace) (bytes : List ℕ) → opening_fault size at (Some bytes) ≡ None → first_fault (page_answers size (address_of size at.position / 8192) bytes at.timeline) ≡ None
page_passes size at bytes none =
    let own = page_answers size (address_of size at.position / 8192) bytes at.timeline in
    let last : List (Bool × Answer) = (opens_page size at.position && is_continued bytes, damaged (address_of size at.position) kinds.Claims) ∷ [] in
    (elim (opens_page size at.position && is_zero_word bytes) as (λ t. cond t (Some (ended size at.position)) (first_fault (own ++ last)) ≡ None → first_fault own ≡ None) [
      | true ↦ λ e. absurd (cc)
      | false ↦ λ e. none_of_first (first_fault own) (first_fault last) (sym (first_fault-append own last) ∙ e)
    ]) none

-- the page in which a record may start has passed its own checks
pub opening_passed : (cache : PageCache) (at : RecordPlace) (page : ℕ) → page ≡ address_of cache.geometry at.position / 8192 → opening_fault cache.geometry at (Some cache.bytes.value) ≡ None → HasPassed cache page
opening_passed cache at page first opens =
    let bytes = cache.bytes.value in
    let own = subst (λ (p : ℕ). first_fault (page_answers cache.geometry p bytes at.timeline) ≡ None) (sym first) (page_passes cache.geometry at bytes opens) in
    record { passes = passes_again cache.geometry page at.timeline bytes own }

-- ---- a record that starts inside a page that has passed

module _ (cache : PageCache) (behind : RecordPlace) (cursor : PageCursor) (offset : ℕ) (on : IsOn cache cursor) (reach : cursor.page < 2 ^ 47) (passed : HasPassed cache cursor.page) (timeline : behind.timeline ≡ cursor.timeline)
    (address : address_of cache.geometry behind.position ≡ 8192 * cursor.page + offset) (inside : header_size cache.geometry cursor.page < offset) (within : offset < 8192) where
  page_behind : address_of cache.geometry behind.position / 8192 ≡ cursor.page
  page_behind = omega arith

  offset_behind : address_of cache.geometry behind.position % 8192 ≡ offset
  offset_behind = omega arith

  opens_none : opens_page cache.geometry behind.position ≡ false
  opens_none =
      let header = ap (header_size cache.geometry) page_behind in
      let at = offset_behind in
      ne_eqb _ _ (λ same. absurd (omega arith))

  passes_behind : opening_fault cache.geometry behind (Some cache.bytes.value) ≡ None
  passes_behind =
      let bytes = cache.bytes.value in
      let timed = subst (λ (t : ℕ). first_fault (page_answers cache.geometry cursor.page bytes t) ≡ None) (on.1 ∙ sym timeline) passed.passes in
      let told = subst (λ (p : ℕ). first_fault (page_answers cache.geometry p bytes behind.timeline) ≡ None) (sym page_behind) timed in
      opening_passes cache.geometry behind (Some bytes) bytes refl (rw opens_none refl) told (rw opens_none refl)

  ready_inside : IsReady cache behind (record cursor { offset = offset })
  ready_inside = ((on, (sym page_behind, sym offset_behind)), (reach, ap is_none passes_behind))

-- behind another that starts on the same page
pub ready_further : (cache : PageCache) (at behind : RecordPlace) (cursor : PageCursor) → IsOn cache cursor → HasGathered cache.geometry at.position 0 cursor → cursor.page ≡ address_of cache.geometry at.position / 8192 → opening_fault cache.geometry at (Some cache.bytes.value) ≡ None → behind.timeline ≡ cursor.timeline
    → at.position < behind.position → behind.position - at.position < 8192 - cursor.offset → IsReady cache behind (record cursor { offset = cursor.offset + (behind.position - at.position) })
ready_further cache at behind cursor on gathered page opens timeline further within =
    let same : at.position + 0 + (behind.position - at.position) ≡ behind.position = omega (arith, further) in
    let address = ap (address_of cache.geometry) (sym same) ∙ address_from cache.geometry (at.position + 0) cursor gathered.stands (behind.position - at.position) (omega (arith, within)) in
    let low = gathered.stands.low in
    ready_inside cache behind cursor (cursor.offset + (behind.position - at.position)) on gathered.stands.reach (opening_passed cache at cursor.page page opens) timeline address (omega (arith, low, further)) (omega (arith, within))

-- the last byte that was gathered stands on the cursor's page, so the cursor is past its header
past_header : (size position n : ℕ) (cursor : PageCursor) → HasGathered size position n cursor → 0 < n → header_size size cursor.page < cursor.offset
past_header size position n cursor gathered some =
    let stands = gathered.stands in
    let last = position + n - 1 in
    let by_page = position_by_page size stands.valid last in
    let same = ap (λ (page : ℕ). position_of size (8192 * page)) (gathered.last some) in
    let next = position_of-next_page size stands.valid cursor.page in
    let swap : (cursor.page + 1) * 8192 ≡ 8192 * (cursor.page + 1) = omega arith in
    let at = stands.at ∙ ap (position_of size) swap ∙ next in
    let high = stands.high in
    let header = header_size_bounds size stands.valid cursor.page in
    omega arith

-- behind another whose last bytes the page has
pub ready_gathered : (cache : PageCache) (at behind : RecordPlace) (total end : ℕ) (cursor : PageCursor) → IsOn cache cursor → HasGathered cache.geometry at.position total cursor → 0 < total → HasPassed cache cursor.page → behind.timeline ≡ cursor.timeline
    → end ≡ at.position + total → end ≤ behind.position → behind.position - end < 8192 - cursor.offset → IsReady cache behind (record cursor { offset = cursor.offset + (behind.position - end) })
ready_gathered cache at behind total end cursor on gathered some passed timeline is further within =
    let more = behind.position - end in
    let same : at.position + total + more ≡ behind.position = omega (arith, is, further) in
    let address = ap (address_of cache.geometry) (sym same) ∙ address_from cache.geometry (at.position + total) cursor gathered.stands more (omega (arith, within)) in
    let past = past_header cache.geometry at.position total cursor gathered some in
    ready_inside cache behind cursor (cursor.offset + more) on gathered.stands.reach passed timeline address (omega (arith, past)) (omega (arith, within))

-- ---- what is beyond reach, by the address that is known

pub met_or_out : (cache : PageCache) (end : Option ℕ) (at : RecordPlace) (cursor : PageCursor) (address : ℕ) (met : Bool) → IsReady cache at cursor → address ≡ 8192 * cursor.page + cursor.offset → met ≡ is_at_end end address → IsTrue met ↔ IsOutOfReach cache.geometry end at.position
met_or_out cache end at cursor address met ready starts is =
    let page = ready.0.1.0 in
    let offset = ready.0.1.1 in
    let reach = ready.1.0 in
    let same : address ≡ address_of cache.geometry at.position = omega arith in
    let tells : is_at_end end (address_of cache.geometry at.position) ≡ met = ap (is_at_end end) (sym same) ∙ sym is in (
      (λ yes. inl (tells ∙ yes)),
      (λ out. elim out [
        | inl reached ↦ sym tells ∙ reached
        | inr high ↦ absurd (omega (arith, high, reach))
      ]),
    )

-- ---- what a reader knows, once it has buffers

pub ready_in : (at : RecordPlace) (before : Option Buffers) (held : Buffers) (now : Option Buffers) (ready : Option PageCursor) → IsReadyIn (At at) before ready → IfSome before (λ buffers. now ≡ Some buffers) → now ≡ Some held → IsReadyAt held.cache at ready
ready_in at None held now ready none same is = rw (none_is ready none) tt
ready_in at (Some buffers) held now ready here same is = subst (λ (o : Option Buffers). IsReadyIn (At at) o ready) (sym same ∙ is) here
