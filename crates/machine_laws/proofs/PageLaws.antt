-- The pages in the ring's buffers, through each kind of step that changes what is said of them.
use Rattle.std.proofs.Common.{◌≡◌, ◌≢◌, ◌⊎◌, inl, inr, ℕ, ◌+◌, ◌*◌, ◌/◌, ◌%◌, ◌<◌, ◌≤◌, max, List, [], ◌∷◌, ◌++◌, set, sym, refl, ap, ◌∙◌, subst, ⊎_elim, arith}
use Rattle.std.proofs.Math.Nat.{mod-lt, add-mod_right}
use mathlib.Core.Logic.{dite}
use native.Mathlib.Decide.{ℕ_discrete}
use Rattle.machine_state.specs.Views.{HasAt, Stage, Away, Taken, Looked, Ready, Zeroing, Published}
use Rattle.machine_state.specs.Paged.{IsOpen, AllPresent, AtStage, HoldsPage, PagesHold}
use Rattle.machine_state.specs.Moves.{looked, ready}
use Rattle.machine_state.proofs.Lists.{one_set, one_added}
use Rattle.machine_laws.proofs.Buffers.{apart, one_page, same_page}
use Rattle.machine_laws.specs.WordsPut.{IsPut, put}

-- ---- stages

module _ (pages low reach initialised written : ℕ) (ring : ℕ → ℕ) where
  abbrev At : Stage → Type 0
  At s = AtStage pages low reach initialised written ring s

  -- how wide the window of present pages is
  spread : (s : Stage) → At s → (reach ≤ low + pages) × (low + pages ≤ reach + 1)
  spread Away h = let e = h.0 in (omega arith, omega arith)
  spread Taken h = let e = h.0 in (omega arith, omega arith)
  spread (Looked at) h = let e = h.0.0 in (omega arith, omega arith)
  spread (Ready at met) h = let e = h.0.0 in (omega arith, omega arith)
  spread (Zeroing at count) h = let e = h.0 in (omega arith, omega arith)
  spread (Published at) h = let e = h.0 in (omega arith, omega arith)

  -- the initialised end is at most the window's
  initialised_low : (s : Stage) → At s → initialised ≤ reach * 8192
  initialised_low Away h = let e = h.1 in omega arith
  initialised_low Taken h = let e = h.1 in omega arith
  initialised_low (Looked at) h = let e = h.0.1 in omega arith
  initialised_low (Ready at met) h = let e = h.0.1 in omega arith
  initialised_low (Zeroing at count) h = let e = h.1 in omega arith
  initialised_low (Published at) h = let e = h.1 in omega arith

  all_present : (s : Stage) → IsOpen s → At s → AllPresent pages low reach initialised written ring
  all_present Away o h = absurd o
  all_present Taken o h = h
  all_present (Looked at) o h = h.0
  all_present (Ready at met) o h = h.0
  all_present (Zeroing at count) o h = absurd o
  all_present (Published at) o h = absurd o

  at_looked : (s : Stage) → At s → At (looked initialised s)
  at_looked Away h = h
  at_looked Taken h = (h, refl)
  at_looked (Looked at) h = h
  at_looked (Ready at met) h = h
  at_looked (Zeroing at count) h = h
  at_looked (Published at) h = h

  at_ready : (s : Stage) → At s → At (ready written s)
  at_ready Away h = h
  at_ready Taken h = h
  at_ready (Looked at) h = (h.0, h.1, omega arith)
  at_ready (Ready at met) h = h
  at_ready (Zeroing at count) h = h
  at_ready (Published at) h = h

  -- the mapping goes on where written rises and the words that were zeroed stay
  at_later : (written2 : ℕ) (ring2 : ℕ → ℕ) → written ≤ written2
      → (reach + 1 ≡ low + pages → (j : ℕ) → j < 1024
      → ring2 (reach % pages * 1024 + j) ≡ ring (reach % pages * 1024 + j))
      → (s : Stage) → At s → AtStage pages low reach initialised written2 ring2 s
  at_later w r up same Away h = h
  at_later w r up same Taken h = h
  at_later w r up same (Looked at) h = h
  at_later w r up same (Ready at met) h = let e = h.2 in (h.0, h.1, omega arith)
  at_later w r up same (Zeroing at count) h = let most = h.3 in
      (h.0, h.1, h.2, h.3, λ j below. same h.0 j (omega arith) ∙ h.4 j below)
  at_later w r up same (Published at) h = h

-- ---- steps

module _ (pages reach : ℕ) (stage : Stage) (initialised written : ℕ) (ends ring memory : ℕ → ℕ)
    (confirmed : List ℕ)
    (k : PagesHold pages reach stage initialised written ends ring memory confirmed) where
  abbrev Now : Stage → Type 0
  Now s = AtStage pages k.low reach initialised written ring s

  wide : (reach ≤ k.low + pages) × (k.low + pages ≤ reach + 1)
  wide = spread pages k.low reach initialised written ring stage k.mapping

  -- the mapping goes on by a step on no word that the pages read, and the views' ends change
  on_to : (s : Stage) → Now s → (seen : List ℕ)
      → ((id c : ℕ) → HasAt seen id c → c ≤ reach * 8192)
      → PagesHold pages reach s initialised written ends ring memory seen
  on_to s at seen low = record {
    low = k.low;
    some_page = k.some_page;
    given_up = k.given_up;
    present = k.present;
    content = k.content;
    held = k.held;
    blank = k.blank;
    seen = low;
    mapping = at;
  }

  -- a buffer's end is at most the end of the last present page
  pub end_low : (b : ℕ) → b < pages → ends b ≤ reach * 8192
  end_low b low = ⊎_elim (λ z. omega arith)
      (λ h. let to = h.to in let is = h.end_is in omega arith) (k.held b low)

  -- a view meets an end that is at most the last page's
  meets : (s : Stage) → Now s → (id c met : ℕ) → HasAt confirmed id c → met ≤ reach * 8192
      → PagesHold pages reach s initialised written ends ring memory (set confirmed id (max c met))
  meets s at id c met here low = on_to s at (set confirmed id (max c met))
      (one_set (λ j d. d ≤ reach * 8192) confirmed id (max c met) (λ j d ne there. k.seen j d there)
      (let mine = k.seen id c here in omega arith))

  -- a view stays
  pub stays : (id c : ℕ) → HasAt confirmed id c
      → PagesHold pages reach stage initialised written ends ring memory (set confirmed id c)
  stays id c here = on_to stage k.mapping (set confirmed id c)
      (one_set (λ j d. d ≤ reach * 8192) confirmed id c (λ j d ne there. k.seen j d there)
      (k.seen id c here))

  pub meets_end : (id c buffer : ℕ) → HasAt confirmed id c → buffer < pages
      → PagesHold pages reach stage initialised written ends ring memory
      (set confirmed id (max c (ends buffer)))
  meets_end id c buffer here below =
      meets stage k.mapping id c (ends buffer) here (end_low buffer below)

  pub meets_initialised : (id c : ℕ) → HasAt confirmed id c
      → PagesHold pages reach stage initialised written ends ring memory
      (set confirmed id (max c initialised))
  meets_initialised id c here = meets stage k.mapping id c initialised here
      (initialised_low pages k.low reach initialised written ring stage k.mapping)

  pub looks : (id c : ℕ) → HasAt confirmed id c
      → PagesHold pages reach (looked initialised stage) initialised written ends ring memory
      (set confirmed id (max c initialised))
  looks id c here = meets (looked initialised stage)
      (at_looked pages k.low reach initialised written ring stage k.mapping) id c initialised here
      (initialised_low pages k.low reach initialised written ring stage k.mapping)

  pub gets_ready : PagesHold pages reach (ready written stage) initialised written ends ring memory
      confirmed
  gets_ready = on_to (ready written stage)
      (at_ready pages k.low reach initialised written ring stage k.mapping) confirmed k.seen

  pub gives_back : IsOpen stage
      → PagesHold pages reach Away initialised written ends ring memory confirmed
  gives_back is_open = on_to Away
      (all_present pages k.low reach initialised written ring stage is_open k.mapping)
      confirmed k.seen

  pub takes_turn : stage ≡ Away
      → PagesHold pages reach Taken initialised written ends ring memory confirmed
  takes_turn away = on_to Taken (subst Now away k.mapping) confirmed k.seen

  -- a view more, beside one that stays
  added : (id c new : ℕ) → HasAt confirmed id c → new ≤ reach * 8192
      → PagesHold pages reach stage initialised written ends ring memory
      (set confirmed id c ++ new ∷ [])
  added id c new here low = on_to stage k.mapping (set confirmed id c ++ new ∷ [])
      (one_added (λ j d. d ≤ reach * 8192) (set confirmed id c) new
      (one_set (λ j d. d ≤ reach * 8192) confirmed id c (λ j d ne there. k.seen j d there)
      (k.seen id c here)) low)

  -- one that met nothing
  pub one_more : (id c : ℕ) → HasAt confirmed id c
      → PagesHold pages reach stage initialised written ends ring memory
      (set confirmed id c ++ 0 ∷ [])
  one_more id c here = added id c 0 here (omega arith)

  -- one that met what the other has
  pub one_beside : (id c : ℕ) → HasAt confirmed id c
      → PagesHold pages reach stage initialised written ends ring memory
      (set confirmed id c ++ c ∷ [])
  one_beside id c here = added id c c here (k.seen id c here)

  -- a view is spent, another stays
  pub one_less : (id other c : ℕ) → HasAt confirmed id c
      → PagesHold pages reach stage initialised written ends ring memory
      (set (set confirmed other 0) id c)
  one_less id other c here = on_to stage k.mapping (set (set confirmed other 0) id c)
      (one_set (λ j d. d ≤ reach * 8192) (set confirmed other 0) id c
      (λ j d ne there. one_set (λ i e. e ≤ reach * 8192) confirmed other 0
      (λ i e ne there. k.seen i e there) (omega arith) j d there)
      (k.seen id c here))

  pub rises : (written2 : ℕ) → written ≤ written2
      → PagesHold pages reach stage initialised written2 ends ring memory confirmed
  rises written2 up = record {
    low = k.low;
    some_page = k.some_page;
    present = k.present;
    content = k.content;
    held = k.held;
    blank = k.blank;
    seen = k.seen;
    given_up = let g = k.given_up in omega arith;
    mapping = at_later pages k.low reach initialised written ring written2 ring up
        (λ gap j below. refl) stage k.mapping;
  }

  -- the page that ends past what is written was not given up
  pub not_given_up : (p : ℕ) → written < (p + 1) * 8192 → k.low ≤ p
  not_given_up p past = let g = k.given_up in omega arith

  -- the initialised end is published, and its mapper has met it
  pub advances : (at id c : ℕ) → stage ≡ Published at → HasAt confirmed id c
      → PagesHold pages reach Taken (at + 8192) written ends ring memory
      (set confirmed id (max c (at + 8192)))
  advances at id c is here =
      let h = subst Now is k.mapping in
      let next = h.1 in
      let at_is = h.2 in
      let mine = k.seen id c here in
      record {
        low = k.low;
        some_page = k.some_page;
        given_up = k.given_up;
        present = k.present;
        content = k.content;
        held = k.held;
        blank = k.blank;
        seen = one_set (λ j d. d ≤ reach * 8192) confirmed id (max c (at + 8192))
            (λ j d ne there. k.seen j d there) (omega arith);
        mapping = (h.0, omega arith);
      }

  module _ (ends2 : ℕ → ℕ) where
    -- the end of the next page's buffer is cleared: the page that it held is written
    pub clears : (at met : ℕ) → stage ≡ Ready at met → at + 8192 ≤ met + pages * 8192
        → IsPut ends (at / 8192 % pages) 0 ends2
        → PagesHold pages reach (Zeroing at 0) initialised written ends2 ring memory confirmed
    clears at met is written_out put =
        let h = subst Now is k.mapping in
        let all = h.0.0 in
        let is_at = h.0.1 in
        let at_is = h.1 in
        let loaded = h.2 in
        let page : at / 8192 ≡ reach = omega arith in
        let number : at / 8192 % pages ≡ reach % pages = ap (λ (y : ℕ). y % pages) page in
        let buffer : reach % pages ≡ k.low % pages =
        ap (λ (y : ℕ). y % pages) all ∙ add-mod_right k.low pages in
        record {
          low = k.low + 1;
          some_page = k.some_page;
          seen = k.seen;
          blank = k.blank;
          given_up = omega arith;
          present = λ q low up. put.elsewhere (q % pages) (λ e.
              apart pages k.low q (omega arith) (omega arith) (sym (e ∙ number ∙ buffer)))
              ∙ k.present q (omega arith) up;
          content = λ q m low up below. k.content q m (omega arith) up below;
          held = λ b low. dite (ℕ_discrete b (at / 8192 % pages))
              (λ e. inl (ap ends2 e ∙ put.here))
              (λ ne. ⊎_elim (λ z. inl (put.elsewhere b ne ∙ z))
              (λ t. let from = t.from in
              let not_low : t.page ≢ k.low = λ e.
              ne (sym t.place ∙ ap (λ (y : ℕ). y % pages) e ∙ sym (number ∙ buffer)) in
              inr record {
                page = t.page;
                from = omega arith;
                to = t.to;
                place = t.place;
                end_is = put.elsewhere b ne ∙ t.end_is;
              })
              (k.held b low));
          mapping = (omega arith, is_at, at_is, omega arith, λ j low. absurd (omega arith));
        }

    -- the new page's end is published
    pub publishes : (at : ℕ) → stage ≡ Zeroing at 1024
        → IsPut ends (at / 8192 % pages) (at + 8192) ends2
        → PagesHold pages (reach + 1) (Published at) initialised written ends2 ring memory confirmed
    publishes at is put =
        let h = subst Now is k.mapping in
        let gap = h.0 in
        let is_end = h.1 in
        let at_is = h.2 in
        let page : at / 8192 ≡ reach = omega arith in
        let number : at / 8192 % pages ≡ reach % pages = ap (λ (y : ℕ). y % pages) page in
        let some = k.some_page in
        record {
          low = k.low;
          some_page = k.some_page;
          given_up = k.given_up;
          seen = λ id c there. let s = k.seen id c there in omega arith;
          blank = λ i far. k.blank i (omega arith);
          present = λ q low up. dite (ℕ_discrete q reach)
              (λ e. let r : at + 8192 ≡ (q + 1) * 8192 = omega arith in
              ap (λ (y : ℕ). ends2 (y % pages)) e ∙ ap ends2 (sym number) ∙ put.here ∙ r)
              (λ ne. put.elsewhere (q % pages)
              (λ e. apart pages q reach (omega arith) (omega arith) (e ∙ number))
              ∙ k.present q low (omega arith));
          content = λ q j low up below. dite (ℕ_discrete q reach)
              (λ e. ap (λ (y : ℕ). ring (y % pages * 1024 + j)) e ∙ h.4 j below
              ∙ sym (k.blank (q * 1024 + j) (omega arith)))
              (λ ne. k.content q j low (omega arith) below);
          held = λ b low. dite (ℕ_discrete b (at / 8192 % pages))
              (λ e. let r : at + 8192 ≡ (reach + 1) * 8192 = omega arith in
              inr record {
                page = reach;
                from = omega arith;
                to = omega arith;
                place = sym (e ∙ number);
                end_is = ap ends2 e ∙ put.here ∙ r;
              })
              (λ ne. ⊎_elim (λ z. inl (put.elsewhere b ne ∙ z))
              (λ t. let to = t.to in
              inr record {
                page = t.page;
                from = t.from;
                to = omega arith;
                place = t.place;
                end_is = put.elsewhere b ne ∙ t.end_is;
              })
              (k.held b low));
          mapping = (omega arith, omega arith, at_is);
        }

    module _ (ring2 : ℕ → ℕ) (same_ends : (b : ℕ) → b < pages → ends2 b ≡ ends b) where
      same_present : (q : ℕ) → k.low ≤ q → q < reach → ends2 (q % pages) ≡ (q + 1) * 8192
      same_present q low up =
          same_ends (q % pages) (mod-lt q k.some_page) ∙ k.present q low up

      same_held : (b : ℕ) → b < pages
          → (ends2 b ≡ 0) ⊎ HoldsPage pages k.low reach b (ends2 b)
      same_held b low = subst (λ (e : ℕ). (e ≡ 0) ⊎ HoldsPage pages k.low reach b e)
          (sym (same_ends b low)) (k.held b low)

      -- the next word of the buffer is zeroed
      pub zeroes : (at count : ℕ) → stage ≡ Zeroing at count → count < 1024
          → IsPut ring (at / 8192 % pages * 1024 + count) 0 ring2
          → PagesHold pages reach (Zeroing at (count + 1)) initialised written ends2 ring2 memory
          confirmed
      zeroes at count is more put =
          let h = subst Now is k.mapping in
          let gap = h.0 in
          let is_end = h.1 in
          let at_is = h.2 in
          let page : at / 8192 ≡ reach = omega arith in
          let number : at / 8192 % pages ≡ reach % pages = ap (λ (y : ℕ). y % pages) page in
          record {
            low = k.low;
            some_page = k.some_page;
            given_up = k.given_up;
            seen = k.seen;
            blank = k.blank;
            present = same_present;
            content = λ q j low up below. put.elsewhere (q % pages * 1024 + j)
                (λ e. apart pages q reach up (omega arith)
                (same_page (q % pages) j (reach % pages) count below more
                (e ∙ ap (λ (y : ℕ). y * 1024 + count) number)))
                ∙ k.content q j low up below;
            held = same_held;
            mapping = (
              h.0,
              h.1,
              h.2,
              omega arith,
              λ j low. dite (ℕ_discrete j count)
                  (λ e. ap (λ (y : ℕ × ℕ). ring2 (y.0 * 1024 + y.1)) (λ i. (sym number i, e i))
                  ∙ put.here)
                  (λ ne. put.elsewhere (reach % pages * 1024 + j)
                  (λ e. ne (let n = number in omega arith)) ∙ h.4 j (omega arith)),
            );
          }

      -- a word of a page is stored, which was mapped, and of which this word is not written
      pub stores : (memory2 : ℕ → ℕ) (p j value : ℕ) → j < 1024 → p < reach
          → written < (p + 1) * 8192
          → IsPut ring (p % pages * 1024 + j) value ring2
          → IsPut memory (p * 1024 + j) value memory2
          → PagesHold pages reach stage initialised written ends2 ring2 memory2 confirmed
      stores memory2 p j value small high past put put_memory =
          let from = not_given_up p past in
          let w = wide in
          let apart_from : (q m : ℕ) → m < 1024 → q % pages ≢ p % pages
          → q % pages * 1024 + m ≢ p % pages * 1024 + j =
          λ q m low ne e. ne (same_page (q % pages) m (p % pages) j low small e) in
          record {
            low = k.low;
            some_page = k.some_page;
            given_up = k.given_up;
            seen = k.seen;
            present = same_present;
            content = λ q m low up below. dite (ℕ_discrete q p)
                (λ e. dite (ℕ_discrete m j)
                (λ f. ap (λ (y : ℕ × ℕ). ring2 (y.0 % pages * 1024 + y.1)) (λ i. (e i, f i))
                ∙ put.here ∙ sym put_memory.here
                ∙ ap (λ (y : ℕ × ℕ). memory2 (y.0 * 1024 + y.1)) (λ i. (sym e i, sym f i)))
                (λ ne. put.elsewhere (q % pages * 1024 + m)
                (λ h. ne (let a : q % pages ≡ p % pages = ap (λ (y : ℕ). y % pages) e in
                omega arith))
                ∙ k.content q m low up below
                ∙ sym (put_memory.elsewhere (q * 1024 + m) (λ h. ne (omega arith)))))
                (λ ne. put.elsewhere (q % pages * 1024 + m)
                (apart_from q m below (one_page pages k.low reach q p w.0 low up from high ne))
                ∙ k.content q m low up below
                ∙ sym (put_memory.elsewhere (q * 1024 + m)
                (λ h. ne (same_page q m p j below small h))));
            held = same_held;
            blank = λ i far. put_memory.elsewhere i (λ e. omega arith) ∙ k.blank i far;
            mapping = at_later pages k.low reach initialised written ring written ring2
                (omega arith)
                (λ gap m low. put.elsewhere (reach % pages * 1024 + m)
                (apart_from reach m low
                (λ e. apart pages p reach high (omega arith) (sym e)))) stage k.mapping;
          }
