-- Keys that are vectors of bytes, by their bytes: what a change of one leaves of the others.
use Rattle.std.proofs.Common.{◌≡◌, ℕ, List, [], Option, Bool, true, false, cond, refl, sym, ap, subst, ◌∙◌}
use Rattle.std.specs.Prelude.{None, Some, is_some}
use mathlib.Core.Bool.{false≢true}
use mathlib.Core.Logic.{⊎_elim}
use Rattle.std.specs.BTreeMap.{UpdatesBy, is_at}
use Rattle.std.specs.Cmp.{eq_by_cmp_equiv}
use Rattle.std.specs.Cmp.Lexicographic.{slice_cmp, bytes_decides, nat_list_cmp_total, nat_list_eq_equiv}
use Rattle.std.specs.Map.{lookup, IsKeyTest, AreApart, KeepsOthers}
use Rattle.std.specs.Ordering.{is_eq, nat_cmp}
use Rattle.std.specs.Str.{bytes_eq}
use Rattle.std.proofs.lemmas.Bool.{cases_Bool, cond-true, cond-false}
use Rattle.std.proofs.lemmas.Map.Text.{is_eq-slice_cmp}
use Rattle.std.specs.declared.cmp.Ordering.{Ordering}
use Rattle.durable_map.specs.Changes.{MapChange, MapMeaning}
use Rattle.durable_map.specs.Stores.{AreOf, Bytes, SaysTheSame, Slots, TakesIn, map_in, slot_of, value_in}

apart : (bs cs ks : List ℕ) → bytes_eq bs cs ≡ false → bytes_eq bs ks ≡ true
    → bytes_eq cs ks ≡ false
apart bs cs ks n y = nat_list_eq_equiv.symm cs ks ∙ sym (nat_list_eq_equiv.congr bs ks cs y) ∙ n

apart_in_order : (bs cs ks : List ℕ) → bytes_eq bs cs ≡ false
    → is_eq (slice_cmp nat_cmp bs ks) ≡ true → is_eq (slice_cmp nat_cmp cs ks) ≡ false
apart_in_order bs cs ks n y =
    is_eq-slice_cmp cs ks ∙ apart bs cs ks n (sym (is_eq-slice_cmp bs ks) ∙ y)

other_entries : {K X : Type 0} (eq : K → K → Bool) (test : K → Bool) (old new : List (K × X))
    → KeepsOthers eq test old new → (other : K → Bool) → IsKeyTest eq other → AreApart test other
    → lookup other new ≡ lookup other old
unfolding KeepsOthers
other_entries eq test old new h = h

-- g is w at bs, and f at other bytes
by_bytes : {W : Type 0} (f g : List ℕ → W) (bs : List ℕ) (w : W) → g bs ≡ w
    → ((cs : List ℕ) → bytes_eq bs cs ≡ false → g cs ≡ f cs) → (cs : List ℕ)
    → g cs ≡ cond (bytes_eq bs cs) w (f cs)
by_bytes f g bs w here other cs =
    ⊎_elim
    (λ y. subst (λ l. g l ≡ w) ((bytes_decides bs cs).0 y) here
    ∙ sym (cond-true (bytes_eq bs cs) w (f cs) y))
    (λ n. other cs n ∙ sym (cond-false (bytes_eq bs cs) w (f cs) n))
    (cases_Bool (bytes_eq bs cs))

abbrev cmp_bytes : Bytes → Bytes → Ordering
cmp_bytes x y = slice_cmp nat_cmp x.items y.items

-- one key's slot was changed
pub takes_in : (change : MapChange) (slot : Option (Option Bytes)) (old new : Slots)
    → value_in slot ≡ change.value
    → UpdatesBy cmp_bytes (λ (k : Bytes). slice_cmp nat_cmp change.key k.items) old new slot
    → TakesIn change old new
takes_in change slot old new is h =
    by_bytes (map_in old) (map_in new) change.key change.value
    (ap value_in h.1 ∙ is)
    (λ cs e. ap value_in (other_entries _ _ _ _ h.3 _
    (λ x y. (eq_by_cmp_equiv nat_list_cmp_total).congr cs x.items y.items)
    (λ k. apart_in_order change.key cs k.items e)))

-- a key that has nothing is made to have nothing
same_at : (map : MapMeaning) (key : List ℕ) → map key ≡ None → (is : Bool) (other : List ℕ)
    → (is ≡ true → other ≡ key) → cond is None (map other) ≡ map other
same_at map key none true other same = sym (ap map (same refl) ∙ none)
same_at map key none false other same = refl

-- an empty slot was made for a key that had none
pub says_the_same : (key : List ℕ) (old new : Slots) → slot_of old key ≡ None
    → UpdatesBy cmp_bytes (λ (k : Bytes). slice_cmp nat_cmp key k.items) old new (Some None)
    → SaysTheSame old new
says_the_same key old new none h other =
    takes_in (record { key = key; value = None }) (Some None) old new refl h other
    ∙ same_at (map_in old) key (ap value_in none) (bytes_eq key other) other
    (λ is. sym ((bytes_decides key other).0 is))

-- a test that found nothing
pub is_none : {X : Type 0} (found : Option X) → false ≡ is_some found → found ≡ None
is_none None is = refl
is_none (Some x) is = absurd (false≢true is)

-- an empty map says nothing
pub holds_nothing : (entries : Slots) → entries.entries ≡ [] → AreOf [] entries
holds_nothing entries empty key =
    ap (λ (es : List (Bytes × Option Bytes)). value_in
    (lookup (is_at (λ (k : Bytes). slice_cmp nat_cmp key k.items)) es)) empty
