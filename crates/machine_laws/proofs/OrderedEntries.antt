-- One entry more at the end of an order, and what each pass has of it.
use Rattle.std.proofs.Common.{◌≡◌, ◌≢◌, ℕ, ◌+◌, eq-eqb, ne_eqb, cond, Bool, true, false, List, [], ◌∷◌, ◌++◌, Some, append_assoc, arith, refl, sym, ap, ◌∙◌}
use Rattle.std.proofs.lemmas.List.{take-append-le, length-append}
use Rattle.wal_page.specs.Order.{Entry, room_at}
use Rattle.wal_page.proofs.OrderLaws.{rooms_of_push}
use Rattle.machine_state.specs.Views.{Stop}
use Rattle.machine_state.specs.Ordered.{is_pass, entries_under, FrontEndsAt}
use Rattle.machine_state.specs.Words.{Opening, order_end}

pub is_pass_own : (n : ℕ) → is_pass n (Some n) ≡ true
is_pass_own n = eq-eqb n n refl

pub is_pass_other : (n m : ℕ) → m ≢ n → is_pass n (Some m) ≡ false
is_pass_other n m apart = ne_eqb m n apart

put_behind : (b : Bool) (x e : Entry) (l : List Entry)
    → cond b (x ∷ (l ++ e ∷ [])) (l ++ e ∷ []) ≡ cond b (x ∷ l) l ++ e ∷ []
put_behind true x e l = refl
put_behind false x e l = refl

pub entries_of-hit : (n : ℕ) (es : List Entry) (e : Entry) → is_pass n e.pass ≡ true
    → entries_under n (es ++ e ∷ []) ≡ entries_under n es ++ e ∷ []
entries_of-hit n [] e h = ap (λ (b : Bool). cond b (e ∷ []) []) h
entries_of-hit n (x ∷ xs) e h =
    ap (λ (l : List Entry). cond (is_pass n x.pass) (x ∷ l) l) (entries_of-hit n xs e h)
    ∙ put_behind (is_pass n x.pass) x e (entries_under n xs)

pub entries_of-miss : (n : ℕ) (es : List Entry) (e : Entry) → is_pass n e.pass ≡ false
    → entries_under n (es ++ e ∷ []) ≡ entries_under n es
entries_of-miss n [] e h = ap (λ (b : Bool). cond b (e ∷ []) []) h
entries_of-miss n (x ∷ xs) e h =
    ap (λ (l : List Entry). cond (is_pass n x.pass) (x ∷ l) l) (entries_of-miss n xs e h)

pub order_end_push : (opening : Opening) (es : List Entry) (e : Entry) → order_end opening
    (es ++ e ∷ []) ≡ order_end opening es + room_at opening.setup.seg_size e.start e.value
order_end_push opening es e = omega (arith, rooms_of_push opening.setup.seg_size es e)

-- a front of an order is one of a longer order, for a log that grew too
pub FrontEndsAt-longer : (opening : Opening) (number : ℕ) (order back entries : List Entry)
    (full : Stop)
    → FrontEndsAt opening number order entries full
    → FrontEndsAt opening number (order ++ back) entries full
FrontEndsAt-longer opening number order back entries full h = record {
  front = h.front;
  back = h.back ++ back;
  are = ap (λ (es : List Entry). es ++ back) h.are ∙ append_assoc h.front h.back back;
  end = h.end;
  own = h.own;
  within = h.within;
  at_start = h.at_start;
}

pub FrontEndsAt-more : (opening : Opening) (number : ℕ) (order entries more : List Entry)
    (full : Stop)
    → FrontEndsAt opening number order entries full
    → FrontEndsAt opening number order (entries ++ more) full
FrontEndsAt-more opening number order entries more full h = record {
  front = h.front;
  back = h.back;
  are = h.are;
  end = h.end;
  own = h.own ∙ sym (take-append-le full.entries entries more h.within);
  within = omega (arith, h.within, length-append entries more);
  at_start = h.at_start;
}
