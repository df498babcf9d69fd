-- Tests of a reading that did not fail.
use Rattle.std.proofs.Common.{◌≡◌, Bool, true, false, cond, Result, Ok, Err, refl, ◌⊎◌, inl, inr}
use Rattle.wal_record.specs.declared.fault.RecErr.{RecErr}
use Rattle.wal_record.specs.Reading.{◌>>=◌}

pub bind_ok : {A B : Type 0} (r : Result A RecErr) (f : A → Result B RecErr) (y : B) → (r >>= f) ≡ Ok y → (x : A) × (r ≡ Ok x) × (f x ≡ Ok y)
bind_ok (Ok x) f y e = (x, refl, e)
bind_ok (Err d) f y e = absurd cc

-- a test that refuses did not hold
pub not_refused : {A : Type 0} (b : Bool) (d : RecErr) (x : Result A RecErr) (y : A) → cond b (Err d) x ≡ Ok y → (b ≡ false) × (x ≡ Ok y)
not_refused true d x y e = absurd cc
not_refused false d x y e = (refl, e)

-- a test that accepts held
pub accepted : {A : Type 0} (b : Bool) (d : RecErr) (x y : A) → cond b (Ok x) (Err d) ≡ Ok y → (b ≡ true) × (x ≡ y)
accepted true d x y e = (refl, cc)
accepted false d x y e = absurd cc

pub both_refuse : {A : Type 0} (b : Bool) (c d : RecErr) (y : A) → cond b (Err c) (Err d) ≡ Ok y → ⊥
both_refuse true c d y e = cc
both_refuse false c d y e = cc

pub chosen : {A : Type 0} (b : Bool) (x y z : Result A RecErr) → cond b x y ≡ z → ((b ≡ true) × (x ≡ z)) ⊎ ((b ≡ false) × (y ≡ z))
chosen true x y z e = inl (refl, e)
chosen false x y z e = inr (refl, e)

abbrev pub done : {A : Type 0} → A → Result A RecErr
done x = Ok x

pub ok_is : {A : Type 0} (x y : A) → done x ≡ done y → x ≡ y
ok_is x y e = cc
