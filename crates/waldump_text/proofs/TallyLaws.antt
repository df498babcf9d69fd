-- A tally with one record more.
use Rattle.std.proofs.Common.{◌≡◌, ◌≢◌, ℕ, zero, suc, ◌+◌, ◌^◌, ◌<◌, ◌≤◌, Bool, true, false, cond, eqb, List, [], ◌∷◌, ◌++◌, length, get_or, set, replicate, inl, inr, refl, ap, sym, subst, ◌∙◌, arith, IsTrue, not}
use Rattle.std.proofs.lemmas.Bool.{cases_order, eq-eqb, ne_eqb}
use Rattle.std.proofs.lemmas.List.{append-nil, get_or-set_other, get_or-set_same, length-append, length-replicate, length-set}
use Rattle.std.proofs.lemmas.List.Elements.{filter-append}
use Rattle.std.proofs.lemmas.List.Sums.{sum_by-append}
use Rattle.waldump_filter.specs.declared.listed.Listed.{Listed}
use Rattle.wal_spelling.specs.Record.{is_free_manager}
use Rattle.waldump_text.specs.Sums.{images_len, no_sums, of_manager, sums_of}
use Rattle.waldump_text.specs.Tally.{SumsFit, TallyFits, Tallies, own_sums}
use Rattle.waldump_text.specs.declared.sums.Sums.{Sums}
use Rattle.waldump_text.specs.declared.sums.Tally.{Tally}

-- sums with one record more
abbrev pub with_one : Listed → Sums → Sums
with_one r sums = record { records = sums.records + 1; images = sums.images + images_len r.value.blocks; total = sums.total + r.total }

-- a tally with one record more
pub record IsAdded (old : Tally) (r : Listed) (new : Tally) : Type 0 where
  pub all : new.all ≡ with_one r old.all
  pub own : new.own ≡ set old.own r.value.rmid (with_one r (own_sums old r.value.rmid))

same_sums : (a b : Sums) → a.records ≡ b.records → a.images ≡ b.images → a.total ≡ b.total → a ≡ b
same_sums a b records images total = let whole : record { records = a.records; images = a.images; total = a.total } ≡ b = rw (records, images, total) refl in whole

kept_if : (one : Listed) (test : Bool) → test ≡ true → cond test (one ∷ []) [] ≡ one ∷ []
kept_if one test is = rw is refl

dropped_if : (one : Listed) (test : Bool) → test ≡ false → cond test (one ∷ []) [] ≡ []
dropped_if one test is = rw is refl

-- ---- soundness

pub SumsFit-less : (count more : ℕ) (sums : Sums) → count ≤ more → SumsFit count sums → SumsFit more sums
SumsFit-less count more sums le is = record { records = omega (arith, is.records); total = omega (arith, is.total); images = is.images }

SumsFit-with_one : (count : ℕ) (r : Listed) (sums : Sums) → images_len r.value.blocks ≤ r.total → r.total < 2 ^ 32 → SumsFit count sums → SumsFit (count + 1) (with_one r sums)
SumsFit-with_one count r sums images low is = record { records = omega (arith, is.records); total = omega (arith, is.total); images = omega (arith, is.images) }

module _ (old new : Tally) (r : Listed) (is : IsAdded old r new) (managers : length old.own ≡ 256) (small : r.value.rmid < 256) where
  own-same : own_sums new r.value.rmid ≡ with_one r (own_sums old r.value.rmid)
  own-same = ap (λ own. get_or own r.value.rmid no_sums) is.own ∙ get_or-set_same old.own r.value.rmid (with_one r (own_sums old r.value.rmid)) no_sums (omega arith)

  own-other : (rmid : ℕ) → rmid ≢ r.value.rmid → own_sums new rmid ≡ own_sums old rmid
  own-other rmid apart = ap (λ own. get_or own rmid no_sums) is.own ∙ get_or-set_other old.own r.value.rmid rmid (with_one r (own_sums old r.value.rmid)) no_sums apart

  more_records : new.all.records ≡ old.all.records + 1
  more_records = ap (λ (sums : Sums). sums.records) is.all

  module _ (sound : TallyFits old) (images : images_len r.value.blocks ≤ r.total) (low : r.total < 2 ^ 32) (named : IsTrue (not (is_free_manager r.value.rmid))) where
    bounded-same : SumsFit new.all.records (own_sums new r.value.rmid)
    bounded-same =
        subst (λ (sums : Sums). SumsFit new.all.records sums) (sym own-same)
        (subst (λ (count : ℕ). SumsFit count (with_one r (own_sums old r.value.rmid))) (sym more_records)
        (SumsFit-with_one old.all.records r _ images low (sound.own r.value.rmid)))

    bounded-other : (rmid : ℕ) → rmid ≢ r.value.rmid → SumsFit new.all.records (own_sums new rmid)
    bounded-other rmid apart =
        subst (λ (sums : Sums). SumsFit new.all.records sums) (sym (own-other rmid apart))
        (SumsFit-less old.all.records new.all.records (own_sums old rmid) (omega (arith, more_records)) (sound.own rmid))

    bounded : (rmid : ℕ) → SumsFit new.all.records (own_sums new rmid)
    bounded rmid = elim (cases_order rmid r.value.rmid) [
      | inl same ↦ subst (λ (m : ℕ). SumsFit new.all.records (own_sums new m)) (sym same) bounded-same
      | inr (inl lt) ↦ bounded-other rmid (omega arith)
      | inr (inr gt) ↦ bounded-other rmid (omega arith)
    ]

    named-other : (rmid : ℕ) → rmid ≢ r.value.rmid → 0 < (own_sums new rmid).records → IsTrue (not (is_free_manager rmid))
    named-other rmid apart some = sound.named rmid (subst (λ (sums : Sums). 0 < sums.records) (own-other rmid apart) some)

    named_all : (rmid : ℕ) → 0 < (own_sums new rmid).records → IsTrue (not (is_free_manager rmid))
    named_all rmid some = elim (cases_order rmid r.value.rmid) [
      | inl same ↦ subst (λ (m : ℕ). IsTrue (not (is_free_manager m))) (sym same) named
      | inr (inl lt) ↦ named-other rmid (omega arith) some
      | inr (inr gt) ↦ named-other rmid (omega arith) some
    ]

    pub TallyFits-added : TallyFits new
    TallyFits-added = record {
      managers = ap length is.own ∙ length-set old.own r.value.rmid (with_one r (own_sums old r.value.rmid)) ∙ managers;
      all = subst (λ (sums : Sums). SumsFit sums.records sums) (sym is.all) (SumsFit-with_one old.all.records r old.all images low sound.all);
      own = bounded;
      named = named_all;
    }

  -- ---- exactness

  sums_of-more : (records : List Listed) → sums_of (records ++ r ∷ []) ≡ with_one r (sums_of records)
  sums_of-more records =
      same_sums _ _ (length-append records (r ∷ []))
      (sum_by-append (λ (x : Listed). images_len x.value.blocks) records (r ∷ []) ∙ omega arith)
      (sum_by-append (λ (x : Listed). x.total) records (r ∷ []) ∙ omega arith)

  of_manager-same : (records : List Listed) → of_manager r.value.rmid (records ++ r ∷ []) ≡ of_manager r.value.rmid records ++ r ∷ []
  of_manager-same records =
      filter-append (λ (x : Listed). eqb x.value.rmid r.value.rmid) records (r ∷ [])
      ∙ ap (λ (some : List Listed). of_manager r.value.rmid records ++ some) (kept_if r (eqb r.value.rmid r.value.rmid) (eq-eqb r.value.rmid r.value.rmid refl))

  of_manager-other : (rmid : ℕ) → rmid ≢ r.value.rmid → (records : List Listed) → of_manager rmid (records ++ r ∷ []) ≡ of_manager rmid records
  of_manager-other rmid apart records =
      filter-append (λ (x : Listed). eqb x.value.rmid rmid) records (r ∷ [])
      ∙ ap (λ (some : List Listed). of_manager rmid records ++ some) (dropped_if r (eqb r.value.rmid rmid) (ne_eqb r.value.rmid rmid (λ same. apart (sym same))))
      ∙ append-nil (of_manager rmid records)

  module _ (records : List Listed) (tallies : Tallies old records) where
    tallies-other : (rmid : ℕ) → rmid < 256 → rmid ≢ r.value.rmid → own_sums new rmid ≡ sums_of (of_manager rmid (records ++ r ∷ []))
    tallies-other rmid within apart = own-other rmid apart ∙ tallies.own rmid within ∙ ap sums_of (sym (of_manager-other rmid apart records))

    tallies-same : own_sums new r.value.rmid ≡ sums_of (of_manager r.value.rmid (records ++ r ∷ []))
    tallies-same =
        own-same ∙ ap (with_one r) (tallies.own r.value.rmid small) ∙ sym (sums_of-more (of_manager r.value.rmid records))
        ∙ ap sums_of (sym (of_manager-same records))

    pub Tallies-added : Tallies new (records ++ r ∷ [])
    Tallies-added = record {
      all = is.all ∙ ap (with_one r) tallies.all ∙ sym (sums_of-more records);
      own = λ rmid within. elim (cases_order rmid r.value.rmid) [
        | inl same ↦ subst (λ (m : ℕ). own_sums new m ≡ sums_of (of_manager m (records ++ r ∷ []))) (sym same) tallies-same
        | inr (inl lt) ↦ tallies-other rmid within (omega arith)
        | inr (inr gt) ↦ tallies-other rmid within (omega arith)
      ];
    }

-- ---- a tally of no records

own-none : (n rmid : ℕ) → get_or (replicate n no_sums) rmid no_sums ≡ no_sums
own-none zero rmid = refl
own-none (suc n) zero = refl
own-none (suc n) (suc rmid) = own-none n rmid

none_bounded : (sums : Sums) → sums ≡ no_sums → SumsFit 0 sums
none_bounded sums is = rw is (record { records = omega arith; total = omega arith; images = omega arith })

pub none_sound : (n : ℕ) → n ≡ 256 → TallyFits (record { own = replicate n no_sums; all = no_sums })
none_sound n is = record {
  managers = length-replicate n no_sums ∙ is;
  all = none_bounded no_sums refl;
  own = λ rmid. none_bounded _ (own-none n rmid);
  named = λ rmid some. absurd (let none = ap (λ (sums : Sums). sums.records) (own-none n rmid) in omega (arith, none, some));
}

pub none_tallied : (n : ℕ) → Tallies (record { own = replicate n no_sums; all = no_sums }) []
none_tallied n = record { all = refl; own = λ rmid within. own-none n rmid }
