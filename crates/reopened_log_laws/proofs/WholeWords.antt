-- Where the entries below the place are known, each word of a disk is one of the log from its start on.
use Rattle.std.proofs.Common.{◌≡◌, ℕ, ◌+◌, ◌*◌, List, ◌++◌, Option, Some, None, inl, inr, sym, ap, ◌∙◌, arith}
use Rattle.std.specs.Int.{w64, to_le_bytes}
use Rattle.byte_position.specs.Geometry.{IsSegmentSize}
use Rattle.segment_disk.specs.Assured.{IsMadeUpto, IsNowhere, SegmentAssures, StateAssures, TapeAssures}
use Rattle.segment_disk.specs.Tape.{DiskState, Segment, Tape}
use Rattle.flush_core.specs.SettledLog.{IsLogWord, IsZeroOrLogWord}
use Rattle.flush_core.proofs.LeftLaws.{TapeAssures-weaker}
use Rattle.wal_page.specs.Log.{log_word_bytes}
use Rattle.wal_page.specs.Order.{Entry}
use Rattle.machine_state.specs.Durable.{IsFirm, IsLawfulAt, IsLogBelow}
use Rattle.machine_state.specs.Ringed.{log_bytes_of}
use Rattle.machine_state.specs.Suited.{IsLogAt}
use Rattle.machine_state.specs.Words.{GoesOnAtPlace, Opening}
use Rattle.machine_laws.specs.WholeOrders.{LiesBehind}
use Rattle.machine_laws.proofs.WholeOrders.{whole_order}
use Rattle.reopened_log_laws.specs.Sure.{IsLogUpto}

-- a disk that assures more of each word assures less of it
segment_weaker : (size : ℕ) (IsThere : ℕ → Type 0) (Fits Others : ℕ → ℕ → List ℕ → Type 0)
    → ((page word : ℕ) (bytes : List ℕ) → Fits page word bytes → Others page word bytes)
    → (segment : ℕ) (s : Option Segment) → SegmentAssures size IsThere Fits segment s
    → SegmentAssures size IsThere Others segment s
segment_weaker size IsThere Fits Others weaker segment None assures = assures
segment_weaker size IsThere Fits Others weaker segment (Some s) assures = (
  assures.0,
  λ page word within low bytes may. weaker _ _ _ (assures.1 page word within low bytes may),
)

pub StateAssures-weaker : (size : ℕ) (IsThere : ℕ → Type 0) (Fits Others : ℕ → ℕ → List ℕ → Type 0)
    → ((page word : ℕ) (bytes : List ℕ) → Fits page word bytes → Others page word bytes)
    → (state : DiskState) → StateAssures size IsThere Fits state
    → StateAssures size IsThere Others state
StateAssures-weaker size IsThere Fits Others weaker state assures segment =
    segment_weaker size IsThere Fits Others weaker segment (state segment) (assures segment)

module _ (opening : Opening) (front : List Entry) (lies : LiesBehind opening front)
    (order : List Entry) where
  abbrev size : ℕ
  size = (opening.setup).seg_size

  abbrev sysid : ℕ
  sysid = (opening.setup).sysid

  -- ---- each word of the disk

  module _ (valid : IsSegmentSize (opening.setup).seg_size)
      (follows : GoesOnAtPlace opening order) where
    bytes-whole : (page word : ℕ) → log_bytes_of opening order (page * 8192 + 8 * word)
        ≡ log_word_bytes (opening.setup).seg_size (opening.setup).sysid (front ++ order)
        (page * 8192 + 8 * word)
    bytes-whole page word = ap (to_le_bytes w64)
        ((whole_order opening valid front lies order follows).words (page * 8192 + 8 * word)
        (omega arith))

    upto-whole : (upto page word : ℕ) (bytes : List ℕ)
        → IsLogBelow opening order upto page word bytes
        → IsLogUpto (opening.setup).seg_size (opening.setup).sysid (front ++ order) upto page
        word bytes
    upto-whole upto page word bytes is below = is below ∙ bytes-whole page word

    pub upto-behind : (upto page word : ℕ) (bytes : List ℕ)
        → IsLogUpto (opening.setup).seg_size (opening.setup).sysid (front ++ order) upto page
        word bytes
        → IsLogBelow opening order upto page word bytes
    upto-behind upto page word bytes is below = is below ∙ sym (bytes-whole page word)

    lawful-whole : (page word : ℕ) (bytes : List ℕ) → IsLawfulAt opening order page word bytes
        → IsZeroOrLogWord (opening.setup).seg_size (opening.setup).sysid (front ++ order) page
        word bytes
    lawful-whole page word bytes (inl zeros) = inl zeros
    lawful-whole page word bytes (inr own) = inr (own ∙ bytes-whole page word)

    pub lawful-behind : (page word : ℕ) (bytes : List ℕ)
        → IsZeroOrLogWord (opening.setup).seg_size (opening.setup).sysid (front ++ order) page
        word bytes
        → IsLawfulAt opening order page word bytes
    lawful-behind page word bytes (inl zeros) = inl zeros
    lawful-behind page word bytes (inr own) = inr (own ∙ sym (bytes-whole page word))

    pub log_at-behind : (page word : ℕ) (bytes : List ℕ)
        → IsLogWord (opening.setup).seg_size (opening.setup).sysid (front ++ order) page word
        bytes
        → IsLogAt opening order page word bytes
    log_at-behind page word bytes is = is ∙ sym (bytes-whole page word)

    -- ---- and of what crashes leave

    pub firm-whole : (upto from : ℕ) (t : Tape) → IsFirm opening order upto from t
        → TapeAssures (opening.setup).seg_size (IsMadeUpto (opening.setup).seg_size upto)
        (IsLogUpto (opening.setup).seg_size (opening.setup).sysid (front ++ order) upto) from t
    firm-whole upto from t firm = TapeAssures-weaker size (IsMadeUpto size upto)
        (IsLogBelow opening order upto) (IsMadeUpto size upto)
        (IsLogUpto size sysid (front ++ order) upto) (λ segment made. made) (upto-whole upto) from t
        firm

    pub lawful_tape-whole : (from : ℕ) (t : Tape)
        → TapeAssures (opening.setup).seg_size IsNowhere (IsLawfulAt opening order) from t
        → TapeAssures (opening.setup).seg_size IsNowhere
        (IsZeroOrLogWord (opening.setup).seg_size (opening.setup).sysid (front ++ order)) from t
    lawful_tape-whole from t lawful = TapeAssures-weaker size IsNowhere (IsLawfulAt opening order)
        IsNowhere (IsZeroOrLogWord size sysid (front ++ order)) (λ segment nowhere. nowhere)
        lawful-whole from t lawful
