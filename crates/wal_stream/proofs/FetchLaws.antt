-- Bytes that a source gives, piece by piece, and the frames in them.
use Rattle.std.proofs.Common.{◌≡◌, ◌≢◌, ℕ, zero, suc, ◌+◌, ◌-◌, ◌*◌, ◌/◌, ◌<◌, ◌≤◌, Bool, if◌then◌else◌, ◌&&◌, List, [], ◌∷◌, ◌++◌, length, take, drop, Option, Some, None, IfSome, refl, ap, sym, subst, ◌∙◌, append_assoc, length-append, length-drop, lt-ltb, arith}
use Rattle.std.specs.Prelude.{nat_lt}
use Rattle.std.proofs.lemmas.Bool.{ne_eqb}
use Rattle.std.proofs.lemmas.List.{append-nil, drop-append-le, length-take-le, take-append-le, take_all, take_rest}
use Rattle.std.proofs.Math.Nat.{suc-mul, zero-mul}
use Rattle.std.proofs.Math.Seq.{take-append-add}
use Rattle.segment_disk.specs.Cause.{RoseByOne}
use Rattle.segment_disk.specs.Stream.{LosesFront, Takes, ends_after}
use Rattle.wal_stream.specs.Fetched.{FailsOnce, Gives, GivesFront, IsQuietSource, SourceState, TellsEnd, first_pieces, frames_in}

-- ---- bytes

loses_nothing : (left : Option (List ℕ)) → LosesFront left left []
loses_nothing None = tt
loses_nothing (Some bytes) = refl

loses_both : (left mid now : Option (List ℕ)) (one other : List ℕ) → LosesFront left mid one → LosesFront mid now other → LosesFront left now (one ++ other)
loses_both None None None one other off further = tt
loses_both None None (Some now) one other off further = absurd further
loses_both None (Some mid) now one other off further = absurd off
loses_both (Some left) None now one other off further = absurd off
loses_both (Some left) (Some mid) None one other off further = absurd further
loses_both (Some left) (Some mid) (Some now) one other off further = off ∙ ap (λ (rest : List ℕ). one ++ rest) further ∙ sym (append_assoc one other now)

pub gives_nothing : (source : SourceState) → Gives source source []
gives_nothing source = record { handed = sym (append-nil source.handed); off = loses_nothing source.left }

pub gives_both : (before mid now : SourceState) (one other : List ℕ) → Gives before mid one → Gives mid now other → Gives before now (one ++ other)
gives_both before mid now one other first second = record {
  handed = second.handed ∙ ap (λ (l : List ℕ). l ++ other) first.handed ∙ append_assoc before.handed one other;
  off = loses_both before.left mid.left now.left one other first.off second.off;
}

pub quiet_both : (before mid now : SourceState) → IsQuietSource before mid → IsQuietSource mid now → IsQuietSource before now
quiet_both before mid now first second = record {
  none_told = second.none_told ∙ first.none_told;
  up = second.up ∙ first.up;
}

-- ---- reads

-- a read that gave something tells no end
pub none_told : (before room count : ℕ) → count ≢ 0 → ends_after before room count ≡ before
none_told before room count some = ap (λ (b : Bool). if b && nat_lt 0 room then before + 1 else before) (ne_eqb count 0 some)

-- one that gave nothing into a piece that is not empty tells it
pub one_told : (before room : ℕ) → 0 < room → ends_after before room 0 ≡ before + 1
one_told before room some = ap (λ (b : Bool). if b then before + 1 else before) (lt-ltb 0 room some)

-- it gave nothing, and nothing is left
pub none_left : (left now : Option (List ℕ)) (into : List ℕ) → Takes left now 0 into → IfSome left (λ bytes. bytes ≡ []) → IfSome now (λ bytes. bytes ≡ [])
none_left None None into takes empty = tt
none_left None (Some now) into takes empty = absurd takes
none_left (Some left) None into takes empty = absurd takes
none_left (Some left) (Some now) into takes empty = sym takes ∙ empty

-- what was read before, and of each read its front
pub record HasFetched (before now : SourceState) (bytes : List ℕ) : Type 0 where
  pub gives : Gives before now bytes
  pub quiet : IsQuietSource before now

pub fetched_none : (source : SourceState) → HasFetched source source []
fetched_none source = record { gives = gives_nothing source; quiet = record { none_told = refl; up = refl } }

-- the front of a frame, once a read filled what is behind it
pub front_more : (have count : ℕ) (frame into behind : List ℕ) → have ≤ length frame → count ≤ length into → take (have + count) (take have frame ++ (into ++ behind)) ≡ take have frame ++ take count into
front_more have count frame into behind within fits =
    let long : length (take have frame) ≡ have = length-take-le have frame within in
    subst (λ (n : ℕ). take (n + count) (take have frame ++ (into ++ behind)) ≡ take have frame ++ take count into) long
    (take-append-add (take have frame) (into ++ behind) count ∙ ap (λ (l : List ℕ). take have frame ++ l) (take-append-le count into behind fits))

pub room_more : (have count : ℕ) (frame into behind : List ℕ) → have ≤ length frame → count ≤ length into → have + count ≤ length (take have frame ++ (into ++ behind))
room_more have count frame into behind within fits =
    omega (arith, length-append (take have frame) (into ++ behind), length-append into behind, length-take-le have frame within)

-- what is read into
pub room_left : (have : ℕ) (frame : List ℕ) → have < length frame → 0 < length (take (length frame - have) (drop have frame))
room_left have frame below =
    let same = take_rest frame have in
    subst (λ (l : List ℕ). 0 < length l) (sym same) (omega (arith, length-drop have frame))

-- a read gave something
pub fetched_more : (before mid now : SourceState) (have count room : ℕ) (frame into behind : List ℕ) → have ≤ length frame → count ≤ length into → HasFetched before mid (take have frame)
    → now.handed ≡ mid.handed ++ take count into → now.ends_told ≡ ends_after mid.ends_told room count → Takes mid.left now.left count into → now.faults ≡ mid.faults → count ≢ 0
    → HasFetched before now (take (have + count) (take have frame ++ (into ++ behind)))
fetched_more before mid now have count room frame into behind within fits fetched handed counted taken same some =
    subst (HasFetched before now) (sym (front_more have count frame into behind within fits))
    (record {
      gives = gives_both before mid now (take have frame) (take count into) fetched.gives (record { handed = handed; off = taken });
      quiet = quiet_both before mid now fetched.quiet (record { none_told = counted ∙ none_told mid.ends_told room count some; up = same });
    })

-- a read gave nothing
pub fetched_end : (before mid now : SourceState) (room : ℕ) (bytes into : List ℕ) → HasFetched before mid bytes → length bytes < 8224 → 0 < room
    → now.handed ≡ mid.handed ++ take 0 into → now.ends_told ≡ ends_after mid.ends_told room 0 → Takes mid.left now.left 0 into → IfSome mid.left (λ rest. rest ≡ []) → now.faults ≡ mid.faults
    → GivesFront before now × TellsEnd before now
fetched_end before mid now room bytes into fetched short some handed counted taken empty same = (
  record { bytes = bytes; gives = subst (Gives before now) (append-nil bytes) (gives_both before mid now bytes [] fetched.gives (record { handed = handed; off = taken })); short = short },
  record {
    told = counted ∙ one_told mid.ends_told room some ∙ ap (λ (n : ℕ). n + 1) fetched.quiet.none_told;
    none_left = none_left mid.left now.left into taken empty;
    up = same ∙ fetched.quiet.up;
  },
)

-- a read failed
pub fetched_fault : (before mid now : SourceState) (bytes : List ℕ) → HasFetched before mid bytes → length bytes < 8224
    → now.handed ≡ mid.handed → now.ends_told ≡ mid.ends_told → now.left ≡ mid.left → RoseByOne mid.faults now.faults → GivesFront before now × FailsOnce before now
fetched_fault before mid now bytes fetched short handed counted stays rose = (
  record {
    bytes = bytes;
    gives = record { handed = handed ∙ fetched.gives.handed; off = subst (λ (left : Option (List ℕ)). LosesFront before.left left bytes) (sym stays) fetched.gives.off };
    short = short;
  },
  record { failed = subst (λ (n : ℕ). RoseByOne n now.faults) fetched.quiet.up rose; none_told = counted ∙ fetched.quiet.none_told },
)

-- ---- pieces

take_first : (size : ℕ) (bytes more : List ℕ) → size ≤ length bytes → take size (bytes ++ more) ≡ take size bytes
take_first size bytes more within = take-append-le size bytes more within

-- what stands behind the pieces says nothing
pub pieces_front : (size count : ℕ) (bytes more : List ℕ) → count * size ≤ length bytes → first_pieces size count (bytes ++ more) ≡ first_pieces size count bytes
pieces_front size zero bytes more within = refl
pieces_front size (suc count) bytes more within =
    let one : size ≤ length bytes = omega (arith, suc-mul count size) in
    let others : count * size ≤ length (drop size bytes) = omega (arith, suc-mul count size, length-drop size bytes) in
    ap (λ (l : List ℕ). l ∷ first_pieces size count (drop size (bytes ++ more))) (take_first size bytes more one)
    ∙ ap (λ (l : List ℕ). take size bytes ∷ first_pieces size count l) (drop-append-le size bytes more one)
    ∙ ap (λ (l : List (List ℕ)). take size bytes ∷ l) (pieces_front size count (drop size bytes) more others)

none_of : (bytes : List ℕ) → length bytes ≡ 0 → bytes ≡ []
none_of [] none = refl
none_of (b ∷ bytes) none = absurd (omega (arith, none))

-- one piece more
pub pieces_more : (size count : ℕ) (bytes more : List ℕ) → length bytes ≡ count * size → length more ≡ size → first_pieces size (suc count) (bytes ++ more) ≡ first_pieces size count bytes ++ more ∷ []
pieces_more size zero bytes more long whole =
    ap (λ (l : List ℕ). take size (l ++ more) ∷ []) (none_of bytes (omega (arith, zero-mul size)))
    ∙ ap (λ (l : List ℕ). l ∷ []) (take_all size more (omega arith))
pieces_more size (suc count) bytes more long whole =
    let one : size ≤ length bytes = omega (arith, suc-mul count size) in
    let others : length (drop size bytes) ≡ count * size = omega (arith, suc-mul count size, length-drop size bytes) in
    ap (λ (l : List ℕ). l ∷ first_pieces size (suc count) (drop size (bytes ++ more))) (take_first size bytes more one)
    ∙ ap (λ (l : List ℕ). take size bytes ∷ first_pieces size (suc count) l) (drop-append-le size bytes more one)
    ∙ ap (λ (l : List (List ℕ)). take size bytes ∷ l) (pieces_more size count (drop size bytes) more others whole)

-- ---- frames

-- whole frames
pub frames_whole : (count : ℕ) (bytes : List ℕ) → length bytes ≡ count * 8224 → frames_in bytes ≡ first_pieces 8224 count bytes
frames_whole count bytes long =
    let many : length bytes / 8224 ≡ count = omega arith in
    ap (λ (n : ℕ). first_pieces 8224 n bytes) many

-- whole frames, and a rest that is shorter
pub frames_and_rest : (count : ℕ) (bytes rest : List ℕ) → length bytes ≡ count * 8224 → length rest < 8224 → frames_in (bytes ++ rest) ≡ first_pieces 8224 count bytes
frames_and_rest count bytes rest long short =
    let many : length (bytes ++ rest) / 8224 ≡ count = omega (arith, length-append bytes rest) in
    ap (λ (n : ℕ). first_pieces 8224 n (bytes ++ rest)) many
    ∙ pieces_front 8224 count bytes rest (omega arith)
