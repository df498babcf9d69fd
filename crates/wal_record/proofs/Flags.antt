-- The flags of a byte, taken apart and put together.
use Rattle.std.proofs.Common.{◌≡◌, ℕ, ◌+◌, ◌*◌, ◌/◌, ◌%◌, ◌<◌, Bool, true, false, eqb, refl, ap, ◌∙◌, arith, inl, inr}
use Rattle.std.proofs.lemmas.Bool.{cases_lt}
use Rattle.wal_record.specs.declared.head.ForkFlags.{ForkFlags}
use Rattle.wal_spelling.specs.Spelling.{flag}
use Rattle.wal_record.specs.Reading.{fork_flags}

-- the number of a flag
bit_of : Bool → ℕ
bit_of true = 1
bit_of false = 0

bit_of-is : (n : ℕ) → n < 2 → bit_of (eqb n 1) ≡ n
unfolding bit_of
bit_of-is n lt =
    elim (cases_lt n 1) [
      | inl zero ↦ let e : n ≡ 0 = omega arith in rw (e) refl
      | inr one ↦ let e : n ≡ 1 = omega arith in rw (e) refl
    ]

bit_of-one : (b : Bool) → eqb (bit_of b) 1 ≡ b
unfolding bit_of
bit_of-one true = refl
bit_of-one false = refl

bit_of-below : (b : Bool) → bit_of b < 2
unfolding bit_of
bit_of-below true = omega arith
bit_of-below false = omega arith

flag-is : (b : Bool) (worth : ℕ) → flag b worth ≡ bit_of b * worth
unfolding bit_of
flag-is true worth = omega arith
flag-is false worth = omega arith

-- the fork byte of its flags
abbrev pub fork_byte : ForkFlags → ℕ
fork_byte f = f.fork + flag f.has_image 16 + flag f.has_data 32 + flag f.will_init 64 + flag f.same 128

pub fork_byte-back : (b : ℕ) → b < 256 → fork_byte (fork_flags b) ≡ b
fork_byte-back b lt =
    let image = flag-is (eqb (b / 16 % 2) 1) 16 in
    let has = flag-is (eqb (b / 32 % 2) 1) 32 in
    let init = flag-is (eqb (b / 64 % 2) 1) 64 in
    let same = flag-is (eqb (b / 128 % 2) 1) 128 in
    let i = bit_of-is (b / 16 % 2) (omega arith) in
    let d = bit_of-is (b / 32 % 2) (omega arith) in
    let w = bit_of-is (b / 64 % 2) (omega arith) in
    let s = bit_of-is (b / 128 % 2) (omega arith) in
    omega (arith, image, has, init, same, i, d, w, s)

flag_fields : (fork i d w s : ℕ) → fork < 16 → i < 2 → d < 2 → w < 2 → s < 2 → let b = fork + i * 16 + d * 32 + w * 64 + s * 128 in (b % 16 ≡ fork) × (b / 16 % 2 ≡ i) × (b / 32 % 2 ≡ d) × (b / 64 % 2 ≡ w) × (b / 128 % 2 ≡ s) × (b < 256)
flag_fields fork i d w s lf li ld lw ls = (omega arith, omega arith, omega arith, omega arith, omega arith, omega arith)

byte_is : (f : ForkFlags) → fork_byte f ≡ f.fork + bit_of f.has_image * 16 + bit_of f.has_data * 32 + bit_of f.will_init * 64 + bit_of f.same * 128
byte_is f = rw (flag-is f.has_image 16, flag-is f.has_data 32, flag-is f.will_init 64, flag-is f.same 128) refl

pub fork_byte-again : (f : ForkFlags) → f.fork < 16 → fork_flags (fork_byte f) ≡ f
fork_byte-again f lt =
    let b = fork_byte f in
    let p = flag_fields f.fork (bit_of f.has_image) (bit_of f.has_data) (bit_of f.will_init) (bit_of f.same) lt (bit_of-below f.has_image) (bit_of-below f.has_data) (bit_of-below f.will_init) (bit_of-below f.same) in
    let e = byte_is f in
    let fork : b % 16 ≡ f.fork = ap (λ (n : ℕ). n % 16) e ∙ p.0 in
    let image : eqb (b / 16 % 2) 1 ≡ f.has_image = ap (λ (n : ℕ). eqb (n / 16 % 2) 1) e ∙ ap (λ (n : ℕ). eqb n 1) p.1 ∙ bit_of-one f.has_image in
    let has : eqb (b / 32 % 2) 1 ≡ f.has_data = ap (λ (n : ℕ). eqb (n / 32 % 2) 1) e ∙ ap (λ (n : ℕ). eqb n 1) p.2 ∙ bit_of-one f.has_data in
    let init : eqb (b / 64 % 2) 1 ≡ f.will_init = ap (λ (n : ℕ). eqb (n / 64 % 2) 1) e ∙ ap (λ (n : ℕ). eqb n 1) p.3 ∙ bit_of-one f.will_init in
    let same : eqb (b / 128 % 2) 1 ≡ f.same = ap (λ (n : ℕ). eqb (n / 128 % 2) 1) e ∙ ap (λ (n : ℕ). eqb n 1) p.4 ∙ bit_of-one f.same in
    same_flags b f fork image has init same
  where
    same_flags : (b : ℕ) (f : ForkFlags) → b % 16 ≡ f.fork → eqb (b / 16 % 2) 1 ≡ f.has_image → eqb (b / 32 % 2) 1 ≡ f.has_data → eqb (b / 64 % 2) 1 ≡ f.will_init → eqb (b / 128 % 2) 1 ≡ f.same → fork_flags b ≡ f
    same_flags b f fork image has init same = rw (fork, image, has, init, same) refl

-- ---- an image's flags: a hole and redo

pub info-back : (n : ℕ) → n < 4 → flag (eqb (n % 2) 1) 1 + flag (eqb (n / 2 % 2) 1) 2 ≡ n
info-back n lt =
    let a = flag-is (eqb (n % 2) 1) 1 in
    let b = flag-is (eqb (n / 2 % 2) 1) 2 in
    let c = bit_of-is (n % 2) (omega arith) in
    let d = bit_of-is (n / 2 % 2) (omega arith) in
    omega (arith, a, b, c, d)

info_fields : (h a : ℕ) → h < 2 → a < 2 → let n = h * 1 + a * 2 in (n % 2 ≡ h) × (n / 2 % 2 ≡ a) × (n < 4)
info_fields h a lh la = (omega arith, omega arith, omega arith)

pub record IsInfo (n : ℕ) (hole apply : Bool) : Type 0 where
  pub hole_is : eqb (n % 2) 1 ≡ hole
  pub apply_is : eqb (n / 2 % 2) 1 ≡ apply
  pub below : n < 4

pub info-again : (hole apply : Bool) → IsInfo (flag hole 1 + flag apply 2) hole apply
info-again hole apply =
    let p = info_fields (bit_of hole) (bit_of apply) (bit_of-below hole) (bit_of-below apply) in
    let e : flag hole 1 + flag apply 2 ≡ bit_of hole * 1 + bit_of apply * 2 = rw (flag-is hole 1, flag-is apply 2) refl in
    record {
      hole_is = ap (λ (n : ℕ). eqb (n % 2) 1) e ∙ ap (λ (n : ℕ). eqb n 1) p.0 ∙ bit_of-one hole;
      apply_is = ap (λ (n : ℕ). eqb (n / 2 % 2) 1) e ∙ ap (λ (n : ℕ). eqb n 1) p.1 ∙ bit_of-one apply;
      below = omega (arith, e, p.2);
    }
