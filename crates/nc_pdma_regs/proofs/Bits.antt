-- One bit of a number, as the operations of a set of flags see it.
use Rattle.std.proofs.Common.{◌≡◌, ℕ, zero, suc, ◌+◌, ◌-◌, ◌*◌, ◌^◌, ◌<◌, ◌==◌, Bool, true, false, refl, sym, ap, ◌∙◌, arith, eq-eqb, ne_eqb, one-mul, zero-mul}
use Rattle.std.specs.Prelude.{bit_and, bit_or, if◌then◌else◌}
use Rattle.std.specs.Int.{bit_at}
use Rattle.std.specs.Int.Bits.{or_add_and}
use Rattle.std.proofs.lemmas.Nat.{and_comm, and-not, pow_pos}
use Rattle.std.proofs.lemmas.Nat.Bits.{and_pow, bit_at-lt, bit_at_above}
use Rattle.nc_pdma_regs.specs.Control.{ControlBits, bit, one, number_of, bits_of}

one_bit : (p b : ℕ) → 0 < p → b < 2 → (b * p == p) ≡ (b == 1)
one_bit p zero pos lt = ne_eqb (0 * p) p (λ e. omega (arith, zero-mul p))
one_bit p (suc zero) pos lt = eq-eqb (1 * p) p (one-mul p)
one_bit p (suc (suc b)) pos lt = absurd (omega arith)

-- the test `contains` at one bit
pub contains_pow : (n k : ℕ) → (bit_and n (2 ^ k) == 2 ^ k) ≡ bit n k
contains_pow n k = ap (λ m. m == 2 ^ k) (and_pow n k) ∙ one_bit (2 ^ k) (bit_at n k) (pow_pos k) (bit_at-lt n k)

-- a bit that is set
pub or_pow : (n k : ℕ) → bit_or n (2 ^ k) + bit_at n k * 2 ^ k ≡ n + 2 ^ k
or_pow n k = omega (arith, or_add_and n (2 ^ k), and_pow n k)

-- a bit that is cleared, in a number of 32 bits
pub without_pow : (n k : ℕ) → 2 ^ k < 2 ^ 32 → n < 2 ^ 32 → bit_and n (2 ^ 32 - 1 - 2 ^ k) + bit_at n k * 2 ^ k ≡ n
without_pow n k small fits = omega (arith, and-not 32 (2 ^ k) n small fits, and_comm (2 ^ 32 - 1 - 2 ^ k) n, and_comm (2 ^ k) n, and_pow n k)

-- a bit above all others is set or not
pub set_next : (k x : ℕ) (b : Bool) → x < 2 ^ k → 2 ^ k < 2 ^ 32 → (if b then bit_or x (2 ^ k) else bit_and x (2 ^ 32 - 1 - 2 ^ k)) ≡ x + 2 ^ k * one b
set_next k x true low small = let none : bit_at x k * 2 ^ k ≡ 0 = ap (λ t. t * 2 ^ k) (bit_at_above x k k low (omega arith)) ∙ zero-mul (2 ^ k) in omega (arith, or_pow x k)
set_next k x false low small = let none : bit_at x k * 2 ^ k ≡ 0 = ap (λ t. t * 2 ^ k) (bit_at_above x k k low (omega arith)) ∙ zero-mul (2 ^ k) in omega (arith, without_pow x k small (omega arith))

one-lt : (b : Bool) → one b < 2
one-lt true = omega arith
one-lt false = omega arith

next : (k x y : ℕ) (b : Bool) → x < 2 ^ k → 2 ^ k < 2 ^ 32 → y ≡ (if b then bit_or x (2 ^ k) else bit_and x (2 ^ 32 - 1 - 2 ^ k)) → y ≡ x + 2 ^ k * one b
next k x y b low small is = is ∙ set_next k x b low small

-- six bits that are set one after another, from the lowest on
pub six : (x a b c d e f : ℕ) (p q r s t u : Bool) → x ≡ 0
    → a ≡ (if p then bit_or x (2 ^ 0) else bit_and x (2 ^ 32 - 1 - 2 ^ 0)) → b ≡ (if q then bit_or a (2 ^ 1) else bit_and a (2 ^ 32 - 1 - 2 ^ 1))
    → c ≡ (if r then bit_or b (2 ^ 14) else bit_and b (2 ^ 32 - 1 - 2 ^ 14)) → d ≡ (if s then bit_or c (2 ^ 15) else bit_and c (2 ^ 32 - 1 - 2 ^ 15))
    → e ≡ (if t then bit_or d (2 ^ 30) else bit_and d (2 ^ 32 - 1 - 2 ^ 30)) → f ≡ (if u then bit_or e (2 ^ 31) else bit_and e (2 ^ 32 - 1 - 2 ^ 31))
    → f ≡ number_of (record { claim = p; run = q; done_ie = r; error_ie = s; done = t; error = u })
unfolding number_of
six x a b c d e f p q r s t u h0 h1 h2 h3 h4 h5 h6 =
    let p2 = one-lt p in
    let q2 = one-lt q in
    let r2 = one-lt r in
    let s2 = one-lt s in
    let t2 = one-lt t in
    let e1 = next 0 x a p (omega arith) (omega arith) h1 in
    let e2 = next 1 a b q (omega arith) (omega arith) h2 in
    let e3 = next 14 b c r (omega arith) (omega arith) h3 in
    let e4 = next 15 c d s (omega arith) (omega arith) h4 in
    let e5 = next 30 d e t (omega arith) (omega arith) h5 in
    let e6 = next 31 e f u (omega arith) (omega arith) h6 in
    omega arith

one_is : (b : Bool) → (one b == 1) ≡ b
one_is true = refl
one_is false = refl

flag_is : (n k : ℕ) (b : Bool) → bit_at n k ≡ one b → bit n k ≡ b
flag_is n k b e = ap (λ m. m == 1) e ∙ one_is b

pub number_of-lt : (c : ControlBits) → number_of c < 2 ^ 32
unfolding number_of
number_of-lt c = omega (arith, one-lt c.claim, one-lt c.run, one-lt c.done_ie, one-lt c.error_ie, one-lt c.done, one-lt c.error)

-- the flags of the number are the flags
pub claim_is : (c : ControlBits) → bit (number_of c) 0 ≡ c.claim
unfolding number_of
claim_is c = flag_is (number_of c) 0 c.claim (omega (arith, one-lt c.claim, one-lt c.run, one-lt c.done_ie, one-lt c.error_ie, one-lt c.done, one-lt c.error))

pub run_is : (c : ControlBits) → bit (number_of c) 1 ≡ c.run
unfolding number_of
run_is c = flag_is (number_of c) 1 c.run (omega (arith, one-lt c.claim, one-lt c.run, one-lt c.done_ie, one-lt c.error_ie, one-lt c.done, one-lt c.error))

pub done_ie_is : (c : ControlBits) → bit (number_of c) 14 ≡ c.done_ie
unfolding number_of
done_ie_is c = flag_is (number_of c) 14 c.done_ie (omega (arith, one-lt c.claim, one-lt c.run, one-lt c.done_ie, one-lt c.error_ie, one-lt c.done, one-lt c.error))

pub error_ie_is : (c : ControlBits) → bit (number_of c) 15 ≡ c.error_ie
unfolding number_of
error_ie_is c = flag_is (number_of c) 15 c.error_ie (omega (arith, one-lt c.claim, one-lt c.run, one-lt c.done_ie, one-lt c.error_ie, one-lt c.done, one-lt c.error))

pub done_is : (c : ControlBits) → bit (number_of c) 30 ≡ c.done
unfolding number_of
done_is c = flag_is (number_of c) 30 c.done (omega (arith, one-lt c.claim, one-lt c.run, one-lt c.done_ie, one-lt c.error_ie, one-lt c.done, one-lt c.error))

pub error_is : (c : ControlBits) → bit (number_of c) 31 ≡ c.error
unfolding number_of
error_is c = flag_is (number_of c) 31 c.error (omega (arith, one-lt c.claim, one-lt c.run, one-lt c.done_ie, one-lt c.error_ie, one-lt c.done, one-lt c.error))

flags_same : (a b : ControlBits) → a.claim ≡ b.claim → a.run ≡ b.run → a.done_ie ≡ b.done_ie → a.error_ie ≡ b.error_ie → a.done ≡ b.done → a.error ≡ b.error → a ≡ b
flags_same a b h0 h1 h2 h3 h4 h5 i = record { claim = h0 i; run = h1 i; done_ie = h2 i; error_ie = h3 i; done = h4 i; error = h5 i }

pub bits_of-number_of : (c : ControlBits) → bits_of (number_of c) ≡ c
bits_of-number_of c = flags_same (bits_of (number_of c)) c (claim_is c) (run_is c) (done_ie_is c) (error_ie_is c) (done_is c) (error_is c)

-- what six flags make, from the lowest on
pub flags_of_six : (x a b c d e f : ℕ) (p q r s t u : Bool) → x ≡ 0
    → a ≡ (if p then bit_or x (2 ^ 0) else bit_and x (2 ^ 32 - 1 - 2 ^ 0)) → b ≡ (if q then bit_or a (2 ^ 1) else bit_and a (2 ^ 32 - 1 - 2 ^ 1))
    → c ≡ (if r then bit_or b (2 ^ 14) else bit_and b (2 ^ 32 - 1 - 2 ^ 14)) → d ≡ (if s then bit_or c (2 ^ 15) else bit_and c (2 ^ 32 - 1 - 2 ^ 15))
    → e ≡ (if t then bit_or d (2 ^ 30) else bit_and d (2 ^ 32 - 1 - 2 ^ 30)) → f ≡ (if u then bit_or e (2 ^ 31) else bit_and e (2 ^ 32 - 1 - 2 ^ 31))
    → let flags : ControlBits = record { claim = p; run = q; done_ie = r; error_ie = s; done = t; error = u } in (bits_of f ≡ flags) × (f ≡ number_of (bits_of f))
flags_of_six x a b c d e f p q r s t u h0 h1 h2 h3 h4 h5 h6 =
    let flags : ControlBits = record { claim = p; run = q; done_ie = r; error_ie = s; done = t; error = u } in
    let n : f ≡ number_of flags = six x a b c d e f p q r s t u h0 h1 h2 h3 h4 h5 h6 in
    let bits : bits_of f ≡ flags = ap bits_of n ∙ bits_of-number_of flags in
    (bits, n ∙ sym (ap number_of bits))
