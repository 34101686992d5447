-- A place lies in a span or beside it, and what an entry gives there.
use Rattle.std.specs.Prelude.{Some, None, true, false, ◌==◌, nat_le, nat_lt, if◌then◌else◌}
use Rattle.std.proofs.Common.{◌≡◌, ◌≢◌, ◌⊎◌, ℕ, ◌+◌, ◌-◌, ◌<◌, ◌≤◌, List, refl, inl, inr, sym, ◌∙◌, arith}
use Rattle.std.proofs.lemmas.Bool.{cases_lt, and_parts, leb-true, ltb-true}
use Rattle.std.proofs.lemmas.Bool.Decides.{nat_tests}
use Rattle.nc_num.specs.Memory.{byte}
use Rattle.nc_num.specs.Places.{covers}
use Rattle.nc_num.specs.declared.places.Span.{Span}

pub record Over (span : Span) (x : ℕ) : Type 0 where
  pub from : span.at ≤ x
  pub to : x < span.at + span.len
  pub covered : covers span x ≡ true

pub record Off (span : Span) (x : ℕ) : Type 0 where
  pub beside : (x < span.at) ⊎ (span.at + span.len ≤ x)
  pub uncovered : covers span x ≡ false

pub over_or_off : (span : Span) (x : ℕ) → Over span x ⊎ Off span x
over_or_off span x =
    elim (cases_lt x span.at) [
      | inl lt ↦ inr (record { beside = inl lt; uncovered = grind (arith, nat_tests) })
      | inr le ↦ elim (cases_lt x (span.at + span.len)) [
        | inl short ↦ inl (record { from = le; to = short; covered = grind (arith, nat_tests) })
        | inr past ↦ inr (record { beside = inr past; uncovered = grind (arith, nat_tests) })
      ]
    ]

pub over_span : (span : Span) (x : ℕ) → covers span x ≡ true → Over span x
over_span span x is =
    let parts = and_parts (nat_le span.at x) (nat_lt x (span.at + span.len)) is in
    record { from = leb-true span.at x parts.0; to = ltb-true x (span.at + span.len) parts.1; covered = is }

-- what a store gives
pub gives_over : (span : Span) (bytes : List ℕ) (x : ℕ) → covers span x ≡ true → (if covers span x then Some (byte bytes (x - span.at)) else None) ≡ Some (byte bytes (x - span.at))
gives_over span bytes x is = rw is refl

pub gives_off : (span : Span) (bytes : List ℕ) (x : ℕ) → covers span x ≡ false → (if covers span x then Some (byte bytes (x - span.at)) else None) ≡ None
gives_off span bytes x is = rw is refl

-- where a store gives nothing it does not lie
pub none_off : (span : Span) (bytes : List ℕ) (x : ℕ) → (if covers span x then Some (byte bytes (x - span.at)) else None) ≡ None → Off span x
none_off span bytes x is = elim (over_or_off span x) [
  | inl over ↦ absurd (let p : Some (byte bytes (x - span.at)) ≡ None = sym (gives_over span bytes x over.covered) ∙ is in cc)
  | inr off ↦ off
]

-- tests of equality
pub is_same : (a b : ℕ) → (a == b) ≡ true → a ≡ b
is_same a b is = grind (arith, nat_tests)

pub is_other : (a b : ℕ) → (a == b) ≡ false → a ≢ b
is_other a b is = grind (arith, nat_tests)

pub test_same : (a b : ℕ) → a ≡ b → (a == b) ≡ true
test_same a b is = grind (arith, nat_tests)

pub test_other : (a b : ℕ) → a ≢ b → (a == b) ≡ false
test_other a b ne = grind (arith, nat_tests)
