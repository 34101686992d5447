-- The bytes of flat memory after a write, and those that a read shows.
use Rattle.std.specs.Prelude.{◌⊎◌, Some, None, Bool, true, false, if◌then◌else◌, unwrap_or, ◌-◌, ◌==◌, map}
use Rattle.std.specs.List.{range_with_len}
use Rattle.std.proofs.Common.{◌≡◌, ℕ, zero, suc, ◌+◌, ◌*◌, ◌/◌, ◌<◌, ◌≤◌, List, length, replicate, refl, sym, ap, ◌∙◌, inl, inr, arith}
use Rattle.std.proofs.lemmas.Bool.{cases_eq, cases_lt, eq-eqb, ne_eqb, false≢true}
use Rattle.std.proofs.lemmas.List.{length-replicate, get_or-replicate}
use Rattle.nc_num.specs.Memory.{byte, splice}
use Rattle.nc_num.specs.Sizes.{IsBlockSize}
use Rattle.nc_num.specs.Places.{covers}
use Rattle.nc_num.specs.declared.places.Span.{Span}
use Rattle.nc_num.proofs.Blocks.{inside, outside}
use Rattle.nc_num.proofs.MemoryLaws.{byte-splice_below, byte-splice_in, byte-splice_above}
use Rattle.nc_model.specs.Flat.{named, written, Shows}
use Rattle.nc_model.proofs.Faults.{covers-from, covers-low, covers-high}
use Rattle.nc_model.proofs.FlatLaws.{written-named}

-- a place beside a span
pub out_of : (span : Span) (x : ℕ) → covers span x ≡ false → (x < span.at) ⊎ (span.at + span.len ≤ x)
out_of span x off = elim (cases_lt x span.at) [
  | inl lt ↦ inl lt
  | inr ge ↦ elim (cases_lt x (span.at + span.len)) [ inl lt ↦ absurd (false≢true (sym off ∙ covers-from span x ge lt)) | inr above ↦ inr above ]
]

store_by : (f : List ℕ) (span : Span) (bytes : List ℕ) (x : ℕ) (b : Bool) → covers span x ≡ b → span.at + span.len ≤ length f → length bytes ≡ span.len
    → byte (splice f span.at bytes) x ≡ unwrap_or (if b then Some (byte bytes (x - span.at)) else None) (byte f x)
store_by f span bytes x true over fits whole = byte-splice_in f span.at bytes x (omega (arith, fits, whole)) (covers-low span x over) (omega (arith, covers-high span x over, whole))
store_by f span bytes x false off fits whole = elim (out_of span x off) [
  | inl below ↦ byte-splice_below f span.at bytes x (omega (arith, fits, whole)) below
  | inr above ↦ byte-splice_above f span.at bytes x (omega (arith, fits, whole)) (omega (arith, above, whole))
]

pub byte_stored : (f : List ℕ) (span : Span) (bytes : List ℕ) (x : ℕ) → span.at + span.len ≤ length f → length bytes ≡ span.len
    → byte (written f (named span.at bytes)) x ≡ unwrap_or (if covers span x then Some (byte bytes (x - span.at)) else None) (byte f x)
byte_stored f span bytes x fits whole =
    ap (λ (m : List ℕ). byte m x) (written-named f span.at bytes (omega (arith, fits, whole))) ∙ store_by f span bytes x (covers span x) refl fits whole

length-zeros : (s : ℕ) → length (replicate {A = ℕ} s 0) ≡ s
length-zeros s = length-replicate {A = ℕ} s 0

zero_by : {s : ℕ} (f : List ℕ) (b x : ℕ) → IsBlockSize s → s * b + s ≤ length f → byte (splice f (s * b) (replicate s 0)) x ≡ unwrap_or (if x / s == b then Some 0 else None) (byte f x)
zero_by {s = s} f b x z fits =
    let len = length-zeros s in
    elim (cases_eq (x / s) b) [
      | inl e ↦
          let at = inside {s = s} x b z e in
          byte-splice_in f (s * b) (replicate s 0) x (omega (arith, len, fits)) at.low (omega (arith, len, at.high)) ∙ get_or-replicate {A = ℕ} s (x - s * b) 0 0 (omega (arith, at.low, at.high))
          ∙ sym (ap (λ (t : Bool). unwrap_or (if t then Some 0 else None) (byte f x)) (eq-eqb (x / s) b e))
      | inr ne ↦
          elim (outside {s = s} x b z ne) [
            | inl below ↦ byte-splice_below f (s * b) (replicate s 0) x (omega (arith, len, fits)) below
            | inr above ↦ byte-splice_above f (s * b) (replicate s 0) x (omega (arith, len, fits)) (omega (arith, len, above))
          ]
          ∙ sym (ap (λ (t : Bool). unwrap_or (if t then Some 0 else None) (byte f x)) (ne_eqb (x / s) b ne))
    ]

pub byte_zeroed : {s : ℕ} (f : List ℕ) (b x : ℕ) → IsBlockSize s → s * b + s ≤ length f → byte (written f (named (s * b) (replicate s 0))) x ≡ unwrap_or (if x / s == b then Some 0 else None) (byte f x)
byte_zeroed {s = s} f b x z fits =
    ap (λ (m : List ℕ). byte m x) (written-named f (s * b) (replicate s 0) (omega (arith, length-zeros s, fits))) ∙ zero_by {s = s} f b x z fits

-- what is seen at each place of a span is shown
pub shows_seen : (f : List ℕ) (seen : ℕ → ℕ) (at n : ℕ) → ((x : ℕ) → at ≤ x → x < at + n → seen x ≡ byte f x) → Shows f (named at (map seen (range_with_len at n)))
shows_seen f seen at zero same = tt
shows_seen f seen at (suc n) same = (sym (same at (omega arith) (omega arith)), shows_seen f seen (at + 1) n (λ x le lt. same x (omega (arith, le)) (omega (arith, lt))))
