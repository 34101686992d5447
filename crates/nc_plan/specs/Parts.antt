-- The parts of a mapping, the bounce rule and the ranges in bounce slots. This project's own.
use Rattle.std.specs.Prelude.{◌≡◌, ℕ, ◌+◌, ◌%◌, ◌==◌, ◌<◌, ◌≤◌, ◌^◌, ◌&&◌, ◌||◌, Bool, true, false, not, nat_lt}
use Rattle.nc_num.specs.declared.places.Span.{Span}
use Rattle.nc_num.specs.declared.names.Dir.{Dir}
use Rattle.nc_num.specs.declared.names.Dir.TheVariants.{Both, ToDev, FromDev}
use Rattle.nc_plan.specs.declared.parts.Part.{Part}

-- both ranges end below 2^32, and have equal lengths
pub record IsPart (p : Part) : Type 0 where
  pub buffer : p.buffer.at + p.buffer.len < 2 ^ 32
  pub device : p.device.at + p.device.len < 2 ^ 32
  pub length : p.buffer.len ≡ p.device.len

-- the device range is not the buffer's; the two have equal lengths
abbrev pub is_bounced : Part → Bool
is_bounced p = not (p.buffer.at == p.device.at)

-- the device may write it, so its bytes come back (Linux DMA API: DMA_FROM_DEVICE, DMA_BIDIRECTIONAL)
abbrev pub comes_back : Dir → Bool
comes_back ToDev = false
comes_back Both = true
comes_back FromDev = true

-- made of whole blocks
abbrev pub is_whole : ℕ → Span → Bool
is_whole size span = span.at % size == 0 && span.len % size == 0

-- the bounce rule
abbrev pub bounces : Span → Dir → ℕ → ℕ → Bool
bounces span dir size reach = (comes_back dir && not (is_whole size span)) || nat_lt reach (span.at + span.len)

-- the bytes of a bounce slot
abbrev pub slot_len : ℕ
slot_len = 2048

-- a bounced range in the slot that starts here: as far from a multiple of 8 as it was
abbrev pub in_slot : ℕ → Span → Span
in_slot slot span = record { at = slot + span.at % 8; len = span.len }

-- it finds no room in a slot
abbrev pub is_too_big : Span → Bool
is_too_big span = nat_lt slot_len (span.at % 8 + span.len)

-- the law: the device range of a bounced range that is not too big lies in its slot, at the same start mod 8
pub record LiesInSlot (slot : ℕ) (span : Span) : Type 0 where
  pub starts : slot ≤ (in_slot slot span).at
  pub ends : (in_slot slot span).at + (in_slot slot span).len ≤ slot + slot_len
  pub offset : (in_slot slot span).at % 8 ≡ span.at % 8
  pub length : (in_slot slot span).len ≡ span.len

abbrev pub DeviceRangeIsInSlot : Type 0
DeviceRangeIsInSlot = (slot : ℕ) (span : Span) → slot % slot_len ≡ 0 → is_too_big span ≡ false → LiesInSlot slot span
