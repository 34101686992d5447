-- A leaf PTE word, field by field (RISC-V Privileged Architecture, Sv39 and Svpbmt).
use Rattle.std.specs.Prelude.{◌≡◌, ◌<◌, ◌≤◌, ℕ, ◌+◌, ◌-◌, ◌*◌, ◌/◌, ◌%◌, ◌^◌}

-- bits 9:0: the flags D A G U X W R V, with the two bits for software above them
abbrev pub flags_of : ℕ → ℕ
flags_of word = word % 2 ^ 10

-- bits 53:10
abbrev pub page_of : ℕ → ℕ
page_of word = word / 2 ^ 10 % 2 ^ 44

-- bits 60:54
abbrev pub reserved_of : ℕ → ℕ
reserved_of word = word / 2 ^ 54 % 2 ^ 7

-- bits 62:61
abbrev pub pbmt_of : ℕ → ℕ
pbmt_of word = word / 2 ^ 61 % 4

-- bit 63
abbrev pub napot_of : ℕ → ℕ
napot_of word = word / 2 ^ 63

-- the page of RAM's first byte, whose bus address is 0x8000_0000 (this project's own)
abbrev pub first_page : ℕ
first_page = 524288

-- the place that a word gives for an address in its page
abbrev pub place_at : ℕ → ℕ → ℕ
place_at word va = 4096 * (page_of word - first_page) + va % 4096

-- a valid word of this project's profile, for a RAM of so many bytes: D, A, W, R and V are set, and the page lies in RAM
pub record IsPteWord (ram word : ℕ) : Type 0 where
  pub flags : flags_of word ≡ 199
  pub reserved : reserved_of word ≡ 0
  pub napot : napot_of word ≡ 0
  pub from_ram : first_page ≤ page_of word
  pub in_ram : page_of word - first_page < ram / 4096
