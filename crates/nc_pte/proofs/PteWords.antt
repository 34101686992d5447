-- The valid words as numbers.
use Rattle.std.proofs.Common.{◌≡◌, ℕ, ◌-◌, ◌/◌, ◌^◌, ◌<◌, arith}
use Rattle.nc_pte.specs.Words.{IsPteWord, first_page, page_of, pbmt_of}
use Rattle.nc_pte.specs.Laws.{word_of, WordsAreThose}

pub valid : (ram p t : ℕ) → ram < 2 ^ 32 → p < ram / 4096 → t < 4 → IsPteWord ram (word_of p t)
valid ram p t small lt few = record {
  flags = omega arith;
  reserved = omega arith;
  napot = omega arith;
  from_ram = omega arith;
  in_ram = omega arith;
}

pub only : (ram word : ℕ) → IsPteWord ram word → word ≡ word_of (page_of word - first_page) (pbmt_of word)
only ram word h = omega (arith, h.flags, h.reserved, h.napot, h.from_ram)

pub words_are_those : WordsAreThose
words_are_those = record { valid = valid; only = only }
