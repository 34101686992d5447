-- Which words are valid, as numbers, and where the places lie that they give.
use Rattle.std.specs.Prelude.{ℕ, ◌≡◌, ◌+◌, ◌-◌, ◌*◌, ◌/◌, ◌^◌, ◌<◌}
use Rattle.nc_pte.specs.Words.{IsPteWord, first_page, page_of, pbmt_of, place_at}

-- the word of page p of RAM with the PBMT field t
abbrev pub word_of : ℕ → ℕ → ℕ
word_of p t = 536871111 + 1024 * p + t * 2 ^ 61

-- the valid words are those of the pages of RAM, and no others
pub record WordsAreThose : Type 0 where
  pub valid : (ram p t : ℕ) → ram < 2 ^ 32 → p < ram / 4096 → t < 4 → IsPteWord ram (word_of p t)
  pub only : (ram word : ℕ) → IsPteWord ram word → word ≡ word_of (page_of word - first_page) (pbmt_of word)

abbrev pub EachPlaceLiesInRam : Type 0
EachPlaceLiesInRam = (ram word va : ℕ) → IsPteWord ram word → place_at word va < ram
