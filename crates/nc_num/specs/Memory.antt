-- Memory as a list of bytes, which is read by place and written by one splice.
use Rattle.std.specs.Prelude.{ℕ, ◌+◌, List, ◌++◌, length, take, drop, slice_index}

-- the byte at a place
abbrev pub byte : List ℕ → ℕ → ℕ
byte m x = slice_index m x

-- memory with these bytes written from a place on
unfoldable pub splice : List ℕ → ℕ → List ℕ → List ℕ
splice m at bs = take at m ++ bs ++ drop (at + length bs) m

-- so many bytes from a place on
unfoldable pub span : List ℕ → ℕ → ℕ → List ℕ
span m at n = take n (drop at m)
