-- The line of a block after a line was put, and memory after a write-back.
use Rattle.std.specs.Prelude.{Option, Some, None}
use Rattle.std.proofs.Common.{◌≡◌, ◌≢◌, ◌⊎◌, ℕ, ◌+◌, ◌-◌, ◌*◌, ◌/◌, ◌%◌, ◌≤◌, List, length, refl, inl, inr, sym, ap, ◌∙◌, arith}
use Rattle.std.proofs.lemmas.Bool.Decides.{nat_tests}
use Rattle.std.specs.Ordering.{nat_cmp}
use Rattle.std.specs.FinMap.{FinMap}
use Rattle.std.specs.FinMap as map
use Rattle.std.specs.Cmp.{nat_cmp_total}
use Rattle.nc_num.specs.Memory.{byte, splice, span}
use Rattle.nc_num.specs.Sizes.{IsBlockSize}
use Rattle.nc_num.proofs.Blocks.{inside, outside}
use Rattle.nc_num.proofs.MemoryLaws.{length-splice, byte-splice_below, byte-splice_in, byte-splice_above, byte-span, length-span}
use Rattle.nc_cache.specs.declared.line.Held.{Held}
use Rattle.nc_cache.specs.declared.line.Held.TheVariants.{Shared, Dirty}
use Rattle.nc_cache.specs.declared.line.Line.{Line}
use Rattle.nc_cache.specs.Cache.{with_line, block_bytes, back, line_byte}
use Rattle.nc_cache.specs.Facts.{IsClean, CleanAgrees, Agrees, IsLineOf}

pub line-with_same : (m : FinMap nat_cmp Line) (b k : ℕ) (o : Option Line) → k ≡ b → map.get (with_line m b o) k ≡ o
unfolding with_line
line-with_same m b k None e = map.get-remove nat_cmp_total m b k ∙ grind (arith, nat_tests)
line-with_same m b k (Some l) e = map.get-insert nat_cmp_total m b l k ∙ grind (arith, nat_tests)

pub line-with_other : (m : FinMap nat_cmp Line) (b k : ℕ) (o : Option Line) → k ≢ b → map.get (with_line m b o) k ≡ map.get m k
unfolding with_line
line-with_other m b k None ne = map.get-remove nat_cmp_total m b k ∙ grind (arith, nat_tests)
line-with_other m b k (Some l) ne = map.get-insert nat_cmp_total m b l k ∙ grind (arith, nat_tests)

-- a block written whole, at a place of it and elsewhere
pub byte-block_same : {s : ℕ} → IsBlockSize s → (m : List ℕ) (b : ℕ) (bs : List ℕ) (x : ℕ) → length bs ≡ s → s * b + s ≤ length m → x / s ≡ b → byte (splice m (s * b) bs) x ≡ byte bs (x % s)
byte-block_same {s = s} z m b bs x len fits e =
    let p = inside x b z e in
    let off : x - s * b ≡ x % s = omega (arith, p.at) in
    byte-splice_in m (s * b) bs x (omega arith) p.low (omega (arith, p.high)) ∙ ap (byte bs) off

pub byte-block_other : {s : ℕ} → IsBlockSize s → (m : List ℕ) (b : ℕ) (bs : List ℕ) (x : ℕ) → length bs ≡ s → s * b + s ≤ length m → x / s ≢ b → byte (splice m (s * b) bs) x ≡ byte m x
byte-block_other {s = s} z m b bs x len fits ne =
    elim (outside x b z ne) [
      | inl lt ↦ byte-splice_below m (s * b) bs x (omega arith) lt
      | inr le ↦ byte-splice_above m (s * b) bs x (omega arith) (omega arith)
    ]

pub byte-span_block : {s : ℕ} → IsBlockSize s → (m : List ℕ) (b x : ℕ) → x / s ≡ b → byte (span m (s * b) s) (x % s) ≡ byte m x
byte-span_block {s = s} z m b x e = let p = inside x b z e in byte-span m (s * b) s (x % s) p.short ∙ ap (byte m) p.at

-- memory after a write-back
pub length-back : (s : ℕ) (m : List ℕ) (b : ℕ) (bs : List ℕ) (d : Held) → length bs ≡ s → s * b + s ≤ length m → length (back s m b bs d) ≡ length m
length-back s m b bs (Shared by) len fits = refl
length-back s m b bs (Dirty g) len fits = length-splice m (s * b) bs (omega arith)

pub byte-back_other : {s : ℕ} → IsBlockSize s → (m : List ℕ) (b : ℕ) (bs : List ℕ) (d : Held) (x : ℕ) → length bs ≡ s → s * b + s ≤ length m → x / s ≢ b → byte (back s m b bs d) x ≡ byte m x
byte-back_other z m b bs (Shared by) x len fits ne = refl
byte-back_other z m b bs (Dirty g) x len fits ne = byte-block_other z m b bs x len fits ne

pub byte-back_same : {s : ℕ} → IsBlockSize s → (m : List ℕ) (b : ℕ) (bs : List ℕ) (d : Held) (x : ℕ) → length bs ≡ s → CleanAgrees s m x bs d → s * b + s ≤ length m → x / s ≡ b → byte (back s m b bs d) x ≡ byte bs (x % s)
byte-back_same z m b bs (Shared by) x len a fits e = sym a
byte-back_same z m b bs (Dirty g) x len a fits e = byte-block_same z m b bs x len fits e

pub byte-back : {s : ℕ} → IsBlockSize s → (m : List ℕ) (b : ℕ) (bs : List ℕ) (d : Held) (x : ℕ) → length bs ≡ s → s * b + s ≤ length m → x / s ≡ b
    → (byte (back s m b bs d) x ≡ byte m x) ⊎ (byte (back s m b bs d) x ≡ byte bs (x % s))
byte-back z m b bs (Shared by) x len fits e = inl refl
byte-back z m b bs (Dirty g) x len fits e = inr (byte-block_same z m b bs x len fits e)

-- a clean line is not written back
pub back_clean : (s : ℕ) (m : List ℕ) (b : ℕ) (bs : List ℕ) (d : Held) → IsClean d → back s m b bs d ≡ m
back_clean s m b bs (Shared by) c = refl
back_clean s m b bs (Dirty g) c = absurd c

-- the bytes of a block as the domain has them
pub length-block_bytes : (s harts : ℕ) (m : List ℕ) (b : ℕ) (o : Option Line) → IsLineOf s harts o → s * b + s ≤ length m → length (block_bytes s m b o) ≡ s
unfolding block_bytes
length-block_bytes s harts m b None w fits = length-span m (s * b) s fits
length-block_bytes s harts m b (Some l) w fits = w.bytes

pub byte-block_bytes : {s : ℕ} → IsBlockSize s → (m : List ℕ) (b : ℕ) (o : Option Line) (x : ℕ) → x / s ≡ b → byte (block_bytes s m b o) (x % s) ≡ line_byte s m x o
unfolding block_bytes
byte-block_bytes z m b None x e = byte-span_block z m b x e
byte-block_bytes z m b (Some l) x e = refl

-- the byte at a place depends on the line of its block and on memory there
pub line_byte-other : (s : ℕ) (m m' : List ℕ) (x : ℕ) (o : Option Line) → byte m' x ≡ byte m x → line_byte s m' x o ≡ line_byte s m x o
line_byte-other s m m' x None e = e
line_byte-other s m m' x (Some l) e = refl

CleanAgrees-other : (s : ℕ) (m m' : List ℕ) (x : ℕ) (bs : List ℕ) (d : Held) → byte m' x ≡ byte m x → CleanAgrees s m x bs d → CleanAgrees s m' x bs d
CleanAgrees-other s m m' x bs (Shared by) e a = a ∙ sym e
CleanAgrees-other s m m' x bs (Dirty g) e a = tt

pub Agrees-other : (s : ℕ) (m m' : List ℕ) (x : ℕ) (o : Option Line) → byte m' x ≡ byte m x → Agrees s m x o → Agrees s m' x o
Agrees-other s m m' x None e a = tt
Agrees-other s m m' x (Some l) e a = CleanAgrees-other s m m' x l.bytes l.held e a
