-- What a call that writes, and an invalidate, do at one place: own, store, zero, inval.
use Rattle.std.specs.Prelude.{Option, Some, None, true, false, if◌then◌else◌, replicate, map as list_map}
use Rattle.std.proofs.Common.{◌≡◌, ◌≢◌, ◌⊎◌, ℕ, ◌+◌, ◌-◌, ◌*◌, ◌/◌, ◌%◌, ◌<◌, ◌≤◌, List, length, refl, inl, inr, sym, ap, ◌∙◌, arith}
use Rattle.std.proofs.lemmas.Bool.{cases_eq}
use Rattle.std.proofs.lemmas.Grind.{common_steps}
use Rattle.std.proofs.lemmas.List.{places}
use Rattle.std.proofs.lemmas.List.FromFn.{get_or-map-range_with_len, length-map-range_with_len}
use Rattle.std.specs.List.{range_with_len}
use Rattle.nc_num.specs.Memory.{byte, splice, span}
use Rattle.nc_num.specs.Sizes.{IsBlockSize}
use Rattle.nc_num.proofs.Blocks.{inside, within_block}
use Rattle.nc_num.proofs.MemoryLaws.{byte-splice_below, byte-splice_in, byte-splice_above, byte-span, length-span, same_bytes}
use Rattle.nc_cache.specs.declared.line.Held.TheVariants.{Dirty}
use Rattle.nc_cache.specs.declared.line.Line.{Line}
use Rattle.nc_cache.specs.Cache.{Cache, line_at, hart, block_bytes, dirty, dirty_by, own, own_of, store, zero_block, inval, inval_of, line_byte, middle, bytes_at}
use Rattle.nc_cache.specs.Facts.{Whole, Clear, Both, Keeps, Dirties, Drops}
use Rattle.nc_cache.proofs.Lines.{line-with_same, line-with_other, byte-block_bytes, length-block_bytes}
use Rattle.nc_cache.proofs.Places.{fresh_both}

-- the block of a hart that has it dirty
dirties : (s : ℕ) (c : Cache) (h b : ℕ) (bs : List ℕ) (x : ℕ) → Dirties s c (dirty c h b bs) b x
dirties s c h b bs x = record {
  memory = refl;
  fresh = λ f. elim (cases_eq (x / s) b) [
    | inl e ↦ record { agrees = rw (line-with_same c.lines b (x / s) (Some (record { bytes = bs; held = Dirty (hart h) })) e) tt }
    | inr ne ↦ record { agrees = rw (line-with_other c.lines b (x / s) (Some (record { bytes = bs; held = Dirty (hart h) })) ne) f.agrees }
  ];
  clear = λ ne f. record { clear = rw (line-with_other c.lines b (x / s) (Some (record { bytes = bs; held = Dirty (hart h) })) ne) f.clear };
}

dirties_same : (s : ℕ) (c : Cache) (b x : ℕ) → Dirties s c c b x
dirties_same s c b x = record { memory = refl; fresh = λ f. f; clear = λ ne f. f }

middle-dirty_in : (s : ℕ) (c : Cache) (h b : ℕ) (bs : List ℕ) (x : ℕ) → x / s ≡ b → middle s (dirty c h b bs) x ≡ byte bs (x % s)
unfolding middle
middle-dirty_in s c h b bs x e = rw (line-with_same c.lines b (x / s) (Some (record { bytes = bs; held = Dirty (hart h) })) e) refl

middle-dirty_out : (s : ℕ) (c : Cache) (h b : ℕ) (bs : List ℕ) (x : ℕ) → x / s ≢ b → middle s (dirty c h b bs) x ≡ middle s c x
unfolding middle
middle-dirty_out s c h b bs x ne = rw (line-with_other c.lines b (x / s) (Some (record { bytes = bs; held = Dirty (hart h) })) ne) refl

middle_is : (s : ℕ) (c : Cache) (b x : ℕ) (o : Option Line) → x / s ≡ b → line_at c b ≡ o → middle s c x ≡ line_byte s c.ram x o
unfolding middle
middle_is s c b x o e is = rw (e, is) refl

-- where memory and the copies agree they do so after a write of other places
pub dirties_both : (s : ℕ) (c d : Cache) (b v x : ℕ) → Dirties s c d b x → middle s d x ≡ middle s c x → Both s c v x → Both s d v x
dirties_both s c d b v x k same both = record { memory = ap (λ m. byte m x) k.memory ∙ both.memory; copy = same ∙ both.copy }

-- own
dirties_own_of : (s : ℕ) (c : Cache) (h b x : ℕ) (o : Option Line) → Dirties s c (own_of s c h b o) b x
dirties_own_of s c h b x o = elim (dirty_by o h) as (λ t. Dirties s c (if t then c else dirty c h b (block_bytes s c.ram b o)) b x) [ true ↦ dirties_same s c b x | false ↦ dirties s c h b (block_bytes s c.ram b o) x ]

pub dirties_own : (s : ℕ) (c : Cache) (h b x : ℕ) → Dirties s c (own s c h b) b x
unfolding own
dirties_own s c h b x = dirties_own_of s c h b x (line_at c b)

middle-taken : (s : ℕ) (c : Cache) (h b x : ℕ) (bs : List ℕ) → (x / s ≡ b → byte bs (x % s) ≡ middle s c x) → middle s (dirty c h b bs) x ≡ middle s c x
middle-taken s c h b x bs same = elim (cases_eq (x / s) b) [ inl e ↦ middle-dirty_in s c h b bs x e ∙ same e | inr ne ↦ middle-dirty_out s c h b bs x ne ]

middle-own_of : {s : ℕ} → IsBlockSize s → (c : Cache) (h b x : ℕ) (o : Option Line) → line_at c b ≡ o → middle s (own_of s c h b o) x ≡ middle s c x
middle-own_of {s = s} z c h b x o is =
    elim (dirty_by o h) as (λ t. middle s (if t then c else dirty c h b (block_bytes s c.ram b o)) x ≡ middle s c x) [
      | true ↦ refl
      | false ↦ middle-taken s c h b x (block_bytes s c.ram b o) (λ e. byte-block_bytes z c.ram b o x e ∙ sym (middle_is s c b x o e is))
    ]

pub middle-own : {s : ℕ} → IsBlockSize s → (c : Cache) (h b x : ℕ) → middle s (own s c h b) x ≡ middle s c x
unfolding own
middle-own z c h b x = middle-own_of z c h b x (line_at c b) refl

-- store
pub dirties_store : (s : ℕ) (c : Cache) (h at : ℕ) (bs : List ℕ) (x : ℕ) → Dirties s c (store s c h at bs) (at / s) x
unfolding store
dirties_store s c h at bs x = dirties s c h (at / s) (splice (block_bytes s c.ram (at / s) (line_at c (at / s))) (at % s) bs) x

pub middle-store_in : (s harts size : ℕ) (c : Cache) (h at : ℕ) (bs : List ℕ) (x : ℕ) → Whole s harts size c → at % s + length bs ≤ s → s * (at / s) + s ≤ size → at ≤ x → x < at + length bs
    → middle s (store s c h at bs) x ≡ byte bs (x - at)
unfolding store
middle-store_in s harts size c h at bs x w one fits le lt =
    let len : length (block_bytes s c.ram (at / s) (line_at c (at / s))) ≡ s = length-block_bytes s harts c.ram (at / s) (line_at c (at / s)) (w.lines (at / s)) (omega (arith, w.ram)) in
    let p = within_block at (length bs) x w.block_size one le lt in
    let off : x % s - at % s ≡ x - at = omega (arith, p.offset) in
    middle-dirty_in s c h (at / s) (splice (block_bytes s c.ram (at / s) (line_at c (at / s))) (at % s) bs) x p.block
    ∙ (byte-splice_in (block_bytes s c.ram (at / s) (line_at c (at / s))) (at % s) bs (x % s) (omega (arith, len)) (omega (arith, p.offset)) (omega (arith, p.offset)) ∙ ap (byte bs) off)

pub middle-store_out : (s harts size : ℕ) (c : Cache) (h at : ℕ) (bs : List ℕ) (x : ℕ) → Whole s harts size c → at % s + length bs ≤ s → s * (at / s) + s ≤ size → (x < at) ⊎ (at + length bs ≤ x)
    → middle s (store s c h at bs) x ≡ middle s c x
unfolding store
middle-store_out s harts size c h at bs x w one fits out =
    let len : length (block_bytes s c.ram (at / s) (line_at c (at / s))) ≡ s = length-block_bytes s harts c.ram (at / s) (line_at c (at / s)) (w.lines (at / s)) (omega (arith, w.ram)) in
    middle-taken s c h (at / s) x (splice (block_bytes s c.ram (at / s) (line_at c (at / s))) (at % s) bs) (λ e.
    let p = inside x (at / s) w.block_size e in
    let q = inside at (at / s) w.block_size refl in
    elim out [
      | inl lt ↦ byte-splice_below (block_bytes s c.ram (at / s) (line_at c (at / s))) (at % s) bs (x % s) (omega (arith, len)) (omega (arith, p.at, q.at))
      | inr le ↦ byte-splice_above (block_bytes s c.ram (at / s) (line_at c (at / s))) (at % s) bs (x % s) (omega (arith, len)) (omega (arith, p.at, q.at))
    ]
    ∙ (byte-block_bytes w.block_size c.ram (at / s) (line_at c (at / s)) x e ∙ sym (middle_is s c (at / s) x (line_at c (at / s)) e refl)))

-- zero
pub dirties_zero : (s : ℕ) (c : Cache) (h b x : ℕ) → Dirties s c (zero_block s c h b) b x
unfolding zero_block
dirties_zero s c h b x = dirties s c h b (replicate s 0) x

pub middle-zero_in : {s : ℕ} → IsBlockSize s → (c : Cache) (h b x : ℕ) → x / s ≡ b → middle s (zero_block s c h b) x ≡ 0
unfolding zero_block
middle-zero_in {s = s} z c h b x e =
    let p = inside x b z e in
    let lt : x % s < s = p.short in
    middle-dirty_in s c h b (replicate s 0) x e ∙ grind (arith, common_steps, places)

pub middle-zero_out : (s : ℕ) (c : Cache) (h b x : ℕ) → x / s ≢ b → middle s (zero_block s c h b) x ≡ middle s c x
unfolding zero_block
middle-zero_out s c h b x ne = middle-dirty_out s c h b (replicate s 0) x ne

-- inval: at a place of the block, and elsewhere
gone_inval_of : (c : Cache) (b : ℕ) (o : Option Line) → line_at c b ≡ o → line_at (inval_of c b o) b ≡ None
gone_inval_of c b None is = is
gone_inval_of c b (Some l) is = line-with_same c.lines b b None refl

other_inval_of : (c : Cache) (b k : ℕ) (o : Option Line) → k ≢ b → line_at (inval_of c b o) k ≡ line_at c k
other_inval_of c b k None ne = refl
other_inval_of c b k (Some l) ne = line-with_other c.lines b k None ne

ram-inval_of : (c : Cache) (b : ℕ) (o : Option Line) → (inval_of c b o).ram ≡ c.ram
ram-inval_of c b None = refl
ram-inval_of c b (Some l) = refl

pub gone_inval : (c : Cache) (b : ℕ) → line_at (inval c b) b ≡ None
unfolding inval
gone_inval c b = gone_inval_of c b (line_at c b) refl

pub other_inval : (c : Cache) (b k : ℕ) → k ≢ b → line_at (inval c b) k ≡ line_at c k
unfolding inval
other_inval c b k ne = other_inval_of c b k (line_at c b) ne

pub ram-inval : (c : Cache) (b : ℕ) → (inval c b).ram ≡ c.ram
unfolding inval
ram-inval c b = ram-inval_of c b (line_at c b)

pub drops_inval : (s : ℕ) (c : Cache) (b x : ℕ) → x / s ≡ b → Drops s c (inval c b) x
drops_inval s c b x e =
    let none : line_at (inval c b) (x / s) ≡ None = ap (λ k. line_at (inval c b) k) e ∙ gone_inval c b in
    record {
      memory = ram-inval c b;
      nobody = none;
      fresh = record { agrees = rw none tt };
      clear = record { clear = rw none tt };
      copy = middle_is s (inval c b) (x / s) x None refl none ∙ ap (λ m. byte m x) (ram-inval c b);
    }

pub keeps_inval : (s : ℕ) (c : Cache) (b x : ℕ) → x / s ≢ b → Keeps s c (inval c b) x
unfolding middle
keeps_inval s c b x ne = record {
  fresh = λ f. (record { agrees = rw (other_inval c b (x / s) ne, ram-inval c b) f.agrees }, rw (other_inval c b (x / s) ne, ram-inval c b) refl);
  clear = λ f. (record { clear = rw (other_inval c b (x / s) ne) f.clear }, ap (λ m. byte m x) (ram-inval c b));
  memory = inl (ap (λ m. byte m x) (ram-inval c b));
}

pub clear_inval : (s : ℕ) (c : Cache) (b x : ℕ) → Clear s c x → Clear s (inval c b) x
clear_inval s c b x k = elim (cases_eq (x / s) b) [ inl e ↦ (drops_inval s c b x e).clear | inr ne ↦ ((keeps_inval s c b x ne).clear k).0 ]

-- an invalidate of copies that memory agrees with loses nothing
pub both_inval : (s : ℕ) (c : Cache) (b v x : ℕ) → Both s c v x → Both s (inval c b) v x
both_inval s c b v x both = record {
  memory = ap (λ m. byte m x) (ram-inval c b) ∙ both.memory;
  copy = elim (cases_eq (x / s) b) [
    | inl e ↦ (drops_inval s c b x e).copy ∙ both.memory
    | inr ne ↦ ((keeps_inval s c b x ne).fresh (fresh_both s c v x both)).1 ∙ both.copy
  ];
}

-- the bytes of a span in one block: memory's where nobody holds the block, else the line's
bytes-shifted : (m : List ℕ) (f : ℕ → ℕ) (at to n : ℕ) → to + n ≤ length m → ((i : ℕ) → i < n → f (at + i) ≡ byte m (to + i)) → list_map f (range_with_len at n) ≡ span m to n
bytes-shifted m f at to n fits each =
    let long : length (list_map f (range_with_len at n)) ≡ n = length-map-range_with_len f at n in
    same_bytes (list_map f (range_with_len at n)) (span m to n) (long ∙ sym (length-span m to n fits))
    (λ i lt. let short : i < n = omega arith in get_or-map-range_with_len f at n i (at + i) 0 short refl ∙ each i short ∙ sym (byte-span m to n i short))

pub bytes-memory : (s : ℕ) (c : Cache) (at n : ℕ) → IsBlockSize s → at % s + n ≤ s → at + n ≤ length c.ram → line_at c (at / s) ≡ None → span c.ram at n ≡ bytes_at s c at n
bytes-memory s c at n z one fits none =
    sym (bytes-shifted c.ram (middle s c) at at n fits (λ i lt. middle_is s c (at / s) (at + i) None (within_block at n (at + i) z one (omega arith) (omega arith)).block none))

pub bytes-line : (s : ℕ) (c : Cache) (at n : ℕ) (l : Line) → IsBlockSize s → at % s + n ≤ s → length l.bytes ≡ s → line_at c (at / s) ≡ Some l → span l.bytes (at % s) n ≡ bytes_at s c at n
bytes-line s c at n l z one len is =
    sym (bytes-shifted l.bytes (middle s c) at (at % s) n (omega arith) (λ i lt.
    let p = within_block at n (at + i) z one (omega arith) (omega arith) in
    let off : (at + i) % s ≡ at % s + i = omega (arith, p.offset) in
    middle_is s c (at / s) (at + i) (Some l) p.block is ∙ ap (byte l.bytes) off))

-- place by place
pub byte-bytes_at : (s : ℕ) (c : Cache) (at n i : ℕ) → i < n → byte (bytes_at s c at n) i ≡ middle s c (at + i)
byte-bytes_at s c at n i lt = get_or-map-range_with_len (middle s c) at n i (at + i) 0 lt refl

pub length-bytes_at : (s : ℕ) (c : Cache) (at n : ℕ) → length (bytes_at s c at n) ≡ n
length-bytes_at s c at n = length-map-range_with_len (middle s c) at n
