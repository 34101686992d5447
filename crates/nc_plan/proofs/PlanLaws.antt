-- The laws of pieces, blocks, slots and plans.
use Rattle.std.proofs.Common.{◌≡◌, ℕ, zero, suc, ◌+◌, ◌-◌, ◌*◌, ◌/◌, ◌%◌, ◌<◌, ◌≤◌, Bool, true, false, List, [], ◌∷◌, ◌++◌, map, flat_map, length, inl, inr, refl, sym, ap, subst, ◌∙◌, arith, append_assoc}
use Rattle.std.specs.Prelude.{◌==◌, ◌&&◌, nat_le, if◌then◌else◌}
use Rattle.std.specs.List.{range_with_len}
use Rattle.std.specs.List.Sorted.{IsStrictlyIncreasing}
use Rattle.std.proofs.lemmas.Bool.Decides.{nat_tests}
use Rattle.std.proofs.lemmas.List.FromFn.{length-range_with_len, get_or-range_with_len}
use mathlib.Core.Logic.{dite}
use native.Mathlib.Decide.{ℕ_discrete}
use Rattle.nc_num.specs.Sizes.{IsBlockSize}
use Rattle.nc_num.specs.declared.places.Span.{Span}
use Rattle.nc_num.specs.Places.{pieces_within, piece, rest, piece_len}
use Rattle.nc_num.proofs.Blocks.{inside, block_of-le, blocks_apart, start_of_block}
use Rattle.nc_env.specs.declared.CboOp.{CboOp}
use Rattle.nc_plan.specs.declared.effects.Effects.{Effects}
use Rattle.nc_plan.specs.declared.parts.Part.{Part}
use Rattle.std.specs.Prelude.{All}
use Rattle.nc_plan.specs.Parts.{IsPart, comes_back, is_too_big, DeviceRangeIsInSlot}
use Rattle.nc_plan.specs.Plans.{blocks, cbo, cbos, moved, lend_op, return_op, full, copied_in, copied_back, written_back, dropped, lending, returning, In, AreItsBlocks, BlocksAreMet, PiecesMove, PlansAreFenced}

-- the device range of a bounced range

fits_in_slot : (span : Span) → is_too_big span ≡ false → span.at % 8 + span.len ≤ 2048
fits_in_slot span h = grind (arith, nat_tests)

pub in_its_slot : DeviceRangeIsInSlot
in_its_slot slot span whole fits = let room : span.at % 8 + span.len ≤ 2048 = fits_in_slot span fits in record {
  starts = omega arith;
  ends = omega arith;
  offset = omega arith;
  length = refl;
}

-- pieces of two spans of equal length and equal start mod 8

len_by : ℕ → ℕ → ℕ → ℕ → ℕ
len_by r8 r4 r2 len = if r8 == 0 && nat_le 8 len then 8 else (if r4 == 0 && nat_le 4 len then 4 else (if r2 == 0 && nat_le 2 len then 2 else 1))

piece_len_by : (s : Span) → piece_len s ≡ len_by (s.at % 8) (s.at % 4) (s.at % 2) s.len
unfolding len_by
piece_len_by s = refl

piece_len-same : (s t : Span) → s.len ≡ t.len → s.at % 8 ≡ t.at % 8 → piece_len s ≡ piece_len t
piece_len-same s t e h =
    let h4 : s.at % 4 ≡ t.at % 4 = omega arith in
    let h2 : s.at % 2 ≡ t.at % 2 = omega arith in
    piece_len_by s ∙ (λ i. len_by (h i) (h4 i) (h2 i) (e i)) ∙ sym (piece_len_by t)

span_is : (s t : Span) → s.at ≡ t.at → s.len ≡ t.len → s ≡ t
span_is s t p q = λ i. record { at = p i; len = q i }

mod_add : (a b p q : ℕ) → a % 8 ≡ b % 8 → p ≡ q → (a + p) % 8 ≡ (b + q) % 8
mod_add a b p q h e = omega arith

within_step : (f g : ℕ) (p q : Span) (ps qs : List Span) (b c : Bool) → b ≡ c → moved f g p ≡ q → map (moved f g) ps ≡ qs → map (moved f g) (if b then [] else p ∷ ps) ≡ (if c then [] else q ∷ qs)
within_step f g p q ps qs true true e here more = refl
within_step f g p q ps qs true false e here more = absurd (cc)
within_step f g p q ps qs false true e here more = absurd (cc)
within_step f g p q ps qs false false e here more = λ i. here i ∷ more i

pub moved_within : (n f g : ℕ) (s t : Span) → s.len ≡ t.len → s.at % 8 ≡ t.at % 8 → f ≤ s.at → t.at + f ≡ g + s.at → map (moved f g) (pieces_within n s) ≡ pieces_within n t
unfolding pieces_within
moved_within zero f g s t e h le at = refl
moved_within (suc n) f g s t e h le at =
    let same : piece_len s ≡ piece_len t = piece_len-same s t e h in
    within_step f g (piece s) (piece t) (pieces_within n (rest s)) (pieces_within n (rest t)) (s.len == 0) (t.len == 0) (ap (λ l. l == 0) e)
    (span_is (moved f g (piece s)) (piece t) (omega arith) same)
    (moved_within n f g (rest s) (rest t) (omega (arith, e, same)) (mod_add s.at t.at (piece_len s) (piece_len t) h same) (omega arith) (omega arith))

pub pieces_move : PiecesMove
pieces_move from to e h = moved_within from.len from.at to.at from to e h (omega arith) (omega arith) ∙ ap (λ n. pieces_within n to) e

-- what stands in a list

pub in_left : {X : Type 0} (x : X) (xs ys : List X) → In x xs → In x (xs ++ ys)
in_left x [] ys k = elim k [ ]
in_left x (z ∷ xs) ys (inl e) = inl e
in_left x (z ∷ xs) ys (inr k) = inr (in_left x xs ys k)

pub in_right : {X : Type 0} (x : X) (xs ys : List X) → In x ys → In x (xs ++ ys)
in_right x [] ys k = k
in_right x (z ∷ xs) ys k = inr (in_right x xs ys k)

pub in_map : {X Y : Type 0} (f : X → Y) (x : X) (xs : List X) → In x xs → In (f x) (map f xs)
in_map f x [] k = elim k [ ]
in_map f x (z ∷ xs) (inl e) = inl (ap f e)
in_map f x (z ∷ xs) (inr k) = inr (in_map f x xs k)

pub in_flat_map : {X Y : Type 0} (f : X → List Y) (x : X) (y : Y) (xs : List X) → In x xs → In y (f x) → In y (flat_map f xs)
in_flat_map f x y [] k h = elim k [ ]
in_flat_map f x y (z ∷ xs) (inl e) h = in_left y (f z) (flat_map f xs) (subst (λ w. In y (f w)) (sym e) h)
in_flat_map f x y (z ∷ xs) (inr k) h = in_right y (f z) (flat_map f xs) (in_flat_map f x y xs k h)

-- the blocks of a span

pub in_range : (a n b : ℕ) → a ≤ b → b < a + n → In b (range_with_len a n)
in_range a zero b le lt = absurd (omega arith)
in_range a (suc n) b le lt = dite (ℕ_discrete a b) (λ same. inl same) (λ apart. inr (in_range (a + 1) n b (omega arith) (omega arith)))

pub range_of_in : (a n b : ℕ) → In b (range_with_len a n) → (a ≤ b) × (b < a + n)
range_of_in a zero b k = elim k [ ]
range_of_in a (suc n) b (inl e) = (omega (arith, e), omega (arith, e))
range_of_in a (suc n) b (inr k) = let r = range_of_in (a + 1) n b k in (omega (arith, r.0), omega (arith, r.1))

range_ascends : (a n : ℕ) → IsStrictlyIncreasing (range_with_len a n)
range_ascends a n k lt =
    let long : length (range_with_len a n) ≡ n = length-range_with_len a n in
    omega (arith, get_or-range_with_len a n k 0 (omega arith), get_or-range_with_len a n (k + 1) 0 (omega arith))

-- a place of the span in the block b
met : (size : ℕ) (span : Span) (b : ℕ) → IsBlockSize size → 0 < span.len → span.at / size ≤ b → b ≤ (span.at + span.len - 1) / size → (x : ℕ) × (span.at ≤ x) × (x < span.at + span.len) × (x / size ≡ b)
met size span b z some low high =
    let end : ℕ = span.at + span.len - 1 in
    let last : size * ((span.at + span.len - 1) / size) ≤ span.at + span.len - 1 = (inside (span.at + span.len - 1) ((span.at + span.len - 1) / size) z refl).low in
    dite (ℕ_discrete b (span.at / size))
    (λ first. (span.at, omega arith, omega arith, sym first))
    (λ later.
    let start : span.at < size * (span.at / size) + size = (inside span.at (span.at / size) z refl).high in
    let next : size * (span.at / size) + size ≤ size * b = blocks_apart (span.at / size) b z (omega arith) in
    let below : size * b ≤ size * ((span.at + span.len - 1) / size) = dite (ℕ_discrete b ((span.at + span.len - 1) / size)) (λ e. omega (arith, ap (λ n. size * n) e)) (λ ne. let apart : size * b + size ≤ size * ((span.at + span.len - 1) / size) = blocks_apart b ((span.at + span.len - 1) / size) z (omega arith) in omega arith) in
    (size * b, omega arith, omega arith, (start_of_block b z).0))

range_of : ℕ → Span → List ℕ
range_of size span = range_with_len (span.at / size) ((span.at + span.len - 1) / size + 1 - span.at / size)

some_blocks : (size : ℕ) (span : Span) → IsBlockSize size → 0 < span.len → AreItsBlocks size span (range_of size span)
unfolding range_of
some_blocks size span z some =
    let ordered : span.at / size ≤ (span.at + span.len - 1) / size = block_of-le span.at (span.at + span.len - 1) z (omega arith) in
    record {
      all = λ x le lt. in_range (span.at / size) ((span.at + span.len - 1) / size + 1 - span.at / size) (x / size) (block_of-le span.at x z le) (omega (arith, block_of-le x (span.at + span.len - 1) z (omega arith)));
      only = λ b k. let r = range_of_in (span.at / size) ((span.at + span.len - 1) / size + 1 - span.at / size) b k in met size span b z some r.0 (omega (arith, r.1));
      ascend = range_ascends (span.at / size) ((span.at + span.len - 1) / size + 1 - span.at / size);
    }

no_blocks : (size : ℕ) (span : Span) → span.len ≡ 0 → AreItsBlocks size span []
no_blocks size span e = record { all = λ x le lt. absurd (omega arith); only = λ b k. elim k [ ]; ascend = λ k lt. absurd (omega arith) }

blocks_by : (size : ℕ) (span : Span) (t : Bool) → (span.len == 0) ≡ t → IsBlockSize size → AreItsBlocks size span (if t then [] else range_of size span)
blocks_by size span true e z = no_blocks size span (grind (arith, nat_tests))
blocks_by size span false e z = some_blocks size span z (grind (arith, nat_tests))

pub blocks_are_met : BlocksAreMet
unfolding range_of
blocks_are_met size span z = blocks_by size span (span.len == 0) refl z

-- what stands before the fence of a plan

cbos_in : (op : CboOp) (size : ℕ) (span : Span) (b : ℕ) → In b (blocks size span) → In (cbo op b) (cbos op size span)
cbos_in op size span b k = in_map (cbo op) b (blocks size span) k

dropped_in : (e : Effects) (size : ℕ) (p : Part) (t : Bool) → comes_back p.dir ≡ t → t ≡ true → (b : ℕ) → In b (blocks size p.device) → In (cbo (return_op e) b) (if t then cbos (return_op e) size p.device else [])
dropped_in e size p true is h b k = cbos_in (return_op e) size p.device b k
dropped_in e size p false is h b k = absurd (cc)

written_in : (e : Effects) (size : ℕ) (p : Part) (b : ℕ) → In b (blocks size p.device) → In (cbo (lend_op e p.dir) b) (written_back e size p)
unfolding written_back
written_in e size p b k = cbos_in (lend_op e p.dir) size p.device b k

back_in : (e : Effects) (size : ℕ) (p : Part) → comes_back p.dir ≡ true → (b : ℕ) → In b (blocks size p.device) → In (cbo (return_op e) b) (dropped e size p)
unfolding dropped
back_in e size p h b k = dropped_in e size p (comes_back p.dir) refl h b k

pub plans_are_fenced : PlansAreFenced
unfolding lending returning
plans_are_fenced e size ps = (
  record {
    before = flat_map copied_in ps ++ flat_map (written_back e size) ps;
    fenced = refl;
    each = λ p q b k. in_right (cbo (lend_op e p.dir) b) (flat_map copied_in ps) (flat_map (written_back e size) ps) (in_flat_map (written_back e size) p (cbo (lend_op e p.dir) b) ps q (written_in e size p b k));
  },
  record {
    before = flat_map (dropped e size) ps;
    after = flat_map copied_back ps;
    fenced = append_assoc (flat_map (dropped e size) ps) (full ∷ []) (flat_map copied_back ps);
    each = λ p q h b k. in_flat_map (dropped e size) p (cbo (return_op e) b) ps q (back_in e size p h b k);
  },
)

-- the conditions of a plan of one part, and of a part more

pub more_parts : (p : Part) (ps : List Part) → IsPart p → All IsPart ps → All IsPart (p ∷ ps)
more_parts p ps h all zero d lt = h
more_parts p ps h all (suc k) d lt = all k d (omega arith)

pub one_part : (p : Part) → IsPart p → All IsPart (p ∷ [])
one_part p h = more_parts p [] h (λ k d lt. absurd (omega arith))
