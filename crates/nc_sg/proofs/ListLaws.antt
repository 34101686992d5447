-- The laws of scatter lists: their entries, and the bytes of their segments.
use Rattle.std.proofs.Common.{◌≡◌, ℕ, zero, suc, ◌+◌, ◌<◌, ◌≤◌, Bool, true, false, List, [], ◌∷◌, ◌++◌, map, flat_map, length, take, drop, refl, sym, ap, ◌∙◌, arith, append_assoc, subst, Some}
use Rattle.std.specs.Prelude.{All, if◌then◌else◌, slice_set, slice_index_or}
use Rattle.std.specs.List.{range_with_len}
use Rattle.std.proofs.lemmas.Bool.Decides.{nat_tests}
use Rattle.std.proofs.lemmas.List.{length-map}
use Rattle.std.proofs.lemmas.List.Quantifiers.{position-Some}
use Rattle.nc_num.specs.declared.places.Span.{Span}
use Rattle.nc_num.specs.declared.names.Dir.{Dir}
use Rattle.nc_plan.specs.declared.segments.Segment.{Segment}
use Rattle.nc_sg.specs.declared.list.Entry.{Entry}
use Rattle.nc_sg.specs.Lists.{IsRange, IsEntry, fresh, waits, next_waiting, give_slot, slot_taken, forgotten, on_bus, segment_of, joins, run_on, bytes_of, SegmentsKeepTheBytes}

-- the entries stay entries

pub all_fresh : (dir : Dir) (size reach : ℕ) (spans : List Span) → All IsRange spans → All IsEntry (map (fresh dir size reach) spans)
all_fresh dir size reach [] h k d lt = absurd (omega arith)
all_fresh dir size reach (x ∷ xs) h zero d lt = record { range = h zero x (omega arith); slot = omega arith }
all_fresh dir size reach (x ∷ xs) h (suc k) d lt = all_fresh dir size reach xs (λ j e lt'. h (suc j) e (omega arith)) k d (omega arith)

all_forgotten : (es : List Entry) → All IsEntry es → All IsEntry (map forgotten es)
all_forgotten [] h k d lt = absurd (omega arith)
all_forgotten (x ∷ xs) h zero d lt = record { range = (h zero x (omega arith)).range; slot = omega arith }
all_forgotten (x ∷ xs) h (suc k) d lt = all_forgotten xs (λ j e lt'. h (suc j) e (omega arith)) k d (omega arith)

-- a list stays one when its slots are forgotten
pub kept_forgotten : (es : List Entry) → (length es ≤ 16) × All IsEntry es → (length (map forgotten es) ≤ 16) × All IsEntry (map forgotten es)
kept_forgotten es h = (omega (arith, length-map es forgotten, h.0), all_forgotten es h.1)

-- the entries after the first
pub all_after : (es xs : List Entry) (x : Entry) → es ≡ x ∷ xs → All IsEntry es → All IsEntry xs
all_after es xs x e h k d lt = subst (All IsEntry) e h (suc k) d (omega arith)

with_front : (e : Entry) (es : List Entry) → IsEntry e → All IsEntry es → All IsEntry (e ∷ es)
with_front e es h all zero d lt = h
with_front e es h all (suc k) d lt = all k d (omega arith)

given_by : (slot : ℕ) (e : Entry) (es : List Entry) (b : Bool) → slot < 64 → IsEntry e → All IsEntry es → All IsEntry (give_slot slot es) → All IsEntry (if b then record e { slot = Some slot } ∷ es else e ∷ give_slot slot es)
given_by slot e es true lt h all more = with_front (record e { slot = Some slot }) es (record { range = h.range; slot = lt }) all
given_by slot e es false lt h all more = with_front e (give_slot slot es) h more

pub all_given : (slot : ℕ) (es : List Entry) → slot < 64 → All IsEntry es → All IsEntry (give_slot slot es)
all_given slot [] lt h = h
all_given slot (x ∷ xs) lt h =
    let rest : All IsEntry xs = λ j e lt'. h (suc j) e (omega arith) in
    given_by slot x xs (waits x) lt (h zero x (omega arith)) rest (all_given slot xs lt rest)

long_by : (slot : ℕ) (e : Entry) (es : List Entry) (b : Bool) → length (give_slot slot es) ≡ length es → length (if b then record e { slot = Some slot } ∷ es else e ∷ give_slot slot es) ≡ suc (length es)
long_by slot e es true h = refl
long_by slot e es false h = ap suc h

pub length-give_slot : (slot : ℕ) (es : List Entry) → length (give_slot slot es) ≡ length es
length-give_slot slot [] = refl
length-give_slot slot (x ∷ xs) = long_by slot x xs (waits x) (length-give_slot slot xs)

-- a slot is taken away

pub taken_at : (es : List Entry) (i : ℕ) (v : Entry) → i < length es → v ≡ slice_index_or es i v → slice_set es i (forgotten v) ≡ slot_taken i es
taken_at [] i v lt e = absurd (omega arith)
taken_at (x ∷ xs) zero v lt e = ap (λ w. forgotten w ∷ xs) e
taken_at (x ∷ xs) (suc i) v lt e = ap (λ ys. x ∷ ys) (taken_at xs i v (omega arith) e)

kept_taken : (es : List Entry) (i : ℕ) → All IsEntry es → All IsEntry (slot_taken i es)
kept_taken [] i h = h
kept_taken (x ∷ xs) zero h = with_front (forgotten x) xs (record { range = (h zero x (omega arith)).range; slot = omega arith }) (λ j e lt'. h (suc j) e (omega arith))
kept_taken (x ∷ xs) (suc i) h = with_front x (slot_taken i xs) (h zero x (omega arith)) (kept_taken xs i (λ j e lt'. h (suc j) e (omega arith)))

length-slot_taken : (es : List Entry) (i : ℕ) → length (slot_taken i es) ≡ length es
length-slot_taken [] i = refl
length-slot_taken (x ∷ xs) zero = refl
length-slot_taken (x ∷ xs) (suc i) = ap suc (length-slot_taken xs i)

-- a list stays one when a slot is taken away
pub kept_without : (es : List Entry) (i : ℕ) → (length es ≤ 16) × All IsEntry es → (length (slot_taken i es) ≤ 16) × All IsEntry (slot_taken i es)
kept_without es i h = (omega (arith, length-slot_taken es i, h.0), kept_taken es i h.1)

pub all_one : (e : Entry) → IsEntry e → All IsEntry (e ∷ [])
all_one e h = with_front e [] h (λ k d lt. absurd (omega arith))

-- one slot more is forgotten
forgets_more : (xs : List Entry) (i : ℕ) (d : Entry) → i < length xs
    → slice_set (map forgotten (take i xs) ++ drop i xs) i (forgotten (slice_index_or (map forgotten (take i xs) ++ drop i xs) i d)) ≡ map forgotten (take (suc i) xs) ++ drop (suc i) xs
forgets_more [] i d lt = absurd (omega arith)
forgets_more (x ∷ xs) zero d lt = refl
forgets_more (x ∷ xs) (suc i) d lt = ap (λ ys. forgotten x ∷ ys) (forgets_more xs i d (omega arith))

-- the first that waits gets the slot
given_at : (slot : ℕ) (es : List Entry) (i : ℕ) (d : Entry) → i < length es → waits (slice_index_or es i d) ≡ true → ((k : ℕ) → k < i → waits (slice_index_or es k d) ≡ false)
    → slice_set es i (record (slice_index_or es i d) { slot = Some slot }) ≡ give_slot slot es
given_at slot [] i d lt h before = absurd (omega arith)
given_at slot (x ∷ xs) zero d lt h before = rw h refl
given_at slot (x ∷ xs) (suc i) d lt h before =
    let first : waits x ≡ false = before zero (omega arith) in
    rw first (ap (λ ys. x ∷ ys) (given_at slot xs i d (omega arith) h (λ k lt'. before (suc k) (omega arith))))

-- the bytes of the segments

same_range : (a b m n : ℕ) → a ≡ b → m ≡ n → range_with_len a m ≡ range_with_len b n
same_range a b m n p q = λ i. range_with_len (p i) (q i)

range_split : (a m n k : ℕ) → k ≡ m + n → range_with_len a k ≡ range_with_len a m ++ range_with_len (a + m) n
range_split a zero n k e = same_range a (a + zero) k n (omega arith) (omega arith)
range_split a (suc m) n zero e = absurd (omega arith)
range_split a (suc m) n (suc k) e =
    ap (λ xs. a ∷ xs) (range_split (a + 1) m n k (omega arith) ∙ ap (λ xs. range_with_len (a + 1) m ++ xs) (same_range (a + 1 + m) (a + suc m) n n (omega arith) refl))

-- where a run that ends with a direct entry ends
Ends : Segment → Entry → Type 0
Ends s e = e.bounced ≡ false → s.bus + s.len ≡ 2147483648 + (e.span.at + e.span.len)

joined : (e f : Entry) → joins e f ≡ true → (e.bounced ≡ false) × (f.bounced ≡ false) × (e.span.at + e.span.len ≡ f.span.at)
joined e f h = (grind (arith, nat_tests), grind (arith, nat_tests), grind (arith, nat_tests))

-- the segment of a direct entry
direct_segment : (slots_at : ℕ) (e : Entry) → e.bounced ≡ false → segment_of slots_at e ≡ on_bus e.span
direct_segment slots_at e h = rw h refl

begins : (slots_at : ℕ) (e : Entry) → Ends (segment_of slots_at e) e
unfolding Ends
begins slots_at e direct =
    let sum : 2147483648 + e.span.at + e.span.len ≡ 2147483648 + (e.span.at + e.span.len) = omega arith in
    ap (λ (s : Segment). s.bus + s.len) (direct_segment slots_at e direct) ∙ sum

join_by : (slots_at : ℕ) (s : Segment) (e f : Entry) (fs : List Entry) (b : Bool) → joins e f ≡ b → Ends s e
    → (Ends (record s { len = s.len + f.span.len }) f → flat_map bytes_of (run_on slots_at (record s { len = s.len + f.span.len }) f fs) ≡ bytes_of (record s { len = s.len + f.span.len }) ++ flat_map (λ g. bytes_of (segment_of slots_at g)) fs)
    → (Ends (segment_of slots_at f) f → flat_map bytes_of (run_on slots_at (segment_of slots_at f) f fs) ≡ bytes_of (segment_of slots_at f) ++ flat_map (λ g. bytes_of (segment_of slots_at g)) fs)
    → flat_map bytes_of (if b then run_on slots_at (record s { len = s.len + f.span.len }) f fs else s ∷ run_on slots_at (segment_of slots_at f) f fs) ≡ bytes_of s ++ (bytes_of (segment_of slots_at f) ++ flat_map (λ g. bytes_of (segment_of slots_at g)) fs)
unfolding Ends
join_by slots_at s e f fs true is ends more other =
    let j = joined e f is in
    let there : s.bus + s.len ≡ 2147483648 + (e.span.at + e.span.len) = ends j.0 in
    let both : bytes_of (record s { len = s.len + f.span.len }) ≡ bytes_of s ++ bytes_of (segment_of slots_at f) =
    range_split s.bus s.len f.span.len (s.len + f.span.len) refl
    ∙ ap (λ xs. bytes_of s ++ xs) (same_range (s.bus + s.len) (2147483648 + f.span.at) f.span.len f.span.len (omega (arith, there, j.2)) refl ∙ ap bytes_of (sym (direct_segment slots_at f j.1)))
    in
    more (λ direct. omega (arith, there, j.2)) ∙ ap (λ xs. xs ++ flat_map (λ g. bytes_of (segment_of slots_at g)) fs) both ∙ append_assoc (bytes_of s) (bytes_of (segment_of slots_at f)) (flat_map (λ g. bytes_of (segment_of slots_at g)) fs)
join_by slots_at s e f fs false is ends more other = ap (λ xs. bytes_of s ++ xs) (other (begins slots_at f))

covers : (slots_at : ℕ) (s : Segment) (e : Entry) (es : List Entry) → Ends s e → flat_map bytes_of (run_on slots_at s e es) ≡ bytes_of s ++ flat_map (λ f. bytes_of (segment_of slots_at f)) es
covers slots_at s e [] ends = refl
covers slots_at s e (f ∷ fs) ends = join_by slots_at s e f fs (joins e f) refl ends (covers slots_at (record s { len = s.len + f.span.len }) f fs) (covers slots_at (segment_of slots_at f) f fs)

pub keep_the_bytes : SegmentsKeepTheBytes
keep_the_bytes slots_at [] = refl
keep_the_bytes slots_at (e ∷ es) = covers slots_at (segment_of slots_at e) e es (begins slots_at e)

-- at an element that was read

pub forgets_at : (xs now : List Entry) (i : ℕ) (v : Entry) → now ≡ map forgotten (take i xs) ++ drop i xs → i < length xs → v ≡ slice_index_or now i v → slice_set now i (forgotten v) ≡ map forgotten (take (i + 1) xs) ++ drop (i + 1) xs
forgets_at xs now i v is lt e =
    let one : suc i ≡ i + 1 = omega arith in
    ap (λ w. slice_set now i (forgotten w)) e ∙ ap (λ ys. slice_set ys i (forgotten (slice_index_or ys i v))) is ∙ forgets_more xs i v lt ∙ ap (λ n. map forgotten (take n xs) ++ drop n xs) one

pub gives_at : (slot : ℕ) (es : List Entry) (i : ℕ) (v : Entry) → next_waiting es ≡ Some i → v ≡ slice_index_or es i v → slice_set es i (record v { slot = Some slot }) ≡ give_slot slot es
gives_at slot es i v found e =
    let p = position-Some waits es i v found in
    ap (λ w. slice_set es i (record w { slot = Some slot })) e ∙ given_at slot es i v p.0 p.1 p.2
