-- The pieces of the copies of a plan: they lie in the ranges of their entries, no two share a byte, and each byte is in one.
use Rattle.std.specs.Prelude.{All, Some, ◌-◌, Bool, true, false, if◌then◌else◌, map, flat_map, slice_get}
use Rattle.std.proofs.Common.{◌≡◌, ◌≢◌, ℕ, zero, suc, ◌+◌, ◌<◌, ◌≤◌, List, [], ◌∷◌, ◌++◌, refl, sym, ap, ◌∙◌, inl, inr, subst, arith}
use Rattle.std.proofs.lemmas.Bool.{cases_lt}
use Rattle.std.proofs.lemmas.List.Elements.{All-nil, All-cons, All-head, All-tail, All-append}
use Rattle.nc_num.specs.Places.{covers, pieces, IsPieceLen, Tiles}
use Rattle.nc_num.specs.declared.places.Span.{Span}
use Rattle.nc_num.proofs.Tiling.{tiles}
use Rattle.nc_model.proofs.Faults.{covers-from, covers-low, covers-high}
use Rattle.nc_plan.specs.Plans.{In, moved}
use Rattle.nc_plan.proofs.PlanLaws.{in_left, in_right}
use Rattle.nc_sg.specs.declared.list.Entry.{Entry}
use Rattle.nc_holds.specs.Held.{SharesNone}
use Rattle.nc_holds.proofs.lists.Members.{all_at, at_get}
use Rattle.nc_scripts.proofs.Lists.{all_in}
use Rattle.nc_flatness.specs.Plans.{IsWithin}

-- ---- tiles

tiled_in : (at len : ℕ) (ps : List Span) (p : Span) → Tiles at len ps → In p ps → (at ≤ p.at) × (p.at + p.len ≤ at + len)
tiled_in at len [] p all here = absurd here
tiled_in at len (q ∷ ps) p all (inl same) =
    let starts : p.at ≡ at = ap (λ (s : Span). s.at) (sym same) ∙ all.0.starts_here in
    let long : p.len ≡ q.len = ap (λ (s : Span). s.len) (sym same) in
    (omega (arith, starts), omega (arith, starts, long, all.0.within))
tiled_in at len (q ∷ ps) p all (inr later) =
    let r = tiled_in (at + q.len) (len - q.len) ps p all.1 later in
    (omega (arith, r.0), omega (arith, r.1, all.0.within))

long_piece : (n : ℕ) → IsPieceLen n → 0 < n
long_piece n is = elim is [
  | inl eight ↦ omega (arith, eight)
  | inr less ↦ elim less [ inl four ↦ omega (arith, four) | inr few ↦ elim few [ inl two ↦ omega (arith, two) | inr one ↦ omega (arith, one) ] ]
]

-- each has bytes
tiled_some : (at len : ℕ) (ps : List Span) (p : Span) → Tiles at len ps → In p ps → 0 < p.len
tiled_some at len [] p all here = absurd here
tiled_some at len (q ∷ ps) p all (inl same) = subst (λ (s : Span). 0 < s.len) same (long_piece q.len all.0.size)
tiled_some at len (q ∷ ps) p all (inr later) = tiled_some (at + q.len) (len - q.len) ps p all.1 later

-- each place is in one of them
tiled_at : (at len : ℕ) (ps : List Span) (x : ℕ) → Tiles at len ps → at ≤ x → x < at + len → (p : Span) × In p ps × (covers p x ≡ true)
tiled_at at len [] x all low high = absurd (omega (arith, all, low, high))
tiled_at at len (q ∷ ps) x all low high = elim (cases_lt x (at + q.len)) [
  | inl lt ↦ (q, inl refl, covers-from q x (omega (arith, all.0.starts_here, low)) (omega (arith, all.0.starts_here, lt)))
  | inr past ↦ let r = tiled_at (at + q.len) (len - q.len) ps x all.1 past (omega (arith, all.0.within, high)) in (r.0, inr r.1, r.2)
]

-- each lies before those behind it
abbrev pub Ascends : List Span → Type 0
Ascends [] = Unit {0}
Ascends (p ∷ ps) = All (λ q. p.at + p.len ≤ q.at) ps × Ascends ps

tiles_ascend : (at len : ℕ) (ps : List Span) → Tiles at len ps → Ascends ps
tiles_ascend at len [] all = tt
tiles_ascend at len (p ∷ ps) all =
    (all_in (λ (q : Span). p.at + p.len ≤ q.at) ps (λ q here. let r = tiled_in (at + p.len) (len - p.len) ps q all.1 here in omega (arith, all.0.starts_here, r.0)), tiles_ascend (at + p.len) (len - p.len) ps all.1)

-- ---- the pieces that are copied

pub record Move : Type 0 where
  pub entry : Entry
  pub piece : Span

-- the range that its store gives
abbrev pub stored : (Entry → Span × Span) → Move → Span
stored cut m = moved (cut m.entry).0.at (cut m.entry).1.at m.piece

abbrev pub piece_of : Entry → Span → Move
piece_of e p = record { entry = e; piece = p }

abbrev pub moves_of : (Entry → Span × Span) → List Entry → List Move
moves_of cut es = flat_map (λ e. if e.bounced then map (piece_of e) (pieces (cut e).0) else []) es

-- it is a piece of an entry that bounces
pub record IsMove (cut : Entry → Span × Span) (es : List Entry) (m : Move) : Type 0 where
  pub i : ℕ
  pub entry : slice_get es i ≡ Some m.entry
  pub bounced : m.entry.bounced ≡ true
  pub within : IsWithin m.piece (cut m.entry).0
  pub some : 0 < m.piece.len

-- no two give one byte
abbrev pub MovesApart : (Entry → Span × Span) → List Move → Type 0
MovesApart cut [] = Unit {0}
MovesApart cut (m ∷ ms) = All (λ k. SharesNone (stored cut m) (stored cut k)) ms × MovesApart cut ms

-- the ranges to which entries that bounce are copied are apart
abbrev pub AreCutApart : (Entry → Span × Span) → Entry → Entry → Type 0
AreCutApart cut d e = d.bounced ≡ true → e.bounced ≡ true → SharesNone (cut d).1 (cut e).1

abbrev pub AllCutApart : (Entry → Span × Span) → List Entry → Type 0
AllCutApart cut [] = Unit {0}
AllCutApart cut (e ∷ es) = All (AreCutApart cut e) es × AllCutApart cut es

-- both ranges of an entry are as long
abbrev pub CutsEven : (Entry → Span × Span) → Type 0
CutsEven cut = (e : Entry) → (cut e).1.len ≡ (cut e).0.len

-- ---- of one entry

moves_one : (cut : Entry → Span × Span) (e : Entry) (es : List Entry) (i : ℕ) (ps : List Span) → slice_get es i ≡ Some e → e.bounced ≡ true → ((p : Span) → In p ps → IsWithin p (cut e).0 × (0 < p.len)) → All (IsMove cut es) (map (piece_of e) ps)
moves_one cut e es i [] there bounced within = All-nil (IsMove cut es)
moves_one cut e es i (p ∷ ps) there bounced within =
    All-cons (IsMove cut es) (piece_of e p) (map (piece_of e) ps) (record { i = i; entry = there; bounced = bounced; within = (within p (inl refl)).0; some = (within p (inl refl)).1 }) (moves_one cut e es i ps there bounced (λ q here. within q (inr here)))

-- a store lies in its range
pub stored_in : (cut : Entry → Span × Span) (m : Move) (x : ℕ) → CutsEven cut → IsWithin m.piece (cut m.entry).0 → covers (stored cut m) x ≡ true → covers (cut m.entry).1 x ≡ true
stored_in cut m x even within on =
    let low = covers-low (stored cut m) x on in
    let high = covers-high (stored cut m) x on in
    covers-from (cut m.entry).1 x (omega (arith, low)) (omega (arith, high, within.0, within.1, even m.entry))

apart_one : (cut : Entry → Span × Span) (e : Entry) (ps : List Span) → Ascends ps → ((p : Span) → In p ps → (cut e).0.at ≤ p.at) → MovesApart cut (map (piece_of e) ps)
apart_one cut e [] up low = tt
apart_one cut e (p ∷ ps) up low = (later ps up.0 (λ q here. low q (inr here)), apart_one cut e ps up.1 (λ q here. low q (inr here)))
  where
    later : (qs : List Span) → All (λ q. p.at + p.len ≤ q.at) qs → ((q : Span) → In q qs → (cut e).0.at ≤ q.at) → All (λ k. SharesNone (stored cut (piece_of e p)) (stored cut k)) (map (piece_of e) qs)
    later [] all lows = All-nil (λ k. SharesNone (stored cut (piece_of e p)) (stored cut k))
    later (q ∷ qs) all lows =
        All-cons (λ k. SharesNone (stored cut (piece_of e p)) (stored cut k)) (piece_of e q) (map (piece_of e) qs)
        (λ x a b. absurd (omega (arith, covers-high (stored cut (piece_of e p)) x a, covers-low (stored cut (piece_of e q)) x b, All-head (λ (q : Span). p.at + p.len ≤ q.at) q qs all, low p (inl refl), lows q (inl refl))))
        (later qs (All-tail (λ (q : Span). p.at + p.len ≤ q.at) q qs all) (λ r here. lows r (inr here)))

-- ---- of all

moves_if : (cut : Entry → Span × Span) (e : Entry) (es : List Entry) (i : ℕ) (t : Bool) → e.bounced ≡ t → slice_get es i ≡ Some e → All (IsMove cut es) (if t then map (piece_of e) (pieces (cut e).0) else [])
moves_if cut e es i true is there = moves_one cut e es i (pieces (cut e).0) there is (λ p here. (tiled_in (cut e).0.at (cut e).0.len (pieces (cut e).0) p (tiles (cut e).0) here, tiled_some (cut e).0.at (cut e).0.len (pieces (cut e).0) p (tiles (cut e).0) here))
moves_if cut e es i false is there = All-nil (IsMove cut es)

moves_from : (cut : Entry → Span × Span) (es all : List Entry) → ((i : ℕ) (e : Entry) → slice_get es i ≡ Some e → (j : ℕ) × (slice_get all j ≡ Some e)) → All (IsMove cut all) (moves_of cut es)
moves_from cut [] all there = All-nil (IsMove cut all)
moves_from cut (e ∷ es) all there =
    let k = there 0 e refl in
    All-append (IsMove cut all) (if e.bounced then map (piece_of e) (pieces (cut e).0) else []) (moves_of cut es) (moves_if cut e all k.0 e.bounced refl k.1) (moves_from cut es all (λ i d at. there (suc i) d at))

pub moves_are : (cut : Entry → Span × Span) (es : List Entry) → All (IsMove cut es) (moves_of cut es)
moves_are cut es = moves_from cut es es (λ i e there. (i, there))

apart_append : (cut : Entry → Span × Span) (ms ks : List Move) → MovesApart cut ms → MovesApart cut ks → All (λ m. All (λ k. SharesNone (stored cut m) (stored cut k)) ks) ms → MovesApart cut (ms ++ ks)
apart_append cut [] ks a b cross = b
apart_append cut (m ∷ ms) ks a b cross =
    let P : Move → Type 0 = λ (m : Move). All (λ k. SharesNone (stored cut m) (stored cut k)) ks in
    (All-append (λ k. SharesNone (stored cut m) (stored cut k)) ms ks a.0 (All-head P m ms cross), apart_append cut ms ks a.1 b (All-tail P m ms cross))

apart_if : (cut : Entry → Span × Span) (e : Entry) (t : Bool) → MovesApart cut (if t then map (piece_of e) (pieces (cut e).0) else [])
apart_if cut e true = apart_one cut e (pieces (cut e).0) (tiles_ascend (cut e).0.at (cut e).0.len (pieces (cut e).0) (tiles (cut e).0)) (λ p here. (tiled_in (cut e).0.at (cut e).0.len (pieces (cut e).0) p (tiles (cut e).0) here).0)
apart_if cut e false = tt

-- the moves of one entry are of it
moves_entry : (cut : Entry → Span × Span) (e : Entry) (ps : List Span) (m : Move) → In m (map (piece_of e) ps) → m.entry ≡ e
moves_entry cut e [] m here = absurd here
moves_entry cut e (p ∷ ps) m (inl same) = ap (λ (k : Move). k.entry) (sym same)
moves_entry cut e (p ∷ ps) m (inr later) = moves_entry cut e ps m later

entry_if : (cut : Entry → Span × Span) (e : Entry) (t : Bool) (m : Move) → In m (if t then map (piece_of e) (pieces (cut e).0) else []) → m.entry ≡ e
entry_if cut e true m here = moves_entry cut e (pieces (cut e).0) m here
entry_if cut e false m here = absurd here

pub moves_apart : (cut : Entry → Span × Span) (es : List Entry) → CutsEven cut → AllCutApart cut es → MovesApart cut (moves_of cut es)
moves_apart cut [] even all = tt
moves_apart cut (e ∷ es) even all =
    let first = if e.bounced then map (piece_of e) (pieces (cut e).0) else [] in
    let mine_all : All (IsMove cut (e ∷ [])) first = moves_if cut e (e ∷ []) 0 e.bounced refl refl in
    let rest_all = moves_are cut es in
    apart_append cut first (moves_of cut es) (apart_if cut e e.bounced) (moves_apart cut es even all.1)
    (all_in (λ (m : Move). All (λ k. SharesNone (stored cut m) (stored cut k)) (moves_of cut es)) first
    (λ m here.
    let is = all_at (IsMove cut (e ∷ [])) first m mine_all here in
    let same = entry_if cut e e.bounced m here in
    all_in (λ (k : Move). SharesNone (stored cut m) (stored cut k)) (moves_of cut es)
    (λ k there.
    let ks = all_at (IsMove cut es) (moves_of cut es) k rest_all there in
    let other = all_at (AreCutApart cut e) es k.entry all.0 (at_get es ks.i k.entry ks.entry) in
    λ x a b. other (subst (λ (d : Entry). d.bounced ≡ true) same is.bounced) ks.bounced x
    (subst (λ (d : Entry). covers (cut d).1 x ≡ true) same (stored_in cut m x even is.within a)) (stored_in cut k x even ks.within b))))

-- each byte of a range is in a store
in_moves : (cut : Entry → Span × Span) (e : Entry) (es : List Entry) (m : Move) (i : ℕ) → slice_get es i ≡ Some e → In m (if e.bounced then map (piece_of e) (pieces (cut e).0) else []) → In m (moves_of cut es)
in_moves cut e [] m i there here = absurd cc
in_moves cut e (d ∷ es) m zero there here =
    let same : d ≡ e = cc in
    in_left m (if d.bounced then map (piece_of d) (pieces (cut d).0) else []) (moves_of cut es) (subst (λ (k : Entry). In m (if k.bounced then map (piece_of k) (pieces (cut k).0) else [])) (sym same) here)
in_moves cut e (d ∷ es) m (suc i) there here = in_right m (if d.bounced then map (piece_of d) (pieces (cut d).0) else []) (moves_of cut es) (in_moves cut e es m i there here)

in_pieces : (e : Entry) (p : Span) (ps : List Span) → In p ps → In (piece_of e p) (map (piece_of e) ps)
in_pieces e p [] here = absurd here
in_pieces e p (q ∷ ps) (inl same) = inl (ap (piece_of e) same)
in_pieces e p (q ∷ ps) (inr later) = inr (in_pieces e p ps later)

pub move_at : (cut : Entry → Span × Span) (es : List Entry) (i : ℕ) (e : Entry) (x : ℕ) → CutsEven cut → slice_get es i ≡ Some e → e.bounced ≡ true → covers (cut e).1 x ≡ true → (m : Move) × In m (moves_of cut es) × (covers (stored cut m) x ≡ true)
move_at cut es i e x even there bounced on =
    let from = (cut e).0 in
    let to = (cut e).1 in
    let low = covers-low to x on in
    let high = covers-high to x on in
    let r = tiled_at from.at from.len (pieces from) (from.at + (x - to.at)) (tiles from) (omega arith) (omega (arith, low, high, even e)) in
    let m = piece_of e r.0 in
    let in_range = tiled_in from.at from.len (pieces from) r.0 (tiles from) r.1 in (
      m,
      in_moves cut e es m i there (subst (λ (t : Bool). In m (if t then map (piece_of e) (pieces from) else [])) (sym bounced) (in_pieces e r.0 (pieces from) r.1)),
      covers-from (stored cut m) x (omega (arith, low, in_range.0, covers-low r.0 (from.at + (x - to.at)) r.2)) (omega (arith, low, in_range.0, covers-high r.0 (from.at + (x - to.at)) r.2)),
    )

-- two entries at different places of a list
pub pairs_apart : (cut : Entry → Span × Span) (es : List Entry) → ((i j : ℕ) (d e : Entry) → i ≢ j → slice_get es i ≡ Some d → slice_get es j ≡ Some e → AreCutApart cut d e) → AllCutApart cut es
pairs_apart cut [] each = tt
pairs_apart cut (e ∷ es) each = (others es (λ j d there. each 0 (suc j) e d (λ same. absurd (omega (arith, same))) refl there), pairs_apart cut es (λ i j d k ne a b. each (suc i) (suc j) d k (λ same. ne (omega (arith, same))) a b))
  where
    others : (ds : List Entry) → ((j : ℕ) (d : Entry) → slice_get ds j ≡ Some d → AreCutApart cut e d) → All (AreCutApart cut e) ds
    others [] each = All-nil (AreCutApart cut e)
    others (d ∷ ds) each = All-cons (AreCutApart cut e) d ds (each 0 d refl) (others ds (λ j k there. each (suc j) k there))
