-- What a step is like.
use Rattle.std.proofs.Common.{◌≡◌, ℕ, zero, suc, ◌+◌, ◌-◌, ◌*◌, ◌/◌, ◌%◌, ◌<◌, ◌≤◌, Bool, List, [], ◌∷◌, length, inl, inr, refl, sym, ap, subst, ◌∙◌, arith, slice_get, Option, Some, None, Result, Ok, Err}
use Rattle.std.proofs.lemmas.Option.{slice_get_past}
use Rattle.nc_num.specs.Memory.{span}
use Rattle.nc_num.specs.Places.{pieces, IsPieceLen}
use Rattle.nc_num.specs.declared.names.MemType.{MemType}
use Rattle.nc_num.specs.declared.places.Place.{Place}
use Rattle.nc_num.specs.declared.places.Span.{Span}
use Rattle.nc_num.proofs.MemoryLaws.{length-span}
use Rattle.nc_num.proofs.Blocks.{piece_in_block}
use Rattle.nc_pte.specs.Words.{IsPteWord, place_at, page_of, first_page}
use Rattle.nc_pte.specs.Translation.{answer}
use Rattle.nc_pte.specs.declared.translation.PageFault.{PageFault}
use Rattle.nc_plan.specs.Accesses.{found, load_op, load_step, piece_op, range, step_of, store_op, store_step}
use Rattle.nc_plan.specs.Registers.{regs_stores}
use Rattle.nc_plan.specs.declared.access.At.{At}
use Rattle.nc_plan.specs.declared.access.At.TheVariants.{Ram, Virtual}
use Rattle.nc_plan.specs.declared.ops.HartOp.{HartOp}
use Rattle.nc_steps.specs.Laws.{IsNatural, IsWithin, IsPlaced, LoadsArePieces, StoresArePieces, Faults, Stops, StepsStop, TablesServe, home}
use Rattle.nc_steps.specs.Mapped.{IsFindable, IsMapped}
use Rattle.nc_steps.proofs.PieceLaws.{IsOf, is_of}

-- a step that is an operation: its piece, and what is found for it

record IsOp (mk : Span → Span → MemType → HartOp) (to : At) (pbmte : Bool) (table : List ℕ) (o : Option Span) (op : HartOp) : Type 0 where
  piece : Span
  there : Span
  kind : MemType
  is : op ≡ mk piece there kind
  numbered : o ≡ Some piece
  found : found to pbmte table piece.at ≡ Ok (kind, record { 0 = there.at })
  length : there.len ≡ piece.len

op_of_found : (mk : Span → Span → MemType → HartOp) (to : At) (pbmte : Bool) (table : List ℕ) (p : Span) (r : Result (MemType × Place) PageFault) (op : HartOp)
    → found to pbmte table p.at ≡ r → piece_op (mk p) p.len r ≡ Ok (Some op) → IsOp mk to pbmte table (Some p) op
op_of_found mk to pbmte table p (Err fault) op f e = absurd (cc)
op_of_found mk to pbmte table p (Ok there) op f e = record {
  piece = p;
  there = record { at = there.1.0; len = p.len };
  kind = there.0;
  is = cc;
  numbered = refl;
  found = f;
  length = refl;
}

op_is : (mk : Span → Span → MemType → HartOp) (to : At) (pbmte : Bool) (table : List ℕ) (o : Option Span) (op : HartOp)
    → step_of mk to pbmte table o ≡ Ok (Some op) → IsOp mk to pbmte table o op
op_is mk to pbmte table None op e = absurd (cc)
op_is mk to pbmte table (Some p) op e = op_of_found mk to pbmte table p (found to pbmte table p.at) op refl e

-- where it lies

ok_same : (a b : MemType × Place) → ◌≡◌ {A = Result (MemType × Place) PageFault} (Ok a) (Ok b) → a ≡ b
ok_same a b e = cc

place_of_answer : (o : Option MemType) (word va : ℕ) (kind : MemType) (there : Place) → answer o word va ≡ Ok (kind, there) → there.0 ≡ place_at word va
place_of_answer None word va kind there e = absurd (cc)
place_of_answer (Some t) word va kind there e = sym (ap (λ (p : MemType × Place). p.1.0) (ok_same (t, record { 0 = place_at word va }) (kind, there) e))

in_page : (n p x : ℕ) → IsPieceLen n → x % n ≡ 0 → ((4096 * p + x % 4096) % n ≡ 0) × (x % 4096 + n ≤ 4096)
in_page n p x (inl e) h = let k : x % 8 ≡ 0 = rw e at h in rw e (omega arith, omega arith)
in_page n p x (inr (inl e)) h = let k : x % 4 ≡ 0 = rw e at h in rw e (omega arith, omega arith)
in_page n p x (inr (inr (inl e))) h = let k : x % 2 ≡ 0 = rw e at h in rw e (omega arith, omega arith)
in_page n p x (inr (inr (inr e))) h = rw e (omega arith, omega arith)

no_less : (n : ℕ) → IsPieceLen n → (0 < n) × (n ≤ 8)
no_less n (inl e) = (omega arith, omega arith)
no_less n (inr (inl e)) = (omega arith, omega arith)
no_less n (inr (inr (inl e))) = (omega arith, omega arith)
no_less n (inr (inr (inr e))) = (omega arith, omega arith)

is_natural : (p : Span) → IsPieceLen p.len → p.at % p.len ≡ 0 → IsNatural p
is_natural p size aligned = record { size = size; aligned = aligned; one_block = λ s z. piece_in_block p.at p.len z size aligned }

record IsThere (ram : ℕ) (to : At) (len : ℕ) (there : Span) : Type 0 where
  natural : IsNatural there
  lies : IsWithin (home ram to len) there

in_ram : (ram word va len : ℕ) (piece there : Span) → IsPteWord ram word → IsNatural piece → there.at ≡ place_at word piece.at → there.len ≡ piece.len → IsThere ram (Virtual va) len there
in_ram ram word va len piece there h natural at same =
    let k = in_page piece.len (page_of word - first_page) piece.at natural.size natural.aligned in
    record {
      natural = is_natural there (rw same natural.size) (rw (same, at) k.0);
      lies = record { starts = omega arith; ends = omega (arith, h.in_ram, k.1) };
    }

virtual_there : (ram : ℕ) (va : ℕ) (pbmte : Bool) (table : List ℕ) (len : ℕ) (piece there : Span) (kind : MemType)
    → IsMapped ram (Virtual va) table len → IsOf va len piece → found (Virtual va) pbmte table piece.at ≡ Ok (kind, record { 0 = there.at })
    → there.len ≡ piece.len → IsThere ram (Virtual va) len there
virtual_there ram va pbmte table len piece there kind mapped k f same =
    let some = no_less piece.len k.natural.size in
    let word = mapped piece.at k.within.starts (omega (arith, k.within.ends, some.0)) in
    in_ram ram _ va len piece there word.valid k.natural (place_of_answer _ _ piece.at kind (record { 0 = there.at }) f) same

span_is : (s t : Span) → s.at ≡ t.at → s.len ≡ t.len → s ≡ t
span_is s t p q = λ i. record { at = p i; len = q i }

ram_there : (ram at len : ℕ) (k : MemType) (pbmte : Bool) (table : List ℕ) (piece there : Span) (kind : MemType) → IsOf at len piece
    → found (Ram at k) pbmte table piece.at ≡ Ok (kind, record { 0 = there.at }) → there.len ≡ piece.len → IsThere ram (Ram at k) len there
ram_there ram at len k pbmte table piece there kind h f same =
    let at_same : piece.at ≡ there.at = ap (λ (p : MemType × Place). p.1.0) (ok_same (k, record { 0 = piece.at }) (kind, record { 0 = there.at }) f) in
    let e : piece ≡ there = span_is piece there at_same (sym same) in
    subst (λ (t : Span). IsThere ram (Ram at k) len t) e (record { natural = h.natural; lies = h.within })

there_is : (ram : ℕ) (to : At) (pbmte : Bool) (table : List ℕ) (len : ℕ) (piece there : Span) (kind : MemType)
    → IsMapped ram to table len → IsOf (range to len).at len piece → found to pbmte table piece.at ≡ Ok (kind, record { 0 = there.at })
    → there.len ≡ piece.len → IsThere ram to len there
there_is ram (Ram at k) pbmte table len piece there kind mapped h f same = ram_there ram at len k pbmte table piece there kind h f same
there_is ram (Virtual va) pbmte table len piece there kind mapped h f same = virtual_there ram va pbmte table len piece there kind mapped h f same

range_len : (to : At) (len : ℕ) → (range to len).len ≡ len
range_len (Ram at k) len = refl
range_len (Virtual va) len = refl

of_range : (to : At) (len n : ℕ) (p : Span) → slice_get (pieces (range to len)) n ≡ Some p → IsOf (range to len).at len p
of_range (Ram at k) len n p e = is_of (record { at = at; len = len }) n p e
of_range (Virtual va) len n p e = is_of (record { at = va; len = len }) n p e

within_range : (to : At) (len : ℕ) (p : Span) → IsOf (range to len).at len p → IsWithin (range to len) p
within_range (Ram at k) len p h = h.within
within_range (Virtual va) len p h = h.within

placed : (ram : ℕ) (to : At) (pbmte : Bool) (table : List ℕ) (len n : ℕ) (piece there : Span) (kind : MemType)
    → IsMapped ram to table len → slice_get (pieces (range to len)) n ≡ Some piece → found to pbmte table piece.at ≡ Ok (kind, record { 0 = there.at })
    → there.len ≡ piece.len → IsPlaced ram to pbmte table len n piece there kind
placed ram to pbmte table len n piece there kind mapped e f same =
    let h = of_range to len n piece e in
    let k = there_is ram to pbmte table len piece there kind mapped h f same in
    record { numbered = e; within = within_range to len piece h; found = f; length = same; natural = k.natural; lies = k.lies }

pub loads_are_pieces : LoadsArePieces
unfolding load_step
loads_are_pieces ram to pbmte table len n op mapped e =
    let k = op_is load_op to pbmte table (slice_get (pieces (range to len)) n) op e in
    record { piece = k.piece; there = k.there; kind = k.kind; loads = k.is; placed = placed ram to pbmte table len n k.piece k.there k.kind mapped k.numbered k.found k.length }

pub stores_are_pieces : StoresArePieces
unfolding store_step
stores_are_pieces ram to pbmte table bytes n op mapped e =
    let k = op_is (store_op (range to (length bytes)).at bytes) to pbmte table (slice_get (pieces (range to (length bytes))) n) op e in
    let h = of_range to (length bytes) n k.piece k.numbered in
    record {
      piece = k.piece;
      there = k.there;
      kind = k.kind;
      given = span bytes (k.piece.at - (range to (length bytes)).at) k.piece.len;
      stores = k.is;
      its_part = refl;
      whole = length-span bytes (k.piece.at - (range to (length bytes)).at) k.piece.len (omega (arith, h.within.starts, h.within.ends)) ∙ sym k.length;
      placed = placed ram to pbmte table (length bytes) n k.piece k.there k.kind mapped k.numbered k.found k.length;
    }

-- when there is no operation

none_of : (mk : Span → Span → MemType → HartOp) (to : At) (pbmte : Bool) (table : List ℕ) (p : Span) (r : Result (MemType × Place) PageFault) → piece_op (mk p) p.len r ≡ Ok None → ⊥
none_of mk to pbmte table p (Ok there) e = cc
none_of mk to pbmte table p (Err fault) e = cc

none_is : (mk : Span → Span → MemType → HartOp) (to : At) (pbmte : Bool) (table : List ℕ) (o : Option Span) → step_of mk to pbmte table o ≡ Ok None → o ≡ None
none_is mk to pbmte table None e = refl
none_is mk to pbmte table (Some p) e = absurd (none_of mk to pbmte table p (found to pbmte table p.at) e)

past_of : {X : Type 0} (xs : List X) (n : ℕ) → slice_get xs n ≡ None → length xs ≤ n
past_of [] n e = omega arith
past_of (x ∷ xs) zero e = absurd (cc)
past_of (x ∷ xs) (suc n) e = omega (arith, past_of xs n e)

fault_of : (mk : Span → Span → MemType → HartOp) (p : Span) (r : Result (MemType × Place) PageFault) (fault : PageFault) → piece_op (mk p) p.len r ≡ Err fault → r ≡ Err fault
fault_of mk p (Ok there) fault e = absurd (cc)
fault_of mk p (Err f) fault e = cc

fault_is : (mk : Span → Span → MemType → HartOp) (to : At) (pbmte : Bool) (table : List ℕ) (len n : ℕ) (o : Option Span) (fault : PageFault)
    → slice_get (pieces (range to len)) n ≡ o → step_of mk to pbmte table o ≡ Err fault → Faults to pbmte table len n fault
fault_is mk to pbmte table len n None fault is e = absurd (cc)
fault_is mk to pbmte table len n (Some p) fault is e = record { piece = p; numbered = is; refused = fault_of mk p (found to pbmte table p.at) fault e }

fault_back : (mk : Span → Span → MemType → HartOp) (to : At) (pbmte : Bool) (table : List ℕ) (len n : ℕ) (fault : PageFault)
    → Faults to pbmte table len n fault → step_of mk to pbmte table (slice_get (pieces (range to len)) n) ≡ Err fault
fault_back mk to pbmte table len n fault h =
    ap (λ o. step_of mk to pbmte table o) h.numbered ∙ ap (λ r. piece_op (mk h.piece) h.piece.len r) h.refused

stops : (mk : Span → Span → MemType → HartOp) (to : At) (pbmte : Bool) (table : List ℕ) (len n : ℕ) → Stops to pbmte table len n (step_of mk to pbmte table (slice_get (pieces (range to len)) n))
stops mk to pbmte table len n = record {
  none = (
    λ e. past_of (pieces (range to len)) n (none_is mk to pbmte table (slice_get (pieces (range to len)) n) e),
    λ h. ap (λ o. step_of mk to pbmte table o) (slice_get_past (pieces (range to len)) n h),
  );
  fault = λ fault. (
    λ e. fault_is mk to pbmte table len n (slice_get (pieces (range to len)) n) fault refl e,
    λ h. fault_back mk to pbmte table len n fault h,
  );
}

pub steps_stop : StepsStop
unfolding load_step store_step
steps_stop = record {
  load = λ to pbmte table len n. stops load_op to pbmte table len n;
  store = λ to pbmte table bytes n. stops (store_op (range to (length bytes)).at bytes) to pbmte table (length bytes) n;
  regs = λ chan source destination bytes config n. (
    λ e. past_of (regs_stores chan source destination bytes config) n e,
    λ h. slice_get_past (regs_stores chan source destination bytes config) n h,
  );
}

-- the table of a machine

pub word_of_more : (ram more word : ℕ) → ram ≤ more → IsPteWord ram word → IsPteWord more word
word_of_more ram more word le h = record { flags = h.flags; reserved = h.reserved; napot = h.napot; from_ram = h.from_ram; in_ram = omega (arith, h.in_ram) }

pub tables_serve : TablesServe
tables_serve ram table va len le words ends = (
  λ x lo hi. let lt : x / 4096 < length table = omega arith in record { mapped = lt; valid = words (x / 4096) lt },
  λ x lo hi. let lt : x / 4096 < length table = omega arith in record { mapped = lt; valid = word_of_more ram 1048576 _ le (words (x / 4096) lt) },
)

-- what the code needs of its piece

findable : (to : At) (table : List ℕ) (len : ℕ) (p : Span) → IsMapped 1048576 to table len → IsOf (range to len).at len p → IsFindable to table p.at
findable (Ram at k) table len p mapped h = tt
findable (Virtual va) table len p mapped h = mapped p.at h.within.starts (omega (arith, h.within.ends, (no_less p.len h.natural.size).0))

pub record IsInHand (to : At) (table : List ℕ) (len : ℕ) (r p : Span) : Type 0 where
  pub findable : IsFindable to table p.at
  pub starts : r.at ≤ p.at
  pub within : p.at - r.at + p.len ≤ len
  pub short : p.len ≤ 8

pub in_hand : (to : At) (table : List ℕ) (len n : ℕ) (r p : Span) → r ≡ range to len → IsMapped 1048576 to table len → Some p ≡ slice_get (pieces r) n → IsInHand to table len r p
in_hand to table len n r p is mapped e =
    let h = of_range to len n p (rw is at (sym e)) in
    rw is (record {
      findable = findable to table len p mapped h;
      starts = h.within.starts;
      within = omega (arith, h.within.starts, h.within.ends);
      short = (no_less p.len h.natural.size).1;
    })

-- step n by what is left behind n pieces
