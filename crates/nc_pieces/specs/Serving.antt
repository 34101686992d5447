-- What a pool of pieces answers to its operations, line by line.
use Rattle.std.specs.Prelude.{◌≡◌, ℕ, List, [], ◌∷◌, ◌++◌, length, replicate, slice_index_or, slice_set, codes, decimal, Bool, true, Option, Some, None, Result, Ok, Err, refl}
use Rattle.std.specs.FinSet as set
use Rattle.std.specs.Coded.{Coded, code_by, coded×, coded_ℕ, coded_bool, coded_list, coded_option}
use Rattle.nc_coherent.specs.Pages.{PageMap}
use Rattle.nc_dmapool.specs.declared.layout.PoolBad.{PoolBad}
use Rattle.nc_dmapool.specs.declared.layout.PoolBad.TheVariants.{Size, Align, Boundary}
use Rattle.nc_dmapool.specs.Layouts.{layout_of}
use Rattle.nc_dmapool.specs.Pieces.{Pieces, pieces_code, Given, HasTaken, given, pool_of}
use Rattle.nc_dmapool.specs.Apart.{after_free}
use Rattle.nc_values.specs.Outcomes.{◌>>=◌}
use Rattle.nc_rules.specs.Lines.{words, hex_digits}
use Rattle.nc_pieces.specs.declared.request.PieceOp.{PieceOp}
use Rattle.nc_pieces.specs.declared.request.PieceOp.TheVariants.{Alloc, Free}
use Rattle.nc_pieces.specs.declared.refused.PoolRefused.{PoolRefused}
use Rattle.nc_pieces.specs.declared.refused.PoolRefused.TheVariants as refusals
use Rattle.nc_pieces.specs.declared.refused.PoolFault.{PoolFault}
use Rattle.nc_pieces.specs.declared.refused.PoolFault.TheVariants as faults
use Rattle.nc_pieces.specs.Requests.{Request}
use Rattle.nc_pieces.specs.Reading.{request_in}

-- the pool, the pages that it takes from, and of each label the place of its piece
pub record Serving : Type 0 where
  pub pool : Pieces
  pub pages : PageMap
  pub held : List (Option ℕ)

-- it is kept as the tuple of its fields
abbrev pub serving_code : Coded Serving
serving_code =
    code_by (Pieces × ((ℕ × List Bool) × List (Option ℕ))) (coded× pieces_code (coded× (coded× coded_ℕ (coded_list coded_bool)) (coded_list (coded_option coded_ℕ))))
    (λ s. (s.pool, ((s.pages.at, s.pages.free), s.held)))
    (λ t. record { pool = t.0; pages = record { at = t.1.0.0; free = t.1.0.1 }; held = t.1.1 }) (λ _. refl)

abbrev pub held_by : Serving → ℕ → Option ℕ
held_by s label = slice_index_or s.held label None

-- ---- alloc

abbrev pub took : Serving → ℕ → Option Given → Serving
took s label None = s
took s label (Some g) = record { pool = g.pool; pages = g.pages; held = slice_set s.held label (Some g.at) }

abbrev pub took_line : ℕ → Option Given → List ℕ
took_line label None = words (codes "alloc" ∷ decimal label ∷ codes "nopage" ∷ [])
took_line label (Some g) = words (codes "alloc" ∷ decimal label ∷ hex_digits 6 g.at ∷ [])

abbrev pub alloc_after : Serving → ℕ → Option ℕ → Serving
alloc_after s label None = took s label (given s.pool s.pages)
alloc_after s label (Some x) = s

abbrev pub alloc_line : Serving → ℕ → Option ℕ → List ℕ
alloc_line s label None = took_line label (given s.pool s.pages)
alloc_line s label (Some x) = words (codes "alloc" ∷ decimal label ∷ codes "used" ∷ [])

-- ---- free

abbrev pub free_after : Serving → ℕ → Option ℕ → Serving
free_after s label None = s
free_after s label (Some x) =
    record { pool = after_free s.pool x (set.contains s.pool.used x); pages = s.pages; held = slice_set s.held label None }

abbrev pub free_line : ℕ → Option ℕ → List ℕ
free_line label None = words (codes "free" ∷ decimal label ∷ codes "none" ∷ [])
free_line label (Some x) = words (codes "free" ∷ decimal label ∷ [])

-- ---- each operation, and all

abbrev pub op_after : Serving → PieceOp → Serving
op_after s (Alloc label) = alloc_after s label (held_by s label)
op_after s (Free label) = free_after s label (held_by s label)

abbrev pub op_line : Serving → PieceOp → List ℕ
op_line s (Alloc label) = alloc_line s label (held_by s label)
op_line s (Free label) = free_line label (held_by s label)

-- how many pieces are in use, and how many pages are taken
abbrev pub end_line : Serving → List ℕ
end_line s = words (codes "end" ∷ codes "pieces" ∷ decimal (set.len s.pool.used) ∷ codes "pages" ∷ decimal (length s.pool.pages) ∷ [])

abbrev pub lines : Serving → List PieceOp → List ℕ
lines s [] = end_line s
lines s (op ∷ ops) = op_line s op ++ lines (op_after s op) ops

-- ---- the whole

-- no label has a piece
unfoldable pub none_held : List (Option ℕ)
none_held = replicate 1000 None

-- all pages are free at the start
abbrev pub serving_of : Request → Result Pieces PoolBad → Result Serving PoolRefused
serving_of r (Ok pool) = Ok (record { pool = pool; pages = record { at = r.at; free = replicate r.pages true }; held = none_held })
serving_of r (Err bad) = Err (refusals.Pool bad)

abbrev pub answer_to : Request → Result (List ℕ) PoolRefused
answer_to r = serving_of r (pool_of (layout_of r.size r.align r.boundary)) >>= λ s. Ok (lines s r.ops)

-- what the command answers to some bytes: its lines, or a refusal
abbrev pub pool_answer : List ℕ → Result (List ℕ) PoolRefused
pool_answer bytes = request_in bytes >>= answer_to

abbrev pub pool_refused_line : PoolRefused → List ℕ
pool_refused_line refusals.TooLong = words (codes "refused" ∷ codes "long" ∷ [])
pool_refused_line refusals.NotJson = words (codes "refused" ∷ codes "json" ∷ [])
pool_refused_line refusals.Shape = words (codes "refused" ∷ codes "shape" ∷ [])
pool_refused_line (refusals.Pool Size) = words (codes "refused" ∷ codes "pool" ∷ codes "size" ∷ [])
pool_refused_line (refusals.Pool Align) = words (codes "refused" ∷ codes "pool" ∷ codes "align" ∷ [])
pool_refused_line (refusals.Pool Boundary) = words (codes "refused" ∷ codes "pool" ∷ codes "boundary" ∷ [])

-- what the code answers, beside the definition: that memory runs out is the one free answer
abbrev pub FailsPool : {Y : Type 0} → PoolFault → Result Y PoolRefused → Type 0
FailsPool faults.NoMemory r = Unit {0}
FailsPool (faults.Refused e) r = r ≡ Err e

abbrev pub GivesPool : {X Y : Type 0} → (X → Y) → Result X PoolFault → Result Y PoolRefused → Type 0
GivesPool view (Ok x) r = r ≡ Ok (view x)
GivesPool view (Err e) r = FailsPool e r

-- what holds of a pool that serves
pub record IsServing (s : Serving) : Type 0 where
  pub pages : HasTaken s.pages s.pool
  pub labels : length s.held ≡ 1000
