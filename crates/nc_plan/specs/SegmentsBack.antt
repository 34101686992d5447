-- The fields of a list of segments, from the list.
use Rattle.std.specs.Prelude.{◌≡◌, ℕ, ◌-◌, ◌≤◌, List, ◌++◌, length, take, replicate}
use Rattle.std.proofs.Common.{sym, ap, ◌∙◌, refl, arith, length-append}
use Rattle.std.proofs.lemmas.List.{take-append-drop, length-take-le, drop_at, length-replicate}
use Rattle.nc_plan.specs.Segments.{empty, padded, IsPadded}
use Rattle.nc_plan.specs.declared.segments.Segment.{Segment}
use Rattle.nc_plan.specs.declared.segments.SegList.TheInside.{Inside}

pub IsPadded-padded : (v : List Segment) → length v ≤ 16 → IsPadded (padded v) (length v)
IsPadded-padded v h = record {
  fits = h;
  whole = omega (arith, length-append v (replicate (16 - length v) empty), length-replicate {A = Segment} (16 - length v) empty);
  empties = drop_at v (replicate (16 - length v) empty) (length v) refl;
}

len_back : (cells : List Segment) (len : ℕ) → IsPadded cells len → length (take len cells) ≡ len
len_back cells len h = length-take-le len cells (omega (arith, h.whole, h.fits))

cells_back : (cells : List Segment) (len : ℕ) → IsPadded cells len → padded (take len cells) ≡ cells
cells_back cells len h =
    ap (λ n. take len cells ++ replicate (16 - n) empty) (len_back cells len h) ∙ ap (λ zs. take len cells ++ zs) (sym h.empties) ∙ take-append-drop len cells

abbrev pub fields_of : List Segment → Inside
fields_of v = record { cells = padded v; len = length v }

pub fields_back : (a : Inside) → IsPadded a.cells a.len → fields_of (take a.len a.cells) ≡ a
fields_back a h = rw (cells_back a.cells a.len h, len_back a.cells a.len h) refl
