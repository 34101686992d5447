-- The places of a page, by number, for a layout that a pool can have.
use Rattle.std.proofs.Common.{◌≡◌, ℕ, ◌+◌, ◌*◌, ◌/◌, ◌%◌, ◌<◌, ◌≤◌, sym, ap, subst, ◌∙◌, arith}
use Rattle.std.proofs.lemmas.Nat.{le-div, mul-lt}
use Rattle.nc_dmapool.specs.Layouts.{Layout, IsCut, Cuts, stride, each, offset_of, place_count}
use Rattle.nc_dmapool.proofs.Powers.{cuts}
use Rattle.nc_dmapool.proofs.Cutting.{off_ends, off_grows, off_same, number_at, number_of}

pub offset_ends : (l : Layout) → Cuts l → (n : ℕ) → n < place_count l → offset_of l n + stride l ≤ 4096
offset_ends l is n lt = omega (arith, off_ends (each l) l.range (stride l) (4096 / l.range) n is.count is.fits lt, is.ranges)

pub offset_within : (l : Layout) → Cuts l → (n : ℕ) → n < place_count l → offset_of l n < 4096
offset_within l is n lt = omega (arith, offset_ends l is n lt, is.step)

pub offset_grows : (l : Layout) → Cuts l → (n m : ℕ) → n < m → offset_of l n + stride l ≤ offset_of l m
offset_grows l is n m lt = off_grows (each l) l.range (stride l) n m is.count is.fits lt

pub offset_same : (l : Layout) → Cuts l → (n m : ℕ) → offset_of l n ≡ offset_of l m → n ≡ m
offset_same l is n m same = off_same (each l) l.range (stride l) n m is.count is.step is.fits same

pub count_some : (l : Layout) → Cuts l → 0 < place_count l
count_some l is = mul-lt 0 0 (4096 / l.range) (each l) (le-div 1 4096 l.range is.range (omega (arith, is.page))) is.count

-- the same, as the code works it out

pub raw_within : (l : Layout) (step count n : ℕ) → IsCut l step count → n < place_count l → n / count * l.range + n % count * step < 4096
raw_within l step count n is lt = rw (is.step_is, is.count_is) (offset_within l (cuts l is.layout) n lt)

pub raw_some : (l : Layout) (step count : ℕ) → IsCut l step count → 0 < 4096 / l.range * count
raw_some l step count is = rw (is.count_is) (count_some l (cuts l is.layout))

pub raw_number : (l : Layout) (step count o : ℕ) → IsCut l step count → (o % l.range) % step ≡ 0 → (o % l.range) / step < count → offset_of l (o / l.range * count + (o % l.range) / step) ≡ o
raw_number l step count o is whole lt =
    let k = cuts l is.layout in
    rw (is.step_is, is.count_is) (number_at (each l) l.range (stride l) o k.range k.step (ap (λ s. (o % l.range) % s) (sym is.step_is) ∙ whole) (subst (λ s. (o % l.range) / s < each l) is.step_is (subst (λ c. (o % l.range) / step < c) is.count_is lt)))

pub raw_is_number : (l : Layout) (step count o n : ℕ) → IsCut l step count → offset_of l n ≡ o → ((o % l.range) % step ≡ 0) × ((o % l.range) / step < count)
raw_is_number l step count o n is same =
    let k = cuts l is.layout in
    let P : ℕ → ℕ → ℕ → Type 0 = λ o s c. ((o % l.range) % s ≡ 0) × ((o % l.range) / s < c) in
    subst (λ c. P o step c) (sym is.count_is) (subst (λ s. P o s (each l)) (sym is.step_is) (subst (λ o. P o (stride l) (each l)) same (number_of (each l) l.range (stride l) n k.count k.step k.fits)))
