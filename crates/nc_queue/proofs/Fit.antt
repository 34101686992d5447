-- Every entry of a queue meets the condition of a push.
use Rattle.std.specs.Prelude.{Some, None, slice_get, slice_set, remove}
use Rattle.std.proofs.Common.{◌≡◌, ℕ, zero, suc, ◌+◌, ◌-◌, ◌%◌, ◌<◌, ◌≤◌, get_or, ◌∙◌, sym, ap, List, [], ◌∷◌, ◌++◌, length, subst, arith}
use Rattle.std.proofs.lemmas.List.{length-set}
use Rattle.nc_num.specs.Sizes.{IsBlockSize}
use Rattle.nc_queue.proofs.Drained.{get_some, get_none}
use Rattle.nc_queue.proofs.Rings.{length-window, get_or-window, window-push}
use Rattle.nc_queue.specs.QueueState.{QueueState, IsRing}
use Rattle.nc_queue.specs.Ring.{window}
use Rattle.nc_queue.specs.Entries.{Fits, AllFit}
use Rattle.nc_queue.specs.declared.entry.Entry.{Entry}

pub fits_at : (s : ℕ) (q : List Entry) (i : ℕ) (e : Entry) → AllFit s q → slice_get q i ≡ Some e → Fits s e
fits_at s [] i e fit is = absurd cc
fits_at s (a ∷ q) zero e fit is = let same : a ≡ e = cc in subst (Fits s) same fit.0
fits_at s (a ∷ q) (suc i) e fit is = fits_at s q i e fit.1 is

pub fits-push : (s : ℕ) (q : List Entry) (e : Entry) → AllFit s q → Fits s e → AllFit s (q ++ e ∷ [])
fits-push s [] e fit fe = (fe, tt)
fits-push s (a ∷ q) e fit fe = (fit.0, fits-push s q e fit.1 fe)

pub fits-remove : (s : ℕ) (q : List Entry) (i : ℕ) → AllFit s q → AllFit s (remove q i)
fits-remove s [] zero fit = tt
fits-remove s [] (suc i) fit = tt
fits-remove s (a ∷ q) zero fit = fit.1
fits-remove s (a ∷ q) (suc i) fit = (fit.0, fits-remove s q i fit.1)

-- the cells after a push, and after a drain
pub kept-push : (cells : List Entry) (start len size : ℕ) (e : Entry) → IsRing cells start len size → len < 8 → Fits size e → IsRing (slice_set cells ((start + len) % 8) e) start (len + 1) size
kept-push cells start len size e kept lt fits = record {
  start_in = kept.start_in;
  few = omega arith;
  room = length-set cells ((start + len) % 8) e ∙ kept.room;
  known = kept.known;
  fit = rw (window-push start len cells e kept.start_in lt kept.room) (fits-push size (window start len cells) e kept.fit fits);
}

pub kept-remove : (cells after : List Entry) (start from len size i : ℕ) → IsRing cells start len size → i < len → length after ≡ length cells → from < 8
    → window from (len - 1) after ≡ remove (window start len cells) i → IsRing after from (len - 1) size
kept-remove cells after start from len size i kept lt long inside is = record {
  start_in = inside;
  few = omega (arith, kept.few);
  room = long ∙ kept.room;
  known = kept.known;
  fit = rw is (fits-remove size (window start len cells) i kept.fit);
}

pub kept-length : (cells : List Entry) (start len size : ℕ) → IsRing cells start len size → length (window start len cells) ≡ len
kept-length cells start len size kept = length-window start len cells kept.start_in kept.few kept.room

-- entry i, from its cell
pub kept-get : (cells : List Entry) (start len size i p : ℕ) (d : Entry) → IsRing cells start len size → i < len → p ≡ (start + i) % 8 → slice_get (window start len cells) i ≡ Some (get_or cells p d)
kept-get cells start len size i p d kept lt at =
    get_some (window start len cells) i d (omega (arith, kept-length cells start len size kept))
    ∙ ap Some (get_or-window start len cells i d kept.start_in kept.few kept.room lt ∙ ap (λ n. get_or cells n d) (sym at))

pub kept-fits : (cells : List Entry) (start len size i p : ℕ) (d : Entry) → IsRing cells start len size → i < len → p ≡ (start + i) % 8 → Fits size (get_or cells p d)
kept-fits cells start len size i p d kept lt at = fits_at size (window start len cells) i (get_or cells p d) kept.fit (kept-get cells start len size i p d kept lt at)

pub kept-past : (cells : List Entry) (start len size i : ℕ) → IsRing cells start len size → len ≤ i → None ≡ slice_get (window start len cells) i
kept-past cells start len size i kept le = get_none (window start len cells) i (omega (arith, kept-length cells start len size kept))

-- the entries that are listed are those of the cells
pub kept-listed : (cells : List Entry) (start len size : ℕ) (q : List Entry) (now : QueueState) → q ≡ now.entries → record { size = size; entries = window start len cells } ≡ now → q ≡ window start len cells
kept-listed cells start len size q now same is = same ∙ sym (ap (λ (k : QueueState). k.entries) is)

pub kept-there : (cells : List Entry) (start len size i : ℕ) (q : List Entry) (now : QueueState) → IsRing cells start len size → q ≡ now.entries → record { size = size; entries = window start len cells } ≡ now → i < length q → i < len
kept-there cells start len size i q now kept same is lt = omega (arith, ap length (kept-listed cells start len size q now same is), kept-length cells start len size kept)

-- a queue of no entries
pub kept-none : (cells : List Entry) (size : ℕ) → length cells ≡ 8 → IsBlockSize size → IsRing cells 0 0 size
unfolding window
kept-none cells size eight known = record { start_in = omega arith; few = omega arith; room = eight; known = known; fit = tt }
