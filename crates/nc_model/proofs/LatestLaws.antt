-- Each read shows flat memory, up to the first touch.
use Rattle.std.proofs.Common.{◌≡◌, ◌↔◌, ℕ, zero, suc, List, [], ◌∷◌, ◌++◌, refl, ap, subst}
use Rattle.nc_model.specs.Flat.{written, flat, Shows, TraceItem, Did, Touched, Latest, ShowsFlat, Untouched, deeds}
use Rattle.nc_model.specs.declared.deeds.Deed.TheVariants.{Read, Write}

pub shows_flat : (m : List ℕ) (ms : List TraceItem) → Latest m ms → ShowsFlat m ms
shows_flat m [] h n bytes e = cc
shows_flat m (Touched ∷ ms) h n bytes e = cc
shows_flat m (Did (Read bs) ∷ ms) h zero bytes e = let same : bs ≡ bytes = cc in subst (Shows m) same h.0
shows_flat m (Did (Read bs) ∷ ms) h (suc n) bytes e = shows_flat m ms h.1 n bytes e
shows_flat m (Did (Write bs) ∷ ms) h zero bytes e = cc
shows_flat m (Did (Write bs) ∷ ms) h (suc n) bytes e = shows_flat (written m bs) ms h n bytes e

pub latest_from : (m : List ℕ) (ms : List TraceItem) → ShowsFlat m ms → Latest m ms
latest_from m [] h = tt
latest_from m (Touched ∷ ms) h = tt
latest_from m (Did (Read bs) ∷ ms) h = (h 0 bs refl, latest_from m ms (λ n bytes e. h (suc n) bytes e))
latest_from m (Did (Write bs) ∷ ms) h = latest_from (written m bs) ms (λ n bytes e. h (suc n) bytes e)

pub by_number : (m : List ℕ) (ms : List TraceItem) → Latest m ms ↔ ShowsFlat m ms
by_number m ms = (shows_flat m ms, latest_from m ms)

pub latest_before : (m : List ℕ) (ms ns : List TraceItem) → Latest m (ms ++ Touched ∷ ns) → Latest m ms
latest_before m [] ns h = tt
latest_before m (Touched ∷ ms) ns h = tt
latest_before m (Did (Read bs) ∷ ms) ns h = (h.0, latest_before m ms ns h.1)
latest_before m (Did (Write bs) ∷ ms) ns h = latest_before (written m bs) ms ns h

pub latest_touched : (m : List ℕ) (ms ns : List TraceItem) → Latest m ms → Latest m (ms ++ Touched ∷ ns)
latest_touched m [] ns h = tt
latest_touched m (Touched ∷ ms) ns h = tt
latest_touched m (Did (Read bs) ∷ ms) ns h = (h.0, latest_touched m ms ns h.1)
latest_touched m (Did (Write bs) ∷ ms) ns h = latest_touched (written m bs) ms ns h

pub ends_at_touch : (m : List ℕ) (ms ns : List TraceItem) → Latest m (ms ++ Touched ∷ ns) ↔ Latest m ms
ends_at_touch m ms ns = (latest_before m ms ns, latest_touched m ms ns)

-- what comes behind a trace matters only where that has no touch
pub Latest-append : (m : List ℕ) (ms ns : List TraceItem) → Latest m ms → (Untouched ms → Latest (flat m (deeds ms)) ns) → Latest m (ms ++ ns)
Latest-append m [] ns h k = k tt
Latest-append m (Touched ∷ ms) ns h k = tt
Latest-append m (Did (Read bs) ∷ ms) ns h k = (h.0, Latest-append m ms ns h.1 k)
Latest-append m (Did (Write bs) ∷ ms) ns h k = Latest-append (written m bs) ms ns h k

pub latest_first : (m : List ℕ) (ms ns : List TraceItem) → Latest m (ms ++ ns) → Latest m ms
latest_first m [] ns h = tt
latest_first m (Touched ∷ ms) ns h = tt
latest_first m (Did (Read bs) ∷ ms) ns h = (h.0, latest_first m ms ns h.1)
latest_first m (Did (Write bs) ∷ ms) ns h = latest_first (written m bs) ms ns h

pub latest_rest : (m : List ℕ) (ms ns : List TraceItem) → Untouched ms → Latest m (ms ++ ns) → Latest (flat m (deeds ms)) ns
latest_rest m [] ns u h = h
latest_rest m (Touched ∷ ms) ns u h = absurd u
latest_rest m (Did (Read bs) ∷ ms) ns u h = latest_rest m ms ns u h.1
latest_rest m (Did (Write bs) ∷ ms) ns u h = latest_rest (written m bs) ms ns u h

pub deeds-append : (ms ns : List TraceItem) → deeds (ms ++ ns) ≡ deeds ms ++ deeds ns
deeds-append [] ns = refl
deeds-append (Did d ∷ ms) ns = ap (λ ds. d ∷ ds) (deeds-append ms ns)
deeds-append (Touched ∷ ms) ns = deeds-append ms ns

pub Untouched-append : (ms ns : List TraceItem) → Untouched ms → Untouched ns → Untouched (ms ++ ns)
Untouched-append [] ns u v = v
Untouched-append (Did d ∷ ms) ns u v = Untouched-append ms ns u v
Untouched-append (Touched ∷ ms) ns u v = absurd u

pub in_two : (m : List ℕ) (ms ns : List TraceItem) → Untouched ms → Latest m (ms ++ ns) ↔ (Latest m ms × Latest (flat m (deeds ms)) ns)
in_two m ms ns u = (λ h. (latest_first m ms ns h, latest_rest m ms ns u h), λ h. Latest-append m ms ns h.0 (λ _. h.1))
