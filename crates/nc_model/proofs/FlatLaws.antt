-- Flat memory.
use Rattle.std.proofs.Common.{◌≡◌, ℕ, zero, suc, ◌+◌, ◌<◌, ◌≤◌, false, List, [], ◌∷◌, ◌++◌, length, set, add-zero, refl, sym, ap, ◌∙◌, arith}
use Rattle.std.proofs.lemmas.Bool.{or_parts, eqb-false}
use Rattle.std.proofs.lemmas.Grind.{common_steps}
use Rattle.std.proofs.lemmas.List.{places, length-set, get_or-set_other}
use Rattle.std.specs.List.{list_any}
use Rattle.nc_num.proofs.MemoryLaws.{byte-span, length-span, same_bytes}
use Rattle.nc_num.specs.Memory.{byte, splice, span}
use Rattle.nc_num.specs.declared.places.Place.{Place}
use Rattle.nc_model.specs.Flat.{named, written, flat, Shows}
use Rattle.nc_model.specs.Laws.{names, writes, Spliced}
use Rattle.nc_model.specs.declared.deeds.Deed.{Deed}
use Rattle.nc_model.specs.declared.deeds.Deed.TheVariants.{Read, Write}

pub in_order : (m : List ℕ) (ds es : List Deed) → flat m (ds ++ es) ≡ flat (flat m ds) es
in_order m [] es = refl
in_order m (Read bytes ∷ ds) es = in_order m ds es
in_order m (Write bytes ∷ ds) es = in_order (written m bytes) ds es

pub length-written : (m : List ℕ) (ps : List (Place × ℕ)) → length (written m ps) ≡ length m
length-written m [] = refl
length-written m (p ∷ ps) = length-written (set m p.0.0 p.1) ps ∙ length-set m p.0.0 p.1

pub byte-written_other : (m : List ℕ) (ps : List (Place × ℕ)) (x : ℕ) → names x ps ≡ false → byte (written m ps) x ≡ byte m x
byte-written_other m [] x e = refl
byte-written_other m (p ∷ ps) x e =
    let parts = or_parts _ _ e in
    byte-written_other (set m p.0.0 p.1) ps x parts.1 ∙ get_or-set_other m p.0.0 x p.1 0 (λ same. eqb-false p.0.0 x parts.0 (sym same))

pub others_stay : (m : List ℕ) (ds : List Deed) (x : ℕ) → list_any (writes x) ds ≡ false → byte (flat m ds) x ≡ byte m x
others_stay m [] x e = refl
others_stay m (Read bytes ∷ ds) x e = others_stay m ds x e
others_stay m (Write bytes ∷ ds) x e =
    let parts = or_parts _ _ e in
    others_stay (written m bytes) ds x parts.1 ∙ byte-written_other m bytes x parts.0

-- one byte, and then the rest, is one splice
splice_front : (m : List ℕ) (at b : ℕ) (bs : List ℕ) → at + length (b ∷ bs) ≤ length m → splice (set m at b) (at + 1) bs ≡ splice m at (b ∷ bs)
unfolding splice
splice_front m at b bs fits = grind (arith, common_steps, places)

splice-none : (m : List ℕ) (at : ℕ) → at ≤ length m → m ≡ splice m at []
unfolding splice
splice-none m at fits = grind (arith, common_steps, places)

pub written-named : (m : List ℕ) (at : ℕ) (bytes : List ℕ) → at + length bytes ≤ length m → written m (named at bytes) ≡ splice m at bytes
written-named m at [] fits = splice-none m at (omega arith)
written-named m at (b ∷ bs) fits = written-named (set m at b) (at + 1) bs (omega (arith, length-set m at b)) ∙ splice_front m at b bs fits

each_shown : (m : List ℕ) (at : ℕ) (bytes : List ℕ) → Shows m (named at bytes) → (k : ℕ) → k < length bytes → byte bytes k ≡ byte m (at + k)
each_shown m at [] h k lt = absurd (omega arith)
each_shown m at (b ∷ bs) h zero lt = rw add-zero (sym h.0)
each_shown m at (b ∷ bs) h (suc k) lt = each_shown m (at + 1) bs h.1 k (omega arith) ∙ ap (byte m) (omega arith)

shows_each : (m : List ℕ) (at : ℕ) (bytes : List ℕ) → ((k : ℕ) → k < length bytes → byte bytes k ≡ byte m (at + k)) → Shows m (named at bytes)
shows_each m at [] h = tt
shows_each m at (b ∷ bs) h =
    (ap (byte m) (omega arith) ∙ sym (h 0 (omega arith)), shows_each m (at + 1) bs (λ k lt. h (suc k) (omega arith) ∙ ap (byte m) (omega arith)))

pub shows_named : (m : List ℕ) (at : ℕ) (bytes : List ℕ) → at + length bytes ≤ length m → bytes ≡ span m at (length bytes) → Shows m (named at bytes)
shows_named m at bytes fits e = shows_each m at bytes (λ k lt. ap (λ bs. byte bs k) e ∙ byte-span m at (length bytes) k lt)

pub named_shows : (m : List ℕ) (at : ℕ) (bytes : List ℕ) → at + length bytes ≤ length m → Shows m (named at bytes) → bytes ≡ span m at (length bytes)
named_shows m at bytes fits h =
    same_bytes bytes (span m at (length bytes)) (sym (length-span m at (length bytes) fits))
    (λ k lt. each_shown m at bytes h k lt ∙ sym (byte-span m at (length bytes) k lt))

pub spliced : (m : List ℕ) (at : ℕ) (bytes : List ℕ) → at + length bytes ≤ length m → Spliced m at bytes
spliced m at bytes fits = record { write = written-named m at bytes fits; read = (named_shows m at bytes fits, shows_named m at bytes fits) }
