-- What the calls need to know of the lines that they make.
use Rattle.std.specs.Prelude.{Option, Some, None, is_some, slice_set, slice_index_or, if◌then◌else◌}
use Rattle.std.specs.List.{list_any}
use Rattle.std.specs.Ordering.{nat_cmp}
use Rattle.std.specs.FinMap as map
use Rattle.std.proofs.Common.{◌≡◌, ℕ, zero, suc, ◌<◌, ◌≤◌, Bool, true, false, List, [], ◌∷◌, length, refl, inl, inr, sym, ap, ◌∙◌, arith}
use Rattle.std.proofs.lemmas.Bool.{cases_eq, cases_Bool}
use Rattle.std.proofs.lemmas.Bool.Decides.{nat_tests}
use Rattle.std.proofs.lemmas.List.{get_or-set_other}
use Rattle.nc_num.specs.Sizes.{IsBlockSize}
use Rattle.nc_num.specs.declared.names.HartNo.{HartNo}
use Rattle.nc_cache.specs.declared.line.Held.{Held}
use Rattle.nc_cache.specs.declared.line.Held.TheVariants.{Shared, Dirty}
use Rattle.nc_cache.specs.declared.line.Line.{Line}
use Rattle.nc_cache.specs.Harts.{only}
use Rattle.nc_cache.specs.Cache.{holds, held_by, holders, shared, without, with_line}
use Rattle.nc_cache.specs.Facts.{IsHeld, IsLine, IsLineOf}
use Rattle.nc_cache.specs.State.{DomainState, IsDomain, Stays}
use Rattle.nc_cache.proofs.Lines.{line-with_same, line-with_other}
use Rattle.nc_cache.proofs.Holders.{shared_only, shared_with, shared_holders, line_without, line_holder, held_in_four}

-- new lines
pub line_only : (s harts h : ℕ) (bs : List ℕ) → length bs ≡ s → harts ≤ 4 → h < harts → IsLine s harts (record { bytes = bs; held = Shared (only h) })
line_only s harts h bs len few lt = record { bytes = len; held = shared_only harts h few lt }

pub line_with : (s harts h : ℕ) (bs : List ℕ) (d : Held) → length bs ≡ s → harts ≤ 4 → h < harts → IsHeld harts d → IsLine s harts (record { bytes = bs; held = Shared (slice_set (holders d) h true) })
line_with s harts h bs d len few lt is = record { bytes = len; held = shared_with harts h (holders d) few lt (shared_holders harts d few is) }

pub line_dirty : (s harts : ℕ) (h : HartNo) (bs : List ℕ) → length bs ≡ s → h.0 < harts → IsLine s harts (record { bytes = bs; held = Dirty h })
line_dirty s harts h bs len lt = record { bytes = len; held = lt }

-- who holds less than before
holds_only : (g k : ℕ) → g < 4 → slice_index_or (only g) k false ≡ true → k ≡ g
holds_only g k lt is = elim (cases_eq k g) [ inl e ↦ e | inr ne ↦ absurd (let p : true ≡ false = sym is ∙ (get_or-set_other (false ∷ false ∷ false ∷ false ∷ []) g k true false ne ∙ nobody k) in cc) ]
  where
    nobody : (k : ℕ) → slice_index_or (false ∷ false ∷ false ∷ false ∷ []) k false ≡ false
    nobody zero = refl
    nobody (suc zero) = refl
    nobody (suc (suc zero)) = refl
    nobody (suc (suc (suc zero))) = refl
    nobody (suc (suc (suc (suc k)))) = refl

pub stays_none : (o : Option Line) → Stays o None
stays_none o = record { holder = λ g is. absurd (let p : false ≡ true = is in cc) }

pub stays_only : (o : Option Line) (bs : List ℕ) (g : HartNo) → g.0 < 4 → o ≡ Some (record { bytes = bs; held = Dirty g }) → Stays o (Some (record { bytes = bs; held = Shared (only g.0) }))
stays_only o bs g lt is = record { holder = λ k h. rw is (let e : k ≡ g.0 = holds_only g.0 k lt h in grind (arith, nat_tests)) }

shared_less : (bs : List ℕ) (by : List Bool) (h k : ℕ) → held_by (shared bs (slice_set by h false)) k ≡ true → slice_index_or by k false ≡ true
shared_less bs by h k is =
    elim (cases_Bool (list_any (λ x. x) (slice_set by h false))) [
      | inl t ↦ less (ap (λ b. held_by (if b then Some (record { bytes = bs; held = Shared (slice_set by h false) }) else None) k) (sym t) ∙ is)
      | inr f ↦ absurd (let p : false ≡ true = ap (λ b. held_by (if b then Some (record { bytes = bs; held = Shared (slice_set by h false) }) else None) k) (sym f) ∙ is in cc)
    ]
  where
    same_or_none : (by : List Bool) (h : ℕ) → slice_index_or (slice_set by h false) h false ≡ false
    same_or_none [] h = refl
    same_or_none (b ∷ by) zero = refl
    same_or_none (b ∷ by) (suc h) = same_or_none by h

    less : slice_index_or (slice_set by h false) k false ≡ true → slice_index_or by k false ≡ true
    less e = elim (cases_eq k h) [
      | inl here ↦ absurd (let p : false ≡ true = sym (ap (λ n. slice_index_or (slice_set by h false) n false) here ∙ same_or_none by h) ∙ e in cc)
      | inr ne ↦ sym (get_or-set_other by h k false false ne) ∙ e
    ]

held_less : (bs : List ℕ) (d : Held) (h k : ℕ) → held_by (without h bs d) k ≡ true → holds d k ≡ true
held_less bs (Shared by) h k is = shared_less bs by h k is
held_less bs (Dirty g) h k is = absurd (let p : false ≡ true = is in cc)

pub stays_without : (o : Option Line) (bs : List ℕ) (d : Held) (h : ℕ) → o ≡ Some (record { bytes = bs; held = d }) → Stays o (without h bs d)
stays_without o bs d h is = record { holder = λ k e. rw is (held_less bs d h k e) }

-- whoever holds the new line holds an old one
has_line : (o : Option Line) (g : ℕ) → held_by o g ≡ true → is_some o ≡ true
has_line None g is = absurd (let p : false ≡ true = is in cc)
has_line (Some l) g is = refl

pub stays_there : (s harts : ℕ) (o : Option Line) (l : Line) → Stays o (Some l) → IsLine s harts l → is_some o ≡ true
stays_there s harts o l stays is = let h = line_holder s harts l is in has_line o h.0 (stays.holder h.0 h.2)

-- the domain after a line was put
pub domain_with : (d e : DomainState) (b : ℕ) (o : Option Line) → IsDomain d → IsLineOf d.size d.harts o → e.size ≡ d.size → e.harts ≡ d.harts → e.lines ≡ with_line d.lines b o → IsDomain e
domain_with d e b o is line size harts lines = record {
  block_size = rw size is.block_size;
  some = rw harts is.some;
  few = rw harts is.few;
  lines = λ k. rw (size, harts, lines) (elim (cases_eq k b) [
    | inl same ↦ rw (line-with_same d.lines b k o same) line
    | inr ne ↦ rw (line-with_other d.lines b k o ne) (is.lines k)
  ]);
}

pub domain_start : (d : DomainState) → IsBlockSize d.size → 1 ≤ d.harts → d.harts ≤ 4 → d.lines ≡ map.empty → IsDomain d
domain_start d size some few none = record { block_size = size; some = some; few = few; lines = λ k. rw (none, map.get-empty nat_cmp k) tt }

pub ruleset call_rules = (line_only, line_with, line_dirty, line_without, stays_none, stays_only, stays_without)
