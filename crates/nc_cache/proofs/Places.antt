-- What a call of the domain keeps at one place, where it loses no byte: load, evict, clean, flush.
use Rattle.std.specs.Prelude.{Option, Some, None, slice_set, Bool, true, false, if◌then◌else◌}
use Rattle.std.specs.List.{list_any}
use Rattle.std.proofs.Common.{◌≡◌, ◌≢◌, ◌⊎◌, ℕ, ◌+◌, ◌*◌, ◌/◌, ◌%◌, ◌≤◌, List, length, refl, inl, inr, sym, ap, ◌∙◌, arith, subst}
use Rattle.std.proofs.lemmas.Bool.{cases_eq}
use Rattle.nc_num.specs.Memory.{byte, span}
use Rattle.nc_num.specs.Sizes.{IsBlockSize}
use Rattle.nc_cache.specs.declared.line.Held.{Held}
use Rattle.nc_cache.specs.declared.line.Held.TheVariants.{Shared, Dirty}
use Rattle.nc_cache.specs.declared.line.Line.{Line}
use Rattle.nc_cache.specs.Harts.{only}
use Rattle.nc_cache.specs.Cache.{Cache, line_at, holds, held_by, holders, back, put, load, load_of, clean, clean_of, cleaned, flush, flush_of, shared, without, evict, evict_of, line_byte, middle}
use Rattle.nc_cache.specs.Facts.{IsClean, LineClear, CleanAgrees, Agrees, IsLineOf, Whole, Fresh, Clear, Both, Keeps}
use Rattle.nc_cache.proofs.Lines.{line-with_same, line-with_other, byte-span_block, byte-back_other, byte-back_same, byte-back, back_clean, line_byte-other, Agrees-other}

pub keeps_same : (s : ℕ) (c : Cache) (x : ℕ) → Keeps s c c x
keeps_same s c x = record { fresh = λ f. (f, refl); clear = λ f. (f, refl); memory = inl refl }

-- a place where memory and the copies have one byte
agrees_bytes : (s : ℕ) (ram bs : List ℕ) (d : Held) (v x : ℕ) → byte ram x ≡ v → byte bs (x % s) ≡ v → CleanAgrees s ram x bs d
agrees_bytes s ram bs (Shared by) v x m e = e ∙ sym m
agrees_bytes s ram bs (Dirty g) v x m e = tt

agrees_line : (s : ℕ) (ram : List ℕ) (o : Option Line) (v x : ℕ) → byte ram x ≡ v → line_byte s ram x o ≡ v → Agrees s ram x o
agrees_line s ram None v x m e = tt
agrees_line s ram (Some l) v x m e = agrees_bytes s ram l.bytes l.held v x m e

pub fresh_both : (s : ℕ) (c : Cache) (v x : ℕ) → Both s c v x → Fresh s c x
unfolding middle
fresh_both s c v x b = record { agrees = agrees_line s c.ram (line_at c (x / s)) v x b.memory b.copy }

pub keeps_both : (s : ℕ) (c d : Cache) (v x : ℕ) → Keeps s c d x → Both s c v x → Both s d v x
keeps_both s c d v x k b = record {
  memory = elim k.memory [ inl same ↦ same ∙ b.memory | inr got ↦ got ∙ b.copy ];
  copy = (k.fresh (fresh_both s c v x b)).1 ∙ b.copy;
}

-- a place whose copies agree, and whose block nobody has dirty
clear_bytes : (s : ℕ) (ram bs : List ℕ) (d : Held) (x : ℕ) → CleanAgrees s ram x bs d → IsClean d → byte bs (x % s) ≡ byte ram x
clear_bytes s ram bs (Shared by) x a c = a
clear_bytes s ram bs (Dirty g) x a c = absurd c

clear_line : (s : ℕ) (ram : List ℕ) (o : Option Line) (x : ℕ) → Agrees s ram x o → LineClear o → line_byte s ram x o ≡ byte ram x
clear_line s ram None x a c = refl
clear_line s ram (Some l) x a c = clear_bytes s ram l.bytes l.held x a c

pub middle-clear : (s : ℕ) (c : Cache) (x : ℕ) → Fresh s c x → Clear s c x → middle s c x ≡ byte c.ram x
unfolding middle
middle-clear s c x f k = clear_line s c.ram (line_at c (x / s)) x f.agrees k.clear

-- memory that has the same byte at the place
pub keeps_ram : (s : ℕ) (c : Cache) (ram : List ℕ) (x : ℕ) → byte ram x ≡ byte c.ram x → Keeps s c (record { ram = ram; lines = c.lines }) x
unfolding middle
keeps_ram s c ram x e = record {
  fresh = λ f. (record { agrees = Agrees-other s c.ram ram x (line_at c (x / s)) e f.agrees }, line_byte-other s c.ram ram x (line_at c (x / s)) e);
  clear = λ f. (record { clear = f.clear }, e);
  memory = inl e;
}

-- one line is put, and memory changes in its block alone
pub keeps_put : (s : ℕ) (c : Cache) (ram : List ℕ) (b : ℕ) (o : Option Line) (x : ℕ)
    → (x / s ≢ b → byte ram x ≡ byte c.ram x)
    → (x / s ≡ b → Agrees s c.ram x (line_at c b) → Agrees s ram x o × (line_byte s ram x o ≡ line_byte s c.ram x (line_at c b)))
    → (x / s ≡ b → LineClear (line_at c b) → LineClear o × (byte ram x ≡ byte c.ram x))
    → (x / s ≡ b → (byte ram x ≡ byte c.ram x) ⊎ (byte ram x ≡ line_byte s c.ram x (line_at c b)))
    → Keeps s c (put c ram b o) x
unfolding middle
keeps_put s c ram b o x other same clear memory =
    elim (cases_eq (x / s) b) [
      | inl e ↦ record {
        fresh = λ f.
            let r = same e (subst (λ (n : ℕ). Agrees s c.ram x (line_at c n)) e f.agrees) in (
              record { agrees = rw (line-with_same c.lines b (x / s) o e) r.0 },
              rw (line-with_same c.lines b (x / s) o e) (r.1 ∙ ap (λ k. line_byte s c.ram x (line_at c k)) (sym e)),
            );
        clear = λ f. let r = clear e (subst (λ (n : ℕ). LineClear (line_at c n)) e f.clear) in (record { clear = rw (line-with_same c.lines b (x / s) o e) r.0 }, r.1);
        memory = elim (memory e) [ inl k ↦ inl k | inr got ↦ inr (got ∙ ap (λ k. line_byte s c.ram x (line_at c k)) (sym e)) ];
      }
      | inr ne ↦ record {
        fresh = λ f. (
          record { agrees = rw (line-with_other c.lines b (x / s) o ne) (Agrees-other s c.ram ram x (line_at c (x / s)) (other ne) f.agrees) },
          rw (line-with_other c.lines b (x / s) o ne) (line_byte-other s c.ram ram x (line_at c (x / s)) (other ne)),
        );
        clear = λ f. (record { clear = rw (line-with_other c.lines b (x / s) o ne) f.clear }, other ne);
        memory = inl (other ne);
      }
    ]

-- what stays of a line after its write-back: clean copies, or none
abbrev Remains : List ℕ → Option Line → Type 0
Remains bytes None = Unit {0}
Remains bytes (Some l) = (l.bytes ≡ bytes) × IsClean l.held

remains_agrees : (s : ℕ) (ram bs : List ℕ) (x : ℕ) (o : Option Line) → Remains bs o → byte ram x ≡ byte bs (x % s) → Agrees s ram x o × (line_byte s ram x o ≡ byte bs (x % s))
remains_agrees s ram bs x None r e = (tt, e)
remains_agrees s ram bs x (Some l) r e = (agrees_bytes s ram l.bytes l.held (byte bs (x % s)) x e (ap (λ ys. byte ys (x % s)) r.0), ap (λ ys. byte ys (x % s)) r.0)

remains_clear : (bs : List ℕ) (o : Option Line) → Remains bs o → LineClear o
remains_clear bs None r = tt
remains_clear bs (Some l) r = r.1

keeps_back : {s : ℕ} → IsBlockSize s → (c : Cache) (b x : ℕ) (l : Line) (o : Option Line) → line_at c b ≡ Some l → length l.bytes ≡ s → s * b + s ≤ length c.ram → Remains l.bytes o
    → Keeps s c (put c (back s c.ram b l.bytes l.held) b o) x
keeps_back {s = s} z c b x l o is len fits left =
    keeps_put s c (back s c.ram b l.bytes l.held) b o x
    (λ ne. byte-back_other z c.ram b l.bytes l.held x len fits ne)
    (λ e a.
    let a' : Agrees s c.ram x (Some l) = subst (λ (p : Option Line). Agrees s c.ram x p) is a in
    let r = remains_agrees s (back s c.ram b l.bytes l.held) l.bytes x o left (byte-back_same z c.ram b l.bytes l.held x len a' fits e) in
    (r.0, r.1 ∙ ap (line_byte s c.ram x) (sym is)))
    (λ e k. (remains_clear l.bytes o left, ap (λ m. byte m x) (back_clean s c.ram b l.bytes l.held (subst LineClear is k))))
    (λ e. elim (byte-back z c.ram b l.bytes l.held x len fits e) [ inl same ↦ inl same | inr got ↦ inr (got ∙ ap (line_byte s c.ram x) (sym is)) ])

-- load
keeps_got : {s : ℕ} → IsBlockSize s → (c : Cache) (b x : ℕ) (by : List Bool) → line_at c b ≡ None → Keeps s c (put c c.ram b (Some (record { bytes = span c.ram (s * b) s; held = Shared by }))) x
keeps_got {s = s} z c b x by is =
    keeps_put s c c.ram b (Some (record { bytes = span c.ram (s * b) s; held = Shared by })) x (λ ne. refl)
    (λ e a. (byte-span_block z c.ram b x e, byte-span_block z c.ram b x e ∙ ap (line_byte s c.ram x) (sym is)))
    (λ e k. (tt, refl)) (λ e. inl refl)

keeps_load_of : {s : ℕ} → IsBlockSize s → (harts : ℕ) (c : Cache) (h b x : ℕ) (o : Option Line) → line_at c b ≡ o → IsLineOf s harts o → s * b + s ≤ length c.ram → Keeps s c (load_of s c h b o) x
keeps_load_of z harts c h b x None is w fits = keeps_got z c b x (only h) is
keeps_load_of {s = s} z harts c h b x (Some l) is w fits =
    elim (holds l.held h) as (λ t. Keeps s c (if t then c else put c (back s c.ram b l.bytes l.held) b (Some (record { bytes = l.bytes; held = Shared (slice_set (holders l.held) h true) }))) x) [
      | true ↦ keeps_same s c x
      | false ↦ keeps_back z c b x l (Some (record { bytes = l.bytes; held = Shared (slice_set (holders l.held) h true) })) is w.bytes fits (refl, tt)
    ]

pub keeps_load : (s harts size : ℕ) (c : Cache) (h b x : ℕ) → Whole s harts size c → s * b + s ≤ size → Keeps s c (load s c h b) x
unfolding load
keeps_load s harts size c h b x w fits = keeps_load_of w.block_size harts c h b x (line_at c b) refl (w.lines b) (omega (arith, w.ram))

-- no byte changes that a hart sees, whether copies are stale or not: a copy of what others hold has their bytes, and
-- another memory's
middle-put : (s : ℕ) (c : Cache) (ram : List ℕ) (b : ℕ) (o : Option Line) (x : ℕ) → (x / s ≢ b → byte ram x ≡ byte c.ram x) → (x / s ≡ b → line_byte s ram x o ≡ line_byte s c.ram x (line_at c b))
    → middle s (put c ram b o) x ≡ middle s c x
unfolding middle
middle-put s c ram b o x other same = elim (cases_eq (x / s) b) [
  | inl e ↦ rw (line-with_same c.lines b (x / s) o e) (same e ∙ ap (λ k. line_byte s c.ram x (line_at c k)) (sym e))
  | inr ne ↦ rw (line-with_other c.lines b (x / s) o ne) (line_byte-other s c.ram ram x (line_at c (x / s)) (other ne))
]

middle-load_of : {s : ℕ} → IsBlockSize s → (harts : ℕ) (c : Cache) (h b x : ℕ) (o : Option Line) → line_at c b ≡ o → IsLineOf s harts o → s * b + s ≤ length c.ram → middle s (load_of s c h b o) x ≡ middle s c x
middle-load_of {s = s} z harts c h b x None is w fits =
    middle-put s c c.ram b (Some (record { bytes = span c.ram (s * b) s; held = Shared (only h) })) x (λ ne. refl) (λ e. byte-span_block z c.ram b x e ∙ ap (line_byte s c.ram x) (sym is))
middle-load_of {s = s} z harts c h b x (Some l) is w fits =
    elim (holds l.held h) as (λ t. middle s (if t then c else put c (back s c.ram b l.bytes l.held) b (Some (record { bytes = l.bytes; held = Shared (slice_set (holders l.held) h true) }))) x ≡ middle s c x) [
      | true ↦ refl
      | false ↦ middle-put s c (back s c.ram b l.bytes l.held) b (Some (record { bytes = l.bytes; held = Shared (slice_set (holders l.held) h true) })) x
          (λ ne. byte-back_other z c.ram b l.bytes l.held x w.bytes fits ne) (λ e. ap (line_byte s c.ram x) (sym is))
    ]

pub middle-load : (s harts size : ℕ) (c : Cache) (h b x : ℕ) → Whole s harts size c → s * b + s ≤ size → middle s (load s c h b) x ≡ middle s c x
unfolding load
middle-load s harts size c h b x w fits = middle-load_of w.block_size harts c h b x (line_at c b) refl (w.lines b) (omega (arith, w.ram))

-- nothing happens where h holds the block
load_held_of : (s : ℕ) (c : Cache) (h b : ℕ) (o : Option Line) → held_by o h ≡ true → load_of s c h b o ≡ c
load_held_of s c h b None is = absurd (let p : false ≡ true = is in cc)
load_held_of s c h b (Some l) is = rw is refl

pub load_held : (s : ℕ) (c : Cache) (h b : ℕ) → held_by (line_at c b) h ≡ true → load s c h b ≡ c
unfolding load
load_held s c h b is = load_held_of s c h b (line_at c b) is

-- evict
remains_shared : (bs : List ℕ) (by : List Bool) → Remains bs (shared bs by)
remains_shared bs by = elim (list_any (λ x. x) by) as (λ t. Remains bs (if t then Some (record { bytes = bs; held = Shared by }) else None)) [ true ↦ (refl, tt) | false ↦ tt ]

remains_without : (h : ℕ) (bs : List ℕ) (d : Held) → Remains bs (without h bs d)
remains_without h bs (Shared by) = remains_shared bs (slice_set by h false)
remains_without h bs (Dirty g) = tt

keeps_evict_of : {s : ℕ} → IsBlockSize s → (harts : ℕ) (c : Cache) (h b x : ℕ) (o : Option Line) → line_at c b ≡ o → IsLineOf s harts o → s * b + s ≤ length c.ram → Keeps s c (evict_of s c h b o) x
keeps_evict_of {s = s} z harts c h b x None is w fits = keeps_same s c x
keeps_evict_of {s = s} z harts c h b x (Some l) is w fits =
    elim (holds l.held h) as (λ t. Keeps s c (if t then put c (back s c.ram b l.bytes l.held) b (without h l.bytes l.held) else c) x) [
      | true ↦ keeps_back z c b x l (without h l.bytes l.held) is w.bytes fits (remains_without h l.bytes l.held)
      | false ↦ keeps_same s c x
    ]

pub keeps_evict : (s harts size : ℕ) (c : Cache) (h b x : ℕ) → Whole s harts size c → s * b + s ≤ size → Keeps s c (evict s c h b) x
unfolding evict
keeps_evict s harts size c h b x w fits = keeps_evict_of w.block_size harts c h b x (line_at c b) refl (w.lines b) (omega (arith, w.ram))

-- clean
keeps_cleaned : {s : ℕ} → IsBlockSize s → (c : Cache) (b x : ℕ) (bs : List ℕ) (d : Held) → line_at c b ≡ Some (record { bytes = bs; held = d }) → length bs ≡ s → s * b + s ≤ length c.ram → Keeps s c (cleaned s c b bs d) x
keeps_cleaned {s = s} z c b x bs (Shared by) is len fits = keeps_same s c x
keeps_cleaned z c b x bs (Dirty g) is len fits = keeps_back z c b x (record { bytes = bs; held = Dirty g }) (Some (record { bytes = bs; held = Shared (only g.0) })) is len fits (refl, tt)

keeps_clean_of : {s : ℕ} → IsBlockSize s → (harts : ℕ) (c : Cache) (b x : ℕ) (o : Option Line) → line_at c b ≡ o → IsLineOf s harts o → s * b + s ≤ length c.ram → Keeps s c (clean_of s c b o) x
keeps_clean_of {s = s} z harts c b x None is w fits = keeps_same s c x
keeps_clean_of z harts c b x (Some l) is w fits = keeps_cleaned z c b x l.bytes l.held is w.bytes fits

pub keeps_clean : (s harts size : ℕ) (c : Cache) (b x : ℕ) → Whole s harts size c → s * b + s ≤ size → Keeps s c (clean s c b) x
unfolding clean
keeps_clean s harts size c b x w fits = keeps_clean_of w.block_size harts c b x (line_at c b) refl (w.lines b) (omega (arith, w.ram))

-- and then nobody has the block dirty
clear_cleaned : (s : ℕ) (c : Cache) (b x : ℕ) (bs : List ℕ) (d : Held) → line_at c b ≡ Some (record { bytes = bs; held = d }) → x / s ≡ b → Clear s (cleaned s c b bs d) x
clear_cleaned s c b x bs (Shared by) is e = record { clear = rw (e, is) tt }
clear_cleaned s c b x bs (Dirty g) is e = record { clear = rw (line-with_same c.lines b (x / s) (Some (record { bytes = bs; held = Shared (only g.0) })) e) tt }

clear_clean_of : (s : ℕ) (c : Cache) (b x : ℕ) (o : Option Line) → line_at c b ≡ o → x / s ≡ b → Clear s (clean_of s c b o) x
clear_clean_of s c b x None is e = record { clear = rw (e, is) tt }
clear_clean_of s c b x (Some l) is e = clear_cleaned s c b x l.bytes l.held is e

pub clear_clean : (s : ℕ) (c : Cache) (b x : ℕ) → x / s ≡ b → Clear s (clean s c b) x
unfolding clean
clear_clean s c b x e = clear_clean_of s c b x (line_at c b) refl e

-- flush
keeps_flush_of : {s : ℕ} → IsBlockSize s → (harts : ℕ) (c : Cache) (b x : ℕ) (o : Option Line) → line_at c b ≡ o → IsLineOf s harts o → s * b + s ≤ length c.ram → Keeps s c (flush_of s c b o) x
keeps_flush_of {s = s} z harts c b x None is w fits = keeps_same s c x
keeps_flush_of z harts c b x (Some l) is w fits = keeps_back z c b x l None is w.bytes fits tt

pub keeps_flush : (s harts size : ℕ) (c : Cache) (b x : ℕ) → Whole s harts size c → s * b + s ≤ size → Keeps s c (flush s c b) x
unfolding flush
keeps_flush s harts size c b x w fits = keeps_flush_of w.block_size harts c b x (line_at c b) refl (w.lines b) (omega (arith, w.ram))

-- and then nobody holds the block
gone_flush_of : (s : ℕ) (c : Cache) (b : ℕ) (o : Option Line) → line_at c b ≡ o → line_at (flush_of s c b o) b ≡ None
gone_flush_of s c b None is = is
gone_flush_of s c b (Some l) is = line-with_same c.lines b b None refl

pub gone_flush : (s : ℕ) (c : Cache) (b : ℕ) → line_at (flush s c b) b ≡ None
unfolding flush
gone_flush s c b = gone_flush_of s c b (line_at c b) refl

pub clear_flush : (s : ℕ) (c : Cache) (b x : ℕ) → x / s ≡ b → Clear s (flush s c b) x
clear_flush s c b x e = record { clear = rw (e, gone_flush s c b) tt }
