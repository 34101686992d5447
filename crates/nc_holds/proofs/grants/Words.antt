-- Entries that have a slot: two of one hart have two slots, and so have two of two harts.
use Rattle.std.proofs.Common.{◌≡◌, ℕ, zero, suc, ◌≤◌, Bool, true, false, List, [], ◌∷◌, flat_map, inl, inr, refl, sym, ap, subst, ◌∙◌, arith, Option, Some, None}
use Rattle.std.specs.Prelude.{slice_get, if◌then◌else◌}
use Rattle.std.specs.List.{cons_option}
use Rattle.nc_num.specs.declared.names.HartNo.{HartNo}
use Rattle.nc_plan.specs.Plans.{In}
use Rattle.nc_sg.specs.declared.list.Entry.{Entry}
use Rattle.nc_sg.specs.Lists.{held}
use Rattle.nc_slots.specs.SlotWords.{holder_of}
use Rattle.nc_rules.specs.declared.lots.Lot.{Lot}
use Rattle.nc_rules.specs.Lots.{slots_held}
use Rattle.nc_holds.specs.Held.{IsEntryOf, IsSameEntry, times_held, is_holder, WordsAgree}
use Rattle.nc_holds.proofs.lists.Members.{same_some}
use Rattle.nc_holds.proofs.words.Lists.{times, times-append, times-cons, self, same_hart}

-- ---- entries of a lot

one_more : (w : ℕ) (o : Option ℕ) (ks : List ℕ) → o ≡ Some w → times w (cons_option o ks) ≡ suc (times w ks)
one_more w None ks e = absurd (cc)
one_more w (Some k) ks e = let same = same_some k w e in times-cons w k ks ∙ (rw (same, self w) (omega arith))

no_less : (w : ℕ) (o : Option ℕ) (ks : List ℕ) → times w ks ≤ times w (cons_option o ks)
no_less w None ks = omega arith
no_less w (Some k) ks = omega (arith, times-cons w k ks)

pub some_times : (w : ℕ) (es : List Entry) (i : ℕ) (e : Entry) → slice_get es i ≡ Some e → e.slot ≡ Some w → 1 ≤ times w (held es)
some_times w [] i e k s = absurd (cc)
some_times w (d ∷ es) zero e k s = omega (arith, one_more w d.slot (held es) (ap (λ (c : Entry). c.slot) (same_some d e k) ∙ s))
some_times w (d ∷ es) (suc i) e k s = omega (arith, some_times w es i e k s, no_less w d.slot (held es))

entry_once : (w : ℕ) (es : List Entry) (i j : ℕ) (d e : Entry) → times w (held es) ≤ 1 → slice_get es i ≡ Some d → slice_get es j ≡ Some e → d.slot ≡ Some w → e.slot ≡ Some w → i ≡ j
entry_once w [] i j d e le kd ke sd se = absurd (cc)
entry_once w (y ∷ es) zero zero d e le kd ke sd se = refl
entry_once w (y ∷ es) zero (suc j) d e le kd ke sd se =
    absurd (omega (arith, le, one_more w y.slot (held es) (ap (λ (c : Entry). c.slot) (same_some y d kd) ∙ sd), some_times w es j e ke se))
entry_once w (y ∷ es) (suc i) zero d e le kd ke sd se =
    absurd (omega (arith, le, one_more w y.slot (held es) (ap (λ (c : Entry). c.slot) (same_some y e ke) ∙ se), some_times w es i d kd sd))
entry_once w (y ∷ es) (suc i) (suc j) d e le kd ke sd se = ap suc (entry_once w es i j d e (omega (arith, le, no_less w y.slot (held es))) kd ke sd se)

-- ---- lots

lot_times : (w : ℕ) (lots : List Lot) (lot : Lot) → In lot lots → times w (slots_held lot) ≤ times_held w lots
lot_times w [] lot k = elim k [ ]
lot_times w (l ∷ lots) lot (inl e) =
    let same : times w (slots_held l) ≡ times w (slots_held lot) = ap (λ (m : Lot). times w (slots_held m)) e in
    omega (arith, same, times-append w (slots_held l) (flat_map slots_held lots))
lot_times w (l ∷ lots) lot (inr k) = omega (arith, lot_times w lots lot k, times-append w (slots_held l) (flat_map slots_held lots))

lot_once : (w : ℕ) (lots : List Lot) (a b : Lot) → times_held w lots ≤ 1 → In a lots → In b lots → 1 ≤ times w (slots_held a) → 1 ≤ times w (slots_held b) → a ≡ b
lot_once w [] a b le ka kb na nb = elim ka [ ]
lot_once w (l ∷ lots) a b le (inl ea) (inl eb) na nb = sym ea ∙ eb
lot_once w (l ∷ lots) a b le (inl ea) (inr kb) na nb =
    let same : times w (slots_held l) ≡ times w (slots_held a) = ap (λ (m : Lot). times w (slots_held m)) ea in
    absurd (omega (arith, le, same, na, nb, lot_times w lots b kb, times-append w (slots_held l) (flat_map slots_held lots)))
lot_once w (l ∷ lots) a b le (inr ka) (inl eb) na nb =
    let same : times w (slots_held l) ≡ times w (slots_held b) = ap (λ (m : Lot). times w (slots_held m)) eb in
    absurd (omega (arith, le, same, na, nb, lot_times w lots a ka, times-append w (slots_held l) (flat_map slots_held lots)))
lot_once w (l ∷ lots) a b le (inr ka) (inr kb) na nb = lot_once w lots a b (omega (arith, le, times-append w (slots_held l) (flat_map slots_held lots))) ka kb na nb

-- ---- by the slot words

most_one : (b : Bool) (n : ℕ) → n ≡ (if b then 1 else 0) → n ≤ 1
most_one true n e = omega (arith, e)
most_one false n e = omega (arith, e)

is_one : (b : Bool) (n : ℕ) → n ≡ (if b then 1 else 0) → 1 ≤ n → b ≡ true
is_one true n e le = refl
is_one false n e le = absurd (omega (arith, e, le))

-- two entries of a hart that have one slot are one
pub slot_once : (me : HartNo) (slots : List (Option HartNo)) (lots : List Lot) (w : ℕ) (a b : Lot) (i j : ℕ) (d e : Entry) → WordsAgree me slots lots → IsEntryOf lots a i d → IsEntryOf lots b j e → d.slot ≡ Some w → e.slot ≡ Some w → IsSameEntry a i b j
slot_once me slots lots w a b i j d e words ha hb sd se =
    let le = most_one (is_holder me (holder_of slots w)) (times_held w lots) (words w) in
    let same = lot_once w lots a b le ha.lot_in hb.lot_in (some_times w a.list.entries i d ha.entry sd) (some_times w b.list.entries j e hb.entry se) in
    record {
      lot = ap (λ (l : Lot). l.id) same;
      entry = entry_once w a.list.entries i j d e (omega (arith, le, lot_times w lots a ha.lot_in)) ha.entry (subst (λ (l : Lot). slice_get l.list.entries j ≡ Some e) (sym same) hb.entry) sd se;
    }

pub slot_holder : (me : HartNo) (slots : List (Option HartNo)) (lots : List Lot) (w : ℕ) (a : Lot) (i : ℕ) (d : Entry) → WordsAgree me slots lots → IsEntryOf lots a i d → d.slot ≡ Some w → holder_of slots w ≡ Some me
slot_holder me slots lots w a i d words ha sd =
    same_hart me (holder_of slots w) (is_one (is_holder me (holder_of slots w)) (times_held w lots) (words w) (omega (arith, some_times w a.list.entries i d ha.entry sd, lot_times w lots a ha.lot_in)))

-- two harts that hold one slot are one
pub slot_harts : (g h : HartNo) (slots : List (Option HartNo)) (w : ℕ) → holder_of slots w ≡ Some g → holder_of slots w ≡ Some h → g.0 ≡ h.0
slot_harts g h slots w eg eh = ap (λ (k : HartNo). k.0) (same_some g h (sym eg ∙ eh))
