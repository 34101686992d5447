-- The slot words agree with the lots behind each change, of the hart that changes and of each other.
use Rattle.std.proofs.Common.{◌≡◌, ℕ, ◌<◌, Bool, true, List, [], ◌++◌, length, flat_map, refl, sym, ap, ◌∙◌, subst, arith, inl, inr, Option, Some, None}
use Rattle.std.specs.Prelude.{filter, not, ◌≢◌, slice_set}
use Rattle.std.proofs.lemmas.Bool.{cases_eq}
use Rattle.std.proofs.lemmas.List.{get_or-set_same}
use Rattle.nc_num.specs.declared.names.HartNo.{HartNo}
use Rattle.nc_slots.specs.SlotWords.{holder_of}
use Rattle.nc_rules.specs.declared.lots.Lot.{Lot}
use Rattle.nc_rules.specs.declared.lots.Side.TheVariants as sides
use Rattle.nc_rules.specs.declared.steps.Turn.{Turn}
use Rattle.nc_rules.specs.declared.steps.Turn.TheVariants as turns
use Rattle.nc_rules.specs.Lots.{DriverConfig, is_lot, is_wanted, some_lot_waits, slot_given, slots_held}
use Rattle.nc_rules.specs.Turns.{lots_after, backs_of, set_side, slots_wanted, without_wanted}
use Rattle.nc_rules.specs.World.{slots_back}
use Rattle.nc_holds.specs.Held.{Held, times_held, is_holder, WordsAgree}
use Rattle.nc_holds.specs.Changes.{Change, Made, Got, Turned, Dropped, changed, MayChange}
use Rattle.nc_holds.specs.Holds.{AreBack}
use Rattle.nc_holds.proofs.words.Lists.{times, times_join, times_split, slots_sided, times_given, counted, own_hart, other_hart, self, differs, kept, Counts, backs_are, others_stay}

-- what is given back, and that the words agree behind it
pub record GivesBack (h : HartNo) (slots : List (Option HartNo)) (ks : List ℕ) (lots : List Lot) : Type 0 where
  pub backs : AreBack h slots ks
  pub words : WordsAgree h (slots_back slots ks) lots

gives_back : (h : HartNo) (slots : List (Option HartNo)) (ks : List ℕ) (lots : List Lot) → Counts h slots ks (λ w. times_held w lots) → GivesBack h slots ks lots
gives_back h slots ks lots all = let p = backs_are h slots ks (λ w. times_held w lots) all in record { backs = p.0; words = p.1 }

-- nothing is given back, and the lots have the same slots
same_slots : (h : HartNo) (slots : List (Option HartNo)) (lots nows : List Lot) → flat_map slots_held nows ≡ flat_map slots_held lots → WordsAgree h slots lots → GivesBack h slots [] nows
same_slots h slots lots nows e all = record { backs = tt; words = λ w. ap (times w) e ∙ all w }

-- ---- turns and giving up

parted : (h : HartNo) (slots : List (Option HartNo)) (p : Lot → Bool) (lots : List Lot) → WordsAgree h slots lots → GivesBack h slots (flat_map slots_held (filter p lots)) (filter (λ lot. not (p lot)) lots)
parted h slots p lots all = gives_back h slots (flat_map slots_held (filter p lots)) (filter (λ lot. not (p lot)) lots) (λ w. sym (times_split w p lots) ∙ all w)

pub turned_words : (h : HartNo) (slots : List (Option HartNo)) (lots : List Lot) (t : Turn) → WordsAgree h slots lots → GivesBack h slots (backs_of lots t) (lots_after t lots)
turned_words h slots lots turns.Stay all = same_slots h slots lots lots refl all
turned_words h slots lots (turns.Pass range to) all = same_slots h slots lots lots refl all
turned_words h slots lots (turns.Own range) all = same_slots h slots lots lots refl all
turned_words h slots lots (turns.Lend id) all = same_slots h slots lots (set_side sides.Lending id lots) (slots_sided sides.Lending id lots) all
turned_words h slots lots (turns.Give id) all = same_slots h slots lots (set_side sides.Device id lots) (slots_sided sides.Device id lots) all
turned_words h slots lots (turns.Return id) all = same_slots h slots lots (set_side sides.Returning id lots) (slots_sided sides.Returning id lots) all
turned_words h slots lots (turns.Sync id) all = same_slots h slots lots (set_side sides.Synced id lots) (slots_sided sides.Synced id lots) all
turned_words h slots lots (turns.Settle id) all = same_slots h slots lots (set_side sides.Own id lots) (slots_sided sides.Own id lots) all
turned_words h slots lots (turns.End id) all = parted h slots (is_lot id) lots all

pub dropped_words : (h : HartNo) (slots : List (Option HartNo)) (lots : List Lot) → WordsAgree h slots lots → GivesBack h slots (slots_wanted lots) (without_wanted lots)
dropped_words h slots lots all = parted h slots (λ lot. is_wanted lot.side) lots all

-- ---- a word that is got

none_there : (h : HartNo) (slots : List (Option HartNo)) (k n : ℕ) → holder_of slots k ≡ None → n ≡ counted h slots k → n ≡ 0
none_there h slots k n free e = rw free at e

got_at : (h : HartNo) (slots : List (Option HartNo)) (k w : ℕ) (lots : List Lot) → k < length slots → holder_of slots k ≡ None → some_lot_waits lots ≡ true → WordsAgree h slots lots
    → times_held w (slot_given k lots) ≡ counted h (slice_set slots k (Some h)) w
got_at h slots k w lots lt free waits all = elim (cases_eq w k) [
  | inl same ↦
      let none = none_there h slots k (times_held k lots) free (all k) in
      let one : times_held k (slot_given k lots) ≡ 1 = times_given k k lots waits ∙ rw (self k) (omega (arith, none)) in
      subst (λ v. times_held v (slot_given k lots) ≡ counted h (slice_set slots k (Some h)) v) (sym same) (one ∙ rw (get_or-set_same slots k (Some h) None lt, own_hart h) refl)
  | inr ne ↦
      let stays : times_held w (slot_given k lots) ≡ times_held w lots = times_given w k lots waits ∙ rw (differs k w ne) (omega arith) in
      stays ∙ all w ∙ rw (kept slots k w (Some h) ne) refl
]

got_other : (g h : HartNo) (slots : List (Option HartNo)) (k w : ℕ) → g.0 ≢ h.0 → k < length slots → holder_of slots k ≡ None → is_holder g (holder_of (slice_set slots k (Some h)) w) ≡ is_holder g (holder_of slots w)
got_other g h slots k w ne lt free = elim (cases_eq w k) [
  | inl same ↦ subst (λ v. is_holder g (holder_of (slice_set slots k (Some h)) v) ≡ is_holder g (holder_of slots v)) (sym same) (rw (get_or-set_same slots k (Some h) None lt, free) (other_hart g h ne))
  | inr off ↦ rw (kept slots k w (Some h) off) refl
]

-- ---- every change

-- lots that are made have no slot
abbrev pub MakesUnplaced : Change → Type 0
MakesUnplaced (Made new) = flat_map slots_held new ≡ []
MakesUnplaced (Got word) = Unit {0}
MakesUnplaced (Turned t) = Unit {0}
MakesUnplaced Dropped = Unit {0}

made_at : (w : ℕ) (lots new : List Lot) → flat_map slots_held new ≡ [] → times_held w (lots ++ new) ≡ times_held w lots
made_at w lots new none =
    let no : times_held w new ≡ 0 = ap (times w) none in
    omega (arith, times_join w lots new, no)

pub words_own : (f : DriverConfig) (s : Held) (c : Change) → length s.slots ≡ f.slots → MayChange f s c → MakesUnplaced c → WordsAgree f.me s.slots s.lots → WordsAgree f.me (changed f s c).slots (changed f s c).lots
words_own f s (Made new) long may none all = λ w. made_at w s.lots new none ∙ all w
words_own f s (Got k) long may none all = λ w. got_at f.me s.slots k w s.lots (omega (arith, long, may.1)) may.0.free may.0.waits all
words_own f s (Turned t) long may none all = (turned_words f.me s.slots s.lots t all).words
words_own f s Dropped long may none all = (dropped_words f.me s.slots s.lots all).words

pub words_other : (f : DriverConfig) (s : Held) (c : Change) (g : HartNo) (lots : List Lot) → g.0 ≢ f.me.0 → length s.slots ≡ f.slots → MayChange f s c → WordsAgree f.me s.slots s.lots → WordsAgree g s.slots lots → WordsAgree g (changed f s c).slots lots
words_other f s (Made new) g lots ne long may own all = all
words_other f s (Got k) g lots ne long may own all = λ w. all w ∙ rw (got_other g f.me s.slots k w ne (omega (arith, long, may.1)) may.0.free) refl
words_other f s (Turned t) g lots ne long may own all = λ w. all w ∙ rw (others_stay g f.me s.slots (backs_of s.lots t) w ne (turned_words f.me s.slots s.lots t own).backs) refl
words_other f s Dropped g lots ne long may own all = λ w. all w ∙ rw (others_stay g f.me s.slots (slots_wanted s.lots) w ne (dropped_words f.me s.slots s.lots own).backs) refl
