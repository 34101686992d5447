-- All that is held, as seen from one hart: its lots and what all share, each other hart's lots, and whose each grant is.
use Rattle.std.proofs.Common.{◌≡◌, ℕ, ◌<◌, true, List, [], ◌∷◌, ◌++◌, length, flat_map, refl, sym, ◌∙◌, inl, inr, Some}
use Rattle.std.specs.Prelude.{◌≢◌}
use Rattle.std.proofs.lemmas.Bool.{cases_eq}
use Rattle.std.proofs.lemmas.List.{length-set}
use Rattle.nc_plan.specs.Plans.{In}
use Rattle.nc_model.specs.declared.owners.Grant.{Grant}
use Rattle.nc_rules.specs.declared.lots.Lot.{Lot}
use Rattle.nc_rules.specs.declared.steps.Turn.TheVariants as turns
use Rattle.nc_rules.specs.Lots.{DriverConfig, slots_held}
use Rattle.nc_rules.specs.Turns.{is_area, backs_of, slots_wanted}
use Rattle.nc_scripts.specs.Drivers.{AreApart}
use Rattle.nc_holds.specs.Held.{Held, EntriesAreApart, WordsAgree, IsGrantOf, HartAgrees}
use Rattle.nc_holds.specs.Changes.{Change, Made, Got, Turned, Dropped, WaitsUnlent, changed, MayChange}
use Rattle.nc_holds.specs.Holds.{KnowsAlike}
use Rattle.nc_holds.proofs.owners.Facts.{Knows, Mine, Fits, Theirs, IsHeldBy, EachIsHeld, IsMaking}
use Rattle.nc_holds.proofs.words.Lists.{length-back}
use Rattle.nc_holds.proofs.words.Moves.{MakesUnplaced, words_own, words_other, turned_words}
use Rattle.nc_holds.proofs.calls.Shapes.{here}
use Rattle.nc_holds.proofs.events.Given.{OwnerLaws, area_made}

-- ---- all harts

-- another hart's lots agree too
pub record HasTheirs (ram : ℕ) (f other : DriverConfig) (lots : List Lot) (g : ℕ) (s : Held) : Type 0 where
  pub theirs : Theirs ram f other s lots
  pub me : other.me.0 ≡ g
  pub names : AreApart lots
  pub apart : EntriesAreApart lots
  pub words : WordsAgree other.me s.slots lots
  pub waits : WaitsUnlent lots

pub record IsTheirGrant (n : ℕ) (fixed : ℕ → DriverConfig) (lots : ℕ → List Lot) (x : Grant) : Type 0 where
  pub hart : x.id.hart.0 < n
  pub is : IsGrantOf (fixed x.id.hart.0) (lots x.id.hart.0) x

-- hart h, which knows f, and whose lots are those of s; what the n harts know, and the lots of the others
pub record Everyone (ram n h : ℕ) (f : DriverConfig) (fixed : ℕ → DriverConfig) (lots : ℕ → List Lot) (s : Held) : Type 0 where
  pub knows : Knows ram n f s
  pub me : f.me.0 ≡ h
  pub mine : Mine f s
  pub words : WordsAgree f.me s.slots s.lots
  pub long : length s.slots ≡ f.slots
  pub waits : WaitsUnlent s.lots
  pub theirs : (g : ℕ) → g < n → g ≢ h → HasTheirs ram f (fixed g) (lots g) g s
  pub grants : (x : Grant) → In x s.grants → x.id.hart.0 ≢ h → IsTheirGrant n fixed lots x

-- ---- each grant is held

alike_self : (f : DriverConfig) → KnowsAlike f f
alike_self f = record { buffers = refl; slots_at = refl; slots = refl; pool = refl; size = refl }

pub agrees_mine : (f : DriverConfig) (s : Held) → Mine f s → WordsAgree f.me s.slots s.lots → HartAgrees f s
agrees_mine f s m words = record { sides = m.sides; apart = m.apart; owners = m.owners; granted = m.granted; words = words; pages = m.pages }

pub agrees_theirs : (ram : ℕ) (f other : DriverConfig) (lots : List Lot) (g : ℕ) (s : Held) → HasTheirs ram f other lots g s → HartAgrees other (here s lots)
agrees_theirs ram f other lots g s h = record {
  sides = h.theirs.sides;
  apart = h.apart;
  owners = h.theirs.owners;
  granted = h.theirs.granted;
  words = h.words;
  pages = h.theirs.pages;
}

held_other : (ram n h : ℕ) (f : DriverConfig) (fixed : ℕ → DriverConfig) (lots : ℕ → List Lot) (s : Held) (x : Grant) → Everyone ram n h f fixed lots s → In x s.grants → x.id.hart.0 ≢ h → IsHeldBy ram f s x
held_other ram n h f fixed lots s x all here_x ne =
    let is = all.grants x here_x ne in
    let g = x.id.hart.0 in
    let t = all.theirs g is.hart ne in
    record {
      other = fixed g;
      lots = lots g;
      alike = t.theirs.alike;
      each = t.theirs.each;
      names = t.names;
      agrees = agrees_theirs ram f (fixed g) (lots g) g s t;
      waits = t.waits;
      mine = λ e. absurd (t.theirs.other e);
      is = is.is;
    }

pub each_held : (ram n h : ℕ) (f : DriverConfig) (fixed : ℕ → DriverConfig) (lots : ℕ → List Lot) (s : Held) → Everyone ram n h f fixed lots s → EachIsHeld ram f s
each_held ram n h f fixed lots s all x here_x = elim (cases_eq x.id.hart.0 h) [
  | inl same ↦ record {
    other = f;
    lots = s.lots;
    alike = alike_self f;
    each = all.knows.lots;
    names = all.knows.names;
    agrees = agrees_mine f s all.mine all.words;
    waits = all.waits;
    mine = λ e. refl;
    is = all.mine.held x here_x (same ∙ sym all.me);
  }
  | inr ne ↦ held_other ram n h f fixed lots s x all here_x ne
]

-- ---- a change

abbrev pub IsOneChange : ℕ → DriverConfig → Held → Change → Type 0
IsOneChange ram f s c = Fits ram f s c × MayChange f s c × MakesUnplaced c

length-changed : (f : DriverConfig) (s : Held) (c : Change) → length (changed f s c).slots ≡ length s.slots
length-changed f s (Made new) = refl
length-changed f s (Got k) = length-set s.slots k (Some f.me)
length-changed f s (Turned t) = length-back s.slots (backs_of s.lots t)
length-changed f s Dropped = length-back s.slots (slots_wanted s.lots)

other_me : (ram : ℕ) (f other : DriverConfig) (lots : List Lot) (g h : ℕ) (s : Held) → HasTheirs ram f other lots g s → f.me.0 ≡ h → g ≢ h → other.me.0 ≢ f.me.0
other_me ram f other lots g h s t me ne e = ne (sym t.me ∙ e ∙ me)

pub change_stays : (laws : OwnerLaws) (ram n h : ℕ) (f : DriverConfig) (fixed : ℕ → DriverConfig) (lots : ℕ → List Lot) (s : Held) (c : Change) → Everyone ram n h f fixed lots s → IsOneChange ram f s c → Everyone ram n h f fixed lots (changed f s c)
change_stays laws ram n h f fixed lots s c all is = record {
  knows = laws.knows_stay ram n f s c all.knows is.0;
  me = all.me;
  mine = laws.mine_stays ram n f s c all.knows all.mine is.0;
  words = words_own f s c all.long is.1 is.2 all.words;
  long = length-changed f s c ∙ all.long;
  waits = laws.waits_stay ram f s c is.0 all.waits;
  theirs = λ g lt ne. theirs_by g (all.theirs g lt ne) ne;
  grants = λ x here_x ne. all.grants x (laws.grants_of_others f s c x here_x (λ e. ne (e ∙ all.me))) ne;
}
  where
    theirs_by : (g : ℕ) → HasTheirs ram f (fixed g) (lots g) g s → g ≢ h → HasTheirs ram f (fixed g) (lots g) g (changed f s c)
    theirs_by g t ne = record {
      theirs = laws.theirs_stay ram n f (fixed g) s (lots g) c all.knows all.mine t.theirs is.0;
      me = t.me;
      names = t.names;
      apart = t.apart;
      waits = t.waits;
      words = words_other f s c (fixed g).me (lots g) (other_me ram f (fixed g) (lots g) g h s t all.me ne) all.long is.1 all.words t.words;
    }

-- an area
area_words : (f : DriverConfig) (s : Held) (lot : Lot) → flat_map slots_held (lot ∷ []) ≡ [] → length s.slots ≡ f.slots → WordsAgree f.me s.slots s.lots → MayChange f s (Made (lot ∷ [])) → WordsAgree f.me s.slots (s.lots ++ lot ∷ [])
area_words f s lot none long words may = words_own f s (Made (lot ∷ [])) long may none words

pub area_stays : (laws : OwnerLaws) (ram n h : ℕ) (f : DriverConfig) (fixed : ℕ → DriverConfig) (lots : ℕ → List Lot) (s : Held) (lot : Lot) → Everyone ram n h f fixed lots s → IsMaking ram f s (lot ∷ []) → is_area lot.kind ≡ true → flat_map slots_held (lot ∷ []) ≡ []
    → Everyone ram n h f fixed lots (area_made f s lot)
area_stays laws ram n h f fixed lots s lot all making area none = record {
  knows = laws.area_knows_stay ram n f s lot all.knows all.mine making area;
  me = all.me;
  mine = laws.area_mine_stays ram n f s lot all.knows all.mine making area;
  words = (turned_words f.me s.slots (s.lots ++ lot ∷ []) (turns.Lend lot.id) (area_words f s lot none all.long all.words making.may)).words;
  long = all.long;
  waits = laws.area_waits ram f s lot making area all.waits;
  theirs = λ g lt ne. theirs_by g (all.theirs g lt ne);
  grants = λ x here_x ne. all.grants x (laws.area_grants_of_others f s lot x here_x (λ e. ne (e ∙ all.me))) ne;
}
  where
    theirs_by : (g : ℕ) → HasTheirs ram f (fixed g) (lots g) g s → HasTheirs ram f (fixed g) (lots g) g (area_made f s lot)
    theirs_by g t = record {
      theirs = laws.area_theirs_stay ram n f (fixed g) s (lots g) lot all.knows all.mine t.theirs making area;
      me = t.me;
      names = t.names;
      apart = t.apart;
      waits = t.waits;
      words = t.words;
    }
