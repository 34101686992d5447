-- Behind a refusal the hart holds the slot words that it held as the operation began.
use Rattle.std.proofs.Common.{◌≡◌, ℕ, ◌<◌, Bool, true, false, List, [], ◌∷◌, ◌++◌, length, flat_map, refl, sym, ap, ◌∙◌, subst, arith}
use Rattle.std.specs.Prelude.{◌==◌, if◌then◌else◌, count_by}
use Rattle.std.proofs.lemmas.List.Elements.{All-head, All-tail}
use Rattle.nc_num.specs.declared.names.HartNo.{HartNo}
use Rattle.nc_slots.specs.SlotWords.{holder_of}
use Rattle.nc_scen.specs.Events.{IsThere}
use Rattle.nc_scen.specs.declared.events.Event.{Event}
use Rattle.nc_scen.specs.declared.scenario.Scenario.{Scenario}
use Rattle.nc_rules.specs.declared.steps.Phase.{Phase}
use Rattle.nc_rules.specs.declared.steps.Phase.TheVariants.{Steps}
use Rattle.nc_rules.specs.Lots.{slots_held}
use Rattle.nc_rules.specs.Turns.{without_wanted}
use Rattle.nc_rules.specs.Driver.{DriverState, over}
use Rattle.nc_rules.specs.Flat.{AreThere}
use Rattle.nc_rules.specs.Next.{next}
use Rattle.nc_rules.specs.Run.{after}
use Rattle.nc_rules.specs.World.{WorldState, driver_of, start}
use Rattle.nc_scripts.specs.Drivers.{IsPhase}
use Rattle.nc_scripts.proofs.Lists.{all_left, all_right}
use Rattle.nc_holds.specs.Held.{is_holder, times_held}
use Rattle.nc_flatness.specs.Flatness.{IsWorldOf}
use Rattle.nc_flatness.proofs.worlds.Worlds.{worlds_start, worlds_stay}
use Rattle.nc_refusals.specs.Refused.{Refuses}
use Rattle.nc_refusals.specs.Laws.{WordsAreGivenBack}
use Rattle.nc_refusals.proofs.RefusalLaws.{refusals_leave_all}
use Rattle.nc_refusals.proofs.Behind.{drivers_in, mine, behind, grows}
use Rattle.nc_refusals.proofs.EarlierLaws.{along, drivers_long, phase_of, grows_along, open_along, maker_there}
use Rattle.nc_refusals.proofs.KeptSlots.{kept, all_lent, IsKnown, kept_behind}

known_of : (sc : Scenario) (w : WorldState) (h : HartNo) → IsWorldOf sc w → h.0 < length sc.harts → IsKnown (length w.machine.cache.ram) (length w.machine.harts) w h
known_of sc w h is lt =
    let d = is.holds.each h.0 (omega (arith, lt, is.of_scenario.harts)) in
    record { driver = d.driver; pages = d.setting.pages; waits = d.waits }

kept_along : (sc : Scenario) (w : WorldState) (es : List Event) (f : Event) (h : HartNo) → IsWorldOf sc w → AreThere sc es → h.0 < length sc.harts → (driver_of (after w es) h.0).op ≡ (driver_of w h.0).op → Refuses (after w es) f h
    → kept (driver_of (after w es) h.0).lots ≡ kept (driver_of w h.0).lots
unfolding after
kept_along sc w [] f h is there lt same r = refl
kept_along sc w (e ∷ es) f h is there lt same r =
    let e_there = All-head (IsThere (length sc.harts) sc.block_size sc.ram) e es there in
    let es_there = All-tail (IsThere (length sc.harts) sc.block_size sc.ram) e es there in
    let now = worlds_stay sc w e is e_there in
    let b = behind sc w e h is e_there (drivers_long sc w h.0 is lt) in
    let one = grows w (next w e) h b in
    let more = grows_along sc (next w e) es h now es_there lt in
    let here : (driver_of (next w e) h.0).op ≡ (driver_of w h.0).op = omega (arith, one, more, same) in
    kept_along sc (next w e) es f h now es_there lt (same ∙ sym here) r
    ∙ kept_behind (length w.machine.cache.ram) (length w.machine.harts) w (next w e) h (known_of sc w h is lt) b here (open_along sc (next w e) es f h now es_there lt (same ∙ sym here) r)

-- the lots behind the refusal
lots_behind : (sc : Scenario) (w : WorldState) (f : Event) (h : HartNo) → IsWorldOf sc w → h.0 < length sc.harts → Refuses w f h → (driver_of (next w f) h.0).lots ≡ without_wanted (driver_of w h.0).lots
lots_behind sc w f h is lt r =
    let k = refusals_leave_all w f h r in
    ap (λ (ds : List DriverState). (drivers_in w ds h.0).lots) k.drivers ∙ ap (λ (d : DriverState). d.lots) (mine w h.0 (over (driver_of w h.0) (without_wanted (driver_of w h.0).lots)) (drivers_long sc w h.0 is lt))

-- how often a slot is held says who holds its word
held_is : (sc : Scenario) (w : WorldState) (h : HartNo) (k : ℕ) → IsWorldOf sc w → h.0 < length sc.harts → times_held k (driver_of w h.0).lots ≡ (if is_holder h (holder_of w.slots k) then 1 else 0)
held_is sc w h k is lt =
    let d = is.holds.each h.0 (omega (arith, lt, is.of_scenario.harts)) in
    let me : (driver_of w h.0).fixed.me ≡ h = (let n = d.me in λ i. record { 0 = n i }) in
    subst (λ (g : HartNo). times_held k (driver_of w h.0).lots ≡ (if is_holder g (holder_of w.slots k) then 1 else 0)) me (d.agrees.words k)

one_if : (a b : Bool) → ◌≡◌ {A = ℕ} (if a then 1 else 0) (if b then 1 else 0) → a ≡ b
one_if true true e = refl
one_if true false e = absurd (omega (arith, e))
one_if false true e = absurd (omega (arith, e))
one_if false false e = refl

settled_at : (w : WorldState) (h : HartNo) (p : Phase) → p ≡ Steps 0 → IsPhase (driver_of w h.0) p → without_wanted (driver_of w h.0).lots ≡ (driver_of w h.0).lots
settled_at w h p e is = all_lent (driver_of w h.0).lots (subst (λ (q : Phase). IsPhase (driver_of w h.0) q) e is).settled

given_back : (sc : Scenario) (w : WorldState) (between : List Event) (f : Event) (h : HartNo) (k : ℕ) → IsWorldOf sc w → AreThere sc (between ++ f ∷ []) → (driver_of w h.0).phase ≡ Steps 0 → (driver_of (after w between) h.0).op ≡ (driver_of w h.0).op → Refuses (after w between) f h
    → is_holder h (holder_of (next (after w between) f).slots k) ≡ is_holder h (holder_of w.slots k)
given_back sc w between f h k is there begins same r =
    let between_there = all_left (IsThere (length sc.harts) sc.block_size sc.ram) between (f ∷ []) there in
    let f_there = All-head (IsThere (length sc.harts) sc.block_size sc.ram) f [] (all_right (IsThere (length sc.harts) sc.block_size sc.ram) between (f ∷ []) there) in
    let lt = maker_there sc f h r.by f_there in
    let v = after w between in
    let v_is = along sc w between is between_there in
    let now = worlds_stay sc v f v_is f_there in
    let slots : flat_map slots_held (driver_of (next v f) h.0).lots ≡ flat_map slots_held (driver_of w h.0).lots =
    ap (flat_map slots_held) (lots_behind sc v f h v_is lt r) ∙ kept_along sc w between f h is between_there lt same r ∙ ap (flat_map slots_held) (settled_at w h (driver_of w h.0).phase begins (phase_of sc w h.0 is lt)) in
    one_if (is_holder h (holder_of (next v f).slots k)) (is_holder h (holder_of w.slots k))
    (sym (held_is sc (next v f) h k now lt) ∙ ap (count_by (λ j. j == k)) slots ∙ held_is sc w h k is lt)

pub words_are_given_back : WordsAreGivenBack
words_are_given_back sc before between f h k a is =
    let first = all_left (IsThere (length sc.harts) sc.block_size sc.ram) before (between ++ f ∷ []) is.there in
    let rest = all_right (IsThere (length sc.harts) sc.block_size sc.ram) before (between ++ f ∷ []) is.there in
    given_back sc (after (start sc) before) between f h k (along sc (start sc) before (worlds_start sc a) first) rest is.begins is.same is.refused
