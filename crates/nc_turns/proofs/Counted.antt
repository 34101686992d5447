-- Which thread an event is counted for.
use Rattle.std.proofs.Common.{◌≡◌, ◌⊎◌, inl, inr, ℕ, zero, suc, ◌+◌, ◌*◌, ◌≤◌, ◌<◌, ◌==◌, Bool, true, false, List, [], ◌∷◌, ◌++◌, length, refl, sym, ap, ◌∙◌, arith, length-append}
use Rattle.std.specs.Prelude.{if◌then◌else◌}
use Rattle.std.proofs.lemmas.Bool.{eq-eqb, eqb-true}
use Rattle.rand_pcg.specs.Lcg.{Lcg}
use Rattle.nc_num.specs.declared.names.ChanNo.{ChanNo}
use Rattle.nc_num.specs.declared.names.HartNo.{HartNo}
use Rattle.nc_num.specs.declared.places.Block.{Block}
use Rattle.nc_scen.specs.declared.events.Event.{Event}
use Rattle.nc_scen.specs.declared.events.Event.TheVariants.{Issue, Try, Told, Drain, Fill, Evict, ChanRead, ChanWrite}
use Rattle.nc_scen.specs.declared.scenario.Scenario.{Scenario}
use Rattle.nc_scen.specs.Events.{IsThere}
use Rattle.nc_rules.specs.World.{hart}
use Rattle.nc_turns.specs.declared.counts.Counts.{Counts}
use Rattle.nc_turns.specs.declared.draws.Draws.{Draws}
use Rattle.nc_turns.specs.declared.threads.Turner.{Turner}
use Rattle.nc_turns.specs.declared.threads.Turner.TheVariants.{Driver, Channels, Caches}
use Rattle.nc_turns.specs.Draws.{after_draws, draw_from}
use Rattle.nc_turns.specs.States.{count_at, total, AreCounts, IsCounted}
use Rattle.nc_turns.specs.Threads.{belongs, is_driver_event, is_channel_event, is_cache_event, made_by, most, ComesNext, IsThread, IsThreaded}
use Rattle.nc_turns.proofs.Runs.{made-push}

pub is_channels : (e : Event) → ((c : ChanNo) × (e ≡ ChanRead c)) ⊎ ((c : ChanNo) × (e ≡ ChanWrite c)) → is_channel_event e ≡ true
is_channels e (inl (c, is)) = ap is_channel_event is
is_channels e (inr (c, is)) = ap is_channel_event is

pub is_caches : (e : Event) → ((h : HartNo) × (b : Block) × (e ≡ Fill h b)) ⊎ ((h : HartNo) × (b : Block) × (e ≡ Evict h b)) → is_cache_event e ≡ true
is_caches e (inl (h, b, is)) = ap is_cache_event is
is_caches e (inr (h, b, is)) = ap is_cache_event is

pub is_driver : (e : Event) (h : HartNo) → (e ≡ Issue h) ⊎ (((got : Bool) × (e ≡ Told h got)) ⊎ ((i : ℕ) × (e ≡ Drain h i))) → is_driver_event h e ≡ true
is_driver e h (inl is) = ap (is_driver_event h) is ∙ eq-eqb h.0 h.0 refl
is_driver e h (inr (inl (got, is))) = ap (is_driver_event h) is ∙ eq-eqb h.0 h.0 refl
is_driver e h (inr (inr (i, is))) = ap (is_driver_event h) is ∙ eq-eqb h.0 h.0 refl

-- ---- what is counted is there

pub is_counted : (sc : Scenario) (t : Turner) → length sc.harts ≤ 4 → IsThread sc t → IsCounted t
is_counted sc (Driver h) few is = omega (arith, few, is)
is_counted sc Channels few is = tt
is_counted sc Caches few is = tt

-- ---- one event more

pub counts-push : (c d : Counts) (es : List Event) (e : Event) → ((t : Turner) → IsCounted t → count_at d t ≡ count_at c t + (if belongs t e then 1 else 0)) → AreCounts c es → AreCounts d (es ++ e ∷ [])
counts-push c d es e more are t is = more t is ∙ ap (λ n. n + (if belongs t e then 1 else 0)) (are t is) ∙ sym (made-push t es e)

draws_if : (g : Lcg) (d f : Draws) (n m : ℕ) (b : Bool) → d ≡ draw_from (after_draws g n) → f ≡ (if b then draw_from d.generator else d) → m ≡ n + (if b then 1 else 0) → f ≡ draw_from (after_draws g m)
draws_if g d f n m true at passed is = passed ∙ ap (λ (x : Draws). draw_from x.generator) at ∙ ap (λ k. draw_from (after_draws g k)) (let next : suc n ≡ m = omega (arith, is) in next)
draws_if g d f n m false at passed is = passed ∙ at ∙ ap (λ k. draw_from (after_draws g k)) (let same : n ≡ m = omega (arith, is) in same)

pub draws-push : (g : Lcg) (d f : Draws) (es : List Event) (e : Event) → d ≡ draw_from (after_draws g (made_by Caches es)) → f ≡ (if is_cache_event e then draw_from d.generator else d) → f ≡ draw_from (after_draws g (made_by Caches (es ++ e ∷ [])))
draws-push g d f es e at passed = draws_if g d f (made_by Caches es) (made_by Caches (es ++ e ∷ [])) (is_cache_event e) at passed (made-push Caches es e)

-- ---- no more events than those of the threads

one_hart : (n : ℕ) → n < 4 → 1 ≤ (if n == 0 then 1 else 0) + (if n == 1 then 1 else 0) + (if n == 2 then 1 else 0) + (if n == 3 then 1 else 0)
one_hart zero lt = omega arith
one_hart (suc zero) lt = omega arith
one_hart (suc (suc zero)) lt = omega arith
one_hart (suc (suc (suc zero))) lt = omega arith
one_hart (suc (suc (suc (suc n)))) lt = absurd (omega (arith, lt))

abbrev one : Turner → Event → ℕ
one t e = if belongs t e then 1 else 0

of_hart : (h : HartNo) (sc : Scenario) → length sc.harts ≤ 4 → h.0 < length sc.harts → 1 ≤ (if h.0 == 0 then 1 else 0) + (if h.0 == 1 then 1 else 0) + (if h.0 == 2 then 1 else 0) + (if h.0 == 3 then 1 else 0) + 0 + 0
of_hart h sc few lt = omega (arith, one_hart h.0 (omega (arith, few, lt)))

some_thread : (sc : Scenario) (es : List Event) (e : Event) → length sc.harts ≤ 4 → IsThere (length sc.harts) sc.block_size sc.ram e → ComesNext sc es e
    → 1 ≤ one (Driver (hart 0)) e + one (Driver (hart 1)) e + one (Driver (hart 2)) e + one (Driver (hart 3)) e + one Channels e + one Caches e
some_thread sc es (Issue h) few there comes = of_hart h sc few there
some_thread sc es (Try h) few there comes = absurd comes
some_thread sc es (Told h got) few there comes = of_hart h sc few there
some_thread sc es (Drain h i) few there comes = of_hart h sc few there
some_thread sc es (Fill h b) few there comes = omega arith
some_thread sc es (Evict h b) few there comes = omega arith
some_thread sc es (ChanRead c) few there comes = omega arith
some_thread sc es (ChanWrite c) few there comes = omega arith

pub counted-push : (sc : Scenario) (es : List Event) (e : Event) → length sc.harts ≤ 4 → IsThere (length sc.harts) sc.block_size sc.ram e → ComesNext sc es e → length es ≤ total es → length (es ++ e ∷ []) ≤ total (es ++ e ∷ [])
counted-push sc es e few there comes all =
    omega (
      arith,
      length-append es (e ∷ []),
      all,
      some_thread sc es e few there comes,
      made-push (Driver (hart 0)) es e,
      made-push (Driver (hart 1)) es e,
      made-push (Driver (hart 2)) es e,
      made-push (Driver (hart 3)) es e,
      made-push Channels es e,
      made-push Caches es e,
    )

pub within_limit : (sc : Scenario) (es : List Event) → length es ≤ total es → IsThreaded sc es → length es ≤ sc.limit
within_limit sc es all threaded =
    let most_is : 8 * most sc ≤ sc.limit = omega arith in
    omega (arith, all, most_is, threaded.few (Driver (hart 0)), threaded.few (Driver (hart 1)), threaded.few (Driver (hart 2)), threaded.few (Driver (hart 3)), threaded.few Channels, threaded.few Caches)
