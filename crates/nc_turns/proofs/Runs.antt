-- A history that is one event longer: its world, and how many events each thread has.
use Rattle.std.proofs.Common.{◌≡◌, ℕ, zero, suc, ◌+◌, ◌≤◌, ◌<◌, Bool, true, false, List, [], ◌∷◌, ◌++◌, length, take, Some, refl, sym, ap, ◌∙◌, subst, arith}
use Rattle.std.specs.Prelude.{slice_get, if◌then◌else◌}
use Rattle.std.proofs.lemmas.List.Sums.{sum_by-append}
use Rattle.std.proofs.lemmas.List.Elements.{All-push}
use Rattle.nc_scen.specs.declared.events.Event.{Event}
use Rattle.nc_scen.specs.declared.scenario.Scenario.{Scenario}
use Rattle.nc_scen.specs.Events.{IsThere}
use Rattle.nc_rules.specs.Next.{next}
use Rattle.nc_rules.specs.Run.{after}
use Rattle.nc_rules.specs.World.{WorldState, start}
use Rattle.nc_flatness.specs.Flatness.{IsWorldOf}
use Rattle.nc_flatness.specs.Steps.{WorldsStay}
use Rattle.nc_world.specs.WorldView.{WorldView}
use Rattle.nc_turns.specs.declared.threads.Turner.{Turner}
use Rattle.nc_turns.specs.States.{IsRun}
use Rattle.nc_turns.specs.Threads.{belongs, made_by, most, world_of, ComesNext, IsThreaded}

-- ---- the world

after-push : (w : WorldState) (es : List Event) (e : Event) → after w (es ++ e ∷ []) ≡ next (after w es) e
unfolding after
after-push w [] e = refl
after-push w (x ∷ es) e = after-push (next w x) es e

pub world-push : (sc : Scenario) (es : List Event) (e : Event) → world_of sc (es ++ e ∷ []) ≡ next (world_of sc es) e
world-push sc es e = after-push (start sc) es e

pub shown_is : (w : WorldView) (a : WorldState) → w.state ≡ a → w.records ≡ [] → w ≡ record { state = a; records = [] }
shown_is w a at none = ap (λ (v : WorldState). record { state = v; records = w.records }) at ∙ ap (λ rs. record { state = a; records = rs }) none

-- one event more is one step more
pub run-push : (sc : Scenario) (w v : WorldView) (es : List Event) (e : Event) → WorldsStay → IsThere (length sc.harts) sc.block_size sc.ram e → length (es ++ e ∷ []) ≤ sc.limit
    → v.state ≡ next w.state e → v.records ≡ [] → IsRun sc w es → IsRun sc v (es ++ e ∷ [])
run-push sc w v es e law there few at none r =
    let here : v.state ≡ world_of sc (es ++ e ∷ []) = at ∙ ap (λ (u : WorldView). next u.state e) r.world ∙ sym (world-push sc es e) in
    record {
      accepted = r.accepted;
      world = shown_is v (world_of sc (es ++ e ∷ [])) here none;
      of_scenario = subst (IsWorldOf sc) (sym (world-push sc es e)) (law sc (world_of sc es) e r.of_scenario there);
      there = All-push (IsThere (length sc.harts) sc.block_size sc.ram) es e r.there there;
      few = few;
    }

-- ---- the threads

pub made-push : (t : Turner) (es : List Event) (e : Event) → made_by t (es ++ e ∷ []) ≡ made_by t es + (if belongs t e then 1 else 0)
made-push t es e = sum_by-append (λ x. if belongs t x then 1 else 0) es (e ∷ []) ∙ omega arith

-- of each event of a list that is one longer, with what stands before it: it is the last, or one of the others
push_cases : (P : List Event → Event → Type 0) (es : List Event) (e : Event) → ((n : ℕ) (x : Event) → slice_get es n ≡ Some x → P (take n es) x) → P es e
    → (n : ℕ) (x : Event) → slice_get (es ++ e ∷ []) n ≡ Some x → P (take n (es ++ e ∷ [])) x
push_cases P [] e all last zero x h = subst (P []) (cc) last
push_cases P [] e all last (suc n) x h = absurd (cc)
push_cases P (y ∷ es) e all last zero x h = all zero x h
push_cases P (y ∷ es) e all last (suc n) x h = push_cases (λ ys z. P (y ∷ ys) z) es e (λ m z g. all (suc m) z g) last n x h

few_if : (a m n : ℕ) (b : Bool) → a ≤ m → (b ≡ true → a < m) → n ≡ a + (if b then 1 else 0) → n ≤ m
few_if a m n true few room is = omega (arith, room refl, is)
few_if a m n false few room is = omega (arith, few, is)

pub threaded-push : (sc : Scenario) (es : List Event) (e : Event) → ComesNext sc es e → ((t : Turner) → belongs t e ≡ true → made_by t es < most sc) → IsThreaded sc es → IsThreaded sc (es ++ e ∷ [])
threaded-push sc es e comes room h = record {
  each = push_cases (λ ys z. ComesNext sc ys z) es e h.each comes;
  few = λ t. few_if (made_by t es) (most sc) (made_by t (es ++ e ∷ [])) (belongs t e) (h.few t) (room t) (made-push t es e);
}
