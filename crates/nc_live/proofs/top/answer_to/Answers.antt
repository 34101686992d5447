-- The whole of what is due is a prefix of it.
use Rattle.std.proofs.Common.{ℕ, List, [], sym, subst, inr}
use Rattle.std.specs.Prelude.{Option, Result}
use Rattle.std.specs.Io.KnownBytes.{Appends}
use Rattle.std.proofs.lemmas.List.{append-nil}
use Rattle.nc_io.specs.Streams.{GrowsByPrefix}
use Rattle.nc_values.specs.declared.refused.Refused.{Refused}
use Rattle.nc_scen.specs.declared.scenario.Scenario.{Scenario}
use Rattle.nc_turns.specs.Played.{live_text}
use Rattle.nc_live.specs.Due.{GrewFor}
use Rattle.nc_live.proofs.top.answer_to.Goals as goal

front_of : (before now : Option (List ℕ)) (text : List ℕ) → Appends before now text → GrowsByPrefix before now text
front_of before now text grown = record { prefix = text; grown = grown; begins = ([], sym (append-nil text)) }

pub returns-in-Ok-live_run-clause-prefix : goal.returns-in-Ok-live_run-clause-prefix
returns-in-Ok-live_run-clause-prefix g c =
    let wrote = c.in-Ok-live_run.ensures.text in
    inr (subst (λ (r : Result Scenario Refused). GrewFor (g.K.Sink.held c.args.out.now) (g.K.Sink.held c.live_run.new.out) r) (sym c.in-Ok.ensures.gives)
    (inr (wrote.history, wrote.run, front_of (g.K.Sink.held c.args.out.now) (g.K.Sink.held c.live_run.new.out) (live_text c.in-Ok.sc wrote.history) wrote.text)))
