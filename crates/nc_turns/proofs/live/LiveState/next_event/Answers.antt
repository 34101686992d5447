use Rattle.std.proofs.Common.{◌%◌, ℕ, ap, sym, ◌∙◌}
use Rattle.nc_rules.specs.Schedule.{channel_event}
use Rattle.nc_turns.specs.declared.threads.Turner.{Turner}
use Rattle.nc_turns.specs.Threads.{made_by, next_of}
use Rattle.nc_turns.proofs.live.LiveState.next_event.Goals as goal

pub returns-in-Channels-clause-value : goal.returns-in-Channels-clause-value
returns-in-Channels-clause-value g c =
    let sc = g.N.SceneName.scene in
    let es = c.args.self.now in
    c.channel_event.ensures ∙ ap (λ (n : ℕ). channel_event (n % 8)) (c.made-in-Channels.ensures.value ∙ ap (λ (t : Turner). made_by t es) c.in-Channels.is) ∙ sym (ap (next_of sc es) c.in-Channels.is)
