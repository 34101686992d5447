use Rattle.std.proofs.Common.{◌≡◌, ◌≤◌, [], ◌∷◌, ◌++◌, length, take, sym, ap, ◌∙◌, subst, arith, length-append}
use Rattle.std.proofs.lemmas.List.{take-append-le}
use Rattle.nc_turns.specs.States.{IsRun, Past}
use Rattle.nc_turns.specs.Threads.{IsThreaded, AreThrough}
use Rattle.nc_turns.proofs.Runs.{run-push}
use Rattle.nc_turns.proofs.done.DoneState.append.Goals as goal

pub invariant_of-self-2 : goal.invariant_of-self-2
invariant_of-self-2 g c =
    let sc = g.N.SceneName.scene in
    let done = c.self.invariant in
    let old = c.self.inside.history.items in
    let turns = c.self.inside.turns in
    let w = c.clear_records.new.self in
    let e = c.args.e in
    let items : c.push_reserved.new.self.items ≡ old ++ e ∷ [] = c.push_reserved.ensures.items ∙ ap (λ xs. xs ++ e ∷ []) c.in_ok-reserve.ensures.items in
    let long = length-append old (e ∷ []) in
    let few : length (old ++ e ∷ []) ≤ sc.limit = omega (arith, long, ap (λ (p : Past). length p.events) c.self.view_is, c.requires.room) in
    let prefix : take turns old ≡ take turns c.push_reserved.new.self.items = sym (ap (take turns) items ∙ take-append-le turns old (e ∷ []) done.turns_few) in
    record {
      limit_is = done.limit_is;
      run = subst (IsRun sc w) (sym items) (run-push sc c.self.inside.world w old e c.worlds_stay.ensures c.requires.there few (c.clear_records.ensures.state ∙ c.in_ok-stepped.ensures.next) c.clear_records.ensures.none done.run);
      turns_few = omega (arith, done.turns_few, ap (λ xs. length xs) items, long);
      threaded = subst (IsThreaded sc) prefix done.threaded;
      through = subst (AreThrough sc) prefix done.through;
    }
