-- A claim that finds its channel granted: the copy gives up, nothing of it was lent, and the lots that waited are gone.
use Rattle.std.specs.Prelude.{Some, All, not, Bool, true, false, option_map, slice_get}
use Rattle.std.proofs.Common.{[], ◌≡◌, ℕ, List, ◌∷◌, refl, sym, ap, ◌∙◌, inl, subst}
use Rattle.nc_num.specs.declared.names.HartNo.{HartNo}
use Rattle.nc_num.specs.declared.names.MapId.{MapId}
use Rattle.nc_model.specs.declared.owners.Owner.TheVariants.{Thread}
use Rattle.nc_queue.specs.declared.entry.Entry.{Entry as QueueEntry}
use Rattle.nc_ops.specs.declared.ops.Op.{Op}
use Rattle.nc_scen.specs.declared.scenario.Scenario.{Scenario}
use Rattle.nc_rules.specs.declared.answers.Refusal.{Refusal}
use Rattle.nc_rules.specs.declared.lots.Kind.TheVariants.{Copy}
use Rattle.nc_rules.specs.declared.lots.Lot.{Lot}
use Rattle.nc_rules.specs.declared.lots.Side.TheVariants as sides
use Rattle.nc_rules.specs.Copies.{source}
use Rattle.nc_sg.specs.declared.list.Entry.{Entry}
use Rattle.nc_num.specs.declared.names.Dir.TheVariants.{ToDev}
use Rattle.nc_rules.specs.declared.steps.Step.{Step}
use Rattle.nc_rules.specs.Driver.{give_up}
use Rattle.nc_rules.specs.Lots.{is_wanted}
use Rattle.nc_rules.specs.Machine.{MachineState, queue_of}
use Rattle.nc_rules.specs.Turns.{without_wanted}
use Rattle.nc_rules.specs.EventTouches.{owner_of}
use Rattle.nc_rules.specs.World.{WorldState, driver_of}
use Rattle.nc_scripts.proofs.Lists.{all_in}
use Rattle.nc_holds.proofs.lists.Members.{of_filter}
use Rattle.nc_holds.proofs.owners.Ends.{left_all}
use Rattle.nc_rows.specs.Ahead.{sending}
use Rattle.nc_rows.proofs.Steps.{steps_ahead}
use Rattle.nc_flatness.specs.Books.{loan_by, loan_of, book_of, mapping_in}
use Rattle.nc_flatness.specs.Flatness.{IsMapping, BytesStand}
use Rattle.nc_flatness.specs.Plans.{IsStill}
use Rattle.nc_flatness.specs.Tokens.{TokenStands}
use Rattle.nc_flatness.proofs.worlds.Outcomes.{gone}
use Rattle.nc_flatness.proofs.tokens.Stands.{none_stands}
use Rattle.nc_flatness.proofs.tokens.Tokens.{unlent_unsent}
use Rattle.nc_flat_scripts.proofs.accesses.ActRows.{stays_row}
use Rattle.nc_flat_starts.proofs.opening.Befores.{driven, known_here, seen_aside}
use Rattle.nc_flat_starts.proofs.turning.Frames.{IsPlace, rewrites_none, StaysAside, loan_aside}
use Rattle.nc_flat_starts.proofs.turning.Lots.{kept_loans}
use Rattle.nc_flat_starts.proofs.opening.Quiets.{idle_copy}
use Rattle.nc_flat_starts.proofs.turning.TurnBytes.{turn_bytes}
use Rattle.nc_flat_claims.proofs.Claimings.{IsClaiming, untokened, its_still, its_unlent, its_silent, its_restful}
use Rattle.nc_flat_claims.proofs.ClaimMachines.{IsClaimNext, claim_goes_by, claim_queued, claim_calm}

-- a lot without a place
no_lot : Lot
no_lot = record { id = source; kind = Copy; chan = record { 0 = 0 }; list = record { dir = ToDev; entries = [] }; side = sides.Wanted }

none_at : (i : ℕ) (e : Entry) (x : ℕ) → IsPlace no_lot i e x → ⊥
unfolding no_lot
none_at i e x place = let no : slice_get {X = Entry} [] i ≡ Some e = place.entry in absurd cc

unwanted : (t : Bool) → not t ≡ true → t ≡ false
unwanted true lent = absurd cc
unwanted false lent = refl

pub refused_bytes : (sc : Scenario) (f : List ℕ) (w : WorldState) (h : HartNo) (o : Op) (s : Step) (rest : List Step) (m : MachineState) (r : Refusal) → IsClaiming sc f w h o s rest → IsClaimNext w m → BytesStand sc f (gone w h m (give_up (driver_of w h.0) o r))
refused_bytes sc f w h o s rest m r k is =
    let d = driver_of w h.0 in
    let fx = d.fixed in
    let flat = k.here.now.flat in
    let went = give_up d o r in
    let v = gone w h m went in
    let lt = driven sc f w h flat k.here.lt in
    let loans : (n : MapId) → loan_of went.driver n ≡ loan_of d n = λ n. ap (option_map (loan_by fx n)) (kept_loans n d.lots) in
    let aside : (x : ℕ) (n : MapId) → mapping_in (owner_of w x) ≡ Some n → StaysAside w h went (owner_of w x) n = λ x n mapped own. (loans n, inl (its_restful sc f w h o s rest x n k mapped own)) in
    turn_bytes sc f f w h m went no_lot (λ n. Thread n.hart) flat lt (rewrites_none sc f w h no_lot) (claim_goes_by sc f w h m flat.bytes is) (record {
      on = λ i e x there place. absurd (none_at i e x place);
      off = λ x beside. refl;
      unslotted = λ i e x place. absurd (none_at i e x place);
      mine = λ i e x n place mapped. absurd (none_at i e x place);
      threads = λ i e x n place owner. absurd (none_at i e x place);
      along = λ n. false;
      others = λ x n there beside mapped own. (loans n, λ off. inl (its_restful sc f w h o s rest x n k mapped own));
      goes_along = λ x n there unslotted beside mapped own along. absurd cc;
      areas = λ x n l beside own known area over. loans n ∙ known_here w h n l own known;
      pooled = λ i e x place over. absurd (none_at i e x place);
      free = λ i e x place over. absurd (none_at i e x place);
      silent = λ b. sym (ap (λ (ss : List Step). sending b ss) k.rest_is ∙ steps_ahead.send_none b (s ∷ rest) (its_silent sc f w h o s rest b k));
      fixed = refl;
      drives = record {
        lots = left_all IsMapping (λ lot. not (is_wanted lot.side)) d.lots (flat.bytes.drives h.0 k.here.lt).lots;
        stands = all_in (IsStill fx) (without_wanted d.lots)
            (λ lot there. let p = of_filter (λ (l : Lot). not (is_wanted l.side)) lot d.lots there in its_still sc f w h o s rest lot k p.0 (unwanted (is_wanted lot.side) p.1));
        idle = refl;
      };
      lasting = tt;
      queue = claim_queued sc f w h o s rest m (book_of v) (owner_of v) k is;
      tokens = λ light.
          subst (λ (q : List QueueEntry). All (TokenStands [] q) (without_wanted d.lots)) (sym (is.stays.queues h.0))
          (all_in (TokenStands [] (queue_of w.machine h.0)) (without_wanted d.lots)
          (λ lot there.
          let p = of_filter (λ (l : Lot). not (is_wanted l.side)) lot d.lots there in
          none_stands [] (queue_of w.machine h.0) lot (λ e queued. untokened sc f w h o s rest lot.id e k queued) (unlent_unsent [] lot (its_unlent sc f w h o s rest lot k p.0))));
      passes = λ x u there unslotted beside off row. stays_row (book_of w) (owner_of w x) u w.machine m x is.shape is.stays row;
      lies = λ i e x n there place mapped. absurd (none_at i e x place);
      row = λ i e x there place row. absurd (none_at i e x place);
      calm = λ z over unseen.
          claim_calm sc f w m z flat.bytes is over
          (λ x unslotted same. unseen x unslotted (seen_aside (book_of w) (book_of v) (owner_of w x) x (λ n mapped. loan_aside w h m went (owner_of w x) n lt (aside x n mapped)) ∙ same));
      copying = idle_copy sc f w h m went 0 lt refl;
    })
