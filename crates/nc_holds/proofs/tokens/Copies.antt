-- What a copy opens with, as tokens and messages go; and every operation.
use Rattle.std.specs.Prelude.{All, Option, Some, None, find, ◌⊎◌, if◌then◌else◌}
use Rattle.std.specs.List.{list_any}
use Rattle.std.proofs.Common.{◌≡◌, ℕ, Bool, true, false, List, [], ◌∷◌, ◌++◌, map, length, refl, sym, ap, ◌∙◌, inl, inr, subst, append_assoc, cond}
use Rattle.std.proofs.lemmas.Bool.{false≢true}
use Rattle.std.proofs.lemmas.List.Elements.{All-nil, All-cons, All-append}
use Rattle.nc_num.specs.declared.names.ChanNo.{ChanNo}
use Rattle.nc_plan.specs.Plans.{full}
use Rattle.nc_plan.specs.declared.ops.HartOp.TheVariants as hart
use Rattle.nc_plan.specs.declared.ops.IoTarget.TheVariants as io
use Rattle.nc_memcpy.specs.Copy.{transfer, bus_of}
use Rattle.nc_ops.specs.Fits.{FitsOp}
use Rattle.nc_ops.specs.declared.ops.Op.{Op}
use Rattle.nc_ops.specs.declared.ops.Op.TheVariants as ops
use Rattle.nc_rules.specs.declared.lots.Kind.TheVariants as kinds
use Rattle.nc_rules.specs.declared.lots.Lot.{Lot}
use Rattle.nc_rules.specs.declared.lots.LotId.{LotId}
use Rattle.nc_rules.specs.declared.steps.Act.TheVariants as acts
use Rattle.nc_rules.specs.declared.steps.Step.{Step}
use Rattle.nc_rules.specs.declared.steps.Turn.{Turn}
use Rattle.nc_rules.specs.declared.steps.Turn.TheVariants as turns
use Rattle.nc_rules.specs.declared.lots.Side.TheVariants as sides
use Rattle.nc_rules.specs.Lots.{DriverConfig, lot_id, is_lot, is_synced, is_own, lot_named, parts}
use Rattle.nc_rules.specs.Turns.{lots_after, lots_after_both}
use Rattle.nc_rules.specs.Plans.{step, hart_step, op_steps, turning, ending, carried, token_steps, lending_end, lend_steps, return_steps}
use Rattle.nc_rules.specs.Mappings as mappings
use Rattle.nc_rules.specs.Mappings.{with_lot, unmap_turn, unmap_steps, to_cpu_turn, to_cpu_steps, to_dev_turn, to_dev_steps}
use Rattle.nc_rules.specs.ScatterLists as lists
use Rattle.nc_rules.specs.ScatterLists.{unmap_sg_turn, unmap_sg_steps}
use Rattle.nc_rules.specs.Areas as areas
use Rattle.nc_rules.specs.Areas.{calloc_steps, give_turn, give_steps, fenced, take_turn, take_steps, free_turn, free_steps}
use Rattle.nc_rules.specs.Copies as copies
use Rattle.nc_rules.specs.Copies.{source, target, copy_step, claim_step, back_steps, end_part, copy_steps_of}
use Rattle.nc_rules.specs.Handing as handing
use Rattle.nc_rules.specs.Operations.{meaning, has_start, opening, plan_of}
use Rattle.nc_scripts.specs.Drivers.{IsLotIn}
use Rattle.nc_scripts.proofs.LotLaws.{named_so}
use Rattle.nc_holds.specs.Tokens.{HasLent, TokensFollow}
use Rattle.nc_holds.specs.Rests.{TokenIsLight}
use Rattle.nc_holds.proofs.tokens.QuietSteps.{IsQuiet, op_quiet, ending_quiet, beginning_quiet, return_quiet, carried_steps_quiet}
use Rattle.nc_holds.proofs.tokens.Lots.{set_there, after_has, lend_has}
use Rattle.nc_holds.proofs.tokens.Rests.{NoEnd, stays_by, end_join, follow_quiet, IsStay, follow_join, follow_token}
use Rattle.nc_holds.proofs.tokens.Plans.{OpensSo, IsMailless, no_mails, quiet_mailless, quiet_light, all_light, token_mailless, token_ends, stay_ends, give_quiet, quiet_to, none_opens, lent_opens, lend_opens}
use Rattle.nc_holds.proofs.tokens.Opens as opens
use Rattle.nc_holds.proofs.tokens.Opens.{find_any, found_lot}

-- whatever the turn
abbrev Any : Turn → Type 0
Any t = Unit {0}

any_of : (P : Turn → Type 0) (xs : List Step) → All (IsQuiet P) xs → All (IsQuiet Any) xs
any_of P xs all = quiet_to P Any xs (λ t h. tt) all

-- ---- the parts of a copy's plan

abbrev transfer_steps : DriverConfig → ChanNo → ℕ → Lot → Lot → List Step
transfer_steps f chan cfg src dst = map (copy_step chan) (transfer chan (end_part f src) (end_part f dst) cfg)

op_any : (chan : ChanNo) (off width value : ℕ) → IsQuiet Any (hart_step (hart.IoStore (io.Reg chan off width value)))
op_any chan off width value = op_quiet Any (hart.IoStore (io.Reg chan off width value)) tt (record { mail = λ b. refl; token = refl })

abbrev reg_step : ChanNo → ℕ → ℕ → ℕ → Step
reg_step chan off width value = hart_step (hart.IoStore (io.Reg chan off width value))

reg : (chan : ChanNo) (off width value : ℕ) (rest : List Step) → All (IsQuiet Any) rest → All (IsQuiet Any) (reg_step chan off width value ∷ rest)
reg chan off width value rest all = All-cons (IsQuiet Any) (reg_step chan off width value) rest (op_any chan off width value) all

abbrev polling : ChanNo → List Step
polling chan = step (acts.Poll chan) ∷ reg_step chan 0 4 0 ∷ []

polling_quiet : (chan : ChanNo) → All (IsQuiet Any) (polling chan)
polling_quiet chan =
    All-cons (IsQuiet Any) (step (acts.Poll chan)) (reg_step chan 0 4 0 ∷ []) (record { act = record { mail = λ b. refl; token = refl }; first = tt; last = tt })
    (reg chan 0 4 0 [] (All-nil (IsQuiet Any)))

set_quiet : (chan : ChanNo) (from to len cfg : ℕ) → All (IsQuiet Any) (reg_step chan 4 4 cfg ∷ reg_step chan 8 8 len ∷ reg_step chan 16 8 to ∷ reg_step chan 24 8 from ∷ reg_step chan 0 4 3 ∷ polling chan)
set_quiet chan from to len cfg =
    reg chan 4 4 cfg (reg_step chan 8 8 len ∷ reg_step chan 16 8 to ∷ reg_step chan 24 8 from ∷ reg_step chan 0 4 3 ∷ polling chan)
    (reg chan 8 8 len (reg_step chan 16 8 to ∷ reg_step chan 24 8 from ∷ reg_step chan 0 4 3 ∷ polling chan)
    (reg chan 16 8 to (reg_step chan 24 8 from ∷ reg_step chan 0 4 3 ∷ polling chan)
    (reg chan 24 8 from (reg_step chan 0 4 3 ∷ polling chan)
    (reg chan 0 4 3 (polling chan) (polling_quiet chan)))))

transfer_quiet : (f : DriverConfig) (chan : ChanNo) (cfg : ℕ) (src dst : Lot) → All (IsQuiet Any) (transfer_steps f chan cfg src dst)
transfer_quiet f chan cfg src dst = set_quiet chan (bus_of (end_part f src).device) (bus_of (end_part f dst).device) (end_part f src).device.len cfg

-- the poll waits
transfer_ends : (f : DriverConfig) (chan : ChanNo) (cfg : ℕ) (src dst : Lot) (i : LotId) (ys : List Step) → NoEnd i (transfer_steps f chan cfg src dst ++ ys)
transfer_ends f chan cfg src dst i ys =
    passes (passes (passes (passes (passes (inl refl)))))
  where
    passes : {A : Type 0} {X : Type 0} → X → A ⊎ ((turns.Stay ≡ turns.End i → ⊥) × (turns.Stay ≡ turns.End i → ⊥) × X)
    passes h = inr ((λ e. absurd cc), (λ e. absurd cc), h)

back_any : (f : DriverConfig) (lot : Lot) → All (IsQuiet Any) (back_steps f lot)
back_any f lot = beginning_quiet Any (turns.Return lot.id) (ending (turns.End lot.id) (return_steps f lot)) tt (ending_quiet Any (turns.End lot.id) (return_steps f lot) tt (return_quiet Any f lot tt))

abbrev behind : DriverConfig → ChanNo → ℕ → Lot → Lot → List Step
behind f chan cfg src dst = transfer_steps f chan cfg src dst ++ (back_steps f dst ++ back_steps f src)

behind_any : (f : DriverConfig) (chan : ChanNo) (cfg : ℕ) (src dst : Lot) → All (IsQuiet Any) (behind f chan cfg src dst)
behind_any f chan cfg src dst =
    All-append (IsQuiet Any) (transfer_steps f chan cfg src dst) (back_steps f dst ++ back_steps f src) (transfer_quiet f chan cfg src dst)
    (All-append (IsQuiet Any) (back_steps f dst) (back_steps f src) (back_any f dst) (back_any f src))

-- ---- lending an end

abbrev lends_by : DriverConfig → Lot → Bool → List Step
lends_by f lot light = op_steps (carried f.effects f.size (parts f lot)) ++ (if light then token_steps lot else turning (turns.Give lot.id) (hart_step full) ∷ [])

lend_any : (f : DriverConfig) (lot : Lot) (light : Bool) → light ≡ false → All (IsQuiet Any) (lends_by f lot light)
lend_any f lot true e = absurd (false≢true (sym e))
lend_any f lot false e =
    All-append (IsQuiet Any) (op_steps (carried f.effects f.size (parts f lot))) (turning (turns.Give lot.id) (hart_step full) ∷ []) (carried_steps_quiet Any f lot tt)
    (All-cons (IsQuiet Any) (turning (turns.Give lot.id) (hart_step full)) [] (give_quiet Any lot.id tt tt) (All-nil (IsQuiet Any)))

lend_mailless : (f : DriverConfig) (lot : Lot) (light : Bool) → All IsMailless (lends_by f lot light)
lend_mailless f lot true =
    All-append IsMailless (op_steps (carried f.effects f.size (parts f lot))) (token_steps lot) (quiet_mailless Any (op_steps (carried f.effects f.size (parts f lot))) (carried_steps_quiet Any f lot tt)) (token_mailless lot)
lend_mailless f lot false = quiet_mailless Any (lends_by f lot false) (lend_any f lot false refl)

lend_ends : (f : DriverConfig) (lot : Lot) (i : LotId) (ys : List Step) (light : Bool) → light ≡ true → NoEnd i ys → NoEnd i (lends_by f lot light ++ ys)
lend_ends f lot i ys true e h =
    subst (λ (xs : List Step). NoEnd i xs) (sym (append_assoc (op_steps (carried f.effects f.size (parts f lot))) (token_steps lot) ys))
    (end_join i (op_steps (carried f.effects f.size (parts f lot))) (token_steps lot ++ ys) (stay_ends i (op_steps (carried f.effects f.size (parts f lot))) (carried_steps_quiet IsStay f lot refl)) (token_ends i lot ys h))
lend_ends f lot i ys false e h = absurd (false≢true e)

lend_follow : (f : DriverConfig) (lots : List Lot) (lot : Lot) (ys : List Step) (light : Bool) → light ≡ true → HasLent lots lot.id → NoEnd lot.id ys → TokensFollow lots ys → TokensFollow lots (lends_by f lot light ++ ys)
lend_follow f lots lot ys true e has h more =
    subst (λ (xs : List Step). TokensFollow lots xs) (sym (append_assoc (op_steps (carried f.effects f.size (parts f lot))) (token_steps lot) ys))
    (follow_join lots (op_steps (carried f.effects f.size (parts f lot))) (token_steps lot ++ ys) (carried_steps_quiet IsStay f lot refl) (follow_token lots lot ys has h more))
lend_follow f lots lot ys false e has h more = absurd (false≢true e)

-- ---- the plan behind the claim

abbrev claimed : DriverConfig → ChanNo → ℕ → Lot → Lot → List Step
claimed f chan cfg src dst = lend_steps f src ++ (lend_steps f dst ++ behind f chan cfg src dst)

claimed_any : (f : DriverConfig) (chan : ChanNo) (cfg : ℕ) (src dst : Lot) → f.light ≡ false → All (IsQuiet Any) (claimed f chan cfg src dst)
claimed_any f chan cfg src dst e =
    All-append (IsQuiet Any) (lend_steps f src) (lend_steps f dst ++ behind f chan cfg src dst) (lend_any f src f.light e)
    (All-append (IsQuiet Any) (lend_steps f dst) (behind f chan cfg src dst) (lend_any f dst f.light e) (behind_any f chan cfg src dst))

claimed_mailless : (f : DriverConfig) (chan : ChanNo) (cfg : ℕ) (src dst : Lot) → All IsMailless (claimed f chan cfg src dst)
claimed_mailless f chan cfg src dst =
    All-append IsMailless (lend_steps f src) (lend_steps f dst ++ behind f chan cfg src dst) (lend_mailless f src f.light)
    (All-append IsMailless (lend_steps f dst) (behind f chan cfg src dst) (lend_mailless f dst f.light) (quiet_mailless Any (behind f chan cfg src dst) (behind_any f chan cfg src dst)))

claimed_follow : (f : DriverConfig) (lots : List Lot) (chan : ChanNo) (cfg : ℕ) (src dst : Lot) (light : Bool) → f.light ≡ light → HasLent lots src.id → HasLent lots dst.id → TokensFollow lots (claimed f chan cfg src dst)
claimed_follow f lots chan cfg src dst false e s d = follow_quiet Any lots (claimed f chan cfg src dst) (claimed_any f chan cfg src dst e)
claimed_follow f lots chan cfg src dst true e s d =
    lend_follow f lots src (lend_steps f dst ++ behind f chan cfg src dst) f.light e s
    (lend_ends f dst src.id (behind f chan cfg src dst) f.light e (transfer_ends f chan cfg src dst src.id (back_steps f dst ++ back_steps f src)))
    (lend_follow f lots dst (behind f chan cfg src dst) f.light e d (transfer_ends f chan cfg src dst dst.id (back_steps f dst ++ back_steps f src))
    (follow_quiet Any lots (behind f chan cfg src dst) (behind_any f chan cfg src dst)))

light_of : (f : DriverConfig) (xs : List Step) (light : Bool) → f.light ≡ light → (f.light ≡ false → All (IsQuiet Any) xs) → All (TokenIsLight f.light) xs
light_of f xs true e h = all_light f.light xs e
light_of f xs false e h = quiet_light Any f.light xs (h e)

no_token : (i : LotId) → ◌≡◌ {A = Option LotId} None (Some i) → ⊥
no_token i e = absurd cc

both_lent : (lots : List Lot) (src dst : LotId) → list_any (is_lot src) lots ≡ true → list_any (is_lot dst) lots ≡ true
    → HasLent (lots_after_both (turns.Lend src) (turns.Lend dst) lots) src × HasLent (lots_after_both (turns.Lend src) (turns.Lend dst) lots) dst
both_lent lots src dst s d = (
  after_has (turns.Lend dst) (lots_after (turns.Lend src) lots) src (λ e. absurd cc) (lend_has lots src s),
  lend_has (lots_after (turns.Lend src) lots) dst (set_there sides.Lending src lots dst ∙ d),
)

copy_opens : (f : DriverConfig) (lots : List Lot) (o : Op) (chan : ChanNo) (cfg : ℕ) (src dst : Lot) → src.id ≡ source → dst.id ≡ target → list_any (is_lot source) lots ≡ true → list_any (is_lot target) lots ≡ true
    → OpensSo f lots o turns.Stay (claim_step chan ∷ claimed f chan cfg src dst)
copy_opens f lots o chan cfg src dst s d has_s has_d =
    let lent = both_lent lots source target has_s has_d in
    let mailless = All-cons IsMailless (claim_step chan) (claimed f chan cfg src dst) (λ b. refl) (claimed_mailless f chan cfg src dst) in
    let light = light_of f (claimed f chan cfg src dst) f.light refl (claimed_any f chan cfg src dst) in
    let L : HasLent (lots_after_both (turns.Lend source) (turns.Lend target) lots) src.id = subst (λ (i : LotId). HasLent (lots_after_both (turns.Lend source) (turns.Lend target) lots) i) (sym s) lent.0 in
    let M : HasLent (lots_after_both (turns.Lend source) (turns.Lend target) lots) dst.id = subst (λ (i : LotId). HasLent (lots_after_both (turns.Lend source) (turns.Lend target) lots) i) (sym d) lent.1 in
    record {
      of_lots = λ _. tt;
      light = All-cons (TokenIsLight f.light) (claim_step chan) (claimed f chan cfg src dst) (λ i e. absurd (no_token i e)) light;
      claims = λ _. no_mails (claim_step chan ∷ claimed f chan cfg src dst) mailless;
      mails = λ _. no_mails (claim_step chan ∷ claimed f chan cfg src dst) mailless;
      follows = ((λ i e. absurd (no_token i e)), claimed_follow f (lots_after_both (turns.Lend source) (turns.Lend target) lots) chan cfg src dst f.light refl L M);
      stays = λ i free has. stays_by i lots (claim_step chan ∷ claimed f chan cfg src dst) has (inl refl);
    }

joined : (a b c d e : List Step) → (((a ++ b) ++ c) ++ d) ++ e ≡ a ++ (b ++ (c ++ (d ++ e)))
joined a b c d e = append_assoc ((a ++ b) ++ c) d e ∙ append_assoc (a ++ b) c (d ++ e) ∙ append_assoc a b (c ++ (d ++ e))

its_plan : (f : DriverConfig) (chan : ChanNo) (cfg : ℕ) (src dst : Lot) → claim_step chan ∷ claimed f chan cfg src dst ≡ copies.copy_steps f chan cfg src dst
its_plan f chan cfg src dst =
    ap (λ (xs : List Step). claim_step chan ∷ xs) (sym (joined (lend_steps f src) (lend_steps f dst) (transfer_steps f chan cfg src dst) (back_steps f dst) (back_steps f src)))

found_by : (i : LotId) (x lot : Lot) (o : Option Lot) (t : Bool) → is_lot i x ≡ t → cond t (Some x) o ≡ Some lot → (o ≡ Some lot → is_lot i lot ≡ true) → is_lot i lot ≡ true
found_by i x lot o true is e more = let same : x ≡ lot = cc in subst (λ (l : Lot). is_lot i l ≡ true) same is
found_by i x lot o false is e more = more e

found_passes : (i : LotId) (lots : List Lot) (lot : Lot) → find (is_lot i) lots ≡ Some lot → is_lot i lot ≡ true
found_passes i [] lot e = absurd cc
found_passes i (x ∷ xs) lot e = found_by i x lot (find (is_lot i) xs) (is_lot i x) refl e (found_passes i xs lot)

-- the ends that are found
ends_open : (f : DriverConfig) (lots : List Lot) (o : Op) (chan : ChanNo) (cfg : ℕ) (s d : Option Lot) → find (is_lot source) lots ≡ s → find (is_lot target) lots ≡ d → OpensSo f lots o turns.Stay (copy_steps_of f chan cfg s d)
ends_open f lots o chan cfg None d es ed = none_opens f lots o turns.Stay tt (λ i free e. absurd cc)
ends_open f lots o chan cfg (Some src) None es ed = none_opens f lots o turns.Stay tt (λ i free e. absurd cc)
ends_open f lots o chan cfg (Some src) (Some dst) es ed =
    let s = found_passes source lots src es in
    let d = found_passes target lots dst ed in
    subst (λ (xs : List Step). OpensSo f lots o turns.Stay xs) (its_plan f chan cfg src dst)
    (copy_opens f lots o chan cfg src dst (named_so src source s) (named_so dst target d) (find_any (is_lot source) (is_lot source) lots src es s) (find_any (is_lot target) (is_lot target) lots dst ed d))

-- ---- every operation

pub opens_so : (ram harts : ℕ) (f : DriverConfig) (lots : List Lot) (o : Op) → FitsOp harts (length f.buffers) o → has_start o ≡ true → All (IsLotIn ram f) lots → OpensSo f lots o (opening f lots o) (plan_of f lots o)
unfolding opening plan_of meaning handing.hand mappings.map_single mappings.unmap_single mappings.sync_for_cpu mappings.sync_for_device lists.map_sg lists.unmap_sg areas.calloc areas.give_area areas.take_area areas.free_area copies.copy
opens_so ram harts f lots (ops.Map label buf off len dir chan) fits start all = opens.map_opens ram f lots (ops.Map label buf off len dir chan) label kinds.Single all fits.0
opens_so ram harts f lots (ops.MapSg label entries dir chan) fits start all = opens.map_opens ram f lots (ops.MapSg label entries dir chan) label kinds.List all fits.0
opens_so ram harts f lots (ops.Calloc label pages chan) fits start all =
    opens.by_made f lots (ops.Calloc label pages chan) (lot_id label 0) (calloc_steps f) (lot_named lots label kinds.Area) (λ lot e. opens.calloc_opens f lots (ops.Calloc label pages chan) label lot)
opens_so ram harts f lots (ops.Copy chan src src_off dst dst_off len cfg) fits start all =
    ends_open f lots (ops.Copy chan src src_off dst dst_off len cfg) chan cfg (find (is_lot source) lots) (find (is_lot target) lots) refl refl
opens_so ram harts f lots (ops.Unmap label) fits start all =
    opens.by_lot f lots (ops.Unmap label) unmap_turn (unmap_steps f) (lot_named lots label kinds.Single) (λ lot e.
    let ends = opens.ends_own (ops.Unmap label) label lot refl (found_lot ram f label kinds.Single lots lot all e).labelled in
    opens.if_opens f lots (ops.Unmap label) (is_synced lot.side) (turns.End lot.id) (turns.Return lot.id) [] (ending (turns.End lot.id) (return_steps f lot))
    (none_opens f lots (ops.Unmap label) (turns.End lot.id) tt ends) (opens.back_opens f lots (ops.Unmap label) lot (turns.End lot.id) ends))
opens_so ram harts f lots (ops.ToCpu label) fits start all =
    opens.by_lot f lots (ops.ToCpu label) to_cpu_turn (to_cpu_steps f) (lot_named lots label kinds.Single) (λ lot e.
    opens.if_opens f lots (ops.ToCpu label) (is_synced lot.side) turns.Stay (turns.Return lot.id) [] (ending (turns.Sync lot.id) (return_steps f lot))
    (none_opens f lots (ops.ToCpu label) turns.Stay tt (λ i free e. absurd cc)) (opens.back_opens f lots (ops.ToCpu label) lot (turns.Sync lot.id) (λ i free e. absurd cc)))
opens_so ram harts f lots (ops.ToDev label) fits start all =
    opens.by_lot f lots (ops.ToDev label) to_dev_turn (to_dev_steps f) (lot_named lots label kinds.Single) (λ lot e.
    opens.if_opens f lots (ops.ToDev label) (is_synced lot.side) (turns.Lend lot.id) turns.Stay (lend_steps f lot) []
    (lend_opens f lots (ops.ToDev label) lot (found_lot ram f label kinds.Single lots lot all e).there) (none_opens f lots (ops.ToDev label) turns.Stay tt (λ i free e. absurd cc)))
opens_so ram harts f lots (ops.UnmapSg label count) fits start all =
    opens.by_lot f lots (ops.UnmapSg label count) unmap_sg_turn (unmap_sg_steps f) (lot_named lots label kinds.List) (λ lot e.
    opens.back_opens f lots (ops.UnmapSg label count) lot (turns.End lot.id) (opens.ends_own (ops.UnmapSg label count) label lot refl (found_lot ram f label kinds.List lots lot all e).labelled))
opens_so ram harts f lots (ops.Cgive label) fits start all =
    opens.by_lot f lots (ops.Cgive label) give_turn (give_steps f) (lot_named lots label kinds.Area) (λ lot e.
    opens.if_opens f lots (ops.Cgive label) (is_own lot.side) (turns.Lend lot.id) turns.Stay (lending_end f lot) []
    (lent_opens f lots (ops.Cgive label) lot [] f.light refl (found_lot ram f label kinds.Area lots lot all e).there (All-nil (IsQuiet IsStay)))
    (none_opens f lots (ops.Cgive label) turns.Stay tt (λ i free e. absurd cc)))
opens_so ram harts f lots (ops.Ctake label) fits start all =
    opens.by_lot f lots (ops.Ctake label) take_turn take_steps (lot_named lots label kinds.Area) (λ lot e.
    opens.if_opens f lots (ops.Ctake label) (is_own lot.side) turns.Stay (turns.Return lot.id) [] (fenced (turns.Settle lot.id))
    (none_opens f lots (ops.Ctake label) turns.Stay tt (λ i free e. absurd cc)) (opens.fence_opens f lots (ops.Ctake label) lot (turns.Settle lot.id) (λ i free e. absurd cc)))
opens_so ram harts f lots (ops.Cfree label) fits start all =
    opens.by_lot f lots (ops.Cfree label) free_turn free_steps (lot_named lots label kinds.Area) (λ lot e.
    opens.fence_opens f lots (ops.Cfree label) lot (turns.End lot.id) (opens.ends_own (ops.Cfree label) label lot refl (found_lot ram f label kinds.Area lots lot all e).labelled))
opens_so ram harts f lots (ops.Hand buf to) fits start all = opens.hand_opens f lots buf to
opens_so ram harts f lots _ fits start all = absurd (cc)
