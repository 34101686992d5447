-- A token along the rest of a plan.
use Rattle.std.specs.Prelude.{All, Option, Some, None, ◌⊎◌}
use Rattle.std.proofs.Common.{◌≡◌, true, List, [], ◌∷◌, ◌++◌, sym, ap, ◌∙◌, inl, inr, subst}
use Rattle.std.proofs.lemmas.List.Elements.{All-head, All-tail}
use Rattle.nc_rules.specs.declared.lots.Lot.{Lot}
use Rattle.nc_rules.specs.declared.lots.LotId.{LotId}
use Rattle.nc_rules.specs.declared.steps.Step.{Step}
use Rattle.nc_rules.specs.declared.steps.Turn.{Turn}
use Rattle.nc_rules.specs.declared.steps.Turn.TheVariants as turns
use Rattle.nc_rules.specs.Turns.{lots_after, lots_after_both}
use Rattle.nc_rules.specs.Plans.{token_steps}
use Rattle.nc_holds.specs.Tokens.{HasLent, waits_act, TokenStays, TokensFollow}
use Rattle.nc_holds.proofs.tokens.Lots.{Alike, alike_lent, after_alike, both_has, after_there}
use Rattle.nc_holds.proofs.tokens.QuietSteps.{IsQuiet}

-- the turn does not end the lots of the name
abbrev pub NotEnd : LotId → Turn → Type 0
NotEnd i t = t ≡ turns.End i → ⊥

-- no lot of the name ends before a step that waits
abbrev pub NoEnd : LotId → List Step → Type 0
NoEnd i [] = Unit {0}
NoEnd i (s ∷ rest) = (waits_act s.act ≡ true) ⊎ (NotEnd i s.first × NotEnd i s.last × NoEnd i rest)

pub stays_has : (i : LotId) (lots : List Lot) (rest : List Step) → TokenStays i lots rest → HasLent lots i
stays_has i lots [] h = h
stays_has i lots (s ∷ rest) h = h.0

pub stays_by : (i : LotId) (lots : List Lot) (rest : List Step) → HasLent lots i → NoEnd i rest → TokenStays i lots rest
stays_by i lots [] has h = has
stays_by i lots (s ∷ rest) has (inl waits) = (has, inl waits)
stays_by i lots (s ∷ rest) has (inr h) = (has, inr (stays_by i (lots_after_both s.first s.last lots) rest (both_has s.first s.last lots i h.0 h.1 has) h.2))

pub stays_end : (i : LotId) (lots : List Lot) (rest : List Step) → TokenStays i lots rest → NoEnd i rest
stays_end i lots [] h = tt
stays_end i lots (s ∷ rest) (has, inl waits) = inl waits
stays_end i lots (s ∷ rest) (has, inr more) =
    let now = stays_has i (lots_after_both s.first s.last lots) rest more in
    let last = after_there s.last (lots_after s.first lots) i now.there in
    let first = after_there s.first lots i last.1 in
    inr (first.0, last.0, stays_end i (lots_after_both s.first s.last lots) rest more)

pub stays_alike : (i : LotId) (a b : List Lot) (rest : List Step) → Alike a b → TokenStays i a rest → TokenStays i b rest
stays_alike i a b rest h k = stays_by i b rest (alike_lent a b i h (stays_has i a rest k)) (stays_end i a rest k)

pub follow_alike : (a b : List Lot) (rest : List Step) → Alike a b → TokensFollow a rest → TokensFollow b rest
follow_alike a b [] h k = tt
follow_alike a b (s ∷ rest) h k =
    let more = after_alike s.last (lots_after s.first a) (lots_after s.first b) (after_alike s.first a b h) in (
      (λ i e. stays_alike i (lots_after_both s.first s.last a) (lots_after_both s.first s.last b) rest more (k.0 i e)),
      follow_alike (lots_after_both s.first s.last a) (lots_after_both s.first s.last b) rest more k.1,
    )

-- ---- quiet steps

pub end_join : (i : LotId) (xs ys : List Step) → All (IsQuiet (NotEnd i)) xs → NoEnd i ys → NoEnd i (xs ++ ys)
end_join i [] ys all h = h
end_join i (s ∷ xs) ys all h =
    let here = All-head (IsQuiet (NotEnd i)) s xs all in
    inr (here.first, here.last, end_join i xs ys (All-tail (IsQuiet (NotEnd i)) s xs all) h)

pub end_none : (i : LotId) (xs : List Step) → All (IsQuiet (NotEnd i)) xs → NoEnd i xs
end_none i [] all = tt
end_none i (s ∷ xs) all =
    let here = All-head (IsQuiet (NotEnd i)) s xs all in
    inr (here.first, here.last, end_none i xs (All-tail (IsQuiet (NotEnd i)) s xs all))

none_some : (i : LotId) → ◌≡◌ {A = Option LotId} None (Some i) → ⊥
none_some i e = absurd cc

pub follow_quiet : (P : Turn → Type 0) (lots : List Lot) (xs : List Step) → All (IsQuiet P) xs → TokensFollow lots xs
follow_quiet P lots [] all = tt
follow_quiet P lots (s ∷ xs) all =
    let here = All-head (IsQuiet P) s xs all in
    ((λ i e. absurd (none_some i (sym here.act.token ∙ e))), follow_quiet P (lots_after_both s.first s.last lots) xs (All-tail (IsQuiet P) s xs all))

-- of steps without a turn
abbrev pub IsStay : Turn → Type 0
IsStay t = t ≡ turns.Stay

still : (s : Step) (lots : List Lot) → IsStay s.first → IsStay s.last → lots_after_both s.first s.last lots ≡ lots
still s lots first last = ap (λ (t : Turn). lots_after_both t s.last lots) first ∙ ap (λ (t : Turn). lots_after t lots) last

pub follow_join : (lots : List Lot) (xs ys : List Step) → All (IsQuiet IsStay) xs → TokensFollow lots ys → TokensFollow lots (xs ++ ys)
follow_join lots [] ys all h = h
follow_join lots (s ∷ xs) ys all h =
    let here = All-head (IsQuiet IsStay) s xs all in (
      (λ i e. absurd (none_some i (sym here.act.token ∙ e))),
      subst (λ (ls : List Lot). TokensFollow ls (xs ++ ys)) (sym (still s lots here.first here.last)) (follow_join lots xs ys (All-tail (IsQuiet IsStay) s xs all) h),
    )

-- a token of a lot that is lent
named : (i j : LotId) → ◌≡◌ {A = Option LotId} (Some i) (Some j) → i ≡ j
named i j e = cc

pub follow_token : (lots : List Lot) (lot : Lot) (ys : List Step) → HasLent lots lot.id → NoEnd lot.id ys → TokensFollow lots ys → TokensFollow lots (token_steps lot ++ ys)
follow_token lots lot ys has h more = (
  (λ i e. absurd (none_some i e)),
  ((λ i e. subst (λ (j : LotId). TokenStays j lots ys) (named lot.id i e) (stays_by lot.id lots ys has h)), more),
)
