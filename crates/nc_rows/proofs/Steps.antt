-- What is to come of a plan, step by step.
use Rattle.std.specs.Prelude.{if◌then◌else◌, flat_map, ◌||◌}
use Rattle.std.specs.List.{list_any}
use Rattle.std.proofs.Common.{◌≡◌, ℕ, Bool, true, false, List, [], ◌∷◌, ◌++◌, refl, ap, ◌∙◌, inl, inr}
use Rattle.std.proofs.lemmas.Bool.{cases_Bool, both_ways, or_parts, cond-true, cond-false}
use Rattle.nc_num.specs.declared.names.MapId.{MapId}
use Rattle.nc_queue.specs.declared.entry.Entry.{Entry}
use Rattle.nc_rules.specs.declared.lots.LotId.{LotId}
use Rattle.nc_rules.specs.declared.steps.Step.{Step}
use Rattle.nc_rules.specs.declared.steps.Turn.{Turn}
use Rattle.nc_rules.specs.declared.steps.Turn.TheVariants as turns
use Rattle.nc_rows.specs.Ahead.{turns_lot, gives_lot, tokens_lot, stores_io, ends, posts, upto, token, act_coming, step_coming, coming, sending}
use Rattle.nc_rows.specs.Laws.{StepsAhead}

pub append_nil : (es : List Entry) → es ++ [] ≡ es
append_nil [] = refl
append_nil (e ∷ es) = ap (λ (l : List Entry). e ∷ l) (append_nil es)

upto_next : (p : Step → Bool) (s : Step) (rest : List Step) → p s ≡ false → list_any p rest ≡ true → upto p (s ∷ rest) ≡ s ∷ upto p rest
upto_next p s rest other some = cond-false (p s) (s ∷ []) (if list_any p rest then s ∷ upto p rest else []) other ∙ cond-true (list_any p rest) (s ∷ upto p rest) [] some

upto_last : (p : Step → Bool) (s : Step) (rest : List Step) → p s ≡ true → upto p (s ∷ rest) ≡ s ∷ []
upto_last p s rest is = cond-true (p s) (s ∷ []) (if list_any p rest then s ∷ upto p rest else []) is

upto_none : (p : Step → Bool) (rest : List Step) → list_any p rest ≡ false → upto p rest ≡ []
upto_none p [] none = refl
upto_none p (s ∷ rest) none =
    let parts = or_parts (p s) (list_any p rest) none in
    cond-false (p s) (s ∷ []) (if list_any p rest then s ∷ upto p rest else []) parts.0 ∙ cond-false (list_any p rest) (s ∷ upto p rest) [] parts.1

gives_turns : (lot : LotId) (t : Turn) → gives_lot lot t ≡ true → turns_lot lot t ≡ true
gives_turns lot (turns.Give id) is = is
gives_turns lot turns.Stay is = absurd cc
gives_turns lot (turns.Pass range to) is = absurd cc
gives_turns lot (turns.Own range) is = absurd cc
gives_turns lot (turns.Lend id) is = absurd cc
gives_turns lot (turns.Return id) is = absurd cc
gives_turns lot (turns.Sync id) is = absurd cc
gives_turns lot (turns.Settle id) is = absurd cc
gives_turns lot (turns.End id) is = absurd cc

-- a step that ends nothing gives nothing
bare_step : (n : MapId) (lot : LotId) (s : Step) → ends lot s ≡ false → step_coming n lot s ≡ act_coming s.act
bare_step n lot s other =
    let turned = (or_parts (turns_lot lot s.last) (stores_io (tokens_lot lot) s.act) other).0 in
    let stays : gives_lot lot s.last ≡ false = elim (cases_Bool (gives_lot lot s.last)) [ inl is ↦ absurd (both_ways (turns_lot lot s.last) turned (gives_turns lot s.last is)) | inr not_so ↦ not_so ] in
    ap (λ (es : List Entry). act_coming s.act ++ es) (cond-false (gives_lot lot s.last) (token n ∷ []) [] stays) ∙ append_nil (act_coming s.act)

pub next : (n : MapId) (lot : LotId) (s : Step) (rest : List Step) → ends lot s ≡ false → list_any (ends lot) rest ≡ true → coming n lot (s ∷ rest) ≡ act_coming s.act ++ coming n lot rest
next n lot s rest other some =
    ap (λ (ss : List Step). flat_map (step_coming n lot) ss) (upto_next (ends lot) s rest other some) ∙ ap (λ (es : List Entry). es ++ coming n lot rest) (bare_step n lot s other)

pub last : (n : MapId) (lot : LotId) (s : Step) (rest : List Step) → ends lot s ≡ true → coming n lot (s ∷ rest) ≡ step_coming n lot s
last n lot s rest is = ap (λ (ss : List Step). flat_map (step_coming n lot) ss) (upto_last (ends lot) s rest is) ∙ append_nil (step_coming n lot s)

pub steps_ahead : StepsAhead
steps_ahead = record {
  next = next;
  last = last;
  none = λ n lot rest none. ap (λ (ss : List Step). flat_map (step_coming n lot) ss) (upto_none (ends lot) rest none);
  send_next = λ b s rest other some. ap (λ (ss : List Step). flat_map (λ (k : Step). act_coming k.act) ss) (upto_next (posts b) s rest other some);
  send_last = λ b s rest is. ap (λ (ss : List Step). flat_map (λ (k : Step). act_coming k.act) ss) (upto_last (posts b) s rest is) ∙ append_nil (act_coming s.act);
  send_none = λ b rest none. ap (λ (ss : List Step). flat_map (λ (k : Step). act_coming k.act) ss) (upto_none (posts b) rest none);
}
