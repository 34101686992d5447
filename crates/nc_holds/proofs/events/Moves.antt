-- Two turns move at once what one after another they move.
use Rattle.std.proofs.Common.{◌≡◌, ℕ, List, [], ◌∷◌, ◌++◌, refl, sym, ap, ◌∙◌, subst, inl, inr, Option, None}
use Rattle.std.specs.Prelude.{◌⊎◌}
use Rattle.std.proofs.lemmas.List.{append-nil}
use Rattle.nc_num.specs.declared.names.HartNo.{HartNo}
use Rattle.nc_num.specs.declared.names.MapId.{MapId}
use Rattle.nc_num.specs.declared.places.Span.{Span}
use Rattle.nc_model.specs.declared.owners.Grant.{Grant}
use Rattle.nc_model.specs.declared.owners.Owner.{Owner}
use Rattle.nc_own.specs.Books.{transferred}
use Rattle.nc_coherent.specs.Pages.{PageMap}
use Rattle.nc_rules.specs.declared.answers.Answer.{Answer}
use Rattle.nc_rules.specs.declared.lots.Lot.{Lot}
use Rattle.nc_rules.specs.declared.steps.PageMove.{PageMove}
use Rattle.nc_rules.specs.declared.steps.PageMove.TheVariants as pages
use Rattle.nc_rules.specs.declared.steps.Turn.{Turn}
use Rattle.nc_rules.specs.declared.steps.Turn.TheVariants as turns
use Rattle.std.specs.Prelude.{slice_set}
use Rattle.nc_rules.specs.Lots.{DriverConfig}
use Rattle.nc_rules.specs.Turns.{Moved, moved, lots_after, lots_after_both, transfers_of, grants_of, ended_of, backs_of, pages_of, page_move, turned, turned_by, given_up, without_wanted}
use Rattle.nc_rules.specs.World.{owners_moved, grants_added, grants_ended, slots_back, pages_moved}
use Rattle.nc_holds.specs.Held.{Held}
use Rattle.nc_holds.specs.Changes.{Turned, Dropped, changed}
use Rattle.nc_holds.specs.Holds.{CanAddAll, MayMovePages}
use Rattle.nc_holds.proofs.calls.Shapes.{IsQuietTurn}

-- ---- lists of moves

pub owners_join : (ws : List Owner) (xs ys : List (Span × Owner)) → owners_moved ws (xs ++ ys) ≡ owners_moved (owners_moved ws xs) ys
owners_join ws [] ys = refl
owners_join ws (x ∷ xs) ys = owners_join (transferred ws x.0 x.1) xs ys

pub added_join : (grants xs ys : List Grant) → grants_added grants (xs ++ ys) ≡ grants_added (grants_added grants xs) ys
added_join grants [] ys = refl
added_join grants (x ∷ xs) ys = added_join (grants ++ x ∷ []) xs ys

pub back_join : (slots : List (Option HartNo)) (xs ys : List ℕ) → slots_back slots (xs ++ ys) ≡ slots_back (slots_back slots xs) ys
back_join slots [] ys = refl
back_join slots (k ∷ ks) ys = back_join (slice_set slots k None) ks ys

pub can_join : (ram : ℕ) (grants xs ys : List Grant) → CanAddAll ram grants xs → CanAddAll ram (grants_added grants xs) ys → CanAddAll ram grants (xs ++ ys)
can_join ram grants [] ys h k = k
can_join ram grants (x ∷ xs) ys h k = (h.0, can_join ram (grants ++ x ∷ []) xs ys h.1 k)

no_second : (p : PageMove) → page_move p pages.Stay ≡ p
no_second pages.Stay = refl
no_second (pages.Take span) = refl
no_second (pages.Give span) = refl

-- ---- what is held after moves

unfoldable pub moved_by : Held → List Lot → Moved → Held
moved_by m lots moves = record {
  lots = lots;
  owners = owners_moved m.owners moves.transfers;
  grants = grants_ended (grants_added m.grants moves.grants) moves.ended;
  slots = slots_back m.slots moves.backs;
  pages = pages_moved m.pages moves.pages;
}

pub stayed : (m : Held) → moved_by m m.lots (moved [] None) ≡ m
unfolding moved_by
stayed m = refl

pub dropped : (f : DriverConfig) (m : Held) (a : Answer) → moved_by m (without_wanted m.lots) (given_up m.lots a) ≡ changed f m Dropped
unfolding moved_by
dropped f m a = refl

-- the second turn is none
first_alone : (f : DriverConfig) (m : Held) (t : Turn) (a : Option Answer) → moved_by m (lots_after_both t turns.Stay m.lots) (turned f m.lots t turns.Stay a) ≡ changed f (changed f m (Turned t)) (Turned turns.Stay)
unfolding moved_by turned_by
first_alone f m t a = λ i. record {
  lots = lots_after t m.lots;
  owners = owners_moved m.owners (append-nil (transfers_of f.me m.lots t) i);
  grants = grants_ended (grants_added m.grants (append-nil (grants_of f.me f.slots_at m.lots t) i)) (append-nil (ended_of f.me m.lots t) i);
  slots = slots_back m.slots (append-nil (backs_of m.lots t) i);
  pages = pages_moved m.pages (no_second (pages_of m.lots t) i);
}

grants_both : (grants xs ys : List Grant) (is js : List MapId) → is ≡ [] → grants_ended (grants_added grants (xs ++ ys)) (is ++ js) ≡ grants_ended (grants_added (grants_ended (grants_added grants xs) is) ys) js
grants_both grants xs ys is js none =
    ap (λ (ms : List MapId). grants_ended (grants_added grants (xs ++ ys)) (ms ++ js)) none
    ∙ ap (λ (gs : List Grant). grants_ended gs js) (added_join grants xs ys)
    ∙ ap (λ (ms : List MapId). grants_ended (grants_added (grants_ended (grants_added grants xs) ms) ys) js) (sym none)

pages_both : (pool : PageMap) (p q : PageMove) → p ≡ pages.Stay → pages_moved pool (page_move p q) ≡ pages_moved (pages_moved pool p) q
pages_both pool p q e = ap (λ (r : PageMove). pages_moved pool (page_move r q)) e ∙ ap (λ (r : PageMove). pages_moved (pages_moved pool r) q) (sym e)

-- the first one is quiet
one_by_one : (f : DriverConfig) (m : Held) (t u : Turn) (a : Option Answer) → IsQuietTurn f m.lots t → moved_by m (lots_after_both t u m.lots) (turned f m.lots t u a) ≡ changed f (changed f m (Turned t)) (Turned u)
unfolding moved_by turned_by
one_by_one f m t u a h =
    let lots = lots_after t m.lots in
    λ i. record {
      lots = lots_after u (lots_after t m.lots);
      owners = owners_join m.owners (transfers_of f.me m.lots t) (transfers_of f.me (lots_after t m.lots) u) i;
      grants = grants_both m.grants (grants_of f.me f.slots_at m.lots t) (grants_of f.me f.slots_at (lots_after t m.lots) u) (ended_of f.me m.lots t) (ended_of f.me (lots_after t m.lots) u) h.ended i;
      slots = back_join m.slots (backs_of m.lots t) (backs_of (lots_after t m.lots) u) i;
      pages = pages_both m.pages (pages_of m.lots t) (pages_of (lots_after t m.lots) u) h.pages i;
    }

pub both_turned : (f : DriverConfig) (m : Held) (t u : Turn) (a : Option Answer) → (u ≡ turns.Stay) ⊎ IsQuietTurn f m.lots t → moved_by m (lots_after_both t u m.lots) (turned f m.lots t u a) ≡ changed f (changed f m (Turned t)) (Turned u)
both_turned f m t u a (inl e) = subst (λ (v : Turn). moved_by m (lots_after_both t v m.lots) (turned f m.lots t v a) ≡ changed f (changed f m (Turned t)) (Turned v)) (sym e) (first_alone f m t a)
both_turned f m t u a (inr h) = one_by_one f m t u a h

-- ---- what two turns may move

pub grants_of_both : (ram : ℕ) (f : DriverConfig) (m : Held) (t u : Turn) (a : Option Answer) → (u ≡ turns.Stay) ⊎ IsQuietTurn f m.lots t → CanAddAll ram m.grants (grants_of f.me f.slots_at m.lots t) → CanAddAll ram (changed f m (Turned t)).grants (grants_of f.me f.slots_at (lots_after t m.lots) u)
    → CanAddAll ram m.grants (turned f m.lots t u a).grants
unfolding turned_by
grants_of_both ram f m t u a (inl e) h k =
    subst (λ (v : Turn). CanAddAll ram m.grants (grants_of f.me f.slots_at m.lots t ++ grants_of f.me f.slots_at (lots_after t m.lots) v)) (sym e)
    (subst (λ (gs : List Grant). CanAddAll ram m.grants gs) (sym (append-nil (grants_of f.me f.slots_at m.lots t))) h)
grants_of_both ram f m t u a (inr q) h k =
    can_join ram m.grants (grants_of f.me f.slots_at m.lots t) (grants_of f.me f.slots_at (lots_after t m.lots) u) h
    (subst (λ (ms : List MapId). CanAddAll ram (grants_ended (grants_added m.grants (grants_of f.me f.slots_at m.lots t)) ms) (grants_of f.me f.slots_at (lots_after t m.lots) u)) q.ended k)

pages_by : (pool : PageMap) (p : PageMove) → MayMovePages pool p → MayMovePages pool (page_move p pages.Stay)
pages_by pool p h = subst (λ (q : PageMove). MayMovePages pool q) (sym (no_second p)) h

pub pages_of_both : (f : DriverConfig) (m : Held) (t u : Turn) (a : Option Answer) → (u ≡ turns.Stay) ⊎ IsQuietTurn f m.lots t → MayMovePages m.pages (pages_of m.lots t) → MayMovePages (changed f m (Turned t)).pages (pages_of (lots_after t m.lots) u)
    → MayMovePages m.pages (turned f m.lots t u a).pages
unfolding turned_by
pages_of_both f m t u a (inl e) h k =
    subst (λ (v : Turn). MayMovePages m.pages (page_move (pages_of m.lots t) (pages_of (lots_after t m.lots) v))) (sym e) (pages_by m.pages (pages_of m.lots t) h)
pages_of_both f m t u a (inr q) h k =
    let there = subst (λ (p : PageMove). MayMovePages (pages_moved m.pages p) (pages_of (lots_after t m.lots) u)) q.pages k in
    subst (λ (p : PageMove). MayMovePages m.pages (page_move p (pages_of (lots_after t m.lots) u))) (sym q.pages) there

pub backs_both : (f : DriverConfig) (lots : List Lot) (t u : Turn) (a : Option Answer) → (turned f lots t u a).backs ≡ backs_of lots t ++ backs_of (lots_after t lots) u
unfolding turned_by
backs_both f lots t u a = refl
