-- The laws of moves one behind another.
use Rattle.std.proofs.Common.{◌≡◌, ℕ, ◌+◌, ◌<◌, ◌≤◌, List, [], ◌∷◌, ◌++◌, length, drop, subst, refl, sym, ap, ◌∙◌, arith, append_assoc, length-append}
use Rattle.std.specs.Prelude.{slice_index_or}
use Rattle.std.proofs.lemmas.List.{append-nil, at_drop_more}
use Rattle.nc_num.specs.declared.names.HartNo.{HartNo}
use Rattle.nc_num.specs.declared.names.MapId.{MapId}
use Rattle.nc_sg.specs.declared.list.Entry.{Entry}
use Rattle.nc_rules.specs.declared.lots.LotId.{LotId}
use Rattle.nc_rules.specs.declared.steps.PageMove.{PageMove}
use Rattle.nc_rules.specs.declared.steps.PageMove.TheVariants as pages
use Rattle.nc_rules.specs.Lots.{map_id, each_from}
use Rattle.nc_rules.specs.Turns.{Moved, page_move}
use Rattle.nc_moves.specs.Turned.{nothing, joined}

page_stay : (p : PageMove) → page_move p pages.Stay ≡ p
page_stay pages.Stay = refl
page_stay (pages.Take span) = refl
page_stay (pages.Give span) = refl

page_assoc : (p q r : PageMove) → page_move (page_move p q) r ≡ page_move p (page_move q r)
page_assoc pages.Stay q r = refl
page_assoc (pages.Take span) q r = refl
page_assoc (pages.Give span) q r = refl

pub joined-nothing : (a : Moved) → joined a nothing ≡ a
joined-nothing a = λ i. record {
  transfers = append-nil a.transfers i;
  grants = append-nil a.grants i;
  ended = append-nil a.ended i;
  backs = append-nil a.backs i;
  pages = page_stay a.pages i;
  answer = a.answer;
}

pub joined_assoc : (a b c : Moved) → joined (joined a b) c ≡ joined a (joined b c)
joined_assoc a b c = λ i. record {
  transfers = append_assoc a.transfers b.transfers c.transfers i;
  grants = append_assoc a.grants b.grants c.grants i;
  ended = append_assoc a.ended b.ended c.ended i;
  backs = append_assoc a.backs b.backs c.backs i;
  pages = page_assoc a.pages b.pages c.pages i;
  answer = a.answer;
}

-- there is room for one more
pub room : {A : Type 0} (xs ys : List A) (y : A) (n : ℕ) → length (xs ++ y ∷ ys) ≤ n → length xs < n
room xs ys y n h = omega (arith, length-append xs (y ∷ ys), h)

-- ---- entries, one after another

-- what is left of a list of entries, one by one
pub each_room : {A : Type 0} (me : HartNo) (id : LotId) (i n : ℕ) (f : MapId → Entry → A) (es : List Entry) (have all : List A) (d : Entry) → have ++ each_from me id i f (drop i es) ≡ all → i < length es
    → length all ≤ n → length have < n
each_room me id i n f es have all d is lt few =
    room have (each_from me id (i + 1) f (drop (i + 1) es)) (f (map_id me id i) (slice_index_or es i d)) n
    (subst (λ ys. length ys ≤ n) (sym is ∙ at_drop_more (λ xs. have ++ each_from me id i f xs) es i d lt) few)

pub each_next : {A : Type 0} (me : HartNo) (id : LotId) (i : ℕ) (f : MapId → Entry → A) (es : List Entry) (have now all : List A) (y : A) (d : Entry) → have ++ each_from me id i f (drop i es) ≡ all → i < length es
    → now ≡ have ++ y ∷ [] → y ≡ f (map_id me id i) (slice_index_or es i d) → now ++ each_from me id (i + 1) f (drop (i + 1) es) ≡ all
each_next {A = A} me id i f es have now all y d is lt to e =
    let rest : List A = each_from me id (i + 1) f (drop (i + 1) es) in
    ap (λ xs. xs ++ rest) to ∙ append_assoc have (y ∷ []) rest ∙ ap (λ x. have ++ x ∷ rest) e
    ∙ sym (at_drop_more (λ xs. have ++ each_from me id i f xs) es i d lt) ∙ is
