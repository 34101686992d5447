use Rattle.std.proofs.Common.{◌≡◌, ◌+◌, ◌-◌, ◌≤◌, ◌<◌, ◌++◌, ℕ, suc, length, take, drop, List, min, subst, sym, arith, ◌∙◌, ap}
use Rattle.nc_num.specs.declared.places.Span.{Span}
use Rattle.nc_model.specs.declared.owners.Owner.{Owner}
use Rattle.nc_own.specs.Tiles.{places, Tile, Joined, Found, run, IsGiven, IsBorder}
use Rattle.nc_own.specs.declared.intervals.Interval.{Interval}
use Rattle.nc_own.proofs.Cuts.{IsCut, cut, put_between, found_cut, cut_given, cut_order}
use Rattle.nc_own.proofs.intervals.give.Goals as goal

-- where the cut lies, by what the two searches and the two borders were asked
cut_at : (xs ys zs : List Interval) (ram low high end out : ℕ) (span : Span) (owner : Owner) (first last : ℕ) (a b : Interval) (start stop : ℕ) → Tile 0 xs → Joined xs → places xs ≡ ram → 0 < span.len → span.at + span.len ≤ ram
    → ys ≡ xs → low ≡ span.at - 1 → Found ys low first a → end ≡ span.at + span.len → zs ≡ xs → high ≡ min end (ram - 1) → Found zs high last b
    → IsBorder a.owner owner a.span.at span.at start → out ≡ b.span.at + b.span.len → IsBorder b.owner owner out end stop → IsCut xs span owner first last a b start stop
cut_at xs ys zs ram low high end out span owner first last a b start stop tile joined whole some inside same at before is other to behind left ends right =
    found_cut _ _ _ _ _ _ _ _ _ _ tile joined whole some inside
    (subst (λ (v : List Interval). Found v (span.at - 1) first a) same (subst (λ (x : ℕ). Found ys x first a) at before))
    (subst (λ (v : List Interval). Found v (min (span.at + span.len) (ram - 1)) last b) other (subst (λ (x : ℕ). Found zs x last b) (to ∙ ap (λ (x : ℕ). min x (ram - 1)) is) behind))
    left
    (subst (λ (x : ℕ). IsBorder b.owner owner x (span.at + span.len) stop) ends (subst (λ (x : ℕ). IsBorder b.owner owner out x stop) is right))

pub remove_from-requires-clause-order : goal.remove_from-requires-clause-order
remove_from-requires-clause-order c =
    let at = cut_at _ _ _ _ _ _ _ _ _ _ _ _ _ _ _ _ c.requires.tile c.requires.joined c.requires.whole c.requires.some c.requires.inside c.deref.ensures.value c.saturating_sub.ensures c.find-first.ensures c.end_of-end.ensures
    c.deref-2.ensures.value c.min.ensures c.find-last.ensures c.border-start.ensures c.end_of.ensures c.border-stop.ensures in
    let order : c.find-first.result.0 ≤ c.find-last.result.0 = cut_order _ _ _ _ _ _ _ _ _ at in
    omega (arith, order)

-- a list is put between, where the rest is known
put : (xs ys back l : List Interval) (first : ℕ) → first ≤ length xs → ys ≡ take first xs ++ back → take first ys ++ (l ++ drop first ys) ≡ take first xs ++ (l ++ back)
put xs ys back l first le is =
    subst (λ (v : List Interval). take first v ++ (l ++ drop first v) ≡ take first xs ++ (l ++ back)) (sym is) (put_between xs back l first le)

-- the intervals with the three runs put in, the last one first
pieces : (xs x0 x1 x2 x3 : List Interval) (first last end start stop : ℕ) (a b : Interval) (owner : Owner) → first ≤ length xs → end ≡ b.span.at + b.span.len
    → x0 ≡ take first xs ++ drop (last + 1) xs → x1 ≡ take first x0 ++ (run stop end b.owner ++ drop first x0) → x2 ≡ take first x1 ++ (run start stop owner ++ drop first x1)
    → x3 ≡ take first x2 ++ (run a.span.at start a.owner ++ drop first x2) → x3 ≡ cut xs first last a b start stop owner
pieces xs x0 x1 x2 x3 first last end start stop a b owner le ends removed right middle left =
    let one = right ∙ put xs x0 (drop (last + 1) xs) (run stop end b.owner) first le removed in
    let two = middle ∙ put xs x1 (run stop end b.owner ++ drop (last + 1) xs) (run start stop owner) first le one in
    let three = left ∙ put xs x2 (run start stop owner ++ (run stop end b.owner ++ drop (last + 1) xs)) (run a.span.at start a.owner) first le two in
    let next : last + 1 ≡ suc last = omega arith in
    three ∙ ap (λ (n : ℕ). take first xs ++ (run a.span.at start a.owner ++ (run start stop owner ++ (run stop n b.owner ++ drop (last + 1) xs)))) ends
    ∙ ap (λ (n : ℕ). take first xs ++ (run a.span.at start a.owner ++ (run start stop owner ++ (run stop (b.span.at + b.span.len) b.owner ++ drop n xs)))) next

pub returns-clause-given : goal.returns-clause-given
returns-clause-given c =
    let at = cut_at _ _ _ _ _ _ _ _ _ _ _ _ _ _ _ _ c.requires.tile c.requires.joined c.requires.whole c.requires.some c.requires.inside c.deref.ensures.value c.saturating_sub.ensures c.find-first.ensures c.end_of-end.ensures
    c.deref-2.ensures.value c.min.ensures c.find-last.ensures c.border-start.ensures c.end_of.ensures c.border-stop.ensures in
    let within : c.find-first.result.0 < length c.args.intervals.now.items = at.first_in in
    subst (IsGiven c.args.intervals.now.items c.args.span c.args.owner)
    (sym (pieces c.args.intervals.now.items _ _ _ _ _ _ _ _ _ c.find-first.result.1 c.find-last.result.1 _ (omega (arith, within)) c.end_of-2.ensures c.remove_from.ensures.items c.insert_run.ensures.items c.insert_run-2.ensures.items c.insert_run-3.ensures.items))
    (cut_given _ _ _ _ _ _ _ _ _ at)
