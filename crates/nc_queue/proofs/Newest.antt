-- The newest entry that gives a byte.
use Rattle.std.specs.Prelude.{Option, Some, None, is_some, option_and_then, if◌then◌else◌, ◌||◌}
use Rattle.std.specs.Option.{option_or, option_map}
use Rattle.std.proofs.Common.{◌≡◌, ℕ, zero, suc, ◌+◌, ◌-◌, ◌<◌, ◌≤◌, Bool, true, false, List, [], ◌∷◌, ◌++◌, length, get_or, take, refl, sym, ap, ◌∙◌, arith}
use Rattle.std.proofs.lemmas.List.{take_more, length-take-le}
use Rattle.nc_queue.specs.Entries.{entry_gives}
use Rattle.nc_queue.specs.Rules.{gives, newest, given_at, first_if}
use Rattle.nc_queue.specs.declared.entry.Entry.{Entry}

first : (b : Bool) → first_if b ≡ (if b then Some 0 else None)
first true = refl
first false = refl

later : (b : Bool) (n : ℕ) (o r : Option ℕ) → option_or (option_map suc (if b then Some n else o)) r ≡ (if b then Some (suc n) else option_or (option_map suc o) r)
later true n o r = refl
later false n o r = refl

-- one more entry is the newest, if it gives the byte
pub newest-push : (s : ℕ) (q : List Entry) (e : Entry) (x : ℕ) → newest s (q ++ e ∷ []) x ≡ (if is_some (entry_gives s e x) then Some (length q) else newest s q x)
unfolding newest
newest-push s [] e x = first (is_some (entry_gives s e x))
newest-push s (a ∷ q) e x =
    let r : Option ℕ = first_if (is_some (entry_gives s a x)) in
    ap (λ (o : Option ℕ). option_or (option_map suc o) r) (newest-push s q e x) ∙ later (is_some (entry_gives s e x)) (length q) (newest s q x) r

newest_more : (s : ℕ) (q : List Entry) (i : ℕ) (d : Entry) (x : ℕ) → i < length q → newest s (take (i + 1) q) x ≡ (if is_some (entry_gives s (get_or q i d) x) then Some i else newest s (take i q) x)
newest_more s q i d x lt =
    rw (take_more q i d lt)
    (newest-push s (take i q) (get_or q i d) x ∙ ap (λ n. if is_some (entry_gives s (get_or q i d) x) then Some n else newest s (take i q) x) (length-take-le i q (omega arith)))

some-or : (o p : Option ℕ) (a b : Bool) → is_some o ≡ a → is_some p ≡ b → is_some (option_or o p) ≡ (a || b)
some-or None p a b ea eb = rw (← ea) eb
some-or (Some v) p a b ea eb = rw (← ea) refl

some-map : (o : Option ℕ) → is_some (option_map suc o) ≡ is_some o
some-map None = refl
some-map (Some i) = refl

some-first : (b : Bool) → is_some (first_if b) ≡ b
some-first true = refl
some-first false = refl

-- there is a newest entry exactly where the queue gives the byte
pub some-newest : (s : ℕ) (q : List Entry) (x : ℕ) → is_some (newest s q x) ≡ is_some (gives s q x)
unfolding newest gives
some-newest s [] x = refl
some-newest s (e ∷ q) x =
    some-or (option_map suc (newest s q x)) (first_if (is_some (entry_gives s e x))) _ _ (some-map (newest s q x) ∙ some-newest s q x) (some-first (is_some (entry_gives s e x)))
    ∙ sym (some-or (gives s q x) (entry_gives s e x) _ _ refl refl)

none_if : (o : Option ℕ) → is_some o ≡ false → o ≡ None
none_if None is = refl
none_if (Some v) is = absurd cc

pub newest-none : (s : ℕ) (q : List Entry) (x : ℕ) → newest s q x ≡ None → gives s q x ≡ None
newest-none s q x is = none_if (gives s q x) (sym (some-newest s q x) ∙ ap (λ (o : Option ℕ). is_some o) is)

pub none-newest : (s : ℕ) (q : List Entry) (x : ℕ) → gives s q x ≡ None → newest s q x ≡ None
none-newest s q x is = none_if (newest s q x) (some-newest s q x ∙ ap (λ (o : Option ℕ). is_some o) is)

or_some : (o p : Option ℕ) → is_some o ≡ true → option_or o p ≡ o
or_some None p is = absurd cc
or_some (Some v) p is = refl

first_gives : (s : ℕ) (q : List Entry) (e : Entry) (x : ℕ) (o : Option ℕ) → entry_gives s e x ≡ o → option_and_then (given_at s (e ∷ q) x) (first_if (is_some o)) ≡ o
first_gives s q e x None is = refl
first_gives s q e x (Some v) is = is

given_first : (s : ℕ) (q : List Entry) (e : Entry) (x : ℕ) (o n : Option ℕ) → n ≡ o → newest s q x ≡ n → option_and_then (given_at s q x) n ≡ gives s q x
    → option_and_then (given_at s (e ∷ q) x) (option_or (option_map suc o) (first_if (is_some (entry_gives s e x)))) ≡ option_or (gives s q x) (entry_gives s e x)
given_first s q e x None n same is given = rw (newest-none s q x (is ∙ same)) (first_gives s q e x (entry_gives s e x) refl)
given_first s q e x (Some i) n same is given =
    let here : given_at s q x i ≡ gives s q x = rw same at given in
    here ∙ sym (or_some (gives s q x) (entry_gives s e x) (sym (some-newest s q x) ∙ ap (λ (o : Option ℕ). is_some o) (is ∙ same)))

-- the newest entry gives the byte that the queue gives
pub given-newest : (s : ℕ) (q : List Entry) (x : ℕ) → option_and_then (given_at s q x) (newest s q x) ≡ gives s q x
unfolding newest gives
given-newest s [] x = refl
given-newest s (e ∷ q) x = given_first s q e x (newest s q x) (newest s q x) refl refl (given-newest s q x)

pub given : (s : ℕ) (q : List Entry) (x i : ℕ) → newest s q x ≡ Some i → given_at s q x i ≡ gives s q x
given s q x i is = rw is at (given-newest s q x)

if_true : (b : Bool) (o p : Option ℕ) → b ≡ true → (if b then o else p) ≡ o
if_true true o p is = refl
if_true false o p is = absurd cc

if_false : (b : Bool) (o p : Option ℕ) → b ≡ false → (if b then o else p) ≡ p
if_false true o p is = absurd cc
if_false false o p is = refl

newest_step : (s : ℕ) (q : List Entry) (i : ℕ) (m : Entry) (x : ℕ) → 0 < i → i ≤ length q → m ≡ get_or q (i - 1) m
    → newest s (take i q) x ≡ (if is_some (entry_gives s m x) then Some (i - 1) else newest s (take (i - 1) q) x)
newest_step s q i m x some le at =
    let back : i ≡ i - 1 + 1 = omega arith in
    ap (λ k. newest s (take k q) x) back ∙ newest_more s q (i - 1) m x (omega arith)
    ∙ ap (λ (n : Entry). if is_some (entry_gives s n x) then Some (i - 1) else newest s (take (i - 1) q) x) (sym at)

-- a search from the newest end: entry i - 1 gives the byte, or does not
pub newest_at : (s : ℕ) (q : List Entry) (i : ℕ) (m : Entry) (x : ℕ) (r : Bool) → 0 < i → i ≤ length q → newest s (take i q) x ≡ newest s q x → m ≡ get_or q (i - 1) m
    → r ≡ is_some (entry_gives s m x) → r ≡ true → Some (i - 1) ≡ newest s q x
newest_at s q i m x r some le later at by is =
    sym (if_true (is_some (entry_gives s m x)) (Some (i - 1)) (newest s (take (i - 1) q) x) (sym by ∙ is)) ∙ sym (newest_step s q i m x some le at) ∙ later

pub newest_on : (s : ℕ) (q : List Entry) (i : ℕ) (m : Entry) (x : ℕ) (r : Bool) → 0 < i → i ≤ length q → newest s (take i q) x ≡ newest s q x → m ≡ get_or q (i - 1) m
    → r ≡ is_some (entry_gives s m x) → r ≡ false → newest s (take (i - 1) q) x ≡ newest s q x
newest_on s q i m x r some le later at by is =
    sym (if_false (is_some (entry_gives s m x)) (Some (i - 1)) (newest s (take (i - 1) q) x) (sym by ∙ is)) ∙ sym (newest_step s q i m x some le at) ∙ later

pub newest_end : (s : ℕ) (q : List Entry) (i x : ℕ) → i ≤ 0 → newest s (take i q) x ≡ newest s q x → None ≡ newest s q x
unfolding newest
newest_end s q zero x le later = later
newest_end s q (suc i) x le later = absurd (omega arith)

pub some_is_given : (s : ℕ) (q : List Entry) (x i : ℕ) → newest s q x ≡ Some i → (true ≡ false → gives s q x ≡ None) × (gives s q x ≡ None → true ≡ false)
some_is_given s q x i is = (λ no. absurd cc, λ none. let gone = none-newest s q x none in absurd cc)

pub none_is_given : (s : ℕ) (q : List Entry) (x : ℕ) → newest s q x ≡ None → (false ≡ false → gives s q x ≡ None) × (gives s q x ≡ None → false ≡ false)
none_is_given s q x is = (λ _. newest-none s q x is, λ _. refl)
