-- The places of a page by number: number n is that of piece n % each of range n / each.
use Rattle.std.proofs.Common.{◌≡◌, ℕ, ◌+◌, ◌*◌, ◌/◌, ◌%◌, ◌<◌, ◌≤◌, inl, inr, sym, ap, subst, ◌∙◌, arith}
use Rattle.std.proofs.lemmas.Bool.{cases_lt}
use Rattle.std.proofs.lemmas.Nat.{row_fits, div-mul-add, mod-mul-add, div_below, mod_below, div-add-mod', le-div}
use Rattle.std.proofs.Math.Nat.{mul-mod_left}

-- with `e` pieces in a range of `g` bytes, each `s` bytes after the last: where place n is
abbrev pub off : ℕ → ℕ → ℕ → ℕ → ℕ
off e g s n = (n / e) * g + (n % e) * s

pub piece_in_range : (e g s i : ℕ) → e * s ≤ g → i < e → i * s + s ≤ g
piece_in_range e g s i fits lt = omega (arith, row_fits i s e s lt (omega arith))

-- it ends within the first c ranges
pub off_ends : (e g s c n : ℕ) → 0 < e → e * s ≤ g → n < c * e → off e g s n + s ≤ c * g
off_ends e g s c n some fits lt =
    omega (arith, piece_in_range e g s (n % e) fits (mod_below n e some), row_fits (n / e) g c g (div_below n e c some lt) (omega arith))

-- a later place is at least a stride later
same_range : (e g s n m : ℕ) → 0 < e → e * s ≤ g → n < m → n / e ≡ m / e → off e g s n + s ≤ off e g s m
same_range e g s n m some fits lt same =
    let parts : n / e * e + n % e ≡ n = div-add-mod' n e in
    let parts' : m / e * e + m % e ≡ m = div-add-mod' m e in
    let tops : n / e * e ≡ m / e * e = ap (λ q. q * e) same in
    let ranges : n / e * g ≡ m / e * g = ap (λ q. q * g) same in
    let below : n % e < m % e = omega arith in
    omega (arith, row_fits (n % e) s (m % e) s below (omega arith))

next_range : (e g s n m : ℕ) → 0 < e → e * s ≤ g → n / e < m / e → off e g s n + s ≤ off e g s m
next_range e g s n m some fits lt =
    omega (arith, piece_in_range e g s (n % e) fits (mod_below n e some), row_fits (n / e) g (m / e) g lt (omega arith))

div_grows : (e n m : ℕ) → 0 < e → n ≤ m → n / e ≤ m / e
div_grows e n m some le = le-div (n / e) m e some (let parts : n / e * e + n % e ≡ n = div-add-mod' n e in omega arith)

pub off_grows : (e g s n m : ℕ) → 0 < e → e * s ≤ g → n < m → off e g s n + s ≤ off e g s m
off_grows e g s n m some fits lt =
    elim (cases_lt (n / e) (m / e)) [
      | inl later ↦ next_range e g s n m some fits later
      | inr ge ↦ same_range e g s n m some fits lt (let le : n / e ≤ m / e = div_grows e n m some (omega arith) in omega arith)
    ]

pub off_same : (e g s n m : ℕ) → 0 < e → 0 < s → e * s ≤ g → off e g s n ≡ off e g s m → n ≡ m
off_same e g s n m some step fits same =
    elim (cases_lt n m) [
      | inl lt ↦ absurd (let gap : off e g s n + s ≤ off e g s m = off_grows e g s n m some fits lt in omega arith)
      | inr le ↦ elim (cases_lt m n) [
        | inl lt ↦ absurd (let gap : off e g s m + s ≤ off e g s n = off_grows e g s m n some fits lt in omega arith)
        | inr ge ↦ omega arith
      ]
    ]

-- the number of the place of piece i of range r
pub off_of_pair : (e g s r i : ℕ) → i < e → off e g s (r * e + i) ≡ r * g + i * s
off_of_pair e g s r i lt =
    let top : (r * e + i) / e ≡ r = div-mul-add r e i lt in
    let low : (r * e + i) % e ≡ i = mod-mul-add r e i lt in
    (λ k. top k * g + low k * s)

-- the number at an offset, where the offset is that of a place
pub number_at : (e g s o : ℕ) → 0 < g → 0 < s → (o % g) % s ≡ 0 → (o % g) / s < e → off e g s ((o / g) * e + (o % g) / s) ≡ o
number_at e g s o range step whole lt =
    off_of_pair e g s (o / g) ((o % g) / s) lt
    ∙ (let parts : o / g * g + o % g ≡ o = div-add-mod' o g in
    let inner : (o % g) / s * s + (o % g) % s ≡ o % g = div-add-mod' (o % g) s in
    omega arith)

-- and what holds of each place's offset
add-zero' : (n : ℕ) → n + 0 ≡ n
add-zero' n = omega arith

pub number_of : (e g s n : ℕ) → 0 < e → 0 < s → e * s ≤ g → ((off e g s n % g) % s ≡ 0) × ((off e g s n % g) / s < e)
number_of e g s n some step fits =
    let below : n % e < e = mod_below n e some in
    let ends : (n % e) * s + s ≤ g = piece_in_range e g s (n % e) fits below in
    let low : off e g s n % g ≡ (n % e) * s = mod-mul-add (n / e) g ((n % e) * s) (omega arith) in
    let back : (n % e) * s / s ≡ n % e = ap (λ k. k / s) (sym (add-zero' ((n % e) * s))) ∙ div-mul-add (n % e) s 0 step in
    (ap (λ k. k % s) low ∙ mul-mod_left (n % e) s, subst (λ k. k < e) (sym (ap (λ k. k / s) low ∙ back)) below)
