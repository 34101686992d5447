-- The bytes of a span, part by part.
use Rattle.std.proofs.Common.{◌≡◌, ℕ, zero, suc, ◌+◌, List, ◌∷◌, ◌++◌, map, sym, ap, ◌∙◌, refl, arith, append_assoc}
use Rattle.std.specs.List.{range_with_len}
use Rattle.nc_num.specs.declared.places.Span.{Span}
use Rattle.nc_rules.specs.Machine.{MachineState}
use Rattle.nc_rules.specs.View.{middle, bytes_of}

same : (f : ℕ → ℕ) (a b m n : ℕ) → a ≡ b → m ≡ n → map f (range_with_len a m) ≡ map f (range_with_len b n)
same f a b m n p q = λ i. map f (range_with_len (p i) (q i))

parts : (f : ℕ → ℕ) (a m n k : ℕ) → m + n ≡ k → map f (range_with_len a k) ≡ map f (range_with_len a m) ++ map f (range_with_len (a + m) n)
parts f a zero n k e = same f a (a + zero) k n (omega arith) (omega arith)
parts f a (suc m) n zero e = absurd (omega arith)
parts f a (suc m) n (suc k) e =
    ap (λ ys. f a ∷ ys) (parts f (a + 1) m n k (omega arith) ∙ ap (λ ys. map f (range_with_len (a + 1) m) ++ ys) (same f (a + 1 + m) (a + suc m) n n (omega arith) refl))

-- a span is read by its first part and then the rest
two_parts : (m : MachineState) (first rest whole : Span) → first.at ≡ whole.at → rest.at ≡ whole.at + first.len → first.len + rest.len ≡ whole.len
    → bytes_of m whole ≡ bytes_of m first ++ bytes_of m rest
two_parts m first rest whole from behind len =
    parts (middle m) whole.at first.len rest.len whole.len len
    ∙ ap (λ xs. xs ++ map (middle m) (range_with_len (whole.at + first.len) rest.len)) (same (middle m) whole.at first.at first.len first.len (sym from) refl)
    ∙ ap (λ xs. bytes_of m first ++ xs) (same (middle m) (whole.at + first.len) rest.at rest.len rest.len (sym behind) refl)

pub read_more : (m : MachineState) (old new part total : List ℕ) (first rest whole : Span) → new ≡ old ++ part → part ≡ bytes_of m first
    → first.at ≡ whole.at → rest.at ≡ whole.at + first.len → first.len + rest.len ≡ whole.len → old ++ bytes_of m whole ≡ total → new ++ bytes_of m rest ≡ total
read_more m old new part total first rest whole grown is from behind len so_far =
    ap (λ xs. xs ++ bytes_of m rest) (grown ∙ ap (λ xs. old ++ xs) is) ∙ append_assoc old (bytes_of m first) (bytes_of m rest)
    ∙ ap (λ xs. old ++ xs) (sym (two_parts m first rest whole from behind len)) ∙ so_far
