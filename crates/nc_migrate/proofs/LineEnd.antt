-- A line feed behind a compact text changes nothing of what is read.
use Rattle.std.proofs.Common.{◌≡◌, ℕ, Bool, true, false, cond, ◌&&◌, List, [], ◌∷◌, ◌++◌, refl, sym, ap, ap₂, subst, ◌∙◌, append_assoc, append-nil}
use Rattle.json.specs.Token.{Token, begin_object, end_object, begin_array, end_array, key, bad}
use Rattle.json.specs.Token as token
use Rattle.json.specs.Word.{ends_word, word}
use Rattle.json.specs.Lex.{Lexeme, comma, colon, string_token, lex, between, fresh, punctuate, tokens}
use Rattle.json.specs.Lex as lexer
use Rattle.json.specs.Print.{escape, quoted, token_text, begins, ends, separator, print_from, IsPrintable, ArePrintable}
use Rattle.json.specs.Tree as tree
use Rattle.json.proofs.Printed.Strings.{content-escape, lex-escape}
use Rattle.json.proofs.Printed.Numbers.{lex-number, in_word-ended}
use Rattle.json.proofs.Printed.Decimals.{IsNumber-decimal}
use Rattle.serde_json.specs.Data.{unsigned, negative, float, Data, null, boolean, number, string, array, object, Items, no_items, item, Members, no_members, member}
use Rattle.serde_json.specs.Written.{compact_text, outline, items_outline, members_outline}
use Rattle.serde_json.proofs.Texts.{print-outline}
use Rattle.nc_migrate.proofs.Plain.{IsPlain, ArePlain, MembersPlain}

-- the lexemes of a token
lexemes : Token → List Lexeme
lexemes begin_object = lexer.token begin_object ∷ []
lexemes end_object = lexer.token end_object ∷ []
lexemes begin_array = lexer.token begin_array ∷ []
lexemes end_array = lexer.token end_array ∷ []
lexemes (key s) = lexer.token (token.string s) ∷ colon ∷ []
lexemes (token.string s) = lexer.token (token.string s) ∷ []
lexemes (token.number s) = lexer.token (token.number s) ∷ []
lexemes (token.boolean b) = lexer.token (token.boolean b) ∷ []
lexemes token.null = lexer.token token.null ∷ []
lexemes bad = []

-- after a value stands a comma, a closing bracket, or the line feed
ended : (ts : List Token) → ends_word (print_from true ts ++ 10 ∷ []) ≡ true
unfolding print_from
ended [] = refl
ended (begin_object ∷ ts) = refl
ended (end_object ∷ ts) = refl
ended (begin_array ∷ ts) = refl
ended (end_array ∷ ts) = refl
ended (key s ∷ ts) = refl
ended (token.string s ∷ ts) = refl
ended (token.number s ∷ ts) = refl
ended (token.boolean b ∷ ts) = refl
ended (token.null ∷ ts) = refl
ended (bad ∷ ts) = refl

ended_too : (ts : List Token) → ends_word (print_from true ts) ≡ true
unfolding print_from
ended_too [] = refl
ended_too (begin_object ∷ ts) = refl
ended_too (end_object ∷ ts) = refl
ended_too (begin_array ∷ ts) = refl
ended_too (end_array ∷ ts) = refl
ended_too (key s ∷ ts) = refl
ended_too (token.string s ∷ ts) = refl
ended_too (token.number s ∷ ts) = refl
ended_too (token.boolean b ∷ ts) = refl
ended_too (token.null ∷ ts) = refl
ended_too (bad ∷ ts) = refl

lex-quoted : (s r : List ℕ) → lex between (quoted s ++ r) ≡ lexer.token (token.string s) ∷ lex between r
unfolding lex
lex-quoted s r =
    let e = append_assoc (escape s) (34 ∷ []) r in
    ap (λ l. lex between (34 ∷ l)) e ∙ ap₂ (λ o l. lexer.token (string_token o) ∷ l) (content-escape s r) (lex-escape s r)

lex-token : (t : Token) (r : List ℕ) → IsPrintable t → (ends t ≡ true → ends_word r ≡ true) → lex between (token_text t ++ r) ≡ lexemes t ++ lex between r
unfolding lex word lexemes
lex-token begin_object r h end = refl
lex-token end_object r h end = refl
lex-token begin_array r h end = refl
lex-token end_array r h end = refl
lex-token (key s) r h end = ap (lex between) (append_assoc (quoted s) (58 ∷ []) r) ∙ lex-quoted s (58 ∷ r)
lex-token (token.string s) r h end = lex-quoted s r
lex-token (token.number s) r h end = lex-number s r h (end refl)
lex-token (token.boolean true) r h end = ap₂ (λ b l. lexer.token (cond b (token.boolean true) bad) ∷ l) (end refl) (in_word-ended r (end refl))
lex-token (token.boolean false) r h end = ap₂ (λ b l. lexer.token (cond b (token.boolean false) bad) ∷ l) (end refl) (in_word-ended r (end refl))
lex-token token.null r h end = ap₂ (λ b l. lexer.token (cond b token.null bad) ∷ l) (end refl) (in_word-ended r (end refl))
lex-token bad r h end = absurd h

lex-separator : (b : Bool) (r s : List ℕ) → lex between r ≡ lex between s → lex between (cond b (44 ∷ []) [] ++ r) ≡ lex between (cond b (44 ∷ []) [] ++ s)
unfolding lex
lex-separator true r s e = ap (λ l. comma ∷ l) e
lex-separator false r s e = e

lex-line : (c : Bool) (ts : List Token) → ArePrintable ts → lex between (print_from c ts ++ 10 ∷ []) ≡ lex between (print_from c ts)
unfolding lex print_from ArePrintable
lex-line c [] h = refl
lex-line c (t ∷ ts) h =
    let rest = print_from (ends t) ts in
    ap (lex between) (append_assoc (separator c t) (token_text t ++ rest) (10 ∷ []) ∙ ap (λ s. separator c t ++ s) (append_assoc (token_text t) rest (10 ∷ [])))
    ∙ lex-separator (c && begins t) (token_text t ++ (rest ++ 10 ∷ [])) (token_text t ++ rest)
    (lex-token t (rest ++ 10 ∷ []) h.0 (λ e. ap (λ b. ends_word (print_from b ts ++ 10 ∷ [])) e ∙ ended ts)
    ∙ ap (λ l. lexemes t ++ l) (lex-line (ends t) ts h.1)
    ∙ sym (lex-token t rest h.0 (λ e. ap (λ b. ends_word (print_from b ts)) e ∙ ended_too ts)))

-- ---- the tokens of a plain value are printable

cons_printable : (t : Token) (ts : List Token) → IsPrintable t → ArePrintable ts → ArePrintable (t ∷ ts)
unfolding ArePrintable
cons_printable t ts h hs = (h, hs)

mutual
  unfolding IsPlain ArePlain MembersPlain

  value_printable : (d : Data) (ts : List Token) → IsPlain d → ArePrintable ts → ArePrintable (tree.json_tokens (outline d) ++ ts)
  value_printable null ts is h = cons_printable token.null ts tt h
  value_printable (boolean b) ts is h = cons_printable (token.boolean b) ts tt h
  value_printable (number (unsigned n)) ts is h = cons_printable _ ts (IsNumber-decimal n is) h
  value_printable (number (negative z)) ts is h = absurd is
  value_printable (number (float x)) ts is h = absurd is
  value_printable (string s) ts is h = cons_printable (token.string s) ts tt h
  value_printable (array ds) ts is h = cons_printable begin_array _ tt (items_printable ds ts is h)
  value_printable (object ms) ts is h = cons_printable begin_object _ tt (members_printable ms ts is h)

  items_printable : (ds : Items) (ts : List Token) → ArePlain ds → ArePrintable ts → ArePrintable (tree.items_tokens (items_outline ds) ++ ts)
  items_printable no_items ts is h = cons_printable end_array ts tt h
  items_printable (item d ds) ts is h =
      rw (append_assoc (tree.json_tokens (outline d)) (tree.items_tokens (items_outline ds)) ts) (value_printable d _ is.0 (items_printable ds ts is.1 h))

  members_printable : (ms : Members) (ts : List Token) → MembersPlain ms → ArePrintable ts → ArePrintable (tree.members_tokens (members_outline ms) ++ ts)
  members_printable no_members ts is h = cons_printable end_object ts tt h
  members_printable (member k d ms) ts is h =
      cons_printable (key k) _ tt (rw (append_assoc (tree.json_tokens (outline d)) (tree.members_tokens (members_outline ms)) ts) (value_printable d _ is.0 (members_printable ms ts is.1 h)))

none_printable : ArePrintable []
unfolding ArePrintable
none_printable = tt

plain_printable : (d : Data) → IsPlain d → ArePrintable (tree.json_tokens (outline d))
plain_printable d is = subst ArePrintable (append-nil (tree.json_tokens (outline d))) (value_printable d [] is none_printable)

-- the tokens of a line are those of its text
pub line_tokens : (d : Data) → IsPlain d → tokens (compact_text d ++ 10 ∷ []) ≡ tokens (compact_text d)
line_tokens d is =
    let text = print-outline d in
    ap (λ s. tokens (s ++ 10 ∷ [])) (sym text) ∙ ap (punctuate fresh) (lex-line false (tree.json_tokens (outline d)) (plain_printable d is)) ∙ ap tokens text
