use Rattle.std.proofs.Common.{◌≡◌, ap, true, false, Bool, List, ℕ, None, refl}
use Rattle.std.specs.Str.{IsUtf8, is_utf8}
use Rattle.std.proofs.lemmas.Str.{is_utf8-from_IsUtf8, IsUtf8-from_is_utf8}
use Rattle.serde_json.specs.Read.{read}
use Rattle.nc_values.specs.Json.{json_of, json_value}
use Rattle.nc_values.proofs.json.value_of.Goals as goal

unread : (bytes : List ℕ) (valid : Bool) → is_utf8 bytes ≡ valid → (IsUtf8 bytes → read bytes ≡ None) → json_of bytes ≡ None
unread bytes true e h = rw (e, h (IsUtf8-from_is_utf8 bytes e)) refl
unread bytes false e h = rw e refl

pub returns-in-Ok : goal.returns-in-Ok
returns-in-Ok c = rw (is_utf8-from_IsUtf8 _ c.in-Ok.ensures.ok.0, c.in-Ok.ensures.ok.1) refl

pub returns-in_default : goal.returns-in_default
returns-in_default c =
    ap json_value (unread c.args.bytes.now _ refl (c.in-Err.ensures.err (λ memory. c.in_default.not-Memory (c.classify.ensures.memory.1 memory))))
