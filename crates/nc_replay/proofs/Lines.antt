-- Which lines of a report tell an event.
use Rattle.std.proofs.Common.{◌≡◌, ℕ, ◌+◌, List, [], ◌∷◌, ◌++◌, Option, Some, None, refl, sym, ap, ◌∙◌, append_assoc, append-nil}
use Rattle.std.specs.Prelude.{◌==◌, decimal, codes, flat_map}
use Rattle.std.specs.List.{filter_map, cons_option}
use Rattle.std.proofs.lemmas.List.Splits.{slice_split_at}
use Rattle.hex.specs.Hex.{encode_lower}
use Rattle.nc_scen.specs.declared.scenario.BufferSpec.{BufferSpec}
use Rattle.nc_scen.specs.declared.scenario.Scenario.{Scenario}
use Rattle.nc_rules.specs.declared.records.Record.{Record}
use Rattle.nc_rules.specs.declared.records.Record.TheVariants as records
use Rattle.nc_rules.specs.Driver.{DriverState, left_op}
use Rattle.nc_rules.specs.Lines.{words, phrase, hex_digits, place, hart, token, kind, actor, owner, operation, answer, target, origin, tried, heard, line, buffer_lines, left_line, left_lines, end_line, tail}
use Rattle.nc_rules.specs.View.{bytes_of}
use Rattle.nc_rules.specs.World.{WorldState}
use Rattle.nc_replay.specs.Texts.{event_token, event_tokens}
use Rattle.nc_replay.proofs.Plain.{IsPlain, ArePlain, no_feeds, plain_decimal, plain_hex, plain_bytes, plain_phrase, words_are}
use Rattle.nc_replay.proofs.Parts.{plain_token, plain_kind, plain_actor, plain_owner, plain_operation, plain_answer, plain_target, plain_origin, plain_tried, plain_heard}

cut : (text rest : List ℕ) → IsPlain text → event_tokens (text ++ 10 ∷ rest) ≡ cons_option (event_token text) (event_tokens rest)
cut text rest plain = ap (filter_map event_token) (slice_split_at (λ c. c == 10) text 10 rest (no_feeds text plain) refl)

first_line : (ws : List (List ℕ)) (rest : List ℕ) → ArePlain ws → event_tokens (words ws ++ rest) ≡ cons_option (event_token (phrase ws)) (event_tokens rest)
first_line ws rest plain = ap event_tokens (words_are ws rest) ∙ cut (phrase ws) rest (plain_phrase ws plain)

-- a line that does not begin with `e` and a blank
other : (ws : List (List ℕ)) (rest : List ℕ) → event_token (phrase ws) ≡ None → ArePlain ws → event_tokens (words ws ++ rest) ≡ event_tokens rest
other ws rest none plain = first_line ws rest plain ∙ ap (λ (t : Option (List ℕ)). cons_option t (event_tokens rest)) none

-- ---- records

-- the token of a record's line
abbrev pub told : Record → List (List ℕ)
told (records.Event e) = token e ∷ []
told _ = []

line_tells : (r : Record) (rest : List ℕ) → event_tokens (line r ++ rest) ≡ told r ++ event_tokens rest
line_tells (records.Event e) rest = first_line (codes "e" ∷ token e ∷ []) rest (refl, (plain_token e, tt))
line_tells (records.Touched t) rest =
    other (codes "touch" ∷ kind t.kind ∷ actor t.who ∷ hex_digits 6 t.span.at ∷ decimal t.span.len ∷ owner t.holder ∷ []) rest refl
    (refl, (plain_kind t.kind, (plain_actor t.who, (plain_hex 6 t.span.at, (plain_decimal t.span.len, (plain_owner t.holder, tt))))))
line_tells (records.Ld h at bytes) rest = other (codes "ld" ∷ hart h ∷ place at ∷ encode_lower bytes ∷ []) rest refl (refl, (plain_decimal h.0, (plain_hex 6 at.0, (plain_bytes bytes, tt))))
line_tells (records.St h at bytes) rest = other (codes "st" ∷ hart h ∷ place at ∷ encode_lower bytes ∷ []) rest refl (refl, (plain_decimal h.0, (plain_hex 6 at.0, (plain_bytes bytes, tt))))
line_tells (records.Pl h at bytes) rest = other (codes "pl" ∷ hart h ∷ place at ∷ encode_lower bytes ∷ []) rest refl (refl, (plain_decimal h.0, (plain_hex 6 at.0, (plain_bytes bytes, tt))))
line_tells (records.Ps h at bytes) rest = other (codes "ps" ∷ hart h ∷ place at ∷ encode_lower bytes ∷ []) rest refl (refl, (plain_decimal h.0, (plain_hex 6 at.0, (plain_bytes bytes, tt))))
line_tells (records.Cbo h op at) rest = other (codes "cbo" ∷ hart h ∷ operation op ∷ place at ∷ []) rest refl (refl, (plain_decimal h.0, (plain_operation op, (plain_hex 6 at.0, tt))))
line_tells (records.Fence h pred succ) rest = other (codes "fence" ∷ hart h ∷ decimal pred ∷ decimal succ ∷ []) rest refl (refl, (plain_decimal h.0, (plain_decimal pred, (plain_decimal succ, tt))))
line_tells (records.Mark h pred succ) rest = other (codes "mark" ∷ hart h ∷ decimal pred ∷ decimal succ ∷ []) rest refl (refl, (plain_decimal h.0, (plain_decimal pred, (plain_decimal succ, tt))))
line_tells (records.Io h to) rest = other (codes "io" ∷ hart h ∷ target to ∷ []) rest refl (refl, (plain_decimal h.0, (plain_target to, tt)))
line_tells (records.DrStore h at bytes) rest = other (codes "dr" ∷ hart h ∷ place at ∷ encode_lower bytes ∷ []) rest refl (refl, (plain_decimal h.0, (plain_hex 6 at.0, (plain_bytes bytes, tt))))
line_tells (records.DrCbo h op at) rest = other (codes "dr" ∷ hart h ∷ operation op ∷ place at ∷ []) rest refl (refl, (plain_decimal h.0, (plain_operation op, (plain_hex 6 at.0, tt))))
line_tells (records.DrIo h to) rest = other (codes "dr" ∷ hart h ∷ target to ∷ []) rest refl (refl, (plain_decimal h.0, (plain_target to, tt)))
line_tells (records.DrMark h) rest = other (codes "dr" ∷ hart h ∷ codes "mark" ∷ []) rest refl (refl, (plain_decimal h.0, (refl, tt)))
line_tells (records.Fill h at from) rest = other (codes "fill" ∷ hart h ∷ place at ∷ origin from ∷ []) rest refl (refl, (plain_decimal h.0, (plain_hex 6 at.0, (plain_origin from, tt))))
line_tells (records.Own h at from) rest = other (codes "own" ∷ hart h ∷ place at ∷ origin from ∷ []) rest refl (refl, (plain_decimal h.0, (plain_hex 6 at.0, (plain_origin from, tt))))
line_tells (records.Wb h at bytes) rest = other (codes "wb" ∷ hart h ∷ place at ∷ encode_lower bytes ∷ []) rest refl (refl, (plain_decimal h.0, (plain_hex 6 at.0, (plain_bytes bytes, tt))))
line_tells (records.Drop h at) rest = other (codes "drop" ∷ hart h ∷ place at ∷ []) rest refl (refl, (plain_decimal h.0, (plain_hex 6 at.0, tt)))
line_tells (records.Cr chan at bytes) rest = other (codes "cr" ∷ decimal chan.0 ∷ place at ∷ encode_lower bytes ∷ []) rest refl (refl, (plain_decimal chan.0, (plain_hex 6 at.0, (plain_bytes bytes, tt))))
line_tells (records.Cw chan at bytes) rest = other (codes "cw" ∷ decimal chan.0 ∷ place at ∷ encode_lower bytes ∷ []) rest refl (refl, (plain_decimal chan.0, (plain_hex 6 at.0, (plain_bytes bytes, tt))))
line_tells (records.Cd chan) rest = other (codes "cd" ∷ decimal chan.0 ∷ []) rest refl (refl, (plain_decimal chan.0, tt))
line_tells (records.Ce chan bus len) rest = other (codes "ce" ∷ decimal chan.0 ∷ hex_digits 16 bus ∷ decimal len ∷ []) rest refl (refl, (plain_decimal chan.0, (plain_hex 16 bus, (plain_decimal len, tt))))
line_tells (records.Ow span to) rest =
    other (codes "ow" ∷ hex_digits 6 span.at ∷ decimal span.len ∷ owner to ∷ []) rest refl (refl, (plain_hex 6 span.at, (plain_decimal span.len, (plain_owner to, tt))))
line_tells (records.Try h word found) rest = other (codes "try" ∷ hart h ∷ decimal word ∷ tried found ∷ []) rest refl (refl, (plain_decimal h.0, (plain_decimal word, (plain_tried found, tt))))
line_tells (records.Told h word found) rest = other (codes "told" ∷ hart h ∷ decimal word ∷ heard found ∷ []) rest refl (refl, (plain_decimal h.0, (plain_decimal word, (plain_heard found, tt))))
line_tells (records.Back h word) rest = other (codes "back" ∷ hart h ∷ decimal word ∷ []) rest refl (refl, (plain_decimal h.0, (plain_decimal word, tt)))
line_tells (records.Ans h op a) rest = other (codes "ans" ∷ hart h ∷ decimal op ∷ answer a ∷ []) rest refl (refl, (plain_decimal h.0, (plain_decimal op, (plain_answer a, tt))))

pub lines_tell : (rs : List Record) (rest : List ℕ) → event_tokens (flat_map line rs ++ rest) ≡ flat_map told rs ++ event_tokens rest
lines_tell [] rest = refl
lines_tell (r ∷ rs) rest =
    ap event_tokens (append_assoc (line r) (flat_map line rs) rest) ∙ line_tells r (flat_map line rs ++ rest)
    ∙ ap (λ (ts : List (List ℕ)). told r ++ ts) (lines_tell rs rest) ∙ sym (append_assoc (told r) (flat_map told rs) (event_tokens rest))

-- ---- behind the records

buffers_tell : (w : WorldState) (i : ℕ) (bs : List BufferSpec) (rest : List ℕ) → event_tokens (buffer_lines w i bs ++ rest) ≡ event_tokens rest
buffers_tell w i [] rest = refl
buffers_tell w i (b ∷ bs) rest =
    let ws = codes "buf" ∷ decimal i ∷ encode_lower (bytes_of w.machine b.span) ∷ [] in
    ap event_tokens (append_assoc (words ws) (buffer_lines w (i + 1) bs) rest)
    ∙ other ws (buffer_lines w (i + 1) bs ++ rest) refl (refl, (plain_decimal i, (plain_bytes (bytes_of w.machine b.span), tt))) ∙ buffers_tell w (i + 1) bs rest

one_left_tells : (h : ℕ) (n : Option ℕ) (rest : List ℕ) → event_tokens (left_line h n ++ rest) ≡ event_tokens rest
one_left_tells h None rest = refl
one_left_tells h (Some n) rest = other (codes "left" ∷ decimal h ∷ decimal n ∷ []) rest refl (refl, (plain_decimal h, (plain_decimal n, tt)))

left_tells : (h : ℕ) (ds : List DriverState) (rest : List ℕ) → event_tokens (left_lines h ds ++ rest) ≡ event_tokens rest
left_tells h [] rest = refl
left_tells h (d ∷ ds) rest =
    ap event_tokens (append_assoc (left_line h (left_op d)) (left_lines (h + 1) ds) rest) ∙ one_left_tells h (left_op d) (left_lines (h + 1) ds ++ rest) ∙ left_tells (h + 1) ds rest

end_tells : (w : WorldState) → event_tokens (end_line w) ≡ []
end_tells w =
    let ws = codes "end" ∷ codes "events" ∷ decimal w.events ∷ codes "touches" ∷ decimal w.touches ∷ [] in
    ap event_tokens (sym (append-nil (words ws))) ∙ other ws [] refl (refl, (refl, (plain_decimal w.events, (refl, (plain_decimal w.touches, tt)))))

pub tail_tells : (sc : Scenario) (w : WorldState) → event_tokens (tail sc w) ≡ []
unfolding tail
tail_tells sc w =
    ap event_tokens (append_assoc (buffer_lines w 0 sc.buffers) (left_lines 0 w.drivers) (end_line w))
    ∙ buffers_tell w 0 sc.buffers (left_lines 0 w.drivers ++ end_line w) ∙ left_tells 0 w.drivers (end_line w) ∙ end_tells w
