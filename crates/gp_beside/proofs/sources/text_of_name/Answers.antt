use Rattle.std.proofs.Common.{◌≡◌, ℕ, Bool, true, false, List, refl}
use Rattle.std.specs.Str.{IsUtf8, is_utf8}
use Rattle.std.proofs.lemmas.Str.{IsUtf8-from_is_utf8, is_utf8-from_IsUtf8}
use Rattle.gp_beside.proofs.sources.text_of_name.Goals as goal

not_text : (bytes : List ℕ) → ¬ (IsUtf8 bytes) → is_utf8 bytes ≡ false
not_text bytes other = at (is_utf8 bytes) refl
  where
    at : (test : Bool) → is_utf8 bytes ≡ test → test ≡ false
    at true is = absurd (other (IsUtf8-from_is_utf8 bytes is))
    at false is = refl

pub returns-in-Ok : goal.returns-in-Ok
returns-in-Ok c = rw (c.in-Ok.ensures.cases.0, is_utf8-from_IsUtf8 c.args.name.now c.in-Ok.ensures.cases.1)

pub returns-in-Err : goal.returns-in-Err
returns-in-Err c = rw (not_text c.args.name.now c.in-Err.ensures.cases.0)
