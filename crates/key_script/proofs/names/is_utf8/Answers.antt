use Rattle.std.proofs.Common.{◌≡◌, ℕ, Bool, true, false, List, refl}
use Rattle.std.specs.Prelude.{Result, Ok, Err, MatchResult, is_ok, IsUtf8}
use Rattle.std.specs.Borrow.{Bor}
use Rattle.std.specs.Str.{is_utf8, IsValidUpTo, valid_up_to}
use Rattle.std.specs.declared.str.Utf8Error.{Utf8Error}
use Rattle.std.proofs.lemmas.Str.{is_utf8-from_IsUtf8, IsUtf8-from_is_utf8}
use Rattle.key_script.proofs.names.is_utf8.Goals as goal

-- whether `from_utf8` answers a text
answers_text : (bytes : List ℕ) (r : Result (Bor (List ℕ)) Utf8Error) (b : Bool) → b ≡ is_ok r → MatchResult r (λ s. (s.now ≡ bytes) × IsUtf8 bytes) (λ e. ¬ (IsUtf8 bytes) × IsValidUpTo bytes (valid_up_to e)) → b ≡ is_utf8 bytes
answers_text bytes (Ok s) b e cases = rw (e, is_utf8-from_IsUtf8 bytes cases.1) refl
answers_text bytes (Err error) b e cases = go (is_utf8 bytes) refl
  where
    go : (u : Bool) → is_utf8 bytes ≡ u → b ≡ is_utf8 bytes
    go true is = absurd (cases.0 (IsUtf8-from_is_utf8 bytes is))
    go false is = rw (e, is) refl

pub returns : goal.returns
returns c = answers_text c.args.bytes.now c.from_utf8.result c.is_ok.result c.is_ok.ensures.value c.from_utf8.ensures.cases
