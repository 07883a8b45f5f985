use Rattle.std.proofs.Common.{◌≡◌, ℕ, List, refl}
use Rattle.std.specs.Prelude.{Result, Ok, Err, MatchResult, IsOk, IsUtf8}
use Rattle.std.specs.Borrow.{Bor}
use Rattle.std.specs.Str.{IsValidUpTo, valid_up_to}
use Rattle.std.specs.declared.str.Utf8Error.{Utf8Error}
use Rattle.key_script.proofs.NameLaws.{is_name-utf8}
use Rattle.key_script.proofs.names.Names.name.Goals as goal

-- a text is answered
is_answered : (bytes : List ℕ) (r : Result (Bor (List ℕ)) Utf8Error) → IsUtf8 bytes → MatchResult r (λ s. (s.now ≡ bytes) × IsUtf8 bytes) (λ e. ¬ (IsUtf8 bytes) × IsValidUpTo bytes (valid_up_to e)) → IsOk r
is_answered bytes (Ok s) text cases = refl
is_answered bytes (Err error) text cases = absurd (cases.0 text)

pub unwrap-requires : goal.unwrap-requires
unwrap-requires c = is_answered c.line.result.now c.from_utf8.result (is_name-utf8 c.line.result.now c.line.ensures.name) c.from_utf8.ensures.cases
