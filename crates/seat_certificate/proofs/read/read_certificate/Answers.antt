use Rattle.std.proofs.Common.{◌≡◌, ◌≢◌, ℕ, List, refl, sym, ◌∙◌, ap}
use Rattle.std.specs.Prelude.{IfOk, Result, Ok, Err}
use Rattle.seat_certificate.specs.declared.certificate.Certificate.{Certificate}
use Rattle.seat_certificate.specs.declared.read.CertTextError.TheVariants as error
use Rattle.seat_certificate.specs.declared.read.CertTextError.{CertTextError}
use Rattle.seat_certificate.specs.Reading.{MatchRead, read_by}
use Rattle.seat_certificate.specs.Text.{IsFirstBadLine, Spells}
use Rattle.seat_certificate.proofs.TextLaws.{bad_read, read_bad, read_spells, spelled_read}
use Rattle.seat_certificate.proofs.read.read_certificate.Goals as goal

abbrev Answer : Type 0
Answer = Result (ℕ × Certificate) CertTextError

abbrev Answered : List ℕ → Answer → Type 0
Answered bytes r = MatchRead r (λ read. read_by bytes ≡ Ok (read.0, read.1)) (λ k. read_by bytes ≡ Err k)

line : (bytes : List ℕ) (r : Answer) → Answered bytes r → (k : ℕ) → r ≡ Err (error.Line k) → IsFirstBadLine bytes k
line bytes (Ok x) h k e = absurd (cc)
line bytes (Err error.Memory) h k e = absurd (cc)
line bytes (Err (error.Line j)) h k e = let same : j ≡ k = cc in read_bad bytes k (h ∙ ap (λ (n : ℕ). Err n) same)

ok_there : (bytes : List ℕ) (r : Answer) → Answered bytes r → r ≢ Err error.Memory → (code : ℕ) (c : Certificate) → Spells bytes code c → r ≡ Ok (code, c)
ok_there bytes (Ok x) h other code c s = let e = sym h ∙ spelled_read bytes code c s in cc
ok_there bytes (Err error.Memory) h other code c s = absurd (other refl)
ok_there bytes (Err (error.Line j)) h other code c s = let e = sym h ∙ spelled_read bytes code c s in absurd (cc)

line_there : (bytes : List ℕ) (r : Answer) → Answered bytes r → r ≢ Err error.Memory → (k : ℕ) → IsFirstBadLine bytes k → r ≡ Err (error.Line k)
line_there bytes (Ok x) h other k bad = let e = sym h ∙ bad_read bytes k bad in absurd (cc)
line_there bytes (Err error.Memory) h other k bad = absurd (other refl)
line_there bytes (Err (error.Line j)) h other k bad = let e = sym h ∙ bad_read bytes k bad in cc

ok : (bytes : List ℕ) (r : Answer) → Answered bytes r → IfOk r (λ read. Spells bytes read.0 read.1)
ok bytes (Ok x) h = read_spells bytes x.0 x.1 h
ok bytes (Err e) h = tt

pub returns-clause-ok : goal.returns-clause-ok
returns-clause-ok c = ok c.args.bytes.now c.read_all.result c.read_all.ensures

pub returns-clause-line : goal.returns-clause-line
returns-clause-line c = line c.args.bytes.now c.read_all.result c.read_all.ensures

pub returns-clause-ok_there : goal.returns-clause-ok_there
returns-clause-ok_there c = ok_there c.args.bytes.now c.read_all.result c.read_all.ensures

pub returns-clause-line_there : goal.returns-clause-line_there
returns-clause-line_there c = line_there c.args.bytes.now c.read_all.result c.read_all.ensures
