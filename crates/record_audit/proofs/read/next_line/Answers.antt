use Rattle.std.proofs.Common.{◌≡◌, ℕ, List, [], ◌∷◌, ◌++◌, ◌<◌, length, Option, Some, None, ◌⊎◌, inl, inr, refl, Bor}
use Rattle.std.specs.Prelude.{IsNone, IfSome, MatchOption}
use Rattle.urna_base.specs.Words.{cut_at}
use Rattle.vote_record.specs.RecordText.{line_end}
use Rattle.record_audit.proofs.Cutting.{cut_line, cut_shorter, line_unread, rows_cut, rows_uncut}
use Rattle.record_audit.proofs.read.next_line.Goals as goal
use Rattle.record_audit.specs.Fault.{rows_of}
use Rattle.record_audit.specs.Reading.{line_in}

abbrev Parts : Type 0
Parts = Bor (List ℕ) × Bor (List ℕ)

-- what the cut at a line feed says
abbrev Cut : List ℕ → Option Parts → Type 0
Cut text r = MatchOption r (cut_at 10 text ≡ None) (λ x. cut_at 10 text ≡ Some (x.0.now, x.1.now))

none : (text : List ℕ) (r : Option Parts) → Cut text r → IsNone r → (text ≡ []) ⊎ ((rows_of text ≡ text ∷ []) × (line_in text ≡ None))
none [] r h e = inl refl
none (c ∷ text) None h e = inr (rows_uncut c text h, line_unread (c ∷ text) h)
none (c ∷ text) (Some x) h e = absurd (cc)

split : (text : List ℕ) (r : Option Parts) → Cut text r → IfSome r (λ x. rows_of text ≡ (x.0.now ++ line_end) ∷ rows_of x.1.now)
split text None h = tt
split text (Some x) h = rows_cut text (x.0.now, x.1.now) h

line : (text : List ℕ) (r : Option Parts) → Cut text r → IfSome r (λ x. line_in (x.0.now ++ line_end) ≡ Some x.0.now)
line text None h = tt
line text (Some x) h = cut_line text (x.0.now, x.1.now) h

shorter : (text : List ℕ) (r : Option Parts) → Cut text r → IfSome r (λ x. length x.1.now < length text)
shorter text None h = tt
shorter text (Some x) h = cut_shorter text (x.0.now, x.1.now) h

pub returns-clause-none : goal.returns-clause-none
returns-clause-none c = none c.args.text.now c.cut_at.result c.cut_at.ensures

pub returns-clause-split : goal.returns-clause-split
returns-clause-split c = split c.args.text.now c.cut_at.result c.cut_at.ensures

pub returns-clause-line : goal.returns-clause-line
returns-clause-line c = line c.args.text.now c.cut_at.result c.cut_at.ensures

pub returns-clause-shorter : goal.returns-clause-shorter
returns-clause-shorter c = shorter c.args.text.now c.cut_at.result c.cut_at.ensures
