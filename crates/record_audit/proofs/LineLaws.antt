-- One line of a record text, written and read.
use Rattle.std.proofs.Common.{◌≡◌, ℕ, ◌<◌, ◌≤◌, ◌^◌, Bool, true, false, not, cond, List, [], ◌∷◌, ◌++◌, length, Option, Some, None, option_map, refl, sym, ap, ◌∙◌, subst, inl, inr, arith, lit<}
use Rattle.std.specs.Prelude.{◌==◌, ◌&&◌, codes, is_some, nat_lt, pos}
use Rattle.std.specs.Fmt.{decimal}
use Rattle.std.specs.List.{list_all, list_any}
use Rattle.std.specs.Option.{option_and_then}
use Rattle.std.specs.Str.{bytes_eq}
use Rattle.std.proofs.lemmas.Bool.{and_from, cases_Bool}
use Rattle.std.proofs.lemmas.Bool.Decides.{nat_tests}
use Rattle.std.proofs.lemmas.Slice.Eq.{bytes_eq-Decides}
use Rattle.urna_base.specs.Digits.{decimal_value, digits_value, is_digit, padded, decimal_within}
use Rattle.urna_base.specs.Moment.{is_between, is_date}
use Rattle.urna_base.specs.Words.{after_word, cut_at}
use Rattle.urna_base.proofs.Cases.{and_then_some, guard_some, map_some}
use Rattle.urna_base.proofs.CutLaws.{cut_behind, cut_parts}
use Rattle.urna_base.proofs.Lacking.{digits_lack}
use Rattle.urna_base.proofs.DecimalLaws.{all_digits, decimal-decimal_value, decimal_value-decimal, within_read, within_written}
use Rattle.urna_base.proofs.DigitLaws.{all_digits-padded, both_from_and, digits_value-padded, padded-digits_value}
use Rattle.urna_base.proofs.MomentLaws.{is_date-below}
use Rattle.urna_base.proofs.WordLaws.{after_word-append, after_word-some}
use Rattle.election_tables.specs.Fields.{has_digits, is_within}
use Rattle.election_tables.specs.Limits.{greatest_process, greatest_section, most_offices}
use Rattle.election_tables.specs.Offices.{code_digits, code_proportional, greatest_code}
use Rattle.election_tables.proofs.Kept.{code_in_range, has_digits-below}
use Rattle.vote_kinds.specs.declared.choice.Choice.{Choice}
use Rattle.vote_kinds.specs.declared.choice.Choice.TheVariants as choice
use Rattle.vote_record.specs.RecordText.{heading_words, office_words, vote_words}
use Rattle.poll_report.proofs.Digits.{digits_few}
use Rattle.poll_report.specs.Report.{digits_in, may_have_code}
use Rattle.record_audit.specs.Reading.{candidate_in, cell, choice_in, date_cell, date_in, heading_in, number_cell, office_in, party_in, section_in}
use Rattle.record_audit.specs.Spelling.{IsHeading, heading_of, may_vote, most_votes}
use Rattle.record_audit.specs.declared.text.RecordText.{RecordText}

-- ---- one step behind another

bind_is : {A B : Type 0} (o : Option A) (x : A) (f : A → Option B) (y : Option B) → o ≡ Some x → f x ≡ y → option_and_then f o ≡ y
bind_is o x f y e h = rw e h

map_is : {A B : Type 0} (o : Option A) (x : A) (f : A → B) (y : B) → o ≡ Some x → f x ≡ y → option_map f o ≡ Some y
map_is o x f y e h = rw (e, h) refl

-- ---- dates

-- a date has at most eight digits
pub date_small : (n : ℕ) → is_date n ≡ true → n < 10 ^ 8
date_small n h = is_date-below n h

pub date_written : (n : ℕ) → is_date n ≡ true → date_in (padded 8 n) ≡ Some n
unfolding date_in
date_written n h = rw (digits_value-padded 8 n (is_date-below n h), h) refl

pub date_read : (n : ℕ) (text : List ℕ) → date_in text ≡ Some n → (text ≡ padded 8 n) × (is_date n ≡ true)
unfolding date_in
date_read n text h =
    let inner = and_then_some (digits_value 8 text) _ n h in
    let both = guard_some (is_date inner.0) (Some inner.0) n inner.2 in
    let same : inner.0 ≡ n = cc in
    (sym (padded-digits_value 8 text inner.0 inner.1) ∙ ap (λ (m : ℕ). padded 8 m) same, rw (← same) both.0)

-- ---- a word and a number

cell_written : (word t rest : List ℕ) → list_all is_digit t ≡ true → cell word (word ++ (t ++ 32 ∷ rest)) ≡ Some (t, rest)
unfolding cell
cell_written word t rest h = bind_is _ _ _ _ (after_word-append word (t ++ 32 ∷ rest)) (cut_behind 32 t rest (digits_lack 32 t (inl (lit< tt)) h))

cell_read : (word text : List ℕ) (x : List ℕ × List ℕ) → cell word text ≡ Some x → text ≡ word ++ (x.0 ++ 32 ∷ x.1)
unfolding cell
cell_read word text x h =
    let inner = and_then_some (after_word word text) (cut_at 32) x h in
    after_word-some word text inner.0 inner.1 ∙ ap (λ (l : List ℕ). word ++ l) (cut_parts 32 inner.0 x inner.2)

pub number_cell_written : (word rest : List ℕ) (low high n : ℕ) → is_between low high n ≡ true → n < 10 ^ 18
    → number_cell word low high (word ++ (decimal n ++ 32 ∷ rest)) ≡ Some (n, rest)
unfolding number_cell
number_cell_written word rest low high n h small =
    bind_is _ _ _ _ (cell_written word (decimal n) rest (all_digits n small)) (map_is _ _ _ _ (within_written low high n h small) refl)

pub number_cell_read : (word text : List ℕ) (low high : ℕ) (x : ℕ × List ℕ) → number_cell word low high text ≡ Some x
    → (text ≡ word ++ (decimal x.0 ++ 32 ∷ x.1)) × (is_between low high x.0 ≡ true)
unfolding number_cell
number_cell_read word text low high x h =
    let outer = and_then_some (cell word text) _ x h in
    let inner = map_some (λ (m : ℕ). (m, outer.0.1)) (decimal_within low high outer.0.0) x outer.2 in
    let pair : (inner.0, outer.0.1) ≡ x = inner.2 in
    let number = within_read low high inner.0 outer.0.0 inner.1 in
    rw (← pair) (cell_read word text outer.0 outer.1 ∙ ap (λ (l : List ℕ). word ++ (l ++ 32 ∷ outer.0.1)) number.printed, number.within)

pub date_cell_written : (word rest : List ℕ) (n : ℕ) → is_date n ≡ true → date_cell word (word ++ (padded 8 n ++ 32 ∷ rest)) ≡ Some (n, rest)
unfolding date_cell
date_cell_written word rest n h =
    bind_is _ _ _ _ (cell_written word (padded 8 n) rest (all_digits-padded 8 n)) (map_is _ _ _ _ (date_written n h) refl)

pub date_cell_read : (word text : List ℕ) (x : ℕ × List ℕ) → date_cell word text ≡ Some x
    → (text ≡ word ++ (padded 8 x.0 ++ 32 ∷ x.1)) × (is_date x.0 ≡ true)
unfolding date_cell
date_cell_read word text x h =
    let outer = and_then_some (cell word text) _ x h in
    let inner = map_some (λ (m : ℕ). (m, outer.0.1)) (date_in outer.0.0) x outer.2 in
    let pair : (inner.0, outer.0.1) ≡ x = inner.2 in
    let date = date_read inner.0 outer.0.0 inner.1 in
    rw (← pair) (cell_read word text outer.0 outer.1 ∙ ap (λ (l : List ℕ). word ++ (l ++ 32 ∷ outer.0.1)) date.0, date.1)

pub small : (low high n : ℕ) → high < 10 ^ 18 → is_between low high n ≡ true → n < 10 ^ 18
small low high n few h = grind (arith, nat_tests)

-- ---- the second line

-- no office is read yet
abbrev pub without_offices : RecordText → RecordText
without_offices r = record { process = r.process; date = r.date; turn = r.turn; zone = r.zone; section = r.section; offices = [] }

section_written : (n : ℕ) → is_between 1 greatest_section n ≡ true → section_in (codes "SECA " ++ decimal n) ≡ Some n
unfolding section_in
section_written n h = bind_is _ _ (decimal_within 1 greatest_section) _ (after_word-append (codes "SECA ") (decimal n)) (within_written 1 greatest_section n h (small 1 greatest_section n (lit< tt) h))

section_read : (text : List ℕ) (n : ℕ) → section_in text ≡ Some n → (text ≡ codes "SECA " ++ decimal n) × (is_between 1 greatest_section n ≡ true)
unfolding section_in
section_read text n h =
    let behind = and_then_some (after_word (codes "SECA ") text) (decimal_within 1 greatest_section) n h in
    let number = within_read 1 greatest_section n behind.0 behind.2 in
    (after_word-some (codes "SECA ") text behind.0 behind.1 ∙ ap (λ (l : List ℕ). codes "SECA " ++ l) number.printed, number.within)

heading_parts : (line : List ℕ) (p d t z : ℕ × List ℕ) (s : ℕ) → number_cell (codes "PROC ") 1 greatest_process line ≡ Some p
    → date_cell (codes "DTPL ") p.1 ≡ Some d
    → number_cell (codes "TURN ") 1 2 d.1 ≡ Some t
    → number_cell (codes "ZONA ") 1 greatest_section t.1 ≡ Some z
    → section_in z.1 ≡ Some s
    → heading_in line ≡ Some (record { process = p.0; date = d.0; turn = t.0; zone = z.0; section = s; offices = [] })
unfolding heading_in
heading_parts line p d t z s a b c e f = rw (a, b, c, e, f) refl

pub heading_written : (r : RecordText) → IsHeading r → heading_in (heading_of r) ≡ Some (without_offices r)
unfolding heading_words
heading_written r is =
    let sections : List ℕ = codes "SECA " ++ decimal r.section in
    let zones : List ℕ = codes "ZONA " ++ (decimal r.zone ++ 32 ∷ sections) in
    let turns : List ℕ = codes "TURN " ++ (decimal r.turn ++ 32 ∷ zones) in
    let dates : List ℕ = codes "DTPL " ++ (padded 8 r.date ++ 32 ∷ turns) in
    heading_parts (heading_of r) (r.process, dates) (r.date, turns) (r.turn, zones) (r.zone, sections) r.section
    (number_cell_written (codes "PROC ") dates 1 greatest_process r.process is.process (small 1 greatest_process r.process (lit< tt) is.process))
    (date_cell_written (codes "DTPL ") turns r.date is.date)
    (number_cell_written (codes "TURN ") zones 1 2 r.turn is.turn (small 1 2 r.turn (lit< tt) is.turn))
    (number_cell_written (codes "ZONA ") sections 1 greatest_section r.zone is.zone (small 1 greatest_section r.zone (lit< tt) is.zone))
    (section_written r.section is.section)

-- what the second line says
pub record Headed (line : List ℕ) (r : RecordText) : Type 0 where
  pub heading : IsHeading r
  pub same : line ≡ heading_of r
  pub none : r.offices ≡ []

heading_from : (line : List ℕ) (p d t z : ℕ × List ℕ) (s : ℕ) → number_cell (codes "PROC ") 1 greatest_process line ≡ Some p
    → date_cell (codes "DTPL ") p.1 ≡ Some d
    → number_cell (codes "TURN ") 1 2 d.1 ≡ Some t
    → number_cell (codes "ZONA ") 1 greatest_section t.1 ≡ Some z
    → section_in z.1 ≡ Some s
    → Headed line (record { process = p.0; date = d.0; turn = t.0; zone = z.0; section = s; offices = [] })
unfolding heading_words
heading_from line p d t z s a b c e f =
    let process = number_cell_read (codes "PROC ") line 1 greatest_process p a in
    let date = date_cell_read (codes "DTPL ") p.1 d b in
    let turn = number_cell_read (codes "TURN ") d.1 1 2 t c in
    let zone = number_cell_read (codes "ZONA ") t.1 1 greatest_section z e in
    let section = section_read z.1 s f in
    let zones : t.1 ≡ codes "ZONA " ++ (decimal z.0 ++ 32 ∷ (codes "SECA " ++ decimal s)) = zone.0 ∙ ap (λ (l : List ℕ). codes "ZONA " ++ (decimal z.0 ++ 32 ∷ l)) section.0 in
    let turns : d.1 ≡ codes "TURN " ++ (decimal t.0 ++ 32 ∷ (codes "ZONA " ++ (decimal z.0 ++ 32 ∷ (codes "SECA " ++ decimal s))))
    = turn.0 ∙ ap (λ (l : List ℕ). codes "TURN " ++ (decimal t.0 ++ 32 ∷ l)) zones in
    let dates : p.1 ≡ codes "DTPL " ++ (padded 8 d.0 ++ 32 ∷ (codes "TURN " ++ (decimal t.0 ++ 32 ∷ (codes "ZONA " ++ (decimal z.0 ++ 32 ∷ (codes "SECA " ++ decimal s))))))
    = date.0 ∙ ap (λ (l : List ℕ). codes "DTPL " ++ (padded 8 d.0 ++ 32 ∷ l)) turns in
    record {
      heading = record { process = process.1; date = date.1; turn = turn.1; zone = zone.1; section = section.1 };
      same = process.0 ∙ ap (λ (l : List ℕ). codes "PROC " ++ (decimal p.0 ++ 32 ∷ l)) dates;
      none = refl;
    }

pub heading_read : (line : List ℕ) (r : RecordText) → heading_in line ≡ Some r → Headed line r
unfolding heading_in
heading_read line r h =
    let a = and_then_some (number_cell (codes "PROC ") 1 greatest_process line) _ r h in
    let b = and_then_some (date_cell (codes "DTPL ") a.0.1) _ r a.2 in
    let c = and_then_some (number_cell (codes "TURN ") 1 2 b.0.1) _ r b.2 in
    let d = and_then_some (number_cell (codes "ZONA ") 1 greatest_section c.0.1) _ r c.2 in
    let e = map_some _ (section_in d.0.1) r d.2 in
    subst (λ (q : RecordText). Headed line q) e.2 (heading_from line a.0 b.0 c.0 d.0 e.0 a.1 b.1 c.1 d.1 e.1)

-- ---- the line of an office

-- a code that an office may have isn't above the greatest
within : (n : ℕ) → is_within 1 greatest_code (pos n) ≡ true → is_between 0 greatest_code n ≡ true
within n h = grind (arith, nat_tests)

pub code_within : (before : List ℕ) (code : ℕ) → may_have_code before code ≡ true → is_between 0 greatest_code code ≡ true
code_within before code h =
    let behind = (both_from_and (nat_lt (length before) most_offices) (is_some (code_digits code) && not (list_any (λ (c : ℕ). c == code) before)) h).1 in
    within code (code_in_range code (both_from_and (is_some (code_digits code)) (not (list_any (λ (c : ℕ). c == code) before)) behind).0)

votes_within : (votes : ℕ) → votes ≤ most_votes → is_between 0 most_votes votes ≡ true
votes_within votes h = grind (arith, nat_tests)

votes_few : (votes : ℕ) → is_between 0 most_votes votes ≡ true → votes ≤ most_votes
votes_few votes h = grind (arith, nat_tests)

office_parts : (before line : List ℕ) (c : ℕ × List ℕ) (votes : ℕ) → number_cell (codes "CARG ") 0 greatest_code line ≡ Some c
    → decimal_within 0 most_votes c.1 ≡ Some votes
    → may_have_code before c.0 ≡ true
    → office_in before line ≡ Some (c.0, votes)
unfolding office_in
office_parts before line c votes a b may = rw (a, b, may) refl

pub office_written : (before : List ℕ) (code votes : ℕ) → may_have_code before code ≡ true → votes ≤ most_votes
    → office_in before (office_words code votes) ≡ Some (code, votes)
unfolding office_words
office_written before code votes may few =
    let known = code_within before code may in
    let some = votes_within votes few in
    office_parts before (office_words code votes) (code, decimal votes) votes
    (number_cell_written (codes "CARG ") (decimal votes) 0 greatest_code code known (small 0 greatest_code code (lit< tt) known))
    (within_written 0 most_votes votes some (small 0 most_votes votes (lit< tt) some)) may

-- what the line of an office says
pub record Opened (before line : List ℕ) (x : ℕ × ℕ) : Type 0 where
  pub may : may_have_code before x.0 ≡ true
  pub few : x.1 ≤ most_votes
  pub same : line ≡ office_words x.0 x.1

office_from : (before line : List ℕ) (c : ℕ × List ℕ) (votes : ℕ) → number_cell (codes "CARG ") 0 greatest_code line ≡ Some c
    → decimal_within 0 most_votes c.1 ≡ Some votes
    → may_have_code before c.0 ≡ true
    → Opened before line (c.0, votes)
unfolding office_words
office_from before line c votes a b may =
    let code = number_cell_read (codes "CARG ") line 0 greatest_code c a in
    let number = within_read 0 most_votes votes c.1 b in
    record {
      may = may;
      few = votes_few votes number.within;
      same = code.0 ∙ ap (λ (l : List ℕ). codes "CARG " ++ (decimal c.0 ++ 32 ∷ l)) number.printed;
    }

pub office_read : (before line : List ℕ) (x : ℕ × ℕ) → office_in before line ≡ Some x → Opened before line x
unfolding office_in
office_read before line x h =
    let a = and_then_some (number_cell (codes "CARG ") 0 greatest_code line) _ x h in
    let b = and_then_some (decimal_within 0 most_votes a.0.1) _ x a.2 in
    let both = guard_some (may_have_code before a.0.0) (Some (a.0.0, b.0)) x b.2 in
    let pair : (a.0.0, b.0) ≡ x = cc in
    subst (λ (y : ℕ × ℕ). Opened before line y) pair (office_from before line a.0 b.0 a.1 b.1 both.0)

-- ---- the line of a vote

-- numbers of candidates are small
pub candidate_small : (code n : ℕ) → has_digits (digits_in code) n ≡ true → n ≤ 99999
candidate_small code n h = has_digits-below (digits_in code) n (digits_few code) h

pub candidate_narrow : (code n : ℕ) → has_digits (digits_in code) n ≡ true → n < 2 ^ 32
candidate_narrow code n h = let few = candidate_small code n h in omega arith

pub other_word : (a b : List ℕ) → (a ≡ b → ⊥) → bytes_eq a b ≡ false
other_word a b h = elim (cases_Bool (bytes_eq a b)) [
  | inl e ↦ absurd (h ((bytes_eq-Decides a b).0 e))
  | inr e ↦ e
]

nominal_line : (code n : ℕ) (line text : List ℕ) → bytes_eq line (codes "B") ≡ false → bytes_eq line (codes "X") ≡ false
    → after_word (codes "N ") line ≡ Some text
    → decimal_value text ≡ Some n
    → has_digits (digits_in code) n ≡ true
    → choice_in code line ≡ Some (choice.Nominal n)
unfolding choice_in candidate_in
nominal_line code n line text b x word number may = rw (b, x, word, number, may) refl

party_line : (code n : ℕ) (line text : List ℕ) → bytes_eq line (codes "B") ≡ false → bytes_eq line (codes "X") ≡ false
    → after_word (codes "N ") line ≡ None
    → after_word (codes "L ") line ≡ Some text
    → decimal_within 10 99 text ≡ Some n
    → code_proportional code ≡ true
    → choice_in code line ≡ Some (choice.Party n)
unfolding choice_in party_in
party_line code n line text b x other word number may = rw (b, x, other, word, number, may) refl

blank_line : (code : ℕ) → choice_in code (codes "B") ≡ Some choice.Blank
unfolding choice_in
blank_line code = refl

null_line : (code : ℕ) → choice_in code (codes "X") ≡ Some choice.Null
unfolding choice_in
null_line code = refl

pub choice_written : (code : ℕ) (c : Choice) → may_vote code c ≡ true → choice_in code (vote_words c) ≡ Some c
choice_written code (choice.Nominal n) h =
    let few = candidate_small code n h in
    nominal_line code n (codes "N " ++ decimal n) (decimal n) (other_word (codes "N " ++ decimal n) (codes "B") (λ e. absurd (cc)))
    (other_word (codes "N " ++ decimal n) (codes "X") (λ e. absurd (cc))) (after_word-append (codes "N ") (decimal n)) (decimal_value-decimal n (omega arith)) h
choice_written code (choice.Party n) h =
    let both = both_from_and (code_proportional code) (is_between 10 99 n) h in
    party_line code n (codes "L " ++ decimal n) (decimal n) (other_word (codes "L " ++ decimal n) (codes "B") (λ e. absurd (cc)))
    (other_word (codes "L " ++ decimal n) (codes "X") (λ e. absurd (cc))) refl (after_word-append (codes "L ") (decimal n))
    (within_written 10 99 n both.1 (small 10 99 n (lit< tt) both.1)) both.0
choice_written code choice.Blank h = blank_line code
choice_written code choice.Null h = null_line code

-- what the line of a vote says
pub record Voted (code : ℕ) (line : List ℕ) (c : Choice) : Type 0 where
  pub may : may_vote code c ≡ true
  pub same : line ≡ vote_words c

candidate_read : (code : ℕ) (line text : List ℕ) (c : Choice) → line ≡ codes "N " ++ text → candidate_in code text ≡ Some c → Voted code line c
unfolding candidate_in
candidate_read code line text c word h =
    let inner = and_then_some (decimal_value text) _ c h in
    let both = guard_some (has_digits (digits_in code) inner.0) (Some (choice.Nominal inner.0)) c inner.2 in
    let made : choice.Nominal inner.0 ≡ c = cc in
    subst (λ (d : Choice). Voted code line d) made (record {
      may = both.0;
      same = word ∙ ap (λ (l : List ℕ). codes "N " ++ l) (sym (decimal-decimal_value text inner.0 inner.1));
    })

party_read : (code : ℕ) (line text : List ℕ) (c : Choice) → line ≡ codes "L " ++ text → party_in code text ≡ Some c → Voted code line c
unfolding party_in
party_read code line text c word h =
    let inner = and_then_some (decimal_within 10 99 text) _ c h in
    let both = guard_some (code_proportional code) (Some (choice.Party inner.0)) c inner.2 in
    let made : choice.Party inner.0 ≡ c = cc in
    let number = within_read 10 99 inner.0 text inner.1 in
    subst (λ (d : Choice). Voted code line d) made (record {
      may = and_from (code_proportional code) (is_between 10 99 inner.0) both.0 number.within;
      same = word ∙ ap (λ (l : List ℕ). codes "L " ++ l) number.printed;
    })

pub choice_read : (code : ℕ) (line : List ℕ) (c : Choice) → choice_in code line ≡ Some c → Voted code line c
unfolding choice_in
choice_read code line c h = go (bytes_eq line (codes "B")) (bytes_eq line (codes "X")) (after_word (codes "N ") line) refl refl refl h
  where
    go : (b x : Bool) (o : Option (List ℕ)) → bytes_eq line (codes "B") ≡ b → bytes_eq line (codes "X") ≡ x → after_word (codes "N ") line ≡ o
        → cond b (Some choice.Blank) (cond x (Some choice.Null) (elim o [
          | Some text ↦ candidate_in code text
          | None ↦ option_and_then (party_in code) (after_word (codes "L ") line)
        ])) ≡ Some c → Voted code line c
    go true x o eb ex eo g =
        let made : choice.Blank ≡ c = cc in
        subst (λ (d : Choice). Voted code line d) made (record { may = refl; same = (bytes_eq-Decides line (codes "B")).0 eb })
    go false true o eb ex eo g =
        let made : choice.Null ≡ c = cc in
        subst (λ (d : Choice). Voted code line d) made (record { may = refl; same = (bytes_eq-Decides line (codes "X")).0 ex })
    go false false (Some text) eb ex eo g = candidate_read code line text c (after_word-some (codes "N ") line text eo) g
    go false false None eb ex eo g =
        let inner = and_then_some (after_word (codes "L ") line) (party_in code) c g in
        party_read code line inner.0 c (after_word-some (codes "L ") line inner.0 inner.1) inner.2
