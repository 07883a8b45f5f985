-- Which reports there are: those that have a text. No number of voters or votes is above `greatest_count`.
use Rattle.std.specs.Prelude.{◌≡◌, ℕ, ◌+◌, ◌*◌, ◌≤◌, ◌<◌, Bool, true, false, not, ◌&&◌, ◌==◌, nat_lt, List, [], ◌∷◌, ◌++◌, length, map, is_some, unwrap_or}
use Rattle.std.specs.List.{sum_by, list_all, list_any}
use Rattle.urna_base.specs.Moment.{is_between, is_date, is_moment}
use Rattle.election_tables.specs.Fields.{has_digits}
use Rattle.election_tables.specs.Limits.{greatest_process, greatest_section, most_offices}
use Rattle.election_tables.specs.Offices.{code_digits, code_proportional, may_have_places}
use Rattle.poll_report.specs.declared.report.Count.{Count}
use Rattle.poll_report.specs.declared.report.OfficeCount.{OfficeCount}
use Rattle.poll_report.specs.declared.report.Report.{Report}

-- the greatest number of voters or votes that a report can tell
abbrev pub greatest_count : ℕ
greatest_count = 9999

-- at least one vote
abbrev pub is_some_votes : ℕ → Bool
is_some_votes votes = is_between 1 greatest_count votes

-- all votes of some numbers
abbrev pub votes_of : List Count → ℕ
votes_of counts = sum_by (λ c. c.votes) counts

-- the numbers of candidates, or of parties, in order
abbrev pub numbers_of : List Count → List ℕ
numbers_of counts = map (λ c. c.number) counts

-- ---- order: what may stand behind what

-- each element may stand behind those before it
abbrev pub EachAfter : {A : Type 0} → (List A → A → Type 0) → List A → List A → Type 0
EachAfter May before [] = Unit {0}
EachAfter May before (x ∷ xs) = May before x × EachAfter May (before ++ x ∷ []) xs

-- a number is greater than each of these
abbrev pub is_above : List ℕ → ℕ → Bool
is_above before number = list_all (λ n. nat_lt n number) before

-- ---- an office

-- how many digits the numbers of an office have
abbrev pub digits_in : ℕ → ℕ
digits_in code = unwrap_or (code_digits code) 0

-- a candidate's number has the office's digits, and there is a vote
abbrev pub is_vote : ℕ → Count → Bool
is_vote digits c = has_digits digits c.number && is_some_votes c.votes

-- candidates rise
abbrev pub MayVote : ℕ → List Count → Count → Type 0
MayVote digits before c = (is_vote digits c ≡ true) × (is_above (numbers_of before) c.number ≡ true)

-- a party's number has two digits, and there is a party vote; parties rise
abbrev pub MayLegend : List Count → Count → Type 0
MayLegend before c = (is_between 10 99 c.number ≡ true) × (is_some_votes c.votes ≡ true) × (is_above (numbers_of before) c.number ≡ true)

-- all votes of an office
abbrev pub total_of : OfficeCount → ℕ
total_of o = votes_of o.nominal + votes_of o.parties + o.blank + o.null_votes

-- Each number that is listed has a vote, and only an office that is decided in proportion has party votes. There are as many votes as
-- those who came have, each of them one for each place, and no more than a report can tell.
pub record IsOfficeCount (came : ℕ) (o : OfficeCount) : Type 0 where
  pub nominal : EachAfter (MayVote (digits_in o.code)) [] o.nominal
  pub parties : EachAfter MayLegend [] o.parties
  pub majority : code_proportional o.code ≡ false → o.parties ≡ []
  pub places : may_have_places o.code o.places ≡ true
  pub total : total_of o ≡ came * o.places
  pub few : total_of o ≤ greatest_count

-- an office of some report
abbrev pub IsCounted : OfficeCount → Type 0
IsCounted o = (came : ℕ) × IsOfficeCount came o

-- an office has the code, none of these has it, and there is room for one more
abbrev pub may_have_code : List ℕ → ℕ → Bool
may_have_code before code = nat_lt (length before) most_offices && (is_some (code_digits code) && not (list_any (λ c. c == code) before))

-- an office has a code that none before it has, and its votes are those of so many who came
abbrev pub MayCount : ℕ → List OfficeCount → OfficeCount → Type 0
MayCount came before o = (may_have_code (map (λ c. c.code) before) o.code ≡ true) × IsOfficeCount came o

-- ---- a section

-- the numbers lie in their ranges, no more came than there are, closing isn't below opening, and each office has its votes
pub record IsReport (r : Report) : Type 0 where
  pub process : is_between 1 greatest_process r.process ≡ true
  pub date : is_date r.date ≡ true
  pub turn : is_between 1 2 r.turn ≡ true
  pub zone : is_between 1 greatest_section r.zone ≡ true
  pub section : is_between 1 greatest_section r.section ≡ true
  pub able : r.able ≤ greatest_count
  pub came : r.came ≤ r.able
  pub opened : is_moment r.opened ≡ true
  pub closed : is_moment r.closed ≡ true
  pub order : r.opened ≤ r.closed
  pub some : 0 < length r.offices
  pub offices : EachAfter (MayCount r.came) [] r.offices
