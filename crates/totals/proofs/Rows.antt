-- Worked rows of the totals: an election of two offices over the reports of two of its three sections
use Rattle.std.proofs.Common.{◌≡◌, ℕ, List, [], ◌∷◌, ◌++◌, codes, refl}
use Rattle.std.specs.Fmt.{digits}
use Rattle.election_tables.specs.TablesData.{TablesData}
use Rattle.election_tables.specs.declared.office.Kind.TheVariants as kind
use Rattle.election_tables.specs.declared.tables.candidates.NamedCandidate.{NamedCandidate}
use Rattle.election_tables.specs.declared.tables.panels.Panel.{Panel}
use Rattle.election_tables.specs.declared.tables.parties.Party.{Party}
use Rattle.election_tables.specs.declared.tables.sections.Section.{Section}
use Rattle.poll_report.specs.declared.report.Count.{Count}
use Rattle.poll_report.specs.declared.report.OfficeCount.{OfficeCount}
use Rattle.poll_report.specs.declared.report.Report.{Report}
use Rattle.seat_remainders.specs.declared.contest.Entry.{Entry}
use Rattle.seat_remainders.specs.declared.outcome.MajorityOutcome.TheVariants.{Elected}
use Rattle.seat_remainders.specs.declared.outcome.Outcome.TheVariants as outcome
use Rattle.totals.specs.Lines.{majority_line, outcome_lines, simple_lines}
use Rattle.totals.specs.Simple.{elected_simply}
use Rattle.totals.specs.Totals.{AreTotals}
use Rattle.totals.proofs.TotalsLaws.{are_totals}

abbrev candidate : ℕ → ℕ → NamedCandidate
candidate number birth = record { number = number; birth = birth; name = codes "NOME" }

abbrev party : ℕ → Party
party number = record { number = number; name = codes "NOME" }

abbrev section : ℕ → Section
section number = record { zone = 1; number = number; voters = 200 }

abbrev councillors : Panel
councillors = record {
  office = record { code = 13; digits = 5; kind = kind.Proportional; seats = 3 };
  candidates = candidate 10001 19700101 ∷ candidate 10002 19800101 ∷ candidate 11001 19600101 ∷ [];
}

abbrev mayor : Panel
mayor = record {
  office = record { code = 11; digits = 2; kind = kind.Absolute; seats = 1 };
  candidates = candidate 10 19700505 ∷ candidate 11 19600505 ∷ [];
}

abbrev tables : TablesData
tables = record {
  process = 1;
  date = 20241006;
  turn = 1;
  panels = councillors ∷ mayor ∷ [];
  parties = party 10 ∷ party 11 ∷ [];
  sections = section 1 ∷ section 2 ∷ section 3 ∷ [];
  federations = [];
  digest = [];
}

abbrev count : ℕ → ℕ → Count
count number votes = record { number = number; votes = votes }

abbrev report : ℕ → ℕ → List OfficeCount → Report
report number came offices = record {
  process = 1;
  date = 20241006;
  turn = 1;
  zone = 1;
  section = number;
  able = 200;
  came = came;
  opened = 20241006080000;
  closed = 20241006170000;
  offices = offices;
}

abbrev office : ℕ → List Count → List Count → ℕ → ℕ → OfficeCount
office code nominal parties blank null_votes = record { code = code; places = 1; nominal = nominal; parties = parties; blank = blank; null_votes = null_votes }

abbrev first : Report
first = report 1 80 (
    office 13 (count 10001 30 ∷ count 10002 10 ∷ count 11001 25 ∷ []) (count 10 5 ∷ count 11 5 ∷ []) 3 2
    ∷ office 11 (count 10 30 ∷ count 11 40 ∷ []) [] 5 5 ∷ [])

-- nobody chose 10002 here, nor party 10
abbrev second : Report
second = report 2 50 (
    office 13 (count 10001 20 ∷ count 11001 15 ∷ []) (count 11 10 ∷ []) 1 4
    ∷ office 11 (count 10 25 ∷ count 11 15 ∷ []) [] 5 5 ∷ [])

abbrev line : List ℕ → List ℕ
line text = text ++ 10 ∷ []

-- the elder of two with as many votes stands first, and half of them is no majority
two_offices : AreTotals tables (first ∷ second ∷ []) (
    line (codes "SECOES 2 DE 3")
    ∷ line (codes "CARGO 13 VALIDOS 120 NOMINAIS 100 LEGENDA 20 BRANCOS 4 NULOS 6 TOTAL 130")
    ∷ line (codes "CANDIDATO 10001 VOTOS 50")
    ∷ line (codes "CANDIDATO 10002 VOTOS 10")
    ∷ line (codes "CANDIDATO 11001 VOTOS 40")
    ∷ line (codes "QUOCIENTE 40")
    ∷ line (codes "PARTIDO 10 VOTOS 65 QP 1 VAGAS 2")
    ∷ line (codes "PARTIDO 11 VOTOS 55 QP 1 VAGAS 1")
    ∷ line (codes "SOBRA 1 FASE 2 PARTIDO 10")
    ∷ line (codes "ELEITO 10001 VOTOS 50")
    ∷ line (codes "ELEITO 10002 VOTOS 10")
    ∷ line (codes "ELEITO 11001 VOTOS 40")
    ∷ line (codes "VAGAS VAZIAS 0")
    ∷ line (codes "CARGO 11 VALIDOS 110 NOMINAIS 110 LEGENDA 0 BRANCOS 10 NULOS 10 TOTAL 130")
    ∷ line (codes "CANDIDATO 10 VOTOS 55")
    ∷ line (codes "CANDIDATO 11 VOTOS 55")
    ∷ line (codes "SEGUNDO TURNO 11 10")
    ∷ [])
unfolding digits
two_offices = are_totals tables (first ∷ second ∷ [])

abbrev three_seats : Panel
three_seats = record {
  office = record { code = 13; digits = 5; kind = kind.Proportional; seats = 3 };
  candidates = candidate 10001 19600101 ∷ candidate 10002 19600101 ∷ candidate 20001 19600101 ∷ candidate 30001 19600101 ∷ candidate 30002 19600101 ∷ [];
}

abbrev federated : TablesData
federated = record {
  process = 1;
  date = 20241006;
  turn = 1;
  panels = three_seats ∷ [];
  parties = party 10 ∷ party 20 ∷ party 30 ∷ [];
  sections = section 1 ∷ [];
  federations = record { name = codes "NOME"; parties = 30 ∷ 20 ∷ [] } ∷ [];
  digest = [];
}

-- parties 20 and 30 are one federation, whose number is 20, and its candidates stand in one order
of_a_federation : AreTotals federated (
    report 1 180 (office 13 (count 10001 60 ∷ count 10002 20 ∷ count 20001 35 ∷ count 30001 40 ∷ count 30002 25 ∷ []) [] 0 0 ∷ []) ∷ []) (
    line (codes "SECOES 1 DE 1")
    ∷ line (codes "CARGO 13 VALIDOS 180 NOMINAIS 180 LEGENDA 0 BRANCOS 0 NULOS 0 TOTAL 180")
    ∷ line (codes "CANDIDATO 10001 VOTOS 60")
    ∷ line (codes "CANDIDATO 10002 VOTOS 20")
    ∷ line (codes "CANDIDATO 20001 VOTOS 35")
    ∷ line (codes "CANDIDATO 30001 VOTOS 40")
    ∷ line (codes "CANDIDATO 30002 VOTOS 25")
    ∷ line (codes "QUOCIENTE 60")
    ∷ line (codes "PARTIDO 10 VOTOS 80 QP 1 VAGAS 1")
    ∷ line (codes "FEDERACAO 20 VOTOS 100 QP 1 VAGAS 2")
    ∷ line (codes "SOBRA 1 FASE 2 FEDERACAO 20")
    ∷ line (codes "ELEITO 10001 VOTOS 60")
    ∷ line (codes "ELEITO 30001 VOTOS 40")
    ∷ line (codes "ELEITO 20001 VOTOS 35")
    ∷ line (codes "VAGAS VAZIAS 0")
    ∷ [])
unfolding digits
of_a_federation = are_totals federated (
    report 1 180 (office 13 (count 10001 60 ∷ count 10002 20 ∷ count 20001 35 ∷ count 30001 40 ∷ count 30002 25 ∷ []) [] 0 0 ∷ []) ∷ [])

-- in the second turn half of them is enough
in_turn_two : AreTotals (record {
  process = 1;
  date = 20241027;
  turn = 2;
  panels = mayor ∷ [];
  parties = party 10 ∷ party 11 ∷ [];
  sections = section 1 ∷ [];
  federations = [];
  digest = [];
}) (report 1 50 (office 11 (count 10 20 ∷ count 11 20 ∷ []) [] 5 5 ∷ []) ∷ []) (
    line (codes "SECOES 1 DE 1")
    ∷ line (codes "CARGO 11 VALIDOS 40 NOMINAIS 40 LEGENDA 0 BRANCOS 5 NULOS 5 TOTAL 50")
    ∷ line (codes "CANDIDATO 10 VOTOS 20")
    ∷ line (codes "CANDIDATO 11 VOTOS 20")
    ∷ line (codes "ELEITO 11")
    ∷ [])
unfolding digits
in_turn_two = are_totals _ (report 1 50 (office 11 (count 10 20 ∷ count 11 20 ∷ []) [] 5 5 ∷ []) ∷ [])

-- without reports nobody has a vote
no_reports : AreTotals tables [] (
    line (codes "SECOES 0 DE 3")
    ∷ line (codes "CARGO 13 VALIDOS 0 NOMINAIS 0 LEGENDA 0 BRANCOS 0 NULOS 0 TOTAL 0")
    ∷ line (codes "CANDIDATO 10001 VOTOS 0")
    ∷ line (codes "CANDIDATO 10002 VOTOS 0")
    ∷ line (codes "CANDIDATO 11001 VOTOS 0")
    ∷ line (codes "SEM QUOCIENTE 0 3")
    ∷ line (codes "CARGO 11 VALIDOS 0 NOMINAIS 0 LEGENDA 0 BRANCOS 0 NULOS 0 TOTAL 0")
    ∷ line (codes "CANDIDATO 10 VOTOS 0")
    ∷ line (codes "CANDIDATO 11 VOTOS 0")
    ∷ line (codes "NINGUEM")
    ∷ [])
unfolding digits
no_reports = are_totals tables []

-- two senators, each voter with two votes
abbrev senators : Panel
senators = record {
  office = record { code = 5; digits = 3; kind = kind.Simple; seats = 2 };
  candidates = candidate 101 19700101 ∷ candidate 102 19600101 ∷ candidate 201 19800101 ∷ [];
}

-- the first two who have a vote are elected
two_senators : AreTotals (record {
  process = 1;
  date = 20261004;
  turn = 1;
  panels = senators ∷ [];
  parties = party 10 ∷ party 20 ∷ [];
  sections = section 1 ∷ [];
  federations = [];
  digest = [];
}) (report 1 2 (record { code = 5; places = 2; nominal = count 101 2 ∷ count 201 1 ∷ []; parties = []; blank = 1; null_votes = 0 } ∷ []) ∷ []) (
    line (codes "SECOES 1 DE 1")
    ∷ line (codes "CARGO 5 VALIDOS 3 NOMINAIS 3 LEGENDA 0 BRANCOS 1 NULOS 0 TOTAL 4")
    ∷ line (codes "CANDIDATO 101 VOTOS 2")
    ∷ line (codes "CANDIDATO 102 VOTOS 0")
    ∷ line (codes "CANDIDATO 201 VOTOS 1")
    ∷ line (codes "ELEITO 101")
    ∷ line (codes "ELEITO 201")
    ∷ [])
unfolding digits
two_senators =
    are_totals _ (report 1 2 (record { code = 5; places = 2; nominal = count 101 2 ∷ count 201 1 ∷ []; parties = []; blank = 1; null_votes = 0 } ∷ []) ∷ [])

abbrev entry : ℕ → ℕ → ℕ → Entry
entry number birth votes = record { number = number; birth = birth; votes = votes }

-- where one has all votes the second seat stays empty
one_has_votes : elected_simply 2 (entry 101 19700101 0 ∷ entry 102 19600101 3 ∷ []) ≡ 102 ∷ []
one_has_votes = refl

-- of equal votes the older stands first, of one day of birth the lower number
equal_votes : elected_simply 2 (entry 101 19700101 1 ∷ entry 102 19600101 1 ∷ entry 201 19600101 1 ∷ []) ≡ 102 ∷ 201 ∷ []
equal_votes = refl

nobody_has_votes : simple_lines (elected_simply 2 (entry 101 19700101 0 ∷ entry 102 19600101 0 ∷ [])) ≡ line (codes "NINGUEM") ∷ []
nobody_has_votes = refl

-- the lines that these totals lack
elected : majority_line (Elected 11) ≡ line (codes "ELEITO 11")
unfolding digits
elected = refl

over : outcome_lines tables (λ number. 0) (outcome.Over 4 3) ≡ line (codes "QUOCIENTE EXCEDIDO 4 3") ∷ []
unfolding digits
over = refl
