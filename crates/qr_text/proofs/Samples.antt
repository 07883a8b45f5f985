-- The reports of the worked rows.
use Rattle.std.proofs.Common.{ℕ, List, [], ◌∷◌, ◌++◌}
use Rattle.std.specs.Prelude.{codes}
use Rattle.poll_report.specs.declared.report.Count.{Count}
use Rattle.poll_report.specs.declared.report.Report.{Report}

abbrev counted : ℕ → ℕ → Count
counted number votes = record { number = number; votes = votes }

-- one voter, who chose the candidate 13 of a majority office
abbrev pub one_voter : Report
one_voter = record {
  process = 7;
  date = 20261004;
  turn = 1;
  zone = 1;
  section = 42;
  able = 1;
  came = 1;
  opened = 20261004080000;
  closed = 20261004170000;
  offices = record { code = 11; places = 1; nominal = counted 13 1 ∷ []; parties = []; blank = 0; null_votes = 0 } ∷ [];
}

-- Three voters and two offices. In the proportional one a candidate of party 13, party 45 and blank have a vote each; in the majority one
-- two candidates and null.
abbrev pub two_offices : Report
two_offices = record {
  process = 7;
  date = 20261004;
  turn = 1;
  zone = 1;
  section = 42;
  able = 3;
  came = 3;
  opened = 20261004080000;
  closed = 20261004170000;
  offices =
      record { code = 13; places = 1; nominal = counted 13001 1 ∷ []; parties = counted 45 1 ∷ []; blank = 1; null_votes = 0 }
      ∷ record { code = 11; places = 1; nominal = counted 13 1 ∷ counted 45 1 ∷ []; parties = []; blank = 0; null_votes = 1 }
      ∷ [];
}

-- ---- their texts in parts

abbrev pub poll : List ℕ
poll = codes "ORIG:VOTA PROC:7 DTPL:20261004 TURN:1 ZONA:1 SECA:42 "

abbrev pub moments : List ℕ
moments = codes "DTAB:20261004 HRAB:080000 DTFC:20261004 HRFC:170000 "

-- the proportional office up to its blank votes
abbrev pub council : List ℕ
council = codes "CARG:13 TIPO:1 PART:13 13001:1 LEGP:0 TOTP:1 PART:45 LEGP:1 TOTP:1 APTA:3 NOMI:1 LEGC:1 BRAN:1 "

abbrev pub mayor : List ℕ
mayor = codes "CARG:11 TIPO:0 13:1 45:1 APTA:3 NOMI:2 BRAN:0 NULO:1 TOTC:3"

-- the report of three voters with this in the place of `NULO:0 TOTC:3` of the first office
abbrev pub with_end : List ℕ → List ℕ
with_end end = poll ++ (codes "APTO:3 COMP:3 FALT:0 " ++ (moments ++ (council ++ end)))
