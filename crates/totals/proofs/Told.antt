-- What the tables and the intake tell of one candidate gives the entry
use Rattle.std.proofs.Common.{◌≡◌, ℕ, List, Option, None, Some, option_map, sym, ap, ◌∙◌}
use Rattle.election_tables.specs.TablesData.{without_name}
use Rattle.election_tables.specs.declared.tables.candidates.Candidate.{Candidate}
use Rattle.election_tables.specs.declared.tables.candidates.NamedCandidate.{NamedCandidate}
use Rattle.poll_report.specs.declared.report.Report.{Report}
use Rattle.section_intake.specs.Sums.{nominal_sum}
use Rattle.totals.specs.Contest.{entry_of}

pub entry_told : (reports : List Report) (panel : ℕ) (o : Option NamedCandidate) (r : Candidate) (votes : ℕ) → option_map without_name o ≡ Some r
    → votes ≡ nominal_sum panel r.number reports → option_map (entry_of reports panel) o ≡ Some (record { number = r.number; birth = r.birth; votes = votes })
entry_told reports panel None r votes e counted = absurd (cc)
entry_told reports panel (Some c) r votes e counted =
    let whole : without_name c ≡ r = cc in
    ap (λ (d : Candidate). Some (record { number = d.number; birth = d.birth; votes = nominal_sum panel d.number reports })) whole
    ∙ ap (λ (v : ℕ). Some (record { number = r.number; birth = r.birth; votes = v })) (sym counted)
