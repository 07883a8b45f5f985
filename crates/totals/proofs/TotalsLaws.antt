-- Reports have one list of lines that tells the totals
use Rattle.std.proofs.Common.{◌≡◌, ◌==◌, ◌+◌, ◌<◌, ℕ, zero, suc, List, [], ◌∷◌, ◌++◌, length, map, take, slice_get, Some, refl, sym, ap, subst, ◌∙◌, add-one, append_assoc, arith}
use Rattle.std.proofs.lemmas.List.{append-nil}
use Rattle.election_tables.specs.TablesData.{TablesData}
use Rattle.election_tables.specs.declared.office.Kind.{Kind}
use Rattle.election_tables.specs.declared.office.Kind.TheVariants as kind
use Rattle.election_tables.specs.declared.office.Office.{Office}
use Rattle.election_tables.specs.declared.tables.panels.Panel.{Panel}
use Rattle.poll_report.specs.declared.report.Report.{Report}
use Rattle.poll_report.proofs.LineLists.{known}
use Rattle.vote_kinds.specs.Ballot.{panel_at}
use Rattle.section_intake.specs.Sums.{nominal_sum}
use Rattle.seat_remainders.specs.Computed.{outcome_of}
use Rattle.seat_remainders.specs.Majority.{majority_outcome}
use Rattle.seat_remainders.specs.Outcome.{IsOutcome}
use Rattle.seat_remainders.specs.declared.contest.Contest.{Contest}
use Rattle.seat_remainders.specs.declared.contest.Entry.{Entry}
use Rattle.seat_remainders.specs.declared.outcome.Outcome.{Outcome}
use Rattle.seat_remainders.proofs.OneOutcome.{only_outcome, outcome_is}
use Rattle.totals.specs.Contest.{contest_for, entries_in, votes_in}
use Rattle.totals.specs.Laws.{OneTotals, SomeTotals}
use Rattle.totals.specs.Lines.{candidate_line, majority_line, office_line, outcome_lines, section_line, simple_lines}
use Rattle.totals.specs.Simple.{elected_simply}
use Rattle.totals.specs.Totals.{AreTotals, TellPanel, TellPanels, TellResult}
use Rattle.totals.specs.declared.votes.PanelVotes.{PanelVotes}
use Rattle.totals.proofs.LineLaws.{behind}

-- ---- there are such lines

-- what comes of an office, as it is computed
abbrev result_of : Kind → TablesData → Contest → List Entry → (ℕ → ℕ) → List (List ℕ)
result_of kind.Proportional t contest candidates votes = outcome_lines t votes (outcome_of contest)
result_of kind.Absolute t contest candidates votes = majority_line (majority_outcome candidates (t.turn == 1)) ∷ []
result_of kind.Simple t contest candidates votes = simple_lines (elected_simply contest.seats candidates)

abbrev lines_of_panel : TablesData → List Report → ℕ → Panel → List (List ℕ)
lines_of_panel t reports panel p =
    office_line p.office.code (votes_in reports panel) ∷ (map candidate_line (entries_in reports panel p)
    ++ result_of p.office.kind t (contest_for t reports panel p) (entries_in reports panel p) (λ number. nominal_sum panel number reports))

abbrev lines_of_panels : TablesData → List Report → ℕ → List Panel → List (List ℕ)
lines_of_panels t reports first [] = []
lines_of_panels t reports first (p ∷ panels) = lines_of_panel t reports first p ++ lines_of_panels t reports (first + 1) panels

abbrev pub lines_of_totals : TablesData → List Report → List (List ℕ)
lines_of_totals t reports = section_line (length reports) (length t.sections) ∷ lines_of_panels t reports 0 t.panels

tell_result : (k : Kind) (t : TablesData) (contest : Contest) (candidates : List Entry) (votes : ℕ → ℕ) → TellResult k t contest candidates votes (result_of k t contest candidates votes)
tell_result kind.Proportional t contest candidates votes = (outcome_of contest, outcome_is contest, refl)
tell_result kind.Absolute t contest candidates votes = refl
tell_result kind.Simple t contest candidates votes = refl

tell_panel : (t : TablesData) (reports : List Report) (panel : ℕ) (p : Panel) → TellPanel t reports panel p (lines_of_panel t reports panel p)
tell_panel t reports panel p = record {
  result = result_of p.office.kind t (contest_for t reports panel p) (entries_in reports panel p) (λ number. nominal_sum panel number reports);
  told = tell_result p.office.kind t (contest_for t reports panel p) (entries_in reports panel p) (λ number. nominal_sum panel number reports);
  all = refl;
}

tell_panels : (t : TablesData) (reports : List Report) (first : ℕ) (panels : List Panel) → TellPanels t reports first panels (lines_of_panels t reports first panels)
tell_panels t reports first [] = refl
tell_panels t reports first (p ∷ panels) =
    (lines_of_panel t reports first p, lines_of_panels t reports (first + 1) panels, tell_panel t reports first p, tell_panels t reports (first + 1) panels, refl)

pub are_totals : (t : TablesData) (reports : List Report) → AreTotals t reports (lines_of_totals t reports)
are_totals t reports = record { panels = lines_of_panels t reports 0 t.panels; told = tell_panels t reports 0 t.panels; all = refl }

pub some_totals : SomeTotals
some_totals t reports = (lines_of_totals t reports, are_totals t reports)

-- ---- and no others

one_result : (k : Kind) (t : TablesData) (contest : Contest) (candidates : List Entry) (votes : ℕ → ℕ) (lines others : List (List ℕ))
    → TellResult k t contest candidates votes lines → TellResult k t contest candidates votes others → lines ≡ others
one_result kind.Proportional t contest candidates votes lines others (o, is, all) (u, are, also) =
    let same : o ≡ u = only_outcome contest o is ∙ sym (only_outcome contest u are) in
    all ∙ (ap (outcome_lines t votes) same ∙ sym also)
one_result kind.Absolute t contest candidates votes lines others all also = all ∙ sym also
one_result kind.Simple t contest candidates votes lines others all also = all ∙ sym also

one_panel : (t : TablesData) (reports : List Report) (panel : ℕ) (p : Panel) (lines others : List (List ℕ)) → TellPanel t reports panel p lines
    → TellPanel t reports panel p others → lines ≡ others
one_panel t reports panel p lines others h i =
    let same = one_result p.office.kind t (contest_for t reports panel p) (entries_in reports panel p) (λ number. nominal_sum panel number reports) h.result i.result h.told i.told in
    h.all
    ∙ (ap (λ (ls : List (List ℕ)). office_line p.office.code (votes_in reports panel) ∷ (map candidate_line (entries_in reports panel p) ++ ls)) same
    ∙ sym i.all)

one_panels : (t : TablesData) (reports : List Report) (first : ℕ) (panels : List Panel) (lines others : List (List ℕ))
    → TellPanels t reports first panels lines → TellPanels t reports first panels others → lines ≡ others
one_panels t reports first [] lines others h i = h ∙ sym i
one_panels t reports first (p ∷ panels) lines others (own, rest, told, more, all) (mine, last, is, again, also) =
    let same = one_panel t reports first p own mine told is in
    let behind = one_panels t reports (first + 1) panels rest last more again in
    all ∙ (ap (λ (ls : List (List ℕ)). ls ++ rest) same ∙ (ap (λ (ls : List (List ℕ)). mine ++ ls) behind ∙ sym also))

pub one_totals : OneTotals
one_totals t reports lines others h i =
    let same = one_panels t reports 0 t.panels h.panels i.panels h.told i.told in
    h.all ∙ (ap (λ (ls : List (List ℕ)). section_line (length reports) (length t.sections) ∷ ls) same ∙ sym i.all)

-- ---- one panel more

panels_then : (t : TablesData) (reports : List Report) (first : ℕ) (panels : List Panel) (i : ℕ) (p : Panel) (lines own : List (List ℕ))
    → slice_get panels i ≡ Some p → TellPanels t reports first (take i panels) lines → TellPanel t reports (first + i) p own
    → TellPanels t reports first (take (suc i) panels) (lines ++ own)
panels_then t reports first [] i p lines own at told is = absurd (cc)
panels_then t reports first (q ∷ panels) zero p lines own at told is =
    let same : q ≡ p = cc in
    let here : TellPanel t reports first q own =
    subst (λ (r : Panel). TellPanel t reports first r own) (sym same) (subst (λ (k : ℕ). TellPanel t reports k p own) (omega arith) is) in
    (own, [], here, refl, ap (λ (ls : List (List ℕ)). ls ++ own) told ∙ sym (append-nil own))
panels_then t reports first (q ∷ panels) (suc i) p lines own at (mine, others, told, more, all) is =
    let later : TellPanel t reports (first + 1 + i) p own = subst (λ (k : ℕ). TellPanel t reports k p own) (omega arith) is in (
      mine,
      others ++ own,
      told,
      panels_then t reports (first + 1) panels i p others own at more later,
      ap (λ (ls : List (List ℕ)). ls ++ own) all ∙ append_assoc mine others own,
    )

pub panels_more : (t : TablesData) (reports : List Report) (i : ℕ) (lines own : List (List ℕ)) → i < length t.panels
    → TellPanels t reports 0 (take i t.panels) lines → TellPanel t reports i (panel_at t i) own → TellPanels t reports 0 (take (i + 1) t.panels) (lines ++ own)
panels_more t reports i lines own lt told is =
    subst (λ (k : ℕ). TellPanels t reports 0 (take k t.panels) (lines ++ own)) (sym (add-one i))
    (panels_then t reports 0 t.panels i (panel_at t i) lines own (known t.panels i lt) told (subst (λ (k : ℕ). TellPanel t reports k (panel_at t i) own) (omega arith) is))

-- ---- the lines of a panel, as they are made

-- what comes of a proportional office
pub tells_contest : (t : TablesData) (reports : List Report) (panel : ℕ) (office : Office) → office ≡ (panel_at t panel).office → office.kind ≡ kind.Proportional
    → (o : Outcome) → IsOutcome (contest_for t reports panel (panel_at t panel)) o
    → TellResult (panel_at t panel).office.kind t (contest_for t reports panel (panel_at t panel)) (entries_in reports panel (panel_at t panel))
    (λ number. nominal_sum panel number reports) (outcome_lines t (λ number. nominal_sum panel number reports) o)
tells_contest t reports panel office known is o outcome =
    let same : kind.Proportional ≡ (panel_at t panel).office.kind = sym is ∙ ap (λ (w : Office). w.kind) known in
    subst (λ (k : Kind). TellResult k t (contest_for t reports panel (panel_at t panel)) (entries_in reports panel (panel_at t panel))
    (λ number. nominal_sum panel number reports) (outcome_lines t (λ number. nominal_sum panel number reports) o)) same (o, outcome, refl)

-- and of a majority office
pub tells_absolute : (t : TablesData) (reports : List Report) (panel : ℕ) (office : Office) → office ≡ (panel_at t panel).office → office.kind ≡ kind.Absolute
    → (entries : List Entry) → entries ≡ entries_in reports panel (panel_at t panel)
    → TellResult (panel_at t panel).office.kind t (contest_for t reports panel (panel_at t panel)) (entries_in reports panel (panel_at t panel))
    (λ number. nominal_sum panel number reports) (majority_line (majority_outcome entries (t.turn == 1)) ∷ [])
tells_absolute t reports panel office known is entries all =
    let same : kind.Absolute ≡ (panel_at t panel).office.kind = sym is ∙ ap (λ (w : Office). w.kind) known in
    subst (λ (k : Kind). TellResult k t (contest_for t reports panel (panel_at t panel)) (entries_in reports panel (panel_at t panel))
    (λ number. nominal_sum panel number reports) (majority_line (majority_outcome entries (t.turn == 1)) ∷ [])) same
    (ap (λ (es : List Entry). majority_line (majority_outcome es (t.turn == 1)) ∷ []) all)

pub tells_simple : (t : TablesData) (reports : List Report) (panel : ℕ) (office : Office) → office ≡ (panel_at t panel).office → office.kind ≡ kind.Simple
    → (entries : List Entry) → entries ≡ entries_in reports panel (panel_at t panel)
    → TellResult (panel_at t panel).office.kind t (contest_for t reports panel (panel_at t panel)) (entries_in reports panel (panel_at t panel))
    (λ number. nominal_sum panel number reports) (simple_lines (elected_simply office.seats entries))
tells_simple t reports panel office known is entries all =
    let same : kind.Simple ≡ (panel_at t panel).office.kind = sym is ∙ ap (λ (w : Office). w.kind) known in
    let seats : office.seats ≡ (panel_at t panel).office.seats = ap (λ (w : Office). w.seats) known in
    subst (λ (k : Kind). TellResult k t (contest_for t reports panel (panel_at t panel)) (entries_in reports panel (panel_at t panel))
    (λ number. nominal_sum panel number reports) (simple_lines (elected_simply office.seats entries))) same
    (ap (λ (n : ℕ). simple_lines (elected_simply n entries)) seats ∙ ap (λ (es : List Entry). simple_lines (elected_simply (panel_at t panel).office.seats es)) all)

-- the office's line, one for each candidate, and what comes of the office, behind other lines
pub panel_told : (t : TablesData) (reports : List Report) (panel : ℕ) (office : Office) (votes : PanelVotes) (entries : List Entry)
    (fn a b d result : List (List ℕ)) → office ≡ (panel_at t panel).office → votes ≡ votes_in reports panel → entries ≡ entries_in reports panel (panel_at t panel)
    → a ≡ fn ++ office_line office.code votes ∷ [] → b ≡ a ++ map candidate_line entries → d ≡ b ++ result
    → TellResult (panel_at t panel).office.kind t (contest_for t reports panel (panel_at t panel)) (entries_in reports panel (panel_at t panel))
    (λ number. nominal_sum panel number reports) result
    → (own : List (List ℕ)) × TellPanel t reports panel (panel_at t panel) own × (d ≡ fn ++ own)
panel_told t reports panel office votes entries fn a b d result known counted all first candidates last told =
    let line : List ℕ = office_line office.code votes in
    let two : b ≡ fn ++ (line ∷ map candidate_line entries) = behind b a fn (line ∷ []) (map candidate_line entries) candidates first in
    let three : d ≡ fn ++ (line ∷ (map candidate_line entries ++ result)) = behind d b fn (line ∷ map candidate_line entries) result last two in (
      line ∷ (map candidate_line entries ++ result),
      record {
        result = result;
        told = told;
        all = ap (λ (o : Office). office_line o.code votes ∷ (map candidate_line entries ++ result)) known
            ∙ (ap (λ (v : PanelVotes). office_line (panel_at t panel).office.code v ∷ (map candidate_line entries ++ result)) counted
            ∙ ap (λ (es : List Entry). office_line (panel_at t panel).office.code (votes_in reports panel) ∷ (map candidate_line es ++ result)) all);
      },
      three,
    )
