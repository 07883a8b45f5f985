use Rattle.std.proofs.Common.{◌≡◌, ◌==◌, [], ℕ, true, List, map, refl, sym, ap, subst, ◌∙◌}
use Rattle.std.specs.List.{AllByRecursion, list_any}
use Rattle.std.proofs.lemmas.List.Elements.{recursion_from_All}
use Rattle.election_tables.specs.Fields.{first_two}
use Rattle.election_tables.specs.TablesData.{IsCandidate}
use Rattle.election_tables.specs.declared.office.Office.{Office}
use Rattle.vote_kinds.specs.Ballot.{panel_at}
use Rattle.vote_kinds.proofs.Lookups.{office_known}
use Rattle.seat_remainders.specs.Contest.{IsContest}
use Rattle.seat_remainders.specs.declared.contest.Contest.{Contest}
use Rattle.seat_remainders.specs.declared.contest.Contestant.{Contestant}
use Rattle.seat_remainders.specs.declared.contest.Entry.{Entry}
use Rattle.totals.specs.Contest.{blocs_of, contestant_in}
use Rattle.totals.specs.Giving.{with_candidates, without_candidates}
use Rattle.totals.proofs.Bounds.{valid_few}
use Rattle.totals.proofs.Lawful.{lawful, numbers_are}
use Rattle.totals.proofs.OwnCandidates.{given_all, none_yet, numbers_of, of_parties}
use Rattle.totals.proofs.VoteLaws.{panel_is}
use Rattle.totals.proofs.contest.contest_of.Goals as goal

pub add_candidates-requires-clause-parties : goal.add_candidates-requires-clause-parties
add_candidates-requires-clause-parties c =
    let t = c.args.tables.now in
    let panel = c.args.panel in
    let is = c.requires.made in
    let p = panel_at t panel in
    let digits = ap (λ (o : Office). o.digits) (office_known t panel c.office-office.result c.office-office.ensures.office) in
    let all = of_parties t.parties p.office.digits is.reports panel p.candidates
    (recursion_from_All (IsCandidate p.office.digits t.parties) p.candidates (panel_is t is.tables panel c.requires.panel).candidates) in
    subst (λ (d : ℕ). AllByRecursion (λ (e : Entry). list_any (λ q. q.number == first_two d e.number) t.parties ≡ true) c.as_slice.result.now) (sym digits)
    (subst (λ (es : List Entry). AllByRecursion (λ e. list_any (λ q. q.number == first_two p.office.digits e.number) t.parties ≡ true) es)
    (sym (c.as_slice.ensures.items ∙ c.in_ok-entries.ensures.entries is.reports is.read)) all)

pub add_candidates-requires-clause-blocs : goal.add_candidates-requires-clause-blocs
add_candidates-requires-clause-blocs c =
    let t = c.args.tables.now in
    let is = c.requires.made in
    ap (λ (bs : List Contestant). numbers_of bs) (c.in_ok-blocs.ensures is.reports is.read)
    ∙ numbers_are (without_candidates t is.reports c.args.panel) (λ bloc. refl) (blocs_of t)

pub add_candidates-requires-clause-none : goal.add_candidates-requires-clause-none
add_candidates-requires-clause-none c =
    let t = c.args.tables.now in
    let is = c.requires.made in
    subst (λ (bs : List Contestant). AllByRecursion (λ b. b.candidates ≡ []) bs) (sym (c.in_ok-blocs.ensures is.reports is.read))
    (none_yet t is.reports c.args.panel (blocs_of t))

pub returns-clause-contest : goal.returns-clause-contest
returns-clause-contest c reports read =
    let t = c.args.tables.now in
    let panel = c.args.panel in
    let p = panel_at t panel in
    let made = c.requires.made in
    let office = c.office-office.result in
    let known = office_known t panel office c.office-office.ensures.office in
    let make : ℕ → List Contestant → Contest = λ seats parties. record { seats = seats; parties = parties } in
    let parties : c.add_candidates.new.blocs ≡ map (contestant_in t reports panel p) (blocs_of t) =
    c.in_ok-add_candidates.ensures
    ∙ (ap (λ (bs : List Contestant). map (with_candidates t office.digits c.as_slice.result.now) bs) (c.in_ok-blocs.ensures reports read)
    ∙ (ap (λ (d : ℕ). map (with_candidates t d c.as_slice.result.now) (map (without_candidates t reports panel) (blocs_of t))) (ap (λ (o : Office). o.digits) known)
    ∙ (ap (λ (es : List Entry). map (with_candidates t p.office.digits es) (map (without_candidates t reports panel) (blocs_of t)))
    (c.as_slice.ensures.items ∙ c.in_ok-entries.ensures.entries reports read)
    ∙ given_all t reports panel p (blocs_of t)))) in
    ap (λ (n : ℕ). make n c.add_candidates.new.blocs) (ap (λ (o : Office). o.seats) known) ∙ ap (λ (bs : List Contestant). make p.office.seats bs) parties

pub returns-clause-lawful : goal.returns-clause-lawful
returns-clause-lawful c =
    let t = c.args.tables.now in
    let panel = c.args.panel in
    let is = c.requires.made in
    subst IsContest (sym (returns-clause-contest c is.reports is.read))
    (lawful t is.tables is.reports panel c.requires.panel (valid_few t c.args.intake.now is.reports panel is is.read c.requires.panel))
