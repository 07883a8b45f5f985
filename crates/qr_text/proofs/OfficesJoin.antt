-- Reading offices by sections, as many as stand, is reading them field by field.
use Rattle.std.proofs.Common.{◌≡◌, ℕ, Bool, true, false, List, [], ◌∷◌, ◌++◌, None, refl, sym, ap, ◌∙◌, zero-add, add-zero}
use Rattle.std.specs.List.{sum_by}
use Rattle.std.specs.Prelude.{Result, Ok}
use Rattle.election_tables.specs.Offices.{code_proportional}
use Rattle.poll_report.specs.Report.{digits_in, votes_of}
use Rattle.poll_report.specs.declared.report.Count.{Count}
use Rattle.qr_text.proofs.Joining.{stepped}
use Rattle.qr_text.proofs.OfficeJoin.{start_join, sums_join}
use Rattle.qr_text.proofs.VotesJoin.{candidates_taken, votes_join}
use Rattle.qr_text.specs.Fronts.{NoParty, after_office, at_mode, begun, behind, goes, mode_behind, placing, said_of, voting, with_parties, with_sums}
use Rattle.qr_text.specs.Reading.{Done, Party, Vote, able_step, code_step, may_end, reading, step, no_party}
use Rattle.qr_text.specs.Sections.{FieldsLeft, ◌>>=◌, start_reading, sums_reading}
use Rattle.qr_text.specs.Votes.{votes_reading}
use Rattle.qr_text.specs.declared.fault.FieldFault.{FieldFault}
use Rattle.qr_text.specs.declared.head.Head as H
use Rattle.qr_text.specs.declared.head.Voters.{Voters}
use Rattle.qr_text.specs.declared.said.Said.{Said}
use Rattle.qr_text.specs.declared.said.SaidOffice.{SaidOffice}
use Rattle.qr_text.specs.declared.said.SaidParty.{SaidParty}

-- ---- one office

pub begun_majority : (q : Said) (code : ℕ) → code_proportional code ≡ false → begun q code ≡ placing q code
begun_majority q code h = rw h refl

pub begun_proportional : (q : Said) (code : ℕ) → code_proportional code ≡ true → begun q code ≡ with_parties q code []
begun_proportional q code h = rw h refl

-- the votes of a majority office, and its sums
pub majority_join : (q : Said) (v : Voters) (code places : ℕ) (s : FieldsLeft) (cs : List Count) (t : FieldsLeft) → code_proportional code ≡ false → v.able ≡ q.able → v.came ≡ q.came
    → votes_reading (digits_in code) None 0 [] s ≡ (cs, t)
    → goes (voting q code places []) s ≡ (sums_reading false v places (votes_of cs) 0 t >>= λ x. goes (after_office q (with_sums code places cs [] x.0)) x.1)
majority_join q v code places s cs t kind able came h =
    let j = votes_join (digits_in code) None (voting q code places) (λ cs p. able_step (voting q code places cs) p) (candidates_taken q code places) s cs t h in
    let after : ℕ → Bool → Result Said FieldFault = λ n b. sums_reading b v places n 0 t >>= λ x. goes (after_office q (with_sums code places cs [] x.0)) x.1 in
    j.0 ∙ (sums_join q v code places cs [] Vote t refl able came j.1 ∙ (ap (λ n. after n (code_proportional code)) (add-zero (votes_of cs)) ∙ ap (λ b. after (votes_of cs) b) kind))

-- the parties of a proportional office, and its sums
pub proportional_join : (q : Said) (v : Voters) (code : ℕ) (s : FieldsLeft) (ps : List SaidParty) (t : FieldsLeft) → code_proportional code ≡ true → v.able ≡ q.able → v.came ≡ q.came
    → goes (with_parties q code []) s ≡ goes (with_parties q code ps) t → NoParty q code ps t
    → goes (with_parties q code []) s
    ≡ (sums_reading true v 1 (sum_by (λ p. votes_of p.candidates) ps) (sum_by (λ p. p.legend) ps) t >>= λ x. goes (after_office q (with_sums code 1 [] ps x.0)) x.1)
proportional_join q v code s ps t kind able came h none =
    let nominal : ℕ = sum_by (λ p. votes_of p.candidates) ps in
    let legend : ℕ = sum_by (λ p. p.legend) ps in
    let after : ℕ → Bool → Result Said FieldFault = λ n b. sums_reading b v 1 n legend t >>= λ x. goes (after_office q (with_sums code 1 [] ps x.0)) x.1 in
    h ∙ (sums_join q v code 1 [] ps Party t refl able came none ∙ (ap (λ n. after n (code_proportional code)) (zero-add nominal) ∙ ap (λ b. after nominal b) kind))

-- ---- between offices

wanted_code : (h : H.Head) (os : List SaidOffice) (p : List ℕ) → step (behind h os) p ≡ code_step (behind h os) p
unfolding step
wanted_code h [] p = refl
wanted_code h (o ∷ os) p = refl

-- the code and the kind of an office that is there, or is the first
pub behind_join : (h : H.Head) (os : List SaidOffice) (s : FieldsLeft) → (s.left ≡ [] → os ≡ [])
    → goes (behind h os) s ≡ (start_reading os s >>= λ x. goes (begun (said_of h os) x.0) x.1)
behind_join h os s first = start_join (behind h os) s (λ e. ap (λ (l : List SaidOffice). may_end (mode_behind l)) (first e)) (wanted_code h os)

-- the state behind an office knows nothing more of it
same_behind : (q : Said) (o : SaidOffice) (next : ℕ) (left : List (List ℕ))
    → reading next (record { mode = Done; said = q; office = o; party = no_party }) left ≡ reading next (at_mode Done q) left
unfolding reading step
same_behind q o next [] = refl
same_behind q o next (p ∷ ps) =
    stepped next (record { mode = Done; said = q; office = o; party = no_party }) p ps (step (at_mode Done q) p) refl
    ∙ sym (stepped next (at_mode Done q) p ps (step (at_mode Done q) p) refl)

pub mode_done : (os : List SaidOffice) (o : SaidOffice) → mode_behind (os ++ o ∷ []) ≡ Done
mode_done [] o = refl
mode_done (x ∷ os) o = refl

pub after_behind : (h : H.Head) (os : List SaidOffice) (o : SaidOffice) (s : FieldsLeft) → goes (after_office (said_of h os) o) s ≡ goes (behind h (os ++ o ∷ [])) s
after_behind h os o s =
    same_behind (said_of h (os ++ o ∷ [])) o s.next s.left ∙ ap (λ m. goes (at_mode m (said_of h (os ++ o ∷ []))) s) (sym (mode_done os o))

-- behind an office the text may end
pub end_behind : (h : H.Head) (os : List SaidOffice) (o : SaidOffice) (s : FieldsLeft) → s.left ≡ [] → goes (behind h (os ++ o ∷ [])) s ≡ Ok (said_of h (os ++ o ∷ []))
unfolding reading
end_behind h os o s e =
    ap (λ m. goes (at_mode m (said_of h (os ++ o ∷ []))) s) (mode_done os o)
    ∙ ap (λ (l : List (List ℕ)). reading s.next (at_mode Done (said_of h (os ++ o ∷ []))) l) e
