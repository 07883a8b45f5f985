-- The steps follow the text of every record.
use Rattle.std.proofs.Common.{◌≡◌, ℕ, suc, ◌-◌, ◌<◌, ◌≤◌, ◌^◌, true, false, List, [], ◌∷◌, ◌++◌, length, map, Some, refl, sym, ap, ◌∙◌, subst, append_assoc, inl, arith, lit<}
use Rattle.std.specs.Prelude.{codes, nat_lt}
use Rattle.std.specs.Fmt.{decimal}
use Rattle.std.specs.List.{AllByRecursion, flat_map}
use Rattle.std.proofs.lemmas.Bool.Decides.{nat_tests}
use Rattle.std.proofs.lemmas.List.{append-nil}
use Rattle.urna_base.specs.Digits.{padded}
use Rattle.urna_base.specs.Moment.{is_between}
use Rattle.urna_base.proofs.DigitLaws.{all_digits-padded, both_from_and}
use Rattle.urna_base.proofs.Lacking.{Lacks, decimal_in_line, digits_lack, lacks-append}
use Rattle.election_tables.specs.Limits.{greatest_process, greatest_section}
use Rattle.election_tables.specs.Offices.{code_proportional, greatest_code}
use Rattle.vote_kinds.specs.declared.choice.Choice.{Choice}
use Rattle.vote_kinds.specs.declared.choice.Choice.TheVariants as choice
use Rattle.vote_record.specs.Bag.{IsInOrder}
use Rattle.vote_record.specs.RecordText.{end_words, format_words, heading_words, line_end, office_words, record_lines, vote_line, vote_words}
use Rattle.poll_report.specs.Report.{EachAfter, may_have_code}
use Rattle.record_audit.specs.Reading.{after_offices, after_votes, in_office, is_end, may_follow, vote_in, with_line}
use Rattle.record_audit.specs.Spelling.{IsHeading, IsRecord, MayStand, codes_in, heading_of, may_vote, most_votes, spelled_lines, spelled_office}
use Rattle.record_audit.specs.declared.stage.Stage.{Stage}
use Rattle.record_audit.specs.declared.stage.Stage.TheVariants.{Start, Begun, Offices, Votes, Ended}
use Rattle.record_audit.specs.declared.text.RecordOffice.{RecordOffice}
use Rattle.record_audit.specs.declared.text.RecordText.{RecordText}
use Rattle.record_audit.proofs.Cutting.{line_written}
use Rattle.record_audit.proofs.Exact.{Steps, step, wanting, with_offices, with_votes}
use Rattle.record_audit.proofs.LineLaws.{candidate_small, choice_written, code_within, heading_written, office_written, other_word, small, without_offices}
use Rattle.record_audit.proofs.Orders.{follows_in_order}

-- ---- no line has a line feed of its own

between_free : (low high n : ℕ) → is_between low high n ≡ true → high < 10 ^ 18 → Lacks 10 (decimal n)
between_free low high n h few = decimal_in_line n (small low high n few h)

heading_free : (r : RecordText) → IsHeading r → Lacks 10 (heading_of r)
unfolding heading_words
heading_free r is =
    let section : List ℕ = decimal r.section in
    let sections : List ℕ = codes " SECA " ++ section in
    let zone : List ℕ = decimal r.zone ++ sections in
    let zones : List ℕ = codes " ZONA " ++ zone in
    let turn : List ℕ = decimal r.turn ++ zones in
    let turns : List ℕ = codes " TURN " ++ turn in
    let date : List ℕ = padded 8 r.date ++ turns in
    let dates : List ℕ = codes " DTPL " ++ date in
    lacks-append 10 (codes "PROC ") (decimal r.process ++ dates) refl (lacks-append 10 (decimal r.process) dates (between_free 1 greatest_process r.process is.process (lit< tt))
    (lacks-append 10 (codes " DTPL ") date refl (lacks-append 10 (padded 8 r.date) turns (digits_lack 10 (padded 8 r.date) (inl (lit< tt)) (all_digits-padded 8 r.date))
    (lacks-append 10 (codes " TURN ") turn refl (lacks-append 10 (decimal r.turn) zones (between_free 1 2 r.turn is.turn (lit< tt))
    (lacks-append 10 (codes " ZONA ") zone refl (lacks-append 10 (decimal r.zone) sections (between_free 1 greatest_section r.zone is.zone (lit< tt))
    (lacks-append 10 (codes " SECA ") section refl (between_free 1 greatest_section r.section is.section (lit< tt))))))))))

office_free : (before : List ℕ) (code votes : ℕ) → may_have_code before code ≡ true → votes ≤ most_votes → Lacks 10 (office_words code votes)
unfolding office_words
office_free before code votes may few =
    let number : List ℕ = decimal votes in
    let numbers : List ℕ = codes " " ++ number in
    lacks-append 10 (codes "CARG ") (decimal code ++ numbers) refl (lacks-append 10 (decimal code) numbers (between_free 0 greatest_code code (code_within before code may) (lit< tt))
    (lacks-append 10 (codes " ") number refl (decimal_in_line votes (omega arith))))

vote_free : (code : ℕ) (c : Choice) → may_vote code c ≡ true → Lacks 10 (vote_words c)
vote_free code (choice.Nominal n) h = let few = candidate_small code n h in lacks-append 10 (codes "N ") (decimal n) refl (decimal_in_line n (omega arith))
vote_free code (choice.Party n) h = lacks-append 10 (codes "L ") (decimal n) refl (between_free 10 99 n (both_from_and (code_proportional code) (is_between 10 99 n) h).1 (lit< tt))
vote_free code choice.Blank h = refl
vote_free code choice.Null h = refl

-- ---- one step

step_is : (st : Stage) (line : List ℕ) (n : Stage) → Lacks 10 line → with_line st line ≡ Some n → step st (line ++ line_end) ≡ Some n
step_is st line n free h = rw (line_written line free, h) refl

steps_join : (st : Stage) (rows : List (List ℕ)) (m : Stage) (more : List (List ℕ)) (e : Stage) → Steps st rows m → Steps m more e → Steps st (rows ++ more) e
steps_join st [] m more e h g = subst (λ (s : Stage). Steps s more e) (sym h) g
steps_join st (row ∷ rows) m more e h g = (h.0, h.1, steps_join h.0 rows m more e h.2 g)

-- ---- the votes of an office

vote_step : (text : RecordText) (o : RecordOffice) (n : ℕ) (c : Choice) → may_vote o.code c ≡ true → may_follow o.votes c ≡ true
    → with_line (Votes text o (suc n)) (vote_words c) ≡ Some (in_office text (with_votes o (o.votes ++ c ∷ [])) n)
unfolding with_line after_votes vote_in
vote_step text o n c may behind =
    let one_less : suc n - 1 ≡ n = omega arith in
    rw (choice_written o.code c may, behind, one_less) refl

filled : (text : RecordText) (o : RecordOffice) → in_office text o 0 ≡ Offices (with_offices text (text.offices ++ o ∷ []))
unfolding in_office
filled text o = refl

votes_steps : (text : RecordText) (code : ℕ) (done more : List Choice) → AllByRecursion (λ c. may_vote code c ≡ true) more → IsInOrder (done ++ more)
    → Steps (in_office text (record { code = code; votes = done }) (length more)) (map vote_line more)
    (Offices (with_offices text (text.offices ++ (record { code = code; votes = done ++ more }) ∷ [])))
votes_steps text code done [] may is =
    filled text (record { code = code; votes = done })
    ∙ ap (λ (l : List Choice). Offices (with_offices text (text.offices ++ (record { code = code; votes = l }) ∷ []))) (sym (append-nil done))
votes_steps text code done (c ∷ more) may is =
    let o : RecordOffice = record { code = code; votes = done } in
    let all = append_assoc done (c ∷ []) more in
    let rest = votes_steps text code (done ++ c ∷ []) more may.1 (subst IsInOrder (sym all) is) in
    let next : Stage = in_office text (with_votes o (done ++ c ∷ [])) (length more) in
    let one = step_is (Votes text o (suc (length more))) (vote_words c) next (vote_free code c may.0) (vote_step text o (length more) c may.0 (follows_in_order done c more is)) in (
      next,
      ap (λ (s : Stage). step s (vote_line c)) (wanting text o (length more)) ∙ one,
      subst (λ (l : List Choice). Steps next (map vote_line more) (Offices (with_offices text (text.offices ++ (record { code = code; votes = l }) ∷ [])))) all rest,
    )

-- ---- the offices

no_end : (offices : List RecordOffice) (code votes : ℕ) → is_end offices (office_words code votes) ≡ false
unfolding office_words
no_end offices code votes = rw (other_word (office_words code votes) end_words (λ e. absurd (cc))) refl

office_step : (text : RecordText) (code votes : ℕ) → may_have_code (codes_in text.offices) code ≡ true → votes ≤ most_votes
    → with_line (Offices text) (office_words code votes) ≡ Some (in_office text (record { code = code; votes = [] }) votes)
unfolding with_line after_offices
office_step text code votes may few = rw (no_end text.offices code votes, office_written (codes_in text.offices) code votes may few) refl

end_step : (text : RecordText) → 0 < length text.offices → with_line (Offices text) end_words ≡ Some (Ended text)
unfolding with_line after_offices
end_step text some =
    let there : nat_lt 0 (length text.offices) ≡ true = grind (arith, nat_tests) in
    rw there refl

offices_steps : (text : RecordText) (before after : List RecordOffice) → EachAfter MayStand before after → 0 < length (before ++ after)
    → Steps (Offices (with_offices text before)) (flat_map spelled_office after ++ (end_words ++ line_end) ∷ []) (Ended (with_offices text (before ++ after)))
offices_steps text before [] may some =
    let same = append-nil before in
    let some' : 0 < length before = subst (λ (l : List RecordOffice). 0 < length l) same some in (
      Ended (with_offices text before),
      step_is (Offices (with_offices text before)) end_words (Ended (with_offices text before)) refl (end_step (with_offices text before) some'),
      ap (λ (l : List RecordOffice). Ended (with_offices text l)) (sym same),
    )
offices_steps text before (o ∷ after) may some =
    let all = append_assoc before (o ∷ []) after in
    let here = may.0 in
    let first : Stage = in_office (with_offices text before) (record { code = o.code; votes = [] }) (length o.votes) in
    let one = step_is (Offices (with_offices text before)) (office_words o.code (length o.votes)) first
    (office_free (codes_in before) o.code (length o.votes) here.0 here.1.few) (office_step (with_offices text before) o.code (length o.votes) here.0 here.1.few) in
    let votes = votes_steps (with_offices text before) o.code [] o.votes here.1.votes here.1.in_order in
    let rest = offices_steps text (before ++ o ∷ []) after may.1 (subst (λ (l : List RecordOffice). 0 < length l) (sym all) some) in
    let end : List (List ℕ) = (end_words ++ line_end) ∷ [] in
    let goal : Stage = Ended (with_offices text (before ++ o ∷ after)) in
    let rest' : Steps (Offices (with_offices text (before ++ o ∷ []))) (flat_map spelled_office after ++ end) goal
    = subst (λ (l : List RecordOffice). Steps (Offices (with_offices text (before ++ o ∷ []))) (flat_map spelled_office after ++ end) (Ended (with_offices text l))) all rest in
    let joined : Steps (Offices (with_offices text before)) (spelled_office o ++ (flat_map spelled_office after ++ end)) goal
    = steps_join (Offices (with_offices text before)) (spelled_office o) (Offices (with_offices text (before ++ o ∷ []))) (flat_map spelled_office after ++ end) goal (first, one, votes) rest' in
    subst (λ (l : List (List ℕ)). Steps (Offices (with_offices text before)) l goal) (sym (append_assoc (spelled_office o) (flat_map spelled_office after) end)) joined

-- ---- the whole

format_step : with_line Start format_words ≡ Some Begun
unfolding with_line
format_step = refl

heading_step : (r : RecordText) → IsHeading r → with_line Begun (heading_of r) ≡ Some (Offices (without_offices r))
unfolding with_line
heading_step r is = rw (heading_written r is) refl

pub complete : (r : RecordText) → IsRecord r → Steps Start (spelled_lines r) (Ended r)
unfolding record_lines
complete r is = (
  Begun,
  step_is Start format_words Begun refl format_step,
  (
    Offices (without_offices r),
    step_is Begun (heading_of r) (Offices (without_offices r)) (heading_free r is.heading) (heading_step r is.heading),
    offices_steps r [] r.offices is.offices is.some,
  ),
)
