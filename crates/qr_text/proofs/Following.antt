-- The steps follow every well-formed text.
use Rattle.std.proofs.Common.{◌≡◌, ℕ, ◌<◌, Bool, true, false, List, [], ◌∷◌, ◌++◌, length, map, Some, None, refl, sym, ap, ◌∙◌, subst, ◌⊎◌, inl, inr, arith, lit<, append_assoc}
use Rattle.std.specs.Prelude.{codes, ◌==◌, if◌then◌else◌}
use Rattle.std.specs.List.{zip, flat_map}
use Rattle.std.proofs.lemmas.Bool.{cases_Bool, eq-eqb, eqb-true}
use Rattle.std.proofs.lemmas.List.{append-nil}
use Rattle.urna_base.specs.Digits.{decimal_value}
use Rattle.election_tables.specs.Offices.{code_proportional, may_have_places}
use Rattle.election_tables.proofs.PlacesOfPanels.{may_have-one}
use Rattle.poll_report.specs.Report.{EachAfter, MayVote, may_have_code, digits_in}
use Rattle.poll_report.specs.declared.report.Count.{Count}
use Rattle.qr_text.specs.Reading.{State, Mode, Code, Kind, Places, Vote, Party, OfParty, PartyTotal, Nominal, Legend, Blank, Null, Total, Done, step, start, number_at, no_party, new_office}
use Rattle.qr_text.specs.Said.{ReportField, IsSaidOffice, MayVoteIn, MayParty, MayOffice, kind_number, fields, head_values, head_field, vote_field, party_field, party_fields, office_field, votes_fields, last_fields, sum_fields, office_fields, codes_in}
use Rattle.qr_text.specs.Table.{fits, head_rows, row_text}
use Rattle.qr_text.specs.declared.said.Said.{Said}
use Rattle.qr_text.specs.declared.said.SaidOffice.{SaidOffice}
use Rattle.qr_text.specs.declared.said.SaidParty.{SaidParty}
use Rattle.qr_text.specs.declared.table.TheConstants.{TABLE}
use Rattle.qr_text.proofs.Codes.{code_fits, other_fits}
use Rattle.qr_text.proofs.Exact.{Traces, Complete}
use Rattle.qr_text.proofs.HeadRows.{at_head, head_traced}
use Rattle.qr_text.proofs.RowLaws.{number_again, vote_again, vote_not_places, vote_none, number_small}

-- fields, and others behind them
traces_append : (st : State) (fs gs : List ReportField) (m e : State) → Traces st fs m → Traces m gs e → Traces st (fs ++ gs) e
traces_append st [] gs m e t u = let P : State → Type 0 = λ x. Traces x gs e in subst P (sym t) u
traces_append st (f ∷ fs) gs m e t u = (t.0, t.1, traces_append t.0 fs gs m e t.2 u)

traces_to : (st : State) (fs : List ReportField) (d e : State) → d ≡ e → Traces st fs d → Traces st fs e
traces_to st fs d e same t = let P : State → Type 0 = λ x. Traces st fs x in subst P same t

-- ---- lists

-- elements that are a field each
each_mapped : {A : Type 0} (May : List A → A → Type 0) (f : A → ReportField) (st : List A → State)
    → ((before : List A) (x : A) → May before x → step (st before) (f x).text ≡ Some (st (before ++ x ∷ []), (f x).tests))
    → (before xs : List A) → EachAfter May before xs → Traces (st before) (map f xs) (st (before ++ xs))
each_mapped May f st one before [] h = ap st (sym (append-nil before))
each_mapped May f st one before (x ∷ xs) h = (
  st (before ++ x ∷ []),
  one before x h.0,
  traces_to (st (before ++ x ∷ [])) (map f xs) _ _ (ap st (append_assoc before (x ∷ []) xs))
      (each_mapped May f st one (before ++ x ∷ []) xs h.1),
)

-- elements that are several fields each
each_traced : {A : Type 0} (May : List A → A → Type 0) (f : A → List ReportField) (st : List A → State)
    → ((before : List A) (x : A) → May before x → Traces (st before) (f x) (st (before ++ x ∷ [])))
    → (before xs : List A) → EachAfter May before xs → Traces (st before) (flat_map f xs) (st (before ++ xs))
each_traced May f st one before [] h = ap st (sym (append-nil before))
each_traced May f st one before (x ∷ xs) h =
    traces_to (st before) (f x ++ flat_map f xs) _ _ (ap st (append_assoc before (x ∷ []) xs))
    (traces_append (st before) (f x) (flat_map f xs) (st (before ++ x ∷ [])) _ (one before x h.0)
    (each_traced May f st one (before ++ x ∷ []) xs h.1))

-- ---- an office

-- an office is read behind those that are done
abbrev at_office : Mode → Said → List SaidOffice → SaidOffice → SaidParty → State
at_office m s done o p = record { mode = m; said = record s { offices = done }; office = o; party = p }

-- a candidate of a majority office
vote_goes : (s : Said) (done : List SaidOffice) (o : SaidOffice) (before : List Count) (c : Count) → MayVote (digits_in o.code) before c
    → step (at_office Vote s done (record o { candidates = before }) no_party) (vote_field c).text
    ≡ Some (at_office Vote s done (record o { candidates = before ++ c ∷ [] }) no_party, (vote_field c).tests)
unfolding step
vote_goes s done o before c h = rw (vote_again (digits_in o.code) c (number_small o.code c h.0) h.0, h.1) refl

-- a candidate of a party
abbrev of_party : ℕ → List Count → SaidParty
of_party number before = record { number = number; candidates = before; legend = 0; total = 0 }

party_vote_goes : (s : Said) (done : List SaidOffice) (o : SaidOffice) (number : ℕ) (before : List Count) (c : Count)
    → MayVoteIn (digits_in o.code) number before c
    → step (at_office OfParty s done o (of_party number before)) (vote_field c).text
    ≡ Some (at_office OfParty s done o (of_party number (before ++ c ∷ [])), (vote_field c).tests)
unfolding step
party_vote_goes s done o number before c h =
    rw (vote_again (digits_in o.code) c (number_small o.code c h.1.0) h.1.0, h.0, eq-eqb number number refl, h.1.1) refl

-- ---- a party

-- parties were read
abbrev in_parties : Said → List SaidOffice → SaidOffice → List SaidParty → State
in_parties s done o before = at_office Party s done (record o { parties = before }) no_party

party_begins : (s : Said) (done : List SaidOffice) (o : SaidOffice) (before : List SaidParty) (p : SaidParty)
    → MayParty (digits_in o.code) before p
    → step (in_parties s done o before) (row_text TABLE.party p.number)
    ≡ Some (at_office OfParty s done (record o { parties = before }) (of_party p.number []), [])
unfolding step
party_begins s done o before p h = rw (number_again TABLE.party p.number (lit< tt) h.0.number, h.1) refl

legend_goes : (s : Said) (done : List SaidOffice) (o : SaidOffice) (p : SaidParty) → fits TABLE.party_legend.form p.legend ≡ true
    → step (at_office OfParty s done o (of_party p.number p.candidates)) (row_text TABLE.party_legend p.legend)
    ≡ Some (at_office PartyTotal s done o (record (of_party p.number p.candidates) { legend = p.legend }), [])
unfolding step decimal_value
legend_goes s done o p h = rw (
  vote_none (digits_in o.code) (codes "LEGP") _ refl refl,
  number_again TABLE.party_legend p.legend (lit< tt) h,
) refl

party_ends : (s : Said) (done : List SaidOffice) (o : SaidOffice) (before : List SaidParty) (p : SaidParty)
    → fits TABLE.party_total.form p.total ≡ true
    → step (at_office PartyTotal s done (record o { parties = before }) (record (of_party p.number p.candidates) { legend = p.legend }))
    (row_text TABLE.party_total p.total)
    ≡ Some (in_parties s done o (before ++ p ∷ []), (party_field p TABLE.party_total p.total).tests)
unfolding step
party_ends s done o before p h = rw (number_again TABLE.party_total p.total (lit< tt) h) refl

party_traced : (s : Said) (done : List SaidOffice) (o : SaidOffice) (before : List SaidParty) (p : SaidParty)
    → MayParty (digits_in o.code) before p
    → Traces (in_parties s done o before) (party_fields p) (in_parties s done o (before ++ p ∷ []))
party_traced s done o before p h =
    let o1 : SaidOffice = record o { parties = before } in (
      at_office OfParty s done o1 (of_party p.number []),
      party_begins s done o before p h,
      traces_append _ (map vote_field p.candidates) _ (at_office OfParty s done o1 (of_party p.number p.candidates)) _
          (each_mapped (MayVoteIn (digits_in o.code) p.number) vote_field (λ cs. at_office OfParty s done o1 (of_party p.number cs))
          (party_vote_goes s done o1 p.number) [] p.candidates h.0.candidates) (
            at_office PartyTotal s done o1 (record (of_party p.number p.candidates) { legend = p.legend }),
            legend_goes s done o1 p h.0.legend,
            (in_parties s done o (before ++ p ∷ []), party_ends s done o before p h.0.total, refl),
          ),
    )

-- ---- the fields behind the votes

-- the office with its votes alone
abbrev voted : SaidOffice → SaidOffice
voted o = record (new_office o.code) { places = o.places; candidates = o.candidates; parties = o.parties }

able_goes : (s : Said) (done : List SaidOffice) (o : SaidOffice) → fits TABLE.office_able.form o.able ≡ true
    → step (at_office Vote s done (voted o) no_party) (row_text TABLE.office_able o.able)
    ≡ Some (at_office Nominal s done (record (voted o) { able = o.able }) no_party, (office_field s o TABLE.office_able o.able).tests)
unfolding step decimal_value
able_goes s done o h = rw (vote_none (digits_in o.code) (codes "APTA") _ refl refl, number_again TABLE.office_able o.able (lit< tt) h) refl

no_part : (v : ℕ) → number_at TABLE.party (row_text TABLE.office_able v) ≡ None
unfolding number_at
no_part v = refl

able_goes_behind_parties : (s : Said) (done : List SaidOffice) (o : SaidOffice) → fits TABLE.office_able.form o.able ≡ true
    → step (at_office Party s done (voted o) no_party) (row_text TABLE.office_able o.able)
    ≡ Some (at_office Nominal s done (record (voted o) { able = o.able }) no_party, (office_field s o TABLE.office_able o.able).tests)
unfolding step
able_goes_behind_parties s done o h = rw (no_part o.able, number_again TABLE.office_able o.able (lit< tt) h) refl

-- and with the first two of its sums
abbrev with_nominal : SaidOffice → SaidOffice
with_nominal o = record (voted o) { able = o.able; nominal = o.nominal }

nominal_goes : (s : Said) (done : List SaidOffice) (o : SaidOffice) → fits TABLE.nominal.form o.nominal ≡ true
    → step (at_office Nominal s done (record (voted o) { able = o.able }) no_party) (row_text TABLE.nominal o.nominal)
    ≡ Some (
      at_office (if code_proportional o.code then Legend else Blank) s done (with_nominal o) no_party,
      (office_field s o TABLE.nominal o.nominal).tests,
    )
unfolding step
nominal_goes s done o h = rw (number_again TABLE.nominal o.nominal (lit< tt) h) refl

office_legend_goes : (s : Said) (done : List SaidOffice) (o : SaidOffice) → fits TABLE.legend.form o.legend ≡ true
    → step (at_office Legend s done (with_nominal o) no_party) (row_text TABLE.legend o.legend)
    ≡ Some (at_office Blank s done (record (with_nominal o) { legend = o.legend }) no_party, (office_field s o TABLE.legend o.legend).tests)
unfolding step
office_legend_goes s done o h = rw (number_again TABLE.legend o.legend (lit< tt) h) refl

blank_goes : (s : Said) (done : List SaidOffice) (o : SaidOffice) → fits TABLE.blank.form o.blank ≡ true
    → step (at_office Blank s done (record (with_nominal o) { legend = o.legend }) no_party) (row_text TABLE.blank o.blank)
    ≡ Some (
      at_office Null s done (record (with_nominal o) { legend = o.legend; blank = o.blank }) no_party,
      (office_field s o TABLE.blank o.blank).tests,
    )
unfolding step
blank_goes s done o h = rw (number_again TABLE.blank o.blank (lit< tt) h) refl

null_goes : (s : Said) (done : List SaidOffice) (o : SaidOffice) → fits TABLE.null_votes.form o.null_votes ≡ true
    → step (at_office Null s done (record (with_nominal o) { legend = o.legend; blank = o.blank }) no_party)
    (row_text TABLE.null_votes o.null_votes)
    ≡ Some (at_office Total s done (record o { total = 0 }) no_party, (office_field s o TABLE.null_votes o.null_votes).tests)
unfolding step
null_goes s done o h = rw (number_again TABLE.null_votes o.null_votes (lit< tt) h) refl

total_goes : (s : Said) (done : List SaidOffice) (o : SaidOffice) → fits TABLE.total.form o.total ≡ true
    → step (at_office Total s done (record o { total = 0 }) no_party) (row_text TABLE.total o.total)
    ≡ Some (at_office Done s (done ++ o ∷ []) o no_party, (office_field s o TABLE.total o.total).tests)
unfolding step
total_goes s done o h = rw (number_again TABLE.total o.total (lit< tt) h) refl

last_traced : (s : Said) (done : List SaidOffice) (o : SaidOffice) → IsSaidOffice o
    → Traces (at_office Blank s done (record (with_nominal o) { legend = o.legend }) no_party) (last_fields s o)
    (at_office Done s (done ++ o ∷ []) o no_party)
last_traced s done o h = (
  at_office Null s done (record (with_nominal o) { legend = o.legend; blank = o.blank }) no_party,
  blank_goes s done o h.blank,
  (
    at_office Total s done (record o { total = 0 }) no_party,
    null_goes s done o h.null_votes,
    (at_office Done s (done ++ o ∷ []) o no_party, total_goes s done o h.total, refl),
  ),
)

-- ---- a whole office

code_goes : (m : Mode) (s : Said) (done : List SaidOffice) (x : SaidOffice) (q : SaidParty) (o : SaidOffice) → (m ≡ Code) ⊎ (m ≡ Done)
    → may_have_code (codes_in done) o.code ≡ true
    → fits TABLE.office.form o.code ≡ true
    → step (at_office m s done x q) (row_text TABLE.office o.code) ≡ Some (at_office Kind s done (new_office o.code) no_party, [])
unfolding step
code_goes m s done x q o (inl e) may fit = rw (e, number_again TABLE.office o.code (lit< tt) fit, may) refl
code_goes m s done x q o (inr e) may fit = rw (e, number_again TABLE.office o.code (lit< tt) fit, may) refl

pub kind_fits : (b : Bool) → fits TABLE.kind.form (kind_number b) ≡ true
kind_fits true = refl
kind_fits false = refl

kind_goes : (s : Said) (done : List SaidOffice) (code : ℕ)
    → step (at_office Kind s done (new_office code) no_party) (row_text TABLE.kind (kind_number (code_proportional code)))
    ≡ Some (at_office (if code_proportional code then Party else Places) s done (new_office code) no_party, [])
unfolding step
kind_goes s done code = rw (
  number_again TABLE.kind (kind_number (code_proportional code)) (lit< tt) (kind_fits (code_proportional code)),
  eq-eqb (kind_number (code_proportional code)) (kind_number (code_proportional code)) refl,
) refl

-- what stands behind TIPO
abbrev behind_kind : Said → SaidOffice → Bool → List ReportField
behind_kind s o proportional = votes_fields proportional o ++ sum_fields s proportional o

-- its places were read, or there is one
abbrev placed : SaidOffice → SaidOffice
placed o = record (new_office o.code) { places = o.places }

-- what stands behind the places of a majority office
abbrev behind_places : Said → SaidOffice → List ReportField
behind_places s o = map vote_field o.candidates ++ sum_fields s false o

places_traced : (s : Said) (done : List SaidOffice) (o : SaidOffice) → IsSaidOffice o → code_proportional o.code ≡ false
    → Traces (at_office Vote s done (placed o) no_party) (behind_places s o) (at_office Done s (done ++ o ∷ []) o no_party)
places_traced s done o h e =
    let none = h.majority e in
    let voted_so : record (placed o) { candidates = o.candidates } ≡ voted o =
    ap (λ (ps : List SaidParty). record (placed o) { candidates = o.candidates; parties = ps }) (sym none.0) in
    let votes = each_mapped (MayVote (digits_in o.code)) vote_field
    (λ cs. at_office Vote s done (record (placed o) { candidates = cs }) no_party)
    (vote_goes s done (placed o)) [] o.candidates h.candidates in
    let next : at_office (if code_proportional o.code then Legend else Blank) s done (with_nominal o) no_party
    ≡ at_office Blank s done (record (with_nominal o) { legend = o.legend }) no_party =
    ap (λ (b : Bool). at_office (if b then Legend else Blank) s done (with_nominal o) no_party) e
    ∙ ap (λ (n : ℕ). at_office Blank s done (record (with_nominal o) { legend = n }) no_party) (sym none.1) in
    traces_append (at_office Vote s done (placed o) no_party) (map vote_field o.candidates) (sum_fields s false o)
    (at_office Vote s done (voted o) no_party) (at_office Done s (done ++ o ∷ []) o no_party)
    (traces_to (at_office Vote s done (placed o) no_party) (map vote_field o.candidates) _ _
    (ap (λ (x : SaidOffice). at_office Vote s done x no_party) voted_so) votes) (
      at_office Nominal s done (record (voted o) { able = o.able }) no_party,
      able_goes s done o h.able,
      (
        at_office Blank s done (record (with_nominal o) { legend = o.legend }) no_party,
        nominal_goes s done o h.nominal ∙ ap (λ (x : State). Some (x, (office_field s o TABLE.nominal o.nominal).tests)) next,
        last_traced s done o h,
      ),
    )

-- a field that isn't of places is read as if they had been
no_places_goes : (s : Said) (done : List SaidOffice) (o : SaidOffice) (p : List ℕ) → number_at TABLE.places p ≡ None
    → step (at_office Places s done o no_party) p ≡ step (at_office Vote s done o no_party) p
unfolding step
no_places_goes s done o p h = rw h refl

no_places : (v : ℕ) → number_at TABLE.places (row_text TABLE.office_able v) ≡ None
unfolding number_at
no_places v = refl

one_place_traced : (s : Said) (done : List SaidOffice) (o n : SaidOffice) (e : State) → IsSaidOffice o
    → Traces (at_office Vote s done n no_party) (behind_places s o) e → Traces (at_office Places s done n no_party) (behind_places s o) e
one_place_traced s done o n e h t = go o.candidates h.candidates t
  where
    go : (cs : List Count) → EachAfter (MayVote (digits_in o.code)) [] cs → Traces (at_office Vote s done n no_party) (map vote_field cs ++ sum_fields s false o) e
        → Traces (at_office Places s done n no_party) (map vote_field cs ++ sum_fields s false o) e
    go [] may t = (t.0, no_places_goes s done n (row_text TABLE.office_able o.able) (no_places o.able) ∙ t.1, t.2)
    go (c ∷ cs) may t = (t.0, no_places_goes s done n (vote_field c).text (vote_not_places o.code c may.0.0) ∙ t.1, t.2)

two_places_go : (s : Said) (done : List SaidOffice) (o : SaidOffice) → may_have_places o.code o.places ≡ true → fits TABLE.places.form o.places ≡ true
    → step (at_office Places s done (new_office o.code) no_party) (row_text TABLE.places o.places) ≡ Some (at_office Vote s done (placed o) no_party, [])
unfolding step
two_places_go s done o may fit = rw (number_again TABLE.places o.places (lit< tt) fit, may) refl

majority_traced : (s : Said) (done : List SaidOffice) (o : SaidOffice) → IsSaidOffice o → code_proportional o.code ≡ false
    → Traces (at_office Places s done (new_office o.code) no_party) (behind_kind s o false) (at_office Done s (done ++ o ∷ []) o no_party)
majority_traced s done o h e =
    let behind = places_traced s done o h e in
    let end : State = at_office Done s (done ++ o ∷ []) o no_party in
    elim (cases_Bool (o.places == 1)) [
      | inl one ↦
          let same : placed o ≡ new_office o.code = ap (λ (n : ℕ). record (new_office o.code) { places = n }) (eqb-true o.places 1 one) in
          let from : Traces (at_office Vote s done (new_office o.code) no_party) (behind_places s o) end =
          subst (λ (n : SaidOffice). Traces (at_office Vote s done n no_party) (behind_places s o) end) same behind in
          rw one (one_place_traced s done o (new_office o.code) end h from)
      | inr other ↦ rw other (at_office Vote s done (placed o) no_party, two_places_go s done o h.places (other_fits o.code o.places h.places other), behind)
    ]

proportional_traced : (s : Said) (done : List SaidOffice) (o : SaidOffice) → IsSaidOffice o → code_proportional o.code ≡ true
    → Traces (at_office Party s done (new_office o.code) no_party) (behind_kind s o true) (at_office Done s (done ++ o ∷ []) o no_party)
proportional_traced s done o h e =
    let none = h.proportional e in
    let voted_so : record (new_office o.code) { parties = o.parties } ≡ voted o =
    ap (λ (cs : List Count). record (new_office o.code) { candidates = cs; parties = o.parties }) (sym none)
    ∙ ap (λ (n : ℕ). record (new_office o.code) { places = n; candidates = o.candidates; parties = o.parties }) (sym (may_have-one o.code o.places e h.places)) in
    let votes = each_traced (MayParty (digits_in o.code)) party_fields (in_parties s done (new_office o.code))
    (party_traced s done (new_office o.code)) [] o.parties h.parties in
    let next : at_office (if code_proportional o.code then Legend else Blank) s done (with_nominal o) no_party
    ≡ at_office Legend s done (with_nominal o) no_party =
    ap (λ (b : Bool). at_office (if b then Legend else Blank) s done (with_nominal o) no_party) e in
    traces_append (at_office Party s done (new_office o.code) no_party) (flat_map party_fields o.parties) (sum_fields s true o)
    (at_office Party s done (voted o) no_party) (at_office Done s (done ++ o ∷ []) o no_party)
    (traces_to (at_office Party s done (new_office o.code) no_party) (flat_map party_fields o.parties) _ _
    (ap (λ (x : SaidOffice). at_office Party s done x no_party) voted_so) votes) (
      at_office Nominal s done (record (voted o) { able = o.able }) no_party,
      able_goes_behind_parties s done o h.able,
      (
        at_office Legend s done (with_nominal o) no_party,
        nominal_goes s done o h.nominal ∙ ap (λ (x : State). Some (x, (office_field s o TABLE.nominal o.nominal).tests)) next,
        (
          at_office Blank s done (record (with_nominal o) { legend = o.legend }) no_party,
          office_legend_goes s done o h.legend,
          last_traced s done o h,
        ),
      ),
    )

behind_kind_traced : (s : Said) (done : List SaidOffice) (o : SaidOffice) (b : Bool) → IsSaidOffice o → code_proportional o.code ≡ b
    → Traces (at_office (if b then Party else Places) s done (new_office o.code) no_party) (behind_kind s o b)
    (at_office Done s (done ++ o ∷ []) o no_party)
behind_kind_traced s done o true h e = proportional_traced s done o h e
behind_kind_traced s done o false h e = majority_traced s done o h e

office_traced : (m : Mode) (s : Said) (done : List SaidOffice) (x : SaidOffice) (q : SaidParty) (o : SaidOffice) → (m ≡ Code) ⊎ (m ≡ Done)
    → MayOffice done o
    → Traces (at_office m s done x q) (office_fields s o) (at_office Done s (done ++ o ∷ []) o no_party)
office_traced m s done x q o first h = (
  at_office Kind s done (new_office o.code) no_party,
  code_goes m s done x q o first h.0 (code_fits (codes_in done) o.code h.0),
  (
    at_office (if code_proportional o.code then Party else Places) s done (new_office o.code) no_party,
    kind_goes s done o.code,
    behind_kind_traced s done o (code_proportional o.code) h.1 refl,
  ),
)

-- ---- all offices

offices_traced : (m : Mode) (s : Said) (done : List SaidOffice) (x : SaidOffice) (q : SaidParty) (os : List SaidOffice) (o : SaidOffice)
    → (m ≡ Code) ⊎ (m ≡ Done)
    → EachAfter MayOffice done (o ∷ os)
    → (last : SaidOffice) × Traces (at_office m s done x q) (flat_map (office_fields s) (o ∷ os))
    (at_office Done s (done ++ o ∷ os) last no_party)
offices_traced m s done x q [] o first h = (
  o,
  traces_append _ (office_fields s o) [] (at_office Done s (done ++ o ∷ []) o no_party) _
      (office_traced m s done x q o first h.0) refl,
)
offices_traced m s done x q (p ∷ os) o first h =
    let rest = offices_traced Done s (done ++ o ∷ []) o no_party os p (inr refl) h.1 in (
      rest.0,
      traces_append _ (office_fields s o) (flat_map (office_fields s) (p ∷ os)) (at_office Done s (done ++ o ∷ []) o no_party) _
          (office_traced m s done x q o first h.0)
          (traces_to _ (flat_map (office_fields s) (p ∷ os)) _ _
          (ap (λ (ls : List SaidOffice). at_office Done s ls rest.0 no_party) (append_assoc done (o ∷ []) (p ∷ os))) rest.1),
    )

all_traced : (s : Said) (os : List SaidOffice) → 0 < length os → EachAfter MayOffice [] os
    → (last : SaidOffice) × Traces (at_office Code s [] (new_office 0) no_party) (flat_map (office_fields s) os)
    (at_office Done s os last no_party)
all_traced s [] some h = absurd (omega arith)
all_traced s (o ∷ os) some h = offices_traced Code s [] (new_office 0) no_party os o (inl refl) h

pub complete : Complete
unfolding fields
complete s h =
    let rest = all_traced s s.offices h.some h.offices in (
      at_office Done s s.offices rest.0 no_party,
      refl,
      refl,
      traces_append start (map (head_field s) (zip head_rows (head_values s))) (flat_map (office_fields s) s.offices) (at_head 13 s) _
          (head_traced s h.head) rest.1,
    )
