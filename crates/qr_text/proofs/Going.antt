-- What was read so far can always go on to a well-formed text.
use Rattle.std.proofs.Common.{◌≡◌, ℕ, true, false, List, [], ◌∷◌, ◌++◌, map, Some, refl, sym, ap, ◌∙◌, subst, lit≤, append_assoc}
use Rattle.std.specs.List.{AllByRecursion, zip}
use Rattle.std.proofs.lemmas.List.{append-nil}
use Rattle.election_tables.specs.Offices.{code_proportional, row_of}
use Rattle.poll_report.specs.Report.{EachAfter, may_have_code, digits_in}
use Rattle.qr_text.specs.Reading.{State, Mode, Head, Code, Kind, Places, Vote, Party, OfParty, PartyTotal, Nominal, Legend, Blank, Null, Total, Done, step, start, may_end, new_office}
use Rattle.qr_text.specs.Said.{ReportField, Test, MayParty, MayOffice, kind_number, fields, head_values, vote_field, party_field, party_fields, office_field, votes_fields, last_fields, sum_fields, office_fields, codes_in}
use Rattle.qr_text.specs.Table.{fits, head_rows}
use Rattle.qr_text.specs.declared.said.Said.{Said}
use Rattle.qr_text.specs.declared.said.SaidOffice.{SaidOffice}
use Rattle.qr_text.specs.declared.said.SaidParty.{SaidParty}
use Rattle.qr_text.specs.declared.table.TheConstants.{TABLE}
use Rattle.qr_text.proofs.Exact.{Traces, Completes}
use Rattle.qr_text.proofs.Codes.{one_place}
use Rattle.qr_text.proofs.HeadRows.{Fits}
use Rattle.qr_text.proofs.Reached.{in_office, votes_read, legend_read, part, Votes, before_part, InOffices, GoodIn, Good}
use Rattle.qr_text.proofs.HeadGoing.{Snoc, head_keeps, minimal_office, Completed, head_completes}
use Rattle.qr_text.proofs.OfficeGoing.{each_snoc, at, code_keeps, fresh_read, kind_keeps, places_keeps, vote_keeps, party_keeps, party_so_far, of_party_keeps, party_more, party_total_keeps}
use Rattle.qr_text.proofs.SumGoing.{nominal_keeps, legend_keeps, blank_keeps, null_keeps, whole_office, some_more, with_office, total_keeps}

-- ---- one field more, in every mode

-- each step keeps what is so
keeps_in : (m : Mode) (s : Said) (o : SaidOffice) (q : SaidParty) (fs : List ReportField) (p : List ℕ) (x : State × List Test)
    → GoodIn m s o q fs → step (at m s o q) p ≡ Some x → Snoc fs p x
unfolding step
keeps_in (Head n) s o q fs p x g e = head_keeps n s o q fs p x g e
keeps_in Code s o q fs p x g e = code_keeps Code s o q fs p x refl g e
keeps_in Kind s o q fs p x g e = kind_keeps s o q fs p x g e
keeps_in Places s o q fs p x g e = places_keeps s o q fs p x g e
keeps_in Vote s o q fs p x g e = vote_keeps s o q fs p x g e
keeps_in Party s o q fs p x g e = party_keeps s o q fs p x g e
keeps_in OfParty s o q fs p x g e = of_party_keeps s o q fs p x g e
keeps_in PartyTotal s o q fs p x g e = party_total_keeps s o q fs p x g e
keeps_in Nominal s o q fs p x g e = nominal_keeps s o q fs p x g e
keeps_in Legend s o q fs p x g e = legend_keeps s o q fs p x g e
keeps_in Blank s o q fs p x g e = blank_keeps s o q fs p x g e
keeps_in Null s o q fs p x g e = null_keeps s o q fs p x g e
keeps_in Total s o q fs p x g e = total_keeps s o q fs p x g e
keeps_in Done s o q fs p x g e = code_keeps Done s o q fs p x refl g e

keeps : (st : State) (fs gs : List ReportField) (e : State) → Good st fs → Traces st gs e → Good e (fs ++ gs)
keeps st fs [] e g t = let P : State → Type 0 = λ x. Good x fs in let Q : List ReportField → Type 0 = λ l. Good e l in
    subst Q (sym (append-nil fs)) (subst P t g)
keeps st fs (f ∷ gs) e g t =
    let next = keeps_in st.mode st.said st.office st.party fs f.text (t.0, f.tests) g t.1 in
    let Q : List ReportField → Type 0 = λ l. Good e l in
    subst Q (append_assoc fs (f ∷ []) gs) (keeps t.0 (fs ++ f ∷ []) gs e next t.2)

-- ---- an office can go on

-- a part of an office and its rest are an office
complete_with : (m : Mode) (s : Said) (x : SaidOffice) (q : SaidParty) (fs pt rest : List ReportField) (o : SaidOffice) → may_end m ≡ false
    → Fits 13 s → EachAfter MayOffice [] s.offices
    → MayOffice s.offices o → fs ≡ before_part s ++ pt → office_fields s o ≡ pt ++ rest → Completed fs (at m s x q)
unfolding fields head_rows
complete_with m s x q fs pt rest o goes_on head offices may read all =
    let s1 : Said = record s { offices = s.offices ++ o ∷ [] } in
    let whole : fields s1 ≡ fs ++ rest =
    with_office s o ∙ (ap (λ (l : List ReportField). before_part s ++ l) all
    ∙ (sym (append_assoc (before_part s) pt rest) ∙ ap (λ (l : List ReportField). l ++ rest) (sym read))) in (
      s1,
      record { head = head; some = some_more s.offices o; offices = each_snoc MayOffice [] s.offices o offices may },
      rest,
      whole,
      λ end. let clash : true ≡ false = sym end ∙ goes_on in absurd (cc),
    )

-- an office whose last numbers are 0
abbrev with_sums : SaidOffice → ℕ → ℕ → ℕ → ℕ → ℕ → SaidOffice
with_sums o able nominal legend blank null_votes =
    record o { able = able; nominal = nominal; legend = legend; blank = blank; null_votes = null_votes; total = 0 }

office_with : (s : Said) (o : SaidOffice) (able nominal legend blank null_votes : ℕ) → Votes s o
    → (code_proportional o.code ≡ false → legend ≡ 0)
    → fits TABLE.office_able.form able ≡ true → fits TABLE.nominal.form nominal ≡ true → fits TABLE.legend.form legend ≡ true
    → fits TABLE.blank.form blank ≡ true → fits TABLE.null_votes.form null_votes ≡ true
    → MayOffice s.offices (with_sums o able nominal legend blank null_votes)
office_with s o able nominal legend blank null_votes v none a n l b z = (
  v.may,
  record {
    places = v.places;
    candidates = v.candidates;
    parties = v.parties;
    proportional = v.proportional;
    majority = λ e. ((v.majority e).0, none e);
    able = a;
    nominal = n;
    legend = l;
    blank = b;
    null_votes = z;
    total = refl;
  },
)

fresh_completes : (s : Said) (x : SaidOffice) (q : SaidParty) (fs : List ReportField) (code : ℕ) → Fits 13 s → EachAfter MayOffice [] s.offices
    → may_have_code (codes_in s.offices) code ≡ true
    → fs ≡ before_part s ++ (office_field s (new_office code) TABLE.office code ∷ []) → Completed fs (at Kind s x q)
fresh_completes s x q fs code head offices may read =
    let o : SaidOffice = new_office code in
    complete_with Kind s x q fs (office_field s o TABLE.office code ∷ [])
    (office_field s o TABLE.kind (kind_number (code_proportional code))
    ∷ (votes_fields (code_proportional code) o ++ sum_fields s (code_proportional code) o)) o
    refl head offices (
      may,
      record {
        places = one_place (codes_in s.offices) code may;
        candidates = tt;
        parties = tt;
        proportional = λ e. refl;
        majority = λ e. (refl, refl);
        able = refl;
        nominal = refl;
        legend = refl;
        blank = refl;
        null_votes = refl;
        total = refl;
      },
    ) read refl

fits_all : (s : Said) → Fits 13 s → AllByRecursion (λ x. fits x.0.form x.1 ≡ true) (zip head_rows (head_values s))
unfolding head_rows
fits_all s h = h

-- the text may end here
whole_completes : (s : Said) (o : SaidOffice) (q : SaidParty) (fs : List ReportField) → InOffices Done s o q fs → Completed fs (at Done s o q)
unfolding fields
whole_completes s o q fs g = (
  s,
  record { head = fits_all s g.head; some = g.fine; offices = g.offices },
  [],
  sym (append-nil fs ∙ (g.read ∙ append-nil (before_part s))),
  λ end. (refl, refl),
)

-- the office of a party that is read, where the party is completed
party_completes : (m : Mode) (s : Said) (o : SaidOffice) (q : SaidParty) (fs : List ReportField) (r : SaidParty) (pt rest : List ReportField)
    → may_end m ≡ false → Fits 13 s → EachAfter MayOffice [] s.offices
    → Votes s o → code_proportional o.code ≡ true → MayParty (digits_in o.code) o.parties r → fs ≡ before_part s ++ pt
    → (read : List ReportField) → party_fields r ≡ read ++ rest → pt ≡ in_office s o (votes_read s o ++ read) → Completed fs (at m s o q)
party_completes m s o q fs r pt rest goes_on head offices v kind may before read whole is =
    let o1 : SaidOffice = record o { parties = o.parties ++ r ∷ [] } in
    let n : SaidOffice = with_sums o1 0 0 0 0 0 in
    let sums : List ReportField = sum_fields s (code_proportional o.code) n in
    let v1 : Votes s o1 = record {
      may = v.may;
      places = v.places;
      candidates = v.candidates;
      proportional = v.proportional;
      parties = each_snoc (MayParty (digits_in o.code)) [] o.parties r v.parties may;
      majority = λ other. let clash : true ≡ false = sym kind ∙ other in absurd (cc);
    } in
    let all : votes_fields (code_proportional o.code) o1 ≡ (votes_read s o ++ read) ++ rest =
    party_more (code_proportional o.code) o r kind
    ∙ (ap (λ (l : List ReportField). votes_read s o ++ l) whole ∙ sym (append_assoc (votes_read s o) read rest)) in
    complete_with m s o q fs pt (rest ++ sums) n goes_on head offices
    (office_with s o1 0 0 0 0 0 v1 (λ e. refl) refl refl refl refl refl) before
    (ap (λ (l : List ReportField). in_office s o (l ++ sums)) all
    ∙ (ap (λ (l : List ReportField). in_office s o l) (append_assoc (votes_read s o ++ read) rest sums)
    ∙ ap (λ (l : List ReportField). l ++ (rest ++ sums)) (sym is)))

completes_in : (m : Mode) (s : Said) (o : SaidOffice) (q : SaidParty) (fs : List ReportField) → GoodIn m s o q fs → Completed fs (at m s o q)
unfolding row_of
completes_in (Head n) s o q fs g = head_completes n s fs o q g
completes_in Code s o q fs g =
    complete_with Code s o q fs [] (office_fields s (new_office 1)) (new_office 1) refl g.head g.offices
    (let P : List SaidOffice → Type 0 = λ os. may_have_code (codes_in os) 1 ≡ true in subst P (sym g.fine) refl, minimal_office) g.read refl
completes_in Kind s o q fs g =
    let P : SaidOffice → Type 0 = λ n. fs ≡ before_part s ++ (office_field s n TABLE.office o.code ∷ []) in
    fresh_completes s o q fs o.code g.head g.offices g.fine.1 g.read
completes_in Places s o q fs g =
    let fresh = fresh_read s o q fs g in
    let n : SaidOffice = with_sums o 0 0 0 0 0 in
    complete_with Places s o q fs (part Vote s o q) (sum_fields s (code_proportional o.code) n) n refl g.head g.offices
    (office_with s o 0 0 0 0 0 fresh.fine.0 (λ e. refl) refl refl refl refl refl) fresh.read refl
completes_in Vote s o q fs g =
    let n : SaidOffice = with_sums o 0 0 0 0 0 in
    complete_with Vote s o q fs (part Vote s o q) (sum_fields s (code_proportional o.code) n) n refl g.head g.offices
    (office_with s o 0 0 0 0 0 g.fine.0 (λ e. refl) refl refl refl refl refl) g.read refl
completes_in Party s o q fs g =
    let n : SaidOffice = with_sums o 0 0 0 0 0 in
    complete_with Party s o q fs (part Party s o q) (sum_fields s (code_proportional o.code) n) n refl g.head g.offices
    (office_with s o 0 0 0 0 0 g.fine.0 (λ e. refl) refl refl refl refl refl) g.read refl
completes_in OfParty s o q fs g =
    party_completes OfParty s o q fs (record q { legend = 0; total = 1 }) (part OfParty s o q)
    (party_field (record q { legend = 0; total = 1 }) TABLE.party_legend 0 ∷ party_field (record q { legend = 0; total = 1 })
    TABLE.party_total 1 ∷ [])
    refl g.head g.offices g.fine.0 g.fine.1.kind
    (record { number = g.fine.1.number; candidates = g.fine.1.candidates; legend = refl; total = refl }, g.fine.1.above) g.read
    (party_so_far s o q) refl refl
completes_in PartyTotal s o q fs g =
    party_completes PartyTotal s o q fs (record q { total = 1 }) (part PartyTotal s o q)
    (party_field (record q { total = 1 }) TABLE.party_total 1 ∷ [])
    refl g.head g.offices g.fine.0 g.fine.1.kind
    (record { number = g.fine.1.number; candidates = g.fine.1.candidates; legend = g.fine.2; total = refl }, g.fine.1.above) g.read
    (party_field q TABLE.party q.number ∷ (map vote_field q.candidates ++ party_field q TABLE.party_legend q.legend ∷ []))
    (ap (λ (l : List ReportField). party_field q TABLE.party q.number ∷ l)
    (sym (append_assoc (map vote_field q.candidates) (party_field q TABLE.party_legend q.legend ∷ [])
    (party_field (record q { total = 1 }) TABLE.party_total 1 ∷ [])))) refl
completes_in Nominal s o q fs g =
    let n : SaidOffice = with_sums o o.able 0 0 0 0 in
    complete_with Nominal s o q fs (part Nominal s o q) (office_field s n TABLE.nominal 0 ∷ (legend_read s n ++ last_fields s n)) n refl
    g.head g.offices
    (office_with s o o.able 0 0 0 0 g.fine.0 (λ e. refl) g.fine.1 refl refl refl refl) g.read
    (ap (λ (l : List ReportField). in_office s o l)
    (sym (append_assoc (votes_read s o) (office_field s o TABLE.office_able o.able ∷ [])
    (office_field s n TABLE.nominal 0 ∷ (legend_read s n ++ last_fields s n)))))
completes_in Legend s o q fs g =
    let n : SaidOffice = with_sums o o.able o.nominal 0 0 0 in
    complete_with Legend s o q fs (part Legend s o q) (legend_read s n ++ last_fields s n) n refl g.head g.offices
    (office_with s o o.able o.nominal 0 0 0 g.fine.0 (λ e. refl) g.fine.1 g.fine.2 refl refl refl) g.read
    (ap (λ (l : List ReportField). in_office s o l)
    (sym (append_assoc (votes_read s o) (office_field s o TABLE.office_able o.able ∷ office_field s o TABLE.nominal o.nominal ∷ [])
    (legend_read s n ++ last_fields s n))))
completes_in Blank s o q fs g =
    let n : SaidOffice = with_sums o o.able o.nominal o.legend 0 0 in
    complete_with Blank s o q fs (part Blank s o q) (last_fields s n) n refl g.head g.offices
    (office_with s o o.able o.nominal o.legend 0 0 g.fine.0 (λ e. (g.fine.0.majority e).1) g.fine.1 g.fine.2 g.fine.3 refl refl) g.read
    (ap (λ (l : List ReportField). in_office s o l)
    (sym (append_assoc (votes_read s o)
    (office_field s o TABLE.office_able o.able ∷ office_field s o TABLE.nominal o.nominal ∷ legend_read s o) (last_fields s n))))
completes_in Null s o q fs g =
    let n : SaidOffice = with_sums o o.able o.nominal o.legend o.blank 0 in
    let b : ReportField = office_field s o TABLE.blank o.blank in
    let rest : List ReportField = office_field s n TABLE.null_votes 0 ∷ office_field s n TABLE.total 0 ∷ [] in
    complete_with Null s o q fs (part Null s o q) rest n refl g.head g.offices
    (office_with s o o.able o.nominal o.legend o.blank 0 g.fine.0 (λ e. (g.fine.0.majority e).1) g.fine.1 g.fine.2 g.fine.3 g.fine.4
    refl) g.read
    (ap (λ (l : List ReportField). in_office s o
    (votes_read s o ++ (office_field s o TABLE.office_able o.able ∷ office_field s o TABLE.nominal o.nominal ∷ l)))
    (sym (append_assoc (legend_read s o) (b ∷ []) rest))
    ∙ ap (λ (l : List ReportField). in_office s o l)
    (sym (append_assoc (votes_read s o)
    (office_field s o TABLE.office_able o.able ∷ office_field s o TABLE.nominal o.nominal ∷ (legend_read s o ++ b ∷ [])) rest)))
completes_in Total s o q fs g =
    let n : SaidOffice = with_sums o o.able o.nominal o.legend o.blank o.null_votes in
    complete_with Total s o q fs (part Total s o q) (office_field s n TABLE.total 0 ∷ []) n refl g.head g.offices
    (office_with s o o.able o.nominal o.legend o.blank o.null_votes g.fine.0 (λ e. (g.fine.0.majority e).1) g.fine.1 g.fine.2 g.fine.3
    g.fine.4 g.fine.5) g.read
    (whole_office s n q)
completes_in Done s o q fs g = whole_completes s o q fs g

start_good : Good start []
unfolding head_rows
start_good = record { few = lit≤ tt; none = refl; read = refl; head = tt }

pub completes : Completes
completes fs e t = let g = keeps start [] fs e start_good t in completes_in e.mode e.said e.office e.party fs g
