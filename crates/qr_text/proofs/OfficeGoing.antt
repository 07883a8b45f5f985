-- The fields of an office up to its votes keep what is so.
use Rattle.std.proofs.Common.{◌≡◌, ℕ, Bool, true, false, List, [], ◌∷◌, ◌++◌, map, Option, Some, None, refl, sym, ap, ◌∙◌, subst, ◌⊎◌, inl, inr, append_assoc}
use Rattle.std.specs.Prelude.{if◌then◌else◌, ◌==◌, ◌&&◌, option_map}
use Rattle.std.specs.List.{flat_map}
use Rattle.std.specs.Option.{option_and_then, option_or}
use Rattle.std.proofs.lemmas.Bool.{eqb-true}
use Rattle.std.proofs.lemmas.List.{append-nil, map-append}
use Rattle.urna_base.proofs.DigitLaws.{both_from_and}
use Rattle.urna_base.proofs.Cases.{and_then_some, map_some}
use Rattle.election_tables.specs.Fields.{first_two}
use Rattle.election_tables.specs.Offices.{code_proportional, may_have_places}
use Rattle.poll_report.specs.Report.{EachAfter, MayVote, may_have_code, digits_in, numbers_of, is_above}
use Rattle.poll_report.specs.declared.report.Count.{Count}
use Rattle.qr_text.specs.Reading.{State, Mode, Kind, Places, Vote, Party, OfParty, PartyTotal, Nominal, step, number_at, vote_at, no_party, new_office}
use Rattle.qr_text.specs.Said.{ReportField, Test, MayVoteIn, MayParty, MayOffice, kind_number, places_fields, vote_field, party_field, party_fields, office_field, votes_fields, codes_in}
use Rattle.qr_text.specs.Table.{row_text, vote_row}
use Rattle.qr_text.specs.declared.said.Said.{Said}
use Rattle.qr_text.specs.declared.said.SaidOffice.{SaidOffice}
use Rattle.qr_text.specs.declared.said.SaidParty.{SaidParty}
use Rattle.qr_text.specs.declared.table.TheConstants.{TABLE}
use Rattle.qr_text.proofs.Codes.{not_one, one_place}
use Rattle.qr_text.proofs.HeadRows.{Fits}
use Rattle.qr_text.proofs.RowLaws.{number_back, vote_back}
use Rattle.qr_text.proofs.Reached.{in_office, votes_read, part, Votes, before_part, InOffices}
use Rattle.qr_text.proofs.HeadGoing.{Snoc, snoc_to}

-- ---- lists with one element more

pub flat_map_snoc : {A B : Type 0} (f : A → List B) (xs : List A) (x : A) → flat_map f (xs ++ x ∷ []) ≡ flat_map f xs ++ f x
flat_map_snoc f [] x = append-nil (f x)
flat_map_snoc f (y ∷ xs) x = ap (λ (l : List _). f y ++ l) (flat_map_snoc f xs x) ∙ sym (append_assoc (f y) (flat_map f xs) (f x))

pub each_snoc : {A : Type 0} (May : List A → A → Type 0) (before xs : List A) (x : A) → EachAfter May before xs → May (before ++ xs) x
    → EachAfter May before (xs ++ x ∷ [])
each_snoc May before [] x h m = let P : List _ → Type 0 = λ l. May l x in (subst P (append-nil before) m, tt)
each_snoc May before (y ∷ xs) x h m =
    let P : List _ → Type 0 = λ l. May l x in
    (h.0, each_snoc May (before ++ y ∷ []) xs x h.1 (subst P (sym (append_assoc before (y ∷ []) xs)) m))

-- one field more of the present office
pub extend : (s : Said) (fs pt more : List ReportField) (f : ReportField) → fs ≡ before_part s ++ pt → more ≡ pt ++ f ∷ []
    → fs ++ f ∷ [] ≡ before_part s ++ more
extend s fs pt more f e d = ap (λ (l : List ReportField). l ++ f ∷ []) e
    ∙ (append_assoc (before_part s) pt (f ∷ []) ∙ ap (λ (l : List ReportField). before_part s ++ l) (sym d))

guard_some : {A : Type 0} (b : Bool) (x y : A) → (if b then Some x else None) ≡ Some y → (b ≡ true) × (x ≡ y)
guard_some true x y e = (refl, cc)
guard_some false x y e = absurd (cc)

or_some : {A : Type 0} (a b : Option A) (x : A) → option_or a b ≡ Some x → (a ≡ Some x) ⊎ (b ≡ Some x)
or_some None b x e = inr e
or_some (Some y) b x e = inl e

-- a state with its parts in order
abbrev pub at : Mode → Said → SaidOffice → SaidParty → State
at m s o p = record { mode = m; said = s; office = o; party = p }

-- ---- an office begins

-- an office begins
pub code_keeps : (m : Mode) (s : Said) (o : SaidOffice) (q : SaidParty) (fs : List ReportField) (p : List ℕ) (x : State × List Test)
    → part m s o q ≡ [] → InOffices m s o q fs
    → option_and_then (λ code. if may_have_code (codes_in s.offices) code then Some (at Kind s (new_office code) no_party, []) else None)
    (number_at TABLE.office p) ≡ Some x → Snoc fs p x
code_keeps m s o q fs p x none g e =
    let found = and_then_some (number_at TABLE.office p)
    (λ code. if may_have_code (codes_in s.offices) code then Some (at Kind s (new_office code) no_party, []) else None) x e in
    let back = number_back TABLE.office p found.0 found.1 in
    let y : State × List Test = (at Kind s (new_office found.0) no_party, []) in
    let both = guard_some (may_have_code (codes_in s.offices) found.0) y x found.2 in
    let f : ReportField = record { text = row_text TABLE.office found.0; tests = [] } in
    snoc_to fs p (row_text TABLE.office found.0) x y (sym back.0) both.1 (record {
      head = g.head;
      offices = g.offices;
      read = extend s fs (part m s o q) (f ∷ []) f g.read (ap (λ (l : List ReportField). l ++ f ∷ []) (sym none));
      fine = (refl, both.0);
    })

-- nothing is read but the code, and so all that was read is fine
fresh_votes : (s : Said) (code : ℕ) → may_have_code (codes_in s.offices) code ≡ true → Votes s (new_office code)
fresh_votes s code may = record {
  may = may;
  places = one_place (codes_in s.offices) code may;
  candidates = tt;
  parties = tt;
  proportional = λ h. refl;
  majority = λ h. (refl, refl);
}

-- an office that has nothing but its code yet
kind_known : (s : Said) (code v : ℕ) (fs : List ReportField) → Fits 13 s → EachAfter MayOffice [] s.offices
    → fs ≡ before_part s ++ (office_field s (new_office code) TABLE.office code ∷ [])
    → may_have_code (codes_in s.offices) code ≡ true → v ≡ kind_number (code_proportional code) → (b : Bool) → code_proportional code ≡ b
    → Snoc fs (row_text TABLE.kind v) (at (if b then Party else Places) s (new_office code) no_party, [])
kind_known s code v fs head offices read may same true e =
    let f : ReportField = record { text = row_text TABLE.kind v; tests = [] } in
    let texts : office_field s (new_office code) TABLE.kind (kind_number (code_proportional code)) ≡ f =
    ap (λ (n : ℕ). office_field s (new_office code) TABLE.kind n) (sym same) in
    let none : votes_read s (new_office code) ≡ [] = ap (λ (b : Bool). votes_fields b (new_office code)) e in
    record {
      head = head;
      offices = offices;
      read = extend s fs (office_field s (new_office code) TABLE.office code ∷ []) (part Party s (new_office code) no_party) f read
          (ap (λ (l : List ReportField). in_office s (new_office code) l) none
          ∙ ap (λ (g : ReportField). office_field s (new_office code) TABLE.office code ∷ g ∷ []) texts);
      fine = (fresh_votes s code may, e);
    }
kind_known s code v fs head offices read may same false e =
    let f : ReportField = record { text = row_text TABLE.kind v; tests = [] } in
    let texts : office_field s (new_office code) TABLE.kind (kind_number (code_proportional code)) ≡ f =
    ap (λ (n : ℕ). office_field s (new_office code) TABLE.kind n) (sym same) in
    record {
      head = head;
      offices = offices;
      read = extend s fs (office_field s (new_office code) TABLE.office code ∷ []) (part Places s (new_office code) no_party) f read
          (ap (λ (g : ReportField). office_field s (new_office code) TABLE.office code ∷ g ∷ []) texts);
      fine = (refl, may, e);
    }

-- TIPO is read
pub kind_keeps : (s : Said) (o : SaidOffice) (q : SaidParty) (fs : List ReportField) (p : List ℕ) (x : State × List Test) → InOffices Kind s o q fs
    → option_and_then (λ v. if v == kind_number (code_proportional o.code) then Some
    (at (if code_proportional o.code then Party else Places) s o no_party, []) else None) (number_at TABLE.kind p) ≡ Some x
    → Snoc fs p x
kind_keeps s o q fs p x g e =
    let found = and_then_some (number_at TABLE.kind p)
    (λ v. if v == kind_number (code_proportional o.code) then Some
    (at (if code_proportional o.code then Party else Places) s o no_party, []) else None) x e in
    let back = number_back TABLE.kind p found.0 found.1 in
    let y : State × List Test = (at (if code_proportional o.code then Party else Places) s o no_party, []) in
    let both = guard_some (found.0 == kind_number (code_proportional o.code)) y x found.2 in
    let same : found.0 ≡ kind_number (code_proportional o.code) = eqb-true found.0 (kind_number (code_proportional o.code)) both.0 in
    let fresh = kind_known s o.code found.0 fs g.head g.offices g.read g.fine.1 same (code_proportional o.code) refl in
    let z : State × List Test = (at (if code_proportional o.code then Party else Places) s (new_office o.code) no_party, []) in
    let new : z ≡ y = ap (λ (n : SaidOffice). (at (if code_proportional o.code then Party else Places) s n no_party, [])) (sym g.fine.0) in
    snoc_to fs p (row_text TABLE.kind found.0) x z (sym back.0) (new ∙ both.1) fresh

-- ---- votes

abbrev able_step_of : Said → SaidOffice → ℕ → State × List Test
able_step_of s o v = (at Nominal s (record o { able = v }) no_party, (office_field s (record o { able = v }) TABLE.office_able v).tests)

-- the sums of an office begin
able_keeps : (m : Mode) (s : Said) (o : SaidOffice) (q : SaidParty) (fs : List ReportField) (p : List ℕ) (x : State × List Test)
    → Fits 13 s → EachAfter MayOffice [] s.offices → fs ≡ before_part s ++ in_office s o (votes_read s o) → Votes s o
    → option_map (able_step_of s o) (number_at TABLE.office_able p) ≡ Some x → Snoc fs p x
able_keeps m s o q fs p x head offices read votes e =
    let found = map_some (able_step_of s o) (number_at TABLE.office_able p) x e in
    let back = number_back TABLE.office_able p found.0 found.1 in
    let o1 : SaidOffice = record o { able = found.0 } in
    let f : ReportField = office_field s o1 TABLE.office_able found.0 in
    snoc_to fs p (row_text TABLE.office_able found.0) x (able_step_of s o found.0) (sym back.0) found.2 (record {
      head = head;
      offices = offices;
      read = extend s fs (in_office s o (votes_read s o)) (part Nominal s o1 no_party) f read refl;
      fine = (
        record {
          may = votes.may;
          places = votes.places;
          candidates = votes.candidates;
          parties = votes.parties;
          proportional = votes.proportional;
          majority = votes.majority;
        },
        back.1,
      );
    })

vote_more : (b : Bool) (o : SaidOffice) (c : Count) → b ≡ false
    → votes_fields b (record o { candidates = o.candidates ++ c ∷ [] }) ≡ votes_fields b o ++ vote_field c ∷ []
vote_more true o c e = absurd (cc)
vote_more false o c e =
    ap (λ (l : List ReportField). places_fields o.places ++ l) (map-append vote_field o.candidates (c ∷ []))
    ∙ sym (append_assoc (places_fields o.places) (map vote_field o.candidates) (vote_field c ∷ []))

-- a candidate of a majority office, or the sums
pub vote_keeps : (s : Said) (o : SaidOffice) (q : SaidParty) (fs : List ReportField) (p : List ℕ) (x : State × List Test) → InOffices Vote s o q fs
    → step (at Vote s o q) p ≡ Some x → Snoc fs p x
unfolding step
vote_keeps s o q fs p x g e =
    let with_vote : Count → State × List Test = λ c. (at Vote s (record o { candidates = o.candidates ++ c ∷ [] }) no_party, []) in
    elim (or_some (option_and_then (λ c. if is_above (numbers_of o.candidates) c.number then Some (with_vote c) else None)
    (vote_at (digits_in o.code) p)) (option_map (able_step_of s o) (number_at TABLE.office_able p)) x e) [
      | inl one ↦
          let found = and_then_some (vote_at (digits_in o.code) p)
          (λ c. if is_above (numbers_of o.candidates) c.number then Some (with_vote c) else None) x one in
          let c : Count = found.0 in
          let back = vote_back (digits_in o.code) p c found.1 in
          let both = guard_some (is_above (numbers_of o.candidates) c.number) (with_vote c) x found.2 in
          let votes = g.fine.0 in
          let o1 : SaidOffice = record o { candidates = o.candidates ++ c ∷ [] } in
          snoc_to fs p (row_text (vote_row c.number) c.votes) x (with_vote c) (sym back.0) both.1 (record {
            head = g.head;
            offices = g.offices;
            read = extend s fs (part Vote s o q) (part Vote s o1 no_party) (vote_field c) g.read
                (ap (λ (l : List ReportField). in_office s o l) (vote_more (code_proportional o.code) o c g.fine.1));
            fine = (
              record {
                may = votes.may;
                places = votes.places;
                parties = votes.parties;
                majority = votes.majority;
                candidates = each_snoc (MayVote (digits_in o.code)) [] o.candidates c votes.candidates (back.1, both.0);
                proportional = λ yes. let clash : true ≡ false = sym yes ∙ g.fine.1 in absurd (cc);
              },
              g.fine.1,
            );
          })
      | inr able ↦ able_keeps Vote s o q fs p x g.head g.offices g.read g.fine.0 able
    ]

-- what was read of a majority office that has nothing but its code yet, with its votes, of which there are none
pub fresh_read : (s : Said) (o : SaidOffice) (q : SaidParty) (fs : List ReportField) → InOffices Places s o q fs → InOffices Vote s o q fs
fresh_read s o q fs g =
    let none : votes_read s o ≡ [] =
    ap (λ (b : Bool). votes_fields b o) g.fine.2 ∙ ap (λ (n : SaidOffice). votes_fields false n) g.fine.0 in
    record {
      head = g.head;
      offices = g.offices;
      read = g.read ∙ ap (λ (l : List ReportField). before_part s ++ in_office s o l) (sym none);
      fine = (subst (λ (n : SaidOffice). Votes s n) (sym g.fine.0) (fresh_votes s o.code g.fine.1), g.fine.2);
    }

-- the places of a majority office, or its votes
pub places_keeps : (s : Said) (o : SaidOffice) (q : SaidParty) (fs : List ReportField) (p : List ℕ) (x : State × List Test) → InOffices Places s o q fs
    → step (at Places s o q) p ≡ Some x → Snoc fs p x
unfolding step
places_keeps s o q fs p x g e =
    let fresh = fresh_read s o q fs g in
    let with_places : ℕ → State × List Test = λ v. (at Vote s (record o { places = v }) no_party, []) in
    let other = step (at Vote s o q) p in
    elim (or_some (option_and_then (λ v. if may_have_places o.code v then Some (with_places v) else None) (number_at TABLE.places p)) other x e) [
      | inl one ↦
          let found = and_then_some (number_at TABLE.places p) (λ v. if may_have_places o.code v then Some (with_places v) else None) x one in
          let back = number_back TABLE.places p found.0 found.1 in
          let both = guard_some (may_have_places o.code found.0) (with_places found.0) x found.2 in
          let o1 : SaidOffice = record o { places = found.0 } in
          let f : ReportField = record { text = row_text TABLE.places found.0; tests = [] } in
          let said : places_fields found.0 ≡ f ∷ [] = rw (not_one found.0 back.1) refl in
          let all : votes_read s o1 ≡ f ∷ [] =
          ap (λ (b : Bool). votes_fields b o1) g.fine.2
          ∙ (ap (λ (n : SaidOffice). votes_fields false (record n { places = found.0 })) g.fine.0 ∙ ap (λ (l : List ReportField). l ++ []) said) in
          let votes = fresh.fine.0 in
          snoc_to fs p (row_text TABLE.places found.0) x (with_places found.0) (sym back.0) both.1 (record {
            head = g.head;
            offices = g.offices;
            read = extend s fs (part Places s o q) (part Vote s o1 no_party) f g.read (ap (λ (l : List ReportField). in_office s o l) all);
            fine = (
              record {
                may = votes.may;
                places = both.0;
                candidates = votes.candidates;
                parties = votes.parties;
                proportional = votes.proportional;
                majority = votes.majority;
              },
              g.fine.2,
            );
          })
      | inr vote ↦ vote_keeps s o q fs p x fresh vote
    ]

-- a party of a proportional office, or the sums
pub party_keeps : (s : Said) (o : SaidOffice) (q : SaidParty) (fs : List ReportField) (p : List ℕ) (x : State × List Test) → InOffices Party s o q fs
    → step (at Party s o q) p ≡ Some x → Snoc fs p x
unfolding step
party_keeps s o q fs p x g e =
    let with_party : ℕ → State × List Test = λ n. (at OfParty s o (record no_party { number = n }), []) in
    elim (or_some (option_and_then (λ n. if is_above (map (λ r. r.number) o.parties) n then Some (with_party n) else None)
    (number_at TABLE.party p)) (option_map (able_step_of s o) (number_at TABLE.office_able p)) x e) [
      | inl one ↦
          let found = and_then_some (number_at TABLE.party p)
          (λ n. if is_above (map (λ r. r.number) o.parties) n then Some (with_party n) else None) x one in
          let back = number_back TABLE.party p found.0 found.1 in
          let both = guard_some (is_above (map (λ r. r.number) o.parties) found.0) (with_party found.0) x found.2 in
          let r : SaidParty = record no_party { number = found.0 } in
          let f : ReportField = party_field r TABLE.party found.0 in
          snoc_to fs p (row_text TABLE.party found.0) x (with_party found.0) (sym back.0) both.1 (record {
            head = g.head;
            offices = g.offices;
            read = extend s fs (part Party s o q) (part OfParty s o r) f g.read refl;
            fine = (g.fine.0, record { kind = g.fine.1; number = back.1; above = both.0; candidates = tt });
          })
      | inr able ↦ able_keeps Party s o q fs p x g.head g.offices g.read g.fine.0 able
    ]

-- ---- a party

abbrev pub party_so_far : Said → SaidOffice → SaidParty → List ReportField
party_so_far s o q = party_field q TABLE.party q.number ∷ map vote_field q.candidates

-- a candidate of a party, or its party votes
pub of_party_keeps : (s : Said) (o : SaidOffice) (q : SaidParty) (fs : List ReportField) (p : List ℕ) (x : State × List Test)
    → InOffices OfParty s o q fs → step (at OfParty s o q) p ≡ Some x → Snoc fs p x
unfolding step
of_party_keeps s o q fs p x g e =
    let digits : ℕ = digits_in o.code in
    let may : Count → Bool = λ c. (first_two digits c.number == q.number) && is_above (numbers_of q.candidates) c.number in
    let with_vote : Count → State × List Test = λ c. (at OfParty s o (record q { candidates = q.candidates ++ c ∷ [] }), []) in
    let with_legend : ℕ → State × List Test = λ v. (at PartyTotal s o (record q { legend = v }), []) in
    elim (or_some (option_and_then (λ c. if may c then Some (with_vote c) else None) (vote_at digits p))
    (option_map with_legend (number_at TABLE.party_legend p)) x e) [
      | inl one ↦
          let found = and_then_some (vote_at digits p) (λ c. if may c then Some (with_vote c) else None) x one in
          let c : Count = found.0 in
          let back = vote_back digits p c found.1 in
          let both = guard_some (may c) (with_vote c) x found.2 in
          let tests = both_from_and (first_two digits c.number == q.number) (is_above (numbers_of q.candidates) c.number) both.0 in
          let r : SaidParty = record q { candidates = q.candidates ++ c ∷ [] } in
          let read = g.fine.1 in
          let more : votes_read s o ++ party_so_far s o r ≡ (votes_read s o ++ party_so_far s o q) ++ vote_field c ∷ [] =
          ap (λ (l : List ReportField). votes_read s o ++ (party_field q TABLE.party q.number ∷ l)) (map-append vote_field q.candidates (c ∷ []))
          ∙ sym (append_assoc (votes_read s o) (party_so_far s o q) (vote_field c ∷ [])) in
          snoc_to fs p (row_text (vote_row c.number) c.votes) x (with_vote c) (sym back.0) both.1 (record {
            head = g.head;
            offices = g.offices;
            read = extend s fs (part OfParty s o q) (part OfParty s o r) (vote_field c) g.read
                (ap (λ (l : List ReportField). in_office s o l) more);
            fine = (
              g.fine.0,
              record {
                kind = read.kind;
                number = read.number;
                above = read.above;
                candidates = each_snoc (MayVoteIn digits q.number) [] q.candidates c read.candidates
                    (eqb-true _ _ tests.0, (back.1, tests.1));
              },
            );
          })
      | inr two ↦
          let found = map_some with_legend (number_at TABLE.party_legend p) x two in
          let back = number_back TABLE.party_legend p found.0 found.1 in
          let r : SaidParty = record q { legend = found.0 } in
          let f : ReportField = party_field r TABLE.party_legend found.0 in
          let read = g.fine.1 in
          let more : votes_read s o ++ (party_field q TABLE.party q.number ∷ (map vote_field q.candidates ++ f ∷ []))
          ≡ (votes_read s o ++ party_so_far s o q) ++ f ∷ [] =
          sym (append_assoc (votes_read s o) (party_so_far s o q) (f ∷ [])) in
          snoc_to fs p (row_text TABLE.party_legend found.0) x (with_legend found.0) (sym back.0) found.2 (record {
            head = g.head;
            offices = g.offices;
            read = extend s fs (part OfParty s o q) (part PartyTotal s o r) f g.read (ap (λ (l : List ReportField). in_office s o l) more);
            fine = (g.fine.0, record { kind = read.kind; number = read.number; above = read.above; candidates = read.candidates }, back.1);
          })
    ]

pub party_more : (b : Bool) (o : SaidOffice) (q : SaidParty) → b ≡ true
    → votes_fields b (record o { parties = o.parties ++ q ∷ [] }) ≡ votes_fields b o ++ party_fields q
party_more true o q e = flat_map_snoc party_fields o.parties q
party_more false o q e = absurd (cc)

-- the total of a party
pub party_total_keeps : (s : Said) (o : SaidOffice) (q : SaidParty) (fs : List ReportField) (p : List ℕ) (x : State × List Test)
    → InOffices PartyTotal s o q fs → step (at PartyTotal s o q) p ≡ Some x → Snoc fs p x
unfolding step
party_total_keeps s o q fs p x g e =
    let with_total : ℕ → SaidParty = λ v. record q { total = v } in
    let after : ℕ → State × List Test =
    λ v. (
      at Party s (record o { parties = o.parties ++ with_total v ∷ [] }) no_party,
      (party_field (with_total v) TABLE.party_total v).tests,
    ) in
    let found = map_some after (number_at TABLE.party_total p) x e in
    let back = number_back TABLE.party_total p found.0 found.1 in
    let r : SaidParty = with_total found.0 in
    let o1 : SaidOffice = record o { parties = o.parties ++ r ∷ [] } in
    let f : ReportField = party_field r TABLE.party_total found.0 in
    let votes = g.fine.0 in
    let read = g.fine.1 in
    let inner : List ReportField = party_field q TABLE.party
    q.number ∷ (map vote_field q.candidates ++ party_field q TABLE.party_legend q.legend ∷ []) in
    let whole : party_fields r ≡ inner ++ f ∷ [] =
    ap (λ (l : List ReportField). party_field q TABLE.party q.number ∷ l)
    (sym (append_assoc (map vote_field q.candidates) (party_field q TABLE.party_legend q.legend ∷ []) (f ∷ []))) in
    let more : votes_read s o1 ≡ (votes_read s o ++ inner) ++ f ∷ [] =
    party_more (code_proportional o.code) o r read.kind
    ∙ (ap (λ (l : List ReportField). votes_read s o ++ l) whole ∙ sym (append_assoc (votes_read s o) inner (f ∷ []))) in
    snoc_to fs p (row_text TABLE.party_total found.0) x (after found.0) (sym back.0) found.2 (record {
      head = g.head;
      offices = g.offices;
      read = extend s fs (part PartyTotal s o q) (part Party s o1 no_party) f g.read (ap (λ (l : List ReportField). in_office s o l) more);
      fine = (
        record {
          may = votes.may;
          places = votes.places;
          candidates = votes.candidates;
          proportional = votes.proportional;
          parties = each_snoc (MayParty (digits_in o.code)) [] o.parties r votes.parties
              (record { number = read.number; candidates = read.candidates; legend = g.fine.2; total = back.1 }, read.above);
          majority = λ other. let kind = read.kind in let clash : true ≡ false = sym kind ∙ other in absurd (cc);
        },
        read.kind,
      );
    })
