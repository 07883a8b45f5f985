-- Reading candidates and parties, as many as stand, is reading them field by field.
use Rattle.std.proofs.Common.{◌≡◌, ℕ, zero, suc, lit<, ◌+◌, ◌-◌, ◌^◌, ◌<◌, Bool, true, false, List, [], ◌∷◌, ◌++◌, map, Option, Some, None, refl, sym, ap, ◌∙◌, subst, ◌⊎◌, inl, inr, arith}
use Rattle.std.specs.Option.{option_and_then, option_or}
use Rattle.std.specs.Prelude.{nat_lt, ◌&&◌, if◌then◌else◌, MatchOption, unwrap_or}
use Rattle.std.proofs.Math.Nat.{pow-suc}
use Rattle.std.proofs.lemmas.Bool.Decides.{nat_tests}
use Rattle.election_tables.specs.Fields.{has_digits}
use Rattle.election_tables.specs.Offices.{may_have_places}
use Rattle.poll_report.specs.Report.{digits_in, is_above, is_some_votes, numbers_of, votes_of}
use Rattle.poll_report.specs.declared.report.Count.{Count}
use Rattle.urna_base.proofs.DigitLaws.{both_from_and}
use Rattle.urna_base.specs.Moment.{is_between}
use Rattle.qr_text.proofs.Exact.{end_bad}
use Rattle.qr_text.proofs.Joining.{bind_both, row_join, stepped, sum_join}
use Rattle.qr_text.proofs.RowLaws.{number_back, vote_back}
use Rattle.std.proofs.lemmas.List.{map-append}
use Rattle.qr_text.proofs.VoteLaws.{first_none, first_some, votes_stopped, votes_taken}
use Rattle.qr_text.specs.Fronts.{goes, in_party, placing, voting, with_parties, without_sums}
use Rattle.qr_text.specs.Reading.{State, Step, PartyTotal, step, able_step, legend_step, number_at, reading, vote_at}
use Rattle.qr_text.specs.Sections.{FieldsLeft, ◌>>=◌, party_end_reading, row_reading, sum_reading}
use Rattle.qr_text.specs.Votes.{allowed, belongs, greater, party_after, party_first, places_first, places_of, vote_after, votes_from, votes_reading}
use Rattle.qr_text.specs.declared.said.Said.{Said}
use Rattle.qr_text.specs.declared.said.SaidParty.{SaidParty}
use Rattle.qr_text.specs.declared.table.TheConstants.{TABLE}

-- ---- greater than the last is greater than all

-- a number may stand behind some exactly where it is greater than the last of them
abbrev pub Last : ℕ → List ℕ → Type 0
Last last before = (n : ℕ) → 0 < n → is_above before n ≡ nat_lt last n

above_more : (ns : List ℕ) (x n : ℕ) → is_above (ns ++ x ∷ []) n ≡ (is_above ns n && nat_lt x n)
above_more [] x n = go (nat_lt x n)
  where
    go : (b : Bool) → (b && true) ≡ (true && b)
    go true = refl
    go false = refl
above_more (m ∷ ns) x n = go (nat_lt m n) (above_more ns x n)
  where
    go : (b : Bool) → is_above (ns ++ x ∷ []) n ≡ (is_above ns n && nat_lt x n) → (b && is_above (ns ++ x ∷ []) n) ≡ ((b && is_above ns n) && nat_lt x n)
    go true h = h
    go false h = refl

both_above : (last x n : ℕ) → nat_lt last x ≡ true → (nat_lt last n && nat_lt x n) ≡ nat_lt x n
both_above last x n h = grind (arith, nat_tests)

pub first_last : Last 0 []
first_last n s = grind (arith, nat_tests)

next_last : (last : ℕ) (before : List ℕ) (x : ℕ) → Last last before → nat_lt last x ≡ true → Last x (before ++ x ∷ [])
next_last last before x l h n s = above_more before x n ∙ (ap (λ (b : Bool). b && nat_lt x n) (l n s) ∙ both_above last x n h)

next_candidate : (last : ℕ) (before : List Count) (c : Count) → Last last (numbers_of before) → nat_lt last c.number ≡ true → Last c.number (numbers_of (before ++ c ∷ []))
next_candidate last before c l h n s = ap (λ (ns : List ℕ). is_above ns n) (map-append (λ (x : Count). x.number) before (c ∷ [])) ∙ next_last last (numbers_of before) c.number l h n s

abbrev pub party_numbers : List SaidParty → List ℕ
party_numbers ps = map (λ p. p.number) ps

pub next_party : (last : ℕ) (before : List SaidParty) (p : SaidParty) → Last last (party_numbers before) → nat_lt last p.number ≡ true → Last p.number (party_numbers (before ++ p ∷ []))
next_party last before p l h n s = ap (λ (ns : List ℕ). is_above ns n) (map-append (λ (q : SaidParty). q.number) before (p ∷ [])) ∙ next_last last (party_numbers before) p.number l h n s

-- ---- no number is 0

some_power : (d : ℕ) → 0 < 10 ^ d
some_power zero = lit< tt
some_power (suc d) = let one = some_power d in let all = pow-suc 10 d in omega arith

within_some : (low high n : ℕ) → 0 < low → is_between low high n ≡ true → 0 < n
within_some low high n s h = grind (arith, nat_tests)

some_digits : (digits n : ℕ) → 0 < 10 ^ (digits - 1) → has_digits digits n ≡ true → 0 < n
some_digits digits n s h = grind (arith, nat_tests)

some_candidate : (digits : ℕ) (p : List ℕ) (c : Count) → vote_at digits p ≡ Some c → 0 < c.number
some_candidate digits p c h =
    some_digits digits c.number (some_power (digits - 1)) (both_from_and (has_digits digits c.number) (is_some_votes c.votes) (vote_back digits p c h).1).0

some_party : (p : List ℕ) (n : ℕ) → number_at TABLE.party p ≡ Some n → 0 < n
some_party p n h = within_some 10 99 n (lit< tt) (number_back TABLE.party p n h).1

-- ---- candidates in a row

-- the step that takes a candidate, between states that these candidates make
abbrev taking : ℕ → Option ℕ → (List Count → State) → List Count → Count → Step
taking digits party at before c = if belongs digits party c.number && is_above (numbers_of before) c.number then Some (at (before ++ c ∷ []), []) else None

-- a step takes a candidate, or is this other one
abbrev pub Takes : ℕ → Option ℕ → (List Count → State) → (List Count → List ℕ → Step) → Type 0
Takes digits party at other = (before : List Count) (p : List ℕ) → step (at before) p ≡ option_or (option_and_then (taking digits party at before) (vote_at digits p)) (other before p)

module _ (digits : ℕ) (party : Option ℕ) (at : List Count → State) (other : List Count → List ℕ → Step) (takes : Takes digits party at other) where
  abbrev Taken : List Count → ℕ → List ℕ → Count → Type 0
  Taken before last p c = (vote_after digits party last p ≡ Some c) × (step (at before) p ≡ Some (at (before ++ c ∷ []), [])) × (nat_lt last c.number ≡ true)

  abbrev Passed : List Count → ℕ → List ℕ → Type 0
  Passed before last p = (vote_after digits party last p ≡ None) × (step (at before) p ≡ other before p)

  one_vote : (before : List Count) (last : ℕ) (p : List ℕ) → Last last (numbers_of before) → ((c : Count) × Taken before last p c) ⊎ Passed before last p
  unfolding vote_after
  one_vote before last p l = go (vote_at digits p) refl
    where
      tests : (c : Count) (b : Bool) → vote_at digits p ≡ Some c → (belongs digits party c.number && is_above (numbers_of before) c.number) ≡ b
          → (belongs digits party c.number && nat_lt last c.number) ≡ b → ((c : Count) × Taken before last p c) ⊎ Passed before last p
      tests c true h a e = inl (c, (rw (h, e) refl, takes before p ∙ rw (h, a) refl, (both_from_and (belongs digits party c.number) (nat_lt last c.number) e).1))
      tests c false h a e = inr (rw (h, e) refl, takes before p ∙ rw (h, a) refl)

      go : (o : Option Count) → vote_at digits p ≡ o → ((c : Count) × Taken before last p c) ⊎ Passed before last p
      go None h = inr (rw h refl, takes before p ∙ rw h refl)
      go (Some c) h =
          tests c (belongs digits party c.number && nat_lt last c.number) h
          (ap (λ (b : Bool). belongs digits party c.number && b) (l c.number (some_candidate digits p c h))) refl

  -- all candidates that stand are read, and then no candidate stands first
  abbrev Joined : List Count → ℕ → List (List ℕ) → List Count × FieldsLeft → Type 0
  Joined before next left x = (reading next (at before) left ≡ goes (at x.0) x.1)
      × ((p : List ℕ) (more : List (List ℕ)) → x.1.left ≡ p ∷ more → step (at x.0) p ≡ other x.0 p)

  joined_at : (last : ℕ) (before : List Count) (next : ℕ) (left : List (List ℕ)) → Last last (numbers_of before) → Joined before next left (votes_from digits party last before next left)
  unfolding votes_from
  joined_at last before next [] l = (refl, λ p more e. absurd (cc))
  joined_at last before next (p ∷ ps) l =
      let P : List Count × FieldsLeft → Type 0 = λ x. Joined before next (p ∷ ps) x in
      elim (one_vote before last p l) [
        | inl t ↦
            let c : Count = t.0 in
            let rest = joined_at c.number (before ++ c ∷ []) (next + 1) ps (next_candidate last before c l t.1.2) in
            subst P (sym (votes_taken digits party last before next p ps c t.1.0)) (stepped next (at before) p ps (Some (at (before ++ c ∷ []), [])) t.1.1 ∙ rest.0, rest.1)
        | inr n ↦
            subst P (sym (votes_stopped digits party last before next p ps n.0)) (
              refl,
              λ r more e. let same : p ≡ r = cc in ap (λ (y : List ℕ). step (at before) y) (sym same) ∙ (n.1 ∙ ap (λ (y : List ℕ). other before y) same),
            )
      ]

  pub votes_join : (s : FieldsLeft) (cs : List Count) (t : FieldsLeft) → votes_reading digits party 0 [] s ≡ (cs, t)
      → (goes (at []) s ≡ goes (at cs) t) × ((p : List ℕ) (more : List (List ℕ)) → t.left ≡ p ∷ more → step (at cs) p ≡ other cs p)
  unfolding votes_reading
  votes_join s cs t h = let P : List Count × FieldsLeft → Type 0 = λ x. Joined [] s.next s.left x in subst P h (joined_at 0 [] s.next s.left first_last)

-- ---- a majority office

-- behind its places
pub candidates_taken : (q : Said) (code places : ℕ) → Takes (digits_in code) None (voting q code places) (λ cs p. able_step (voting q code places cs) p)
unfolding step
candidates_taken q code places before p = refl

abbrev placed : Said → ℕ → ℕ → Step
placed q code places = if may_have_places code places then Some (voting q code places [], []) else None

-- its places, or its votes
places_taken : (q : Said) (code : ℕ) (p : List ℕ) → step (placing q code) p ≡ option_or (option_and_then (placed q code) (number_at TABLE.places p)) (step (voting q code 1 []) p)
unfolding step
places_taken q code p = refl

allowed_back : (code : ℕ) (o : Option ℕ) (n : ℕ) → option_and_then (allowed code) o ≡ Some n → (o ≡ Some n) × (may_have_places code n ≡ true)
allowed_back code None n h = absurd (cc)
allowed_back code (Some m) n h = go (may_have_places code m) refl h
  where
    go : (b : Bool) → may_have_places code m ≡ b → (if b then Some m else None) ≡ Some n → (Some m ≡ Some n) × (may_have_places code n ≡ true)
    go true e h = let same : m ≡ n = cc in (h, ap (λ (x : ℕ). may_have_places code x) (sym same) ∙ e)
    go false e h = absurd (cc)

-- its places stand there
pub places_some : (q : Said) (code : ℕ) (s : FieldsLeft) (n : ℕ) (t : FieldsLeft) → places_first code s ≡ Some (n, t) → goes (placing q code) s ≡ goes (voting q code n []) t
unfolding places_first places_of
places_some q code s n t h =
    let f = first_some (λ p. option_and_then (allowed code) (number_at TABLE.places p)) s.next s.left n t h in
    let back = allowed_back code (number_at TABLE.places f.0) n f.3 in
    let goes_on : step (placing q code) f.0 ≡ Some (voting q code n [], []) = places_taken q code f.0 ∙ rw (back.0, back.1) refl in
    ap (λ (x : List (List ℕ)). reading s.next (placing q code) x) f.2
    ∙ (stepped s.next (placing q code) f.0 f.1 (Some (voting q code n [], [])) goes_on
    ∙ ap (λ (x : FieldsLeft). goes (voting q code n []) x) (sym f.4))

-- they don't
pub places_none : (q : Said) (code : ℕ) (s : FieldsLeft) → places_first code s ≡ None → goes (placing q code) s ≡ goes (voting q code 1 []) s
unfolding places_first places_of
places_none q code s h = go s.left refl
  where
    nothing : (o : Option ℕ) (other : Step) → option_and_then (allowed code) o ≡ None → option_or (option_and_then (placed q code) o) other ≡ other
    nothing None other h = refl
    nothing (Some n) other h = test (may_have_places code n) h
      where
        test : (b : Bool) → (if b then Some n else None) ≡ None → option_or (if b then Some (voting q code n [], []) else None) other ≡ other
        test true h = absurd (cc)
        test false h = refl

    go : (left : List (List ℕ)) → s.left ≡ left → reading s.next (placing q code) s.left ≡ reading s.next (voting q code 1 []) s.left
    go [] e = rw e (end_bad s.next (placing q code) refl ∙ sym (end_bad s.next (voting q code 1 []) refl))
    go (p ∷ ps) e =
        let none = first_none (λ p. option_and_then (allowed code) (number_at TABLE.places p)) s.next s.left h p ps e in
        let same = places_taken q code p ∙ nothing (number_at TABLE.places p) (step (voting q code 1 []) p) none in
        rw e (stepped s.next (placing q code) p ps (step (voting q code 1 []) p) same ∙ sym (stepped s.next (voting q code 1 []) p ps (step (voting q code 1 []) p) refl))

pub places_join : (q : Said) (code : ℕ) (s : FieldsLeft) (o : Option ℕ) (t : FieldsLeft)
    → MatchOption o ((places_first code s ≡ None) × (t ≡ s)) (λ n. places_first code s ≡ Some (n, t))
    → goes (placing q code) s ≡ goes (voting q code (unwrap_or o 1) []) t
places_join q code s None t h = places_none q code s h.0 ∙ ap (goes (voting q code 1 [])) (sym h.1)
places_join q code s (Some n) t h = places_some q code s n t h

-- ---- a party

-- behind its number
pub party_candidates_taken : (q : Said) (code : ℕ) (ps : List SaidParty) (number : ℕ)
    → Takes (digits_in code) (Some number) (in_party q code ps number) (λ cs p. legend_step (in_party q code ps number cs) p)
unfolding step
party_candidates_taken q code ps number before p = refl

-- behind its candidates
end_join : (q : Said) (code : ℕ) (ps : List SaidParty) (number : ℕ) (cs : List Count) (s : FieldsLeft)
    → ((p : List ℕ) (more : List (List ℕ)) → s.left ≡ p ∷ more → step (in_party q code ps number cs) p ≡ legend_step (in_party q code ps number cs) p)
    → goes (in_party q code ps number cs) s ≡ (party_end_reading number cs s >>= λ x. goes (with_parties q code (ps ++ x.0 ∷ [])) x.1)
unfolding party_end_reading step
end_join q code ps number cs s h =
    row_join TABLE.party_legend (in_party q code ps number cs)
    (λ v. (record { mode = PartyTotal; said = q; office = without_sums code 1 [] ps; party = record { number = number; candidates = cs; legend = v; total = 0 } }, [])) s refl h
    ∙ bind_both (row_reading TABLE.party_legend s) _ _ _ (λ l.
    sum_join TABLE.party_total (record { mode = PartyTotal; said = q; office = without_sums code 1 [] ps; party = record { number = number; candidates = cs; legend = l.0; total = 0 } })
    (λ v. with_parties q code (ps ++ record { number = number; candidates = cs; legend = l.0; total = v } ∷ [])) (votes_of cs + l.0) l.1 refl (λ p more e. refl)
    ∙ bind_both (sum_reading TABLE.party_total (votes_of cs + l.0) l.1) _ _ _ (λ t. refl))

pub party_join : (q : Said) (code : ℕ) (ps : List SaidParty) (number : ℕ) (s : FieldsLeft) (cs : List Count) (t : FieldsLeft) → votes_reading (digits_in code) (Some number) 0 [] s ≡ (cs, t)
    → goes (in_party q code ps number []) s ≡ (party_end_reading number cs t >>= λ x. goes (with_parties q code (ps ++ x.0 ∷ [])) x.1)
party_join q code ps number s cs t h =
    let j = votes_join (digits_in code) (Some number) (in_party q code ps number) (λ cs p. legend_step (in_party q code ps number cs) p) (party_candidates_taken q code ps number) s cs t h in
    j.0 ∙ end_join q code ps number cs t j.1

-- ---- parties in a row

abbrev party_taking : Said → ℕ → List SaidParty → ℕ → Step
party_taking q code ps n = if is_above (party_numbers ps) n then Some (in_party q code ps n [], []) else None

party_taken : (q : Said) (code : ℕ) (ps : List SaidParty) (p : List ℕ)
    → step (with_parties q code ps) p ≡ option_or (option_and_then (party_taking q code ps) (number_at TABLE.party p)) (able_step (with_parties q code ps) p)
unfolding step
party_taken q code ps p = refl

greater_back : (last : ℕ) (o : Option ℕ) (n : ℕ) → option_and_then (greater last) o ≡ Some n → (o ≡ Some n) × (nat_lt last n ≡ true)
greater_back last None n h = absurd (cc)
greater_back last (Some m) n h = go (nat_lt last m) refl h
  where
    go : (b : Bool) → nat_lt last m ≡ b → (if b then Some m else None) ≡ Some n → (Some m ≡ Some n) × (nat_lt last n ≡ true)
    go true e h = let same : m ≡ n = cc in (h, ap (λ (x : ℕ). nat_lt last x) (sym same) ∙ e)
    go false e h = absurd (cc)

-- the number of a party stands first
pub party_some : (q : Said) (code : ℕ) (ps : List SaidParty) (last : ℕ) (s : FieldsLeft) (n : ℕ) (t : FieldsLeft) → Last last (party_numbers ps) → party_first last s ≡ Some (n, t)
    → (goes (with_parties q code ps) s ≡ goes (in_party q code ps n []) t) × (nat_lt last n ≡ true)
unfolding party_first party_after
party_some q code ps last s n t l h =
    let f = first_some (λ p. option_and_then (greater last) (number_at TABLE.party p)) s.next s.left n t h in
    let back = greater_back last (number_at TABLE.party f.0) n f.3 in
    let above : is_above (party_numbers ps) n ≡ true = l n (some_party f.0 n back.0) ∙ back.1 in
    let goes_on : step (with_parties q code ps) f.0 ≡ Some (in_party q code ps n [], []) = party_taken q code ps f.0 ∙ rw (back.0, above) refl in (
      ap (λ (x : List (List ℕ)). reading s.next (with_parties q code ps) x) f.2
          ∙ (stepped s.next (with_parties q code ps) f.0 f.1 (Some (in_party q code ps n [], [])) goes_on
          ∙ ap (λ (x : FieldsLeft). goes (in_party q code ps n []) x) (sym f.4)),
      back.1,
    )

-- no party's number does
pub party_none : (q : Said) (code : ℕ) (ps : List SaidParty) (last : ℕ) (s : FieldsLeft) → Last last (party_numbers ps) → party_first last s ≡ None
    → (p : List ℕ) (more : List (List ℕ)) → s.left ≡ p ∷ more → step (with_parties q code ps) p ≡ able_step (with_parties q code ps) p
unfolding party_first party_after
party_none q code ps last s l h p more e =
    let none = first_none (λ p. option_and_then (greater last) (number_at TABLE.party p)) s.next s.left h p more e in
    party_taken q code ps p ∙ go (number_at TABLE.party p) refl none
  where
    test : (n : ℕ) (b : Bool) → nat_lt last n ≡ b → is_above (party_numbers ps) n ≡ b → (if b then Some n else None) ≡ None
        → option_or (party_taking q code ps n) (able_step (with_parties q code ps) p) ≡ able_step (with_parties q code ps) p
    test n true e a h = absurd (cc)
    test n false e a h = rw a refl

    go : (o : Option ℕ) → number_at TABLE.party p ≡ o → option_and_then (greater last) (number_at TABLE.party p) ≡ None
        → option_or (option_and_then (party_taking q code ps) o) (able_step (with_parties q code ps) p) ≡ able_step (with_parties q code ps) p
    go None r h = refl
    go (Some n) r h = let here : (if nat_lt last n then Some n else None) ≡ None = rw r at h in test n (nat_lt last n) refl (l n (some_party p n r)) here
