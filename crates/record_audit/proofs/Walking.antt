-- The walk through votes in the order of choices finds the first difference.
use Rattle.std.proofs.Common.{◌≡◌, ◌≢◌, ℕ, zero, suc, ◌+◌, ◌<◌, ◌≤◌, Bool, true, false, not, cond, List, [], ◌∷◌, ◌++◌, map, drop, get_or, length, add-one, Some, None, refl, sym, ap, ◌∙◌, subst, ◌⊎◌, inl, inr, arith}
use Rattle.std.specs.Prelude.{Ok, Err, ◌==◌, ◌&&◌, is_some, nat_lt}
use Rattle.std.specs.List.{AllByRecursion, list_any}
use Rattle.std.proofs.Math.Seq.{drop-cons}
use Rattle.std.proofs.lemmas.Bool.{cases_Bool, ltb-true}
use Rattle.std.proofs.lemmas.Bool.Decides.{nat_tests}
use Rattle.std.proofs.lemmas.List.{length-append}
use Rattle.urna_base.proofs.Every.{every_append}
use Rattle.urna_base.specs.Moment.{is_between}
use Rattle.urna_base.proofs.Cases.{option_cases, result_cases}
use Rattle.urna_base.proofs.DigitLaws.{both_from_and}
use Rattle.vote_kinds.specs.Choice.{choice_le, is_same}
use Rattle.vote_kinds.specs.declared.choice.Choice.{Choice}
use Rattle.vote_kinds.specs.declared.choice.Choice.TheVariants as choice
use Rattle.vote_record.specs.Bag.{IsInOrder, count_of}
use Rattle.vote_record.proofs.Bags.{all_trans, count_cons, le_antisym, le_refl, le_total, le_trans, same_true}
use Rattle.poll_report.specs.declared.report.Count.{Count}
use Rattle.poll_report.specs.declared.report.OfficeCount.{OfficeCount}
use Rattle.poll_report.specs.Report.{EachAfter, IsOfficeCount, IsReport, MayCount, MayLegend, MayVote, digits_in, is_above, may_have_code, numbers_of, IsCounted}
use Rattle.poll_report.specs.declared.report.Report.{Report}
use Rattle.election_tables.specs.Limits.{most_offices}
use Rattle.election_tables.specs.Offices.{code_digits}
use Rattle.poll_report.proofs.Lists.{each_weaker}
use Rattle.poll_report.proofs.Totals.{Rises}
use Rattle.record_audit.specs.Finding.{difference, said_for, votes_for}
use Rattle.record_audit.specs.Laws.{IsFirstDifference}
use Rattle.record_audit.specs.Walk.{first_before, for_candidate, for_party, listing, passed, passed_all, run}
use Rattle.record_audit.proofs.Differences.{first_difference, no_difference, one_first}

-- ---- votes in order

-- where the first stands behind a choice, all do
all_behind : (v : Choice) (votes : List Choice) (d : Choice) → AllByRecursion (λ u. choice_le v u ≡ true) votes → choice_le v d ≡ false
    → AllByRecursion (λ u. choice_le u d ≡ false) votes
all_behind v [] d all h = tt
all_behind v (u ∷ votes) d all h = elim (cases_Bool (choice_le u d)) [
  | inl t ↦ let no = le_trans v u d all.0 t in absurd (cc)
  | inr f ↦ (f, all_behind v votes d all.1 h)
]

other_choice : (e d u : Choice) → choice_le e d ≡ true → choice_le u d ≡ false → is_same e u ≡ false
other_choice e d u h g = elim (cases_Bool (is_same e u)) [
  | inl t ↦ let yes : choice_le u d ≡ true = ap (λ (x : Choice). choice_le x d) (sym (same_true e u t)) ∙ h in absurd (cc)
  | inr f ↦ f
]

-- votes that all stand behind a choice are none at or before it
none_of : (e d : Choice) (votes : List Choice) → choice_le e d ≡ true → AllByRecursion (λ u. choice_le u d ≡ false) votes → count_of e votes ≡ 0
none_of e d [] h all = refl
none_of e d (u ∷ votes) h all =
    let first : cond {A = ℕ} (is_same e u) 1 0 ≡ 0 = ap (λ (b : Bool). cond {A = ℕ} b 1 0) (other_choice e d u h all.0) in
    let rest = none_of e d votes h all.1 in
    omega (arith, count_cons e u votes)

order_drop : (k : ℕ) (votes : List Choice) → IsInOrder votes → IsInOrder (drop k votes)
order_drop zero votes is = is
order_drop (suc k) [] is = tt
order_drop (suc k) (v ∷ votes) is = order_drop k votes is.1

-- behind a run all stand behind the choice
run_behind : (d : Choice) (votes : List Choice) → IsInOrder votes → AllByRecursion (λ u. choice_le u d ≡ false) (drop (run d votes) votes)
unfolding run
run_behind d [] is = tt
run_behind d (v ∷ votes) is = elim (cases_Bool (choice_le v d)) [
  | inl t ↦ rw t (run_behind d votes is.1)
  | inr f ↦ rw f (f, all_behind v votes d is.0 f)
]

-- the votes of a run are those of the choice, where none stands before it
run_counts : (d e : Choice) (votes : List Choice) → AllByRecursion (λ v. choice_le d v ≡ true) votes
    → count_of e votes ≡ cond (is_same e d) (run d votes) 0 + count_of e (drop (run d votes) votes)
unfolding run
run_counts d e [] all = elim (cases_Bool (is_same e d)) [
  | inl t ↦ rw t refl
  | inr f ↦ rw f refl
]
run_counts d e (v ∷ votes) all = elim (cases_Bool (choice_le v d)) [
  | inl t ↦
      let same : v ≡ d = le_antisym v d t all.0 in
      let one = count_cons e v votes in
      let rest = run_counts d e votes all.1 in
      let here : cond {A = ℕ} (is_same e v) 1 0 ≡ cond {A = ℕ} (is_same e d) 1 0 = ap (λ (x : Choice). cond {A = ℕ} (is_same e x) 1 0) same in
      rw t (at (is_same e d) (count_of e (v ∷ votes)) (cond {A = ℕ} (is_same e v) 1 0) (count_of e votes) (run d votes) (count_of e (drop (run d votes) votes)) one here rest)
  | inr f ↦ rw f (none (is_same e d) (count_of e (v ∷ votes)))
]
  where
    at : (b : Bool) (all one more k rest : ℕ) → all ≡ one + more → one ≡ cond {A = ℕ} b 1 0 → more ≡ cond {A = ℕ} b k 0 + rest → all ≡ cond {A = ℕ} b (suc k) 0 + rest
    at true all one more k rest a o m = omega arith
    at false all one more k rest a o m = omega arith

    none : (b : Bool) (all : ℕ) → all ≡ cond {A = ℕ} b 0 0 + all
    none true all = omega arith
    none false all = omega arith

-- ---- what a list says

-- how many votes of a choice a list says
abbrev pub said_in : List (Choice × ℕ) → Choice → ℕ
said_in [] e = 0
said_in (x ∷ xs) e = cond {A = ℕ} (is_same e x.0) x.1 0 + said_in xs e

-- each choice stands before all later ones
abbrev pub Up : List (Choice × ℕ) → Type 0
Up [] = Unit {0}
Up (x ∷ xs) = AllByRecursion (λ y. choice_le y.0 x.0 ≡ false) xs × Up xs

said_none : (e d : Choice) (xs : List (Choice × ℕ)) → choice_le e d ≡ true → AllByRecursion (λ y. choice_le y.0 d ≡ false) xs → said_in xs e ≡ 0
said_none e d [] h all = refl
said_none e d (x ∷ xs) h all =
    let first : cond {A = ℕ} (is_same e x.0) x.1 0 ≡ 0 = ap (λ (b : Bool). cond {A = ℕ} b x.1 0) (other_choice e d x.0 h all.0) in
    let rest = said_none e d xs h all.1 in
    omega arith

-- what stands behind a choice stands behind one before it
further : (v d : Choice) (xs : List (Choice × ℕ)) → choice_le v d ≡ true → AllByRecursion (λ y. choice_le y.0 d ≡ false) xs → AllByRecursion (λ y. choice_le y.0 v ≡ false) xs
further v d [] h all = tt
further v d (x ∷ xs) h all = elim (cases_Bool (choice_le x.0 v)) [
  | inl t ↦ let no = le_trans x.0 v d t h in absurd (cc)
  | inr f ↦ (f, further v d xs h all.1)
]

-- ---- one choice passed

pub all_from : (d : Choice) (votes : List Choice) → IsInOrder votes → first_before d votes ≡ None → AllByRecursion (λ v. choice_le d v ≡ true) votes
all_from d [] is h = tt
all_from d (v ∷ votes) is h = elim (cases_Bool (choice_le d v)) [
  | inl t ↦ (t, all_trans d v votes t is.0)
  | inr f ↦ let no : Some v ≡ None = rw f at h in absurd (cc)
]

-- what a choice passed says
record Passed (d : Choice) (said : ℕ) (votes rest : List Choice) : Type 0 where
  pub first : first_before d votes ≡ None
  pub lines : run d votes ≡ said
  pub left : drop (run d votes) votes ≡ rest

passed_none : (d : Choice) (said : ℕ) (votes : List Choice) → first_before d votes ≡ None
    → passed d said votes ≡ cond (run d votes == said) (Ok (drop (run d votes) votes)) (Err d)
unfolding passed
passed_none d said votes none = rw (none, passed) refl

passed_some : (d : Choice) (said : ℕ) (votes : List Choice) (v : Choice) → first_before d votes ≡ Some v → passed d said votes ≡ Err v
unfolding passed
passed_some d said votes v some = rw (some, passed) refl

passed_ok : (d : Choice) (said : ℕ) (votes rest : List Choice) → passed d said votes ≡ Ok rest → Passed d said votes rest
passed_ok d said votes rest h = elim (option_cases (first_before d votes)) [
  | inl none ↦ go none (run d votes == said) refl (sym (passed_none d said votes none) ∙ h)
  | inr some ↦ let no : Err some.0 ≡ Ok rest = sym (passed_some d said votes some.0 some.1) ∙ h in absurd (cc)
]
  where
    go : first_before d votes ≡ None → (b : Bool) → (run d votes == said) ≡ b → cond b (Ok (drop (run d votes) votes)) (Err d) ≡ Ok rest → Passed d said votes rest
    go none true e g = record { first = none; lines = grind (arith, nat_tests); left = cc }
    go none false e g = absurd (cc)

-- the first choice that differs: a vote before the choice, or the choice itself
passed_err : (d : Choice) (said : ℕ) (votes : List Choice) (c : Choice) → passed d said votes ≡ Err c
    → (first_before d votes ≡ Some c) ⊎ ((first_before d votes ≡ None) × (run d votes ≢ said) × (d ≡ c))
passed_err d said votes c h = elim (option_cases (first_before d votes)) [
  | inl none ↦ inr (go none (run d votes == said) refl (sym (passed_none d said votes none) ∙ h))
  | inr some ↦ let same : Err some.0 ≡ Err c = sym (passed_some d said votes some.0 some.1) ∙ h in let one : some.0 ≡ c = cc in inl (some.1 ∙ ap (λ (x : Choice). Some x) one)
]
  where
    unlike : (m n : ℕ) → (m == n) ≡ false → m ≢ n
    unlike m n e same = let yes : (m == n) ≡ true = grind (arith, nat_tests) in absurd (cc)

    go : first_before d votes ≡ None → (b : Bool) → (run d votes == said) ≡ b → cond b (Ok (drop (run d votes) votes)) (Err d) ≡ Err c
        → (first_before d votes ≡ None) × (run d votes ≢ said) × (d ≡ c)
    go none true e g = absurd (cc)
    go none false e g = (none, unlike (run d votes) said e, cc)

pub pass_on : (x : Choice × ℕ) (xs : List (Choice × ℕ)) (votes rest : List Choice) → passed x.0 x.1 votes ≡ Ok rest → passed_all (x ∷ xs) votes ≡ passed_all xs rest
unfolding passed_all
pass_on x xs votes rest h = rw (h, passed_all) refl

pub pass_stops : (x : Choice × ℕ) (xs : List (Choice × ℕ)) (votes : List Choice) (c : Choice) → passed x.0 x.1 votes ≡ Err c → passed_all (x ∷ xs) votes ≡ Err c
unfolding passed_all
pass_stops x xs votes c h = rw (h, passed_all) refl

pub pass_none : (votes : List Choice) → passed_all [] votes ≡ Ok votes
unfolding passed_all
pass_none votes = refl

-- ---- all passed

walk_ok : (ls : List (Choice × ℕ)) (votes rest : List Choice) → IsInOrder votes → passed_all ls votes ≡ Ok rest → (e : Choice) → count_of e votes ≡ said_in ls e + count_of e rest
walk_ok [] votes rest is h e =
    let one : Ok votes ≡ Ok rest = sym (pass_none votes) ∙ h in
    let same : votes ≡ rest = cc in
    let counts = ap (count_of e) same in
    omega arith
walk_ok (x ∷ xs) votes rest is h e = elim (result_cases (passed x.0 x.1 votes)) [
  | inl ok ↦
      let p = passed_ok x.0 x.1 votes ok.0 ok.1 in
      let order : IsInOrder ok.0 = subst IsInOrder p.left (order_drop (run x.0 votes) votes is) in
      let more = walk_ok xs ok.0 rest order (sym (pass_on x xs votes ok.0 ok.1) ∙ h) e in
      let here = run_counts x.0 e votes (all_from x.0 votes is p.first) in
      let lines : cond {A = ℕ} (is_same e x.0) (run x.0 votes) 0 ≡ cond {A = ℕ} (is_same e x.0) x.1 0 = ap (λ (n : ℕ). cond {A = ℕ} (is_same e x.0) n 0) p.lines in
      let behind : count_of e (drop (run x.0 votes) votes) ≡ count_of e ok.0 = ap (count_of e) p.left in
      omega arith
  | inr err ↦ let no : Err err.0 ≡ Ok rest = sym (pass_stops x xs votes err.0 err.1) ∙ h in absurd (cc)
]

-- the first choice at which votes and a list differ
record IsFirst (votes : List Choice) (ls : List (Choice × ℕ)) (c : Choice) : Type 0 where
  pub here : count_of c votes ≢ said_in ls c
  pub before : (d : Choice) → choice_le c d ≡ false → count_of d votes ≡ said_in ls d

-- a vote that stands before all that is listed
vote_first : (x : Choice × ℕ) (xs : List (Choice × ℕ)) (votes : List Choice) (c : Choice) → Up (x ∷ xs) → IsInOrder votes → first_before x.0 votes ≡ Some c → IsFirst votes (x ∷ xs) c
vote_first x xs [] c up is h = absurd (cc)
vote_first x xs (v ∷ votes) c up is h = elim (cases_Bool (choice_le x.0 v)) [
  | inl t ↦ let no : None ≡ Some c = rw t at h in absurd (cc)
  | inr f ↦
      let one : Some v ≡ Some c = rw f at h in
      let same : v ≡ c = cc in
      subst (λ (k : Choice). IsFirst (v ∷ votes) (x ∷ xs) k) same (at f)
]
  where
    at : choice_le x.0 v ≡ false → IsFirst (v ∷ votes) (x ∷ xs) v
    at f =
        let all : AllByRecursion (λ y. choice_le y.0 v ≡ false) (x ∷ xs) = (f, further v x.0 xs (le_total x.0 v f) up.0) in
        record {
          here = λ e.
              let none = said_none v v (x ∷ xs) (le_refl v) all in
              let counted = count_cons v v votes in
              let one : cond {A = ℕ} (is_same v v) 1 0 ≡ 1 = ap (λ (b : Bool). cond {A = ℕ} b 1 0) (itself v) in
              omega arith;
          before = λ d less.
              let none = said_none d v (x ∷ xs) (le_total v d less) all in
              let lines = none_of d d (v ∷ votes) (le_refl d) (less, all_behind v votes d is.0 less) in
              omega arith;
        }
      where
        itself : (u : Choice) → is_same u u ≡ true
        itself u = grind (arith, nat_tests)

-- a choice whose number is another
choice_first : (x : Choice × ℕ) (xs : List (Choice × ℕ)) (votes : List Choice) → Up (x ∷ xs) → IsInOrder votes → first_before x.0 votes ≡ None → run x.0 votes ≢ x.1
    → IsFirst votes (x ∷ xs) x.0
choice_first x xs votes up is first other =
    let from = all_from x.0 votes is first in
    record {
      here = λ e.
          let none = said_none x.0 x.0 xs (le_refl x.0) up.0 in
          let split = run_counts x.0 x.0 votes from in
          let behind = none_of x.0 x.0 (drop (run x.0 votes) votes) (le_refl x.0) (run_behind x.0 votes is) in
          let same = itself x.0 in
          let mine : cond {A = ℕ} (is_same x.0 x.0) x.1 0 ≡ x.1 = ap (λ (b : Bool). cond {A = ℕ} b x.1 0) same in
          let lines : cond {A = ℕ} (is_same x.0 x.0) (run x.0 votes) 0 ≡ run x.0 votes = ap (λ (b : Bool). cond {A = ℕ} b (run x.0 votes) 0) same in
          other (omega arith);
      before = λ d less.
          let d_first = le_total x.0 d less in
          let not_it : is_same d x.0 ≡ false = unlike d less in
          let mine : cond {A = ℕ} (is_same d x.0) x.1 0 ≡ 0 = ap (λ (b : Bool). cond {A = ℕ} b x.1 0) not_it in
          let none = said_none d x.0 xs d_first up.0 in
          let lines = none_of d d votes (le_refl d) (none_at d less votes from) in
          omega arith;
    }
  where
    itself : (u : Choice) → is_same u u ≡ true
    itself u = grind (arith, nat_tests)

    unlike : (d : Choice) → choice_le x.0 d ≡ false → is_same d x.0 ≡ false
    unlike d less = elim (cases_Bool (is_same d x.0)) [
      | inl t ↦ let same = same_true d x.0 t in let yes : choice_le x.0 d ≡ true = ap (choice_le x.0) same ∙ le_refl x.0 in absurd (cc)
      | inr f ↦ f
    ]

    none_at : (d : Choice) → choice_le x.0 d ≡ false → (us : List Choice) → AllByRecursion (λ v. choice_le x.0 v ≡ true) us → AllByRecursion (λ u. choice_le u d ≡ false) us
    none_at d less [] all = tt
    none_at d less (u ∷ us) all = elim (cases_Bool (choice_le u d)) [
      | inl t ↦ let no = le_trans x.0 u d all.0 t in absurd (cc)
      | inr f ↦ (f, none_at d less us all.1)
    ]

walk_err : (ls : List (Choice × ℕ)) (votes : List Choice) (c : Choice) → Up ls → IsInOrder votes → passed_all ls votes ≡ Err c → IsFirst votes ls c
walk_err [] votes c up is h = let no : Ok votes ≡ Err c = sym (pass_none votes) ∙ h in absurd (cc)
walk_err (x ∷ xs) votes c up is h = elim (result_cases (passed x.0 x.1 votes)) [
  | inl ok ↦
      let p = passed_ok x.0 x.1 votes ok.0 ok.1 in
      let order : IsInOrder ok.0 = subst IsInOrder p.left (order_drop (run x.0 votes) votes is) in
      let rest = walk_err xs ok.0 c up.1 order (sym (pass_on x xs votes ok.0 ok.1) ∙ h) in
      let whole = split votes ok.0 is p in
      record {
        here = λ e. rest.here (let w = whole c in omega arith);
        before = λ d less. let w = whole d in let r = rest.before d less in omega arith;
      }
  | inr err ↦
      let one : Err err.0 ≡ Err c = sym (pass_stops x xs votes err.0 err.1) ∙ h in
      let same : err.0 ≡ c = cc in
      subst (λ (k : Choice). IsFirst votes (x ∷ xs) k) same (elim (passed_err x.0 x.1 votes err.0 err.1) [
        | inl vote ↦ vote_first x xs votes err.0 up is vote
        | inr own ↦ subst (λ (k : Choice). IsFirst votes (x ∷ xs) k) own.2 (choice_first x xs votes up is own.0 own.1)
      ])
]
  where
    split : (votes rest : List Choice) → IsInOrder votes → Passed x.0 x.1 votes rest → (e : Choice) → count_of e votes ≡ cond {A = ℕ} (is_same e x.0) x.1 0 + count_of e rest
    split votes rest is p e =
        run_counts x.0 e votes (all_from x.0 votes is p.first)
        ∙ (ap (λ (n : ℕ). cond {A = ℕ} (is_same e x.0) n 0 + count_of e (drop (run x.0 votes) votes)) p.lines
        ∙ ap (λ (l : List Choice). cond {A = ℕ} (is_same e x.0) x.1 0 + count_of e l) p.left)

-- ---- what a report lists

above_parts : (before : List Count) (y : Count) (k : ℕ) → is_above (numbers_of (before ++ y ∷ [])) k ≡ true → (is_above (numbers_of before) k ≡ true) × (nat_lt y.number k ≡ true)
above_parts [] y k h = (refl, (both_from_and (nat_lt y.number k) true h).0)
above_parts (b ∷ before) y k h =
    let both = both_from_and (nat_lt b.number k) (is_above (numbers_of (before ++ y ∷ [])) k) h in
    let rest = above_parts before y k both.1 in
    (rw (both.0, rest.0) refl, rest.1)

abbrev Above : List Count → Count → Type 0
Above before c = is_above (numbers_of before) c.number ≡ true

all_above : (m : ℕ) (before cs : List Count) → ((k : ℕ) → is_above (numbers_of before) k ≡ true → m < k) → EachAfter Above before cs → AllByRecursion (λ n. m < n) (numbers_of cs)
all_above m before [] less h = tt
all_above m before (y ∷ ys) less h = (less y.number h.0, all_above m (before ++ y ∷ []) ys (λ k g. less k (above_parts before y k g).0) h.1)

rise_counts : (before cs : List Count) → EachAfter Above before cs → Rises (numbers_of cs)
rise_counts before [] h = tt
rise_counts before (x ∷ xs) h =
    (all_above x.number (before ++ x ∷ []) xs (λ k g. ltb-true _ _ (above_parts before x k g).1) h.1, rise_counts (before ++ x ∷ []) xs h.1)

candidates_rise : (came : ℕ) (o : OfficeCount) → IsOfficeCount came o → Rises (numbers_of o.nominal)
candidates_rise came o is = rise_counts [] o.nominal (each_weaker (MayVote (digits_in o.code)) Above (λ before c h. h.1) [] o.nominal is.nominal)

parties_rise : (came : ℕ) (o : OfficeCount) → IsOfficeCount came o → Rises (numbers_of o.parties)
parties_rise came o is = rise_counts [] o.parties (each_weaker MayLegend Above (λ before c h. h.2) [] o.parties is.parties)

few_digits : (n : ℕ) → is_between 10 99 n ≡ true → n < 256
few_digits n h = grind (arith, nat_tests)

small_from : (before cs : List Count) → EachAfter MayLegend before cs → AllByRecursion (λ c. c.number < 256) cs
small_from before [] h = tt
small_from before (c ∷ cs) h = (few_digits c.number h.0.0, small_from (before ++ c ∷ []) cs h.1)

-- the numbers of parties have eight bits
pub parties_small : (o : OfficeCount) → IsCounted o → AllByRecursion (λ c. c.number < 256) o.parties
parties_small o is = small_from [] o.parties is.1.parties

-- ---- the list rises

nominal_up : (m n : ℕ) → n < m → choice_le (choice.Nominal m) (choice.Nominal n) ≡ false
nominal_up m n h = grind (arith, nat_tests)

party_up : (m n : ℕ) → n < m → choice_le (choice.Party m) (choice.Party n) ≡ false
party_up m n h = grind (arith, nat_tests)

candidates_behind : (n : ℕ) (cs : List Count) → AllByRecursion (λ m. n < m) (numbers_of cs) → AllByRecursion (λ y. choice_le y.0 (choice.Nominal n) ≡ false) (map for_candidate cs)
candidates_behind n [] h = tt
candidates_behind n (c ∷ cs) h = (nominal_up c.number n h.0, candidates_behind n cs h.1)

parties_behind : (n : ℕ) (cs : List Count) → AllByRecursion (λ m. n < m) (numbers_of cs) → AllByRecursion (λ y. choice_le y.0 (choice.Party n) ≡ false) (map for_party cs)
parties_behind n [] h = tt
parties_behind n (c ∷ cs) h = (party_up c.number n h.0, parties_behind n cs h.1)

parties_last : (n : ℕ) (cs : List Count) → AllByRecursion (λ y. choice_le y.0 (choice.Nominal n) ≡ false) (map for_party cs)
parties_last n [] = tt
parties_last n (c ∷ cs) = (refl, parties_last n cs)

abbrev last_two : OfficeCount → List (Choice × ℕ)
last_two o = (choice.Blank, o.blank) ∷ (choice.Null, o.null_votes) ∷ []

parties_go_up : (o : OfficeCount) (cs : List Count) → Rises (numbers_of cs) → Up (map for_party cs ++ last_two o)
parties_go_up o [] h = ((refl, tt), (tt, tt))
parties_go_up o (c ∷ cs) h =
    (every_append (λ y. choice_le y.0 (choice.Party c.number) ≡ false) (map for_party cs) (last_two o) (parties_behind c.number cs h.0) (refl, (refl, tt)), parties_go_up o cs h.1)

candidates_go_up : (o : OfficeCount) (cs : List Count) → Rises (numbers_of cs) → Rises (numbers_of o.parties) → Up (map for_candidate cs ++ (map for_party o.parties ++ last_two o))
candidates_go_up o [] h g = parties_go_up o o.parties g
candidates_go_up o (c ∷ cs) h g =
    let P : Choice × ℕ → Type 0 = λ y. choice_le y.0 (choice.Nominal c.number) ≡ false in (
      every_append P (map for_candidate cs) (map for_party o.parties ++ last_two o) (candidates_behind c.number cs h.0)
          (every_append P (map for_party o.parties) (last_two o) (parties_last c.number o.parties) (refl, (refl, tt))),
      candidates_go_up o cs h.1 g,
    )

listing_up : (o : OfficeCount) → IsCounted o → Up (listing o)
listing_up o is = candidates_go_up o o.nominal (candidates_rise is.0 o is.1) (parties_rise is.0 o is.1)

-- ---- the list says what the report says

said_join : (xs ys : List (Choice × ℕ)) (e : Choice) → said_in (xs ++ ys) e ≡ said_in xs e + said_in ys e
said_join [] ys e = omega arith
said_join (x ∷ xs) ys e = let rest = said_join xs ys e in omega arith

no_candidate : (e : Choice) (cs : List Count) → ((n : ℕ) → is_same e (choice.Nominal n) ≡ false) → said_in (map for_candidate cs) e ≡ 0
no_candidate e [] h = refl
no_candidate e (c ∷ cs) h =
    let first : cond {A = ℕ} (is_same e (choice.Nominal c.number)) c.votes 0 ≡ 0 = ap (λ (b : Bool). cond {A = ℕ} b c.votes 0) (h c.number) in
    let rest = no_candidate e cs h in
    omega arith

no_party : (e : Choice) (cs : List Count) → ((n : ℕ) → is_same e (choice.Party n) ≡ false) → said_in (map for_party cs) e ≡ 0
no_party e [] h = refl
no_party e (c ∷ cs) h =
    let first : cond {A = ℕ} (is_same e (choice.Party c.number)) c.votes 0 ≡ 0 = ap (λ (b : Bool). cond {A = ℕ} b c.votes 0) (h c.number) in
    let rest = no_party e cs h in
    omega arith

-- in a list that says votes of numbers, those of one number
numbers_say : (choose : ℕ → Choice) → ((m n : ℕ) → (n == m) ≡ true → is_same (choose m) (choose n) ≡ true) → ((m n : ℕ) → (n == m) ≡ false → is_same (choose m) (choose n) ≡ false)
    → (number : ℕ) (cs : List Count) → Rises (numbers_of cs) → said_in (map (λ c. (choose c.number, c.votes)) cs) (choose number) ≡ votes_for number cs
numbers_say choose same other number [] h = refl
numbers_say choose same other number (c ∷ cs) h = go (c.number == number) refl (numbers_say choose same other number cs h.1)
  where
    above_none : (ds : List Count) → AllByRecursion (λ m. number < m) (numbers_of ds) → said_in (map (λ x. (choose x.number, x.votes)) ds) (choose number) ≡ 0
    above_none [] g = refl
    above_none (d ∷ ds) g =
        let less = g.0 in
        let unlike : (d.number == number) ≡ false = grind (arith, nat_tests) in
        let first : cond {A = ℕ} (is_same (choose number) (choose d.number)) d.votes 0 ≡ 0 = ap (λ (b : Bool). cond {A = ℕ} b d.votes 0) (other number d.number unlike) in
        let rest = above_none ds g.1 in
        omega arith

    go : (b : Bool) → (c.number == number) ≡ b → said_in (map (λ x. (choose x.number, x.votes)) cs) (choose number) ≡ votes_for number cs
        → said_in (map (λ x. (choose x.number, x.votes)) (c ∷ cs)) (choose number) ≡ votes_for number (c ∷ cs)
    go true e rest =
        let is : c.number ≡ number = grind (arith, nat_tests) in
        let first : cond {A = ℕ} (is_same (choose number) (choose c.number)) c.votes 0 ≡ c.votes = ap (λ (b : Bool). cond {A = ℕ} b c.votes 0) (same number c.number e) in
        let none = above_none cs (subst (λ (n : ℕ). AllByRecursion (λ m. n < m) (numbers_of cs)) is h.0) in
        rw e (omega arith)
    go false e rest =
        let first : cond {A = ℕ} (is_same (choose number) (choose c.number)) c.votes 0 ≡ 0 = ap (λ (b : Bool). cond {A = ℕ} b c.votes 0) (other number c.number e) in
        rw e (omega arith)

same_nominal : (m n : ℕ) → (n == m) ≡ true → is_same (choice.Nominal m) (choice.Nominal n) ≡ true
same_nominal m n h = grind (arith, nat_tests)

other_nominal : (m n : ℕ) → (n == m) ≡ false → is_same (choice.Nominal m) (choice.Nominal n) ≡ false
other_nominal m n h = grind (arith, nat_tests)

same_party : (m n : ℕ) → (n == m) ≡ true → is_same (choice.Party m) (choice.Party n) ≡ true
same_party m n h = grind (arith, nat_tests)

other_party : (m n : ℕ) → (n == m) ≡ false → is_same (choice.Party m) (choice.Party n) ≡ false
other_party m n h = grind (arith, nat_tests)

listing_says : (o : OfficeCount) → IsCounted o → (e : Choice) → said_in (listing o) e ≡ said_for o e
listing_says o is e =
    let all = said_join (map for_candidate o.nominal) (map for_party o.parties ++ last_two o) e in
    let others = said_join (map for_party o.parties) (last_two o) e in
    all ∙ (ap (λ (n : ℕ). said_in (map for_candidate o.nominal) e + n) others ∙ at e)
  where
    at : (d : Choice) → said_in (map for_candidate o.nominal) d + (said_in (map for_party o.parties) d + said_in (last_two o) d) ≡ said_for o d
    at (choice.Nominal n) =
        let mine = numbers_say (λ k. choice.Nominal k) same_nominal other_nominal n o.nominal (candidates_rise is.0 o is.1) in
        let none = no_party (choice.Nominal n) o.parties (λ m. refl) in
        omega arith
    at (choice.Party p) =
        let mine = numbers_say (λ k. choice.Party k) same_party other_party p o.parties (parties_rise is.0 o is.1) in
        let none = no_candidate (choice.Party p) o.nominal (λ m. refl) in
        omega arith
    at choice.Blank =
        let none = no_candidate choice.Blank o.nominal (λ m. refl) in
        let no = no_party choice.Blank o.parties (λ m. refl) in
        omega arith
    at choice.Null =
        let none = no_candidate choice.Null o.nominal (λ m. refl) in
        let no = no_party choice.Null o.parties (λ m. refl) in
        omega arith

-- ---- nothing is left behind null

-- the last of a list is null
abbrev EndsNull : List (Choice × ℕ) → Type 0
EndsNull [] = ⊥
EndsNull (x ∷ []) = x.0 ≡ choice.Null
EndsNull (x ∷ y ∷ ys) = EndsNull (y ∷ ys)

up_to_null : (c : Choice) → choice_le c choice.Null ≡ true
up_to_null (choice.Nominal n) = refl
up_to_null (choice.Party n) = refl
up_to_null choice.Blank = refl
up_to_null choice.Null = refl

none_behind : (votes : List Choice) → AllByRecursion (λ u. choice_le u choice.Null ≡ false) votes → votes ≡ []
none_behind [] all = refl
none_behind (v ∷ votes) all = let yes = up_to_null v in let no = all.0 in absurd (cc)

nothing_left : (ls : List (Choice × ℕ)) (votes rest : List Choice) → EndsNull ls → IsInOrder votes → passed_all ls votes ≡ Ok rest → rest ≡ []
nothing_left [] votes rest end is h = absurd end
nothing_left (x ∷ []) votes rest end is h = elim (result_cases (passed x.0 x.1 votes)) [
  | inl ok ↦
      let p = passed_ok x.0 x.1 votes ok.0 ok.1 in
      let one : Ok ok.0 ≡ Ok rest = sym (pass_on x [] votes ok.0 ok.1 ∙ pass_none ok.0) ∙ h in
      let same : ok.0 ≡ rest = cc in
      let behind : AllByRecursion (λ u. choice_le u x.0 ≡ false) rest = subst (λ (l : List Choice). AllByRecursion (λ u. choice_le u x.0 ≡ false) l) (p.left ∙ same) (run_behind x.0 votes is) in
      none_behind rest (subst (λ (c : Choice). AllByRecursion (λ u. choice_le u c ≡ false) rest) end behind)
  | inr err ↦ let no : Err err.0 ≡ Ok rest = sym (pass_stops x [] votes err.0 err.1) ∙ h in absurd (cc)
]
nothing_left (x ∷ y ∷ ys) votes rest end is h = elim (result_cases (passed x.0 x.1 votes)) [
  | inl ok ↦
      let p = passed_ok x.0 x.1 votes ok.0 ok.1 in
      let order : IsInOrder ok.0 = subst IsInOrder p.left (order_drop (run x.0 votes) votes is) in
      nothing_left (y ∷ ys) ok.0 rest end order (sym (pass_on x (y ∷ ys) votes ok.0 ok.1) ∙ h)
  | inr err ↦ let no : Err err.0 ≡ Ok rest = sym (pass_stops x (y ∷ ys) votes err.0 err.1) ∙ h in absurd (cc)
]

parties_end : (o : OfficeCount) (cs : List Count) → EndsNull (map for_party cs ++ last_two o)
parties_end o [] = refl
parties_end o (c ∷ []) = refl
parties_end o (c ∷ d ∷ cs) = parties_end o (d ∷ cs)

-- a list that goes on ends as what goes on
end_behind : (x : Choice × ℕ) (xs : List (Choice × ℕ)) → EndsNull xs → EndsNull (x ∷ xs)
end_behind x [] h = absurd h
end_behind x (y ∷ ys) h = h

listing_ends : (o : OfficeCount) (cs : List Count) → EndsNull (map for_candidate cs ++ (map for_party o.parties ++ last_two o))
listing_ends o [] = parties_end o o.parties
listing_ends o (c ∷ cs) = end_behind (for_candidate c) (map for_candidate cs ++ (map for_party o.parties ++ last_two o)) (listing_ends o cs)

-- ---- the walk finds the difference

pub walk_agrees : (votes rest : List Choice) (o : OfficeCount) → IsCounted o → IsInOrder votes → passed_all (listing o) votes ≡ Ok rest → difference votes o ≡ None
walk_agrees votes rest o is order h = elim (option_cases (difference votes o)) [
  | inl none ↦ none
  | inr some ↦
      let first = first_difference votes o some.0 some.1 in
      let counts = walk_ok (listing o) votes rest order h some.0 in
      let none : count_of some.0 rest ≡ 0 = ap (count_of some.0) (nothing_left (listing o) votes rest (listing_ends o o.nominal) order h) in
      let says = listing_says o is some.0 in
      absurd (first.here (omega arith))
]

pub walk_differs : (votes : List Choice) (o : OfficeCount) (c : Choice) → IsCounted o → IsInOrder votes → passed_all (listing o) votes ≡ Err c → difference votes o ≡ Some c
walk_differs votes o c is order h =
    let first = walk_err (listing o) votes c (listing_up o is) order h in
    let mine : IsFirstDifference votes o c = record {
      here = λ e. first.here (e ∙ sym (listing_says o is c));
      before = λ d less. first.before d less ∙ listing_says o is d;
    } in
    elim (option_cases (difference votes o)) [
      | inl none ↦ absurd (mine.here (no_difference votes o none c))
      | inr some ↦ some.1 ∙ ap (λ (x : Choice). Some x) (one_first votes o some.0 c (first_difference votes o some.0 some.1) mine)
    ]

-- ---- steps of the code's walk

pub join_ok : (xs ys : List (Choice × ℕ)) (votes rest : List Choice) → passed_all xs votes ≡ Ok rest → passed_all (xs ++ ys) votes ≡ passed_all ys rest
join_ok [] ys votes rest h =
    let one : Ok votes ≡ Ok rest = sym (pass_none votes) ∙ h in
    let same : votes ≡ rest = cc in
    ap (passed_all ys) same
join_ok (x ∷ xs) ys votes rest h = elim (result_cases (passed x.0 x.1 votes)) [
  | inl ok ↦ pass_on x (xs ++ ys) votes ok.0 ok.1 ∙ join_ok xs ys ok.0 rest (sym (pass_on x xs votes ok.0 ok.1) ∙ h)
  | inr err ↦ let no : Err err.0 ≡ Ok rest = sym (pass_stops x xs votes err.0 err.1) ∙ h in absurd (cc)
]

pub join_err : (xs ys : List (Choice × ℕ)) (votes : List Choice) (c : Choice) → passed_all xs votes ≡ Err c → passed_all (xs ++ ys) votes ≡ Err c
join_err [] ys votes c h = let no : Ok votes ≡ Err c = sym (pass_none votes) ∙ h in absurd (cc)
join_err (x ∷ xs) ys votes c h = elim (result_cases (passed x.0 x.1 votes)) [
  | inl ok ↦ pass_on x (xs ++ ys) votes ok.0 ok.1 ∙ join_err xs ys ok.0 c (sym (pass_on x xs votes ok.0 ok.1) ∙ h)
  | inr err ↦
      let one : Err err.0 ≡ Err c = sym (pass_stops x xs votes err.0 err.1) ∙ h in
      pass_stops x (xs ++ ys) votes err.0 err.1 ∙ one
]

pub counts_on : (f : Count → Choice × ℕ) (counts : List Count) (i : ℕ) (c : Count) (votes rest : List Choice) → i < length counts
    → passed (f (get_or counts i c)).0 (f (get_or counts i c)).1 votes ≡ Ok rest
    → passed_all (map f (drop i counts)) votes ≡ passed_all (map f (drop (i + 1) counts)) rest
counts_on f counts i c votes rest h e =
    ap (λ (l : List Count). passed_all (map f l) votes) (drop-cons counts i c h)
    ∙ pass_on (f (get_or counts i c)) (map f (drop (suc i) counts)) votes rest e
    ∙ ap (λ (n : ℕ). passed_all (map f (drop n counts)) rest) (sym (add-one i))

pub counts_stop : (f : Count → Choice × ℕ) (counts : List Count) (i : ℕ) (c : Count) (votes : List Choice) (d : Choice) → i < length counts
    → passed (f (get_or counts i c)).0 (f (get_or counts i c)).1 votes ≡ Err d
    → passed_all (map f (drop i counts)) votes ≡ Err d
counts_stop f counts i c votes d h e =
    ap (λ (l : List Count). passed_all (map f l) votes) (drop-cons counts i c h)
    ∙ pass_stops (f (get_or counts i c)) (map f (drop (suc i) counts)) votes d e

pub run_more : (c : Choice) (votes : List Choice) (i : ℕ) (v : Choice) → i < length votes → choice_le (get_or votes i v) c ≡ true
    → run c (drop i votes) ≡ run c (drop (i + 1) votes) + 1
unfolding run
run_more c votes i v h e =
    let next = add-one i in
    rw (drop-cons votes i v h, e, next) (omega arith)

pub run_ends : (c : Choice) (votes : List Choice) (i : ℕ) (v : Choice) → i < length votes → choice_le (get_or votes i v) c ≡ false → run c (drop i votes) ≡ 0
unfolding run
run_ends c votes i v h e = rw (drop-cons votes i v h, e) refl

-- ---- the offices of a report

few_behind : (came : ℕ) (before xs : List OfficeCount) → length before ≤ 8 → EachAfter (MayCount came) before xs → length before + length xs ≤ 8
few_behind came before [] few h = omega arith
few_behind came before (x ∷ xs) few h =
    let room = room_for (map (λ o. o.code) before) x.code h.0.0 in
    let long = length-append before (x ∷ []) in
    let same = length_codes before in
    let rest = few_behind came (before ++ x ∷ []) xs (omega arith) h.1 in
    omega arith
  where
    length_codes : (os : List OfficeCount) → length (map (λ o. o.code) os) ≡ length os
    length_codes [] = refl
    length_codes (o ∷ os) = ap suc (length_codes os)

    room_for : (codes : List ℕ) (code : ℕ) → may_have_code codes code ≡ true → length codes < 8
    room_for codes code g = ltb-true _ _ (both_from_and (nat_lt (length codes) most_offices) (is_some (code_digits code) && not (list_any (λ (c : ℕ). c == code) codes)) g).0

pub few_offices : (r : Report) → IsReport r → length r.offices ≤ 8
few_offices r is = let few = few_behind r.came [] r.offices (omega arith) is.offices in omega arith

counted_behind : (came : ℕ) (before xs : List OfficeCount) → EachAfter (MayCount came) before xs → AllByRecursion IsCounted xs
counted_behind came before [] h = tt
counted_behind came before (x ∷ xs) h = ((came, h.0.1), counted_behind came (before ++ x ∷ []) xs h.1)

pub all_counted : (r : Report) → IsReport r → AllByRecursion IsCounted r.offices
all_counted r is = counted_behind r.came [] r.offices is.offices
