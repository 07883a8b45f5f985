-- What is read from bytes is determined by them.
use Rattle.std.proofs.Common.{◌≡◌, ℕ, zero, suc, ◌<◌, pos, List, [], ◌∷◌, ◌⊎◌, length, map, get_or, Some, Ordering, Less, Equal, Greater, IsPermutation, nat_le, refl, ap, sym, ◌∙◌, subst, inl, inr, arith}
use Rattle.std.specs.Cmp.{IsTotalOrder}
use Rattle.std.specs.List.{All, Contains}
use Rattle.std.specs.List.Sorted.{IsStrictlySortedBy}
use Rattle.std.specs.Ordering.{ordering_reverse}
use Rattle.std.proofs.lemmas.Cmp.{tied_itself, nat_cmp_total}
use Rattle.std.proofs.lemmas.List.{get_or-map, length-map}
use Rattle.std.proofs.lemmas.List.Elements.{All-from_recursion, All-head, All-tail}
use Rattle.std.proofs.lemmas.List.Sorted.{Contains-permutation, IsPermutation-sym}
use Rattle.std.proofs.lemmas.Map.Keys.{sorted_head, sorted_tail, sorted_from_strictly_increasing}
use Rattle.toml.specs.Data.{Members}
use Rattle.election_tables.specs.declared.document.CandidateEntry.{CandidateEntry}
use Rattle.election_tables.specs.declared.tables.candidates.NamedCandidate.{NamedCandidate}
use Rattle.election_tables.specs.declared.tables.parties.Party.{Party}
use Rattle.election_tables.specs.declared.tables.sections.Section.{Section}
use Rattle.election_tables.specs.declared.tables.panels.Panel.{Panel}
use Rattle.election_tables.specs.declared.tables.federations.Federation.{Federation}
use Rattle.election_tables.specs.DocumentData.{DocumentData}
use Rattle.election_tables.specs.Entries.{document_of}
use Rattle.election_tables.specs.Limits.{most_voters}
use Rattle.election_tables.specs.Offices.{code_digits}
use Rattle.election_tables.specs.Roll.{IsRoll, IsRollOf, RollData}
use Rattle.election_tables.specs.Tables.{AreTablesOf, IsPanelOf, IsReadAs, candidates_of, entry_of_candidate, entry_of_federation, entry_of_office, entry_of_party, entry_of_section}
use Rattle.election_tables.specs.TablesData.{TablesData}
use Rattle.election_tables.proofs.Keys.{pair_cmp_total}
use Rattle.election_tables.proofs.Reading.{one_document}
use Rattle.election_tables.proofs.RollLines.{roll_valid}
use Rattle.sha2.proofs.Facts256.{length-sha256}
use Rattle.std.proofs.lemmas.Bool.{leb-true, and_parts}
use Rattle.urna_base.specs.Lines.{lines_of}

-- ---- two rising lists of the same elements

contains_head : {X : Type 0} (x : X) (xs : List X) → Contains (x ∷ xs) x
contains_head x xs = (0, omega arith, refl)

contains_tail : {X : Type 0} (x : X) (xs : List X) (z : X) → Contains xs z → Contains (x ∷ xs) z
contains_tail x xs z (k, h, e) = (suc k, omega arith, e)

contains_cases : {X : Type 0} (x : X) (xs : List X) (z : X) → Contains (x ∷ xs) z → (x ≡ z) ⊎ Contains xs z
contains_cases x xs z (zero, h, e) = inl e
contains_cases x xs z (suc k, h, e) = inr (k, omega arith, e)

-- what stands after the head of a rising list is above it
above_head : {X K : Type 0} (R : K → K → Ordering) (key : X → K) (x : X) (xs : List X) → IsStrictlySortedBy R (map key (x ∷ xs)) → (z : X) → Contains xs z → R (key x) (key z) ≡ Less
above_head {X} {K} R key x xs rise z (k, h, e) =
    let all = All-from_recursion (λ y. R (key x) y ≡ Less) (map key xs) (sorted_head R (key x) (map key xs) rise) in
    let size : length (map key xs) ≡ length xs = length-map xs key in
    let less : R (key x) (get_or (map key xs) k (key z)) ≡ Less = all k (key z) (omega arith) in
    let here : get_or (map key xs) k (key z) ≡ key z = get_or-map key xs k z (key z) h ∙ ap key e in
    let P : K → Type 0 = λ y. R (key x) y ≡ Less in
    subst P here less

never_both : {K : Type 0} {R : K → K → Ordering} (o : IsTotalOrder R) (a b : K) → R a b ≡ Less → R b a ≡ Less → ⊥
never_both {K} {R} o a b p q = let turned : Less ≡ Greater = sym p ∙ o.antisymm a b ∙ ap ordering_reverse q in cc

never_itself : {K : Type 0} {R : K → K → Ordering} (o : IsTotalOrder R) (a : K) → R a a ≡ Less → ⊥
never_itself {K} {R} o a p = let both : Less ≡ Equal = sym p ∙ tied_itself o a in cc

same_heads : {X K : Type 0} {R : K → K → Ordering} (o : IsTotalOrder R) (key : X → K) (x y : X) (xs ys : List X) → IsStrictlySortedBy R (map key (x ∷ xs))
    → IsStrictlySortedBy R (map key (y ∷ ys)) → Contains (y ∷ ys) x → Contains (x ∷ xs) y → x ≡ y
same_heads o key x y xs ys p q there back = elim (contains_cases y ys x there) [
  | inl first ↦ sym first
  | inr low ↦ elim (contains_cases x xs y back) [
    | inl second ↦ second
    | inr high ↦ absurd (never_both o (key x) (key y) (above_head _ key x xs p y high) (above_head _ key y ys q x low))
  ]
]

same_rising : {X K : Type 0} {R : K → K → Ordering} (o : IsTotalOrder R) (key : X → K) (xs ys : List X) → IsStrictlySortedBy R (map key xs) → IsStrictlySortedBy R (map key ys)
    → ((z : X) → Contains xs z → Contains ys z) → ((z : X) → Contains ys z → Contains xs z) → xs ≡ ys
same_rising o key [] [] p q there back = refl
same_rising o key [] (y ∷ ys) p q there back = let (k, h, e) = back y (contains_head y ys) in absurd (omega arith)
same_rising o key (x ∷ xs) [] p q there back = let (k, h, e) = there x (contains_head x xs) in absurd (omega arith)
same_rising {X} {K} {R} o key (x ∷ xs) (y ∷ ys) p q there back =
    let same : x ≡ y = same_heads o key x y xs ys p q (there x (contains_head x xs)) (back y (contains_head y ys)) in
    let tails : xs ≡ ys = same_rising o key xs ys (sorted_tail R (key x) (map key xs) p) (sorted_tail R (key y) (map key ys) q)
    (λ z h. elim (contains_cases y ys z (there z (contains_tail x xs z h))) [
      | inl first ↦ absurd (never_itself o (key x) (let P : X → Type 0 = λ w. R (key x) (key w) ≡ Less in subst P (sym first ∙ sym same) (above_head _ key x xs p z h)))
      | inr rest ↦ rest
    ])
    (λ z h. elim (contains_cases x xs z (back z (contains_tail y ys z h))) [
      | inl first ↦ absurd (never_itself o (key y) (let P : X → Type 0 = λ w. R (key y) (key w) ≡ Less in subst P (sym first ∙ same) (above_head _ key y ys q z h)))
      | inr rest ↦ rest
    ]) in
    cc

-- an element of one list is one of the other, where both stand for the same entries
contains_across : {E X : Type 0} (entry : X → E) → ((x y : X) → entry x ≡ entry y → x ≡ y) → (entries : List E) (xs ys : List X)
    → IsPermutation entries (map entry xs) → IsPermutation entries (map entry ys) → (z : X) → Contains xs z → Contains ys z
contains_across {E} {X} entry exact entries xs ys p q z (k, h, e) =
    let size_x : length (map entry xs) ≡ length xs = length-map xs entry in
    let at_x : get_or (map entry xs) k (entry z) ≡ entry z = get_or-map entry xs k z (entry z) h ∙ ap entry e in
    let among : Contains entries (entry z) = Contains-permutation (map entry xs) entries (entry z) (IsPermutation-sym entries (map entry xs) p) (k, omega arith, at_x) in
    let (j, within, f) = Contains-permutation entries (map entry ys) (entry z) q among in
    let size_y : length (map entry ys) ≡ length ys = length-map ys entry in
    let inside : j < length ys = omega arith in
    (j, inside, exact (get_or ys j z) z (sym (get_or-map entry ys j z (entry z) inside) ∙ f))

same_parts : {E X K : Type 0} {R : K → K → Ordering} (o : IsTotalOrder R) (key : X → K) (entry : X → E) → ((x y : X) → entry x ≡ entry y → x ≡ y) → (entries : List E) (xs ys : List X)
    → IsPermutation entries (map entry xs) → IsPermutation entries (map entry ys) → IsStrictlySortedBy R (map key xs) → IsStrictlySortedBy R (map key ys) → xs ≡ ys
same_parts o key entry exact entries xs ys p q rise_x rise_y =
    same_rising o key xs ys rise_x rise_y (contains_across entry exact entries xs ys p q) (contains_across entry exact entries ys xs q p)

-- ---- an entry tells its part apart

-- and so a list of entries its list of parts
same_mapped : {X E : Type 0} (f : X → E) → ((x y : X) → f x ≡ f y → x ≡ y) → (xs ys : List X) → map f xs ≡ map f ys → xs ≡ ys
same_mapped f exact [] [] h = refl
same_mapped f exact [] (y ∷ ys) h = absurd (cc)
same_mapped f exact (x ∷ xs) [] h = absurd (cc)
same_mapped f exact (x ∷ xs) (y ∷ ys) h =
    let head : f x ≡ f y = cc in
    let rest : map f xs ≡ map f ys = cc in
    let first : x ≡ y = exact x y head in
    let others : xs ≡ ys = same_mapped f exact xs ys rest in
    cc

party_exact : (x y : Party) → entry_of_party x ≡ entry_of_party y → x ≡ y
party_exact x y h =
    let number : x.number ≡ y.number = (let e : pos x.number ≡ pos y.number = ap (λ q. q.number) h in cc) in
    let name : x.name ≡ y.name = ap (λ q. q.name) h in
    λ i. record { number = number i; name = name i }

candidate_exact : (code : ℕ) (x y : NamedCandidate) → entry_of_candidate code x ≡ entry_of_candidate code y → x ≡ y
candidate_exact code x y h =
    let number : x.number ≡ y.number = (let e : pos x.number ≡ pos y.number = ap (λ c. c.number) h in cc) in
    let birth : x.birth ≡ y.birth = (let e : pos x.birth ≡ pos y.birth = ap (λ c. c.birth) h in cc) in
    let name : x.name ≡ y.name = ap (λ c. c.name) h in
    λ i. record { number = number i; birth = birth i; name = name i }

section_exact : (x y : Section) → entry_of_section x ≡ entry_of_section y → x ≡ y
section_exact x y h =
    let zone : x.zone ≡ y.zone = (let e : pos x.zone ≡ pos y.zone = ap (λ s. s.zone) h in cc) in
    let number : x.number ≡ y.number = (let e : pos x.number ≡ pos y.number = ap (λ s. s.number) h in cc) in
    let voters : x.voters ≡ y.voters = (let e : pos x.voters ≡ pos y.voters = ap (λ s. s.voters) h in cc) in
    λ i. record { zone = zone i; number = number i; voters = voters i }

federation_exact : (x y : Federation) → entry_of_federation x ≡ entry_of_federation y → x ≡ y
federation_exact x y h =
    let name : x.name ≡ y.name = ap (λ f. f.name) h in
    let parties : x.parties ≡ y.parties = same_mapped pos (λ m n e. (cc)) x.parties y.parties (ap (λ f. f.parties) h) in
    λ i. record { name = name i; parties = parties i }

same_panel : (entries : List CandidateEntry) (p q : Panel) → entry_of_office p.office ≡ entry_of_office q.office → IsPanelOf entries p → IsPanelOf entries q → p ≡ q
same_panel entries p q h of_p of_q =
    let code : p.office.code ≡ q.office.code = (let e : pos p.office.code ≡ pos q.office.code = ap (λ o. o.code) h in cc) in
    let kind : p.office.kind ≡ q.office.kind = (let e : Some p.office.kind ≡ Some q.office.kind = ap (λ o. o.kind) h in cc) in
    let seats : p.office.seats ≡ q.office.seats = (let e : pos p.office.seats ≡ pos q.office.seats = ap (λ o. o.seats) h in cc) in
    let digits : p.office.digits ≡ q.office.digits = (let e : Some p.office.digits ≡ Some q.office.digits = sym of_p.digits ∙ ap code_digits code ∙ of_q.digits in cc) in
    let P : ℕ → Type 0 = λ c. IsPermutation (candidates_of c entries) (map (entry_of_candidate c) q.candidates) in
    let candidates : p.candidates ≡ q.candidates = same_parts nat_cmp_total (λ c. c.number) (entry_of_candidate p.office.code) (candidate_exact p.office.code)
    (candidates_of p.office.code entries) p.candidates q.candidates of_p.candidates (subst P (sym code) of_q.candidates)
    (sorted_from_strictly_increasing (map (λ c. c.number) p.candidates) of_p.rise) (sorted_from_strictly_increasing (map (λ c. c.number) q.candidates) of_q.rise) in
    λ i. record { office = record { code = code i; digits = digits i; kind = kind i; seats = seats i }; candidates = candidates i }

same_panels : (entries : List CandidateEntry) (ps qs : List Panel) → map (λ p. entry_of_office p.office) ps ≡ map (λ q. entry_of_office q.office) qs
    → All (IsPanelOf entries) ps → All (IsPanelOf entries) qs → ps ≡ qs
same_panels entries [] [] h of_p of_q = refl
same_panels entries [] (q ∷ qs) h of_p of_q = absurd (cc)
same_panels entries (p ∷ ps) [] h of_p of_q = absurd (cc)
same_panels entries (p ∷ ps) (q ∷ qs) h of_p of_q =
    let head : entry_of_office p.office ≡ entry_of_office q.office = cc in
    let rest : map (λ x. entry_of_office x.office) ps ≡ map (λ x. entry_of_office x.office) qs = cc in
    let first : p ≡ q = same_panel entries p q head (All-head (IsPanelOf entries) p ps of_p) (All-head (IsPanelOf entries) q qs of_q) in
    let others : ps ≡ qs = same_panels entries ps qs rest (All-tail (IsPanelOf entries) p ps of_p) (All-tail (IsPanelOf entries) q qs of_q) in
    cc

-- ---- the whole

same_tables : (d : DocumentData) (t u : TablesData) → AreTablesOf d t → AreTablesOf d u → t.digest ≡ u.digest → t ≡ u
same_tables d t u a b digest =
    let process : t.process ≡ u.process = (let e : pos t.process ≡ pos u.process = a.process ∙ sym b.process in cc) in
    let date : t.date ≡ u.date = (let e : pos t.date ≡ pos u.date = a.date ∙ sym b.date in cc) in
    let turn : t.turn ≡ u.turn = (let e : pos t.turn ≡ pos u.turn = a.turn ∙ sym b.turn in cc) in
    let panels : t.panels ≡ u.panels = same_panels d.candidates t.panels u.panels (a.offices ∙ sym b.offices) a.panels b.panels in
    let parties : t.parties ≡ u.parties = same_parts nat_cmp_total (λ q. q.number) entry_of_party party_exact d.parties t.parties u.parties a.parties b.parties
    (sorted_from_strictly_increasing (map (λ q. q.number) t.parties) a.parties_rise) (sorted_from_strictly_increasing (map (λ q. q.number) u.parties) b.parties_rise) in
    let sections : t.sections ≡ u.sections = same_parts pair_cmp_total (λ s. (s.zone, s.number)) entry_of_section section_exact d.sections t.sections u.sections
    a.sections b.sections a.sections_rise b.sections_rise in
    let federations : t.federations ≡ u.federations = same_mapped entry_of_federation federation_exact t.federations u.federations (a.federations ∙ sym b.federations) in
    λ i. record { process = process i; date = date i; turn = turn i; panels = panels i; parties = parties i; sections = sections i; federations = federations i; digest = digest i }

pub tables_determined : (bytes : List ℕ) (t u : TablesData) → IsReadAs bytes t → IsReadAs bytes u → t ≡ u
tables_determined bytes t u a b =
    let same : b.members ≡ a.members = one_document bytes b.members a.members b.parsed a.parsed in
    let P : Members → Type 0 = λ ms. AreTablesOf (document_of ms) u in
    same_tables (document_of a.members) t u a.tables (subst P same b.tables) (a.digest ∙ sym b.digest)

pub roll_determined : (bytes : List ℕ) (r s : RollData) → IsRollOf bytes r → IsRollOf bytes s → r ≡ s
roll_determined bytes r s a b =
    let titles : r.titles ≡ s.titles = same_mapped Some (λ m n h. (cc)) r.titles s.titles (sym a.titles ∙ b.titles) in
    let digest : r.digest ≡ s.digest = a.digest ∙ sym b.digest in
    λ i. record { titles = titles i; digest = digest i }

-- a roll that was read is a roll
pub roll_is : (bytes : List ℕ) (r : RollData) → IsRollOf bytes r → IsRoll r
roll_is bytes r is =
    let n = length (lines_of bytes) in
    let (least, most) = and_parts (nat_le 1 n) (nat_le n most_voters) is.count in
    roll_valid (lines_of bytes) r.titles r.digest (leb-true 1 n least) (leb-true n most_voters most)
    (is.titles, is.lines) (ap length is.digest ∙ length-sha256 bytes)
