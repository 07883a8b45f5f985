-- The line of a round in both directions.
use Rattle.std.proofs.Common.{◌≡◌, ◌⊎◌, ℕ, ◌^◌, ◌≤◌, ◌<◌, nat_lt, List, [], ◌∷◌, ◌++◌, map, flat_map, Option, None, Some, inl, inr, refl, sym, ap, ◌∙◌, subst, append-nil, append_assoc, arith}
use Rattle.std.specs.Prelude.{codes, if◌then◌else◌, option_map, unwrap_or}
use Rattle.std.specs.Fmt.{decimal}
use Rattle.std.specs.List.{AllByRecursion, join_with_byte}
use Rattle.std.proofs.lemmas.Bool.{cases_eq, ltb-true, lt-ltb}
use Rattle.urna_base.specs.Words.{cut_at, pieces}
use Rattle.urna_base.proofs.CutLaws.{cut_behind, cut_parts}
use Rattle.quotients.specs.Average.{AverageData}
use Rattle.seat_certificate.specs.declared.table.TheConstants.{TABLE}
use Rattle.seat_certificate.specs.declared.certificate.Round.{Round}
use Rattle.seat_certificate.specs.Reading.{average_at, averages_at, keyed, next_average, round_at, round_front}
use Rattle.seat_certificate.specs.Text.{AverageFits, IsBloc, RiseAbove, RoundFits, average_word, round_line}
use Rattle.seat_certificate.proofs.Members.{some_same}
use Rattle.seat_certificate.proofs.Pieces.{number_first, words_join}
use Rattle.urna_base.proofs.Lacking.{Lacks, decimal_lacks, lacks-append}
use Rattle.urna_base.proofs.PieceLaws.{piece_first, piece_last}
use Rattle.urna_base.proofs.Cases.{and_then_some, guard_some, map_some}
use Rattle.urna_base.specs.Digits.{decimal_within}
use Rattle.seat_certificate.proofs.WordReading.{bind_some, keyed_read, keyed_written, number_read, number_written}

-- ---- one average

-- the word of an average
abbrev pub word_of : AverageData → List ℕ
word_of a = decimal a.party ++ (codes ":" ++ (decimal a.votes ++ (codes "/" ++ (decimal a.divisor))))

narrow : (n : ℕ) → n ≤ 99 → n < 10 ^ 18
narrow n h = omega arith

average_written : (a : AverageData) → AverageFits a → average_at (word_of a) ≡ Some a
unfolding average_at
average_written a fits =
    let first = cut_behind TABLE.average_votes.mark (decimal a.party) (decimal a.votes ++ (codes "/" ++ (decimal a.divisor))) (decimal_lacks 58 a.party (inr (omega arith)) (narrow a.party fits.party.1)) in
    let second = cut_behind TABLE.average_divisor.mark (decimal a.votes) (decimal a.divisor) (decimal_lacks 47 a.votes (inl (omega arith)) fits.votes) in
    let p = number_written TABLE.average_party.low TABLE.average_party.high a.party fits.party.0 fits.party.1 (narrow a.party fits.party.1) in
    let v = number_written TABLE.average_votes.low TABLE.average_votes.high a.votes (omega arith) (omega (arith, fits.votes)) fits.votes in
    let d = number_written TABLE.average_divisor.low TABLE.average_divisor.high a.divisor fits.some (omega (arith, fits.divisor)) (omega (arith, fits.divisor)) in
    rw (first, p, second, v, d) refl

average_read : (w : List ℕ) (a : AverageData) → average_at w ≡ Some a → AverageFits a × (w ≡ word_of a)
unfolding average_at
average_read w a h =
    let first = bind_some (cut_at TABLE.average_votes.mark w) _ a h in
    let p = bind_some (decimal_within TABLE.average_party.low TABLE.average_party.high first.0.0) _ a first.2 in
    let second = bind_some (cut_at TABLE.average_divisor.mark first.0.1) _ a p.2 in
    let v = bind_some (decimal_within TABLE.average_votes.low TABLE.average_votes.high second.0.0) _ a second.2 in
    let d = bind_some (decimal_within TABLE.average_divisor.low TABLE.average_divisor.high second.0.1) _ a v.2 in
    let np = number_read TABLE.average_party.low TABLE.average_party.high p.0 first.0.0 p.1 in
    let nv = number_read TABLE.average_votes.low TABLE.average_votes.high v.0 second.0.0 v.1 in
    let nd = number_read TABLE.average_divisor.low TABLE.average_divisor.high d.0 second.0.1 d.1 in
    let made : AverageData = record { votes = v.0; divisor = d.0; party = p.0 } in
    let is : made ≡ a = ap (λ (o : Option AverageData). unwrap_or o made) d.2 in
    let text : w ≡ word_of made =
    cut_parts TABLE.average_votes.mark w first.0 first.1
    ∙ ap (λ (t : List ℕ). t ++ 58 ∷ first.0.1) np.word
    ∙ ap (λ (t : List ℕ). decimal p.0 ++ 58 ∷ t) (cut_parts TABLE.average_divisor.mark first.0.1 second.0 second.1
    ∙ ap (λ (t : List ℕ). t ++ 47 ∷ second.0.1) nv.word
    ∙ ap (λ (t : List ℕ). decimal v.0 ++ 47 ∷ t) nd.word) in
    let fits : AverageFits made = record { party = (np.least, np.most); votes = nv.few; some = nd.least; divisor = omega (arith, nd.most) } in
    subst (λ (m : AverageData). AverageFits m × (w ≡ word_of m)) is (fits, text)

-- ---- averages in a row

word_lacks : (a : AverageData) → AverageFits a → Lacks 32 (word_of a)
word_lacks a fits =
    let p = decimal_lacks 32 a.party (inl (omega arith)) (narrow a.party fits.party.1) in
    let v = decimal_lacks 32 a.votes (inl (omega arith)) fits.votes in
    let d = decimal_lacks 32 a.divisor (inl (omega arith)) (omega (arith, fits.divisor)) in
    lacks-append 32 (decimal a.party) (codes ":" ++ (decimal a.votes ++ (codes "/" ++ decimal a.divisor))) p
    (lacks-append 32 (codes ":") (decimal a.votes ++ (codes "/" ++ decimal a.divisor)) refl
    (lacks-append 32 (decimal a.votes) (codes "/" ++ decimal a.divisor) v (lacks-append 32 (codes "/") (decimal a.divisor) refl d)))

-- words behind a word
words_behind : (w : List ℕ) (xs : List AverageData) → Lacks 32 w → AllByRecursion AverageFits xs → pieces (w ++ flat_map average_word xs) ≡ w ∷ map word_of xs
words_behind w [] lacks fit = ap pieces (append-nil w) ∙ piece_last 32 w lacks
words_behind w (a ∷ xs) lacks fit = piece_first 32 w (word_of a ++ flat_map average_word xs) lacks ∙ ap (λ (ws : List (List ℕ)). w ∷ ws) (words_behind (word_of a) xs (word_lacks a fit.0) fit.1)

next_written : (last : ℕ) (a : AverageData) → AverageFits a → last < a.party → next_average last (word_of a) ≡ Some a
unfolding next_average
next_written last a fits lt = rw (average_written a fits, lt-ltb last a.party lt) refl

pub averages_step : (before : List AverageData) (last : ℕ) (w : List ℕ) (ws : List (List ℕ)) (o : Option AverageData) → next_average last w ≡ o
    → averages_at before last (w ∷ ws) ≡ elim o [ None ↦ None | Some a ↦ averages_at (before ++ a ∷ []) a.party ws ]
unfolding averages_at
averages_step before last w ws None e = rw (e, averages_at) refl
averages_step before last w ws (Some a) e = rw (e, averages_at) refl

averages_written : (before xs : List AverageData) (last : ℕ) → AllByRecursion AverageFits xs → RiseAbove last (map (λ a. a.party) xs) → averages_at before last (map word_of xs) ≡ Some (before ++ xs)
unfolding averages_at
averages_written before [] last fit rise = ap (λ (l : List AverageData). Some l) (sym (append-nil before))
averages_written before (a ∷ xs) last fit rise =
    averages_step before last (word_of a) (map word_of xs) (Some a) (next_written last a fit.0 rise.0)
    ∙ averages_written (before ++ a ∷ []) xs a.party fit.1 rise.1
    ∙ ap (λ (l : List AverageData). Some l) (append_assoc before (a ∷ []) xs)

pub next_read : (last : ℕ) (w : List ℕ) (a : AverageData) → next_average last w ≡ Some a → AverageFits a × (w ≡ word_of a) × (last < a.party)
unfolding next_average
next_read last w a h =
    let found = and_then_some (average_at w) (λ a. if nat_lt last a.party then Some a else None) a h in
    let test = guard_some (nat_lt last found.0.party) (Some found.0) a found.2 in
    let is : found.0 ≡ a = ap (λ (o : Option AverageData). unwrap_or o found.0) test.1 in
    let read = average_read w found.0 found.1 in
    subst (λ (m : AverageData). AverageFits m × (w ≡ word_of m) × (last < m.party)) is (read.0, read.1, ltb-true last found.0.party test.0)

-- what was read behind some averages
pub record AreAverages (before : List AverageData) (last : ℕ) (ws : List (List ℕ)) (found : List AverageData) : Type 0 where
  pub more : List AverageData
  pub all : found ≡ before ++ more
  pub words : ws ≡ map word_of more
  pub fit : AllByRecursion AverageFits more
  pub rise : RiseAbove last (map (λ a. a.party) more)

averages_behind : (before : List AverageData) (last : ℕ) (w : List ℕ) (ws : List (List ℕ)) (found : List AverageData) → averages_at before last (w ∷ ws) ≡ Some found → (o : Option AverageData) → next_average last w ≡ o
    → ((a : AverageData) → averages_at (before ++ a ∷ []) a.party ws ≡ Some found → AreAverages (before ++ a ∷ []) a.party ws found) → AreAverages before last (w ∷ ws) found
averages_behind before last w ws found h None is later = let f = sym (averages_step before last w ws None is) ∙ h in absurd (cc)
averages_behind before last w ws found h (Some a) is later =
    let read = next_read last w a is in
    let rest = later a (sym (averages_step before last w ws (Some a) is) ∙ h) in
    record {
      more = a ∷ rest.more;
      all = rest.all ∙ append_assoc before (a ∷ []) rest.more;
      words = ap (λ (u : List ℕ). u ∷ ws) read.1 ∙ ap (λ (l : List (List ℕ)). word_of a ∷ l) rest.words;
      fit = (read.0, rest.fit);
      rise = (read.2, rest.rise);
    }

pub averages_end : (before : List AverageData) (last : ℕ) → averages_at before last [] ≡ Some before
unfolding averages_at
averages_end before last = refl

averages_read : (before : List AverageData) (last : ℕ) (ws : List (List ℕ)) (found : List AverageData) → averages_at before last ws ≡ Some found → AreAverages before last ws found
averages_read before last [] found h =
    let same : before ≡ found = some_same before found (sym (averages_end before last) ∙ h) in
    record { more = []; all = sym same ∙ sym (append-nil before); words = refl; fit = tt; rise = tt }
averages_read before last (w ∷ ws) found h = averages_behind before last w ws found h (next_average last w) refl (λ a g. averages_read (before ++ a ∷ []) a.party ws found g)

-- ---- a round

round_words : (k : ℕ) (r : Round) → k < 10 ^ 18 → RoundFits r
    → pieces (round_line k r) ≡ TABLE.round ∷ decimal k ∷ TABLE.phase.word ∷ decimal r.phase ∷ TABLE.winner.word ∷ decimal r.party ∷ map word_of r.averages
round_words k r few fits =
    let tail = flat_map average_word r.averages in
    let phase : r.phase < 10 ^ 18 = elim fits.phase [ inl e ↦ omega arith | inr e ↦ omega arith ] in
    let p = words_behind (decimal r.party) r.averages (decimal_lacks 32 r.party (inl (omega arith)) (narrow r.party fits.party.1)) fits.averages in
    let f = number_first r.phase (codes "VENCE " ++ (decimal r.party ++ (tail))) phase in
    let n = number_first k (codes "FASE " ++ (decimal r.phase ++ (codes " VENCE " ++ (decimal r.party ++ (tail))))) few in
    piece_first 32 TABLE.round (decimal k ++ (codes " FASE " ++ (decimal r.phase ++ (codes " VENCE " ++ (decimal r.party ++ tail))))) refl
    ∙ ap (λ (ws : List (List ℕ)). TABLE.round ∷ ws) (n
    ∙ ap (λ (ws : List (List ℕ)). decimal k ∷ TABLE.phase.word ∷ ws) (f
    ∙ ap (λ (ws : List (List ℕ)). decimal r.phase ∷ TABLE.winner.word ∷ ws) p))

join_behind : (w : List ℕ) (xs : List AverageData) → join_with_byte 32 (w ∷ map word_of xs) ≡ w ++ flat_map average_word xs
join_behind w [] = sym (append-nil w)
join_behind w (a ∷ xs) = ap (λ (t : List ℕ). w ++ 32 ∷ t) (join_behind (word_of a) xs)

phase_between : (f : ℕ) → (f ≡ 2) ⊎ (f ≡ 3) → (2 ≤ f) × (f ≤ 3)
phase_between f (inl e) = (omega arith, omega arith)
phase_between f (inr e) = (omega arith, omega arith)

phase_is : (f : ℕ) → 2 ≤ f → f ≤ 3 → (f ≡ 2) ⊎ (f ≡ 3)
phase_is f h g = elim (cases_eq f 2) [ inl e ↦ inl e | inr ne ↦ inr (omega arith) ]

front_written : (k : ℕ) (r : Round) → k < 10 ^ 18 → RoundFits r → round_front k (round_line k r) ≡ Some ((r.phase, r.party), map word_of r.averages)
unfolding round_front
front_written k r few fits =
    let phase = phase_between r.phase fits.phase in
    let words = map word_of r.averages in
    let n = keyed_written TABLE.round k k k (TABLE.phase.word ∷ decimal r.phase ∷ TABLE.winner.word ∷ decimal r.party ∷ words) (omega arith) (omega arith) few in
    let f = keyed_written TABLE.phase.word TABLE.phase.low TABLE.phase.high r.phase (TABLE.winner.word ∷ decimal r.party ∷ words) phase.0 phase.1 (omega (arith, phase.1)) in
    let p = keyed_written TABLE.winner.word TABLE.winner.low TABLE.winner.high r.party words fits.party.0 fits.party.1 (narrow r.party fits.party.1) in
    rw (round_words k r few fits, n, f, p) refl

pub round_written : (k : ℕ) (r : Round) → k < 10 ^ 18 → RoundFits r → round_at k (round_line k r) ≡ Some r
unfolding round_at
round_written k r few fits = rw (front_written k r few fits, averages_written [] r.averages 0 fits.averages fits.rise) refl

pub round_read : (k : ℕ) (line : List ℕ) (r : Round) → round_at k line ≡ Some r → RoundFits r × (line ≡ round_line k r)
unfolding round_at round_front
round_read k line r h =
    let x = and_then_some (round_front k line) (λ x. option_map (λ xs. record { phase = x.0.0; party = x.0.1; averages = xs }) (averages_at [] 0 x.1)) r h in
    let xs = map_some (λ xs. record { phase = x.0.0.0; party = x.0.0.1; averages = xs }) (averages_at [] 0 x.0.1) r x.2 in
    let n = bind_some (keyed TABLE.round k k (pieces line)) _ x.0 x.1 in
    let f = bind_some (keyed TABLE.phase.word TABLE.phase.low TABLE.phase.high n.0.1) _ x.0 n.2 in
    let p = bind_some (keyed TABLE.winner.word TABLE.winner.low TABLE.winner.high f.0.1) _ x.0 f.2 in
    let kn = keyed_read TABLE.round k k (pieces line) n.0 n.1 in
    let kf = keyed_read TABLE.phase.word TABLE.phase.low TABLE.phase.high n.0.1 f.0 f.1 in
    let kp = keyed_read TABLE.winner.word TABLE.winner.low TABLE.winner.high f.0.1 p.0 p.1 in
    let same : ((f.0.0, p.0.0), p.0.1) ≡ x.0 = some_same _ _ p.2 in
    let all = averages_read [] 0 x.0.1 xs.0 xs.1 in
    let made : Round = record { phase = x.0.0.0; party = x.0.0.1; averages = xs.0 } in
    let number : n.0.0 ≡ k = omega (arith, kn.least, kn.most) in
    let phase : f.0.0 ≡ made.phase = ap (λ (y : (ℕ × ℕ) × List (List ℕ)). y.0.0) same in
    let party : p.0.0 ≡ made.party = ap (λ (y : (ℕ × ℕ) × List (List ℕ)). y.0.1) same in
    let behind : p.0.1 ≡ map word_of xs.0 = ap (λ (y : (ℕ × ℕ) × List (List ℕ)). y.1) same ∙ all.words ∙ ap (λ (l : List AverageData). map word_of l) (sym all.all) in
    let words : pieces line ≡ TABLE.round ∷ decimal k ∷ TABLE.phase.word ∷ decimal made.phase ∷ TABLE.winner.word ∷ decimal made.party ∷ map word_of xs.0 =
    kn.words
    ∙ ap (λ (m : ℕ). TABLE.round ∷ decimal m ∷ n.0.1) number
    ∙ ap (λ (ws : List (List ℕ)). TABLE.round ∷ decimal k ∷ ws) (kf.words
    ∙ ap (λ (m : ℕ). TABLE.phase.word ∷ decimal m ∷ f.0.1) phase
    ∙ ap (λ (ws : List (List ℕ)). TABLE.phase.word ∷ decimal made.phase ∷ ws) (kp.words
    ∙ ap (λ (m : ℕ). TABLE.winner.word ∷ decimal m ∷ p.0.1) party
    ∙ ap (λ (ws : List (List ℕ)). TABLE.winner.word ∷ decimal made.party ∷ ws) behind)) in
    let text : line ≡ round_line k made =
    words_join line _ words
    ∙ ap (λ (t : List ℕ). codes "RODADA " ++ (decimal k ++ (codes " FASE " ++ (decimal made.phase ++ (codes " VENCE " ++ (t)))))) (join_behind (decimal made.party) xs.0) in
    let fits : RoundFits made = record {
      phase = subst (λ (m : ℕ). (m ≡ 2) ⊎ (m ≡ 3)) phase (phase_is f.0.0 kf.least kf.most);
      party = subst IsBloc party (kp.least, kp.most);
      averages = subst (λ (l : List AverageData). AllByRecursion AverageFits l) (sym all.all) all.fit;
      rise = subst (λ (l : List AverageData). RiseAbove 0 (map (λ a. a.party) l)) (sym all.all) all.rise;
    } in
    subst (λ (m : Round). RoundFits m × (line ≡ round_line k m)) xs.2 (fits, text)
