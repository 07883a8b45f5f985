-- Each line in both directions: what a line of a certificate spells is read, and what is read is spelled so.
use Rattle.std.proofs.Common.{◌≡◌, ℕ, ◌^◌, ◌≤◌, ◌<◌, List, [], ◌∷◌, ◌++◌, Some, refl, ap, ◌∙◌, subst, arith}
use Rattle.std.specs.Prelude.{codes}
use Rattle.std.specs.Fmt.{decimal}
use Rattle.urna_base.specs.Words.{pieces}
use Rattle.seat_certificate.specs.declared.table.TheConstants.{TABLE}
use Rattle.seat_certificate.specs.declared.certificate.FirstLine.{FirstLine}
use Rattle.seat_certificate.specs.Reading.{at_end, bloc_at, keyed, one_number}
use Rattle.seat_certificate.specs.Text.{LineFits, bloc_line}
use Rattle.seat_certificate.proofs.Pieces.{number_first, number_last, words_join}
use Rattle.urna_base.proofs.Lacking.{Lacks}
use Rattle.urna_base.proofs.PieceLaws.{piece_first}
use Rattle.seat_certificate.proofs.WordReading.{bind_some, end_some, keyed_read, keyed_written}

-- ---- one keyword and one number

pub one_written : (word : List ℕ) (low high n : ℕ) → Lacks 32 word → low ≤ n → n ≤ high → n < 10 ^ 18 → one_number word low high (word ++ 32 ∷ decimal n) ≡ Some n
unfolding one_number
one_written word low high n lacks h g lt =
    let words : pieces (word ++ 32 ∷ decimal n) ≡ word ∷ decimal n ∷ [] = piece_first 32 word (decimal n) lacks ∙ ap (λ (l : List (List ℕ)). word ∷ l) (number_last n lt) in
    rw (words, keyed_written word low high n [] h g lt) refl

pub record IsOneNumber (word : List ℕ) (low high n : ℕ) (line : List ℕ) : Type 0 where
  pub text : line ≡ word ++ 32 ∷ decimal n
  pub least : low ≤ n
  pub most : n ≤ high
  pub few : n < 10 ^ 18

pub one_read : (word : List ℕ) (low high n : ℕ) (line : List ℕ) → one_number word low high line ≡ Some n → IsOneNumber word low high n line
unfolding one_number
one_read word low high n line h =
    let a = bind_some (keyed word low high (pieces line)) (λ n. at_end n.0 n.1) n h in
    let k = keyed_read word low high (pieces line) a.0 a.1 in
    let e = end_some a.0.0 n a.0.1 a.2 in
    let words : pieces line ≡ word ∷ decimal n ∷ [] = k.words ∙ ap (λ (l : List (List ℕ)). word ∷ decimal a.0.0 ∷ l) e.0 ∙ ap (λ (m : ℕ). word ∷ decimal m ∷ []) e.1 in
    record { text = words_join line (word ∷ decimal n ∷ []) words; least = omega (arith, k.least, e.1); most = omega (arith, k.most, e.1); few = omega (arith, k.few, e.1) }

-- ---- a line of the first phase

bloc_words : (l : FirstLine) → LineFits l
    → pieces (bloc_line l) ≡ TABLE.party.word ∷ decimal l.party ∷ TABLE.party_quotient.word ∷ decimal l.quotient ∷ TABLE.able.word ∷ decimal l.able ∷ TABLE.seats.word ∷ decimal l.seats ∷ []
bloc_words l fits =
    let s = number_last l.seats (omega (arith, fits.seats)) in
    let a = number_first l.able (codes "VAGAS " ++ decimal l.seats) (omega (arith, fits.able)) in
    let q = number_first l.quotient (codes "APTOS " ++ (decimal l.able ++ (codes " VAGAS " ++ (decimal l.seats)))) fits.quotient in
    let p = number_first l.party (codes "QP " ++ (decimal l.quotient ++ (codes " APTOS " ++ (decimal l.able ++ (codes " VAGAS " ++ (decimal l.seats)))))) (omega (arith, fits.party.1)) in
    piece_first 32 TABLE.party.word (decimal l.party ++ (codes " QP " ++ (decimal l.quotient ++ (codes " APTOS " ++ (decimal l.able ++ (codes " VAGAS " ++ decimal l.seats)))))) refl
    ∙ ap (λ (ws : List (List ℕ)). TABLE.party.word ∷ ws) (p
    ∙ ap (λ (ws : List (List ℕ)). decimal l.party ∷ TABLE.party_quotient.word ∷ ws) (q
    ∙ ap (λ (ws : List (List ℕ)). decimal l.quotient ∷ TABLE.able.word ∷ ws) (a
    ∙ ap (λ (ws : List (List ℕ)). decimal l.able ∷ TABLE.seats.word ∷ ws) s)))

pub bloc_written : (l : FirstLine) → LineFits l → bloc_at (bloc_line l) ≡ Some l
unfolding bloc_at
bloc_written l fits =
    let p = keyed_written TABLE.party.word TABLE.party.low TABLE.party.high l.party (TABLE.party_quotient.word ∷ decimal l.quotient ∷ TABLE.able.word ∷ decimal l.able ∷ TABLE.seats.word ∷ decimal l.seats ∷ []) fits.party.0 fits.party.1 (omega (arith, fits.party.1)) in
    let q = keyed_written TABLE.party_quotient.word TABLE.party_quotient.low TABLE.party_quotient.high l.quotient (TABLE.able.word ∷ decimal l.able ∷ TABLE.seats.word ∷ decimal l.seats ∷ []) (omega arith) (omega (arith, fits.quotient)) fits.quotient in
    let a = keyed_written TABLE.able.word TABLE.able.low TABLE.able.high l.able (TABLE.seats.word ∷ decimal l.seats ∷ []) (omega arith) (omega (arith, fits.able)) (omega (arith, fits.able)) in
    let s = keyed_written TABLE.seats.word TABLE.seats.low TABLE.seats.high l.seats [] (omega arith) (omega (arith, fits.seats)) (omega (arith, fits.seats)) in
    rw (bloc_words l fits, p, q, a, s) refl

pub bloc_read : (line : List ℕ) (l : FirstLine) → bloc_at line ≡ Some l → LineFits l × (line ≡ bloc_line l)
unfolding bloc_at
bloc_read line l h =
    let p = bind_some (keyed TABLE.party.word TABLE.party.low TABLE.party.high (pieces line)) _ l h in
    let q = bind_some (keyed TABLE.party_quotient.word TABLE.party_quotient.low TABLE.party_quotient.high p.0.1) _ l p.2 in
    let a = bind_some (keyed TABLE.able.word TABLE.able.low TABLE.able.high q.0.1) _ l q.2 in
    let s = bind_some (keyed TABLE.seats.word TABLE.seats.low TABLE.seats.high a.0.1) _ l a.2 in
    let kp = keyed_read TABLE.party.word TABLE.party.low TABLE.party.high (pieces line) p.0 p.1 in
    let kq = keyed_read TABLE.party_quotient.word TABLE.party_quotient.low TABLE.party_quotient.high p.0.1 q.0 q.1 in
    let ka = keyed_read TABLE.able.word TABLE.able.low TABLE.able.high q.0.1 a.0 a.1 in
    let ks = keyed_read TABLE.seats.word TABLE.seats.low TABLE.seats.high a.0.1 s.0 s.1 in
    let e = end_some (record { party = p.0.0; quotient = q.0.0; able = a.0.0; seats = s.0.0 }) l s.0.1 s.2 in
    let made : FirstLine = record { party = p.0.0; quotient = q.0.0; able = a.0.0; seats = s.0.0 } in
    let words : pieces line ≡ TABLE.party.word ∷ decimal p.0.0 ∷ TABLE.party_quotient.word ∷ decimal q.0.0 ∷ TABLE.able.word ∷ decimal a.0.0 ∷ TABLE.seats.word ∷ decimal s.0.0 ∷ [] =
    kp.words ∙ ap (λ (ws : List (List ℕ)). TABLE.party.word ∷ decimal p.0.0 ∷ ws) (kq.words
    ∙ ap (λ (ws : List (List ℕ)). TABLE.party_quotient.word ∷ decimal q.0.0 ∷ ws) (ka.words
    ∙ ap (λ (ws : List (List ℕ)). TABLE.able.word ∷ decimal a.0.0 ∷ ws) (ks.words
    ∙ ap (λ (ws : List (List ℕ)). TABLE.seats.word ∷ decimal s.0.0 ∷ ws) e.0))) in
    let fits : LineFits made = record { party = (kp.least, kp.most); quotient = kq.few; able = omega (arith, ka.most); seats = omega (arith, ks.most) } in
    subst (λ (m : FirstLine). LineFits m × (line ≡ bloc_line m)) e.1 (fits, words_join line _ words)
