-- How long what is written of a state is, and what stands behind its head
use Rattle.std.proofs.Common.{◌≡◌, ℕ, zero, suc, ◌+◌, ◌-◌, ◌*◌, ◌<◌, ◌≤◌, Bool, true, false, cond, List, [], ◌∷◌, ◌++◌, length, map, take, drop, replicate, slice_get, Some, refl, sym, ap, subst, ◌∙◌, append_assoc, arith, length-append}
use Rattle.std.specs.Int.{w32, to_be_bytes}
use Rattle.std.specs.List.{flat_map, sum_by, zip}
use Rattle.std.proofs.Math.Nat.{mul-le-mul_right}
use Rattle.std.proofs.lemmas.List.{drop_all, append-nil, length-take, length-drop, length-map, length-replicate}
use Rattle.std.proofs.lemmas.List.Sums.{sum_by-cons}
use Rattle.std.proofs.lemmas.Option.{slice_get-get_or, unwrap_or-slice_get}
use Rattle.election_tables.specs.Limits.{most_offices, most_parties, most_voters}
use Rattle.election_tables.specs.TablesData.{TablesData, IsTables, places_in}
use Rattle.election_tables.specs.declared.tables.panels.Panel.{Panel}
use Rattle.election_tables.proofs.PlacesOfPanels.{places_few}
use Rattle.vote_kinds.specs.declared.choice.Choice.{Choice}
use Rattle.vote_kinds.specs.declared.choice.Choice.TheVariants as choice
use Rattle.vote_kinds.specs.Ballot.{BallotLine, choices_of, line_for, line_of, lines_by_panel, lines_from}
use Rattle.vote_kinds.proofs.Lookups.{by_panel_length, line_found}
use Rattle.vote_record.specs.Bag.{bag_at, count_of}
use Rattle.turnout.specs.Turnout.{number_came}
use Rattle.turnout.proofs.Marks.{number_came-le-length}
use Rattle.vote_record.specs.Counters.{counts_of}
use Rattle.image_codec.specs.State.{State}
use Rattle.image_codec.specs.Valid.{AllHaveVoted}
use Rattle.image_codec.specs.Encoding.{IsStateOf, vote_bytes, bag_bytes, counter_bytes, head_bytes, written, written1, encode, encode1}
use Rattle.image_codec.specs.CodecLaws.{counters_of}
use Rattle.image_codec.proofs.Full.{full_head, full_tail}
use Rattle.image_codec.proofs.Valid.{bag_for_each}
use Rattle.image_codec.proofs.Written.{length-head_bytes}

-- The first version

-- five bytes for a vote
length-votes : (bag : List Choice) → length (flat_map vote_bytes bag) ≡ 5 * length bag
length-votes [] = refl
length-votes (c ∷ bag) = let more = length-votes bag in omega (arith, length-append (vote_bytes c) (flat_map vote_bytes bag))

pub length-bag_bytes : (bag : List Choice) → length (bag_bytes bag) ≡ 4 + 5 * length bag
length-bag_bytes bag = omega (arith, length-append (to_be_bytes w32 (length bag)) (flat_map vote_bytes bag), length-votes bag)

length-bags : (n : ℕ) (panels : List Panel) (bags : List (List Choice)) → AllHaveVoted n (map places_in panels) bags → length (flat_map bag_bytes bags) ≡ 4 * length panels + 5 * (n * sum_by places_in panels)
length-bags n [] [] full = omega arith
length-bags n [] (bag ∷ bags) full = absurd (cc)
length-bags n (p ∷ panels) [] full = absurd (cc)
length-bags n (p ∷ panels) (bag ∷ bags) full =
    let more = length-bags n panels bags (full_tail n (places_in p) (map places_in panels) bag bags full) in
    let votes : n * sum_by places_in (p ∷ panels) ≡ n * places_in p + n * sum_by places_in panels = ap (λ (k : ℕ). n * k) (sum_by-cons places_in p panels) ∙ grind arith in
    omega (arith, more, votes, length-append (bag_bytes bag) (flat_map bag_bytes bags), length-bag_bytes bag, full_head n (places_in p) (map places_in panels) bag bags full)

pub length-written1 : (s : State) → length (written1 s) ≡ 98 + length (flat_map bag_bytes s.bags)
unfolding written1
length-written1 s = omega (arith, length-append (head_bytes 1 s) (flat_map bag_bytes s.bags), length-head_bytes 1 s)

-- eight panels of 600 votes have room, and 600 votes more in one of them
few_votes : (panels votes n : ℕ) → panels ≤ most_offices → votes ≤ panels + 1 → n ≤ most_voters → 98 + (4 * panels + 5 * (n * votes)) ≤ 27130
few_votes panels votes n few one_more most =
    let all : n * votes ≤ most_voters * votes = mul-le-mul_right votes most in
    omega arith

pub room_of_first : (t : TablesData) (voters : ℕ) (s : State) → IsTables t → voters ≤ most_voters → IsStateOf t voters s → length (written1 s) ≤ 27130
room_of_first t voters s is few of =
    let full = subst (λ (p : List ℕ). AllHaveVoted (number_came s.came) p s.bags) of.places of.valid.full in
    let came : number_came s.came ≤ most_voters = omega (arith, number_came-le-length s.came, of.roll) in
    omega (arith, length-written1 s, length-bags (number_came s.came) t.panels s.bags full, few_votes (length t.panels) (sum_by places_in t.panels) (number_came s.came) is.panel_count.1 (places_few t is) came)

pub length-encode1 : (s : State) → length (written1 s) ≤ 65536 → length (encode1 s) ≡ 65536
unfolding encode1
length-encode1 s fits = omega (arith, length-append (written1 s) (replicate (65536 - length (written1 s)) 0), length-replicate {A = ℕ} (65536 - length (written1 s)) 0)

-- what stands behind the head
abbrev pub behind1 : State → List ℕ
behind1 s = flat_map bag_bytes s.bags ++ replicate (65536 - length (written1 s)) 0

pub encode1_parts : (s : State) → encode1 s ≡ head_bytes 1 s ++ behind1 s
unfolding encode1 written1
encode1_parts s = append_assoc (head_bytes 1 s) (flat_map bag_bytes s.bags) (replicate (65536 - length (written1 s)) 0)

-- The second version

-- the counters of bags
abbrev pub counters_text : List BallotLine → List (List Choice) → List ℕ
counters_text lines bags = flat_map counter_bytes (zip lines bags)

-- four bytes for a counter
length-words : (ns : List ℕ) → length (flat_map (to_be_bytes w32) ns) ≡ 4 * length ns
length-words [] = refl
length-words (n ∷ ns) = let more = length-words ns in omega (arith, length-append (to_be_bytes w32 n) (flat_map (to_be_bytes w32) ns))

pub length-counter_bytes : (line : BallotLine) (bag : List Choice) → length (counter_bytes (line, bag)) ≡ 4 * length (choices_of line)
length-counter_bytes line bag = omega (arith, length-words (counts_of (choices_of line) bag), length-map (choices_of line) (λ c. count_of c bag))

pub length-counters_text : (lines : List BallotLine) (bags : List (List Choice)) → length bags ≡ length lines → length (counters_text lines bags) ≡ 4 * counters_of lines
length-counters_text [] bags e = refl
length-counters_text (line ∷ lines) [] e = absurd (omega arith)
length-counters_text (line ∷ lines) (bag ∷ bags) e =
    let more = length-counters_text lines bags (omega arith) in
    omega (arith, length-append (counter_bytes (line, bag)) (counters_text lines bags), length-counter_bytes line bag, sum_by-cons (λ l. length (choices_of l)) line lines)

zip_get : {X Y : Type 0} (xs : List X) (ys : List Y) (i : ℕ) (x : X) (y : Y) → slice_get xs i ≡ Some x → slice_get ys i ≡ Some y → slice_get (zip xs ys) i ≡ Some (x, y)
zip_get [] ys i x y e f = absurd (cc)
zip_get (a ∷ xs) [] i x y e f = absurd (cc)
zip_get {X = X} {Y = Y} (a ∷ xs) (b ∷ ys) zero x y e f =
    let first : a ≡ x = cc in
    let second : b ≡ y = cc in
    ap (λ (v : X). Some (v, b)) first ∙ ap (λ (v : Y). Some (x, v)) second
zip_get (a ∷ xs) (b ∷ ys) (suc i) x y e f = zip_get xs ys i x y e f

-- the line of a panel with its bag
pub panel_pair : (t : TablesData) (bags : List (List Choice)) (panel : ℕ) → panel < length t.panels → panel < length bags
    → slice_get (zip (lines_by_panel t) bags) panel ≡ Some (line_of t panel, bag_at bags panel)
panel_pair t bags panel lt within =
    zip_get (lines_by_panel t) bags panel (line_of t panel) (bag_at bags panel) (line_found t panel lt)
    (slice_get-get_or bags panel [] within ∙ ap (λ (b : List Choice). Some b) (sym (unwrap_or-slice_get bags panel [])))

-- how many counters there are

party_part : (proportional : Bool) (ns : List ℕ) → length (cond proportional (map (λ n. choice.Party n) ns) []) ≤ length ns
party_part true ns = let e = length-map ns (λ n. choice.Party n) in omega arith
party_part false ns = omega arith

choices_few : (line : BallotLine) → length (choices_of line) ≤ length line.candidates + length line.parties + 2
choices_few line =
    let nominal : List Choice = map (λ n. choice.Nominal n) line.candidates in
    let party : List Choice = cond line.proportional (map (λ n. choice.Party n) line.parties) [] in
    omega (arith, length-append nominal (party ++ choice.Blank ∷ choice.Null ∷ []), length-append party (choice.Blank ∷ choice.Null ∷ []), length-map line.candidates (λ n. choice.Nominal n), party_part line.proportional line.parties)

counters_from : (t : TablesData) (first : ℕ) (panels : List Panel) → length t.parties ≤ most_parties → counters_of (lines_from t first panels) ≤ sum_by (λ p. length p.candidates) panels + 42 * length panels
counters_from t first [] few = omega arith
counters_from t first (p ∷ panels) few =
    let more = counters_from t (first + 1) panels few in
    let one = choices_few (line_for t first p) in
    omega (
      arith,
      length-map p.candidates (λ c. c.number),
      length-map t.parties (λ q. q.number),
      sum_by-cons (λ (q : Panel). length q.candidates) p panels,
      sum_by-cons (λ (l : BallotLine). length (choices_of l)) (line_for t first p) (lines_from t (first + 1) panels),
    )

pub counters_few : (t : TablesData) → IsTables t → counters_of (lines_by_panel t) ≤ 4432
unfolding lines_by_panel
counters_few t is = let all = counters_from t 0 t.panels is.party_count.1 in omega (arith, is.panel_count.1, is.candidate_count)

pub length-written : (t : TablesData) (s : State) → length s.bags ≡ length t.panels → length (written t s) ≡ 512 + 4 * counters_of (lines_by_panel t)
unfolding written
length-written t s many =
    let zeros : List ℕ = replicate 414 0 in
    let text : List ℕ = counters_text (lines_by_panel t) s.bags in
    omega (
      arith,
      length-append (head_bytes 2 s ++ zeros) text,
      length-append (head_bytes 2 s) zeros,
      length-head_bytes 2 s,
      length-counters_text (lines_by_panel t) s.bags (many ∙ sym (by_panel_length t)),
    )

pub room_of_state : (t : TablesData) (voters : ℕ) (s : State) → IsTables t → voters ≤ most_voters → IsStateOf t voters s → length (written t s) ≤ 18240
room_of_state t voters s is few of = omega (arith, length-written t s (bag_for_each t s of.valid of.places), counters_few t is)

pub length-encode : (t : TablesData) (s : State) → length (written t s) ≤ 65536 → length (encode t s) ≡ 65536
unfolding encode
length-encode t s fits = omega (arith, length-append (written t s) (replicate (65536 - length (written t s)) 0), length-replicate {A = ℕ} (65536 - length (written t s)) 0)

-- what stands behind the head
abbrev pub behind2 : TablesData → State → List ℕ
behind2 t s = replicate 414 0 ++ (counters_text (lines_by_panel t) s.bags ++ replicate (65536 - length (written t s)) 0)

regroup : (h z c r : List ℕ) → ((h ++ z) ++ c) ++ r ≡ h ++ (z ++ (c ++ r))
regroup h z c r = simp append_assoc

pub written_is : (t : TablesData) (s : State) → written t s ≡ (head_bytes 2 s ++ replicate 414 0) ++ counters_text (lines_by_panel t) s.bags
unfolding written
written_is t s = refl

pub encode_parts : (t : TablesData) (s : State) → encode t s ≡ head_bytes 2 s ++ behind2 t s
unfolding encode
encode_parts t s =
    ap (λ (w : List ℕ). w ++ replicate (65536 - length (written t s)) 0) (written_is t s)
    ∙ regroup (head_bytes 2 s) (replicate 414 0) (counters_text (lines_by_panel t) s.bags) (replicate (65536 - length (written t s)) 0)

-- the front of a body is what is written, and zeros are in the part after it, which ends with the body
pub body_of : (t : TablesData) (s : State) (into front zeros : List ℕ) (end : ℕ) → length into ≡ 65536 → end ≡ length (written t s) → front ≡ written t s
    → zeros ≡ replicate (length (take (length into - end) (drop end into))) 0
    → front ++ (zeros ++ drop (length into - end) (drop end into)) ≡ encode t s
unfolding encode
body_of t s into front zeros end whole is text filled =
    let long : length (take (length into - end) (drop end into)) ≡ 65536 - length (written t s) = omega (arith, length-take (length into - end) (drop end into), length-drop end into) in
    let past : drop (length into - end) (drop end into) ≡ [] = drop_all (length into - end) (drop end into) (omega (arith, length-drop end into)) in
    ap (λ (r : List ℕ). r ++ (zeros ++ drop (length into - end) (drop end into))) text
    ∙ ap (λ (r : List ℕ). written t s ++ (zeros ++ r)) past ∙ ap (λ (r : List ℕ). written t s ++ r) (append-nil zeros ∙ filled ∙ ap (λ (n : ℕ). replicate n 0) long)
