-- Bytes are read as a state exactly where they are an encoding of it, of either version
use Rattle.std.proofs.Common.{◌≡◌, ℕ, ◌+◌, ◌-◌, ◌*◌, ◌<◌, ◌≤◌, Bool, true, cond, ◌==◌, nat_lt, List, ◌++◌, length, take, drop, replicate, Option, Some, None, option_map, inl, inr, refl, sym, ap, subst, ◌∙◌, arith}
use Rattle.std.specs.Int.{w32, w64, to_be_bytes}
use Rattle.std.specs.List.{flat_map, list_all, slice_index}
use Rattle.std.proofs.lemmas.Bool.{eqb-true, eq-eqb, and_from, and_parts}
use Rattle.std.proofs.lemmas.List.{length-take, length-drop, length-replicate, drop_at, take_at, take-append-drop, drop-drop}
use Rattle.std.proofs.lemmas.Option.{same_Some}
use Rattle.urna_base.proofs.Cases.{and_then_some, guard_some, map_some}
use Rattle.election_tables.specs.Limits.{most_offices, most_voters}
use Rattle.election_tables.specs.TablesData.{TablesData, IsTables, places_of}
use Rattle.vote_kinds.specs.declared.choice.Choice.{Choice}
use Rattle.vote_kinds.specs.Ballot.{BallotLine, lines_by_panel}
use Rattle.vote_kinds.proofs.LineChoices.{lines_rise}
use Rattle.vote_kinds.proofs.Lookups.{by_panel_length, panel_places}
use Rattle.turnout.specs.Turnout.{number_came}
use Rattle.turnout.specs.declared.phase.Phase.{Phase}
use Rattle.turnout.proofs.Marks.{number_came-le-length}
use Rattle.image_codec.specs.State.{State}
use Rattle.image_codec.specs.Valid.{AllHaveVoted}
use Rattle.image_codec.specs.Encoding.{IsStateOf, IsEncoding, IsNoEncoding, bag_bytes, phase_byte, opening_in, closing_in, turnout_bytes, head_bytes, written, written1, encode, encode1}
use Rattle.image_codec.specs.Numbers.{are_zero}
use Rattle.image_codec.specs.DecodedHead.{marks_in, turnout_of, phase_in}
use Rattle.image_codec.specs.DecodedVotes.{bags_in}
use Rattle.image_codec.specs.DecodedCounters.{bags_counted}
use Rattle.image_codec.specs.Decoded.{bags_of, bags_second, is_body, decoded}
use Rattle.image_codec.proofs.Bits.{turnout_back}
use Rattle.image_codec.proofs.Bytes.{ByteWise, join_bytes, bags_small, counters_small, zeros_small, head_small, pass_small}
use Rattle.image_codec.proofs.Lengths.{behind1, behind2, counters_few, counters_text, encode_parts, encode1_parts, length-counters_text, length-encode, length-encode1, length-written, length-written1, room_of_first, room_of_state}
use Rattle.image_codec.proofs.ReadBags.{AreBags, bags_take, bags_back, choices_of_lines, panels_few, votes_of_lines, zeros_are, zeros_pass}
use Rattle.image_codec.proofs.ReadCounters.{all_counted_take, all_counted_back}
use Rattle.image_codec.proofs.ReadHead.{TakesHead, chosen, fields_of, head_back, head_takes, head_text}
use Rattle.image_codec.proofs.ReadParts.{length-marks_in, few_marked}
use Rattle.image_codec.proofs.ReadVotes.{bytes_drop, bytes_take}
use Rattle.image_codec.proofs.SmallNumbers.{panels_small}
use Rattle.image_codec.proofs.Valid.{bag_for_each}
use Rattle.image_codec.proofs.WholeBody.{AreBytes, body_bags, bytes_are, decoded_body, rest_of, state_with}

-- the bags of eight panels have room, with two votes of each of 600 voters
pub room_for_bags : (panels n : ℕ) → panels ≤ most_offices → n ≤ most_voters → panels * (4 + 10 * n) ≤ 65536 - 98
room_for_bags panels n few most =
    let size : 4 + 10 * n ≤ 6004 = omega arith in
    let all : panels * (4 + 10 * n) ≤ panels * 6004 = grind arith in
    omega arith

-- What is read is an encoding

-- a whole body with a head
record IsRead (t : TablesData) (voters : ℕ) (bytes : List ℕ) (p : Phase) : Type 0 where
  long : length bytes ≡ 65536
  are : AreBytes bytes
  head : TakesHead voters (length t.panels) bytes p

abbrev came_in : ℕ → List ℕ → ℕ
came_in voters bytes = number_came (marks_in voters (turnout_of bytes))

-- the state that is read is one of a poll of the tables
read_state : (t : TablesData) (voters : ℕ) (bytes : List ℕ) (p : Phase) (bags : List (List Choice)) → IsRead t voters bytes p → AreBags (lines_by_panel t) (came_in voters bytes) bags
    → IsStateOf t voters (state_with t voters bytes p bags)
read_state t voters bytes p bags read all = record {
  valid = record {
    moments = read.head.moments;
    started = read.head.started;
    full = subst (λ (places : List ℕ). AllHaveVoted (came_in voters bytes) places bags) (panel_places t) all.full;
    in_order = all.in_order;
  };
  roll = length-marks_in voters (turnout_of bytes);
  places = refl;
  choices = choices_of_lines t bags all.votes;
}

-- the bytes begin with its head
read_head : (t : TablesData) (voters : ℕ) (bytes : List ℕ) (p : Phase) (bags : List (List Choice)) → IsRead t voters bytes p → length bags ≡ length t.panels
    → bytes ≡ head_bytes (slice_index bytes 0) (state_with t voters bytes p bags) ++ drop 98 bytes
read_head t voters bytes p bags read many =
    let s : State = state_with t voters bytes p bags in
    let version : ℕ = slice_index bytes 0 in
    let marks : List ℕ = turnout_of bytes in
    let long = read.long in
    let turnout : turnout_bytes s.came ≡ marks =
    turnout_back voters marks (omega (arith, length-take 75 (drop 22 bytes), length-drop 22 bytes)) (bytes_take 75 (drop 22 bytes) (bytes_drop 22 bytes read.are)) read.head.none_past in
    let fields : List ℕ → ℕ → List ℕ =
    λ m k. fields_of version (phase_byte p) (to_be_bytes w64 (opening_in p)) (to_be_bytes w64 (closing_in p)) (to_be_bytes w32 (number_came s.came)) m k (drop 98 bytes) in
    read.head.text
    ∙ ap (λ (m : List ℕ). fields m (length t.panels)) (sym turnout)
    ∙ ap (fields (turnout_bytes s.came)) (sym many)
    ∙ sym (head_text version s (drop 98 bytes))

first_takes : (t : TablesData) (voters : ℕ) (bytes : List ℕ) (p : Phase) (bags : List (List Choice)) → IsTables t → voters ≤ most_voters → IsRead t voters bytes p → slice_index bytes 0 ≡ 1
    → bags_in (lines_by_panel t) (came_in voters bytes) (drop 98 bytes) ≡ Some bags → IsEncoding t voters (state_with t voters bytes p bags) bytes
first_takes t voters bytes p bags is few read one e =
    let s : State = state_with t voters bytes p bags in
    let n : ℕ = came_in voters bytes in
    let rest : List ℕ = drop 98 bytes in
    let long = read.long in
    let most : n ≤ most_voters = omega (arith, few_marked voters (turnout_of bytes)) in
    let room = room_for_bags (length (lines_by_panel t)) n (omega (arith, by_panel_length t, is.panel_count.1)) most in
    let body = bags_take (lines_by_panel t) n rest bags (bytes_drop 98 bytes read.are) (panels_few t is) (omega (arith, length-drop 98 bytes)) e in
    let many : length bags ≡ length t.panels = body.are.as_many ∙ by_panel_length t in
    let zeros : length rest - length (flat_map bag_bytes bags) ≡ 65536 - length (written1 s) = omega (arith, length-drop 98 bytes, length-written1 s) in
    let behind : rest ≡ behind1 s = body.text ∙ ap (λ (k : ℕ). flat_map bag_bytes bags ++ replicate k 0) zeros in
    record {
      state = read_state t voters bytes p bags read body.are;
      same = inr (read_head t voters bytes p bags read many ∙ ap (λ (v : ℕ). head_bytes v s ++ rest) one
          ∙ ap (λ (r : List ℕ). head_bytes 1 s ++ r) behind ∙ sym (encode1_parts s));
    }

second_takes : (t : TablesData) (voters : ℕ) (bytes : List ℕ) (p : Phase) (bags : List (List Choice)) → IsTables t → IsRead t voters bytes p → slice_index bytes 0 ≡ 2
    → bags_second (lines_by_panel t) (came_in voters bytes) bytes ≡ Some bags → IsEncoding t voters (state_with t voters bytes p bags) bytes
unfolding bags_second
second_takes t voters bytes p bags is read two e =
    let s : State = state_with t voters bytes p bags in
    let n : ℕ = came_in voters bytes in
    let lines : List BallotLine = lines_by_panel t in
    let rest : List ℕ = drop 98 bytes in
    let counters : List ℕ = drop 512 bytes in
    let long = read.long in
    let z = guard_some (are_zero (take 414 rest)) (bags_counted lines n counters) bags e in
    let few = counters_few t is in
    let body = all_counted_take lines n counters bags (lines_rise t is) (bytes_drop 512 bytes read.are) (omega (arith, length-drop 512 bytes)) z.1 in
    let many : length bags ≡ length t.panels = body.are.as_many ∙ by_panel_length t in
    let text : List ℕ = counters_text lines bags in
    let gap : take 414 rest ≡ replicate 414 0 =
    zeros_are (take 414 rest) z.0 ∙ (let front : length (take 414 rest) ≡ 414 = omega (arith, length-take 414 rest, length-drop 98 bytes) in ap (λ (k : ℕ). replicate k 0) front) in
    let zeros : length counters - length text ≡ 65536 - length (written t s) =
    omega (arith, length-drop 512 bytes, length-written t s many, length-counters_text lines bags body.are.as_many) in
    let behind : rest ≡ behind2 t s =
    sym (take-append-drop 414 rest) ∙ ap (λ (z : List ℕ). z ++ drop 414 rest) gap ∙ ap (λ (r : List ℕ). replicate 414 0 ++ r) (drop-drop 414 98 bytes)
    ∙ ap (λ (r : List ℕ). replicate 414 0 ++ r) (body.text ∙ ap (λ (k : ℕ). text ++ replicate k 0) zeros) in
    record {
      state = read_state t voters bytes p bags read body.are;
      same = inl (read_head t voters bytes p bags read many ∙ ap (λ (v : ℕ). head_bytes v s ++ rest) two
          ∙ ap (λ (r : List ℕ). head_bytes 2 s ++ r) behind ∙ sym (encode_parts t s));
    }

-- by its version
version_takes : (t : TablesData) (voters : ℕ) (bytes : List ℕ) (p : Phase) (bags : List (List Choice)) → IsTables t → voters ≤ most_voters → IsRead t voters bytes p
    → body_bags t voters bytes ≡ Some bags → IsEncoding t voters (state_with t voters bytes p bags) bytes
unfolding bags_of
version_takes t voters bytes p bags is few read e =
    let lines : List BallotLine = lines_by_panel t in
    let n : ℕ = came_in voters bytes in
    let first : Option (List (List Choice)) = bags_in lines n (drop 98 bytes) in
    elim (chosen (slice_index bytes 0 == 2) (bags_second lines n bytes) (cond (slice_index bytes 0 == 1) first None) bags e) [
      | inl h ↦ second_takes t voters bytes p bags is read (eqb-true (slice_index bytes 0) 2 h.0) h.1
      | inr f ↦ let one = guard_some (slice_index bytes 0 == 1) first bags f in first_takes t voters bytes p bags is few read (eqb-true (slice_index bytes 0) 1 one.0) one.1
    ]

-- what there is where a state is read
record HasParts (t : TablesData) (voters : ℕ) (bytes : List ℕ) (s : State) : Type 0 where
  phase : Phase
  bags : List (List Choice)
  read : IsRead t voters bytes phase
  found : body_bags t voters bytes ≡ Some bags
  made : state_with t voters bytes phase bags ≡ s

has_parts : (t : TablesData) (voters : ℕ) (bytes : List ℕ) (s : State) → decoded t voters bytes ≡ Some s → HasParts t voters bytes s
unfolding decoded
has_parts t voters bytes s e =
    let whole = guard_some (is_body bytes) (rest_of t voters bytes (phase_in voters (length t.panels) bytes)) s e in
    let a = and_then_some (phase_in voters (length t.panels) bytes) (λ q. option_map (state_with t voters bytes q) (body_bags t voters bytes)) s whole.1 in
    let b = map_some (state_with t voters bytes a.0) (body_bags t voters bytes) s a.2 in
    let parts = and_parts (length bytes == 65536) (list_all (λ c. nat_lt c 256) bytes) whole.0 in
    let long : length bytes ≡ 65536 = eqb-true (length bytes) 65536 parts.0 in
    let are : AreBytes bytes = bytes_are bytes parts.1 in
    record {
      phase = a.0;
      bags = b.0;
      read = record { long = long; are = are; head = head_takes voters (length t.panels) bytes a.0 are (omega arith) a.1 };
      found = b.1;
      made = b.2;
    }

pub decoded_takes : (t : TablesData) (voters : ℕ) (bytes : List ℕ) (s : State) → IsTables t → voters ≤ most_voters → decoded t voters bytes ≡ Some s → IsEncoding t voters s bytes
decoded_takes t voters bytes s is few e =
    let h = has_parts t voters bytes s e in
    subst (λ (x : State). IsEncoding t voters x bytes) h.made (version_takes t voters bytes h.phase h.bags is few h.read h.found)

-- An encoding is read

state_found : (t : TablesData) (voters : ℕ) (bytes : List ℕ) (s : State) → marks_in voters (turnout_of bytes) ≡ s.came → places_of t ≡ s.places → state_with t voters bytes s.phase s.bags ≡ s
state_found t voters bytes s e f =
    let of_parts : List Bool → List ℕ → State = λ m p. record { phase = s.phase; came = m; places = p; bags = s.bags } in
    ap (λ (m : List Bool). of_parts m (places_of t)) e ∙ ap (of_parts s.came) f

-- its bags are all votes of those who came
bags_are : (t : TablesData) (voters : ℕ) (s : State) → IsStateOf t voters s → AreBags (lines_by_panel t) (number_came s.came) s.bags
bags_are t voters s of =
    let many = bag_for_each t s of.valid of.places in
    record {
      as_many = many ∙ sym (by_panel_length t);
      full = subst (λ (p : List ℕ). AllHaveVoted (number_came s.came) p s.bags) (of.places ∙ sym (panel_places t)) of.valid.full;
      in_order = of.valid.in_order;
      votes = votes_of_lines t s.bags many of.choices;
    }

module _ (t : TablesData) (voters : ℕ) (s : State) (is : IsTables t) (few : voters ≤ most_voters) (of : IsStateOf t voters s) where
  abbrev lines : List BallotLine
  lines = lines_by_panel t

  abbrev n : ℕ
  n = number_came s.came

  -- a head of it, with its bags behind it
  whole_back : (version : ℕ) (rest : List ℕ) → version < 256 → ByteWise rest → length (head_bytes version s ++ rest) ≡ 65536
      → bags_of lines n (head_bytes version s ++ rest) ≡ Some s.bags → decoded t voters (head_bytes version s ++ rest) ≡ Some s
  whole_back version rest byte small long bags =
      let bytes : List ℕ = head_bytes version s ++ rest in
      let many = bag_for_each t s of.valid of.places in
      let head = head_back version voters s rest of.roll few of.valid.moments of.valid.started in
      let body : is_body bytes ≡ true =
      and_from (length bytes == 65536) (list_all (λ b. nat_lt b 256) bytes) (eq-eqb (length bytes) 65536 long) (pass_small bytes (head_small version s rest byte (omega (arith, many, is.panel_count.1)) small)) in
      let phase : phase_in voters (length t.panels) bytes ≡ Some s.phase = ap (λ (k : ℕ). phase_in voters k bytes) (sym many) ∙ head.phase in
      let found : body_bags t voters bytes ≡ Some s.bags = ap (λ (m : List Bool). bags_of lines (number_came m) bytes) head.came ∙ bags in
      decoded_body t voters bytes body
      ∙ ap (rest_of t voters bytes) phase
      ∙ ap (option_map (state_with t voters bytes s.phase)) found
      ∙ ap (λ (x : State). Some x) (state_found t voters bytes s head.came (sym of.places))

  came_few : n ≤ most_voters
  came_few = omega (arith, number_came-le-length s.came, of.roll)

  first_bags : bags_of lines n (head_bytes 1 s ++ behind1 s) ≡ Some s.bags
  unfolding bags_of
  first_bags =
      let head = head_back 1 voters s (behind1 s) of.roll few of.valid.moments of.valid.started in
      ap (bags_in lines n) head.behind
      ∙ bags_back lines n s.bags (65536 - length (written1 s)) (panels_small t is) (panels_few t is) (bags_are t voters s of) came_few

  first_back : decoded t voters (encode1 s) ≡ Some s
  first_back =
      let zeros : ℕ = 65536 - length (written1 s) in
      let room = room_of_first t voters s is few of in
      let long : length (head_bytes 1 s ++ behind1 s) ≡ 65536 = ap length (sym (encode1_parts s)) ∙ length-encode1 s (omega arith) in
      ap (decoded t voters) (encode1_parts s)
      ∙ whole_back 1 (behind1 s) (omega arith) (join_bytes (flat_map bag_bytes s.bags) (replicate zeros 0) (bags_small s.bags) (zeros_small zeros)) long first_bags

  abbrev text : List ℕ
  text = counters_text lines s.bags ++ replicate (65536 - length (written t s)) 0

  second_counted : drop 512 (head_bytes 2 s ++ behind2 t s) ≡ text
  second_counted =
      let head = head_back 2 voters s (behind2 t s) of.roll few of.valid.moments of.valid.started in
      sym (drop-drop 414 98 (head_bytes 2 s ++ behind2 t s)) ∙ ap (drop 414) head.behind ∙ drop_at (replicate 414 0) text 414 (length-replicate {A = ℕ} 414 0)

  -- its counters stand behind the zeros
  pub counters_read : bags_counted lines n (drop 512 (encode t s)) ≡ Some s.bags
  counters_read =
      ap (λ (b : List ℕ). bags_counted lines n (drop 512 b)) (encode_parts t s) ∙ ap (bags_counted lines n) second_counted
      ∙ all_counted_back lines n s.bags (65536 - length (written t s)) (lines_rise t is) (panels_few t is) (bags_are t voters s of) came_few

  second_bags : bags_of lines n (head_bytes 2 s ++ behind2 t s) ≡ Some s.bags
  unfolding bags_of bags_second
  second_bags =
      let bytes : List ℕ = head_bytes 2 s ++ behind2 t s in
      let head = head_back 2 voters s (behind2 t s) of.roll few of.valid.moments of.valid.started in
      let gap : List ℕ = replicate 414 0 in
      let front : take 414 (drop 98 bytes) ≡ gap = ap (take 414) head.behind ∙ take_at gap text 414 (length-replicate {A = ℕ} 414 0) in
      ap (λ (z : List ℕ). cond (are_zero z) (bags_counted lines n (drop 512 bytes)) None) front
      ∙ ap (λ (b : Bool). cond b (bags_counted lines n (drop 512 bytes)) None) (zeros_pass 414)
      ∙ ap (λ (b : List ℕ). bags_counted lines n (drop 512 b)) (sym (encode_parts t s)) ∙ counters_read

  second_back : decoded t voters (encode t s) ≡ Some s
  second_back =
      let zeros : ℕ = 65536 - length (written t s) in
      let room = room_of_state t voters s is few of in
      let small : ByteWise (behind2 t s) =
      join_bytes (replicate 414 0) text (zeros_small 414) (join_bytes (counters_text lines s.bags) (replicate zeros 0) (counters_small lines s.bags) (zeros_small zeros)) in
      let long : length (head_bytes 2 s ++ behind2 t s) ≡ 65536 = ap length (sym (encode_parts t s)) ∙ length-encode t s (omega arith) in
      ap (decoded t voters) (encode_parts t s) ∙ whole_back 2 (behind2 t s) (omega arith) small long second_bags

pub decoded_back : (t : TablesData) (voters : ℕ) (bytes : List ℕ) (s : State) → IsTables t → voters ≤ most_voters → IsEncoding t voters s bytes → decoded t voters bytes ≡ Some s
decoded_back t voters bytes s is few of = elim of.same [
  | inl second ↦ ap (decoded t voters) second ∙ second_back t voters s is few of.state
  | inr first ↦ ap (decoded t voters) first ∙ first_back t voters s is few of.state
]

-- where nothing is decoded no state has that encoding
pub none_decoded : (t : TablesData) (voters : ℕ) (bytes : List ℕ) → IsTables t → voters ≤ most_voters → decoded t voters bytes ≡ None → IsNoEncoding t voters bytes
none_decoded t voters bytes is few e s of = let found = decoded_back t voters bytes s is few of in absurd (cc)

-- two states with a common encoding are one
pub one_state : (t : TablesData) (voters : ℕ) (s u : State) (bytes : List ℕ) → IsTables t → voters ≤ most_voters → IsEncoding t voters s bytes → IsEncoding t voters u bytes → s ≡ u
one_state t voters s u bytes is few of_s of_u = same_Some s u (sym (decoded_back t voters bytes s is few of_s) ∙ decoded_back t voters bytes u is few of_u)
