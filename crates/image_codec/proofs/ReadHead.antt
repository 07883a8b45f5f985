-- What stands before the bags is read as it was written
use Rattle.std.proofs.Common.{◌≡◌, ℕ, ◌+◌, ◌^◌, ◌<◌, ◌≤◌, Bool, true, false, cond, ◌&&◌, ◌==◌, nat_le, List, [], ◌∷◌, ◌++◌, length, get_or, take, drop, Option, Some, None, ◌⊎◌, inl, inr, refl, sym, ap, subst, ◌∙◌, append_assoc, arith}
use Rattle.std.specs.Option.{option_and_then}
use Rattle.std.specs.Int.{w32, w64, to_be_bytes}
use Rattle.std.specs.List.{slice_index}
use Rattle.std.proofs.lemmas.Bool.{eqb-true, eq-eqb, leb-true, le-leb, and_from, and_parts}
use Rattle.std.proofs.lemmas.List.{drop_more, drop-drop, drop_at, take_at, get_or_at, take-append-drop, length-append}
use Rattle.std.proofs.lemmas.Nat.{from_be_bytes-to_be_bytes_4, from_be_bytes-to_be_bytes_8}
use Rattle.std.proofs.lemmas.Option.{cond_some}
use Rattle.urna_base.specs.Moment.{is_moment}
use Rattle.urna_base.proofs.MomentLaws.{is_moment-below}
use Rattle.urna_base.proofs.Cases.{and_then_some, guard_some}
use Rattle.election_tables.specs.Limits.{most_voters}
use Rattle.turnout.specs.Turnout.{number_came}
use Rattle.turnout.specs.declared.phase.Phase.{Phase}
use Rattle.turnout.specs.declared.phase.Phase.TheVariants as phase
use Rattle.turnout.proofs.Marks.{number_came-le-length}
use Rattle.image_codec.specs.State.{State}
use Rattle.image_codec.specs.Valid.{HasMoments, IsStarted}
use Rattle.image_codec.specs.Encoding.{phase_byte, opening_in, closing_in, turnout_bytes, head_bytes}
use Rattle.image_codec.specs.Numbers.{number4_at, number8_at}
use Rattle.image_codec.specs.DecodedHead.{phase_with, is_started, marks_in, has_no_more, turnout_of, has_counts, phase_in}
use Rattle.image_codec.proofs.Bits.{marks_back, no_more_back}
use Rattle.image_codec.proofs.ReadVotes.{number4_back, number8_back}
use Rattle.image_codec.proofs.WholeBody.{AreBytes}
use Rattle.image_codec.proofs.Written.{length-turnout_bytes}

-- The phase

pub chosen : {A : Type 0} (b : Bool) (o rest : Option A) (y : A) → cond b o rest ≡ Some y → ((b ≡ true) × (o ≡ Some y)) ⊎ (rest ≡ Some y)
chosen true o rest y e = inl (refl, e)
chosen false o rest y e = inr e

-- the byte and the moments are those of the phase
pub record IsPhaseOf (code opened closed : ℕ) (p : Phase) : Type 0 where
  pub byte : code ≡ phase_byte p
  pub opening : opened ≡ opening_in p
  pub closing : closed ≡ closing_in p
  pub moments : HasMoments p

pub phase_takes : (code opened closed : ℕ) (p : Phase) → phase_with code opened closed ≡ Some p → IsPhaseOf code opened closed p
unfolding phase_with
phase_takes code opened closed p e =
    let none : Bool = opened == 0 && closed == 0 in
    let open_only : Bool = is_moment opened && closed == 0 in
    let both : Bool = is_moment opened && is_moment closed && nat_le opened closed in
    let third : Option Phase = cond (code == 2) (cond both (Some (phase.Sealed opened closed)) None) None in
    let second : Option Phase = cond (code == 1) (cond open_only (Some (phase.Polling opened)) None) third in
    let P : Phase → Type 0 = λ q. IsPhaseOf code opened closed q in
    elim (chosen (code == 0) (cond none (Some phase.Ready) None) second p e) [
      | inl h ↦
          let t = cond_some none phase.Ready p h.1 in
          let zeros = and_parts (opened == 0) (closed == 0) t.0 in
          subst P t.1 (record { byte = eqb-true code 0 h.0; opening = eqb-true opened 0 zeros.0; closing = eqb-true closed 0 zeros.1; moments = tt })
      | inr e2 ↦ elim (chosen (code == 1) (cond open_only (Some (phase.Polling opened)) None) third p e2) [
        | inl h ↦
            let t = cond_some open_only (phase.Polling opened) p h.1 in
            let parts = and_parts (is_moment opened) (closed == 0) t.0 in
            subst P t.1 (record { byte = eqb-true code 1 h.0; opening = refl; closing = eqb-true closed 0 parts.1; moments = parts.0 })
        | inr e3 ↦ elim (chosen (code == 2) (cond both (Some (phase.Sealed opened closed)) None) None p e3) [
          | inl h ↦
              let t = cond_some both (phase.Sealed opened closed) p h.1 in
              let parts = and_parts (is_moment opened && is_moment closed) (nat_le opened closed) t.0 in
              let moments = and_parts (is_moment opened) (is_moment closed) parts.0 in
              subst P t.1 (record { byte = eqb-true code 2 h.0; opening = refl; closing = refl; moments = (moments.0, moments.1, leb-true opened closed parts.1) })
          | inr e4 ↦ absurd (cc)
        ]
      ]
    ]

pub phase_back : (p : Phase) → HasMoments p → phase_with (phase_byte p) (opening_in p) (closing_in p) ≡ Some p
unfolding phase_with
phase_back phase.Ready moments = refl
phase_back (phase.Polling opened) moments =
    ap (λ (b : Bool). cond b (Some (phase.Polling opened)) None) (and_from (is_moment opened) (0 == 0) moments refl)
phase_back (phase.Sealed opened closed) moments =
    ap (λ (b : Bool). cond b (Some (phase.Sealed opened closed)) None)
    (and_from (is_moment opened && is_moment closed) (nat_le opened closed) (and_from (is_moment opened) (is_moment closed) moments.0 moments.1) (le-leb opened closed moments.2))

moment_small : (n : ℕ) → is_moment n ≡ true → n < 2 ^ 64
moment_small n h = omega (arith, is_moment-below n h)

pub opening_small : (p : Phase) → HasMoments p → opening_in p < 2 ^ 64
opening_small phase.Ready moments = omega arith
opening_small (phase.Polling opened) moments = moment_small opened moments
opening_small (phase.Sealed opened closed) moments = moment_small opened moments.0

pub closing_small : (p : Phase) → HasMoments p → closing_in p < 2 ^ 64
closing_small phase.Ready moments = omega arith
closing_small (phase.Polling opened) moments = omega arith
closing_small (phase.Sealed opened closed) moments = moment_small closed moments.1

started_is : (p : Phase) (n : ℕ) → is_started p n ≡ true → IsStarted p n
started_is phase.Ready n h = eqb-true n 0 h
started_is (phase.Polling opened) n h = tt
started_is (phase.Sealed opened closed) n h = tt

is_started_back : (p : Phase) (n : ℕ) → IsStarted p n → is_started p n ≡ true
is_started_back phase.Ready n h = eq-eqb n 0 h
is_started_back (phase.Polling opened) n h = refl
is_started_back (phase.Sealed opened closed) n h = refl

-- The bytes, from left to right

-- the fields of the head, and the bytes after them
abbrev pub fields_of : ℕ → ℕ → List ℕ → List ℕ → List ℕ → List ℕ → ℕ → List ℕ → List ℕ
fields_of version code opened closed count marks panels rest = version ∷ code ∷ (opened ++ (closed ++ (count ++ (marks ++ panels ∷ rest))))

-- so many bytes from a place on, and those behind them
cut : (bytes : List ℕ) (at n : ℕ) → drop at bytes ≡ take n (drop at bytes) ++ drop (at + n) bytes
cut bytes at n = sym (take-append-drop n (drop at bytes)) ∙ ap (λ (r : List ℕ). take n (drop at bytes) ++ r) (drop-drop n at bytes)

cut_all : (bytes : List ℕ) → 98 ≤ length bytes
    → bytes ≡ fields_of (get_or bytes 0 0) (get_or bytes 1 0) (take 8 (drop 2 bytes)) (take 8 (drop 10 bytes)) (take 4 (drop 18 bytes)) (turnout_of bytes) (get_or bytes 97 0) (drop 98 bytes)
cut_all bytes long =
    drop_more bytes 0 0 (omega arith) ∙ ap (λ (r : List ℕ). get_or bytes 0 0 ∷ r)
    (drop_more bytes 1 0 (omega arith) ∙ ap (λ (r : List ℕ). get_or bytes 1 0 ∷ r)
    (cut bytes 2 8 ∙ ap (λ (r : List ℕ). take 8 (drop 2 bytes) ++ r)
    (cut bytes 10 8 ∙ ap (λ (r : List ℕ). take 8 (drop 10 bytes) ++ r)
    (cut bytes 18 4 ∙ ap (λ (r : List ℕ). take 4 (drop 18 bytes) ++ r)
    (cut bytes 22 75 ∙ ap (λ (r : List ℕ). take 75 (drop 22 bytes) ++ r)
    (drop_more bytes 97 0 (omega arith)))))))

-- the fields of a state's head
regroup : (o k n m : List ℕ) (p : ℕ) (r : List ℕ) → (o ++ k ++ n ++ m ++ p ∷ []) ++ r ≡ o ++ (k ++ (n ++ (m ++ p ∷ r)))
regroup o k n m p r = simp append_assoc

pub head_text : (version : ℕ) (s : State) (rest : List ℕ) → head_bytes version s ++ rest
    ≡ fields_of version (phase_byte s.phase) (to_be_bytes w64 (opening_in s.phase)) (to_be_bytes w64 (closing_in s.phase)) (to_be_bytes w32 (number_came s.came)) (turnout_bytes s.came) (length s.bags) rest
head_text version s rest = ap (λ (r : List ℕ). version ∷ phase_byte s.phase ∷ r)
    (regroup (to_be_bytes w64 (opening_in s.phase)) (to_be_bytes w64 (closing_in s.phase)) (to_be_bytes w32 (number_came s.came)) (turnout_bytes s.came) (length s.bags) rest)

-- What is read in the head

pub record TakesHead (voters panels : ℕ) (bytes : List ℕ) (p : Phase) : Type 0 where
  pub text : bytes
      ≡ fields_of (slice_index bytes 0) (phase_byte p) (to_be_bytes w64 (opening_in p)) (to_be_bytes w64 (closing_in p)) (to_be_bytes w32 (number_came (marks_in voters (turnout_of bytes)))) (turnout_of bytes) panels (drop 98 bytes)
  pub none_past : has_no_more voters (turnout_of bytes) ≡ true
  pub moments : HasMoments p
  pub started : IsStarted p (number_came (marks_in voters (turnout_of bytes)))

pub head_takes : (voters panels : ℕ) (bytes : List ℕ) (p : Phase) → AreBytes bytes → 98 ≤ length bytes → phase_in voters panels bytes ≡ Some p → TakesHead voters panels bytes p
unfolding phase_in has_counts
head_takes voters panels bytes p are long e =
    let n : ℕ = number_came (marks_in voters (turnout_of bytes)) in
    let f : Phase → Option Phase = λ q. cond (is_started q n) (Some q) None in
    let t = guard_some (has_counts voters n panels bytes) (option_and_then f (phase_with (slice_index bytes 1) (number8_at bytes 2) (number8_at bytes 10))) p e in
    let a = and_then_some (phase_with (slice_index bytes 1) (number8_at bytes 2) (number8_at bytes 10)) f p t.1 in
    let s = cond_some (is_started a.0 n) a.0 p a.2 in
    let read : phase_with (slice_index bytes 1) (number8_at bytes 2) (number8_at bytes 10) ≡ Some p = a.1 ∙ ap (λ (q : Phase). Some q) s.1 in
    let of = phase_takes (slice_index bytes 1) (number8_at bytes 2) (number8_at bytes 10) p read in
    let three = and_parts (number4_at bytes 18 == n && has_no_more voters (turnout_of bytes)) (slice_index bytes 97 == panels) t.0 in
    let two = and_parts (number4_at bytes 18 == n) (has_no_more voters (turnout_of bytes)) three.0 in
    let opened = number8_back bytes 2 (opening_in p) are (omega arith) (sym of.opening) in
    let closed = number8_back bytes 10 (closing_in p) are (omega arith) (sym of.closing) in
    let count = number4_back bytes 18 n are (omega arith) (sym (eqb-true (number4_at bytes 18) n two.0)) in
    let version : ℕ = get_or bytes 0 0 in
    let rest : List ℕ = drop 98 bytes in
    let marks : List ℕ = turnout_of bytes in
    record {
      text = cut_all bytes long
          ∙ ap (λ (v : ℕ). fields_of version v (take 8 (drop 2 bytes)) (take 8 (drop 10 bytes)) (take 4 (drop 18 bytes)) marks (get_or bytes 97 0) rest) of.byte
          ∙ ap (λ (v : List ℕ). fields_of version (phase_byte p) v (take 8 (drop 10 bytes)) (take 4 (drop 18 bytes)) marks (get_or bytes 97 0) rest) (sym opened)
          ∙ ap (λ (v : List ℕ). fields_of version (phase_byte p) (to_be_bytes w64 (opening_in p)) v (take 4 (drop 18 bytes)) marks (get_or bytes 97 0) rest) (sym closed)
          ∙ ap (λ (v : List ℕ). fields_of version (phase_byte p) (to_be_bytes w64 (opening_in p)) (to_be_bytes w64 (closing_in p)) v marks (get_or bytes 97 0) rest) (sym count)
          ∙ ap (λ (v : ℕ). fields_of version (phase_byte p) (to_be_bytes w64 (opening_in p)) (to_be_bytes w64 (closing_in p)) (to_be_bytes w32 n) marks v rest) (eqb-true (slice_index bytes 97) panels three.1);
      none_past = two.1;
      moments = of.moments;
      started = started_is p n (ap (λ (q : Phase). is_started q n) (sym s.1) ∙ s.0);
    }

-- What was written is read again, whatever the version and whatever is behind the head

-- a head, and what is behind it
whole : ℕ → State → List ℕ → List ℕ
whole version s rest = fields_of version (phase_byte s.phase) (to_be_bytes w64 (opening_in s.phase)) (to_be_bytes w64 (closing_in s.phase)) (to_be_bytes w32 (number_came s.came)) (turnout_bytes s.came) (length s.bags) rest

-- what is read of it
pub record HasHead (of_version voters : ℕ) (s : State) (rest bytes : List ℕ) : Type 0 where
  pub version : slice_index bytes 0 ≡ of_version
  pub phase : phase_in voters (length s.bags) bytes ≡ Some s.phase
  pub came : marks_in voters (turnout_of bytes) ≡ s.came
  pub behind : drop 98 bytes ≡ rest

turnout_is : (version : ℕ) (s : State) (rest : List ℕ) → turnout_of (whole version s rest) ≡ turnout_bytes s.came
unfolding whole
turnout_is version s rest = take_at (turnout_bytes s.came) (length s.bags ∷ rest) 75 (length-turnout_bytes s.came)

rest_is : (version : ℕ) (s : State) (rest : List ℕ) → drop 98 (whole version s rest) ≡ rest
unfolding whole
rest_is version s rest =
    let long : length (turnout_bytes s.came ++ length s.bags ∷ []) ≡ 76 = omega (arith, length-append (turnout_bytes s.came) (length s.bags ∷ []), length-turnout_bytes s.came) in
    ap (λ (r : List ℕ). drop 76 r) (sym (append_assoc (turnout_bytes s.came) (length s.bags ∷ []) rest)) ∙ drop_at (turnout_bytes s.came ++ length s.bags ∷ []) rest 76 long

module _ (version voters : ℕ) (s : State) (rest : List ℕ) (roll : length s.came ≡ voters) (few : voters ≤ most_voters) (moments : HasMoments s.phase) (started : IsStarted s.phase (number_came s.came)) where
  abbrev bytes : List ℕ
  bytes = whole version s rest

  marks_are : marks_in voters (turnout_of bytes) ≡ s.came
  marks_are = ap (marks_in voters) (turnout_is version s rest) ∙ ap (λ (n : ℕ). marks_in n (turnout_bytes s.came)) (sym roll) ∙ marks_back s.came (omega arith)

  counts_pass : has_counts voters (number_came s.came) (length s.bags) bytes ≡ true
  unfolding whole has_counts
  counts_pass =
      let most = number_came-le-length s.came in
      let count : (number4_at bytes 18 == number_came s.came) ≡ true = eq-eqb (number4_at bytes 18) (number_came s.came) (from_be_bytes-to_be_bytes_4 (number_came s.came) (omega arith)) in
      let past : has_no_more voters (turnout_of bytes) ≡ true =
      ap (has_no_more voters) (turnout_is version s rest) ∙ ap (λ (n : ℕ). has_no_more n (turnout_bytes s.came)) (sym roll) ∙ no_more_back s.came (omega arith) in
      let many : (slice_index bytes 97 == length s.bags) ≡ true =
      eq-eqb (slice_index bytes 97) (length s.bags) (get_or_at (turnout_bytes s.came) (length s.bags) rest 0 75 (length-turnout_bytes s.came)) in
      and_from (number4_at bytes 18 == number_came s.came && has_no_more voters (turnout_of bytes)) (slice_index bytes 97 == length s.bags)
      (and_from (number4_at bytes 18 == number_came s.came) (has_no_more voters (turnout_of bytes)) count past) many

  phase_is : phase_with (slice_index bytes 1) (number8_at bytes 2) (number8_at bytes 10) ≡ Some s.phase
  unfolding whole
  phase_is =
      ap (λ (n : ℕ). phase_with (phase_byte s.phase) n (number8_at bytes 10)) (from_be_bytes-to_be_bytes_8 (opening_in s.phase) (opening_small s.phase moments))
      ∙ ap (λ (n : ℕ). phase_with (phase_byte s.phase) (opening_in s.phase) n) (from_be_bytes-to_be_bytes_8 (closing_in s.phase) (closing_small s.phase moments))
      ∙ phase_back s.phase moments

  head_is : phase_in voters (length s.bags) bytes ≡ Some s.phase
  unfolding phase_in
  head_is =
      let n : ℕ = number_came s.came in
      let read : Option Phase = phase_with (slice_index bytes 1) (number8_at bytes 2) (number8_at bytes 10) in
      ap (λ (k : ℕ). cond (has_counts voters k (length s.bags) bytes) (option_and_then (λ q. cond (is_started q k) (Some q) None) read) None) (ap number_came marks_are)
      ∙ ap (λ (b : Bool). cond b (option_and_then (λ q. cond (is_started q n) (Some q) None) read) None) counts_pass
      ∙ ap (option_and_then (λ q. cond (is_started q n) (Some q) None)) phase_is
      ∙ ap (λ (b : Bool). cond b (Some s.phase) None) (is_started_back s.phase n started)

  parts_back : HasHead version voters s rest bytes
  unfolding whole
  parts_back = record { version = refl; phase = head_is; came = marks_are; behind = rest_is version s rest }

  whole_is : head_bytes version s ++ rest ≡ bytes
  unfolding whole
  whole_is = head_text version s rest

  pub head_back : HasHead version voters s rest (head_bytes version s ++ rest)
  head_back = subst (HasHead version voters s rest) (sym whole_is) parts_back
