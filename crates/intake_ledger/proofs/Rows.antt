-- Worked rows of the fields of a body, of what a ledger is asked, and of the size of a device
use Rattle.std.proofs.Common.{◌≡◌, ℕ, true, false, List, [], ◌∷◌, refl}
use Rattle.std.specs.Prelude.{codes}
use Rattle.hash_chain.specs.Chain.{Link}
use Rattle.poll_report.specs.declared.report.OfficeCount.{OfficeCount}
use Rattle.vote_kinds.specs.declared.choice.Choice.{Choice}
use Rattle.vote_kinds.specs.declared.choice.Choice.TheVariants as choice
use Rattle.intake_ledger.specs.Body.{is_marked, marked_before, number_in}
use Rattle.intake_ledger.specs.Kept.{device_size}
use Rattle.intake_ledger.specs.LastHash.{last_hash}
use Rattle.intake_ledger.specs.Layout.{most_sums, sums_offset}
use Rattle.intake_ledger.specs.Ledger.{sum_among, votes_of_choice}

where_sums_begin : sums_offset ≡ 128512
where_sums_begin = refl

how_many_sums : most_sums ≡ 4432
how_many_sums = refl

how_large_devices : device_size ≡ 525824
how_large_devices = refl

-- ---- the front of a body: the version, zeros, the number, and the marks of 16 sections, of which the first, the second and the tenth are set
abbrev front : List ℕ
front = 1 ∷ 0 ∷ 0 ∷ 0 ∷ 0 ∷ 0 ∷ 0 ∷ 3 ∷ 192 ∷ 64 ∷ []

three_accepted : number_in front ≡ 3
three_accepted = refl

first_marked : is_marked front 0 ≡ true
first_marked = refl

third_not : is_marked front 2 ≡ false
third_not = refl

tenth_marked : is_marked front 9 ≡ true
tenth_marked = refl

two_of_nine : marked_before 9 front ≡ 2
unfolding marked_before
two_of_nine = refl

three_of_ten : marked_before 10 front ≡ 3
unfolding marked_before
three_of_ten = refl

-- ---- two panels, the first of them decided in proportion
abbrev choices : List (ℕ × Choice)
choices =
    (0, choice.Nominal 45001) ∷ (0, choice.Party 45) ∷ (0, choice.Blank) ∷ (0, choice.Null) ∷ (1, choice.Nominal 45) ∷ (1, choice.Blank) ∷ (1, choice.Null) ∷ []

abbrev sums : List ℕ
sums = 7 ∷ 2 ∷ 1 ∷ 0 ∷ 6 ∷ 3 ∷ 1 ∷ []

votes_of_party : sum_among choices sums 0 (choice.Party 45) ≡ 2
votes_of_party = refl

second_blank : sum_among choices sums 1 choice.Blank ≡ 3
second_blank = refl

-- a party has none where the office isn't decided in proportion
no_party : sum_among choices sums 1 (choice.Party 45) ≡ 0
no_party = refl

no_panel : sum_among choices sums 2 choice.Blank ≡ 0
no_panel = refl

-- ---- an office of a report
abbrev office : OfficeCount
office =
    record {
      code = 6;
      places = 1;
      nominal = record { number = 4501; votes = 4 } ∷ record { number = 4502; votes = 1 } ∷ [];
      parties = record { number = 45; votes = 2 } ∷ [];
      blank = 3;
      null_votes = 0;
    }

votes_of_candidate : votes_of_choice (choice.Nominal 4502) office ≡ 1
votes_of_candidate = refl

votes_of_other : votes_of_choice (choice.Nominal 4503) office ≡ 0
votes_of_other = refl

blank_votes : votes_of_choice choice.Blank office ≡ 3
blank_votes = refl

-- ---- the lines of a file of two parts
abbrev line : ℕ → List ℕ → Link
line number hash = record { number = number; parts = 2; version = codes "U1"; fields = []; hash = hash }

second_hash : last_hash (line 1 (codes "A0") ∷ line 2 (codes "B1") ∷ []) ≡ codes "B1"
second_hash = refl
