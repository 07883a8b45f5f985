-- A file that is offered to a ledger has one verdict, and leaves one ledger; and each file has one.
use Rattle.std.proofs.Common.{◌≡◌, ◌≢◌, inl, inr, ℕ, zero, suc, ◌<◌, ◌^◌, Option, Some, None, List, [], ◌∷◌, length, option_and_then, refl, sym, ap, subst, ◌∙◌, arith}
use Rattle.std.specs.Prelude.{slice_get, slice_set}
use Rattle.std.specs.Str.{bytes_eq}
use Rattle.std.specs.Cmp.Lexicographic.{other_text, same_text}
use Rattle.std.proofs.lemmas.Bool.{cases_Bool}
use Rattle.std.proofs.lemmas.Option.{same_Some, slice_get_within}
use Rattle.hex.specs.Hex.{encode_upper}
use Rattle.hex.proofs.HexLemmas.{decode_of-encode_upper, decode_of-same}
use Rattle.hex.specs.Hex.{decode_of}
use Rattle.sha2.specs.Sha512.{sha512}
use Rattle.election_tables.specs.TablesData.{TablesData, place_with}
use Rattle.poll_report.specs.declared.report.Report.{Report}
use Rattle.hash_chain.specs.Fault.{ArePartsOf}
use Rattle.hash_chain.proofs.Faults.{never_both, one_of_both}
use Rattle.section_intake.specs.Accepted.{File, IsOfSection, is_accepted}
use Rattle.section_intake.specs.Fits.{Fits}
use Rattle.section_intake.specs.Verdict.{IsReportFile, IsVerdict}
use Rattle.section_intake.specs.Verdict.{accepted as by_fit}
use Rattle.section_intake.specs.declared.verdict.Verdict.{Verdict}
use Rattle.section_intake.specs.declared.verdict.Verdict.TheVariants as verdict
use Rattle.section_intake.proofs.AcceptedLaws.{by_report}
use Rattle.section_intake.proofs.BehindLaws.{not_itself}
use Rattle.section_intake.proofs.HolderLaws.{not_listed, section_there}
use Rattle.section_intake.proofs.VerdictLaws.{one_report, one_verdict, some_verdict}
use Rattle.flash_store.specs.Pieces.{Piece}
use Rattle.intake_ledger.specs.LastHash.{IsLastHash, last_hash, lines_of_text}
use Rattle.intake_ledger.specs.Laws.{AcceptedIsRepeated, OneOffer, SomeOffer}
use Rattle.intake_ledger.specs.Ledger.{IsHash, IsLedger, LedgerData, hash_at, with_report}
use Rattle.intake_ledger.specs.Offers.{AreOfferedTo, IsOffer, IsReportAt, again, another, by_itself, first, none_offered, one_more}
use Rattle.intake_ledger.proofs.LastHash.{are_bytes, hash_written, sha_is_hash, written_hash}

-- ---- one last hash

-- a file is the parts of one text
no_other_text : (file text other : List ℕ) → ArePartsOf file text → ArePartsOf file other → length file < 2 ^ 63 → other ≡ text
no_other_text file text other is also short = elim (one_of_both file short) [
  | inl fault ↦ absurd (never_both file text fault.0 short fault.1 is)
  | inr one ↦ one.2 other also ∙ sym (one.2 text is)
]

-- hashes that are written alike are one
one_written : (a b : List ℕ) → IsHash a → IsHash b → encode_upper a ≡ encode_upper b → a ≡ b
one_written a b is also same =
    decode_of-same (encode_upper a) a b (decode_of-encode_upper a (are_bytes a is.1)) (ap decode_of same ∙ decode_of-encode_upper b (are_bytes b also.1))

pub one_hash : (file a b : List ℕ) → length file < 2 ^ 63 → IsLastHash file a → IsLastHash file b → a ≡ b
one_hash file a b short is also =
    let same : also.text ≡ is.text = no_other_text file is.text also.text is.parts also.parts short in
    one_written a b is.bytes also.bytes (is.written ∙ ap (λ (text : List ℕ). last_hash (lines_of_text text)) (sym same) ∙ sym also.written)

-- ---- one offer

-- a file is one report in one place, with one last hash
pub record AreOne (r q : Report) (place other : ℕ) (hash last : List ℕ) : Type 0 where
  pub report : r ≡ q
  pub place_is : place ≡ other
  pub hash_is : hash ≡ last

pub one_at : (t : TablesData) (file : File) (r q : Report) (place other : ℕ) (hash last : List ℕ) → length file < 2 ^ 63 → IsReportAt t file r place hash → IsReportAt t file q other last → AreOne r q place other hash last
one_at t file r q place other hash last short at also =
    let report : r ≡ q = one_report file r q short at.report also.report in
    record {
      report = report;
      place_is = same_Some _ _ (sym at.section ∙ ap (λ (x : Report). place_with x.zone x.section t.sections) report ∙ also.section);
      hash_is = one_hash file hash last short at.last also.last;
    }

pub of_section : (t : TablesData) (file : File) (r : Report) (place : ℕ) (hash : List ℕ) → IsReportAt t file r place hash → IsOfSection t r.zone r.section file
of_section t file r place hash at = by_report t file r at.report at.fits

pub one_offer : OneOffer
one_offer t l _ _ file _ _ short (by_itself {v} h refuses) (by_itself {v = w} i no_w) = (one_verdict t file v w short h i, refl)
one_offer t l _ _ file _ _ short (by_itself {v} h refuses) (first {r} {place} {hash} at none) = absurd (not_itself t file r.zone r.section v short h refuses (of_section t file r place hash at))
one_offer t l _ _ file _ _ short (by_itself {v} h refuses) (again {r} {place} {hash} at some) = absurd (not_itself t file r.zone r.section v short h refuses (of_section t file r place hash at))
one_offer t l _ _ file _ _ short (by_itself {v} h refuses) (another {r} {place} {hash} at some ne) = absurd (not_itself t file r.zone r.section v short h refuses (of_section t file r place hash at))
one_offer t l _ _ file _ _ short (first {r} {place} {hash} at none) (by_itself {v} h refuses) = absurd (not_itself t file r.zone r.section v short h refuses (of_section t file r place hash at))
one_offer t l _ _ file _ _ short (first {r} {place} {hash} at none) (first {r = q} {place = other} {hash = last} also free) =
    let one = one_at t file r q place other hash last short at also in (
      ap (λ (x : Report). verdict.Accepted x.zone x.section) one.report,
      ap (λ (x : Report). with_report t place hash x l) one.report ∙ ap (λ (k : ℕ). with_report t k hash q l) one.place_is ∙ ap (λ (h : List ℕ). with_report t other h q l) one.hash_is,
    )
one_offer t l _ _ file _ _ short (first {r} {place} {hash} at none) (again {r = q} {place = other} {hash = last} also some) =
    let one = one_at t file r q place other hash last short at also in
    let kept = ap (λ (k : ℕ). hash_at k l) one.place_is in
    absurd (cc)
one_offer t l _ _ file _ _ short (first {r} {place} {hash} at none) (another {r = q} {place = other} {hash = last} also some ne) =
    let one = one_at t file r q place other hash last short at also in
    let kept = ap (λ (k : ℕ). hash_at k l) one.place_is in
    absurd (cc)
one_offer t l _ _ file _ _ short (again {r} {place} {hash} at some) (by_itself {v} h refuses) = absurd (not_itself t file r.zone r.section v short h refuses (of_section t file r place hash at))
one_offer t l _ _ file _ _ short (again {r} {place} {hash} at some) (first {r = q} {place = other} {hash = last} also none) =
    let one = one_at t file r q place other hash last short at also in
    let kept = ap (λ (k : ℕ). hash_at k l) one.place_is in
    absurd (cc)
one_offer t l _ _ file _ _ short (again {r} {place} {hash} at some) (again {r = q} {place = other} {hash = last} also there) =
    let one = one_at t file r q place other hash last short at also in
    (ap (λ (x : Report). verdict.Repeated x.zone x.section) one.report, refl)
one_offer t l _ _ file _ _ short (again {r} {place} {hash} at some) (another {r = q} {place = other} {hash = last} {kept} also there ne) =
    let one = one_at t file r q place other hash last short at also in
    let same_kept : hash ≡ kept = same_Some _ _ (sym some ∙ ap (λ (k : ℕ). hash_at k l) one.place_is ∙ there) in
    absurd (ne (sym same_kept ∙ one.hash_is))
one_offer t l _ _ file _ _ short (another {r} {place} {hash} at some ne) (by_itself {v} h refuses) = absurd (not_itself t file r.zone r.section v short h refuses (of_section t file r place hash at))
one_offer t l _ _ file _ _ short (another {r} {place} {hash} at some ne) (first {r = q} {place = other} {hash = last} also none) =
    let one = one_at t file r q place other hash last short at also in
    let kept = ap (λ (k : ℕ). hash_at k l) one.place_is in
    absurd (cc)
one_offer t l _ _ file _ _ short (another {r} {place} {hash} {kept} at some ne) (again {r = q} {place = other} {hash = last} also there) =
    let one = one_at t file r q place other hash last short at also in
    let same_kept : kept ≡ last = same_Some _ _ (sym some ∙ ap (λ (k : ℕ). hash_at k l) one.place_is ∙ there) in
    absurd (ne (same_kept ∙ sym one.hash_is))
one_offer t l _ _ file _ _ short (another {r} {place} {hash} at some ne) (another {r = q} {place = other} {hash = last} also there other_than) =
    let one = one_at t file r q place other hash last short at also in
    (ap (λ (x : Report). verdict.Conflict x.zone x.section) one.report, refl)

-- ---- and there is one

-- the last hash of a report's file
some_hash : (file : File) (r : Report) → IsReportFile file r → (hash : List ℕ) × IsLastHash file hash
some_hash file r is =
    let hash = written_hash is.text is.parts.fields.0 in
    (sha512 hash.0, record { text = is.text; parts = is.parts; bytes = sha_is_hash hash.0; written = hash_written hash.0 ∙ sym hash.1 })

module _ (t : TablesData) (l : LedgerData) (file : File) where
  abbrev Offered : Type 0
  Offered = (v : Verdict) × (m : LedgerData) × IsOffer t l file v m

  by_kept : (r : Report) (place : ℕ) (hash : List ℕ) → IsReportAt t file r place hash → (o : Option (List ℕ)) → hash_at place l ≡ o → Offered
  by_kept r place hash at None none = (verdict.Accepted r.zone r.section, with_report t place hash r l, first at none)
  by_kept r place hash at (Some kept) some = elim (cases_Bool (bytes_eq kept hash)) [
    | inl same ↦ (verdict.Repeated r.zone r.section, l, again at (rw (same_text kept hash (sym same)) at some))
    | inr differ ↦ (verdict.Conflict r.zone r.section, l, another at some (other_text kept hash (sym differ)))
  ]

  by_place : (r : Report) → IsReportFile file r → Fits t r → (o : Option ℕ) → place_with r.zone r.section t.sections ≡ o → Offered
  by_place r report fits None none = absurd (not_listed t r none fits)
  by_place r report fits (Some place) there =
      let hash = some_hash file r report in
      by_kept r place hash.0 (record { report = report; fits = fits; section = there; last = hash.1 }) (hash_at place l) refl

  by_section : (z s : ℕ) → IsOfSection t z s file → Offered
  by_section z s is = go z s is
    where
      go : (y u : ℕ) → IsOfSection t y u file → Offered
      go _ _ (by_fit {r} report fits) = by_place r report fits (place_with r.zone r.section t.sections) refl

  by_verdict : (v : Verdict) → IsVerdict t file v → Offered
  by_verdict (verdict.Accepted z s) h = by_section z s h
  by_verdict (verdict.Part f) h = (verdict.Part f, l, by_itself h refl)
  by_verdict (verdict.Fields f) h = (verdict.Fields f, l, by_itself h refl)
  by_verdict verdict.Strange h = (verdict.Strange, l, by_itself h refl)
  by_verdict (verdict.Repeated z s) h = (verdict.Repeated z s, l, by_itself h refl)
  by_verdict (verdict.Conflict z s) h = (verdict.Conflict z s, l, by_itself h refl)

pub some_offer : SomeOffer
some_offer t l file is short = let (v, h) = some_verdict t file is short in by_verdict t l file v h

-- ---- the same file again

pub hash_set : (last : List (Option (List ℕ))) (place : ℕ) (hash : List ℕ) → place < length last → slice_get (slice_set last place (Some hash)) place ≡ Some (Some hash)
hash_set [] place hash lt = absurd (omega arith)
hash_set (h ∷ last) zero hash lt = refl
hash_set (h ∷ last) (suc place) hash lt = hash_set last place hash (omega arith)

pub set_elsewhere : {X : Type 0} (xs : List X) (place other : ℕ) (v : X) → other ≢ place → slice_get (slice_set xs place v) other ≡ slice_get xs other
set_elsewhere [] place other v ne = refl
set_elsewhere (x ∷ xs) zero zero v ne = absurd (ne refl)
set_elsewhere (x ∷ xs) zero (suc other) v ne = refl
set_elsewhere (x ∷ xs) (suc place) zero v ne = refl
set_elsewhere (x ∷ xs) (suc place) (suc other) v ne = set_elsewhere xs place other v (λ e. ne (ap suc e))

-- a hash that a ledger has stays in an offer,
still_kept : (t : TablesData) (l m : LedgerData) (file : File) (v : Verdict) (place : ℕ) (hash : List ℕ) → IsOffer t l file v m → hash_at place l ≡ Some hash → hash_at place m ≡ Some hash
still_kept t l _ file _ place hash (by_itself h refuses) kept = kept
still_kept t l _ file _ place hash (again at some) kept = kept
still_kept t l _ file _ place hash (another at some ne) kept = kept
still_kept t l _ file _ place hash (first {r} {place = other} {hash = last} at none) kept =
    let apart : place ≢ other = λ same. let free = ap (λ (k : ℕ). hash_at k l) same in absurd (cc) in
    ap (option_and_then (λ h. h)) (set_elsewhere l.last other place (Some last) apart) ∙ kept

-- and in many
stays_kept : (t : TablesData) (l m : LedgerData) (files : List File) (verdicts : List Verdict) (pieces : List (Piece LedgerData)) (place : ℕ) (hash : List ℕ)
    → AreOfferedTo t l files verdicts pieces m → hash_at place l ≡ Some hash → hash_at place m ≡ Some hash
stays_kept t l _ _ _ _ place hash none_offered kept = kept
stays_kept t l _ _ _ _ place hash (one_more {files} {verdicts} {pieces} {m} {k} {file} {v} before offer) kept =
    still_kept t m k file v place hash offer (stays_kept t l m files verdicts pieces place hash before kept)

module _ (t : TablesData) (k : LedgerData) (file : File) (zone section : ℕ) (files : List File) (verdicts : List Verdict) (pieces : List (Piece LedgerData)) where
  repeated : (l m : LedgerData) (v : Verdict) → IsLedger t l → v ≡ verdict.Accepted zone section → IsOffer t l file v m → AreOfferedTo t m files verdicts pieces k
      → IsOffer t k file (verdict.Repeated zone section) k
  repeated l m _ of is (by_itself {v} h refuses) later = let accepted = sym refuses ∙ ap is_accepted is in absurd (cc)
  repeated l m _ of is (again at some) later = absurd (cc)
  repeated l m _ of is (another at some ne) later = absurd (cc)
  repeated l _ _ of is (first {r} {place} {hash} at none) later =
      let there = section_there t.sections r.zone r.section place at.section in
      let within : place < length l.last = omega (arith, slice_get_within t.sections place there.0 there.1, of.sections) in
      let now : hash_at place (with_report t place hash r l) ≡ Some hash = ap (option_and_then (λ h. h)) (hash_set l.last place hash within) in
      let kept : hash_at place k ≡ Some hash = stays_kept t (with_report t place hash r l) k files verdicts pieces place hash later now in
      let same : verdict.Repeated r.zone r.section ≡ verdict.Repeated zone section = cc in
      subst (λ (v : Verdict). IsOffer t k file v k) same (again at kept)

pub accepted_is_repeated : AcceptedIsRepeated
accepted_is_repeated t l m k file zone section files verdicts pieces of offer later =
    repeated t k file zone section files verdicts pieces l m (verdict.Accepted zone section) of refl offer later
