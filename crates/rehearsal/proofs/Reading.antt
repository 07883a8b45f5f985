-- The rehearsal's document is read as the generated tables.
use Rattle.std.proofs.Common.{◌≡◌, ℕ, ◌≤◌, Bool, true, false, List, [], ◌∷◌, map, Some, IsPermutation, refl, sym, ◌∙◌, subst, append-nil}
use Rattle.std.specs.Prelude.{IsUtf8}
use Rattle.std.specs.List.{filter}
use Rattle.std.specs.List.Sorted.{IsStrictlyIncreasing, IsStrictlySortedBy}
use Rattle.std.proofs.lemmas.List.Elements.{All-nil, All-cons, filter-append}
use Rattle.std.proofs.lemmas.List.Sorted.{IsPermutation-refl}
use Rattle.sha2.specs.Sha256.{sha256}
use Rattle.toml.specs.Parse.{parse_document}
use Rattle.election_tables.specs.DocumentData.{DocumentData}
use Rattle.election_tables.specs.Limits.{most_voters}
use Rattle.election_tables.specs.Offices.{row_of}
use Rattle.election_tables.specs.Tables.{AreTablesOf, IsPanelOf, IsReadAs, candidates_of, entry_of_candidate, entry_of_party}
use Rattle.election_tables.specs.TablesData.{CandidatesRise, PartiesRise}
use Rattle.rehearsal.specs.Document.{document}
use Rattle.rehearsal.specs.Tables.{generated_candidate, generated_party, councillor_panel, mayor_panel, generated_tables}
use Rattle.rehearsal.specs.Numbers.{councillors, mayors, parties}
use Rattle.rehearsal.proofs.Entries.{entries, candidate_entry, candidate_entries, document_of-document, map-map}
use Rattle.rehearsal.proofs.Rising.{rises_from, increasing, parties_rise, councillors_rise, mayors_rise}
use Rattle.rehearsal.proofs.Rules.{document_kept}

-- ---- the candidates of an office

filter_all : {A : Type 0} (p : A → Bool) (f : ℕ → A) → ((n : ℕ) → p (f n) ≡ true) → (xs : List ℕ) → filter p (map f xs) ≡ map f xs
filter_all p f pass [] = refl
filter_all p f pass (x ∷ xs) = rw (pass x, filter_all p f pass xs) refl

filter_none : {A : Type 0} (p : A → Bool) (f : ℕ → A) → ((n : ℕ) → p (f n) ≡ false) → (xs : List ℕ) → filter p (map f xs) ≡ []
filter_none p f miss [] = refl
filter_none p f miss (x ∷ xs) = rw (miss x, filter_none p f miss xs) refl

councillors_of_13 : candidates_of 13 candidate_entries ≡ map (candidate_entry 13) councillors
councillors_of_13 =
    rw (filter-append, filter_all _ (candidate_entry 13) (λ n. refl) councillors, filter_none _ (candidate_entry 11) (λ n. refl) mayors)
    (append-nil (map (candidate_entry 13) councillors))

mayors_of_11 : candidates_of 11 candidate_entries ≡ map (candidate_entry 11) mayors
mayors_of_11 =
    rw (filter-append, filter_none _ (candidate_entry 13) (λ n. refl) councillors, filter_all _ (candidate_entry 11) (λ n. refl) mayors) refl

-- ---- order

numbers_of : {A : Type 0} (number : A → ℕ) (make : ℕ → A) → ((n : ℕ) → number (make n) ≡ n) → (ns : List ℕ) → map number (map make ns) ≡ ns
numbers_of number make back [] = refl
numbers_of number make back (n ∷ ns) = rw (back n, numbers_of number make back ns) refl

candidates_rise : (ns : List ℕ) → rises_from 0 ns ≡ true → CandidatesRise (map generated_candidate ns)
candidates_rise ns e =
    subst (λ (ms : List ℕ). IsStrictlyIncreasing ms) (sym (numbers_of (λ c. c.number) generated_candidate (λ n. refl) ns)) (increasing 0 ns e)

generated_parties_rise : PartiesRise (map generated_party parties)
generated_parties_rise =
    subst (λ (ms : List ℕ). IsStrictlyIncreasing ms) (sym (numbers_of (λ q. q.number) generated_party (λ n. refl) parties)) (increasing 0 parties parties_rise)

-- ---- the panels

permuted : {A : Type 0} (xs ys : List A) → xs ≡ ys → IsPermutation xs ys
permuted {A} xs ys e = subst (λ (zs : List A). IsPermutation xs zs) e (IsPermutation-refl xs)

councillor_panel_read : IsPanelOf candidate_entries councillor_panel
unfolding row_of
councillor_panel_read = record {
  digits = refl;
  candidates = permuted _ _ (councillors_of_13 ∙ sym (map-map (entry_of_candidate 13) generated_candidate councillors));
  rise = candidates_rise councillors councillors_rise;
}

mayor_panel_read : IsPanelOf candidate_entries mayor_panel
unfolding row_of
mayor_panel_read = record {
  digits = refl;
  candidates = permuted _ _ (mayors_of_11 ∙ sym (map-map (entry_of_candidate 11) generated_candidate mayors));
  rise = candidates_rise mayors mayors_rise;
}

entries_read : (voters : ℕ) (digest : List ℕ) → AreTablesOf (entries voters) (generated_tables voters digest)
unfolding IsStrictlySortedBy
entries_read voters digest = record {
  process = refl;
  date = refl;
  turn = refl;
  offices = refl;
  panels = All-cons (IsPanelOf candidate_entries) councillor_panel (mayor_panel ∷ []) councillor_panel_read
      (All-cons (IsPanelOf candidate_entries) mayor_panel [] mayor_panel_read (All-nil (IsPanelOf candidate_entries)));
  parties = permuted _ _ (sym (map-map entry_of_party generated_party parties));
  parties_rise = generated_parties_rise;
  sections = IsPermutation-refl _;
  sections_rise = (tt, tt);
  federations = refl;
}

pub document_read : (voters : ℕ) (bytes : List ℕ) → 1 ≤ voters → voters ≤ most_voters → IsUtf8 bytes → parse_document bytes ≡ Some (document voters)
    → IsReadAs bytes (generated_tables voters (sha256 bytes))
document_read voters bytes some few utf8 parsed = record {
  members = document voters;
  parsed = (utf8, parsed);
  kept = document_kept voters some few;
  tables = subst (λ (d : DocumentData). AreTablesOf d (generated_tables voters (sha256 bytes))) (sym (document_of-document voters)) (entries_read voters (sha256 bytes));
  digest = refl;
}
