-- Reports of a list that are taken one behind the other
use Rattle.std.proofs.Common.{◌≡◌, ◌+◌, ◌<◌, ℕ, List, [], ◌∷◌, ◌++◌, length, drop, Option, Some, refl, sym, ap, subst, ◌∙◌, arith}
use Rattle.std.proofs.lemmas.List.{drop_more}
use Rattle.std.specs.Prelude.{slice_index_or}
use Rattle.urna_outside.specs.Cabinet.{Files}
use Rattle.section_intake.specs.Accepted.{File}
use Rattle.section_intake.specs.Laws.{AreShort}
use Rattle.command_parts.specs.Documents.{AreTaken, IsFault, IsTaken}
use Rattle.command_parts.specs.declared.error.CommandError.{CommandError}
use Rattle.command_parts.specs.declared.error.Doc.TheVariants as doc
use Rattle.command_parts.proofs.Once.{report_not_fault, same_bytes}

-- one more was taken
pub taken_then : (files : Option Files) (names : List (List ℕ)) (reports : List File) (name bytes : List ℕ) → AreTaken files names reports
    → IsTaken files doc.Report name bytes → AreTaken files (names ++ name ∷ []) (reports ++ bytes ∷ [])
taken_then files [] [] name bytes h here = (here, tt)
taken_then files [] (b ∷ reports) name bytes h here = absurd h
taken_then files (n ∷ names) [] name bytes h here = absurd h
taken_then files (n ∷ names) (b ∷ reports) name bytes h here = (h.0, taken_then files names reports name bytes h.1 here)

-- what is left at a place begins with the name there
pub left_at : (listed : List (List ℕ)) (k : ℕ) (name : List ℕ) → k < length listed → name ≡ slice_index_or listed k [] → drop k listed ≡ name ∷ drop (k + 1) listed
left_at listed k name lt is = drop_more listed k [] lt ∙ ap (λ (n : List ℕ). n ∷ drop (k + 1) listed) (sym is)

-- each of them is short
pub short_files : (files : Option Files) (names : List (List ℕ)) (reports : List File) → AreTaken files names reports → AreShort reports
short_files files [] [] h = tt
short_files files [] (bytes ∷ reports) h = absurd h
short_files files (name ∷ names) [] h = absurd h
short_files files (name ∷ names) (bytes ∷ reports) h = let small = h.0.short in (omega arith, short_files files names reports h.1)

-- the files of some names are the same
pub same_reports : (files : Files) (names : List (List ℕ)) (reports others : List File) → AreTaken (Some files) names reports → AreTaken (Some files) names others
    → reports ≡ others
same_reports files [] [] [] h i = refl
same_reports files [] [] (b ∷ others) h i = absurd i
same_reports files [] (a ∷ reports) others h i = absurd h
same_reports files (name ∷ names) [] others h i = absurd h
same_reports files (name ∷ names) (a ∷ reports) [] h i = absurd i
same_reports files (name ∷ names) (a ∷ reports) (b ∷ others) h i =
    let first = same_bytes files doc.Report name a b h.0 i.0 in
    let rest = same_reports files names reports others h.1 i.1 in
    ap (λ (bytes : File). bytes ∷ reports) first ∙ ap (λ (l : List File). b ∷ l) rest

-- where all are taken, none of them is at fault
pub none_at_fault : (files : Files) (front : List (List ℕ)) (name : List ℕ) (left names : List (List ℕ)) (reports : List File) (e : CommandError)
    → front ++ name ∷ left ≡ names → AreTaken (Some files) names reports → IsFault (Some files) name doc.Report e → ⊥
none_at_fault files [] name left [] reports e same taken fault = absurd (cc)
none_at_fault files (x ∷ front) name left [] reports e same taken fault = absurd (cc)
none_at_fault files [] name left (n ∷ names) [] e same taken fault = absurd taken
none_at_fault files [] name left (n ∷ names) (bytes ∷ reports) e same taken fault =
    let first : n ≡ name = cc in
    report_not_fault files name bytes e fault (subst (λ (x : List ℕ). IsTaken (Some files) doc.Report x bytes) first taken.0)
none_at_fault files (x ∷ front) name left (n ∷ names) [] e same taken fault = absurd taken
none_at_fault files (x ∷ front) name left (n ∷ names) (bytes ∷ reports) e same taken fault =
    let rest : front ++ name ∷ left ≡ names = cc in none_at_fault files front name left names reports e rest taken.1 fault
