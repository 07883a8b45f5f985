-- What is wrong with files is determined by them
use Rattle.std.proofs.Common.{◌≡◌, ◌≤◌, ◌<◌, ◌^◌, Bool, true, false, ℕ, List, length, Option, Some, None, refl, sym, ap, subst, arith, IsSomeAnd}
use Rattle.std.specs.Option.{ForSome}
use Rattle.std.specs.Prelude.{IsSome, MatchOption}
use Rattle.toml.specs.Data.{Members}
use Rattle.urna_outside.specs.Cabinet.{Files, file_at, Holds, HoldsLonger, Lacks}
use Rattle.election_tables.specs.Roll.{IsRollOf, RollData}
use Rattle.election_tables.specs.Rules.{broken_rule}
use Rattle.election_tables.specs.Tables.{IsDocument, IsReadAs, IsNoDocument, BreaksFirst}
use Rattle.election_tables.specs.TablesData.{TablesData}
use Rattle.key_script.specs.Script.{events_of, first_bad}
use Rattle.key_script.specs.Names.{first_bad_name, names_of}
use Rattle.key_script.specs.Laws.{OneListAnswers}
use Rattle.key_script.proofs.ScriptLaws.{events_or_bad}
use Rattle.key_script.specs.declared.keys.Event.{Event}
use Rattle.record_audit.specs.Fault.{IsLineFault}
use Rattle.record_audit.specs.declared.text.RecordText.{RecordText}
use Rattle.seat_certificate.specs.Text.{IsFirstBadLine, Spells}
use Rattle.seat_certificate.specs.declared.certificate.Certificate.{Certificate}
use Rattle.command_parts.specs.Documents.{IsTaken, IsBad, IsFault, IsFirstFault, HasCertificate, HasTables, HasRoll, HasKeys, HasNames, HasRecord, IsListed, first_tables, first_other, limit_of, lacks, longer, bad, certificate_line, no_document, rule, count, record_line, roll_line, line, name_line}
use Rattle.command_parts.specs.declared.error.Doc.{Doc}
use Rattle.command_parts.specs.declared.error.Doc.TheVariants as doc
use Rattle.command_parts.specs.declared.error.CommandError.{CommandError}
use Rattle.command_parts.specs.declared.error.CommandError.TheVariants as error
use Rattle.election_tables.proofs.Determined.{roll_determined, tables_determined}
use Rattle.election_tables.proofs.Reading.{one_document}
use Rattle.record_audit.proofs.Spellings.{never_both, one_fault as one_line}
use Rattle.seat_certificate.proofs.TextLaws.{not_both, one_bad, spells_one}

-- The documents of the same bytes

no_members : (bytes : List ℕ) (ms : Members) → IsNoDocument bytes → IsDocument bytes ms → ⊥
no_members bytes ms none h = let parsed = h.1 in let not_parsed = none h.0 in absurd (cc)

same_rule : (bytes : List ℕ) (k n : ℕ) → BreaksFirst bytes k → BreaksFirst bytes n → k ≡ n
same_rule bytes k n h i =
    let same = one_document bytes h.members i.members h.parsed i.parsed in
    let p = h.broken in
    let q : broken_rule h.members ≡ Some n = subst (λ (ms : Members). broken_rule ms ≡ Some n) (sym same) i.broken in
    cc

broken_not_kept : (bytes : List ℕ) (k : ℕ) (ms : Members) → BreaksFirst bytes k → IsDocument bytes ms → broken_rule ms ≡ None → ⊥
broken_not_kept bytes k ms h parsed kept =
    let same = one_document bytes h.members ms h.parsed parsed in
    let p = h.broken in
    let q : broken_rule h.members ≡ None = subst (λ (ns : Members). broken_rule ns ≡ None) (sym same) kept in
    absurd (cc)

-- What is wrong with a document

bad_tables : (bytes : List ℕ) (s t : CommandError) → IsBad doc.Tables bytes s → IsBad doc.Tables bytes t → s ≡ t
bad_tables bytes s t (no_document h) (no_document i) = refl
bad_tables bytes s t (no_document h) (rule i) = absurd (no_members bytes i.members h i.parsed)
bad_tables bytes s t (rule h) (no_document i) = absurd (no_members bytes h.members i h.parsed)
bad_tables bytes s t (rule {k} h) (rule {k = n} i) = ap error.TablesRule (same_rule bytes k n h i)

bad_roll : (bytes : List ℕ) (s t : CommandError) → IsBad doc.Roll bytes s → IsBad doc.Roll bytes t → s ≡ t
bad_roll bytes s t (count h) (count i) = refl
bad_roll bytes s t (count h) (roll_line i) = let p = i.count in absurd (cc)
bad_roll bytes s t (roll_line h) (count i) = let p = h.count in absurd (cc)
bad_roll bytes s t (roll_line {k} h) (roll_line {k = n} i) =
    let p = h.bad in
    let q = i.bad in
    let same : k ≡ n = cc in
    ap error.RollLine same

bad_keys : (bytes : List ℕ) (s t : CommandError) → IsBad doc.Keys bytes s → IsBad doc.Keys bytes t → s ≡ t
bad_keys bytes s t (line {k} h) (line {k = n} i) = let same : k ≡ n = cc in ap error.Line same

bad_names : (bytes : List ℕ) (s t : CommandError) → IsBad doc.List bytes s → IsBad doc.List bytes t → s ≡ t
bad_names bytes s t (name_line {k} h) (name_line {k = n} i) = let same : k ≡ n = cc in ap error.Line same

bad_record : (bytes : List ℕ) (s t : CommandError) → IsBad doc.Record bytes s → IsBad doc.Record bytes t → s ≡ t
bad_record bytes s t (record_line {k} h) (record_line {k = n} i) = ap error.RecordLine (one_line bytes k n h i)

bad_certificate : (bytes : List ℕ) (s t : CommandError) → IsBad doc.Certificate bytes s → IsBad doc.Certificate bytes t → s ≡ t
bad_certificate bytes s t (certificate_line {k} h) (certificate_line {k = n} i) = ap error.CertificateLine (one_bad bytes k n h i)

-- the bytes of a report are tried by their verdict alone
no_bad_report : (d : Doc) (bytes : List ℕ) (s : CommandError) → IsBad d bytes s → d ≡ doc.Report → ⊥
no_bad_report d bytes s (no_document h) e = absurd (cc)
no_bad_report d bytes s (rule h) e = absurd (cc)
no_bad_report d bytes s (count h) e = absurd (cc)
no_bad_report d bytes s (roll_line h) e = absurd (cc)
no_bad_report d bytes s (line h) e = absurd (cc)
no_bad_report d bytes s (name_line h) e = absurd (cc)
no_bad_report d bytes s (record_line h) e = absurd (cc)
no_bad_report d bytes s (certificate_line h) e = absurd (cc)

report_not_bad : (bytes : List ℕ) (s : CommandError) → IsBad doc.Report bytes s → ⊥
report_not_bad bytes s h = no_bad_report doc.Report bytes s h refl

bad_once : (d : Doc) (bytes : List ℕ) (s t : CommandError) → IsBad d bytes s → IsBad d bytes t → s ≡ t
bad_once doc.Tables bytes s t h i = bad_tables bytes s t h i
bad_once doc.Roll bytes s t h i = bad_roll bytes s t h i
bad_once doc.Keys bytes s t h i = bad_keys bytes s t h i
bad_once doc.Report bytes s t h i = absurd (report_not_bad bytes s h)
bad_once doc.List bytes s t h i = bad_names bytes s t h i
bad_once doc.Record bytes s t h i = bad_record bytes s t h i
bad_once doc.Certificate bytes s t h i = bad_certificate bytes s t h i

-- A file of a name

lacks_not_held : (files : Files) (name bytes : List ℕ) → ForSome (Some files) (Lacks name) → ForSome (Some files) (Holds name bytes) → ⊥
lacks_not_held files name bytes none held = let p = none files refl in let q = held files refl in absurd (cc)

long_is_long : (found : Option (List ℕ)) (limit : ℕ) → IsSomeAnd found (λ (bytes : List ℕ). limit < length bytes) → found ≡ None → ⊥
long_is_long None limit h e = absurd h
long_is_long (Some bytes) limit h e = absurd (cc)

long_not_short : (found : Option (List ℕ)) (limit : ℕ) (bytes : List ℕ) → IsSomeAnd found (λ (read : List ℕ). limit < length read) → found ≡ Some bytes → length bytes ≤ limit → ⊥
long_not_short None limit bytes h e short = absurd h
long_not_short (Some read) limit bytes h e short =
    let same : read ≡ bytes = cc in
    let small : length read ≤ limit = subst (λ (b : List ℕ). length b ≤ limit) (sym same) short in
    absurd (omega (arith, h, small))

lacks_not_longer : (files : Files) (name : List ℕ) (limit : ℕ) → ForSome (Some files) (Lacks name) → ForSome (Some files) (HoldsLonger name limit) → ⊥
lacks_not_longer files name limit none long = long_is_long (file_at name files) limit (long files refl) (none files refl)

lacks_not_taken : (files : Files) (d : Doc) (name bytes : List ℕ) → ForSome (Some files) (Lacks name) → IsTaken (Some files) d name bytes → ⊥
lacks_not_taken files d name bytes none taken = lacks_not_held files name bytes none taken.held

longer_not_taken : (files : Files) (d : Doc) (name bytes : List ℕ) → ForSome (Some files) (HoldsLonger name (limit_of d)) → IsTaken (Some files) d name bytes → ⊥
longer_not_taken files d name bytes long taken = long_not_short (file_at name files) (limit_of d) bytes (long files refl) (taken.held files refl) taken.short

pub same_bytes : (files : Files) (d : Doc) (name a b : List ℕ) → IsTaken (Some files) d name a → IsTaken (Some files) d name b → a ≡ b
same_bytes files d name a b h i = let p = h.held files refl in let q = i.held files refl in cc

pub fault_once : (files : Files) (name : List ℕ) (d : Doc) (s t : CommandError) → IsFault (Some files) name d s → IsFault (Some files) name d t → s ≡ t
fault_once files name d s t (lacks h) (lacks i) = refl
fault_once files name d s t (lacks h) (longer i) = absurd (lacks_not_longer files name (limit_of d) h i)
fault_once files name d s t (lacks h) (bad {bytes} taken i) = absurd (lacks_not_taken files d name bytes h taken)
fault_once files name d s t (longer h) (lacks i) = absurd (lacks_not_longer files name (limit_of d) i h)
fault_once files name d s t (longer h) (longer i) = refl
fault_once files name d s t (longer h) (bad {bytes} taken i) = absurd (longer_not_taken files d name bytes h taken)
fault_once files name d s t (bad {bytes} taken h) (lacks i) = absurd (lacks_not_taken files d name bytes i taken)
fault_once files name d s t (bad {bytes} taken h) (longer i) = absurd (longer_not_taken files d name bytes i taken)
fault_once files name d s t (bad {bytes} taken h) (bad {bytes = other} again i) =
    bad_once d bytes s t h (subst (λ (b : List ℕ). IsBad d b t) (sym (same_bytes files d name bytes other taken again)) i)

-- ---- which errors a document gives

-- the error is one of a file
abbrev pub is_of_file : CommandError → Bool
is_of_file error.TablesNotToml = true
is_of_file (error.TablesRule k) = true
is_of_file error.RollCount = true
is_of_file (error.RollLine k) = true
is_of_file (error.Line k) = true
is_of_file (error.RecordLine k) = true
is_of_file (error.CertificateLine k) = true
is_of_file (error.TooLong d) = true
is_of_file (error.Missing d) = true
is_of_file error.Memory = false
is_of_file error.Usage = false
is_of_file error.Cabinet = false
is_of_file (error.Foreign d) = false
is_of_file error.NoImage = false
is_of_file (error.Busy d) = false

bad_is : (d : Doc) (bytes : List ℕ) (e : CommandError) → IsBad d bytes e → is_of_file e ≡ true
bad_is d bytes _ (no_document h) = refl
bad_is d bytes _ (rule h) = refl
bad_is d bytes _ (count h) = refl
bad_is d bytes _ (roll_line h) = refl
bad_is d bytes _ (line h) = refl
bad_is d bytes _ (name_line h) = refl
bad_is d bytes _ (record_line h) = refl
bad_is d bytes _ (certificate_line h) = refl

pub fault_is : (files : Option Files) (name : List ℕ) (d : Doc) (e : CommandError) → IsFault files name d e → is_of_file e ≡ true
fault_is files name d _ (lacks h) = refl
fault_is files name d _ (longer h) = refl
fault_is files name d e (bad {bytes} taken h) = bad_is d bytes e h

pub first_is : (files : Option Files) (tables : List ℕ) (d : Doc) (name : List ℕ) (e : CommandError) → IsFirstFault files tables d name e → is_of_file e ≡ true
first_is files tables d name e (first_tables h) = fault_is files tables doc.Tables e h
first_is files tables d name e (first_other has h) = fault_is files name d e h

-- ---- a document that is at fault holds nothing

bad_not_tables : (bytes : List ℕ) (s : CommandError) (t : TablesData) → IsBad doc.Tables bytes s → IsReadAs bytes t → ⊥
bad_not_tables bytes s t (no_document h) read = no_members bytes read.members h read.parsed
bad_not_tables bytes s t (rule {k} h) read = broken_not_kept bytes k read.members h read.parsed read.kept

bad_not_roll : (bytes : List ℕ) (s : CommandError) (r : RollData) → IsBad doc.Roll bytes s → IsRollOf bytes r → ⊥
bad_not_roll bytes s r (count h) read = let p = read.count in absurd (cc)
bad_not_roll bytes s r (roll_line h) read = let p = h.bad in let q = read.lines in absurd (cc)

pub tables_not_fault : (files : Files) (name : List ℕ) (s : CommandError) (t : TablesData) → IsFault (Some files) name doc.Tables s → HasTables (Some files) name t → ⊥
tables_not_fault files name s t (lacks h) has = lacks_not_taken files doc.Tables name has.bytes h has.taken
tables_not_fault files name s t (longer h) has = longer_not_taken files doc.Tables name has.bytes h has.taken
tables_not_fault files name s t (bad {bytes} taken h) has =
    bad_not_tables has.bytes s t (subst (λ (b : List ℕ). IsBad doc.Tables b s) (same_bytes files doc.Tables name bytes has.bytes taken has.taken) h) has.read

pub roll_not_fault : (files : Files) (name : List ℕ) (s : CommandError) (r : RollData) → IsFault (Some files) name doc.Roll s → HasRoll (Some files) name r → ⊥
roll_not_fault files name s r (lacks h) has = lacks_not_taken files doc.Roll name has.bytes h has.taken
roll_not_fault files name s r (longer h) has = longer_not_taken files doc.Roll name has.bytes h has.taken
roll_not_fault files name s r (bad {bytes} taken h) has =
    bad_not_roll has.bytes s r (subst (λ (b : List ℕ). IsBad doc.Roll b s) (same_bytes files doc.Roll name bytes has.bytes taken has.taken) h) has.read

pub keys_not_fault : (files : Files) (name : List ℕ) (s : CommandError) (es : List Event) → IsFault (Some files) name doc.Keys s → HasKeys (Some files) name es → ⊥
keys_not_fault files name s es (lacks h) has = lacks_not_taken files doc.Keys name has.bytes h has.taken
keys_not_fault files name s es (longer h) has = longer_not_taken files doc.Keys name has.bytes h has.taken
keys_not_fault files name s es (bad {bytes} taken (line {k} h)) has =
    let same = same_bytes files doc.Keys name bytes has.bytes taken has.taken in
    let none : events_of has.bytes ≡ None =
    subst (λ (o : Option ℕ). MatchOption o (IsSome (events_of has.bytes)) (λ _. events_of has.bytes ≡ None))
    (subst (λ (b : List ℕ). first_bad b ≡ Some k) same h) (events_or_bad has.bytes) in
    let some = has.read in
    absurd (cc)

pub names_not_fault : OneListAnswers → (files : Files) (name : List ℕ) (s : CommandError) (listed : List (List ℕ)) → IsFault (Some files) name doc.List s → HasNames (Some files) name listed → ⊥
names_not_fault answers files name s listed (lacks h) has = lacks_not_taken files doc.List name has.bytes h has.taken
names_not_fault answers files name s listed (longer h) has = longer_not_taken files doc.List name has.bytes h has.taken
names_not_fault answers files name s listed (bad {bytes} taken (name_line {k} h)) has =
    let same = same_bytes files doc.List name bytes has.bytes taken has.taken in
    let none : names_of has.bytes ≡ None =
    subst (λ (o : Option ℕ). MatchOption o (IsSome (names_of has.bytes)) (λ _. names_of has.bytes ≡ None))
    (subst (λ (b : List ℕ). first_bad_name b ≡ Some k) same h) (answers has.bytes) in
    let some = has.read in
    absurd (cc)

-- The files of some names

pub first_once : (files : Files) (tables : List ℕ) (d : Doc) (name : List ℕ) (s u : CommandError) → IsFirstFault (Some files) tables d name s
    → IsFirstFault (Some files) tables d name u → s ≡ u
first_once files a d b s u (first_tables h) (first_tables i) = fault_once files a doc.Tables s u h i
first_once files a d b s u (first_tables h) (first_other {t} has i) = absurd (tables_not_fault files a s t h has)
first_once files a d b s u (first_other {t} has h) (first_tables i) = absurd (tables_not_fault files a u t i has)
first_once files a d b s u (first_other has h) (first_other also i) = fault_once files b d s u h i

-- tables and a roll that are at fault are not there
pub first_not_there : (files : Files) (tables roll : List ℕ) (s : CommandError) (t : TablesData) (r : RollData) → IsFirstFault (Some files) tables doc.Roll roll s
    → HasTables (Some files) tables t → HasRoll (Some files) roll r → ⊥
first_not_there files a b s t r (first_tables h) has read = tables_not_fault files a s t h has
first_not_there files a b s t r (first_other _ h) has read = roll_not_fault files b s r h read

-- The tables and the report of some names

pub report_not_fault : (files : Files) (name bytes : List ℕ) (s : CommandError) → IsFault (Some files) name doc.Report s → IsTaken (Some files) doc.Report name bytes → ⊥
report_not_fault files name bytes s (lacks h) taken = lacks_not_taken files doc.Report name bytes h taken
report_not_fault files name bytes s (longer h) taken = longer_not_taken files doc.Report name bytes h taken
report_not_fault files name bytes s (bad {bytes = other} _ h) taken = report_not_bad other s h

pub tables_and_report : (files : Files) (tables name bytes : List ℕ) (s : CommandError) (t : TablesData) → IsFirstFault (Some files) tables doc.Report name s
    → HasTables (Some files) tables t → IsTaken (Some files) doc.Report name bytes → ⊥
tables_and_report files a b bytes s t (first_tables h) has taken = tables_not_fault files a s t h has
tables_and_report files a b bytes s t (first_other _ h) has taken = report_not_fault files b bytes s h taken

pub record_not_fault : (files : Files) (name : List ℕ) (s : CommandError) (r : RecordText) → IsFault (Some files) name doc.Record s → HasRecord (Some files) name r → ⊥
record_not_fault files name s r (lacks h) has = lacks_not_taken files doc.Record name has.bytes h has.taken
record_not_fault files name s r (longer h) has = longer_not_taken files doc.Record name has.bytes h has.taken
record_not_fault files name s r (bad {bytes} taken (record_line {k} h)) has =
    never_both has.bytes k r (subst (λ (b : List ℕ). IsLineFault b k) (same_bytes files doc.Record name bytes has.bytes taken has.taken) h) has.read

pub certificate_not_fault : (files : Files) (name : List ℕ) (s : CommandError) (code : ℕ) (c : Certificate) → IsFault (Some files) name doc.Certificate s
    → HasCertificate (Some files) name code c → ⊥
certificate_not_fault files name s code c (lacks h) has = lacks_not_taken files doc.Certificate name has.bytes h has.taken
certificate_not_fault files name s code c (longer h) has = longer_not_taken files doc.Certificate name has.bytes h has.taken
certificate_not_fault files name s code c (bad {bytes} taken (certificate_line {k} h)) has =
    let same = same_bytes files doc.Certificate name bytes has.bytes taken has.taken in
    not_both has.bytes code c k has.read (subst (λ (b : List ℕ). IsFirstBadLine b k) same h)

-- a name's file holds the same certificate of the same office
pub same_certificate : (files : Files) (name : List ℕ) (m n : ℕ) (c d : Certificate) → HasCertificate (Some files) name m c → HasCertificate (Some files) name n d
    → (m ≡ n) × (c ≡ d)
same_certificate files name m n c d h i =
    let same = same_bytes files doc.Certificate name h.bytes i.bytes h.taken i.taken in
    spells_one i.bytes m n c d (subst (λ (b : List ℕ). Spells b m c) same h.read) i.read

-- a name's file holds the same tables, and the same roll
pub same_tables : (files : Files) (name : List ℕ) (t u : TablesData) → HasTables (Some files) name t → HasTables (Some files) name u → t ≡ u
same_tables files name t u h i =
    let same = same_bytes files doc.Tables name h.bytes i.bytes h.taken i.taken in
    tables_determined i.bytes t u (subst (λ (b : List ℕ). IsReadAs b t) same h.read) i.read

pub same_roll : (files : Files) (name : List ℕ) (r q : RollData) → HasRoll (Some files) name r → HasRoll (Some files) name q → r ≡ q
same_roll files name r q h i =
    let same = same_bytes files doc.Roll name h.bytes i.bytes h.taken i.taken in
    roll_determined i.bytes r q (subst (λ (b : List ℕ). IsRollOf b r) same h.read) i.read

-- a report is short
pub small : (n : ℕ) → n ≤ 1048576 → n < 2 ^ 63
small n h = omega (arith, h)

-- The tables and the list of some names

pub same_names : (files : Files) (name : List ℕ) (a b : List (List ℕ)) → HasNames (Some files) name a → HasNames (Some files) name b → a ≡ b
same_names files name a b h i =
    let same = same_bytes files doc.List name h.bytes i.bytes h.taken i.taken in
    let read : names_of i.bytes ≡ Some a = subst (λ (x : List ℕ). names_of x ≡ Some a) same h.read in
    let other = i.read in
    cc

pub refused_or_listed : OneListAnswers → (files : Files) (tables list : List ℕ) (s : CommandError) (t : TablesData) (listed : List (List ℕ)) → IsFirstFault (Some files) tables doc.List list s
    → IsListed (Some files) tables list t listed → ⊥
refused_or_listed answers files a b s t listed (first_tables h) given = tables_not_fault files a s t h given.tables
refused_or_listed answers files a b s t listed (first_other _ h) given = names_not_fault answers files b s listed h given.list
