use Rattle.std.proofs.Common.{◌≡◌, ◌≢◌, ◌<◌, ℕ, List, Some, length, true, false, refl, sym, ap, subst, ◌∙◌}
use Rattle.urna_outside.specs.declared.device.Port.{Port}
use Rattle.poll_report.specs.declared.report.Report.{Report}
use Rattle.section_intake.specs.Accepted.{is_accepted}
use Rattle.section_intake.specs.Fits.{Fits}
use Rattle.section_intake.specs.Verdict.{IsReportFile, IsVerdict}
use Rattle.section_intake.specs.declared.verdict.Verdict.TheVariants as verdict
use Rattle.section_intake.proofs.HolderLaws.{not_listed}
use Rattle.intake_ledger.specs.Body.{hash_in, is_marked}
use Rattle.intake_ledger.specs.Calls.{FailsToOffer}
use Rattle.section_intake.specs.Checked.{IsChecked}
use Rattle.intake_ledger.specs.Ledger.{LedgerData, with_report}
use Rattle.intake_ledger.specs.Offers.{IsReportAt, again, another, by_itself, first}
use Rattle.intake_ledger.specs.Totals.{TotalsData}
use Rattle.intake_ledger.specs.declared.ledger.OfferError.TheVariants as offer_error
use Rattle.intake_ledger.proofs.Offering.{commit_stopped, entered_fails, entered_offered, none_kept_at, same_fails, same_offered, some_kept_at}
use Rattle.intake_ledger.proofs.ledger.Ledger.offer.Goals as goal

pub returns-in-Ok-Refused-clause-offered : goal.returns-in-Ok-Refused-clause-offered
returns-in-Ok-Refused-clause-offered g c =
    let t = c.args.tables.now in
    let kept : TotalsData = c.args.self in
    let file : List ℕ = c.args.bytes.now in
    let number : ℕ = c.args.number in
    let a = g.M.Machine.told c.args.m.now in
    let tables = c.panels-panels.ensures.tables in
    let v = c.in-Ok-Refused.verdict in
    let is : IsVerdict t file v × (is_accepted v ≡ false) = subst (IsChecked t file) c.in-Ok-Refused.field-0-is c.in-Ok-Refused.ensures in
    same_offered t tables file number v kept a (g.M.Machine.told c.tell.new.m) is.1 (λ l keeps. by_itself is.0 is.1) c.tell.result c.tell.ensures.shown c.tell.ensures.same

pub returns-in_default-clause-offered : goal.returns-in_default-clause-offered
returns-in_default-clause-offered g c =
    let t = c.args.tables.now in
    let kept : TotalsData = c.args.self in
    let file : List ℕ = c.args.bytes.now in
    let number : ℕ = c.args.number in
    let a = g.M.Machine.told c.args.m.now in
    let tables = c.panels-panels.ensures.tables in
    let r : Report = c.in-Ok-Report.report in
    let is : IsReportFile file r × Fits t r = subst (IsChecked t file) c.in-Ok-Report.field-0-is c.in-Ok-Report.ensures in
    absurd (not_listed t r (sym c.section_place.ensures.place ∙ c.in_default.is) is.1)

pub returns-then-not-is_marked-clause-offered : goal.returns-then-not-is_marked-clause-offered
returns-then-not-is_marked-clause-offered g c =
    let t = c.args.tables.now in
    let kept : TotalsData = c.args.self in
    let file : List ℕ = c.args.bytes.now in
    let number : ℕ = c.args.number in
    let a = g.M.Machine.told c.args.m.now in
    let tables = c.panels-panels.ensures.tables in
    let r : Report = c.in-Ok-Report.report in
    let is : IsReportFile file r × Fits t r = subst (IsChecked t file) c.in-Ok-Report.field-0-is c.in-Ok-Report.ensures in
    let place : ℕ = c.in-Some.place in
    let hash : List ℕ = c.hash_of-hash.result in
    let at : IsReportAt t file r place hash = record { report = is.0; fits = is.1; section = sym c.section_place.ensures.place ∙ c.in-Some.is; last = c.hash_of-hash.ensures } in
    let within : place < length t.sections = c.in-Some.ensures.within in
    let body_is = c.body.ensures ∙ ap (λ (d : TotalsData). d.body) c.self.view_is in
    let free : is_marked kept.body place ≡ false = ap (λ (bytes : List ℕ). is_marked bytes place) (sym body_is) ∙ sym c.is_marked.ensures ∙ c.if-not-is_marked.true in
    let next : LedgerData → LedgerData = with_report t place hash r in
    let b = g.M.Machine.told c.accept.new.m in
    entered_offered t tables file number r.zone r.section kept c.in-Ok.ledger a b (g.M.Machine.told c.tell-then-not-is_marked.new.m) next
    (λ l keeps. first at (none_kept_at t l kept.body place keeps.totals.stands within free))
    (λ l keeps. record { run = c.accept.ensures.ran l keeps; few = c.accept.ensures.bytes; order = c.in-Ok.ensures.order l keeps; fine = c.in-Ok.ensures.fails })
    c.in-Ok.ensures.kept c.tell-then-not-is_marked.result c.tell-then-not-is_marked.ensures.shown c.tell-then-not-is_marked.ensures.same

pub returns-then-is_hash_at-clause-offered : goal.returns-then-is_hash_at-clause-offered
returns-then-is_hash_at-clause-offered g c =
    let t = c.args.tables.now in
    let kept : TotalsData = c.args.self in
    let file : List ℕ = c.args.bytes.now in
    let number : ℕ = c.args.number in
    let a = g.M.Machine.told c.args.m.now in
    let tables = c.panels-panels.ensures.tables in
    let r : Report = c.in-Ok-Report.report in
    let is : IsReportFile file r × Fits t r = subst (IsChecked t file) c.in-Ok-Report.field-0-is c.in-Ok-Report.ensures in
    let place : ℕ = c.in-Some.place in
    let hash : List ℕ = c.hash_of-hash.result in
    let at : IsReportAt t file r place hash = record { report = is.0; fits = is.1; section = sym c.section_place.ensures.place ∙ c.in-Some.is; last = c.hash_of-hash.ensures } in
    let within : place < length t.sections = c.in-Some.ensures.within in
    let body_is = c.body.ensures ∙ ap (λ (d : TotalsData). d.body) c.self.view_is in
    let marked : is_marked kept.body place ≡ true = ap (λ (bytes : List ℕ). is_marked bytes place) (sym body_is) ∙ sym c.is_marked.ensures ∙ c.if-not-is_marked.false in
    let there : hash_in c.body-2.result.now place ≡ hash_in kept.body place = ap (λ (bytes : List ℕ). hash_in bytes place) (c.body-2.ensures ∙ ap (λ (d : TotalsData). d.body) c.self.view_is) in
    let same : hash_in kept.body place ≡ hash = sym there ∙ c.is_hash_at.ensures.0 c.if-is_hash_at.true in
    same_offered t tables file number (verdict.Repeated r.zone r.section) kept a (g.M.Machine.told c.tell-then-is_hash_at.new.m) refl
    (λ l keeps. again at (some_kept_at t l kept.body place keeps.totals.stands within marked ∙ ap (λ (h : List ℕ). Some h) same))
    c.tell-then-is_hash_at.result c.tell-then-is_hash_at.ensures.shown c.tell-then-is_hash_at.ensures.same

pub returns-clause-offered : goal.returns-clause-offered
returns-clause-offered g c =
    let t = c.args.tables.now in
    let kept : TotalsData = c.args.self in
    let file : List ℕ = c.args.bytes.now in
    let number : ℕ = c.args.number in
    let a = g.M.Machine.told c.args.m.now in
    let tables = c.panels-panels.ensures.tables in
    let r : Report = c.in-Ok-Report.report in
    let is : IsReportFile file r × Fits t r = subst (IsChecked t file) c.in-Ok-Report.field-0-is c.in-Ok-Report.ensures in
    let place : ℕ = c.in-Some.place in
    let hash : List ℕ = c.hash_of-hash.result in
    let at : IsReportAt t file r place hash = record { report = is.0; fits = is.1; section = sym c.section_place.ensures.place ∙ c.in-Some.is; last = c.hash_of-hash.ensures } in
    let within : place < length t.sections = c.in-Some.ensures.within in
    let body_is = c.body.ensures ∙ ap (λ (d : TotalsData). d.body) c.self.view_is in
    let marked : is_marked kept.body place ≡ true = ap (λ (bytes : List ℕ). is_marked bytes place) (sym body_is) ∙ sym c.is_marked.ensures ∙ c.if-not-is_marked.false in
    let there : hash_in c.body-2.result.now place ≡ hash_in kept.body place = ap (λ (bytes : List ℕ). hash_in bytes place) (c.body-2.ensures ∙ ap (λ (d : TotalsData). d.body) c.self.view_is) in
    let other : hash_in kept.body place ≢ hash = λ same.
    let yes = c.is_hash_at.ensures.1 (there ∙ same) in
    let no = c.if-is_hash_at.false in
    absurd (cc)
    in
    same_offered t tables file number (verdict.Conflict r.zone r.section) kept a (g.M.Machine.told c.tell-2.new.m) refl
    (λ l keeps. another at (some_kept_at t l kept.body place keeps.totals.stands within marked) other)
    c.tell-2.result c.tell-2.ensures.shown c.tell-2.ensures.same

pub returns-in-Ok-Refused-clause-fails : goal.returns-in-Ok-Refused-clause-fails
returns-in-Ok-Refused-clause-fails g c =
    let t = c.args.tables.now in
    let kept : TotalsData = c.args.self in
    let file : List ℕ = c.args.bytes.now in
    let number : ℕ = c.args.number in
    let a = g.M.Machine.told c.args.m.now in
    let tables = c.panels-panels.ensures.tables in
    let v = c.in-Ok-Refused.verdict in
    let is : IsVerdict t file v × (is_accepted v ≡ false) = subst (IsChecked t file) c.in-Ok-Refused.field-0-is c.in-Ok-Refused.ensures in
    same_fails t tables file number v kept a (g.M.Machine.told c.tell.new.m) is.1 (λ l keeps. by_itself is.0 is.1) c.tell.result c.tell.ensures.shown c.tell.ensures.port

pub returns-in_default-clause-fails : goal.returns-in_default-clause-fails
returns-in_default-clause-fails g c =
    let t = c.args.tables.now in
    let kept : TotalsData = c.args.self in
    let file : List ℕ = c.args.bytes.now in
    let number : ℕ = c.args.number in
    let a = g.M.Machine.told c.args.m.now in
    let tables = c.panels-panels.ensures.tables in
    let r : Report = c.in-Ok-Report.report in
    let is : IsReportFile file r × Fits t r = subst (IsChecked t file) c.in-Ok-Report.field-0-is c.in-Ok-Report.ensures in
    absurd (not_listed t r (sym c.section_place.ensures.place ∙ c.in_default.is) is.1)

pub returns-then-not-is_marked-clause-fails : goal.returns-then-not-is_marked-clause-fails
returns-then-not-is_marked-clause-fails g c =
    let t = c.args.tables.now in
    let kept : TotalsData = c.args.self in
    let file : List ℕ = c.args.bytes.now in
    let number : ℕ = c.args.number in
    let a = g.M.Machine.told c.args.m.now in
    let tables = c.panels-panels.ensures.tables in
    let r : Report = c.in-Ok-Report.report in
    let is : IsReportFile file r × Fits t r = subst (IsChecked t file) c.in-Ok-Report.field-0-is c.in-Ok-Report.ensures in
    let place : ℕ = c.in-Some.place in
    let hash : List ℕ = c.hash_of-hash.result in
    let at : IsReportAt t file r place hash = record { report = is.0; fits = is.1; section = sym c.section_place.ensures.place ∙ c.in-Some.is; last = c.hash_of-hash.ensures } in
    let within : place < length t.sections = c.in-Some.ensures.within in
    let body_is = c.body.ensures ∙ ap (λ (d : TotalsData). d.body) c.self.view_is in
    let free : is_marked kept.body place ≡ false = ap (λ (bytes : List ℕ). is_marked bytes place) (sym body_is) ∙ sym c.is_marked.ensures ∙ c.if-not-is_marked.true in
    let next : LedgerData → LedgerData = with_report t place hash r in
    let b = g.M.Machine.told c.accept.new.m in
    entered_fails t tables file number r.zone r.section kept c.in-Ok.ledger a b (g.M.Machine.told c.tell-then-not-is_marked.new.m) next
    (λ l keeps. first at (none_kept_at t l kept.body place keeps.totals.stands within free))
    (λ l keeps. record { run = c.accept.ensures.ran l keeps; few = c.accept.ensures.bytes; order = c.in-Ok.ensures.order l keeps; fine = c.in-Ok.ensures.fails })
    c.in-Ok.ensures.kept c.tell-then-not-is_marked.result c.tell-then-not-is_marked.ensures.shown c.tell-then-not-is_marked.ensures.port

pub returns-then-is_hash_at-clause-fails : goal.returns-then-is_hash_at-clause-fails
returns-then-is_hash_at-clause-fails g c =
    let t = c.args.tables.now in
    let kept : TotalsData = c.args.self in
    let file : List ℕ = c.args.bytes.now in
    let number : ℕ = c.args.number in
    let a = g.M.Machine.told c.args.m.now in
    let tables = c.panels-panels.ensures.tables in
    let r : Report = c.in-Ok-Report.report in
    let is : IsReportFile file r × Fits t r = subst (IsChecked t file) c.in-Ok-Report.field-0-is c.in-Ok-Report.ensures in
    let place : ℕ = c.in-Some.place in
    let hash : List ℕ = c.hash_of-hash.result in
    let at : IsReportAt t file r place hash = record { report = is.0; fits = is.1; section = sym c.section_place.ensures.place ∙ c.in-Some.is; last = c.hash_of-hash.ensures } in
    let within : place < length t.sections = c.in-Some.ensures.within in
    let body_is = c.body.ensures ∙ ap (λ (d : TotalsData). d.body) c.self.view_is in
    let marked : is_marked kept.body place ≡ true = ap (λ (bytes : List ℕ). is_marked bytes place) (sym body_is) ∙ sym c.is_marked.ensures ∙ c.if-not-is_marked.false in
    let there : hash_in c.body-2.result.now place ≡ hash_in kept.body place = ap (λ (bytes : List ℕ). hash_in bytes place) (c.body-2.ensures ∙ ap (λ (d : TotalsData). d.body) c.self.view_is) in
    let same : hash_in kept.body place ≡ hash = sym there ∙ c.is_hash_at.ensures.0 c.if-is_hash_at.true in
    same_fails t tables file number (verdict.Repeated r.zone r.section) kept a (g.M.Machine.told c.tell-then-is_hash_at.new.m) refl
    (λ l keeps. again at (some_kept_at t l kept.body place keeps.totals.stands within marked ∙ ap (λ (h : List ℕ). Some h) same))
    c.tell-then-is_hash_at.result c.tell-then-is_hash_at.ensures.shown c.tell-then-is_hash_at.ensures.port

pub returns-clause-fails : goal.returns-clause-fails
returns-clause-fails g c =
    let t = c.args.tables.now in
    let kept : TotalsData = c.args.self in
    let file : List ℕ = c.args.bytes.now in
    let number : ℕ = c.args.number in
    let a = g.M.Machine.told c.args.m.now in
    let tables = c.panels-panels.ensures.tables in
    let r : Report = c.in-Ok-Report.report in
    let is : IsReportFile file r × Fits t r = subst (IsChecked t file) c.in-Ok-Report.field-0-is c.in-Ok-Report.ensures in
    let place : ℕ = c.in-Some.place in
    let hash : List ℕ = c.hash_of-hash.result in
    let at : IsReportAt t file r place hash = record { report = is.0; fits = is.1; section = sym c.section_place.ensures.place ∙ c.in-Some.is; last = c.hash_of-hash.ensures } in
    let within : place < length t.sections = c.in-Some.ensures.within in
    let body_is = c.body.ensures ∙ ap (λ (d : TotalsData). d.body) c.self.view_is in
    let marked : is_marked kept.body place ≡ true = ap (λ (bytes : List ℕ). is_marked bytes place) (sym body_is) ∙ sym c.is_marked.ensures ∙ c.if-not-is_marked.false in
    let there : hash_in c.body-2.result.now place ≡ hash_in kept.body place = ap (λ (bytes : List ℕ). hash_in bytes place) (c.body-2.ensures ∙ ap (λ (d : TotalsData). d.body) c.self.view_is) in
    let other : hash_in kept.body place ≢ hash = λ same.
    let yes = c.is_hash_at.ensures.1 (there ∙ same) in
    let no = c.if-is_hash_at.false in
    absurd (cc)
    in
    same_fails t tables file number (verdict.Conflict r.zone r.section) kept a (g.M.Machine.told c.tell-2.new.m) refl
    (λ l keeps. another at (some_kept_at t l kept.body place keeps.totals.stands within marked) other)
    c.tell-2.result c.tell-2.ensures.shown c.tell-2.ensures.port

pub returns-in-Err-accept-clause-fails : goal.returns-in-Err-accept-clause-fails
returns-in-Err-accept-clause-fails g c =
    let t = c.args.tables.now in
    let kept : TotalsData = c.args.self in
    let file : List ℕ = c.args.bytes.now in
    let number : ℕ = c.args.number in
    let a = g.M.Machine.told c.args.m.now in
    let tables = c.panels-panels.ensures.tables in
    let r : Report = c.in-Ok-Report.report in
    let is : IsReportFile file r × Fits t r = subst (IsChecked t file) c.in-Ok-Report.field-0-is c.in-Ok-Report.ensures in
    let place : ℕ = c.in-Some.place in
    let hash : List ℕ = c.hash_of-hash.result in
    let at : IsReportAt t file r place hash = record { report = is.0; fits = is.1; section = sym c.section_place.ensures.place ∙ c.in-Some.is; last = c.hash_of-hash.ensures } in
    let within : place < length t.sections = c.in-Some.ensures.within in
    let body_is = c.body.ensures ∙ ap (λ (d : TotalsData). d.body) c.self.view_is in
    let free : is_marked kept.body place ≡ false = ap (λ (bytes : List ℕ). is_marked bytes place) (sym body_is) ∙ sym c.is_marked.ensures ∙ c.if-not-is_marked.true in
    let next : LedgerData → LedgerData = with_report t place hash r in
    let b = g.M.Machine.told c.accept.new.m in
    subst (λ (p : Port). FailsToOffer t kept file number a b (offer_error.Port p)) (sym c.from.ensures) (λ l keeps.
    commit_stopped t file number r.zone r.section l (next l) c.in-Err-accept.dev a b (first at (none_kept_at t l kept.body place keeps.totals.stands within free))
    (c.accept.ensures.ran l keeps) c.accept.ensures.bytes (c.in-Err-accept.ensures.order l keeps) c.in-Err-accept.ensures.fails)
