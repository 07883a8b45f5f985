use Rattle.std.proofs.Common.{◌≡◌, ℕ, List, ◌∷◌, [], Option, Some, None, refl, sym, ◌∙◌, ap, arith}
use Rattle.std.specs.Prelude.{Ok, Err}
use Rattle.qr_text.proofs.FieldLaws.{narrow, number_fits}
use Rattle.qr_text.proofs.reader.Reader.number.Goals as goal
use Rattle.qr_text.specs.Reading.{number_at}
use Rattle.qr_text.specs.Sections.{FieldsLeft, number_or_fault, row_reading}
use Rattle.qr_text.specs.declared.fault.FieldFault.TheVariants as fault
use Rattle.qr_text.specs.declared.table.Row.{Row}

at_end : (r : Row) (s : FieldsLeft) → s.left ≡ [] → row_reading r s ≡ Err (fault.Field s.next)
unfolding row_reading
at_end r s e = rw e refl

at_field : (r : Row) (s : FieldsLeft) (rest : List (List ℕ)) (p : List ℕ) (o : Option ℕ) → s.left ≡ p ∷ rest → number_at r p ≡ o
    → row_reading r s ≡ number_or_fault o s.next rest
unfolding row_reading
at_field r s rest p o e h = rw (e, h) refl

pub returns-in_default-clause-exact : goal.returns-in_default-clause-exact
returns-in_default-clause-exact c = at_end c.args.row.now c.args.self.now c.in_default.ensures.0 ∙ ap (λ (r : FieldsLeft). Err (fault.Field r.next)) (sym c.self.view_is)

pub overflow_cast-result : goal.overflow_cast-result
overflow_cast-result c =
    let fit = number_fits c.args.row.now c.in-Some.field.now c.in-Some-number_of.value (sym c.number_of.ensures ∙ c.in-Some-number_of.is) in
    omega (arith, narrow c.args.row.now.form c.in-Some-number_of.value fit c.requires)

pub returns-in-Some-number_of-clause-fits : goal.returns-in-Some-number_of-clause-fits
returns-in-Some-number_of-clause-fits c = number_fits c.args.row.now c.in-Some.field.now c.in-Some-number_of.value (sym c.number_of.ensures ∙ c.in-Some-number_of.is)

pub returns-in-Some-number_of-clause-exact : goal.returns-in-Some-number_of-clause-exact
returns-in-Some-number_of-clause-exact c =
    at_field c.args.row.now c.args.self.now c.field.new.self.left c.in-Some.field.now (Some c.in-Some-number_of.value) c.in-Some.ensures.0 (sym c.number_of.ensures ∙ c.in-Some-number_of.is)
    ∙ ap (λ (n : ℕ). Ok (c.in-Some-number_of.value, record { left = c.field.new.self.left; next = n })) (sym c.in-Some.ensures.1)

pub returns-in-None-clause-exact : goal.returns-in-None-clause-exact
returns-in-None-clause-exact c =
    at_field c.args.row.now c.args.self.now c.field.new.self.left c.in-Some.field.now None c.in-Some.ensures.0 (sym c.number_of.ensures ∙ c.in-None.is)
    ∙ ap (λ (r : FieldsLeft). Err (fault.Field r.next)) (sym c.self.view_is)
