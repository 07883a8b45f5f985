use Rattle.std.proofs.Common.{Some, None, refl, sym, ◌∙◌, ap}
use Rattle.qr_text.proofs.VoteLaws.{first_end, first_field}
use Rattle.qr_text.proofs.reader.Reader.try_places.Goals as goal
use Rattle.qr_text.specs.Sections.{FieldsLeft}
use Rattle.urna_base.specs.Words.{pieces_left}
use Rattle.qr_text.specs.Votes.{places_of, places_first}

pub returns-in_default-clause-exact : goal.returns-in_default-clause-exact
unfolding places_first
returns-in_default-clause-exact c =
    let s : FieldsLeft = record { left = pieces_left c.self.inside.rest; next = c.self.inside.next } in
    (ap (λ (x : FieldsLeft). places_first c.args.code x) (sym c.self.view_is) ∙ first_end (places_of c.args.code) s.next s.left (ap pieces_left c.in_default.is), refl)

pub returns-in-None-clause-exact : goal.returns-in-None-clause-exact
unfolding places_first
returns-in-None-clause-exact c =
    let s : FieldsLeft = record { left = pieces_left c.self.inside.rest; next = c.self.inside.next } in (
      ap (λ (x : FieldsLeft). places_first c.args.code x) (sym c.self.view_is)
          ∙ first_field (places_of c.args.code) s.next s.left c.split_piece.result.0.now (pieces_left c.split_piece.result.1) None
          (ap pieces_left c.in-Some.is ∙ c.split_piece.ensures) (sym c.places_of.ensures ∙ c.in-None.is),
      refl,
    )

pub returns-in-Some-places_of-clause-exact : goal.returns-in-Some-places_of-clause-exact
unfolding places_first
returns-in-Some-places_of-clause-exact c =
    let s : FieldsLeft = record { left = pieces_left c.self.inside.rest; next = c.self.inside.next } in
    ap (λ (x : FieldsLeft). places_first c.args.code x) (sym c.self.view_is)
    ∙ first_field (places_of c.args.code) s.next s.left c.split_piece.result.0.now (pieces_left c.split_piece.result.1) (Some c.in-Some-places_of.places)
    (ap pieces_left c.in-Some.is ∙ c.split_piece.ensures) (sym c.places_of.ensures ∙ c.in-Some-places_of.is)
