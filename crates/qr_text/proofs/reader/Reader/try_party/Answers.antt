use Rattle.std.proofs.Common.{Some, None, refl, sym, ◌∙◌, ap}
use Rattle.qr_text.proofs.VoteLaws.{first_end, first_field}
use Rattle.qr_text.proofs.reader.Reader.try_party.Goals as goal
use Rattle.qr_text.specs.Sections.{FieldsLeft}
use Rattle.urna_base.specs.Words.{pieces_left}
use Rattle.qr_text.specs.Votes.{party_after, party_first}

pub returns-in_default-clause-exact : goal.returns-in_default-clause-exact
unfolding party_first
returns-in_default-clause-exact c =
    let s : FieldsLeft = record { left = pieces_left c.self.inside.rest; next = c.self.inside.next } in
    (ap (λ (x : FieldsLeft). party_first c.args.last x) (sym c.self.view_is) ∙ first_end (party_after c.args.last) s.next s.left (ap pieces_left c.in_default.is), refl)

pub returns-in-None-clause-exact : goal.returns-in-None-clause-exact
unfolding party_first
returns-in-None-clause-exact c =
    let s : FieldsLeft = record { left = pieces_left c.self.inside.rest; next = c.self.inside.next } in (
      ap (λ (x : FieldsLeft). party_first c.args.last x) (sym c.self.view_is)
          ∙ first_field (party_after c.args.last) s.next s.left c.split_piece.result.0.now (pieces_left c.split_piece.result.1) None
          (ap pieces_left c.in-Some.is ∙ c.split_piece.ensures) (sym c.party_after.ensures ∙ c.in-None.is),
      refl,
    )

pub returns-in-Some-party_after-clause-exact : goal.returns-in-Some-party_after-clause-exact
unfolding party_first
returns-in-Some-party_after-clause-exact c =
    let s : FieldsLeft = record { left = pieces_left c.self.inside.rest; next = c.self.inside.next } in
    ap (λ (x : FieldsLeft). party_first c.args.last x) (sym c.self.view_is)
    ∙ first_field (party_after c.args.last) s.next s.left c.split_piece.result.0.now (pieces_left c.split_piece.result.1) (Some c.in-Some-party_after.number)
    (ap pieces_left c.in-Some.is ∙ c.split_piece.ensures) (sym c.party_after.ensures ∙ c.in-Some-party_after.is)
